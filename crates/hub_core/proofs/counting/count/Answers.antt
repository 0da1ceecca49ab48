use Rattle.std.proofs.Common.{rules, refl, ◌≡◌, ◌∙◌, ap, not, false}
use Rattle.std.proofs.lemmas.Fn.{filter_same}
use Rattle.cluster_defs.specs.Charges.{counted}
use Rattle.cluster_defs.specs.Cluster.{usage_of}
use Rattle.hub_core.specs.Counting.{usages_in}
use Rattle.hub_core.specs.declared.counting.Usage.{Usage}
use Rattle.hub_core.proofs.Usages.{counted_by}
use Rattle.hub_core.proofs.counting.count.Goals as goal
use Rattle.table_defs.specs.Names.{is_owner}

pub returns : goal.returns
returns c =
    let kept = filter_same _ (λ (u : Usage). not (is_owner c.args.owner.now u.owner)) _ (λ x b f' k. search rules) _ _ c.retain.ensures.filtered in
    let cast : c.from.result ≡ c.args.bytes = search rules in
    ap usages_in c.push_reserved.ensures.items ∙ (counted_by c.args.owner.now c.from.result c.args.usages.now.items c.retain.new.self.items c.usage_of-usage.result _ (c.usage_of-usage.ensures ∙ ap (λ l. usage_of c.args.owner.now (usages_in l)) c.deref.ensures.value) kept refl
    ∙ ap (λ n. counted c.args.owner.now false n (usages_in c.args.usages.now.items)) cast)
