use Rattle.std.proofs.Common.{rules, ◌≡◌, ◌∙◌, ap, sym}
use Rattle.hub_core.specs.Counting.{usage_in}
use Rattle.hub_core.proofs.Usages.{used_at, used_nowhere}
use Rattle.hub_core.proofs.counting.usage_of.Goals as goal

pub returns-in-Some : goal.returns-in-Some
returns-in-Some c = ap usage_in c.index-usages-place.is ∙ used_at c.args.owner.now c.args.usages.now c.in-Some.place c.index-usages-place.result (search rules)

pub returns-in-None : goal.returns-in-None
returns-in-None c = used_nowhere c.args.owner.now c.args.usages.now (search rules)
