use Rattle.std.proofs.Common.{refl, ◌∙◌, ap, List, ℕ, false, bytes_eq, Option}
use Rattle.std.specs.List.{list_any}
use Rattle.std.specs.Option.{option_map_or}
use Rattle.std.proofs.lemmas.Slice.Eq.{bytes_eq-Decides}
use Rattle.model_core.proofs.Fresh.{new_tag}
use Rattle.model_core.proofs.tables.tags.Goals as goal

pub add-requires : goal.add-requires
add-requires c =
    let tag = c.in-Some.tag in
    ap (λ (t : List ℕ). list_any (bytes_eq t) c.loop-var.tags.texts) c.as_bytes.ensures
    ∙ c.loop-var.invariant tag
    ∙ new_tag c.args.vars.now c.loop-var.var-index c.var-item.result tag c.var-item.is c.requires c.loop-var-test.true
    (ap (λ (o : Option (List ℕ)). option_map_or (bytes_eq tag) o false) c.in-Some.is ∙ (bytes_eq-Decides tag tag).1 refl)
