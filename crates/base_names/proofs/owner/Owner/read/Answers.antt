use Rattle.std.proofs.Common.{ap, sym, ◌∙◌, List, ℕ, ◌++◌, drop, length, replicate}
use Rattle.base_names.specs.OwnerName.{IsOwnerName}
use Rattle.base_names.proofs.OwnerNames.{kept}
use Rattle.base_names.proofs.owner.Owner.read.Goals as goal

pub invariant_of-result : goal.invariant_of-result
invariant_of-result c =
    let name : IsOwnerName c.args.text.now = sym c.is_owner_name.ensures ∙ c.if-not-is_owner_name.false in
    let zeros : List ℕ = drop (length c.args.text.now) (replicate 32 0) in
    kept _ _ name (ap (λ (front : List ℕ). front ++ zeros) c.copy_from_slice.ensures.after)
