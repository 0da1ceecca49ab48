-- A disk over a file tells nothing of what a read gives.
use Rattle.std.specs.Prelude.{ℕ, ◌≡◌, List, Option, Some, None}
use Rattle.std.proofs.lemmas.Option.{none-some}

pub not_told : {P : Type 0} (image : List ℕ) → None ≡ Some image → P
not_told image is = absurd (none-some image is)
