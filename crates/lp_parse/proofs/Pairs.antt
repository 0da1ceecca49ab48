-- What holds of each item and each later one holds of the first item and the others, and among the others.
use Rattle.std.proofs.Common.{arith, suc, List, ◌∷◌, All, AllPairs}

module _ {X : Type 0} (R : X → X → Type 0) (x : X) (xs : List X) (pairs : AllPairs R (x ∷ xs)) where
  pub AllPairs-head : All (R x) xs
  AllPairs-head k d within = pairs 0 (suc k) d (omega arith) (omega arith)

  pub AllPairs-tail : AllPairs R xs
  AllPairs-tail i j d before within = pairs (suc i) (suc j) d (omega arith) (omega arith)
