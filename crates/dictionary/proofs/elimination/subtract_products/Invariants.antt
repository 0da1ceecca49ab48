use Rattle.std.proofs.Common.{◌≡◌, take, drop}
use Rattle.dictionary.specs.Dictionary.{each_pair}
use Rattle.frac128.specs.Checked.{less_product}
use Rattle.dictionary.proofs.InOrder.{each_pair_onto}
use Rattle.dictionary.proofs.elimination.subtract_products.Given as goal

abbrev pub invariant-loop-place : goal.invariant-loop-place
invariant-loop-place l =
    each_pair_onto (take l.place l.entries) (less_product l.factor) (drop l.place l.entries) (drop l.place l.solved) ≡ each_pair (less_product l.factor) l.initial.entries l.solved
