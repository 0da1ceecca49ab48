use Rattle.std.proofs.Common.{◌≡◌, take, drop}
use Rattle.frac128.specs.Checked.{checked_quotient}
use Rattle.dictionary.specs.Dictionary.{each}
use Rattle.dictionary.proofs.InOrder.{each_onto}
use Rattle.dictionary.proofs.elimination.divide_all.Given as goal

abbrev pub invariant-loop-entry : goal.invariant-loop-entry
invariant-loop-entry l =
    each_onto (take l.entry-index l.entries) (λ x. checked_quotient x l.divisor) (drop l.entry-index l.entries) ≡ each (λ x. checked_quotient x l.divisor) l.initial.entries
