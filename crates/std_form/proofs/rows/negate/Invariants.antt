use Rattle.std.proofs.Common.{◌≡◌, ◌++◌, drop, map, take}
use Rattle.frac128.specs.Fraction.{negation}
use Rattle.std_form.proofs.rows.negate.Given as goal

abbrev pub invariant-loop-value : goal.invariant-loop-value
invariant-loop-value l = take l.value-index l.values ++ map negation (drop l.value-index l.values) ≡ map negation l.initial.values
