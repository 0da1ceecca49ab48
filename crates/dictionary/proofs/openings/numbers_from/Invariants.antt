use Rattle.std.proofs.Common.{◌≡◌, ◌-◌}
use Rattle.dictionary.specs.Dictionary.{numbers_from}
use Rattle.dictionary.proofs.openings.numbers_from.Given as goal

abbrev pub invariant-loop-number : goal.invariant-loop-number
invariant-loop-number l = l.numbers.items ≡ numbers_from l.first (l.number - l.first)
