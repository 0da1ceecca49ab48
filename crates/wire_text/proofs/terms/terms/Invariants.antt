use Rattle.std.proofs.Common.{◌≡◌, length}
use Rattle.wire_text.specs.Line.{words_of}
use Rattle.wire_text.specs.Reading.{given, read_pairs, with_pairs}
use Rattle.wire_text.proofs.terms.terms.Given as goal

abbrev pub invariant-loop-coef : goal.invariant-loop-coef
invariant-loop-coef l = with_pairs (given (λ terms. terms.items) l.terms) (words_of l.rest) ≡ read_pairs (words_of l.fn.rest)

abbrev pub decreases-loop-coef : goal.decreases-loop-coef
decreases-loop-coef l = length l.rest
