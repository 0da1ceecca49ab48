use Rattle.std.specs.List.{AllWithin}
use Rattle.frac128.specs.Lowest.{IsKept}
use Rattle.model_core.proofs.kept.kept_terms.Given as goal

abbrev pub invariant-loop-term : goal.invariant-loop-term
invariant-loop-term l = AllWithin (λ t. IsKept t.coef) l.terms 0 l.term-index
