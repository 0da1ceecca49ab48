use Rattle.std.proofs.Common.{ℕ, suc, ◌<◌, get_or}
use Rattle.model_data.specs.declared.model.Term.{Term}
use Rattle.model_core.proofs.ordered.has_double_var.Given as goal

-- each term so far is in front of the next one
abbrev pub invariant-loop-place : goal.invariant-loop-place
invariant-loop-place l = (k : ℕ) (d : Term) → suc k < l.place → (get_or l.terms k d).var < (get_or l.terms (suc k) d).var
