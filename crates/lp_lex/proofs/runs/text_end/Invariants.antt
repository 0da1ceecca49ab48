use Rattle.std.proofs.Common.{◌≡◌, length, ◌-◌}
use Rattle.lp_lex.specs.Ahead.{IsWithin, end_ahead}
use Rattle.lp_lex.proofs.runs.text_end.Given as goal

abbrev pub invariant-loop-place : goal.invariant-loop-place
invariant-loop-place l = record { within : IsWithin l.text l.place; same_end : end_ahead l.text l.place ≡ end_ahead l.text l.fn.place }

abbrev pub decreases-loop-place : goal.decreases-loop-place
decreases-loop-place l = length l.text - l.place.offset
