use Rattle.std.proofs.Common.{length, ◌-◌}
use Rattle.lp_lex.proofs.Gaps.{IsScanned}
use Rattle.lp_lex.proofs.runs.gap_end.Given as goal

abbrev pub invariant-loop-place : goal.invariant-loop-place
invariant-loop-place l = IsScanned l.text l.fn.place l.place l.in_comment

abbrev pub decreases-loop-place : goal.decreases-loop-place
decreases-loop-place l = length l.text - l.place.offset
