use Rattle.std.proofs.Common.{length, ◌-◌}
use Rattle.lp_lex.specs.Runs.{IsPassed}
use Rattle.lp_lex.proofs.runs.behind_blocks.Given as goal

abbrev pub invariant-loop-len : goal.invariant-loop-len
invariant-loop-len l = IsPassed l.bytes l.len

abbrev pub decreases-loop-len : goal.decreases-loop-len
decreases-loop-len l = length l.bytes - l.len
