use Rattle.std.proofs.Common.{◌-◌, ◌≤◌}
use Rattle.lp_lex.specs.Runs.{IsPassed}
use Rattle.lp_lex.proofs.runs.simple_before.Given as goal

abbrev pub invariant-loop-len : goal.invariant-loop-len
invariant-loop-len l = record { passed : IsPassed l.bytes l.len; below : l.len ≤ l.limit }

abbrev pub decreases-loop-len : goal.decreases-loop-len
decreases-loop-len l = l.limit - l.len
