use Rattle.std.proofs.Common.{length, ◌≡◌, ◌≤◌, take}
use Rattle.frac_text.specs.Digits.{without_last_zeros}
use Rattle.frac_text.proofs.digits.without_last_zeros.Given as goal

abbrev pub invariant-loop-len : goal.invariant-loop-len
invariant-loop-len l = record { in_range : l.len ≤ length l.digits; same : without_last_zeros (take l.len l.digits) ≡ without_last_zeros l.digits }

abbrev pub decreases-loop-len : goal.decreases-loop-len
decreases-loop-len l = l.len
