use Rattle.std.proofs.Common.{length, ◌-◌, ◌≡◌, ◌≤◌, drop}
use Rattle.frac_text.specs.Digits.{without_first_zeros}
use Rattle.frac_text.proofs.digits.without_first_zeros.Given as goal

abbrev pub invariant-loop-zeros : goal.invariant-loop-zeros
invariant-loop-zeros l = record { in_range : l.zeros ≤ length l.digits; same : without_first_zeros (drop l.zeros l.digits) ≡ without_first_zeros l.digits }

abbrev pub decreases-loop-zeros : goal.decreases-loop-zeros
decreases-loop-zeros l = length l.digits - l.zeros
