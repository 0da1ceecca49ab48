-- A number that is told where it is within a limit.
use Rattle.std.proofs.Common.{◌≡◌, refl, sym, ℕ, ◌<◌, ◌≤◌, Bool, true, false, Option, Some, None, cond}
use Rattle.std.specs.Prelude.{nat_le}
use Rattle.std.proofs.lemmas.Bool.{cond-false, cond-true, le-leb, leb-false, lt-leb}
use Rattle.std.proofs.lemmas.Option.{none-some}
use Rattle.enough_limits.specs.Bounds.{limited}

pub limited_some : (most n : ℕ) → n ≤ most → limited most n ≡ Some n
limited_some most n within = cond-true {A = Option ℕ} (nat_le n most) (Some n) None (le-leb n most within)

pub limited_none : (most n : ℕ) → most < n → limited most n ≡ None
limited_none most n above = cond-false {A = Option ℕ} (nat_le n most) (Some n) None (lt-leb n most above)

pub limited_above : (most n : ℕ) → limited most n ≡ None → most < n
limited_above most n = by_test (nat_le n most) refl
  where
    by_test : (b : Bool) → nat_le n most ≡ b → cond {A = Option ℕ} b (Some n) None ≡ None → most < n
    by_test true within h = absurd (none-some n (sym h))
    by_test false above h = leb-false n most above
