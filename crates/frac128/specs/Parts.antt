-- What the steps of a sum form on the way.
use Rattle.std.specs.Prelude.{ℕ, ◌*◌, ◌<◌, ℤ, pos, ◌+ℤ◌, ◌*ℤ◌, unsigned_abs}
use Rattle.frac128.specs.Numbers.{limit}

-- neither a * m, nor b * n, nor their sum reaches the limit in size
abbrev pub FitsScaledSum : ℤ → ℕ → ℤ → ℕ → Type 0
FitsScaledSum a m b n =
    (unsigned_abs a * m < limit) × (unsigned_abs b * n < limit) × (unsigned_abs (a *ℤ pos m +ℤ b *ℤ pos n) < limit)
