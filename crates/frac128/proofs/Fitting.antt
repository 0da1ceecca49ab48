-- The tests of what fits, as facts on the parts that code forms.
use Rattle.std.proofs.Common.{◌↔◌, ℕ, ◌*◌, ◌/◌, ◌<◌, ◌&&◌, pos, ◌+ℤ◌, ◌*ℤ◌}
use Rattle.std.specs.Prelude.{unsigned_abs}
use Rattle.std.specs.Bool.{Decides}
use Rattle.std.proofs.lemmas.Bool.Decides.{Decides-and, Decides-ltb}
use Rattle.frac128.specs.Fits.{reduced_fits, sum_fits, product_fits, FitsReduced, FitsSum, FitsProduct}
use Rattle.frac128.specs.Fraction.{Fraction, den}
use Rattle.frac128.specs.Numbers.{gcd, limit, is_below_limit}
use Rattle.frac128.specs.Parts.{FitsScaledSum}
use Rattle.frac128.proofs.Results.{product_size, product_den, sum_den}

both : (m n : ℕ) → Decides (is_below_limit m && is_below_limit n) ((m < limit) × (n < limit))
both m n = Decides-and (is_below_limit m) (is_below_limit n) (Decides-ltb m limit) (Decides-ltb n limit)

pub FitsReduced-is : (n d : ℕ) → FitsReduced n d ↔ ((n / gcd n d < limit) × (d / gcd n d < limit))
unfolding reduced_fits
FitsReduced-is n d = both (n / gcd n d) (d / gcd n d)

pub FitsProduct-is : (x y : Fraction) → FitsProduct x y ↔ ((product_size x y < limit) × (product_den x y < limit))
unfolding product_fits
FitsProduct-is x y = both (product_size x y) (product_den x y)

pub FitsSum-is : (x y : Fraction) → FitsSum x y
    ↔ (FitsScaledSum x.num (den y / gcd (den x) (den y)) y.num (den x / gcd (den x) (den y)) × (sum_den x y < limit))
unfolding sum_fits
FitsSum-is x y =
    let g = gcd (den x) (den y) in
    let m = den y / g in
    let n = den x / g in
    let left = unsigned_abs x.num * m in
    let right = unsigned_abs y.num * n in
    let total = unsigned_abs (x.num *ℤ pos m +ℤ y.num *ℤ pos n) in
    let three = Decides-and (is_below_limit left && is_below_limit right) (is_below_limit total) (both left right) (Decides-ltb total limit) in
    let all = Decides-and (is_below_limit left && is_below_limit right && is_below_limit total) (is_below_limit (n * den y)) three (Decides-ltb (n * den y) limit) in
    (λ fits. let h = all.0 fits in ((h.0.0.0, h.0.0.1, h.0.1), h.1), λ h. all.1 (((h.0.0, h.0.1), h.0.2), h.1))
