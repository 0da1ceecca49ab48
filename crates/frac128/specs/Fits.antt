-- Which results fit: the tests are made on the parts that an operation forms, so that each of these stays below the
-- limit in size.
use Rattle.std.specs.Prelude.{ℕ, ◌*◌, ◌/◌, Bool, ◌&&◌, IsTrue, pos, ◌+ℤ◌, ◌*ℤ◌, unsigned_abs}
use Rattle.frac128.specs.Fraction.{Fraction, den, negation, inverse}
use Rattle.frac128.specs.Numbers.{gcd, is_below_limit}

-- n over d fits in lowest terms
unfoldable pub reduced_fits : ℕ → ℕ → Bool
reduced_fits n d = let g = gcd n d in is_below_limit (n / g) && is_below_limit (d / g)

-- a/b + c/d fits: with g = gcd(b, d), each of a * (d/g), c * (b/g), their sum and (b/g) * d is below the limit
unfoldable pub sum_fits : Fraction → Fraction → Bool
sum_fits x y =
    let g = gcd (den x) (den y) in
    let m = den y / g in
    let n = den x / g in
    is_below_limit (unsigned_abs x.num * m)
    && is_below_limit (unsigned_abs y.num * n)
    && is_below_limit (unsigned_abs (x.num *ℤ pos m +ℤ y.num *ℤ pos n))
    && is_below_limit (n * den y)

abbrev pub difference_fits : Fraction → Fraction → Bool
difference_fits x y = sum_fits x (negation y)

-- a/b * c/d fits: with g = gcd(a, d) and h = gcd(c, b), (a/g) * (c/h) and (b/h) * (d/g) are below the limit
unfoldable pub product_fits : Fraction → Fraction → Bool
product_fits x y =
    let g = gcd (unsigned_abs x.num) (den y) in
    let h = gcd (unsigned_abs y.num) (den x) in
    is_below_limit (unsigned_abs x.num / g * (unsigned_abs y.num / h)) && is_below_limit (den x / h * (den y / g))

-- where y is not 0
abbrev pub quotient_fits : Fraction → Fraction → Bool
quotient_fits x y = product_fits x (inverse y)

abbrev pub FitsReduced : ℕ → ℕ → Type 0
FitsReduced n d = IsTrue (reduced_fits n d)

abbrev pub FitsSum : Fraction → Fraction → Type 0
FitsSum x y = IsTrue (sum_fits x y)

abbrev pub FitsDifference : Fraction → Fraction → Type 0
FitsDifference x y = IsTrue (difference_fits x y)

abbrev pub FitsProduct : Fraction → Fraction → Type 0
FitsProduct x y = IsTrue (product_fits x y)

abbrev pub FitsQuotient : Fraction → Fraction → Type 0
FitsQuotient x y = IsTrue (quotient_fits x y)
