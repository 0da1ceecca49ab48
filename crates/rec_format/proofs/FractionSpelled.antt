-- A fraction has one spelling, in lowest terms.
use Rattle.std.proofs.Common.{◌≡◌, ℕ, zero, suc, ◌^◌, ◌<◌, ◌/◌, ◌==◌, Bool, true, false, ◌&&◌, Option, Some, None, refl, sym, ap, ap₂, ◌∙◌, subst, arith}
use Rattle.std.proofs.Math.Nat.{div-one}
use Rattle.std.proofs.lemmas.Bool.Decides.{Decides-eqb, nat_tests}
use Rattle.std.proofs.lemmas.Int.{of_z-to_z, to_z-of_z, fits_signed_from_abs}
use Rattle.std.specs.Int.{IsGcd, w128, cast_signed, cast_unsigned}
use Rattle.std.specs.Prelude.{◌≢◌, ℤ, pos, negsuc, unsigned_abs, FitsSigned, IsTrue}
use Rattle.frac128.proofs.Divisors.{gcd-divides, gcd_is}
use Rattle.frac128.proofs.Field.{lowest-self}
use Rattle.frac128.specs.Fits.{FitsReduced, reduced_fits}
use Rattle.frac128.specs.Fraction.{Fraction, den, quotient}
use Rattle.frac128.specs.Lowest.{IsInLowestTerms}
use Rattle.frac128.specs.Numbers.{gcd, is_below_limit, limit}
use Rattle.rec_format.specs.Format.{both, number, only, OneSpelling}
use Rattle.rec_format.specs.Models.{fraction, fraction_of, is_lowest, is_part, part, parts_of}
use Rattle.rec_format.proofs.Composing.{both_spelling, cases, number_small, number_spelling, only_is, picked_spelling}

-- ---- a part

part_there : (z : ℤ) → unsigned_abs z < limit → only is_part (cast_signed w128 (cast_unsigned w128 z)) ≡ Some z
part_there z small =
    let same : cast_signed w128 (cast_unsigned w128 z) ≡ z = to_z-of_z w128 z (fits_signed_from_abs w128 z small) in
    let test : is_part z ≡ true = grind (arith, nat_tests) in
    rw (same, test) refl

part_again : (n : ℕ) (z : ℤ) → (number 16).Fits n → only is_part (cast_signed w128 n) ≡ Some z → (cast_unsigned w128 z ≡ n) × (unsigned_abs z < limit)
part_again n z fit h =
    let t = only_is is_part (cast_signed w128 n) z h in
    let test : is_part z ≡ true = t.1 in
    let small : n < 2 ^ 128 = omega (arith, number_small 16 n fit) in
    (ap (cast_unsigned w128) (sym t.0) ∙ of_z-to_z w128 n small, grind (arith, nat_tests))

pub part_spelling : OneSpelling part
part_spelling = picked_spelling (number 16) (λ z. unsigned_abs z < limit) (λ n. only is_part (cast_signed w128 n)) (cast_unsigned w128) (number_spelling 16) part_there part_again

-- ---- lowest terms

pub lowest_to : (x : Fraction) → IsInLowestTerms x → is_lowest x ≡ true
lowest_to x h = ap (λ (g : ℕ). g == 1) (gcd_is (unsigned_abs x.num) (den x) 1 h)

pub lowest_from : (x : Fraction) → is_lowest x ≡ true → IsInLowestTerms x
lowest_from x h = subst (λ (g : ℕ). IsGcd (unsigned_abs x.num) (den x) g) ((Decides-eqb (gcd (unsigned_abs x.num) (den x)) 1).0 h) (gcd-divides (unsigned_abs x.num) (den x))

fraction_there : (x : Fraction) → IsInLowestTerms x → fraction_of (parts_of x) ≡ Some x
fraction_there x h = let test : is_lowest x ≡ true = lowest_to x h in rw test refl

fraction_again : (p : ℤ × ℤ) (x : Fraction) → fraction_of p ≡ Some x → (parts_of x ≡ p) × IsInLowestTerms x
fraction_again (n, pos zero) x h = absurd (cc)
fraction_again (n, negsuc d) x h = absurd (cc)
fraction_again (n, pos (suc b)) x h = let t = only_is is_lowest (record { num = n; below = b }) x h in (ap parts_of (sym t.0), lowest_from x t.1)

pub fraction_spelling : OneSpelling fraction
fraction_spelling = picked_spelling (both part part) IsInLowestTerms fraction_of parts_of (both_spelling part part part_spelling part_spelling)
    fraction_there (λ p x fit h. fraction_again p x h)

-- ---- the fraction that was made of the parts

fits_lowest : (a b : ℕ) → a < limit → b < limit → gcd a b ≡ 1 → FitsReduced a b
unfolding reduced_fits
fits_lowest a b small small' one =
    let left : is_below_limit (a / gcd a b) ≡ true = rw one (rw (div-one a) (grind (arith, nat_tests))) in
    let right : is_below_limit (b / gcd a b) ≡ true = rw one (rw (div-one b) (grind (arith, nat_tests))) in
    rw (left, right) refl

pub of_none : (n d : ℤ) → unsigned_abs n < limit → unsigned_abs d < limit → ((d ≢ pos 0) × FitsReduced (unsigned_abs n) (unsigned_abs d) → ⊥) → None ≡ fraction_of (n, d)
of_none n (pos zero) small small' unfit = refl
of_none n (negsuc d) small small' unfit = refl
of_none n (pos (suc b)) small small' unfit = cases (is_lowest (record { num = n; below = b }))
    (λ e. absurd (unfit (λ zero_is. absurd (cc), fits_lowest (unsigned_abs n) (suc b) small small' ((Decides-eqb (gcd (unsigned_abs n) (suc b)) 1).0 e))))
    (λ e. rw e refl)

pub of_same : (n d : ℤ) (x : Fraction) → IsInLowestTerms x → x.num ≡ n → pos (den x) ≡ d → Some x ≡ fraction_of (n, d)
of_same n d x lowest num_is den_is = sym (subst (λ (m : ℤ). fraction_of (m, d) ≡ Some x) num_is (subst (λ (e : ℤ). fraction_of (x.num, e) ≡ Some x) den_is (fraction_there x lowest)))

pub of_other : (n d : ℤ) (x : Fraction) → x ≡ quotient n d → ((x.num ≡ n) × (pos (den x) ≡ d) → ⊥) → None ≡ fraction_of (n, d)
of_other n (pos zero) x is differ = refl
of_other n (negsuc d) x is differ = refl
of_other n (pos (suc b)) x is differ = cases (is_lowest (record { num = n; below = b }))
    (λ e.
    let own : Fraction = record { num = n; below = b } in
    let same : x ≡ own = is ∙ lowest-self own (lowest_from own e) in
    absurd (differ (ap (λ (y : Fraction). y.num) same, ap (λ (y : Fraction). pos (den y)) same)))
    (λ e. rw e refl)
