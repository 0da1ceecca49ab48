-- Numbers in lowest terms.
use Rattle.std.proofs.Common.{◌≡◌, sym, ◌∙◌, ap, ap₂, subst, ℕ, true, arith, ◌==◌, Some, None, ℤ, pos, unsigned_abs}
use Rattle.std.specs.Int.{◌∣◌}
use Rattle.std.specs.Ordering.{int_eq}
use Rattle.std.specs.Prelude.{if◌then◌else◌}
use Rattle.std.proofs.lemmas.Bool.{eqb-true}
use Rattle.std.proofs.lemmas.Bool.Decides.{Decides-int_eq}
use Rattle.std.proofs.lemmas.Nat.Gcd.{dvd-zero, dvd_refl}
use Rattle.std.proofs.Math.Nat.{eq-one_of_dvd-one}
use Rattle.frac128.specs.Fraction.{Fraction, den, exact_sum, zero_value}
use Rattle.frac128.specs.Lowest.{IsKept}
use Rattle.frac128.proofs.Field.{exact_sum-zero_left}
use Rattle.frac128.proofs.Kept.{FitsSum-zero_left}
use Rattle.lp_defs.specs.Canonical.{is_same, is_zero}
use Rattle.lp_defs.specs.Quantity.{added}
use Rattle.lp_defs.proofs.Names.{both_of}

pub added_zero : (x : Fraction) → IsKept x → added zero_value x ≡ Some x
added_zero x kept =
    ap (λ b. if b then Some (exact_sum zero_value x) else None) (FitsSum-zero_left x kept)
    ∙ ap Some (exact_sum-zero_left x kept.nothing_in_common)

pub same_is : (x y : Fraction) → is_same x y ≡ true → x ≡ y
same_is x y h =
    let p = both_of (int_eq x.num y.num) (x.below == y.below) h in
    ap₂ (λ (num : ℤ) (below : ℕ). record { num = num; below = below }) ((Decides-int_eq x.num y.num).0 p.0) (eqb-true x.below y.below p.1)

-- a number that is 0 is the one 0 in lowest terms
pub zero_is : (x : Fraction) → IsKept x → is_zero x ≡ true → x ≡ zero_value
zero_is x kept h =
    let n = (Decides-int_eq x.num (pos 0)).0 h in
    let divides : den x ∣ unsigned_abs x.num = subst (λ (k : ℤ). den x ∣ unsigned_abs k) (sym n) (dvd-zero (den x)) in
    let one = eq-one_of_dvd-one (kept.nothing_in_common.2 (den x) divides (dvd_refl (den x))) in
    ap₂ (λ (num : ℤ) (below : ℕ). record { num = num; below = below }) n (omega (arith, one))
