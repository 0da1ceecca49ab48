-- A split loses no point, and leaves its fractional value in neither part.
use Rattle.std.proofs.Common.{◌≡◌, refl, sym, ◌∙◌, ap, subst, ℕ, suc, ◌+◌, ◌*◌, ◌/◌, ◌%◌, ◌<◌, ◌≤◌, ℤ, pos, negsuc, neg_ℤ, ◌+ℤ◌, ◌*ℤ◌, true≢false, not, IsTrue, ◌⊎◌, List, [], ◌∷◌, ◌++◌, Ok, arith}
use Rattle.std.specs.Prelude.{◌≤ℤ◌, ◌<ℤ◌, unsigned_abs}
use Rattle.std.specs.Int.{◌∣◌}
use Rattle.std.proofs.Math.Nat.{dvd-mul_left, eq-one_of_dvd-one}
use Rattle.std.proofs.lemmas.Bool.{eq-eqb}
use Rattle.std.proofs.lemmas.Int.{by_lt_z, ints}
use Rattle.std.proofs.lemmas.Nat.Gcd.{dvd_refl}
use Rattle.frac128.specs.Checked.{checked_sum}
use Rattle.frac128.specs.Fraction.{Fraction, den, one_value}
use Rattle.frac128.specs.Lowest.{IsInLowestTerms}
use Rattle.frac128.specs.Order.{IsFloor}
use Rattle.frac128.proofs.Integers.{neg-mul, size-mul_pos}
use Rattle.model_data.specs.declared.model.Model.{Model}
use Rattle.solve_defs.specs.Cases.{IsCasePoint}
use Rattle.solve_defs.specs.Certificates.{is_integer_number}
use Rattle.solve_defs.specs.Points.{Below, ratio}
use Rattle.solve_defs.specs.Values.{floor_of, floor_over, is_whole, whole}
use Rattle.solve_defs.specs.declared.cut.Cut.{Cut}
use Rattle.solve_defs.specs.Bounds.{at_least_cut, at_most_cut}
use Rattle.solve_defs.proofs.CaseTrees.{split_sides as both_sides, times_one}
use Rattle.search_laws.proofs.Splits.{next_is}

-- ---- no point is lost

-- A point of the node is in one of the two parts.
pub split_sides : (m : Model) (cuts : List Cut) (place : ℕ) (k : ℤ) (next : Fraction) (X : List ℤ) (d : ℕ) → IsTrue (is_integer_number m.vars (suc place)) → checked_sum (whole k) one_value ≡ Ok next
    → IsCasePoint m cuts X d → IsCasePoint m (cuts ++ at_most_cut place k ∷ []) X d ⊎ IsCasePoint m (cuts ++ at_least_cut place next.num ∷ []) X d
split_sides m cuts place k next X d integer sum point =
    subst (λ n. IsCasePoint m (cuts ++ at_most_cut place k ∷ []) X d ⊎ IsCasePoint m (cuts ++ at_least_cut place n ∷ []) X d) (sym (next_is k next sum)) (both_sides m cuts (suc place) k X d integer point)

-- ---- the fractional value

quotient_parts : (n d : ℕ) → 0 < d → (n / d * d ≤ n) × (n < suc (n / d) * d)
quotient_parts n d some =
    let r : n % d < d = omega arith in
    let e : d * (n / d) + n % d ≡ n = omega arith in
    (joined (n / d) d (n % d) n e, above (n / d) d (n % d) n e r)
  where
    joined : (q d r n : ℕ) → d * q + r ≡ n → q * d ≤ n
    joined q d r n e = omega (arith, e)

    above : (q d r n : ℕ) → d * q + r ≡ n → r < d → n < suc q * d
    above q d r n e less = omega (arith, e, less)

floor_parts : (n : ℤ) (d : ℕ) → 0 < d → ((floor_over n d *ℤ pos d) ≤ℤ n) × (n <ℤ ((floor_over n d +ℤ pos 1) *ℤ pos d))
floor_parts (pos n) d some = let parts = quotient_parts n d some in (up n (n / d * d) parts.0, less n ((n / d + 1) * d) (next (n / d) d n parts.1))
  where
    up : (a b : ℕ) → b ≤ a → pos b ≤ℤ pos a
    up a b h = omega (arith, ints, h)

    less : (a b : ℕ) → a < b → pos a <ℤ pos b
    less a b h = omega (arith, ints, h)

    next : (q d n : ℕ) → n < suc q * d → n < (q + 1) * d
    next q d n h = omega (arith, h)
floor_parts (negsuc n) d some = let parts = quotient_parts n d some in (down n (suc (n / d) * d) parts.1, under n (n / d) d parts.0)
  where
    down : (a b : ℕ) → a < b → neg_ℤ (pos b) ≤ℤ negsuc a
    down a b h = omega (arith, ints, h)

    one_less : (q : ℕ) → negsuc q +ℤ pos 1 ≡ neg_ℤ (pos q)
    one_less q = omega (arith, ints)

    plain : (a b : ℕ) → b ≤ a → negsuc a <ℤ neg_ℤ (pos b)
    plain a b h = omega (arith, ints, h)

    under : (a q d : ℕ) → q * d ≤ a → negsuc a <ℤ ((negsuc q +ℤ pos 1) *ℤ pos d)
    under a q d h = subst (λ z. negsuc a <ℤ z) (sym (ap (λ z. z *ℤ pos d) (one_less q) ∙ neg-mul (pos q) (pos d))) (plain a (q * d) h)

pub floor_is : (x : Fraction) → IsFloor x (floor_of x)
floor_is x = let parts = floor_parts x.num (den x) (omega arith) in record { at_most = parts.0; next_above = parts.1 }

-- A value in lowest terms that isn't whole is above its floor.
pub above_floor : (x : Fraction) → IsInLowestTerms x → (x.below ≡ 0 → ⊥) → (floor_of x *ℤ pos (den x)) <ℤ x.num
above_floor x apart fraction =
    by_lt_z (floor_of x *ℤ pos (den x)) x.num (λ less. less)
    (λ most. absurd (fraction (one_below (den x) x.below refl (eq-one_of_dvd-one (apart.2 (den x) (divides (between most)) (dvd_refl (den x)))))))
  where
    between : x.num ≤ℤ (floor_of x *ℤ pos (den x)) → x.num ≡ floor_of x *ℤ pos (den x)
    between most = let least = (floor_is x).at_most in omega (arith, ints, most, least)

    divides : x.num ≡ floor_of x *ℤ pos (den x) → den x ∣ unsigned_abs x.num
    divides e = subst (λ n. den x ∣ n) (sym (ap unsigned_abs e ∙ size-mul_pos (floor_of x) (den x))) (dvd-mul_left (den x) (unsigned_abs (floor_of x)))

    one_below : (n b : ℕ) → n ≡ suc b → n ≡ 1 → b ≡ 0
    one_below n b e h = omega (arith, e, h)

-- It is in neither part of its split.
pub left_out : (x : Fraction) (next : Fraction) → IsInLowestTerms x → IsTrue (not (is_whole x)) → checked_sum (whole (floor_of x)) one_value ≡ Ok next
    → Below (ratio (whole (floor_of x))) (ratio x) × Below (ratio x) (ratio (whole next.num))
left_out x next apart fraction sum = (
  subst (λ z. (floor_of x *ℤ pos (den x)) <ℤ z) (sym (times_one x.num)) (above_floor x apart (λ e. true≢false (sym fraction ∙ ap not (eq-eqb x.below 0 e)))),
  subst (λ n. Below (ratio x) (ratio (whole n))) (sym (next_is (floor_of x) next sum))
      (subst (λ z. z <ℤ ((floor_of x +ℤ pos 1) *ℤ pos (den x))) (sym (times_one x.num)) (floor_is x).next_above),
)
