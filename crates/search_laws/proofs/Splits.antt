-- What a split's number and place are.
use Rattle.std.proofs.Common.{◌≡◌, refl, sym, ◌∙◌, ap, subst, ℕ, suc, ◌+◌, ◌*◌, ◌/◌, ◌<◌, ℤ, pos, ◌+ℤ◌, ◌*ℤ◌, Bool, true, false, IsTrue, ◌&&◌, not, List, [], ◌∷◌, Option, Some, None, Ok, arith}
use Rattle.std.specs.Prelude.{nat_lt, unsigned_abs}
use Rattle.std.proofs.Math.Nat.{mul-one, one-dvd}
use Rattle.std.proofs.lemmas.Bool.{and_parts, and_from, cond_both, lt-ltb}
use Rattle.std.proofs.lemmas.Int.{ints}
use Rattle.frac128.specs.Checked.{checked_sum, value_or_wide}
use Rattle.frac128.specs.Fits.{sum_fits}
use Rattle.frac128.specs.Fraction.{Fraction, exact_sum, lowest, one_value}
use Rattle.frac128.specs.Numbers.{gcd, gcd_within, limit}
use Rattle.frac128.specs.declared.operations.Op.{Op}
use Rattle.frac128.specs.declared.operations.Op.TheVariants.{Add}
use Rattle.frac128.proofs.Field.{lowest-self}
use Rattle.frac128.proofs.Fitting.{FitsSum-is}
use Rattle.model_data.specs.Size.{is_integer}
use Rattle.model_data.specs.declared.model.Model.{Model}
use Rattle.model_data.specs.declared.model.Var.{Var}
use Rattle.model_data.specs.declared.solution.CertNode.TheVariants.{Split}
use Rattle.solve_defs.specs.Certificates.{is_integer_number, is_node_for}
use Rattle.solve_defs.specs.Plain.{Placed, first_fractional}
use Rattle.solve_defs.specs.Values.{is_whole, whole}
use Rattle.frac128.proofs.Chains.{sum_is}

-- ---- the number

sum_one : (k : ℤ) → exact_sum (whole k) one_value ≡ whole (k +ℤ pos 1)
unfolding exact_sum
sum_one k = ap (λ n. lowest n 1) (ends k) ∙ lowest-self (whole (k +ℤ pos 1)) (one-dvd _, one-dvd 1, λ j p q. q)
  where
    ends : (a : ℤ) → a *ℤ pos 1 +ℤ pos 1 *ℤ pos 1 ≡ a +ℤ pos 1
    ends a = omega (arith, ints)

-- what a number and 1 have given
pub next_is : (k : ℤ) (next : Fraction) → checked_sum (whole k) one_value ≡ Ok next → next.num ≡ k +ℤ pos 1
next_is k next h = ap (λ x. x.num) (sum_is (whole k) one_value next h ∙ sum_one k)

pub fitted : (fits : Bool) (value : Fraction) (op : Op) (x y z : Fraction) → value_or_wide fits value op x y ≡ Ok z → fits ≡ true
fitted true value op x y z h = refl
fitted false value op x y z h = absurd cc

pub one_divisor : 1 / gcd 1 1 ≡ 1
unfolding gcd gcd_within
one_divisor = refl

-- so the number itself is below the limit
pub number_fits : (k : ℤ) (next : Fraction) → checked_sum (whole k) one_value ≡ Ok next → IsTrue (nat_lt (unsigned_abs k) limit)
number_fits k next h =
    let parts = (FitsSum-is (whole k) one_value).0 (fitted (sum_fits (whole k) one_value) (exact_sum (whole k) one_value) Add (whole k) one_value next h) in
    lt-ltb (unsigned_abs k) limit (subst (λ n. n < limit) (ap (λ j. unsigned_abs k * j) one_divisor ∙ mul-one (unsigned_abs k)) parts.0.0)

-- ---- the place

pub record IsInteger (vars : List Var) (first place : ℕ) : Type 0 where
  pub behind : ℕ
  pub is_place : place ≡ first + behind
  pub integer : IsTrue (is_integer_number vars (suc behind))

none_some : (v : Placed) → ◌≡◌ {A = Option Placed} None (Some v) → ⊥
none_some v h = absurd (cc)

some_same : (v w : Placed) → ◌≡◌ {A = Option Placed} (Some v) (Some w) → v ≡ w
some_same v w h = cc

integer_at : (first : ℕ) (vars : List Var) (xs : List Fraction) (at : Placed) → first_fractional first vars xs ≡ Some at → IsInteger vars first at.place
integer_at first [] xs at h = absurd (none_some at h)
integer_at first (v ∷ vars) [] at h = absurd (none_some at h)
integer_at first (v ∷ vars) (x ∷ xs) at h =
    cond_both {A = Option Placed} (is_integer v.kind && not (is_whole x)) (Some record { place = first; value = x }) (first_fractional (suc first) vars xs)
    (λ o. o ≡ Some at → IsInteger (v ∷ vars) first at.place)
    (λ here h. record { behind = 0; is_place = sym (ap (λ p. p.place) (some_same record { place = first; value = x } at h)) ∙ omega arith; integer = (and_parts (is_integer v.kind) (not (is_whole x)) here).0 })
    (λ _ h. let r = integer_at (suc first) vars xs at h in record { behind = suc r.behind; is_place = r.is_place ∙ omega arith; integer = r.integer })
    h

pub fractional_is_integer : (m : Model) (xs : List Fraction) (at : Placed) → first_fractional 0 m.vars xs ≡ Some at → IsTrue (is_integer_number m.vars (suc at.place))
fractional_is_integer m xs at h =
    let r = integer_at 0 m.vars xs at h in
    subst (λ i. IsTrue (is_integer_number m.vars (suc i))) (sym (r.is_place ∙ omega arith)) r.integer

pub split_fits : (m : Model) (xs : List Fraction) (at : Placed) (k : ℤ) (next : Fraction) → first_fractional 0 m.vars xs ≡ Some at → checked_sum (whole k) one_value ≡ Ok next
    → IsTrue (is_node_for m (Split (suc at.place) k))
split_fits m xs at k next is_first sum =
    and_from (is_integer_number m.vars (suc at.place)) (nat_lt (unsigned_abs k) limit) (fractional_is_integer m xs at is_first) (number_fits k next sum)
