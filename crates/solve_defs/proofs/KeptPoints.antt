-- A point of fractions whose looks hold is a feasible point over one denominator.
use Rattle.std.proofs.Common.{◌≡◌, refl, sym, ◌∙◌, ap, ap₂, subst, subst₂, ℕ, zero, suc, ◌+◌, ◌*◌, ◌<◌, ℤ, pos, ◌*ℤ◌, true≢false, IsTrue, ◌||◌, not, ⊎_elim, List, [], ◌∷◌, ◌++◌, map, zip, length, Option, Some, None, IfSome, All, arith}
use Rattle.std.specs.Prelude.{unsigned_abs}
use Rattle.std.specs.Int.{◌∣◌}
use Rattle.std.specs.List.{AllZip, enumerate_from}
use Rattle.std.proofs.Math.Nat.{dvd-mul_left, mul-pos, mul_comm}
use Rattle.std.proofs.lemmas.Bool.{and_parts, eqb-true, or_cases}
use Rattle.std.proofs.lemmas.Int.{ints}
use Rattle.std.proofs.lemmas.List.Elements.{All-cons, All-head, All-nil, All-tail}
use Rattle.frac128.specs.Fraction.{Fraction, den, exact_product, exact_sum, lowest, zero_value}
use Rattle.frac128.specs.Order.{IsAtMost}
use Rattle.frac128.proofs.Field.{exact_sum-zero_left, exact_sum_comm}
use Rattle.frac128.proofs.Integers.{mul-mul_pos, mul_pos-mul, size-mul_pos}
use Rattle.frac128.proofs.Ordered.{IsAtMost-self, IsAtMost_trans}
use Rattle.frac128.proofs.Seen.{lowest-same}
use Rattle.model_data.specs.Size.{is_integer}
use Rattle.model_data.specs.declared.model.Model.{Model}
use Rattle.model_data.specs.declared.model.Row.{Row}
use Rattle.model_data.specs.declared.model.Sense.{Sense}
use Rattle.model_data.specs.declared.model.Sense.TheVariants.{Less, Greater, Equal}
use Rattle.model_data.specs.declared.model.Var.{Var}
use Rattle.model_data.specs.declared.solution.Point.{Point}
use Rattle.solve_defs.specs.Bounds.{Bounds, effective_bounds}
use Rattle.solve_defs.specs.Certificates.{compares, is_above, is_under, is_within, objective_steps, point_bound, point_integer, point_looks, point_row, point_value, row_steps}
use Rattle.solve_defs.specs.Looks.{Holds, Step, plus_times, total_of}
use Rattle.solve_defs.specs.Points.{AtMost, Compares, HasValues, IsFeasiblePoint, IsWholeIf, IsWithin, KeepsRow, Ratio, SameValue, objective_value, quotient, ratio, row_value}
use Rattle.solve_defs.specs.Values.{is_whole, value_at}
use Rattle.solve_defs.proofs.Domains.{bound_looks, feasible_from, integer_looks, whole_look, within_look}
use Rattle.solve_defs.proofs.LeafBounds.{All-left, All-right, objective_den}
use Rattle.solve_defs.proofs.LeafShares.{row_den}
use Rattle.solve_defs.proofs.LeafSums.{amount, total_of-steps}
use Rattle.solve_defs.proofs.PointValues.{at_most_holds, at_point, below_low, low, low-at_most, low-objective_value, low-ratio, low-row_value, low_below, product_of_lowest, same_holds}
use Rattle.solve_defs.proofs.Relaxed.{length-bounds_from}
use Rattle.frac128.proofs.Sums.{◌⊕◌, ◌⊗◌, total, total-map, total-same, total_low}

-- ---- one denominator

pub record Common (xs : List Fraction) : Type 0 where
  pub X : List ℤ
  pub d : ℕ
  pub above_zero : 0 < d
  pub values : HasValues X d xs

scaled : (X : List ℤ) (d k : ℕ) (xs : List Fraction) → HasValues X d xs → HasValues (map (λ n. n *ℤ pos k) X) (k * d) xs
scaled [] d k [] same = tt
scaled [] d k (x ∷ xs) same = absurd same
scaled (n ∷ X) d k [] same = absurd same
scaled (n ∷ X) d k (x ∷ xs) same = (
  mul_pos-mul n (pos (den x)) k ∙ ap (λ z. z *ℤ pos k) same.0 ∙ mul-mul_pos x.num d k ∙ ap (λ j. x.num *ℤ pos j) (mul_comm d k),
  scaled X d k xs same.1,
)

pub common : (xs : List Fraction) → Common xs
common [] = record { X = []; d = 1; above_zero = omega arith; values = tt }
common (x ∷ xs) =
    let c = common xs in
    record {
      X = (x.num *ℤ pos c.d) ∷ map (λ n. n *ℤ pos (den x)) c.X;
      d = den x * c.d;
      above_zero = mul-pos (omega arith) c.above_zero;
      values = (mul-mul_pos x.num c.d (den x) ∙ ap (λ j. x.num *ℤ pos j) (mul_comm c.d (den x)), scaled c.X c.d (den x) xs c.values);
    }

-- ---- values by places

pub same_low : (n : ℤ) (d : ℕ) (x : Fraction) → 0 < d → SameValue (quotient n d) (ratio x) → low (quotient n d) ≡ low (ratio x)
same_low n d x some same = lowest-same n x.num d (den x) some (omega arith) same

pub value_at_place : (X : List ℤ) (d : ℕ) (xs : List Fraction) (v : ℕ) → 0 < d → HasValues X d xs → at_point X d v ≡ low (ratio (value_at xs v))
value_at_place [] d [] v some same = lowest-same (pos 0) (pos 0) d 1 some (omega arith) (omega (arith, ints))
value_at_place [] d (x ∷ xs) v some same = absurd same
value_at_place (n ∷ X) d [] v some same = absurd same
value_at_place (n ∷ X) d (x ∷ xs) zero some same = same_low n d x some same.0
value_at_place (n ∷ X) d (x ∷ xs) (suc v) some same = value_at_place X d xs v some same.1

pub product_low : (a y : Fraction) → a ⊗ low (ratio y) ≡ a ⊗ y
unfolding exact_product
product_low a y = product_of_lowest a y.num (den y) (omega arith)

-- ---- rows

-- a sum that starts at 0, in lowest terms
pub from_zero : (steps : List Step) → low (ratio (total_of zero_value steps)) ≡ total amount steps
from_zero steps = low-ratio (total_of zero_value steps) ∙ total_of-steps zero_value steps ∙ exact_sum-zero_left (total amount steps) (total_low amount steps)

pub row_sum : (row : Row) (X : List ℤ) (d : ℕ) (xs : List Fraction) → 0 < d → HasValues X d xs → low (row_value row X d) ≡ low (ratio (total_of zero_value (row_steps row.terms xs)))
row_sum row X d xs some same =
    low-row_value row X d some
    ∙ total-same (λ t. t.coef ⊗ at_point X d t.var) (λ t. t.coef ⊗ value_at xs t.var) row.terms
    (λ t. ap (λ y. t.coef ⊗ y) (value_at_place X d xs t.var some same) ∙ product_low t.coef (value_at xs t.var))
    ∙ sym (total-map amount (λ t. plus_times t.coef (value_at xs t.var)) row.terms)
    ∙ sym (from_zero (row_steps row.terms xs))

-- values that are equal in lowest terms
pub at_most_by : (r s : Ratio) (x y : Fraction) → 0 < r.den → 0 < s.den → low r ≡ low (ratio x) → low s ≡ low (ratio y) → IsAtMost x y → AtMost r s
at_most_by r s x y r_some s_some r_is s_is h =
    low-at_most r s r_some s_some
    (subst₂ IsAtMost (sym r_is) (sym s_is) (IsAtMost_trans (low (ratio x)) x (low (ratio y)) (low_below x) (IsAtMost_trans x y (low (ratio y)) h (below_low y))))

pub same_by : (r s : Ratio) → 0 < r.den → 0 < s.den → low r ≡ low s → SameValue r s
same_by r s r_some s_some same =
    let one = low-at_most r s r_some s_some (subst (λ z. IsAtMost (low r) z) same (IsAtMost-self (low r))) in
    let other = low-at_most s r s_some r_some (subst (λ z. IsAtMost z (low r)) same (IsAtMost-self (low r))) in
    omega (arith, ints, one, other)

compared : (sense : Sense) (r : Ratio) (sum rhs : Fraction) → 0 < r.den → low r ≡ low (ratio sum) → IsTrue (compares sense sum rhs) → Compares sense r (ratio rhs)
compared Less r sum rhs some is shown = at_most_by r (ratio rhs) sum rhs some (omega arith) is refl (at_most_holds sum rhs shown)
compared Greater r sum rhs some is shown = at_most_by (ratio rhs) r rhs sum (omega arith) some refl is (at_most_holds rhs sum shown)
compared Equal r sum rhs some is shown = same_by r (ratio rhs) some (omega arith) (is ∙ same_holds sum rhs shown)

rows_hold : (X : List ℤ) (d : ℕ) (xs : List Fraction) (number : ℕ) (rows : List Row) → 0 < d → HasValues X d xs → All Holds (map (point_row xs) (enumerate_from number rows)) → All (KeepsRow X d) rows
rows_hold X d xs number [] some same hold = All-nil (KeepsRow X d)
rows_hold X d xs number (row ∷ rows) some same hold =
    All-cons (KeepsRow X d) row rows
    (compared row.sense (row_value row X d) (total_of zero_value (row_steps row.terms xs)) row.rhs (row_den row X d some) (row_sum row X d xs some same)
    (All-head Holds (point_row xs (number, row)) (map (point_row xs) (enumerate_from (number + 1) rows)) hold))
    (rows_hold X d xs (number + 1) rows some same (All-tail Holds (point_row xs (number, row)) (map (point_row xs) (enumerate_from (number + 1) rows)) hold))

-- ---- bounds and whole numbers

within : (b : Bounds) (n : ℤ) (d : ℕ) (x : Fraction) → 0 < d → SameValue (quotient n d) (ratio x) → IsTrue (is_within b x) → IsWithin b (quotient n d)
within b n d x some same shown =
    let parts = and_parts (is_above b.lower x) (is_under b.upper x) shown in
    record { lower = above_bound b.lower parts.0; upper = under_bound b.upper parts.1 }
  where
    above_bound : (bound : Option Fraction) → IsTrue (is_above bound x) → IfSome bound (λ l. AtMost (ratio l) (quotient n d))
    above_bound None h = tt
    above_bound (Some l) h = at_most_by (ratio l) (quotient n d) l x (omega arith) some refl (same_low n d x some same) (at_most_holds l x h)

    under_bound : (bound : Option Fraction) → IsTrue (is_under bound x) → IfSome bound (λ u. AtMost (quotient n d) (ratio u))
    under_bound None h = tt
    under_bound (Some u) h = at_most_by (quotient n d) (ratio u) x u some (omega arith) (same_low n d x some same) refl (at_most_holds x u h)

bounds_hold : (X : List ℤ) (d : ℕ) (xs : List Fraction) (number : ℕ) (bounds : List Bounds) → 0 < d → HasValues X d xs → length xs ≡ length bounds
    → All Holds (map within_look (enumerate_from number (zip bounds xs))) → AllZip (λ b n. IsWithin b (quotient n d)) bounds X
bounds_hold [] d [] number [] some same long hold = tt
bounds_hold [] d (x ∷ xs) number bounds some same long hold = absurd same
bounds_hold (n ∷ X) d [] number bounds some same long hold = absurd same
bounds_hold (n ∷ X) d (x ∷ xs) number [] some same long hold = absurd (omega (arith, long))
bounds_hold [] d [] number (b ∷ bounds) some same long hold = absurd (omega (arith, long))
bounds_hold (n ∷ X) d (x ∷ xs) number (b ∷ bounds) some same long hold = (
  within b n d x some same.0 (All-head Holds (within_look (number, (b, x))) (map within_look (enumerate_from (number + 1) (zip bounds xs))) hold),
  bounds_hold X d xs (number + 1) bounds some same.1 (omega (arith, long)) (All-tail Holds (within_look (number, (b, x))) (map within_look (enumerate_from (number + 1) (zip bounds xs))) hold),
)

whole_value : (n : ℤ) (d : ℕ) (x : Fraction) → SameValue (quotient n d) (ratio x) → IsTrue (is_whole x) → d ∣ unsigned_abs n
whole_value n d x same shown =
    let below = eqb-true x.below 0 shown in
    let one = ap (λ k. n *ℤ pos (suc k)) (sym below) in
    subst (λ k. d ∣ k) (sym (ap unsigned_abs (sym (times_one n) ∙ one ∙ same) ∙ size-mul_pos x.num d)) (dvd-mul_left d (unsigned_abs x.num))
  where
    times_one : (a : ℤ) → a *ℤ pos 1 ≡ a
    times_one a = omega (arith, ints)

integer_holds : (v : Var) (n : ℤ) (d : ℕ) (x : Fraction) → SameValue (quotient n d) (ratio x) → IsTrue (not (is_integer v.kind) || is_whole x) → IsWholeIf (is_integer v.kind) d n
integer_holds v n d x same shown integer =
    ⊎_elim
    (λ other. absurd (true≢false (sym other ∙ ap not integer)))
    (λ is. whole_value n d x same is)
    (or_cases (not (is_integer v.kind)) (is_whole x) shown)

integers_hold : (X : List ℤ) (d : ℕ) (xs : List Fraction) (number : ℕ) (vars : List Var) → HasValues X d xs → length xs ≡ length vars
    → All Holds (map whole_look (enumerate_from number (zip vars xs))) → AllZip (λ v n. IsWholeIf (is_integer v.kind) d n) vars X
integers_hold [] d [] number [] same long hold = tt
integers_hold [] d (x ∷ xs) number vars same long hold = absurd same
integers_hold (n ∷ X) d [] number vars same long hold = absurd same
integers_hold (n ∷ X) d (x ∷ xs) number [] same long hold = absurd (omega (arith, long))
integers_hold [] d [] number (v ∷ vars) same long hold = absurd (omega (arith, long))
integers_hold (n ∷ X) d (x ∷ xs) number (v ∷ vars) same long hold = (
  integer_holds v n d x same.0 (All-head Holds (whole_look (number, (v, x))) (map whole_look (enumerate_from (number + 1) (zip vars xs))) hold),
  integers_hold X d xs (number + 1) vars same.1 (omega (arith, long)) (All-tail Holds (whole_look (number, (v, x))) (map whole_look (enumerate_from (number + 1) (zip vars xs))) hold),
)

-- ---- the value

pub terms_same : (coefs : List Fraction) (X : List ℤ) (d : ℕ) (xs : List Fraction) → 0 < d → HasValues X d xs → total (λ p. p.0 ⊗ lowest p.1 d) (zip coefs X) ≡ total (λ p. p.0 ⊗ p.1) (zip coefs xs)
terms_same [] X d xs some same = refl
terms_same (coef ∷ coefs) [] d [] some same = refl
terms_same (coef ∷ coefs) [] d (x ∷ xs) some same = absurd same
terms_same (coef ∷ coefs) (n ∷ X) d [] some same = absurd same
terms_same (coef ∷ coefs) (n ∷ X) d (x ∷ xs) some same =
    ap₂ exact_sum (ap (λ y. coef ⊗ y) (same_low n d x some same.0) ∙ product_low coef x) (terms_same coefs X d xs some same.1)

pub objective_sum : (m : Model) (X : List ℤ) (d : ℕ) (xs : List Fraction) → 0 < d → HasValues X d xs → low (objective_value m X d) ≡ low (ratio (total_of m.constant (objective_steps m xs)))
objective_sum m X d xs some same =
    let coefs = map (λ v. v.obj) m.vars in
    low-objective_value m X d some
    ∙ ap (λ s. s ⊕ m.constant) (terms_same coefs X d xs some same ∙ sym (total-map amount (λ p. plus_times p.0 p.1) (zip coefs xs)))
    ∙ exact_sum_comm (total amount (objective_steps m xs)) m.constant
    ∙ sym (total_of-steps m.constant (objective_steps m xs))
    ∙ sym (low-ratio (total_of m.constant (objective_steps m xs)))

-- ---- all of it

pub kept_point : (m : Model) (p : Point) → length p.xs ≡ length m.vars → All Holds (point_looks m (Some p)) → IsFeasiblePoint m p
kept_point m p long hold =
    let c = common p.xs in
    let rows = map (point_row p.xs) (enumerate_from 1 m.rows) in
    let bounds = map point_bound (enumerate_from 1 (zip m.vars p.xs)) in
    let integers = map point_integer (enumerate_from 1 (zip m.vars p.xs)) in
    let last = point_value m p in
    let three = All-left Holds (rows ++ bounds ++ integers) (last ∷ []) hold in
    let two = All-left Holds (rows ++ bounds) integers three in
    record {
      X = c.X;
      d = c.d;
      values = c.values;
      feasible = feasible_from m c.X c.d c.above_zero (rows_hold c.X c.d p.xs 1 m.rows c.above_zero c.values (All-left Holds rows bounds two))
          (bounds_hold c.X c.d p.xs 1 (effective_bounds m []) c.above_zero c.values (long ∙ sym (length-bounds_from 0 m.vars []))
          (subst (All Holds) (bound_looks 0 1 m.vars p.xs) (All-right Holds rows bounds two)))
          (integers_hold c.X c.d p.xs 1 m.vars c.values long (subst (All Holds) (integer_looks 1 m.vars p.xs) (All-right Holds (rows ++ bounds) integers three)));
      value = same_by (objective_value m c.X c.d) (ratio p.value) (objective_den m c.X c.d c.above_zero) (omega arith)
          (objective_sum m c.X c.d p.xs c.above_zero c.values
          ∙ same_holds (total_of m.constant (objective_steps m p.xs)) p.value (All-head Holds last [] (All-right Holds (rows ++ bounds ++ integers) (last ∷ []) hold)));
    }
