-- The points along a column that rises freely.
use Rattle.std.proofs.Common.{◌≡◌, ◌≢◌, ◌⊎◌, ⊎_elim, ◌∙◌, refl, sym, ap, ap₂, subst, ℕ, zero, suc, ◌<◌, ◌==◌, Bool, true, false, cond, List, [], length, slice_index, slice_index_or, drop, All, ℤ, pos, negsuc, arith, ne_eqb, eq-eqb}
use Rattle.std.specs.Prelude.{◌<ℤ◌, unsigned_abs}
use Rattle.std.proofs.Math.Nat.{one-dvd}
use Rattle.std.proofs.lemmas.Bool.{cases_lt, cases_order}
use Rattle.std.proofs.lemmas.Int.{ints}
use Rattle.std.proofs.lemmas.List.{get_or_past}
use Rattle.std.proofs.lemmas.List.Elements.{All-get_or}
use Rattle.std.proofs.lemmas.List.Sums.{position_or_len_is}
use Rattle.frac128.specs.Fraction.{Fraction, exact_difference, exact_quotient, fraction, inverse, one_value, zero_value}
use Rattle.frac128.specs.Numbers.{is_below_zero, signed}
use Rattle.frac128.specs.Order.{IsAtMost, IsBelow}
use Rattle.frac128.proofs.Field.{apart_of-product, apart_of-sum, apart_of-zero, exact_difference-sum, exact_product-zero_left, exact_product-zero_right, exact_product_comm, exact_quotient-product, exact_sum-zero_left, exact_sum-zero_right, exact_sum_comm, num-inverse}
use Rattle.frac128.proofs.Ordered.{IsAtMost-from_below, IsAtMost-negation, IsAtMost-product, IsAtMost-self, IsAtMost-sums, IsBelow-sum, IsBelow_trans_right, above_zero, cases_below}
use Rattle.dictionary.specs.Dictionary.{Dictionary, entry}
use Rattle.dictionary.specs.Solutions.{HasFeasibleConstants, HasNoArtificial, IsFeasible, IsLawful, Point, RisesFreely, Solves, objective_at, sum_at}
use Rattle.frac128.specs.Lowest.{IsInLowestTerms}
use Rattle.dictionary.proofs.Points.Lawful.{All-left, All-right, IsWide, wide_entries}
use Rattle.dictionary.proofs.Points.OwnPoint.{distinct_parts, distinct_right, objective-reduced, place-basic, place-nonbasic, place_of, sum_at-one}
use Rattle.dictionary.proofs.Points.PivotLaw.{row_wide, solves_from_true}
use Rattle.frac128.proofs.Sums.{minus, minus-none, minus_is, ◌⊕◌, ◌⊗◌}
use Rattle.dictionary.proofs.Points.Turned.{entry-behind}

-- a basic variable where the column's is t and the other nonbasic ones are 0
abbrev pub row_along : ℕ → Fraction → List Fraction → Fraction
row_along j t row = entry row 0 ⊕ minus (entry row (suc j) ⊗ t)

-- the point where the column's variable is t
abbrev pub along : ℕ → Fraction → Dictionary → Point
along j t d v = cond (v == slice_index d.nonbasic j) t (row_along j t (slice_index_or d.rows (place_of d.basic v) []))

-- what holds of t and of what each row says, also where there is none
pub along-all : (P : Fraction → Type 0) (j : ℕ) (t : Fraction) (d : Dictionary) (v : ℕ) → P t → P (row_along j t []) → All (λ row. P (row_along j t row)) d.rows → P (along j t d v)
along-all P j t d v own none all =
    of_cond (v == slice_index d.nonbasic j)
    (⊎_elim
    (λ within. All-get_or (λ row. P (row_along j t row)) d.rows (place_of d.basic v) [] within all)
    (λ past. subst (λ row. P (row_along j t row)) (sym (get_or_past d.rows (place_of d.basic v) [] past)) none)
    (cases_lt (place_of d.basic v) (length d.rows)))
  where
    of_cond : (b : Bool) {y : Fraction} → P y → P (cond b t y)
    of_cond true h = own
    of_cond false h = h

pub along-own : (j : ℕ) (t : Fraction) (d : Dictionary) → along j t d (slice_index d.nonbasic j) ≡ t
along-own j t d = ap (λ b. cond b t (row_along j t (slice_index_or d.rows (place_of d.basic (slice_index d.nonbasic j)) []))) (eq-eqb _ _ refl)

pub along-other : (j : ℕ) (t : Fraction) (d : Dictionary) (v : ℕ) → v ≢ slice_index d.nonbasic j → along j t d v ≡ row_along j t (slice_index_or d.rows (place_of d.basic v) [])
along-other j t d v other = ap (λ b. cond b t (row_along j t (slice_index_or d.rows (place_of d.basic v) []))) (ne_eqb _ _ other)

pub along-basic : (j i : ℕ) (t : Fraction) (d : Dictionary) → IsLawful d → j < length d.nonbasic → i < length d.basic → along j t d (slice_index d.basic i) ≡ row_along j t (slice_index_or d.rows i [])
along-basic j i t d lawful column_within within =
    along-other j t d (slice_index d.basic i) (distinct_parts d.basic d.nonbasic i j lawful.distinct within column_within)
    ∙ ap (λ place. row_along j t (slice_index_or d.rows place [])) (place-basic d.basic d.nonbasic i lawful.distinct within)

pub row_along-none : (j : ℕ) (t : Fraction) → row_along j t [] ≡ zero_value
row_along-none j t = ap (λ s. zero_value ⊕ minus s) (exact_product-zero_left t) ∙ minus-none zero_value apart_of-zero

pub along-nonbasic : (j k : ℕ) (t : Fraction) (d : Dictionary) → IsLawful d → j < length d.nonbasic → k < length d.nonbasic → (k ≡ j → ⊥) → along j t d (slice_index d.nonbasic k) ≡ zero_value
along-nonbasic j k t d lawful within other_within other =
    let same = lawful.shape.rows in
    along-other j t d (slice_index d.nonbasic k) (apart (cases_order k j))
    ∙ ap (λ place. row_along j t (slice_index_or d.rows place [])) (place-nonbasic d.basic d.nonbasic k lawful.distinct other_within)
    ∙ ap (row_along j t) (get_or_past d.rows (length d.basic) [] (omega (arith, same)))
    ∙ row_along-none j t
  where
    apart : (k ≡ j) ⊎ ((k < j) ⊎ (j < k)) → slice_index d.nonbasic k ≢ slice_index d.nonbasic j
    apart cases =
        ⊎_elim (λ e. absurd (other e))
        (λ order. ⊎_elim (λ less. distinct_right d.basic d.nonbasic k j lawful.distinct less within) (λ more e. distinct_right d.basic d.nonbasic j k lawful.distinct more other_within (sym e)) order)
        cases

-- what a row's columns add up to there
pub along-columns : (j : ℕ) (t : Fraction) (d : Dictionary) (row : List Fraction) → IsLawful d → j < length d.nonbasic → IsWide (length d.nonbasic) row → sum_at (along j t d) d.nonbasic (drop 1 row) ≡ entry row (suc j) ⊗ t
along-columns j t d row lawful within wide =
    sum_at-one (along j t d) j d.nonbasic (drop 1 row) within (wide_entries (length d.nonbasic) row wide) (λ k below other. along-nonbasic j k t d lawful within below other)
    ∙ ap₂ (λ a y. a ⊗ y) (entry-behind j row) (along-own j t d)

-- a row that the column does not make less stays at least 0
pub row_along-at_least : (j : ℕ) (t : Fraction) (row : List Fraction) → IsAtMost zero_value t → IsAtMost zero_value (entry row 0) → IsAtMost (entry row (suc j)) zero_value → IsAtMost zero_value (row_along j t row)
row_along-at_least j t row high constant free =
    let falls : IsAtMost (entry row (suc j) ⊗ t) zero_value = subst (IsAtMost (entry row (suc j) ⊗ t)) (exact_product-zero_left t) (IsAtMost-product (entry row (suc j)) zero_value t high free) in
    let turned : IsAtMost zero_value (minus (entry row (suc j) ⊗ t)) = subst (IsAtMost zero_value) (sym (minus_is (entry row (suc j) ⊗ t))) (IsAtMost-negation (entry row (suc j) ⊗ t) zero_value falls) in
    subst (λ z. IsAtMost z (row_along j t row)) (exact_sum-zero_right zero_value apart_of-zero) (IsAtMost-sums zero_value (entry row 0) zero_value (minus (entry row (suc j) ⊗ t)) constant turned)

-- a variable that the dictionary does not have is 0
pub along-absent : (j : ℕ) (t : Fraction) (d : Dictionary) → IsLawful d → j < length d.nonbasic → HasNoArtificial d → along j t d 0 ≡ zero_value
along-absent j t d lawful within others =
    let same = lawful.shape.rows in
    let place : place_of d.basic 0 ≡ length d.basic =
    position_or_len_is (λ b. b == 0) d.basic (length d.basic) 0 (omega arith) (λ k below. ne_eqb _ _ (All-left (λ v. v ≢ 0) d.basic d.nonbasic others k 0 below)) (λ past. absurd (omega (arith, past))) in
    along-other j t d 0 (λ e. All-right (λ v. v ≢ 0) d.basic d.nonbasic others j 0 within (sym e))
    ∙ ap (λ p. row_along j t (slice_index_or d.rows p [])) place
    ∙ ap (row_along j t) (get_or_past d.rows (length d.basic) [] (omega (arith, same)))
    ∙ row_along-none j t

pub along-solves : (j : ℕ) (t : Fraction) (d : Dictionary) → IsLawful d → j < length d.nonbasic → IsInLowestTerms t → Solves d (along j t d)
along-solves j t d lawful within low =
    solves_from_true d (along j t d)
    (λ v. along-all IsInLowestTerms j t d v low (apart_of-sum _ _) (λ k e below. apart_of-sum _ _))
    (λ i below. along-basic j i t d lawful within below ∙ ap (λ s. entry (slice_index_or d.rows i []) 0 ⊕ minus s) (sym (along-columns j t d (slice_index_or d.rows i []) lawful within (row_wide d i lawful below))))

pub along-feasible : (j : ℕ) (t : Fraction) (d : Dictionary) → IsLawful d → HasFeasibleConstants d → j < length d.nonbasic → All (λ row. IsAtMost (entry row (suc j)) zero_value) d.rows → IsInLowestTerms t → IsAtMost zero_value t → IsFeasible d (along j t d)
along-feasible j t d lawful constants within free low high = record {
  solves = along-solves j t d lawful within low;
  at_least_zero = λ v. along-all (IsAtMost zero_value) j t d v high
      (row_along-at_least j t [] high (IsAtMost-self zero_value) (IsAtMost-self zero_value))
      (λ k e below. row_along-at_least j t (slice_index_or d.rows k e) high (constants k e below) (free k e below));
}

-- the point along a column, and z there
record Along (c : ℕ) (t : Fraction) (d : Dictionary) : Type 0 where
  point : Point
  feasible : IsFeasible d point
  value : objective_at d point ≡ entry d.objective 0 ⊕ entry d.objective c ⊗ t
  absent : HasNoArtificial d → point 0 ≡ zero_value

along_column : (c : ℕ) (d : Dictionary) (t : Fraction) → IsLawful d → HasFeasibleConstants d → RisesFreely c d → IsInLowestTerms t → IsAtMost zero_value t → Along c t d
along_column zero d t lawful constants free low high = absurd (let above = free.above in omega (arith, above))
along_column (suc j) d t lawful constants free low high =
    let column_within = free.within in
    let within : j < length d.nonbasic = omega (arith, column_within) in
    record {
      point = along j t d;
      feasible = along-feasible j t d lawful constants within free.free low high;
      value = ap (λ s. entry d.objective 0 ⊕ s) (along-columns j t d d.objective lawful within lawful.shape.objective_entries);
      absent = along-absent j t d lawful within;
    }

pub feasible_along : (c : ℕ) (d : Dictionary) (t : Fraction) → IsLawful d → HasFeasibleConstants d → RisesFreely c d → IsInLowestTerms t → IsAtMost zero_value t → (x : Point) × IsFeasible d x × (objective_at d x ≡ entry d.objective 0 ⊕ entry d.objective c ⊗ t) × (HasNoArtificial d → x 0 ≡ zero_value)
feasible_along c d t lawful constants free low high =
    let found = along_column c d t lawful constants free low high in (found.point, found.feasible, found.value, found.absent)

-- ---- above each number

one_more : (y : Fraction) → IsInLowestTerms y → IsBelow y (y ⊕ one_value)
one_more y low =
    let one_above : IsBelow zero_value one_value = (above_zero one_value).1 (omega (arith, ints)) in
    subst (λ z. IsBelow z (y ⊕ one_value)) (exact_sum-zero_left y low) (subst (IsBelow (zero_value ⊕ y)) (exact_sum_comm one_value y) (IsBelow-sum zero_value one_value y one_above))

pub inverse_above : (x : Fraction) → IsBelow zero_value x → IsBelow zero_value (inverse x)
inverse_above x above = (above_zero (inverse x)).1 (subst (λ n. pos 0 <ℤ n) (sym (num-inverse x)) (by_sign x.num x.below ((above_zero x).0 above)))
  where
    by_sign : (n : ℤ) (m : ℕ) → pos 0 <ℤ n → pos 0 <ℤ signed (is_below_zero n) (suc m)
    by_sign (pos n) m h = omega (arith, ints)
    by_sign (negsuc n) m h = absurd (omega (arith, ints, h))

pub not_zero : (x : Fraction) → IsBelow zero_value x → x.num ≢ pos 0
not_zero x above e = let h = (above_zero x).0 above in omega (arith, ints, h, e)

-- how far the column's variable has to rise for a value that is at least z's constant
rise_to : (z slope y : Fraction) → IsBelow zero_value slope → IsInLowestTerms y → z ⊕ slope ⊗ exact_quotient (exact_difference y z) slope ≡ y
rise_to z slope y above low =
    ap (λ s. z ⊕ s) (exact_product_comm slope (exact_quotient (exact_difference y z) slope) ∙ exact_quotient-product (exact_difference y z) slope (apart_of-sum y _) (not_zero slope above))
    ∙ exact_sum_comm z (exact_difference y z) ∙ exact_difference-sum y z low

-- a value of the column's variable that makes z greater than a number
pub record RisesAbove (z slope y : Fraction) : Type 0 where
  pub value : Fraction
  pub reduced : IsInLowestTerms value
  pub at_least_zero : IsAtMost zero_value value
  pub above : IsBelow y (z ⊕ slope ⊗ value)

pub rise_above : (z slope y : Fraction) → IsInLowestTerms z → IsInLowestTerms y → IsBelow zero_value slope → RisesAbove z slope y
rise_above z slope y low_z low steep =
    let more = y ⊕ one_value in
    let gap = exact_difference more z in
    let high = one_more y low in
    ⊎_elim
    (λ (below : IsBelow gap zero_value).
    let less : IsBelow more z = subst (IsBelow more) (exact_sum-zero_left z low_z) (subst (λ s. IsBelow s (zero_value ⊕ z)) (exact_difference-sum more z (apart_of-sum y one_value)) (IsBelow-sum gap zero_value z below)) in
    record {
      value = zero_value;
      reduced = apart_of-zero;
      at_least_zero = IsAtMost-self zero_value;
      above = subst (IsBelow y) (sym (ap (λ s. z ⊕ s) (exact_product-zero_right slope) ∙ exact_sum-zero_right z low_z)) (IsBelow_trans_right y more z (IsAtMost-from_below y more high) less);
    })
    (λ (most : IsAtMost zero_value gap).
    let t = exact_quotient gap slope in
    record {
      value = t;
      reduced = apart_of-product gap (inverse slope);
      at_least_zero = subst (λ s. IsAtMost s t) (exact_product-zero_left (inverse slope)) (IsAtMost-product zero_value gap (inverse slope) (IsAtMost-from_below zero_value (inverse slope) (inverse_above slope steep)) most);
      above = subst (IsBelow y) (sym (rise_to z slope more steep (apart_of-sum y one_value))) high;
    })
    (cases_below gap zero_value)

pub feasible_above : (c : ℕ) (d : Dictionary) (y : Fraction) → IsLawful d → HasFeasibleConstants d → RisesFreely c d → IsInLowestTerms y → (x : Point) × IsFeasible d x × IsBelow y (objective_at d x) × (HasNoArtificial d → x 0 ≡ zero_value)
feasible_above c d y lawful constants free low =
    let rise = rise_above (entry d.objective 0) (entry d.objective c) y (objective-reduced d lawful) low free.rise in
    let found = along_column c d rise.value lawful constants free rise.reduced rise.at_least_zero in
    (found.point, found.feasible, subst (IsBelow y) (sym found.value) rise.above, found.absent)

pub apart_of-whole : (n : ℤ) → IsInLowestTerms (fraction n 1)
apart_of-whole n = (one-dvd (unsigned_abs n), one-dvd 1, λ k p q. q)
