-- The first pivot of phase one.
use Rattle.std.proofs.Common.{◌≡◌, ◌≢◌, ◌∙◌, refl, sym, ap, ap₂, subst, ℕ, zero, suc, ◌-◌, ◌<◌, ◌≤◌, ◌^◌, ◌==◌, ◌*ℤ◌, ℤ, cond, true, false, true≢false, List, [], ◌∷◌, ◌++◌, length, length-append, map, subst₂, slice_index_or, All, Some, Ok, pos, negsuc, arith, eq-eqb, ne_eqb}
use Rattle.std.specs.Prelude.{◌≤ℤ◌}
use Rattle.std.proofs.lemmas.Int.{ints}
use Rattle.std.proofs.lemmas.List.{length-map, get_or-map, get_or_append_left, get_or_push}
use Rattle.std.proofs.lemmas.List.Elements.{All-get_or, All-head, All-tail}
use Rattle.std.proofs.lemmas.List.Folds.{Any-from_list_any}
use Rattle.std.proofs.lemmas.List.Sums.{position_or_len_is}
use Rattle.frac128.specs.Fraction.{Fraction, den, exact_difference, exact_quotient, inverse, negation, one_value, zero_value}
use Rattle.frac128.specs.Numbers.{is_below_zero}
use Rattle.frac128.specs.Order.{IsAtMost, order_of}
use Rattle.frac128.proofs.Field.{exact_product-negation_left, exact_product-negation_right, exact_product-one_left, exact_product-one_right, negation-negation}
use Rattle.frac128.proofs.Ordered.{IsAtMost-difference, IsAtMost-negation, IsAtMost-self, IsAtMost_trans}
use Rattle.dictionary.specs.declared.standard.Std.{Std}
use Rattle.dictionary.specs.Dictionary.{Dictionary, IsUniform, artificial_column, entry, is_negative, needs_phase_one, opening, pivot, with_artificial, without_artificial}
use Rattle.dictionary.specs.Rule.{RowAhead, least_row, rows_from, side_before}
use Rattle.dictionary.specs.Solutions.{HasFeasibleConstants, HasNoArtificial, HasReducedNumbers, IsLawful, Pivots}
use Rattle.frac128.specs.Lowest.{IsInLowestTerms}
use Rattle.dictionary.proofs.Points.Chosen.{GoesBy, KnownRow, at_least_from_order, at_most_from_order, chosen, rows-known}
use Rattle.dictionary.proofs.Points.Feasible.{constants-turned}
use Rattle.dictionary.proofs.Points.Lawful.{All-right, IsWide, Turns, turn}
use Rattle.dictionary.proofs.Points.OwnPoint.{constants-reduced}
use Rattle.dictionary.proofs.Points.Opening.{IsLawful-with, IsLawful-without, few_columns, without-has_none}
use Rattle.dictionary.proofs.Points.PhaseOne.{same_constant}
use Rattle.frac128.proofs.Sums.{minus, minus_is, ◌⊕◌, ◌⊗◌}

-- ---- the row with the least constant

side_before-true : (x y : RowAhead) → side_before x y ≡ true → IsAtMost x.constant y.constant
side_before-true x y h = at_most_from_order x.constant y.constant (order_of x.constant y.constant) refl (λ e. true≢false (sym h ∙ rw (e, side_before)))

side_before-false : (x y : RowAhead) → side_before x y ≡ false → IsAtMost y.constant x.constant
side_before-false x y h = at_least_from_order x.constant y.constant (order_of x.constant y.constant) refl (λ e. true≢false (sym (rw (e, side_before)) ∙ h))

goes_by_constant : GoesBy (λ (x y : RowAhead). IsAtMost x.constant y.constant) side_before
goes_by_constant = record {
  itself = λ x. IsAtMost-self x.constant;
  transitive = λ x y z. IsAtMost_trans x.constant y.constant z.constant;
  before = side_before-true;
  behind = side_before-false;
}

each_constant : (v : Fraction) (c r : ℕ) (basic : List ℕ) (rows : List (List Fraction)) → length rows ≡ length basic → All (λ row. IsAtMost v row.constant) (rows_from c r basic rows) → (k : ℕ) → k < length rows → IsAtMost v (entry (slice_index_or rows k []) 0)
each_constant v c r basic [] same all k within = absurd (omega (arith, within))
each_constant v c r [] (row ∷ rows) same all k within = absurd (omega (arith, same))
each_constant v c r (b ∷ bs) (row ∷ rows) same all zero within = All-head (λ row. IsAtMost v row.constant) record { row = r; variable = b; constant = entry row 0; entry = entry row c } (rows_from c (suc r) bs rows) all
each_constant v c r (b ∷ bs) (row ∷ rows) same all (suc k) within =
    each_constant v c (suc r) bs rows (omega (arith, same)) (All-tail (λ row. IsAtMost v row.constant) record { row = r; variable = b; constant = entry row 0; entry = entry row c } (rows_from c (suc r) bs rows) all) k (omega (arith, within))

pub record IsLeast (r : ℕ) (d : Dictionary) : Type 0 where
  pub place : ℕ
  pub is_row : r ≡ suc place
  pub within : place < length d.basic
  pub least : (k : ℕ) → k < length d.rows → IsAtMost (entry (slice_index_or d.rows place []) 0) (entry (slice_index_or d.rows k []) 0)

least-known : (r : ℕ) (d : Dictionary) → length d.rows ≡ length d.basic → least_row d ≡ Some r → IsLeast r d
unfolding least_row
least-known r d same h =
    let best = chosen (KnownRow 0 1 d.basic d.rows) (λ x y. IsAtMost x.constant y.constant) side_before (λ row. row.row) goes_by_constant (rows_from 0 1 d.basic d.rows) r (rows-known 0 1 d.basic d.rows) h in
    let row = best.2.holds in
    let is = row.is_row in
    let found = best.1 in
    record {
      place = row.place;
      is_row = omega (arith, is, found);
      within = row.within;
      least = λ k within. subst (λ v. IsAtMost v (entry (slice_index_or d.rows k []) 0)) row.is_constant (each_constant best.0.constant 0 1 d.basic d.rows same best.2.first k within);
    }

-- ---- with the artificial variable

pub same_column : (d : Dictionary) → HasNoArtificial d → artificial_column (with_artificial d) ≡ suc (length d.nonbasic)
unfolding with_artificial
same_column d none =
    let others = All-right (λ v. v ≢ 0) d.basic d.nonbasic none in
    let long = length-append d.nonbasic (0 ∷ []) in
    ap suc (position_or_len_is (λ v. v == 0) (d.nonbasic ++ 0 ∷ []) (length d.nonbasic) 0 (omega (arith, long))
    (λ k below. ne_eqb _ _ (λ e. others k 0 below (sym (get_or_append_left d.nonbasic (0 ∷ []) 0 k below) ∙ e)))
    (λ within. eq-eqb _ _ (get_or_push d.nonbasic 0 0 (length d.nonbasic) refl)))

-- a row of the dictionary with it, by the row before
pub record WithArtificial (d : Dictionary) (k : ℕ) : Type 0 where
  pub constant : entry (slice_index_or (with_artificial d).rows k []) 0 ≡ entry (slice_index_or d.rows k []) 0
  pub last : entry (slice_index_or (with_artificial d).rows k []) (suc (length d.nonbasic)) ≡ negation one_value

pub row_with : (d : Dictionary) (k : ℕ) → IsLawful d → k < length d.rows → WithArtificial d k
unfolding with_artificial
row_with d k lawful within =
    let row = slice_index_or d.rows k [] in
    let wide = All-get_or (IsWide (length d.nonbasic)) d.rows k [] within lawful.shape.row_entries in
    let is = get_or-map (λ r. r ++ negation one_value ∷ []) d.rows k [] [] within in
    record {
      constant = ap (λ r. entry r 0) is ∙ same_constant (length d.nonbasic) row (negation one_value) wide;
      last = ap (λ r. entry r (suc (length d.nonbasic))) is ∙ get_or_push row (negation one_value) zero_value (suc (length d.nonbasic)) wide;
    }

inverse-minus_one : inverse (negation one_value) ≡ negation one_value
unfolding inverse
inverse-minus_one = refl

-- over -1, and times -1
over_minus_one : (x : Fraction) → IsInLowestTerms x → exact_quotient x (negation one_value) ≡ negation x
over_minus_one x low = ap (λ s. x ⊗ s) inverse-minus_one ∙ exact_product-negation_right x one_value ∙ ap negation (exact_product-one_right x low)

less_least : (x y : Fraction) → IsInLowestTerms y → x ⊕ minus (negation one_value ⊗ negation y) ≡ exact_difference x y
less_least x y low =
    ap (λ s. x ⊕ minus s) (exact_product-negation_left one_value (negation y) ∙ ap negation (exact_product-negation_right one_value y) ∙ negation-negation (one_value ⊗ y) ∙ exact_product-one_left y low)
    ∙ ap (λ s. x ⊕ s) (minus_is y)

pub same_rows : (d : Dictionary) → length (with_artificial d).rows ≡ length d.rows
unfolding with_artificial
same_rows d = length-map d.rows (λ r. r ++ negation one_value ∷ [])

pub same_basic : (d : Dictionary) → (with_artificial d).basic ≡ d.basic
unfolding with_artificial
same_basic d = refl

pub one_column_more : (d : Dictionary) → length (with_artificial d).nonbasic ≡ suc (length d.nonbasic)
unfolding with_artificial
one_column_more d = length-append d.nonbasic (0 ∷ []) ∙ omega arith

-- where the least constant of d is at most 0
pub feasible_first : (i : ℕ) (d e : Dictionary) → IsLawful d → (h : Turns i (length d.nonbasic) (with_artificial d) e) → i < length d.rows → IsAtMost (entry (slice_index_or d.rows i []) 0) zero_value
    → ((k : ℕ) → k < length d.rows → IsAtMost (entry (slice_index_or d.rows i []) 0) (entry (slice_index_or d.rows k []) 0)) → HasFeasibleConstants e
feasible_first i d e lawful h within low least =
    let n = length d.nonbasic in
    let own = entry (slice_index_or d.rows i []) 0 in
    let row = row_with d i lawful within in
    let reduced = All-get_or (λ r. IsInLowestTerms (entry r 0)) d.rows i [] within (constants-reduced d lawful) in
    let v : entry h.solved 0 ≡ negation own = h.known.constant ∙ ap₂ exact_quotient row.constant row.last ∙ over_minus_one own reduced in
    let long = same_rows d in
    subst HasFeasibleConstants (sym h.is_made)
    (constants-turned (IsAtMost zero_value) i n h.solved (with_artificial d).rows (omega (arith, long, within))
    (subst (IsAtMost zero_value) (sym v) (IsAtMost-negation own zero_value low))
    (λ k below other.
    let k_within : k < length d.rows = omega (arith, long, below) in
    let k_row = row_with d k lawful k_within in
    let x = entry (slice_index_or d.rows k []) 0 in
    subst (IsAtMost zero_value)
    (sym (ap₂ (λ c s. c ⊕ minus s) k_row.constant (ap₂ (λ a t. a ⊗ t) k_row.last v) ∙ less_least x own reduced))
    (IsAtMost-difference own x (least k k_within))))

-- the least row of the dictionary with it is that of d
pub least_with : (r : ℕ) (d : Dictionary) → IsLawful d → least_row (with_artificial d) ≡ Some r → IsLeast r d
least_with r d lawful h =
    let same = lawful.shape.rows in
    let long = same_rows d in
    let basic = same_basic d in
    let found = least-known r (with_artificial d) (long ∙ same ∙ sym (ap length basic)) h in
    let below = found.within in
    let within : found.place < length d.basic = subst (λ b. found.place < length b) basic below in
    record {
      place = found.place;
      is_row = found.is_row;
      within = within;
      least = λ k k_within.
          let own = row_with d found.place lawful (omega (arith, same, within)) in
          let other = row_with d k lawful k_within in
          subst₂ IsAtMost own.constant other.constant (found.least k (omega (arith, long, k_within)));
    }

pub minus_one-not_zero : (negation one_value).num ≢ pos 0
minus_one-not_zero e = omega (arith, ints, e)

pub first_pivots : (r : ℕ) (d e : Dictionary) → IsLawful d → HasNoArtificial d → least_row (with_artificial d) ≡ Some r → pivot r (artificial_column (with_artificial d)) (with_artificial d) ≡ Ok e → Pivots r (artificial_column (with_artificial d)) (with_artificial d) e
first_pivots r d e lawful none h made =
    let least = least_with r d lawful h in
    let is = least.is_row in
    let below = least.within in
    let same = lawful.shape.rows in
    let column = same_column d none in
    let columns = one_column_more d in
    let place_is : r - 1 ≡ least.place = omega (arith, is) in
    let row = row_with d least.place lawful (omega (arith, same, below)) in
    record {
      row_above = omega (arith, is);
      row_within = subst (λ b. r ≤ length b) (sym (same_basic d)) (omega (arith, is, below));
      column_above = omega (arith, column);
      column_within = omega (arith, column, columns);
      not_zero = subst₂ (λ place c. (entry (slice_index_or (with_artificial d).rows place []) c).num ≢ pos 0) (sym place_is) (sym column) (subst (λ a. a.num ≢ pos 0) (sym row.last) minus_one-not_zero);
      is_pivot = made;
    }

first_feasible : (r : ℕ) (d e : Dictionary) → IsLawful d → HasNoArtificial d → length d.nonbasic < 2 ^ 31 → least_row (with_artificial d) ≡ Some r → pivot r (artificial_column (with_artificial d)) (with_artificial d) ≡ Ok e
    → (k : ℕ) → k < length d.rows → IsAtMost (entry (slice_index_or d.rows k []) 0) zero_value → HasFeasibleConstants e
first_feasible r d e lawful none limit h made k k_within low =
    let least = least_with r d lawful h in
    let below = least.within in
    let same = lawful.shape.rows in
    let pivots = subst₂ (λ p c. Pivots p c (with_artificial d) e) least.is_row (same_column d none) (first_pivots r d e lawful none h made) in
    feasible_first least.place d e lawful (turn least.place (length d.nonbasic) (with_artificial d) e (IsLawful-with d lawful none limit) pivots) (omega (arith, same, below))
    (IsAtMost_trans (entry (slice_index_or d.rows least.place []) 0) (entry (slice_index_or d.rows k []) 0) zero_value (least.least k k_within) low) least.least

-- ---- the opening dictionary

pub opening-with : (s : Std) → needs_phase_one s ≡ true → opening s ≡ with_artificial (without_artificial s)
unfolding opening
opening-with s needed = ap (λ b. cond b (with_artificial (without_artificial s)) (without_artificial s)) needed

below_from_negative : (x : Fraction) → is_negative x ≡ true → IsAtMost x zero_value
below_from_negative x h = record { at_most = by_sign x.num (den x) h }
  where
    by_sign : (n : ℤ) (d : ℕ) → is_below_zero n ≡ true → (n *ℤ pos 1) ≤ℤ (pos 0 *ℤ pos d)
    by_sign (pos n) d e = absurd (true≢false (sym e))
    by_sign (negsuc n) d e = omega (arith, ints)

-- a row whose constant is below 0
pub record NegativeRow (d : Dictionary) : Type 0 where
  pub place : ℕ
  pub within : place < length d.rows
  pub low : IsAtMost (entry (slice_index_or d.rows place []) 0) zero_value

pub negative_row : (s : Std) → needs_phase_one s ≡ true → NegativeRow (without_artificial s)
unfolding without_artificial
negative_row s needed =
    let some = Any-from_list_any (λ row. is_negative row.rhs) s.rows needed in
    let within = some.2 in
    let is : slice_index_or (map (λ row. row.rhs ∷ row.coefs) s.rows) some.0 [] ≡ some.1.rhs ∷ some.1.coefs = get_or-map (λ row. row.rhs ∷ row.coefs) s.rows some.0 some.1 [] within ∙ ap (λ row. row.rhs ∷ row.coefs) some.3 in
    record {
      place = some.0;
      within = omega (arith, within, length-map s.rows (λ row. row.rhs ∷ row.coefs));
      low = subst (λ r. IsAtMost (entry r 0) zero_value) (sym is) (below_from_negative some.1.rhs some.4);
    }

pub opening_pivots : (s : Std) (r : ℕ) (e : Dictionary) → IsUniform s → HasReducedNumbers s → needs_phase_one s ≡ true → least_row (opening s) ≡ Some r
    → pivot r (artificial_column (opening s)) (opening s) ≡ Ok e → Pivots r (artificial_column (opening s)) (opening s) e
opening_pivots s r e uniform low needed =
    subst (λ d. least_row d ≡ Some r → pivot r (artificial_column d) d ≡ Ok e → Pivots r (artificial_column d) d e) (sym (opening-with s needed))
    (first_pivots r (without_artificial s) e (IsLawful-without s uniform low) (without-has_none s))

pub opening_feasible : (s : Std) (r : ℕ) (e : Dictionary) → IsUniform s → HasReducedNumbers s → needs_phase_one s ≡ true → least_row (opening s) ≡ Some r
    → pivot r (artificial_column (opening s)) (opening s) ≡ Ok e → HasFeasibleConstants e
opening_feasible s r e uniform low needed =
    let negative = negative_row s needed in
    subst (λ d. least_row d ≡ Some r → pivot r (artificial_column d) d ≡ Ok e → HasFeasibleConstants e) (sym (opening-with s needed))
    (λ h made. first_feasible r (without_artificial s) e (IsLawful-without s uniform low) (without-has_none s) (few_columns s uniform.column_limit) h made negative.place negative.within negative.low)

-- ---- where the artificial variable enters, whether or not its pivot fits

-- A pivot may be made on row r and column c.
pub record IsPivotPlace (r c : ℕ) (d : Dictionary) : Type 0 where
  pub row_above : 0 < r
  pub row_within : r ≤ length d.basic
  pub column_above : 0 < c
  pub column_within : c ≤ length d.nonbasic
  pub not_zero : (entry (slice_index_or d.rows (r - 1) []) c).num ≢ pos 0

first_place : (r : ℕ) (d : Dictionary) → IsLawful d → HasNoArtificial d → least_row (with_artificial d) ≡ Some r → IsPivotPlace r (artificial_column (with_artificial d)) (with_artificial d)
first_place r d lawful none h =
    let least = least_with r d lawful h in
    let is = least.is_row in
    let below = least.within in
    let same = lawful.shape.rows in
    let column = same_column d none in
    let columns = one_column_more d in
    let place_is : r - 1 ≡ least.place = omega (arith, is) in
    let row = row_with d least.place lawful (omega (arith, same, below)) in
    record {
      row_above = omega (arith, is);
      row_within = subst (λ b. r ≤ length b) (sym (same_basic d)) (omega (arith, is, below));
      column_above = omega (arith, column);
      column_within = omega (arith, column, columns);
      not_zero = subst₂ (λ place c. (entry (slice_index_or (with_artificial d).rows place []) c).num ≢ pos 0) (sym place_is) (sym column) (subst (λ a. a.num ≢ pos 0) (sym row.last) minus_one-not_zero);
    }

pub opening_place : (s : Std) (r : ℕ) → IsUniform s → HasReducedNumbers s → needs_phase_one s ≡ true → least_row (opening s) ≡ Some r → IsPivotPlace r (artificial_column (opening s)) (opening s)
opening_place s r uniform low needed =
    subst (λ d. least_row d ≡ Some r → IsPivotPlace r (artificial_column d) d) (sym (opening-with s needed))
    (first_place r (without_artificial s) (IsLawful-without s uniform low) (without-has_none s))
