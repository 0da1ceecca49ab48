-- At an opening in phase one the artificial variable's pivot comes, and leaves it basic and above 0.
use Rattle.std.specs.Prelude.{◌<ℤ◌, ◌==◌, is_some}
use Rattle.std.specs.List.{list_any, position_or_len}
use Rattle.std.proofs.Common.{◌≡◌, ◌∙◌, ⊎_elim, refl, sym, ap, subst, ℕ, zero, suc, ◌+◌, ◌<◌, ◌||◌, true, false, true≢false, cond, List, [], ◌∷◌, ◌++◌, length, length-append, length-set, map, get_or-set_other, get_or-set_same, slice_index, slice_index_or, Contains, Option, Some, None, option_map, unwrap_or, Ok, ℤ, pos, negsuc, arith, eqb-true}
use Rattle.std.proofs.lemmas.Int.{ints}
use Rattle.std.proofs.lemmas.List.{get_or-map, get_or_append_left, get_or_push, length-map}
use Rattle.std.proofs.lemmas.List.Folds.{Any-from_list_any}
use Rattle.std.proofs.lemmas.List.Sums.{passes_at_first}
use Rattle.frac128.specs.Fraction.{Fraction, negation, one_value, zero_value}
use Rattle.frac128.specs.Numbers.{is_below_zero}
use Rattle.frac128.specs.Order.{IsAtMost, IsBelow}
use Rattle.frac128.specs.Lowest.{IsInLowestTerms}
use Rattle.frac128.proofs.Field.{apart_of-product, apart_of-zero, exact_product-negation_left, exact_product-one_left, exact_sum-zero_left, exact_sum-zero_right, negation-negation}
use Rattle.frac128.proofs.Ordered.{IsAtMost-self, IsAtMost-sums, IsAtMost_trans, IsBelow-not, below_zero, cases_below}
use Rattle.frac128.proofs.Chains.{same_ok, through}
use Rattle.frac128.proofs.Sums.{minus, minus_is, ◌⊕◌, ◌⊗◌}
use Rattle.dictionary.specs.Dictionary.{Dictionary, IsUniform, artificial_column, entry, is_negative, needs_phase_one, numbers_from, opening, pivot, with_artificial, without_artificial}
use Rattle.dictionary.specs.Rule.{best_among, least_row, rows_from, side_before}
use Rattle.dictionary.specs.Solutions.{HasFeasibleConstants, HasReducedNumbers, IsLawful, IsPhaseOne, Pivots, Point, Solves, own_point, sum_at}
use Rattle.dictionary.specs.declared.standard.Std.{Std}
use Rattle.dictionary.specs.declared.standard.StdRow.{StdRow}
use Rattle.dictionary.proofs.Opened.{length-numbers_from}
use Rattle.dictionary.proofs.Points.FirstPivot.{opening-with, opening_feasible, opening_pivots}
use Rattle.dictionary.proofs.Points.Lawful.{Turns, turn}
use Rattle.dictionary.proofs.Points.Opening.{get_or-numbers_from, phase_one-opening}
use Rattle.dictionary.proofs.Points.OwnPoint.{own_point-basic, own_point-feasible, own_point-nonbasic, sum_at-none}
use Rattle.dictionary.proofs.Points.PhaseOne.{IsPhaseOne-kept}
use Rattle.dictionary.proofs.Points.PivotLaw.{solutions_kept, true_from_solves}
use Rattle.dictionary.proofs.Points.Sums.{sum_at-middle}
use Rattle.dictionary.proofs.Points.Turned.{told}
use Rattle.solve_defs.specs.Path.{artificial, awaits_artificial, next, pivoted, settled}
use Rattle.relaxation_laws.specs.Reached.{HasArtificialAbove, IsInPhaseOne, Reached, Relaxes, in_phase_one}
use Rattle.relaxation_laws.proofs.ByRule.{is_basic-from, settled_one}
use Rattle.relaxation_laws.proofs.KeptForm.{relaxes-pivot, relaxes-with, some-map}

pub opening_without : (s : Std) → needs_phase_one s ≡ false → opening s ≡ without_artificial s
unfolding opening
opening_without s needed = ap (λ b. cond b (with_artificial (without_artificial s)) (without_artificial s)) needed

-- a row of a form with the artificial variable's entry
abbrev with_entry : StdRow → List Fraction
with_entry row = (row.rhs ∷ row.coefs) ++ negation one_value ∷ []

rows_negative : (rows : List StdRow) → list_any (λ r. is_negative (entry r 0)) (map (λ r. r ++ negation one_value ∷ []) (map (λ row. row.rhs ∷ row.coefs) rows)) ≡ list_any (λ row. is_negative row.rhs) rows
rows_negative [] = refl
rows_negative (row ∷ rows) = ap (λ b. is_negative row.rhs || b) (rows_negative rows)

awaits_with : (s : Std) → needs_phase_one s ≡ true → awaits_artificial (with_artificial (without_artificial s)) ≡ true
unfolding with_artificial without_artificial
awaits_with s needed = rows_negative s.rows ∙ needed

pub awaits_opening : (s : Std) → needs_phase_one s ≡ true → awaits_artificial (opening s) ≡ true
awaits_opening s needed = ap awaits_artificial (opening-with s needed) ∙ awaits_with s needed

some_least : (first : ℕ) (rows : List StdRow) → list_any (λ row. is_negative row.rhs) rows ≡ true
    → (r : ℕ) × (option_map (λ row. row.row) (best_among side_before (rows_from 0 1 (numbers_from first (length rows)) (map (λ r. r ++ negation one_value ∷ []) (map (λ row. row.rhs ∷ row.coefs) rows)))) ≡ Some r)
some_least first [] h = absurd (true≢false (sym h))
some_least first (row ∷ rows) h = (_, refl)

least_with : (s : Std) → needs_phase_one s ≡ true → (r : ℕ) × (least_row (with_artificial (without_artificial s)) ≡ Some r)
unfolding with_artificial without_artificial least_row
least_with s needed = some_least (suc (length s.obj)) s.rows needed

pub least_opening : (s : Std) → needs_phase_one s ≡ true → (r : ℕ) × (least_row (opening s) ≡ Some r)
least_opening s needed = let found = least_with s needed in (found.0, ap least_row (opening-with s needed) ∙ found.1)

-- ---- the variables of an opening in phase one

record Columns (s : Std) (d : Dictionary) : Type 0 where
  contains : Contains d.nonbasic 0
  numbered : (i : ℕ) → i < length s.obj → slice_index d.nonbasic i ≡ 1 + i
  long : length d.nonbasic ≡ suc (length s.obj)

columns_with : (s : Std) → Columns s (with_artificial (without_artificial s))
unfolding with_artificial without_artificial
columns_with s =
    let n = length s.obj in
    let numbers = numbers_from 1 n in
    let size = length-numbers_from 1 n in
    let more = length-append numbers (0 ∷ []) in
    record {
      contains = (n, omega (arith, size, more), get_or_push numbers 0 0 n size);
      numbered = λ i within. get_or_append_left numbers (0 ∷ []) 0 i (omega (arith, within, size)) ∙ get_or-numbers_from 1 n i 0 within;
      long = omega (arith, size, more);
    }

row_said : (s : Std) (k : ℕ) (row : StdRow) (x : Point) → k < length s.rows → slice_index_or s.rows k row ≡ row → Solves (with_artificial (without_artificial s)) x
    → x (slice_index (with_artificial (without_artificial s)).basic k) ≡ told x (numbers_from 1 (length s.obj) ++ 0 ∷ []) (with_entry row)
unfolding with_artificial without_artificial
row_said s k row x within is solves =
    let d = with_artificial (without_artificial s) in
    let plain = map (λ r. r.rhs ∷ r.coefs) s.rows in
    let size = length-map s.rows (λ r. r.rhs ∷ r.coefs) in
    true_from_solves d x solves k (omega (arith, within, length-numbers_from (suc (length s.obj)) (length s.rows)))
    ∙ ap (told x (numbers_from 1 (length s.obj) ++ 0 ∷ []))
    (get_or-map (λ r. r ++ negation one_value ∷ []) plain k [] [] (omega (arith, within, size))
    ∙ ap (λ r. r ++ negation one_value ∷ []) (get_or-map (λ r. r.rhs ∷ r.coefs) s.rows k row [] within ∙ ap (λ r. r.rhs ∷ r.coefs) is))

-- where the columns are 0, a row's slack is its side and the artificial variable
told_with : (x : Point) (n : ℕ) (row : StdRow) → length row.coefs ≡ n → IsInLowestTerms (x 0) → ((i : ℕ) → i < n → x (1 + i) ≡ zero_value) → told x (numbers_from 1 n ++ 0 ∷ []) (with_entry row) ≡ row.rhs ⊕ x 0
told_with x n row same low none =
    let numbers = numbers_from 1 n in
    let size = length-numbers_from 1 n in
    let own = negation one_value ⊗ x 0 in
    let columns : sum_at x (numbers ++ 0 ∷ []) (row.coefs ++ negation one_value ∷ []) ≡ own =
    sum_at-middle x numbers [] row.coefs [] 0 (negation one_value) (same ∙ sym size)
    ∙ ap (λ t. (t ⊕ zero_value) ⊕ own) (sum_at-none x numbers row.coefs (λ k below. let inside : k < n = omega (arith, below, size) in ap x (get_or-numbers_from 1 n k 0 inside) ∙ none k inside))
    ∙ ap (λ t. t ⊕ own) (exact_sum-zero_right zero_value apart_of-zero) ∙ exact_sum-zero_left own (apart_of-product (negation one_value) (x 0)) in
    ap (λ t. row.rhs ⊕ t)
    (ap minus columns ∙ minus_is own ∙ ap negation (exact_product-negation_left one_value (x 0)) ∙ negation-negation (one_value ⊗ x 0) ∙ exact_product-one_left (x 0) low)

below_from_negative : (x : Fraction) → is_negative x ≡ true → IsBelow x zero_value
below_from_negative x h = (below_zero x).1 (by_sign x.num h)
  where
    by_sign : (n : ℤ) → is_below_zero n ≡ true → n <ℤ pos 0
    by_sign (pos n) e = absurd (true≢false (sym e))
    by_sign (negsuc n) e = omega (arith, ints)

-- ---- the pivot

-- where a pivot brings in the artificial variable
record BringsIn (i : ℕ) (s : Std) (d e : Dictionary) : Type 0 where
  turns : Turns i (position_or_len (λ v. v == 0) d.nonbasic) d e
  lawful : IsLawful e
  constants : HasFeasibleConstants e
  solves : (x : Point) → Solves e x → Solves d x

own_columns : (i : ℕ) (s : Std) (d e : Dictionary) → Columns s d → BringsIn i s d e → (k : ℕ) → k < length s.obj → own_point e (1 + k) ≡ zero_value
own_columns i s d e columns h k within =
    let j = position_or_len (λ v. v == 0) d.nonbasic in
    let turns = h.turns in
    let long = columns.long in
    let column_within = turns.column_within in
    let is_zero : slice_index d.nonbasic j ≡ 0 = eqb-true _ _ (passes_at_first (λ v. v == 0) d.nonbasic 0 column_within) in
    let here = columns.numbered k within in
    let other : k ≡ j → ⊥ = λ e. let zero_here : slice_index d.nonbasic k ≡ 0 = ap (slice_index d.nonbasic) e ∙ is_zero in omega (arith, here, zero_here) in
    let is : slice_index e.nonbasic k ≡ 1 + k = ap (λ f. slice_index f.nonbasic k) turns.is_made ∙ get_or-set_other d.nonbasic j k (slice_index d.basic i) 0 other ∙ here in
    let size : length e.nonbasic ≡ length d.nonbasic = ap (λ f. length f.nonbasic) turns.is_made ∙ length-set d.nonbasic j (slice_index d.basic i) in
    ap (own_point e) (sym is) ∙ own_point-nonbasic e k h.lawful (omega (arith, within, long, size))

above_by : (i : ℕ) (s : Std) (e : Dictionary) → IsUniform s → HasReducedNumbers s → needs_phase_one s ≡ true → BringsIn i s (with_artificial (without_artificial s)) e → IsBelow zero_value (own_point e 0)
above_by i s e uniform low needed h =
    let d = with_artificial (without_artificial s) in
    let some = Any-from_list_any (λ row. is_negative row.rhs) s.rows needed in
    let k = some.0 in
    let row = some.1 in
    let x = own_point e in
    let feasible = own_point-feasible e h.lawful h.constants in
    let reduced : IsInLowestTerms row.rhs = subst (λ r. IsInLowestTerms r.rhs) some.3 (low.sides k row some.2) in
    let size : length row.coefs ≡ length s.obj = ap (λ r. length r.coefs) (sym some.3) ∙ uniform.coefs k row some.2 in
    let slack : x (slice_index d.basic k) ≡ row.rhs ⊕ x 0 =
    row_said s k row x some.2 some.3 (h.solves x feasible.solves) ∙ told_with x (length s.obj) row size (feasible.solves.reduced 0) (own_columns i s d e (columns_with s) h) in
    let high : IsAtMost zero_value (row.rhs ⊕ x 0) = subst (IsAtMost zero_value) slack (feasible.at_least_zero (slice_index d.basic k)) in
    ⊎_elim (λ above. above)
    (λ (most : IsAtMost (x 0) zero_value).
    absurd (IsBelow-not row.rhs zero_value (below_from_negative row.rhs some.4)
    (IsAtMost_trans zero_value (row.rhs ⊕ x 0) row.rhs high (subst (IsAtMost (row.rhs ⊕ x 0)) (exact_sum-zero_right row.rhs reduced) (IsAtMost-sums row.rhs row.rhs (x 0) zero_value (IsAtMost-self row.rhs) most)))))
    (cases_below zero_value (x 0))

first_artificial : (i : ℕ) (s : Std) (e : Dictionary) → IsUniform s → HasReducedNumbers s → needs_phase_one s ≡ true → BringsIn i s (with_artificial (without_artificial s)) e → HasArtificialAbove e
first_artificial i s e uniform low needed h =
    let d = with_artificial (without_artificial s) in
    let j = position_or_len (λ v. v == 0) d.nonbasic in
    let turns = h.turns in
    let row_within = turns.row_within in
    let is_zero : slice_index d.nonbasic j ≡ 0 = eqb-true _ _ (passes_at_first (λ v. v == 0) d.nonbasic 0 turns.column_within) in
    let size : length e.basic ≡ length d.basic = ap (λ f. length f.basic) turns.is_made ∙ length-set d.basic i (slice_index d.nonbasic j) in
    let within : i < length e.basic = omega (arith, size, row_within) in
    let here : slice_index e.basic i ≡ 0 = ap (λ f. slice_index f.basic i) turns.is_made ∙ get_or-set_same d.basic i (slice_index d.nonbasic j) 0 row_within ∙ is_zero in
    record {
      place = i;
      within = within;
      is_artificial = here;
      above = subst (IsBelow zero_value) (ap (own_point e) (sym here) ∙ own_point-basic e i h.lawful within) (above_by i s e uniform low needed h);
    }

pub some_value : {A : Type 0} (o : Option A) → is_some o ≡ true → (a : A) × (o ≡ Some a)
some_value None h = absurd (true≢false (sym h))
some_value (Some a) h = (a, refl)

has_w : (d : Dictionary) → is_some (with_artificial d).auxiliary ≡ true
unfolding with_artificial
has_w d = refl

record StandsInPhaseOne (s : Std) (e : Dictionary) : Type 0 where
  relaxes : Relaxes s e
  row : List Fraction
  phase : IsInPhaseOne e row

-- Where phase one opens, what comes after the first pivot is in phase one still.
first_reached : (s : Std) (r : ℕ) (e : Dictionary) → IsUniform s → HasReducedNumbers s → needs_phase_one s ≡ true
    → (let d = with_artificial (without_artificial s) in Pivots r (artificial_column d) d e) → HasFeasibleConstants e → IsPhaseOne (with_artificial (without_artificial s)) → StandsInPhaseOne s e
first_reached s zero e uniform low needed p constants phase = absurd (let above = p.row_above in omega (arith, above))
first_reached s (suc i) e uniform low needed p constants phase =
    let d = with_artificial (without_artificial s) in
    let before = relaxes-with s uniform low in
    let turns = turn i (position_or_len (λ v. v == 0) d.nonbasic) d e before.lawful p in
    let relaxes = relaxes-pivot s (suc i) (artificial_column d) d e before p in
    let some = some_value e.auxiliary (ap (λ f. is_some f.auxiliary) turns.is_made ∙ some-map _ d.auxiliary ∙ has_w (without_artificial s)) in
    record {
      relaxes = relaxes;
      row = some.0;
      phase = record {
        is_w = some.1;
        negation = IsPhaseOne-kept (suc i) (artificial_column d) d e before.lawful p phase;
        constants = constants;
        artificial = first_artificial i s e uniform low needed record { turns = turns; lawful = relaxes.lawful; constants = constants; solves = λ x. (solutions_kept (suc i) (artificial_column d) d e x before.lawful p).1 };
      };
    }

artificial_basic : (s : Std) (e : Dictionary) → HasArtificialAbove e → settled e ≡ e
artificial_basic s e h = settled_one e (is_basic-from e 0 h.place h.within h.is_artificial)

pub artificial_step : (s : Std) (f : Dictionary) → IsUniform s → HasReducedNumbers s → needs_phase_one s ≡ true → next artificial (opening s) ≡ Ok f → Reached s f
unfolding next
artificial_step s f uniform low needed h =
    let d = opening s in
    let made = through (pivoted artificial d) _ f h in
    let found = least_opening s needed in
    let is_pivot : pivot found.0 (artificial_column d) d ≡ Ok made.value = subst (λ o. pivot (unwrap_or o 0) (artificial_column d) d ≡ Ok made.value) found.1 made.first in
    let p = opening_pivots s found.0 made.value uniform low needed found.1 is_pivot in
    let constants = opening_feasible s found.0 made.value uniform low needed found.1 is_pivot in
    let is = opening-with s needed in
    let reached = first_reached s found.0 made.value uniform low needed (subst (λ e. Pivots found.0 (artificial_column e) e made.value) is p) constants (subst IsPhaseOne is (phase_one-opening s uniform needed)) in
    subst (Reached s) (sym (artificial_basic s made.value reached.phase.artificial) ∙ same_ok _ _ made.rest) record { relaxes = reached.relaxes; phase = in_phase_one reached.row reached.phase }
