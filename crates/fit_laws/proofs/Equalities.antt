-- The two rows of an equality never both have a weight in phase two: with both slacks nonbasic one could be 1 and the other 0.
use Rattle.std.specs.Prelude.{flat_map, sum_by, unwrap_or}
use Rattle.std.specs.Ordering.{int_eq}
use Rattle.std.proofs.Common.{◌≡◌, ◌∙◌, ◌⊎◌, ⊎_elim, inl, inr, sym, ap, ℕ, suc, ◌+◌, ◌<◌, ◌≤◌, cond, List, length, get_or, slice_index, Some, None, pos, arith, eqb-true, ◌==◌, [], ◌∷◌, ◌++◌, All, append_assoc, drop, refl, subst, true, Ok, ◌≢◌, Bool, true≢false, false, ℤ}
use Rattle.std.proofs.lemmas.Int.{ints}
use Rattle.std.proofs.lemmas.Bool.{cases_lt, le-ltb, lt-ltb}
use Rattle.std.proofs.lemmas.List.{get_or-map, get_or_past}
use Rattle.std.proofs.lemmas.List.Sums.{passes_at_first}
use Rattle.std.proofs.lemmas.Bool.Decides.{Decides-int_eq}
use Rattle.frac128.specs.Fraction.{Fraction, negation, one_value, zero_value, exact_difference, exact_quotient, inverse}
use Rattle.frac128.specs.Checked.{checked_difference, value_or_wide, ◌>>=◌}
use Rattle.frac128.specs.Fits.{difference_fits}
use Rattle.frac128.specs.Lowest.{IsInLowestTerms, IsKept}
use Rattle.frac128.specs.declared.operations.Op.TheVariants.{Sub}
use Rattle.frac128.specs.Order.{IsAtMost}
use Rattle.frac128.proofs.Field.{apart_of-one, apart_of-product, negation-negation, negation-sum, exact_product-zero_right, exact_product_comm, exact_quotient-product, exact_sum-zero_left}
use Rattle.frac128.proofs.Kept.{FitsDifference-zero_left, FitsDifference-zero_right, IsKept-zero}
use Rattle.frac128.proofs.Ordered.{IsAtMost-self, IsBelow-not}
use Rattle.frac128.proofs.Sums.{minus, sum-minus, ◌⊕◌, ◌⊗◌}
use Rattle.frac128.proofs.Chains.{same_ok, through}
use Rattle.model_data.specs.Size.{rows_of_sense}
use Rattle.model_data.specs.declared.model.Model.{Model}
use Rattle.model_data.specs.declared.model.Row.{Row}
use Rattle.model_data.specs.declared.model.Sense.{Sense}
use Rattle.model_data.specs.declared.model.Sense.TheVariants.{Equal, Greater, Less}
use Rattle.model_data.specs.declared.solution.Weights.{Weights}
use Rattle.dictionary.specs.declared.standard.Std.{Std}
use Rattle.dictionary.specs.declared.standard.StdRow.{StdRow}
use Rattle.dictionary.specs.Dictionary.{Dictionary, numbers_from, each, entry}
use Rattle.dictionary.proofs.Opened.{length-numbers_from}
use Rattle.dictionary.proofs.Points.FreeRise.{along, along-absent, along-basic, along-nonbasic, along-own, along-solves}
use Rattle.dictionary.proofs.Points.OwnPoint.{place_of, constants-reduced}
use Rattle.dictionary.proofs.Points.Lawful.{IsWide}
use Rattle.dictionary.proofs.Points.PhaseOne.{auxiliary_all}
use Rattle.dictionary.proofs.Points.Opening.{get_or-numbers_from}
use Rattle.solve_defs.specs.Columns.{columns_sum}
use Rattle.solve_defs.specs.Ends.{duals, weight_in, weight_of, dual_of, farkas_of}
use Rattle.solve_defs.specs.StandardForm.{negated, Shape, by_sense, low_weights, numbered, up_weights, row_entries, row_weight, row_weights, rows_of, shapes_of, side_less, standard_form, weights_back}
use Rattle.solve_defs.specs.Values.{value_at}
use Rattle.solve_defs.specs.declared.cut.Cut.{Cut}
use Rattle.solve_defs.proofs.FormSums.{columns_sum-negation}
use Rattle.solve_defs.proofs.FormLists.{at_drop}
use Rattle.solve_defs.proofs.FormValues.{parts}
use Rattle.relaxation_laws.specs.FormPoints.{columns_of}
use Rattle.relaxation_laws.specs.Reached.{IsInPhaseTwo, Relaxes, IsInPhaseOne}
use Rattle.relaxation_laws.proofs.Bridge.{left_over, solution_rows}
use Rattle.relaxation_laws.proofs.Priced.{ys_are}
use Rattle.relaxation_laws.proofs.Artificial.{basic_column}
use Rattle.relaxation_laws.proofs.BackLooks.{none_low}

-- a variable without a column has no weight
unweighed : (d : Dictionary) (row : List Fraction) (u : ℕ) → length d.nonbasic ≤ place_of d.nonbasic u → weight_of d row u ≡ zero_value
unweighed d row u past = ap (λ b. weight_in row (cond b (Some (place_of d.nonbasic u)) None)) (le-ltb (place_of d.nonbasic u) (length d.nonbasic) past)

negated_left : (ys : List Fraction) (row : StdRow) → left_over ys (negated row) ≡ negation (left_over ys row)
negated_left ys row = ap (λ t. negation row.rhs ⊕ negation t) (columns_sum-negation row.coefs ys) ∙ sym (negation-sum row.rhs (negation (columns_sum row.coefs ys)))

never_both : (s : Std) (d : Dictionary) (i : ℕ) (row : StdRow) → Relaxes s d → IsInPhaseTwo d → suc i < length s.rows → get_or s.rows (suc i) row ≡ negated (get_or s.rows i row)
    → (let u = suc (length s.obj) + i in let v = suc (length s.obj) + suc i in place_of d.nonbasic u < length d.nonbasic → place_of d.nonbasic v < length d.nonbasic → ⊥)
never_both s d i row h phase within turned at_u at_v =
    let u = suc (length s.obj) + i in
    let v = suc (length s.obj) + suc i in
    let p = place_of d.nonbasic u in
    let q = place_of d.nonbasic v in
    let lawful = h.lawful in
    let is_u : slice_index d.nonbasic p ≡ u = eqb-true _ _ (passes_at_first (λ w. w == u) d.nonbasic 0 at_u) in
    let is_v : slice_index d.nonbasic q ≡ v = eqb-true _ _ (passes_at_first (λ w. w == v) d.nonbasic 0 at_v) in
    let apart : q ≡ p → ⊥ = λ e. let same : v ≡ u = sym is_v ∙ ap (slice_index d.nonbasic) e ∙ is_u in omega (arith, same) in
    let x = along p one_value d in
    let none = along-absent p one_value d lawful at_u phase.others in
    let solves = (h.solutions x none).0 (along-solves p one_value d lawful at_u apart_of-one) in
    let x_u : x u ≡ one_value = ap x (sym is_u) ∙ along-own p one_value d in
    let x_v : x v ≡ zero_value = ap x (sym is_v) ∙ along-nonbasic p q one_value d lawful at_u at_v apart in
    let ys = columns_of s x in
    let left : x u ≡ left_over ys (get_or s.rows i row) = solution_rows s x i row solves (omega (arith, within)) in
    let right : x v ≡ negation (left_over ys (get_or s.rows i row)) = solution_rows s x (suc i) row solves within ∙ ap (left_over ys) turned ∙ negated_left ys (get_or s.rows i row) in
    let whole : one_value ≡ zero_value = sym x_u ∙ left ∙ sym (negation-negation (left_over ys (get_or s.rows i row))) ∙ ap negation (sym right ∙ x_v) in
    one_is_not (ap (λ y. y.num) whole)
  where
    one_is_not : pos 1 ≡ pos 0 → ⊥
    one_is_not e = omega (arith, ints, e)

weight_at : (s : Std) (d : Dictionary) (line : List Fraction) (k : ℕ) → Relaxes s d → k < length s.rows → value_at (duals d line).ys k ≡ weight_of d line (suc (length s.obj) + k)
weight_at s d line k h within =
    let n = suc (length s.obj) in
    let m = length s.rows in
    ap (λ ys. value_at ys k) (ys_are s d line h)
    ∙ get_or-map (weight_of d line) (numbers_from n m) k 0 zero_value (omega (arith, within, length-numbers_from n m)) ∙ ap (weight_of d line) (get_or-numbers_from n m k 0 within)

pub weighs_once : (s : Std) (d : Dictionary) (line : List Fraction) (i : ℕ) (row : StdRow) → Relaxes s d → IsInPhaseTwo d → suc i < length s.rows → get_or s.rows (suc i) row ≡ negated (get_or s.rows i row)
    → (value_at (duals d line).ys i ≡ zero_value) ⊎ (value_at (duals d line).ys (suc i) ≡ zero_value)
weighs_once s d line i row h phase within turned =
    let u = suc (length s.obj) + i in
    let v = suc (length s.obj) + suc i in
    ⊎_elim
    (λ at_u. ⊎_elim
    (λ at_v. absurd (never_both s d i row h phase within turned at_u at_v))
    (λ past. inr (weight_at s d line (suc i) h within ∙ unweighed d line v past))
    (cases_lt (place_of d.nonbasic v) (length d.nonbasic)))
    (λ past. inl (weight_at s d line i h (omega (arith, within)) ∙ unweighed d line u past))
    (cases_lt (place_of d.nonbasic u) (length d.nonbasic))

-- ---- in phase one

-- Where the slack of one row has a coefficient in w, a solution with the artificial variable at 0 has that slack at a value that is
-- not 0; so the other row's slack is not nonbasic.
never_both_one : (s : Std) (d : Dictionary) (w : List Fraction) (i : ℕ) (row : StdRow) → Relaxes s d → IsInPhaseOne d w → suc i < length s.rows → get_or s.rows (suc i) row ≡ negated (get_or s.rows i row)
    → (let u = suc (length s.obj) + i in let v = suc (length s.obj) + suc i in place_of d.nonbasic u < length d.nonbasic → place_of d.nonbasic v < length d.nonbasic
    → (entry w (suc (place_of d.nonbasic u))).num ≢ pos 0 → ⊥)
never_both_one s d w i row h phase within turned at_u at_v some =
    let u = suc (length s.obj) + i in
    let v = suc (length s.obj) + suc i in
    let p = place_of d.nonbasic u in
    let q = place_of d.nonbasic v in
    let lawful = h.lawful in
    let same = lawful.shape.rows in
    let own = phase.artificial in
    let own_within = own.within in
    let own_row = get_or d.rows own.place [] in
    let k = entry own_row 0 in
    let a = entry own_row (suc p) in
    let is_a : entry w (suc p) ≡ a = basic_column own.place p d w lawful phase.negation phase.is_w own_within own.is_artificial at_u in
    let some_a : a.num ≢ pos 0 = subst (λ y. y.num ≢ pos 0) is_a some in
    let low_k = constants-reduced d lawful own.place [] (omega (arith, same, own_within)) in
    let t = exact_quotient k a in
    let low_t : IsInLowestTerms t = apart_of-product k (inverse a) in
    let back : a ⊗ t ≡ k = exact_product_comm a t ∙ exact_quotient-product k a low_k some_a in
    let is_u : slice_index d.nonbasic p ≡ u = eqb-true _ _ (passes_at_first (λ w2. w2 == u) d.nonbasic 0 at_u) in
    let is_v : slice_index d.nonbasic q ≡ v = eqb-true _ _ (passes_at_first (λ w2. w2 == v) d.nonbasic 0 at_v) in
    let apart : q ≡ p → ⊥ = λ e. let equal : v ≡ u = sym is_v ∙ ap (slice_index d.nonbasic) e ∙ is_u in omega (arith, equal) in
    let x = along p t d in
    let none : x 0 ≡ zero_value = ap x (sym own.is_artificial) ∙ along-basic p own.place t d lawful at_u own_within ∙ ap (λ y. k ⊕ minus y) back ∙ sum-minus k in
    let solves = (h.solutions x none).0 (along-solves p t d lawful at_u low_t) in
    let x_u : x u ≡ t = ap x (sym is_u) ∙ along-own p t d in
    let x_v : x v ≡ zero_value = ap x (sym is_v) ∙ along-nonbasic p q t d lawful at_u at_v apart in
    let ys = columns_of s x in
    let left : x u ≡ left_over ys (get_or s.rows i row) = solution_rows s x i row solves (omega (arith, within)) in
    let right : x v ≡ negation (left_over ys (get_or s.rows i row)) = solution_rows s x (suc i) row solves within ∙ ap (left_over ys) turned ∙ negated_left ys (get_or s.rows i row) in
    let is_none : t ≡ zero_value = sym x_u ∙ left ∙ sym (negation-negation (left_over ys (get_or s.rows i row))) ∙ ap negation (sym right ∙ x_v) in
    let k_none : zero_value ≡ k = sym (exact_product-zero_right a) ∙ ap (λ y. a ⊗ y) (sym is_none) ∙ back in
    IsBelow-not zero_value k own.above (subst (λ y. IsAtMost y zero_value) k_none (IsAtMost-self zero_value))

-- a coefficient of 0 weighs nothing
weighs_none : (d : Dictionary) (line : List Fraction) (u : ℕ) → IsInLowestTerms (entry line (suc (place_of d.nonbasic u))) → place_of d.nonbasic u < length d.nonbasic → (entry line (suc (place_of d.nonbasic u))).num ≡ pos 0
    → weight_of d line u ≡ zero_value
weighs_none d line u low within none =
    ap (λ b. weight_in line (cond b (Some (place_of d.nonbasic u)) None)) (lt-ltb (place_of d.nonbasic u) (length d.nonbasic) within)
    ∙ ap negation (sym (exact_sum-zero_left (entry line (suc (place_of d.nonbasic u))) low) ∙ none_low (entry line (suc (place_of d.nonbasic u))) none)

pub weighs_once_one : (s : Std) (d : Dictionary) (w : List Fraction) (i : ℕ) (row : StdRow) → Relaxes s d → IsInPhaseOne d w → suc i < length s.rows → get_or s.rows (suc i) row ≡ negated (get_or s.rows i row)
    → (value_at (duals d w).ys i ≡ zero_value) ⊎ (value_at (duals d w).ys (suc i) ≡ zero_value)
weighs_once_one s d w i row h phase within turned =
    let u = suc (length s.obj) + i in
    let v = suc (length s.obj) + suc i in
    let lawful = h.lawful in
    let wide = auxiliary_all (IsWide (length d.nonbasic)) d w lawful.shape.auxiliary_entries phase.is_w in
    let low = auxiliary_all (All IsInLowestTerms) d w lawful.reduced.auxiliary phase.is_w in
    ⊎_elim
    (λ at_u. ⊎_elim
    (λ at_v. inl (weight_at s d w i h (omega (arith, within)) ∙ weighs_none d w u (low (suc (place_of d.nonbasic u)) zero_value (omega (arith, wide, at_u))) at_u (not_not (never_both_one s d w i row h phase within turned at_u at_v))))
    (λ past. inr (weight_at s d w (suc i) h within ∙ unweighed d w v past))
    (cases_lt (place_of d.nonbasic v) (length d.nonbasic)))
    (λ past. inl (weight_at s d w i h (omega (arith, within)) ∙ unweighed d w u past))
    (cases_lt (place_of d.nonbasic u) (length d.nonbasic))
  where
    not_not : {n : ℤ} → (n ≢ pos 0 → ⊥) → n ≡ pos 0
    not_not {n = n} h2 = by_test (int_eq n (pos 0)) refl
      where
        by_test : (b : Bool) → int_eq n (pos 0) ≡ b → n ≡ pos 0
        by_test true e = (Decides-int_eq n (pos 0)).0 e
        by_test false e = absurd (h2 (λ same. true≢false (sym ((Decides-int_eq n (pos 0)).1 same) ∙ e)))

-- ---- the weights come back

-- what is given of two rows that follow each other
abbrev pub WeighsOnce : List StdRow → List Fraction → Type 0
WeighsOnce rows ys = (i : ℕ) (row : StdRow) → suc i < length rows → get_or rows (suc i) row ≡ negated (get_or rows i row) → (value_at ys i ≡ zero_value) ⊎ (value_at ys (suc i) ≡ zero_value)

kept_at : (ys : List Fraction) (i : ℕ) → All IsKept ys → IsKept (value_at ys i)
kept_at ys i kept = ⊎_elim (λ within. kept i zero_value within) (λ past. subst IsKept (sym (get_or_past ys i zero_value past)) IsKept-zero) (cases_lt i (length ys))

difference_made : (x y : Fraction) → IsKept x → IsKept y → (x ≡ zero_value) ⊎ (y ≡ zero_value) → (w : Fraction) × (checked_difference x y ≡ Ok w)
difference_made x y kept_x kept_y one = (
  exact_difference x y,
  ap (λ b. value_or_wide b (exact_difference x y) Sub x y)
      (⊎_elim (λ none. subst (λ z. difference_fits z y ≡ true) (sym none) (FitsDifference-zero_left y kept_y)) (λ none. subst (λ z. difference_fits x z ≡ true) (sym none) (FitsDifference-zero_right x kept_x)) one),
)

rows_come : (shapes : List Shape) (all : List StdRow) (ys : List Fraction) → WeighsOnce all ys → All IsKept ys → (rows : List Row) (made : List (List StdRow)) (rest : List StdRow) (place : ℕ) → each (rows_of shapes) rows ≡ Ok made
    → drop place all ≡ flat_map (λ same. same) made ++ rest → (ws : List Fraction) × (row_weights place rows ys ≡ Ok ws)
rows_come shapes all ys once kept [] made rest place h at = ([], refl)
rows_come shapes all ys once kept (row ∷ rows) made rest place h at =
    let first = through (rows_of shapes row) _ made h in
    let others = through (each (rows_of shapes) rows) _ made first.rest in
    let side = through (side_less shapes row.rhs row.terms) _ first.value first.first in
    let own : StdRow = record { coefs = row_entries shapes row.terms; rhs = side.value } in
    let flat = flat_map (λ same. same) others.value in
    let whole : drop place all ≡ by_sense row.sense own ++ (flat ++ rest) =
    at ∙ ap (λ parts. flat_map (λ same. same) parts ++ rest) (sym (same_ok (first.value ∷ others.value) made others.rest))
    ∙ ap (λ front. (front ++ flat) ++ rest) (sym (same_ok (by_sense row.sense own) first.value side.rest)) ∙ append_assoc (by_sense row.sense own) flat rest in
    let here = own_come row.sense own (flat ++ rest) place whole in
    let later = rows_come shapes all ys once kept rows others.value rest (place + rows_of_sense row.sense) others.first here.2 in
    (here.0 ∷ later.0, ap (λ r. r >>= (λ w. row_weights (place + rows_of_sense row.sense) rows ys >>= (λ ws. Ok (w ∷ ws)))) here.1 ∙ ap (λ r. r >>= (λ ws. Ok (here.0 ∷ ws))) later.1)
  where
    own_come : (sense : Sense) (o : StdRow) (behind : List StdRow) (p : ℕ) → drop p all ≡ by_sense sense o ++ behind → (w : Fraction) × (row_weight sense (value_at ys p) (value_at ys (suc p)) ≡ Ok w) × (drop (p + rows_of_sense sense) all ≡ behind)
    own_come Less o behind p e = let next = at_drop all p o o behind e in let one : p + 1 ≡ suc p = omega arith in (value_at ys p, refl, ap (λ k. drop k all) one ∙ next.1)
    own_come Greater o behind p e = let next = at_drop all p o (negated o) behind e in let one : p + 1 ≡ suc p = omega arith in (negation (value_at ys p), refl, ap (λ k. drop k all) one ∙ next.1)
    own_come Equal o behind p e =
        let next = at_drop all p o o (negated o ∷ behind) e in
        let after = at_drop all (suc p) o (negated o) behind next.1 in
        let two : p + 2 ≡ suc (suc p) = omega arith in
        let made = difference_made (value_at ys p) (value_at ys (suc p)) (kept_at ys p kept) (kept_at ys (suc p) kept) (once p o after.2 (after.0 ∙ ap negated (sym next.0))) in
        (made.0, made.1, ap (λ k. drop k all) two ∙ after.1)

abbrev weights_of : Model → List Shape → List Fraction → List Fraction → List Fraction → Weights
weights_of m shapes ys reduced ws = record {
  rows = numbered 1 ws;
  lows = numbered 1 (low_weights 0 shapes reduced);
  ups = numbered 1 (up_weights (sum_by (λ row. rows_of_sense row.sense) m.rows) 0 shapes ys reduced);
}

-- Where no equality has two weights, and each weight fits, the weights come back.
pub weights_come : (m : Model) (cuts : List Cut) (s : Std) (ys reduced : List Fraction) → standard_form m cuts ≡ Ok s → WeighsOnce s.rows ys → All IsKept ys
    → (weights : Weights) × (weights_back m (shapes_of m cuts) ys reduced ≡ Ok weights)
unfolding weights_back
weights_come m cuts s ys reduced form once kept =
    let p = parts m cuts s form in
    let rows = rows_come (shapes_of m cuts) s.rows ys once kept m.rows p.rows p.spans 0 p.rows_are (sym p.form_rows) in
    let shapes = shapes_of m cuts in
    (weights_of m shapes ys reduced rows.0, ap (λ r. r >>= (λ ws. Ok (weights_of m shapes ys reduced ws))) rows.1)

pub best_weights_come : (m : Model) (cuts : List Cut) (s : Std) (d : Dictionary) → standard_form m cuts ≡ Ok s → Relaxes s d → IsInPhaseTwo d → All IsKept (dual_of d).ys
    → (weights : Weights) × (weights_back m (shapes_of m cuts) (dual_of d).ys (dual_of d).reduced ≡ Ok weights)
unfolding dual_of
best_weights_come m cuts s d form h phase kept = weights_come m cuts s (duals d d.objective).ys (duals d d.objective).reduced form (λ i row within turned. weighs_once s d d.objective i row h phase within turned) kept

pub farkas_weights_come : (m : Model) (cuts : List Cut) (s : Std) (d : Dictionary) (w : List Fraction) → standard_form m cuts ≡ Ok s → Relaxes s d → IsInPhaseOne d w → All IsKept (farkas_of d).ys
    → (weights : Weights) × (weights_back m (shapes_of m cuts) (farkas_of d).ys (farkas_of d).reduced ≡ Ok weights)
unfolding farkas_of
farkas_weights_come m cuts s d w form h phase kept =
    weights_come m cuts s (duals d (unwrap_or d.auxiliary [])).ys (duals d (unwrap_or d.auxiliary [])).reduced form
    (λ i row within turned. subst (λ o. (value_at (duals d (unwrap_or o [])).ys i ≡ zero_value) ⊎ (value_at (duals d (unwrap_or o [])).ys (suc i) ≡ zero_value)) (sym phase.is_w) (weighs_once_one s d w i row h phase within turned)) kept
