-- A direction of the columns, brought back to the model, is a ray of a certificate whose looks hold.
use Rattle.std.specs.Prelude.{◌||◌, IfSome, flat_map, is_none, zip, ◌&&◌}
use Rattle.std.specs.List.{AllZip, enumerate_from}
use Rattle.std.proofs.Common.{◌≡◌, ◌∙◌, refl, sym, ap, ap₂, subst, ℕ, suc, ◌+◌, ◌<◌, Bool, true, false, List, [], ◌∷◌, ◌++◌, length, map, drop, All, Option, Some, None, IsTrue, Ok, arith}
use Rattle.std.proofs.lemmas.List.{length-map}
use Rattle.std.proofs.lemmas.List.Elements.{All-append, All-cons, All-nil}
use Rattle.std.proofs.lemmas.List.Sums.{sum_by-cons}
use Rattle.frac128.specs.Checked.{checked_difference, ◌>>=◌}
use Rattle.frac128.specs.Fraction.{Fraction, exact_difference, negation, zero_value}
use Rattle.frac128.specs.Order.{IsAtMost, IsBelow}
use Rattle.frac128.specs.Lowest.{IsInLowestTerms}
use Rattle.frac128.proofs.Field.{exact_product-negation_left, exact_product-negation_right, exact_product-sum_right, exact_sum_assoc, exact_sum_comm, negation-negation}
use Rattle.frac128.proofs.Ordered.{IsAtMost-negation, IsAtMost_trans, IsBelow-negation, IsBelow_trans, IsBelow_trans_right}
use Rattle.frac128.proofs.Chains.{difference_is, same_ok, through}
use Rattle.frac128.proofs.Sums.{total, total-map, ◌⊕◌, ◌⊗◌}
use Rattle.model_data.specs.Lawful.{IsLawful}
use Rattle.model_data.specs.declared.model.Direction.{Direction}
use Rattle.model_data.specs.declared.model.Direction.TheVariants.{Maximize, Minimize}
use Rattle.model_data.specs.declared.model.Model.{Model}
use Rattle.model_data.specs.declared.model.Row.{Row}
use Rattle.model_data.specs.declared.model.Sense.{Sense}
use Rattle.model_data.specs.declared.model.Sense.TheVariants.{Equal, Greater, Less}
use Rattle.model_data.specs.declared.model.Term.{Term}
use Rattle.dictionary.specs.Dictionary.{each, numbers_from}
use Rattle.dictionary.specs.declared.standard.Std.{Std}
use Rattle.dictionary.specs.declared.standard.StdRow.{StdRow}
use Rattle.dictionary.proofs.Opened.{length-numbers_from}
use Rattle.solve_defs.specs.Bounds.{Bounds, effective_bounds}
use Rattle.solve_defs.specs.Certificates.{compares, gains, is_above, is_under, is_within, keeps_along, objective_steps, ray_bound, ray_gain, ray_looks, ray_row, row_steps, stays_within}
use Rattle.solve_defs.specs.Columns.{KeepsStdRow, columns_sum}
use Rattle.solve_defs.specs.Looks.{Holds as Looked, Look, plus_times, total_of}
use Rattle.solve_defs.specs.StandardForm.{Shape, by_sense, column_count, column_row, entries, free, mirrored, negated, point_back, ray_back, ray_value, row_entries, rows_of, shape_between, shapes_of, shifted, side_less, span_row, span_rows, standard_form, values_from, width}
use Rattle.solve_defs.specs.Values.{coefficient, is_at_most, turned, value_at}
use Rattle.solve_defs.specs.declared.cut.Cut.{Cut}
use Rattle.solve_defs.specs.declared.verdict.Place.TheVariants.{RayRow}
use Rattle.solve_defs.specs.declared.solving.StdRay.{StdRay}
use Rattle.solve_defs.proofs.FormBounds.{Within, shape_of, variables_back}
use Rattle.solve_defs.proofs.FormLaw.{point_back_is_exact, rises}
use Rattle.solve_defs.proofs.FormLists.{Each, at_drop, each_from_all, each_left, each_right}
use Rattle.solve_defs.proofs.FormPoints.{objective_coefs}
use Rattle.solve_defs.proofs.FormRows.{Holds, HoldsAt, IsRising, rows_back}
use Rattle.solve_defs.proofs.FormSums.{columns_sum-negation, one_column, terms_by_place, terms_sum}
use Rattle.solve_defs.proofs.FormValues.{parts}
use Rattle.solve_defs.proofs.LeafSums.{amount, total_of-steps}
use Rattle.solve_defs.proofs.FormSizes.{length-obj, length-shapes_of}
use Rattle.solve_defs.proofs.PointValues.{at_most_shown, below_shown}
use Rattle.relaxation_laws.specs.FormEnds.{IsStdRay}
use Rattle.relaxation_laws.proofs.Back.{turned_sum}
use Rattle.relaxation_laws.proofs.BackLooks.{same_at_most, show_same}

-- ---- the variables along a direction

abbrev pub exact_ray_value : Shape → Fraction → Fraction → Fraction
exact_ray_value (shifted l u) x y = x
exact_ray_value (mirrored u) x y = negation x
exact_ray_value free x y = exact_difference x y

abbrev pub exact_ray_from : ℕ → List Shape → List Fraction → List Fraction
exact_ray_from column [] ys = []
exact_ray_from column (shape ∷ shapes) ys = exact_ray_value shape (value_at ys column) (value_at ys (suc column)) ∷ exact_ray_from (column + width shape) shapes ys

ray_value_is : (shape : Shape) (x y z : Fraction) → ray_value shape x y ≡ Ok z → z ≡ exact_ray_value shape x y
ray_value_is (shifted l u) x y z h = sym (same_ok x z h)
ray_value_is (mirrored u) x y z h = sym (same_ok (negation x) z h)
ray_value_is free x y z h = difference_is x y z h

ray_values_are : (column : ℕ) (shapes : List Shape) (ys ray : List Fraction) → values_from ray_value column shapes ys ≡ Ok ray → ray ≡ exact_ray_from column shapes ys
ray_values_are column [] ys ray h = sym (same_ok [] ray h)
ray_values_are column (shape ∷ shapes) ys ray h =
    let own = through (ray_value shape (value_at ys column) (value_at ys (suc column))) _ ray h in
    let others = through (values_from ray_value (column + width shape) shapes ys) _ ray own.rest in
    sym (same_ok (own.value ∷ others.value) ray others.rest)
    ∙ ap₂ (λ x xs. x ∷ xs) (ray_value_is shape (value_at ys column) (value_at ys (suc column)) own.value own.first) (ray_values_are (column + width shape) shapes ys others.value others.first)

ray_is_exact : (shapes : List Shape) (ys ray : List Fraction) → ray_back shapes ys ≡ Ok ray → ray ≡ exact_ray_from 0 shapes ys
unfolding ray_back
ray_is_exact shapes ys ray h = ray_values_are 0 shapes ys ray h

length-ray : (column : ℕ) (shapes : List Shape) (ys : List Fraction) → length (exact_ray_from column shapes ys) ≡ length shapes
length-ray column [] ys = refl
length-ray column (shape ∷ shapes) ys = ap suc (length-ray (column + width shape) shapes ys)

one_on : (k : ℕ) → k + 1 ≡ suc k
one_on k = omega arith

two_on : (k : ℕ) → k + 2 ≡ suc (suc k)
two_on k = omega arith

-- coefficients of the variables along it are those of the columns
ray_sum : (shapes : List Shape) (column : ℕ) (cs ys zs : List Fraction) → drop column ys ≡ zs → length zs ≡ column_count shapes → length cs ≡ length shapes → columns_sum cs (exact_ray_from column shapes ys) ≡ columns_sum (entries shapes cs) zs
ray_sum [] column [] ys zs at long same = refl
ray_sum [] column (c ∷ cs) ys zs at long same = absurd (omega (arith, same))
ray_sum (shape ∷ shapes) column [] ys zs at long same = absurd (omega (arith, same))
ray_sum (shifted l u ∷ shapes) column (c ∷ cs) ys [] at long same = absurd (omega (arith, long, sum_by-cons width (shifted l u) shapes))
ray_sum (shifted l u ∷ shapes) column (c ∷ cs) ys (z ∷ zs) at long same =
    let here = at_drop ys column zero_value z zs at in
    ap₂ (λ x s. c ⊗ x ⊕ s) here.0 (ray_sum shapes (column + 1) cs ys zs (ap (λ k. drop k ys) (one_on column) ∙ here.1) (omega (arith, long, sum_by-cons width (shifted l u) shapes)) (omega (arith, same)))
ray_sum (mirrored u ∷ shapes) column (c ∷ cs) ys [] at long same = absurd (omega (arith, long, sum_by-cons width (mirrored u) shapes))
ray_sum (mirrored u ∷ shapes) column (c ∷ cs) ys (z ∷ zs) at long same =
    let here = at_drop ys column zero_value z zs at in
    ap₂ (λ x s. x ⊕ s) (ap (λ x. c ⊗ negation x) here.0 ∙ exact_product-negation_right c z ∙ sym (exact_product-negation_left c z))
    (ray_sum shapes (column + 1) cs ys zs (ap (λ k. drop k ys) (one_on column) ∙ here.1) (omega (arith, long, sum_by-cons width (mirrored u) shapes)) (omega (arith, same)))
ray_sum (free ∷ shapes) column (c ∷ cs) ys [] at long same = absurd (omega (arith, long, sum_by-cons width free shapes))
ray_sum (free ∷ shapes) column (c ∷ cs) ys (y ∷ []) at long same = absurd (omega (arith, long, sum_by-cons width free shapes))
ray_sum (free ∷ shapes) column (c ∷ cs) ys (y ∷ z ∷ zs) at long same =
    let here = at_drop ys column zero_value y (z ∷ zs) at in
    let next = at_drop ys (suc column) zero_value z zs here.1 in
    ap₂ (λ x s. x ⊕ s)
    (ap₂ (λ p q. c ⊗ (p ⊕ negation q)) here.0 next.0 ∙ exact_product-sum_right c y (negation z) ∙ ap (λ t. c ⊗ y ⊕ t) (exact_product-negation_right c z ∙ sym (exact_product-negation_left c z)))
    (ray_sum shapes (column + 2) cs ys zs (ap (λ k. drop k ys) (two_on column) ∙ next.1) (omega (arith, long, sum_by-cons width free shapes)) (omega (arith, same)))
    ∙ exact_sum_assoc (c ⊗ y) (negation c ⊗ z) (columns_sum (entries shapes cs) zs)

terms_along : (shapes : List Shape) (terms : List Term) (ys : List Fraction) → IsRising terms → length ys ≡ column_count shapes → terms_sum terms (exact_ray_from 0 shapes ys) ≡ columns_sum (row_entries shapes terms) ys
terms_along shapes terms ys rising long =
    let n = length shapes in
    let cs = map (coefficient terms) (numbers_from 0 n) in
    terms_by_place terms (exact_ray_from 0 shapes ys) rising ∙ ap (λ k. columns_sum (map (coefficient terms) (numbers_from 0 k)) (exact_ray_from 0 shapes ys)) (length-ray 0 shapes ys)
    ∙ ray_sum shapes 0 cs ys ys refl long (length-map (numbers_from 0 n) (coefficient terms) ∙ length-numbers_from 0 n)

-- ---- rows along it

abbrev Falls : List Fraction → StdRow → Type 0
Falls ys row = IsAtMost (columns_sum row.coefs ys) zero_value

abbrev KeepsAlong : Sense → Fraction → Type 0
KeepsAlong Less x = IsAtMost x zero_value
KeepsAlong Greater x = IsAtMost zero_value x
KeepsAlong Equal x = IsAtMost x zero_value × IsAtMost zero_value x

negated_falls : (coefs ys : List Fraction) (side : Fraction) → Falls ys (negated record { coefs = coefs; rhs = side }) → IsAtMost zero_value (columns_sum coefs ys)
negated_falls coefs ys side h =
    subst (IsAtMost zero_value) (negation-negation (columns_sum coefs ys)) (IsAtMost-negation (negation (columns_sum coefs ys)) zero_value (subst (λ x. IsAtMost x zero_value) (columns_sum-negation coefs ys) h))

sense_along : (sense : Sense) (coefs ys : List Fraction) (side : Fraction) → Each (Falls ys) (by_sense sense record { coefs = coefs; rhs = side }) → KeepsAlong sense (columns_sum coefs ys)
sense_along Less coefs ys side h = h.0
sense_along Greater coefs ys side h = negated_falls coefs ys side h.0
sense_along Equal coefs ys side h = (h.0, negated_falls coefs ys side h.1.0)

abbrev RowAlong : List Fraction → Row → Type 0
RowAlong ray row = KeepsAlong row.sense (terms_sum row.terms ray)

rows_along : (shapes : List Shape) (ys : List Fraction) → length ys ≡ column_count shapes → (rows : List Row) (made : List (List StdRow)) → Each (λ row. IsRising row.terms) rows → each (rows_of shapes) rows ≡ Ok made
    → Each (Falls ys) (flat_map (λ same. same) made) → Each (RowAlong (exact_ray_from 0 shapes ys)) rows
rows_along shapes ys long [] made rising h falls = tt
rows_along shapes ys long (row ∷ rows) made rising h falls =
    let first = through (rows_of shapes row) _ made h in
    let others = through (each (rows_of shapes) rows) _ made first.rest in
    let side = through (side_less shapes row.rhs row.terms) _ first.value first.first in
    let flat = flat_map (λ same. same) others.value in
    let all = subst (λ parts. Each (Falls ys) (flat_map (λ same. same) parts)) (sym (same_ok (first.value ∷ others.value) made others.rest)) falls in
    let own = subst (Each (Falls ys)) (sym (same_ok (by_sense row.sense record { coefs = row_entries shapes row.terms; rhs = side.value }) first.value side.rest)) (each_left (Falls ys) first.value flat all) in (
      subst (KeepsAlong row.sense) (sym (terms_along shapes row.terms ys rising.0 long)) (sense_along row.sense (row_entries shapes row.terms) ys side.value own),
      rows_along shapes ys long rows others.value rising.1 others.first (each_right (Falls ys) first.value flat all),
    )

-- ---- a row's looks

sum_is : (terms : List Term) (xs : List Fraction) → zero_value ⊕ total_of zero_value (row_steps terms xs) ≡ zero_value ⊕ terms_sum terms xs
sum_is terms xs =
    exact_sum_comm zero_value (total_of zero_value (row_steps terms xs)) ∙ total_of-steps zero_value (row_steps terms xs)
    ∙ ap (λ t. zero_value ⊕ t) (total-map amount (λ t. plus_times t.coef (value_at xs t.var)) terms ∙ as_terms terms)
  where
    as_terms : (ts : List Term) → total (λ t. t.coef ⊗ value_at xs t.var) ts ≡ terms_sum ts xs
    as_terms [] = refl
    as_terms (t ∷ ts) = ap (λ s. t.coef ⊗ value_at xs t.var ⊕ s) (as_terms ts)

pub row_compares : (row : Row) (xs : List Fraction) → HoldsAt xs row → IsTrue (compares row.sense (total_of zero_value (row_steps row.terms xs)) row.rhs)
row_compares row xs h = by_sense_is row.sense (total_of zero_value (row_steps row.terms xs)) (terms_sum row.terms xs) row.rhs (sum_is row.terms xs) h
  where
    by_sense_is : (sense : Sense) (x y r : Fraction) → zero_value ⊕ x ≡ zero_value ⊕ y → Holds sense y r → IsTrue (compares sense x r)
    by_sense_is Less x y r same k = at_most_shown x r (IsAtMost_trans x y r (same_at_most x y same) k)
    by_sense_is Greater x y r same k = at_most_shown r x (IsAtMost_trans r y x k (same_at_most y x (sym same)))
    by_sense_is Equal x y r same k = show_same x r (IsAtMost_trans x y r (same_at_most x y same) k.0) (IsAtMost_trans r y x k.1 (same_at_most y x (sym same)))

row_keeps_along : (row : Row) (ray : List Fraction) → RowAlong ray row → IsTrue (keeps_along row.sense (total_of zero_value (row_steps row.terms ray)))
row_keeps_along row ray h = by_sense_is row.sense (total_of zero_value (row_steps row.terms ray)) (terms_sum row.terms ray) (sum_is row.terms ray) h
  where
    by_sense_is : (sense : Sense) (x y : Fraction) → zero_value ⊕ x ≡ zero_value ⊕ y → KeepsAlong sense y → IsTrue (keeps_along sense x)
    by_sense_is Less x y same k = at_most_shown x zero_value (IsAtMost_trans x y zero_value (same_at_most x y same) k)
    by_sense_is Greater x y same k = at_most_shown zero_value x (IsAtMost_trans zero_value y x k (same_at_most y x (sym same)))
    by_sense_is Equal x y same k = show_same x zero_value (IsAtMost_trans x y zero_value (same_at_most x y same) k.0) (IsAtMost_trans zero_value y x k.1 (same_at_most y x (sym same)))

two_looks : (a b : Look) → Looked a → Looked b → All Looked (a ∷ b ∷ [])
two_looks a b h k = All-cons Looked a (b ∷ []) h (All-cons Looked b [] k (All-nil Looked))

rows_hold : (point ray : List Fraction) (number : ℕ) (rows : List Row) → Each (HoldsAt point) rows → Each (RowAlong ray) rows → All Looked (flat_map (ray_row point ray) (enumerate_from number rows))
rows_hold point ray number [] kept along = All-nil Looked
rows_hold point ray number (row ∷ rows) kept along =
    let at_point : Look = record { place = RayRow number; start = zero_value; steps = row_steps row.terms point; holds = λ sum. compares row.sense sum row.rhs } in
    let at_ray : Look = record { place = RayRow number; start = zero_value; steps = row_steps row.terms ray; holds = λ sum. keeps_along row.sense sum } in
    All-append Looked (at_point ∷ at_ray ∷ []) (flat_map (ray_row point ray) (enumerate_from (number + 1) rows))
    (two_looks at_point at_ray (row_compares row point kept.0) (row_keeps_along row ray along.0))
    (rows_hold point ray (number + 1) rows kept.1 along.1)

-- ---- bounds along it

abbrev high : Fraction → Type 0
high x = IsAtMost zero_value x

abbrev StaysBetween : Option Fraction → Option Fraction → Fraction → Type 0
StaysBetween lower upper y = IfSome lower (λ _. IsAtMost zero_value y) × IfSome upper (λ _. IsAtMost y zero_value)

abbrev Stays : Bounds → Fraction → Type 0
Stays b y = StaysBetween b.lower b.upper y

some_column : (shape : Shape) → 0 < width shape
some_column (shifted l u) = omega arith
some_column (mirrored u) = omega arith
some_column free = omega arith

module _ (ys : List Fraction) (low : All IsInLowestTerms ys) (above : All high ys) where
  variable_stays : (lower upper : Option Fraction) (column : ℕ) (own : List StdRow) → column < length ys → span_row (length ys) column (shape_between lower upper) ≡ Ok own → Each (Falls ys) own
      → StaysBetween lower upper (exact_ray_value (shape_between lower upper) (value_at ys column) (value_at ys (suc column)))
  variable_stays (Some l) (Some u) column own below h falls =
      let span = through (checked_difference u l) (λ span. Ok (column_row (length ys) column span ∷ [])) own h in
      let kept = subst (λ rs. Each (Falls ys) rs) (sym (same_ok _ own span.rest)) falls in
      (above column zero_value below, subst (λ v. IsAtMost v zero_value) (one_column column ys below (low column zero_value below)) kept.0)
  variable_stays (Some l) None column own below h falls = (above column zero_value below, tt)
  variable_stays None (Some u) column own below h falls = (tt, IsAtMost-negation zero_value (value_at ys column) (above column zero_value below))
  variable_stays None None column own below h falls = (tt, tt)

  variables_stay : (bounds : List Bounds) (column : ℕ) (spans : List StdRow) → column + column_count (map shape_of bounds) ≡ length ys → span_rows (length ys) column (map shape_of bounds) ≡ Ok spans → Each (Falls ys) spans
      → AllZip Stays bounds (exact_ray_from column (map shape_of bounds) ys)
  variables_stay [] column spans long h falls = tt
  variables_stay (b ∷ bounds) column spans long h falls =
      let shape = shape_of b in
      let shapes = map shape_of bounds in
      let first = through (span_row (length ys) column shape) (λ own. span_rows (length ys) (column + width shape) shapes >>= (λ others. Ok (own ++ others))) spans h in
      let others = through (span_rows (length ys) (column + width shape) shapes) (λ rest. Ok (first.value ++ rest)) spans first.rest in
      let all = subst (λ rs. Each (Falls ys) rs) (sym (same_ok _ spans others.rest)) falls in
      let count = sum_by-cons width shape shapes in
      let below : column < length ys = omega (arith, long, count, some_column shape) in (
        variable_stays b.lower b.upper column first.value below first.first (each_left (Falls ys) first.value others.value all),
        variables_stay bounds (column + width shape) others.value (omega (arith, long, count)) others.first (each_right (Falls ys) first.value others.value all),
      )

pub both_true : (a b : Bool) → IsTrue a → IsTrue b → IsTrue (a && b)
both_true true b h k = k
both_true false b h k = absurd cc

pub is_within_from : (lower upper : Option Fraction) (x : Fraction) → IfSome lower (λ l. IsAtMost l x) → IfSome upper (λ u. IsAtMost x u) → IsTrue (is_above lower x && is_under upper x)
is_within_from lower upper x h k = both_true (is_above lower x) (is_under upper x) (above_is lower h) (under_is upper k)
  where
    above_is : (o : Option Fraction) → IfSome o (λ l. IsAtMost l x) → IsTrue (is_above o x)
    above_is None e = refl
    above_is (Some l) e = at_most_shown l x e

    under_is : (o : Option Fraction) → IfSome o (λ u. IsAtMost x u) → IsTrue (is_under o x)
    under_is None e = refl
    under_is (Some u) e = at_most_shown x u e

stays_from : (lower upper : Option Fraction) (y : Fraction) → StaysBetween lower upper y → IsTrue ((is_none lower || is_at_most zero_value y) && (is_none upper || is_at_most y zero_value))
stays_from lower upper y h = both_true _ _ (low_is lower h.0) (up_is upper h.1)
  where
    low_is : (o : Option Fraction) → IfSome o (λ _. IsAtMost zero_value y) → IsTrue (is_none o || is_at_most zero_value y)
    low_is None e = refl
    low_is (Some l) e = at_most_shown zero_value y e

    up_is : (o : Option Fraction) → IfSome o (λ _. IsAtMost y zero_value) → IsTrue (is_none o || is_at_most y zero_value)
    up_is None e = refl
    up_is (Some u) e = at_most_shown y zero_value e

bounds_hold : (number : ℕ) (bounds : List Bounds) (point ray : List Fraction) → AllZip Within bounds point → AllZip Stays bounds ray → All Looked (map ray_bound (enumerate_from number (zip bounds (zip point ray))))
bounds_hold number [] [] [] within stays = All-nil Looked
bounds_hold number [] [] (y ∷ ray) within stays = absurd stays
bounds_hold number [] (x ∷ point) ray within stays = absurd within
bounds_hold number (b ∷ bounds) [] ray within stays = absurd within
bounds_hold number (b ∷ bounds) (x ∷ point) [] within stays = absurd stays
bounds_hold number (b ∷ bounds) (x ∷ point) (y ∷ ray) within stays =
    All-cons Looked (ray_bound (number, (b, (x, y)))) (map ray_bound (enumerate_from (number + 1) (zip bounds (zip point ray))))
    (both_true (is_within b x) (stays_within b y) (is_within_from b.lower b.upper x within.0.0 within.0.1) (stays_from b.lower b.upper y stays.0))
    (bounds_hold (number + 1) bounds point ray within.1 stays.1)

-- ---- the objective along it

pub objective_is : (cs xs : List Fraction) → total amount (map (λ p. plus_times p.0 p.1) (zip cs xs)) ≡ columns_sum cs xs
objective_is [] xs = refl
objective_is (c ∷ cs) [] = refl
objective_is (c ∷ cs) (x ∷ xs) = ap (λ t. c ⊗ x ⊕ t) (objective_is cs xs)

gain_holds : (m : Model) (ray : List Fraction) → IsBelow zero_value (turned m.direction (columns_sum (objective_coefs m) ray)) → Looked (ray_gain m ray)
gain_holds m ray h = by_direction m.direction (total_of zero_value (objective_steps m ray)) (columns_sum (objective_coefs m) ray) same h
  where
    same : zero_value ⊕ total_of zero_value (objective_steps m ray) ≡ zero_value ⊕ columns_sum (objective_coefs m) ray
    same =
        exact_sum_comm zero_value (total_of zero_value (objective_steps m ray)) ∙ total_of-steps zero_value (objective_steps m ray)
        ∙ ap (λ t. zero_value ⊕ t) (objective_is (map (λ v. v.obj) m.vars) ray)

    by_direction : (d : Direction) (x y : Fraction) → zero_value ⊕ x ≡ zero_value ⊕ y → IsBelow zero_value (turned d y) → IsTrue (gains d x)
    by_direction Minimize x y e k =
        below_shown x zero_value (IsBelow_trans_right x y zero_value (same_at_most x y e) (subst (λ v. IsBelow v zero_value) (negation-negation y) (IsBelow-negation zero_value (negation y) k)))
    by_direction Maximize x y e k = below_shown zero_value x (IsBelow_trans zero_value y x k (same_at_most y x (sym e)))

-- ---- all of it

pub ray_holds : (m : Model) (cuts : List Cut) (s : Std) (r : StdRay) (point ray : List Fraction) → IsLawful m → cuts ≡ [] → standard_form m cuts ≡ Ok s → IsStdRay s r
    → point_back (shapes_of m cuts) r.point ≡ Ok point → ray_back (shapes_of m cuts) r.ray ≡ Ok ray → All Looked (ray_looks m point ray)
ray_holds m cuts s r point ray lawful root form std point_made ray_made =
    let p = parts m cuts s form in
    let shapes = shapes_of m cuts in
    let bounds = effective_bounds m cuts in
    let ys = r.ray in
    let zs = r.point in
    let columns = length-obj m cuts s p in
    let ray_long = std.columns ∙ columns in
    let point_long = std.allowed.columns ∙ columns in
    let flat = flat_map (λ same. same) p.rows in
    let rising = rises m lawful in
    let is_point = point_back_is_exact shapes zs point point_made in
    let is_ray = ray_is_exact shapes ys ray ray_made in
    let falls = subst (λ rs. Each (Falls ys) rs) (sym p.form_rows) (each_from_all (Falls ys) s.rows std.rows) in
    let kept = subst (λ rs. Each (KeepsStdRow zs) rs) (sym p.form_rows) (each_from_all (KeepsStdRow zs) s.rows std.allowed.rows) in
    let rows = rows_hold point ray 1 m.rows
    (subst (λ xs. Each (HoldsAt xs) m.rows) (sym is_point) (rows_back shapes zs point_long m.rows p.rows rising p.rows_are (each_left (KeepsStdRow zs) flat p.spans kept)))
    (subst (λ xs. Each (RowAlong xs) m.rows) (sym is_ray) (rows_along shapes ys ray_long m.rows p.rows rising p.rows_are (each_left (Falls ys) flat p.spans falls))) in
    let within = variables_back zs std.allowed.lowest bounds 0 p.spans std.allowed.at_least_zero (zero_on (column_count shapes) ∙ sym point_long) (ap (λ n. span_rows n 0 shapes) point_long ∙ p.spans_are) (each_right (KeepsStdRow zs) flat p.spans kept) in
    let stay = variables_stay ys std.lowest std.at_least_zero bounds 0 p.spans (zero_on (column_count shapes) ∙ sym ray_long) (ap (λ n. span_rows n 0 shapes) ray_long ∙ p.spans_are) (each_right (Falls ys) flat p.spans falls) in
    let limits = bounds_hold 1 bounds point ray (subst (λ xs. AllZip Within bounds xs) (sym is_point) within) (subst (λ xs. AllZip Stays bounds xs) (sym is_ray) stay) in
    let gain = gain_holds m ray
    (subst (λ v. IsBelow zero_value (turned m.direction v))
    (sym (ap (columns_sum (objective_coefs m)) is_ray ∙ ray_sum shapes 0 (objective_coefs m) ys ys refl ray_long (length-map m.vars (λ v. v.obj) ∙ length-shapes_of m cuts)))
    (subst (IsBelow zero_value) (ap (λ cs. columns_sum cs ys) (sym p.form_obj) ∙ turned_sum m.direction (entries shapes (objective_coefs m)) ys) std.rises)) in
    All-append Looked _ _
    (All-append Looked _ _ rows (subst (λ cs. All Looked (map ray_bound (enumerate_from 1 (zip (effective_bounds m cs) (zip point ray))))) root limits))
    (All-cons Looked (ray_gain m ray) [] gain (All-nil Looked))
  where
    zero_on : (n : ℕ) → 0 + n ≡ n
    zero_on n = omega arith
