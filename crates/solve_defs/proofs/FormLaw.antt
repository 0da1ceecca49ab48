-- The points of a standard form and those of the model's relaxation.
use Rattle.std.proofs.Common.{◌≡◌, refl, sym, ◌∙◌, ap, ap₂, subst, ℕ, suc, ◌+◌, ◌<◌, List, [], ◌∷◌, length, Ok, ℤ, arith}
use Rattle.std.specs.Prelude.{All, flat_map}
use Rattle.std.specs.List.{AllZip}
use Rattle.std.proofs.lemmas.List.{length-map}
use Rattle.frac128.specs.Checked.{◌>>=◌}
use Rattle.frac128.specs.Fraction.{Fraction, negation, zero_value}
use Rattle.frac128.specs.Order.{IsAtMost}
use Rattle.frac128.proofs.Field.{apart_of-sum, lowest-apart}
use Rattle.model_data.specs.Lawful.{IsLawful, IsLawfulRow}
use Rattle.model_data.specs.declared.model.Model.{Model}
use Rattle.model_data.specs.declared.model.Row.{Row}
use Rattle.dictionary.specs.declared.standard.Std.{Std}
use Rattle.solve_defs.specs.Bounds.{effective_bounds}
use Rattle.solve_defs.specs.Columns.{ComesFromColumns, IsColumnsPoint, KeepsStdRow, columns_sum, exact_point, exact_value, exact_values_from, model_value}
use Rattle.frac128.specs.Lowest.{IsInLowestTerms}
use Rattle.solve_defs.specs.Points.{HasValues, IsFeasible, IsFeasiblePoint, objective_value, relaxation}
use Rattle.solve_defs.specs.StandardForm.{Shape, shifted, mirrored, free, column_count, point_back, point_value, shapes_of, span_rows, standard_form, values_from, width}
use Rattle.solve_defs.specs.Values.{value_at}
use Rattle.solve_defs.specs.declared.cut.Cut.{Cut}
use Rattle.solve_defs.proofs.FormBounds.{AreFit, Within, columns_all_fit, columns_for, length-columns_for, shape_of, values_read, variables_back, variables_forth}
use Rattle.solve_defs.proofs.FormLists.{Each, all_from_each, each-append, each_from_all, each_left, each_right}
use Rattle.solve_defs.proofs.FormPoints.{AreFeasible, common, feasible_values, has_values, objective_above_zero, objective_coefs, objective_is, values_feasible, values_of}
use Rattle.solve_defs.proofs.FormQuotients.{same_value}
use Rattle.frac128.proofs.Sums.{◌⊕◌}
use Rattle.solve_defs.proofs.FormRows.{HoldsAt, IsRising, rows_back, rows_forth}
use Rattle.solve_defs.proofs.FormSizes.{length-obj, length-shapes_of}
use Rattle.solve_defs.proofs.FormValues.{Parts, model_value_is, parts}
use Rattle.frac128.proofs.Chains.{difference_is, same_ok, sum_is, through}

-- ---- sizes and lowest terms

rising_rows : (n : ℕ) (rows : List Row) → Each (IsLawfulRow n) rows → Each (λ row. IsRising row.terms) rows
rising_rows n [] h = tt
rising_rows n (row ∷ rows) h = (h.0.rising, rising_rows n rows h.1)

pub rises : (m : Model) → IsLawful m → Each (λ row. IsRising row.terms) m.rows
rises m lawful = rising_rows (length m.vars) m.rows (each_from_all (IsLawfulRow (length m.vars)) m.rows lawful.rows)

value_low : (shape : Shape) (x y : Fraction) → IsInLowestTerms (exact_value shape x y)
value_low (shifted l u) x y = apart_of-sum l x
value_low (mirrored u) x y = apart_of-sum u (negation x)
value_low free x y = apart_of-sum x (negation y)

pub exact_values_low : (column : ℕ) (shapes : List Shape) (ys : List Fraction) → Each IsInLowestTerms (exact_values_from column shapes ys)
exact_values_low column [] ys = tt
exact_values_low column (shape ∷ shapes) ys = (value_low shape (value_at ys column) (value_at ys (suc column)), exact_values_low (column + width shape) shapes ys)

values_low : (X : List ℤ) (d : ℕ) → 0 < d → Each IsInLowestTerms (values_of X d)
values_low [] d p = tt
values_low (n ∷ X) d p = (lowest-apart n d p, values_low X d p)

zipped : {A B : Type 0} (R : A → B → Type 0) (xs : List A) (ys : List B) → AllZip R xs ys → length ys ≡ length xs
zipped R [] [] h = refl
zipped R [] (y ∷ ys) h = absurd h
zipped R (x ∷ xs) [] h = absurd h
zipped R (x ∷ xs) (y ∷ ys) h = ap suc (zipped R xs ys h.1)

-- ---- from columns to the model

pub variables_feasible : (m : Model) (cuts : List Cut) (s : Std) (ys : List Fraction) → IsLawful m → Parts m cuts s → length ys ≡ column_count (shapes_of m cuts) → IsColumnsPoint s ys
    → AreFeasible m cuts (exact_point (shapes_of m cuts) ys)
variables_feasible m cuts s ys lawful p long h =
    let shapes = shapes_of m cuts in
    let rows = flat_map (λ same. same) p.rows in
    let all = subst (λ rs. Each (KeepsStdRow ys) rs) (sym p.form_rows) (each_from_all (KeepsStdRow ys) s.rows h.rows) in
    record {
      rows = rows_back shapes ys long m.rows p.rows (rises m lawful) p.rows_are (each_left (KeepsStdRow ys) rows p.spans all);
      bounds = variables_back ys h.lowest (effective_bounds m cuts) 0 p.spans h.at_least_zero (omega (arith, long))
          (ap (λ n. span_rows n 0 shapes) long ∙ p.spans_are) (each_right (KeepsStdRow ys) rows p.spans all);
    }

pub columns_stand_for_points : (m : Model) (cuts : List Cut) (s : Std) (ys : List Fraction) → IsLawful m → standard_form m cuts ≡ Ok s → IsColumnsPoint s ys
    → IsFeasiblePoint (relaxation m cuts) record { xs = exact_point (shapes_of m cuts) ys; value = model_value m.direction s ys }
columns_stand_for_points m cuts s ys lawful form h =
    let p = parts m cuts s form in
    let long = h.columns ∙ length-obj m cuts s p in
    let xs = exact_point (shapes_of m cuts) ys in
    let c = common xs (exact_values_low 0 (shapes_of m cuts) ys) in
    let objective = objective_value (relaxation m cuts) c.X c.d in
    record {
      X = c.X;
      d = c.d;
      values = subst (λ vs. HasValues c.X c.d vs) c.same (has_values c.X c.d c.above_zero);
      feasible = feasible_values m cuts c.X c.d c.above_zero (subst (λ vs. AreFeasible m cuts vs) (sym c.same) (variables_feasible m cuts s ys lawful p long h));
      value = same_value objective.num objective.den (model_value m.direction s ys) (objective_above_zero (relaxation m cuts) c.X c.d c.above_zero)
          (objective_is m cuts c.X c.d c.above_zero ∙ ap (λ vs. columns_sum (objective_coefs m) vs ⊕ m.constant) c.same
          ∙ sym (model_value_is m cuts s ys p (length-shapes_of m cuts) long));
    }

-- ---- from the model to columns

columns_allowed : (m : Model) (cuts : List Cut) (s : Std) (xs ys : List Fraction) → IsLawful m → Parts m cuts s → length ys ≡ column_count (shapes_of m cuts)
    → AreFit ys → exact_point (shapes_of m cuts) ys ≡ xs → AreFeasible m cuts xs → IsColumnsPoint s ys
columns_allowed m cuts s xs ys lawful p long fit read h =
    let shapes = shapes_of m cuts in
    let rows = flat_map (λ same. same) p.rows in
    let low : All IsInLowestTerms ys = λ k d below. (all_from_each (λ y. IsInLowestTerms y × IsAtMost zero_value y) ys fit k d below).0 in
    let hold = rows_forth shapes ys long m.rows p.rows (rises m lawful) p.rows_are (subst (λ vs. Each (HoldsAt vs) m.rows) (sym read) h.rows) in
    let spans = variables_forth ys low (effective_bounds m cuts) 0 p.spans (omega (arith, long)) (ap (λ n. span_rows n 0 shapes) long ∙ p.spans_are)
    (subst (λ vs. AllZip Within (effective_bounds m cuts) vs) (sym read) h.bounds) in
    record {
      columns = long ∙ sym (length-obj m cuts s p);
      lowest = low;
      at_least_zero = λ k d below. (all_from_each (λ y. IsInLowestTerms y × IsAtMost zero_value y) ys fit k d below).1;
      rows = all_from_each (KeepsStdRow ys) s.rows (subst (λ rs. Each (KeepsStdRow ys) rs) p.form_rows (each-append (KeepsStdRow ys) rows p.spans hold spans));
    }

pub points_come_from_columns : (m : Model) (cuts : List Cut) (s : Std) (X : List ℤ) (d : ℕ) → IsLawful m → standard_form m cuts ≡ Ok s → IsFeasible (relaxation m cuts) X d
    → ComesFromColumns m cuts s X d
points_come_from_columns m cuts s X d lawful form h =
    let p = parts m cuts s form in
    let shapes = shapes_of m cuts in
    let bounds = effective_bounds m cuts in
    let xs = values_of X d in
    let low = values_low X d h.above_zero in
    let feasible = values_feasible m cuts X d h in
    let ys = columns_for shapes xs in
    let same = zipped Within bounds xs feasible.bounds ∙ sym (length-map bounds shape_of) in
    let long = length-columns_for shapes xs same in
    let read = values_read shapes xs ys 0 low same refl in
    let objective = objective_value (relaxation m cuts) X d in
    record {
      ys = ys;
      allowed = columns_allowed m cuts s xs ys lawful p long (columns_all_fit bounds xs low feasible.bounds) read feasible;
      values = subst (λ vs. HasValues X d vs) (sym read) (has_values X d h.above_zero);
      value = same_value objective.num objective.den (model_value m.direction s ys) (objective_above_zero (relaxation m cuts) X d h.above_zero)
          (objective_is m cuts X d h.above_zero ∙ ap (λ vs. columns_sum (objective_coefs m) vs ⊕ m.constant) (sym read)
          ∙ sym (model_value_is m cuts s ys p (length-shapes_of m cuts) long));
    }

-- ---- the checked way back

value_is_exact : (shape : Shape) (x y z : Fraction) → point_value shape x y ≡ Ok z → z ≡ exact_value shape x y
value_is_exact (shifted l u) x y z h = sum_is l x z h
value_is_exact (mirrored u) x y z h = difference_is u x z h
value_is_exact free x y z h = difference_is x y z h

values_are_exact : (column : ℕ) (shapes : List Shape) (ys xs : List Fraction) → values_from point_value column shapes ys ≡ Ok xs → xs ≡ exact_values_from column shapes ys
values_are_exact column [] ys xs h = sym (same_ok [] xs h)
values_are_exact column (shape ∷ shapes) ys xs h =
    let s = through (point_value shape (value_at ys column) (value_at ys (suc column))) (λ own. values_from point_value (column + width shape) shapes ys >>= (λ others. Ok (own ∷ others))) xs h in
    let t = through (values_from point_value (column + width shape) shapes ys) (λ others. Ok (s.value ∷ others)) xs s.rest in
    sym (same_ok (s.value ∷ t.value) xs t.rest)
    ∙ ap₂ (λ v vs. v ∷ vs) (value_is_exact shape (value_at ys column) (value_at ys (suc column)) s.value s.first) (values_are_exact (column + width shape) shapes ys t.value t.first)

pub point_back_is_exact : (shapes : List Shape) (ys xs : List Fraction) → point_back shapes ys ≡ Ok xs → xs ≡ exact_point shapes ys
unfolding point_back
point_back_is_exact shapes ys xs h = values_are_exact 0 shapes ys xs h
