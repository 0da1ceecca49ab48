-- What is carried back has a value for each variable, and weights whose numbers are those of rows and variables.
use Rattle.std.proofs.Common.{◌≡◌, refl, sym, ◌∙◌, ap, subst, ℕ, suc, ◌+◌, ◌≤◌, IsTrue, ◌&&◌, List, [], ◌∷◌, length, Result, Ok, arith}
use Rattle.std.specs.Prelude.{nat_le, sum_by}
use Rattle.std.specs.List.{list_all}
use Rattle.std.proofs.lemmas.Bool.{and_from, cond_both, le-leb}
use Rattle.frac128.specs.Checked.{◌>>=◌}
use Rattle.frac128.specs.Fraction.{Fraction}
use Rattle.frac128.specs.declared.operations.Wide.{Wide}
use Rattle.model_data.specs.Size.{rows_of_sense}
use Rattle.model_data.specs.declared.model.Model.{Model}
use Rattle.model_data.specs.declared.model.Row.{Row}
use Rattle.model_data.specs.declared.solution.Weight.{Weight}
use Rattle.model_data.specs.declared.solution.Weights.{Weights}
use Rattle.std.proofs.lemmas.List.{length-map}
use Rattle.solve_defs.specs.Bounds.{effective_bounds}
use Rattle.solve_defs.specs.Certificates.{are_weights_for, is_number_to}
use Rattle.solve_defs.specs.StandardForm.{Shape, low_weights, numbered, point_back, point_value, ray_back, ray_value, row_weight, row_weights, shape_between, shapes_of, spans_of, up_weights, values_from, weights_back, width}
use Rattle.solve_defs.specs.Values.{is_zero, value_at}
use Rattle.solve_defs.specs.declared.cut.Cut.{Cut}
use Rattle.solve_defs.proofs.Relaxed.{length-bounds_from}
use Rattle.frac128.proofs.Chains.{same_ok, through}

-- ---- lengths

length-shapes : (m : Model) (cuts : List Cut) → length (shapes_of m cuts) ≡ length m.vars
length-shapes m cuts = length-map (effective_bounds m cuts) (λ b. shape_between b.lower b.upper) ∙ length-bounds_from 0 m.vars cuts

length-values : (value : Shape → Fraction → Fraction → Result Fraction Wide) (column : ℕ) (shapes : List Shape) (xs ys : List Fraction) → values_from value column shapes xs ≡ Ok ys → length ys ≡ length shapes
length-values value column [] xs ys h = ap length (sym (same_ok [] ys h))
length-values value column (shape ∷ shapes) xs ys h =
    let own = through (value shape (value_at xs column) (value_at xs (suc column))) (λ own. values_from value (column + width shape) shapes xs >>= (λ others. Ok (own ∷ others))) ys h in
    let others = through (values_from value (column + width shape) shapes xs) (λ others. Ok (own.value ∷ others)) ys own.rest in
    ap length (sym (same_ok (own.value ∷ others.value) ys others.rest)) ∙ ap suc (length-values value (column + width shape) shapes xs others.value others.first)

pub length-point : (m : Model) (cuts : List Cut) (xs ys : List Fraction) → point_back (shapes_of m cuts) xs ≡ Ok ys → length ys ≡ length m.vars
unfolding point_back
length-point m cuts xs ys h = length-values point_value 0 (shapes_of m cuts) xs ys h ∙ length-shapes m cuts

pub length-ray : (m : Model) (cuts : List Cut) (xs ys : List Fraction) → ray_back (shapes_of m cuts) xs ≡ Ok ys → length ys ≡ length m.vars
unfolding ray_back
length-ray m cuts xs ys h = length-values ray_value 0 (shapes_of m cuts) xs ys h ∙ length-shapes m cuts

length-row_weights : (place : ℕ) (rows : List Row) (ys ws : List Fraction) → row_weights place rows ys ≡ Ok ws → length ws ≡ length rows
length-row_weights place [] ys ws h = ap length (sym (same_ok [] ws h))
length-row_weights place (row ∷ rows) ys ws h =
    let own = through (row_weight row.sense (value_at ys place) (value_at ys (suc place))) (λ own. row_weights (place + rows_of_sense row.sense) rows ys >>= (λ others. Ok (own ∷ others))) ws h in
    let others = through (row_weights (place + rows_of_sense row.sense) rows ys) (λ others. Ok (own.value ∷ others)) ws own.rest in
    ap length (sym (same_ok (own.value ∷ others.value) ws others.rest)) ∙ ap suc (length-row_weights (place + rows_of_sense row.sense) rows ys others.value others.first)

length-low : (column : ℕ) (shapes : List Shape) (reduced : List Fraction) → length (low_weights column shapes reduced) ≡ length shapes
length-low column [] reduced = refl
length-low column (shape ∷ shapes) reduced = ap suc (length-low (column + width shape) shapes reduced)

length-up : (place column : ℕ) (shapes : List Shape) (ys reduced : List Fraction) → length (up_weights place column shapes ys reduced) ≡ length shapes
length-up place column [] ys reduced = refl
length-up place column (shape ∷ shapes) ys reduced = ap suc (length-up (place + spans_of shape) (column + width shape) shapes ys reduced)

-- ---- numbers

numbered_to : (count number : ℕ) (xs : List Fraction) → 1 ≤ number → number + length xs ≤ suc count → IsTrue (list_all (λ w. is_number_to count w.place) (numbered number xs))
numbered_to count number [] some enough = refl
numbered_to count number (x ∷ xs) some enough =
    let rest = numbered_to count (suc number) xs (omega (arith, some)) (omega (arith, enough)) in
    cond_both {A = List Weight} (is_zero x) (numbered (suc number) xs) (record { place = number; weight = x } ∷ numbered (suc number) xs) (λ ws. IsTrue (list_all (λ w. is_number_to count w.place) ws))
    (λ _. rest)
    (λ _. and_from (is_number_to count number) (list_all (λ w. is_number_to count w.place) (numbered (suc number) xs))
    (and_from (nat_le 1 number) (nat_le number count) (le-leb 1 number some) (le-leb number count (omega (arith, enough)))) rest)

numbered_all : (count : ℕ) (xs : List Fraction) → length xs ≡ count → IsTrue (list_all (λ w. is_number_to count w.place) (numbered 1 xs))
numbered_all count xs long = numbered_to count 1 xs (omega arith) (omega (arith, long))

pub weights_fit : (m : Model) (cuts : List Cut) (ys reduced : List Fraction) (weights : Weights) → weights_back m (shapes_of m cuts) ys reduced ≡ Ok weights → IsTrue (are_weights_for m weights)
unfolding weights_back
weights_fit m cuts ys reduced weights h =
    let lows = low_weights 0 (shapes_of m cuts) reduced in
    let ups = up_weights (sum_by (λ row. rows_of_sense row.sense) m.rows) 0 (shapes_of m cuts) ys reduced in
    let rows = through (row_weights 0 m.rows ys) (λ rows. Ok record { rows = numbered 1 rows; lows = numbered 1 lows; ups = numbered 1 ups }) weights h in
    let all = λ (count : ℕ) (ws : List Weight). list_all (λ w. is_number_to count w.place) ws in
    subst (λ w. IsTrue (are_weights_for m w)) (same_ok record { rows = numbered 1 rows.value; lows = numbered 1 lows; ups = numbered 1 ups } weights rows.rest)
    (and_from (all (length m.rows) (numbered 1 rows.value) && all (length m.vars) (numbered 1 lows)) (all (length m.vars) (numbered 1 ups))
    (and_from (all (length m.rows) (numbered 1 rows.value)) (all (length m.vars) (numbered 1 lows))
    (numbered_all (length m.rows) rows.value (length-row_weights 0 m.rows ys rows.value rows.first))
    (numbered_all (length m.vars) lows (length-low 0 (shapes_of m cuts) reduced ∙ length-shapes m cuts)))
    (numbered_all (length m.vars) ups (length-up _ 0 (shapes_of m cuts) ys reduced ∙ length-shapes m cuts)))
