-- How many rows a standard form has.
use Rattle.std.proofs.Common.{◌≡◌, ◌∙◌, refl, sym, ap, ap₂, ℕ, ◌+◌, List, [], ◌∷◌, length, length-append, Some, None, Ok}
use Rattle.std.specs.List.{flat_map}
use Rattle.std.specs.Prelude.{sum_by}
use Rattle.std.proofs.lemmas.List.Sums.{sum_by-cons}
use Rattle.frac128.specs.Checked.{checked_difference}
use Rattle.frac128.proofs.Chains.{same_ok, through}
use Rattle.dictionary.specs.Dictionary.{each}
use Rattle.dictionary.specs.declared.standard.Std.{Std}
use Rattle.dictionary.specs.declared.standard.StdRow.{StdRow}
use Rattle.model_data.specs.Size.{rows_of_sense}
use Rattle.model_data.specs.declared.model.Model.{Model}
use Rattle.model_data.specs.declared.model.Row.{Row}
use Rattle.model_data.specs.declared.model.Sense.{Sense}
use Rattle.model_data.specs.declared.model.Sense.TheVariants.{Equal, Greater, Less}
use Rattle.solve_defs.specs.StandardForm.{Shape, by_sense, column_count, free, mirrored, row_entries, rows_of, shapes_of, shifted, side_less, span_row, span_rows, spans_of, standard_form, width}
use Rattle.solve_defs.specs.declared.cut.Cut.{Cut}
use Rattle.solve_defs.proofs.FormValues.{parts}

sense_rows : (sense : Sense) (row : StdRow) → length (by_sense sense row) ≡ rows_of_sense sense
sense_rows Less row = refl
sense_rows Greater row = refl
sense_rows Equal row = refl

row_rows : (shapes : List Shape) (row : Row) (made : List StdRow) → rows_of shapes row ≡ Ok made → length made ≡ rows_of_sense row.sense
row_rows shapes row made h =
    let side = through (side_less shapes row.rhs row.terms) _ made h in
    ap length (sym (same_ok _ _ side.rest)) ∙ sense_rows row.sense record { coefs = row_entries shapes row.terms; rhs = side.value }

model_rows : (shapes : List Shape) (rows : List Row) (made : List (List StdRow)) → each (rows_of shapes) rows ≡ Ok made → length (flat_map (λ same. same) made) ≡ sum_by (λ (r : Row). rows_of_sense r.sense) rows
model_rows shapes [] made h = ap (λ l. length (flat_map (λ same. same) l)) (sym (same_ok _ _ h))
model_rows shapes (row ∷ rows) made h =
    let first = through (rows_of shapes row) _ made h in
    let others = through (each (rows_of shapes) rows) _ made first.rest in
    ap (λ l. length (flat_map (λ same. same) l)) (sym (same_ok _ _ others.rest)) ∙ length-append first.value (flat_map (λ same. same) others.value)
    ∙ ap₂ (λ a b. a + b) (row_rows shapes row first.value first.first) (model_rows shapes rows others.value others.first)
    ∙ sym (sum_by-cons (λ (r : Row). rows_of_sense r.sense) row rows)

span_row_rows : (count column : ℕ) (shape : Shape) (made : List StdRow) → span_row count column shape ≡ Ok made → length made ≡ spans_of shape
span_row_rows count column (shifted lower (Some upper)) made h = let span = through (checked_difference upper lower) _ made h in ap length (sym (same_ok _ _ span.rest))
span_row_rows count column (shifted lower None) made h = ap length (sym (same_ok _ _ h))
span_row_rows count column (mirrored upper) made h = ap length (sym (same_ok _ _ h))
span_row_rows count column free made h = ap length (sym (same_ok _ _ h))

spans_rows : (count column : ℕ) (shapes : List Shape) (made : List StdRow) → span_rows count column shapes ≡ Ok made → length made ≡ sum_by spans_of shapes
spans_rows count column [] made h = ap length (sym (same_ok _ _ h))
spans_rows count column (shape ∷ shapes) made h =
    let own = through (span_row count column shape) _ made h in
    let others = through (span_rows count (column + width shape) shapes) _ made own.rest in
    ap length (sym (same_ok _ _ others.rest)) ∙ length-append own.value others.value
    ∙ ap₂ (λ a b. a + b) (span_row_rows count column shape own.value own.first) (spans_rows count (column + width shape) shapes others.value others.first)
    ∙ sym (sum_by-cons spans_of shape shapes)

pub form_rows : (m : Model) (cuts : List Cut) (s : Std) → standard_form m cuts ≡ Ok s → length s.rows ≡ sum_by (λ (r : Row). rows_of_sense r.sense) m.rows + sum_by spans_of (shapes_of m cuts)
form_rows m cuts s h =
    let own = parts m cuts s h in
    ap length (sym own.form_rows) ∙ length-append (flat_map (λ same. same) own.rows) own.spans
    ∙ ap₂ (λ a b. a + b) (model_rows (shapes_of m cuts) m.rows own.rows own.rows_are) (spans_rows (column_count (shapes_of m cuts)) 0 (shapes_of m cuts) own.spans own.spans_are)
