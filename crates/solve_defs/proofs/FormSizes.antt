-- How many rows and columns a standard form has.
use Rattle.std.proofs.Common.{◌≡◌, ◌∙◌, sym, subst, ap, ℕ, ◌+◌, ◌*◌, ◌≤◌, List, [], ◌∷◌, ◌++◌, length, map, replicate, length-append, length-set, Some, None, Ok, arith}
use Rattle.std.specs.List.{All, flat_map}
use Rattle.std.proofs.lemmas.List.{length-map, length-replicate}
use Rattle.std.proofs.lemmas.List.Elements.{All-append, All-cons, All-nil}
use Rattle.std.proofs.lemmas.List.Sums.{sum_by-cons, sum_by-le}
use Rattle.frac128.specs.Checked.{checked_difference}
use Rattle.frac128.specs.Fraction.{negation, one_value, zero_value}
use Rattle.frac128.proofs.Chains.{through}
use Rattle.dictionary.proofs.Opened.{length-numbers_from}
use Rattle.dictionary.specs.Dictionary.{IsUniform, each, numbers_from}
use Rattle.dictionary.specs.declared.standard.Std.{Std}
use Rattle.dictionary.specs.declared.standard.StdRow.{StdRow}
use Rattle.model_data.specs.Lawful.{IsLawful}
use Rattle.model_data.specs.declared.model.Model.{Model}
use Rattle.model_data.specs.declared.model.Row.{Row}
use Rattle.model_data.specs.declared.model.Sense.{Sense}
use Rattle.model_data.specs.declared.model.Sense.TheVariants.{Equal, Greater, Less}
use Rattle.model_data.specs.declared.model.Term.{Term}
use Rattle.solve_defs.specs.StandardForm.{Shape, shifted, mirrored, free, by_sense, column_count, column_row, entries, negated, row_entries, rows_of, shape_between, shapes_of, side_less, span_row, span_rows, standard_form, width}
use Rattle.solve_defs.specs.Bounds.{Bounds, effective_bounds}
use Rattle.solve_defs.specs.Values.{coefficient, turned}
use Rattle.solve_defs.specs.declared.cut.Cut.{Cut}
use Rattle.solve_defs.proofs.FormPoints.{length-effective_bounds, objective_coefs}
use Rattle.solve_defs.proofs.FormValues.{Parts, length-entries, parts}

pub length-shapes_of : (m : Model) (cuts : List Cut) → length m.vars ≡ length (shapes_of m cuts)
length-shapes_of m cuts =
    sym (length-map (effective_bounds m cuts) (λ (b : Bounds). shape_between b.lower b.upper) ∙ length-effective_bounds m cuts)

pub length-obj : (m : Model) (cuts : List Cut) (s : Std) → Parts m cuts s → length s.obj ≡ column_count (shapes_of m cuts)
length-obj m cuts s p =
    let cs = objective_coefs m in
    ap length (sym p.form_obj) ∙ length-map (entries (shapes_of m cuts) cs) (turned m.direction)
    ∙ length-entries (shapes_of m cuts) cs (length-map m.vars (λ v. v.obj) ∙ length-shapes_of m cuts)

pub length-row_entries : (shapes : List Shape) (terms : List Term) → length (row_entries shapes terms) ≡ column_count shapes
length-row_entries shapes terms =
    length-entries shapes (map (coefficient terms) (numbers_from 0 (length shapes)))
    (length-map (numbers_from 0 (length shapes)) (coefficient terms) ∙ length-numbers_from 0 (length shapes))

pub column_count-cons : (shape : Shape) (shapes : List Shape) → column_count (shape ∷ shapes) ≡ width shape + column_count shapes
column_count-cons shape shapes = sum_by-cons width shape shapes

pub width_le : (shape : Shape) → width shape ≤ 2
width_le (shifted lower upper) = omega arith
width_le (mirrored upper) = omega arith
width_le free = omega arith

-- so many coefficients
abbrev HasColumns : ℕ → StdRow → Type 0
HasColumns n row = length row.coefs ≡ n

-- at most so many rows, each with so many coefficients
record AreRows (most n : ℕ) (rows : List StdRow) : Type 0 where
  count : length rows ≤ most
  columns : All (HasColumns n) rows

none : (most n : ℕ) → AreRows most n []
none most n = record { count = omega arith; columns = All-nil (HasColumns n) }

one : (n : ℕ) (row : StdRow) → HasColumns n row → AreRows 1 n (row ∷ [])
one n row has = record { count = omega arith; columns = All-cons (HasColumns n) row [] has (All-nil (HasColumns n)) }

both : (most more n : ℕ) (rows others : List StdRow) → AreRows most n rows → AreRows more n others → AreRows (most + more) n (rows ++ others)
both most more n rows others h k =
    let size = length-append rows others in
    record { count = omega (arith, size, h.count, k.count); columns = All-append (HasColumns n) rows others h.columns k.columns }

more_room : (most more n : ℕ) (rows : List StdRow) → most ≤ more → AreRows most n rows → AreRows more n rows
more_room most more n rows room h = record { count = omega (arith, room, h.count); columns = h.columns }

-- ---- the rows of a model

by_sense-rows : (n : ℕ) (sense : Sense) (row : StdRow) → HasColumns n row → AreRows 2 n (by_sense sense row)
by_sense-rows n Less row has = more_room 1 2 n (row ∷ []) (omega arith) (one n row has)
by_sense-rows n Greater row has = more_room 1 2 n (negated row ∷ []) (omega arith) (one n (negated row) (length-map row.coefs negation ∙ has))
by_sense-rows n Equal row has = both 1 1 n (row ∷ []) (negated row ∷ []) (one n row has) (one n (negated row) (length-map row.coefs negation ∙ has))

rows_of-rows : (shapes : List Shape) (row : Row) (made : List StdRow) → rows_of shapes row ≡ Ok made → AreRows 2 (column_count shapes) made
rows_of-rows shapes row made is =
    let side = through (side_less shapes row.rhs row.terms) _ made is in
    let own : StdRow = record { coefs = row_entries shapes row.terms; rhs = side.value } in
    let same : by_sense row.sense own ≡ made = cc in
    subst (AreRows 2 (column_count shapes)) same (by_sense-rows (column_count shapes) row.sense own (length-row_entries shapes row.terms))

each-rows : (shapes : List Shape) (rows : List Row) (parts : List (List StdRow)) → each (rows_of shapes) rows ≡ Ok parts
    → AreRows (2 * length rows) (column_count shapes) (flat_map (λ same. same) parts)
each-rows shapes [] parts is =
    let same : [] ≡ parts = cc in
    subst (λ parts. AreRows 0 (column_count shapes) (flat_map (λ same. same) parts)) same (none 0 (column_count shapes))
each-rows shapes (row ∷ rows) parts is =
    let first = through (rows_of shapes row) _ parts is in
    let rest = through (each (rows_of shapes) rows) _ parts first.rest in
    let same : first.value ∷ rest.value ≡ parts = cc in
    let all =
    both 2 (2 * length rows) (column_count shapes) first.value (flat_map (λ same. same) rest.value) (rows_of-rows shapes row first.value first.first) (each-rows shapes rows rest.value rest.first) in
    subst (λ parts. AreRows (2 * length (row ∷ rows)) (column_count shapes) (flat_map (λ same. same) parts)) same
    (more_room (2 + 2 * length rows) (2 * length (row ∷ rows)) (column_count shapes) (first.value ++ flat_map (λ same. same) rest.value) (omega arith) all)

-- ---- the rows of variables

span_row-rows : (count column : ℕ) (shape : Shape) (made : List StdRow) → span_row count column shape ≡ Ok made → AreRows 1 count made
span_row-rows count column (shifted lower (Some upper)) made is =
    let span = through (checked_difference upper lower) _ made is in
    let same : column_row count column span.value ∷ [] ≡ made = cc in
    subst (AreRows 1 count) same
    (one count (column_row count column span.value) (length-set (replicate count zero_value) column one_value ∙ length-replicate count zero_value))
span_row-rows count column (shifted lower None) made is = let same : [] ≡ made = cc in subst (AreRows 1 count) same (none 1 count)
span_row-rows count column (mirrored upper) made is = let same : [] ≡ made = cc in subst (AreRows 1 count) same (none 1 count)
span_row-rows count column free made is = let same : [] ≡ made = cc in subst (AreRows 1 count) same (none 1 count)

span_rows-rows : (count column : ℕ) (shapes : List Shape) (made : List StdRow) → span_rows count column shapes ≡ Ok made
    → AreRows (length shapes) count made
span_rows-rows count column [] made is = let same : [] ≡ made = cc in subst (AreRows 0 count) same (none 0 count)
span_rows-rows count column (shape ∷ shapes) made is =
    let first = through (span_row count column shape) _ made is in
    let rest = through (span_rows count (column + width shape) shapes) _ made first.rest in
    let same : first.value ++ rest.value ≡ made = cc in
    let all =
    both 1 (length shapes) count first.value rest.value (span_row-rows count column shape first.value first.first) (span_rows-rows count (column + width shape) shapes rest.value rest.first) in
    subst (AreRows (length (shape ∷ shapes)) count) same (more_room (1 + length shapes) (length (shape ∷ shapes)) count (first.value ++ rest.value) (omega arith) all)

-- ---- the standard form

pub form-columns : (m : Model) (cuts : List Cut) (s : Std) → standard_form m cuts ≡ Ok s → length s.obj ≡ column_count (shapes_of m cuts)
form-columns m cuts s is = length-obj m cuts s (parts m cuts s is)

form-rows : (m : Model) (cuts : List Cut) (s : Std) → standard_form m cuts ≡ Ok s
    → AreRows (2 * length m.rows + length m.vars) (column_count (shapes_of m cuts)) s.rows
form-rows m cuts s is =
    let shapes = shapes_of m cuts in
    let n = column_count shapes in
    let own = parts m cuts s is in
    let many = length-shapes_of m cuts in
    let all =
    both (2 * length m.rows) (length shapes) n (flat_map (λ same. same) own.rows) own.spans (each-rows shapes m.rows own.rows own.rows_are) (span_rows-rows n 0 shapes own.spans own.spans_are) in
    subst (AreRows (2 * length m.rows + length m.vars) n) own.form_rows
    (more_room (2 * length m.rows + length shapes) (2 * length m.rows + length m.vars) n (flat_map (λ same. same) own.rows ++ own.spans) (omega (arith, many)) all)

column_count-le : (m : Model) (cuts : List Cut) → column_count (shapes_of m cuts) ≤ 2 * length m.vars
column_count-le m cuts =
    let shapes = shapes_of m cuts in
    let most = sum_by-le width 2 shapes (λ k d within. width_le _) in
    let many = length-shapes_of m cuts in
    omega (arith, most, many)

pub form-uniform : (m : Model) (cuts : List Cut) (s : Std) → IsLawful m → standard_form m cuts ≡ Ok s → IsUniform s
form-uniform m cuts s lawful is =
    let rows = form-rows m cuts s is in
    let columns = form-columns m cuts s is in
    let most = column_count-le m cuts in
    record {
      coefs = λ k d within. rows.columns k d within ∙ sym columns;
      row_limit = omega (arith, rows.count, lawful.row_limit, lawful.var_limit);
      column_limit = omega (arith, columns, most, lawful.var_limit);
    }
