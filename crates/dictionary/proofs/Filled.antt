-- What holds of the dense representation holds of its dictionary.
use Rattle.std.proofs.Common.{◌≡◌, ◌∙◌, refl, sym, ap, ap₂, subst, ℕ, suc, ◌*◌, ◌^◌, ◌<◌, ◌≤◌, List, length, length-set, slice_set, Option, Some, None, option_map, Vec, Global}
use Rattle.std.specs.Prelude.{All, IfSome}
use Rattle.std.specs.Option.{ForSome}
use Rattle.std.specs.Vec.{with_item, with_items}
use Rattle.std.proofs.lemmas.List.{with_items_is}
use Rattle.frac128.specs.Fraction.{Fraction}
use Rattle.dictionary.specs.declared.dense.Dict.TheInside.{Inside}
use Rattle.dictionary.specs.Cells.{rows_of}
use Rattle.dictionary.specs.Dense.{IsFilled, dictionary_of, width_of}
use Rattle.dictionary.specs.Dictionary.{IsInShape}
use Rattle.dictionary.proofs.CellRows.{length-rows_of, row_length, row_of-rows_of}

all_rows : (width count : ℕ) (cells : List Fraction) → length cells ≡ count * width → All (λ row. length row ≡ width) (rows_of width count cells)
all_rows width count cells all k d within =
    let below : k < count = subst (λ (n : ℕ). k < n) (length-rows_of width count cells) within in
    ap length (row_of-rows_of width count cells k d below) ∙ row_length width count cells k below all

if_some : {A B : Type 0} (P : B → Type 0) (f : A → B) (x : Option A) → ForSome x (λ a. P (f a)) → IfSome (option_map f x) P
if_some P f (Some a) h = h a refl
if_some P f None h = tt

pub shape_of_filled : (d : Inside) → IsFilled d → IsInShape (dictionary_of d)
shape_of_filled d filled = record {
  rows = length-rows_of (width_of d) (length d.basic.items) d.cells.items;
  row_entries = all_rows (width_of d) (length d.basic.items) d.cells.items filled.cells;
  objective_entries = filled.objective;
  auxiliary_entries = if_some (λ row. length row ≡ width_of d) (λ w. w.items) d.auxiliary filled.auxiliary;
  row_limit = filled.row_limit;
  column_limit = filled.column_limit;
}

-- as many cells as before are written
pub filled_after : (d : Inside) (cells objective : List Fraction) (auxiliary : Option (Vec Fraction Global)) → IsFilled d → length cells ≡ length d.cells.items → length objective ≡ length d.objective.items
    → ForSome auxiliary (λ w. length w.items ≡ width_of d)
    → IsFilled record { basic = d.basic; nonbasic = d.nonbasic; cells = with_items d.cells cells; objective = with_items d.objective objective; auxiliary = auxiliary }
filled_after d cells objective auxiliary filled same_cells same_objective widths = record {
  cells = ap length (with_items_is d.cells cells (same_cells ∙ sym d.cells.ok.0)) ∙ same_cells ∙ filled.cells;
  objective = ap length (with_items_is d.objective objective (same_objective ∙ sym d.objective.ok.0)) ∙ same_objective ∙ filled.objective;
  auxiliary = widths;
  row_limit = filled.row_limit;
  column_limit = filled.column_limit;
}

-- an index of each list is written
pub filled_exchanged : (d : Inside) (i j x y : ℕ) → IsFilled d
    → IsFilled record { basic = with_item d.basic i x; nonbasic = with_item d.nonbasic j y; cells = d.cells; objective = d.objective; auxiliary = d.auxiliary }
filled_exchanged d i j x y filled =
    let rows : length (slice_set d.basic.items i x) ≡ length d.basic.items = length-set d.basic.items i x in
    let columns : length (slice_set d.nonbasic.items j y) ≡ length d.nonbasic.items = length-set d.nonbasic.items j y in
    let width : width_of d ≡ suc (length (slice_set d.nonbasic.items j y)) = ap suc (sym columns) in record {
      cells = filled.cells ∙ ap₂ (λ m w. m * w) (sym rows) width;
      objective = filled.objective ∙ width;
      auxiliary = λ w h. filled.auxiliary w h ∙ width;
      row_limit = subst (λ (n : ℕ). n < 2 ^ 31) (sym rows) filled.row_limit;
      column_limit = subst (λ (n : ℕ). n ≤ 2 ^ 31) (sym columns) filled.column_limit;
    }
