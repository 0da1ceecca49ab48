-- A pivot by its steps.
use Rattle.std.proofs.Common.{◌≡◌, ◌∙◌, refl, sym, ap, ap₂, suc, length, length-set, ℕ, ◌-◌, ◌*◌, ◌<◌, ◌≤◌, take, drop, [], arith, List, Option, Ok, Err, slice_index, slice_set}
use Rattle.frac128.specs.Fraction.{Fraction}
use Rattle.frac128.specs.declared.operations.Wide.{Wide}
use Rattle.dictionary.specs.Cells.{rows_of}
use Rattle.dictionary.proofs.CellRows.{row_of-rows_of}
use Rattle.dictionary.specs.Dictionary.{Dictionary, each_option, eliminated_objective, pivot, pivoted_rows, row_at}

pub pivot-rows_refused : (r c : ℕ) (d : Dictionary) (wide : Wide) → Err wide ≡ pivoted_rows r c d.rows → Err wide ≡ pivot r c d
unfolding pivot
pivot-rows_refused r c d wide h = rw (← h) refl

pub pivot-objective_refused : (r c : ℕ) (d : Dictionary) (rows : List (List Fraction)) (solved : List Fraction) (wide : Wide)
    → Ok rows ≡ pivoted_rows r c d.rows → solved ≡ row_at rows r → Err wide ≡ eliminated_objective c solved d.objective → Err wide ≡ pivot r c d
unfolding pivot
pivot-objective_refused r c d rows solved wide h s k = rw (← h, ← s, ← k) refl

pub pivot-auxiliary_refused : (r c : ℕ) (d : Dictionary) (rows : List (List Fraction)) (solved objective : List Fraction) (wide : Wide)
    → Ok rows ≡ pivoted_rows r c d.rows → solved ≡ row_at rows r → Ok objective ≡ eliminated_objective c solved d.objective
    → Err wide ≡ each_option (eliminated_objective c solved) d.auxiliary → Err wide ≡ pivot r c d
unfolding pivot
pivot-auxiliary_refused r c d rows solved objective wide h s k l = rw (← h, ← s, ← k, ← l) refl

pub pivot-whole : (r c : ℕ) (d : Dictionary) (rows : List (List Fraction)) (solved objective : List Fraction) (auxiliary : Option (List Fraction))
    → Ok rows ≡ pivoted_rows r c d.rows → solved ≡ row_at rows r → Ok objective ≡ eliminated_objective c solved d.objective
    → Ok auxiliary ≡ each_option (eliminated_objective c solved) d.auxiliary
    → Ok record {
      basic = slice_set d.basic (r - 1) (slice_index d.nonbasic (c - 1));
      nonbasic = slice_set d.nonbasic (c - 1) (slice_index d.basic (r - 1));
      rows = rows;
      objective = objective;
      auxiliary = auxiliary;
    } ≡ pivot r c d
unfolding pivot
pivot-whole r c d rows solved objective auxiliary h s k l = rw (← h, ← s, ← k, ← l) refl

-- the solved row, as a part of the cells
pub solved_is : (width count r w : ℕ) (cells : List Fraction) → 0 < r → r ≤ count → w ≡ width → take w (drop ((r - 1) * w) cells) ≡ row_at (rows_of width count cells) r
solved_is width count r w cells low high same =
    let within : r - 1 < count = omega arith in
    ap (λ n. take n (drop ((r - 1) * n) cells)) same ∙ sym (row_of-rows_of width count cells (r - 1) [] within)

-- exchanged indices leave the rows as they are cut
pub rows_of-exchanged : (basic nonbasic : List ℕ) (i j x y : ℕ) (cells kept : List Fraction) → cells ≡ kept
    → rows_of (suc (length (slice_set nonbasic j y))) (length (slice_set basic i x)) cells ≡ rows_of (suc (length nonbasic)) (length basic) kept
rows_of-exchanged basic nonbasic i j x y cells kept same =
    ap₂ (λ m n. rows_of (suc m) n cells) (length-set nonbasic j y) (length-set basic i x) ∙ ap (rows_of (suc (length nonbasic)) (length basic)) same
