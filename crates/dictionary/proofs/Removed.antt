-- A column that is removed row by row, in place.
use Rattle.std.proofs.Math.Nat.{mul-le-mul_left, mul-le-mul_right, sub-le}
use Rattle.std.proofs.Common.{◌≡◌, ◌∙◌, sym, ap, ap₂, subst, ℕ, suc, ◌+◌, ◌-◌, ◌*◌, ◌<◌, ◌≤◌, List, [], ◌∷◌, ◌++◌, length, take, drop, map, add-one, append_assoc, length-append, length-drop, arith}
use Rattle.std.specs.Prelude.{remove}
use Rattle.std.specs.List.{copy_within}
use Rattle.std.proofs.lemmas.List.{drop-drop, drop-take, length-take-le, map_push, take-append-drop, take-take, take_at}
use Rattle.std.proofs.lemmas.Slice.{drop-append-drop}
use lib.Seq.{paste}
use Rattle.dictionary.specs.Cells.{rows_of}
use Rattle.dictionary.proofs.CellRows.{rows_of-front, rows_of-more, rows_of-pushed, rows_of-take}

-- a part written over others
take-paste : {A : Type 0} (d s : List A) (at n : ℕ) → at ≤ length d → n ≤ length s → take (at + n) (paste d at s n) ≡ take at d ++ take n s
take-paste d s at n low high =
    take_at (take at d ++ take n s) (drop (at + n) d) (at + n)
    (length-append (take at d) (take n s) ∙ ap₂ (λ i j. i + j) (length-take-le at d low) (length-take-le n s high))

drop-paste : {A : Type 0} (d s : List A) (at n k : ℕ) → at ≤ length d → n ≤ length s → at + n ≤ k → drop k (paste d at s n) ≡ drop k d
drop-paste d s at n k low high past =
    drop-append-drop (at + n) d (take at d ++ take n s) k past
    (length-append (take at d) (take n s) ∙ ap₂ (λ i j. i + j) (length-take-le at d low) (length-take-le n s high))

within-paste : {A : Type 0} (d s : List A) (at n : ℕ) → at ≤ length d → n ≤ length s → at + n ≤ length (paste d at s n)
within-paste d s at n low high =
    omega (arith, length-append (take at d ++ take n s) (drop (at + n) d), length-append (take at d) (take n s), length-take-le at d low, length-take-le n s high)

-- a row without a column
remove-parts : {A : Type 0} (column n : ℕ) (cells : List A) → remove (take (suc column + n) cells) column ≡ take column cells ++ take n (drop (suc column) cells)
remove-parts column n cells =
    let low : column ≤ suc column + n = omega arith in
    ap₂ (λ xs ys. xs ++ ys) (take-take column (suc column + n) cells low) (drop-take (suc column) n cells)

remove-length : {A : Type 0} (column n : ℕ) (cells : List A) → suc column + n ≤ length cells → length (remove (take (suc column + n) cells) column) ≡ column + n
remove-length column n cells h =
    let first : column ≤ length cells = omega arith in
    let second : n ≤ length (drop (suc column) cells) = omega (arith, length-drop (suc column) cells) in
    ap length (remove-parts column n cells) ∙ length-append (take column cells) (take n (drop (suc column) cells))
    ∙ ap₂ (λ i j. i + j) (length-take-le column cells first) (length-take-le n (drop (suc column) cells) second)

-- the two parts of a row, moved to a place not behind it
pub record IsMoved {A : Type 0} (to from column n : ℕ) (cells moved : List A) : Type 0 where
  pub front : take (to + (column + n)) moved ≡ take to cells ++ remove (take (suc column + n) (drop from cells)) column
  pub back : drop (from + (suc column + n)) moved ≡ drop (from + (suc column + n)) cells

pub moved_by_parts : {A : Type 0} (to from column n : ℕ) (cells : List A) → to ≤ from → from + (suc column + n) ≤ length cells
    → IsMoved to from column n cells (paste (paste cells to (drop from cells) column) (to + column) (drop (from + suc column) (paste cells to (drop from cells) column)) n)
moved_by_parts to from column n cells before within =
    let once = paste cells to (drop from cells) column in
    let start : to ≤ length cells = omega arith in
    let first_fits : column ≤ length (drop from cells) = omega (arith, length-drop from cells) in
    let first_past : to + column ≤ from + suc column = omega arith in
    let kept : drop (from + suc column) once ≡ drop (from + suc column) cells = drop-paste cells (drop from cells) to column (from + suc column) start first_fits first_past in
    let same_length : length (drop (from + suc column) once) ≡ length cells - (from + suc column) = ap length kept ∙ length-drop (from + suc column) cells in
    let second_fits : n ≤ length (drop (from + suc column) once) = omega (arith, same_length) in
    let second_start : to + column ≤ length once = within-paste cells (drop from cells) to column start first_fits in
    let end : to + column + n ≤ from + (suc column + n) = omega arith in
    let end_first : to + column ≤ from + (suc column + n) = omega arith in
    let sum : to + (column + n) ≡ to + column + n = omega arith in record {
      front =
          ap (λ k. take k (paste once (to + column) (drop (from + suc column) once) n)) sum
          ∙ take-paste once (drop (from + suc column) once) (to + column) n second_start second_fits
          ∙ ap₂ (λ xs ys. xs ++ take n ys) (take-paste cells (drop from cells) to column start first_fits) (kept ∙ sym (drop-drop (suc column) from cells))
          ∙ append_assoc (take to cells) (take column (drop from cells)) (take n (drop (suc column) (drop from cells)))
          ∙ ap (λ xs. take to cells ++ xs) (sym (remove-parts column n (drop from cells)));
      back =
          drop-paste once (drop (from + suc column) once) (to + column) n (from + (suc column + n)) second_start second_fits end
          ∙ drop-paste cells (drop from cells) to column (from + (suc column + n)) start first_fits end_first;
    }

-- the rows so far without the column, and the rest as before, one row on
pub removed_one_on : {A : Type 0} (width row column count : ℕ) (old cells once twice : List A) → column < width → row < count → length cells ≡ count * width
    → once ≡ copy_within cells (row * width) (row * width + column) (row * (width - 1))
    → twice ≡ copy_within once (row * width + column + 1) (row * width + width) (row * (width - 1) + column)
    → (rows_of (width - 1) row cells ≡ map (λ r. remove r column) (rows_of width row old)) × (drop (row * width) cells ≡ drop (row * width) old)
    → (rows_of (width - 1) (row + 1) twice ≡ map (λ r. remove r column) (rows_of width (row + 1) old)) × (drop ((row + 1) * width) twice ≡ drop ((row + 1) * width) old)
removed_one_on {A} width row column count old cells once twice narrower more all first second before =
    let from = row * width in
    let to = row * (width - 1) in
    let n = width - suc column in
    let parts : width ≡ suc column + n = omega arith in
    let narrow : width - 1 ≡ column + n = omega arith in
    let not_behind : to ≤ from = mul-le-mul_left row (sub-le width 1) in
    let next : from + (suc column + n) ≡ (row + 1) * width = omega arith in
    let next_narrow : to + (column + n) ≡ (row + 1) * (width - 1) = omega arith in
    let last : row + 1 ≤ count = omega arith in
    let room : (row + 1) * width ≤ count * width = mul-le-mul_right width last in
    let within : from + (suc column + n) ≤ length cells = omega arith in
    let column_is : from + column - from ≡ column = omega arith in
    let rest_is : from + width - (from + column + 1) ≡ n = omega arith in
    let behind_is : from + column + 1 ≡ from + suc column = omega arith in
    let once_is : once ≡ paste cells to (drop from cells) column = first ∙ ap (λ k. paste cells to (drop from cells) k) column_is in
    let twice_is : twice ≡ paste once (to + column) (drop (from + suc column) once) n = second ∙ ap₂ (λ i k. paste once (to + column) (drop i once) k) behind_is rest_is in
    let moved : IsMoved to from column n cells twice =
    subst (λ (xs : List A). IsMoved to from column n cells xs) (ap (λ xs. paste xs (to + column) (drop (from + suc column) xs) n) (sym once_is) ∙ sym twice_is)
    (moved_by_parts to from column n cells not_behind within) in
    let here : take (suc column + n) (drop from cells) ≡ take width (drop from old) = ap₂ take (sym parts) before.1 in
    let start : to ≤ length cells = omega arith in
    let front_length : length (take to cells) ≡ row * (width - 1) = length-take-le to cells start in
    let cells_left : suc column + n ≤ length (drop from cells) = omega (arith, length-drop from cells) in
    let row_length : length (remove (take (suc column + n) (drop from cells)) column) ≡ width - 1 = remove-length column n (drop from cells) cells_left ∙ sym narrow in
    let both_length : length (take to cells ++ remove (take (suc column + n) (drop from cells)) column) ≡ (row + 1) * (width - 1) =
    length-append (take to cells) (remove (take (suc column + n) (drop from cells)) column) ∙ ap₂ (λ i j. i + j) front_length (row_length ∙ narrow) ∙ next_narrow in
    let twice_parts : twice ≡ (take to cells ++ remove (take (suc column + n) (drop from cells)) column) ++ drop (to + (column + n)) twice =
    sym (take-append-drop (to + (column + n)) twice) ∙ ap (λ xs. xs ++ drop (to + (column + n)) twice) moved.front in (
      ap (rows_of (width - 1) (row + 1)) twice_parts
          ∙ rows_of-front (width - 1) (row + 1) (take to cells ++ remove (take (suc column + n) (drop from cells)) column) (drop (to + (column + n)) twice) both_length
          ∙ rows_of-pushed (width - 1) row (take to cells) (remove (take (suc column + n) (drop from cells)) column) front_length row_length
          ∙ ap₂ (λ rows r. rows ++ remove r column ∷ []) (rows_of-take (width - 1) row cells start ∙ before.0) here
          ∙ sym (map_push (λ r. remove r column) (rows_of width row old) (take width (drop from old)))
          ∙ ap (map (λ r. remove r column)) (sym (rows_of-more width row old) ∙ ap (λ i. rows_of width i old) (sym (add-one row))),
      ap (λ i. drop i twice) (sym next) ∙ moved.back ∙ ap (λ i. drop i cells) next ∙ behind width row old cells before.1,
    )
  where
    behind : {A : Type 0} (width row : ℕ) (old cells : List A) → drop (row * width) cells ≡ drop (row * width) old → drop ((row + 1) * width) cells ≡ drop ((row + 1) * width) old
    behind width row old cells h =
        let next : row * width + width ≡ (row + 1) * width = omega arith in
        ap (λ i. drop i cells) (sym next) ∙ sym (drop-drop width (row * width) cells) ∙ ap (drop width) h ∙ drop-drop width (row * width) old ∙ ap (λ i. drop i old) next

-- all rows, and what stood behind them is cut off
pub removed_all : {A : Type 0} (width row column count : ℕ) (old cells short : List A) → row ≡ count → length cells ≡ count * width → short ≡ take (count * (width - 1)) cells
    → rows_of (width - 1) row cells ≡ map (λ r. remove r column) (rows_of width row old) → rows_of (width - 1) count short ≡ map (λ r. remove r column) (rows_of width count old)
removed_all {A} width row column count old cells short last all cut before =
    let shorter : count * (width - 1) ≤ count * width = mul-le-mul_left count (sub-le width 1) in
    let fits : count * (width - 1) ≤ length cells = omega arith in
    ap (rows_of (width - 1) count) cut ∙ rows_of-take (width - 1) count cells fits
    ∙ subst (λ (n : ℕ). rows_of (width - 1) n cells ≡ map (λ (r : List A). remove r column) (rows_of width n old)) last before
