-- A pivot on rows that stand one behind the other in one list.
use Rattle.std.proofs.Common.{◌≡◌, ◌∙◌, refl, sym, ap, ap₂, ℕ, suc, ◌+◌, ◌-◌, ◌*◌, ◌<◌, ◌≤◌, List, [], ◌∷◌, ◌++◌, length, drop, Result, Ok, Err, append_assoc, length-append, arith}
use Rattle.std.proofs.lemmas.List.{drop_at, get_or_at, take_at}
use Rattle.frac128.specs.Checked.{◌>>=◌}
use Rattle.frac128.specs.Fraction.{Fraction}
use Rattle.frac128.specs.declared.operations.Wide.{Wide}
use Rattle.dictionary.specs.Cells.{rows_of}
use Rattle.dictionary.specs.Dictionary.{each, eliminated_basic, pivoted_rows, row_at, solved_row, with_value}
use Rattle.dictionary.proofs.CellRows.{length-rows_of, rows_of-middle}

-- row r with the rows above and below it, as parts of one list
pub record IsSplitAtRow (r count width : ℕ) (cells above here below : List Fraction) : Type 0 where
  pub row_above : 0 < r
  pub row_within : r ≤ count
  pub whole : cells ≡ above ++ (here ++ below)
  pub above_length : length above ≡ (r - 1) * width
  pub here_length : length here ≡ width

-- as two splits leave it
pub split_at_row : (r count width : ℕ) (cells above rest here below : List Fraction) → 0 < r → r ≤ count → cells ≡ above ++ rest → rest ≡ here ++ below
    → length above ≡ (r - 1) * width → length here ≡ width → IsSplitAtRow r count width cells above here below
split_at_row r count width cells above rest here below low high e f g h =
    record { row_above = low; row_within = high; whole = e ∙ ap (λ xs. above ++ xs) f; above_length = g; here_length = h }

-- the rows of the parts
pub rows_of-split : (r count width : ℕ) (cells above here below : List Fraction) → IsSplitAtRow r count width cells above here below
    → rows_of width count cells ≡ rows_of width (r - 1) above ++ here ∷ rows_of width (count - r) below
rows_of-split r count width cells above here below s =
    let low : 0 < r = s.row_above in
    let high : r ≤ count = s.row_within in
    let sum : count ≡ (r - 1) + suc (count - r) = omega arith in
    ap₂ (λ n xs. rows_of width n xs) sum s.whole ∙ rows_of-middle width (r - 1) (count - r) above here below s.above_length s.here_length

pub row_at-split : (r count width : ℕ) (cells above here below : List Fraction) → IsSplitAtRow r count width cells above here below → row_at (rows_of width count cells) r ≡ here
row_at-split r count width cells above here below s =
    ap (λ rows. row_at rows r) (rows_of-split r count width cells above here below s)
    ∙ get_or_at (rows_of width (r - 1) above) here (rows_of width (count - r) below) [] (r - 1) (length-rows_of width (r - 1) above)

counted : (r count width : ℕ) → 0 < r → r ≤ count → count * width ≡ (r - 1) * width + (width + (count - r) * width)
counted r count width low high =
    let sum : count ≡ (r - 1) + (1 + (count - r)) = omega arith in
    ap (λ n. n * width) sum ∙ laid_out (r - 1) (count - r) width
  where
    laid_out : (m n width : ℕ) → (m + (1 + n)) * width ≡ m * width + (width + n * width)
    laid_out m n width = omega arith

-- as many rows are left below
pub below_length : (r count width : ℕ) (cells above here below : List Fraction) → IsSplitAtRow r count width cells above here below → length cells ≡ count * width → length below ≡ (count - r) * width
below_length r count width cells above here below s h =
    let low : 0 < r = s.row_above in
    let high : r ≤ count = s.row_within in
    let lengths : length cells ≡ length above + (length here + length below) =
    ap length s.whole ∙ length-append above (here ++ below) ∙ ap (λ n. length above + n) (length-append here below) in
    let rows : count * width ≡ (r - 1) * width + (width + (count - r) * width) = counted r count width low high in
    omega (arith, s.above_length, s.here_length, lengths, rows, h)

-- the pivot, from the parts on
abbrev pub pivoted_parts : ℕ → List Fraction → List (List Fraction) → List (List Fraction) → Result (List (List Fraction)) Wide
pivoted_parts c here above below = do
  solved ← solved_row c here
  up ← each (eliminated_basic c solved) above
  down ← each (eliminated_basic c solved) below
  Ok (up ++ solved ∷ down)

pivoted_rows-middle : (r c : ℕ) (above below : List (List Fraction)) (here : List Fraction) → 0 < r → length above ≡ r - 1
    → pivoted_rows r c (above ++ here ∷ below) ≡ pivoted_parts c here above below
unfolding pivoted_rows
pivoted_rows-middle r c above below here low h =
    let next : length (above ++ here ∷ []) ≡ r = omega (arith, length-append above (here ∷ []), h) in
    rw (get_or_at above here below [] (r - 1) h, take_at above (here ∷ below) (r - 1) h, behind above here below r next) refl
  where
    behind : (above : List (List Fraction)) (here : List Fraction) (below : List (List Fraction)) (r : ℕ) → length (above ++ here ∷ []) ≡ r → drop r (above ++ here ∷ below) ≡ below
    behind above here below r h = ap (drop r) (sym (append_assoc above (here ∷ []) below)) ∙ drop_at (above ++ here ∷ []) below r h

pub pivoted_rows-split : (r count width c : ℕ) (cells above here below : List Fraction) → IsSplitAtRow r count width cells above here below
    → pivoted_rows r c (rows_of width count cells) ≡ pivoted_parts c here (rows_of width (r - 1) above) (rows_of width (count - r) below)
pivoted_rows-split r count width c cells above here below s =
    ap (pivoted_rows r c) (rows_of-split r count width cells above here below s)
    ∙ pivoted_rows-middle r c (rows_of width (r - 1) above) (rows_of width (count - r) below) here s.row_above (length-rows_of width (r - 1) above)

-- where the first step is refused, or the second
pub pivoted_parts-solved : (c : ℕ) (here : List Fraction) (above below : List (List Fraction)) (wide : Wide) → Err wide ≡ solved_row c here → Err wide ≡ pivoted_parts c here above below
pivoted_parts-solved c here above below wide h = rw (← h) refl

pub pivoted_parts-above : (c : ℕ) (here solved : List Fraction) (above below : List (List Fraction)) (wide : Wide) → Ok solved ≡ solved_row c here
    → Err wide ≡ each (eliminated_basic c solved) above → Err wide ≡ pivoted_parts c here above below
pivoted_parts-above c here solved above below wide h k = rw (← h, ← k) refl

-- the third has the answer
pub pivoted_parts-below : {U : Type 0} (c : ℕ) (here solved : List Fraction) (above below up down : List (List Fraction)) (answer : Result U Wide)
    → Ok solved ≡ solved_row c here → Ok up ≡ each (eliminated_basic c solved) above → with_value answer down ≡ each (eliminated_basic c solved) below
    → with_value answer (up ++ solved ∷ down) ≡ pivoted_parts c here above below
pivoted_parts-below c here solved above below up down (Ok u) h k l = rw (← h, ← k, ← l) refl
pivoted_parts-below c here solved above below up down (Err e) h k l = rw (← h, ← k, ← l) refl
