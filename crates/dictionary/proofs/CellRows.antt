-- Rows that stand one behind the other in one list.
use Rattle.std.proofs.Math.Nat.{mul-le-mul_right}
use Rattle.std.proofs.Common.{◌≡◌, ◌∙◌, refl, sym, ap, ap₂, subst, Result, Ok, Err, ℕ, zero, suc, ◌+◌, ◌-◌, ◌*◌, ◌<◌, ◌≤◌, List, [], ◌∷◌, ◌++◌, length, take, drop, map, slice_index_or, append-nil, length-append, length-drop, arith}
use Rattle.std.proofs.lemmas.List.{map_more, drop-append-le, drop-drop, drop_at, get_or-drop, get_or-take, length-take-le, take-append-drop, take-append-le, take_at}
use Rattle.std.proofs.lemmas.Slice.{drop-put_mid}
use borrow.Rule.Slice.PartMut.{post_of, put_mid}
use Rattle.dictionary.specs.Cells.{rows_of}
use Rattle.dictionary.specs.Dictionary.{each}
use Rattle.dictionary.proofs.InOrder.{each_onto, each_onto-next, each_onto-nil, each_onto-stopped}

pub length-rows_of : {A : Type 0} (width count : ℕ) (cells : List A) → length (rows_of width count cells) ≡ count
length-rows_of width zero cells = refl
length-rows_of width (suc count) cells = ap suc (length-rows_of width count (drop width cells))

-- the first of one row more
first_row_fits : (width count n : ℕ) → n ≡ suc count * width → width ≤ n
first_row_fits width count n h = omega (arith, h)

rest_length : {A : Type 0} (width count : ℕ) (cells : List A) → length cells ≡ suc count * width → length (drop width cells) ≡ count * width
rest_length width count cells h = omega (arith, length-drop width cells, h)

-- the rows of two lists, one behind the other
pub rows_of-append : {A : Type 0} (width m n : ℕ) (xs ys : List A) → length xs ≡ m * width → rows_of width (m + n) (xs ++ ys) ≡ rows_of width m xs ++ rows_of width n ys
rows_of-append width zero n [] ys h = rw add_zero refl
  where
    add_zero : zero + n ≡ n
    add_zero = omega arith
rows_of-append width zero n (x ∷ xs) ys h = absurd (omega (arith, h))
rows_of-append width (suc m) n xs ys h =
    let fits : width ≤ length xs = first_row_fits width m (length xs) h in
    let sum : suc m + n ≡ suc (m + n) = omega arith in
    rw sum (ap₂ (λ row rows. row ∷ rows) (take-append-le width xs ys fits)
    (ap (rows_of width (m + n)) (drop-append-le width xs ys fits) ∙ rows_of-append width m n (drop width xs) ys (rest_length width m xs h)))

-- what stands behind the rows does not matter
pub rows_of-front : {A : Type 0} (width m : ℕ) (xs ys : List A) → length xs ≡ m * width → rows_of width m (xs ++ ys) ≡ rows_of width m xs
rows_of-front width zero xs ys h = refl
rows_of-front width (suc m) xs ys h =
    let fits : width ≤ length xs = first_row_fits width m (length xs) h in
    ap₂ (λ row rows. row ∷ rows) (take-append-le width xs ys fits)
    (ap (rows_of width m) (drop-append-le width xs ys fits) ∙ rows_of-front width m (drop width xs) ys (rest_length width m xs h))

-- a row between others
pub rows_of-middle : {A : Type 0} (width m n : ℕ) (xs row ys : List A) → length xs ≡ m * width → length row ≡ width
    → rows_of width (m + suc n) (xs ++ (row ++ ys)) ≡ rows_of width m xs ++ row ∷ rows_of width n ys
rows_of-middle width m n xs row ys h k =
    rows_of-append width m (suc n) xs (row ++ ys) h
    ∙ ap₂ (λ first rest. rows_of width m xs ++ first ∷ rows_of width n rest) (take_at row ys width k) (drop_at row ys width k)

-- what is left after i rows: one, and the rest
pub rows_of-rest : {A : Type 0} (width i count : ℕ) (cells : List A) → i < count
    → rows_of width (count - i) (drop (i * width) cells) ≡ take width (drop (i * width) cells) ∷ rows_of width (count - (i + 1)) (drop ((i + 1) * width) cells)
rows_of-rest width i count cells h =
    let more : count - i ≡ suc (count - (i + 1)) = omega arith in
    let next : i * width + width ≡ (i + 1) * width = omega arith in
    rw more (ap (λ rest. take width (drop (i * width) cells) ∷ rows_of width (count - (i + 1)) rest)
    (drop-drop width (i * width) cells ∙ ap (λ n. drop n cells) next))

-- the rows up to one that was written
pub rows_of-written : {A : Type 0} (width i k : ℕ) (cells row : List A) → i * width ≤ length cells → length row ≡ width
    → rows_of width (i + 1) (put_mid (i * width) k cells row) ≡ rows_of width i cells ++ row ∷ []
rows_of-written width i k cells row fits whole =
    let front : length (take (i * width) cells) ≡ i * width = length-take-le (i * width) cells fits in
    rows_of-middle width i 0 (take (i * width) cells) row (post_of (i * width) k cells) front whole
    ∙ ap (λ rows. rows ++ row ∷ []) (sym (rows_of-front width i (take (i * width) cells) (drop (i * width) cells) front) ∙ ap (rows_of width i) (take-append-drop (i * width) cells))

-- ---- a loop over the rows

product_within : (i count width n : ℕ) → i < count → n ≡ count * width → i * width + width ≤ n
product_within i count width n h k =
    let next : i + 1 ≤ count = omega arith in
    let more : (i + 1) * width ≤ count * width = mul-le-mul_right width next in
    omega (arith, more, k)

pub rows_at_start : {A B E : Type 0} (f : List A → Result (List B) E) (width count : ℕ) (cells : List A)
    → each_onto [] f (rows_of width (count - 0) (drop (0 * width) cells)) ≡ each f (rows_of width count cells)
rows_at_start f width count cells =
    let all : count - 0 ≡ count = omega arith in
    let none : 0 * width ≡ 0 = omega arith in
    ap₂ (λ m n. each_onto [] f (rows_of width m (drop n cells))) all none ∙ each_onto-nil f (rows_of width count cells)

pub rows_one_on : {A E : Type 0} (f : List A → Result (List A) E) (width i k count : ℕ) (cells row : List A) (whole : Result (List (List A)) E)
    → i < count → length cells ≡ count * width → length row ≡ width → k ≡ width
    → f (take k (drop (i * width) cells)) ≡ Ok row
    → each_onto (rows_of width i cells) f (rows_of width (count - i) (drop (i * width) cells)) ≡ whole
    → each_onto (rows_of width (i + 1) (put_mid (i * width) k cells row)) f (rows_of width (count - (i + 1)) (drop ((i + 1) * width) (put_mid (i * width) k cells row))) ≡ whole
rows_one_on f width i k count cells row whole more all wide same made before =
    let fits : i * width + width ≤ length cells = product_within i count width (length cells) more all in
    let start : i * width ≤ length cells = omega arith in
    let end : i * width + k ≤ (i + 1) * width = omega arith in
    let width_kept : length row ≡ k = omega arith in
    ap₂ (λ done rest. each_onto done f (rows_of width (count - (i + 1)) rest))
    (rows_of-written width i k cells row start wide)
    (drop-put_mid (i * width) k cells row ((i + 1) * width) end start width_kept)
    ∙ sym (each_onto-next (rows_of width i cells) f (take width (drop (i * width) cells)) (rows_of width (count - (i + 1)) (drop ((i + 1) * width) cells)) row (subst (λ n. f (take n (drop (i * width) cells)) ≡ Ok row) same made))
    ∙ sym (ap (each_onto (rows_of width i cells) f) (rows_of-rest width i count cells more))
    ∙ before

pub rows_stopped : {A E : Type 0} (f : List A → Result (List A) E) (width i k count : ℕ) (cells : List A) (whole : Result (List (List A)) E) (e : E)
    → i < count → k ≡ width → f (take k (drop (i * width) cells)) ≡ Err e
    → each_onto (rows_of width i cells) f (rows_of width (count - i) (drop (i * width) cells)) ≡ whole
    → Err e ≡ whole
rows_stopped f width i k count cells whole e more same made before =
    sym (each_onto-stopped (rows_of width i cells) f (take width (drop (i * width) cells)) (rows_of width (count - (i + 1)) (drop ((i + 1) * width) cells)) e (subst (λ n. f (take n (drop (i * width) cells)) ≡ Err e) same made))
    ∙ sym (ap (each_onto (rows_of width i cells) f) (rows_of-rest width i count cells more))
    ∙ before

-- ---- rows that are pushed one by one

pub rows_of-pushed : {A : Type 0} (width i : ℕ) (cells row : List A) → length cells ≡ i * width → length row ≡ width → rows_of width (i + 1) (cells ++ row) ≡ rows_of width i cells ++ row ∷ []
rows_of-pushed width i cells row h k =
    ap (λ xs. rows_of width (i + 1) (cells ++ xs)) (sym (append-nil row)) ∙ rows_of-middle width i 0 cells row [] h k

-- the rows so far are those of the first items, one item on
pub pushed_one_on : {A B : Type 0} (f : B → List A) (width i : ℕ) (items : List B) (x : B) (cells longer : List A)
    → i < length items → x ≡ slice_index_or items i x → longer ≡ cells ++ f x → length (f x) ≡ width
    → (rows_of width i cells ≡ map f (take i items)) × (length cells ≡ i * width)
    → (rows_of width (i + 1) longer ≡ map f (take (i + 1) items)) × (length longer ≡ (i + 1) * width)
pushed_one_on f width i items x cells longer within here pushed wide before =
    let next : i * width + width ≡ (i + 1) * width = omega arith in
    let counted : length longer ≡ length cells + length (f x) = ap length pushed ∙ length-append cells (f x) in (
      ap (rows_of width (i + 1)) pushed ∙ rows_of-pushed width i cells (f x) before.1 wide
          ∙ ap₂ (λ rows y. rows ++ f y ∷ []) before.0 here ∙ sym (map_more f items i x within),
      counted ∙ ap₂ (λ m n. m + n) before.1 wide ∙ next,
    )

-- one row more
pub rows_of-more : {A : Type 0} (width i : ℕ) (cells : List A) → rows_of width (suc i) cells ≡ rows_of width i cells ++ take width (drop (i * width) cells) ∷ []
rows_of-more width zero cells =
    let none : zero * width ≡ zero = omega arith in
    ap (λ n. take width (drop n cells) ∷ []) (sym none)
rows_of-more width (suc i) cells =
    let next : width + i * width ≡ suc i * width = omega arith in
    ap (λ rows. take width cells ∷ rows)
    (rows_of-more width i (drop width cells)
    ∙ ap (λ xs. rows_of width i (drop width cells) ++ take width xs ∷ []) (drop-drop (i * width) width cells ∙ ap (λ n. drop n cells) next))

-- what is cut off behind the rows does not matter
pub rows_of-take : {A : Type 0} (width i : ℕ) (cells : List A) → i * width ≤ length cells → rows_of width i (take (i * width) cells) ≡ rows_of width i cells
rows_of-take width i cells fits =
    sym (rows_of-front width i (take (i * width) cells) (drop (i * width) cells) (length-take-le (i * width) cells fits))
    ∙ ap (rows_of width i) (take-append-drop (i * width) cells)

-- ---- a row among others

pub row_of-rows_of : {A : Type 0} (width count : ℕ) (cells : List A) (k : ℕ) (d : List A) → k < count → slice_index_or (rows_of width count cells) k d ≡ take width (drop (k * width) cells)
row_of-rows_of width zero cells k d h = absurd (omega arith)
row_of-rows_of width (suc count) cells zero d h =
    let none : zero * width ≡ zero = omega arith in
    ap (λ n. take width (drop n cells)) (sym none)
row_of-rows_of width (suc count) cells (suc k) d h =
    let next : width + k * width ≡ suc k * width = omega arith in
    let within : k < count = omega arith in
    row_of-rows_of width count (drop width cells) k d within ∙ ap (take width) (drop-drop (k * width) width cells ∙ ap (λ n. drop n cells) next)

pub row_length : {A : Type 0} (width count : ℕ) (cells : List A) (k : ℕ) → k < count → length cells ≡ count * width → length (take width (drop (k * width) cells)) ≡ width
row_length width count cells k within all =
    let fits : k * width + width ≤ length cells = product_within k count width (length cells) within all in
    let rest : width ≤ length (drop (k * width) cells) = omega (arith, length-drop (k * width) cells) in
    length-take-le width (drop (k * width) cells) rest

-- an entry of a row is a cell
pub cell_of : {A : Type 0} (width count : ℕ) (cells : List A) (k c : ℕ) (e : A) → k < count → c < width → slice_index_or (slice_index_or (rows_of width count cells) k []) c e ≡ slice_index_or cells (k * width + c) e
cell_of width count cells k c e within narrow =
    ap (λ row. slice_index_or row c e) (row_of-rows_of width count cells k [] within) ∙ get_or-take width (drop (k * width) cells) c e narrow ∙ get_or-drop (k * width) cells c e

pub cell_within : (width count n k c : ℕ) → k < count → c < width → n ≡ count * width → k * width + c < n
cell_within width count n k c within narrow all =
    let fits : k * width + width ≤ n = product_within k count width n within all in omega arith
