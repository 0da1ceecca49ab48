-- A pass that keeps the best so far ends at the best of all.
use Rattle.std.specs.Prelude.{◌||◌}
use Rattle.std.proofs.Common.{◌≡◌, ◌∙◌, refl, sym, ap, ap₂, subst, ℕ, zero, suc, ◌+◌, ◌-◌, ◌<◌, ◌≤◌, Bool, true, false, cond, List, [], ◌∷◌, length, drop, filter, map, slice_index, slice_index_or, Option, Some, None, option_map, Result, Ok, Err, arith}
use Rattle.std.specs.List.{best_of, fold, list_any}
use Rattle.frac128.specs.Checked.{◌>>=◌}
use Rattle.frac128.specs.Fraction.{Fraction}
use Rattle.frac128.specs.declared.operations.Wide.{Wide}
use Rattle.dictionary.specs.Dictionary.{Dictionary, IsInShape, each, entry, numbers_from}
use Rattle.dictionary.specs.Rule.{Column, Ratio, RowAhead, best_among, columns_from, columns_of, entering_column, is_positive, leaves_before, leaving_row, least_row, maximized_row, ratio_of, ratios, rows_from, side_before}
use Rattle.dictionary.proofs.Points.Chosen.{maximized-wide}
use Rattle.dictionary.proofs.Points.Lawful.{wide_entries}
use Rattle.dictionary.proofs.Points.Turned.{entry-behind}
use Rattle.bland_rule.specs.Scans.{best_with, column_at, kept_best, leaving, nearest_with, passed, row_ahead, smaller_variable}

-- ---- the best of what passes

kept_all : {A : Type 0} (passes : A → Bool) (beats : A → A → Bool) (b : A) (xs : List A) → fold (best_with passes beats) (Some b) xs ≡ Some (best_of beats b (filter passes xs))
kept_all passes beats b [] = refl
kept_all {A = A} passes beats b (x ∷ xs) = by_test (λ c. kept_all passes beats c xs) (passes x)
  where
    by_test : ((c : A) → fold (best_with passes beats) (Some c) xs ≡ Some (best_of beats c (filter passes xs))) → (t : Bool)
        → fold (best_with passes beats) (cond t (Some (cond (beats x b) x b)) (Some b)) xs ≡ Some (best_of beats b (cond t (x ∷ filter passes xs) (filter passes xs)))
    by_test others true = others (cond (beats x b) x b)
    by_test others false = others b

pub best_kept : {A : Type 0} (passes : A → Bool) (beats : A → A → Bool) (xs : List A) → fold (best_with passes beats) None xs ≡ best_among beats (filter passes xs)
best_kept passes beats [] = refl
best_kept passes beats (x ∷ xs) = by_test (best_kept passes beats xs) (passes x)
  where
    by_test : fold (best_with passes beats) None xs ≡ best_among beats (filter passes xs) → (t : Bool)
        → fold (best_with passes beats) (cond t (Some x) None) xs ≡ best_among beats (cond t (x ∷ filter passes xs) (filter passes xs))
    by_test others true = kept_all passes beats x xs
    by_test others false = others

pub all_pass : {A : Type 0} (xs : List A) → filter (λ x. true) xs ≡ xs
all_pass [] = refl
all_pass (x ∷ xs) = ap (λ ys. x ∷ ys) (all_pass xs)

-- ---- one number on

pub pass_on : {A B : Type 0} (f : B → A → B) (g : ℕ → A) (b c : B) (k n : ℕ) (whole : B) → k < n → c ≡ f b (g (k + 1))
    → fold f b (map g (numbers_from (k + 1) (n - k))) ≡ whole → fold f c (map g (numbers_from (k + 1 + 1) (n - (k + 1)))) ≡ whole
pass_on f g b c k n whole below is h =
    let more : n - k ≡ suc (n - (k + 1)) = omega (arith, below) in
    let next : suc (k + 1) ≡ k + 1 + 1 = omega arith in
    ap (λ a. fold f a (map g (numbers_from (k + 1 + 1) (n - (k + 1))))) is
    ∙ ap (λ m. fold f (f b (g (k + 1))) (map g (numbers_from m (n - (k + 1))))) (sym next)
    ∙ ap (λ m. fold f b (map g (numbers_from (k + 1) m))) (sym more) ∙ h

pub pass_end : {A B : Type 0} (f : B → A → B) (g : ℕ → A) (b : B) (k n : ℕ) (whole : B) → n ≤ k → fold f b (map g (numbers_from (k + 1) (n - k))) ≡ whole → b ≡ whole
pass_end f g b k n whole past h = let none : n - k ≡ 0 = omega (arith, past) in ap (λ m. fold f b (map g (numbers_from (k + 1) m))) (sym none) ∙ h

pub passed_on : {A B E : Type 0} (f : B → A → Result B E) (g : ℕ → A) (b c : B) (k n : ℕ) (whole : Result B E) → k < n → f b (g (k + 1)) ≡ Ok c
    → passed f b (map g (numbers_from (k + 1) (n - k))) ≡ whole → passed f c (map g (numbers_from (k + 1 + 1) (n - (k + 1)))) ≡ whole
passed_on f g b c k n whole below is h =
    let more : n - k ≡ suc (n - (k + 1)) = omega (arith, below) in
    let next : suc (k + 1) ≡ k + 1 + 1 = omega arith in
    ap (λ m. passed f c (map g (numbers_from m (n - (k + 1))))) (sym next)
    ∙ ap (λ r. ◌>>=◌ r (λ a. passed f a (map g (numbers_from (suc (k + 1)) (n - (k + 1)))))) (sym is)
    ∙ ap (λ m. passed f b (map g (numbers_from (k + 1) m))) (sym more) ∙ h

pub passed_stop : {A B E : Type 0} (f : B → A → Result B E) (g : ℕ → A) (b : B) (k n : ℕ) (whole : Result B E) (e : E) → k < n → f b (g (k + 1)) ≡ Err e
    → passed f b (map g (numbers_from (k + 1) (n - k))) ≡ whole → Err e ≡ whole
passed_stop f g b k n whole e below is h =
    let more : n - k ≡ suc (n - (k + 1)) = omega (arith, below) in
    ap (λ r. ◌>>=◌ r (λ a. passed f a (map g (numbers_from (suc (k + 1)) (n - (k + 1)))))) (sym is)
    ∙ ap (λ m. passed f b (map g (numbers_from (k + 1) m))) (sym more) ∙ h

pub passed_end : {A B E : Type 0} (f : B → A → Result B E) (g : ℕ → A) (b : B) (k n : ℕ) (whole : Result B E) → n ≤ k → passed f b (map g (numbers_from (k + 1) (n - k))) ≡ whole → Ok b ≡ whole
passed_end f g b k n whole past h = let none : n - k ≡ 0 = omega (arith, past) in ap (λ m. passed f b (map g (numbers_from (k + 1) m))) (sym none) ∙ h

-- ---- columns and rows by number

columns_listed : (f : ℕ → Column) (c : ℕ) (vs : List ℕ) (xs : List Fraction) → length xs ≡ length vs
    → ((i : ℕ) → i < length vs → f (c + i) ≡ record { column = c + i; variable = slice_index vs i; coefficient = entry xs i })
    → columns_from c vs xs ≡ map f (numbers_from c (length vs))
columns_listed f c [] xs same are = refl
columns_listed f c (v ∷ vs) [] same are = absurd (omega (arith, same))
columns_listed f c (v ∷ vs) (x ∷ xs) same are =
    let here : c + 0 ≡ c = omega arith in
    ap₂ (λ (y : Column) (ys : List Column). y ∷ ys)
    (sym (subst (λ n. f n ≡ record { column = n; variable = v; coefficient = x }) here (are 0 (omega arith))))
    (columns_listed f (suc c) vs xs (omega (arith, same)) (λ i h.
    let on : c + suc i ≡ suc c + i = omega arith in
    subst (λ n. f n ≡ record { column = n; variable = slice_index vs i; coefficient = entry xs i }) on (are (suc i) (omega (arith, h)))))

rows_listed : (f : ℕ → RowAhead) (c r : ℕ) (vs : List ℕ) (rows : List (List Fraction)) → length rows ≡ length vs
    → ((i : ℕ) → i < length vs → f (r + i) ≡ record { row = r + i; variable = slice_index vs i; constant = entry (slice_index_or rows i []) 0; entry = entry (slice_index_or rows i []) c })
    → rows_from c r vs rows ≡ map f (numbers_from r (length vs))
rows_listed f c r [] rows same are = refl
rows_listed f c r (v ∷ vs) [] same are = absurd (omega (arith, same))
rows_listed f c r (v ∷ vs) (row ∷ rows) same are =
    let here : r + 0 ≡ r = omega arith in
    ap₂ (λ (y : RowAhead) (ys : List RowAhead). y ∷ ys)
    (sym (subst (λ n. f n ≡ record { row = n; variable = v; constant = entry row 0; entry = entry row c }) here (are 0 (omega arith))))
    (rows_listed f c (suc r) vs rows (omega (arith, same)) (λ i h.
    let on : r + suc i ≡ suc r + i = omega arith in
    subst (λ n. f n ≡ record { row = n; variable = slice_index vs i; constant = entry (slice_index_or rows i []) 0; entry = entry (slice_index_or rows i []) c }) on (are (suc i) (omega (arith, h)))))

none_less : (n : ℕ) → n - 0 ≡ n
none_less n = omega arith

one_back : (i : ℕ) → 1 + i - 1 ≡ i
one_back i = omega arith

one_more : (i : ℕ) → suc i ≡ 1 + i
one_more i = omega arith

pub columns_numbered : (d : Dictionary) → IsInShape d → columns_of d ≡ map (column_at d) (numbers_from 1 (length d.nonbasic))
columns_numbered d shape =
    columns_listed (column_at d) 1 d.nonbasic (drop 1 (maximized_row d)) (wide_entries (length d.nonbasic) (maximized_row d) (maximized-wide d shape))
    (λ i h. ap₂ (λ (k : ℕ) (x : Fraction). record { column = 1 + i; variable = slice_index d.nonbasic k; coefficient = x }) (one_back i)
    (ap (entry (maximized_row d)) (sym (one_more i)) ∙ sym (entry-behind i (maximized_row d))))

pub rows_numbered : (d : Dictionary) (c : ℕ) → IsInShape d → rows_from c 1 d.basic d.rows ≡ map (row_ahead d c) (numbers_from 1 (length d.basic))
rows_numbered d c shape =
    rows_listed (row_ahead d c) c 1 d.basic d.rows shape.rows
    (λ i h. ap (λ k. record { row = 1 + i; variable = slice_index d.basic k; constant = entry (slice_index_or d.rows k []) 0; entry = entry (slice_index_or d.rows k []) c }) (one_back i))

-- ---- ratios

nearest_all : (b : Ratio) (rows : List RowAhead) → passed nearest_with (Some b) rows ≡ ◌>>=◌ (each ratio_of (filter (λ row. is_positive row.entry) rows)) (λ xs. Ok (Some (best_of leaves_before b xs)))
nearest_all b [] = refl
nearest_all b (row ∷ rows) = by_test (λ c. nearest_all c rows) (is_positive row.entry)
  where
    formed : Result (List Ratio) Wide
    formed = each ratio_of (filter (λ row. is_positive row.entry) rows)

    by_rest : (x : Ratio) (rest : Result (List Ratio) Wide) → ◌>>=◌ rest (λ xs. Ok (Some (best_of leaves_before (cond (leaves_before x b) x b) xs)))
        ≡ ◌>>=◌ (◌>>=◌ rest (λ xs. Ok (x ∷ xs))) (λ xs. Ok (Some (best_of leaves_before b xs)))
    by_rest x (Ok xs) = refl
    by_rest x (Err e) = refl

    by_value : ((c : Ratio) → passed nearest_with (Some c) rows ≡ ◌>>=◌ formed (λ xs. Ok (Some (best_of leaves_before c xs)))) → (value : Result Ratio Wide)
        → ◌>>=◌ (◌>>=◌ value (λ x. Ok (Some (kept_best leaves_before (Some b) x)))) (λ c. passed nearest_with c rows)
        ≡ ◌>>=◌ (◌>>=◌ value (λ x. ◌>>=◌ formed (λ xs. Ok (x ∷ xs)))) (λ xs. Ok (Some (best_of leaves_before b xs)))
    by_value others (Ok x) = others (cond (leaves_before x b) x b) ∙ by_rest x formed
    by_value others (Err e) = refl

    by_test : ((c : Ratio) → passed nearest_with (Some c) rows ≡ ◌>>=◌ formed (λ xs. Ok (Some (best_of leaves_before c xs)))) → (t : Bool)
        → ◌>>=◌ (cond t (◌>>=◌ (ratio_of row) (λ x. Ok (Some (kept_best leaves_before (Some b) x)))) (Ok (Some b))) (λ c. passed nearest_with c rows)
        ≡ ◌>>=◌ (each ratio_of (cond t (row ∷ filter (λ row. is_positive row.entry) rows) (filter (λ row. is_positive row.entry) rows))) (λ xs. Ok (Some (best_of leaves_before b xs)))
    by_test others true = by_value others (ratio_of row)
    by_test others false = others b

pub nearest_kept : (rows : List RowAhead) → passed nearest_with None rows ≡ ◌>>=◌ (each ratio_of (filter (λ row. is_positive row.entry) rows)) (λ xs. Ok (best_among leaves_before xs))
nearest_kept [] = refl
nearest_kept (row ∷ rows) = by_test (nearest_kept rows) (is_positive row.entry)
  where
    formed : Result (List Ratio) Wide
    formed = each ratio_of (filter (λ row. is_positive row.entry) rows)

    by_rest : (x : Ratio) (rest : Result (List Ratio) Wide) → ◌>>=◌ rest (λ xs. Ok (Some (best_of leaves_before x xs)))
        ≡ ◌>>=◌ (◌>>=◌ rest (λ xs. Ok (x ∷ xs))) (λ xs. Ok (best_among leaves_before xs))
    by_rest x (Ok xs) = refl
    by_rest x (Err e) = refl

    by_value : (value : Result Ratio Wide)
        → ◌>>=◌ (◌>>=◌ value (λ x. Ok (Some x))) (λ c. passed nearest_with c rows)
        ≡ ◌>>=◌ (◌>>=◌ value (λ x. ◌>>=◌ formed (λ xs. Ok (x ∷ xs)))) (λ xs. Ok (best_among leaves_before xs))
    by_value (Ok x) = nearest_all x rows ∙ by_rest x formed
    by_value (Err e) = refl

    by_test : passed nearest_with None rows ≡ ◌>>=◌ formed (λ xs. Ok (best_among leaves_before xs)) → (t : Bool)
        → ◌>>=◌ (cond t (◌>>=◌ (ratio_of row) (λ x. Ok (Some x))) (Ok None)) (λ c. passed nearest_with c rows)
        ≡ ◌>>=◌ (each ratio_of (cond t (row ∷ filter (λ row. is_positive row.entry) rows) (filter (λ row. is_positive row.entry) rows))) (λ xs. Ok (best_among leaves_before xs))
    by_test others true = by_value (ratio_of row)
    by_test others false = others

-- ---- at the ends of the passes

pub entering_whole : (d : Dictionary) → IsInShape d
    → fold (best_with (λ x. is_positive x.coefficient) smaller_variable) None (map (column_at d) (numbers_from 1 (length d.nonbasic - 0))) ≡ best_among smaller_variable (filter (λ x. is_positive x.coefficient) (columns_of d))
entering_whole d shape =
    ap (λ n. fold (best_with (λ x. is_positive x.coefficient) smaller_variable) None (map (column_at d) (numbers_from 1 n))) (none_less (length d.nonbasic))
    ∙ ap (fold (best_with (λ x. is_positive x.coefficient) smaller_variable) None) (sym (columns_numbered d shape)) ∙ best_kept (λ x. is_positive x.coefficient) smaller_variable (columns_of d)

pub entering_is : (d : Dictionary) → option_map (λ c. c.column) (best_among smaller_variable (filter (λ x. is_positive x.coefficient) (columns_of d))) ≡ entering_column d
unfolding entering_column
entering_is d = refl

pub least_whole : (d : Dictionary) → IsInShape d
    → fold (best_with (λ x. true) side_before) None (map (row_ahead d 0) (numbers_from 1 (length d.basic - 0))) ≡ best_among side_before (rows_from 0 1 d.basic d.rows)
least_whole d shape =
    ap (λ n. fold (best_with (λ x. true) side_before) None (map (row_ahead d 0) (numbers_from 1 n))) (none_less (length d.basic))
    ∙ ap (fold (best_with (λ x. true) side_before) None) (sym (rows_numbered d 0 shape)) ∙ best_kept (λ x. true) side_before (rows_from 0 1 d.basic d.rows)
    ∙ ap (best_among side_before) (all_pass (rows_from 0 1 d.basic d.rows))

pub least_is : (d : Dictionary) → option_map (λ row. row.row) (best_among side_before (rows_from 0 1 d.basic d.rows)) ≡ least_row d
unfolding least_row
least_is d = refl

pub leaving_whole : (d : Dictionary) (c : ℕ) → IsInShape d
    → passed nearest_with None (map (row_ahead d c) (numbers_from 1 (length d.basic - 0))) ≡ ◌>>=◌ (ratios d c) (λ xs. Ok (best_among leaves_before xs))
unfolding ratios
leaving_whole d c shape =
    ap (λ n. passed nearest_with None (map (row_ahead d c) (numbers_from 1 n))) (none_less (length d.basic)) ∙ ap (passed nearest_with None) (sym (rows_numbered d c shape)) ∙ nearest_kept (rows_from c 1 d.basic d.rows)

-- the leaving row follows from the best ratio
pub leaving_is : (d : Dictionary) (c : ℕ) → ◌>>=◌ (◌>>=◌ (ratios d c) (λ xs. Ok (best_among leaves_before xs))) (λ best. Ok (option_map (λ ratio. ratio.row) best)) ≡ leaving d c
unfolding leaving_row
leaving_is d c = by_ratios (ratios d c)
  where
    by_ratios : (formed : Result (List Ratio) Wide) → ◌>>=◌ (◌>>=◌ formed (λ xs. Ok (best_among leaves_before xs))) (λ best. Ok (option_map (λ ratio. ratio.row) best)) ≡ ◌>>=◌ formed (λ xs. Ok (leaving_row xs))
    by_ratios (Ok xs) = refl
    by_ratios (Err e) = refl

pub entering_found : (d : Dictionary) (best : Option Column) (k : ℕ) → length d.nonbasic ≤ k
    → fold (best_with (λ x. is_positive x.coefficient) smaller_variable) best (map (column_at d) (numbers_from (k + 1) (length d.nonbasic - k))) ≡ best_among smaller_variable (filter (λ x. is_positive x.coefficient) (columns_of d))
    → option_map (λ x. x.column) best ≡ entering_column d
entering_found d best k past h =
    ap (option_map (λ x. x.column)) (pass_end (best_with (λ x. is_positive x.coefficient) smaller_variable) (column_at d) best k (length d.nonbasic) (best_among smaller_variable (filter (λ x. is_positive x.coefficient) (columns_of d))) past h)
    ∙ entering_is d

pub least_found : (d : Dictionary) (best : Option RowAhead) (k : ℕ) → length d.basic ≤ k
    → fold (best_with (λ x. true) side_before) best (map (row_ahead d 0) (numbers_from (k + 1) (length d.basic - k))) ≡ best_among side_before (rows_from 0 1 d.basic d.rows)
    → option_map (λ x. x.row) best ≡ least_row d
least_found d best k past h =
    ap (option_map (λ x. x.row)) (pass_end (best_with (λ x. true) side_before) (row_ahead d 0) best k (length d.basic) (best_among side_before (rows_from 0 1 d.basic d.rows)) past h)
    ∙ least_is d

pub leaving_found : (d : Dictionary) (c : ℕ) (best : Option Ratio) (k : ℕ) → length d.basic ≤ k
    → passed nearest_with best (map (row_ahead d c) (numbers_from (k + 1) (length d.basic - k))) ≡ ◌>>=◌ (ratios d c) (λ xs. Ok (best_among leaves_before xs))
    → Ok (option_map (λ x. x.row) best) ≡ leaving d c
leaving_found d c best k past h =
    ap (λ r. ◌>>=◌ r (λ found. Ok (option_map (λ ratio. ratio.row) found))) (passed_end nearest_with (row_ahead d c) best k (length d.basic) (◌>>=◌ (ratios d c) (λ xs. Ok (best_among leaves_before xs))) past h)
    ∙ leaving_is d c

-- a step that stops
pub leaving_stopped : (d : Dictionary) (c k : ℕ) (best : Option Ratio) (e : Wide) → k < length d.basic → nearest_with best (row_ahead d c (k + 1)) ≡ Err e
    → passed nearest_with best (map (row_ahead d c) (numbers_from (k + 1) (length d.basic - k))) ≡ ◌>>=◌ (ratios d c) (λ xs. Ok (best_among leaves_before xs))
    → Err e ≡ leaving d c
leaving_stopped d c k best e below is h =
    ap (λ r. ◌>>=◌ r (λ found. Ok (option_map (λ ratio. ratio.row) found))) (passed_stop nearest_with (row_ahead d c) best k (length d.basic) (◌>>=◌ (ratios d c) (λ xs. Ok (best_among leaves_before xs))) e below is h)
    ∙ leaving_is d c

-- ---- whether some row is found

pub any_on : {A : Type 0} (f : A → Bool) (xs : List A) (k : ℕ) (e : A) → k < length xs → f (slice_index_or xs k e) ≡ false → list_any f (drop (k + 1) xs) ≡ list_any f (drop k xs)
any_on f [] k e h none = absurd (omega (arith, h))
any_on f (x ∷ xs) zero e h none = ap (λ b. b || list_any f xs) (sym none)
any_on f (x ∷ xs) (suc k) e h none = let one : suc k + 1 ≡ suc (k + 1) = omega arith in ap (λ n. list_any f (drop n (x ∷ xs))) one ∙ any_on f xs k e (omega (arith, h)) none

pub any_found : {A : Type 0} (f : A → Bool) (xs : List A) (k : ℕ) (e : A) → k < length xs → f (slice_index_or xs k e) ≡ true → list_any f (drop k xs) ≡ true
any_found f [] k e h found = absurd (omega (arith, h))
any_found f (x ∷ xs) zero e h found = ap (λ b. b || list_any f xs) found
any_found f (x ∷ xs) (suc k) e h found = any_found f xs k e (omega (arith, h)) found

pub any_end : {A : Type 0} (f : A → Bool) (xs : List A) (k : ℕ) → length xs ≤ k → list_any f (drop k xs) ≡ false
any_end f [] zero h = refl
any_end f [] (suc k) h = refl
any_end f (x ∷ xs) zero h = absurd (omega (arith, h))
any_end f (x ∷ xs) (suc k) h = any_end f xs k (omega (arith, h))
