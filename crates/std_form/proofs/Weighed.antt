-- What loops over rows and variables make of weights.
use Rattle.std.proofs.Common.{◌≡◌, ◌∙◌, refl, sym, ap, ap₂, subst, ℕ, suc, ◌+◌, ◌<◌, ◌≤◌, Bool, true, false, cond, List, [], ◌∷◌, ◌++◌, append_assoc, append-nil, drop, length, take, get_or, sum_by, pos, Result, Ok, Err}
use Rattle.std.specs.Ordering.{int_eq}
use Rattle.std.proofs.lemmas.Bool.Decides.{Decides-int_eq}
use Rattle.std.proofs.lemmas.List.{at_drop_all, drop_more}
use Rattle.std.proofs.lemmas.List.Sums.{sum_by_more}
use Rattle.frac128.specs.Checked.{◌>>=◌}
use Rattle.frac128.specs.Fraction.{Fraction}
use Rattle.frac128.specs.declared.operations.Wide.{Wide}
use Rattle.model_data.specs.Size.{rows_of_sense}
use Rattle.model_data.specs.declared.model.Model.{Model}
use Rattle.model_data.specs.declared.model.Row.{Row}
use Rattle.model_data.specs.declared.solution.Weight.{Weight}
use Rattle.model_data.specs.declared.solution.Weights.{Weights}
use Rattle.solve_defs.specs.StandardForm as defs
use Rattle.solve_defs.specs.StandardForm.{weights_back}
use Rattle.solve_defs.specs.Values.{is_zero, value_at}
use Rattle.base_names.specs.declared.memory.OrMemory.{OrMemory}
use Rattle.std_form.specs.Outcome.{Meets, behind, with_weight}
use Rattle.std_form.specs.declared.fault.StdFault.{StdFault}
use Rattle.std_form.specs.Shapes.{shape_of}
use Rattle.std_form.specs.declared.columns.Placed.{Placed}
use Rattle.std_form.proofs.Places.{Stands}
use Rattle.std_form.proofs.Steps.{behind-value}

-- ---- rows

pub row-step : (rows : List Row) (ys done : List Fraction) (place i : ℕ) (row : Row) → i < length rows → row ≡ get_or rows i row
    → behind done (defs.row_weights place (drop i rows) ys)
    ≡ ◌>>=◌ (defs.row_weight row.sense (value_at ys place) (value_at ys (suc place)))
    (λ x. behind (done ++ x ∷ []) (defs.row_weights (place + rows_of_sense row.sense) (drop (i + 1) rows) ys))
row-step rows ys done place i row within is =
    ap (λ (rs : List Row). behind done (defs.row_weights place rs ys)) (drop_more rows i row within)
    ∙ ap (λ (r : Row). behind done (defs.row_weights place (r ∷ drop (i + 1) rows) ys)) (sym is)
    ∙ behind-value done (defs.row_weight row.sense (value_at ys place) (value_at ys (suc place))) (defs.row_weights (place + rows_of_sense row.sense) (drop (i + 1) rows) ys)

-- ---- variables

pub lows-step : (shapes : List defs.Shape) (reduced done : List Fraction) (i : ℕ) (p : Placed) → Stands shapes i p
    → done ++ defs.low_weights (defs.column_count (take i shapes)) (drop i shapes) reduced
    ≡ (done ++ defs.low_weight (shape_of p.shape) (value_at reduced p.column) ∷ []) ++ defs.low_weights (defs.column_count (take (i + 1) shapes)) (drop (i + 1) shapes) reduced
lows-step shapes reduced done i p here =
    let column = defs.column_count (take i shapes) in
    let shape = get_or shapes i defs.free in
    let left = defs.low_weights (defs.column_count (take (i + 1) shapes)) (drop (i + 1) shapes) reduced in
    ap (λ (ss : List defs.Shape). done ++ defs.low_weights column ss reduced) (drop_more shapes i defs.free here.within)
    ∙ ap (λ n. done ++ (defs.low_weight shape (value_at reduced column) ∷ defs.low_weights n (drop (i + 1) shapes) reduced)) (sym (sum_by_more defs.width shapes i defs.free here.within))
    ∙ ap₂ (λ (s : defs.Shape) (n : ℕ). done ++ (defs.low_weight s (value_at reduced n) ∷ left)) (here.shape defs.free) (sym here.column)
    ∙ sym (append_assoc done (defs.low_weight (shape_of p.shape) (value_at reduced p.column) ∷ []) left)

pub ups-step : (shapes : List defs.Shape) (ys reduced done : List Fraction) (place i : ℕ) (p : Placed) → Stands shapes i p
    → done ++ defs.up_weights place (defs.column_count (take i shapes)) (drop i shapes) ys reduced
    ≡ (done ++ defs.up_weight (shape_of p.shape) (value_at reduced p.column) (value_at ys place) ∷ [])
    ++ defs.up_weights (place + defs.spans_of (shape_of p.shape)) (defs.column_count (take (i + 1) shapes)) (drop (i + 1) shapes) ys reduced
ups-step shapes ys reduced done place i p here =
    let column = defs.column_count (take i shapes) in
    let shape = get_or shapes i defs.free in
    let next = defs.column_count (take (i + 1) shapes) in
    let ahead = drop (i + 1) shapes in
    ap (λ (ss : List defs.Shape). done ++ defs.up_weights place column ss ys reduced) (drop_more shapes i defs.free here.within)
    ∙ ap (λ n. done ++ (defs.up_weight shape (value_at reduced column) (value_at ys place) ∷ defs.up_weights (place + defs.spans_of shape) n ahead ys reduced))
    (sym (sum_by_more defs.width shapes i defs.free here.within))
    ∙ ap₂ (λ (s : defs.Shape) (n : ℕ). done ++ (defs.up_weight s (value_at reduced n) (value_at ys place) ∷ defs.up_weights (place + defs.spans_of s) next ahead ys reduced))
    (here.shape defs.free) (sym here.column)
    ∙ sym (append_assoc done (defs.up_weight (shape_of p.shape) (value_at reduced p.column) (value_at ys place) ∷ [])
    (defs.up_weights (place + defs.spans_of (shape_of p.shape)) next ahead ys reduced))

-- a list behind which nothing comes
pub ends_with : {A B : Type 0} (made : List B → List A) (bs : List B) (i : ℕ) (done whole : List A) → made [] ≡ [] → length bs ≤ i
    → done ++ made (drop i bs) ≡ whole → done ≡ whole
ends_with made bs i done whole none past are =
    sym (append-nil done) ∙ ap (λ xs. done ++ xs) (sym none) ∙ sym (ap (λ xs. done ++ xs) (at_drop_all made bs i past)) ∙ are

-- ---- numbers

zero_is : (x : Fraction) → x.num ≡ pos 0 → is_zero x ≡ true
zero_is x h = ap (λ n. int_eq n (pos 0)) h

zero_is_not : (x : Fraction) → (x.num ≡ pos 0 → ⊥) → is_zero x ≡ false
zero_is_not x other = by_test (is_zero x) refl
  where
    by_test : (b : Bool) → is_zero x ≡ b → b ≡ false
    by_test true e = absurd (other ((Decides-int_eq x.num (pos 0)).0 e))
    by_test false e = refl

pub left_out : (done : List Weight) (number : ℕ) (x : Fraction) → x.num ≡ pos 0 → done ≡ with_weight done number x
left_out done number x h = ap (λ b. cond b done (done ++ record { place = number; weight = x } ∷ [])) (sym (zero_is x h))

pub put_in : (done : List Weight) (number : ℕ) (x : Fraction) → (x.num ≡ pos 0 → ⊥) → done ++ record { place = number; weight = x } ∷ [] ≡ with_weight done number x
put_in done number x h = ap (λ b. cond b done (done ++ record { place = number; weight = x } ∷ [])) (sym (zero_is_not x h))

pub numbers-step : (xs : List Fraction) (done : List Weight) (i : ℕ) (x : Fraction) → i < length xs → x ≡ get_or xs i x
    → done ++ defs.numbered (suc i) (drop i xs) ≡ with_weight done (suc i) x ++ defs.numbered (suc (suc i)) (drop (i + 1) xs)
numbers-step xs done i x within is =
    let left = defs.numbered (suc (suc i)) (drop (i + 1) xs) in
    ap (λ (ys : List Fraction). done ++ defs.numbered (suc i) ys) (drop_more xs i x within)
    ∙ ap (λ (y : Fraction). done ++ defs.numbered (suc i) (y ∷ drop (i + 1) xs)) (sym is)
    ∙ by_test left (is_zero x)
  where
    by_test : (left : List Weight) (b : Bool) → done ++ cond b left (record { place = suc i; weight = x } ∷ left)
        ≡ cond b done (done ++ record { place = suc i; weight = x } ∷ []) ++ left
    by_test left true = refl
    by_test left false = sym (append_assoc done (record { place = suc i; weight = x } ∷ []) left)

-- ---- all weights

same_weights : (a b c d e f : List Weight) → a ≡ b → c ≡ d → e ≡ f → let own : Weights = record { rows = a; lows = c; ups = e } in own ≡ record { rows = b; lows = d; ups = f }
same_weights a b c d e f p q r = cc

pub weights_made : (m : Model) (shapes : List defs.Shape) (ys reduced own : List Fraction) (first : ℕ) (rows lows ups : List Weight)
    → defs.row_weights 0 m.rows ys ≡ Ok own → first ≡ sum_by (λ row. rows_of_sense row.sense) m.rows
    → rows ≡ defs.numbered 1 own → lows ≡ defs.numbered 1 (defs.low_weights 0 shapes reduced) → ups ≡ defs.numbered 1 (defs.up_weights first 0 shapes ys reduced)
    → weights_back m shapes ys reduced ≡ Ok record { rows = rows; lows = lows; ups = ups }
unfolding weights_back
weights_made m shapes ys reduced own first rows lows ups made first_is rows_are lows_are ups_are =
    let before = sum_by (λ (row : Row). rows_of_sense row.sense) m.rows in
    let with_rows : List Fraction → Weights = λ xs. record {
      rows = defs.numbered 1 xs;
      lows = defs.numbered 1 (defs.low_weights 0 shapes reduced);
      ups = defs.numbered 1 (defs.up_weights before 0 shapes ys reduced);
    } in
    ap (λ (r : Result (List Fraction) Wide). ◌>>=◌ r (λ xs. Ok (with_rows xs))) made
    ∙ ap Ok (same_weights _ _ _ _ _ _ (sym rows_are) (sym lows_are) (sym (ups_are ∙ ap (λ n. defs.numbered 1 (defs.up_weights n 0 shapes ys reduced)) first_is)))

pub weights_refused : (m : Model) (shapes : List defs.Shape) (ys reduced : List Fraction) (e : Wide) → defs.row_weights 0 m.rows ys ≡ Err e → weights_back m shapes ys reduced ≡ Err e
unfolding weights_back
weights_refused m shapes ys reduced e made =
    let before = sum_by (λ (row : Row). rows_of_sense row.sense) m.rows in
    let with_rows : List Fraction → Weights = λ xs. record {
      rows = defs.numbered 1 xs;
      lows = defs.numbered 1 (defs.low_weights 0 shapes reduced);
      ups = defs.numbered 1 (defs.up_weights before 0 shapes ys reduced);
    } in
    ap (λ (r : Result (List Fraction) Wide). ◌>>=◌ r (λ xs. Ok (with_rows xs))) made

-- what an answer that came tells
pub met : {A B : Type 0} (answer : Result A (OrMemory StdFault)) (a : A) (meaning : A → B) (wanted given : Result B Wide)
    → answer ≡ Ok a → wanted ≡ given → Meets answer meaning given → wanted ≡ Ok (meaning a)
met answer a meaning wanted given is same told = same ∙ subst (λ r. Meets r meaning given) is told

pub length-lows : (column : ℕ) (shapes : List defs.Shape) (reduced : List Fraction) → length (defs.low_weights column shapes reduced) ≡ length shapes
length-lows column [] reduced = refl
length-lows column (shape ∷ shapes) reduced = ap suc (length-lows (column + defs.width shape) shapes reduced)

pub length-ups : (place column : ℕ) (shapes : List defs.Shape) (ys reduced : List Fraction) → length (defs.up_weights place column shapes ys reduced) ≡ length shapes
length-ups place column [] ys reduced = refl
length-ups place column (shape ∷ shapes) ys reduced = ap suc (length-ups (place + defs.spans_of shape) (column + defs.width shape) shapes ys reduced)

pub length-rows : (place : ℕ) (rows : List Row) (ys weights : List Fraction) → defs.row_weights place rows ys ≡ Ok weights → length weights ≡ length rows
length-rows place [] ys weights made = let same : [] ≡ weights = cc in sym (ap length same)
length-rows place (row ∷ rows) ys weights made =
    by_parts (defs.row_weight row.sense (value_at ys place) (value_at ys (suc place))) (defs.row_weights (place + rows_of_sense row.sense) rows ys)
    (length-rows (place + rows_of_sense row.sense) rows ys) made
  where
    by_parts : (own : Result Fraction Wide) (others : Result (List Fraction) Wide) → ((rest : List Fraction) → others ≡ Ok rest → length rest ≡ length rows)
        → ◌>>=◌ own (λ x. ◌>>=◌ others (λ rest. Ok (x ∷ rest))) ≡ Ok weights → length weights ≡ suc (length rows)
    by_parts (Ok x) (Ok rest) count is = let same : x ∷ rest ≡ weights = cc in sym (ap length same) ∙ ap suc (count rest refl)
    by_parts (Ok x) (Err e) count is = absurd cc
    by_parts (Err e) others count is = absurd cc
