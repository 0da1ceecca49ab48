-- What loops over variables and rows go on with.
use Rattle.std.proofs.Common.{◌≡◌, ◌∙◌, refl, sym, ap, ap₂, ℕ, suc, ◌+◌, List, [], ◌∷◌, ◌++◌, append_assoc, take, drop, get_or, Result, Ok, Err}
use Rattle.std.proofs.lemmas.List.{drop_more}
use Rattle.std.proofs.lemmas.List.Sums.{sum_by_more}
use Rattle.frac128.specs.Checked.{◌>>=◌}
use Rattle.frac128.specs.Fraction.{Fraction}
use Rattle.frac128.specs.declared.operations.Wide.{Wide}
use Rattle.dictionary.specs.declared.standard.StdRow.{StdRow}
use Rattle.solve_defs.specs.StandardForm as defs
use Rattle.solve_defs.specs.Values.{value_at}
use Rattle.std_form.specs.Outcome.{behind}
use Rattle.std_form.specs.Shapes.{shape_of}
use Rattle.std_form.specs.declared.columns.Placed.{Placed}
use Rattle.std_form.proofs.Places.{Stands}

pub constant_with-end : (shapes : List defs.Shape) (total : Fraction) → defs.constant_with shapes total [] ≡ Ok total
constant_with-end [] total = refl
constant_with-end (shape ∷ shapes) total = refl

-- ---- parts, one behind the other

-- a part and then the others
abbrev then : {A E : Type 0} → Result (List A) E → Result (List A) E → Result (List A) E
then part others = ◌>>=◌ part (λ own. ◌>>=◌ others (λ rest. Ok (own ++ rest)))

pub behind-then : {A E : Type 0} (done next : List A) (part others : Result (List A) E)
    → behind done part ≡ Ok next → behind done (then part others) ≡ behind next others
behind-then {A} done next (Ok own) (Ok rest) made =
    let same : done ++ own ≡ next = cc in
    ap Ok (sym (append_assoc done own rest)) ∙ ap (λ (xs : List A). Ok (xs ++ rest)) same
behind-then done next (Ok own) (Err e) made = refl
behind-then done next (Err e) others made = absurd cc

pub behind-refused : {A E : Type 0} (done : List A) (part others : Result (List A) E) (e : E)
    → behind done part ≡ Err e → behind done (then part others) ≡ Err e
behind-refused done (Ok own) others e refused = absurd cc
behind-refused done (Err f) others e refused = refused

-- ---- the values of the variables from one place on

-- what makes a variable's value of those of its columns
abbrev pub Making : Type 0
Making = defs.Shape → Fraction → Fraction → Result Fraction Wide

abbrev pub values_left : Making → List defs.Shape → List Fraction → ℕ → Result (List Fraction) Wide
values_left made shapes xs place = defs.values_from made (defs.column_count (take place shapes)) (drop place shapes) xs

-- a variable's value, where its columns begin here
abbrev pub value_from : Making → List Fraction → defs.Shape → ℕ → Result Fraction Wide
value_from made xs shape column = made shape (value_at xs column) (value_at xs (suc column))

abbrev pub value_then : Result Fraction Wide → Result (List Fraction) Wide → Result (List Fraction) Wide
value_then own others = ◌>>=◌ own (λ x. ◌>>=◌ others (λ rest. Ok (x ∷ rest)))

pub behind-value : (done : List Fraction) (own : Result Fraction Wide) (others : Result (List Fraction) Wide)
    → behind done (value_then own others) ≡ ◌>>=◌ own (λ x. behind (done ++ x ∷ []) others)
behind-value done (Ok x) (Ok rest) = ap Ok (sym (append_assoc done (x ∷ []) rest))
behind-value done (Ok x) (Err e) = refl
behind-value done (Err e) others = refl

pub values-step : (made : defs.Shape → Fraction → Fraction → Result Fraction Wide) (shapes : List defs.Shape) (xs done : List Fraction) (place : ℕ) (p : Placed) → Stands shapes place p
    → behind done (values_left made shapes xs place)
    ≡ ◌>>=◌ (made (shape_of p.shape) (value_at xs p.column) (value_at xs (suc p.column))) (λ x. behind (done ++ x ∷ []) (values_left made shapes xs (place + 1)))
values-step made shapes xs done place p here =
    let column = defs.column_count (take place shapes) in
    let shape = get_or shapes place defs.free in
    let ahead = drop (place + 1) shapes in
    ap (λ rest. behind done (defs.values_from made column rest xs)) (drop_more shapes place defs.free here.within)
    ∙ ap (λ n. behind done (value_then (value_from made xs shape column) (defs.values_from made n ahead xs)))
    (sym (sum_by_more defs.width shapes place defs.free here.within))
    ∙ behind-value done (value_from made xs shape column) (values_left made shapes xs (place + 1))
    ∙ ap₂ (λ (s : defs.Shape) (n : ℕ). ◌>>=◌ (value_from made xs s n) (λ x. behind (done ++ x ∷ []) (values_left made shapes xs (place + 1))))
    (here.shape defs.free) (sym here.column)

-- ---- the rows of the variables from one place on

abbrev pub spans_left : List defs.Shape → ℕ → Result (List StdRow) Wide
spans_left shapes place = defs.span_rows (defs.column_count shapes) (defs.column_count (take place shapes)) (drop place shapes)

pub spans-step : (shapes : List defs.Shape) (place : ℕ) (p : Placed) → Stands shapes place p
    → spans_left shapes place ≡ then (defs.span_row (defs.column_count shapes) p.column (shape_of p.shape)) (spans_left shapes (place + 1))
spans-step shapes place p here =
    let count = defs.column_count shapes in
    let column = defs.column_count (take place shapes) in
    let shape = get_or shapes place defs.free in
    let ahead = drop (place + 1) shapes in
    ap (defs.span_rows count column) (drop_more shapes place defs.free here.within)
    ∙ ap (λ n. then (defs.span_row count column shape) (defs.span_rows count n ahead))
    (sym (sum_by_more defs.width shapes place defs.free here.within))
    ∙ ap₂ (λ (s : defs.Shape) (n : ℕ). then (defs.span_row count n s) (spans_left shapes (place + 1))) (here.shape defs.free) (sym here.column)
