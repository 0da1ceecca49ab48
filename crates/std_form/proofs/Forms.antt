-- A standard form from its parts.
use Rattle.std.proofs.Common.{◌≡◌, ◌∙◌, sym, ap, ap₂, List, [], ◌++◌, length, map, Result, Ok, Err}
use Rattle.std.specs.List.{flat_map}
use Rattle.frac128.specs.Checked.{◌>>=◌}
use Rattle.frac128.specs.Fraction.{Fraction}
use Rattle.frac128.specs.declared.operations.Wide.{Wide}
use Rattle.dictionary.specs.Dictionary.{each}
use Rattle.dictionary.specs.declared.standard.Std.{Std}
use Rattle.dictionary.specs.declared.standard.StdRow.{StdRow}
use Rattle.model_data.specs.declared.model.Model.{Model}
use Rattle.solve_defs.specs.StandardForm as defs
use Rattle.solve_defs.specs.StandardForm.{standard_form}
use Rattle.solve_defs.specs.Values.{turned}
use Rattle.solve_defs.specs.declared.cut.Cut.{Cut}
use Rattle.std_form.specs.Outcome.{behind, joined}
use Rattle.solve_defs.proofs.FormSizes.{length-shapes_of}

-- ---- the parts

abbrev pub row_parts : Model → List defs.Shape → Result (List (List StdRow)) Wide
row_parts m shapes = each (defs.rows_of shapes) m.rows

abbrev pub all_spans : List defs.Shape → Result (List StdRow) Wide
all_spans shapes = defs.span_rows (defs.column_count shapes) 0 shapes

abbrev pub constant_of : Model → List defs.Shape → Result Fraction Wide
constant_of m shapes = defs.constant_with shapes m.constant m.vars

abbrev pub form_of : Model → List defs.Shape → List StdRow → Fraction → Std
form_of m shapes rows k = record {
  rows = rows;
  obj = map (turned m.direction) (defs.entries shapes (map (λ v. v.obj) m.vars));
  constant = turned m.direction k;
}

-- the standard form with these shapes
abbrev pub form_with : Model → List defs.Shape → Result Std Wide
form_with m shapes =
    ◌>>=◌ (row_parts m shapes) (λ rows. ◌>>=◌ (all_spans shapes) (λ spans. ◌>>=◌ (constant_of m shapes) (λ k.
    Ok (form_of m shapes (flat_map (λ same. same) rows ++ spans) k))))

pub standard_form-with : (m : Model) (cuts : List Cut) (shapes : List defs.Shape) → shapes ≡ defs.shapes_of m cuts → standard_form m cuts ≡ form_with m shapes
unfolding standard_form
standard_form-with m cuts shapes are = ap (form_with m) (sym are)

pub as_many : (m : Model) (cuts : List Cut) (shapes : List defs.Shape) → shapes ≡ defs.shapes_of m cuts → length m.vars ≡ length shapes
as_many m cuts shapes are = length-shapes_of m cuts ∙ ap length (sym are)

-- ---- where all are made

all_made : (parts : Result (List (List StdRow)) Wide) (spans : Result (List StdRow) Wide) (constant : Result Fraction Wide)
    (form : List StdRow → Fraction → Std) (first all : List StdRow) (k : Fraction)
    → behind [] (joined parts) ≡ Ok first → behind first spans ≡ Ok all → constant ≡ Ok k
    → ◌>>=◌ parts (λ rows. ◌>>=◌ spans (λ own. ◌>>=◌ constant (λ x. Ok (form (flat_map (λ same. same) rows ++ own) x)))) ≡ Ok (form all k)
all_made (Ok rows) (Ok own) (Ok x) form first all k rows_made spans_made constant_made =
    let some : flat_map (λ same. same) rows ≡ first = cc in
    let whole : first ++ own ≡ all = cc in
    let last : x ≡ k = cc in
    ap Ok (ap₂ form (ap (λ (rs : List StdRow). rs ++ own) some ∙ whole) last)
all_made (Ok rows) (Ok own) (Err e) form first all k rows_made spans_made constant_made = absurd cc
all_made (Ok rows) (Err e) constant form first all k rows_made spans_made constant_made = absurd cc
all_made (Err e) spans constant form first all k rows_made spans_made constant_made = absurd cc

pub form_made : (m : Model) (shapes : List defs.Shape) (first all : List StdRow) (k : Fraction) → behind [] (joined (row_parts m shapes)) ≡ Ok first
    → behind first (all_spans shapes) ≡ Ok all → constant_of m shapes ≡ Ok k → form_with m shapes ≡ Ok (form_of m shapes all k)
form_made m shapes first all k = all_made (row_parts m shapes) (all_spans shapes) (constant_of m shapes) (form_of m shapes) first all k

-- ---- where one is refused

refused_by : {A B : Type 0} (r : Result A Wide) (next : A → Result B Wide) (e : Wide) → r ≡ Err e → ◌>>=◌ r next ≡ Err e
refused_by (Ok a) next e refused = absurd cc
refused_by (Err f) next e refused = let same : f ≡ e = cc in ap Err same

joined_refused : (parts : Result (List (List StdRow)) Wide) (e : Wide) → behind [] (joined parts) ≡ Err e → parts ≡ Err e
joined_refused (Ok rows) e refused = absurd cc
joined_refused (Err f) e refused = let same : f ≡ e = cc in ap Err same

behind_refused : (done : List StdRow) (rows : Result (List StdRow) Wide) (e : Wide) → behind done rows ≡ Err e → rows ≡ Err e
behind_refused done (Ok own) e refused = absurd cc
behind_refused done (Err f) e refused = let same : f ≡ e = cc in ap Err same

after_parts : {A : Type 0} (parts : Result (List (List StdRow)) Wide) (first : List StdRow) (next : List (List StdRow) → Result A Wide) (e : Wide)
    → behind [] (joined parts) ≡ Ok first → ((rows : List (List StdRow)) → next rows ≡ Err e) → ◌>>=◌ parts next ≡ Err e
after_parts (Ok rows) first next e made refused = refused rows
after_parts (Err f) first next e made refused = absurd cc

after_spans : {A : Type 0} (spans : Result (List StdRow) Wide) (first all : List StdRow) (next : List StdRow → Result A Wide) (e : Wide)
    → behind first spans ≡ Ok all → ((own : List StdRow) → next own ≡ Err e) → ◌>>=◌ spans next ≡ Err e
after_spans (Ok own) first all next e made refused = refused own
after_spans (Err f) first all next e made refused = absurd cc

pub form_without_rows : (m : Model) (shapes : List defs.Shape) (e : Wide) → behind [] (joined (row_parts m shapes)) ≡ Err e → form_with m shapes ≡ Err e
form_without_rows m shapes e refused = refused_by (row_parts m shapes) _ e (joined_refused (row_parts m shapes) e refused)

pub form_without_spans : (m : Model) (shapes : List defs.Shape) (first : List StdRow) (e : Wide)
    → behind [] (joined (row_parts m shapes)) ≡ Ok first → behind first (all_spans shapes) ≡ Err e → form_with m shapes ≡ Err e
form_without_spans m shapes first e rows refused =
    after_parts (row_parts m shapes) first _ e rows (λ _. refused_by (all_spans shapes) _ e (behind_refused first (all_spans shapes) e refused))

pub form_without_constant : (m : Model) (shapes : List defs.Shape) (first all : List StdRow) (e : Wide) → behind [] (joined (row_parts m shapes)) ≡ Ok first
    → behind first (all_spans shapes) ≡ Ok all → constant_of m shapes ≡ Err e → form_with m shapes ≡ Err e
form_without_constant m shapes first all e rows spans refused =
    after_parts (row_parts m shapes) first _ e rows
    (λ _. after_spans (all_spans shapes) first all _ e spans (λ _. refused_by (constant_of m shapes) _ e refused))
