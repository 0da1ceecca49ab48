-- What a standard form consists of, and the objective's value at its columns.
use Rattle.std.proofs.Common.{◌≡◌, refl, sym, ◌∙◌, ap, ap₂, suc, List, [], ◌∷◌, ◌++◌, length, map, Option, Some, None, Result, Ok, arith}
use Rattle.std.specs.Prelude.{flat_map, unwrap_or}
use Rattle.std.proofs.lemmas.List.{length-map}
use Rattle.std.proofs.lemmas.List.Sums.{sum_by-cons}
use Rattle.frac128.specs.Checked.{◌>>=◌}
use Rattle.frac128.specs.Fraction.{Fraction, negation, zero_value}
use Rattle.frac128.specs.declared.operations.Wide.{Wide}
use Rattle.frac128.proofs.Field.{apart_of-sum, exact_product-zero_right, exact_sum-zero_left, exact_sum_assoc, exact_sum_comm, negation-negation, negation-sum}
use Rattle.model_data.specs.declared.model.Direction.{Direction}
use Rattle.model_data.specs.declared.model.Direction.TheVariants.{Minimize, Maximize}
use Rattle.model_data.specs.declared.model.Model.{Model}
use Rattle.model_data.specs.declared.model.Var.{Var}
use Rattle.dictionary.specs.Dictionary.{each}
use Rattle.dictionary.specs.declared.standard.Std.{Std}
use Rattle.dictionary.specs.declared.standard.StdRow.{StdRow}
use Rattle.solve_defs.specs.Columns.{columns_sum, exact_point, model_value}
use Rattle.solve_defs.specs.StandardForm.{Shape, shifted, mirrored, free, column_count, constant_with, entries, offset, plus_offset, rows_of, shapes_of, span_rows, standard_form, width}
use Rattle.solve_defs.specs.Values.{turned}
use Rattle.solve_defs.specs.declared.cut.Cut.{Cut}
use Rattle.solve_defs.proofs.FormPoints.{objective_coefs}
use Rattle.solve_defs.proofs.FormQuotients.{zero-sum}
use Rattle.frac128.proofs.Sums.{sums, ◌⊕◌, ◌⊗◌}
use Rattle.solve_defs.proofs.FormSums.{columns_and_offsets, columns_sum-negation, offset_value, offsets}
use Rattle.frac128.proofs.Chains.{plus_product_is, same_ok, through}

-- ---- the parts

pub record Parts (m : Model) (cuts : List Cut) (s : Std) : Type 0 where
  pub rows : List (List StdRow)
  pub spans : List StdRow
  pub constant : Fraction
  pub rows_are : each (rows_of (shapes_of m cuts)) m.rows ≡ Ok rows
  pub spans_are : span_rows (column_count (shapes_of m cuts)) 0 (shapes_of m cuts) ≡ Ok spans
  pub constant_is : constant_with (shapes_of m cuts) m.constant m.vars ≡ Ok constant
  pub form_rows : flat_map (λ same. same) rows ++ spans ≡ s.rows
  pub form_obj : map (turned m.direction) (entries (shapes_of m cuts) (objective_coefs m)) ≡ s.obj
  pub form_constant : turned m.direction constant ≡ s.constant

-- what follows the rows, and what follows the variables' rows
abbrev behind_spans : Model → List Cut → List (List StdRow) → List StdRow → Result Std Wide
behind_spans m cuts rows spans = do
  constant ← constant_with (shapes_of m cuts) m.constant m.vars
  Ok record {
    rows = flat_map (λ same. same) rows ++ spans;
    obj = map (turned m.direction) (entries (shapes_of m cuts) (map (λ v. v.obj) m.vars));
    constant = turned m.direction constant;
  }

abbrev behind_rows : Model → List Cut → List (List StdRow) → Result Std Wide
behind_rows m cuts rows = do
  spans ← span_rows (column_count (shapes_of m cuts)) 0 (shapes_of m cuts)
  behind_spans m cuts rows spans

opened : (m : Model) (cuts : List Cut) (s : Std) → standard_form m cuts ≡ Ok s → each (rows_of (shapes_of m cuts)) m.rows >>= behind_rows m cuts ≡ Ok s
unfolding standard_form
opened m cuts s h = h

pub parts : (m : Model) (cuts : List Cut) (s : Std) → standard_form m cuts ≡ Ok s → Parts m cuts s
parts m cuts s h =
    let rows = through (each (rows_of (shapes_of m cuts)) m.rows) (behind_rows m cuts) s (opened m cuts s h) in
    let spans = through (span_rows (column_count (shapes_of m cuts)) 0 (shapes_of m cuts)) (behind_spans m cuts rows.value) s rows.rest in
    let constant = through (constant_with (shapes_of m cuts) m.constant m.vars) _ s spans.rest in
    let whole = same_ok _ s constant.rest in
    record {
      rows = rows.value;
      spans = spans.value;
      constant = constant.value;
      rows_are = rows.first;
      spans_are = spans.first;
      constant_is = constant.first;
      form_rows = ap (λ (t : Std). t.rows) whole;
      form_obj = ap (λ (t : Std). t.obj) whole;
      form_constant = ap (λ (t : Std). t.constant) whole;
    }

-- ---- so many columns

pub length-entries : (shapes : List Shape) (cs : List Fraction) → length cs ≡ length shapes → length (entries shapes cs) ≡ column_count shapes
length-entries [] [] same = refl
length-entries [] (c ∷ cs) same = absurd (omega (arith, same))
length-entries (shape ∷ shapes) [] same = absurd (omega (arith, same))
length-entries (shifted l u ∷ shapes) (c ∷ cs) same =
    ap suc (length-entries shapes cs (omega (arith, same))) ∙ omega arith ∙ sym (sum_by-cons width (shifted l u) shapes)
length-entries (mirrored u ∷ shapes) (c ∷ cs) same =
    ap suc (length-entries shapes cs (omega (arith, same))) ∙ omega arith ∙ sym (sum_by-cons width (mirrored u) shapes)
length-entries (free ∷ shapes) (c ∷ cs) same =
    ap (λ n. suc (suc n)) (length-entries shapes cs (omega (arith, same))) ∙ omega arith ∙ sym (sum_by-cons width free shapes)

-- ---- the objective

offset_more : (o : Option Fraction) (coef total next : Fraction) → plus_offset o coef total ≡ Ok next
    → zero_value ⊕ next ≡ total ⊕ coef ⊗ unwrap_or o zero_value
offset_more None coef total next h =
    ap (λ x. zero_value ⊕ x) (sym (same_ok total next h)) ∙ exact_sum_comm zero_value total ∙ sym (ap (λ x. total ⊕ x) (exact_product-zero_right coef))
offset_more (Some x) coef total next h =
    ap (λ y. zero_value ⊕ y) (plus_product_is coef total x next h) ∙ exact_sum-zero_left (total ⊕ coef ⊗ x) (apart_of-sum total (coef ⊗ x))

abbrev objectives : List Var → List Fraction
objectives vars = map (λ v. v.obj) vars

pub constant_value : (shapes : List Shape) (total : Fraction) (vars : List Var) (out : Fraction) → length vars ≡ length shapes → constant_with shapes total vars ≡ Ok out
    → zero_value ⊕ out ≡ total ⊕ columns_sum (objectives vars) (offsets shapes)
constant_value [] total [] out same h = ap (λ x. zero_value ⊕ x) (sym (same_ok total out h)) ∙ exact_sum_comm zero_value total
constant_value [] total (v ∷ vars) out same h = absurd (omega (arith, same))
constant_value (shape ∷ shapes) total [] out same h = absurd (omega (arith, same))
constant_value (shape ∷ shapes) total (v ∷ vars) out same h =
    let made = through (plus_offset (offset shape) v.obj total) (λ next. constant_with shapes next vars) out h in
    let rest = columns_sum (objectives vars) (offsets shapes) in
    constant_value shapes made.value vars out (omega (arith, same)) made.rest
    ∙ sym (zero-sum made.value rest) ∙ ap (λ x. x ⊕ rest) (offset_more (offset shape) v.obj total made.value made.first)
    ∙ exact_sum_assoc total (v.obj ⊗ offset_value shape) rest

as_it_is : (cs ys : List Fraction) → columns_sum (map (turned Maximize) cs) ys ≡ columns_sum cs ys
as_it_is [] ys = refl
as_it_is (c ∷ cs) [] = refl
as_it_is (c ∷ cs) (y ∷ ys) = ap (λ s. c ⊗ y ⊕ s) (as_it_is cs ys)

-- a direction turns constant and columns alike
turned_back : (direction : Direction) (constant : Fraction) (cs ys : List Fraction)
    → turned direction (turned direction constant ⊕ columns_sum (map (turned direction) cs) ys) ≡ constant ⊕ columns_sum cs ys
turned_back Minimize constant cs ys =
    ap (λ s. negation (negation constant ⊕ s)) (columns_sum-negation cs ys)
    ∙ ap negation (sym (negation-sum constant (columns_sum cs ys))) ∙ negation-negation (constant ⊕ columns_sum cs ys)
turned_back Maximize constant cs ys = ap (λ s. constant ⊕ s) (as_it_is cs ys)

-- The standard form's value is that of the objective at the variables' values.
pub model_value_is : (m : Model) (cuts : List Cut) (s : Std) (ys : List Fraction) → Parts m cuts s → length m.vars ≡ length (shapes_of m cuts) → length ys ≡ column_count (shapes_of m cuts)
    → model_value m.direction s ys ≡ columns_sum (objective_coefs m) (exact_point (shapes_of m cuts) ys) ⊕ m.constant
model_value_is m cuts s ys p same long =
    let shapes = shapes_of m cuts in
    let cs = objective_coefs m in
    let columns = columns_sum (entries shapes cs) ys in
    let beside = columns_sum cs (offsets shapes) in
    ap₂ (λ c es. turned m.direction (c ⊕ columns_sum es ys)) (sym p.form_constant) (sym p.form_obj)
    ∙ turned_back m.direction p.constant (entries shapes cs) ys
    ∙ sym (zero-sum p.constant columns) ∙ ap (λ c. c ⊕ columns) (constant_value shapes m.constant m.vars p.constant same p.constant_is)
    ∙ sorted m.constant beside columns
    ∙ ap (λ t. t ⊕ m.constant) (sym (columns_and_offsets shapes 0 cs ys ys refl long (length-map m.vars (λ v. v.obj) ∙ same)))
  where
    sorted : (c o e : Fraction) → (c ⊕ o) ⊕ e ≡ (e ⊕ o) ⊕ c
    sorted c o e = simp sums
