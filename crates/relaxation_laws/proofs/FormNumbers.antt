-- The numbers of a standard form: what holds of the model's numbers, and is kept by operations that fit, holds of the form's.
use Rattle.std.specs.Prelude.{flat_map, ◌==◌, IfSome}
use Rattle.std.proofs.Common.{◌≡◌, ⊎_elim, sym, subst, ℕ, suc, ◌+◌, Bool, true, false, cond, List, [], ◌∷◌, ◌++◌, map, length, replicate, slice_index_or, All, Option, Some, None, unwrap_or, option_map, Ok, ℤ}
use Rattle.std.proofs.lemmas.Bool.{cases_lt}
use Rattle.std.proofs.lemmas.List.{get_or_past}
use Rattle.std.proofs.lemmas.List.Elements.{All-append, All-cons, All-get_or, All-head, All-map, All-nil, All-replicate, All-set, All-tail, All-weaker}
use Rattle.frac128.specs.Checked.{checked_difference, less_product, plus_product}
use Rattle.frac128.specs.Fraction.{Fraction, negation, one_value, zero_value}
use Rattle.frac128.proofs.Chains.{same_ok, through}
use Rattle.model_data.specs.declared.model.Direction.{Direction}
use Rattle.model_data.specs.declared.model.Direction.TheVariants.{Maximize, Minimize}
use Rattle.model_data.specs.declared.model.Model.{Model}
use Rattle.model_data.specs.declared.model.Row.{Row}
use Rattle.model_data.specs.declared.model.Sense.{Sense}
use Rattle.model_data.specs.declared.model.Sense.TheVariants.{Equal, Greater, Less}
use Rattle.model_data.specs.declared.model.Term.{Term}
use Rattle.model_data.specs.declared.model.Var.{Var}
use Rattle.model_data.specs.declared.model.VarKind.{VarKind}
use Rattle.model_data.specs.declared.model.VarKind.TheVariants.{Binary, Continuous, Integer}
use Rattle.dictionary.specs.Dictionary.{each, numbers_from}
use Rattle.dictionary.specs.declared.standard.Std.{Std}
use Rattle.dictionary.specs.declared.standard.StdRow.{StdRow}
use Rattle.solve_defs.specs.Bounds.{Bounds, both, bounds_from, cut_bounds, effective_bounds, greater_bound, kind_bounds, lesser_bound, own_bounds, with_cuts}
use Rattle.solve_defs.specs.StandardForm.{Shape, by_sense, column_count, column_row, constant_with, entries, entries_of, free, less_offset, mirrored, negated, offset, plus_offset, row_entries, rows_of, shape_between, shapes_of, shifted, side_less, span_row, span_rows, standard_form, width}
use Rattle.solve_defs.specs.Values.{coefficient, is_at_most, term_of, turned, whole}
use Rattle.solve_defs.specs.declared.cut.Cut.{Cut}

-- It holds of 0 and of 1, and of what an operation that fits makes of numbers of which it holds.
pub record IsClosed (P : Fraction → Type 0) : Type 0 where
  pub of_zero : P zero_value
  pub of_one : P one_value
  pub of_negation : (x : Fraction) → P x → P (negation x)
  pub of_difference : (x y z : Fraction) → P x → P y → checked_difference x y ≡ Ok z → P z
  pub of_less : (f x y z : Fraction) → P f → P x → P y → less_product f x y ≡ Ok z → P z
  pub of_plus : (f x y z : Fraction) → P f → P x → P y → plus_product f x y ≡ Ok z → P z

-- ---- numbers of a model, of cuts and of a form

pub record VarHas (P : Fraction → Type 0) (v : Var) : Type 0 where
  pub lower : IfSome v.lower P
  pub upper : IfSome v.upper P
  pub obj : P v.obj

pub record RowHas (P : Fraction → Type 0) (row : Row) : Type 0 where
  pub rhs : P row.rhs
  pub terms : All (λ t. P t.coef) row.terms

pub record ModelHas (P : Fraction → Type 0) (m : Model) : Type 0 where
  pub constant : P m.constant
  pub vars : All (VarHas P) m.vars
  pub rows : All (RowHas P) m.rows

pub record CutHas (P : Fraction → Type 0) (cut : Cut) : Type 0 where
  pub lower : IfSome cut.lower (λ k. P (whole k))
  pub upper : IfSome cut.upper (λ k. P (whole k))

pub record StdRowHas (P : Fraction → Type 0) (row : StdRow) : Type 0 where
  pub coefs : All P row.coefs
  pub side : P row.rhs

pub record FormHas (P : Fraction → Type 0) (s : Std) : Type 0 where
  pub rows : All (StdRowHas P) s.rows
  pub obj : All P s.obj
  pub constant : P s.constant

record BoundsHave (P : Fraction → Type 0) (b : Bounds) : Type 0 where
  lower : IfSome b.lower P
  upper : IfSome b.upper P

abbrev ShapeHas : (Fraction → Type 0) → Shape → Type 0
ShapeHas P (shifted lower upper) = P lower × IfSome upper P
ShapeHas P (mirrored upper) = P upper
ShapeHas P free = Unit

module _ (P : Fraction → Type 0) (closed : IsClosed P) where
  -- ---- bounds

  one_of : (b : Bool) (x y : Fraction) → P x → P y → P (cond b x y)
  one_of true x y p q = p
  one_of false x y p q = q

  greater_has : (a b : Option Fraction) → IfSome a P → IfSome b P → IfSome (greater_bound a b) P
  greater_has None b p q = q
  greater_has (Some x) None p q = p
  greater_has (Some x) (Some y) p q = one_of (is_at_most y x) x y p q

  lesser_has : (a b : Option Fraction) → IfSome a P → IfSome b P → IfSome (lesser_bound a b) P
  lesser_has None b p q = q
  lesser_has (Some x) None p q = p
  lesser_has (Some x) (Some y) p q = one_of (is_at_most x y) x y p q

  both_have : (a b : Bounds) → BoundsHave P a → BoundsHave P b → BoundsHave P (both a b)
  both_have a b p q = record { lower = greater_has a.lower b.lower p.lower q.lower; upper = lesser_has a.upper b.upper p.upper q.upper }

  kind_has : (kind : VarKind) → BoundsHave P (kind_bounds kind)
  kind_has Continuous = record { lower = tt; upper = tt }
  kind_has Integer = record { lower = tt; upper = tt }
  kind_has Binary = record { lower = closed.of_zero; upper = closed.of_one }

  own_has : (v : Var) → VarHas P v → BoundsHave P (own_bounds v)
  own_has v h = both_have record { lower = v.lower; upper = v.upper } (kind_bounds v.kind) record { lower = h.lower; upper = h.upper } (kind_has v.kind)

  whole_has : (o : Option ℤ) → IfSome o (λ k. P (whole k)) → IfSome (option_map whole o) P
  whole_has None h = tt
  whole_has (Some k) h = h

  cut_has : (place : ℕ) (cut : Cut) (bounds : Bounds) → CutHas P cut → BoundsHave P bounds → BoundsHave P (cond (cut.var == place) (both bounds (cut_bounds cut)) bounds)
  cut_has place cut bounds h p = by_test (cut.var == place)
    where
      by_test : (b : Bool) → BoundsHave P (cond b (both bounds (cut_bounds cut)) bounds)
      by_test true = both_have bounds (cut_bounds cut) p record { lower = whole_has cut.lower h.lower; upper = whole_has cut.upper h.upper }
      by_test false = p

  cuts_have : (place : ℕ) (bounds : Bounds) (cuts : List Cut) → All (CutHas P) cuts → BoundsHave P bounds → BoundsHave P (with_cuts place bounds cuts)
  cuts_have place bounds [] h p = p
  cuts_have place bounds (cut ∷ cuts) h p =
      cuts_have place (cond (cut.var == place) (both bounds (cut_bounds cut)) bounds) cuts (All-tail (CutHas P) cut cuts h) (cut_has place cut bounds (All-head (CutHas P) cut cuts h) p)

  bounds_have : (place : ℕ) (vars : List Var) (cuts : List Cut) → All (VarHas P) vars → All (CutHas P) cuts → All (BoundsHave P) (bounds_from place vars cuts)
  bounds_have place [] cuts h k = All-nil (BoundsHave P)
  bounds_have place (v ∷ vars) cuts h k =
      All-cons (BoundsHave P) (with_cuts place (own_bounds v) cuts) (bounds_from (suc place) vars cuts) (cuts_have place (own_bounds v) cuts k (own_has v (All-head (VarHas P) v vars h)))
      (bounds_have (suc place) vars cuts (All-tail (VarHas P) v vars h) k)

  shape_has : (b : Bounds) → BoundsHave P b → ShapeHas P (shape_between b.lower b.upper)
  shape_has b h = of_sides b.lower b.upper h.lower h.upper
    where
      of_sides : (lower upper : Option Fraction) → IfSome lower P → IfSome upper P → ShapeHas P (shape_between lower upper)
      of_sides (Some l) upper p q = (p, q)
      of_sides None (Some u) p q = q
      of_sides None None p q = tt

  shapes_have : (m : Model) (cuts : List Cut) → ModelHas P m → All (CutHas P) cuts → All (ShapeHas P) (shapes_of m cuts)
  shapes_have m cuts h k =
      All-map (ShapeHas P) (λ b. shape_between b.lower b.upper) (effective_bounds m cuts)
      (All-weaker (BoundsHave P) (λ b. ShapeHas P (shape_between b.lower b.upper)) shape_has (effective_bounds m cuts) (bounds_have 0 m.vars cuts h.vars k))

  offset_has : (shape : Shape) → ShapeHas P shape → IfSome (offset shape) P
  offset_has (shifted lower upper) h = h.0
  offset_has (mirrored upper) h = h
  offset_has free h = tt

  offset_at : (shapes : List Shape) (place : ℕ) → All (ShapeHas P) shapes → IfSome (offset (slice_index_or shapes place free)) P
  offset_at shapes place h =
      ⊎_elim (λ within. offset_has (slice_index_or shapes place free) (All-get_or (ShapeHas P) shapes place free within h))
      (λ past. subst (λ shape. IfSome (offset shape) P) (sym (get_or_past shapes place free past)) tt) (cases_lt place (length shapes))

  -- ---- coefficients

  entries_have : (shapes : List Shape) (xs : List Fraction) → All P xs → All P (entries shapes xs)
  entries_have [] xs h = All-nil P
  entries_have (shape ∷ shapes) [] h = All-nil P
  entries_have (shape ∷ shapes) (x ∷ xs) h =
      All-append P (entries_of shape x) (entries shapes xs) (own shape x (All-head P x xs h)) (entries_have shapes xs (All-tail P x xs h))
    where
      own : (shape : Shape) (y : Fraction) → P y → All P (entries_of shape y)
      own (shifted l u) y p = All-cons P y [] p (All-nil P)
      own (mirrored u) y p = All-cons P (negation y) [] (closed.of_negation y p) (All-nil P)
      own free y p = All-cons P y (negation y ∷ []) p (All-cons P (negation y) [] (closed.of_negation y p) (All-nil P))

  coefficient_has : (terms : List Term) (place : ℕ) → All (λ t. P t.coef) terms → P (coefficient terms place)
  coefficient_has [] place h = closed.of_zero
  coefficient_has (t ∷ terms) place h =
      by_test (t.var == place) (All-head (λ s. P s.coef) t terms h) (coefficient_has terms place (All-tail (λ s. P s.coef) t terms h))
    where
      by_test : (b : Bool) → P t.coef → P (unwrap_or (term_of terms place) zero_value) → P (unwrap_or (cond b (Some t.coef) (term_of terms place)) zero_value)
      by_test true own others = own
      by_test false own others = others

  row_entries_have : (shapes : List Shape) (terms : List Term) → All (λ t. P t.coef) terms → All P (row_entries shapes terms)
  row_entries_have shapes terms h =
      entries_have shapes (map (coefficient terms) (numbers_from 0 (length shapes)))
      (All-map P (coefficient terms) (numbers_from 0 (length shapes)) (λ k e within. coefficient_has terms (slice_index_or (numbers_from 0 (length shapes)) k e) h))

  -- ---- sides

  less_has : (o : Option Fraction) (coef side next : Fraction) → IfSome o P → P coef → P side → less_offset o coef side ≡ Ok next → P next
  less_has None coef side next p q r h = subst P (same_ok side next h) r
  less_has (Some x) coef side next p q r h = closed.of_less coef side x next q r p h

  side_has : (shapes : List Shape) (side : Fraction) (terms : List Term) (out : Fraction) → All (ShapeHas P) shapes → All (λ t. P t.coef) terms → P side → side_less shapes side terms ≡ Ok out → P out
  side_has shapes side [] out p q r h = subst P (same_ok side out h) r
  side_has shapes side (t ∷ terms) out p q r h =
      let first = through (less_offset (offset (slice_index_or shapes t.var free)) t.coef side) _ out h in
      side_has shapes first.value terms out p (All-tail (λ s. P s.coef) t terms q)
      (less_has (offset (slice_index_or shapes t.var free)) t.coef side first.value (offset_at shapes t.var p) (All-head (λ s. P s.coef) t terms q) r first.first) first.rest

  plus_has : (o : Option Fraction) (coef total next : Fraction) → IfSome o P → P coef → P total → plus_offset o coef total ≡ Ok next → P next
  plus_has None coef total next p q r h = subst P (same_ok total next h) r
  plus_has (Some x) coef total next p q r h = closed.of_plus coef total x next q r p h

  constant_has : (shapes : List Shape) (total : Fraction) (vars : List Var) (out : Fraction) → All (ShapeHas P) shapes → All (VarHas P) vars → P total → constant_with shapes total vars ≡ Ok out → P out
  constant_has [] total vars out p q r h = subst P (same_ok total out h) r
  constant_has (shape ∷ shapes) total [] out p q r h = subst P (same_ok total out h) r
  constant_has (shape ∷ shapes) total (v ∷ vars) out p q r h =
      let first = through (plus_offset (offset shape) v.obj total) _ out h in
      let own = All-head (VarHas P) v vars q in
      constant_has shapes first.value vars out (All-tail (ShapeHas P) shape shapes p) (All-tail (VarHas P) v vars q)
      (plus_has (offset shape) v.obj total first.value (offset_has shape (All-head (ShapeHas P) shape shapes p)) own.obj r first.first) first.rest

  -- ---- rows

  negated_has : (row : StdRow) → StdRowHas P row → StdRowHas P (negated row)
  negated_has row h = record { coefs = All-map P negation row.coefs (All-weaker P (λ x. P (negation x)) closed.of_negation row.coefs h.coefs); side = closed.of_negation row.rhs h.side }

  sense_has : (sense : Sense) (row : StdRow) → StdRowHas P row → All (StdRowHas P) (by_sense sense row)
  sense_has Less row h = All-cons (StdRowHas P) row [] h (All-nil (StdRowHas P))
  sense_has Greater row h = All-cons (StdRowHas P) (negated row) [] (negated_has row h) (All-nil (StdRowHas P))
  sense_has Equal row h = All-cons (StdRowHas P) row (negated row ∷ []) h (All-cons (StdRowHas P) (negated row) [] (negated_has row h) (All-nil (StdRowHas P)))

  rows_of_have : (shapes : List Shape) (row : Row) (made : List StdRow) → All (ShapeHas P) shapes → RowHas P row → rows_of shapes row ≡ Ok made → All (StdRowHas P) made
  rows_of_have shapes row made p q h =
      let side = through (side_less shapes row.rhs row.terms) _ made h in
      let own : StdRow = record { coefs = row_entries shapes row.terms; rhs = side.value } in
      subst (All (StdRowHas P)) (same_ok (by_sense row.sense own) made side.rest)
      (sense_has row.sense own record { coefs = row_entries_have shapes row.terms q.terms; side = side_has shapes row.rhs row.terms side.value p q.terms q.rhs side.first })

  each_have : (shapes : List Shape) (rows : List Row) (made : List (List StdRow)) → All (ShapeHas P) shapes → All (RowHas P) rows → each (rows_of shapes) rows ≡ Ok made → All (StdRowHas P) (flat_map (λ same. same) made)
  each_have shapes [] made p q h = subst (λ parts. All (StdRowHas P) (flat_map (λ same. same) parts)) (same_ok [] made h) (All-nil (StdRowHas P))
  each_have shapes (row ∷ rows) made p q h =
      let first = through (rows_of shapes row) _ made h in
      let others = through (each (rows_of shapes) rows) _ made first.rest in
      subst (λ parts. All (StdRowHas P) (flat_map (λ same. same) parts)) (same_ok (first.value ∷ others.value) made others.rest)
      (All-append (StdRowHas P) first.value (flat_map (λ same. same) others.value) (rows_of_have shapes row first.value p (All-head (RowHas P) row rows q) first.first) (each_have shapes rows others.value p (All-tail (RowHas P) row rows q) others.first))

  span_has : (count column : ℕ) (shape : Shape) (made : List StdRow) → ShapeHas P shape → span_row count column shape ≡ Ok made → All (StdRowHas P) made
  span_has count column (shifted lower (Some upper)) made p h =
      let span = through (checked_difference upper lower) _ made h in
      let own : StdRow = column_row count column span.value in
      subst (All (StdRowHas P)) (same_ok (own ∷ []) made span.rest)
      (All-cons (StdRowHas P) own [] record {
        coefs = All-set P (replicate count zero_value) column one_value closed.of_one (All-replicate P count zero_value closed.of_zero);
        side = closed.of_difference upper lower span.value p.1 p.0 span.first;
      } (All-nil (StdRowHas P)))
  span_has count column (shifted lower None) made p h = subst (All (StdRowHas P)) (same_ok [] made h) (All-nil (StdRowHas P))
  span_has count column (mirrored upper) made p h = subst (All (StdRowHas P)) (same_ok [] made h) (All-nil (StdRowHas P))
  span_has count column free made p h = subst (All (StdRowHas P)) (same_ok [] made h) (All-nil (StdRowHas P))

  spans_have : (count column : ℕ) (shapes : List Shape) (made : List StdRow) → All (ShapeHas P) shapes → span_rows count column shapes ≡ Ok made → All (StdRowHas P) made
  spans_have count column [] made p h = subst (All (StdRowHas P)) (same_ok [] made h) (All-nil (StdRowHas P))
  spans_have count column (shape ∷ shapes) made p h =
      let first = through (span_row count column shape) _ made h in
      let others = through (span_rows count (column + width shape) shapes) _ made first.rest in
      subst (All (StdRowHas P)) (same_ok (first.value ++ others.value) made others.rest)
      (All-append (StdRowHas P) first.value others.value (span_has count column shape first.value (All-head (ShapeHas P) shape shapes p) first.first) (spans_have count (column + width shape) shapes others.value (All-tail (ShapeHas P) shape shapes p) others.first))

  -- ---- the form

  turned_has : (direction : Direction) (x : Fraction) → P x → P (turned direction x)
  turned_has Minimize x p = closed.of_negation x p
  turned_has Maximize x p = p

  pub form_has : (m : Model) (cuts : List Cut) (s : Std) → ModelHas P m → All (CutHas P) cuts → standard_form m cuts ≡ Ok s → FormHas P s
  unfolding standard_form
  form_has m cuts s has cuts_has h =
      let shapes = shapes_of m cuts in
      let known = shapes_have m cuts has cuts_has in
      let rows = through (each (rows_of shapes) m.rows) _ s h in
      let spans = through (span_rows (column_count shapes) 0 shapes) _ s rows.rest in
      let constant = through (constant_with shapes m.constant m.vars) _ s spans.rest in
      let objs = entries shapes (map (λ v. v.obj) m.vars) in
      subst (FormHas P) (same_ok _ s constant.rest) record {
        rows = All-append (StdRowHas P) (flat_map (λ same. same) rows.value) spans.value (each_have shapes m.rows rows.value known has.rows rows.first) (spans_have (column_count shapes) 0 shapes spans.value known spans.first);
        obj = All-map P (turned m.direction) objs (All-weaker P (λ x. P (turned m.direction x)) (turned_has m.direction) objs (entries_have shapes (map (λ v. v.obj) m.vars) (All-map P (λ v. v.obj) m.vars (λ k e within. let var = has.vars k e within in var.obj))));
        constant = turned_has m.direction constant.value (constant_has shapes m.constant m.vars constant.value known has.vars has.constant constant.first);
      }
