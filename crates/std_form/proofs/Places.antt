-- Where variables stand among the columns.
use Rattle.std.proofs.Common.{◌≡◌, ◌∙◌, sym, ap, ℕ, zero, suc, ◌+◌, ◌<◌, ◌≤◌, List, [], ◌∷◌, ◌++◌, length, take, get_or, arith}
use Rattle.std.proofs.lemmas.List.{get_or-map, length-map}
use Rattle.std.proofs.lemmas.List.Sums.{sum_by_more_le}
use Rattle.solve_defs.specs.StandardForm as defs
use Rattle.std_form.specs.Columns.{AreInOrder, shapes_in}
use Rattle.std_form.specs.Shapes.{shape_of}
use Rattle.std_form.specs.declared.columns.Placed.{Placed}
use Rattle.solve_defs.proofs.FormSizes.{column_count-cons}

-- the end of the last variable's columns
pub in_order-count : (column : ℕ) (placed : List Placed) (count : ℕ) → AreInOrder column placed count → count ≡ column + defs.column_count (shapes_in placed)
in_order-count column [] count h = omega (arith, h)
in_order-count column (p ∷ placed) count h =
    let more = column_count-cons (shape_of p.shape) (shapes_in placed) in
    let rest = in_order-count (column + defs.width (shape_of p.shape)) placed count h.1 in
    omega (arith, more, rest)

-- a variable's first column stands behind those of the variables before
pub in_order-column : (column : ℕ) (placed : List Placed) (count : ℕ) (i : ℕ) (d : Placed) → AreInOrder column placed count → i < length placed
    → (get_or placed i d).column ≡ column + defs.column_count (take i (shapes_in placed))
in_order-column column [] count i d h within = absurd (omega (arith, within))
in_order-column column (p ∷ placed) count zero d h within = omega (arith, h.0)
in_order-column column (p ∷ placed) count (suc i) d h within =
    let more = column_count-cons (shape_of p.shape) (take i (shapes_in placed)) in
    let rest = in_order-column (column + defs.width (shape_of p.shape)) placed count i d h.1 (omega (arith, within)) in
    omega (arith, more, rest)

pub in_order-push : (column : ℕ) (placed : List Placed) (count : ℕ) (p : Placed) → AreInOrder column placed count → p.column ≡ count
    → AreInOrder column (placed ++ p ∷ []) (count + defs.width (shape_of p.shape))
in_order-push column [] count p h here = (here ∙ h, ap (λ c. c + defs.width (shape_of p.shape)) h)
in_order-push column (q ∷ placed) count p h here = (h.0, in_order-push (column + defs.width (shape_of q.shape)) placed count p h.1 here)

-- The variable of this place stands so among all columns.
pub record Stands (shapes : List defs.Shape) (place : ℕ) (p : Placed) : Type 0 where
  pub within : place < length shapes
  pub shape : (d : defs.Shape) → get_or shapes place d ≡ shape_of p.shape
  pub column : p.column ≡ defs.column_count (take place shapes)
  pub ends : p.column + defs.width (shape_of p.shape) ≤ defs.column_count shapes

pub stands : (shapes : List defs.Shape) (placed : List Placed) (count place : ℕ) (p : Placed) → shapes_in placed ≡ shapes → AreInOrder 0 placed count
    → place < length placed → p ≡ get_or placed place p → Stands shapes place p
stands shapes placed count place p are in_order within here =
    let sizes : length placed ≡ length shapes = sym (length-map placed (λ q. shape_of q.shape)) ∙ ap length are in
    let own : (d : defs.Shape) → get_or shapes place d ≡ shape_of p.shape =
    λ d. ap (λ xs. get_or xs place d) (sym are) ∙ get_or-map (λ q. shape_of q.shape) placed place p d within ∙ ap (λ q. shape_of q.shape) (sym here) in
    let behind : p.column ≡ 0 + defs.column_count (take place (shapes_in placed)) =
    ap (λ q. q.column) here ∙ in_order-column 0 placed count place p in_order within in
    let same = ap (λ xs. defs.column_count (take place xs)) are in
    let first : p.column ≡ defs.column_count (take place shapes) = omega (arith, behind, same) in
    let end = sum_by_more_le defs.width shapes place defs.free (omega (arith, sizes, within)) in
    let width = ap defs.width (own defs.free) in
    record { within = omega (arith, sizes, within); shape = own; column = first; ends = omega (arith, first, end, width) }
