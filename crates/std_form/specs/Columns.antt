-- Where variables stand among the columns.
use Rattle.std.specs.Prelude.{◌≡◌, ℕ, ◌+◌, List, [], ◌∷◌, map}
use Rattle.solve_defs.specs.StandardForm as defs
use Rattle.std_form.specs.Shapes.{shape_of}
use Rattle.std_form.specs.declared.columns.Placed.{Placed}

abbrev pub shapes_in : List Placed → List defs.Shape
shapes_in placed = map (λ p. shape_of p.shape) placed

-- From this column on each variable begins where the one before it ends, and the last one ends at `count`.
abbrev pub AreInOrder : ℕ → List Placed → ℕ → Type 0
AreInOrder column [] count = count ≡ column
AreInOrder column (p ∷ placed) count = (p.column ≡ column) × AreInOrder (column + defs.width (shape_of p.shape)) placed count
