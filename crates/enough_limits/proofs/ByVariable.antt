-- The root's columns and rows, counted by variables.
use Rattle.std.proofs.Common.{◌≡◌, refl, sym, ◌∙◌, ap₂, ℕ, suc, ◌+◌, List, [], ◌∷◌, map, sum_by}
use Rattle.std.proofs.lemmas.List.Sums.{sum_by-cons}
use Rattle.model_data.specs.declared.model.Var.{Var}
use Rattle.solve_defs.specs.Bounds.{Bounds, bounds_from, own_bounds}
use Rattle.solve_defs.specs.StandardForm.{Shape, shape_between}

abbrev pub shape_of : Var → Shape
shape_of v = shape_between (own_bounds v).lower (own_bounds v).upper

abbrev shape_within : Bounds → Shape
shape_within b = shape_between b.lower b.upper

pub by_variable : (f : Shape → ℕ) (place : ℕ) (vars : List Var) → sum_by f (map shape_within (bounds_from place vars [])) ≡ sum_by (λ v. f (shape_of v)) vars
by_variable f place [] = refl
by_variable f place (v ∷ vars) =
    sum_by-cons f (shape_of v) (map shape_within (bounds_from (suc place) vars []))
    ∙ ap₂ (λ a b. a + b) refl (by_variable f (suc place) vars)
    ∙ sym (sum_by-cons (λ v. f (shape_of v)) v vars)
