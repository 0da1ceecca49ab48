-- Which values a variable allows, by its kind. Points and certificates both look here, so that a kind more is a case more in each
-- of the two functions and no second form.
use Rattle.std.specs.Prelude.{Bool, true, false, List, [], ◌∷◌}
use Rattle.std.specs.List.{list_all}
use Rattle.model_data.specs.declared.model.Var.{Var}
use Rattle.model_data.specs.declared.model.VarKind.{VarKind}
use Rattle.model_data.specs.declared.model.VarKind.TheVariants.{Continuous, Integer, Binary}
use Rattle.solve_defs.specs.Bounds.{Bounds, own_bounds}

-- A value of a domain stands in one of the ranges, and is a whole number where the domain asks for that.
pub record Domain : Type 0 where
  pub ranges : List Bounds
  pub whole : Bool

-- what a variable of this kind allows, which has these bounds
abbrev pub domain_of : VarKind → Bounds → Domain
domain_of Continuous bounds = record { ranges = bounds ∷ []; whole = false }
domain_of Integer bounds = record { ranges = bounds ∷ []; whole = true }
domain_of Binary bounds = record { ranges = bounds ∷ []; whole = true }

abbrev pub domain : Var → Domain
domain v = domain_of v.kind (own_bounds v)

-- every value within the bounds is allowed
abbrev pub is_continuous : VarKind → Bool
is_continuous Continuous = true
is_continuous Integer = false
is_continuous Binary = false

-- each variable is continuous
abbrev pub are_continuous : List Var → Bool
are_continuous vars = list_all (λ v. is_continuous v.kind) vars
