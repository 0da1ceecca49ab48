-- Between which values a variable stands: its own bounds, those that its kind adds, and those of the cuts on the way to a node.
use Rattle.std.specs.Prelude.{ℕ, suc, ◌==◌, List, [], ◌∷◌, Option, Some, None, option_map, ℤ, if◌then◌else◌}
use Rattle.frac128.specs.Fraction.{Fraction, one_value, zero_value}
use Rattle.model_data.specs.declared.model.Model.{Model}
use Rattle.model_data.specs.declared.model.Var.{Var}
use Rattle.model_data.specs.declared.model.VarKind.{VarKind}
use Rattle.model_data.specs.declared.model.VarKind.TheVariants.{Continuous, Integer, Binary}
use Rattle.solve_defs.specs.Values.{is_at_most, whole}
use Rattle.solve_defs.specs.declared.cut.Cut.{Cut}

-- A side where no bound stands is not limited.
pub record Bounds : Type 0 where
  pub lower : Option Fraction
  pub upper : Option Fraction

-- the greater of two lower bounds
abbrev pub greater_bound : Option Fraction → Option Fraction → Option Fraction
greater_bound None other = other
greater_bound (Some x) None = Some x
greater_bound (Some x) (Some y) = Some (if is_at_most y x then x else y)

-- the lesser of two upper bounds
abbrev pub lesser_bound : Option Fraction → Option Fraction → Option Fraction
lesser_bound None other = other
lesser_bound (Some x) None = Some x
lesser_bound (Some x) (Some y) = Some (if is_at_most x y then x else y)

-- both together: on each side the tighter one
abbrev pub both : Bounds → Bounds → Bounds
both a b = record { lower = greater_bound a.lower b.lower; upper = lesser_bound a.upper b.upper }

abbrev pub kind_bounds : VarKind → Bounds
kind_bounds Continuous = record { lower = None; upper = None }
kind_bounds Integer = record { lower = None; upper = None }
kind_bounds Binary = record { lower = Some zero_value; upper = Some one_value }

-- a variable's own bounds, with those from 0 to 1 for a binary one
abbrev pub own_bounds : Var → Bounds
own_bounds v = both (record { lower = v.lower; upper = v.upper }) (kind_bounds v.kind)

-- the lower part of a split: the variable of this place is at most k
abbrev pub at_most_cut : ℕ → ℤ → Cut
at_most_cut place k = record { var = place; lower = None; upper = Some k }

-- the upper part of a split: it is at least k
abbrev pub at_least_cut : ℕ → ℤ → Cut
at_least_cut place k = record { var = place; lower = Some k; upper = None }

abbrev pub cut_bounds : Cut → Bounds
cut_bounds cut = record { lower = option_map whole cut.lower; upper = option_map whole cut.upper }

-- the bounds with those of each cut on the variable of this place
abbrev pub with_cuts : ℕ → Bounds → List Cut → Bounds
with_cuts place bounds [] = bounds
with_cuts place bounds (cut ∷ cuts) = with_cuts place (if cut.var == place then both bounds (cut_bounds cut) else bounds) cuts

-- the bounds of variables by their places, of which the first is given
abbrev pub bounds_from : ℕ → List Var → List Cut → List Bounds
bounds_from place [] cuts = []
bounds_from place (v ∷ vars) cuts = with_cuts place (own_bounds v) cuts ∷ bounds_from (suc place) vars cuts

-- the effective bounds of each variable where these cuts hold
abbrev pub effective_bounds : Model → List Cut → List Bounds
effective_bounds m cuts = bounds_from 0 m.vars cuts
