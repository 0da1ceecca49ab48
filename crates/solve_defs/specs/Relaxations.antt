-- What the last dictionary of each relaxation shows: all that a search needs to know of relaxations.
use Rattle.std.specs.Prelude.{◌≡◌, ℕ, List, [], All, Ok}
use Rattle.frac128.specs.Fraction.{Fraction, zero_value}
use Rattle.frac128.specs.Order.{IsAtMost, IsBelow}
use Rattle.model_data.specs.declared.model.Model.{Model}
use Rattle.model_data.specs.declared.solution.Weights.{Weights}
use Rattle.dictionary.specs.Dictionary.{Dictionary, entry, opening}
use Rattle.dictionary.specs.declared.standard.Std.{Std}
use Rattle.solve_defs.specs.Certificates.{ray_looks}
use Rattle.solve_defs.specs.Ends.{dual_of, farkas_of, point_of, ray_of}
use Rattle.solve_defs.specs.LeafWeights.{Combines, no_coefs, objective_to_maximize, side_on}
use Rattle.solve_defs.specs.Looks.{Holds}
use Rattle.solve_defs.specs.Path.{Path, an_end, coming}
use Rattle.solve_defs.specs.Points.{IsBestPoint, IsUnbounded, relaxation}
use Rattle.solve_defs.specs.StandardForm.{point_back, ray_back, shapes_of, standard_form, weights_back}
use Rattle.solve_defs.specs.Values.{turned}
use Rattle.solve_defs.specs.declared.cut.Cut.{Cut}
use Rattle.solve_defs.specs.declared.solving.LpEnd.TheVariants.{Best, NoPoint, Unbounded}

-- Pivots by the rule lead to the dictionary, from the one with which the model under these cuts opens.
pub record IsReached (m : Model) (cuts : List Cut) (d : Dictionary) : Type 0 where
  pub form : Std
  pub is_form : standard_form m cuts ≡ Ok form
  pub pivots : ℕ
  pub path : Path (opening form) pivots d

-- The weights bound a leaf by the value, which is to be maximized.
pub record BoundBy (m : Model) (cuts : List Cut) (weights : Weights) (value : Fraction) : Type 0 where
  pub combines : (leaf : ℕ) → Combines m cuts leaf weights (objective_to_maximize m)
  pub side : IsAtMost (side_on (turned m.direction m.constant) m cuts weights) value

-- The weights show that a leaf has no point.
pub record Emptied (m : Model) (cuts : List Cut) (weights : Weights) : Type 0 where
  pub combines : (leaf : ℕ) → Combines m cuts leaf weights (no_coefs m)
  pub side : IsBelow (side_on zero_value m cuts weights) zero_value

-- What holds of each relaxation of a model where it ends.
pub record RelaxationLaw (m : Model) : Type 0 where
  -- the point that is carried back is a best one, with the value that is read
  pub point : (cuts : List Cut) (d : Dictionary) (xs : List Fraction) → IsReached m cuts d → coming d ≡ an_end Best
      → point_back (shapes_of m cuts) (point_of d) ≡ Ok xs
      → IsBestPoint (relaxation m cuts) record { xs = xs; value = turned m.direction (entry d.objective 0) }
  -- its weights bound a leaf by the value that is read
  pub bound : (cuts : List Cut) (d : Dictionary) (weights : Weights) → IsReached m cuts d → coming d ≡ an_end Best
      → weights_back m (shapes_of m cuts) (dual_of d).ys (dual_of d).reduced ≡ Ok weights
      → BoundBy m cuts weights (entry d.objective 0)
  -- weights of a relaxation without a point
  pub no_point : (cuts : List Cut) (d : Dictionary) (weights : Weights) → IsReached m cuts d → coming d ≡ an_end NoPoint
      → weights_back m (shapes_of m cuts) (farkas_of d).ys (farkas_of d).reduced ≡ Ok weights
      → Emptied m cuts weights
  pub unbounded : (cuts : List Cut) (d : Dictionary) → IsReached m cuts d → coming d ≡ an_end Unbounded → IsUnbounded (relaxation m cuts)
  -- the ray that is carried back, at the root
  pub ray : (d : Dictionary) (xs ray : List Fraction) → IsReached m [] d → coming d ≡ an_end Unbounded
      → point_back (shapes_of m []) (ray_of d).point ≡ Ok xs → ray_back (shapes_of m []) (ray_of d).ray ≡ Ok ray
      → All Holds (ray_looks m xs ray)
