-- What the weights and the direction that are read off a relaxation's last dictionary are.
use Rattle.std.specs.Prelude.{◌≡◌, [], All, length, replicate, unwrap_or}
use Rattle.frac128.specs.Fraction.{Fraction, zero_value}
use Rattle.frac128.specs.Order.{IsAtMost, IsBelow}
use Rattle.frac128.specs.Lowest.{IsInLowestTerms}
use Rattle.dictionary.specs.Dictionary.{Dictionary, entry}
use Rattle.dictionary.specs.declared.standard.Std.{Std}
use Rattle.solve_defs.specs.Columns.{HasNoColumnsPoint, IsBestColumnsPoint, IsColumnsPoint, RisesWithoutBound, columns_sum, form_value}
use Rattle.solve_defs.specs.Ends.{dual_of, farkas_of, point_of, ray_of}
use Rattle.solve_defs.specs.declared.solving.Duals.{Duals}
use Rattle.solve_defs.specs.declared.solving.StdRay.{StdRay}
use Rattle.relaxation_laws.specs.FormWeights.{Prices}

-- No weight is below 0, and each is in lowest terms.
pub record AreAtLeastZero (weights : Duals) : Type 0 where
  pub ys : All (IsAtMost zero_value) weights.ys
  pub reduced : All (IsAtMost zero_value) weights.reduced
  pub ys_lowest : All IsInLowestTerms weights.ys
  pub lowest : All IsInLowestTerms weights.reduced

-- The weights make the objective of the rows, with this value as its side.
pub record ShowsBest (s : Std) (value : Fraction) (weights : Duals) : Type 0 where
  pub prices : Prices s s.constant s.obj weights value
  pub at_least_zero : AreAtLeastZero weights

-- The weights make nothing of the rows, with a side below 0.
pub record ShowsNoPoint (s : Std) (side : Fraction) (weights : Duals) : Type 0 where
  pub prices : Prices s zero_value (replicate (length s.obj) zero_value) weights side
  pub at_least_zero : AreAtLeastZero weights
  pub below : IsBelow side zero_value

-- From allowed values of the columns the direction keeps each row and each column, and the objective rises along it.
pub record IsStdRay (s : Std) (r : StdRay) : Type 0 where
  pub allowed : IsColumnsPoint s r.point
  pub columns : length r.ray ≡ length s.obj
  pub lowest : All IsInLowestTerms r.ray
  pub at_least_zero : All (IsAtMost zero_value) r.ray
  pub rows : All (λ row. IsAtMost (columns_sum row.coefs r.ray) zero_value) s.rows
  pub rises : IsBelow zero_value (columns_sum s.obj r.ray)

-- ---- what each end shows of the form

pub record BestEnd (s : Std) (d : Dictionary) : Type 0 where
  pub point : IsBestColumnsPoint s (point_of d)
  pub value : form_value s (point_of d) ≡ entry d.objective 0
  pub weights : ShowsBest s (entry d.objective 0) (dual_of d)

pub record NoPointEnd (s : Std) (d : Dictionary) : Type 0 where
  pub none : HasNoColumnsPoint s
  pub weights : ShowsNoPoint s (entry (unwrap_or d.auxiliary []) 0) (farkas_of d)

pub record UnboundedEnd (s : Std) (d : Dictionary) : Type 0 where
  pub rises : RisesWithoutBound s
  pub ray : IsStdRay s (ray_of d)
