-- The head of the objective, where nothing is told yet.
use Rattle.std.proofs.Common.{◌≡◌, refl, ap, subst, ℕ, List, Option, Some, Result, Err}
use Rattle.base_names.specs.declared.refusal.FaultWord.{FaultWord}
use Rattle.base_names.specs.declared.refusal.FaultWord.TheVariants.{Number as bad_number, Size}
use Rattle.frac128.specs.Checked.{◌>>=◌}
use Rattle.frac128.specs.Fits.{sum_fits}
use Rattle.frac128.specs.Fraction.{Fraction, exact_sum, lowest, one_value, zero_value}
use Rattle.frac128.specs.Numbers.{gcd, gcd_within}
use Rattle.model_data.specs.declared.model.Direction.{Direction}
use Rattle.model_data.specs.declared.model.Model.{Model}
use Rattle.lp_defs.specs.declared.fault.ModelFault.{ModelFault}
use Rattle.lp_defs.specs.Draft.{blank, objective_sum, with_objective}
use Rattle.lp_defs.specs.Objective.{settle_objective_title}
use Rattle.lp_defs.specs.Quantity.{added}
use Rattle.lp_defs.specs.Symbols.{Spot, or_fault}

pub record IsBlank (m : Model) : Type 0 where
  pub direction : Direction
  pub is : m ≡ blank direction

pub first_sum : Fraction
first_sum = exact_sum zero_value one_value

-- A name that begins an expression has a sum that fits: nothing was told of it before.
pub first_fits : added zero_value one_value ≡ Some first_sum
unfolding first_sum sum_fits gcd gcd_within exact_sum lowest
first_fits = refl

pub summed : {A : Type 0} (p : Spot) (w : FaultWord) (o : Option Fraction) (x : Fraction) (g : Fraction → Result A ModelFault) → o ≡ Some x → (or_fault p w o >>= g) ≡ g x
summed p w o x g e = ap (λ o. or_fault p w o >>= g) e

blank_title : (t : Spot) (title : List ℕ) (d : Direction) (f : ModelFault) → settle_objective_title t title (blank d) ≡ Err f → ⊥
blank_title t title d f e =
    let is : settle_objective_title t title (blank d) ≡ or_fault t Size (with_objective title first_sum (blank d)) =
    summed t bad_number (objective_sum title one_value (blank d)) first_sum (λ sum. or_fault t Size (with_objective title sum (blank d))) first_fits in
    absurd cc

-- A name at the head of the objective is no fault.
pub blank_lone : (t : Spot) (title : List ℕ) (m : Model) (f : ModelFault) → IsBlank m → settle_objective_title t title m ≡ Err f → ⊥
blank_lone t title m f is e = blank_title t title is.direction f (subst (λ m. settle_objective_title t title m ≡ Err f) is.is e)
