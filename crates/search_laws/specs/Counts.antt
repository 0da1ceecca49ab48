-- How many nodes a search may have, where each split divides a number that its cuts have.
use Rattle.std.specs.Prelude.{◌≡◌, ◌≢◌, true, ℕ, suc, ◌+◌, ◌-◌, ◌*◌, ◌<◌, ◌≤◌, ℤ, pos, negsuc, neg_ℤ, ◌-ℤ◌, IsTrue, ◌&&◌, List, [], ◌∷◌, ◌++◌, All, Option, Some, None, is_some, Ok, if◌then◌else◌}
use Rattle.frac128.specs.Checked.{checked_sum}
use Rattle.frac128.specs.Fraction.{Fraction, negation, one_value}
use Rattle.model_data.specs.Size.{is_integer}
use Rattle.model_data.specs.declared.model.Model.{Model}
use Rattle.model_data.specs.declared.model.Var.{Var}
use Rattle.model_data.specs.declared.params.Params.{Params}
use Rattle.model_data.specs.declared.solution.Outcome.{Outcome}
use Rattle.dictionary.specs.Dictionary.{Dictionary, opening}
use Rattle.dictionary.specs.declared.standard.Std.{Std}
use Rattle.solve_defs.specs.Bounds.{Bounds, at_least_cut, at_most_cut, own_bounds, with_cuts}
use Rattle.solve_defs.specs.Certificates.{is_integer_number}
use Rattle.solve_defs.specs.Ends.{point_of}
use Rattle.solve_defs.specs.Path.{Entering, Path, a_pivot, an_end, coming}
use Rattle.solve_defs.specs.Plain.{Placed, first_fractional}
use Rattle.solve_defs.specs.StandardForm.{point_back, shapes_of, standard_form}
use Rattle.solve_defs.specs.Values.{floor_of, whole}
use Rattle.solve_defs.specs.declared.cut.Cut.{Cut}
use Rattle.solve_defs.specs.declared.solving.LpEnd.TheVariants.{Best}
use Rattle.solve_defs.specs.declared.status.TheConstants.{NODE_LIMIT}
use Rattle.solve_defs.specs.Relaxations.{IsReached}

-- Each split leaves less than the cuts' number for its two parts together.
abbrev pub IsDivided : Model → (List Cut → ℕ) → Type 0
IsDivided m splits = (cuts : List Cut) (d : Dictionary) (xs : List Fraction) (at : Placed) (next : Fraction) → IsReached m cuts d → coming d ≡ an_end Best
    → point_back (shapes_of m cuts) (point_of d) ≡ Ok xs → first_fractional 0 m.vars xs ≡ Some at → checked_sum (whole (floor_of at.value)) one_value ≡ Ok next
    → splits (cuts ++ at_most_cut at.place (floor_of at.value) ∷ [])
    + splits (cuts ++ at_least_cut at.place next.num ∷ []) < splits cuts

-- how many nodes there may be below these cuts
abbrev pub nodes_below : (List Cut → ℕ) → List Cut → ℕ
nodes_below splits cuts = suc (2 * splits cuts)

-- no more nodes than these, and no limit on nodes where it allows so many
pub record CountsNodes (p : Params) (most : ℕ) (o : Outcome) : Type 0 where
  pub nodes : o.nodes ≤ most
  pub enough : most ≤ p.nodes → o.status ≢ NODE_LIMIT

-- ---- the whole numbers between bounds

-- the least whole number that is at least x
abbrev pub ceil_of : Fraction → ℤ
ceil_of x = neg_ℤ (floor_of (negation x))

-- a difference, or 0 where it is below 0
abbrev pub above_zero : ℤ → ℕ
above_zero (pos n) = n
above_zero (negsuc n) = 0

-- how many whole numbers there may be between the bounds, and 1 where there are none
abbrev pub range_between : Option Fraction → Option Fraction → ℕ
range_between None upper = 1
range_between (Some lower) None = 1
range_between (Some lower) (Some upper) = suc (above_zero (ceil_of upper -ℤ floor_of lower))

abbrev pub range_of : Var → Bounds → ℕ
range_of v bounds = if is_integer v.kind then range_between bounds.lower bounds.upper else 1

-- the product over the integer variables from this place on
abbrev pub ranges_from : ℕ → List Var → List Cut → ℕ
ranges_from place [] cuts = 1
ranges_from place (v ∷ vars) cuts = range_of v (with_cuts place (own_bounds v) cuts) * ranges_from (suc place) vars cuts

-- one less than the product over all integer variables, within these cuts
abbrev pub splits_within : Model → List Cut → ℕ
splits_within m cuts = ranges_from 0 m.vars cuts - 1

-- Each integer variable has both bounds.
abbrev pub IsClosed : Model → Type 0
IsClosed m = All (λ v. is_integer v.kind ≡ true → IsTrue (is_some (own_bounds v).lower && is_some (own_bounds v).upper)) m.vars

-- ---- pivots

-- Each cut is of an integer variable, as those of splits are.
abbrev pub AreOnIntegers : Model → List Cut → Type 0
AreOnIntegers m cuts = All (λ cut. IsTrue (is_integer_number m.vars (suc cut.var))) cuts

-- In each relaxation that splits may come to, fewer pivots than these are made where one more comes.
abbrev pub IsBrief : Model → ℕ → Type 0
IsBrief m pivots = (cuts : List Cut) (form : Std) (n : ℕ) (d : Dictionary) (entering : Entering) → AreOnIntegers m cuts → standard_form m cuts ≡ Ok form
    → Path (opening form) n d → coming d ≡ a_pivot entering → n < pivots
