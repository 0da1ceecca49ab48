-- The model that docs/SOLVER.md carries through by hand: its standard form, each dictionary, and the ways back.
use Rattle.std.proofs.Common.{◌≡◌, refl, [], ◌∷◌, Some, None, Result, Ok}
use Rattle.frac128.specs.Fits.{product_fits, sum_fits}
use Rattle.frac128.specs.Fraction.{exact_product, exact_sum, inverse, lowest, one_value, zero_value}
use Rattle.frac128.specs.Numbers.{gcd, gcd_within}
use Rattle.frac128.specs.declared.operations.Wide.{Wide}
use Rattle.dictionary.specs.Dictionary.{Dictionary, eliminated_basic, eliminated_entries, eliminated_objective, end_phase_one, opening, pivot, pivoted_rows, solved_row, with_artificial, without_artificial}
use Rattle.dictionary.specs.Rule.{entering_column, least_row, leaving_row, ratios}
use Rattle.dictionary.specs.declared.standard.Std.{Std}
use Rattle.solve_defs.specs.Ends.{dual_of, point_of}
use Rattle.solve_defs.specs.Path.{Coming, Entering, a_pivot, an_end, artificial, by_rule, coming, next, settled}
use Rattle.solve_defs.specs.StandardForm.{point_back, shapes_of, standard_form, weights_back}
use Rattle.solve_defs.specs.declared.solving.LpEnd.TheVariants.{Best}
use Rattle.solve_defs.proofs.Models.{blend, minus, number, part}

-- maximize -2 - 2 x1 - 3 x2, where -x1 - x2 <= -3 and x1 <= 2
blend_form : Std
blend_form = record {
  rows = record { coefs = minus one_value ∷ minus one_value ∷ []; rhs = minus (number 3) } ∷ record { coefs = one_value ∷ zero_value ∷ []; rhs = number 2 } ∷ [];
  obj = minus (number 2) ∷ minus (number 3) ∷ [];
  constant = minus (number 2);
}

form : standard_form blend [] ≡ Ok blend_form
unfolding blend_form standard_form exact_sum exact_product lowest gcd gcd_within sum_fits product_fits
form = refl

-- x3 = -3 + x1 + x2 + x0 and x4 = 2 - x1 + x0
first : Dictionary
first = record {
  basic = 3 ∷ 4 ∷ [];
  nonbasic = 1 ∷ 2 ∷ 0 ∷ [];
  rows = (minus (number 3) ∷ minus one_value ∷ minus one_value ∷ minus one_value ∷ []) ∷ (number 2 ∷ one_value ∷ zero_value ∷ minus one_value ∷ []) ∷ [];
  objective = minus (number 2) ∷ minus (number 2) ∷ minus (number 3) ∷ zero_value ∷ [];
  auxiliary = Some (zero_value ∷ zero_value ∷ zero_value ∷ minus one_value ∷ []);
}

opened : opening blend_form ≡ first
unfolding blend_form first opening with_artificial without_artificial
opened = refl

-- x0 = 3 - x1 - x2 + x3 and x4 = 5 - 2 x1 - x2 + x3
second : Dictionary
second = record {
  basic = 0 ∷ 4 ∷ [];
  nonbasic = 1 ∷ 2 ∷ 3 ∷ [];
  rows = (number 3 ∷ one_value ∷ one_value ∷ minus one_value ∷ []) ∷ (number 5 ∷ number 2 ∷ one_value ∷ minus one_value ∷ []) ∷ [];
  objective = minus (number 2) ∷ minus (number 2) ∷ minus (number 3) ∷ zero_value ∷ [];
  auxiliary = Some (minus (number 3) ∷ one_value ∷ one_value ∷ minus one_value ∷ []);
}

-- x0 = 1/2 - x2/2 + x3/2 + x4/2 and x1 = 5/2 - x2/2 + x3/2 - x4/2
third : Dictionary
third = record {
  basic = 0 ∷ 1 ∷ [];
  nonbasic = 4 ∷ 2 ∷ 3 ∷ [];
  rows = (part 1 2 ∷ minus (part 1 2) ∷ part 1 2 ∷ minus (part 1 2) ∷ []) ∷ (part 5 2 ∷ part 1 2 ∷ part 1 2 ∷ minus (part 1 2) ∷ []) ∷ [];
  objective = minus (number 7) ∷ one_value ∷ minus (number 2) ∷ minus one_value ∷ [];
  auxiliary = Some (minus (part 1 2) ∷ minus (part 1 2) ∷ part 1 2 ∷ minus (part 1 2) ∷ []);
}

-- x2 = 1 + x3 + x4 and x1 = 2 - x4, without x0
fourth : Dictionary
fourth = record {
  basic = 2 ∷ 1 ∷ [];
  nonbasic = 4 ∷ 3 ∷ [];
  rows = (one_value ∷ minus one_value ∷ minus one_value ∷ []) ∷ (number 2 ∷ one_value ∷ zero_value ∷ []) ∷ [];
  objective = minus (number 9) ∷ minus one_value ∷ minus (number 3) ∷ [];
  auxiliary = None;
}

abbrev coming_of : Dictionary → Coming
unfolding coming entering_column
coming_of d = coming d

abbrev next_of : Entering → Dictionary → Result Dictionary Wide
unfolding next settled pivot pivoted_rows solved_row eliminated_basic eliminated_objective eliminated_entries end_phase_one entering_column ratios leaving_row least_row exact_sum exact_product inverse lowest gcd gcd_within sum_fits product_fits
next_of entering d = next entering d

pivots :
    (coming_of first ≡ a_pivot artificial) × (next_of artificial first ≡ Ok second)
    × (coming_of second ≡ a_pivot (by_rule 1)) × (next_of (by_rule 1) second ≡ Ok third)
    × (coming_of third ≡ a_pivot (by_rule 2)) × (next_of (by_rule 2) third ≡ Ok fourth)
    × (coming_of fourth ≡ an_end Best)
unfolding first second third fourth coming_of next_of
pivots = (refl, refl, refl, refl, refl, refl, refl)

-- x = 1 + 2 and y = 1
back : (point_of fourth ≡ number 2 ∷ one_value ∷ []) × (point_back (shapes_of blend []) (number 2 ∷ one_value ∷ []) ≡ Ok (number 3 ∷ one_value ∷ []))
unfolding fourth point_of point_back exact_sum lowest gcd gcd_within sum_fits
back = (refl, refl)

-- The row weighs -3, and the upper bound of x 1.
weights : (dual_of fourth ≡ record { ys = number 3 ∷ one_value ∷ []; reduced = zero_value ∷ zero_value ∷ [] })
    × (weights_back blend (shapes_of blend []) (number 3 ∷ one_value ∷ []) (zero_value ∷ zero_value ∷ [])
    ≡ Ok record { rows = record { place = 1; weight = minus (number 3) } ∷ []; lows = []; ups = record { place = 1; weight = one_value } ∷ [] })
unfolding fourth dual_of weights_back
weights = (refl, refl)
