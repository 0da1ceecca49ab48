-- What the standard forms of worked models are.
use Rattle.std.proofs.Common.{◌≡◌, refl, [], ◌∷◌, Ok, Some, None, pos}
use Rattle.frac128.specs.Fits.{product_fits, sum_fits}
use Rattle.frac128.specs.Fraction.{exact_product, exact_sum, inverse, lowest, zero_value}
use Rattle.frac128.specs.Numbers.{gcd, gcd_within}
use Rattle.solve_defs.specs.StandardForm.{standard_form}
use Rattle.solve_defs.proofs.Models.{half_binary, minus, number, two_by_two}

two_by_two_form : standard_form two_by_two [] ≡ Ok record {
  rows = record { coefs = number 2 ∷ number 1 ∷ []; rhs = number 4 } ∷ record { coefs = number 1 ∷ number 3 ∷ []; rhs = number 6 } ∷ [];
  obj = number 1 ∷ number 1 ∷ [];
  constant = zero_value;
}
unfolding standard_form exact_sum exact_product inverse lowest gcd gcd_within sum_fits product_fits
two_by_two_form = refl

-- the upper cut adds a row, the lower one moves the column
two_by_two_cut : standard_form two_by_two (record { var = 0; lower = Some (pos 1); upper = None } ∷ record { var = 1; lower = None; upper = Some (pos 1) } ∷ []) ≡ Ok record {
  rows = record { coefs = number 2 ∷ number 1 ∷ []; rhs = number 2 } ∷ record { coefs = number 1 ∷ number 3 ∷ []; rhs = number 5 }
      ∷ record { coefs = number 0 ∷ number 1 ∷ []; rhs = number 1 } ∷ [];
  obj = number 1 ∷ number 1 ∷ [];
  constant = number 1;
}
unfolding standard_form exact_sum exact_product inverse lowest gcd gcd_within sum_fits product_fits
two_by_two_cut = refl

half_binary_form : standard_form half_binary [] ≡ Ok record {
  rows = record { coefs = number 2 ∷ []; rhs = number 1 } ∷ record { coefs = minus (number 2) ∷ []; rhs = minus (number 1) } ∷ record { coefs = number 1 ∷ []; rhs = number 1 } ∷ [];
  obj = minus (number 1) ∷ [];
  constant = zero_value;
}
unfolding standard_form exact_sum exact_product inverse lowest gcd gcd_within sum_fits product_fits
half_binary_form = refl
