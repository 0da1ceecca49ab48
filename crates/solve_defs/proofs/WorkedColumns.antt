-- Columns of a worked model, and the point that they stand for: a free variable, a mirrored one and one with a row of its own.
use Rattle.std.proofs.Common.{◌≡◌, refl, List, [], ◌∷◌, Ok, pos, arith}
use Rattle.std.proofs.lemmas.Int.{ints}
use Rattle.frac128.specs.Fits.{product_fits, sum_fits}
use Rattle.frac128.specs.Fraction.{Fraction, exact_product, exact_sum, inverse, lowest, one_value, zero_value}
use Rattle.frac128.specs.Numbers.{gcd, gcd_within}
use Rattle.frac128.specs.Order.{IsAtMost}
use Rattle.frac128.proofs.Field.{lowest-apart}
use Rattle.model_data.specs.declared.model.Direction.TheVariants.{Minimize}
use Rattle.dictionary.specs.declared.standard.Std.{Std}
use Rattle.solve_defs.specs.Columns.{IsColumnsPoint, KeepsStdRow, exact_point, form_value, model_value}
use Rattle.frac128.specs.Lowest.{IsInLowestTerms}
use Rattle.solve_defs.specs.StandardForm.{shapes_of, standard_form}
use Rattle.solve_defs.proofs.FormLists.{Each, all_from_each}
use Rattle.solve_defs.proofs.Models.{free_one, minus, number, part}

abbrev form : Std
form = record {
  rows =
      record { coefs = one_value ∷ minus one_value ∷ one_value ∷ number 2 ∷ []; rhs = part 7 2 }
      ∷ record { coefs = minus one_value ∷ one_value ∷ minus one_value ∷ minus (number 2) ∷ []; rhs = minus (part 7 2) }
      ∷ record { coefs = minus one_value ∷ one_value ∷ zero_value ∷ zero_value ∷ []; rhs = number 4 }
      ∷ record { coefs = zero_value ∷ zero_value ∷ zero_value ∷ one_value ∷ []; rhs = part 5 2 } ∷ [];
  obj = minus (number 2) ∷ number 2 ∷ minus one_value ∷ minus one_value ∷ [];
  constant = part 1 2;
}

is_form : standard_form free_one [] ≡ Ok form
unfolding standard_form exact_sum exact_product inverse lowest gcd gcd_within sum_fits product_fits
is_form = refl

-- x is 0 - 4, y is 7/2 - 5/2, and z is 1/2 + 5/2
abbrev columns : List Fraction
columns = zero_value ∷ number 4 ∷ part 5 2 ∷ part 5 2 ∷ []

stands_for : exact_point (shapes_of free_one []) columns ≡ minus (number 4) ∷ one_value ∷ number 3 ∷ []
unfolding exact_sum exact_product lowest gcd gcd_within
stands_for = refl

has_value : form_value form columns ≡ part 7 2
unfolding exact_sum exact_product lowest gcd gcd_within
has_value = refl

-- The model is minimized: 5/2 + 2 * -4 - 1 + 3.
has_model_value : model_value Minimize form columns ≡ minus (part 7 2)
unfolding exact_sum exact_product lowest gcd gcd_within
has_model_value = refl

keep : Each (KeepsStdRow columns) form.rows
unfolding exact_sum exact_product lowest gcd gcd_within
keep = (record { at_most = omega (arith, ints) }, (record { at_most = omega (arith, ints) }, (record { at_most = omega (arith, ints) }, (record { at_most = omega (arith, ints) }, tt))))

above : Each (IsAtMost zero_value) columns
above = (record { at_most = omega (arith, ints) }, (record { at_most = omega (arith, ints) }, (record { at_most = omega (arith, ints) }, (record { at_most = omega (arith, ints) }, tt))))

in_lowest_terms : Each IsInLowestTerms columns
unfolding lowest gcd gcd_within
in_lowest_terms =
    (lowest-apart (pos 0) 1 (omega arith), (lowest-apart (pos 4) 1 (omega arith), (lowest-apart (pos 5) 2 (omega arith), (lowest-apart (pos 5) 2 (omega arith), tt))))

allowed : IsColumnsPoint form columns
allowed = record {
  columns = refl;
  lowest = all_from_each IsInLowestTerms columns in_lowest_terms;
  at_least_zero = all_from_each (IsAtMost zero_value) columns above;
  rows = all_from_each (KeepsStdRow columns) form.rows keep;
}
