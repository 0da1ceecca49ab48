-- Numbers and models worked out by hand.
use Rattle.std.proofs.Common.{◌≡◌, refl, ℕ, List, [], ◌∷◌, Some, None, codes, replicate}
use Rattle.std.specs.Fmt.{digits}
use Rattle.frac128.specs.Fraction.{Fraction, one_value, zero_value}
use Rattle.model_data.specs.declared.model.Direction.TheVariants.{Maximize}
use Rattle.model_data.specs.declared.model.Model.{Model}
use Rattle.model_data.specs.declared.model.VarKind.TheVariants.{Binary, Continuous, Integer}
use Rattle.solve_defs.proofs.Models.{half_binary, minus, model, number, part, two_by_two, two_by_two_whole, variable}
use Rattle.limit_defs.specs.Counts.{choose, pivots_within}
use Rattle.limit_defs.specs.Limits.{nodes_of}
use Rattle.limit_defs.specs.Text.{limits_text}

-- ---- ways to choose

two_of_five : choose 5 2 ≡ 10
unfolding choose
two_of_five = refl

three_of_ten : choose 10 3 ≡ 120
unfolding choose
three_of_ten = refl

three_of_two : choose 2 3 ≡ 0
unfolding choose
three_of_two = refl

-- no row: the point where all columns are 0 is the only basis
no_rows : pivots_within 7 0 ≡ 2
unfolding choose
no_rows = refl

-- ---- texts

unfoldable lines : Model → List ℕ
unfolding choose limits_text digits
lines m = limits_text m

-- two columns and two rows, and one node
without_integers : lines two_by_two ≡ codes "ITERATIONS 20\nNODES 1\n"
unfolding lines
without_integers = refl

-- no bound from above
open_above : lines two_by_two_whole ≡ codes "ITERATIONS OPEN\nNODES OPEN\n"
unfolding lines
open_above = refl

-- one column and three rows, of the equality and of the upper bound
binary_equality : lines half_binary ≡ codes "ITERATIONS 60\nNODES 3\n"
unfolding lines
binary_equality = refl

-- a binary variable without bounds of its own has those of its kind: one column and one row
free_binary : lines (model Maximize (variable (codes "x") None None one_value Binary ∷ []) []) ≡ codes "ITERATIONS 18\nNODES 3\n"
unfolding lines
free_binary = refl

-- two columns without a bound
free_column : lines (model Maximize (variable (codes "x") None None one_value Continuous ∷ []) []) ≡ codes "ITERATIONS 2\nNODES 1\n"
unfolding lines
free_column = refl

-- ---- ranges

abbrev between : Fraction → Fraction → Model
between lower upper = model Maximize (variable (codes "x") (Some lower) (Some upper) one_value Integer ∷ []) []

-- from the whole number below to the one above
from_half_to_half : nodes_of (between (part 1 2) (part 5 2)) ≡ 7
from_half_to_half = refl

from_below_zero : nodes_of (between (minus (part 1 2)) (part 1 2)) ≡ 5
from_below_zero = refl

-- one value, and no value
one_value_alone : nodes_of (between (number 4) (number 4)) ≡ 1
one_value_alone = refl

no_value : nodes_of (between (number 4) (number 3)) ≡ 1
no_value = refl

-- five hundred million leaves are one node below the limit, and one more leaf is one node above it
at_the_limit : lines (between zero_value (number 499999999)) ≡ codes "ITERATIONS OVER\nNODES 999999999\n"
unfolding lines
at_the_limit = refl

above_the_limit : lines (between zero_value (number 500000000)) ≡ codes "ITERATIONS OVER\nNODES OVER\n"
unfolding lines
above_the_limit = refl

-- one integer variable with both bounds among so many columns: 512 pivots in each of 1953125 nodes
abbrev columns_and_range : ℕ → ℕ → Model
columns_and_range others upper =
    model Maximize (variable (codes "x") (Some zero_value) (Some (number upper)) one_value Integer ∷ replicate others (variable (codes "y") (Some zero_value) None one_value Continuous)) []

exactly_the_limit : lines (columns_and_range 253 976562) ≡ codes "ITERATIONS 1000000000\nNODES 1953125\n"
unfolding lines
exactly_the_limit = refl

one_column_more : lines (columns_and_range 254 976562) ≡ codes "ITERATIONS OVER\nNODES 1953125\n"
unfolding lines
one_column_more = refl
