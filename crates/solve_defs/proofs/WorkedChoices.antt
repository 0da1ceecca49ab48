-- Small models, each of which tells one choice of the plain solver from another one that would be right as well.
use Rattle.std.proofs.Common.{◌≡◌, refl, List, [], ◌∷◌, Option, Some, None, Err, codes, pos, negsuc}
use Rattle.frac128.specs.Fits.{product_fits, sum_fits}
use Rattle.frac128.specs.Fraction.{Fraction, exact_product, exact_sum, inverse, lowest, one_value, zero_value}
use Rattle.frac128.specs.Numbers.{gcd, gcd_within}
use Rattle.frac128.specs.declared.operations.Op.{Op}
use Rattle.frac128.specs.declared.operations.Op.TheVariants.{Mul, Sub}
use Rattle.model_data.specs.Params.{usual_params}
use Rattle.model_data.specs.declared.model.Direction.TheVariants.{Minimize, Maximize}
use Rattle.model_data.specs.declared.model.Model.{Model}
use Rattle.model_data.specs.declared.model.Sense.TheVariants.{Less, Greater, Equal}
use Rattle.model_data.specs.declared.model.VarKind.TheVariants.{Continuous, Integer, Binary}
use Rattle.model_data.specs.declared.params.Params.{Params}
use Rattle.model_data.specs.declared.solution.Cert.TheVariants.{Nothing, Tree}
use Rattle.model_data.specs.declared.solution.CertNode.TheVariants.{Split, Bound, Farkas}
use Rattle.model_data.specs.declared.solution.Outcome.{Outcome}
use Rattle.model_data.specs.declared.solution.Point.{Point}
use Rattle.model_data.specs.declared.solution.Weights.{Weights}
use Rattle.dictionary.specs.Dictionary.{Dictionary}
use Rattle.dictionary.specs.Rule.{entering_column}
use Rattle.solve_defs.specs.Ends.{point_of, ray_of}
use Rattle.solve_defs.specs.Plain.{Ended, both_back, cut_off}
use Rattle.solve_defs.specs.StandardForm.{point_back, ray_back}
use Rattle.solve_defs.proofs.Models.{minus, model, number, part, plain, row, term, two_rows, variable}
use Rattle.solve_defs.proofs.Worked.{solved, weight}

-- how a solve ends
abbrev ended : Model → Params → Ended
ended m p = cut_off (solved m p).progress

abbrev without_certificate : Outcome → Ended
without_certificate o = record { outcome = o; cert = Nothing }

-- by an operation in the root's form
abbrev refused_form : Op → Fraction → Fraction → Ended
refused_form op left right = without_certificate record {
  status = 12;
  pivots = 0;
  nodes = 0;
  work = 0;
  point = None;
  wide = Some record { at = 0; wide = record { op = op; left = left; right = right } };
}

abbrev some_point : List Fraction → Fraction → Option Point
some_point xs value = Some record { xs = xs; value = value }

abbrev nothing_weighs : Weights
nothing_weighs = record { rows = []; lows = []; ups = [] }

-- 1 over 10^30
abbrev tiny : Fraction
tiny = part 1 1_000_000_000_000_000_000_000_000_000_000

abbrev thrice_tiny : Fraction
thrice_tiny = part 3 1_000_000_000_000_000_000_000_000_000_000

-- ---- values

-- maximize x + y in whole numbers, where 2 x + y <= 4 and x + 3 y <= 6, as what is to be minimized
abbrev negated_whole : Model
negated_whole = model Minimize (plain (codes "x") (minus one_value) Integer ∷ plain (codes "y") (minus one_value) Integer ∷ []) two_rows

-- An equal value replaces no point, where the value is to be minimized either.
equal_value_replaces_no_point : ended negated_whole usual_params ≡ record {
  outcome = record { status = 2; pivots = 9; nodes = 5; work = 102; point = some_point (one_value ∷ one_value ∷ []) (minus (number 2)); wide = None };
  cert = Tree (
      Split 1 (pos 1)
      ∷ Split 2 (pos 1)
      ∷ Bound (record { rows = []; lows = []; ups = weight 1 one_value ∷ weight 2 one_value ∷ [] })
      ∷ Bound (record { rows = weight 2 one_value ∷ []; lows = weight 2 (number 2) ∷ []; ups = [] })
      ∷ Bound (record { rows = weight 1 one_value ∷ []; lows = weight 1 one_value ∷ []; ups = [] })
      ∷ []);
}
unfolding solved
equal_value_replaces_no_point = refl

-- minimize 3 y - 2 x in whole numbers, where 4 x - y <= 3
abbrev downhill : Model
downhill = model Minimize (plain (codes "x") (minus (number 2)) Integer ∷ plain (codes "y") (number 3) Integer ∷ [])
    (row (codes "c") (term 0 (number 4) ∷ term 1 (minus one_value) ∷ []) Less (number 3) ∷ [])

-- A greater value is the worse one where it is to be minimized.
greater_value_is_worse : ended downhill usual_params ≡ record {
  outcome = record { status = 2; pivots = 4; nodes = 3; work = 39; point = some_point (zero_value ∷ zero_value ∷ []) zero_value; wide = None };
  cert = Tree (
      Split 1 (pos 0)
      ∷ Bound (record { rows = []; lows = weight 2 (number 3) ∷ []; ups = weight 1 (number 2) ∷ [] })
      ∷ Bound (record { rows = weight 1 (number 3) ∷ []; lows = weight 1 (number 10) ∷ []; ups = [] })
      ∷ []);
}
unfolding solved
greater_value_is_worse = refl

-- a whole number that is at most a little below 0
abbrev little_below : Model
little_below = model Minimize (variable (codes "x") None (Some (minus tiny)) zero_value Integer ∷ []) []

-- The split is at the floor, which is further from 0 for a number below it.
floor_is_below : ended little_below usual_params ≡ record {
  outcome = record { status = 2; pivots = 1; nodes = 3; work = 9; point = some_point (minus one_value ∷ []) zero_value; wide = None };
  cert = Tree (
      Split 1 (negsuc 0)
      ∷ Bound nothing_weighs
      ∷ Farkas (record { rows = []; lows = weight 1 one_value ∷ []; ups = weight 1 one_value ∷ [] })
      ∷ []);
}
unfolding solved
floor_is_below = refl

-- x and y from 0 to -4
abbrev crossed : Model
crossed = model Minimize
    (variable (codes "x") (Some zero_value) (Some (minus (number 4))) (minus (number 2)) Integer
    ∷ variable (codes "y") (Some zero_value) (Some (minus (number 4))) (number 3) Integer ∷ []) []

-- Of rows with the same least constant the artificial variable takes the first one.
first_of_the_least_rows : ended crossed usual_params ≡ record {
  outcome = record { status = 3; pivots = 1; nodes = 1; work = 16; point = None; wide = None };
  cert = Tree (Farkas (record { rows = []; lows = weight 1 one_value ∷ []; ups = weight 1 one_value ∷ [] }) ∷ []);
}
unfolding solved
first_of_the_least_rows = refl

-- ---- limits

-- maximize 5 x, where x is binary
abbrev one_binary : Model
one_binary = model Maximize (plain (codes "x") (number 5) Binary ∷ []) []

-- The limit on pivots is tried before that on work.
pivots_before_work : ended one_binary (record usual_params { iterations = 0; work = 0 })
    ≡ without_certificate record { status = 7; pivots = 0; nodes = 0; work = 0; point = None; wide = None }
unfolding solved
pivots_before_work = refl

-- minimize -3 x, where x is binary and at most 3 / 10^30
abbrev small_binary : Model
small_binary = model Minimize (variable (codes "x") None (Some thrice_tiny) (minus (number 3)) Binary ∷ []) []

-- A pivot whose work comes up to the limit is made.
work_up_to_the_limit : ended small_binary (record usual_params { work = 17 }) ≡ record {
  outcome = record { status = 2; pivots = 3; nodes = 3; work = 17; point = some_point (zero_value ∷ []) zero_value; wide = None };
  cert = Tree (
      Split 1 (pos 0)
      ∷ Bound (record { rows = []; lows = []; ups = weight 1 (number 3) ∷ [] })
      ∷ Farkas (record { rows = []; lows = weight 1 one_value ∷ []; ups = weight 1 one_value ∷ [] })
      ∷ []);
}
unfolding solved
work_up_to_the_limit = refl

-- minimize 2 x, where x is binary
abbrev free_binary : Model
free_binary = model Minimize (variable (codes "x") None None (number 2) Binary ∷ []) []

-- The limit on nodes isn't met where no node is left.
no_node_left_at_the_limit : ended free_binary (record usual_params { nodes = 1 }) ≡ record {
  outcome = record { status = 2; pivots = 0; nodes = 1; work = 0; point = some_point (zero_value ∷ []) zero_value; wide = None };
  cert = Tree (Bound (record { rows = []; lows = weight 1 (number 2) ∷ []; ups = [] }) ∷ []);
}
unfolding solved
no_node_left_at_the_limit = refl

-- maximize 10^30 x + 2 y + z / 10^12, where x <= 3 / 10^19 and z <= -4 are whole and y is binary
abbrev wide_below : Model
wide_below = model Maximize
    (variable (codes "x") None (Some (part 3 10_000_000_000_000_000_000)) (number 1_000_000_000_000_000_000_000_000_000_000) Integer
    ∷ plain (codes "y") (number 2) Binary
    ∷ variable (codes "z") None (Some (minus (number 4))) (part 1 1_000_000_000_000) Integer ∷ []) []

-- The limit on nodes is tried before the node's form, an operation of which wouldn't fit.
nodes_before_the_form : ended wide_below (record usual_params { nodes = 2; work = 18 }) ≡ without_certificate record {
  status = 8;
  pivots = 2;
  nodes = 2;
  work = 16;
  point = some_point (zero_value ∷ one_value ∷ minus (number 4) ∷ []) (part 499_999_999_999 250_000_000_000);
  wide = None;
}
unfolding solved
nodes_before_the_form = refl

-- ---- the best point so far

-- maximize 2 x in whole numbers, where x <= 1 / 10^12
abbrev below_one : Model
below_one = model Maximize (variable (codes "x") (Some zero_value) (Some (part 1 1_000_000_000_000)) (number 2) Integer ∷ []) []

-- It is kept at the limit on pivots,
kept_at_the_limit_on_pivots : ended below_one (record usual_params { iterations = 2 })
    ≡ without_certificate record { status = 7; pivots = 2; nodes = 2; work = 8; point = some_point (zero_value ∷ []) zero_value; wide = None }
unfolding solved
kept_at_the_limit_on_pivots = refl

-- a whole number that is at most 2 / 3
abbrev two_thirds : Model
two_thirds = model Maximize (variable (codes "x") None (Some (part 2 3)) zero_value Integer ∷ []) []

-- at that on work,
kept_at_the_limit_on_work : ended two_thirds (record usual_params { work = 0 })
    ≡ without_certificate record { status = 16; pivots = 0; nodes = 2; work = 0; point = some_point (zero_value ∷ []) zero_value; wide = None }
unfolding solved
kept_at_the_limit_on_work = refl

-- maximize 10^19 x in whole numbers, where 0 <= 10^37 and -2 <= x <= 3 / 10^30
abbrev wide_row : Model
wide_row = model Maximize (variable (codes "x") (Some (minus (number 2))) (Some thrice_tiny) (number 10_000_000_000_000_000_000) Integer ∷ [])
    (row (codes "c") [] Less (number 10_000_000_000_000_000_000_000_000_000_000_000_000) ∷ [])

-- and where an operation doesn't fit.
kept_where_an_operation_is_refused : ended wide_row usual_params ≡ without_certificate record {
  status = 12;
  pivots = 2;
  nodes = 2;
  work = 12;
  point = some_point (zero_value ∷ []) zero_value;
  wide = Some record {
    at = 3;
    wide = record {
      op = Sub;
      left = number 10_000_000_000_000_000_000_000_000_000_000_000_000;
      right = minus (part 999_999_999_999_999_999_999_999_999_997 1_000_000_000_000_000_000_000_000_000_000);
    };
  };
}
unfolding solved
kept_where_an_operation_is_refused = refl

-- ---- the order of operations

-- maximize -10^20 x, where x <= 10^19
abbrev wide_objective : Model
wide_objective = model Maximize (variable (codes "x") None (Some (number 10_000_000_000_000_000_000)) (minus (number 100_000_000_000_000_000_000)) Integer ∷ []) []

-- The coefficient is the left operand.
coefficient_first : ended wide_objective usual_params ≡ refused_form Mul (minus (number 100_000_000_000_000_000_000)) (number 10_000_000_000_000_000_000)
unfolding solved
coefficient_first = refl

-- maximize -4 x, where 2 x >= 3 / 10^19, 0 = -3 and 10^19 <= x <= 3 / 10^30
abbrev wide_row_and_span : Model
wide_row_and_span = model Maximize (variable (codes "x") (Some (number 10_000_000_000_000_000_000)) (Some thrice_tiny) (minus (number 4)) Integer ∷ [])
    (row (codes "c") (term 0 (number 2) ∷ []) Greater (part 3 10_000_000_000_000_000_000) ∷ row (codes "d") [] Equal (minus (number 3)) ∷ [])

-- Rows come before the differences of bounds,
rows_before_spans : ended wide_row_and_span usual_params ≡ refused_form Sub (part 3 10_000_000_000_000_000_000) (number 20_000_000_000_000_000_000)
unfolding solved
rows_before_spans = refl

-- minimize x / 10^12 + 3 y / 10^30, where -1 / 10^30 <= x <= -10^19 and y <= 3 / 10^19
abbrev wide_span_and_objective : Model
wide_span_and_objective = model Minimize
    (variable (codes "x") (Some (minus tiny)) (Some (minus (number 10_000_000_000_000_000_000))) (part 1 1_000_000_000_000) Continuous
    ∷ variable (codes "y") None (Some (part 3 10_000_000_000_000_000_000)) thrice_tiny Continuous ∷ []) []

-- and those before the objective.
spans_before_the_objective : ended wide_span_and_objective usual_params ≡ refused_form Sub (minus (number 10_000_000_000_000_000_000)) (minus tiny)
unfolding solved
spans_before_the_objective = refl

-- ---- a ray

-- A dictionary that no solve reaches: both columns of a free variable are basic, and neither their values nor their rises have a
-- difference that fits.
abbrev both_basic : Dictionary
both_basic = record {
  basic = 1 ∷ 2 ∷ [];
  nonbasic = 3 ∷ 4 ∷ [];
  rows = (number 10_000_000_000_000_000_000 ∷ tiny ∷ zero_value ∷ []) ∷ (tiny ∷ number 10_000_000_000_000_000_000 ∷ zero_value ∷ []) ∷ [];
  objective = zero_value ∷ one_value ∷ zero_value ∷ [];
  auxiliary = None;
}

abbrev one_free : Model
one_free = model Maximize (variable (codes "x") None None one_value Continuous ∷ []) []

-- The point is carried back before its direction.
point_before_direction : both_back one_free (record { cuts = []; dictionary = both_basic }) ≡ Err record { op = Sub; left = number 10_000_000_000_000_000_000; right = tiny }
unfolding point_back ray_back point_of ray_of entering_column exact_sum exact_product inverse lowest gcd gcd_within sum_fits product_fits
point_before_direction = refl
