-- What the definitions say of small programs.
use Rattle.std.proofs.Common.{◌≡◌, refl, ℕ, ◌^◌, List, [], ◌∷◌, Some, None, Result, Ok, Err, pos}
use Rattle.frac128.specs.Fits.{product_fits, sum_fits}
use Rattle.frac128.specs.Fraction.{Fraction, exact_product, exact_sum, fraction, inverse, lowest, negation}
use Rattle.frac128.specs.Numbers.{gcd, gcd_within}
use Rattle.frac128.specs.declared.operations.Op.{Op}
use Rattle.frac128.specs.declared.operations.Op.TheVariants.{Add, Div, Mul, Sub}
use Rattle.frac128.specs.declared.operations.Wide.{Wide}
use Rattle.dictionary.specs.declared.standard.Std.{Std}
use Rattle.dictionary.specs.declared.standard.StdRow.{StdRow}
use Rattle.dictionary.specs.Dictionary.{Dictionary, eliminated_basic, eliminated_entries, eliminated_objective, end_phase_one, opening, pivot, pivoted_rows, solved_row, with_artificial, without_artificial}
use Rattle.dictionary.specs.Rule.{Ratio, entering_column, least_row, leaving_row, ratios}

abbrev whole : ℕ → Fraction
whole n = fraction (pos n) 1

abbrev part : ℕ → ℕ → Fraction
part n d = fraction (pos n) d

abbrev minus : Fraction → Fraction
minus x = negation x

abbrev large : Fraction
large = whole (2 ^ 126)

abbrev at_most : List Fraction → Fraction → StdRow
at_most coefs rhs = record { coefs = coefs; rhs = rhs }

abbrev ratio : ℕ → ℕ → Fraction → Ratio
ratio row variable value = record { row = row; variable = variable; value = value }

abbrev refused : {A : Type 0} → Op → Fraction → Fraction → Result A Wide
refused op left right = Err record { op = op; left = left; right = right }

-- maximize x + y, where 2x + y <= 4 and x + 3y <= 6
abbrev two_rows : Std
two_rows = record {
  rows =
      at_most (whole 2 ∷ whole 1 ∷ []) (whole 4)
      ∷ at_most (whole 1 ∷ whole 3 ∷ []) (whole 6)
      ∷ [];
  obj = whole 1 ∷ whole 1 ∷ [];
  constant = whole 0;
}

-- its dictionaries by the rule
abbrev two_rows_first : Dictionary
two_rows_first = record {
  basic = 3 ∷ 4 ∷ [];
  nonbasic = 1 ∷ 2 ∷ [];
  rows =
      (whole 4 ∷ whole 2 ∷ whole 1 ∷ [])
      ∷ (whole 6 ∷ whole 1 ∷ whole 3 ∷ [])
      ∷ [];
  objective = whole 0 ∷ whole 1 ∷ whole 1 ∷ [];
  auxiliary = None;
}

-- x has entered for the first slack
abbrev two_rows_second : Dictionary
two_rows_second = record {
  basic = 1 ∷ 4 ∷ [];
  nonbasic = 3 ∷ 2 ∷ [];
  rows =
      (whole 2 ∷ part 1 2 ∷ part 1 2 ∷ [])
      ∷ (whole 4 ∷ minus (part 1 2) ∷ part 5 2 ∷ [])
      ∷ [];
  objective = whole 2 ∷ minus (part 1 2) ∷ part 1 2 ∷ [];
  auxiliary = None;
}

-- y has entered for the second slack: the value is 14/5
abbrev two_rows_last : Dictionary
two_rows_last = record {
  basic = 1 ∷ 2 ∷ [];
  nonbasic = 3 ∷ 4 ∷ [];
  rows =
      (part 6 5 ∷ part 3 5 ∷ minus (part 1 5) ∷ [])
      ∷ (part 8 5 ∷ minus (part 1 5) ∷ part 2 5 ∷ [])
      ∷ [];
  objective = part 14 5 ∷ minus (part 2 5) ∷ minus (part 1 5) ∷ [];
  auxiliary = None;
}

two_rows_opening : opening two_rows ≡ two_rows_first
unfolding opening without_artificial
two_rows_opening = refl

two_rows_rule : (entering_column two_rows_first ≡ Some 1) × (ratios two_rows_first 1 ≡ Ok (ratio 1 3 (whole 2) ∷ ratio 2 4 (whole 6) ∷ []))
unfolding entering_column ratios exact_product inverse lowest gcd gcd_within product_fits
two_rows_rule = (refl, refl)

two_rows_leaving : leaving_row (ratio 1 3 (whole 2) ∷ ratio 2 4 (whole 6) ∷ []) ≡ Some 1
unfolding leaving_row
two_rows_leaving = refl

two_rows_pivot : pivot 1 1 two_rows_first ≡ Ok two_rows_second
unfolding pivot pivoted_rows solved_row eliminated_basic eliminated_objective eliminated_entries exact_sum exact_product inverse lowest gcd gcd_within sum_fits product_fits
two_rows_pivot = refl

two_rows_rule_2 : (entering_column two_rows_second ≡ Some 2) × (ratios two_rows_second 2 ≡ Ok (ratio 1 1 (whole 4) ∷ ratio 2 4 (part 8 5) ∷ []))
unfolding entering_column ratios exact_product inverse lowest gcd gcd_within product_fits
two_rows_rule_2 = (refl, refl)

two_rows_leaving_2 : leaving_row (ratio 1 1 (whole 4) ∷ ratio 2 4 (part 8 5) ∷ []) ≡ Some 2
unfolding leaving_row
two_rows_leaving_2 = refl

two_rows_pivot_2 : pivot 2 2 two_rows_second ≡ Ok two_rows_last
unfolding pivot pivoted_rows solved_row eliminated_basic eliminated_objective eliminated_entries exact_sum exact_product inverse lowest gcd gcd_within sum_fits product_fits
two_rows_pivot_2 = refl

two_rows_end : entering_column two_rows_last ≡ None
unfolding entering_column
two_rows_end = refl

-- maximize 3 + x + y, where x + y >= 1, x + 2y <= 4 and 2x - y >= 1
abbrev two_phases : Std
two_phases = record {
  rows =
      at_most (minus (whole 1) ∷ minus (whole 1) ∷ []) (minus (whole 1))
      ∷ at_most (whole 1 ∷ whole 2 ∷ []) (whole 4)
      ∷ at_most (minus (whole 2) ∷ whole 1 ∷ []) (minus (whole 1))
      ∷ [];
  obj = whole 1 ∷ whole 1 ∷ [];
  constant = whole 3;
}

-- its dictionaries by the rule
abbrev phase_one_first : Dictionary
phase_one_first = record {
  basic = 3 ∷ 4 ∷ 5 ∷ [];
  nonbasic = 1 ∷ 2 ∷ 0 ∷ [];
  rows =
      (minus (whole 1) ∷ minus (whole 1) ∷ minus (whole 1) ∷ minus (whole 1) ∷ [])
      ∷ (whole 4 ∷ whole 1 ∷ whole 2 ∷ minus (whole 1) ∷ [])
      ∷ (minus (whole 1) ∷ minus (whole 2) ∷ whole 1 ∷ minus (whole 1) ∷ [])
      ∷ [];
  objective = whole 3 ∷ whole 1 ∷ whole 1 ∷ whole 0 ∷ [];
  auxiliary = Some (whole 0 ∷ whole 0 ∷ whole 0 ∷ minus (whole 1) ∷ []);
}

-- the artificial variable has entered at the first of two rows with the least side
abbrev phase_one_second : Dictionary
phase_one_second = record {
  basic = 0 ∷ 4 ∷ 5 ∷ [];
  nonbasic = 1 ∷ 2 ∷ 3 ∷ [];
  rows =
      (whole 1 ∷ whole 1 ∷ whole 1 ∷ minus (whole 1) ∷ [])
      ∷ (whole 5 ∷ whole 2 ∷ whole 3 ∷ minus (whole 1) ∷ [])
      ∷ (whole 0 ∷ minus (whole 1) ∷ whole 2 ∷ minus (whole 1) ∷ [])
      ∷ [];
  objective = whole 3 ∷ whole 1 ∷ whole 1 ∷ whole 0 ∷ [];
  auxiliary = Some (minus (whole 1) ∷ whole 1 ∷ whole 1 ∷ minus (whole 1) ∷ []);
}

-- x has entered for the artificial variable, whose row comes before by its index
abbrev phase_one_last : Dictionary
phase_one_last = record {
  basic = 1 ∷ 4 ∷ 5 ∷ [];
  nonbasic = 0 ∷ 2 ∷ 3 ∷ [];
  rows =
      (whole 1 ∷ whole 1 ∷ whole 1 ∷ minus (whole 1) ∷ [])
      ∷ (whole 3 ∷ minus (whole 2) ∷ whole 1 ∷ whole 1 ∷ [])
      ∷ (whole 1 ∷ whole 1 ∷ whole 3 ∷ minus (whole 2) ∷ [])
      ∷ [];
  objective = whole 4 ∷ minus (whole 1) ∷ whole 0 ∷ whole 1 ∷ [];
  auxiliary = Some (whole 0 ∷ minus (whole 1) ∷ whole 0 ∷ whole 0 ∷ []);
}

-- without the artificial column
abbrev phase_two_first : Dictionary
phase_two_first = record {
  basic = 1 ∷ 4 ∷ 5 ∷ [];
  nonbasic = 2 ∷ 3 ∷ [];
  rows =
      (whole 1 ∷ whole 1 ∷ minus (whole 1) ∷ [])
      ∷ (whole 3 ∷ whole 1 ∷ whole 1 ∷ [])
      ∷ (whole 1 ∷ whole 3 ∷ minus (whole 2) ∷ [])
      ∷ [];
  objective = whole 4 ∷ whole 0 ∷ whole 1 ∷ [];
  auxiliary = None;
}

-- the value is 7
abbrev phase_two_last : Dictionary
phase_two_last = record {
  basic = 1 ∷ 3 ∷ 5 ∷ [];
  nonbasic = 2 ∷ 4 ∷ [];
  rows =
      (whole 4 ∷ whole 2 ∷ whole 1 ∷ [])
      ∷ (whole 3 ∷ whole 1 ∷ whole 1 ∷ [])
      ∷ (whole 7 ∷ whole 5 ∷ whole 2 ∷ [])
      ∷ [];
  objective = whole 7 ∷ minus (whole 1) ∷ minus (whole 1) ∷ [];
  auxiliary = None;
}

phase_one_opening : opening two_phases ≡ phase_one_first
unfolding opening without_artificial with_artificial
phase_one_opening = refl

phase_one_least : least_row phase_one_first ≡ Some 1
unfolding least_row
phase_one_least = refl

phase_one_pivot : pivot 1 3 phase_one_first ≡ Ok phase_one_second
unfolding pivot pivoted_rows solved_row eliminated_basic eliminated_objective eliminated_entries exact_sum exact_product inverse lowest gcd gcd_within sum_fits product_fits
phase_one_pivot = refl

phase_one_rule : (entering_column phase_one_second ≡ Some 1) × (ratios phase_one_second 1 ≡ Ok (ratio 1 0 (whole 1) ∷ ratio 2 4 (part 5 2) ∷ []))
unfolding entering_column ratios exact_product inverse lowest gcd gcd_within product_fits
phase_one_rule = (refl, refl)

phase_one_leaving : leaving_row (ratio 1 0 (whole 1) ∷ ratio 2 4 (part 5 2) ∷ []) ≡ Some 1
unfolding leaving_row
phase_one_leaving = refl

phase_one_pivot_2 : pivot 1 1 phase_one_second ≡ Ok phase_one_last
unfolding pivot pivoted_rows solved_row eliminated_basic eliminated_objective eliminated_entries exact_sum exact_product inverse lowest gcd gcd_within sum_fits product_fits
phase_one_pivot_2 = refl

phase_one_best : entering_column phase_one_last ≡ None
unfolding entering_column
phase_one_best = refl

phase_one_end : end_phase_one phase_one_last ≡ phase_two_first
unfolding end_phase_one
phase_one_end = refl

phase_two_pivot : pivot 2 2 phase_two_first ≡ Ok phase_two_last
unfolding pivot pivoted_rows solved_row eliminated_basic eliminated_objective eliminated_entries exact_sum exact_product inverse lowest gcd gcd_within sum_fits product_fits
phase_two_pivot = refl

-- of equal ratios the smaller index leaves
tie : leaving_row (ratio 1 4 (part 1 2) ∷ ratio 2 3 (part 1 2) ∷ ratio 3 2 (part 2 3) ∷ []) ≡ Some 2
unfolding leaving_row
tie = refl

-- and so the artificial variable before each other one, also where its row stands behind
artificial_tie : leaving_row (ratio 1 1 (part 1 2) ∷ ratio 2 0 (part 1 2) ∷ []) ≡ Some 2
unfolding leaving_row
artificial_tie = refl

-- ---- the first operation that does not fit

-- the constant is divided
refused_quotient : solved_row 1 (large ∷ part 1 2 ∷ whole 3 ∷ []) ≡ refused Div large (part 1 2)
unfolding solved_row exact_product inverse lowest gcd gcd_within product_fits
refused_quotient = refl

-- so are the columns behind
refused_quotient_behind : solved_row 1 (whole 3 ∷ part 1 2 ∷ large ∷ []) ≡ refused Div large (part 1 2)
unfolding solved_row exact_product inverse lowest gcd gcd_within product_fits
refused_quotient_behind = refl

-- the factor is the left operand
refused_product : eliminated_basic 1 (whole 3 ∷ whole 2 ∷ whole 1 ∷ []) (whole 1 ∷ large ∷ large ∷ []) ≡ refused Mul large (whole 3)
unfolding eliminated_basic eliminated_entries exact_sum exact_product lowest gcd gcd_within sum_fits product_fits
refused_product = refl

-- a basic row takes its constant away
refused_difference : eliminated_basic 1 (large ∷ whole 1 ∷ whole 1 ∷ []) (minus large ∷ whole 1 ∷ large ∷ []) ≡ refused Sub (minus large) large
unfolding eliminated_basic eliminated_entries exact_sum exact_product lowest gcd gcd_within sum_fits product_fits
refused_difference = refl

-- an objective adds it
refused_sum : eliminated_objective 1 (large ∷ whole 1 ∷ whole 1 ∷ []) (large ∷ whole 1 ∷ large ∷ []) ≡ refused Add large large
unfolding eliminated_objective eliminated_entries exact_sum exact_product lowest gcd gcd_within sum_fits product_fits
refused_sum = refl

-- column 1, the entering variable's, comes last
refused_behind : eliminated_objective 1 (whole 3 ∷ large ∷ minus large ∷ []) (whole 1 ∷ whole 2 ∷ whole 1 ∷ []) ≡ refused Mul (whole 2) (minus large)
unfolding eliminated_objective eliminated_entries exact_sum exact_product lowest gcd gcd_within sum_fits product_fits
refused_behind = refl

-- rows go by number, then z
refused_pivot : pivot 2 1 record {
  basic = 2 ∷ 3 ∷ [];
  nonbasic = 1 ∷ [];
  rows =
      (large ∷ whole 2 ∷ [])
      ∷ (minus large ∷ whole 1 ∷ [])
      ∷ [];
  objective = large ∷ large ∷ [];
  auxiliary = None;
} ≡ refused Mul (whole 2) (minus large)
unfolding pivot pivoted_rows solved_row eliminated_basic eliminated_objective eliminated_entries exact_sum exact_product inverse lowest gcd gcd_within sum_fits product_fits
refused_pivot = refl
