-- The models of the worked examples.
use Rattle.std.proofs.Common.{ℕ, ◌+◌, ◌*◌, List, [], ◌∷◌, map, Option, Some, None, codes, pos}
use Rattle.frac128.specs.Fraction.{Fraction, fraction, lowest, negation, one_value, zero_value}
use Rattle.model_data.specs.declared.model.Direction.{Direction}
use Rattle.model_data.specs.declared.model.Direction.TheVariants.{Minimize, Maximize}
use Rattle.model_data.specs.declared.model.Model.{Model}
use Rattle.model_data.specs.declared.model.Row.{Row}
use Rattle.model_data.specs.declared.model.Sense.{Sense}
use Rattle.model_data.specs.declared.model.Sense.TheVariants.{Less, Greater, Equal}
use Rattle.model_data.specs.declared.model.Term.{Term}
use Rattle.model_data.specs.declared.model.Var.{Var}
use Rattle.model_data.specs.declared.model.VarKind.{VarKind}
use Rattle.model_data.specs.declared.model.VarKind.TheVariants.{Continuous, Integer, Binary}

-- n over d
abbrev pub part : ℕ → ℕ → Fraction
part n d = fraction (pos n) d

abbrev pub number : ℕ → Fraction
number n = part n 1

abbrev pub minus : Fraction → Fraction
minus x = negation x

abbrev pub variable : List ℕ → Option Fraction → Option Fraction → Fraction → VarKind → Var
variable text lower upper obj kind = record { name = text; lower = lower; upper = upper; obj = obj; kind = kind; tag = None }

-- at least 0
abbrev pub plain : List ℕ → Fraction → VarKind → Var
plain text obj kind = variable text (Some zero_value) None obj kind

abbrev pub term : ℕ → Fraction → Term
term place x = record { var = place; coef = x }

abbrev pub row : List ℕ → List Term → Sense → Fraction → Row
row text terms sense rhs = record { name = text; sense = sense; rhs = rhs; terms = terms }

abbrev pub model : Direction → List Var → List Row → Model
model direction vars rows = record { direction = direction; constant = zero_value; vars = vars; rows = rows }

-- minimize x, where x >= 1
abbrev pub at_least_one : Model
at_least_one = model Minimize (plain (codes "x") one_value Continuous ∷ []) (row (codes "c") (term 0 one_value ∷ []) Greater one_value ∷ [])

abbrev pub first_row : Row
first_row = row (codes "R0") (term 0 (number 2) ∷ term 1 one_value ∷ []) Less (number 4)

abbrev pub second_row : Row
second_row = row (codes "R1") (term 0 one_value ∷ term 1 (number 3) ∷ []) Less (number 6)

abbrev pub two_rows : List Row
two_rows = first_row ∷ second_row ∷ []

-- maximize x + y, where 2 x + y <= 4 and x + 3 y <= 6
abbrev pub two_by_two : Model
two_by_two = model Maximize (plain (codes "x") one_value Continuous ∷ plain (codes "y") one_value Continuous ∷ []) two_rows

-- the same in whole numbers
abbrev pub two_by_two_whole : Model
two_by_two_whole = model Maximize (plain (codes "x") one_value Integer ∷ plain (codes "y") one_value Integer ∷ []) two_rows

abbrev pub half_row : Row
half_row = row (codes "R0") (term 0 (number 2) ∷ []) Equal one_value

-- minimize x, where 2 x = 1 and x is binary
abbrev pub half_binary : Model
half_binary = model Minimize (plain (codes "x") one_value Binary ∷ []) (half_row ∷ [])

abbrev pub lack_row : Row
lack_row = row (codes "R0") (term 0 one_value ∷ term 1 one_value ∷ []) Greater (number 3)

-- minimize x, where x + y >= 3, and x and y are at most 1
abbrev pub too_little : Model
too_little = model Minimize
    (variable (codes "x") (Some zero_value) (Some one_value) one_value Continuous ∷ variable (codes "y") (Some zero_value) (Some one_value) zero_value Continuous ∷ [])
    (lack_row ∷ [])

-- maximize x
abbrev pub rising : VarKind → Model
rising kind = model Maximize (plain (codes "x") one_value kind ∷ []) []

-- Beale's model, at which a careless rule goes in a circle
abbrev pub beale : Model
beale = model Minimize
    (plain (codes "x1") (minus (part 3 4)) Continuous ∷ plain (codes "x2") (number 20) Continuous
    ∷ plain (codes "x3") (minus (part 1 2)) Continuous ∷ plain (codes "x4") (number 6) Continuous ∷ [])
    (row (codes "c1") (term 0 (part 1 4) ∷ term 1 (minus (number 8)) ∷ term 2 (minus one_value) ∷ term 3 (number 9) ∷ []) Less zero_value
    ∷ row (codes "c2") (term 0 (part 1 2) ∷ term 1 (minus (number 12)) ∷ term 2 (minus (part 1 2)) ∷ term 3 (number 3) ∷ []) Less zero_value
    ∷ row (codes "c3") (term 2 one_value ∷ []) Less one_value ∷ [])

-- a number with so many zeros
abbrev pub huge : Fraction
huge = number 1_000_000_000_000_000_000_000_000_000_000

-- maximize x + y, where 10^30 x + y <= 1 and x + 10^30 y <= 1
abbrev pub steep : Model
steep = model Maximize (plain (codes "x") one_value Continuous ∷ plain (codes "y") one_value Continuous ∷ [])
    (row (codes "R0") (term 0 huge ∷ term 1 one_value ∷ []) Less one_value ∷ row (codes "R1") (term 0 one_value ∷ term 1 huge ∷ []) Less one_value ∷ [])

-- maximize y, where 36472996377170786403 x + z = 1, x >= 1 / 2^64 and z >= -36472996377170786403 / 2^64
abbrev pub narrow : VarKind → Model
narrow kind = model Maximize
    (plain (codes "y") one_value kind ∷ variable (codes "x") (Some (part 1 18_446_744_073_709_551_616)) None zero_value Continuous
    ∷ variable (codes "z") (Some (minus (part 36_472_996_377_170_786_403 18_446_744_073_709_551_616))) None zero_value Continuous ∷ [])
    (row (codes "c") (term 1 (number 36_472_996_377_170_786_403) ∷ term 2 one_value ∷ []) Equal one_value ∷ [])

-- maximize x, where 10^30 x <= 1 and x >= 10^19
abbrev pub far : Model
far = model Maximize (variable (codes "x") (Some (number 10_000_000_000_000_000_000)) None one_value Continuous ∷ [])
    (row (codes "c") (term 0 huge ∷ []) Less one_value ∷ [])

-- maximize x, where x / 10^20 <= 10^30
abbrev pub flat : Model
flat = model Maximize (plain (codes "x") one_value Continuous ∷ [])
    (row (codes "c") (term 0 (part 1 100_000_000_000_000_000_000) ∷ []) Less huge ∷ [])

-- minimize 2 x + 3 y, where x + y >= 4 and 1 <= x <= 3: the model that is carried through by hand in docs/SOLVER.md
abbrev pub blend : Model
blend = model Minimize (variable (codes "x") (Some one_value) (Some (number 3)) (number 2) Continuous ∷ plain (codes "y") (number 3) Continuous ∷ [])
    (row (codes "c") (term 0 one_value ∷ term 1 one_value ∷ []) Greater (number 4) ∷ [])

-- maximize x + 2 y + 3 z, where x + y <= 4, x is whole, y at most 5, and z 1
abbrev pub upper_alone : Model
upper_alone = model Maximize
    (plain (codes "x") one_value Integer ∷ variable (codes "y") None (Some (number 5)) (number 2) Continuous ∷ variable (codes "z") (Some one_value) (Some one_value) (number 3) Continuous ∷ [])
    (row (codes "c0") (term 0 one_value ∷ term 1 one_value ∷ []) Less (number 4) ∷ [])

-- minimize 5/2 + 2 x - y + z, where x - y + 2 z = 1, x >= -4, y is whole and at most 7/2, and z from 1/2 to 3
abbrev pub free_one : Model
free_one = record {
  direction = Minimize;
  constant = part 5 2;
  vars = variable (codes "x") None None (number 2) Continuous ∷ variable (codes "y") None (Some (part 7 2)) (minus one_value) Integer ∷ variable (codes "z") (Some (part 1 2)) (Some (number 3)) one_value Continuous ∷ [];
  rows = row (codes "c") (term 0 one_value ∷ term 1 (minus one_value) ∷ term 2 (number 2) ∷ []) Equal one_value ∷ row (codes "d") (term 0 one_value ∷ []) Greater (minus (number 4)) ∷ [];
}

-- ---- a plan: from plants a, b, c, d to five stores

-- what plant so many, from 0 on, brings to store so many
abbrev pub shipped : ℕ → ℕ → Term
shipped plant store = term (plant * 5 + store) one_value

abbrev pub from_plant : ℕ → Fraction → Row
from_plant plant supply =
    row [] (shipped plant 0 ∷ shipped plant 1 ∷ shipped plant 2 ∷ shipped plant 3 ∷ shipped plant 4 ∷ []) Less supply

abbrev pub to_store : ℕ → Fraction → Row
to_store store demand = row [] (shipped 0 store ∷ shipped 1 store ∷ shipped 2 store ∷ shipped 3 store ∷ []) Greater demand

abbrev pub together : Term → Term → Fraction → Row
together s t most = row [] (s ∷ t ∷ []) Less most

-- hundredths
abbrev pub cents : ℕ → Fraction
cents n = lowest (pos n) 100

abbrev pub ways : List ℕ → List Var
ways costs = map (λ n. plain [] (cents n) Continuous) costs

abbrev pub shipping : Model
shipping = model Minimize
    (ways (125 ∷ 310 ∷ 240 ∷ 405 ∷ 295 ∷ 220 ∷ 175 ∷ 260 ∷ 380 ∷ 315 ∷ 345 ∷ 290 ∷ 150 ∷ 195 ∷ 285 ∷ 275 ∷ 330 ∷ 215 ∷ 260 ∷ 110 ∷ []))
    (from_plant 0 (number 100) ∷ from_plant 1 (number 80) ∷ from_plant 2 (number 120) ∷ from_plant 3 (number 90)
    ∷ to_store 0 (cents 3050) ∷ to_store 1 (cents 4225) ∷ to_store 2 (number 25) ∷ to_store 3 (number 60) ∷ to_store 4 (cents 1875)
    ∷ together (shipped 0 0) (shipped 1 0) (number 50) ∷ together (shipped 2 2) (shipped 2 3) (number 100) ∷ together (shipped 0 4) (shipped 3 4) (number 40) ∷ [])
