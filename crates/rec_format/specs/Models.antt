-- The bytes of fractions, variables, rows and models.
use Rattle.std.specs.Prelude.{ℕ, suc, ◌<◌, ◌==◌, Bool, List, nat_lt, if◌then◌else◌, ℤ, pos, negsuc, unsigned_abs}
use Rattle.std.specs.Prelude.{Option, Some, None}
use Rattle.std.specs.Int.{cast_signed, cast_unsigned, w128}
use Rattle.frac128.specs.Fraction.{Fraction, den}
use Rattle.frac128.specs.Lowest.{IsInLowestTerms}
use Rattle.frac128.specs.Numbers.{gcd, limit}
use Rattle.model_data.specs.Names.{is_name, is_tag}
use Rattle.model_data.specs.declared.model.Direction.{Direction}
use Rattle.model_data.specs.declared.model.Direction.TheVariants.{Maximize, Minimize}
use Rattle.model_data.specs.declared.model.Model.{Model}
use Rattle.model_data.specs.declared.model.Row.{Row}
use Rattle.model_data.specs.declared.model.Sense.{Sense}
use Rattle.model_data.specs.declared.model.Sense.TheVariants.{Equal, Greater, Less}
use Rattle.model_data.specs.declared.model.Term.{Term}
use Rattle.model_data.specs.declared.model.Var.{Var}
use Rattle.model_data.specs.declared.model.VarKind.{VarKind}
use Rattle.model_data.specs.declared.model.VarKind.TheVariants.{Binary, Continuous, Integer}
use Rattle.rec_format.specs.Format.{Format, both, fields, list_of, number, only, optional, picked, text, that}

-- ---- codes of one byte

-- a value for each of some bytes
abbrev pub coded : {A : Type 0} → (ℕ → Option A) → (A → ℕ) → Format A
coded of code = picked (number 1) (λ _. Unit {0}) of code

abbrev pub direction_of : ℕ → Option Direction
direction_of n = if n == 0 then Some Minimize else (if n == 1 then Some Maximize else None)

abbrev pub direction_code : Direction → ℕ
direction_code Minimize = 0
direction_code Maximize = 1

abbrev pub direction : Format Direction
direction = coded direction_of direction_code

abbrev pub sense_of : ℕ → Option Sense
sense_of n = if n == 0 then Some Less else (if n == 1 then Some Greater else (if n == 2 then Some Equal else None))

abbrev pub sense_code : Sense → ℕ
sense_code Less = 0
sense_code Greater = 1
sense_code Equal = 2

abbrev pub sense : Format Sense
sense = coded sense_of sense_code

abbrev pub kind_of : ℕ → Option VarKind
kind_of n = if n == 0 then Some Continuous else (if n == 1 then Some Integer else (if n == 2 then Some Binary else None))

abbrev pub kind_code : VarKind → ℕ
kind_code Continuous = 0
kind_code Integer = 1
kind_code Binary = 2

abbrev pub kind : Format VarKind
kind = coded kind_of kind_code

-- ---- fractions

abbrev pub is_part : ℤ → Bool
is_part z = nat_lt (unsigned_abs z) limit

-- 16 bytes in two's complement, below the limit in size
abbrev pub part : Format ℤ
part = picked (number 16) (λ z. unsigned_abs z < limit) (λ n. only is_part (cast_signed w128 n)) (cast_unsigned w128)

abbrev pub is_lowest : Fraction → Bool
is_lowest x = gcd (unsigned_abs x.num) (den x) == 1

abbrev pub fraction_of : ℤ × ℤ → Option Fraction
fraction_of (n, pos (suc below)) = only is_lowest (record { num = n; below = below })
fraction_of (n, d) = None

abbrev pub parts_of : Fraction → ℤ × ℤ
parts_of x = (x.num, pos (suc x.below))

-- numerator and denominator, in lowest terms, the latter above 0
abbrev pub fraction : Format Fraction
fraction = picked (both part part) IsInLowestTerms fraction_of parts_of

-- ---- the model

abbrev pub name : Format (List ℕ)
name = that (text 1) is_name

abbrev pub tag : Format (List ℕ)
tag = that (text 1) is_tag

abbrev pub term : Format Term
term = fields (both (number 4) fraction) (λ p. record { var = p.0; coef = p.1 }) (λ t. (t.var, t.coef))

abbrev pub var : Format Var
var = fields (both name (both (optional fraction) (both (optional fraction) (both fraction (both kind (optional tag))))))
    (λ p. record { name = p.0; lower = p.1.0; upper = p.1.1.0; obj = p.1.1.1.0; kind = p.1.1.1.1.0; tag = p.1.1.1.1.1 })
    (λ v. (v.name, (v.lower, (v.upper, (v.obj, (v.kind, v.tag))))))

abbrev pub row : Format Row
row = fields (both name (both sense (both fraction (list_of 4 term))))
    (λ p. record { name = p.0; sense = p.1.0; rhs = p.1.1.0; terms = p.1.1.1 })
    (λ r. (r.name, (r.sense, (r.rhs, r.terms))))

-- Models of lawful parts. Which of them are lawful is no matter of their bytes.
abbrev pub model : Format Model
model = fields (both direction (both fraction (both (list_of 4 var) (list_of 4 row))))
    (λ p. record { direction = p.0; constant = p.1.0; vars = p.1.1.0; rows = p.1.1.1 })
    (λ m. (m.direction, (m.constant, (m.vars, m.rows))))
