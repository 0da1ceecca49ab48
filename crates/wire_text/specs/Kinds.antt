-- What may stand in the place of an argument, and what a word there tells.
use Rattle.std.specs.Prelude.{ℕ, ◌*◌, Bool, true, false, List, [], ◌∷◌, ◌==◌, nat_le, codes, bytes_eq, ℤ, unsigned_abs, Option, Some, None, option_map, Result, Ok, Err, if◌then◌else◌}
use Rattle.std.specs.List.{list_any}
use Rattle.base_names.specs.Decimal.{number_of}
use Rattle.base_names.specs.Id.{id_of}
use Rattle.base_names.specs.declared.id.BatchId.{BatchId}
use Rattle.base_names.specs.declared.refusal.Refusal.{Refusal}
use Rattle.base_names.specs.declared.refusal.Refusal.TheVariants.{LINE, NAME, RANGE}
use Rattle.frac128.specs.Fraction.{Fraction, den}
use Rattle.frac128.specs.Numbers.{is_below_zero}
use Rattle.frac_text.specs.Reading.{reading}
use Rattle.frac_text.specs.declared.fault.NumFault.{NumFault}
use Rattle.frac_text.specs.declared.fault.NumFault.TheVariants.{NotNumber, TooWide}
use Rattle.model_data.specs.Names.{is_name, is_tag}
use Rattle.model_data.specs.declared.limits.TheConstants.{BOUND_SIZE}
use Rattle.model_data.specs.declared.model.Sense.{Sense}
use Rattle.model_data.specs.declared.model.Sense.TheVariants.{Less, Greater, Equal}
use Rattle.model_data.specs.declared.model.VarKind.{VarKind}
use Rattle.model_data.specs.declared.model.VarKind.TheVariants.{Continuous, Integer, Binary}
use Rattle.wire_text.specs.declared.limits.TheConstants.{BLOCK_LIMIT}

-- Each kind of argument is one word.
pub data Kind : Type 0 where
  -- a variable or a row
  name : Kind
  number : Kind
  -- a number whose value is whole
  whole : Kind
  lower : Kind
  upper : Kind
  comparison : Kind
  -- which values a variable may have
  kind : Kind
  tag : Kind
  -- a parameter
  parameter : Kind
  -- a block's length
  size : Kind
  batch : Kind

-- what an argument tells
abbrev pub Value : Kind → Type 0
Value name = List ℕ
Value number = Fraction
Value whole = ℤ
Value lower = Option Fraction
Value upper = Option Fraction
Value comparison = Sense
Value kind = VarKind
Value tag = List ℕ
Value parameter = List ℕ
Value size = Option ℕ
Value batch = BatchId

-- A word that is no such word at all is LINE.
abbrev pub or_line : {A : Type 0} → Option A → Result A Refusal
or_line None = Err LINE
or_line (Some value) = Ok value

-- A number that is too wide is one, and out of range.
abbrev pub number_told : Result Fraction NumFault → Result Fraction Refusal
number_told (Ok x) = Ok x
number_told (Err NotNumber) = Err LINE
number_told (Err (TooWide negative huge)) = Err RANGE

-- A number that isn't whole is none where a whole one has to stand. One that is too wide may be whole or not.
abbrev pub whole_told : Result Fraction NumFault → Result ℤ Refusal
whole_told (Ok x) = if den x == 1 then Ok x.num else Err LINE
whole_told (Err NotNumber) = Err LINE
whole_told (Err (TooWide negative huge)) = Err RANGE

-- A bound as it is written: a number, or infinite, below where the flag is set and else above.
pub data Bound : Type 0 where
  finite : Fraction → Bound
  infinite : Bool → Bound

-- at least 10 ^ 20 in size
abbrev pub is_far : Fraction → Bool
is_far x = nat_le (BOUND_SIZE * den x) (unsigned_abs x.num)

-- A number of such a size is infinite, whether or not it is too wide. Any other one that is too wide is out of range.
abbrev pub bound_told : Result Fraction NumFault → Result Bound Refusal
bound_told (Ok x) = Ok (if is_far x then infinite (is_below_zero x.num) else finite x)
bound_told (Err NotNumber) = Err LINE
bound_told (Err (TooWide negative true)) = Ok (infinite negative)
bound_told (Err (TooWide negative false)) = Err RANGE

-- `inf`, `-inf`, `infinity` and `-infinity`, in small letters alone, or a number
abbrev pub bound_of : List ℕ → Result Bound Refusal
bound_of word =
    if (list_any (bytes_eq word) (codes "inf" ∷ codes "infinity" ∷ [])) then Ok (infinite false)
    else (if (list_any (bytes_eq word) (codes "-inf" ∷ codes "-infinity" ∷ [])) then Ok (infinite true)
    else bound_told (reading word))

-- An infinite lower bound is below, and an infinite upper one above.
abbrev pub lower_told : Result Bound Refusal → Result (Option Fraction) Refusal
lower_told (Ok (finite x)) = Ok (Some x)
lower_told (Ok (infinite true)) = Ok None
lower_told (Ok (infinite false)) = Err RANGE
lower_told (Err refusal) = Err refusal

abbrev pub upper_told : Result Bound Refusal → Result (Option Fraction) Refusal
upper_told (Ok (finite x)) = Ok (Some x)
upper_told (Ok (infinite true)) = Err RANGE
upper_told (Ok (infinite false)) = Ok None
upper_told (Err refusal) = Err refusal

abbrev pub comparison_of : List ℕ → Option Sense
comparison_of word =
    if bytes_eq word (codes "<=") then Some Less
    else (if bytes_eq word (codes ">=") then Some Greater
    else (if bytes_eq word (codes "=") then Some Equal else None))

abbrev pub kind_of : List ℕ → Option VarKind
kind_of word =
    if bytes_eq word (codes "C") then Some Continuous
    else (if bytes_eq word (codes "I") then Some Integer
    else (if bytes_eq word (codes "B") then Some Binary else None))

-- the length of a block that is read, nothing where it is too long
abbrev pub block_size : ℕ → Option ℕ
block_size n = if nat_le n BLOCK_LIMIT then Some n else None

-- What a word tells in an argument's place. LINE: it is no word of this kind. NAME, RANGE: it is, and tells nothing.
abbrev pub told : (argument : Kind) → List ℕ → Result (Value argument) Refusal
told name word = if is_name word then Ok word else Err NAME
told number word = number_told (reading word)
told whole word = whole_told (reading word)
told lower word = lower_told (bound_of word)
told upper word = upper_told (bound_of word)
told comparison word = or_line (comparison_of word)
told kind word = or_line (kind_of word)
told tag word = if is_tag word then Ok word else Err LINE
told parameter word = Ok word
told size word = or_line (option_map block_size (number_of word))
told batch word = or_line (id_of word)
