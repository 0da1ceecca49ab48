-- Number texts read from the left: a function that computes, beside the grammar.
use Rattle.std.specs.Prelude.{ℕ, ◌+◌, Bool, false, ◌&&◌, ◌||◌, List, [], ◌∷◌, length, ◌==◌, nat_lt, ℤ, pos, Option, Some, None, option_map, Result, Err, if◌then◌else◌}
use Rattle.std.specs.Str.{all_ascii_digits}
use Rattle.frac128.specs.Fraction.{Fraction}
use Rattle.frac128.specs.Numbers.{signed}
use Rattle.frac_text.specs.Digits.{number, front_digits, behind_digits}
use Rattle.frac_text.specs.Grammar.{max_len, max_exponent_len, plus, minus, point, slash, lower_e, upper_e}
use Rattle.frac_text.specs.Number.{Number, decimal, ratio, parts_of, outcome_of}
use Rattle.frac_text.specs.declared.fault.NumFault.{NumFault}
use Rattle.frac_text.specs.declared.fault.NumFault.TheVariants.{NotNumber}

-- a minus stands in front
abbrev pub is_negative : List ℕ → Bool
is_negative [] = false
is_negative (byte ∷ _) = byte == minus

-- the bytes without a sign in front
abbrev pub behind_sign : List ℕ → List ℕ
behind_sign [] = []
behind_sign (byte ∷ bytes) = if (byte == plus || byte == minus) then bytes else byte ∷ bytes

abbrev pub ratio_of : Bool → List ℕ → List ℕ → Option Number
ratio_of negative over under =
    if (nat_lt 0 (length over) && all_ascii_digits under && nat_lt 0 (number under)) then Some (ratio negative over under) else None

abbrev pub digits_of_exponent : Bool → List ℕ → Option ℤ
digits_of_exponent negative digits =
    if (all_ascii_digits digits && nat_lt 0 (length digits) && nat_lt (length digits) (max_exponent_len + 1)) then Some (signed negative (number digits))
    else None

-- the exponent that the bytes behind the digits spell
abbrev pub exponent_of : List ℕ → Option ℤ
exponent_of [] = Some (pos 0)
exponent_of (byte ∷ bytes) =
    if (byte == lower_e || byte == upper_e) then digits_of_exponent (is_negative bytes) (behind_sign bytes) else None

abbrev pub decimal_of : Bool → List ℕ → List ℕ → List ℕ → Option Number
decimal_of negative whole behind rest =
    if (length whole + length behind == 0) then None else option_map (decimal negative whole behind) (exponent_of rest)

-- digits, and the bytes behind them
abbrev pub number_from : Bool → List ℕ → List ℕ → Option Number
number_from negative digits [] = decimal_of negative digits [] []
number_from negative digits (byte ∷ bytes) =
    if (byte == slash) then ratio_of negative digits bytes
    else (if (byte == point) then decimal_of negative digits (front_digits bytes) (behind_digits bytes)
    else decimal_of negative digits [] (byte ∷ bytes))

abbrev pub unsigned_number : Bool → List ℕ → Option Number
unsigned_number negative body = number_from negative (front_digits body) (behind_digits body)

-- the parts of a number text, or nothing where the text is none
unfoldable pub number_of : List ℕ → Option Number
number_of text = if nat_lt max_len (length text) then None else unsigned_number (is_negative text) (behind_sign text)

abbrev pub outcome_or_fault : Option Number → Result Fraction NumFault
outcome_or_fault (Some n) = outcome_of (parts_of n)
outcome_or_fault None = Err NotNumber

-- what a text is read as
abbrev pub reading : List ℕ → Result Fraction NumFault
reading text = outcome_or_fault (number_of text)
