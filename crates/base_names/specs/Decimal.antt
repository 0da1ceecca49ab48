-- Numbers in decimal digits. How a number is written is `decimal` of std, and the value of digits is
-- its `digits_value 10`.
use Rattle.std.specs.Prelude.{ℕ, Bool, not, ◌||◌, ◌&&◌, ◌==◌, nat_lt, List, length, slice_index, if◌then◌else◌, Option, Some, None}
use Rattle.std.specs.Char.{is_ascii_digit}
use Rattle.std.specs.List.{list_all}
use Rattle.std.specs.Str.Parse.{digits_value}

-- one decimal digit or more, and nothing else
abbrev pub are_digits : List ℕ → Bool
are_digits text = nat_lt 0 (length text) && list_all is_ascii_digit text

-- the same without a leading zero: `0`, or digits of which the first isn't 0
abbrev pub is_decimal : List ℕ → Bool
is_decimal text = are_digits text && ((length text == 1) || not (slice_index text 0 == 48))

-- the number that digits spell
abbrev pub number_of : List ℕ → Option ℕ
number_of text = if are_digits text then Some (digits_value 10 text) else None

-- the number that digits without a leading zero spell
abbrev pub decimal_of : List ℕ → Option ℕ
decimal_of text = if is_decimal text then Some (digits_value 10 text) else None

-- the number, where there is one below the limit
abbrev pub below : ℕ → Option ℕ → Option ℕ
below limit None = None
below limit (Some n) = if nat_lt n limit then Some n else None
