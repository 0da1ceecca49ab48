-- Runs of decimal digits, as bytes.
use Rattle.std.specs.Prelude.{ℕ, ◌+◌, ◌-◌, ◌*◌, List, [], ◌∷◌, ◌==◌, drop, take_while, if◌then◌else◌}
use Rattle.std.specs.Char.{is_ascii_digit}
use Rattle.std.specs.List.{prefix_len}

-- the number that the digits spell behind those of n
abbrev pub number_after : ℕ → List ℕ → ℕ
number_after n [] = n
number_after n (digit ∷ digits) = number_after (n * 10 + (digit - 48)) digits

-- the number that the digits spell, 0 where there are none
abbrev pub number : List ℕ → ℕ
number digits = number_after 0 digits

-- the digits at the front of the bytes
abbrev pub front_digits : List ℕ → List ℕ
front_digits bytes = take_while is_ascii_digit bytes

-- what stands behind the digits at the front
abbrev pub behind_digits : List ℕ → List ℕ
behind_digits bytes = drop (prefix_len is_ascii_digit bytes) bytes

-- a digit before digits whose zeros at the end are left out; where nothing is left of them it may be such a zero too
abbrev pub before_kept : ℕ → List ℕ → List ℕ
before_kept digit [] = if digit == 48 then [] else digit ∷ []
before_kept digit (kept ∷ more) = digit ∷ kept ∷ more

-- the digits without the zeros at their end
abbrev pub without_last_zeros : List ℕ → List ℕ
without_last_zeros [] = []
without_last_zeros (digit ∷ digits) = before_kept digit (without_last_zeros digits)

-- the digits without the zeros in front
abbrev pub without_first_zeros : List ℕ → List ℕ
without_first_zeros [] = []
without_first_zeros (digit ∷ digits) = if digit == 48 then without_first_zeros digits else digit ∷ digits
