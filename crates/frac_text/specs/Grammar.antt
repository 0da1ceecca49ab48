-- What a number text is.
use Rattle.std.specs.Prelude.{◌≡◌, ℕ, ◌+◌, ◌<◌, ◌≤◌, Bool, true, false, ◌⊎◌, List, [], ◌∷◌, ◌++◌, length, ℤ, pos}
use Rattle.std.specs.Str.{all_ascii_digits}
use Rattle.frac128.specs.Numbers.{signed}
pub use Rattle.frac128.specs.Text.{slash}
use Rattle.frac_text.specs.Digits.{number}
use Rattle.frac_text.specs.Number.{Number, decimal, ratio}

-- the longest number text
abbrev pub max_len : ℕ
max_len = 255

-- the most digits of an exponent
abbrev pub max_exponent_len : ℕ
max_exponent_len = 4

-- the bytes of `+`, `-`, `.`, `e` and `E`; that of `/` is `slash`
abbrev pub plus : ℕ
plus = 43

abbrev pub minus : ℕ
minus = 45

abbrev pub point : ℕ
point = 46

abbrev pub lower_e : ℕ
lower_e = 101

abbrev pub upper_e : ℕ
upper_e = 69

abbrev pub AreDigits : List ℕ → Type 0
AreDigits bytes = all_ascii_digits bytes ≡ true

-- an optional sign
pub data IsSign : List ℕ → Bool → Type 0 where
  none : IsSign [] false
  plus_sign : IsSign (plus ∷ []) false
  minus_sign : IsSign (minus ∷ []) true

-- an optional point, and the digits behind it
pub data IsFraction : List ℕ → List ℕ → Type 0 where
  no_point : IsFraction [] []
  with_point : (digits : List ℕ) → AreDigits digits → IsFraction (point ∷ digits) digits

-- an `e` or `E`, an optional sign, and 1 to 4 digits
pub record SpellsExponent (bytes : List ℕ) (exponent : ℤ) : Type 0 where
  pub letter : ℕ
  pub sign : List ℕ
  pub digits : List ℕ
  pub negative : Bool
  pub bytes_are : bytes ≡ letter ∷ (sign ++ digits)
  pub letter_is : (letter ≡ lower_e) ⊎ (letter ≡ upper_e)
  pub sign_is : IsSign sign negative
  pub are_digits : AreDigits digits
  pub not_empty : 0 < length digits
  pub not_long : length digits ≤ max_exponent_len
  pub value : exponent ≡ signed negative (number digits)

-- an optional exponent
pub data IsExponent : List ℕ → ℤ → Type 0 where
  no_exponent : IsExponent [] (pos 0)
  with_exponent : {bytes : List ℕ} {exponent : ℤ} → SpellsExponent bytes exponent → IsExponent bytes exponent

-- a sign, digits with an optional point, at least one of them, and an exponent
pub record SpellsDecimal (text : List ℕ) (negative : Bool) (whole behind : List ℕ) (exponent : ℤ) : Type 0 where
  pub sign : List ℕ
  pub fraction : List ℕ
  pub power : List ℕ
  pub text_is : text ≡ sign ++ (whole ++ (fraction ++ power))
  pub sign_is : IsSign sign negative
  pub whole_digits : AreDigits whole
  pub fraction_is : IsFraction fraction behind
  pub has_digit : 0 < length whole + length behind
  pub power_is : IsExponent power exponent

-- a sign, digits, a slash, and digits that aren't all 0
pub record SpellsRatio (text : List ℕ) (negative : Bool) (over under : List ℕ) : Type 0 where
  pub sign : List ℕ
  pub text_is : text ≡ sign ++ (over ++ (slash ∷ under))
  pub sign_is : IsSign sign negative
  pub over_digits : AreDigits over
  pub has_digit : 0 < length over
  pub under_digits : AreDigits under
  pub under_above_zero : 0 < number under

-- the text has these parts
abbrev pub SpellsParts : List ℕ → Number → Type 0
SpellsParts text (decimal negative whole behind exponent) = SpellsDecimal text negative whole behind exponent
SpellsParts text (ratio negative over under) = SpellsRatio text negative over under

-- the text is a number text with these parts
pub record Spells (text : List ℕ) (n : Number) : Type 0 where
  pub not_long : length text ≤ max_len
  pub parts : SpellsParts text n
