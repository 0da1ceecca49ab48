-- What an input is made of.
use Rattle.std.specs.Prelude.{◌≡◌, ℕ, List, ◌∷◌, ◌++◌, length, codes, Some}
use Rattle.base_names.specs.Decimal.{number_of}

-- Digits and a line feed, a block of as many bytes as the digits say, and behind it the text of a certificate. Zeros may lead the
-- digits, and however many there are, the number is theirs.
pub record IsCounted (bytes block text : List ℕ) : Type 0 where
  pub digits : List ℕ
  pub counts : number_of digits ≡ Some (length block)
  pub bytes_are : bytes ≡ digits ++ 10 ∷ (block ++ text)

-- the word MODEL, one space, and the counted block with the text
pub record HasParts (input block text : List ℕ) : Type 0 where
  pub bytes : List ℕ
  pub input_is : input ≡ codes "MODEL " ++ bytes
  pub counted : IsCounted bytes block text

abbrev pub HasNoParts : List ℕ → Type 0
HasNoParts input = (block text : List ℕ) → HasParts input block text → ⊥
