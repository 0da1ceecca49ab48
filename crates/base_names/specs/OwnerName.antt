-- Which bytes name an owner.
use Rattle.std.specs.Prelude.{ℕ, ◌-◌, Bool, true, ◌||◌, ◌&&◌, ◌==◌, ◌≡◌, nat_le, List, ◌++◌, length, take, replicate}
use Rattle.std.specs.Char.{is_ascii_digit, is_ascii_lowercase}
use Rattle.std.specs.List.{list_all}

-- the most bytes that a name may have
abbrev pub most_bytes : ℕ
most_bytes = 32

-- a small letter, a digit or an underscore
abbrev pub is_owner_byte : ℕ → Bool
is_owner_byte byte = is_ascii_lowercase byte || is_ascii_digit byte || (byte == 95)

-- 1 to 32 of them, and nothing else
abbrev pub is_owner_name : List ℕ → Bool
is_owner_name text = (nat_le 1 (length text) && nat_le (length text) most_bytes) && list_all is_owner_byte text

abbrev pub IsOwnerName : List ℕ → Type 0
IsOwnerName text = is_owner_name text ≡ true

-- How a name stands in its array: at its front, with zeros after its end.
pub record IsKept (bytes : List ℕ) (len : ℕ) : Type 0 where
  pub whole : length (take len bytes) ≡ len
  pub name : IsOwnerName (take len bytes)
  pub filled : bytes ≡ take len bytes ++ replicate (most_bytes - len) 0
