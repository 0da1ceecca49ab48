-- Which texts name a variable or a row of a model, and which tag a variable.
use Rattle.std.specs.Prelude.{ℕ, Bool, false, not, ◌&&◌, ◌||◌, List, [], ◌∷◌, length, ◌==◌, nat_le, nat_lt, codes, bytes_eq, map, IsTrue}
use Rattle.std.specs.Char.{is_ascii_digit, to_ascii_lowercase}
use Rattle.std.specs.List.{list_all, list_any}
use Rattle.model_data.specs.Words.{reserved_words}
use Rattle.model_data.specs.declared.limits.TheConstants.{MAX_NAME_LEN, MAX_TAG_LEN}

-- a byte that can be seen: no white space, no control byte, none past ASCII
abbrev pub is_visible : ℕ → Bool
is_visible byte = nat_le 0x21 byte && nat_le byte 0x7E

-- one of the bytes
abbrev pub is_one_of : List ℕ → ℕ → Bool
is_one_of bytes byte = list_any (λ b. b == byte) bytes

-- A name is one token of a model's text: a backslash begins a comment there, and a colon ends a label.
abbrev pub is_name_byte : ℕ → Bool
is_name_byte byte = is_visible byte && not (is_one_of (codes "\\:") byte)

-- A number begins with a digit, a point or a sign. The others begin what is no name or has a meaning of its own.
abbrev pub begins_name : ℕ → Bool
begins_name byte = not (is_ascii_digit byte || is_one_of (codes ".+-[*^<>=()],") byte)

-- a word with a meaning of its own, in letters of any case
abbrev pub is_reserved : List ℕ → Bool
is_reserved text = list_any (λ word. bytes_eq word (map to_ascii_lowercase text)) reserved_words

abbrev pub begins_as_name : List ℕ → Bool
begins_as_name [] = false
begins_as_name (byte ∷ _) = begins_name byte

-- a name of a variable or of a row
unfoldable pub is_name : List ℕ → Bool
is_name text = begins_as_name text && list_all is_name_byte text && nat_le (length text) MAX_NAME_LEN && not (is_reserved text)

abbrev pub IsName : List ℕ → Type 0
IsName text = IsTrue (is_name text)

-- a tag of a variable
unfoldable pub is_tag : List ℕ → Bool
is_tag text = nat_lt 0 (length text) && list_all is_visible text && nat_le (length text) MAX_TAG_LEN

abbrev pub IsTag : List ℕ → Type 0
IsTag text = IsTrue (is_tag text)
