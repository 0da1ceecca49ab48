-- What a line of an input is, and how much of one is read.
use Rattle.std.specs.Prelude.{ℕ, ◌+◌, ◌<◌, ◌≡◌, Bool, false, ◌==◌, nat_lt, List, [], ◌∷◌, ◌++◌, length, take, drop, if◌then◌else◌}
use Rattle.std.specs.List.{list_any}
use Rattle.base_io.specs.declared.limits.TheConstants.{LINE_LIMIT}

-- whether one of the bytes is a line feed
abbrev pub has_line_feed : List ℕ → Bool
has_line_feed bytes = list_any (λ byte. byte == 10) bytes

-- the line without a carriage return at its end
abbrev pub without_return : List ℕ → List ℕ
without_return [] = []
without_return (byte ∷ []) = if byte == 13 then [] else byte ∷ []
without_return (byte ∷ next ∷ bytes) = byte ∷ without_return (next ∷ bytes)

-- Whether a line of which so much has come is too long, whatever comes next: a carriage return at its
-- end may still be dropped.
abbrev pub is_too_long : List ℕ → Bool
is_too_long line = nat_lt LINE_LIMIT (length (without_return line))

-- the first line feed stands at this place
pub record IsEndAt (place : ℕ) (bytes : List ℕ) : Type 0 where
  pub below : place < length bytes
  pub cut : bytes ≡ take place bytes ++ 10 ∷ drop (place + 1) bytes
  pub first : has_line_feed (take place bytes) ≡ false
