-- What a reader of lines is seen as.
use Rattle.std.specs.Prelude.{ℕ, Bool, List, Option}

pub record Held : Type 0 where
  -- the bytes that it has taken from the source and not given yet
  pub bytes : List ℕ
  -- whether the source has said that it is at its end
  pub ended : Bool
  -- how many bytes it has given; line feeds and dropped carriage returns count
  pub given : ℕ
  -- a line that was given back, and comes before the bytes
  pub waiting : Option (List ℕ)
