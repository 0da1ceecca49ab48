-- How the bytes behind a header are read, in the format's own words.
use Rattle.std.specs.Prelude.{ℕ, ◌^◌, ◌<◌, ◌≡◌, ◌≢◌, List, [], ◌∷◌, ◌++◌, length}
use Rattle.journal.specs.Records.{AreShort, opened, record_of}

-- No open gate stands here with a whole record and one more byte behind it.
abbrev pub StopsHere : List ℕ → Type 0
StopsHere bytes = (body after : List ℕ) → length body < 256 ^ 4 → bytes ≡ 1 ∷ (record_of body ++ after) → after ≡ []

-- The bytes are open records of these bodies, with at least one more byte behind the last of them, and there the reading stops.
pub record AreRead (bodies : List (List ℕ)) (bytes : List ℕ) : Type 0 where
  pub rest : List ℕ
  pub split : bytes ≡ opened bodies ++ rest
  pub short : AreShort bodies
  pub more : bodies ≢ [] → rest ≢ []
  pub stops : StopsHere rest
