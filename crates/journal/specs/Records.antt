-- What a file of records stands for.
use Rattle.std.specs.Prelude.{ℕ, zero, suc, ◌+◌, ◌*◌, ◌^◌, ◌<◌, ◌≤◌, ◌==◌, ◌≡◌, ◌⊎◌, List, [], ◌∷◌, ◌++◌, length, drop, codes, if◌then◌else◌, Option, None, Some}
use Rattle.std.specs.Int.{bytes_high_first}

-- Where a reading stands: at a gate; in a length, with so many bytes missing behind the next one, and the
-- number so far; in a body, with so many missing, and what was read of it.
pub data Place : Type 0 where
  AtGate : Place
  InLength : (missing number : ℕ) → Place
  InBody : (missing : ℕ) (body : List ℕ) → Place

-- The bodies that end in these bytes. A body ends where the byte behind it, the next gate, is there.
abbrev pub bodies_from : Place → List ℕ → List (List ℕ)
bodies_from place [] = []
bodies_from AtGate (byte ∷ bytes) = if byte == 1 then bodies_from (InLength 3 0) bytes else []
bodies_from (InLength zero number) (byte ∷ bytes) = bodies_from (InBody (number * 256 + byte) []) bytes
bodies_from (InLength (suc missing) number) (byte ∷ bytes) = bodies_from (InLength missing (number * 256 + byte)) bytes
bodies_from (InBody zero body) (byte ∷ bytes) = body ∷ (if byte == 1 then bodies_from (InLength 3 0) bytes else [])
bodies_from (InBody (suc missing) body) (byte ∷ bytes) = bodies_from (InBody missing (body ++ byte ∷ [])) bytes

-- the bodies of a file, behind its header
abbrev pub records : List ℕ → List (List ℕ)
records file = bodies_from AtGate (drop 8 file)

abbrev pub header : List ℕ
header = codes "GCSJ0001"

-- a body behind its length
abbrev pub record_of : List ℕ → List ℕ
record_of body = bytes_high_first 4 (length body) ++ body

-- open records of these bodies
abbrev pub opened : List (List ℕ) → List ℕ
opened [] = []
opened (body ∷ bodies) = 1 ∷ (record_of body ++ opened bodies)

abbrev pub front : List (List ℕ) → List ℕ
front bodies = header ++ opened bodies

-- the place of the first gate at which the reading of a file stops
abbrev pub end_of : List ℕ → ℕ
end_of file = length (front (records file))

-- each length can be written
abbrev pub AreShort : List (List ℕ) → Type 0
AreShort [] = Unit {0}
AreShort (body ∷ bodies) = (length body < 256 ^ 4) × AreShort bodies

-- ---- what an image is

-- the bodies, and then a closed gate
abbrev pub IsClosed : List (List ℕ) → List ℕ → Type 0
IsClosed bodies image = (rest : List ℕ) × (image ≡ front bodies ++ 0 ∷ rest)

-- the bodies, any gate, and one more record before a closed gate
abbrev pub IsDoubtful : List (List ℕ) → List ℕ → List ℕ → Type 0
IsDoubtful bodies body image = (gate : ℕ) × (rest : List ℕ) × (image ≡ front bodies ++ gate ∷ (record_of body ++ 0 ∷ rest))

-- the bodies, and none or one in doubt
abbrev pub StandsFor : List (List ℕ) → Option (List ℕ) → List ℕ → Type 0
StandsFor bodies None image = IsClosed bodies image
StandsFor bodies (Some body) image = IsDoubtful bodies body image

-- a file that is new, or has its header and one byte behind it: it has no body
abbrev pub IsBegun : List (List ℕ) → List ℕ → Type 0
IsBegun bodies image = (bodies ≡ []) × ((length image ≤ 8) ⊎ ((gate : ℕ) × (image ≡ header ++ gate ∷ [])))
