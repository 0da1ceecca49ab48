-- What a journal stands for, and what a crash leaves of it.
use Rattle.std.specs.Prelude.{ℕ, ◌+◌, ◌-◌, ◌^◌, ◌<◌, ◌≤◌, ◌≡◌, ◌⊎◌, List, [], ◌∷◌, ◌++◌, length, map, take, drop, vec_capacity, Option, None, Some, IfSome, IsSomeAnd}
use Rattle.std.specs.Option.{option_map}
use Rattle.journal.specs.Records.{front, AreShort, IsBegun, IsClosed, IsDoubtful, StandsFor}
use Rattle.journal.specs.declared.journal.Journal.{Journal}

-- the body in a buffer that has a record and the closed gate behind it
abbrev pub body_in : List ℕ → List ℕ
body_in buffer = take (length buffer - 5) (drop 4 buffer)

-- the bodies that were found at mounting, and those acknowledged since
abbrev pub bodies_of : {D : Type 0} → Journal D → List (List ℕ)
bodies_of j = j.found.value.items ++ map (λ added. body_in added.0.items) j.added.items

-- the body in doubt
abbrev pub doubt_of : {D : Type 0} → Journal D → Option (List ℕ)
doubt_of j = option_map (λ buffer. body_in buffer.value.items) j.doubt

-- The end is behind the bodies, and each image that a crash may leave now is theirs, with the one in
-- doubt behind any gate. The buffer has the room that was reserved, which is that of a body and 5 bytes around it.
pub record Stands {D : Type 0} (moment : D → ℕ) (left : D → ℕ → List ℕ → Type 0) (j : Journal D) : Type 0 where
  pub end : j.end ≡ length (front (bodies_of j))
  pub short : AreShort (bodies_of j)
  pub small : IfSome (doubt_of j) (λ body. length body < 256 ^ 4)
  pub room : j.reserved ≤ vec_capacity j.room
  pub least : j.reserved < 256 ^ 4 + 5
  pub images : (image : List ℕ) → left j.disk (moment j.disk) image → StandsFor (bodies_of j) (doubt_of j) image

-- What a crash may leave of these bodies and the one in doubt, at any moment of a journal's life, its opening too:
-- a file that is only begun, the bodies behind which the gate is closed, or the one in doubt behind any gate.
pub record Holds (bodies : List (List ℕ)) (doubt : Option (List ℕ)) (image : List ℕ) : Type 0 where
  pub short : AreShort bodies
  pub small : IfSome doubt (λ body. length body < 256 ^ 4)
  pub form : IsBegun bodies image ⊎ (IsClosed bodies image ⊎ IsSomeAnd doubt (λ body. IsDoubtful bodies body image))

-- An image while a body is added: as before, or with the new one in doubt.
abbrev pub WhileAdding : List (List ℕ) → Option (List ℕ) → List ℕ → List ℕ → Type 0
WhileAdding bodies doubt body image = Holds bodies doubt image ⊎ Holds bodies (Some body) image
