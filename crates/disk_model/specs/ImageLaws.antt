-- Laws of the images of a file in memory, which the implementation of its trait cites.
use Rattle.std.specs.Prelude.{ℕ, ◌≡◌, List, [], ◌∷◌, length, Some}
use Rattle.std.proofs.Common.{inl, sym}
use Rattle.std.proofs.lemmas.Option.{same_Some}
use Rattle.disk_model.specs.Images.{Stored, IsImage, left_at}

-- at the moment of now
pub left_now : (past : List Stored) (now : Stored) (image : List ℕ) → IsImage now image → left_at past now (length past) image
left_now [] now image is = is
left_now (before ∷ past) now image is = left_now past now image is

-- what a read gives now
pub left_seen : (past : List Stored) (now : Stored) (image : List ℕ) → Some now.bytes ≡ Some image → left_at past now (length past) image
left_seen past now image is = left_now past now image (inl (sym (same_Some now.bytes image is)))
