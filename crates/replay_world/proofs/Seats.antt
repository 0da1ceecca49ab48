-- Sessions by their seats.
use Rattle.std.proofs.Common.{◌≡◌, ℕ, zero, suc, ◌<◌, true, false, List, [], ◌∷◌, length, Option, Some, None, refl, ap, sym, arith, get_or}
use Rattle.std.specs.Prelude.{is_some, position, remove, slice_set}
use Rattle.std.proofs.lemmas.Bool.{false≢true}
use Rattle.std.proofs.lemmas.List.Quantifiers.{position-Some}
use Rattle.hub_core.proofs.Finding.{find_at, find_nowhere}
use Rattle.session.specs.Session.{Session}
use Rattle.replay_world.specs.World.{session_at, sits_at, with_session, without_seat}

module _ (seat : ℕ) where
  without_at : (xs : List Session) (n : ℕ) (d : Session) → n < length xs → sits_at seat (get_or xs n d) ≡ true → ((k : ℕ) → k < n → sits_at seat (get_or xs k d) ≡ false) → without_seat seat xs ≡ remove xs n
  without_at [] n d there is before = absurd (omega (arith, there))
  without_at (x ∷ xs) zero d there is before = rw is refl
  without_at (x ∷ xs) (suc n) d there is before =
      let off : sits_at seat x ≡ false = before 0 (omega arith) in
      rw off (ap (λ (l : List Session). x ∷ l) (without_at xs n d (omega (arith, there)) is (λ k below. before (suc k) (omega (arith, below)))))

  with_at : (new : Session) (xs : List Session) (n : ℕ) (d : Session) → n < length xs → sits_at seat (get_or xs n d) ≡ true → ((k : ℕ) → k < n → sits_at seat (get_or xs k d) ≡ false) → with_session seat new xs ≡ slice_set xs n new
  with_at new [] n d there is before = absurd (omega (arith, there))
  with_at new (x ∷ xs) zero d there is before = rw is refl
  with_at new (x ∷ xs) (suc n) d there is before =
      let off : sits_at seat x ≡ false = before 0 (omega arith) in
      rw off (ap (λ (l : List Session). x ∷ l) (with_at new xs n d (omega (arith, there)) is (λ k below. before (suc k) (omega (arith, below)))))

  -- the place that a search finds is that of the seat's session
  pub without_place : (xs : List Session) (n : ℕ) (d : Session) → position (sits_at seat) xs ≡ Some n → without_seat seat xs ≡ remove xs n
  without_place xs n d is = let at = position-Some (sits_at seat) xs n d is in without_at xs n d at.0 at.1 at.2

  pub with_place : (new : Session) (xs : List Session) (n : ℕ) (d : Session) → position (sits_at seat) xs ≡ Some n → with_session seat new xs ≡ slice_set xs n new
  with_place new xs n d is = let at = position-Some (sits_at seat) xs n d is in with_at new xs n d at.0 at.1 at.2

  pub session_place : (xs : List Session) (n : ℕ) (d : Session) → position (sits_at seat) xs ≡ Some n → session_at seat xs ≡ Some (get_or xs n d)
  session_place xs n d is = find_at (sits_at seat) xs n d is

  pub no_session : (xs : List Session) → position (sits_at seat) xs ≡ None → session_at seat xs ≡ None
  no_session xs is = find_nowhere (sits_at seat) xs is

  -- a seat is taken where a search finds a place, and free where it finds none
  pub taken_place : (xs : List Session) (d : Session) (found : Option ℕ) → position (sits_at seat) xs ≡ found → is_some found ≡ true → is_some (session_at seat xs) ≡ true
  taken_place xs d None is some = absurd (false≢true some)
  taken_place xs d (Some n) is some = ap is_some (session_place xs n d is)

  pub free_place : (xs : List Session) (found : Option ℕ) → position (sits_at seat) xs ≡ found → is_some found ≡ false → session_at seat xs ≡ None
  free_place xs None is none = no_session xs is
  free_place xs (Some n) is none = absurd (false≢true (sym none))

  -- whose session a search finds
  pub session_there : (xs : List Session) (n : ℕ) → position (sits_at seat) xs ≡ Some n → (s : Session) × (session_at seat xs ≡ Some s)
  session_there [] n is = absurd (cc)
  session_there (x ∷ xs) n is = (get_or (x ∷ xs) n x, session_place (x ∷ xs) n x is)
