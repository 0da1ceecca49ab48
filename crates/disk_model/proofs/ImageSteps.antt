-- What a call does to the images of a file in memory.
use Rattle.std.proofs.Common.{◌≡◌, inl, inr, ℕ, zero, suc, ◌+◌, ◌≤◌, List, [], ◌∷◌, ◌++◌, length, refl, sym, ◌∙◌, ap, subst, arith, length-append}
use Rattle.disk_model.specs.Disk.{Torn, Follows, Same, Only}
use Rattle.disk_model.specs.Images.{Stored, IsTornBy, IsImage, left_at, settled}
use Rattle.disk_model.specs.Memory.{DiskState, left_of, moment_of, wrote}
use Rattle.disk_model.specs.Moments.{Passes}
use Rattle.disk_model.proofs.Overwriting.{torn_by_write}

-- ---- moments

here_is : (past : List Stored) (now : Stored) (image : List ℕ) → left_at past now (length past) image ≡ IsImage now image
here_is [] now image = refl
here_is (before ∷ past) now image = here_is past now image

-- earlier ones are as they were, whatever is stored now
earlier : (past : List Stored) (before now : Stored) (t : ℕ) (image : List ℕ) → t ≤ length past → left_at (past ++ before ∷ []) now t image ≡ left_at past before t image
earlier [] before now zero image le = refl
earlier [] before now (suc t) image le = absurd (omega arith)
earlier (first ∷ past) before now zero image le = refl
earlier (first ∷ past) before now (suc t) image le = earlier past before now t image (omega arith)

module _ (old new : DiskState) (past : new.past ≡ old.past ++ old.stored ∷ []) where
  pub passes : Passes (moment_of old) (moment_of new) (left_of old) (left_of new)
  passes = rw past (record {
    next = length-append old.past (old.stored ∷ []);
    kept = λ t image le was. subst (λ (T : Type 0). T) (earlier old.past old.stored new.stored t image le) was;
    keeps = λ t image le was. subst (λ (T : Type 0). T) (sym (earlier old.past old.stored new.stored t image le)) was;
  })

-- a step of the images
follows : (step : List ℕ → List ℕ → Type 0) (old new : DiskState) → Follows step (IsImage old.stored) (IsImage new.stored) → Follows step (left_of old (moment_of old)) (left_of new (moment_of new))
follows step old new so image is =
    let from = so image (subst (λ (T : Type 0). T) (here_is new.past new.stored image) is) in
    (from.0, subst (λ (T : Type 0). T) (sym (here_is old.past old.stored from.0)) from.1, from.2)

-- ---- a call that changes nothing

pub stays : (old new : DiskState) → new.stored ≡ old.stored → Follows Same (left_of old (moment_of old)) (left_of new (moment_of new))
stays old new same = follows Same old new (λ image is. (image, subst (λ (s : Stored). IsImage s image) same is, refl))

-- ---- a write

-- the last write tears one of the images before it
torn_last : (written : List (ℕ × ℕ)) (write : ℕ × ℕ) (old image : List ℕ) → IsTornBy (written ++ write ∷ []) old image → (mid : List ℕ) × IsTornBy written old mid × Torn write.0 write.1 mid image
torn_last [] write old image torn = (old, refl, subst (Torn write.0 write.1 old) (sym torn.2) torn.1)
torn_last (first ∷ written) write old image torn = let from = torn_last written write torn.0 image torn.2 in (from.0, (torn.0, torn.1, from.1), from.2)

wrote_images : (s : Stored) (at : ℕ) (bytes : List ℕ) → at ≤ length s.bytes → Follows (Torn at (length bytes)) (IsImage s) (IsImage (wrote at bytes s))
wrote_images s at bytes le image (inl is) = (s.bytes, inl refl, torn_by_write at bytes s.bytes image le is)
wrote_images s at bytes le image (inr torn) = let from = torn_last s.written (at, length bytes) s.synced image torn in (from.0, inr from.1, from.2)

pub writes : (old new : DiskState) (at : ℕ) (bytes : List ℕ) → at ≤ length old.stored.bytes → new.stored ≡ wrote at bytes old.stored → Follows (Torn at (length bytes)) (left_of old (moment_of old)) (left_of new (moment_of new))
writes old new at bytes le is = follows (Torn at (length bytes)) old new (subst (λ (s : Stored). Follows (Torn at (length bytes)) (IsImage old.stored) (IsImage s)) (sym is) (wrote_images old.stored at bytes le))

pub torn_nothing : (at n : ℕ) (old : List ℕ) → Torn at n old old
torn_nothing at n old = record { before = refl; after = refl; no_shorter = omega arith; no_longer = omega arith }

-- one that wrote nothing
pub writes_not : (old new : DiskState) (at n : ℕ) → new.stored ≡ old.stored → Follows (Torn at n) (left_of old (moment_of old)) (left_of new (moment_of new))
writes_not old new at n same = follows (Torn at n) old new (λ image is. (image, subst (λ (s : Stored). IsImage s image) same is, torn_nothing at n image))

-- ---- a sync

only_settled : (bytes image : List ℕ) → IsImage (settled bytes) image → image ≡ bytes
only_settled bytes image (inl is) = is
only_settled bytes image (inr is) = is

pub synced : (old new : DiskState) → new.stored ≡ settled old.stored.bytes → Only old.stored.bytes (left_of new (moment_of new))
synced old new is image left =
    only_settled old.stored.bytes image (subst (λ (s : Stored). IsImage s image) is (subst (λ (T : Type 0). T) (here_is new.past new.stored image) left))

-- a disk without writes since its sync
pub only_now : (d : DiskState) (bytes : List ℕ) → d.stored ≡ settled bytes → Only bytes (left_of d (moment_of d))
only_now d bytes is image left = only_settled bytes image (subst (λ (s : Stored). IsImage s image) is (subst (λ (T : Type 0). T) (here_is d.past d.stored image) left))

pub syncs : (old new : DiskState) → new.stored ≡ settled old.stored.bytes → Follows Same (left_of old (moment_of old)) (left_of new (moment_of new))
syncs old new is = follows Same old new (λ image here. (old.stored.bytes, inl refl, only_settled old.stored.bytes image (subst (λ (s : Stored). IsImage s image) is here)))
