-- What a stop leaves is an image that a crash might leave.
use Rattle.std.proofs.Common.{◌≡◌, inl, inr, ℕ, zero, suc, ◌+◌, ◌-◌, ◌≤◌, ◌<◌, ◌||◌, Bool, true, false, List, [], ◌∷◌, ◌++◌, length, map, take, drop, max, Option, None, Some, refl, sym, ◌∙◌, ap, subst, arith, append_assoc, length-append, length-drop}
use Rattle.std.specs.Option.{is_some}
use Rattle.std.proofs.Math.Bool.{or-false, or_assoc}
use Rattle.std.proofs.lemmas.Bool.{cases_lt, false≢true}
use Rattle.std.proofs.lemmas.List.{drop_all, drop_at, length-take-le, take_at}
use Rattle.disk_model.specs.Disk.{Only, Torn}
use Rattle.disk_model.specs.Images.{Stored, IsImage, IsTornBy, filled_from, is_written, settled, stop_image}
use Rattle.disk_model.specs.Memory.{DiskState, left_of, moment_of, restarted, restarted_by}
use Rattle.disk_model.specs.Undoing.{AreUndos, IsUndo, range_of, stored_as, synced_by, undone}
use Rattle.disk_model.specs.declared.image.Image.{Image}
use Rattle.disk_model.specs.declared.image.Image.TheVariants.{Old, New, Fill}
use Rattle.disk_model.specs.declared.undo.Undo.{Undo}
use Rattle.disk_model.specs.ImageLaws.{left_now}
use Rattle.disk_model.proofs.Filling.{none_filled, outside_before, outside_behind, same_filled, torn_filled}
use Rattle.disk_model.proofs.ImageSteps.{only_now, torn_nothing}

-- ---- a write, from what stood there before it

module _ (u : Undo) (bytes : List ℕ) (is : IsUndo u bytes) where
  front_len : length (take u.at bytes) ≡ u.at
  front_len = length-take-le u.at bytes (omega (arith, is.inside))

  both_len : length (take u.at bytes ++ u.was.items) ≡ u.at + length u.was.items
  both_len = length-append (take u.at bytes) u.was.items ∙ ap (λ (n : ℕ). n + length u.was.items) front_len

  undone_len : length (undone u bytes) ≡ u.at + length u.was.items + (length bytes - (u.at + u.len))
  undone_len =
      length-append (take u.at bytes ++ u.was.items) (drop (u.at + u.len) bytes)
      ∙ (ap (λ (n : ℕ). n + length (drop (u.at + u.len) bytes)) both_len ∙ ap (λ (n : ℕ). u.at + length u.was.items + n) (length-drop (u.at + u.len) bytes))

  behind : drop (u.at + u.len) bytes ≡ drop (u.at + u.len) (undone u bytes)
  behind = elim (cases_lt (length u.was.items) u.len) [
    | inl less ↦
        let end = is.longer less in
        drop_all (u.at + u.len) bytes (omega (arith, end)) ∙ sym (drop_all (u.at + u.len) (undone u bytes) (omega (arith, end, less, undone_len)))
    | inr more ↦ sym (drop_at (take u.at bytes ++ u.was.items) (drop (u.at + u.len) bytes) (u.at + u.len) (omega (arith, both_len, more, is.covered)))
  ]

  torn_undo : Torn u.at u.len (undone u bytes) bytes
  torn_undo = record {
    before = sym (ap (take u.at) (append_assoc (take u.at bytes) u.was.items (drop (u.at + u.len) bytes)) ∙ take_at (take u.at bytes) (u.was.items ++ drop (u.at + u.len) bytes) u.at front_len);
    after = behind;
    no_shorter = omega (arith, undone_len, is.inside, is.covered);
    no_longer = elim (cases_lt (length u.was.items) u.len) [
      | inl less ↦ let end = is.longer less in omega (arith, end)
      | inr more ↦ omega (arith, undone_len, is.inside, more)
    ];
  }

-- ---- the images

-- nothing of the writes
old_torn : (us : List Undo) (bytes : List ℕ) (image : List ℕ) → IsTornBy (map range_of us) image image
old_torn [] bytes image = refl
old_torn (u ∷ us) bytes image = (image, torn_nothing u.at u.len image, old_torn us bytes image)

-- a byte in each place of the writes, from a list in which some places are filled already
filled_torn : (us : List Undo) (bytes : List ℕ) (byte : ℕ) (here : ℕ → Bool) → AreUndos us bytes
    → IsTornBy (map range_of us) (filled_from 0 here byte (synced_by us bytes)) (filled_from 0 (λ i. here i || is_written (map range_of us) i) byte bytes)
filled_torn [] bytes byte here are = same_filled (λ i. here i || false) here byte 0 bytes (λ i from to. or-false (here i))
filled_torn (u ∷ us) bytes byte here are =
    let one = is_written (range_of u ∷ []) in
    let there : ℕ → Bool = λ i. here i || one i in
    let more : ℕ → Bool = λ i. here i || is_written (map range_of (u ∷ us)) i in
    let before : (i : ℕ) → i < u.at → here i ≡ there i = λ i less. sym (ap (λ (b : Bool). here i || b) (outside_before u.at u.len i less) ∙ or-false (here i)) in
    let past : (i : ℕ) → u.at + u.len ≤ i → here i ≡ there i = λ i le. sym (ap (λ (b : Bool). here i || b) (outside_behind u.at u.len i le) ∙ or-false (here i)) in
    let same : (i : ℕ) → (there i || is_written (map range_of us) i) ≡ more i = λ i. or_assoc (here i) (one i) (is_written (map range_of us) i) ∙ ap (λ (b : Bool). here i || b) (one_more_write u us i) in (
      filled_from 0 there byte (synced_by us bytes),
      torn_filled here there u.at u.len byte (undone u (synced_by us bytes)) (synced_by us bytes) before past (torn_undo u (synced_by us bytes) are.0),
      subst (IsTornBy (map range_of us) (filled_from 0 there byte (synced_by us bytes))) (same_filled (λ i. there i || is_written (map range_of us) i) more byte 0 bytes (λ i from to. same i)) (filled_torn us bytes byte there are.1),
    )
  where
    one_more_write : (u : Undo) (us : List Undo) (i : ℕ) → (is_written (range_of u ∷ []) i || is_written (map range_of us) i) ≡ is_written (map range_of (u ∷ us)) i
    one_more_write u us i = ap (λ (b : Bool). b || is_written (map range_of us) i) (or-false _)

stop_torn : (image : Image) (us : List Undo) (bytes : List ℕ) → AreUndos us bytes → IsImage (stored_as bytes us) (stop_image image (stored_as bytes us))
stop_torn Old us bytes are = inr (old_torn us bytes (synced_by us bytes))
stop_torn New us bytes are = inl refl
stop_torn (Fill byte) us bytes are =
    inr (subst (λ (l : List ℕ). IsTornBy (map range_of us) l (filled_from 0 (is_written (map range_of us)) byte bytes)) (none_filled (λ i. false) byte 0 (synced_by us bytes) (λ i from to. refl)) (filled_torn us bytes byte (λ i. false) are))

pub stop_left : (d : DiskState) (us : List Undo) (bytes : List ℕ) → stored_as bytes us ≡ d.stored → AreUndos us bytes → (image : Image) → left_of d (moment_of d) (stop_image image d.stored)
stop_left d us bytes is are image = left_now d.past d.stored (stop_image image d.stored) (subst (λ (s : Stored). IsImage s (stop_image image s)) is (stop_torn image us bytes are))

-- ---- a restart

pub restart_left : (d : DiskState) → ((image : Image) → left_of d (moment_of d) (stop_image image d.stored)) → left_of d (moment_of d) (restarted d).stored.bytes
restart_left d stops = by d.stopped where
  by : (stopped : Option Image) → left_of d (moment_of d) (restarted_by stopped d).stored.bytes
  by None = left_now d.past d.stored d.stored.bytes (inl refl)
  by (Some image) = stops image

pub restart_only : (d : DiskState) → is_some d.stopped ≡ true → Only (restarted d).stored.bytes (left_of (restarted d) (moment_of (restarted d)))
restart_only d stopped = by d.stopped stopped where
  by : (stopped : Option Image) → is_some stopped ≡ true → Only (restarted_by stopped d).stored.bytes (left_of (restarted_by stopped d) (moment_of (restarted_by stopped d)))
  by None is = absurd (false≢true is)
  by (Some image) is = only_now (restarted_by (Some image) d) (stop_image image d.stored) refl
