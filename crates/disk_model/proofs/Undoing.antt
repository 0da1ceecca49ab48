-- How writes in memory are undone.
use Rattle.std.proofs.Common.{◌≡◌, ℕ, zero, suc, get_or, ◌+◌, ◌-◌, ◌≤◌, ◌<◌, List, [], ◌∷◌, ◌++◌, length, map, take, drop, refl, sym, ◌∙◌, ap, ap₂, subst, arith, min, append_assoc, length-append, length-drop, take-append-drop}
use Rattle.std.proofs.lemmas.List.{drop-drop, drop_more, length-take, length-take-le, map-append}
use Rattle.disk_model.specs.Disk.{overwritten, Torn}
use Rattle.disk_model.specs.Undoing.{AreUndos, IsUndo, range_of, synced_by, undone}
use Rattle.disk_model.specs.declared.undo.Undo.{Undo}
use Rattle.disk_model.proofs.Overwriting.{torn_by_write}

synced_more : (us : List Undo) (u : Undo) (bytes : List ℕ) → synced_by (us ++ u ∷ []) bytes ≡ synced_by us (undone u bytes)
synced_more [] u bytes = refl
synced_more (first ∷ us) u bytes = ap (undone first) (synced_more us u bytes)

undos_more : (us : List Undo) (u : Undo) (bytes : List ℕ) → IsUndo u bytes → AreUndos us (undone u bytes) → AreUndos (us ++ u ∷ []) bytes
undos_more [] u bytes is are = (is, tt)
undos_more (first ∷ us) u bytes is are = (subst (IsUndo first) (sym (synced_more us u bytes)) are.0, undos_more us u bytes is are.1)

module _ (u : Undo) (at : ℕ) (over old new : List ℕ) (le : at ≤ length old) (is_at : u.at ≡ at) (is_len : u.len ≡ length over) (is_was : u.was.items ≡ take (length over) (drop at old)) (written : new ≡ overwritten at over old) where
  torn : Torn at (length over) old new
  torn = torn_by_write at over old new le written

  covered : length u.was.items ≡ min (length over) (length old - at)
  covered = ap length is_was ∙ (length-take (length over) (drop at old) ∙ ap (min (length over)) (length-drop at old))

  longer : length new ≡ at + length over + (length old - (at + length over))
  longer =
      let both : length (take at old ++ over) ≡ at + length over = length-append (take at old) over ∙ ap (λ (n : ℕ). n + length over) (length-take-le at old le) in
      ap length written ∙ (length-append (take at old ++ over) (drop (at + length over) old)
      ∙ (ap (λ (n : ℕ). n + length (drop (at + length over) old)) both ∙ ap (λ (n : ℕ). at + length over + n) (length-drop (at + length over) old)))

  pub undoes : IsUndo u new
  undoes = record {
    inside = omega (arith, is_at, is_len, longer);
    covered = omega (arith, is_len, covered);
    longer = λ less. omega (arith, is_at, is_len, less, covered, longer);
  }

  pub undone_is : undone u new ≡ old
  undone_is =
      let len = length over in
      let back : drop (at + len) old ≡ drop len (drop at old) = sym (drop-drop len at old) in
      rw is_at (rw is_len (ap (λ (l : List ℕ). take at new ++ l ++ drop (at + len) new) is_was
      ∙ (ap (λ (l : List ℕ). l ++ take len (drop at old) ++ drop (at + len) new) torn.before
      ∙ (ap (λ (l : List ℕ). take at old ++ take len (drop at old) ++ l) (torn.after ∙ back)
      ∙ (append_assoc (take at old) (take len (drop at old)) (drop len (drop at old))
      ∙ (ap (λ (l : List ℕ). take at old ++ l) (take-append-drop len (drop at old)) ∙ take-append-drop at old))))))

  module _ (us : List Undo) where
    pub more_undos : AreUndos us old → AreUndos (us ++ u ∷ []) new
    more_undos are = undos_more us u new undoes (subst (AreUndos us) (sym undone_is) are)

    pub still_synced : synced_by (us ++ u ∷ []) new ≡ synced_by us old
    still_synced = synced_more us u new ∙ ap (synced_by us) undone_is

    pub more_ranges : map range_of (us ++ u ∷ []) ≡ map range_of us ++ (at, length over) ∷ []
    more_ranges = map-append range_of us (u ∷ []) ∙ ap₂ (λ (a b : ℕ). map range_of us ++ (a, b) ∷ []) is_at is_len

-- ---- one write after the other

undos_drop : (us : List Undo) (i : ℕ) (bytes : List ℕ) → AreUndos us bytes → AreUndos (drop i us) bytes
undos_drop us zero bytes are = are
undos_drop [] (suc i) bytes are = are
undos_drop (u ∷ us) (suc i) bytes are = undos_drop us i bytes are.1

-- the last one of those that are left
pub undo_at : (us : List Undo) (i n : ℕ) (u : Undo) (bytes old : List ℕ) → AreUndos us old → i ≡ n + 1 → i ≤ length us → u ≡ get_or us n u → bytes ≡ synced_by (drop i us) old → IsUndo u bytes
undo_at us i n u bytes old are next le is same =
    let here : drop n us ≡ u ∷ drop (n + 1) us = drop_more us n u (omega (arith, next, le)) ∙ ap (λ (v : Undo). v ∷ drop (n + 1) us) (sym is) in
    let rest : AreUndos (u ∷ drop (n + 1) us) old = subst (λ (l : List Undo). AreUndos l old) here (undos_drop us n old are) in
    subst (IsUndo u) (sym (same ∙ ap (λ (k : ℕ). synced_by (drop k us) old) next)) rest.0
