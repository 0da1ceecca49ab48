-- What is kept on the stack leads back to the bounds that stood before.
use Rattle.std.proofs.Common.{◌≡◌, ◌∙◌, refl, sym, ap, ap₂, subst, ℕ, zero, suc, ◌<◌, List, [], ◌∷◌, ◌++◌, length, reverse, slice_index_or, slice_set}
use Rattle.std.proofs.Math.ListN.{length-set}
use Rattle.std.proofs.lemmas.List.{reverse-append}
use Rattle.solve_defs.specs.Bounds.{Bounds}
use Rattle.cert_check.specs.Stack.{AllWithin, waiting}
use Rattle.cert_check.specs.declared.cases.Entry.{Entry}
use Rattle.cert_check.specs.declared.cases.Kept.{Kept}
use Rattle.cert_check.specs.declared.cases.Kept.TheVariants.{Before, Waiting}

set_back : (bounds : List Bounds) (place : ℕ) (b d : Bounds) → slice_set (slice_set bounds place b) place (slice_index_or bounds place d) ≡ bounds
set_back [] place b d = refl
set_back (x ∷ bounds) zero b d = refl
set_back (x ∷ bounds) (suc place) b d = ap (λ (bs : List Bounds). x ∷ bs) (set_back bounds place b d)

pub top_first : (kept : List Kept) (top : Kept) → reverse (kept ++ top ∷ []) ≡ top ∷ reverse kept
top_first kept top = reverse-append kept (top ∷ [])

-- ---- a cut

pub cut_waits : (bounds : List Bounds) (kept : List Kept) (place : ℕ) (b d own : Bounds) → own ≡ slice_index_or bounds place d
    → waiting (slice_set bounds place b) (reverse (kept ++ Before place own ∷ [])) ≡ waiting bounds (reverse kept)
cut_waits bounds kept place b d own is =
    ap (waiting (slice_set bounds place b)) (top_first kept (Before place own))
    ∙ ap (λ (x : Bounds). waiting (slice_set (slice_set bounds place b) place x) (reverse kept)) is
    ∙ ap (λ (bs : List Bounds). waiting bs (reverse kept)) (set_back bounds place b d)

pub cut_within : (bounds : List Bounds) (kept : List Kept) (place : ℕ) (b own : Bounds) → place < length bounds → AllWithin (length bounds) (reverse kept)
    → AllWithin (length (slice_set bounds place b)) (reverse (kept ++ Before place own ∷ []))
cut_within bounds kept place b own within all =
    subst (AllWithin (length (slice_set bounds place b))) (sym (top_first kept (Before place own)))
    (subst (λ n. (place < n) × AllWithin n (reverse kept)) (sym (length-set bounds place b)) (within, all))

-- ---- a case that waits

pub one_waits : (bounds : List Bounds) (kept : List Kept) (entry : Entry)
    → waiting bounds (reverse (kept ++ Waiting entry ∷ [])) ≡ record { bounds = bounds; entry = entry } ∷ waiting bounds (reverse kept)
one_waits bounds kept entry = ap (waiting bounds) (top_first kept (Waiting entry))

pub wait_within : (n : ℕ) (kept : List Kept) (entry : Entry) → AllWithin n (reverse kept) → AllWithin n (reverse (kept ++ Waiting entry ∷ []))
wait_within n kept entry all = subst (AllWithin n) (sym (top_first kept (Waiting entry))) (tt, all)

-- ---- the top is taken

pub popped : (bounds : List Bounds) (all kept : List Kept) (top : Kept) → all ≡ kept ++ top ∷ [] → waiting bounds (reverse all) ≡ waiting bounds (top ∷ reverse kept)
popped bounds all kept top is = ap (λ (ks : List Kept). waiting bounds (reverse ks)) is ∙ ap (waiting bounds) (top_first kept top)

pub popped_within : (n : ℕ) (all kept : List Kept) (top : Kept) → all ≡ kept ++ top ∷ [] → AllWithin n (reverse all) → AllWithin n (top ∷ reverse kept)
popped_within n all kept top is within = subst (AllWithin n) (ap reverse is ∙ top_first kept top) within
