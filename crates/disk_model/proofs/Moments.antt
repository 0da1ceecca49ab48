-- How a run of calls goes on.
use Rattle.std.proofs.Common.{◌≡◌, inl, inr, ℕ, ◌≤◌, List, arith, refl, subst, sym}
use Rattle.std.proofs.lemmas.Bool.{cases_eq, cases_lt}
use Rattle.disk_model.specs.Disk.{Follows, Same, Torn, TornFrom}
use Rattle.disk_model.specs.Moments.{Passes, LeavesOnly}

-- a write of which nothing came is one that was cut short
torn_nothing : (at n : ℕ) (old : List ℕ) → Torn at n old old
torn_nothing at n old = record { before = refl; after = refl; no_shorter = omega arith; no_longer = omega arith }

module _ {D : Type 0} (moment : D → ℕ) (left : D → ℕ → List ℕ → Type 0) where
  -- before the first call
  pub starts : (old : D) (P : List ℕ → Type 0) → ((image : List ℕ) → left old (moment old) image → P image) → LeavesOnly moment left old old P
  starts old P here = record {
    later = omega arith;
    kept = λ t image le is. is;
    each = λ t image from to is. let same : t ≡ moment old = omega arith in here image (subst (λ (m : ℕ). left old m image) same is);
  }

  -- one call more, after which a crash leaves what has P
  pub goes_on : (old mid new : D) (P : List ℕ → Type 0) → LeavesOnly moment left old mid P → Passes (moment mid) (moment new) (left mid) (left new)
      → ((image : List ℕ) → left new (moment new) image → P image) → LeavesOnly moment left old new P
  goes_on old mid new P so_far time here = record {
    later = omega (arith, so_far.later, time.next);
    kept = λ t image le is. so_far.kept t image le (time.kept t image (omega (arith, le, so_far.later)) is);
    each = λ t image from to is. elim (cases_eq t (moment new)) [
      | inl same ↦ here image (subst (λ (m : ℕ). left new m image) same is)
      | inr other ↦ let before : t ≤ moment mid = omega (arith, to, other, time.next) in so_far.each t image from before (time.kept t image before is)
    ];
  }

  -- one run after another
  pub joins : (old mid new : D) (P : List ℕ → Type 0) → LeavesOnly moment left old mid P → LeavesOnly moment left mid new P → LeavesOnly moment left old new P
  joins old mid new P first second = record {
    later = omega (arith, first.later, second.later);
    kept = λ t image le is. first.kept t image le (second.kept t image (omega (arith, le, first.later)) is);
    each = λ t image from to is. elim (cases_lt t (moment mid)) [
      | inl before ↦ let le : t ≤ moment mid = omega (arith, before) in first.each t image from le (second.kept t image le is)
      | inr after ↦ second.each t image after to is
    ];
  }

  pub weaker : (old new : D) (P Q : List ℕ → Type 0) → ((image : List ℕ) → P image → Q image) → LeavesOnly moment left old new P → LeavesOnly moment left old new Q
  weaker old new P Q so run = record { later = run.later; kept = run.kept; each = λ t image from to is. so image (run.each t image from to is) }

  -- at the last of these moments too
  pub now_has : (old new : D) (P : List ℕ → Type 0) → LeavesOnly moment left old new P → (image : List ℕ) → left new (moment new) image → P image
  now_has old new P run image is = run.each (moment new) image run.later (omega arith) is

  -- a call that leaves no image but those of before
  pub same_images : (old mid new : D) (P : List ℕ → Type 0) → LeavesOnly moment left old mid P → Passes (moment mid) (moment new) (left mid) (left new)
      → Follows Same (left mid (moment mid)) (left new (moment new)) → LeavesOnly moment left old new P
  same_images old mid new P so_far time images =
      goes_on old mid new P so_far time (λ image is. let from = images image is in subst P (sym from.2) (now_has old mid P so_far from.0 from.1))

  -- a write
  pub torn_images : (old new : D) (at n : ℕ) → Passes (moment old) (moment new) (left old) (left new) → Follows (Torn at n) (left old (moment old)) (left new (moment new))
      → LeavesOnly moment left old new (TornFrom at n (left old (moment old)))
  torn_images old new at n time images =
      let P = TornFrom at n (left old (moment old)) in
      goes_on old old new P (starts old P (λ image is. (image, is, torn_nothing at n image))) time images
