-- Writes torn one after the other leave what the disk model says place by place, and each of that.
use Rattle.std.proofs.Common.{◌≡◌, ◌⊎◌, inl, inr, ℕ, ◌+◌, ◌-◌, ◌≤◌, ◌<◌, ◌||◌, max, min, suc, Bool, true, false, List, [], ◌∷◌, ◌++◌, length, take, drop, get_or, refl, sym, ◌∙◌, ap, ap₂, arith, append_assoc, length-append, length-drop}
use Rattle.std.proofs.lemmas.Bool.{cases_lt, false≢true}
use Rattle.std.proofs.lemmas.List.{drop_all, drop_at, get_or_append_left, get_or-append_right, get_or-drop, get_or-take, length-take, take_all, take_at}
use Rattle.disk_model.specs.Disk.{Torn}
use Rattle.disk_model.specs.Images.{IsTornBy, is_written}
use Rattle.disk_model.specs.Spoiled.{AreInside, IsSpoiled, greatest}
use Rattle.disk_model.proofs.Filling.{inside_it, outside_before, outside_behind}
use Rattle.disk_model.proofs.ImageSteps.{torn_nothing}

greatest_least : (len : ℕ) (written : List (ℕ × ℕ)) → len ≤ greatest len written
greatest_least len [] = omega arith
greatest_least len (w ∷ written) = let more = greatest_least (max len (w.0 + w.1)) written in omega (arith, more)

greatest_more : (a b : ℕ) (written : List (ℕ × ℕ)) → a ≤ b → greatest a written ≤ greatest b written
greatest_more a b [] le = le
greatest_more a b (w ∷ written) le = greatest_more (max a (w.0 + w.1)) (max b (w.0 + w.1)) written (omega (arith, le))

-- ---- places that a write didn't reach

neither : (a b : Bool) → (a || b) ≡ false → (a ≡ false) × (b ≡ false)
neither true b is = absurd (false≢true (sym is))
neither false b is = (refl, is)

both : (a b : Bool) → a ≡ false → b ≡ false → (a || b) ≡ false
both a b is so = ap (λ (x : Bool). x || b) is ∙ so

or_nothing : (b : Bool) → (b || false) ≡ b
or_nothing true = refl
or_nothing false = refl

module _ (w : ℕ × ℕ) (written : List (ℕ × ℕ)) (place : ℕ) where
  apart : is_written (w ∷ written) place ≡ false → (is_written (w ∷ []) place ≡ false) × (is_written written place ≡ false)
  apart is = let two = neither _ (is_written written place) is in (or_nothing _ ∙ two.0, two.1)

  together : is_written (w ∷ []) place ≡ false → is_written written place ≡ false → is_written (w ∷ written) place ≡ false
  together one rest = both _ (is_written written place) (sym (or_nothing _) ∙ one) rest

  outside : is_written (w ∷ []) place ≡ false → (place < w.0) ⊎ (w.0 + w.1 ≤ place)
  outside is = elim (cases_lt place w.0) [
    | inl before ↦ inl before
    | inr from ↦ elim (cases_lt place (w.0 + w.1)) [
      | inl to ↦ absurd (false≢true (sym is ∙ inside_it w.0 w.1 place from to))
      | inr behind ↦ inr behind
    ]
  ]

torn_kept : (at n : ℕ) (old new : List ℕ) (place : ℕ) → Torn at n old new → (place < at) ⊎ (at + n ≤ place) → get_or new place 0 ≡ get_or old place 0
torn_kept at n old new place torn (inl before) = sym (get_or-take at new place 0 before) ∙ (ap (λ (l : List ℕ). get_or l place 0) torn.before ∙ get_or-take at old place 0 before)
torn_kept at n old new place torn (inr behind) =
    let at_end : place ≡ at + n + (place - (at + n)) = omega (arith, behind) in
    ap (λ (k : ℕ). get_or new k 0) at_end ∙ (sym (get_or-drop (at + n) new (place - (at + n)) 0) ∙ (ap (λ (l : List ℕ). get_or l (place - (at + n)) 0) torn.after ∙ (get_or-drop (at + n) old (place - (at + n)) 0 ∙ ap (λ (k : ℕ). get_or old k 0) (sym at_end))))

-- ---- from torn writes

pub torn_spoils : (written : List (ℕ × ℕ)) (synced image : List ℕ) → IsTornBy written synced image → IsSpoiled synced written image
torn_spoils [] synced image is = record { no_shorter = omega (arith, ap length is); no_longer = omega (arith, ap length is); kept = λ place inside other. ap (λ (l : List ℕ). get_or l place 0) is }
torn_spoils (w ∷ written) synced image torn =
    let mid = torn.0 in
    let t = torn.1 in
    let rest = torn_spoils written mid image torn.2 in
    let longer = greatest_more (length mid) (max (length synced) (w.0 + w.1)) written (omega (arith, t.no_longer)) in
    record {
      no_shorter = omega (arith, t.no_shorter, rest.no_shorter);
      no_longer = omega (arith, longer, rest.no_longer);
      kept = λ place inside other.
          let two = apart w written place other in
          rest.kept place (omega (arith, inside, t.no_shorter)) two.1 ∙ torn_kept w.0 w.1 synced mid place t (outside w [] place two.0);
    }

-- ---- to torn writes

-- what the first write made of it, as far as the image has it
abbrev mixed : (at n : ℕ) (old image : List ℕ) → List ℕ
mixed at n old image = take at old ++ take n (drop at image) ++ drop (at + n) old

module _ (at n : ℕ) (old image : List ℕ) (inside : at ≤ length old) (longer : length old ≤ length image) where
  abbrev part : List ℕ
  part = take n (drop at image)

  part_len : length part ≡ min n (length image - at)
  part_len = length-take n (drop at image) ∙ ap (min n) (length-drop at image)

  front_len : length (take at old) ≡ at
  front_len = omega (arith, length-take at old, inside)

  both_len : length (take at old ++ part) ≡ at + min n (length image - at)
  both_len = omega (arith, length-append (take at old) part, front_len, part_len)

  mixed_len : length (mixed at n old image) ≡ at + min n (length image - at) + (length old - (at + n))
  mixed_len =
      length-append (take at old ++ part) (drop (at + n) old)
      ∙ (ap (λ (k : ℕ). k + length (drop (at + n) old)) both_len ∙ ap (λ (k : ℕ). at + min n (length image - at) + k) (length-drop (at + n) old))

  mixed_torn : Torn at n old (mixed at n old image)
  mixed_torn = record {
    before = ap (take at) (append_assoc (take at old) part (drop (at + n) old)) ∙ take_at (take at old) (part ++ drop (at + n) old) at front_len;
    after = elim (cases_lt (length image) (at + n)) [
      | inl less ↦ drop_all (at + n) (mixed at n old image) (omega (arith, less, longer, mixed_len)) ∙ sym (drop_all (at + n) old (omega (arith, less, longer)))
      | inr more ↦ drop_at (take at old ++ part) (drop (at + n) old) (at + n) (omega (arith, more, both_len))
    ];
    no_shorter = omega (arith, mixed_len, longer, inside);
    no_longer = omega (arith, mixed_len, longer, inside);
  }

  -- in the range it has what the image has
  mixed_part : (place : ℕ) → at ≤ place → place < at + n → place < length image → get_or (mixed at n old image) place 0 ≡ get_or image place 0
  mixed_part place from to here =
      let back : at + (place - at) ≡ place = omega (arith, from) in
      get_or_append_left (take at old ++ part) (drop (at + n) old) 0 place (omega (arith, both_len, from, to, here))
      ∙ (get_or-append_right (take at old) part at place 0 front_len from
      ∙ (get_or-take n (drop at image) (place - at) 0 (omega (arith, from, to)) ∙ (get_or-drop at image (place - at) 0 ∙ ap (λ (k : ℕ). get_or image k 0) back)))

-- The file is as long as it can be, or as the image.
abbrev AsLong : (len : ℕ) (written : List (ℕ × ℕ)) (synced image : List ℕ) → Type 0
AsLong len written synced image = ((length synced ≡ len) × (length image ≤ greatest len written)) ⊎ (length image ≡ length synced)

abbrev AreKept : (written : List (ℕ × ℕ)) (synced image : List ℕ) → Type 0
AreKept written synced image = (place : ℕ) → place < length synced → is_written written place ≡ false → get_or image place 0 ≡ get_or synced place 0

same_lists : (old image : List ℕ) → length image ≡ length old → ((place : ℕ) → place < length old → get_or image place 0 ≡ get_or old place 0) → image ≡ old
same_lists [] [] len same = refl
same_lists [] (x ∷ image) len same = absurd (omega (arith, len))
same_lists (o ∷ old) [] len same = absurd (omega (arith, len))
same_lists (o ∷ old) (x ∷ image) len same = ap₂ (λ (a : ℕ) (l : List ℕ). a ∷ l) (same 0 (omega arith)) (same_lists old image (omega (arith, len)) (λ place inside. same (suc place) (omega (arith, inside))))

spoils_torn : (len : ℕ) (written : List (ℕ × ℕ)) (synced image : List ℕ) → AreInside len written → length synced ≤ length image → length synced ≤ len → AsLong len written synced image → AreKept written synced image → IsTornBy written synced image
spoils_torn len [] synced image inside longer fits (inl whole) kept = same_lists synced image (omega (arith, longer, whole.0, whole.1)) (λ place here. kept place here refl)
spoils_torn len [] synced image inside longer fits (inr same) kept = same_lists synced image same (λ place here. kept place here refl)
spoils_torn len (w ∷ written) synced image inside longer fits long kept = elim (cases_lt (length synced) w.0) [
  -- a write behind the end of an image that is this short
  | inl short ↦
      let same : length image ≡ length synced = is_short short long in (
        synced,
        torn_nothing w.0 w.1 synced,
        spoils_torn (max len (w.0 + w.1)) written synced image inside.1 longer (omega (arith, fits)) (inr same) (λ place here other. kept place here (together w written place (not_reached place (omega (arith, here, short))) other)),
      )
  | inr reached ↦
      let at = w.0 in
      let n = w.1 in
      let mid = mixed at n synced image in
      let mid_len = mixed_len at n synced image reached longer in (
        mid,
        mixed_torn at n synced image reached longer,
        spoils_torn (max len (at + n)) written mid image inside.1 (omega (arith, mid_len, longer, reached)) (omega (arith, mid_len, longer, reached, fits)) (mid_long mid_len reached long) (mid_kept reached),
      )
]
  where
    is_short : length synced < w.0 → AsLong len (w ∷ written) synced image → length image ≡ length synced
    is_short short (inl whole) = absurd (omega (arith, short, whole.0, inside.0))
    is_short short (inr same) = same

    not_reached : (place : ℕ) → place < w.0 → is_written (w ∷ []) place ≡ false
    not_reached place less = outside_before w.0 w.1 place less

    mid_long : length (mixed w.0 w.1 synced image) ≡ w.0 + min w.1 (length image - w.0) + (length synced - (w.0 + w.1)) → w.0 ≤ length synced → AsLong len (w ∷ written) synced image → AsLong (max len (w.0 + w.1)) written (mixed w.0 w.1 synced image) image
    mid_long is reached (inl whole) = elim (cases_lt (length image) (w.0 + w.1)) [
      | inl less ↦ inr (omega (arith, is, less, longer, reached))
      | inr more ↦ inl (omega (arith, is, more, longer, reached, whole.0), whole.1)
    ]
    mid_long is reached (inr same) = inr (omega (arith, is, same, reached))

    mid_kept : w.0 ≤ length synced → AreKept written (mixed w.0 w.1 synced image) image
    mid_kept reached place here other = elim (cases_lt place w.0) [
      | inl before ↦
          kept place (omega (arith, before, reached)) (together w written place (not_reached place before) other)
          ∙ sym (torn_kept w.0 w.1 synced (mixed w.0 w.1 synced image) place (mixed_torn w.0 w.1 synced image reached longer) (inl before))
      | inr from ↦ elim (cases_lt place (w.0 + w.1)) [
        | inl to ↦ sym (mixed_part w.0 w.1 synced image reached longer place from to (omega (arith, here, to, mixed_len w.0 w.1 synced image reached longer, longer)))
        | inr behind ↦
            kept place (omega (arith, behind, here, mixed_len w.0 w.1 synced image reached longer, longer)) (together w written place (outside_behind w.0 w.1 place behind) other)
            ∙ sym (torn_kept w.0 w.1 synced (mixed w.0 w.1 synced image) place (mixed_torn w.0 w.1 synced image reached longer) (inr behind))
      ]
    ]

pub spoiled_is_torn : (written : List (ℕ × ℕ)) (synced image : List ℕ) → AreInside (length synced) written → IsSpoiled synced written image → IsTornBy written synced image
spoiled_is_torn written synced image inside is = spoils_torn (length synced) written synced image inside is.no_shorter (omega arith) (inl (refl, is.no_longer)) is.kept
