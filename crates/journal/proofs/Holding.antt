-- What an image is read as, and what a mounting that is cut short makes of it.
use Rattle.std.proofs.Common.{◌≡◌, ◌⊎◌, inl, inr, ℕ, ◌+◌, ◌^◌, ◌≤◌, ◌<◌, List, [], ◌∷◌, ◌++◌, length, take, drop, Option, None, Some, IfSome, refl, sym, ◌∙◌, ap, subst, arith, append_assoc, length-append}
use Rattle.std.specs.Option.{IsSomeAnd}
use Rattle.std.proofs.lemmas.Bool.{cases_eq}
use Rattle.std.proofs.lemmas.List.{append_cancel_left, drop-drop, drop_at, take_at}
use Rattle.journal.specs.Records.{record_of, records, header, front, end_of, opened, AreShort, IsBegun, IsClosed, IsDoubtful}
use Rattle.journal.specs.Mounting.{HasHeader, IsUnclosed, IsMended, Mends, WhileMounting, with_open_gate}
use Rattle.journal.specs.Standing.{Holds, Stands, WhileAdding, bodies_of, doubt_of}
use Rattle.journal.specs.declared.journal.Journal.{Journal}
use Rattle.journal.proofs.Reading.{records_closed, records_doubtful, records_shut}
use Rattle.journal.proofs.Tearing.{front_more}
use Rattle.journal.proofs.Standing.{short_more, stands_as}
use Rattle.journal.proofs.Steps.{now_holds}
use Rattle.journal.proofs.Beginning.{few_records}

begun_records : (bodies : List (List ℕ)) (image : List ℕ) → IsBegun bodies image → records image ≡ bodies
begun_records bodies image begun = elim begun.1 [
  | inl few ↦ few_records image (omega (arith, few)) ∙ sym begun.0
  | inr gate ↦ few_records image (omega (arith, ap length gate.1 ∙ length-append header (gate.0 ∷ []))) ∙ sym begun.0
]

-- the bodies, or those and the one in doubt
pub holds_records : (bodies : List (List ℕ)) (doubt : Option (List ℕ)) (image : List ℕ) → Holds bodies doubt image → (records image ≡ bodies) ⊎ IsSomeAnd doubt (λ d. records image ≡ bodies ++ d ∷ [])
holds_records bodies None image h = elim h.form [
  | inl begun ↦ inl (begun_records bodies image begun)
  | inr more ↦ elim more [ inl closed ↦ inl (records_closed bodies image h.short closed) | inr none ↦ absurd none ]
]
holds_records bodies (Some d) image h = elim h.form [
  | inl begun ↦ inl (begun_records bodies image begun)
  | inr more ↦ elim more [ inl closed ↦ inl (records_closed bodies image h.short closed) | inr doubtful ↦ records_doubtful bodies d image h.short h.small doubtful ]
]

-- behind a front stands what stands there
behind : (bodies : List (List ℕ)) (file rest tail : List ℕ) → file ≡ front (records file) ++ rest → records file ≡ bodies → file ≡ front bodies ++ tail → rest ≡ tail
behind bodies file rest tail split told is = append_cancel_left (front bodies) rest tail (ap (λ (bs : List (List ℕ)). front bs ++ rest) (sym told) ∙ (sym split ∙ is))

closed_behind : (rest tail : List ℕ) → IsUnclosed rest → rest ≡ 0 ∷ tail → ⊥
closed_behind rest tail unclosed is = subst IsUnclosed is unclosed refl

mended_as : (bodies : List (List ℕ)) (file image : List ℕ) (m : IsMended file image) → records file ≡ bodies → image ≡ front bodies ++ m.gate ∷ drop 1 m.rest
mended_as bodies file image m told = m.mended ∙ ap (λ (bs : List (List ℕ)). front bs ++ m.gate ∷ drop 1 m.rest) told

no_closed : (bodies : List (List ℕ)) (file image : List ℕ) → AreShort bodies → IsClosed bodies file → IsMended file image → ⊥
no_closed bodies file image short closed m = closed_behind m.rest closed.0 m.unclosed (behind bodies file m.rest (0 ∷ closed.0) m.split (records_closed bodies file short closed) closed.1)

begun_mended : (bodies : List (List ℕ)) (file image : List ℕ) → IsBegun bodies file → IsMended file image → IsBegun bodies image
begun_mended bodies file image begun m =
    let told = begun_records bodies file begun in
    let told_none : records file ≡ [] = told ∙ begun.0 in
    let as_is = mended_as [] file image m told_none in
    let split : file ≡ header ++ [] ++ m.rest = m.split ∙ ap (λ (bs : List (List ℕ)). front bs ++ m.rest) told_none in
    (begun.0, inr (m.gate, as_is ∙ ap (λ (l : List ℕ). front [] ++ m.gate ∷ l) (nothing_more file m.rest split begun.1)))
  where
    nothing_more : (file rest : List ℕ) → file ≡ header ++ [] ++ rest → (length file ≤ 8) ⊎ ((gate : ℕ) × (file ≡ header ++ gate ∷ [])) → drop 1 rest ≡ []
    nothing_more file rest split (inl few) = none_few rest (omega (arith, few, ap length split ∙ length-append (header ++ []) rest))
      where
        none_few : (rest : List ℕ) → length rest ≤ 0 → drop 1 rest ≡ []
        none_few [] few = refl
        none_few (r ∷ rest) few = absurd (omega arith)
    nothing_more file rest split (inr gate) = ap (drop 1) (append_cancel_left header rest (gate.0 ∷ []) (sym split ∙ gate.1))

doubtful_mended : (bodies : List (List ℕ)) (body file image : List ℕ) → AreShort bodies → length body < 256 ^ 4 → IsDoubtful bodies body file → IsMended file image → IsDoubtful bodies body image
doubtful_mended bodies body file image short small doubtful m =
    let gate = doubtful.0 in
    let tail = record_of body ++ 0 ∷ doubtful.1 in
    elim (cases_eq gate 1) [
      | inl opened ↦
          let longer : file ≡ front (bodies ++ body ∷ []) ++ 0 ∷ doubtful.1 = doubtful.2 ∙ (ap (λ (g : ℕ). front bodies ++ g ∷ tail) opened ∙ sym (ap (λ (l : List ℕ). l ++ 0 ∷ doubtful.1) (front_more bodies body) ∙ append_assoc (front bodies) (1 ∷ record_of body) (0 ∷ doubtful.1))) in
          absurd (no_closed (bodies ++ body ∷ []) file image (short_more bodies body short small) (doubtful.1, longer) m)
      | inr other ↦
          let told : records file ≡ bodies = ap records doubtful.2 ∙ records_shut bodies gate tail short other in
          let rest_is = behind bodies file m.rest (gate ∷ tail) m.split told doubtful.2 in
          (m.gate, doubtful.1, mended_as bodies file image m told ∙ ap (λ (l : List ℕ). front bodies ++ m.gate ∷ drop 1 l) rest_is)
    ]

-- A mounting that is cut short leaves an image of the same bodies with the same one in doubt.
pub mends_holds : (bodies : List (List ℕ)) (doubt : Option (List ℕ)) (file image : List ℕ) → Holds bodies doubt file → Mends file image → Holds bodies doubt image
mends_holds bodies doubt file image h (inl same) = subst (λ (f : List ℕ). Holds bodies doubt f) (sym same) h
mends_holds bodies doubt file image h (inr (inl new)) = record { short = h.short; small = h.small; form = inl (sym (still bodies doubt file h new.0), new.1.1) }
  where
    still : (bodies : List (List ℕ)) (doubt : Option (List ℕ)) (file : List ℕ) → Holds bodies doubt file → length file ≤ 8 → [] ≡ bodies
    still bodies doubt file h few = sym (none h.form)
      where
        long : (tail : List ℕ) → file ≡ front bodies ++ tail → 0 < length tail → ⊥
        long tail is some = absurd (omega (arith, few, ap length is ∙ length-append (front bodies) tail, length-append header (opened bodies)))

        none_doubt : (doubt : Option (List ℕ)) → IsSomeAnd doubt (λ body. IsDoubtful bodies body file) → bodies ≡ []
        none_doubt None is = absurd is
        none_doubt (Some d) is = absurd (long (is.0 ∷ (record_of d ++ 0 ∷ is.1)) is.2 (omega arith))

        none : IsBegun bodies file ⊎ (IsClosed bodies file ⊎ IsSomeAnd doubt (λ body. IsDoubtful bodies body file)) → bodies ≡ []
        none (inl begun) = begun.0
        none (inr (inl closed)) = absurd (long (0 ∷ closed.0) closed.1 (omega arith))
        none (inr (inr doubtful)) = none_doubt doubt doubtful
mends_holds bodies doubt file image h (inr (inr m)) = record { short = h.short; small = h.small; form = forms doubt h.small h.form }
  where
    doubts : (doubt : Option (List ℕ)) → IfSome doubt (λ body. length body < 256 ^ 4) → IsSomeAnd doubt (λ body. IsDoubtful bodies body file) → IsSomeAnd doubt (λ body. IsDoubtful bodies body image)
    doubts None small is = is
    doubts (Some d) small is = doubtful_mended bodies d file image h.short small is m

    forms : (doubt : Option (List ℕ)) → IfSome doubt (λ body. length body < 256 ^ 4) → IsBegun bodies file ⊎ (IsClosed bodies file ⊎ IsSomeAnd doubt (λ body. IsDoubtful bodies body file))
        → IsBegun bodies image ⊎ (IsClosed bodies image ⊎ IsSomeAnd doubt (λ body. IsDoubtful bodies body image))
    forms doubt small (inl begun) = inl (begun_mended bodies file image begun m)
    forms doubt small (inr (inl closed)) = absurd (no_closed bodies file image h.short closed m)
    forms doubt small (inr (inr doubtful)) = inr (inr (doubts doubt small doubtful))

-- It may be opened.
pub holds_header : (bodies : List (List ℕ)) (doubt : Option (List ℕ)) (image : List ℕ) → Holds bodies doubt image → HasHeader image
holds_header bodies doubt image h more = by_form h.form
  where
    by_front : (tail : List ℕ) → image ≡ front bodies ++ tail → take 8 image ≡ header
    by_front tail is = ap (take 8) (is ∙ append_assoc header (opened bodies) tail)

    by_doubt : (doubt : Option (List ℕ)) → IsSomeAnd doubt (λ body. IsDoubtful bodies body image) → take 8 image ≡ header
    by_doubt None is = absurd is
    by_doubt (Some d) is = by_front (is.0 ∷ (record_of d ++ 0 ∷ is.1)) is.2

    by_begun : (length image ≤ 8) ⊎ ((gate : ℕ) × (image ≡ header ++ gate ∷ [])) → take 8 image ≡ header
    by_begun (inl few) = absurd (omega (arith, few, more))
    by_begun (inr gate) = ap (take 8) gate.1

    by_form : IsBegun bodies image ⊎ (IsClosed bodies image ⊎ IsSomeAnd doubt (λ body. IsDoubtful bodies body image)) → take 8 image ≡ header
    by_form (inl begun) = by_begun begun.1
    by_form (inr (inl closed)) = by_front (0 ∷ closed.0) closed.1
    by_form (inr (inr doubtful)) = by_doubt doubt doubtful

-- ---- in the words of records

-- while a body is added
pub adding_records : (bodies : List (List ℕ)) (doubt : Option (List ℕ)) (body image : List ℕ) → WhileAdding bodies doubt body image → (records image ≡ bodies) ⊎ (IsSomeAnd doubt (λ d. records image ≡ bodies ++ d ∷ []) ⊎ (records image ≡ bodies ++ body ∷ []))
adding_records bodies doubt body image (inl before) = elim (holds_records bodies doubt image before) [ inl as_is ↦ inl as_is | inr longer ↦ inr (inl longer) ]
adding_records bodies doubt body image (inr new) = elim (holds_records bodies (Some body) image new) [ inl as_is ↦ inl as_is | inr longer ↦ inr (inr longer) ]

-- another gate at the end
mended_records : (file image : List ℕ) → IsMended file image → (records image ≡ records file) ⊎ (records image ≡ records (with_open_gate file))
mended_records file image m = elim (cases_eq m.gate 1) [
  | inl opened ↦
      let kept : take (end_of file) file ≡ front (records file) = ap (take (end_of file)) m.split ∙ take_at (front (records file)) m.rest (end_of file) refl in
      let behind : drop (end_of file + 1) file ≡ drop 1 m.rest = sym (drop-drop 1 (end_of file) file) ∙ ap (drop 1) (ap (drop (end_of file)) m.split ∙ drop_at (front (records file)) m.rest (end_of file) refl) in
      let same : with_open_gate file ≡ front (records file) ++ 1 ∷ drop 1 m.rest = ap (λ (l : List ℕ). l ++ (1 ∷ []) ++ drop (end_of file + 1) file) kept ∙ (append_assoc (front (records file)) (1 ∷ []) (drop (end_of file + 1) file) ∙ ap (λ (l : List ℕ). front (records file) ++ 1 ∷ l) behind) in
      inr (ap records (m.mended ∙ ap (λ (g : ℕ). front (records file) ++ g ∷ drop 1 m.rest) opened ∙ sym same))
  | inr other ↦ inl (ap records m.mended ∙ records_shut (records file) m.gate (drop 1 m.rest) m.short other)
]

-- while a file is opened
pub mending_records : (file image : List ℕ) → Mends file image → (records image ≡ records file) ⊎ (records image ≡ records (with_open_gate file))
mending_records file image (inl same) = inl (ap records same)
mending_records file image (inr (inl new)) = inl (begun_records [] image new.1 ∙ sym (few_records file (omega (arith, new.0))))
mending_records file image (inr (inr m)) = mended_records file image m

module _ {D : Type 0} (moment : D → ℕ) (left : D → ℕ → List ℕ → Type 0) (j : Journal D) (image : List ℕ) (s : Stands moment left j) (is : left j.disk (moment j.disk) image) where
  -- between calls
  pub standing_holds : Holds (bodies_of j) (doubt_of j) image
  standing_holds = now_holds (bodies_of j) (doubt_of j) s.short s.small image (s.images image is)

  pub standing_records : doubt_of j ≡ None → records image ≡ bodies_of j
  standing_records sure = records_closed (bodies_of j) image s.short (stands_as (bodies_of j) (doubt_of j) None image sure (s.images image is))
