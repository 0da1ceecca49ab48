-- What a mount leaves.
use Rattle.std.proofs.Math.Nat.{add-zero}
use Rattle.std.proofs.Common.{◌≡◌, ◌≢◌, ◌⊎◌, inl, inr, ℕ, ◌+◌, ◌==◌, if◌then◌else◌, ◌≤◌, ◌<◌, List, [], ◌∷◌, ◌++◌, length, take, drop, get_or, slice_index, refl, sym, ◌∙◌, ap, subst, arith, append_assoc, length-append, take-append-drop}
use Rattle.std.proofs.lemmas.Bool.{cases_lt}
use Rattle.std.proofs.lemmas.Bool.Decides.{nat_tests}
use Rattle.std.proofs.lemmas.Grind.{get_or_default_zero}
use Rattle.std.proofs.Math.ListN.{get_or-eq_default}
use Rattle.std.proofs.lemmas.List.{take_at, drop_at, drop_more, drop_all, drop-drop, nil_from_length, get_or-append-add}
use Rattle.disk_model.specs.Disk.{Torn, overwritten}
use Rattle.disk_model.specs.Moments.{LeavesOnly}
use Rattle.disk_model.proofs.Moments.{weaker, joins, now_has}
use Rattle.journal.specs.Plans.{Step, mend_plan, through}
use Rattle.journal.specs.Records.{records, end_of, header, opened, front, AreShort, IsClosed}
use Rattle.journal.specs.Mounting.{IsEnd, IsScanned, IsUnclosed, Mends, WhileMounting}

-- a file behind its header, as it was scanned
pub scanned : (file bytes : List ℕ) (bodies : List (List ℕ)) (end : ℕ) → file ≡ header ++ bytes → IsEnd bodies bytes → end ≡ length (front bodies) → (bodies ≡ records file) × IsScanned file end
scanned file bytes bodies end is read at =
    let told : records file ≡ bodies = ap records is ∙ read.2 in (
      sym told,
      record {
        at = at ∙ ap (λ (bs : List (List ℕ)). length (front bs)) (sym told);
        short = subst AreShort (sym told) read.3;
        rest = read.0;
        split = is ∙ (ap (λ (l : List ℕ). header ++ l) read.1 ∙ (sym (append_assoc header (opened bodies) read.0) ∙ ap (λ (bs : List (List ℕ)). front bs ++ read.0) (sym told)));
      },
    )

-- a torn write of one byte at a place
pub torn_end : (before rest : List ℕ) (end : ℕ) (old new : List ℕ) → end ≡ length before → old ≡ before ++ rest → Torn end 1 old new → (new ≡ old) ⊎ ((gate : ℕ) × (new ≡ before ++ gate ∷ drop 1 rest))
torn_end before rest end old new is split torn =
    let kept : take end new ≡ before = torn.before ∙ (ap (take end) split ∙ take_at before rest end (sym is)) in
    let behind : drop end old ≡ rest = ap (drop end) split ∙ drop_at before rest end (sym is) in
    let whole : new ≡ before ++ drop end new = sym (take-append-drop end new) ∙ ap (λ (l : List ℕ). l ++ drop end new) kept in
    elim (cases_lt end (length new)) [
      | inl more ↦
          let after : drop (end + 1) new ≡ drop 1 rest = torn.after ∙ (sym (drop-drop 1 end old) ∙ ap (drop 1) behind) in
          inr (get_or new end 0, whole ∙ ap (λ (l : List ℕ). before ++ l) (drop_more new end 0 more ∙ ap (λ (l : List ℕ). get_or new end 0 ∷ l) after))
      | inr less ↦
          let long : length old ≡ length before + length rest = ap length split ∙ length-append before rest in
          let empty : rest ≡ [] = nil_from_length rest (omega (arith, less, torn.no_shorter)) in
          inl (whole ∙ (ap (λ (l : List ℕ). before ++ l) (drop_all end new less ∙ sym empty) ∙ sym split))
    ]

unclosed_rest : (rest : List ℕ) → (0 < length rest → get_or rest 0 0 ≢ 0) → IsUnclosed rest
unclosed_rest [] other = tt
unclosed_rest (gate ∷ rest) other = other (omega arith)

not_zero : (n : ℕ) (xs ys : List Step) → n ≢ 0 → (if n == 0 then xs else ys) ≡ ys
not_zero n xs ys other = grind (arith, nat_tests)

one_is_not : ◌≡◌ {A = ℕ} 1 0 → ⊥
one_is_not is = omega (arith, is)

module _ (file : List ℕ) (end : ℕ) (s : IsScanned file end) where
  pub inside : end ≤ length file
  inside = omega (arith, ap length s.split ∙ length-append (front (records file)) s.rest, s.at)

  pub mended_torn : IsUnclosed s.rest → (image : List ℕ) → Torn end 1 file image → Mends file image
  mended_torn unclosed image torn = elim (torn_end (front (records file)) s.rest end file image s.at s.split torn) [
    | inl same ↦ inl same
    | inr other ↦ inr (inr record {
      rest = s.rest;
      gate = other.0;
      unclosed = unclosed;
      short = s.short;
      split = s.split;
      mended = other.1;
    })
  ]

  front_kept : take end file ≡ front (records file)
  front_kept = ap (take end) s.split ∙ take_at (front (records file)) s.rest end (sym s.at)

  -- the byte at the end isn't a closed gate
  pub unclosed_at : (end < length file → slice_index file end ≢ 0) → IsUnclosed s.rest
  unclosed_at other = unclosed_rest s.rest (λ more none.
      let at_end : get_or file end 0 ≡ get_or s.rest 0 0 = ap (λ (l : List ℕ). get_or l end 0) s.split ∙ (ap (λ (k : ℕ). get_or (front (records file) ++ s.rest) k 0) (s.at ∙ sym (add-zero (length (front (records file))))) ∙ get_or-append-add (front (records file)) s.rest 0 0) in
      let inside_file : end < length file = omega (arith, more, ap length s.split ∙ length-append (front (records file)) s.rest, s.at) in
      other inside_file (at_end ∙ none))

  pub mended : IsClosed (records file) (overwritten end (0 ∷ []) file)
  mended = (drop (end + 1) file, ap (λ (l : List ℕ). l ++ (0 ∷ []) ++ drop (end + 1) file) front_kept ∙ append_assoc (front (records file)) (0 ∷ []) (drop (end + 1) file))

  pub closed_already : end < length file → slice_index file end ≡ 0 → IsClosed (records file) file
  closed_already more zero_there =
      let tail : drop end file ≡ 0 ∷ drop (end + 1) file = drop_more file end 0 more ∙ ap (λ (g : ℕ). g ∷ drop (end + 1) file) zero_there in
      (drop (end + 1) file, sym (take-append-drop end file) ∙ (ap (λ (l : List ℕ). l ++ drop end file) front_kept ∙ ap (λ (l : List ℕ). front (records file) ++ l) tail))

  -- ---- the plan of mending
  here : get_or file (end_of file) 1 ≡ get_or file end 1
  here = ap (λ (n : ℕ). get_or file n 1) (sym s.at)

  pub closed_plan : end < length file → slice_index file end ≡ 0 → mend_plan file ≡ []
  closed_plan more zero_there = ap (λ (n : ℕ). if n == 0 then [] else through (end_of file) (0 ∷ [])) (here ∙ (get_or_default_zero file end 1 more ∙ zero_there))

  pub open_plan_of : (end < length file → slice_index file end ≢ 0) → through end (0 ∷ []) ≡ mend_plan file
  open_plan_of other = ap (λ (n : ℕ). through n (0 ∷ [])) s.at ∙ sym (not_zero (get_or file (end_of file) 1) [] (through (end_of file) (0 ∷ [])) (λ is. elim (cases_lt end (length file)) [
    | inl more ↦ other more (sym (get_or_default_zero file end 1 more) ∙ (sym here ∙ is))
    | inr less ↦ one_is_not (sym (get_or-eq_default file 1 less) ∙ (sym here ∙ is))
  ]))

-- a mounting behind calls that left the images as they were
pub mounts : {D : Type 0} (moment : D → ℕ) (left : D → ℕ → List ℕ → Type 0) (old mid new : D) → LeavesOnly moment left old mid (left old (moment old))
    → LeavesOnly moment left mid new (WhileMounting (left mid (moment mid))) → LeavesOnly moment left old new (WhileMounting (left old (moment old)))
mounts moment left old mid new first second =
    joins moment left old mid new _
    (weaker moment left old mid _ _ (λ image is. (image, is, inl refl)) first)
    (weaker moment left mid new _ _ (λ image w. (w.0, now_has moment left old mid _ first w.0 w.1, w.2)) second)
