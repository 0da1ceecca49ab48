-- What an opening finds in a file that keeps a journal.
use Rattle.std.proofs.Common.{◌≡◌, ◌⊎◌, inl, inr, refl, sym, ◌∙◌, ap, ap₂, subst, arith, ℕ, zero, suc, ◌<◌, ◌≤◌, ◌-◌, ◌^◌, min, List, [], ◌∷◌, ◌++◌, length, map, take, get_or, Option, Some, None}
use Rattle.std.specs.List.{All}
use Rattle.std.specs.Option.{option_map, IsSomeAnd}
use Rattle.std.specs.Prelude.{IfSome, option_to_list}
use Rattle.cluster_defs.specs.Journal.{Becomes, Journal, was_opened}
use Rattle.disk_model.specs.Calls.{DiskCall}
use Rattle.hub_core.proofs.Keeping.{HoldsLaw, keeps_recovers}
use Rattle.hub_core.proofs.MountingFold.{AreApart}
use Rattle.hub_core.specs.Keeping.{Keeps, Recovers, read_one, space_of}
use Rattle.hub_core.specs.Mounting.{IsBad, IsBadBehind, IsFileFault, IsTooFull, Mounted, NotMounted, sum_of}
use Rattle.hub_core.specs.State.{journal_of, state_of}
use Rattle.hub_core.specs.declared.fault.HubFault.{HubFault}
use Rattle.hub_core.specs.declared.fault.HubFault.TheVariants.{BadRecord, NotAJournal, TooFull}
use Rattle.hub_core.specs.declared.hub.Hub.{Hub}
use Rattle.hub_core.specs.declared.mounting.NoHub.{NoHub}
use Rattle.hub_core.specs.declared.setup.Setup.{Setup}
use Rattle.journal.specs.Mounting.{HasHeader}
use Rattle.journal.specs.Records.{header, records}
use Rattle.journal.specs.Standing.{Holds}
use Rattle.model_data.specs.declared.batch.BatchRecord.{BatchRecord}
use Rattle.rec_format.specs.Lawful.{IsLawfulRecord}
use Rattle.rec_format.specs.Records.{record_write}
use Rattle.table_defs.proofs.Records.{or_first, or_then}
use Rattle.table_defs.specs.Table.{Table, after, applied, no_rows}
use Rattle.table_defs.specs.Taken.{AreTaken, first_refusal, refusal}

head_lawful : (r : BatchRecord) (rs : List BatchRecord) → All IsLawfulRecord (r ∷ rs) → IsLawfulRecord r
head_lawful r rs all = all 0 r (omega arith)

tail_lawful : (r : BatchRecord) (rs : List BatchRecord) → All IsLawfulRecord (r ∷ rs) → All IsLawfulRecord rs
tail_lawful r rs all = λ k d below. all (suc k) d (omega (arith, below))

passes_not : (space most limit sum : ℕ) → space ≤ most → most ≤ limit → sum ≡ min space (2 ^ 64 - 1) → limit < sum → ⊥
passes_not space most limit sum within less is passes = omega (arith, within, less, is, passes)

module _ (apart : AreApart) where
  -- lawful records of the same spellings
  one_list : (rs ss : List BatchRecord) → All IsLawfulRecord rs → All IsLawfulRecord ss → map record_write rs ≡ map record_write ss → rs ≡ ss
  one_list [] [] a b is = refl
  one_list [] (s ∷ ss) a b is = cc
  one_list (r ∷ rs) [] a b is = cc
  one_list (r ∷ rs) (s ∷ ss) a b is =
      let head : record_write r ≡ record_write s = cc in
      let tail : map record_write rs ≡ map record_write ss = cc in
      ap₂ (λ (q : BatchRecord) (qs : List BatchRecord). q ∷ qs) (apart r s (head_lawful r rs a) (head_lawful s ss b) head) (one_list rs ss (tail_lawful r rs a) (tail_lawful s ss b) tail)

  pub one_recovery : (rs ss : List BatchRecord) (file : List ℕ) → Recovers rs file → Recovers ss file → rs ≡ ss
  one_recovery rs ss file a b = one_list rs ss a.spelled.lawful b.spelled.lawful (sym a.spelled.written ∙ b.spelled.written)

  -- ---- no body of it is bad

  good_at : (rs ss : List BatchRecord) (t : Table) (n : ℕ) → All IsLawfulRecord rs → All IsLawfulRecord ss → AreTaken rs t → n < length (map record_write rs) → take n (map record_write rs) ≡ map record_write ss → IsBad (get_or (map record_write rs) n []) (after ss t) → ⊥
  good_at [] ss t n a b taken there same bad = absurd (omega (arith, there))
  good_at (r ∷ rs) [] t zero a b taken there same bad = bad r (head_lawful r rs a) refl (or_first (refusal r t) (first_refusal rs (applied r t)) taken)
  good_at (r ∷ rs) (s ∷ ss) t zero a b taken there same bad = absurd (cc)
  good_at (r ∷ rs) [] t (suc n) a b taken there same bad = absurd (cc)
  good_at (r ∷ rs) (s ∷ ss) t (suc n) a b taken there same bad =
      let head : record_write r ≡ record_write s = cc in
      let tail : take n (map record_write rs) ≡ map record_write ss = cc in
      let is : s ≡ r = sym (apart r s (head_lawful r rs a) (head_lawful s ss b) head) in
      good_at rs ss (applied r t) n (tail_lawful r rs a) (tail_lawful s ss b) (or_then (refusal r t) (first_refusal rs (applied r t)) taken) (omega (arith, there)) tail
      (subst (λ (q : BatchRecord). IsBad (get_or (map record_write rs) n []) (after ss (applied q t))) is bad)

  none_bad : (rs : List BatchRecord) (file : List ℕ) → Recovers rs file → (n : ℕ) → IsBadBehind n (records file) → ⊥
  none_bad rs file r n bad =
      let as_is : IsBadBehind n (map record_write rs) = subst (λ (bodies : List (List ℕ)). IsBadBehind n bodies) r.spelled.written bad in
      good_at rs as_is.rs no_rows n r.spelled.lawful as_is.spelled.lawful r.taken as_is.there as_is.spelled.written as_is.bad

  doubt_not_bad : (rs : List BatchRecord) (doubt : Option BatchRecord) (file : List ℕ) → IsSomeAnd doubt (λ d. Recovers (rs ++ d ∷ []) file) → (n : ℕ) → IsBadBehind n (records file) → ⊥
  doubt_not_bad rs None file is n bad = absurd is
  doubt_not_bad rs (Some d) file is n bad = none_bad (rs ++ d ∷ []) file is n bad

  pub never_bad : HoldsLaw → (most : ℕ) (j : Journal) (file : List ℕ) → Keeps most j file → (n : ℕ) → IsBadBehind n (records file) → ⊥
  never_bad law most j file k n bad = elim (keeps_recovers law most j file k) [
    | inl as_is ↦ none_bad j.records file as_is n bad
    | inr longer ↦ doubt_not_bad j.records j.doubt file longer n bad
  ]

  -- ---- what it finds

  found_doubt : (rs found : List BatchRecord) (doubt : Option BatchRecord) (file : List ℕ) → IsSomeAnd doubt (λ d. Recovers (rs ++ d ∷ []) file) → Recovers found file → found ≡ rs ++ option_to_list doubt
  found_doubt rs found None file none is = absurd none
  found_doubt rs found (Some d) file longer is = one_recovery found (rs ++ d ∷ []) file is longer

  pub finds : HoldsLaw → (most : ℕ) (j : Journal) (found : List BatchRecord) (file : List ℕ) → Keeps most j file → Recovers found file → (found ≡ j.records) ⊎ (found ≡ j.records ++ option_to_list j.doubt)
  finds law most j found file k is = elim (keeps_recovers law most j file k) [
    | inl as_is ↦ inl (one_recovery found j.records file is as_is)
    | inr longer ↦ inr (found_doubt j.records found j.doubt file longer is)
  ]

  -- where its end and reserve pass the limit, they are those of what it finds
  pub own_sum : HoldsLaw → (most : ℕ) (j : Journal) (file : List ℕ) (limit sum : ℕ) → Keeps most j file → IsTooFull limit sum (records file) → (limit < sum) × ((sum ≡ sum_of j.records) ⊎ (sum ≡ sum_of (j.records ++ option_to_list j.doubt)))
  own_sum law most j file limit sum k full = (
    full.passes,
    elim (finds law most j full.rs file k (record { spelled = full.spelled; taken = full.taken })) [
      | inl as_is ↦ inl (full.sum_is ∙ ap sum_of as_is)
      | inr longer ↦ inr (full.sum_is ∙ ap sum_of longer)
    ],
  )

  -- and within its limit they never pass it
  pub never_too_full : HoldsLaw → (most : ℕ) (j : Journal) (file : List ℕ) (limit sum : ℕ) → Keeps most j file → most ≤ limit → IsTooFull limit sum (records file) → ⊥
  never_too_full law most j file limit sum k less full =
      let own = own_sum law most j file limit sum k full in
      elim own.1 [
        | inl as_is ↦ passes_not (space_of j.records) most limit sum k.within.records less as_is own.0
        | inr longer ↦ passes_not (space_of (j.records ++ option_to_list j.doubt)) most limit sum k.within.doubt less longer own.0
      ]

-- the journal's own law of headers
abbrev pub OpensLaw : Type 0
OpensLaw = (bodies : List (List ℕ)) (doubt : Option (List ℕ)) (image : List ℕ) → Holds bodies doubt image → HasHeader image

pub never_another : OpensLaw → (most : ℕ) (j : Journal) (file head : List ℕ) → Keeps most j file → 8 < length file → take 8 file ≡ head → (head ≡ header → ⊥) → ⊥
never_another law most j file head k long is other = other (sym is ∙ law (map record_write j.records) (option_map record_write j.doubt) file k.held long)

-- ---- an opening follows the journal

module _ {D : Type 0} (name : D → ℕ) (seen : D → Option (List ℕ)) (moment : D → ℕ) (left : D → ℕ → List ℕ → Type 0) (calls : D → Option (List DiskCall)) (makes : D → DiskCall → D → Type 0) (faults : D → ℕ)
    (apart : AreApart) (law : HoldsLaw) (disk : D) (setup : Setup) (most : ℕ) (j : Journal) (file : List ℕ) (told : seen disk ≡ Some file) (keeps : Keeps most j file) where
  pub follows : (h : Hub D) → Mounted name seen moment left calls makes faults disk setup h → Becomes was_opened j (journal_of (state_of h))
  follows h m =
      let found : HasHeader file × Recovers (journal_of (state_of h)).records file = subst (λ (o : Option (List ℕ)). IfSome o (λ f. HasHeader f × Recovers (journal_of (state_of h)).records f)) told m.file in
      (finds apart law most j (journal_of (state_of h)).records file keeps found.1, ap read_one m.sure)

  module _ (refused : NoHub D) (n : NotMounted name seen moment left calls makes faults disk setup refused) where
    cause : (fault : HubFault) → refused.fault ≡ fault → IsFileFault setup.limits.journal fault file
    cause fault is = subst (λ (f : HubFault). IsFileFault setup.limits.journal f file) is (subst (λ (o : Option (List ℕ)). IfSome o (IsFileFault setup.limits.journal refused.fault)) told n.file)

    pub no_other_file : OpensLaw → (head : List ℕ) → refused.fault ≡ NotAJournal head → ⊥
    no_other_file opens head is = let why = cause (NotAJournal head) is in never_another opens most j file head keeps why.0 why.1 why.2

    pub no_bad_record : (number : ℕ) → refused.fault ≡ BadRecord number → ⊥
    no_bad_record number is = let why = cause (BadRecord number) is in never_bad apart law most j file keeps why.1.0 why.1.2

    pub never_refused : most ≤ setup.limits.journal → (sum : ℕ) → refused.fault ≡ TooFull sum → ⊥
    never_refused less sum is = never_too_full apart law most j file setup.limits.journal sum keeps less (cause (TooFull sum) is).1
