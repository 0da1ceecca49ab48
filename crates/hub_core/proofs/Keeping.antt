-- What an image of a journal's life recovers to, and how it is kept.
use Rattle.std.proofs.Common.{◌≡◌, ◌⊎◌, ◌≤◌, inl, inr, refl, sym, ◌∙◌, ap, subst, ℕ, List, [], ◌∷◌, ◌++◌, map, Option, Some, None}
use Rattle.std.specs.List.{All}
use Rattle.std.specs.Option.{option_map, IsSomeAnd}
use Rattle.std.specs.Prelude.{IfSome, option_to_list}
use Rattle.cluster_defs.specs.Journal.{AreAllTaken, Journal, table_behind}
use Rattle.disk_model.proofs.Moments.{weaker}
use Rattle.disk_model.specs.Moments.{LeavesOnly}
use Rattle.hub_core.proofs.Lists.{spelled_more, taken_more}
use Rattle.hub_core.specs.Keeping.{AreSpelled, Keeps, Recovers, RecoversWith, WhileKeeping, doubting, space_of}
use Rattle.journal.specs.Mounting.{Mends, WhileMounting}
use Rattle.journal.specs.Records.{records}
use Rattle.journal.specs.Standing.{Holds, WhileAdding}
use Rattle.model_data.specs.declared.batch.BatchRecord.{BatchRecord}
use Rattle.rec_format.specs.Lawful.{IsLawfulRecord}
use Rattle.rec_format.specs.Records.{record_write}
use Rattle.table_defs.specs.Table.{no_rows}
use Rattle.table_defs.specs.Taken.{AreTaken, refusal}

-- the journal's own law of images
abbrev pub HoldsLaw : Type 0
HoldsLaw = (bodies : List (List ℕ)) (doubt : Option (List ℕ)) (image : List ℕ) → Holds bodies doubt image → (records image ≡ bodies) ⊎ IsSomeAnd doubt (λ d. records image ≡ bodies ++ d ∷ [])

abbrev pub MendsLaw : Type 0
MendsLaw = (bodies : List (List ℕ)) (doubt : Option (List ℕ)) (file image : List ℕ) → Holds bodies doubt file → Mends file image → Holds bodies doubt image

with_doubt : (rs : List BatchRecord) (doubt : Option BatchRecord) (image : List ℕ) → All IsLawfulRecord rs → IfSome doubt IsLawfulRecord → AreTaken (rs ++ option_to_list doubt) no_rows
    → IsSomeAnd (option_map record_write doubt) (λ d. records image ≡ map record_write rs ++ d ∷ []) → IsSomeAnd doubt (λ d. Recovers (rs ++ d ∷ []) image)
with_doubt rs None image lawful doubt_lawful taken none = absurd none
with_doubt rs (Some d) image lawful doubt_lawful taken longer = record {
  spelled = subst (λ (bodies : List (List ℕ)). AreSpelled (rs ++ d ∷ []) bodies) (sym longer) (spelled_more rs d (map record_write rs) (record { written = refl; lawful = lawful }) doubt_lawful);
  taken = taken;
}

pub keeps_recovers : HoldsLaw → (limit : ℕ) (j : Journal) (image : List ℕ) → Keeps limit j image → RecoversWith j image
keeps_recovers law limit j image k = elim (law (map record_write j.records) (option_map record_write j.doubt) image k.held) [
  | inl as_is ↦ inl record { spelled = record { written = as_is; lawful = k.lawful }; taken = k.taken.taken }
  | inr longer ↦ inr (with_doubt j.records j.doubt image k.lawful k.doubt_lawful k.taken.doubt longer)
]

pub keeps_mended : MendsLaw → (limit : ℕ) (j : Journal) (file image : List ℕ) → Keeps limit j file → Mends file image → Keeps limit j image
keeps_mended law limit j file image k mends = record {
  held = law (map record_write j.records) (option_map record_write j.doubt) file image k.held mends;
  lawful = k.lawful;
  doubt_lawful = k.doubt_lawful;
  taken = k.taken;
  within = k.within;
}

-- while the body of a record is added that is taken and has space
pub adding_keeps : (limit : ℕ) (j : Journal) (r : BatchRecord) → ((image : List ℕ) → Holds (map record_write j.records) (option_map record_write j.doubt) image → Keeps limit j image) → IsLawfulRecord r → refusal r (table_behind j) ≡ None → AreTaken j.records no_rows → All IsLawfulRecord j.records
    → space_of j.records ≤ limit → space_of (j.records ++ r ∷ []) ≤ limit → (image : List ℕ) → WhileAdding (map record_write j.records) (option_map record_write j.doubt) (record_write r) image → WhileKeeping limit j (Some r) image
adding_keeps limit j r before lawful takes taken all fits more image adding = elim adding [
  | inl as_was ↦ inl (before image as_was)
  | inr new ↦ inr record { held = new; lawful = all; doubt_lawful = lawful; taken = record { taken = taken; doubt = taken_more j.records r taken takes }; within = record { records = fits; doubt = more } }
]

pub keeping_recovers : HoldsLaw → (limit : ℕ) (j : Journal) (r : BatchRecord) (image : List ℕ) → WhileKeeping limit j (Some r) image → Recovers j.records image ⊎ (IsSomeAnd j.doubt (λ d. Recovers (j.records ++ d ∷ []) image) ⊎ Recovers (j.records ++ r ∷ []) image)
keeping_recovers law limit j r image (inl before) = elim (keeps_recovers law limit j image before) [ inl as_is ↦ inl as_is | inr longer ↦ inr (inl longer) ]
keeping_recovers law limit j r image (inr new) = elim (keeps_recovers law limit (doubting j r) image new) [ inl as_is ↦ inl as_is | inr longer ↦ inr (inr longer) ]

pub mounting_keeps : MendsLaw → {D : Type 0} (moment : D → ℕ) (left : D → ℕ → List ℕ → Type 0) (old new : D) (limit : ℕ) (j : Journal)
    → ((image : List ℕ) → left old (moment old) image → Keeps limit j image) → LeavesOnly moment left old new (WhileMounting (left old (moment old))) → LeavesOnly moment left old new (Keeps limit j)
mounting_keeps law moment left old new limit j all run = weaker moment left old new _ _ (λ image w. keeps_mended law limit j w.0 image (all w.0 w.1) w.2) run
