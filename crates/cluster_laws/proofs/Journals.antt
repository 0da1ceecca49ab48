-- Through openings and stops each record is taken, so each attempt ends once and each owner's table is that of its part.
use Rattle.std.proofs.Common.{◌≡◌, inl, inr, refl, ap, ap₂, ◌∙◌, List, [], ◌∷◌, ◌++◌, Option, None}
use Rattle.std.specs.Prelude.{option_to_list}
use Rattle.base_names.specs.declared.refusal.Refusal.{Refusal}
use Rattle.model_data.specs.declared.batch.BatchRecord.{BatchRecord}
use Rattle.table_defs.specs.Table.{after, no_rows}
use Rattle.table_defs.specs.Taken.{first_refusal, or_else, refusal}
use Rattle.cluster_defs.specs.Journal.{AreAllTaken, Event, Follows, Journal, Reaches, further, none_yet, start, was_failed, was_kept, was_not_opened, was_opened}
use Rattle.table_defs.proofs.Lists.{append_nil}
use Rattle.table_defs.proofs.Records.{refusal_append}

one_taken : (rs : List BatchRecord) (r : BatchRecord) → first_refusal rs no_rows ≡ None → refusal r (after rs no_rows) ≡ None → first_refusal (rs ++ r ∷ []) no_rows ≡ None
one_taken rs r taken last = refusal_append rs (r ∷ []) no_rows ∙ ap₂ (λ (a b : Option Refusal). or_else a (or_else b None)) taken last

-- with no doubt
without_doubt : (rs : List BatchRecord) (j : Journal) → first_refusal rs no_rows ≡ None → j.records ≡ rs → j.doubt ≡ None → AreAllTaken j
without_doubt rs j taken is none = record {
  taken = ap (λ (x : List BatchRecord). first_refusal x no_rows) is ∙ taken;
  doubt = ap₂ (λ (x : List BatchRecord) (d : Option BatchRecord). first_refusal (x ++ option_to_list d) no_rows) is none ∙ (ap (λ (x : List BatchRecord). first_refusal x no_rows) (append_nil rs) ∙ taken);
}

same : (j next : Journal) → next.records ≡ j.records → next.doubt ≡ j.doubt → AreAllTaken j → AreAllTaken next
same j next is doubt sound = record {
  taken = ap (λ (x : List BatchRecord). first_refusal x no_rows) is ∙ sound.taken;
  doubt = ap₂ (λ (x : List BatchRecord) (d : Option BatchRecord). first_refusal (x ++ option_to_list d) no_rows) is doubt ∙ sound.doubt;
}

follows_sound : (event : Event) (j next : Journal) → Follows event j next → AreAllTaken j → AreAllTaken next
follows_sound (was_kept r) j next f sound = without_doubt (j.records ++ r ∷ []) next (one_taken j.records r sound.taken f.0) f.1.0 f.1.1
follows_sound (was_failed r) j next f sound = elim f.1.1 [
  | inl as_it_was ↦ same j next f.1.0 as_it_was sound
  | inr new ↦ elim new [
    | inl here ↦ record {
      taken = ap (λ (x : List BatchRecord). first_refusal x no_rows) f.1.0 ∙ sound.taken;
      doubt = ap₂ (λ (x : List BatchRecord) (d : Option BatchRecord). first_refusal (x ++ option_to_list d) no_rows) f.1.0 here ∙ one_taken j.records r sound.taken f.0;
    }
    | inr gone ↦ without_doubt j.records next sound.taken f.1.0 gone
  ]
]
follows_sound was_not_opened j next f sound = same j next f.1.0 f.1.1 sound
follows_sound was_opened j next f sound = elim f.1.0 [
  | inl as_it_was ↦ without_doubt j.records next sound.taken as_it_was f.1.1
  | inr longer ↦ without_doubt (j.records ++ option_to_list j.doubt) next sound.doubt longer f.1.1
]

none_sound : AreAllTaken none_yet
none_sound = record { taken = refl; doubt = refl }

pub reached_sound : {events : List Event} {j : Journal} → Reaches events j → AreAllTaken j
reached_sound start = none_sound
reached_sound (further {j = j} event next r f) = follows_sound event j next f (reached_sound r)
