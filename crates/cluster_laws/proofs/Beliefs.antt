-- What one who saw the events may believe of the journal, and an owner of its part.
use Rattle.std.proofs.Common.{◌≡◌, ◌⊎◌, inl, inr, refl, sym, ap, ◌∙◌, subst, Bool, true, false, List, [], ◌∷◌, ◌++◌, map, Option, Some, None, cond, arith}
use Rattle.std.specs.Prelude.{option_to_list}
use Rattle.std.proofs.lemmas.List.Concat.{flat_map-append}
use Rattle.model_data.specs.declared.batch.AttemptOf.{AttemptOf}
use Rattle.model_data.specs.declared.batch.BatchRecord.{BatchRecord}
use Rattle.model_data.specs.declared.batch.BatchRecord.TheVariants.{Create, Abort, Discard, Retry, Finish, Lost, Next}
use Rattle.table_defs.specs.Names.{Owner, is_owner}
use Rattle.table_defs.specs.Owned.{items_of, lost_record, part_of_record, records_of}
use Rattle.cluster_defs.specs.Journal.{AreThere, Event, Follows, IsPending, Journal, Reaches, further, none_yet, own_events, start, was_failed, was_kept, was_not_opened, was_opened}
use Rattle.table_defs.proofs.Lists.{append_nil}

-- ---- the journal is what may be believed

-- none in doubt, or one that is pending
abbrev IsDoubt : Option BatchRecord → List Event → Type 0
IsDoubt doubt events = (r : BatchRecord) → doubt ≡ Some r → IsPending r events

no_doubt : (doubt : Option BatchRecord) (events : List Event) → doubt ≡ None → IsDoubt doubt events
no_doubt doubt events none r is = absurd (grind (arith, none, is))

some_is : (r s : BatchRecord) → Some r ≡ Some s → s ≡ r
some_is r s h = grind (arith, h)

there_with : (events : List Event) (rs now : List BatchRecord) (doubt : Option BatchRecord) → AreThere events rs → IsDoubt doubt events → now ≡ rs ++ option_to_list doubt → AreThere (was_opened ∷ events) now
there_with events rs now None there pending is = inl (subst (AreThere events) (sym (is ∙ append_nil rs)) there)
there_with events rs now (Some r) there pending is = inr (rs, r, there, pending r refl, is)

pub record IsBelieved (events : List Event) (j : Journal) : Type 0 where
  pub there : AreThere events j.records
  pub doubt : IsDoubt j.doubt events

follows_believed : (event : Event) (events : List Event) (j next : Journal) → Follows event j next → IsBelieved events j → IsBelieved (event ∷ events) next
follows_believed (was_kept r) events j next f b = record { there = (j.records, b.there, f.1.0); doubt = no_doubt next.doubt (was_kept r ∷ events) f.1.1 }
follows_believed (was_failed r) events j next f b = record {
  there = subst (AreThere events) (sym f.1.0) b.there;
  doubt = elim f.1.1 [ inl as_it_was ↦ λ s is. inr (b.doubt s (sym as_it_was ∙ is)) | inr new ↦ elim new [ inl here ↦ λ s is. inl (some_is r s (sym here ∙ is)) | inr gone ↦ no_doubt next.doubt (was_failed r ∷ events) gone ] ];
}
follows_believed was_not_opened events j next f b = record { there = subst (AreThere events) (sym f.1.0) b.there; doubt = λ s is. b.doubt s (sym f.1.1 ∙ is) }
follows_believed was_opened events j next f b = record {
  there = elim f.1.0 [ inl as_it_was ↦ inl (subst (AreThere events) (sym as_it_was) b.there) | inr longer ↦ there_with events j.records next.records j.doubt b.there b.doubt longer ];
  doubt = no_doubt next.doubt (was_opened ∷ events) f.1.1;
}

none_believed : IsBelieved [] none_yet
none_believed = record { there = refl; doubt = no_doubt None [] refl }

pub reached_believed : {events : List Event} {j : Journal} → Reaches events j → IsBelieved events j
reached_believed start = none_believed
reached_believed (further {events = events} {j = j} event next r f) = follows_believed event events j next f (reached_believed r)

-- ---- an owner's part

-- of each record nothing is the owner's, or one record
abbrev IsNoneOrOne : List BatchRecord → Type 0
IsNoneOrOne rs = (rs ≡ []) ⊎ ((r : BatchRecord) × (rs ≡ r ∷ []))

only_one : (b : Bool) (r : BatchRecord) → IsNoneOrOne (cond b (r ∷ []) [])
only_one true r = inr (r, refl)
only_one false r = inl refl

lost_one : (items : List AttemptOf) → IsNoneOrOne (lost_record items)
lost_one [] = inl refl
lost_one (item ∷ items) = inr (Lost (item ∷ items), refl)

part_one : (u : Owner) (r : BatchRecord) → IsNoneOrOne (part_of_record u r)
part_one u (Create id attempt body) = only_one (is_owner u id.owner) _
part_one u (Abort id attempt) = only_one (is_owner u id.owner) _
part_one u (Discard id) = only_one (is_owner u id.owner) _
part_one u (Retry id attempt) = only_one (is_owner u id.owner) _
part_one u (Finish id attempt result) = only_one (is_owner u id.owner) _
part_one u (Lost items) = lost_one (items_of u items)
part_one u (Next id) = only_one (is_owner u id.owner) _

records_more : (u : Owner) (rs : List BatchRecord) (r : BatchRecord) (part : List BatchRecord) → part_of_record u r ≡ part → records_of u (rs ++ r ∷ []) ≡ records_of u rs ++ part
records_more u rs r part is = flat_map-append (part_of_record u) rs (r ∷ []) ∙ (ap (λ (x : List BatchRecord). records_of u rs ++ x) (append_nil (part_of_record u r)) ∙ ap (λ (x : List BatchRecord). records_of u rs ++ x) is)

pending_then : (s : BatchRecord) (part : List BatchRecord) (events : List Event) → IsNoneOrOne part → IsPending s events → IsPending s (map was_failed part ++ events)
pending_then s part events one h = elim one [ inl none ↦ subst (λ (x : List BatchRecord). IsPending s (map was_failed x ++ events)) (sym none) h | inr some ↦ subst (λ (x : List BatchRecord). IsPending s (map was_failed x ++ events)) (sym some.1) (inr h) ]

own_pending : (u : Owner) (r s : BatchRecord) (events : List Event) → part_of_record u r ≡ s ∷ [] → IsPending r events → IsPending s (own_events u events)
own_pending u r s [] is h = h
own_pending u r s (was_kept q ∷ events) is h = absurd h
own_pending u r s (was_failed q ∷ events) is h = elim h [
  | inl same ↦ subst (λ (x : List BatchRecord). IsPending s (map was_failed x ++ own_events u events)) (sym (ap (part_of_record u) (sym same) ∙ is)) (inl refl)
  | inr earlier ↦ pending_then s (part_of_record u q) (own_events u events) (part_one u q) (own_pending u r s events is earlier)
]
own_pending u r s (was_not_opened ∷ events) is h = own_pending u r s events is h
own_pending u r s (was_opened ∷ events) is h = absurd h

there_kept : (u : Owner) (part rs before : List BatchRecord) (events : List Event) → IsNoneOrOne part → rs ≡ before ++ part → AreThere events before → AreThere (map was_kept part ++ events) rs
there_kept u part rs before events one is h = elim one [
  | inl none ↦ subst (λ (x : List BatchRecord). AreThere (map was_kept x ++ events) rs) (sym none) (subst (AreThere events) (sym (is ∙ (ap (λ (x : List BatchRecord). before ++ x) none ∙ append_nil before))) h)
  | inr some ↦ subst (λ (x : List BatchRecord). AreThere (map was_kept x ++ events) rs) (sym some.1) (before, h, is ∙ ap (λ (x : List BatchRecord). before ++ x) some.1)
]

there_failed : (part rs : List BatchRecord) (events : List Event) → IsNoneOrOne part → AreThere events rs → AreThere (map was_failed part ++ events) rs
there_failed part rs events one h = elim one [ inl none ↦ subst (λ (x : List BatchRecord). AreThere (map was_failed x ++ events) rs) (sym none) h | inr some ↦ subst (λ (x : List BatchRecord). AreThere (map was_failed x ++ events) rs) (sym some.1) h ]

pub own_there : (u : Owner) (events : List Event) (rs : List BatchRecord) → AreThere events rs → AreThere (own_events u events) (records_of u rs)
own_there u [] rs h = ap (records_of u) h
own_there u (was_kept r ∷ events) rs h = there_kept u (part_of_record u r) (records_of u rs) (records_of u h.0) (own_events u events) (part_one u r) (ap (records_of u) h.2 ∙ records_more u h.0 r (part_of_record u r) refl) (own_there u events h.0 h.1)
own_there u (was_failed r ∷ events) rs h = there_failed (part_of_record u r) (records_of u rs) (own_events u events) (part_one u r) (own_there u events rs h)
own_there u (was_not_opened ∷ events) rs h = own_there u events rs h
own_there u (was_opened ∷ events) rs h = elim h [
  | inl same ↦ inl (own_there u events rs same)
  | inr more ↦ elim (part_one u more.1) [
    | inl none ↦ inl (subst (AreThere (own_events u events)) (sym (ap (records_of u) more.4 ∙ (records_more u more.0 more.1 [] none ∙ append_nil (records_of u more.0)))) (own_there u events more.0 more.2))
    | inr some ↦ inr (records_of u more.0, some.0, own_there u events more.0 more.2, own_pending u more.1 some.0 events some.1 more.3, ap (records_of u) more.4 ∙ records_more u more.0 more.1 (some.0 ∷ []) some.1)
  ]
]
