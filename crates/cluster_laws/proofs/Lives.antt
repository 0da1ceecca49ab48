-- Over a life of openings the journal has what its events tell, and each cluster's table is that of its journal.
use Rattle.std.proofs.Common.{◌≡◌, refl, sym, ap, ◌∙◌, subst, ℕ, suc, List, [], ◌∷◌, ◌++◌, Option, Some, None}
use Rattle.std.specs.Prelude.{option_to_list}
use Rattle.model_data.specs.declared.batch.BatchRecord.{BatchRecord}
use Rattle.table_defs.specs.Names.{Owner}
use Rattle.table_defs.specs.Owned.{records_of, table_of}
use Rattle.table_defs.specs.Table.{after, applied, no_rows}
use Rattle.table_defs.specs.Taken.{first_refusal, refusal}
use Rattle.cluster_defs.specs.Cluster.{Cluster}
use Rattle.cluster_defs.specs.Entries.{faults_of}
use Rattle.cluster_defs.specs.Journal.{Becomes, Event, Journal, Reaches, further, start, table_behind, was_failed, was_kept, was_not_opened, was_opened}
use Rattle.cluster_defs.specs.Legal.{GivenBack, IsLegal, IsLegalFrom, back_at, cluster_behind, cluster_from, given_back}
use Rattle.cluster_defs.specs.Life.{Brings, Life, Opening, Tells, cluster_at, event_in, events_from, events_of, in_doubt, lived, onto, opened_in_vain, stopped_in, untouched}
use Rattle.cluster_defs.specs.Opened.{opened}
use Rattle.cluster_defs.specs.Site.{Site}
use Rattle.cluster_laws.specs.Sound.{IsSound}
use Rattle.cluster_defs.specs.Step.{step, with_returned}
use Rattle.cluster_defs.specs.Told.{well}
use Rattle.table_defs.proofs.Keyed.{keyed_after}
use Rattle.table_defs.proofs.Lists.{append_nil}
use Rattle.table_defs.proofs.Owned.{part_of_all}
use Rattle.table_defs.proofs.Records.{after_append}
use Rattle.cluster_laws.proofs.Journals.{reached_sound}
use Rattle.cluster_laws.proofs.Records.{step_tells}
use Rattle.cluster_laws.proofs.SoundOpenings.{opened_is_good}
use Rattle.cluster_laws.proofs.SoundSteps.{step_is_good}
use Rattle.cluster_defs.specs.Deeds.{Deed}
use Rattle.cluster_defs.specs.Entries.{Entry}
use Rattle.cluster_defs.specs.Entries.{EntryReply}

-- ---- works given back

pub back_good : (gs : List GivenBack) (c : Cluster) → IsSound c → IsSound (given_back gs c)
back_good [] c good = good
back_good (g ∷ gs) c good = back_good gs (with_returned c g.id g.attempt) (record { sound = good.sound; numbered = good.numbered })

pub back_table : (gs : List GivenBack) (c : Cluster) → (given_back gs c).table ≡ c.table
back_table [] c = refl
back_table (g ∷ gs) c = back_table gs (with_returned c g.id g.attempt)

pub back_journal : (gs : List GivenBack) (c : Cluster) → (given_back gs c).journal ≡ c.journal
back_journal [] c = refl
back_journal (g ∷ gs) c = back_journal gs (with_returned c g.id g.attempt)

-- ---- each cluster of a history is good

pub good_from : (k : Site) (H : List Entry) (N : List GivenBack) (n : ℕ) (c : Cluster) → IsSound c → IsSound (cluster_from k n c N H)
good_from k [] N n c good = back_good (back_at n N) c good
good_from k (e ∷ es) N n c good = good_from k es N (suc n) _ (step_is_good k (given_back (back_at n N) c) e.deed (faults_of e) (back_good (back_at n N) c good))

pub behind_good : (k : Site) (rs : List BatchRecord) (end : ℕ) (H : List Entry) (N : List GivenBack) → first_refusal rs no_rows ≡ None → IsSound (cluster_behind k (after rs no_rows) end H N)
behind_good k rs end H N taken = good_from k H N 0 (opened k (after rs no_rows) end) (opened_is_good k (after rs no_rows) end (keyed_after rs taken))

-- ---- one event

-- What stands behind an event is its journal's table again.
event_table : (k : Site) (event : Option Event) (c d : Cluster) (j : Journal) (events : List Event) → Tells k event c d → c.table ≡ table_behind j → Reaches events j → (more : List Event) (last : Journal)
    → Brings (option_to_list event ++ more) j last → (middle : Journal) × Reaches (onto (option_to_list event) events) middle × (d.table ≡ table_behind middle) × Brings more middle last
event_table k None c d j events tells same r more last b = (j, r, tells.0 ∙ same, b)
event_table k (Some (was_kept s)) c d j events tells same r more last b =
    (b.0, further (was_kept s) b.0 r (ap (refusal s) (sym same) ∙ tells.0, b.1), tells.2 ∙ (ap (applied s) same ∙ sym (ap (λ (rs : List BatchRecord). after rs no_rows) b.1.0 ∙ after_append j.records (s ∷ []) no_rows)), b.2)
event_table k (Some (was_failed s)) c d j events tells same r more last b =
    (b.0, further (was_failed s) b.0 r (ap (refusal s) (sym same) ∙ tells.0, b.1), tells.1 ∙ (same ∙ sym (ap (λ (rs : List BatchRecord). after rs no_rows) b.1.0)), b.2)
event_table k (Some was_not_opened) c d j events tells same r more last b = absurd tells
event_table k (Some was_opened) c d j events tells same r more last b = absurd tells

-- with what holds of the journal before it, and of each that the event may make of it
pub event_with : (k : Site) (event : Option Event) (c d : Cluster) (j : Journal) (events : List Event) → Tells k event c d → c.table ≡ table_behind j → Reaches events j → (more : List Event) (last : Journal)
    → Brings (option_to_list event ++ more) j last → (Q : Journal → Type 0) → Q j → ((e : Event) (n : Journal) → event ≡ Some e → Becomes e j n → Q n) → (middle : Journal) × Reaches (onto (option_to_list event) events) middle × (d.table ≡ table_behind middle) × Brings more middle last × Q middle
event_with k None c d j events tells same r more last b Q q each = (j, r, tells.0 ∙ same, b, q)
event_with k (Some (was_kept s)) c d j events tells same r more last b Q q each =
    (b.0, further (was_kept s) b.0 r (ap (refusal s) (sym same) ∙ tells.0, b.1), tells.2 ∙ (ap (applied s) same ∙ sym (ap (λ (rs : List BatchRecord). after rs no_rows) b.1.0 ∙ after_append j.records (s ∷ []) no_rows)), b.2, each (was_kept s) b.0 refl b.1)
event_with k (Some (was_failed s)) c d j events tells same r more last b Q q each =
    (b.0, further (was_failed s) b.0 r (ap (refusal s) (sym same) ∙ tells.0, b.1), tells.1 ∙ (same ∙ sym (ap (λ (rs : List BatchRecord). after rs no_rows) b.1.0)), b.2, each (was_failed s) b.0 refl b.1)
event_with k (Some was_not_opened) c d j events tells same r more last b Q q each = absurd tells
event_with k (Some was_opened) c d j events tells same r more last b Q q each = absurd tells

onto_append : (xs ys events : List Event) → onto (xs ++ ys) events ≡ onto ys (onto xs events)
onto_append [] ys events = refl
onto_append (x ∷ xs) ys events = onto_append xs ys (x ∷ events)

-- ---- a history

abbrev pub Ends : Site → Cluster → List Event → Journal → Type 0
Ends k c events j = Reaches events j × (c.table ≡ table_behind j)

history_ends : (k : Site) (H : List Entry) (N : List GivenBack) (n faults : ℕ) (c : Cluster) (j last : Journal) (events : List Event) → IsLegalFrom k n faults c N H → IsSound c → c.table ≡ table_behind j → Reaches events j
    → Brings (events_from k n c N H) j last → Ends k (cluster_from k n c N H) (onto (events_from k n c N H) events) last
history_ends k [] N n faults c j last events legal good same r b = (subst (Reaches events) (sym b) r, back_table (back_at n N) c ∙ (same ∙ ap table_behind (sym b)))
history_ends k (e ∷ es) N n faults c j last events legal good same r b =
    let d = given_back (back_at n N) c in
    let g : IsSound d = back_good (back_at n N) c good in
    let next = (step k d e.deed (faults_of e)).next in
    let event = event_in d e.deed e.reply in
    let tells : Tells k event d next = subst (λ (reply : EntryReply). Tells k (event_in d e.deed reply) d next) (sym legal.1.reply) (step_tells k d e.deed (faults_of e) g) in
    let more = events_from k (suc n) next N es in
    let m = event_table k event d next j events tells (back_table (back_at n N) c ∙ same) r more last b in
    let rest = history_ends k es N (suc n) e.after next m.0 last (onto (option_to_list event) events) legal.2 (step_is_good k d e.deed (faults_of e) g) m.2 m.1 m.3 in
    (subst (λ (es : List Event). Reaches es last) (sym (onto_append (option_to_list event) more events)) rest.0, rest.1)

-- ---- a stop

stop_tells : (k : Site) (event : Option Event) (c d : Cluster) → Tells k event c d → Tells k (in_doubt event) c c
stop_tells k None c d tells = (refl, refl)
stop_tells k (Some (was_kept r)) c d tells = (tells.0, refl, refl)
stop_tells k (Some (was_failed r)) c d tells = (refl, refl)
stop_tells k (Some was_not_opened) c d tells = absurd tells
stop_tells k (Some was_opened) c d tells = absurd tells

pub stopped_tells : (k : Site) (c : Cluster) (deed : Option Deed) → IsSound c → Tells k (stopped_in k c deed) c c
stopped_tells k c None good = (refl, refl)
stopped_tells k c (Some deed) good = stop_tells k (event_in c deed (step k c deed well).reply) c (step k c deed well).next (step_tells k c deed well good)

stop_ends : (k : Site) (event : Option Event) (c : Cluster) (j next : Journal) (events : List Event) → Tells k event c c → c.table ≡ table_behind j → Reaches events j → Brings (option_to_list event) j next → Ends k c (onto (option_to_list event) events) next
stop_ends k event c j next events tells same r b =
    let m = event_table k event c c j events tells same r [] next (subst (λ (es : List Event). Brings es j next) (sym (append_nil (option_to_list event))) b) in
    (subst (Reaches (onto (option_to_list event) events)) (sym m.3) m.1, m.2 ∙ ap table_behind (sym m.3))

-- ---- a life

-- The journal of a life is reached by its events, so each of its records is taken.
pub life_reaches : {k : Site} {events : List Event} {j : Journal} → Life k events j → Reaches events j
life_reaches untouched = start
life_reaches (opened_in_vain next before becomes) = further was_not_opened next (life_reaches before) (tt, becomes)
life_reaches {k} (lived {events = events} {j = j} first last next o before becomes ended legal may brings stops) =
    let r : Reaches (was_opened ∷ events) first = further was_opened first (life_reaches before) (tt, becomes) in
    let t = table_behind first in
    let g = opened_is_good k t o.end (keyed_after first.records (reached_sound r).taken) in
    let h = history_ends k o.history o.returned 0 o.faults (opened k t o.end) first last (was_opened ∷ events) legal g refl r brings in
    let c = cluster_at k t o in
    (stop_ends k (stopped_in k c o.under_way) c last next (onto (events_of k t o) (was_opened ∷ events)) (stopped_tells k c o.under_way (good_from k o.history o.returned 0 (opened k t o.end) g)) h.1 h.0 stops).0

-- Through each opening the cluster's table is that of the journal, and an owner's that of its part of it.
pub life_table : {k : Site} {events : List Event} {j : Journal} (first last : Journal) (o : Opening) → Life k events j → Becomes was_opened j first → IsLegal k (table_behind first) o.end o.faults o.history o.returned → Brings (events_of k (table_behind first) o) first last
    → (cluster_at k (table_behind first) o).table ≡ table_behind last
life_table {k} {events} first last o before becomes legal brings =
    let r : Reaches (was_opened ∷ events) first = further was_opened first (life_reaches before) (tt, becomes) in
    let t = table_behind first in
    (history_ends k o.history o.returned 0 o.faults (opened k t o.end) first last (was_opened ∷ events) legal (opened_is_good k t o.end (keyed_after first.records (reached_sound r).taken)) refl r brings).1

pub life_owner : {k : Site} {events : List Event} {j : Journal} (u : Owner) (first last : Journal) (o : Opening) → Life k events j → Becomes was_opened j first → IsLegal k (table_behind first) o.end o.faults o.history o.returned → Brings (events_of k (table_behind first) o) first last
    → table_of u (cluster_at k (table_behind first) o).table ≡ after (records_of u last.records) no_rows
life_owner u first last o before becomes legal brings = ap (table_of u) (life_table first last o before becomes legal brings) ∙ part_of_all u last.records no_rows
