-- The journal's end is that of its records, through each opening.
use Rattle.std.proofs.Common.{◌≡◌, sym, ap, ◌∙◌, subst, ℕ, suc, ◌+◌, List, [], ◌∷◌, ◌++◌, Option, Some, None, arith}
use Rattle.std.specs.Prelude.{option_to_list}
use Rattle.std.proofs.lemmas.List.Sums.{sum_by_push}
use Rattle.model_data.specs.declared.batch.BatchRecord.{BatchRecord}
use Rattle.table_defs.proofs.Keyed.{keyed_after}
use Rattle.cluster_defs.specs.Cluster.{Cluster}
use Rattle.cluster_defs.specs.Deeds.{Deed, Faults}
use Rattle.cluster_defs.specs.Ends.{bytes_of, end_of}
use Rattle.cluster_defs.specs.Entries.{Entry, EntryReply, faults_of}
use Rattle.cluster_defs.specs.Journal.{Becomes, Event, Journal, further, table_behind, was_failed, was_kept, was_not_opened, was_opened}
use Rattle.cluster_defs.specs.Legal.{GivenBack, IsLegal, IsLegalFrom, back_at, cluster_from, given_back}
use Rattle.cluster_defs.specs.Life.{Brings, Life, Opening, Tells, cluster_at, event_in, events_from, events_of}
use Rattle.cluster_defs.specs.Opened.{opened}
use Rattle.cluster_defs.specs.Site.{Site}
use Rattle.cluster_defs.specs.Step.{step}
use Rattle.cluster_laws.specs.Sound.{IsSound}
use Rattle.cluster_laws.proofs.Journals.{reached_sound}
use Rattle.cluster_laws.proofs.Lives.{back_good, back_journal, life_reaches}
use Rattle.cluster_laws.proofs.Records.{step_tells}
use Rattle.cluster_laws.proofs.SoundOpenings.{opened_is_good}
use Rattle.cluster_laws.proofs.SoundSteps.{step_is_good}

-- ---- one event

pub end_push : (k : Site) (rs : List BatchRecord) (r : BatchRecord) → end_of k (rs ++ r ∷ []) ≡ end_of k rs + 5 + k.record_bytes r
end_push k rs r = let e = sum_by_push (bytes_of k) rs r in omega (arith, e)

pub kept_end : (k : Site) (c d : Cluster) (r : BatchRecord) (before now : List BatchRecord) → d.journal ≡ c.journal + 5 + k.record_bytes r → c.journal ≡ end_of k before → now ≡ before ++ r ∷ [] → d.journal ≡ end_of k now
kept_end k c d r before now rises same is = let e : end_of k now ≡ end_of k before + 5 + k.record_bytes r = ap (end_of k) is ∙ end_push k before r in omega (arith, e, rises, same)

event_end : (k : Site) (event : Option Event) (c d : Cluster) (j : Journal) → Tells k event c d → c.journal ≡ end_of k j.records → (more : List Event) (last : Journal) → Brings (option_to_list event ++ more) j last
    → (middle : Journal) × (d.journal ≡ end_of k middle.records) × Brings more middle last
event_end k None c d j tells same more last b = (j, tells.1 ∙ same, b)
event_end k (Some (was_kept r)) c d j tells same more last b = (b.0, kept_end k c d r j.records b.0.records tells.3 same b.1.0, b.2)
event_end k (Some (was_failed r)) c d j tells same more last b = (b.0, tells.2 ∙ (same ∙ sym (ap (end_of k) b.1.0)), b.2)
event_end k (Some was_not_opened) c d j tells same more last b = absurd tells
event_end k (Some was_opened) c d j tells same more last b = absurd tells

rises_by : (k : Site) (event : Option Event) (c d : Cluster) (r : BatchRecord) → event ≡ Some (was_kept r) → Tells k event c d → d.journal ≡ c.journal + 5 + k.record_bytes r
rises_by k event c d r is tells = let t : Tells k (Some (was_kept r)) c d = subst (λ (e : Option Event). Tells k e c d) is tells in t.3

stays_by : (k : Site) (event : Option Event) (c d : Cluster) → event ≡ None → Tells k event c d → d.journal ≡ c.journal
stays_by k event c d is tells = let t : Tells k None c d = subst (λ (e : Option Event). Tells k e c d) is tells in t.1

pub kept_raises : (k : Site) (c : Cluster) (d : Deed) (f : Faults) (r : BatchRecord) → IsSound c → event_in c d (step k c d f).reply ≡ Some (was_kept r) → (step k c d f).next.journal ≡ c.journal + 5 + k.record_bytes r
kept_raises k c d f r good is = rises_by k (event_in c d (step k c d f).reply) c (step k c d f).next r is (step_tells k c d f good)

pub nothing_raises : (k : Site) (c : Cluster) (d : Deed) (f : Faults) → IsSound c → event_in c d (step k c d f).reply ≡ None → (step k c d f).next.journal ≡ c.journal
nothing_raises k c d f good is = stays_by k (event_in c d (step k c d f).reply) c (step k c d f).next is (step_tells k c d f good)

-- ---- a history

history_end : (k : Site) (H : List Entry) (N : List GivenBack) (n faults : ℕ) (c : Cluster) (j last : Journal) → IsLegalFrom k n faults c N H → IsSound c → c.journal ≡ end_of k j.records → Brings (events_from k n c N H) j last → (cluster_from k n c N H).journal ≡ end_of k last.records
history_end k [] N n faults c j last legal good same b = back_journal (back_at n N) c ∙ (same ∙ ap (λ (x : Journal). end_of k x.records) (sym b))
history_end k (e ∷ es) N n faults c j last legal good same b =
    let d = given_back (back_at n N) c in
    let g : IsSound d = back_good (back_at n N) c good in
    let next = (step k d e.deed (faults_of e)).next in
    let event = event_in d e.deed e.reply in
    let tells : Tells k event d next = subst (λ (reply : EntryReply). Tells k (event_in d e.deed reply) d next) (sym legal.1.reply) (step_tells k d e.deed (faults_of e) g) in
    let more = events_from k (suc n) next N es in
    let m = event_end k event d next j tells (back_journal (back_at n N) c ∙ same) more last b in
    history_end k es N (suc n) e.after next m.0 last legal.2 (step_is_good k d e.deed (faults_of e) g) m.1 m.2

pub life_end : {k : Site} {events : List Event} {j : Journal} (first last : Journal) (o : Opening) → Life k events j → Becomes was_opened j first → o.end ≡ end_of k first.records → IsLegal k (table_behind first) o.end o.faults o.history o.returned
    → Brings (events_of k (table_behind first) o) first last → (cluster_at k (table_behind first) o).journal ≡ end_of k last.records
life_end {k} first last o before becomes ended legal brings =
    let t = table_behind first in
    let taken = (reached_sound (further was_opened first (life_reaches before) (tt, becomes))).taken in
    history_end k o.history o.returned 0 o.faults (opened k t o.end) first last legal (opened_is_good k t o.end (keyed_after first.records taken)) ended brings
