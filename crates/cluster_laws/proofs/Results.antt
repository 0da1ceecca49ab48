-- Through a life each result that the journal holds is the plain one.
use Rattle.std.proofs.Common.{◌≡◌, inl, inr, refl, sym, ◌∙◌, subst, ℕ, suc, Bool, true, false, List, [], ◌∷◌, ◌++◌, Option, Some, None, cond, arith}
use Rattle.std.specs.Prelude.{⊤, IfSome, option_to_list}
use Rattle.base_names.specs.declared.refusal.Refusal.TheVariants.{DISK}
use Rattle.base_names.specs.declared.seat.Seat.{Seat}
use Rattle.model_data.specs.declared.batch.AttemptOf.{AttemptOf}
use Rattle.model_data.specs.declared.batch.BatchRecord.{BatchRecord}
use Rattle.model_data.specs.declared.batch.BatchRecord.TheVariants as is
use Rattle.table_defs.specs.Table.{Table, after, applied, no_rows, row_of}
use Rattle.cluster_defs.specs.Appended.{lost_with, record_of}
use Rattle.cluster_defs.specs.Cluster.{Cluster, attempts_at}
use Rattle.cluster_defs.specs.Entries.{faults_of}
use Rattle.cluster_defs.specs.Journal.{Becomes, Event, Journal, Reaches, further, none_yet, table_behind, was_failed, was_kept, was_not_opened, was_opened}
use Rattle.cluster_defs.specs.Legal.{GivenBack, IsLegalFrom, MayHappen, back_at, given_back}
use Rattle.cluster_defs.specs.Life.{Brings, Life, Tells, cluster_at, event_in, event_of, events_from, in_doubt, lived, onto, opened_in_vain, stopped_in, told_of, untouched}
use Rattle.cluster_defs.specs.Opened.{opened}
use Rattle.cluster_defs.specs.Plain.{ArePlain, IsPlain}
use Rattle.cluster_defs.specs.Site.{Site}
use Rattle.cluster_laws.specs.Sound.{IsSound}
use Rattle.cluster_defs.specs.Step.{step, still_open}
use Rattle.cluster_defs.specs.Told.{well}
use Rattle.table_defs.proofs.Keyed.{keyed_after}
use Rattle.table_defs.proofs.Lists.{append_nil}
use Rattle.cluster_laws.proofs.Journals.{reached_sound}
use Rattle.cluster_laws.proofs.Lives.{back_good, back_table, event_with, life_reaches, life_table}
use Rattle.cluster_laws.proofs.Records.{step_tells}
use Rattle.cluster_laws.proofs.SoundOpenings.{opened_is_good}
use Rattle.cluster_laws.proofs.SoundSteps.{step_is_good}
use Rattle.cluster_defs.specs.Asks.{Ask}
use Rattle.cluster_defs.specs.Asks as asks
use Rattle.cluster_defs.specs.Deeds.{Deed}
use Rattle.cluster_defs.specs.Deeds.{Asked, Took, Finished, Left}
use Rattle.cluster_defs.specs.Entries.{Entry}
use Rattle.cluster_defs.specs.Entries.{EntryReply}
use Rattle.cluster_defs.specs.Entries as answers
use Rattle.cluster_defs.specs.Deeds.{Kept, Disk}
use Rattle.cluster_defs.specs.Replies as tells

-- ---- one event

abbrev IsPlainEvent : Site → Table → Option Event → Type 0
IsPlainEvent k t None = ⊤
IsPlainEvent k t (Some (was_kept r)) = IsPlain k r t
IsPlainEvent k t (Some (was_failed r)) = IsPlain k r t
IsPlainEvent k t (Some was_not_opened) = ⊤
IsPlainEvent k t (Some was_opened) = ⊤

told_plain : (k : Site) (t : Table) (reply : EntryReply) (r : BatchRecord) → IsPlain k r t → IsPlainEvent k t (told_of reply r)
told_plain k t (answers.Reply (tells.Refused (DISK before after))) r h = h
told_plain k t (answers.Reply (tells.Refused refusal)) r h = tt
told_plain k t (answers.Reply reply) r h = h
told_plain k t (answers.Finish Kept) r h = h
told_plain k t (answers.Finish (Disk before after)) r h = h
told_plain k t reply r h = tt

abbrev IsPlainOne : Site → Table → Option BatchRecord → Type 0
IsPlainOne k t None = ⊤
IsPlainOne k t (Some r) = IsPlain k r t

one_plain : (k : Site) (t : Table) (reply : EntryReply) (r : Option BatchRecord) → IsPlainOne k t r → IsPlainEvent k t (event_of reply r)
one_plain k t reply None h = tt
one_plain k t reply (Some r) h = told_plain k t reply r h

lost_plain : (k : Site) (t : Table) (items : List AttemptOf) → IsPlainOne k t (lost_with items)
lost_plain k t [] = tt
lost_plain k t (item ∷ items) = tt

ask_plain : (k : Site) (c : Cluster) (seat : Seat) (ask : Ask) → IsPlainOne k c.table (record_of c.table c.placed seat ask)
ask_plain k c seat (asks.Create body) = tt
ask_plain k c seat (asks.Abort id) = tt
ask_plain k c seat (asks.Discard id) = tt
ask_plain k c seat (asks.Retry id) = tt
ask_plain k c seat (asks.Fail node) = lost_plain k c.table (attempts_at node c.placed)
ask_plain k c seat ask = tt

finish_plain : (k : Site) (t : Table) (r : BatchRecord) (b : Bool) → IsPlain k r t → IsPlainOne k t (cond b (Some r) None)
finish_plain k t r true h = h
finish_plain k t r false h = tt

event_plain : (k : Site) (c : Cluster) (deed : Deed) (reply : EntryReply) → MayHappen k c deed → IsPlainEvent k c.table (event_in c deed reply)
event_plain k c (Asked seat ask) reply may = one_plain k c.table reply (record_of c.table c.placed seat ask) (ask_plain k c seat ask)
event_plain k c (Took worker id n) reply may = tt
event_plain k c (Finished id n result) reply may = one_plain k c.table reply _ (finish_plain k c.table (is.Finish id n result) (still_open n (row_of id c.table)) may)
event_plain k c (Left id n) reply may = tt

doubt_plain : (k : Site) (t : Table) (event : Option Event) → IsPlainEvent k t event → IsPlainEvent k t (in_doubt event)
doubt_plain k t None h = tt
doubt_plain k t (Some (was_kept r)) h = h
doubt_plain k t (Some (was_failed r)) h = tt
doubt_plain k t (Some was_not_opened) h = tt
doubt_plain k t (Some was_opened) h = tt

-- ---- a journal

plain_more : (k : Site) (rs : List BatchRecord) (r : BatchRecord) (t : Table) → ArePlain k rs t → IsPlain k r (after rs t) → ArePlain k (rs ++ r ∷ []) t
plain_more k [] r t h last = (last, tt)
plain_more k (q ∷ rs) r t h last = (h.0, plain_more k rs r (applied q t) h.1 last)

pub record IsPlainJournal (k : Site) (j : Journal) : Type 0 where
  pub there : ArePlain k j.records no_rows
  pub doubt : (r : BatchRecord) → j.doubt ≡ Some r → IsPlain k r (table_behind j)

same_records : (k : Site) (j next : Journal) → next.records ≡ j.records → IsPlainJournal k j → ((r : BatchRecord) → next.doubt ≡ Some r → IsPlain k r (table_behind j)) → IsPlainJournal k next
same_records k j next is p doubt = record { there = subst (λ (rs : List BatchRecord). ArePlain k rs no_rows) (sym is) p.there; doubt = λ r h. subst (λ (rs : List BatchRecord). IsPlain k r (after rs no_rows)) (sym is) (doubt r h) }

none_doubt : (k : Site) (t : Table) (doubt : Option BatchRecord) → doubt ≡ None → (r : BatchRecord) → doubt ≡ Some r → IsPlain k r t
none_doubt k t doubt none r is = absurd (grind (arith, none, is))

same_doubt : (k : Site) (t : Table) (s : BatchRecord) (doubt : Option BatchRecord) → doubt ≡ Some s → IsPlain k s t → (r : BatchRecord) → doubt ≡ Some r → IsPlain k r t
same_doubt k t s doubt here h r is = let e : s ≡ r = cc in subst (λ (x : BatchRecord). IsPlain k x t) e h

with_doubt : (k : Site) (j next : Journal) (doubt : Option BatchRecord) → j.doubt ≡ doubt → next.records ≡ j.records ++ option_to_list doubt → next.doubt ≡ None → IsPlainJournal k j → IsPlainJournal k next
with_doubt k j next None is longer none p = same_records k j next (longer ∙ append_nil j.records) p (none_doubt k (table_behind j) next.doubt none)
with_doubt k j next (Some r) is longer none p = record { there = subst (λ (rs : List BatchRecord). ArePlain k rs no_rows) (sym longer) (plain_more k j.records r no_rows p.there (p.doubt r is)); doubt = none_doubt k (table_behind next) next.doubt none }

becomes_plain : (k : Site) (event : Event) (j next : Journal) → Becomes event j next → IsPlainEvent k (table_behind j) (Some event) → IsPlainJournal k j → IsPlainJournal k next
becomes_plain k (was_kept r) j next b h p = record { there = subst (λ (rs : List BatchRecord). ArePlain k rs no_rows) (sym b.0) (plain_more k j.records r no_rows p.there h); doubt = none_doubt k (table_behind next) next.doubt b.1 }
becomes_plain k (was_failed r) j next b h p = elim b.1 [
  | inl as_it_was ↦ same_records k j next b.0 p (λ s is. p.doubt s (sym as_it_was ∙ is))
  | inr other ↦ elim other [ inl here ↦ same_records k j next b.0 p (same_doubt k (table_behind j) r next.doubt here h) | inr gone ↦ same_records k j next b.0 p (none_doubt k (table_behind j) next.doubt gone) ]
]
becomes_plain k was_not_opened j next b h p = same_records k j next b.0 p (λ s is. p.doubt s (sym b.1 ∙ is))
becomes_plain k was_opened j next b h p = elim b.0 [ inl same ↦ same_records k j next same p (none_doubt k (table_behind j) next.doubt b.1) | inr longer ↦ with_doubt k j next j.doubt refl longer b.1 p ]

-- ---- a history and a life

history_plain : (k : Site) (H : List Entry) (N : List GivenBack) (n faults : ℕ) (c : Cluster) (j last : Journal) (events : List Event) → IsLegalFrom k n faults c N H → IsSound c → c.table ≡ table_behind j → Reaches events j
    → Brings (events_from k n c N H) j last → IsPlainJournal k j → IsPlainJournal k last
history_plain k [] N n faults c j last events legal good same r b p = subst (IsPlainJournal k) (sym b) p
history_plain k (e ∷ es) N n faults c j last events legal good same r b p =
    let d = given_back (back_at n N) c in
    let g : IsSound d = back_good (back_at n N) c good in
    let now : d.table ≡ table_behind j = back_table (back_at n N) c ∙ same in
    let next = (step k d e.deed (faults_of e)).next in
    let event = event_in d e.deed e.reply in
    let tells : Tells k event d next = subst (λ (reply : EntryReply). Tells k (event_in d e.deed reply) d next) (sym legal.1.reply) (step_tells k d e.deed (faults_of e) g) in
    let h : IsPlainEvent k (table_behind j) event = subst (λ (t : Table). IsPlainEvent k t event) now (event_plain k d e.deed e.reply legal.1.may) in
    let more = events_from k (suc n) next N es in
    let m = event_with k event d next j events tells now r more last b (IsPlainJournal k) p (λ x i is becomes. becomes_plain k x j i becomes (subst (IsPlainEvent k (table_behind j)) is h) p) in
    history_plain k es N (suc n) e.after next m.0 last (onto (option_to_list event) events) legal.2 (step_is_good k d e.deed (faults_of e) g) m.2 m.1 m.3 m.4

last_plain : (k : Site) (event : Option Event) (j next : Journal) → IsPlainEvent k (table_behind j) event → Brings (option_to_list event) j next → IsPlainJournal k j → IsPlainJournal k next
last_plain k None j next h b p = subst (IsPlainJournal k) (sym b) p
last_plain k (Some event) j next h b p = subst (IsPlainJournal k) (sym b.2) (becomes_plain k event j b.0 b.1 h p)

stop_plain : (k : Site) (c : Cluster) (deed : Option Deed) (j next : Journal) → IfSome deed (MayHappen k c) → c.table ≡ table_behind j → Brings (option_to_list (stopped_in k c deed)) j next → IsPlainJournal k j → IsPlainJournal k next
stop_plain k c None j next may same b p = subst (IsPlainJournal k) (sym b) p
stop_plain k c (Some deed) j next may same b p =
    let reply = (step k c deed well).reply in
    let h : IsPlainEvent k (table_behind j) (in_doubt (event_in c deed reply)) = subst (λ (t : Table). IsPlainEvent k t (in_doubt (event_in c deed reply))) same (doubt_plain k c.table (event_in c deed reply) (event_plain k c deed reply may)) in
    last_plain k (in_doubt (event_in c deed reply)) j next h b p

none_plain : (k : Site) → IsPlainJournal k none_yet
none_plain k = record { there = tt; doubt = none_doubt k (table_behind none_yet) None refl }

pub life_plain : {k : Site} {events : List Event} {j : Journal} → Life k events j → IsPlainJournal k j
life_plain {k} untouched = none_plain k
life_plain {k} (opened_in_vain {j = j} next before becomes) = becomes_plain k was_not_opened j next becomes tt (life_plain before)
life_plain {k} (lived {events = events} {j = j} first last next o before becomes ended legal may brings stops) =
    let r : Reaches (was_opened ∷ events) first = further was_opened first (life_reaches before) (tt, becomes) in
    let t = table_behind first in
    let g = opened_is_good k t o.end (keyed_after first.records (reached_sound r).taken) in
    let p = becomes_plain k was_opened j first becomes tt (life_plain before) in
    let q = history_plain k o.history o.returned 0 o.faults (opened k t o.end) first last (was_opened ∷ events) legal g refl r brings p in
    stop_plain k (cluster_at k t o) o.under_way last next may (life_table first last o before becomes legal brings) stops q
