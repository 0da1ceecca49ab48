-- No number of a batch or of an attempt passes the greatest one.
use Rattle.std.proofs.Common.{◌≡◌, inl, inr, refl, sym, ap, ◌∙◌, subst, ℕ, suc, ◌+◌, ◌≤◌, Bool, true, false, not, List, [], ◌∷◌, ◌++◌, Option, Some, None, cond, arith}
use Rattle.std.specs.Prelude.{⊤, filter, find, nat_lt, option_to_list}
use Rattle.std.proofs.lemmas.Bool.Decides.{nat_tests}
use Rattle.base_names.specs.declared.id.BatchId.{BatchId}
use Rattle.base_names.specs.declared.refusal.OwnerLimit.TheVariants.{Numbers}
use Rattle.base_names.specs.declared.refusal.Refusal.{Refusal}
use Rattle.base_names.specs.declared.refusal.Refusal.TheVariants.{DISK, OWNERFULL}
use Rattle.base_names.specs.declared.seat.Seat.{Seat}
use Rattle.model_data.specs.declared.batch.AttemptOf.{AttemptOf}
use Rattle.model_data.specs.declared.batch.BatchRecord.{BatchRecord}
use Rattle.model_data.specs.declared.batch.BatchRecord.TheVariants as is
use Rattle.model_data.specs.declared.batch.BatchRow.{BatchRow}
use Rattle.table_defs.specs.Names.{Owner, is_id, is_owner}
use Rattle.table_defs.specs.Table.{Mark, Table, aborted, after, applied, begun, completed, ended, failed, greatest, lost, new_row, no_rows, number_of, row_of, with_mark, with_row}
use Rattle.table_defs.proofs.Names.{and_right}
use Rattle.table_defs.proofs.Rows.{unless_none, wanted_row}
use Rattle.cluster_defs.specs.Appended.{attempt_in, lost_with, record_of}
use Rattle.cluster_defs.specs.Asks as asks
use Rattle.cluster_defs.specs.Asks.{Ask}
use Rattle.cluster_defs.specs.Cluster.{Cluster, attempts_at}
use Rattle.cluster_defs.specs.Deeds.{Asked, Deed, Disk, Faults, Finished, Kept, Left, Took}
use Rattle.cluster_defs.specs.Entries as answers
use Rattle.cluster_defs.specs.Entries.{Entry, EntryReply, faults_of}
use Rattle.cluster_defs.specs.Journal.{Becomes, Event, Journal, none_yet, table_behind, was_failed, was_kept, was_not_opened, was_opened}
use Rattle.cluster_defs.specs.Legal.{GivenBack, IsLegalFrom, back_at, given_back}
use Rattle.cluster_defs.specs.Life.{Brings, Life, cluster_at, event_in, event_of, events_from, events_of, in_doubt, lived, opened_in_vain, stopped_in, told_of, untouched}
use Rattle.cluster_defs.specs.Opened.{opened}
use Rattle.cluster_defs.specs.Refusals.{ask_refusal, batch_refusal, commands_refusal, may_retry, most_number, numbers_refusal}
use Rattle.cluster_defs.specs.Replies as tells
use Rattle.cluster_defs.specs.Site.{Site}
use Rattle.cluster_defs.specs.Step.{asked_with, step, still_open, within_limit}
use Rattle.cluster_defs.specs.Told.{well}
use Rattle.cluster_laws.specs.Bounds.{AreSmall, HasSmall, IsSmall}
use Rattle.cluster_laws.specs.Places.{Every}
use Rattle.cluster_laws.proofs.Every.{every_append, every_changed, every_filter, every_push}
use Rattle.cluster_laws.proofs.OwnCommands.{batch_from}
use Rattle.cluster_laws.proofs.Records.{IsOther, commands_other, disk_is_last, disk_other, tells_disk, numbers_from}
use Rattle.cluster_laws.proofs.TakenRecords.{seen_is}

-- ---- tables

abbrev IsMark : Mark → Type 0
IsMark mark = mark.number ≤ most_number

marks_small : (id : BatchId) (marks : List Mark) → id.number ≤ most_number → Every IsMark marks → Every IsMark (with_mark id marks)
marks_small id marks small h = every_push IsMark (filter (λ mark. not (is_owner id.owner mark.owner)) marks) (record { owner = id.owner; number = id.number }) (every_filter IsMark (λ mark. not (is_owner id.owner mark.owner)) marks h) small

lost_small : (items : List AttemptOf) (t : Table) → AreSmall t → AreSmall (lost items t)
lost_small [] t h = h
lost_small (item ∷ items) t h = lost_small items (with_row item.id (ended failed None) t) (record { rows = every_changed HasSmall (λ row. is_id item.id row.id) (ended failed None) (λ row s. s) t.rows h.rows; marks = h.marks })

pub record_keeps_small : (r : BatchRecord) (t : Table) → IsSmall r → AreSmall t → AreSmall (applied r t)
record_keeps_small (is.Create id n body) t small h = record { rows = every_push HasSmall t.rows (new_row id n body) h.rows small; marks = marks_small id t.marks small.0 h.marks }
record_keeps_small (is.Abort id n) t small h = record { rows = every_changed HasSmall (λ row. is_id id row.id) (ended aborted None) (λ row s. s) t.rows h.rows; marks = h.marks }
record_keeps_small (is.Discard id) t small h = record { rows = every_filter HasSmall (λ row. not (is_id id row.id)) t.rows h.rows; marks = h.marks }
record_keeps_small (is.Retry id n) t small h = record { rows = every_changed HasSmall (λ row. is_id id row.id) (begun n) (λ row s. (s.0, small)) t.rows h.rows; marks = h.marks }
record_keeps_small (is.Finish id n result) t small h = record { rows = every_changed HasSmall (λ row. is_id id row.id) (ended completed (Some result)) (λ row s. s) t.rows h.rows; marks = h.marks }
record_keeps_small (is.Lost items) t small h = lost_small items t h
record_keeps_small (is.Next id) t small h = record { rows = h.rows; marks = marks_small id t.marks small h.marks }

pub after_small : (rs : List BatchRecord) (t : Table) → Every IsSmall rs → AreSmall t → AreSmall (after rs t)
after_small [] t small h = h
after_small (r ∷ rs) t small h = after_small rs (applied r t) small.1 (record_keeps_small r t small.0 h)

pub no_rows_small : AreSmall no_rows
no_rows_small = record { rows = tt; marks = tt }

greatest_by : (u : Owner) (mark : Mark) (marks : List Mark) (b : Bool) → mark.number ≤ most_number → number_of (find (λ m. is_owner u m.owner) marks) ≤ most_number → number_of (cond b (Some mark) (find (λ m. is_owner u m.owner) marks)) ≤ most_number
greatest_by u mark marks true small h = small
greatest_by u mark marks false small h = h

greatest_in : (u : Owner) (marks : List Mark) → Every IsMark marks → number_of (find (λ m. is_owner u m.owner) marks) ≤ most_number
greatest_in u [] h = omega arith
greatest_in u (mark ∷ marks) h = greatest_by u mark marks (is_owner u mark.owner) h.0 (greatest_in u marks h.1)

pub greatest_small : (u : Owner) (t : Table) → AreSmall t → greatest u t ≤ most_number
greatest_small u t h = greatest_in u t.marks h.marks

-- ---- what a command appends

abbrev IsSmallOne : Option BatchRecord → Type 0
IsSmallOne None = ⊤
IsSmallOne (Some r) = IsSmall r

lost_one : (items : List AttemptOf) → IsSmallOne (lost_with items)
lost_one [] = tt
lost_one (item ∷ items) = tt

one_up : (n : ℕ) → nat_lt n most_number ≡ true → n + 1 ≤ most_number
one_up n h = grind (arith, nat_tests, h)

retry_small : (found : Option BatchRow) (row : BatchRow) → found ≡ Some row → may_retry row ≡ true → attempt_in found + 1 ≤ most_number
retry_small found row is may = let e : attempt_in found ≡ row.attempt = ap attempt_in is in let h = one_up row.attempt (and_right _ (nat_lt row.attempt most_number) may) in omega (arith, e, h)

record_small : (c : Cluster) (seat : Seat) (ask : Ask) → batch_refusal c.table seat ask ≡ None → numbers_refusal c.table seat ask ≡ None → IsSmallOne (record_of c.table c.placed seat ask)
record_small c seat (asks.Create body) h n = (one_up (greatest seat.owner c.table) (unless_none (nat_lt (greatest seat.owner c.table) most_number) (OWNERFULL Numbers) n), omega arith)
record_small c seat (asks.Abort id) h n = tt
record_small c seat (asks.Discard id) h n = tt
record_small c seat (asks.Retry id) h n = let w = wanted_row may_retry (row_of id c.table) (seen_is (is_owner seat.owner id.owner) may_retry (row_of id c.table) h) in retry_small (row_of id c.table) w.0 w.1 w.2
record_small c seat (asks.Fail node) h n = lost_one (attempts_at node c.placed)
record_small c seat ask h n = tt

-- ---- events

abbrev pub IsSmallEvent : Option Event → Type 0
IsSmallEvent None = ⊤
IsSmallEvent (Some (was_kept r)) = IsSmall r
IsSmallEvent (Some (was_failed r)) = IsSmall r
IsSmallEvent (Some was_not_opened) = ⊤
IsSmallEvent (Some was_opened) = ⊤

told_small : (reply : EntryReply) (r : BatchRecord) → IsSmall r → IsSmallEvent (told_of reply r)
told_small (answers.Reply (tells.Refused (DISK before after))) r h = h
told_small (answers.Reply (tells.Refused refusal)) r h = tt
told_small (answers.Reply reply) r h = h
told_small (answers.Finish Kept) r h = h
told_small (answers.Finish (Disk before after)) r h = h
told_small reply r h = tt

one_small : (reply : EntryReply) (r : Option BatchRecord) → IsSmallOne r → IsSmallEvent (event_of reply r)
one_small reply None h = tt
one_small reply (Some r) h = told_small reply r h

refused_small : (refusal : Refusal) (r : Option BatchRecord) → (tells_disk refusal ≡ true → IsSmallOne r) → IsSmallEvent (event_of (answers.Reply (tells.Refused refusal)) r)
refused_small refusal None h = tt
refused_small (DISK before after) (Some r) h = h refl
refused_small refusal (Some r) h = tt

asked_small : (k : Site) (c : Cluster) (seat : Seat) (ask : Ask) (f : Faults) (x0 x : Option Refusal) → IsOther x0 → ask_refusal k c seat ask f ≡ x → IsSmallEvent (event_of (within_limit c x0 (asked_with k c seat ask x)).reply (record_of c.table c.placed seat ask))
asked_small k c seat ask f (Some r) x other h = refused_small r (record_of c.table c.placed seat ask) (λ disk. absurd (disk_other r other disk))
asked_small k c seat ask f None (Some r) other h = refused_small r (record_of c.table c.placed seat ask) (λ disk. let l = disk_is_last k c seat ask f r disk h in record_small c seat ask l.0 l.1)
asked_small k c seat ask f None None other h = one_small (asked_with k c seat ask None).reply (record_of c.table c.placed seat ask) (record_small c seat ask (batch_from k c seat ask f h) (numbers_from k c seat ask f h))

finish_small : (r : BatchRecord) (b : Bool) → IsSmall r → IsSmallOne (cond b (Some r) None)
finish_small r true h = h
finish_small r false h = tt

pub event_small : (k : Site) (c : Cluster) (d : Deed) (f : Faults) → IsSmallEvent (event_in c d (step k c d f).reply)
event_small k c (Asked seat ask) f = asked_small k c seat ask f (commands_refusal k c.usage c.jobs seat ask) (ask_refusal k c seat ask f) (commands_other _) refl
event_small k c (Took worker id n) f = tt
event_small k c (Finished id n result) f = one_small (step k c (Finished id n result) f).reply _ (finish_small (is.Finish id n result) (still_open n (row_of id c.table)) tt)
event_small k c (Left id n) f = tt

-- ---- a life

abbrev Small : Event → Type 0
Small event = IsSmallEvent (Some event)

pub record IsSmallJournal (j : Journal) : Type 0 where
  pub there : Every IsSmall j.records
  pub doubt : (r : BatchRecord) → j.doubt ≡ Some r → IsSmall r

no_doubt : (doubt : Option BatchRecord) → doubt ≡ None → (r : BatchRecord) → doubt ≡ Some r → IsSmall r
no_doubt doubt none r is = absurd (grind (arith, none, is))

this_doubt : (s : BatchRecord) (doubt : Option BatchRecord) → doubt ≡ Some s → IsSmall s → (r : BatchRecord) → doubt ≡ Some r → IsSmall r
this_doubt s doubt here small r is = let e : s ≡ r = cc in subst IsSmall e small

same_small : (j next : Journal) → next.records ≡ j.records → IsSmallJournal j → ((r : BatchRecord) → next.doubt ≡ Some r → IsSmall r) → IsSmallJournal next
same_small j next is h doubt = record { there = subst (Every IsSmall) (sym is) h.there; doubt = doubt }

longer_small : (j next : Journal) (doubt : Option BatchRecord) → j.doubt ≡ doubt → next.records ≡ j.records ++ option_to_list doubt → next.doubt ≡ None → IsSmallJournal j → IsSmallJournal next
longer_small j next None is longer none h = record { there = subst (Every IsSmall) (sym longer) (every_append IsSmall j.records [] h.there tt); doubt = no_doubt next.doubt none }
longer_small j next (Some r) is longer none h = record { there = subst (Every IsSmall) (sym longer) (every_push IsSmall j.records r h.there (h.doubt r is)); doubt = no_doubt next.doubt none }

becomes_small : (event : Event) (j next : Journal) → Becomes event j next → Small event → IsSmallJournal j → IsSmallJournal next
becomes_small (was_kept r) j next b small h = record { there = subst (Every IsSmall) (sym b.0) (every_push IsSmall j.records r h.there small); doubt = no_doubt next.doubt b.1 }
becomes_small (was_failed r) j next b small h = elim b.1 [
  | inl as_it_was ↦ same_small j next b.0 h (λ s is. h.doubt s (sym as_it_was ∙ is))
  | inr other ↦ elim other [ inl here ↦ same_small j next b.0 h (this_doubt r next.doubt here small) | inr gone ↦ same_small j next b.0 h (no_doubt next.doubt gone) ]
]
becomes_small was_not_opened j next b small h = same_small j next b.0 h (λ s is. h.doubt s (sym b.1 ∙ is))
becomes_small was_opened j next b small h = elim b.0 [ inl same ↦ same_small j next same h (no_doubt next.doubt b.1) | inr longer ↦ longer_small j next j.doubt refl longer b.1 h ]

brings_small : (events : List Event) (j last : Journal) → Every Small events → Brings events j last → IsSmallJournal j → IsSmallJournal last
brings_small [] j last small b h = subst IsSmallJournal (sym b) h
brings_small (event ∷ events) j last small b h = brings_small events b.0 last small.1 b.2 (becomes_small event j b.0 b.1 small.0 h)

one_event : (event : Option Event) → IsSmallEvent event → Every Small (option_to_list event)
one_event None h = tt
one_event (Some event) h = (h, tt)

events_small : (k : Site) (H : List Entry) (N : List GivenBack) (n faults : ℕ) (c : Cluster) → IsLegalFrom k n faults c N H → Every Small (events_from k n c N H)
events_small k [] N n faults c legal = tt
events_small k (e ∷ es) N n faults c legal =
    let d = given_back (back_at n N) c in
    let now : IsSmallEvent (event_in d e.deed e.reply) = subst (λ (reply : EntryReply). IsSmallEvent (event_in d e.deed reply)) (sym legal.1.reply) (event_small k d e.deed (faults_of e)) in
    every_append Small (option_to_list (event_in d e.deed e.reply)) _ (one_event _ now) (events_small k es N (suc n) e.after (step k d e.deed (faults_of e)).next legal.2)

doubt_small : (event : Option Event) → IsSmallEvent event → IsSmallEvent (in_doubt event)
doubt_small None h = tt
doubt_small (Some (was_kept r)) h = h
doubt_small (Some (was_failed r)) h = tt
doubt_small (Some was_not_opened) h = tt
doubt_small (Some was_opened) h = tt

stop_small : (k : Site) (c : Cluster) (deed : Option Deed) → IsSmallEvent (stopped_in k c deed)
stop_small k c None = tt
stop_small k c (Some deed) = doubt_small (event_in c deed (step k c deed well).reply) (event_small k c deed well)

none_small : IsSmallJournal none_yet
none_small = record { there = tt; doubt = no_doubt None refl }

pub life_small : {k : Site} {events : List Event} {j : Journal} → Life k events j → IsSmallJournal j
life_small {k} untouched = none_small
life_small {k} (opened_in_vain {j = j} next before becomes) = becomes_small was_not_opened j next becomes tt (life_small before)
life_small {k} (lived {events = events} {j = j} first last next o before becomes ended legal may brings stops) =
    let p = becomes_small was_opened j first becomes tt (life_small before) in
    let q = brings_small (events_of k (table_behind first) o) first last (events_small k o.history o.returned 0 o.faults (opened k (table_behind first) o.end) legal) brings p in
    brings_small (option_to_list (stopped_in k (cluster_at k (table_behind first) o) o.under_way)) last next (one_event _ (stop_small k (cluster_at k (table_behind first) o) o.under_way)) stops q

pub life_numbers : {k : Site} {events : List Event} {j : Journal} → Life k events j → Every IsSmall j.records
life_numbers life = (life_small life).there
