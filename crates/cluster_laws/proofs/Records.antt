-- What an entry tells of the journal: its record was taken, and table and end are as with it, or as before.
use Rattle.std.proofs.Common.{◌≡◌, refl, sym, ap, ◌∙◌, subst, ℕ, ◌==◌, Bool, true, false, List, [], ◌∷◌, Option, Some, None, arith}
use Rattle.std.specs.Prelude.{nat_le, ⊤}
use Rattle.base_names.specs.declared.refusal.OwnerLimit.TheVariants.{Bytes, Commands, Numbers}
use Rattle.base_names.specs.declared.refusal.Refusal.{Refusal}
use Rattle.base_names.specs.declared.refusal.Refusal.TheVariants.{BATCHSTATE, DISK, JOURNALFULL, NODE, NOJOB, NONODE, OWNERFULL, RANGE, ROLE, STATE}
use Rattle.base_names.specs.declared.id.BatchId.{BatchId}
use Rattle.base_names.specs.declared.node.Placed.{Placed}
use Rattle.base_names.specs.declared.seat.Seat.{Seat}
use Rattle.model_data.specs.declared.batch.AttemptOf.{AttemptOf}
use Rattle.model_data.specs.declared.batch.BatchRecord.{BatchRecord}
use Rattle.model_data.specs.declared.batch.BatchRecord.TheVariants as is
use Rattle.model_data.specs.declared.batch.BatchResult.{BatchResult}
use Rattle.model_data.specs.declared.batch.BatchRow.{BatchRow}
use Rattle.table_defs.specs.Table.{Table, row_of, submitted}
use Rattle.table_defs.specs.Taken.{is_over, on_row, or_else, refusal, unless}
use Rattle.cluster_defs.specs.Answers.{whole_reply}
use Rattle.cluster_defs.specs.Appended.{lost_with, record_of}
use Rattle.cluster_defs.specs.Cluster.{Cluster, Job, Node, attempts_at}
use Rattle.cluster_defs.specs.Deeds.{Faults}
use Rattle.cluster_defs.specs.Effects.{done, kept_journal, kept_table}
use Rattle.cluster_defs.specs.Journal.{Event, was_kept}
use Rattle.cluster_defs.specs.Life.{Tells, event_in, event_of, told_of}
use Rattle.cluster_defs.specs.Placement.{place}
use Rattle.cluster_defs.specs.Refusals.{alive_refusal, ask_refusal, batch_refusal, bytes_refusal, commands_refusal, job_refusal, journal_refusal, marked_refusal, may_retry, node_refusal, numbers_refusal, range_refusal, role_refusal, seen_row, state_refusal}
use Rattle.cluster_defs.specs.Site.{Site}
use Rattle.cluster_laws.specs.Sound.{IsSound}
use Rattle.cluster_defs.specs.Step.{asked_with, done_ask, step, still_open, within_limit}
use Rattle.table_defs.proofs.Records.{or_first, or_then}
use Rattle.cluster_laws.proofs.OwnCommands.{batch_from}
use Rattle.cluster_laws.proofs.Sound.{open_taken}
use Rattle.cluster_laws.proofs.TakenRecords.{IsTaken, record_taken}
use Rattle.cluster_defs.specs.Asks.{Ask}
use Rattle.cluster_defs.specs.Asks as asks
use Rattle.cluster_defs.specs.Deeds.{Asked, Took, Finished, Left}
use Rattle.cluster_defs.specs.Entries as answers
use Rattle.cluster_defs.specs.Replies.{Reply}
use Rattle.cluster_defs.specs.Replies as tells
use Rattle.cluster_defs.specs.Deeds.{Deed}

-- ---- only the last test is that of the disk

abbrev pub tells_disk : Refusal → Bool
tells_disk (DISK before after) = true
tells_disk refusal = false

abbrev pub IsOther : Option Refusal → Type 0
IsOther None = ⊤
IsOther (Some refusal) = tells_disk refusal ≡ false

other_unless : (b : Bool) (r : Refusal) → tells_disk r ≡ false → IsOther (unless b r)
other_unless true r h = tt
other_unless false r h = h

other_row : (wanted : BatchRow → Bool) (row : Option BatchRow) → IsOther (on_row wanted row)
other_row wanted None = refl
other_row wanted (Some row) = other_unless (wanted row) (BATCHSTATE row.status) refl

other_node : (nodes : List Node) (ask : Ask) → IsOther (node_refusal nodes ask)
other_node nodes (asks.Limits node limit hard) = other_unless _ NODE refl
other_node nodes (asks.Drain node) = other_unless _ NODE refl
other_node nodes (asks.Resume node) = other_unless _ NODE refl
other_node nodes (asks.Fail node) = other_unless _ NODE refl
other_node nodes ask = tt

other_range : (ask : Ask) → IsOther (range_refusal ask)
other_range (asks.Limits node limit hard) = other_unless _ RANGE refl
other_range ask = tt

other_state : (jobs : List Job) (seat : Seat) (ask : Ask) → IsOther (state_refusal jobs seat ask)
other_state jobs seat (asks.Job priority) = other_unless _ STATE refl
other_state jobs seat ask = tt

other_job : (jobs : List Job) (seat : Seat) (ask : Ask) → IsOther (job_refusal jobs seat ask)
other_job jobs seat asks.Poll = other_unless _ NOJOB refl
other_job jobs seat asks.Leave = other_unless _ NOJOB refl
other_job jobs seat ask = tt

other_marked : (jobs : List Job) (ask : Ask) → IsOther (marked_refusal jobs ask)
other_marked jobs (asks.AbortJob seat number) = other_unless _ NOJOB refl
other_marked jobs ask = tt

other_alive : (nodes : List Node) (ask : Ask) → IsOther (alive_refusal nodes ask)
other_alive nodes (asks.Job priority) = other_unless _ NONODE refl
other_alive nodes ask = tt

other_batch : (t : Table) (seat : Seat) (ask : Ask) → IsOther (batch_refusal t seat ask)
other_batch t seat (asks.Status id) = other_row (λ row. true) (seen_row seat id t)
other_batch t seat (asks.Row id) = other_row (λ row. true) (seen_row seat id t)
other_batch t seat (asks.Abort id) = other_row (λ row. row.status == submitted) (seen_row seat id t)
other_batch t seat (asks.Discard id) = other_row is_over (seen_row seat id t)
other_batch t seat (asks.Retry id) = other_row may_retry (seen_row seat id t)
other_batch t seat ask = tt

other_numbers : (t : Table) (seat : Seat) (ask : Ask) → IsOther (numbers_refusal t seat ask)
other_numbers t seat (asks.Create body) = other_unless _ (OWNERFULL Numbers) refl
other_numbers t seat ask = tt

other_bytes : (k : Site) (t : Table) (seat : Seat) (ask : Ask) → IsOther (bytes_refusal k t seat ask)
other_bytes k t seat (asks.Create body) = other_unless _ (OWNERFULL Bytes) refl
other_bytes k t seat ask = tt

other_journal : (k : Site) (end : ℕ) (t : Table) (r : Option BatchRecord) → IsOther (journal_refusal k end t r)
other_journal k end t None = tt
other_journal k end t (Some (is.Create id n body)) = other_unless _ (JOURNALFULL _ _) refl
other_journal k end t (Some (is.Abort id n)) = tt
other_journal k end t (Some (is.Discard id)) = other_unless _ (JOURNALFULL _ _) refl
other_journal k end t (Some (is.Retry id n)) = other_unless _ (JOURNALFULL _ _) refl
other_journal k end t (Some (is.Finish id n result)) = tt
other_journal k end t (Some (is.Lost items)) = tt
other_journal k end t (Some (is.Next id)) = other_unless _ (JOURNALFULL _ _) refl

-- a refusal of the disk is none of those before it
past : (x rest : Option Refusal) (r : Refusal) → IsOther x → tells_disk r ≡ true → or_else x rest ≡ Some r → (x ≡ None) × (rest ≡ Some r)
past None rest r other disk h = (refl, h)
past (Some q) rest r other disk h = let e : q ≡ r = cc in let k : tells_disk r ≡ false = sym (ap tells_disk e) ∙ other in absurd (grind (arith, k, disk))

pub disk_is_last : (k : Site) (c : Cluster) (seat : Seat) (ask : Ask) (f : Faults) (r : Refusal) → tells_disk r ≡ true → ask_refusal k c seat ask f ≡ Some r → (batch_refusal c.table seat ask ≡ None) × (numbers_refusal c.table seat ask ≡ None) × (journal_refusal k c.journal c.table (record_of c.table c.placed seat ask) ≡ None)
disk_is_last k c seat ask f r disk h =
    let a = past (role_refusal seat ask) _ r (other_unless _ ROLE refl) disk h in
    let b = past (node_refusal c.nodes ask) _ r (other_node c.nodes ask) disk a.1 in
    let d = past (range_refusal ask) _ r (other_range ask) disk b.1 in
    let e = past (state_refusal c.jobs seat ask) _ r (other_state c.jobs seat ask) disk d.1 in
    let g = past (job_refusal c.jobs seat ask) _ r (other_job c.jobs seat ask) disk e.1 in
    let i = past (marked_refusal c.jobs ask) _ r (other_marked c.jobs ask) disk g.1 in
    let j = past (alive_refusal c.nodes ask) _ r (other_alive c.nodes ask) disk i.1 in
    let l = past (batch_refusal c.table seat ask) _ r (other_batch c.table seat ask) disk j.1 in
    let m = past (numbers_refusal c.table seat ask) _ r (other_numbers c.table seat ask) disk l.1 in
    let n = past (bytes_refusal k c.table seat ask) _ r (other_bytes k c.table seat ask) disk m.1 in
    (l.0, m.0, (past (journal_refusal k c.journal c.table (record_of c.table c.placed seat ask)) _ r (other_journal k c.journal c.table (record_of c.table c.placed seat ask)) disk n.1).0)

-- ---- a command

-- a reply that is no refusal
abbrev IsAnswer : Reply → Type 0
IsAnswer reply = (r : BatchRecord) → told_of (answers.Reply reply) r ≡ Some (was_kept r)

lost_answer : (items : List AttemptOf) (reply : Reply) → IsAnswer reply → event_of (answers.Reply reply) (lost_with items) ≡ elim (lost_with items) as (λ _. Option Event) [ None ↦ None | Some r ↦ Some (was_kept r) ]
lost_answer [] reply h = refl
lost_answer (item ∷ items) reply h = h (is.Lost (item ∷ items))

abbrev kept_event : Option BatchRecord → Option Event
kept_event None = None
kept_event (Some r) = Some (was_kept r)

done_event : (c : Cluster) (ps : List Placed) (seat : Seat) (ask : Ask) → event_of (answers.Reply (whole_reply c ps seat ask)) (record_of c.table c.placed seat ask) ≡ kept_event (record_of c.table c.placed seat ask)
done_event c ps seat (asks.Create body) = refl
done_event c ps seat (asks.Abort id) = refl
done_event c ps seat (asks.Discard id) = refl
done_event c ps seat (asks.Retry id) = refl
done_event c ps seat (asks.Fail node) = lost_answer (attempts_at node c.placed) tells.Done (λ r. refl)
done_event c ps seat ask = refl

numbers_among : (a b d e g h i j l rest : Option Refusal) → or_else a (or_else b (or_else d (or_else e (or_else g (or_else h (or_else i (or_else j (or_else l rest)))))))) ≡ None → l ≡ None
numbers_among a b d e g h i j l rest p = or_first l rest (or_then j _ (or_then i _ (or_then h _ (or_then g _ (or_then e _ (or_then d _ (or_then b _ (or_then a _ p))))))))

pub numbers_from : (k : Site) (c : Cluster) (seat : Seat) (ask : Ask) (f : Faults) → ask_refusal k c seat ask f ≡ None → numbers_refusal c.table seat ask ≡ None
numbers_from k c seat ask f h = numbers_among (role_refusal seat ask) (node_refusal c.nodes ask) (range_refusal ask) (state_refusal c.jobs seat ask) (job_refusal c.jobs seat ask) (marked_refusal c.jobs ask) (alive_refusal c.nodes ask) (batch_refusal c.table seat ask) (numbers_refusal c.table seat ask) _ h

room_among : (a b d e g h i j l m n rest : Option Refusal) → or_else a (or_else b (or_else d (or_else e (or_else g (or_else h (or_else i (or_else j (or_else l (or_else m (or_else n rest)))))))))) ≡ None → n ≡ None
room_among a b d e g h i j l m n rest p = or_first n rest (or_then m _ (or_then l _ (or_then j _ (or_then i _ (or_then h _ (or_then g _ (or_then e _ (or_then d _ (or_then b _ (or_then a _ p))))))))))

pub room_from : (k : Site) (c : Cluster) (seat : Seat) (ask : Ask) (f : Faults) → ask_refusal k c seat ask f ≡ None → journal_refusal k c.journal c.table (record_of c.table c.placed seat ask) ≡ None
room_from k c seat ask f h = room_among (role_refusal seat ask) (node_refusal c.nodes ask) (range_refusal ask) (state_refusal c.jobs seat ask) (job_refusal c.jobs seat ask) (marked_refusal c.jobs ask) (alive_refusal c.nodes ask) (batch_refusal c.table seat ask) (numbers_refusal c.table seat ask) (bytes_refusal k c.table seat ask) (journal_refusal k c.journal c.table (record_of c.table c.placed seat ask)) _ h

done_tells : (k : Site) (c d : Cluster) (r : Option BatchRecord) → IsTaken c.table r → journal_refusal k c.journal c.table r ≡ None → d.table ≡ kept_table r c.table → d.journal ≡ kept_journal k r c.journal → Tells k (kept_event r) c d
done_tells k c d None taken room table end = (table, end)
done_tells k c d (Some r) taken room table end = (taken, room, table, end)

-- the cluster is as before, and the answer a refusal
refused_tells : (k : Site) (c d : Cluster) (refusal : Refusal) (r : Option BatchRecord) → d.table ≡ c.table → d.journal ≡ c.journal → (tells_disk refusal ≡ true → IsTaken c.table r) → Tells k (event_of (answers.Reply (tells.Refused refusal)) r) c d
refused_tells k c d refusal None table end taken = (table, end)
refused_tells k c d (DISK before after) (Some r) table end taken = (taken refl, table, end)
refused_tells k c d refusal (Some r) table end taken = (table, end)

pub commands_other : (b : Bool) → IsOther (unless b (OWNERFULL Commands))
commands_other b = other_unless b (OWNERFULL Commands) refl

pub disk_other : (r : Refusal) → tells_disk r ≡ false → tells_disk r ≡ true → ⊥
disk_other r a b = grind (arith, a, b)

asked_tells : (k : Site) (c : Cluster) (seat : Seat) (ask : Ask) (f : Faults) (x0 x : Option Refusal) → IsOther x0 → ask_refusal k c seat ask f ≡ x → IsSound c
    → Tells k (event_of (within_limit c x0 (asked_with k c seat ask x)).reply (record_of c.table c.placed seat ask)) c (within_limit c x0 (asked_with k c seat ask x)).next
asked_tells k c seat ask f (Some r) x other h good = refused_tells k c c r (record_of c.table c.placed seat ask) refl refl (λ disk. absurd (disk_other r other disk))
asked_tells k c seat ask f None (Some r) other h good = refused_tells k c _ r (record_of c.table c.placed seat ask) refl refl (λ disk. record_taken c seat ask good.sound (disk_is_last k c seat ask f r disk h).0)
asked_tells k c seat ask f None None other h good =
    let next = (done_ask k c seat ask).next in
    subst (λ (event : Option Event). Tells k event c next) (sym (done_event c (place (done k c seat ask)) seat ask))
    (done_tells k c next (record_of c.table c.placed seat ask) (record_taken c seat ask good.sound (batch_from k c seat ask f h)) (room_from k c seat ask f h) refl refl)

-- ---- a worker

finish_tells : (k : Site) (c : Cluster) (id : BatchId) (n : ℕ) (result : BatchResult) (f : Faults) (o w : Bool) → still_open n (row_of id c.table) ≡ o → nat_le f.after f.before ≡ w → Tells k (event_in c (Finished id n result) (step k c (Finished id n result) f).reply) c (step k c (Finished id n result) f).next
finish_tells k c id n result f false w h g = rw h (refl, refl)
finish_tells k c id n result f true true h g = rw (h, g) (open_taken n (row_of id c.table) h, refl, refl, refl)
finish_tells k c id n result f true false h g = rw (h, g) (open_taken n (row_of id c.table) h, refl, refl)

left_tells : (k : Site) (c : Cluster) (id : BatchId) (n : ℕ) (f : Faults) (o : Bool) → still_open n (row_of id c.table) ≡ o → Tells k None c (step k c (Left id n) f).next
left_tells k c id n f false h = rw h (refl, refl)
left_tells k c id n f true h = rw h (refl, refl)

pub step_tells : (k : Site) (c : Cluster) (d : Deed) (f : Faults) → IsSound c → Tells k (event_in c d (step k c d f).reply) c (step k c d f).next
step_tells k c (Asked seat ask) f good = asked_tells k c seat ask f (commands_refusal k c.usage c.jobs seat ask) (ask_refusal k c seat ask f) (commands_other _) refl good
step_tells k c (Took worker id n) f good = (refl, refl)
step_tells k c (Finished id n result) f good = finish_tells k c id n result f (still_open n (row_of id c.table)) (nat_le f.after f.before) refl refl
step_tells k c (Left id n) f good = left_tells k c id n f (still_open n (row_of id c.table)) refl
