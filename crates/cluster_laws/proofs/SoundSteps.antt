-- Each deed keeps a cluster sound.
use Rattle.std.proofs.Common.{◌≡◌, refl, sym, ap, ◌∙◌, subst, ℕ, ◌+◌, ◌<◌, ◌==◌, Bool, true, false, not, List, Option, Some, None, cond, arith}
use Rattle.std.specs.Prelude.{nat_le, option_map}
use Rattle.std.proofs.lemmas.Bool.Decides.{Decides-eqb, nat_tests}
use Rattle.base_names.specs.declared.id.BatchId.{BatchId}
use Rattle.base_names.specs.declared.node.Waiter.TheVariants as waits
use Rattle.base_names.specs.declared.refusal.Refusal.{Refusal}
use Rattle.base_names.specs.declared.seat.Seat.{Seat}
use Rattle.model_data.specs.declared.batch.BatchBody.{BatchBody}
use Rattle.model_data.specs.declared.batch.BatchRecord.{BatchRecord}
use Rattle.model_data.specs.declared.batch.BatchRecord.TheVariants as is
use Rattle.model_data.specs.declared.batch.BatchResult.{BatchResult}
use Rattle.model_data.specs.declared.batch.BatchRow.{BatchRow}
use Rattle.table_defs.specs.Names.{is_id, is_owner}
use Rattle.table_defs.specs.Table.{Table, aborted, applied, begun, completed, ended, greatest, new_row, row_of, submitted, with_row}
use Rattle.table_defs.specs.Taken.{is_over}
use Rattle.cluster_defs.specs.Appended.{attempt_in, next_id, record_of}
use Rattle.cluster_defs.specs.Cluster.{Cluster, Job, Waiting, attempts_at, id_of, job_of}
use Rattle.cluster_defs.specs.Deeds.{Faults}
use Rattle.cluster_defs.specs.Effects.{done, kept_table, priority_in, without_attempt, without_node}
use Rattle.cluster_defs.specs.Placement.{dequeue, place, settled}
use Rattle.cluster_defs.specs.Refusals.{ask_refusal, batch_refusal, commands_refusal, may_retry}
use Rattle.cluster_defs.specs.Site.{Site}
use Rattle.cluster_laws.specs.Sound.{EachStands, IsSound, Stands, is_going, placed_for, waiting_for, waits_for}
use Rattle.cluster_defs.specs.Step.{asked_with, count_reply, step, still_open, with_result, with_returned, with_taken, within_limit}
use Rattle.cluster_defs.specs.Waiters.{is_waiter}
use Rattle.table_defs.proofs.Keyed.{no_old}
use Rattle.table_defs.proofs.Lists.{filter_others, find_push}
use Rattle.table_defs.proofs.Names.{and_left, and_right, id_refl}
use Rattle.table_defs.proofs.Rows.{IsNumbered, numbered_kept, numbered_with, row_new, row_with, wanted_row}
use Rattle.cluster_laws.proofs.OwnCommands.{batch_from}
use Rattle.cluster_laws.proofs.OwnEffects.{lost_all}
use Rattle.cluster_laws.proofs.Standing.{placing_is_sound, waiter_apart}
use Rattle.cluster_laws.proofs.TakenRecords.{IsTaken, record_taken, seen_is}
use Rattle.cluster_defs.specs.Deeds.{Deed}
use Rattle.cluster_defs.specs.Deeds.{Asked, Took, Finished, Left}
use Rattle.cluster_defs.specs.Replies as tells
use Rattle.cluster_defs.specs.Asks.{Ask}
use Rattle.cluster_defs.specs.Asks as asks
use Rattle.cluster_laws.proofs.SoundCommands.{beginning_is_sound, discard_is_sound, ending_is_sound, enqueue_other, failing_is_sound, stands_same}

-- the number that an owner gets next has no row
next_new : (n : ℕ) → n < n + 1
next_new n = omega arith

fresh : (o : List ℕ) (t : Table) → IsNumbered t → row_of (next_id o t) t ≡ None
fresh o t numbered = no_old (next_id o t) t (row_of (next_id o t) t) refl (next_new (greatest o t)) numbered

created_row : (id : BatchId) (body : BatchBody) (t : Table) → row_of id t ≡ None → still_open 1 (row_of id (applied (is.Create id 1 body) t)) ≡ true
created_row id body t none = ap (still_open 1) (find_push (λ row. is_id id row.id) (new_row id 1 body) t.rows none ∙ ap (λ (b : Bool). cond b (Some (new_row id 1 body)) None) (id_refl id))

begun_row : (id : BatchId) (n : ℕ) (t : Table) (row : BatchRow) → row_of id t ≡ Some row → still_open n (row_of id (with_row id (begun n) t)) ≡ true
begun_row id n t row found = ap (still_open n) (row_with id id (begun n) t true (id_refl id) (λ r. refl) ∙ ap (option_map (begun n)) found) ∙ (Decides-eqb n n).1 refl

not_true : (b : Bool) → not b ≡ true → b ≡ false
not_true true h = absurd (grind (arith, h))
not_true false h = refl

over_going : (row : Option BatchRow) (r : BatchRow) → row ≡ Some r → is_over r ≡ true → is_going row ≡ false
over_going row r found over = ap is_going found ∙ not_true (r.status == submitted) over

retry_going : (row : Option BatchRow) (r : BatchRow) → row ≡ Some r → may_retry r ≡ true → is_going row ≡ false
retry_going row r found may = ap is_going found ∙ grind (arith, nat_tests, may)

leave_stands : (c : Cluster) (a : BatchId) (job : Option Job) → EachStands c → Stands (row_of a c.table) (placed_for a c.placed) (waiting_for a (elim job as (λ _. List Waiting) [ None ↦ c.waiting | Some j ↦ dequeue (waits.Seat (id_of j)) c.waiting ]))
leave_stands c a None sound = sound a
leave_stands c a (Some j) sound = stands_same c a _ _ _ refl refl (filter_others (λ (w : Waiting). waits_for a w.waiter) (λ (w : Waiting). not (is_waiter (waits.Seat (id_of j)) w.waiter)) (λ w own. ap not (waiter_apart a (waits.Seat (id_of j)) w.waiter refl own)) c.waiting) sound

pub done_is_sound : (k : Site) (c : Cluster) (seat : Seat) (ask : Ask) → EachStands c → IsNumbered c.table → batch_refusal c.table seat ask ≡ None → EachStands (done k c seat ask)
done_is_sound k c seat (asks.Job p) sound numbered h a = stands_same c a _ _ _ refl refl (enqueue_other a _ c.waiting refl) sound
done_is_sound k c seat asks.Leave sound numbered h a = leave_stands c a (job_of seat c.jobs) sound
done_is_sound k c seat (asks.Create body) sound numbered h a =
    let id = next_id seat.owner c.table in
    let none = fresh seat.owner c.table numbered in
    beginning_is_sound c (applied (is.Create id 1 body) c.table) id 1 body.params.priority (created_row id body c.table none) (λ b off. row_new b id 1 body c.table off) (ap is_going none) sound a (is_id a id) refl
done_is_sound k c seat (asks.Abort id) sound numbered h a =
    let w = wanted_row (λ r. r.status == submitted) (row_of id c.table) (seen_is (is_owner seat.owner id.owner) (λ r. r.status == submitted) (row_of id c.table) h) in
    subst (λ (x : Option BatchRow). Stands (row_of a (with_row id (ended aborted None) c.table)) (placed_for a (without_attempt id (attempt_in x) c.placed)) (waiting_for a (dequeue (waits.Batch id (attempt_in x)) c.waiting))) (sym w.1)
    (ending_is_sound c id w.0 aborted None refl w.1 w.2 sound a)
done_is_sound k c seat (asks.Discard id) sound numbered h a =
    let w = wanted_row is_over (row_of id c.table) (seen_is (is_owner seat.owner id.owner) is_over (row_of id c.table) h) in
    discard_is_sound c id (over_going (row_of id c.table) w.0 w.1 w.2) sound a (is_id a id) refl
done_is_sound k c seat (asks.Retry id) sound numbered h a =
    let w = wanted_row may_retry (row_of id c.table) (seen_is (is_owner seat.owner id.owner) may_retry (row_of id c.table) h) in
    let n = attempt_in (row_of id c.table) + 1 in
    beginning_is_sound c (with_row id (begun n) c.table) id n (priority_in (row_of id c.table)) (begun_row id n c.table w.0 w.1) (λ b off. row_with b id (begun n) c.table false off (λ r. refl)) (retry_going (row_of id c.table) w.0 w.1 w.2) sound a (is_id a id) refl
done_is_sound k c seat (asks.Fail node) sound numbered h a =
    subst (λ (t : Table). Stands (row_of a t) (placed_for a (without_node node c.placed)) (waiting_for a c.waiting)) (sym (lost_all (attempts_at node c.placed) c.table)) (failing_is_sound c node sound a)
done_is_sound k c seat ask sound numbered h a = sound a

kept_numbered : (t : Table) (r : Option BatchRecord) → IsNumbered t → IsTaken t r → IsNumbered (kept_table r t)
kept_numbered t None numbered taken = numbered
kept_numbered t (Some r) numbered taken = numbered_kept r t numbered taken

pub done_is_numbered : (k : Site) (c : Cluster) (seat : Seat) (ask : Ask) → EachStands c → IsNumbered c.table → batch_refusal c.table seat ask ≡ None → IsNumbered (done k c seat ask).table
done_is_numbered k c seat ask sound numbered h = kept_numbered c.table (record_of c.table c.placed seat ask) numbered (record_taken c seat ask sound h)

-- ---- any deed

placed_good : (c : Cluster) → IsSound c → IsSound (settled (place c) c)
placed_good c good = record { sound = placing_is_sound c good.sound; numbered = good.numbered }

asked_good : (k : Site) (c : Cluster) (seat : Seat) (ask : Ask) (f : Faults) (x0 x : Option Refusal) → ask_refusal k c seat ask f ≡ x → IsSound c → IsSound (within_limit c x0 (asked_with k c seat ask x)).next
asked_good k c seat ask f (Some r) x h good = good
asked_good k c seat ask f None (Some r) h good = let d = record c { usage = count_reply k c seat ask (tells.Refused r) } in placed_good d (record { sound = good.sound; numbered = good.numbered })
asked_good k c seat ask f None None h good =
    let d = done k c seat ask in
    let b = batch_from k c seat ask f h in
    let s = done_is_sound k c seat ask good.sound good.numbered b in
    record { sound = placing_is_sound d s; numbered = done_is_numbered k c seat ask good.sound good.numbered b }

open_row : (n : ℕ) (row : Option BatchRow) → still_open n row ≡ true → (r : BatchRow) × (row ≡ Some r) × ((r.status == submitted) ≡ true) × (r.attempt ≡ n)
open_row n None h = absurd (grind (arith, h))
open_row n (Some r) h = (r, refl, and_left (r.status == submitted) (r.attempt == n) h, (Decides-eqb r.attempt n).0 (and_right (r.status == submitted) (r.attempt == n) h))

result_good : (k : Site) (c : Cluster) (id : BatchId) (n : ℕ) (result : BatchResult) → still_open n (row_of id c.table) ≡ true → IsSound c → IsSound (with_result k c id n result)
result_good k c id n result still good =
    let w = open_row n (row_of id c.table) still in
    record {
      sound = λ a. subst (λ (m : ℕ). Stands (row_of a (with_row id (ended completed (Some result)) c.table)) (placed_for a (without_attempt id m c.placed)) (waiting_for a (dequeue (waits.Batch id m) c.waiting))) w.3 (ending_is_sound c id w.0 completed (Some result) refl w.1 w.2 good.sound a);
      numbered = numbered_with id (ended completed (Some result)) c.table (λ row. refl) good.numbered;
    }

finish_good : (k : Site) (c : Cluster) (id : BatchId) (n : ℕ) (result : BatchResult) (f : Faults) (o w : Bool) → still_open n (row_of id c.table) ≡ o → nat_le f.after f.before ≡ w → IsSound c → IsSound (step k c (Finished id n result) f).next
finish_good k c id n result f false w h g good = rw h (placed_good c good)
finish_good k c id n result f true true h g good = rw (h, g) (placed_good (with_result k c id n result) (result_good k c id n result h good))
finish_good k c id n result f true false h g good = rw (h, g) (placed_good (with_returned c id n) (record { sound = good.sound; numbered = good.numbered }))

left_good : (k : Site) (c : Cluster) (id : BatchId) (n : ℕ) (f : Faults) (o : Bool) → still_open n (row_of id c.table) ≡ o → IsSound c → IsSound (step k c (Left id n) f).next
left_good k c id n f false h good = rw h (placed_good c good)
left_good k c id n f true h good = rw h (placed_good (with_returned c id n) (record { sound = good.sound; numbered = good.numbered }))

pub step_is_good : (k : Site) (c : Cluster) (d : Deed) (f : Faults) → IsSound c → IsSound (step k c d f).next
step_is_good k c (Asked seat ask) f good = asked_good k c seat ask f (commands_refusal k c.usage c.jobs seat ask) (ask_refusal k c seat ask f) refl good
step_is_good k c (Took worker id n) f good = placed_good (with_taken c id n) (record { sound = good.sound; numbered = good.numbered })
step_is_good k c (Finished id n result) f good = finish_good k c id n result f _ _ refl refl good
step_is_good k c (Left id n) f good = left_good k c id n f (still_open n (row_of id c.table)) refl good
