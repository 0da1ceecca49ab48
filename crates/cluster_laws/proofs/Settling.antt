-- Each deed ends with a placing, so behind it none that waits may run.
use Rattle.std.proofs.Common.{◌≡◌, refl, ℕ, suc, Bool, true, false, List, [], ◌∷◌, Option, Some, None}
use Rattle.std.specs.Prelude.{nat_le}
use Rattle.base_names.specs.declared.id.BatchId.{BatchId}
use Rattle.base_names.specs.declared.node.Waiter.TheVariants as waits
use Rattle.base_names.specs.declared.refusal.Refusal.{Refusal}
use Rattle.base_names.specs.declared.seat.Seat.{Seat}
use Rattle.model_data.specs.declared.batch.BatchResult.{BatchResult}
use Rattle.table_defs.specs.Table.{Table, row_of}
use Rattle.table_defs.specs.Taken.{or_else}
use Rattle.cluster_defs.specs.Cluster.{Cluster}
use Rattle.cluster_defs.specs.Deeds.{Faults}
use Rattle.cluster_defs.specs.Effects.{done}
use Rattle.cluster_defs.specs.Entries.{faults_of}
use Rattle.cluster_defs.specs.Legal.{GivenBack, back_at, cluster_behind, cluster_from, given_back}
use Rattle.cluster_defs.specs.Opened.{mounted, opened}
use Rattle.cluster_defs.specs.Placement.{place, settled}
use Rattle.cluster_defs.specs.Refusals.{ask_refusal, commands_refusal, node_refusal, range_refusal, role_refusal, state_refusal}
use Rattle.cluster_laws.specs.Seated.{IsSeated, IsSettled, jobs_for, waits_at}
use Rattle.cluster_defs.specs.Site.{Site}
use Rattle.cluster_defs.specs.Step.{asked_with, count_reply, step, still_open, with_result, with_returned, with_taken, within_limit}
use Rattle.table_defs.proofs.Records.{or_first, or_then}
use Rattle.cluster_laws.proofs.Running.{none_runs}
use Rattle.cluster_laws.proofs.Seated.{dequeue_else, done_is_seated, mounted_is_seated, placing_is_seated, stands_as}
use Rattle.cluster_defs.specs.Asks.{Ask}
use Rattle.cluster_defs.specs.Deeds.{Deed}
use Rattle.cluster_defs.specs.Deeds.{Asked, Took, Finished, Left}
use Rattle.cluster_defs.specs.Entries.{Entry}
use Rattle.cluster_defs.specs.Replies as tells

placed_settled : (c : Cluster) → IsSeated c → IsSettled (settled (place c) c)
placed_settled c seated = record { seated = placing_is_seated c seated; full = none_runs c seated }

-- ---- any deed

state_among : (a b d e rest : Option Refusal) → or_else a (or_else b (or_else d (or_else e rest))) ≡ None → e ≡ None
state_among a b d e rest p = or_first e rest (or_then d _ (or_then b _ (or_then a _ p)))

pub state_from : (k : Site) (c : Cluster) (seat : Seat) (ask : Ask) (f : Faults) → ask_refusal k c seat ask f ≡ None → state_refusal c.jobs seat ask ≡ None
state_from k c seat ask f h = state_among (role_refusal seat ask) (node_refusal c.nodes ask) (range_refusal ask) (state_refusal c.jobs seat ask) _ h

asked_settles : (k : Site) (c : Cluster) (seat : Seat) (ask : Ask) (f : Faults) (x0 x : Option Refusal) → ask_refusal k c seat ask f ≡ x → IsSettled c → IsSettled (within_limit c x0 (asked_with k c seat ask x)).next
asked_settles k c seat ask f (Some r) x h s = s
asked_settles k c seat ask f None (Some r) h seated = placed_settled (record c { usage = count_reply k c seat ask (tells.Refused r) }) seated.seated
asked_settles k c seat ask f None None h seated = let s = placed_settled (done k c seat ask) (done_is_seated k c seat ask (state_from k c seat ask f h) seated.seated) in record { seated = s.seated; full = s.full }

pub result_is_seated : (k : Site) (c : Cluster) (id : BatchId) (n : ℕ) (result : BatchResult) → IsSeated c → IsSeated (with_result k c id n result)
result_is_seated k c id n result seated s = stands_as _ (jobs_for s c.jobs) _ (waits_at s c.waiting) refl (dequeue_else s (waits.Batch id n) c.waiting refl) (seated s)

finish_settles : (k : Site) (c : Cluster) (id : BatchId) (n : ℕ) (result : BatchResult) (f : Faults) (o w : Bool) → still_open n (row_of id c.table) ≡ o → nat_le f.after f.before ≡ w → IsSettled c → IsSettled (step k c (Finished id n result) f).next
finish_settles k c id n result f false w h g seated = rw h (placed_settled c seated.seated)
finish_settles k c id n result f true true h g seated = rw (h, g) (placed_settled (with_result k c id n result) (result_is_seated k c id n result seated.seated))
finish_settles k c id n result f true false h g seated = rw (h, g) (placed_settled (with_returned c id n) seated.seated)

left_settles : (k : Site) (c : Cluster) (id : BatchId) (n : ℕ) (f : Faults) (o : Bool) → still_open n (row_of id c.table) ≡ o → IsSettled c → IsSettled (step k c (Left id n) f).next
left_settles k c id n f false h seated = rw h (placed_settled c seated.seated)
left_settles k c id n f true h seated = rw h (placed_settled (with_returned c id n) seated.seated)

pub step_settles : (k : Site) (c : Cluster) (d : Deed) (f : Faults) → IsSettled c → IsSettled (step k c d f).next
step_settles k c (Asked seat ask) f seated = asked_settles k c seat ask f (commands_refusal k c.usage c.jobs seat ask) (ask_refusal k c seat ask f) refl seated
step_settles k c (Took worker id n) f seated = placed_settled (with_taken c id n) seated.seated
step_settles k c (Finished id n result) f seated = finish_settles k c id n result f (still_open n (row_of id c.table)) (nat_le f.after f.before) refl refl seated
step_settles k c (Left id n) f seated = left_settles k c id n f (still_open n (row_of id c.table)) refl seated

-- ---- a history

pub opened_settles : (k : Site) (t : Table) (end : ℕ) → IsSettled (opened k t end)
opened_settles k t end = placed_settled (mounted k t end) (mounted_is_seated k t end)

back_settles : (gs : List GivenBack) (c : Cluster) → IsSettled c → IsSettled (given_back gs c)
back_settles [] c s = s
back_settles (g ∷ gs) c s = back_settles gs (with_returned c g.id g.attempt) (record { seated = s.seated; full = s.full })

settles_from : (k : Site) (H : List Entry) (N : List GivenBack) (n : ℕ) (c : Cluster) → IsSettled c → IsSettled (cluster_from k n c N H)
settles_from k [] N n c s = back_settles (back_at n N) c s
settles_from k (e ∷ es) N n c s = settles_from k es N (suc n) (step k (given_back (back_at n N) c) e.deed (faults_of e)).next (step_settles k (given_back (back_at n N) c) e.deed (faults_of e) (back_settles (back_at n N) c s))

pub behind_settles : (k : Site) (t : Table) (end : ℕ) (H : List Entry) (N : List GivenBack) → IsSettled (cluster_behind k t end H N)
behind_settles k t end H N = settles_from k H N 0 (opened k t end) (opened_settles k t end)
