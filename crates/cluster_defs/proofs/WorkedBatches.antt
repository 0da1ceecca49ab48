-- Histories of batches and of their owners, with what is placed and answered.
use Rattle.std.proofs.Common.{◌≡◌, refl, Bool, List, map, true, false, [], ◌∷◌, Some, None, pos}
use Rattle.base_names.specs.declared.node.Waiter.{Waiter}
use Rattle.base_names.specs.declared.node.Waiter.TheVariants as waits
use Rattle.base_names.specs.declared.refusal.Refusal.TheVariants.{BATCH, BATCHSTATE}
use Rattle.table_defs.specs.Names.{is_id, is_owner}
use Rattle.model_data.specs.declared.batch.BatchRecord.TheVariants as is
use Rattle.table_defs.specs.Table.{aborted, after, completed, failed, no_rows, submitted}
use Rattle.cluster_defs.specs.Asks as asks
use Rattle.cluster_defs.specs.Deeds.{Asked, Back, Deed, Kept, Late}
use Rattle.cluster_defs.specs.Ends.{end_of}
use Rattle.cluster_defs.specs.Life.{deed_record}
use Rattle.cluster_defs.specs.Looks.{cut}
use Rattle.cluster_defs.specs.Opened.{mounted}
use Rattle.cluster_defs.specs.OwnHistory.{own_history, own_replies}
use Rattle.cluster_defs.specs.Placement.{place}
use Rattle.table_defs.specs.Owned.{table_of}
use Rattle.cluster_defs.specs.Replies as tells
use Rattle.cluster_defs.specs.Waiters.{is_node, is_seat}
use Rattle.cluster_defs.proofs.Scenes.{AreTold, AreToldBehind, Line, ada, admin, ask, batch, bob, body, body_at, cluster_by, entry, finished, found, job, left, node, refused, seat, site, took, took_by, work}

-- A worker's result comes too late for an attempt that its owner has aborted, and is kept for the next one.
abort_and_retry : AreTold (site 1 2 0) (
    ask (seat 1 ada) (asks.Create body) (work (batch ada 1) 1 1 ∷ []) (tells.Made (batch ada 1))
    ∷ took (batch ada 1) 1
    ∷ ask (seat 1 ada) (asks.Abort (batch ada 1)) [] tells.Done
    ∷ finished (batch ada 1) 1 [] (Late (Some aborted))
    ∷ ask (seat 1 ada) (asks.Status (batch ada 1)) [] (tells.Status (batch ada 1) aborted)
    ∷ ask (seat 1 ada) (asks.Retry (batch ada 1)) (work (batch ada 1) 2 1 ∷ []) tells.Done
    ∷ took (batch ada 1) 2
    ∷ finished (batch ada 1) 2 [] Kept
    ∷ ask (seat 1 ada) (asks.Status (batch ada 1)) [] (tells.Status (batch ada 1) completed)
    ∷ refused (seat 1 ada) (asks.Retry (batch ada 1)) (BATCHSTATE completed)
    ∷ ask (seat 1 ada) (asks.Row (batch ada 1)) [] (tells.Row record { id = batch ada 1; status = completed; attempt = 2; body = body; result = Some found })
    ∷ ask (seat 1 ada) (asks.Discard (batch ada 1)) [] tells.Done
    ∷ refused (seat 1 ada) (asks.Status (batch ada 1)) BATCH
    ∷ finished (batch ada 1) 2 [] (Late None)
    ∷ ask (seat 1 ada) (asks.Create body) (work (batch ada 2) 1 1 ∷ []) (tells.Made (batch ada 2))
    ∷ [])
unfolding is_owner is_id is_seat is_node
abort_and_retry = (refl, refl)

-- A result is as late where its batch goes on with a later attempt, and so is an attempt that is given back.
late : AreTold (site 1 2 0) (
    ask (seat 1 ada) (asks.Create body) (work (batch ada 1) 1 1 ∷ []) (tells.Made (batch ada 1))
    ∷ took (batch ada 1) 1
    ∷ ask (seat 1 ada) (asks.Abort (batch ada 1)) [] tells.Done
    ∷ left (batch ada 1) 1 [] (Late (Some aborted))
    ∷ ask (seat 1 ada) (asks.Retry (batch ada 1)) (work (batch ada 1) 2 1 ∷ []) tells.Done
    ∷ finished (batch ada 1) 1 [] (Late (Some submitted))
    ∷ left (batch ada 1) 1 [] (Late (Some submitted))
    ∷ ask (seat 1 ada) (asks.Status (batch ada 1)) [] (tells.Status (batch ada 1) submitted)
    ∷ [])
unfolding is_owner is_id is_seat is_node
late = (refl, refl)

-- What is given back keeps its place, and is taken again before what was placed later.
back_again : AreTold (site 1 2 0) (
    ask (seat 1 ada) (asks.Create body) (work (batch ada 1) 1 1 ∷ []) (tells.Made (batch ada 1))
    ∷ ask (seat 2 bob) (asks.Create body) (work (batch bob 1) 1 1 ∷ []) (tells.Made (batch bob 1))
    ∷ took_by 1 (batch ada 1) 1
    ∷ left (batch ada 1) 1 [] Back
    ∷ took_by 2 (batch ada 1) 1
    ∷ took_by 1 (batch bob 1) 1
    ∷ finished (batch ada 1) 1 [] Kept
    ∷ left (batch ada 1) 1 [] (Late (Some completed))
    ∷ [])
unfolding is_owner is_id is_seat is_node
back_again = (refl, refl)

-- Two owners who both get number 1, each with a worker; what the first one gave back a third one takes.
same_number : AreTold (site 1 2 0) (
    ask (seat 1 ada) (asks.Create body) (work (batch ada 1) 1 1 ∷ []) (tells.Made (batch ada 1))
    ∷ ask (seat 2 bob) (asks.Create body) (work (batch bob 1) 1 1 ∷ []) (tells.Made (batch bob 1))
    ∷ refused (seat 2 bob) (asks.Abort (batch ada 1)) BATCH
    ∷ refused (seat 1 ada) (asks.Discard (batch ada 1)) (BATCHSTATE submitted)
    ∷ ask admin asks.Jobs [] (tells.Jobs (
    record { waiter = waits.Batch (batch ada 1) 1; owner = ada; priority = pos 0; node = Some (node 1) }
    ∷ record { waiter = waits.Batch (batch bob 1) 1; owner = bob; priority = pos 0; node = Some (node 1) }
    ∷ []))
    ∷ took_by 1 (batch ada 1) 1
    ∷ took_by 2 (batch bob 1) 1
    ∷ left (batch ada 1) 1 [] Back
    ∷ took_by 3 (batch ada 1) 1
    ∷ finished (batch ada 1) 1 [] Kept
    ∷ ask (seat 1 ada) (asks.Discard (batch ada 1)) [] tells.Done
    ∷ refused (seat 1 ada) (asks.Status (batch ada 1)) BATCH
    ∷ [])
unfolding is_owner is_id is_seat is_node
same_number = (refl, refl)

-- On one place neither sees the other's batch, and the place that one frees at once is the other's.
abbrev both : List Line
both = ask (seat 1 ada) (asks.Create body) (work (batch ada 1) 1 1 ∷ []) (tells.Made (batch ada 1))
    ∷ ask (seat 1 bob) (asks.Create body) [] (tells.Made (batch bob 1))
    ∷ refused (seat 1 bob) (asks.Abort (batch ada 1)) BATCH
    ∷ refused (seat 1 bob) (asks.Discard (batch bob 1)) (BATCHSTATE submitted)
    ∷ took (batch ada 1) 1
    ∷ ask (seat 1 ada) (asks.Abort (batch ada 1)) (work (batch bob 1) 1 1 ∷ []) tells.Done
    ∷ finished (batch ada 1) 1 [] (Late (Some aborted))
    ∷ ask (seat 1 ada) (asks.Retry (batch ada 1)) [] tells.Done
    ∷ took (batch bob 1) 1
    ∷ finished (batch bob 1) 1 (work (batch ada 1) 2 1 ∷ []) Kept
    ∷ ask (seat 1 bob) asks.Listing [] (tells.Rows (record { id = batch bob 1; status = completed } ∷ []))
    ∷ ask (seat 1 ada) asks.Listing [] (tells.Rows (record { id = batch ada 1; status = submitted } ∷ []))
    ∷ []

two_owners : AreTold (site 1 1 0) both
unfolding is_owner is_id is_seat is_node
two_owners = (refl, refl)

-- What each is told by what is read for it alone.
ada_alone : own_replies (site 1 1 0) (table_of ada no_rows) (own_history ada (site 1 1 0) no_rows 8 (map entry both) [])
    ≡ tells.Made (batch ada 1) ∷ tells.Done ∷ tells.Done ∷ tells.Rows (record { id = batch ada 1; status = submitted } ∷ []) ∷ []
unfolding is_owner is_id is_seat is_node
ada_alone = refl

bob_alone : own_replies (site 1 1 0) (table_of bob no_rows) (own_history bob (site 1 1 0) no_rows 8 (map entry both) [])
    ≡ tells.Made (batch bob 1) ∷ tells.Refused BATCH ∷ tells.Refused (BATCHSTATE submitted) ∷ tells.Rows (record { id = batch bob 1; status = completed } ∷ []) ∷ []
unfolding is_owner is_id is_seat is_node
bob_alone = refl

-- When the cluster is opened again behind ada's retry, the first place is ada's.
opened_again : place (mounted (site 1 1 0) (after (is.Create (batch ada 1) 1 body ∷ is.Create (batch bob 1) 1 body ∷ is.Abort (batch ada 1) 1 ∷ is.Retry (batch ada 1) 2 ∷ []) no_rows) 428) ≡ work (batch ada 1) 2 1 ∷ []
unfolding is_owner is_id is_seat is_node
opened_again = refl

-- It begins at the end of these four records, of 105 bytes each.
opened_at : end_of (site 1 1 0) (is.Create (batch ada 1) 1 body ∷ is.Create (batch bob 1) 1 body ∷ is.Abort (batch ada 1) 1 ∷ is.Retry (batch ada 1) 2 ∷ []) ≡ 428
opened_at = refl

-- Those of one priority wait by owner, whoever came first.
by_owner : place (mounted (site 1 1 0) (after (is.Create (batch bob 1) 1 body ∷ is.Create (batch ada 1) 1 body ∷ []) no_rows) 218) ≡ work (batch ada 1) 1 1 ∷ []
unfolding is_owner is_id is_seat is_node
by_owner = refl

-- Batches wait by their priorities, among the jobs of seats, after a retry too; and at priority 100 one passes the limit.
by_priority : AreTold (site 1 1 0) (
    ask (seat 1 ada) (asks.Job (pos 0)) (job (seat 1 ada) 1 1 ∷ []) (tells.Job 1 (Some (node 1)))
    ∷ ask (seat 2 ada) (asks.Create body) [] (tells.Made (batch ada 1))
    ∷ ask (seat 2 ada) (asks.Create (body_at (pos 7))) [] (tells.Made (batch ada 2))
    ∷ ask (seat 3 bob) (asks.Job (pos 5)) [] (tells.Job 1 None)
    ∷ ask (seat 1 ada) asks.Leave (work (batch ada 2) 1 1 ∷ []) tells.Done
    ∷ ask (seat 2 ada) (asks.Abort (batch ada 2)) (job (seat 3 bob) 1 1 ∷ []) tells.Done
    ∷ ask (seat 2 ada) (asks.Retry (batch ada 2)) [] tells.Done
    ∷ ask (seat 3 bob) asks.Leave (work (batch ada 2) 2 1 ∷ []) tells.Done
    ∷ ask (seat 2 ada) (asks.Create (body_at (pos 100))) (work (batch ada 3) 1 1 ∷ []) (tells.Made (batch ada 3))
    ∷ ask admin asks.Jobs [] (tells.Jobs (
    record { waiter = waits.Batch (batch ada 1) 1; owner = ada; priority = pos 0; node = None }
    ∷ record { waiter = waits.Batch (batch ada 2) 2; owner = ada; priority = pos 7; node = Some (node 1) }
    ∷ record { waiter = waits.Batch (batch ada 3) 1; owner = ada; priority = pos 100; node = Some (node 1) }
    ∷ []))
    ∷ [])
unfolding is_owner is_id is_seat is_node
by_priority = (refl, refl)

-- and when the cluster is opened
opened_by_priority : place (mounted (site 1 1 0) (after (is.Create (batch ada 1) 1 body ∷ is.Create (batch ada 2) 1 (body_at (pos 7)) ∷ []) no_rows) 218) ≡ work (batch ada 2) 1 1 ∷ []
unfolding is_owner is_id is_seat is_node
opened_by_priority = refl

-- the number of a batch that is gone is not given again, also when the cluster is opened again
number_gone : AreToldBehind (site 1 2 0) (is.Create (batch ada 1) 1 body ∷ is.Abort (batch ada 1) 1 ∷ is.Discard (batch ada 1) ∷ []) (
    ask (seat 1 ada) asks.Listing [] (tells.Rows [])
    ∷ ask (seat 1 ada) (asks.Create body) (work (batch ada 2) 1 1 ∷ []) (tells.Made (batch ada 2))
    ∷ [])
unfolding is_owner is_id is_seat is_node
number_gone = (refl, refl)

-- What is found when the cluster is opened is lost with its node, and stays so when it is opened again.
failed_there : AreToldBehind (site 1 2 0) (is.Create (batch ada 1) 1 body ∷ []) (
    ask admin (asks.Fail (node 1)) [] tells.Done
    ∷ ask (seat 1 ada) (asks.Status (batch ada 1)) [] (tells.Status (batch ada 1) failed)
    ∷ [])
unfolding is_owner is_id is_seat is_node
failed_there = (refl, refl)

failed_again : AreToldBehind (site 1 2 0) (is.Create (batch ada 1) 1 body ∷ is.Lost (record { id = batch ada 1; attempt = 1 } ∷ []) ∷ []) (
    ask (seat 1 ada) (asks.Status (batch ada 1)) [] (tells.Status (batch ada 1) failed)
    ∷ ask (seat 1 ada) (asks.Retry (batch ada 1)) (work (batch ada 1) 2 1 ∷ []) tells.Done
    ∷ [])
unfolding is_owner is_id is_seat is_node
failed_again = (refl, refl)

-- The attempts on a node are lost in the order in which they were placed.
lost_in_order : deed_record (cluster_by (site 1 2 0) (Asked (seat 1 ada) (asks.Create body) ∷ Asked (seat 1 ada) (asks.Create body) ∷ Asked (seat 1 ada) (asks.Abort (batch ada 1)) ∷ Asked (seat 1 ada) (asks.Retry (batch ada 1)) ∷ [])) (Asked admin (asks.Fail (node 1)))
    ≡ Some (is.Lost (record { id = batch ada 2; attempt = 1 } ∷ record { id = batch ada 1; attempt = 2 } ∷ []))
unfolding is_owner is_id is_seat is_node
lost_in_order = refl

-- ---- looks

abbrev cut_behind : List Deed → Waiter → Bool
cut_behind deeds w = let c = cluster_by (site 2 1 0) deeds in cut c.table c.jobs w

abbrev first_job : Waiter
first_job = waits.Seat record { seat = seat 1 ada; number = 1 }

abbrev job_runs : Deed
job_runs = Asked (seat 1 ada) (asks.Job (pos 0))

-- A job is cut where it is gone, another one by now, marked or lost.
jobs_cut : (cut_behind (job_runs ∷ []) first_job ≡ false)
    × (cut_behind [] first_job ≡ true)
    × (cut_behind (job_runs ∷ Asked (seat 1 ada) asks.Leave ∷ job_runs ∷ []) first_job ≡ true)
    × (cut_behind (job_runs ∷ Asked admin (asks.AbortJob 1 1) ∷ []) first_job ≡ true)
    × (cut_behind (job_runs ∷ Asked admin (asks.Fail (node 1)) ∷ []) first_job ≡ true)
    × (cut_behind (job_runs ∷ Asked admin (asks.Fail (node 2)) ∷ []) first_job ≡ false)
unfolding is_owner is_id is_seat is_node
jobs_cut = (refl, refl, refl, refl, refl, refl)

abbrev batch_runs : Deed
batch_runs = Asked (seat 1 ada) (asks.Create body)

-- An attempt is cut where it has ended, also where a later one goes on.
attempts_cut : (cut_behind (batch_runs ∷ []) (waits.Batch (batch ada 1) 1) ≡ false)
    × (cut_behind (batch_runs ∷ Asked (seat 1 ada) (asks.Abort (batch ada 1)) ∷ []) (waits.Batch (batch ada 1) 1) ≡ true)
    × (cut_behind (batch_runs ∷ Asked admin (asks.Fail (node 1)) ∷ Asked (seat 1 ada) (asks.Retry (batch ada 1)) ∷ []) (waits.Batch (batch ada 1) 1) ≡ true)
    × (cut_behind (batch_runs ∷ Asked admin (asks.Fail (node 1)) ∷ Asked (seat 1 ada) (asks.Retry (batch ada 1)) ∷ []) (waits.Batch (batch ada 1) 2) ≡ false)
    × (cut_behind [] (waits.Batch (batch ada 1) 1) ≡ true)
unfolding is_owner is_id is_seat is_node
attempts_cut = (refl, refl, refl, refl, refl)
