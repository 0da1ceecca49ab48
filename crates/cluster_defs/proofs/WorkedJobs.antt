-- Histories of jobs and nodes, with what is placed and answered.
use Rattle.std.proofs.Common.{◌≡◌, refl, true, false, [], ◌∷◌, map, Some, None, pos}
use Rattle.std.specs.Prelude.{negsuc}
use Rattle.base_names.specs.declared.node.Waiter.TheVariants as waits
use Rattle.base_names.specs.declared.node.NodeState.TheVariants.{Alive, Draining, Failed}
use Rattle.base_names.specs.declared.refusal.Refusal.TheVariants.{NODE, NODELOST, NOJOB, NONODE, STATE}
use Rattle.table_defs.specs.Names.{is_id, is_owner}
use Rattle.table_defs.specs.Table.{submitted, failed}
use Rattle.cluster_defs.specs.Asks as asks
use Rattle.cluster_defs.specs.Cluster.{Job}
use Rattle.cluster_defs.specs.Deeds.{Asked}
use Rattle.cluster_defs.specs.Legal.{next_work}
use Rattle.cluster_defs.specs.Replies as tells
use Rattle.cluster_defs.specs.Waiters.{is_node, is_seat}
use Rattle.cluster_defs.proofs.Scenes.{AreTold, ada, admin, ask, batch, bob, body, cluster_by, job, node, refused, seat, site, took, work}

-- Six jobs on two nodes: priority 100 passes the limit, and not the hard one. What waits at priority 100 goes before what
-- has waited longer.
queues : AreTold (site 2 1 2) (
    ask (seat 1 ada) (asks.Job (pos 0)) (job (seat 1 ada) 1 1 ∷ []) (tells.Job 1 (Some (node 1)))
    ∷ ask (seat 2 ada) (asks.Job (pos 0)) (job (seat 2 ada) 1 2 ∷ []) (tells.Job 1 (Some (node 2)))
    ∷ ask (seat 3 ada) (asks.Job (pos 5)) [] (tells.Job 1 None)
    ∷ ask (seat 4 ada) (asks.Job (pos 100)) (job (seat 4 ada) 1 1 ∷ []) (tells.Job 1 (Some (node 1)))
    ∷ ask (seat 5 ada) (asks.Job (pos 100)) (job (seat 5 ada) 1 2 ∷ []) (tells.Job 1 (Some (node 2)))
    ∷ ask (seat 6 ada) (asks.Job (pos 100)) [] (tells.Job 1 None)
    ∷ ask (seat 1 ada) asks.Leave (job (seat 6 ada) 1 1 ∷ []) tells.Done
    ∷ ask (seat 6 ada) asks.Poll [] (tells.Job 1 (Some (node 1)))
    ∷ ask (seat 3 ada) asks.Poll [] (tells.Job 1 None)
    ∷ [])
unfolding is_owner is_id is_seat is_node
queues = (refl, refl)

-- Where no hard limit is set nothing holds priority 100. Below it jobs wait by priority, and then by their coming.
waiting : AreTold (site 1 1 0) (
    ask (seat 1 ada) (asks.Job (pos 100)) (job (seat 1 ada) 1 1 ∷ []) (tells.Job 1 (Some (node 1)))
    ∷ ask (seat 2 ada) (asks.Job (pos 100)) (job (seat 2 ada) 1 1 ∷ []) (tells.Job 1 (Some (node 1)))
    ∷ ask (seat 3 ada) (asks.Job (negsuc 4)) [] (tells.Job 1 None)
    ∷ ask (seat 4 bob) (asks.Job (pos 0)) [] (tells.Job 1 None)
    ∷ ask (seat 5 ada) (asks.Job (pos 0)) [] (tells.Job 1 None)
    ∷ ask (seat 1 ada) asks.Leave [] tells.Done
    ∷ ask (seat 2 ada) asks.Leave (job (seat 4 bob) 1 1 ∷ []) tells.Done
    ∷ ask (seat 4 bob) asks.Leave (job (seat 5 ada) 1 1 ∷ []) tells.Done
    ∷ ask (seat 5 ada) asks.Leave (job (seat 3 ada) 1 1 ∷ []) tells.Done
    ∷ [])
unfolding is_owner is_id is_seat is_node
waiting = (refl, refl)

-- Most room first, then the least number. A limit set below what runs takes nothing away, and one that is raised places all
-- that it lets run, in one go.
room : AreTold (site 3 2 0) (
    ask admin (asks.Limits (node 3) 3 3) [] tells.Done
    ∷ ask (seat 1 ada) (asks.Job (pos 0)) (job (seat 1 ada) 1 3 ∷ []) (tells.Job 1 (Some (node 3)))
    ∷ ask (seat 2 ada) (asks.Job (pos 0)) (job (seat 2 ada) 1 1 ∷ []) (tells.Job 1 (Some (node 1)))
    ∷ ask (seat 3 ada) (asks.Job (pos 0)) (job (seat 3 ada) 1 2 ∷ []) (tells.Job 1 (Some (node 2)))
    ∷ ask admin (asks.Limits (node 3) 1 1) [] tells.Done
    ∷ ask admin (asks.Limits (node 1) 1 0) [] tells.Done
    ∷ ask admin (asks.Limits (node 2) 1 0) [] tells.Done
    ∷ ask (seat 4 ada) (asks.Job (pos 0)) [] (tells.Job 1 None)
    ∷ ask (seat 5 ada) (asks.Job (pos 0)) [] (tells.Job 1 None)
    ∷ ask admin (asks.Limits (node 2) 3 0) (job (seat 4 ada) 1 2 ∷ job (seat 5 ada) 1 2 ∷ []) tells.Done
    ∷ ask admin (asks.Limits (node 2) 1 0) [] tells.Done
    ∷ ask admin asks.Nodes [] (tells.Nodes (
    record { node = node 1; state = Alive; limit = 1; hard = 0; running = 1 }
    ∷ record { node = node 2; state = Alive; limit = 1; hard = 0; running = 3 }
    ∷ record { node = node 3; state = Alive; limit = 1; hard = 1; running = 1 }
    ∷ []))
    ∷ [])
unfolding is_owner is_id is_seat is_node
room = (refl, refl)

-- Drained and failed nodes: no job is taken where no node is alive, and a batch waits.
nodes : AreTold (site 2 1 0) (
    ask admin (asks.Drain (node 1)) [] tells.Done
    ∷ ask admin (asks.Drain (node 2)) [] tells.Done
    ∷ refused admin (asks.Drain (node 3)) NODE
    ∷ refused (seat 1 ada) (asks.Job (pos 0)) NONODE
    ∷ ask (seat 1 ada) (asks.Create body) [] (tells.Made (batch ada 1))
    ∷ ask admin (asks.Resume (node 1)) (work (batch ada 1) 1 1 ∷ []) tells.Done
    ∷ took (batch ada 1) 1
    ∷ ask (seat 2 ada) (asks.Job (pos 0)) [] (tells.Job 1 None)
    ∷ ask admin (asks.Fail (node 1)) [] tells.Done
    ∷ ask (seat 1 ada) (asks.Status (batch ada 1)) [] (tells.Status (batch ada 1) failed)
    ∷ ask (seat 2 ada) asks.Poll [] (tells.Job 1 None)
    ∷ [])
unfolding is_owner is_id is_seat is_node
nodes = (refl, refl)

-- As long as both nodes drain there is nothing to take.
nothing_to_take : next_work (cluster_by (site 2 1 0) (Asked admin (asks.Drain (node 1)) ∷ Asked admin (asks.Drain (node 2)) ∷ Asked (seat 1 ada) (asks.Create body) ∷ [])) ≡ None
unfolding is_owner is_id is_seat is_node
nothing_to_take = refl

-- A state follows on every other.
states : AreTold (site 1 2 0) (
    ask admin (asks.Fail (node 1)) [] tells.Done
    ∷ ask admin (asks.Drain (node 1)) [] tells.Done
    ∷ ask admin asks.Nodes [] (tells.Nodes (record { node = node 1; state = Draining; limit = 2; hard = 0; running = 0 } ∷ []))
    ∷ ask admin (asks.Fail (node 1)) [] tells.Done
    ∷ ask admin asks.Nodes [] (tells.Nodes (record { node = node 1; state = Failed; limit = 2; hard = 0; running = 0 } ∷ []))
    ∷ ask admin (asks.Resume (node 1)) [] tells.Done
    ∷ ask admin asks.Nodes [] (tells.Nodes (record { node = node 1; state = Alive; limit = 2; hard = 0; running = 0 } ∷ []))
    ∷ [])
unfolding is_owner is_id is_seat is_node
states = (refl, refl)

-- A draining node goes on with what it has. When it fails, all there is lost, and nothing on another node.
failing : AreTold (site 2 1 0) (
    ask (seat 1 ada) (asks.Job (pos 0)) (job (seat 1 ada) 1 1 ∷ []) (tells.Job 1 (Some (node 1)))
    ∷ ask (seat 1 bob) (asks.Job (pos 0)) (job (seat 1 bob) 1 2 ∷ []) (tells.Job 1 (Some (node 2)))
    ∷ ask (seat 2 bob) (asks.Create body) [] (tells.Made (batch bob 1))
    ∷ ask admin (asks.Drain (node 1)) [] tells.Done
    ∷ ask (seat 1 ada) asks.Poll [] (tells.Job 1 (Some (node 1)))
    ∷ ask admin (asks.Fail (node 1)) [] tells.Done
    ∷ ask (seat 1 bob) asks.Poll [] (tells.Job 1 (Some (node 2)))
    ∷ refused (seat 1 ada) (asks.Job (pos 0)) STATE
    ∷ refused (seat 1 ada) asks.Poll (NODELOST (node 1))
    ∷ refused (seat 1 ada) asks.Poll NOJOB
    ∷ ask (seat 1 ada) (asks.Job (pos 0)) [] (tells.Job 2 None)
    ∷ ask admin (asks.Resume (node 1)) (work (batch bob 1) 1 1 ∷ []) tells.Done
    ∷ ask (seat 2 bob) (asks.Status (batch bob 1)) [] (tells.Status (batch bob 1) submitted)
    ∷ [])
unfolding is_owner is_id is_seat is_node
failing = (refl, refl)

-- A job that waits is not lost with a node, and no job that was lost comes back with it. A seat leaves a lost job as any other.
lost : AreTold (site 1 1 0) (
    ask (seat 1 ada) (asks.Job (pos 0)) (job (seat 1 ada) 1 1 ∷ []) (tells.Job 1 (Some (node 1)))
    ∷ ask (seat 2 ada) (asks.Job (pos 0)) [] (tells.Job 1 None)
    ∷ ask admin (asks.Fail (node 1)) [] tells.Done
    ∷ ask (seat 2 ada) asks.Poll [] (tells.Job 1 None)
    ∷ ask admin (asks.Resume (node 1)) (job (seat 2 ada) 1 1 ∷ []) tells.Done
    ∷ refused (seat 1 ada) asks.Poll (NODELOST (node 1))
    ∷ ask admin (asks.Fail (node 1)) [] tells.Done
    ∷ ask (seat 2 ada) asks.Leave [] tells.Done
    ∷ refused (seat 2 ada) asks.Leave NOJOB
    ∷ [])
unfolding is_owner is_id is_seat is_node
lost = (refl, refl)

-- Jobs are listed by seat number, then by owner, not by their coming, and then the batches, by owner and number; a lost job no
-- longer.
listed : AreTold (site 2 1 0) (
    ask (seat 1 bob) (asks.Job (pos 0)) (job (seat 1 bob) 1 1 ∷ []) (tells.Job 1 (Some (node 1)))
    ∷ ask (seat 1 ada) (asks.Job (pos 7)) (job (seat 1 ada) 1 2 ∷ []) (tells.Job 1 (Some (node 2)))
    ∷ ask (seat 2 bob) (asks.Create body) [] (tells.Made (batch bob 1))
    ∷ ask (seat 2 ada) (asks.Create body) [] (tells.Made (batch ada 1))
    ∷ ask (seat 2 bob) (asks.Create body) [] (tells.Made (batch bob 2))
    ∷ ask (seat 2 ada) (asks.Create body) [] (tells.Made (batch ada 2))
    ∷ ask admin asks.Jobs [] (tells.Jobs (
    record { waiter = waits.Seat record { seat = seat 1 ada; number = 1 }; owner = ada; priority = pos 7; node = Some (node 2) }
    ∷ record { waiter = waits.Seat record { seat = seat 1 bob; number = 1 }; owner = bob; priority = pos 0; node = Some (node 1) }
    ∷ record { waiter = waits.Batch (batch ada 1) 1; owner = ada; priority = pos 0; node = None }
    ∷ record { waiter = waits.Batch (batch ada 2) 1; owner = ada; priority = pos 0; node = None }
    ∷ record { waiter = waits.Batch (batch bob 1) 1; owner = bob; priority = pos 0; node = None }
    ∷ record { waiter = waits.Batch (batch bob 2) 1; owner = bob; priority = pos 0; node = None }
    ∷ []))
    ∷ ask admin (asks.Fail (node 2)) [] tells.Done
    ∷ ask admin asks.Jobs [] (tells.Jobs (
    record { waiter = waits.Seat record { seat = seat 1 bob; number = 1 }; owner = bob; priority = pos 0; node = Some (node 1) }
    ∷ record { waiter = waits.Batch (batch ada 1) 1; owner = ada; priority = pos 0; node = None }
    ∷ record { waiter = waits.Batch (batch ada 2) 1; owner = ada; priority = pos 0; node = None }
    ∷ record { waiter = waits.Batch (batch bob 1) 1; owner = bob; priority = pos 0; node = None }
    ∷ record { waiter = waits.Batch (batch bob 2) 1; owner = bob; priority = pos 0; node = None }
    ∷ []))
    ∷ refused admin (asks.AbortJob 1 2) NOJOB
    ∷ ask admin (asks.AbortJob 1 1) [] tells.Done
    ∷ ask (seat 1 bob) asks.Poll [] (tells.Job 1 (Some (node 1)))
    ∷ [])
unfolding is_owner is_id is_seat is_node
listed = (refl, refl)

-- Of two seats of one number the first in that order is marked, and the first that is not lost.
marked : (map (λ (j : Job). j.marked) (cluster_by (site 2 1 0) (Asked (seat 1 bob) (asks.Job (pos 0)) ∷ Asked (seat 1 ada) (asks.Job (pos 0)) ∷ Asked admin (asks.AbortJob 1 1) ∷ [])).jobs ≡ false ∷ true ∷ [])
    × (map (λ (j : Job). j.marked) (cluster_by (site 2 1 0) (Asked (seat 1 bob) (asks.Job (pos 0)) ∷ Asked (seat 1 ada) (asks.Job (pos 0)) ∷ Asked admin (asks.Fail (node 2)) ∷ Asked admin (asks.AbortJob 1 1) ∷ [])).jobs ≡ true ∷ false ∷ [])
unfolding is_owner is_id is_seat is_node
marked = (refl, refl)

-- A job that is marked stays, also where it waits, and gets its place in turn.
marked_waits : AreTold (site 1 1 0) (
    ask (seat 1 ada) (asks.Job (pos 0)) (job (seat 1 ada) 1 1 ∷ []) (tells.Job 1 (Some (node 1)))
    ∷ ask (seat 2 bob) (asks.Job (pos 0)) [] (tells.Job 1 None)
    ∷ ask admin (asks.AbortJob 2 1) [] tells.Done
    ∷ ask (seat 2 bob) asks.Poll [] (tells.Job 1 None)
    ∷ ask (seat 1 ada) asks.Leave (job (seat 2 bob) 1 1 ∷ []) tells.Done
    ∷ ask (seat 2 bob) asks.Poll [] (tells.Job 1 (Some (node 1)))
    ∷ [])
unfolding is_owner is_id is_seat is_node
marked_waits = (refl, refl)

-- Of two seats of one number and one owner the STANDARD one is listed first.
by_role : AreTold (site 1 2 0) (
    ask admin (asks.Job (pos 0)) (job admin 1 1 ∷ []) (tells.Job 1 (Some (node 1)))
    ∷ ask (seat 9 ada) (asks.Job (pos 0)) (job (seat 9 ada) 1 1 ∷ []) (tells.Job 1 (Some (node 1)))
    ∷ ask admin asks.Jobs [] (tells.Jobs (
    record { waiter = waits.Seat record { seat = seat 9 ada; number = 1 }; owner = ada; priority = pos 0; node = Some (node 1) }
    ∷ record { waiter = waits.Seat record { seat = admin; number = 1 }; owner = ada; priority = pos 0; node = Some (node 1) }
    ∷ []))
    ∷ [])
unfolding is_owner is_id is_seat is_node
by_role = (refl, refl)
