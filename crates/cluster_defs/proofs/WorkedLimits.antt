-- Histories of limits and of the order of refusals, with what is placed and answered.
use Rattle.std.proofs.Common.{◌≡◌, refl, ℕ, List, [], ◌∷◌, ◌++◌, Some, None, pos}
use Rattle.base_names.specs.declared.seat.Seat.{Seat}
use Rattle.base_names.specs.declared.refusal.OwnerLimit.TheVariants.{Commands, Bytes, Numbers}
use Rattle.base_names.specs.declared.refusal.Refusal.TheVariants.{BATCHSTATE, DISK, JOURNALFULL, NODE, NOJOB, NONODE, OWNERFULL, RANGE, ROLE, STATE}
use Rattle.table_defs.specs.Names.{is_id, is_owner}
use Rattle.model_data.specs.declared.batch.BatchRecord.TheVariants as is
use Rattle.cluster_defs.specs.Cluster.{Cluster, Usage, usage_of}
use Rattle.cluster_defs.specs.Told.{told}
use Rattle.table_defs.specs.Table.{aborted, after, no_rows, submitted}
use Rattle.cluster_defs.specs.Asks as asks
use Rattle.cluster_defs.specs.Asks.{Ask}
use Rattle.cluster_defs.specs.Deeds.{Asked, Deed, Disk, Faults, Finished, Took}
use Rattle.cluster_defs.specs.Entries as answers
use Rattle.cluster_defs.specs.Entries.{EntryReply}
use Rattle.cluster_defs.specs.Legal.{next_work}
use Rattle.cluster_defs.specs.Life.{deed_record}
use Rattle.cluster_defs.specs.Opened.{opened}
use Rattle.cluster_defs.specs.Replies as tells
use Rattle.cluster_defs.specs.Step.{Stepped, step}
use Rattle.cluster_defs.specs.Waiters.{is_node, is_seat}
use Rattle.cluster_defs.proofs.Scenes.{AreTold, AreToldBehind, AreToldFrom, ada, admin, ask, batch, bob, body, cluster_by, found, job, limited, node, refused, seat, site, sized, work}

-- The third command of an owner is one too many, before its role is looked at; a job that is held is left, and another
-- owner's commands are its own.
commands : AreTold (limited 1 1 0 record { commands = 2; bytes = 8388608; journal = 1000000000 }) (
    ask (seat 1 ada) (asks.Job (pos 0)) (job (seat 1 ada) 1 1 ∷ []) (tells.Job 1 (Some (node 1)))
    ∷ refused (seat 1 ada) (asks.Drain (node 1)) ROLE
    ∷ refused (seat 1 ada) (asks.Drain (node 1)) (OWNERFULL Commands)
    ∷ refused (seat 1 ada) asks.Poll (OWNERFULL Commands)
    ∷ ask (seat 1 ada) asks.Leave [] tells.Done
    ∷ refused (seat 1 ada) asks.Leave (OWNERFULL Commands)
    ∷ refused (seat 1 bob) asks.Leave NOJOB
    ∷ refused (seat 1 bob) asks.Leave NOJOB
    ∷ refused (seat 1 bob) asks.Leave (OWNERFULL Commands)
    ∷ [])
unfolding is_owner is_id is_seat is_node
commands = (refl, refl)

-- A second job is refused by the hub, and counts.
second_job : AreTold (limited 1 2 0 record { commands = 2; bytes = 9999; journal = 1000000000 }) (
    ask (seat 1 ada) (asks.Job (pos 0)) (job (seat 1 ada) 1 1 ∷ []) (tells.Job 1 (Some (node 1)))
    ∷ refused (seat 1 ada) (asks.Job (pos 0)) STATE
    ∷ refused (seat 1 ada) asks.Poll (OWNERFULL Commands)
    ∷ refused (seat 1 ada) (asks.Job (pos 0)) (OWNERFULL Commands)
    ∷ [])
unfolding is_owner is_id is_seat is_node
second_job = (refl, refl)

-- ---- charges

-- A batch is charged with its record, also where it is refused. Two of these records have all the bytes that an owner's
-- commands may be charged.
refused_charge : AreTold (sized 16777216 50 record { commands = 65536; bytes = 10; journal = 1000000000 }) (
    refused (seat 1 ada) (asks.Create body) (OWNERFULL Bytes)
    ∷ refused (seat 1 ada) (asks.Create body) (OWNERFULL Bytes)
    ∷ refused (seat 1 ada) asks.Listing (OWNERFULL Commands)
    ∷ refused (seat 1 bob) (asks.Create body) (OWNERFULL Bytes)
    ∷ [])
unfolding is_owner is_id is_seat is_node
refused_charge = (refl, refl)

-- with one byte less each a third command is asked
almost_charged : AreTold (sized 16777215 50 record { commands = 65536; bytes = 10; journal = 1000000000 }) (
    refused (seat 1 ada) (asks.Create body) (OWNERFULL Bytes)
    ∷ refused (seat 1 ada) (asks.Create body) (OWNERFULL Bytes)
    ∷ ask (seat 1 ada) asks.Listing [] (tells.Rows [])
    ∷ [])
unfolding is_owner is_id is_seat is_node
almost_charged = (refl, refl)

abbrev one_result : List Deed
one_result = Asked (seat 1 ada) (asks.Create body) ∷ Finished (batch ada 1) 1 found ∷ []

abbrev spent : List Deed → Usage
spent deeds = usage_of ada (cluster_by (site 2 1 0) (one_result ++ deeds)).usage

-- A row is charged with both its records, and a list with 128 bytes a line; all else is free of charge, and counts.
charges : (spent [] ≡ record { owner = ada; entries = 1; charges = 100 })
    × (spent (Asked (seat 1 ada) (asks.Row (batch ada 1)) ∷ []) ≡ record { owner = ada; entries = 2; charges = 300 })
    × (spent (Asked (seat 1 ada) asks.Listing ∷ []) ≡ record { owner = ada; entries = 2; charges = 228 })
    × (spent (Asked admin asks.Nodes ∷ []) ≡ record { owner = ada; entries = 2; charges = 356 })
    × (spent (Asked (seat 1 bob) (asks.Create body) ∷ Asked (seat 1 ada) (asks.Job (pos 0)) ∷ Asked admin asks.Jobs ∷ []) ≡ record { owner = ada; entries = 3; charges = 356 })
    × (spent (Asked (seat 1 ada) (asks.Status (batch ada 1)) ∷ Asked (seat 1 ada) (asks.Discard (batch ada 1)) ∷ Asked (seat 1 ada) (asks.Row (batch ada 1)) ∷ []) ≡ record { owner = ada; entries = 4; charges = 100 })
unfolding is_owner is_id is_seat is_node
charges = (refl, refl, refl, refl, refl, refl)

-- ---- bytes, numbers, and room in the journal

-- Two models of 50 bytes are as many as 100 bytes hold, until one is discarded; another owner's take no room.
bytes : AreTold (limited 1 1 0 record { commands = 65536; bytes = 100; journal = 1000000000 }) (
    ask (seat 1 ada) (asks.Create body) (work (batch ada 1) 1 1 ∷ []) (tells.Made (batch ada 1))
    ∷ ask (seat 1 ada) (asks.Create body) [] (tells.Made (batch ada 2))
    ∷ refused (seat 1 ada) (asks.Create body) (OWNERFULL Bytes)
    ∷ ask (seat 1 bob) (asks.Create body) [] (tells.Made (batch bob 1))
    ∷ ask (seat 1 ada) (asks.Abort (batch ada 2)) [] tells.Done
    ∷ refused (seat 1 ada) (asks.Create body) (OWNERFULL Bytes)
    ∷ ask (seat 1 ada) (asks.Discard (batch ada 2)) [] tells.Done
    ∷ ask (seat 1 ada) (asks.Create body) [] (tells.Made (batch ada 3))
    ∷ [])
unfolding is_owner is_id is_seat is_node
bytes = (refl, refl)

-- A model of 188 bytes passes 187, and not 188.
model_fits : AreTold (sized 228 188 record { commands = 100; bytes = 188; journal = 1000000000 }) (
    ask (seat 1 ada) (asks.Create body) (work (batch ada 1) 1 1 ∷ []) (tells.Made (batch ada 1))
    ∷ refused (seat 1 ada) (asks.Create body) (OWNERFULL Bytes)
    ∷ [])
unfolding is_owner is_id is_seat is_node
model_fits = (refl, refl)

model_passes : AreTold (sized 228 188 record { commands = 100; bytes = 187; journal = 1000000000 }) (refused (seat 1 ada) (asks.Create body) (OWNERFULL Bytes) ∷ [])
unfolding is_owner is_id is_seat is_node
model_passes = (refl, refl)

-- No batch has a number above 2^32 - 1.
numbers : AreToldBehind (site 1 2 0) (is.Next (batch ada 4294967294) ∷ []) (
    ask (seat 1 ada) (asks.Create body) (work (batch ada 4294967295) 1 1 ∷ []) (tells.Made (batch ada 4294967295))
    ∷ refused (seat 1 ada) (asks.Create body) (OWNERFULL Numbers)
    ∷ ask (seat 1 bob) (asks.Create body) (work (batch bob 1) 1 1 ∷ []) (tells.Made (batch bob 1))
    ∷ [])
unfolding is_owner is_id is_seat is_node
numbers = (refl, refl)

-- nor an attempt
last_attempt : AreToldBehind (site 1 2 0) (is.Create (batch ada 1) 4294967294 body ∷ is.Abort (batch ada 1) 4294967294 ∷ []) (
    ask (seat 1 ada) (asks.Retry (batch ada 1)) (work (batch ada 1) 4294967295 1 ∷ []) tells.Done
    ∷ ask (seat 1 ada) (asks.Abort (batch ada 1)) [] tells.Done
    ∷ refused (seat 1 ada) (asks.Retry (batch ada 1)) (BATCHSTATE aborted)
    ∷ [])
unfolding is_owner is_id is_seat is_node
last_attempt = (refl, refl)

-- 8 bytes, a record of 5 and 228, and what is kept free for its attempt
too_small : AreTold (sized 228 188 record { commands = 100; bytes = 8388608; journal = 1200100 }) (refused (seat 1 ada) (asks.Create body) (JOURNALFULL 1200241 1200100) ∷ [])
unfolding is_owner is_id is_seat is_node
too_small = (refl, refl)

-- The journal begins with 8 bytes, and each record takes 105. What is to come has 1,200,000 bytes kept free for each
-- attempt, so an abort always fits, and a retry may not.
journal : AreTold (limited 1 1 0 record { commands = 65536; bytes = 8388608; journal = 1200218 }) (
    ask (seat 1 ada) (asks.Create body) (work (batch ada 1) 1 1 ∷ []) (tells.Made (batch ada 1))
    ∷ refused (seat 1 bob) (asks.Create body) (JOURNALFULL 2400218 1200218)
    ∷ ask (seat 1 ada) (asks.Abort (batch ada 1)) [] tells.Done
    ∷ refused (seat 1 ada) (asks.Retry (batch ada 1)) (JOURNALFULL 1200323 1200218)
    ∷ ask (seat 1 ada) (asks.Discard (batch ada 1)) [] tells.Done
    ∷ [])
unfolding is_owner is_id is_seat is_node
journal = (refl, refl)

-- What ends an attempt is not refused for want of room, even where the journal was opened past its limit; all else is.
abbrev past_limit : Cluster
past_limit = opened (limited 1 1 0 record { commands = 65536; bytes = 8388608; journal = 1000 }) (after (is.Create (batch ada 1) 1 body ∷ is.Create (batch ada 2) 1 body ∷ []) no_rows) 990

outcomes_fit : told (limited 1 1 0 record { commands = 65536; bytes = 8388608; journal = 1000 }) past_limit (Asked (seat 1 ada) (asks.Abort (batch ada 1)) ∷ Asked (seat 1 ada) (asks.Discard (batch ada 1)) ∷ Asked admin (asks.Fail (node 1)) ∷ [])
    ≡ record { placed = work (batch ada 2) 1 1 ∷ []; reply = answers.Reply tells.Done } ∷ record { placed = []; reply = answers.Reply (tells.Refused (JOURNALFULL 1201200 1000)) } ∷ record { placed = []; reply = answers.Reply tells.Done } ∷ []
unfolding is_owner is_id is_seat is_node
outcomes_fit = refl

-- ---- faults of the disk

abbrev faulty : Faults
faulty = record { before = 3; after = 4 }

abbrev one_runs : Cluster
one_runs = cluster_by (site 1 1 0) (Asked (seat 1 ada) (asks.Create body) ∷ [])

abbrev faulted : Cluster → Deed → Stepped
faulted c deed = step (site 1 1 0) c deed faulty

-- A command whose record the disk refused changes nothing but the count, and its number is given to the next.
disk : ((faulted (opened (site 1 1 0) no_rows 8) (Asked (seat 1 ada) (asks.Create body))).reply ≡ answers.Reply (tells.Refused (DISK 3 4)))
    × ((faulted (opened (site 1 1 0) no_rows 8) (Asked (seat 1 ada) (asks.Create body))).next.table ≡ no_rows)
    × AreToldFrom (site 1 1 0) (faulted (opened (site 1 1 0) no_rows 8) (Asked (seat 1 ada) (asks.Create body))).next (
    ask (seat 1 ada) (asks.Create body) (work (batch ada 1) 1 1 ∷ []) (tells.Made (batch ada 1))
    ∷ ask (seat 1 ada) asks.Listing [] (tells.Rows (record { id = batch ada 1; status = submitted } ∷ []))
    ∷ [])
unfolding is_owner is_id is_seat is_node
disk = (refl, refl, (refl, refl))

-- A result that it refused is placed as before, and may be taken again. What runs on a node that could not be failed runs on.
-- A node on which no attempt runs is failed without the disk.
kept_back : ((faulted one_runs (Finished (batch ada 1) 1 found)).reply ≡ answers.Finish (Disk 3 4))
    × ((faulted one_runs (Finished (batch ada 1) 1 found)).next.placed ≡ one_runs.placed)
    × (next_work (faulted (cluster_by (site 1 1 0) (Asked (seat 1 ada) (asks.Create body) ∷ Took 1 (batch ada 1) 1 ∷ [])) (Finished (batch ada 1) 1 found)).next ≡ Some record { id = batch ada 1; attempt = 1; node = node 1 })
    × ((faulted one_runs (Asked admin (asks.Fail (node 1)))).reply ≡ answers.Reply (tells.Refused (DISK 3 4)))
    × ((faulted one_runs (Asked admin (asks.Fail (node 1)))).next.placed ≡ one_runs.placed)
    × ((faulted one_runs (Asked admin (asks.Fail (node 1)))).next.nodes ≡ one_runs.nodes)
    × (deed_record (opened (site 1 1 0) no_rows 8) (Asked admin (asks.Fail (node 1))) ≡ None)
unfolding is_owner is_id is_seat is_node
kept_back = (refl, refl, refl, refl, refl, refl, refl)

-- ---- which refusal comes first

orders : AreTold (site 1 1 0) (
    refused (seat 1 ada) (asks.Limits (node 7) 0 0) ROLE
    ∷ refused admin (asks.Limits (node 7) 0 0) NODE
    ∷ refused admin (asks.Limits (node 1) 0 0) RANGE
    ∷ refused admin (asks.Limits (node 1) 1001 0) RANGE
    ∷ refused admin (asks.Limits (node 1) 5 4) RANGE
    ∷ refused admin (asks.Limits (node 1) 5 1001) RANGE
    ∷ ask admin (asks.Limits (node 1) 5 5) [] tells.Done
    ∷ refused admin (asks.AbortJob 1 1) NOJOB
    ∷ ask (seat 1 ada) (asks.Job (pos 0)) (job (seat 1 ada) 1 1 ∷ []) (tells.Job 1 (Some (node 1)))
    ∷ ask admin (asks.Fail (node 1)) [] tells.Done
    ∷ refused (seat 1 ada) (asks.Job (pos 0)) STATE
    ∷ refused (seat 2 ada) (asks.Job (pos 0)) NONODE
    ∷ [])
unfolding is_owner is_id is_seat is_node
orders = (refl, refl)

-- where an owner's numbers have ended, no bytes are left, the journal is full and the disk fails
abbrev all_full : ℕ → Cluster → Seat → Ask → EntryReply
all_full bytes c s a = (step (limited 1 1 0 record { commands = 65536; bytes = bytes; journal = 1000 }) c (Asked s a) faulty).reply

last_orders : (all_full 10 (opened (site 1 1 0) (after (is.Next (batch ada 4294967295) ∷ []) no_rows) 990) (seat 1 ada) (asks.Create body) ≡ answers.Reply (tells.Refused (OWNERFULL Numbers)))
    × (all_full 10 (opened (site 1 1 0) no_rows 990) (seat 1 ada) (asks.Create body) ≡ answers.Reply (tells.Refused (OWNERFULL Bytes)))
    × (all_full 100 (opened (site 1 1 0) no_rows 990) (seat 1 ada) (asks.Create body) ≡ answers.Reply (tells.Refused (JOURNALFULL 1201095 1000)))
    × (all_full 100 past_limit (seat 1 ada) (asks.Discard (batch ada 1)) ≡ answers.Reply (tells.Refused (BATCHSTATE submitted)))
    × (all_full 100 past_limit (seat 1 ada) (asks.Abort (batch ada 1)) ≡ answers.Reply (tells.Refused (DISK 3 4)))
unfolding is_owner is_id is_seat is_node
last_orders = (refl, refl, refl, refl, refl)
