-- What has a place keeps it: which deeds take it away, and what any other deed may make of it.
use Rattle.std.specs.Prelude.{◌≡◌, ◌⊎◌, Bool, true, false, List, [], ◌∷◌}
use Rattle.base_names.specs.declared.refusal.Refusal.TheVariants.{NODELOST}
use Rattle.table_defs.specs.Names.{is_attempt, is_id}
use Rattle.cluster_defs.specs.Asks as asks
use Rattle.cluster_defs.specs.Cluster.{Job, Running, is_at}
use Rattle.cluster_defs.specs.Deeds.{Asked, Deed, Finished, Kept}
use Rattle.cluster_defs.specs.Entries as answers
use Rattle.cluster_defs.specs.Entries.{EntryReply}
use Rattle.cluster_defs.specs.Replies as tells
use Rattle.cluster_defs.specs.Waiters.{is_node, is_seat}

-- Its seat has left the job, or was told that it is lost, or its node has failed.
abbrev pub ends_job : Job → Deed → EntryReply → Bool
ends_job job (Asked seat asks.Leave) (answers.Reply tells.Done) = is_seat seat job.seat
ends_job job (Asked seat asks.Poll) (answers.Reply (tells.Refused (NODELOST node))) = is_seat seat job.seat
ends_job job (Asked seat (asks.Fail node)) (answers.Reply tells.Done) = is_at node job.node
ends_job job deed reply = false

-- The seat has this job alone, on its node, and nothing of it has changed but that it may be marked.
abbrev pub RunsOn : Job → List Job → Type 0
RunsOn job jobs = (jobs ≡ job ∷ []) ⊎ (jobs ≡ record job { marked = true } ∷ [])

-- Its owner has ended the attempt, or its node has failed, or its result was kept.
abbrev pub ends_attempt : Running → Deed → EntryReply → Bool
ends_attempt r (Asked seat (asks.Abort id)) (answers.Reply tells.Done) = is_id id r.id
ends_attempt r (Asked seat (asks.Fail node)) (answers.Reply tells.Done) = is_node node r.node
ends_attempt r (Finished id attempt result) (answers.Finish Kept) = is_attempt id attempt r.id r.attempt
ends_attempt r deed reply = false
