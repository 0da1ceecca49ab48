-- What is read of a deed for one owner: the least from which that owner's replies can be told. Of a command of another owner
-- these are the places that it gave the owner's jobs, a node that it failed, and a job of the owner that it marked.
use Rattle.std.specs.Prelude.{ℕ, Bool, true, false, ◌&&◌, List, [], Option, Some, None, if◌then◌else◌}
use Rattle.base_names.specs.declared.id.BatchId.{BatchId}
use Rattle.base_names.specs.declared.node.NodeNo.{NodeNo}
use Rattle.base_names.specs.declared.node.Placed.{Placed}
use Rattle.base_names.specs.declared.refusal.Refusal.{Refusal}
use Rattle.base_names.specs.declared.refusal.Refusal.TheVariants.{DISK, JOURNALFULL, NONODE}
use Rattle.base_names.specs.declared.seat.Role.TheVariants.{Admin}
use Rattle.base_names.specs.declared.seat.Seat.{Seat}
use Rattle.model_data.specs.declared.batch.BatchResult.{BatchResult}
use Rattle.table_defs.specs.Names.{Owner, is_owner}
use Rattle.cluster_defs.specs.Asks as asks
use Rattle.cluster_defs.specs.Asks.{Ask}
use Rattle.cluster_defs.specs.Cluster.{Cluster, Job}
use Rattle.cluster_defs.specs.Deeds.{Asked, Deed, Disk, Finished, Left, Took}
use Rattle.cluster_defs.specs.Entries as answers
use Rattle.cluster_defs.specs.Entries.{EntryReply}
use Rattle.cluster_defs.specs.Part.{placements_of}
use Rattle.cluster_defs.specs.Refusals.{is_for_admins, marked_job}
use Rattle.cluster_defs.specs.Replies as tells
use Rattle.cluster_defs.specs.Replies.{Reply}
use Rattle.cluster_defs.specs.Step.{Stepped}
use Rattle.cluster_defs.specs.Waiters.{is_role}

-- ---- the parts of a reading; each that is not there changes nothing

-- what the means that all share answered a command
pub data Shared : Type 0 where
  free : Shared
  refused : Refusal → Shared
  -- the whole reply to an administrator's command
  whole : Reply → Shared

pub record OwnAsk : Type 0 where
  pub seat : Seat
  pub ask : Ask
  pub shared : Shared

-- a result that was handed in, and whether the disk failed
pub record Work : Type 0 where
  pub id : BatchId
  pub attempt : ℕ
  pub result : BatchResult
  pub disk : Bool

pub record Reading : Type 0 where
  pub ask : Option OwnAsk
  -- a node that was failed
  pub failed : Option NodeNo
  -- a job of the owner that was marked
  pub marked : Option Job
  pub work : Option Work
  -- the places of the owner's jobs
  pub placed : List Placed

abbrev pub nothing_read : Reading
nothing_read = record { ask = None; failed = None; marked = None; work = None; placed = [] }

-- ---- what a reply tells of them

-- No node is alive, the journal is full, or the disk failed. Every other refusal is the owner's own.
abbrev pub shared_refusal : Refusal → Option Refusal
shared_refusal NONODE = Some NONODE
shared_refusal (JOURNALFULL need limit) = Some (JOURNALFULL need limit)
shared_refusal (DISK before after) = Some (DISK before after)
shared_refusal refusal = None

abbrev pub shared_in : Reply → Shared
shared_in (tells.Refused refusal) = elim (shared_refusal refusal) as (λ _. Shared) [ None ↦ free | Some r ↦ refused r ]
shared_in reply = free

abbrev pub is_admins : Seat → Ask → Bool
is_admins seat ask = is_for_admins ask && is_role seat.role Admin

abbrev pub shared_of : Seat → Ask → EntryReply → Shared
shared_of seat ask (answers.Reply reply) = if is_admins seat ask then whole reply else shared_in reply
shared_of seat ask reply = free

abbrev pub failed_by : Ask → EntryReply → Option NodeNo
failed_by (asks.Fail node) (answers.Reply tells.Done) = Some node
failed_by ask reply = None

abbrev pub if_own : Owner → Option Job → Option Job
if_own u None = None
if_own u (Some job) = if is_owner u job.seat.owner then Some job else None

abbrev pub marked_by : Owner → List Job → Ask → EntryReply → Option Job
marked_by u jobs (asks.AbortJob seat number) (answers.Reply tells.Done) = if_own u (marked_job jobs seat number)
marked_by u jobs ask reply = None

abbrev pub is_disk : EntryReply → Bool
is_disk (answers.Finish (Disk before after)) = true
is_disk reply = false

-- ---- a deed in a cluster, with what became of it

abbrev pub ask_read : Owner → Seat → Ask → EntryReply → Option OwnAsk
ask_read u seat ask reply = if is_owner u seat.owner then Some record { seat = seat; ask = ask; shared = shared_of seat ask reply } else None

abbrev pub work_read : Owner → BatchId → ℕ → BatchResult → EntryReply → Option Work
work_read u id attempt result reply = if is_owner u id.owner then Some record { id = id; attempt = attempt; result = result; disk = is_disk reply } else None

-- That an attempt was taken or given back changes nothing of the owner's, but for what is placed then.
abbrev pub reading : Owner → Cluster → Deed → Stepped → Reading
reading u c (Asked seat ask) s = record { ask = ask_read u seat ask s.reply; failed = failed_by ask s.reply; marked = marked_by u c.jobs ask s.reply; work = None; placed = placements_of u s.placed }
reading u c (Took worker id attempt) s = record nothing_read { placed = placements_of u s.placed }
reading u c (Finished id attempt result) s = record nothing_read { work = work_read u id attempt result s.reply; placed = placements_of u s.placed }
reading u c (Left id attempt) s = record nothing_read { placed = placements_of u s.placed }

-- the reply to a deed, where it is one of the owner's seats
abbrev pub reply_for : Owner → Deed → EntryReply → Option Reply
reply_for u (Asked seat ask) (answers.Reply reply) = if is_owner u seat.owner then Some reply else None
reply_for u deed reply = None
