-- A cluster, and what is read off it. Whatever has an owner stands in a list, with the owner in each item, so that one
-- owner's part of it is the list with a filter.
use Rattle.std.specs.Prelude.{ℕ, ◌+◌, Bool, false, not, ◌&&◌, ℤ, List, filter, find, length, map, Option, Some, None}
use Rattle.base_names.specs.declared.id.BatchId.{BatchId}
use Rattle.base_names.specs.declared.node.NodeLine.{NodeLine}
use Rattle.base_names.specs.declared.node.NodeNo.{NodeNo}
use Rattle.base_names.specs.declared.node.NodeState.{NodeState}
use Rattle.base_names.specs.declared.node.Waiter.{Waiter}
use Rattle.base_names.specs.declared.seat.JobId.{JobId}
use Rattle.base_names.specs.declared.seat.Seat.{Seat}
use Rattle.model_data.specs.declared.batch.AttemptOf.{AttemptOf}
use Rattle.table_defs.specs.Names.{Owner, is_owner}
use Rattle.table_defs.specs.Table.{Table}
use Rattle.cluster_defs.specs.Waiters.{is_node, is_seat}

-- ---- its parts

-- A seat's job. It waits where it has no node. Its node has failed where it is lost, and an administrator has aborted it
-- where it is marked.
pub record Job : Type 0 where
  pub seat : Seat
  pub number : ℕ
  pub priority : ℤ
  pub node : Option NodeNo
  pub lost : Bool
  pub marked : Bool

-- an attempt with its place
pub record Running : Type 0 where
  pub id : BatchId
  pub attempt : ℕ
  pub node : NodeNo

pub record Waiting : Type 0 where
  pub waiter : Waiter
  pub priority : ℤ

pub record Node : Type 0 where
  pub node : NodeNo
  pub state : NodeState
  pub limit : ℕ
  -- 0 for none
  pub hard : ℕ

-- how many jobs a seat was given since the cluster was opened
pub record Given : Type 0 where
  pub seat : Seat
  pub jobs : ℕ

-- an owner's counted entries since then, and what they were charged
pub record Usage : Type 0 where
  pub owner : Owner
  pub entries : ℕ
  pub charges : ℕ

pub record Cluster : Type 0 where
  pub table : Table
  pub jobs : List Job
  -- by the time of placing
  pub placed : List Running
  -- those of them that a worker has
  pub taken : List AttemptOf
  pub given : List Given
  pub usage : List Usage
  -- in the order in which they may run
  pub waiting : List Waiting
  -- by number
  pub nodes : List Node
  -- the journal's end
  pub journal : ℕ

-- ---- look-ups

abbrev pub job_of : Seat → List Job → Option Job
job_of seat jobs = find (λ job. is_seat seat job.seat) jobs

abbrev pub given_of : Option Given → ℕ
given_of None = 0
given_of (Some given) = given.jobs

abbrev pub jobs_given : Seat → List Given → ℕ
jobs_given seat all = given_of (find (λ given. is_seat seat given.seat) all)

abbrev pub usage_or : Owner → Option Usage → Usage
usage_or owner None = record { owner = owner; entries = 0; charges = 0 }
usage_or owner (Some usage) = usage

abbrev pub usage_of : Owner → List Usage → Usage
usage_of owner all = usage_or owner (find (λ usage. is_owner owner usage.owner) all)

abbrev pub id_of : Job → JobId
id_of job = record { seat = job.seat; number = job.number }

-- ---- nodes

abbrev pub numbers_of : List Node → List ℕ
numbers_of nodes = map (λ n. n.node.0) nodes

abbrev pub is_at : NodeNo → Option NodeNo → Bool
is_at node None = false
is_at node (Some place) = is_node node place

-- A lost job keeps its node, and runs there no longer.
abbrev pub runs_at : NodeNo → Job → Bool
runs_at node job = is_at node job.node && not job.lost

abbrev pub attempts_at : NodeNo → List Running → List AttemptOf
attempts_at node placed = map (λ r. record { id = r.id; attempt = r.attempt }) (filter (λ r. is_node node r.node) placed)

abbrev pub running : NodeNo → Cluster → ℕ
running node c = length (filter (runs_at node) c.jobs) + length (filter (λ r. is_node node r.node) c.placed)

abbrev pub line_of : Cluster → Node → NodeLine
line_of c n = record { node = n.node; state = n.state; limit = n.limit; hard = n.hard; running = running n.node c }

abbrev pub lines : Cluster → List NodeLine
lines c = map (line_of c) c.nodes
