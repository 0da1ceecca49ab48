-- One owner's part of a cluster. Nodes, the waiting list, the journal's end and which attempts workers have are no owner's.
use Rattle.std.specs.Prelude.{List, filter}
use Rattle.base_names.specs.declared.node.Placed.{Placed}
use Rattle.table_defs.specs.Names.{Owner, is_owner}
use Rattle.table_defs.specs.Owned.{table_of}
use Rattle.table_defs.specs.Table.{Table}
use Rattle.cluster_defs.specs.Cluster.{Cluster, Given, Job, Running, Usage}
use Rattle.cluster_defs.specs.Waiters.{owner_of}

pub record Part : Type 0 where
  pub table : Table
  pub jobs : List Job
  pub placed : List Running
  pub given : List Given
  pub usage : List Usage

abbrev pub jobs_of : Owner → List Job → List Job
jobs_of u jobs = filter (λ job. is_owner u job.seat.owner) jobs

abbrev pub attempts_of : Owner → List Running → List Running
attempts_of u placed = filter (λ r. is_owner u r.id.owner) placed

abbrev pub givens_of : Owner → List Given → List Given
givens_of u given = filter (λ g. is_owner u g.seat.owner) given

abbrev pub usages_of : Owner → List Usage → List Usage
usages_of u usage = filter (λ x. is_owner u x.owner) usage

abbrev pub part_of : Owner → Cluster → Part
part_of u c = record { table = table_of u c.table; jobs = jobs_of u c.jobs; placed = attempts_of u c.placed; given = givens_of u c.given; usage = usages_of u c.usage }

abbrev pub placements_of : Owner → List Placed → List Placed
placements_of u ps = filter (λ p. is_owner u (owner_of p.waiter)) ps
