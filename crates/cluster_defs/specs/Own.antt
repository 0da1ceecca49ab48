-- The replies to one owner, told by that owner's part and by what is read for it. Nothing here looks at a cluster or takes its step.
use Rattle.std.specs.Prelude.{List, [], ◌∷◌, Option, Some, None, if◌then◌else◌}
use Rattle.base_names.specs.declared.node.NodeNo.{NodeNo}
use Rattle.base_names.specs.declared.node.Placed.{Placed}
use Rattle.base_names.specs.declared.refusal.Refusal.{Refusal}
use Rattle.base_names.specs.declared.seat.Seat.{Seat}
use Rattle.model_data.specs.declared.batch.BatchRecord.TheVariants as is
use Rattle.table_defs.specs.Table.{applied, lost, row_of}
use Rattle.cluster_defs.specs.Answers.{reply_to}
use Rattle.cluster_defs.specs.Appended.{record_of}
use Rattle.cluster_defs.specs.Asks.{Ask}
use Rattle.cluster_defs.specs.Charges.{charge, counted}
use Rattle.cluster_defs.specs.Cluster.{Job, attempts_at}
use Rattle.cluster_defs.specs.Effects.{given_after, jobs_after, kept_table, lost_jobs, marked_jobs, placed_after, without_attempt, without_node}
use Rattle.cluster_defs.specs.Part.{Part}
use Rattle.cluster_defs.specs.Placement.{all_placed_attempts, all_placed_jobs}
use Rattle.cluster_defs.specs.Reading.{OwnAsk, Reading, Shared, Work, free, refused, whole}
use Rattle.cluster_defs.specs.Refusals.{batch_refusal, bytes_refusal, commands_refusal, first_of, is_free, job_refusal, numbers_refusal, role_refusal, state_refusal}
use Rattle.cluster_defs.specs.Replies as tells
use Rattle.cluster_defs.specs.Replies.{Reply}
use Rattle.cluster_defs.specs.Site.{Site}
use Rattle.cluster_defs.specs.Step.{still_open}

pub record Owned : Type 0 where
  pub next : Part
  pub reply : Option Reply

-- ---- a command of one of the owner's seats

abbrev pub own_count : Site → Part → Seat → Ask → Reply → Part → Part
own_count k p seat ask reply next = record next { usage = counted seat.owner (is_free p.jobs seat ask) (charge k seat ask reply) p.usage }

abbrev pub own_refused : Site → Part → Seat → Ask → Refusal → Owned
own_refused k p seat ask refusal = let reply = tells.Refused refusal in record { next = own_count k p seat ask reply p; reply = Some reply }

abbrev pub own_done : Part → Seat → Ask → Part
own_done p seat ask = record p {
  table = kept_table (record_of p.table p.placed seat ask) p.table;
  jobs = jobs_after p.given seat ask p.jobs;
  placed = placed_after p.table ask p.placed;
  given = given_after seat ask p.given;
}

abbrev pub own_told : Site → Part → Seat → Ask → Reply → Part → Owned
own_told k p seat ask reply next = record { next = own_count k p seat ask reply next; reply = Some reply }

abbrev pub own_with : Site → Part → Seat → Ask → List Placed → Option Refusal → Owned
own_with k p seat ask ps (Some refusal) = own_refused k p seat ask refusal
own_with k p seat ask ps None = own_told k p seat ask (reply_to p.table p.jobs p.given ps seat ask) (own_done p seat ask)

-- The owner's own tests, and then what all share. What only an administrator is refused is read whole.
abbrev pub own_refusal : Site → Part → Seat → Ask → Option Refusal → Option Refusal
own_refusal k p seat ask shared = first_of (
    role_refusal seat ask
    ∷ state_refusal p.jobs seat ask
    ∷ job_refusal p.jobs seat ask
    ∷ batch_refusal p.table seat ask
    ∷ numbers_refusal p.table seat ask
    ∷ bytes_refusal k p.table seat ask
    ∷ shared
    ∷ [])

abbrev pub own_shared : Site → Part → Seat → Ask → List Placed → Shared → Owned
own_shared k p seat ask ps free = own_with k p seat ask ps (own_refusal k p seat ask None)
own_shared k p seat ask ps (refused refusal) = own_with k p seat ask ps (own_refusal k p seat ask (Some refusal))
own_shared k p seat ask ps (whole reply) = own_told k p seat ask reply p

-- past the limit on commands nothing changes
abbrev pub own_within : Part → Option Refusal → Owned → Owned
own_within p (Some refusal) o = record { next = p; reply = Some (tells.Refused refusal) }
own_within p None o = o

abbrev pub own_ask : Site → Part → List Placed → Option OwnAsk → Owned
own_ask k p ps None = record { next = p; reply = None }
own_ask k p ps (Some a) = own_within p (commands_refusal k p.usage p.jobs a.seat a.ask) (own_shared k p a.seat a.ask ps a.shared)

-- ---- what else is read

-- All of the owner's that ran on the node is lost.
abbrev pub own_failed : Option NodeNo → Part → Part
own_failed None p = p
own_failed (Some node) p = record p { table = lost (attempts_at node p.placed) p.table; jobs = lost_jobs node p.jobs; placed = without_node node p.placed }

abbrev pub own_marked : Option Job → Part → Part
own_marked job p = record p { jobs = marked_jobs job p.jobs }

abbrev pub own_finished : Work → Part → Part
own_finished w p = record p { table = applied (is.Finish w.id w.attempt w.result) p.table; placed = without_attempt w.id w.attempt p.placed }

-- too late where the attempt has ended
abbrev pub own_work : Option Work → Part → Part
own_work None p = p
own_work (Some w) p = if still_open w.attempt (row_of w.id p.table) then (if w.disk then p else own_finished w p) else p

abbrev pub own_settled : List Placed → Part → Part
own_settled ps p = record p { jobs = all_placed_jobs ps p.jobs; placed = all_placed_attempts ps p.placed }

-- ---- one step of an owner alone

abbrev pub own_step : Site → Part → Reading → Owned
own_step k p r =
    let o = own_ask k p r.placed r.ask in
    record { next = own_settled r.placed (own_work r.work (own_failed r.failed (own_marked r.marked o.next))); reply = o.reply }
