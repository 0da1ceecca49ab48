-- One deed: what a cluster is behind it, which places are given, and what is answered.
use Rattle.std.specs.Prelude.{ℕ, nat_le, Bool, false, not, List, [], ◌∷◌, ◌++◌, filter, Option, Some, None, if◌then◌else◌}
use Rattle.base_names.specs.declared.id.BatchId.{BatchId}
use Rattle.base_names.specs.declared.node.Placed.{Placed}
use Rattle.base_names.specs.declared.node.Waiter.TheVariants as waits
use Rattle.base_names.specs.declared.refusal.Refusal.{Refusal}
use Rattle.base_names.specs.declared.seat.Seat.{Seat}
use Rattle.model_data.specs.declared.batch.BatchRecord.TheVariants as is
use Rattle.model_data.specs.declared.batch.BatchResult.{BatchResult}
use Rattle.model_data.specs.declared.batch.BatchRow.{BatchRow}
use Rattle.table_defs.specs.Names.{is_attempt}
use Rattle.table_defs.specs.Table.{applied, row_of}
use Rattle.table_defs.specs.Taken.{is_open}
use Rattle.cluster_defs.specs.Asks.{Ask}
use Rattle.cluster_defs.specs.Cluster.{Cluster, Usage}
use Rattle.cluster_defs.specs.Answers.{whole_reply}
use Rattle.cluster_defs.specs.Charges.{charge, counted}
use Rattle.cluster_defs.specs.Deeds.{Asked, Back, Deed, Disk, Faults, FinishReply, Finished, Kept, Late, Left, Took}
use Rattle.cluster_defs.specs.Effects.{done, kept_journal, without_attempt}
use Rattle.cluster_defs.specs.Entries as answers
use Rattle.cluster_defs.specs.Entries.{EntryReply}
use Rattle.cluster_defs.specs.Placement.{dequeue, place, settled}
use Rattle.cluster_defs.specs.Refusals.{ask_refusal, commands_refusal, is_free}
use Rattle.cluster_defs.specs.Replies as tells
use Rattle.cluster_defs.specs.Replies.{Reply}
use Rattle.cluster_defs.specs.Site.{Site}

-- ---- a command

pub record Stepped : Type 0 where
  pub next : Cluster
  pub placed : List Placed
  pub reply : EntryReply

-- What may run then is placed.
abbrev pub behind : Cluster → EntryReply → Stepped
behind c reply = let ps = place c in record { next = settled ps c; placed = ps; reply = reply }

abbrev pub count_reply : Site → Cluster → Seat → Ask → Reply → List Usage
count_reply k c seat ask reply = counted seat.owner (is_free c.jobs seat ask) (charge k seat ask reply) c.usage

abbrev pub refused_ask : Site → Cluster → Seat → Ask → Refusal → Stepped
refused_ask k c seat ask refusal = let reply = tells.Refused refusal in behind (record c { usage = count_reply k c seat ask reply }) (answers.Reply reply)

abbrev pub done_ask : Site → Cluster → Seat → Ask → Stepped
done_ask k c seat ask =
    let d = done k c seat ask in
    let ps = place d in
    let reply = whole_reply c ps seat ask in
    record { next = settled ps (record d { usage = count_reply k c seat ask reply }); placed = ps; reply = answers.Reply reply }

abbrev pub asked_with : Site → Cluster → Seat → Ask → Option Refusal → Stepped
asked_with k c seat ask (Some refusal) = refused_ask k c seat ask refusal
asked_with k c seat ask None = done_ask k c seat ask

-- A command past the limit on commands changes nothing, and is not kept.
abbrev pub within_limit : Cluster → Option Refusal → Stepped → Stepped
within_limit c (Some refusal) s = record { next = c; placed = []; reply = answers.Reply (tells.Refused refusal) }
within_limit c None s = s

abbrev pub asked : Site → Cluster → Seat → Ask → Faults → Stepped
asked k c seat ask f = within_limit c (commands_refusal k c.usage c.jobs seat ask) (asked_with k c seat ask (ask_refusal k c seat ask f))

-- ---- a worker

abbrev pub with_taken : Cluster → BatchId → ℕ → Cluster
with_taken c id attempt = record c { taken = c.taken ++ record { id = id; attempt = attempt } ∷ [] }

-- the attempt goes on
abbrev pub still_open : ℕ → Option BatchRow → Bool
still_open attempt None = false
still_open attempt (Some row) = is_open attempt row

abbrev pub status_in : Option BatchRow → Option ℕ
status_in None = None
status_in (Some row) = Some row.status

abbrev pub with_returned : Cluster → BatchId → ℕ → Cluster
with_returned c id attempt = record c { taken = filter (λ a. not (is_attempt id attempt a.id a.attempt)) c.taken }

-- it keeps its place, and may be taken again
abbrev pub put_back : Cluster → BatchId → ℕ → FinishReply → Stepped
put_back c id attempt reply = behind (with_returned c id attempt) (answers.Finish reply)

abbrev pub with_result : Site → Cluster → BatchId → ℕ → BatchResult → Cluster
with_result k c id attempt result = let r = is.Finish id attempt result in record c {
  table = applied r c.table;
  placed = without_attempt id attempt c.placed;
  waiting = dequeue (waits.Batch id attempt) c.waiting;
  journal = kept_journal k (Some r) c.journal;
}

abbrev pub finish_with : Site → Cluster → BatchId → ℕ → BatchResult → Faults → Stepped
finish_with k c id attempt result f =
    if nat_le f.after f.before then behind (with_result k c id attempt result) (answers.Finish Kept) else put_back c id attempt (Disk f.before f.after)

-- An attempt that has ended meanwhile is too late, whatever is handed in.
abbrev pub handed_in : Cluster → BatchId → ℕ → Stepped → Stepped
handed_in c id attempt on_time =
    if still_open attempt (row_of id c.table) then on_time else behind c (answers.Finish (Late (status_in (row_of id c.table))))

-- ---- any deed

abbrev pub step : Site → Cluster → Deed → Faults → Stepped
step k c (Asked seat ask) f = asked k c seat ask f
step k c (Took worker id attempt) f = behind (with_taken c id attempt) answers.Took
step k c (Finished id attempt result) f = handed_in c id attempt (finish_with k c id attempt result f)
step k c (Left id attempt) f = handed_in c id attempt (put_back c id attempt Back)
