-- A cluster without its nodes, jobs, waiting list and attempts that run: all that creating a batch and asking for its status
-- look at, and all that they change but for placing.
use Rattle.std.specs.Prelude.{ℕ, false, List, [], ◌∷◌, Option, Some, None}
use Rattle.base_names.specs.declared.refusal.Refusal.{Refusal}
use Rattle.base_names.specs.declared.seat.Seat.{Seat}
use Rattle.table_defs.specs.Table.{Table}
use Rattle.cluster_defs.specs.Answers.{reply_to}
use Rattle.cluster_defs.specs.Appended.{record_of}
use Rattle.cluster_defs.specs.Asks.{Ask, asked_today}
use Rattle.cluster_defs.specs.Charges.{charge, counted}
use Rattle.cluster_defs.specs.Cluster.{Cluster, Usage}
use Rattle.cluster_defs.specs.Deeds.{Faults}
use Rattle.cluster_defs.specs.Effects.{kept_journal, kept_table}
use Rattle.cluster_defs.specs.Refusals.{batch_refusal, bytes_refusal, commands_refusal, disk_refusal, first_of, journal_refusal, numbers_refusal}
use Rattle.cluster_defs.specs.Replies.{Refused, Reply}
use Rattle.cluster_defs.specs.Site.{Site}
use Rattle.cluster_defs.specs.declared.ask.Ask as now

pub record Store : Type 0 where
  pub table : Table
  pub usage : List Usage
  -- the journal's end
  pub journal : ℕ

abbrev pub store_of : Cluster → Store
store_of c = record { table = c.table; usage = c.usage; journal = c.journal }

pub record Stored : Type 0 where
  pub next : Store
  pub reply : Reply

abbrev pub store_refusal : Site → Store → Seat → Ask → Faults → Option Refusal
store_refusal k s seat ask f = let r = record_of s.table [] seat ask in first_of (
    batch_refusal s.table seat ask
    ∷ numbers_refusal s.table seat ask
    ∷ bytes_refusal k s.table seat ask
    ∷ journal_refusal k s.journal s.table r
    ∷ disk_refusal f r
    ∷ [])

abbrev pub count_in : Site → Store → Seat → Ask → Reply → List Usage
count_in k s seat ask reply = counted seat.owner false (charge k seat ask reply) s.usage

abbrev pub stored_with : Site → Store → Seat → Ask → Option Refusal → Stored
stored_with k s seat ask (Some refusal) = record { next = record s { usage = count_in k s seat ask (Refused refusal) }; reply = Refused refusal }
stored_with k s seat ask None =
    let r = record_of s.table [] seat ask in
    let reply = reply_to s.table [] [] [] seat ask in
    record { next = record { table = kept_table r s.table; usage = count_in k s seat ask reply; journal = kept_journal k r s.journal }; reply = reply }

abbrev pub stored_within : Store → Option Refusal → Stored → Stored
stored_within s (Some refusal) o = record { next = s; reply = Refused refusal }
stored_within s None o = o

-- one of today's asks
abbrev pub store_step : Site → Store → Seat → now.Ask → Faults → Stored
store_step k s seat today f =
    let ask = asked_today today in
    stored_within s (commands_refusal k s.usage [] seat ask) (stored_with k s seat ask (store_refusal k s seat ask f))
