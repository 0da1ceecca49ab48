-- What is counted of a command, and how much it is charged.
use Rattle.std.specs.Prelude.{ℕ, ◌+◌, ◌*◌, Bool, List, length, Option, Some, None, if◌then◌else◌}
use Rattle.base_names.specs.declared.seat.Seat.{Seat}
use Rattle.model_data.specs.declared.batch.BatchRecord.TheVariants as is
use Rattle.model_data.specs.declared.batch.BatchResult.{BatchResult}
use Rattle.model_data.specs.declared.batch.BatchRow.{BatchRow}
use Rattle.table_defs.specs.Lists.{put}
use Rattle.table_defs.specs.Names.{Owner, is_owner}
use Rattle.cluster_defs.specs.Asks as asks
use Rattle.cluster_defs.specs.Asks.{Ask}
use Rattle.cluster_defs.specs.Cluster.{Usage, usage_of}
use Rattle.cluster_defs.specs.Replies as tells
use Rattle.cluster_defs.specs.Replies.{Reply}
use Rattle.cluster_defs.specs.Site.{Site}

abbrev pub found_bytes : Site → BatchRow → Option BatchResult → ℕ
found_bytes k row None = 0
found_bytes k row (Some result) = k.record_bytes (is.Finish row.id row.attempt result)

-- A row is charged with its records, and a list by its lines.
abbrev pub reply_charge : Site → Reply → ℕ
reply_charge k (tells.Row row) = k.record_bytes (is.Create row.id row.attempt row.body) + found_bytes k row row.result
reply_charge k (tells.Rows rows) = 128 * length rows
reply_charge k (tells.Nodes nodes) = 128 * length nodes
reply_charge k (tells.Jobs jobs) = 128 * length jobs
reply_charge k reply = 0

-- A batch is charged with the record that it asks for, refused or not: it takes as many bytes whatever its number.
abbrev pub charge : Site → Seat → Ask → Reply → ℕ
charge k seat (asks.Create body) reply = k.record_bytes (is.Create record { owner = seat.owner; number = 1 } 1 body)
charge k seat ask reply = reply_charge k reply

-- one more entry of the owner, unless it is free
abbrev pub counted : Owner → Bool → ℕ → List Usage → List Usage
counted owner free bytes usage = if free then usage else put (λ u. is_owner owner u.owner)
    (let u = usage_of owner usage in record { owner = owner; entries = u.entries + 1; charges = u.charges + bytes }) usage
