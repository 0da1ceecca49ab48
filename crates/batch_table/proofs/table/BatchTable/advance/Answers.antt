use Rattle.std.proofs.Common.{◌≡◌, sym, ap, List}
use Rattle.model_data.specs.declared.batch.BatchRecord.TheVariants.{Next}
use Rattle.batch_table.specs.Contents.{Contents, table_in}
use Rattle.batch_table.proofs.Keeping.{keyed_by}
use Rattle.batch_table.proofs.table.BatchTable.advance.Goals as goal
use Rattle.table_defs.specs.Table.{Mark, Table, applied}

pub invariant_of-self : goal.invariant_of-self
invariant_of-self c =
    let rows = c.self.inside.rows.items in
    let lasts = c.self.inside.lasts.items in
    let made : applied (Next c.args.id) (table_in rows lasts) ≡ table_in rows c.set_last.new.lasts.items = ap {B = Table} (λ (marks : List Mark). record { rows = rows; marks = marks }) (sym c.set_last.ensures) in
    (keyed_by (Next c.args.id) c.args.self.now.table (table_in rows lasts) (table_in rows c.set_last.new.lasts.items) (ap (λ (v : Contents). v.table) c.self.view_is) made c.requires.taken c.self.invariant.0, c.self.invariant.1)
