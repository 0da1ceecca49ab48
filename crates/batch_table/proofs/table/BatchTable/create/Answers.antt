use Rattle.std.proofs.Common.{◌≡◌, ◌∙◌, sym, ap, subst, List}
use Rattle.model_data.specs.declared.batch.BatchRecord.TheVariants.{Create}
use Rattle.model_data.specs.declared.batch.BatchRow.{BatchRow}
use Rattle.batch_table.specs.Contents.{AreLawful, Contents, mark_of, table_in}
use Rattle.batch_table.proofs.Keeping.{keyed_by, lawful_more}
use Rattle.batch_table.proofs.table.BatchTable.create.Goals as goal
use Rattle.std.specs.Prelude.{map}
use Rattle.table_defs.specs.Table.{Mark, Table, applied, new_row, with_mark}

pub invariant_of-self : goal.invariant_of-self
invariant_of-self c =
    let rows = c.self.inside.rows.items in
    let lasts = c.self.inside.lasts.items in
    let create = Create c.args.id c.args.attempt c.args.body in
    let made : applied create (table_in rows lasts) ≡ table_in c.push_reserved.new.self.items c.set_last.new.lasts.items =
    ap {B = Table} (λ (rs : List BatchRow). record { rows = rs; marks = with_mark c.args.id (map mark_of lasts) }) (sym c.push_reserved.ensures.items)
    ∙ ap {B = Table} (λ (ms : List Mark). record { rows = c.push_reserved.new.self.items; marks = ms }) (sym c.set_last.ensures) in (
      keyed_by create c.args.self.now.table (table_in rows lasts) (table_in c.push_reserved.new.self.items c.set_last.new.lasts.items) (ap (λ (v : Contents). v.table) c.self.view_is) made c.requires.taken c.self.invariant.0,
      subst AreLawful (sym c.push_reserved.ensures.items) (lawful_more rows (new_row c.args.id c.args.attempt c.args.body) c.self.invariant.1 c.requires.lawful),
    )
