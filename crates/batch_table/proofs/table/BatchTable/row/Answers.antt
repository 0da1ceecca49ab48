use Rattle.std.proofs.Common.{◌∙◌, sym, ap, subst, List, Some, None}
use Rattle.model_data.specs.declared.batch.BatchRow.{BatchRow}
use Rattle.batch_table.specs.Contents.{Contents}
use Rattle.batch_table.specs.Lookups.{StandsAt}
use Rattle.batch_table.proofs.Keeping.{found_in_place, found_nowhere}
use Rattle.batch_table.proofs.table.BatchTable.row.Goals as goal
use Rattle.table_defs.specs.Names.{is_id}
use Rattle.table_defs.specs.Table.{row_of}

pub returns-in-Some : goal.returns-in-Some
returns-in-Some c =
    let id = c.args.id.now in
    let at = subst (λ (rows : List BatchRow). StandsAt (λ (row : BatchRow). is_id id row.id) rows (Some c.in-Some.place)) c.deref.ensures.value c.in-Some.ensures in
    ap Some c.index.ensures ∙ (sym (found_in_place id c.self.inside.rows.items c.self.inside.lasts.items c.in-Some.place c.index.result.now at c.self.invariant.0) ∙ ap (λ (v : Contents). row_of id v.table) c.self.view_is)

pub returns-in-None : goal.returns-in-None
returns-in-None c =
    let id = c.args.id.now in
    let nowhere = subst (λ (rows : List BatchRow). StandsAt (λ (row : BatchRow). is_id id row.id) rows None) c.deref.ensures.value c.in-None.ensures in
    sym (found_nowhere id c.self.inside.rows.items c.self.inside.lasts.items nowhere) ∙ ap (λ (v : Contents). row_of id v.table) c.self.view_is
