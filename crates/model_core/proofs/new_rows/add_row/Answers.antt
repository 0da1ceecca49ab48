use Rattle.model_core.proofs.NewRow.{row_accepted, row_too_many}
use Rattle.model_core.proofs.new_rows.add_row.Goals as goal

pub returns-clause-ok : goal.returns-clause-ok
returns-clause-ok c =
    row_accepted c.requires.index c.args.name.now c.args.sense c.args.rhs c.args.terms.now c.in_ok-row.ensures.names c.in_ok-row.ensures.single c.in_ok-row.row
    c.in_ok-row.ensures.row c.put_row.result c.put_row.new.model c.put_row.ensures.ok c.put_row.ensures.small

pub returns-clause-refused : goal.returns-clause-refused
returns-clause-refused c =
    row_too_many c.requires.index c.args.name.now c.args.sense c.args.rhs c.args.terms.now c.in_ok-row.ensures.names c.in_ok-row.ensures.single c.in_ok-row.row
    c.in_ok-row.ensures.row c.put_row.result c.put_row.ensures.refused
