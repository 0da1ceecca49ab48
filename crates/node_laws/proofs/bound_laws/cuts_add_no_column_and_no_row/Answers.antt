use Rattle.node_laws.proofs.Sizes.{same_columns, same_rows}
use Rattle.node_laws.proofs.bound_laws.cuts_add_no_column_and_no_row.Goals as goal

pub returns-clause-columns : goal.returns-clause-columns
returns-clause-columns c = same_columns

pub returns-clause-rows : goal.returns-clause-rows
returns-clause-rows c = same_rows
