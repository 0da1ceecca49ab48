use Rattle.table_defs.proofs.Owned.{part_all_taken, part_of_all}
use Rattle.table_defs.proofs.laws.an_owners_table_is_that_of_its_records.Goals as goal

pub returns-clause-table : goal.returns-clause-table
returns-clause-table c = part_of_all

pub returns-clause-taken : goal.returns-clause-taken
returns-clause-taken c = part_all_taken
