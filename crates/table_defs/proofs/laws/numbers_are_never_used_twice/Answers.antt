use Rattle.table_defs.specs.Table.{no_rows}
use Rattle.table_defs.proofs.Rising.{attempts_rise, numbers_rise}
use Rattle.table_defs.proofs.laws.numbers_are_never_used_twice.Goals as goal

pub returns-clause-numbers : goal.returns-clause-numbers
returns-clause-numbers c u rs taken = numbers_rise u rs no_rows taken

pub returns-clause-attempts : goal.returns-clause-attempts
returns-clause-attempts c = attempts_rise
