use Rattle.cert_text.proofs.OneBadLine.{bad_spells_nothing, one_bad_line, some_bad_line}
use Rattle.cert_text.proofs.laws.a_text_that_spells_nothing_has_one_first_bad_line.Goals as goal

pub returns-clause-unique : goal.returns-clause-unique
returns-clause-unique c = one_bad_line

pub returns-clause-exists : goal.returns-clause-exists
returns-clause-exists c = some_bad_line

pub returns-clause-nothing : goal.returns-clause-nothing
returns-clause-nothing c = bad_spells_nothing
