use Rattle.search_laws.proofs.Stopped.{cut_made, plain_says, plain_uncut}
use Rattle.search_laws.proofs.turn_laws.a_status_says_why_a_solve_ends.Goals as goal

pub returns-clause-limits : goal.returns-clause-limits
returns-clause-limits c = plain_says

pub returns-clause-cut : goal.returns-clause-cut
returns-clause-cut c = cut_made

pub returns-clause-uncut : goal.returns-clause-uncut
returns-clause-uncut c = plain_uncut
