use Rattle.std.proofs.Common.{ap}
use Rattle.lp_defs.specs.Objective.{Summand}
use Rattle.lp_defs.specs.Rows as defs
use Rattle.lp_parse.specs.Meaning.{stage_of}
use Rattle.lp_parse.proofs.Outcomes.{met_as}
use Rattle.lp_parse.proofs.rows.after_row_sign.Goals as goal

pub returns-in-Name : goal.returns-in-Name
returns-in-Name c =
    let told = ap (λ (s : Summand). defs.row_term s c.args.told.now.draft) c.lone.ensures in
    rw c.in-Name.is (met_as c.row_term.result (λ stage. stage_of stage c.row_term.new.told) told c.row_term.ensures)
