use Rattle.limit_defs.proofs.Open.{closed_where_none}
use Rattle.limit_defs.proofs.laws.a_model_is_closed_where_no_variable_is_open.Goals as goal

pub returns : goal.returns
returns c = closed_where_none
