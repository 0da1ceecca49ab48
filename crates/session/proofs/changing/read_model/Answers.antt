use Rattle.std.proofs.lemmas.Result.{IfOk-weaker}
use Rattle.lp_defs.proofs.Laws.{spelled_reads}
use Rattle.session.proofs.changing.read_model.Goals as goal

pub returns-clause-ok : goal.returns-clause-ok
returns-clause-ok c = IfOk-weaker c.parse.result _ _ (spelled_reads c.args.text.now) c.parse.ensures.ok
