use Rattle.std.proofs.Common.{◌∙◌}
use Rattle.std.proofs.lemmas.Result.{IfOk-weaker}
use Rattle.lp_certs.proofs.Read.{point_is}
use Rattle.lp_certs.proofs.ends.point_of.Goals as goal

pub returns : goal.returns
returns g c = IfOk-weaker c.basic_entries.result _ _ (λ point is. is ∙ point_is (g.T.Tableau.meaning c.args.t.now)) c.basic_entries.ensures
