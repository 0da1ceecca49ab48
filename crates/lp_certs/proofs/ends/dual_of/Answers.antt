use Rattle.std.proofs.Common.{◌≡◌, ◌∙◌, ◌+◌, length, rules}
use Rattle.std.proofs.lemmas.Result.{IfOk-weaker}
use Rattle.lp_certs.proofs.Read.{by_z}
use Rattle.lp_certs.proofs.ends.dual_of.Goals as goal

pub returns : goal.returns
returns g c =
    let d = g.T.Tableau.meaning c.args.t.now in
    let line : c.rows.result + 1 ≡ length d.basic + 1 = search rules in
    IfOk-weaker c.duals.result _ _ (λ own is. is ∙ by_z d (c.rows.result + 1) line) c.duals.ensures
