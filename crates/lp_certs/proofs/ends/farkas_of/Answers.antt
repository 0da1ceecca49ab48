use Rattle.std.proofs.Common.{◌≡◌, ◌∙◌, ◌+◌, length, rules}
use Rattle.std.proofs.lemmas.Result.{IfOk-weaker}
use Rattle.lp_certs.proofs.Read.{by_w, w_within}
use Rattle.lp_certs.proofs.Stops.{without_point}
use Rattle.lp_certs.proofs.ends.farkas_of.Goals as goal

pub duals-requires-clause-within : goal.duals-requires-clause-within
duals-requires-clause-within g c =
    let d = g.T.Tableau.meaning c.args.t.now in
    let line : c.rows.result + 2 ≡ length d.basic + 2 = search rules in
    w_within d (c.rows.result + 2) (without_point d c.requires) line

pub returns : goal.returns
returns g c =
    let d = g.T.Tableau.meaning c.args.t.now in
    let line : c.rows.result + 2 ≡ length d.basic + 2 = search rules in
    IfOk-weaker c.duals.result _ _ (λ own is. is ∙ by_w d (c.rows.result + 2) line) c.duals.ensures
