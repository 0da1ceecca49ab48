use Rattle.std.proofs.Common.{◌≡◌, arith, drop, length, take, rules}
use Rattle.std.specs.Vec.{vec_len}
use Rattle.solve_defs.specs.Ends.{structural_count}
use Rattle.lp_certs.specs.ByIndex.{line_at}
use Rattle.lp_certs.proofs.Read.{duals_are, duals_split}
use Rattle.lp_certs.proofs.ends.duals.Goals as goal

pub split_off-requires : goal.split_off-requires
split_off-requires g c =
    let d = g.T.Tableau.meaning c.args.t.now in
    let within = duals_split d (line_at d c.args.line) c.in_ok-reduced.reduced.items c.in_ok-reduced.ensures in
    let len : vec_len c.in_ok-reduced.reduced ≡ length c.in_ok-reduced.reduced.items = search rules in
    let count = c.structural_count.ensures.count in omega (arith, within, len, count)

pub returns : goal.returns
returns g c =
    let d = g.T.Tableau.meaning c.args.t.now in
    let ys : c.of.result ≡ drop (structural_count d) c.in_ok-reduced.reduced.items = search rules in
    let reduced : c.of-2.result ≡ take (structural_count d) c.in_ok-reduced.reduced.items = search rules in
    duals_are d (line_at d c.args.line) c.in_ok-reduced.reduced.items _ _ c.structural_count.ensures.shape c.in_ok-reduced.ensures ys reduced
