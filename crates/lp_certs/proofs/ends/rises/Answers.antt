use Rattle.std.proofs.Common.{◌≡◌, map, rules}
use Rattle.frac128.specs.Fraction.{negation}
use Rattle.lp_certs.proofs.Read.{rises_are}
use Rattle.lp_certs.proofs.ends.rises.Goals as goal

pub returns : goal.returns
returns g c =
    let d = g.T.Tableau.meaning c.args.t.now in
    let opposites : c.in_ok-rises.rises.items ≡ map negation c.in_ok-entries.entries.items = search rules in
    rises_are d c.args.column c.nonbasic.result c.one.result c.in_ok-entries.entries.items c.in_ok-rises.rises.items _ c.nonbasic.ensures c.one.ensures c.in_ok-entries.ensures opposites c.put.ensures
