use Rattle.std.proofs.Common.{◌≡◌, ◌∙◌, ap, map, Some, rules}
use Rattle.std.specs.Option.{is_some}
use Rattle.dictionary.specs.Dictionary.{numbers_from}
use Rattle.dictionary.specs.Rule.{entering_column}
use Rattle.solve_defs.specs.Ends.{point_of, rise_of, structural_count}
use Rattle.lp_certs.proofs.Read.{ray_is}
use Rattle.lp_certs.proofs.Stops.{some_enters}
use Rattle.lp_certs.proofs.ends.ray_of.Goals as goal

pub unwrap-column-requires : goal.unwrap-column-requires
unwrap-column-requires g c =
    let d = g.T.Tableau.meaning c.args.t.now in
    ap is_some c.entering_column.ensures.value ∙ some_enters d c.requires

pub returns : goal.returns
returns g c =
    let d = g.T.Tableau.meaning c.args.t.now in
    let enters : Some c.unwrap-column.result ≡ entering_column d = search rules in
    let point : c.of.result ≡ point_of d = search rules in
    let along : c.of-2.result ≡ map (rise_of d c.unwrap-column.result) (numbers_from 1 (structural_count d)) = search rules in
    ray_is d c.unwrap-column.result _ _ enters point along
