use Rattle.std.proofs.Common.{◌≡◌, refl, Some}
use Rattle.std.specs.Int.{w128}
use Rattle.std.proofs.lemmas.Int.{to_z-of_z}
use Rattle.solve_defs.specs.Values.{whole}
use Rattle.cert_check.proofs.Wholes.{made_whole}
use Rattle.cert_check.proofs.tree.whole.Goals as goal

pub unwrap-requires : goal.unwrap-requires
unwrap-requires c =
    let made : c.make.result ≡ Some (whole c.args.n) =
    made_whole c.args.n c.make.result c.requires (rw (to_z-of_z w128 c.args.n c.ranges.n) at c.make.ensures) in
    rw made refl

pub returns : goal.returns
returns c =
    let made : c.make.result ≡ Some (whole c.args.n) =
    made_whole c.args.n c.make.result c.requires (rw (to_z-of_z w128 c.args.n c.ranges.n) at c.make.ensures) in
    cc
