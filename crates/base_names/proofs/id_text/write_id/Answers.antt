use Rattle.std.proofs.Common.{◌≡◌, ◌∙◌, ap, arith, ◌<◌, ◌^◌}
use Rattle.std.proofs.lemmas.Grind.{common_steps}
use Rattle.base_names.specs.Id.{id_of, id_text}
use Rattle.base_names.proofs.Ids.{written-read}
use Rattle.base_names.proofs.id_text.write_id.Goals as goal

pub returns-clause-read : goal.returns-clause-read
returns-clause-read c =
    let written : c.of.result ≡ id_text c.args.id.now = grind (arith, common_steps) in
    let small : c.args.id.now.number < 2 ^ 32 = omega arith in
    ap id_of written ∙ written-read c.args.id.now (c.as_bytes-name.ensures.name, small)
