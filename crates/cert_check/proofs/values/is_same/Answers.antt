use Rattle.std.proofs.Common.{◌≡◌, ◌∙◌}
use Rattle.cert_check.proofs.Fractions.{same_parts}
use Rattle.cert_check.proofs.values.is_same.Goals as goal

pub returns : goal.returns
returns c = c.eq.ensures ∙ same_parts c.args.x.now c.args.y.now c.kept.ensures c.kept-2.ensures
