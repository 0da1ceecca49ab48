use Rattle.std.proofs.Common.{◌≡◌, ◌∙◌}
use Rattle.cert_check.proofs.Numbers.{integer_number, no_number}
use Rattle.cert_check.proofs.shape.is_integer_number.Goals as goal

pub returns-in-Some : goal.returns-in-Some
returns-in-Some c =
    let found = c.in-Some.ensures.lookup in
    let v = c.in-Some.var.now in
    c.is_integer.ensures ∙ integer_number c.args.vars.now c.args.number v v c.if-number-eq0.false found.3.0 found.1

pub returns-in-None : goal.returns-in-None
returns-in-None c = no_number c.args.vars.now c.args.number c.if-number-eq0.false c.in-None.ensures.lookup.3
