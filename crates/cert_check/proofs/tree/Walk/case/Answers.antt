use Rattle.std.proofs.Common.{rules, ◌≡◌, ◌∙◌, ap, subst}
use Rattle.std.specs.Result.{IsErr}
use Rattle.solve_defs.specs.Certificates.{cuts_of}
use Rattle.cert_check.specs.Walks.{Begun, Enters}
use Rattle.cert_check.specs.declared.tree.Walk.{Walk}
use Rattle.cert_check.proofs.Walked.{entered, not_entered, still_to_come}
use Rattle.cert_check.proofs.tree.Walk.case.Goals as goal

pub returns-in_err-enter : goal.returns-in_err-enter
returns-in_err-enter c = λ own later here to_come.
    let m = c.args.m.now in
    let found = c.from_residual.result in
    let is_err : IsErr found = search rules in
    let enters : Enters m own c.args.self.now c.enter.new.self found = search (rules, c.enter.ensures.entered m own here) in
    not_entered m own later c.args.node.now c.args.self.now c.enter.new.self c.enter.new.self found is_err enters

pub returns : goal.returns
returns c = λ own later here to_come.
    let m = c.args.m.now in
    let old = c.args.self.now in
    let mid = c.enter.new.self in
    let begun : Begun m own old mid = subst (Enters m own old mid) c.in_ok-enter.was (c.enter.ensures.entered m own here) in
    let bounds = ap (λ (w : Walk). w.cases.bounds) begun.begun in
    entered m own later c.args.node.now old mid c.visit.new.self c.visit.result begun
    (c.visit.ensures (cuts_of own) later bounds (still_to_come m own later old mid begun to_come))
