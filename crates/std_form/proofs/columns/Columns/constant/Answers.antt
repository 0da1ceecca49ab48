use Rattle.std.proofs.Common.{◌∙◌, ◌≤◌, sym, ap, length, List, drop, arith}
use Rattle.std.proofs.lemmas.List.{at_drop_all}
use Rattle.model_data.specs.declared.model.Var.{Var}
use Rattle.solve_defs.specs.StandardForm.{constant_with}
use Rattle.std_form.proofs.Steps.{constant_with-end}
use Rattle.std_form.proofs.columns.Columns.constant.Goals as goal

pub returns : goal.returns
returns c =
    let size = ap length c.as_slice-var-items.ensures in
    let place = c.loop-place.place in
    let shapes = drop place c.args.self.now in
    let end : length c.args.m.now.vars ≤ place = omega (arith, size, c.loop-place-test.false) in
    sym (constant_with-end shapes c.loop-place.constant)
    ∙ sym (at_drop_all (λ (vars : List Var). constant_with shapes c.loop-place.constant vars) c.args.m.now.vars place end)
    ∙ c.loop-place.invariant
