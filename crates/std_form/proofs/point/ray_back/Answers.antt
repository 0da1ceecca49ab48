use Rattle.std.proofs.Common.{◌≡◌, ◌∙◌, ap, ap₂, subst, List, Result}
use Rattle.frac128.specs.Fraction.{Fraction}
use Rattle.frac128.specs.declared.operations.Wide.{Wide}
use Rattle.solve_defs.specs.StandardForm.{ray_back, ray_value, shapes_of, values_from}
use Rattle.std_form.specs.Outcome.{Meets}
use Rattle.std_form.proofs.Exits.{told_fault, told_ok}
use Rattle.std_form.proofs.point.ray_back.Goals as goal

pub returns-clause-ok : goal.returns-clause-ok
unfolding ray_back
returns-clause-ok c =
    let are : c.in_ok-columns.columns ≡ shapes_of c.args.m.now c.args.cuts.now.items = c.in_ok-columns.ensures ∙ ap (shapes_of c.args.m.now) c.as_slice.ensures.value in
    told_ok _ _ _ (subst (λ (wanted : Result (List Fraction) Wide). Meets c.values.result (λ values. values.items) wanted)
    (ap₂ (values_from ray_value 0) are c.as_slice-2.ensures.value) c.values.ensures)

pub returns-clause-fault : goal.returns-clause-fault
unfolding ray_back
returns-clause-fault c =
    let are : c.in_ok-columns.columns ≡ shapes_of c.args.m.now c.args.cuts.now.items = c.in_ok-columns.ensures ∙ ap (shapes_of c.args.m.now) c.as_slice.ensures.value in
    told_fault _ _ _ (subst (λ (wanted : Result (List Fraction) Wide). Meets c.values.result (λ values. values.items) wanted)
    (ap₂ (values_from ray_value 0) are c.as_slice-2.ensures.value) c.values.ensures)
