use Rattle.std.proofs.Common.{◌∙◌, sym, ap, ap₂, ◌+◌, sum_by}
use Rattle.model_data.specs.Size.{rows_of_sense}
use Rattle.solve_defs.specs.StandardForm.{spans_of}
use Rattle.enough_limits.specs.Bounds.{rows_of_var}
use Rattle.enough_limits.proofs.ByVariable.{by_variable}
use Rattle.enough_limits.proofs.root.root_rows.Goals as goal

pub returns : goal.returns
returns c =
    ap₂ (λ a b. a + b)
    (c.rows_of_rows.ensures.value ∙ ap (sum_by (λ r. rows_of_sense r.sense)) c.as_slice.ensures)
    (c.rows_of_vars.ensures.value ∙ ap (sum_by rows_of_var) c.as_slice-2.ensures ∙ sym (by_variable spans_of 0 c.args.m.now.vars))
