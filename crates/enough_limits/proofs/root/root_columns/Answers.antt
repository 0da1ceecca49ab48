use Rattle.std.proofs.Common.{◌∙◌, sym, ap, sum_by}
use Rattle.solve_defs.specs.StandardForm.{width}
use Rattle.enough_limits.specs.Bounds.{columns_of_var}
use Rattle.enough_limits.proofs.ByVariable.{by_variable}
use Rattle.enough_limits.proofs.root.root_columns.Goals as goal

pub returns : goal.returns
returns c = c.columns_of_vars.ensures.value ∙ ap (sum_by columns_of_var) c.as_slice.ensures ∙ sym (by_variable width 0 c.args.m.now.vars)
