use Rattle.std.proofs.Common.{sym, ◌∙◌}
use Rattle.lp_print.proofs.Joining.{objective_written, on_ok_reached}
use Rattle.lp_print.proofs.objective.write_terms.Goals as goal

pub returns-in_ok-write_coefficients : goal.returns-in_ok-write_coefficients
returns-in_ok-write_coefficients c =
    on_ok_reached c.write_constant.result _ _ _
    (rw (c.in_ok-write_coefficients.ensures, c.as_slice.ensures)
    (objective_written c.args.m.now c.args.out.now.items (sym c.has_terms.ensures ∙ c.if-has_terms.true)))
    c.write_constant.ensures
