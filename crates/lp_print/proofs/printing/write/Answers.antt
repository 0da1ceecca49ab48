use Rattle.std.proofs.Common.{sym}
use Rattle.lp_print.proofs.Joining.{canonical_text-written}
use Rattle.lp_print.proofs.printing.write.Goals as goal

pub returns : goal.returns
returns c =
    rw (c.of.ensures, c.in_ok-write_line-3.ensures, c.in_ok-write_kind-2.ensures, c.in_ok-write_kind.ensures, c.in_ok-write_bounds.ensures, c.in_ok-write_rows.ensures, c.in_ok-write_line-2.ensures, c.in_ok-write_objective.ensures, c.in_ok-write_line.ensures, c.new-out.ensures.items, c.direction_text.ensures, c.as_slice-vars.ensures, c.as_slice.ensures)
    (sym (canonical_text-written c.args.m.now))
