use Rattle.lp_print.proofs.Joining.{on_ok_reached, range_written}
use Rattle.frac_text.specs.Writing.{canonical_text as number_text}
use Rattle.lp_print.proofs.bounds.write_range.Goals as goal

pub returns : goal.returns
returns c =
    on_ok_reached c.write_relation.result _ _ _
    (rw (c.in_ok-extend_from_slice.ensures.items, c.in_ok-write_number.ensures)
    (range_written c.args.out.now.items (number_text c.args.lower.now) c.args.name.now (number_text c.args.upper.now)))
    c.write_relation.ensures
