use Rattle.lp_print.proofs.Joining.{on_ok_reached, row_written}
use Rattle.lp_print.proofs.rows.write_row.Goals as goal

pub returns : goal.returns
returns c =
    on_ok_reached c.end_line.result _ _ _
    (rw (c.in_ok-write_number.ensures, c.in_ok-write_word-2.ensures, c.in_ok-write_terms.ensures, c.in_ok-push.ensures.items, c.in_ok-write_word.ensures, c.as_bytes.ensures, c.as_slice.ensures, c.sense_text.ensures)
    (row_written c.args.vars.now c.args.row.now c.args.out.now.items))
    c.end_line.ensures
