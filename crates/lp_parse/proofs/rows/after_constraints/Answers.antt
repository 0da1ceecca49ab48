use Rattle.lp_parse.proofs.rows.after_constraints.Goals as goal

pub returns-in-Comparison : goal.returns-in-Comparison
returns-in-Comparison c = rw c.in-Comparison.is (rw c.in-Comparison.is at c.unlabelled_row.ensures)
