use Rattle.std.proofs.Common.{inl, inr}
use Rattle.lp_parse.proofs.rows.after_row.Goals as goal

pub returns-in-Sign : goal.returns-in-Sign
returns-in-Sign c =
    elim c.in-Sign.is [
      | inl sign ↦ rw sign.1 (rw sign.1 at c.unlabelled_row.ensures)
      | inr number ↦ rw number.2 (rw number.2 at c.unlabelled_row.ensures)
    ]
