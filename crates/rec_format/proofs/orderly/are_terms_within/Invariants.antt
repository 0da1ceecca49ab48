use Rattle.std.proofs.Common.{◌≡◌, drop}
use Rattle.rec_format.specs.Orderly as defs
use Rattle.rec_format.proofs.orderly.are_terms_within.Given as goal

abbrev pub invariant-loop-row : goal.invariant-loop-row
invariant-loop-row l = defs.are_terms_within l.left (drop l.row-index l.rows) ≡ defs.are_terms_within l.most l.rows
