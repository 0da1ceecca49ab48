use Rattle.std.proofs.Common.{◌≡◌, [], drop, map}
use Rattle.rec_format.specs.Orderly as defs
use Rattle.rec_format.proofs.distinct.are_row_names_new.Given as goal

abbrev pub invariant-loop-row : goal.invariant-loop-row
invariant-loop-row l = defs.are_new l.seen (map (λ r. r.name) (drop l.row-index l.rows)) ≡ defs.are_new [] (map (λ r. r.name) l.rows)
