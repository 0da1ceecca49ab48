use Rattle.std.proofs.Common.{◌≡◌, ◌≤◌, ◌*◌, flat_map, length, take}
use Rattle.rec_format.specs.Models.{var}
use Rattle.rec_format.proofs.lengths.vars_len.Given as goal

abbrev pub invariant-loop-var : goal.invariant-loop-var
invariant-loop-var l = (l.len ≡ length (flat_map var.write (take l.var-index l.vars))) × (l.len ≤ 700 * l.var-index)
