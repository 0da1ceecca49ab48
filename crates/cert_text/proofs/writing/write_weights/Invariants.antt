use Rattle.std.proofs.Common.{map, take}
use Rattle.cert_text.specs.Entries.{IsAdded}
use Rattle.cert_text.specs.declared.entry.Entry.TheVariants as entry
use Rattle.cert_text.proofs.writing.write_weights.Given as goal

abbrev pub invariant-loop-weight : goal.invariant-loop-weight
invariant-loop-weight l = IsAdded l.initial.out.items l.out.items (map (entry.Weight l.side) (take l.weight-index l.weights))
