use Rattle.std.proofs.Common.{map, take}
use Rattle.cert_text.specs.Entries.{IsAdded}
use Rattle.cert_text.specs.declared.entry.Entry.TheVariants as entry
use Rattle.cert_text.proofs.writing.write_vector.Given as goal

abbrev pub invariant-loop-value : goal.invariant-loop-value
invariant-loop-value l = IsAdded l.initial.out.items l.out.items (map (entry.Component l.vector) (take l.value-index l.values))
