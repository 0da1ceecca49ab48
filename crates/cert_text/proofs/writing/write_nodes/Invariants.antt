use Rattle.std.proofs.Common.{flat_map, take}
use Rattle.cert_text.specs.Entries.{IsAdded}
use Rattle.cert_text.specs.Spelling.{node_entries}
use Rattle.cert_text.proofs.writing.write_nodes.Given as goal

abbrev pub invariant-loop-node : goal.invariant-loop-node
invariant-loop-node l = IsAdded l.initial.out.items l.out.items (flat_map node_entries (take l.node-index l.nodes))
