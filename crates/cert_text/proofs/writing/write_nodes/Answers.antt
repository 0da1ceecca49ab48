use Rattle.std.proofs.Common.{rules}
use Rattle.cert_text.specs.Spelling.{node_entries}
use Rattle.cert_text.proofs.Added.{flat_map_added}
use Rattle.cert_text.proofs.writing.write_nodes.Goals as goal

pub loop-node-preserved : goal.loop-node-preserved
loop-node-preserved c = flat_map_added node_entries c.args.nodes.now c.loop-node.node-index c.node-item.result c.args.out.now.items c.loop-node.out.items c.write_node.new.out.items (search rules) (search rules) c.loop-node.invariant c.in_ok-write_node.ensures
