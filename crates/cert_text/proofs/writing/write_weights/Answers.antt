use Rattle.std.proofs.Common.{rules}
use Rattle.cert_text.specs.declared.entry.Entry.TheVariants as entry
use Rattle.cert_text.proofs.Added.{map_added}
use Rattle.cert_text.proofs.writing.write_weights.Goals as goal

pub loop-weight-preserved : goal.loop-weight-preserved
loop-weight-preserved c = map_added (entry.Weight c.args.side) c.args.weights.now c.loop-weight.weight-index c.weight-item.result c.args.out.now.items c.loop-weight.out.items c.write_entry.new.out.items (search rules) (search rules) c.loop-weight.invariant c.in_ok-write_entry.ensures
