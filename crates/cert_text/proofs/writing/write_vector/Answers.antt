use Rattle.std.proofs.Common.{rules}
use Rattle.cert_text.specs.declared.entry.Entry.TheVariants as entry
use Rattle.cert_text.proofs.Added.{map_added}
use Rattle.cert_text.proofs.writing.write_vector.Goals as goal

pub loop-value-preserved : goal.loop-value-preserved
loop-value-preserved c = map_added (entry.Component c.args.vector) c.args.values.now c.loop-value.value-index c.value-item.result c.args.out.now.items c.loop-value.out.items c.write_entry.new.out.items (search rules) (search rules) c.loop-value.invariant c.in_ok-write_entry.ensures
