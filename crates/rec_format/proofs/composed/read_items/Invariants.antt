use Rattle.std.proofs.Common.{◌≡◌, ◌-◌}
use Rattle.rec_format.specs.Format.{items_read}
use Rattle.rec_format.proofs.ItemsRead.{behind}
use Rattle.rec_format.proofs.composed.read_items.Given as goal

abbrev pub invariant-loop-taken : goal.invariant-loop-taken
invariant-loop-taken g l =
    items_read g.T.Spelled.format.read l.count l.initial.reader.bytes.now ≡ behind l.items.items (items_read g.T.Spelled.format.read (l.count - l.taken) l.reader.bytes.now)
