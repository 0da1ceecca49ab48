use Rattle.std.proofs.Common.{◌≡◌, ◌-◌, ◌+◌, get_or, rules, arith}
use Rattle.disk_model.proofs.Undoing.{undo_at}
use Rattle.disk_model.proofs.undo.undo_all.Goals as goal

pub undo_write-requires : goal.undo_write-requires
undo_write-requires c =
    let left = c.loop-left.left in
    let next : left ≡ left - 1 + 1 = search rules in
    let is : c.index.result.now ≡ get_or c.args.undo.now.items (left - 1) c.index.result.now = search rules in
    undo_at c.args.undo.now.items left (left - 1) c.index.result.now c.loop-left.bytes.items c.args.bytes.now.items c.requires next c.loop-left.invariant.in_list is c.loop-left.invariant.bytes
