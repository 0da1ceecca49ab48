use Rattle.std.proofs.Common.{◌≡◌, ◌≤◌, drop, length}
use Rattle.disk_model.specs.Undoing.{AreUndos, synced_by}
use Rattle.disk_model.proofs.undo.undo_all.Given as goal

-- those from `left` on are undone
abbrev pub invariant-loop-left : goal.invariant-loop-left
invariant-loop-left l = record {
  bytes : l.bytes.items ≡ synced_by (drop l.left l.undo.items) l.fn.bytes.items;
  in_list : l.left ≤ length l.undo.items;
}

abbrev pub decreases-loop-left : goal.decreases-loop-left
decreases-loop-left l = l.left
