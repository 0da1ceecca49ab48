use Rattle.std.proofs.Common.{◌≡◌, map, take}
use Rattle.disk_model.specs.Images.{filled_from, is_written}
use Rattle.disk_model.specs.Undoing.{range_of}
use Rattle.disk_model.proofs.undo.fill_all.Given as goal

-- the writes so far are filled
abbrev pub invariant-loop-write : goal.invariant-loop-write
invariant-loop-write l = l.bytes ≡ filled_from 0 (is_written (map range_of (take l.write-index l.undo.items))) l.byte l.fn.bytes
