use Rattle.std.proofs.Common.{◌≡◌, ◌<◌, ◌≤◌, ℕ, false, get_or, length}
use Rattle.table_defs.specs.Names.{is_id}
use Rattle.batch_table.proofs.places.place_of.Given as goal

abbrev pub invariant-loop-left : goal.invariant-loop-left
invariant-loop-left l = record {
  within : l.left ≤ length l.rows;
  none : (k : ℕ) (d : _) → l.left ≤ k → k < length l.rows → is_id l.id (get_or l.rows k d).id ≡ false;
}

abbrev pub decreases-loop-left : goal.decreases-loop-left
decreases-loop-left l = l.left
