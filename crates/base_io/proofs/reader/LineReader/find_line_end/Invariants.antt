use Rattle.std.proofs.Common.{◌≡◌, ◌≤◌, ◌+◌, ◌-◌, false, [], cond, length, take}
use Rattle.base_io.specs.declared.limits.TheConstants.{LINE_LIMIT}
use Rattle.base_io.specs.Lines.{has_line_feed}
use Rattle.base_io.specs.Reader.{Moves, IsPartOfLine}
use Rattle.base_io.proofs.reader.LineReader.find_line_end.Given as goal

-- nothing is given, and no line feed is among what was scanned
abbrev pub invariant-loop-place : goal.invariant-loop-place
invariant-loop-place g l = record {
  same : g.S.Source.name l.source ≡ g.S.Source.name l.fn.source;
  later : g.S.Source.faults l.fn.source ≤ g.S.Source.faults l.source;
  moves : Moves IsPartOfLine l.fn.self (record { bytes = l.self-inside.buffer.held; ended = l.self-inside.ended; given = l.self-inside.given; waiting = l.self-inside.waiting }) (g.S.Source.left l.fn.source) (g.S.Source.left l.source) [];
  in_range : l.scanned ≤ length l.self-inside.buffer.held;
  scanned : has_line_feed (take l.scanned l.self-inside.buffer.held) ≡ false;
}

abbrev pub decreases-loop-place : goal.decreases-loop-place
decreases-loop-place g l = LINE_LIMIT + 2 - length l.self-inside.buffer.held + cond l.self-inside.ended 0 1
