use Rattle.std.proofs.Common.{◌≡◌, ◌≤◌, ◌+◌, ◌-◌, [], cond, length}
use Rattle.base_io.specs.Reader.{Moves, IsPartOfBlock}
use Rattle.base_io.proofs.reader.LineReader.block.Given as goal

-- nothing is given
abbrev pub invariant-loop-self : goal.invariant-loop-self
invariant-loop-self g l = record {
  same : g.S.Source.name l.source ≡ g.S.Source.name l.fn.source;
  later : g.S.Source.faults l.fn.source ≤ g.S.Source.faults l.source;
  wanted : l.wanted ≡ l.k;
  moves : Moves (IsPartOfBlock l.k) l.fn.self (record { bytes = l.self-inside.buffer.held; ended = l.self-inside.ended; given = l.self-inside.given; waiting = l.self-inside.waiting }) (g.S.Source.left l.fn.source) (g.S.Source.left l.source) [];
}

abbrev pub decreases-loop-self : goal.decreases-loop-self
decreases-loop-self g l = l.wanted - length l.self-inside.buffer.held + cond l.self-inside.ended 0 1
