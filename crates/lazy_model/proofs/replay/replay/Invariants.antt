use Rattle.std.proofs.Common.{◌≡◌, ◌+◌, length}
use Rattle.lazy_model.specs.Log.{IsLog}
use Rattle.lazy_model.proofs.replay.replay.Given as goal

abbrev pub invariant-loop-turn : goal.invariant-loop-turn
invariant-loop-turn l = record {
  log : IsLog l.log.items l.behind l.ahead;
  left : length l.log.items + l._turn ≡ l._turn-end;
}
