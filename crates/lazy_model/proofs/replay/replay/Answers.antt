use Rattle.std.proofs.Common.{◌<◌, ap, arith, length}
use Rattle.lazy_model.proofs.Logs.{no_items, one_shorter}
use Rattle.lazy_model.proofs.replay.replay.Goals as goal

pub returns-clause-done : goal.returns-clause-done
returns-clause-done c =
    let left = c.loop-turn.invariant.left in
    let past = c.loop-turn-test.false in
    no_items c.loop-turn.log.items (omega (arith, left, past))

pub loop-turn-preserved : goal.loop-turn-preserved
loop-turn-preserved c =
    let left = c.loop-turn.invariant.left in
    let test = c.loop-turn-test.true in
    let some : 0 < length c.loop-turn.log.items = omega (arith, left, test) in
    let len = ap length c.in_ok-replay_first.ensures.shorter in
    let less = one_shorter c.loop-turn.log.items some in
    record { log = c.replay_first.ensures.log; left = omega (arith, left, len, less) }
