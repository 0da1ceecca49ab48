use Rattle.lazy_model.proofs.Logs.{log-push}
use Rattle.lazy_model.proofs.replay.accept.Goals as goal

pub returns-clause-log : goal.returns-clause-log
returns-clause-log c =
    rw c.push_back_reserved.ensures.items (rw c.reserve.ensures.items
    (log-push c.args.log.now.items c.args.applied.now c.args.ahead.now c.change.new.self c.args.change c.requires.log c.requires.change
    c.in_ok-change.ensures.ok))
