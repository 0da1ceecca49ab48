use Rattle.std.proofs.lemmas.Result.{IfOk-weaker}
use Rattle.replay_world.proofs.Opening.{restarted_keeps}
use Rattle.replay_world.proofs.machine.Machine.started.Goals as goal

pub opened-requires-clause-keeps : goal.opened-requires-clause-keeps
opened-requires-clause-keeps c = let limit = c.args.setup.limits.journal in let j = c.requires.keeps.0 in (
  j,
  restarted_keeps limit j c.args.disk c.after_stop.new.self c.in_ok-after_stop.ensures.ok c.in_ok-after_stop.ensures.left c.in_ok-after_stop.ensures.only c.requires.keeps.1,
)

pub returns-clause-journal : goal.returns-clause-journal
returns-clause-journal c = IfOk-weaker c.opened.result _ _ (λ m leads j keeps. leads j
    (keeps.0, restarted_keeps keeps.0 j c.args.disk c.after_stop.new.self c.in_ok-after_stop.ensures.ok c.in_ok-after_stop.ensures.left c.in_ok-after_stop.ensures.only keeps.1)) c.opened.ensures.journal
