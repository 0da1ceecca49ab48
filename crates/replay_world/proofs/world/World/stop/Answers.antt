use Rattle.std.proofs.Common.{◌∙◌}
use Rattle.std.proofs.lemmas.Result.{IfOk-weaker}
use Rattle.replay_world.proofs.world.World.stop.Goals as goal

pub halt-requires : goal.halt-requires
halt-requires c = record {
  sound = record { least = c.requires.sound.least; set_up = c.arm.ensures.set_up c.args.self.setup c.requires.sound.set_up; readable = c.arm.ensures.readable c.args.self.setup c.requires.sound.readable };
  whole = c.in_ok-arm.ensures.whole ∙ c.requires.whole;
}

pub returns-clause-journal : goal.returns-clause-journal
returns-clause-journal c = IfOk-weaker c.halt.result _ _ (λ r keeps j has. keeps j (c.arm.ensures.journal j has)) c.halt.ensures.journal
