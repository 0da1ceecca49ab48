use Rattle.std.proofs.Common.{◌∙◌, sym, ap₂, Option, Some}
use Rattle.disk_model.specs.Memory.{DiskState}
use Rattle.replay_world.proofs.world.World.arm.Goals as goal
use Rattle.replay_world.specs.Hubs.{Hub}
use Rattle.replay_world.specs.Steps.{Stepped, armed_text, says}
use Rattle.replay_world.specs.World.{World}

pub returns-clause-took : goal.returns-clause-took
returns-clause-took c = (
  record {
    sound = record { least = c.requires.whole.sound.least; set_up = c.arm.ensures.set_up c.args.self.setup c.requires.whole.sound.set_up; readable = c.arm.ensures.readable c.args.self.setup c.requires.whole.sound.readable };
    whole = c.in_ok-arm.ensures.whole ∙ c.requires.whole.whole;
  },
  (
    armed_text,
    ap₂ (λ (d : DiskState) (h : Option Hub). let w : World = record { setup = c.args.self.setup; disk = d; hub = h; sessions = c.args.self.sessions.items } in let s : Option Stepped = Some (says w armed_text) in s)
        (sym c.in_ok-arm.ensures.disk) (sym c.arm.ensures.hub),
    c.in_ok-append_armed.ensures,
  ),
)
