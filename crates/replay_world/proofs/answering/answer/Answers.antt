use Rattle.std.proofs.Common.{◌∙◌, ℕ, List, Some, ap, subst}
use Rattle.desk.specs.Desks.{entries_in}
use Rattle.session.specs.Hearing.{WasAsked}
use Rattle.session.specs.Step.{Steps}
use Rattle.wire_text.specs.Commands.{command_of}
use Rattle.replay_world.specs.Answering.{AskedOf}
use Rattle.replay_world.proofs.Lining.{bye_answered, more_answered, sits_there}
use Rattle.replay_world.proofs.answering.answer.Goals.{in-More, in-Bye}
use Rattle.replay_world.proofs.answering.answer.Goals as goal

pub returns : goal.returns
returns c = λ session number at found.
    let xs = c.args.sessions.now.items in
    let same = sits_there number session (command_of c.args.line.now) c.args.block.now c.args.desk.now c.step.new.desk xs c.args.place at c.index_mut.result.now c.index_mut.ensures.value found in
    let stepped = subst (λ (started : List ℕ). Steps c.step.result (command_of c.args.line.now) c.args.block.now c.index_mut.result.now c.step.new.self (entries_in c.args.desk.now.hub.history) (entries_in c.step.new.desk.hub.history) c.args.desk.now.fulls c.step.new.desk.fulls (λ calls. WasAsked AskedOf c.index_mut.result.now.seat c.args.desk.now calls c.step.new.desk) (Some started) (Some c.step.new.sink.contents))
    (ap (λ s. s.contents) c.new-said.ensures) c.step.ensures.steps in
    elim c.match-step.branch [
      | in-More w ↦ more_answered number session (command_of c.args.line.now) c.args.block.now c.args.desk.now c.step.new.desk xs c.args.place at c.step.new.self (entries_in c.args.desk.now.hub.history) (entries_in c.step.new.desk.hub.history) c.args.desk.now.fulls c.step.new.desk.fulls c.step.new.sink.contents
          c.step.result c.index_mut.result.now c.match-step.sessions.items same w.in-More.is (ap (λ v. v.items) w.sessions-is) stepped
      | in-Bye w ↦ bye_answered number session (command_of c.args.line.now) c.args.block.now c.args.desk.now c.step.new.desk xs c.args.place at c.step.new.self (entries_in c.args.desk.now.hub.history) (entries_in c.step.new.desk.hub.history) c.args.desk.now.fulls c.step.new.desk.fulls c.step.new.sink.contents
          c.step.result c.index_mut.result.now c.match-step.sessions.items same w.in-Bye.is (ap (λ v. v.items) w.sessions-is ∙ w.remove.ensures.items) stepped
    ]
