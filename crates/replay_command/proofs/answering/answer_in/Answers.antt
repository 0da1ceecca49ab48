use Rattle.std.proofs.Common.{sym, ◌∙◌}
use Rattle.replay_command.proofs.Lines.{done_goes_on}
use Rattle.replay_command.proofs.StepLimits.{is_block}
use Rattle.replay_command.proofs.answering.answer_in.Goals as goal

pub step-requires-clause-block : goal.step-requires-clause-block
step-requires-clause-block c = is_block c.args.line.now c.command_line.result.now c.args.block.now c.in-Some.step (sym c.in-Some.is ∙ c.requires.found) c.command_line.ensures c.requires.block

pub returns-in-Done : goal.returns-in-Done
returns-in-Done c =
    done_goes_on c.args.number c.args.world c.in_ok-world.world c.args.found.now c.in-Some.step _ _ c.args.block.now _ _ c.in_ok-world.taken c.in-Some.is c.command_line.ensures c.in-Done.is c.in_ok-world.ensures
