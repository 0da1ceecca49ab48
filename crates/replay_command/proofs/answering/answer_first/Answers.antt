use Rattle.std.proofs.Common.{sym, ap, ◌∙◌}
use Rattle.wire_text.specs.Line.{words_of}
use Rattle.replay_world.specs.World.{first_world}
use Rattle.replay_command.proofs.Firsts.{first_goes_on, first_answers}
use Rattle.replay_command.proofs.StepLimits.{journal_between}
use Rattle.replay_command.proofs.answering.answer_first.Goals as goal

pub new-requires-clause-least : goal.new-requires-clause-least
new-requires-clause-least c = (journal_between (words_of c.args.line.now) c.args.found.now c.in-Some.limits c.requires.found (sym c.limits_of.ensures ∙ c.in-Some.is)).1

pub new-requires-clause-room : goal.new-requires-clause-room
new-requires-clause-room c = (journal_between (words_of c.args.line.now) c.args.found.now c.in-Some.limits c.requires.found (sym c.limits_of.ensures ∙ c.in-Some.is)).0

pub returns-in_ok-new-in-Some : goal.returns-in_ok-new-in-Some
returns-in_ok-new-in-Some c = first_goes_on c.in_ok-new-in-Some.field-0 c.in-Some.limits c.args.found.now _ _ _ (sym c.limits_of.ensures ∙ c.in-Some.is) c.in_ok-new-in-Some.ensures.whole c.in_ok-new-in-Some.ensures.first c.in_ok-new-in-Some.ensures.journal

pub returns-in_ok-new-in-None : goal.returns-in_ok-new-in-None
returns-in_ok-new-in-None c =
    first_answers c.answer_in.result c.args.found.now c.in_ok-new-in-None.field-0 _ _ _ _ (sym c.limits_of.ensures ∙ c.in-None.is) (c.in_ok-new-in-None.ensures.first ∙ ap first_world c.usual.ensures) c.in_ok-new-in-None.ensures.journal c.answer_in.ensures
