use Rattle.replay_command.proofs.answering.answer.Goals as goal

pub returns-in-Behind : goal.returns-in-Behind
returns-in-Behind c = rw c.in-Behind.is (rw c.read_step-found.ensures at c.answer_in.ensures)
