use Rattle.solve_command.proofs.certificate.is_ended_by_a_turn.Goals as goal

pub returns-in-Ok : goal.returns-in-Ok
returns-in-Ok c s is =
    let told = (rw c.in-Ok.is at c.advance.ensures.turn) s is in
    record { ends = told.ended; progress = told.progress; model = told.model; params = told.params }
