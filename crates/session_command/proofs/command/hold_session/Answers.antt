use Rattle.std.proofs.Common.{rules}
use Rattle.session_command.proofs.command.hold_session.Goals as goal

pub returns-in-Ok-clause-held : goal.returns-in-Ok-clause-held
returns-in-Ok-clause-held g c =
    let held = c.hold_over-end.ensures.held _ (rw c.session_setup.ensures at c.in-Ok.ensures.ok) in
    search (rules, held)
