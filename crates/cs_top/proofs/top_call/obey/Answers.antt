use Rattle.cs_top.proofs.Runs.{session_runs}
use Rattle.cs_top.proofs.top_call.obey.Goals as goal

pub returns-in-Session-clause-runs : goal.returns-in-Session-clause-runs
returns-in-Session-clause-runs g c = rw c.in-Session.is (rw c.from.ensures (session_runs c.hold_session.result _ _ _ _ _ _ _ c.hold_session.ensures.held))
