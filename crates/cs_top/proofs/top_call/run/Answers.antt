use Rattle.std.proofs.Common.{sym}
use Rattle.cs_top.proofs.Runs.{asked_told_runs}
use Rattle.cs_top.proofs.top_call.run.Goals as goal

pub returns-clause-ends : goal.returns-clause-ends
returns-clause-ends g c = record {
  status = c.report.result;
  code_is = sym c.code.ensures;
  runs = asked_told_runs _ _ c.obey_words-status.result c.report.result _ _ _ _ c.report.ensures.status c.obey_words-status.ensures.runs;
  reports = c.report.ensures.reports;
}
