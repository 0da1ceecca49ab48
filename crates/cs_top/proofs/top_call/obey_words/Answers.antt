use Rattle.cs_top.proofs.Runs.{asked_nothing_runs, asked_unmoved}
use Rattle.cs_top.proofs.top_call.obey_words.Goals as goal

pub returns-clause-runs : goal.returns-clause-runs
returns-clause-runs g c = asked_nothing_runs _ _ (g.S.Source.left c.args.source.now) (g.K.Sink.contents c.args.sink.now)

pub returns-clause-disk : goal.returns-clause-disk
returns-clause-disk g c = asked_unmoved _ c.args.disk.now
