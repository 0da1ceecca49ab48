use Rattle.std.proofs.Common.{sym, subst}
use Rattle.cluster_defs.specs.Journal.{none_yet}
use Rattle.hub_core.specs.declared.setup.Setup.{Setup}
use Rattle.replay_world.proofs.Opening.{first_journal, new_keeps_within}
use Rattle.replay_world.proofs.world.World.new.Goals as goal
use Rattle.replay_world.specs.Views.{KeepsAll, KeepsOne, hub_on}

pub opened-requires-clause-keeps : goal.opened-requires-clause-keeps
opened-requires-clause-keeps c = subst (λ (s : Setup). KeepsOne s.limits.journal c.new.result) (sym c.setup_of-setup.ensures)
    (subst (KeepsOne c.args.limits.journal) (sym c.new.ensures) (none_yet, new_keeps_within c.args.limits.journal c.requires.room))

pub returns-clause-journal : goal.returns-clause-journal
returns-clause-journal c = first_journal c.in_ok-machine.machine (hub_on c.in_ok-machine.machine)
    (c.in_ok-machine.ensures.journal none_yet (subst (KeepsAll none_yet) (sym c.new.ensures) (c.args.limits.journal, new_keeps_within c.args.limits.journal c.requires.room)))
