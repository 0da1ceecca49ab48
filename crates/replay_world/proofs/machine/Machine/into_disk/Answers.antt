use Rattle.std.proofs.Common.{◌∙◌, ap, sym, subst}
use Rattle.cluster_defs.specs.Journal.{Journal}
use Rattle.disk_model.specs.Memory.{DiskState}
use Rattle.hub_core.specs.State.{journal_of}
use Rattle.hub_core.specs.declared.setup.Setup.{Setup}
use Rattle.replay_world.proofs.Opening.{hub_keeps}
use Rattle.replay_world.proofs.machine.Machine.into_disk.Goals as goal
use Rattle.replay_world.specs.Views.{HasJournal, IsReadable, IsSetUp, KeepsAll, KeepsOne, KeepsWithin}
use Rattle.replay_world.specs.declared.machine.Machine.{Machine}

pub returns-in-Running-clause-keeps : goal.returns-in-Running-clause-keeps
returns-in-Running-clause-keeps c = λ setup is_set readable.
    let here = subst (λ (m : Machine). IsSetUp setup m) c.in-Running.is is_set in
    subst (KeepsOne setup.limits.journal) (sym c.into_disk.ensures) (
      journal_of c.in-Running.desk.hub,
      subst (λ (s : Setup). KeepsWithin s.limits.journal (journal_of c.in-Running.desk.hub) c.into_hub.result.journal.disk) (ap (λ s. s.setup) c.into_hub.ensures.hub ∙ here)
          (subst (λ (k : Journal). KeepsWithin c.into_hub.result.setup.limits.journal k c.into_hub.result.journal.disk) (ap journal_of c.into_hub.ensures.hub) (hub_keeps c.into_hub.result c.into_hub.ensures.stands)),
    )

pub returns-in-Running-clause-journal : goal.returns-in-Running-clause-journal
returns-in-Running-clause-journal c = λ j has.
    let here = subst (λ (m : Machine). HasJournal j m) c.in-Running.is has in
    subst (KeepsAll j) (sym c.into_disk.ensures) (
      c.into_hub.result.setup.limits.journal,
      subst (λ (k : Journal). KeepsWithin c.into_hub.result.setup.limits.journal k c.into_hub.result.journal.disk) (ap journal_of c.into_hub.ensures.hub ∙ here.0) (hub_keeps c.into_hub.result c.into_hub.ensures.stands),
    )

pub returns-in-Lying-clause-keeps : goal.returns-in-Lying-clause-keeps
returns-in-Lying-clause-keeps c = λ setup is_set readable. subst (λ (m : Machine). IsReadable setup m) c.in-Lying.is readable

pub returns-in-Lying-clause-journal : goal.returns-in-Lying-clause-journal
returns-in-Lying-clause-journal c = λ j has. subst (λ (m : Machine). HasJournal j m) c.in-Lying.is has
