use Rattle.std.proofs.Common.{◌∙◌, Option, sym, ap, subst}
use Rattle.std.proofs.lemmas.Result.{IfOk-weaker}
use Rattle.cluster_defs.specs.Journal.{Event}
use Rattle.disk_model.specs.Memory.{DiskState, restarted}
use Rattle.replay_world.proofs.Taking.{leads_by, stays_leads}
use Rattle.replay_world.proofs.Worlds.{start_event_again, start_event_open}
use Rattle.replay_world.proofs.world.World.open.Goals as goal
use Rattle.replay_world.specs.Hubs.{Opened, opened}
use Rattle.replay_world.specs.Views.{Leads, disk_of, hub_on, view}

pub returns-then-is_running-clause-journal : goal.returns-then-is_running-clause-journal
returns-then-is_running-clause-journal c =
    subst (λ (e : Option Event). Leads e c.args.self c.args.self) (sym (start_event_open (view c.args.self) (sym c.is_running.ensures ∙ c.if-is_running.true))) (stays_leads c.args.self c.args.self (λ j has. has))

pub returns-then-is_stopped-clause-journal : goal.returns-then-is_stopped-clause-journal
returns-then-is_stopped-clause-journal c = IfOk-weaker c.halt.result _ _ (λ r keeps j has.
    let on = leads_by c.args.self c.in_ok-machine.machine (sym c.is_running.ensures ∙ c.if-is_running.false)
    (ap (λ (d : DiskState). opened (restarted d)) (sym c.into_disk.ensures.disk) ∙ c.in_ok-machine.ensures.opened)
    j (c.in_ok-machine.ensures.journal j (c.into_disk.ensures.journal j has)) in
    (on.0, on.1, keeps on.0 on.2)) c.halt.ensures.journal

pub returns-clause-journal : goal.returns-clause-journal
returns-clause-journal c = λ j has. leads_by c.args.self c.in_ok-machine.machine (sym c.is_running.ensures ∙ c.if-is_running.false)
    (ap (λ (d : DiskState). opened (restarted d)) (sym c.into_disk.ensures.disk) ∙ c.in_ok-machine.ensures.opened)
    j (c.in_ok-machine.ensures.journal j (c.into_disk.ensures.journal j has))
