use Rattle.std.proofs.Common.{◌≡◌, ◌⊎◌, Err, subst}
use Rattle.std.specs.Result.{IsOk}
use Rattle.base_names.specs.declared.refusal.Refusal.TheVariants.{MEMORY}
use Rattle.lazy_model.specs.Lazy.{latest}
use Rattle.model_core.specs.One.{one}
use Rattle.session.specs.Session.{Session}
use Rattle.session.proofs.Obeying.{queue_refused, queue_accepted, same_state}
use Rattle.session.proofs.state.State.queue.Goals as goal

pub returns-in-Err : goal.returns-in-Err
returns-in-Err c =
    let cause = subst (λ (s : Session). (c.in-Err.refusal ≡ MEMORY) ⊎ (one (latest s.model) c.args.change ≡ Err c.in-Err.refusal)) c.self.view_is c.in-Err.ensures.refused in
    queue_refused _ _ _ _ _ c.in-Err.refusal _ _ (same_state _ _ _ _ _ c.self.view_is c.in-Err.ensures.unchanged) c.requires.empty c.append_refusal.ensures cause

pub returns : goal.returns
returns c =
    let accepted = subst (λ (s : Session). IsOk (one (latest s.model) c.args.change)) c.self.view_is c.in_default.ensures.accepted in
    queue_accepted _ _ _ _ _ c.args.self.now c.args.change _ _ _ c.self.view_is c.in_default.ensures.ok c.requires.empty c.append_done.ensures accepted
