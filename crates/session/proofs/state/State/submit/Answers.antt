use Rattle.std.proofs.Common.{◌≡◌, refl, true, false, inl, inr, ap, sym, arith, ◌∙◌, nat_le}
use Rattle.base_names.specs.declared.refusal.Refusal.TheVariants.{MEMORY, NOTAG, SIZE}
use Rattle.cluster_defs.specs.declared.reply.Reply.TheVariants.{Refused}
use Rattle.model_data.specs.Size.{size_of}
use Rattle.model_data.specs.declared.limits.TheConstants.{MAX_SIZE}
use Rattle.model_data.specs.declared.model.Model.{Model}
use Rattle.session.specs.Session.{Session, has_tag, updated}
use Rattle.session.proofs.Obeying.{batch_without_tag, batch_too_large, updated_is, submit_refused, too_many}
use Rattle.session.proofs.state.State.submit.Goals as goal

pub returns-then-not-has_tag-clause-submits : goal.returns-then-not-has_tag-clause-submits
returns-then-not-has_tag-clause-submits g c =
    let new = updated_is _ _ _ _ _ c.self.view_is c.update.ensures.applied in
    let model = c.applied-model.ensures.value ∙ ap (λ (s : Session). s.model.applied) new in
    let none : has_tag (updated c.args.self.now).model.applied ≡ false = ap has_tag (sym model) ∙ (sym c.has_tag.ensures ∙ c.if-not-has_tag.true) in
    (Refused MEMORY, inl (rw (batch_without_tag (updated c.args.self.now) (Refused MEMORY) none) (submit_refused _ _ _ NOTAG _ _ _ _ _ refl new c.requires c.append_refusal.ensures)))

pub returns-then-size-gt-MAX_SIZE-clause-submits : goal.returns-then-size-gt-MAX_SIZE-clause-submits
returns-then-size-gt-MAX_SIZE-clause-submits g c =
    let new = updated_is _ _ _ _ _ c.self.view_is c.update.ensures.applied in
    let model = c.applied-model.ensures.value ∙ ap (λ (s : Session). s.model.applied) new in
    let tagged : has_tag (updated c.args.self.now).model.applied ≡ true = ap has_tag (sym model) ∙ (sym c.has_tag.ensures ∙ c.if-not-has_tag.false) in
    let large : nat_le (size_of (updated c.args.self.now).model.applied) MAX_SIZE ≡ false =
    ap (λ (m : Model). nat_le (size_of m) MAX_SIZE) (sym model)
    ∙ too_many (size_of c.applied-model.result.now) (omega (arith, c.size.ensures.value, c.if-size-gt-MAX_SIZE.true)) in
    (Refused MEMORY, inl (rw (batch_too_large (updated c.args.self.now) (Refused MEMORY) tagged large) (submit_refused _ _ _ SIZE _ _ _ _ _ refl new c.requires c.append_refusal-then-size-gt-MAX_SIZE.ensures)))

pub returns-in_default-clause-submits : goal.returns-in_default-clause-submits
returns-in_default-clause-submits g c =
    let new = updated_is _ _ _ _ _ c.self.view_is c.update.ensures.applied in
    (Refused MEMORY, inr (submit_refused _ _ _ MEMORY _ _ _ _ _ refl new c.requires c.append_refusal-in_default.ensures))
