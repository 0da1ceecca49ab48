use Rattle.std.proofs.Common.{◌≡◌, inl, ap, ◌∙◌}
use Rattle.lp_defs.specs.Canonical.{canonical_text}
use Rattle.model_data.specs.declared.model.Model.{Model}
use Rattle.session.specs.Session.{Session}
use Rattle.session.proofs.Obeying.{does_say}
use Rattle.session.proofs.state.State.write.Goals as goal

pub returns-in-Ok : goal.returns-in-Ok
returns-in-Ok c =
    let text_is : c.as_bytes.result.now ≡ canonical_text c.args.self.now.model.applied =
    c.as_bytes.ensures ∙ (c.in-Ok.ensures.text ∙ ap (λ (m : Model). canonical_text m) (c.applied.ensures.value ∙ ap (λ (s : Session). s.model.applied) c.self.view_is)) in
    inl (does_say _ _ _ _ _ c.requires (rw text_is at c.append_block.ensures))
