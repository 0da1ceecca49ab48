use Rattle.std.proofs.Common.{◌≡◌, ◌∙◌, sym, ap, ℕ, ◌++◌, length, take, drop, map}
use Rattle.std.proofs.lemmas.List.{length-map}
use Rattle.model_core.specs.Effect.{moved}
use Rattle.model_core.proofs.AtPlace.{whole_list}
use Rattle.model_core.proofs.terms.drop_var.Goals as goal

pub returns : goal.returns
returns c =
    let n = c.move_up.new.terms in
    let l = c.leave_out.new.terms.items in
    let shown = c.as_mut_slice.ensures.value in
    let same : length n ≡ length l = ap length c.move_up.ensures ∙ length-map c.as_mut_slice.result.now (moved c.args.var) ∙ ap length shown in
    let len : c.leave_out.new.terms.len ≡ length l = sym c.as_mut_slice.ensures.len ∙ ap length shown in
    ap (λ (k : ℕ). take k (n ++ drop (length n) l)) len ∙ whole_list n l same
    ∙ c.move_up.ensures ∙ ap (map (moved c.args.var)) (shown ∙ c.leave_out.ensures)
