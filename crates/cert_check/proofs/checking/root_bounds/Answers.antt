use Rattle.std.proofs.Common.{◌≡◌, ◌∙◌, sym, ap, map}
use Rattle.std.proofs.lemmas.Result.{IfOk-weaker}
use Rattle.solve_defs.specs.Bounds.{own_bounds}
use Rattle.cert_check.proofs.CutBounds.{no_cuts}
use Rattle.cert_check.proofs.checking.root_bounds.Goals as goal

pub returns : goal.returns
returns c =
    IfOk-weaker c.own_bounds.result (λ bounds. bounds.items ≡ map own_bounds c.as_slice.result.now) _
    (λ bounds is. is ∙ ap (map own_bounds) c.as_slice.ensures ∙ sym (no_cuts 0 c.args.m.now.vars)) c.own_bounds.ensures
