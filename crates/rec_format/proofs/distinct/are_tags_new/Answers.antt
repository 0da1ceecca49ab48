use Rattle.std.proofs.Common.{◌≡◌, ◌+◌, ℕ, List, Option, drop, ap, sym, ◌∙◌}
use Rattle.std.specs.Prelude.{filter_map}
use Rattle.model_data.specs.declared.model.Var.{Var}
use Rattle.rec_format.specs.Orderly as defs
use Rattle.rec_format.proofs.InOrder.{option_step_at, option_stop_at, some_end}
use Rattle.rec_format.proofs.distinct.are_tags_new.Goals as goal

abbrev tag_of : Var → Option (List ℕ)
tag_of v = v.tag

pub returns-then-not-is_new : goal.returns-then-not-is_new
returns-then-not-is_new c =
    sym (option_stop_at tag_of c.loop-var.seen c.loop-var.var-index c.args.vars.now c.var-item.result c.loop-var-test.true c.var-item.is
    (sym (c.in_ok-is_new.ensures).new ∙ c.if-not-is_new.true)) ∙ c.loop-var.invariant

pub loop-var-preserved : goal.loop-var-preserved
loop-var-preserved c =
    ap (λ (s : List (List ℕ)). defs.are_new s (filter_map tag_of (drop (c.loop-var.var-index + 1) c.args.vars.now))) ((c.in_ok-is_new.ensures).added c.if-not-is_new.false)
    ∙ (sym (option_step_at tag_of c.loop-var.seen c.loop-var.var-index c.args.vars.now c.var-item.result c.loop-var-test.true c.var-item.is
    (sym (c.in_ok-is_new.ensures).new ∙ c.if-not-is_new.false)) ∙ c.loop-var.invariant)

pub returns : goal.returns
returns c = sym (some_end tag_of c.loop-var.seen c.loop-var.var-index c.args.vars.now c.loop-var-test.false) ∙ c.loop-var.invariant
