use Rattle.std.proofs.Common.{◌≡◌, ◌+◌, ℕ, Bool, true, false, List, [], ◌∷◌, ◌++◌, bytes_eq, drop, map, ap, sym, subst, ◌∙◌}
use Rattle.std.specs.List.{list_any}
use Rattle.model_data.specs.declared.model.Var.{Var}
use Rattle.rec_format.specs.Orderly as defs
use Rattle.rec_format.proofs.InOrder.{new_end, new_step_at, new_stop_at, not_false, not_true}
use Rattle.rec_format.proofs.distinct.are_var_names_new.Goals as goal

abbrev name_of : Var → List ℕ
name_of x = x.name

pub returns-then-not-is_new : goal.returns-then-not-is_new
returns-then-not-is_new c =
    let known : list_any (bytes_eq c.as_bytes.result.now) c.loop-var.seen ≡ true = not_false (list_any (bytes_eq c.as_bytes.result.now) c.loop-var.seen) (sym (c.in_ok-is_new.ensures).new ∙ c.if-not-is_new.true) in
    let same : c.as_bytes.result.now ≡ c.var-item.result.name = c.as_bytes.ensures in
    sym (new_stop_at name_of c.loop-var.seen c.loop-var.var-index c.args.vars.now c.var-item.result c.loop-var-test.true c.var-item.is
    (subst (λ (t : List ℕ). list_any (bytes_eq t) c.loop-var.seen ≡ true) same known)) ∙ c.loop-var.invariant

pub loop-var-preserved : goal.loop-var-preserved
loop-var-preserved c =
    let unknown : list_any (bytes_eq c.as_bytes.result.now) c.loop-var.seen ≡ false = not_true (list_any (bytes_eq c.as_bytes.result.now) c.loop-var.seen) (sym (c.in_ok-is_new.ensures).new ∙ c.if-not-is_new.false) in
    let same : c.as_bytes.result.now ≡ c.var-item.result.name = c.as_bytes.ensures in
    let grown : c.add.new.self ≡ c.loop-var.seen ++ c.var-item.result.name ∷ [] = (c.in_ok-is_new.ensures).added c.if-not-is_new.false ∙ ap (λ (t : List ℕ). c.loop-var.seen ++ t ∷ []) same in
    ap (λ (s : List (List ℕ)). defs.are_new s (map name_of (drop (c.loop-var.var-index + 1) c.args.vars.now))) grown
    ∙ (sym (new_step_at name_of c.loop-var.seen c.loop-var.var-index c.args.vars.now c.var-item.result c.loop-var-test.true c.var-item.is
    (subst (λ (t : List ℕ). list_any (bytes_eq t) c.loop-var.seen ≡ false) same unknown)) ∙ c.loop-var.invariant)

pub returns : goal.returns
returns c = sym (new_end name_of c.loop-var.seen c.loop-var.var-index c.args.vars.now c.loop-var-test.false) ∙ c.loop-var.invariant
