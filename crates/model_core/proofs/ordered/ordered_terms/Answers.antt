use Rattle.std.proofs.Common.{sym, ◌∙◌, ap, subst, List}
use Rattle.std.specs.List.Sorted.{IsPermutation}
use Rattle.model_data.specs.declared.model.Term.{Term}
use Rattle.model_core.specs.Placed.{has_double_var}
use Rattle.model_core.proofs.InOrder.{double_names, in_order, single_rising}
use Rattle.model_core.proofs.ordered.ordered_terms.Goals as goal

pub returns-then-has_double_var-clause-double : goal.returns-then-has_double_var-clause-double
returns-then-has_double_var-clause-double c =
    let ordered = c.put_in_order.new.terms.items in
    let moves = subst (λ (l : List Term). IsPermutation l ordered) c.in_ok-ordered.ensures.terms c.put_in_order.ensures.terms in
    sym (double_names c.args.vars.now.texts c.args.terms.now c.in_ok-ordered.ensures.known ordered moves)
    ∙ ap has_double_var (sym c.as_slice.ensures.value) ∙ sym c.has_double_var.ensures ∙ c.if-has_double_var.true

pub returns-clause-single : goal.returns-clause-single
returns-clause-single c =
    let ordered = c.put_in_order.new.terms.items in
    let moves = subst (λ (l : List Term). IsPermutation l ordered) c.in_ok-ordered.ensures.terms c.put_in_order.ensures.terms in
    sym (double_names c.args.vars.now.texts c.args.terms.now c.in_ok-ordered.ensures.known ordered moves)
    ∙ ap has_double_var (sym c.as_slice.ensures.value) ∙ sym c.has_double_var.ensures ∙ c.if-has_double_var.false

pub returns-clause-terms : goal.returns-clause-terms
returns-clause-terms c =
    let ordered = c.put_in_order.new.terms.items in
    let moves = subst (λ (l : List Term). IsPermutation l ordered) c.in_ok-ordered.ensures.terms c.put_in_order.ensures.terms in
    let single = ap has_double_var (sym c.as_slice.ensures.value) ∙ sym c.has_double_var.ensures ∙ c.if-has_double_var.false in
    c.leave_zeros_out.ensures
    ∙ in_order c.args.vars.now.texts c.args.terms.now c.in_ok-ordered.ensures.known ordered moves c.requires.distinct
    (single_rising ordered c.put_in_order.ensures.order single)
    (sym (double_names c.args.vars.now.texts c.args.terms.now c.in_ok-ordered.ensures.known ordered moves) ∙ single)
