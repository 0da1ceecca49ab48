use Rattle.std.proofs.Common.{◌≡◌, ◌+◌, ◌∙◌, ap, arith, length, get_or, List}
use Rattle.frac128.specs.Fraction.{Fraction, zero_value}
use Rattle.model_data.specs.declared.model.Term.{Term}
use Rattle.lp_defs.specs.Draft.{with_coefficient}
use Rattle.lp_parse.specs.Terms.{weight, terms_of}
use Rattle.lp_parse.proofs.Coefficients.{counted, length_terms}
use Rattle.lp_parse.proofs.terms.Terms.count_with.Goals as goal
use Rattle.lp_parse.proofs.terms.Terms.count_with.Goals.{After-weight-2}

counts : (c : After-weight-2) → length (with_coefficient c.args.var c.args.coef.now c.args.self.now) + c.weight-2.result ≡ c.self.inside.count + c.weight.result
counts c =
    let coefs = c.self.inside.coefs.items in
    let so_far : c.coefficient_at-so_far.result ≡ get_or coefs c.args.var zero_value =
    c.coefficient_at-so_far.ensures ∙ ap (λ (l : List Fraction). get_or l c.args.var zero_value) c.deref.ensures.value in
    let old : c.weight-2.result ≡ weight (get_or coefs c.args.var zero_value) = c.weight-2.ensures.value ∙ ap weight so_far in
    let shown : length (with_coefficient c.args.var c.args.coef.now (terms_of coefs)) ≡ length (with_coefficient c.args.var c.args.coef.now c.args.self.now) =
    ap (λ (l : List Term). length (with_coefficient c.args.var c.args.coef.now l)) c.self.view_is in
    let all = counted c.args.var c.args.coef.now coefs in
    let new = c.weight.ensures.value in
    let count = c.self.invariant.counted in
    omega (arith, old, shown, all, new, count)

pub overflow_add-result : goal.overflow_add-result
overflow_add-result c =
    let coefs = c.self.inside.coefs in
    let terms = length_terms coefs.items in
    let len = coefs.ok.0 in
    let within = coefs.ok.1 in
    let small = coefs.small in
    let count = c.self.invariant.counted in
    let one = c.weight.ensures.small in
    omega (arith, terms, len, within, small, count, one)

pub overflow_sub-result : goal.overflow_sub-result
overflow_sub-result c = let all = counts c in omega (arith, all)

pub returns-clause-count : goal.returns-clause-count
returns-clause-count c = let all = counts c in omega (arith, all)

pub returns-clause-within : goal.returns-clause-within
returns-clause-within c =
    let count = c.self.invariant.counted in
    let shown = ap length c.self.view_is in
    let one = c.weight.ensures.small in
    omega (arith, count, shown, one)
