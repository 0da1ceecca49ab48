use Rattle.std.proofs.Common.{◌≡◌, ◌∙◌, ap, arith, get_or}
use Rattle.std.proofs.lemmas.List.{get_or_default}
use Rattle.frac128.specs.Fraction.{zero_value}
use Rattle.lp_defs.specs.Draft.{with_coefficient}
use Rattle.lp_parse.specs.Terms.{weight}
use Rattle.lp_parse.proofs.Coefficients.{length_terms, so_far_within, table_behind, terms_behind}
use Rattle.lp_parse.proofs.terms.Terms.set_coefficient.Goals as goal
use Rattle.lp_parse.proofs.terms.Terms.set_coefficient.Goals.{After-weight-now}

-- the coefficient that the variable has
old : (c : After-weight-now) → c.weight-so_far.result ≡ weight (get_or c.make_room.new.coefs.items c.args.var zero_value)
old c =
    c.weight-so_far.ensures.value
    ∙ ap weight (c.index.ensures ∙ get_or_default c.make_room.new.coefs.items c.args.var _ zero_value c.in_ok-make_room.ensures.room)

pub overflow_add-self : goal.overflow_add-self
overflow_add-self c =
    let coefs = c.self.inside.coefs in
    let terms = length_terms coefs.items in
    let len = coefs.ok.0 in
    let within = coefs.ok.1 in
    let small = coefs.small in
    let count = c.self.invariant.counted in
    let one = c.weight-now.ensures.small in
    omega (arith, terms, len, within, small, count, one)

pub overflow_sub-self : goal.overflow_sub-self
overflow_sub-self c =
    let at = (goal.at.overflow_sub-self c).After-weight-now in
    so_far_within c.args.coef c.self.invariant c.in_ok-make_room.ensures.same c.in_ok-make_room.ensures.room (old at) c.weight-now.ensures.value

pub invariant_of-self-2 : goal.invariant_of-self-2
invariant_of-self-2 c =
    let at = (goal.at.invariant_of-self-2 c).After-weight-now in
    table_behind c.args.coef c.self.invariant c.in_ok-make_room.ensures.same c.in_ok-make_room.ensures.room (old at) c.weight-now.ensures.value
    c.in_ok-add_name.ensures.ok c.tidied.ensures

pub returns-clause-ok : goal.returns-clause-ok
returns-clause-ok c =
    let at = (goal.at.returns-clause-ok c).After-weight-now in
    terms_behind c.args.coef c.self.invariant c.in_ok-make_room.ensures.same c.in_ok-make_room.ensures.room (old at) c.weight-now.ensures.value c.tidied.ensures
    ∙ ap (with_coefficient c.args.var c.args.coef) c.self.view_is
