use Rattle.std.proofs.Common.{◌∙◌, ap, get_or, List}
use Rattle.frac128.specs.Fraction.{Fraction}
use Rattle.frac128.specs.Fraction.{zero_value}
use Rattle.lp_defs.specs.Draft.{coefficient_in}
use Rattle.lp_parse.proofs.Coefficients.{coefficient_of}
use Rattle.lp_parse.proofs.terms.Terms.coefficient.Goals as goal

pub returns : goal.returns
returns c =
    let coefs = c.self.inside.coefs.items in
    c.coefficient_at.ensures
    ∙ ap (λ (l : List Fraction). get_or l c.args.var zero_value) c.deref.ensures.value
    ∙ coefficient_of c.args.var coefs c.self.invariant.tidy
    ∙ ap (coefficient_in c.args.var) c.self.view_is
