use Rattle.std.proofs.Common.{ap, sym, ◌∙◌, List, [], ◌∷◌, ◌++◌, subst}
use Rattle.frac128.specs.Fraction.{Fraction}
use Rattle.lp_parse.specs.Terms.{IsLonger}
use Rattle.lp_parse.proofs.Coefficients.{longer_itself, longer_push}
use Rattle.lp_parse.proofs.terms.make_room.Goals as goal

pub loop-coefs-init : goal.loop-coefs-init
loop-coefs-init c = longer_itself c.args.coefs.now.items

pub loop-coefs-preserved : goal.loop-coefs-preserved
loop-coefs-preserved c =
    let pushed = c.in_ok-push.ensures.items ∙ ap (λ (x : Fraction). c.loop-coefs.coefs.items ++ x ∷ []) c.zero.ensures in
    subst (λ (long : List Fraction). IsLonger c.args.coefs.now.items long) (sym pushed) (longer_push c.args.coefs.now.items c.loop-coefs.coefs.items c.loop-coefs.invariant)
