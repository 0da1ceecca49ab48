use Rattle.std.proofs.Common.{◌∷◌, ap, sym, ◌∙◌, arith}
use Rattle.std.specs.Prelude.{not}
use Rattle.wire_text.specs.Kinds.{number, told}
use Rattle.wire_text.specs.Line.{words_of}
use Rattle.wire_text.specs.Reading.{given, with_pair, with_pairs}
use Rattle.wire_text.proofs.Pairs.{with_pairs-end, with_pairs-nil, with_pairs-pair}
use Rattle.wire_text.proofs.terms.terms.Goals as goal

pub loop-coef-init : goal.loop-coef-init
loop-coef-init c = rw c.new.ensures.items (with_pairs-nil (words_of c.args.rest.now))

pub loop-coef-smaller : goal.loop-coef-smaller
loop-coef-smaller c = omega (arith, c.in-Some.ensures.shorter, c.in_ok-var.ensures.shorter)

pub loop-coef-preserved : goal.loop-coef-preserved
loop-coef-preserved c =
    let so_far = given (λ terms. terms.items) c.loop-coef.terms in
    let behind = words_of c.in_ok-var.behind.now in
    let coef = c.in-Some.coef.now in
    let var = c.in_ok-var.var.now in
    ap (λ terms. with_pairs terms behind)
    (c.in_ok-terms.ensures ∙ (ap (λ x. with_pair so_far x (given (λ n. n.now) c.named.result)) (sym c.in_ok-coef.ensures.0) ∙ ap (λ n. with_pair so_far (told number coef) n) c.named.ensures))
    ∙ (with_pairs-pair so_far coef var behind (ap not c.in_ok-coef.ensures.1)
    ∙ (ap (λ words. with_pairs so_far words) (sym (c.in-Some.ensures.words ∙ ap (λ words. coef ∷ words) c.in_ok-var.ensures.words)) ∙ c.loop-coef.invariant))

pub returns : goal.returns
returns c =
    let so_far = given (λ terms. terms.items) c.loop-coef.terms in
    sym c.loop-coef.invariant ∙ (ap (λ words. with_pairs so_far words) c.in_default.ensures.words ∙ with_pairs-end so_far)
