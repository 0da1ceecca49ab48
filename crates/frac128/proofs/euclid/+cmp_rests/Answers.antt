use Rattle.std.proofs.Common.{◌≡◌, ◌∙◌, ◌*◌, ◌/◌, ◌%◌, nat_cmp, inl, inr, ⊎_elim, arith}
use Rattle.frac128.proofs.Comparison.{nat_cmp-rests, nat_cmp-turned, nat_cmp-whole, nat_cmp-zero}
use Rattle.frac128.proofs.euclid.+cmp_rests.Goals as goal

pub returns-then-a-eq0 : goal.returns-then-a-eq0
returns-then-a-eq0 t c =
    c.cmp.ensures
    ∙ nat_cmp-zero c.args.a c.args.c c.args.b c.args.d (omega (arith, c.requires.a_below_b)) (omega (arith, c.requires.c_below_d))
    (⊎_elim (λ h. inl h) (λ h. inr h.1) c.then-a-eq0.either)

pub returns-then-whole-other_whole : goal.returns-then-whole-other_whole
returns-then-whole-other_whole t c =
    let wholes : c.cmp-then-whole-other_whole.result ≡ nat_cmp (c.args.d / c.args.c) (c.args.b / c.args.a) =
    rw (c.div_rem-whole.ensures.quotient, c.div_rem-other_whole.ensures.quotient) at c.cmp-then-whole-other_whole.ensures in
    let differ = rw (c.div_rem-whole.ensures.quotient, c.div_rem-other_whole.ensures.quotient) at c.if-whole-other_whole.true in
    wholes
    ∙ nat_cmp-whole c.args.d c.args.c c.args.b c.args.a (omega (arith, c.if-c-eq0.false)) (omega (arith, c.if-a-eq0.false)) differ
    ∙ nat_cmp-turned c.args.a c.args.b c.args.c c.args.d

pub returns : goal.returns
returns t c =
    let rests : c.cmp_rests.result ≡ nat_cmp (c.args.d % c.args.c * c.args.a) (c.args.b % c.args.a * c.args.c) =
    rw (c.div_rem-whole.ensures.rest, c.div_rem-other_whole.ensures.rest) at c.cmp_rests.ensures in
    let same = rw (c.div_rem-whole.ensures.quotient, c.div_rem-other_whole.ensures.quotient) at c.if-whole-other_whole.false in
    rests ∙ nat_cmp-rests c.args.d c.args.c c.args.b c.args.a same ∙ nat_cmp-turned c.args.a c.args.b c.args.c c.args.d
