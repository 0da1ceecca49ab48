use Rattle.std.proofs.Common.{arith, subst, sym, length, ap, ◌∙◌}
use Rattle.std.proofs.lemmas.Bool.Decides.{nat_tests}
use Rattle.frac_text.specs.Digits.{number}
use Rattle.frac_text.specs.Grammar.{AreDigits}
use Rattle.frac_text.proofs.Runs.{AreDigits-take, AreDigits-without_first_zeros}
use Rattle.frac_text.proofs.Sizes.{sized_above, more_digits, fewer_digits, number-front, number-rest, number-without_first_zeros}
use Rattle.frac_text.proofs.parts.is_huge_ratio.Goals as goal

pub is_at_least-requires-clause-left_digits : goal.is_at_least-requires-clause-left_digits
is_at_least-requires-clause-left_digits c =
    let digits = subst AreDigits (sym c.without_first_zeros-over.ensures) (AreDigits-without_first_zeros c.args.over.now c.requires.over_digits) in
    AreDigits-take (length c.without_first_zeros-under.result.now) c.without_first_zeros-over.result.now digits

pub is_at_least-requires-clause-right_digits : goal.is_at_least-requires-clause-right_digits
is_at_least-requires-clause-right_digits c = subst AreDigits (sym c.without_first_zeros-under.ensures) (AreDigits-without_first_zeros c.args.under.now c.requires.under_digits)

pub returns-then-over-len : goal.returns-then-over-len
returns-then-over-len c =
    let over = sized_above c.args.over.now c.without_first_zeros-over.result.now c.requires.over_digits c.requires.over_above_zero c.without_first_zeros-over.ensures in
    let under = sized_above c.args.under.now c.without_first_zeros-under.result.now c.requires.under_digits c.requires.under_above_zero c.without_first_zeros-under.ensures in
    let more = more_digits _ _ _ _ over under c.if-over-len.true in
    grind (arith, nat_tests, more)

pub returns-then-over-len-2 : goal.returns-then-over-len-2
returns-then-over-len-2 c =
    let p = c.without_first_zeros-over.result.now in
    let q = c.without_first_zeros-under.result.now in
    let digits = subst AreDigits (sym c.without_first_zeros-over.ensures) (AreDigits-without_first_zeros c.args.over.now c.requires.over_digits) in
    let front = number-front p q digits c.if-over-len-2.true in
    let rest = number-rest p q digits c.if-over-len-2.true in
    let over = ap number c.without_first_zeros-over.ensures ∙ number-without_first_zeros c.args.over.now in
    let under = ap number c.without_first_zeros-under.ensures ∙ number-without_first_zeros c.args.under.now in
    let told = c.is_at_least.ensures in
    (λ t. let h = told.0 t in omega (arith, front, rest, over, under, h), λ le. told.1 (omega (arith, front, rest, over, under, le)))

pub returns-else-over-len-2 : goal.returns-else-over-len-2
returns-else-over-len-2 c =
    let over = sized_above c.args.over.now c.without_first_zeros-over.result.now c.requires.over_digits c.requires.over_above_zero c.without_first_zeros-over.ensures in
    let under = sized_above c.args.under.now c.without_first_zeros-under.result.now c.requires.under_digits c.requires.under_above_zero c.without_first_zeros-under.ensures in
    let less = fewer_digits _ _ _ _ over under (omega arith) in
    grind (arith, nat_tests, less)
