use Rattle.std.proofs.Common.{arith, ◌*◌, pos, ◌+ℤ◌, ◌<ℤ◌, subst, sym, ◌≡◌, ◌<◌, ◌≤◌, length, length-append, ap, ◌++◌, ◌∙◌, Ok, ◌↔◌, IsTrue}
use Rattle.std.proofs.lemmas.Int.{to_z-of_z}
use Rattle.std.proofs.lemmas.Grind.{common_steps}
use Rattle.frac_text.specs.Digits.{number, without_first_zeros}
use Rattle.frac128.specs.declared.limits.TheConstants.{HUGE}
use Rattle.frac_text.specs.Number.{FitsParts, outcome_of, with_tens}
use Rattle.frac_text.proofs.Runs.{AreDigits-append, length-without_first_zeros-le}
use Rattle.frac_text.proofs.Sizes.{IsSized, sized, sized_above_zero, number-zeros}
use Rattle.frac_text.proofs.Outcomes.{outcome_of-zero, outcome_of-wide, is_huge-tens, tens_over-le, tens_over-zero, tens_under-positive}
use Rattle.frac_text.proofs.parts.scaled_value.Goals as goal
use Rattle.frac_text.proofs.parts.scaled_value.Goals.{Else-len-eq0}

-- the digits of both runs as one number
size : (c : Else-len-eq0) → IsSized (number (c.args.whole.now ++ c.args.behind.now)) (length (without_first_zeros (c.args.whole.now ++ c.args.behind.now)))
size c = sized (c.args.whole.now ++ c.args.behind.now) (AreDigits-append c.args.whole.now c.args.behind.now c.requires.whole_digits c.requires.behind_digits) (omega arith)

above_zero : (c : Else-len-eq0) → 0 < number (c.args.whole.now ++ c.args.behind.now)
above_zero c = sized_above_zero (size c)

pub returns-then-len-eq0 : goal.returns-then-len-eq0
returns-then-len-eq0 c =
    let both = c.args.whole.now ++ c.args.behind.now in
    let none : number both ≡ 0 = number-zeros both (omega arith) in
    ap Ok c.zero.ensures ∙ sym (ap (λ n. outcome_of (with_tens c.args.negative n c.args.tens)) none ∙ outcome_of-zero (with_tens c.args.negative 0 c.args.tens) (tens_over-zero c.args.tens) (tens_under-positive c.args.tens))

pub decimal_parts-requires-clause-above_zero : goal.decimal_parts-requires-clause-above_zero
decimal_parts-requires-clause-above_zero c = above_zero c

pub reduced-requires-clause-den_above_zero : goal.reduced-requires-clause-den_above_zero
reduced-requires-clause-den_above_zero c = let positive = tens_under-positive c.args.tens in grind (arith, common_steps, positive)

pub is_huge_decimal-requires-clause-not_long : goal.is_huge_decimal-requires-clause-not_long
is_huge_decimal-requires-clause-not_long c =
    let both = c.args.whole.now ++ c.args.behind.now in
    omega (arith, length-without_first_zeros-le both, length-append c.args.whole.now c.args.behind.now)

pub returns-in-None : goal.returns-in-None
returns-in-None c =
    let at = (goal.at.returns-in-None c).Else-len-eq0 in
    let n = number (c.args.whole.now ++ c.args.behind.now) in
    let p = with_tens c.args.negative n c.args.tens in
    let none : FitsParts p → ⊥ = grind (arith, common_steps) in
    let len = c.significant_len-len.result in
    let sized_as : IsSized n len = subst (IsSized n) (sym c.significant_len-len.ensures) (size at) in
    let told = is_huge-tens n len c.args.tens sized_as in
    let fits = c.ranges.tens in
    let own : IsTrue c.is_huge_decimal.result ↔ (pos 20 <ℤ (pos len +ℤ c.args.tens)) = simp to_z-of_z at c.is_huge_decimal.ensures in
    let huge : IsTrue c.is_huge_decimal.result ↔ (p.under * HUGE ≤ p.over) = (λ t. told.0 (own.0 t), λ h. own.1 (told.1 h)) in
    let some : 0 < p.over = omega (arith, tens_over-le n c.args.tens, above_zero at) in
    sym (outcome_of-wide p c.is_huge_decimal.result some none huge)
