use Rattle.std.proofs.Common.{◌≡◌, ◌∙◌, sym, true}
use Rattle.base_names.specs.Decimal.{are_digits}
use Rattle.base_names.proofs.Decimals.{digits_utf8, parsed}
use Rattle.base_names.proofs.decimal.read_digits.Goals as goal

pub returns-in-Ok : goal.returns-in-Ok
returns-in-Ok c =
    let digits : are_digits c.args.text.now ≡ true = sym c.are_digits.ensures ∙ c.if-not-are_digits.false in
    let read = rw c.in-Ok.ensures.cases.0 at c.parse.ensures.value.0 in
    c.ok.ensures.value ∙ parsed c.args.text.now c.parse.result digits read

pub returns-in-Err : goal.returns-in-Err
returns-in-Err c =
    let digits : are_digits c.args.text.now ≡ true = sym c.are_digits.ensures ∙ c.if-not-are_digits.false in
    absurd (c.in-Err.ensures.cases.0 (digits_utf8 c.args.text.now digits))
