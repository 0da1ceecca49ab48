use Rattle.std.proofs.Common.{◌≡◌, ◌∙◌, sym, true, false, ap, ◌^◌}
use Rattle.base_names.specs.Decimal.{is_decimal, below}
use Rattle.base_names.proofs.Decimals.{below-read, below-spelled, number-decimal}
use Rattle.base_names.proofs.decimal.read_decimal.Goals as goal

pub returns-then-not-is_decimal-clause-only : goal.returns-then-not-is_decimal-clause-only
returns-then-not-is_decimal-clause-only c = λ number small spelled.
    let other : is_decimal c.args.text.now ≡ false = sym c.is_decimal.ensures ∙ c.if-not-is_decimal.true in
    rw other at (below-read c.args.text.now number small spelled)

pub returns-clause-spelled : goal.returns-clause-spelled
returns-clause-spelled c =
    let is : is_decimal c.args.text.now ≡ true = sym c.is_decimal.ensures ∙ c.if-not-is_decimal.false in
    rw (c.read_digits.ensures, number-decimal c.args.text.now is) (below-spelled c.args.text.now)

pub returns-clause-only : goal.returns-clause-only
returns-clause-only c = λ number small spelled.
    let is : is_decimal c.args.text.now ≡ true = sym c.is_decimal.ensures ∙ c.if-not-is_decimal.false in
    c.read_digits.ensures ∙ (ap (below (2 ^ 64)) (number-decimal c.args.text.now is) ∙ below-read c.args.text.now number small spelled)
