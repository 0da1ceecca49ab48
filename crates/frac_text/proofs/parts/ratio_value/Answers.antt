use Rattle.std.proofs.Common.{ap, sym, ◌∙◌, Ok}
use Rattle.frac_text.proofs.Outcomes.{outcome_of-zero}
use Rattle.frac_text.specs.Number.{parts_of, ratio}
use Rattle.frac_text.proofs.parts.ratio_value.Goals as goal

pub returns-then-is_zero : goal.returns-then-is_zero
returns-then-is_zero c =
    let none = c.is_zero.ensures.0 c.if-is_zero.true in
    ap Ok c.zero.ensures ∙ sym (outcome_of-zero (parts_of (ratio c.args.negative c.args.over.now c.args.under.now)) none c.requires.under_above_zero)
