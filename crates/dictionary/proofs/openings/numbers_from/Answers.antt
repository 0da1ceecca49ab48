use Rattle.std.proofs.Common.{arith, ◌≤◌, ◌∙◌, ap, sym, ◌++◌, ◌∷◌, []}
use Rattle.dictionary.proofs.Numbered.{numbers_from-next}
use Rattle.dictionary.proofs.openings.numbers_from.Goals as goal

pub loop-number-preserved : goal.loop-number-preserved
loop-number-preserved c =
    let from : c.args.first ≤ c.loop-number.number = omega arith in
    c.in_ok-push.ensures.items ∙ ap (λ items. items ++ c.loop-number.number ∷ []) c.loop-number.invariant ∙ sym (numbers_from-next c.args.first c.loop-number.number from)
