use Rattle.std.proofs.Common.{◌≡◌, ◌-◌, sym, ◌∙◌, ap, arith, rules, List, ℕ, ◌++◌, length, take, drop, Bool}
use Rattle.std.specs.Fmt.{signed_decimal}
use Rattle.std.specs.Prelude.{◌&&◌, bytes_eq}
use Rattle.std.proofs.lemmas.Grind.{common_steps}
use Rattle.frac128.specs.Text.{denominator_text}
use Rattle.cert_text.proofs.NumberTexts.{compared_in_parts}
use Rattle.cert_text.proofs.numbers.is_text_of.Goals as goal

pub returns-then-starts_with : goal.returns-then-starts_with
returns-then-starts_with c =
    let text = c.args.text.now in
    let num = c.as_bytes-num.result.now in
    let den = denominator_text c.args.value.now.below in
    let num_is : num ≡ signed_decimal c.args.value.now.num = search rules in
    let back : take (length text - length num) (drop (length num) text) ≡ drop (length num) text = grind (arith, common_steps) in
    c.is_denominator.ensures
    ∙ (ap (λ (t : List ℕ). bytes_eq t den) back
    ∙ (ap (λ (b : Bool). b && bytes_eq (drop (length num) text) den) (sym (sym c.starts_with.ensures.value ∙ c.if-starts_with.true))
    ∙ (sym (compared_in_parts text num den) ∙ ap (λ (t : List ℕ). bytes_eq text (t ++ den)) num_is)))
