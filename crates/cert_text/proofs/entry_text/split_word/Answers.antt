use Rattle.std.proofs.Common.{◌≡◌, ◌+◌, ◌-◌, ◌∙◌, ap, arith, Some, List, ℕ, length, take, drop}
use Rattle.std.specs.Prelude.{option_map}
use Rattle.std.proofs.lemmas.Grind.{common_steps}
use Rattle.cert_text.specs.Reading.{cut, parts_at}
use Rattle.cert_text.proofs.entry_text.split_word.Goals as goal

pub returns-in_err-space : goal.returns-in_err-space
unfolding cut
returns-in_err-space c = ap (option_map (λ parts. (parts.0.now, parts.1.now))) c.from_residual.ensures ∙ ap (parts_at c.args.text.now) c.in_err-space.ensures

pub returns : goal.returns
unfolding cut
returns c =
    let text = c.args.text.now in
    let behind = c.in_ok-space.space + 1 in
    let rest : take (length text - behind) (drop behind text) ≡ drop behind text = grind (arith, common_steps) in
    ap (λ (back : List ℕ). Some (take c.in_ok-space.space text, back)) rest ∙ ap (parts_at text) c.in_ok-space.ensures
