use Rattle.std.proofs.Common.{◌≡◌, ◌∙◌, ap, rules, string_bytes, Global}
use Rattle.serde_json.specs.Written.{compact_text, has_float}
use Rattle.json_solution.proofs.Texts.{solution_no_float, solution_print}
use Rattle.json_solution.proofs.solution.json.Goals as goal

pub returns : goal.returns
returns c =
    let bytes : c.of.result ≡ string_bytes {Z = Global} c.in_ok-text.text = c.of.ensures ∙ search rules in
    bytes ∙ (c.in_ok-text.ensures.text (ap has_float c.in_ok-solution.ensures ∙ solution_no_float c.args.model.now c.args.outcome.now c.args.detail)
    ∙ (ap compact_text c.in_ok-solution.ensures ∙ solution_print c.args.model.now c.args.outcome.now c.args.detail c.requires))
