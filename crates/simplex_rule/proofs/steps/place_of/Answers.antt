use Rattle.std.proofs.Common.{◌≡◌, ◌∙◌, refl, sym, ap, unwrap_or, Ok, rules}
use Rattle.dictionary.specs.Rule.{least_row}
use Rattle.solve_defs.specs.Path.{a_pivot, artificial, by_rule, coming}
use Rattle.relaxation_laws.proofs.Whole.{artificial_only_first}
use Rattle.simplex_rule.proofs.Pivots.{at_place, contains_artificial, leaving_from, opening_has_place, reached_of, rule_column, rule_place}
use Rattle.simplex_rule.proofs.steps.place_of.Goals as goal

pub artificial_column-requires : goal.artificial_column-requires
artificial_column-requires g c =
    let d = g.T.Tableau.meaning c.args.t.now in
    let comes : coming d ≡ a_pivot artificial = search rules in
    let first = artificial_only_first c.requires.path.form d (reached_of d c.requires.path) comes in
    contains_artificial d (opening_has_place d c.requires.path first.0 first.1).column_within

pub leaving_row-requires : goal.leaving_row-requires
leaving_row-requires g c =
    let d = g.T.Tableau.meaning c.args.t.now in
    let comes : coming d ≡ a_pivot (by_rule c.in-ByRule.column) = search rules in
    rule_column d c.in-ByRule.column comes

pub returns-in-Artificial-clause-fits : goal.returns-in-Artificial-clause-fits
returns-in-Artificial-clause-fits g c =
    let d = g.T.Tableau.meaning c.args.t.now in
    let comes : coming d ≡ a_pivot artificial = search rules in
    let first = artificial_only_first c.requires.path.form d (reached_of d c.requires.path) comes in
    let row : c.unwrap_or.result ≡ unwrap_or (least_row d) 0 = search rules in
    at_place (opening_has_place d c.requires.path first.0 first.1) row c.artificial_column.ensures

pub returns-in_ok-leaving_row-in-ByRule-clause-fits : goal.returns-in_ok-leaving_row-in-ByRule-clause-fits
returns-in_ok-leaving_row-in-ByRule-clause-fits g c =
    let d = g.T.Tableau.meaning c.args.t.now in
    let comes : coming d ≡ a_pivot (by_rule c.in-ByRule.column) = search rules in
    let left : c.leaving_row.result ≡ Ok c.in_ok-leaving_row-in-ByRule.field-0 = search rules in
    let from = leaving_from d c.in-ByRule.column c.in_ok-leaving_row-in-ByRule.field-0 (sym c.leaving_row.ensures ∙ left) in
    let place = rule_place d c.in-ByRule.column from.0 (reached_of d c.requires.path).relaxes.lawful comes from.1 in
    let row : c.unwrap_or-row.result ≡ unwrap_or c.in_ok-leaving_row-in-ByRule.field-0 0 = search rules in
    at_place place (row ∙ ap (λ o. unwrap_or o 0) from.2) refl
