use Rattle.std.proofs.Common.{◌≡◌, ◌<◌, ◌≤◌, ◌∙◌, sym, ap, subst, length, option_map, Some, rules}
use Rattle.dictionary.specs.Rule.{entering_column, is_positive}
use Rattle.dictionary.proofs.Points.Chosen.{entering-some}
use Rattle.bland_rule.specs.Scans.{best_with, column_at, smaller_variable}
use Rattle.bland_rule.proofs.Passes.{entering_found, entering_whole, pass_on}
use Rattle.bland_rule.proofs.choice.entering_column.Goals as goal

pub loop-place-init : goal.loop-place-init
loop-place-init g c = entering_whole (g.T.Tableau.meaning c.args.t.now) c.cols-place-end.ensures.shape

pub loop-place-preserved : goal.loop-place-preserved
loop-place-preserved g c =
    let d = g.T.Tableau.meaning c.args.t.now in
    let below : c.loop-place.place < length d.nonbasic = search rules in
    pass_on (best_with (λ x. is_positive x.coefficient) smaller_variable) (column_at d) c.loop-place.best c.risen-best.result c.loop-place.place (length d.nonbasic) _ below c.risen-best.ensures c.loop-place.invariant

pub returns-in-Some-clause-value : goal.returns-in-Some-clause-value
returns-in-Some-clause-value g c =
    let d = g.T.Tableau.meaning c.args.t.now in
    let past : length d.nonbasic ≤ c.loop-place.place = search rules in
    let found = entering_found d c.loop-place.best c.loop-place.place past c.loop-place.invariant in
    ap (λ x. Some x.column) c.column.view_is ∙ subst (λ best. option_map (λ x. x.column) best ≡ entering_column d) c.in-Some.is found

pub returns-in-Some-clause-within : goal.returns-in-Some-clause-within
returns-in-Some-clause-within g c =
    let d = g.T.Tableau.meaning c.args.t.now in
    let past : length d.nonbasic ≤ c.loop-place.place = search rules in
    let found = entering_found d c.loop-place.best c.loop-place.place past c.loop-place.invariant in
    let is = ap (λ x. Some x.column) c.column.view_is ∙ subst (λ best. option_map (λ x. x.column) best ≡ entering_column d) c.in-Some.is found in
    let known = entering-some d _ (sym is) in
    (known.above, known.within)

pub returns-in-None-clause-value : goal.returns-in-None-clause-value
returns-in-None-clause-value g c =
    let d = g.T.Tableau.meaning c.args.t.now in
    let past : length d.nonbasic ≤ c.loop-place.place = search rules in
    let found = entering_found d c.loop-place.best c.loop-place.place past c.loop-place.invariant in
    subst (λ best. option_map (λ x. x.column) best ≡ entering_column d) c.in-None.is found
