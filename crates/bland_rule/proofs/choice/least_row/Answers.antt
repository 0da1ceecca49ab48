use Rattle.std.proofs.Common.{◌≡◌, ◌<◌, ◌≤◌, ◌∙◌, ap, subst, length, option_map, Some, rules, true}
use Rattle.dictionary.specs.Rule.{best_among, rows_from, least_row, side_before}
use Rattle.bland_rule.specs.Scans.{best_with, kept_best, row_ahead}
use Rattle.bland_rule.proofs.Passes.{least_found, least_whole, pass_on}
use Rattle.bland_rule.proofs.choice.least_row.Goals as goal

pub loop-place-init : goal.loop-place-init
loop-place-init g c = least_whole (g.T.Tableau.meaning c.args.t.now) c.rows-place-end.ensures.shape

pub loop-place-preserved : goal.loop-place-preserved
loop-place-preserved g c =
    let d = g.T.Tableau.meaning c.args.t.now in
    let below : c.loop-place.place < length d.basic = search rules in
    pass_on (best_with (λ x. true) side_before) (row_ahead d 0) c.loop-place.best (Some c.lower.result) c.loop-place.place (length d.basic) (best_among side_before (rows_from 0 1 d.basic d.rows)) below
    (ap Some (c.lower.ensures ∙ ap (kept_best side_before c.loop-place.best) c.row_ahead.ensures)) c.loop-place.invariant

pub returns-in-Some : goal.returns-in-Some
returns-in-Some g c =
    let d = g.T.Tableau.meaning c.args.t.now in
    let past : length d.basic ≤ c.loop-place.place = search rules in
    let found = least_found d c.loop-place.best c.loop-place.place past c.loop-place.invariant in
    ap (λ x. Some x.row) c.row.view_is ∙ subst (λ best. option_map (λ x. x.row) best ≡ least_row d) c.in-Some.is found

pub returns-in-None : goal.returns-in-None
returns-in-None g c =
    let d = g.T.Tableau.meaning c.args.t.now in
    let past : length d.basic ≤ c.loop-place.place = search rules in
    let found = least_found d c.loop-place.best c.loop-place.place past c.loop-place.invariant in
    subst (λ best. option_map (λ x. x.row) best ≡ least_row d) c.in-None.is found
