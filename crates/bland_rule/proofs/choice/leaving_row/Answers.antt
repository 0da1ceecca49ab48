use Rattle.std.proofs.Common.{◌≡◌, ◌<◌, ◌≤◌, ◌+◌, ◌∙◌, sym, ap, subst, length, option_map, Some, Ok, Err, rules}
use Rattle.std.proofs.lemmas.Result.{err_from_is_err_and}
use Rattle.bland_rule.specs.Scans.{leaving, nearest_with, row_ahead}
use Rattle.bland_rule.proofs.Passes.{leaving_found, leaving_stopped, leaving_whole, passed_on}
use Rattle.bland_rule.proofs.choice.leaving_row.Goals as goal

pub loop-place-init : goal.loop-place-init
loop-place-init g c = leaving_whole (g.T.Tableau.meaning c.args.t.now) c.args.column c.rows-place-end.ensures.shape

pub loop-place-preserved : goal.loop-place-preserved
loop-place-preserved g c =
    let d = g.T.Tableau.meaning c.args.t.now in
    let below : c.loop-place.place < length d.basic = search rules in
    let value : c.nearest.result ≡ Ok c.in_ok-best.best = search rules in
    let step : nearest_with c.loop-place.best (row_ahead d c.args.column (c.loop-place.place + 1)) ≡ Ok c.in_ok-best.best =
    ap (nearest_with c.loop-place.best) (sym c.row_ahead.ensures) ∙ sym c.nearest.ensures ∙ value in
    passed_on nearest_with (row_ahead d c.args.column) c.loop-place.best c.in_ok-best.best c.loop-place.place (length d.basic) _ below step c.loop-place.invariant

pub returns-in_err-best : goal.returns-in_err-best
returns-in_err-best g c =
    let d = g.T.Tableau.meaning c.args.t.now in
    let below : c.loop-place.place < length d.basic = search rules in
    let p = err_from_is_err_and c.from_residual.result c.from_residual.ensures.1 in
    let value : c.nearest.result ≡ Err c.in_err-best.field-0.0 = search rules in
    let step : nearest_with c.loop-place.best (row_ahead d c.args.column (c.loop-place.place + 1)) ≡ Err c.in_err-best.field-0.0 =
    ap (nearest_with c.loop-place.best) (sym c.row_ahead.ensures) ∙ sym c.nearest.ensures ∙ value in
    rw (p.1, p.2) (leaving_stopped d c.args.column c.loop-place.place c.loop-place.best c.in_err-best.field-0.0 below step c.loop-place.invariant)

pub returns-in-Some : goal.returns-in-Some
returns-in-Some g c =
    let d = g.T.Tableau.meaning c.args.t.now in
    let past : length d.basic ≤ c.loop-place.place = search rules in
    let found = leaving_found d c.args.column c.loop-place.best c.loop-place.place past c.loop-place.invariant in
    ap (λ x. Ok (Some x.row)) c.ratio.view_is ∙ subst (λ best. Ok (option_map (λ x. x.row) best) ≡ leaving d c.args.column) c.in-Some.is found

pub returns-in-None : goal.returns-in-None
returns-in-None g c =
    let d = g.T.Tableau.meaning c.args.t.now in
    let past : length d.basic ≤ c.loop-place.place = search rules in
    let found = leaving_found d c.args.column c.loop-place.best c.loop-place.place past c.loop-place.invariant in
    subst (λ best. Ok (option_map (λ x. x.row) best) ≡ leaving d c.args.column) c.in-None.is found
