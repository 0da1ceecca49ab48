use Rattle.std.proofs.Common.{◌≡◌, ◌∙◌, ap, Ok, Err, rules}
use Rattle.std.proofs.lemmas.Result.{err_from_is_err_and}
use Rattle.dictionary.specs.Dictionary.{pivot}
use Rattle.bland_rule.specs.Comes.{entering_of}
use Rattle.simplex_rule.specs.OnPath.{IsPivotPlace, place_of}
use Rattle.simplex_rule.proofs.Pivots.{next_made, next_refused, next_stopped, over_contains, path_on}
use Rattle.simplex_rule.proofs.steps.pivot_by.Goals as goal

pub returns-in_err-place-clause-value : goal.returns-in_err-place-clause-value
returns-in_err-place-clause-value g c =
    let d = g.T.Tableau.meaning c.args.t.now in
    let p = err_from_is_err_and c.from_residual.result c.from_residual.ensures.1 in
    let stopped : place_of (entering_of c.args.entering) d ≡ Err c.in_err-place.field-0.0 = search rules in
    rw (p.1, p.2) (next_stopped (entering_of c.args.entering) d c.in_err-place.field-0.0 stopped)

pub returns-in_err-pivot-clause-value : goal.returns-in_err-pivot-clause-value
returns-in_err-pivot-clause-value g c =
    let d = g.T.Tableau.meaning c.args.t.now in
    let p = err_from_is_err_and c.from_residual-in_err-pivot.result c.from_residual-in_err-pivot.ensures.1 in
    let place : place_of (entering_of c.args.entering) d ≡ Ok c.in_ok-place.place = search rules in
    let refused : pivot c.in_ok-place.place.row c.in_ok-place.place.column d ≡ Err c.in_err-pivot.field-0.0 = search rules in
    rw (p.1, p.2) (next_refused (entering_of c.args.entering) d c.in_ok-place.place c.in_err-pivot.field-0.0 place refused)

pub settle-requires : goal.settle-requires
settle-requires g c =
    let d = g.T.Tableau.meaning c.args.t.now in
    let fits : IsPivotPlace c.in_ok-place.place.row c.in_ok-place.place.column d = search rules in
    let made : pivot c.in_ok-place.place.row c.in_ok-place.place.column d ≡ Ok (g.T.Tableau.meaning c.pivot.new.self) = search rules in
    λ over. over_contains c.in_ok-place.place.row c.in_ok-place.place.column d (g.T.Tableau.meaning c.pivot.new.self) c.requires.path (fits) made over

pub returns-clause-value : goal.returns-clause-value
returns-clause-value g c =
    let d = g.T.Tableau.meaning c.args.t.now in
    let place : place_of (entering_of c.args.entering) d ≡ Ok c.in_ok-place.place = search rules in
    let made : pivot c.in_ok-place.place.row c.in_ok-place.place.column d ≡ Ok (g.T.Tableau.meaning c.pivot.new.self) = search rules in
    ap Ok c.settle.ensures ∙ next_made (entering_of c.args.entering) d (g.T.Tableau.meaning c.pivot.new.self) c.in_ok-place.place place made

pub returns-clause-path : goal.returns-clause-path
returns-clause-path g c =
    let d = g.T.Tableau.meaning c.args.t.now in
    let place : place_of (entering_of c.args.entering) d ≡ Ok c.in_ok-place.place = search rules in
    let made : pivot c.in_ok-place.place.row c.in_ok-place.place.column d ≡ Ok (g.T.Tableau.meaning c.pivot.new.self) = search rules in
    path_on d (g.T.Tableau.meaning c.settle.new.t) (entering_of c.args.entering) c.requires.path c.requires.comes
    (ap Ok c.settle.ensures ∙ next_made (entering_of c.args.entering) d (g.T.Tableau.meaning c.pivot.new.self) c.in_ok-place.place place made)
