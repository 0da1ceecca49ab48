use Rattle.std.proofs.Common.{rules, ◌≡◌, List, [], ◌∷◌, ◌++◌, map, zip}
use Rattle.std.specs.List.{enumerate_from}
use Rattle.std.specs.Result.{IsErr}
use Rattle.solve_defs.specs.Certificates.{point_bound, point_integer, point_row, point_value}
use Rattle.solve_defs.specs.Looks.{Look, verdict_of}
use Rattle.solve_defs.specs.declared.verdict.Verdict.TheVariants.{Valid}
use Rattle.cert_check.specs.Found.{verdict_by}
use Rattle.cert_check.proofs.Verdicts.{behind, stays}
use Rattle.cert_check.proofs.point.point_looks.Goals as goal

pub returns-in_err-rows : goal.returns-in_err-rows
returns-in_err-rows c =
    let m = c.args.m.now in
    let point = c.args.point.now in
    let rows : List Look = map (point_row point.xs) (enumerate_from 1 m.rows) in
    let bounds : List Look = map point_bound (enumerate_from 1 (zip m.vars point.xs)) in
    let integers : List Look = map point_integer (enumerate_from 1 (zip m.vars point.xs)) in
    let ends : IsErr c.from_residual.result = search rules in
    let own : verdict_by c.from_residual.result ≡ verdict_of rows = search rules in
    stays c.from_residual.result (rows ++ bounds ++ integers) (point_value m point ∷ []) ends
    (stays c.from_residual.result (rows ++ bounds) integers ends (stays c.from_residual.result rows bounds ends own))

pub returns-in_err-each_bound : goal.returns-in_err-each_bound
returns-in_err-each_bound c =
    let m = c.args.m.now in
    let point = c.args.point.now in
    let rows : List Look = map (point_row point.xs) (enumerate_from 1 m.rows) in
    let bounds : List Look = map point_bound (enumerate_from 1 (zip m.vars point.xs)) in
    let integers : List Look = map point_integer (enumerate_from 1 (zip m.vars point.xs)) in
    let found = c.from_residual-in_err-each_bound.result in
    let ends : IsErr found = search rules in
    let rows_pass : Valid ≡ verdict_of rows = search rules in
    let own : verdict_by found ≡ verdict_of bounds = search rules in
    stays found (rows ++ bounds ++ integers) (point_value m point ∷ []) ends
    (stays found (rows ++ bounds) integers ends (behind rows bounds (verdict_by found) rows_pass own))

pub returns-in_err-integers : goal.returns-in_err-integers
returns-in_err-integers c =
    let m = c.args.m.now in
    let point = c.args.point.now in
    let rows : List Look = map (point_row point.xs) (enumerate_from 1 m.rows) in
    let bounds : List Look = map point_bound (enumerate_from 1 (zip m.vars point.xs)) in
    let integers : List Look = map point_integer (enumerate_from 1 (zip m.vars point.xs)) in
    let found = c.from_residual-in_err-integers.result in
    let ends : IsErr found = search rules in
    let rows_pass : Valid ≡ verdict_of rows = search rules in
    let bounds_pass : Valid ≡ verdict_of bounds = search rules in
    let own : verdict_by found ≡ verdict_of integers = search rules in
    stays found (rows ++ bounds ++ integers) (point_value m point ∷ []) ends
    (behind (rows ++ bounds) integers (verdict_by found) (behind rows bounds Valid rows_pass bounds_pass) own)

pub returns : goal.returns
returns c =
    let m = c.args.m.now in
    let point = c.args.point.now in
    let rows : List Look = map (point_row point.xs) (enumerate_from 1 m.rows) in
    let bounds : List Look = map point_bound (enumerate_from 1 (zip m.vars point.xs)) in
    let integers : List Look = map point_integer (enumerate_from 1 (zip m.vars point.xs)) in
    let rows_pass : Valid ≡ verdict_of rows = search rules in
    let bounds_pass : Valid ≡ verdict_of bounds = search rules in
    let integers_pass : Valid ≡ verdict_of integers = search rules in
    behind (rows ++ bounds ++ integers) (point_value m point ∷ []) (verdict_by c.value.result)
    (behind (rows ++ bounds) integers Valid (behind rows bounds Valid rows_pass bounds_pass) integers_pass) c.value.ensures
