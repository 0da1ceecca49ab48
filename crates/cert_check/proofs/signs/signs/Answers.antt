use Rattle.std.proofs.Common.{rules, ◌≡◌, List, ◌++◌}
use Rattle.std.specs.Result.{IsErr}
use Rattle.solve_defs.specs.Looks.{Look, verdict_of}
use Rattle.solve_defs.specs.declared.verdict.Verdict.TheVariants.{Valid}
use Rattle.cert_check.specs.Found.{verdict_by}
use Rattle.cert_check.specs.Leaves.{low_signs, row_signs, up_signs}
use Rattle.cert_check.proofs.Verdicts.{behind, stays}
use Rattle.cert_check.proofs.signs.signs.Goals as goal

pub returns-in_err-row_signs : goal.returns-in_err-row_signs
returns-in_err-row_signs c =
    let m = c.args.m.now in
    let rows : List Look = row_signs m.rows c.args.leaf c.args.weights.now.rows in
    let lows : List Look = low_signs c.args.bounds.now c.args.leaf c.args.weights.now.lows in
    let ups : List Look = up_signs c.args.bounds.now c.args.leaf c.args.weights.now.ups in
    let found = c.from_residual.result in
    let is_err : IsErr found = search rules in
    let own : verdict_by found ≡ verdict_of rows = search rules in
    stays found (rows ++ lows) ups is_err (stays found rows lows is_err own)

pub returns-in_err-low_signs : goal.returns-in_err-low_signs
returns-in_err-low_signs c =
    let m = c.args.m.now in
    let rows : List Look = row_signs m.rows c.args.leaf c.args.weights.now.rows in
    let lows : List Look = low_signs c.args.bounds.now c.args.leaf c.args.weights.now.lows in
    let ups : List Look = up_signs c.args.bounds.now c.args.leaf c.args.weights.now.ups in
    let found = c.from_residual-in_err-low_signs.result in
    let is_err : IsErr found = search rules in
    let rows_pass : Valid ≡ verdict_of rows = search rules in
    let own : verdict_by found ≡ verdict_of lows = search rules in
    stays found (rows ++ lows) ups is_err (behind rows lows (verdict_by found) rows_pass own)

pub returns : goal.returns
returns c =
    let m = c.args.m.now in
    let rows : List Look = row_signs m.rows c.args.leaf c.args.weights.now.rows in
    let lows : List Look = low_signs c.args.bounds.now c.args.leaf c.args.weights.now.lows in
    let ups : List Look = up_signs c.args.bounds.now c.args.leaf c.args.weights.now.ups in
    let rows_pass : Valid ≡ verdict_of rows = search rules in
    let lows_pass : Valid ≡ verdict_of lows = search rules in
    let own : verdict_by c.up_signs.result ≡ verdict_of ups = search rules in
    behind (rows ++ lows) ups (verdict_by c.up_signs.result) (behind rows lows Valid rows_pass lows_pass) own
