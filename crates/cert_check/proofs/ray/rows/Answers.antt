use Rattle.std.proofs.Common.{rules, ◌≡◌, ◌∙◌, sym, ap, ◌+◌, List, [], ◌++◌}
use Rattle.std.specs.Result.{IsErr}
use Rattle.solve_defs.specs.Certificates.{ray_row}
use Rattle.solve_defs.specs.Looks.{Look, verdict_of}
use Rattle.solve_defs.specs.declared.verdict.Verdict.TheVariants.{Valid}
use Rattle.cert_check.specs.Found.{verdict_by}
use Rattle.cert_check.proofs.RayRows.{row_first, rows_from}
use Rattle.cert_check.proofs.Verdicts.{append_on, stays}
use Rattle.cert_check.proofs.ray.rows.Goals as goal

pub returns-in_err-row_looks : goal.returns-in_err-row_looks
returns-in_err-row_looks c =
    let place = c.loop-place.place in
    let row = c.index-rows-place.result in
    let point = c.args.point.now in
    let ray = c.args.ray.now in
    let found = c.from_residual.result in
    let ends : IsErr found = search rules in
    let own : verdict_by found ≡ verdict_of (ray_row point ray (place + 1, row)) = search rules in
    stays found (ray_row point ray (place + 1, row)) (rows_from point ray (place + 1) c.args.rows.now) ends own
    ∙ sym (ap verdict_of (row_first point ray c.args.rows.now place row c.loop-place-test.true c.index-rows-place.is))
    ∙ c.loop-place.invariant

pub loop-place-preserved : goal.loop-place-preserved
loop-place-preserved c =
    let place = c.loop-place.place in
    let row = c.index-rows-place.result in
    let point = c.args.point.now in
    let ray = c.args.ray.now in
    let own : Valid ≡ verdict_of (ray_row point ray (place + 1, row)) = search rules in
    sym (append_on (ray_row point ray (place + 1, row)) (rows_from point ray (place + 1) c.args.rows.now) own)
    ∙ sym (ap verdict_of (row_first point ray c.args.rows.now place row c.loop-place-test.true c.index-rows-place.is))
    ∙ c.loop-place.invariant
