use Rattle.std.proofs.Common.{rules, ◌≡◌, ◌∙◌, sym, ap, List, [], ◌∷◌, ◌++◌, length, map, zip}
use Rattle.std.specs.List.{enumerate_from, flat_map}
use Rattle.std.specs.Result.{IsErr}
use Rattle.solve_defs.specs.Bounds.{Bounds, effective_bounds}
use Rattle.solve_defs.specs.Certificates.{ray_bound, ray_gain, ray_row}
use Rattle.solve_defs.specs.Looks.{Look, verdict_of}
use Rattle.solve_defs.specs.declared.verdict.Verdict.TheVariants.{Valid}
use Rattle.solve_defs.proofs.Relaxed.{length-bounds_from}
use Rattle.cert_check.specs.Found.{verdict_by}
use Rattle.cert_check.proofs.Verdicts.{behind, stays}
use Rattle.cert_check.proofs.ray.ray_looks.Goals as goal

pub each_bound-requires-clause-sizes : goal.each_bound-requires-clause-sizes
each_bound-requires-clause-sizes c = ap length c.requires.bounds ∙ length-bounds_from 0 c.args.m.now.vars [] ∙ sym c.requires.ray

pub returns-in_err-rows : goal.returns-in_err-rows
returns-in_err-rows c =
    let m = c.args.m.now in
    let point = c.args.point.now in
    let ray = c.args.ray.now in
    let rows : List Look = flat_map (ray_row point ray) (enumerate_from 1 m.rows) in
    let bounds : List Look = map ray_bound (enumerate_from 1 (zip (effective_bounds m []) (zip point ray))) in
    let found = c.from_residual.result in
    let ends : IsErr found = search rules in
    let own : verdict_by found ≡ verdict_of rows = search rules in
    stays found (rows ++ bounds) (ray_gain m ray ∷ []) ends (stays found rows bounds ends own)

pub returns-in_err-each_bound : goal.returns-in_err-each_bound
returns-in_err-each_bound c =
    let m = c.args.m.now in
    let point = c.args.point.now in
    let ray = c.args.ray.now in
    let rows : List Look = flat_map (ray_row point ray) (enumerate_from 1 m.rows) in
    let bounds : List Look = map ray_bound (enumerate_from 1 (zip (effective_bounds m []) (zip point ray))) in
    let found = c.from_residual-in_err-each_bound.result in
    let ends : IsErr found = search rules in
    let rows_pass : Valid ≡ verdict_of rows = search rules in
    let as_given : zip c.args.bounds.now (zip point ray) ≡ zip (effective_bounds m []) (zip point ray) = ap (λ (bs : List Bounds). zip bs (zip point ray)) c.requires.bounds in
    let own : verdict_by found ≡ verdict_of bounds = rw (← as_given) (search rules) in
    stays found (rows ++ bounds) (ray_gain m ray ∷ []) ends (behind rows bounds (verdict_by found) rows_pass own)

pub returns : goal.returns
returns c =
    let m = c.args.m.now in
    let point = c.args.point.now in
    let ray = c.args.ray.now in
    let rows : List Look = flat_map (ray_row point ray) (enumerate_from 1 m.rows) in
    let bounds : List Look = map ray_bound (enumerate_from 1 (zip (effective_bounds m []) (zip point ray))) in
    let rows_pass : Valid ≡ verdict_of rows = search rules in
    let as_given : zip c.args.bounds.now (zip point ray) ≡ zip (effective_bounds m []) (zip point ray) = ap (λ (bs : List Bounds). zip bs (zip point ray)) c.requires.bounds in
    let bounds_pass : Valid ≡ verdict_of bounds = rw (← as_given) (search rules) in
    behind (rows ++ bounds) (ray_gain m ray ∷ []) (verdict_by c.gain.result) (behind rows bounds Valid rows_pass bounds_pass) c.gain.ensures
