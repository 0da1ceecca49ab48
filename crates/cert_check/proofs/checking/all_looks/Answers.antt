use Rattle.std.proofs.Common.{rules, ◌≡◌, ◌∙◌, sym, ap, List, [], ◌∷◌, ◌++◌, Err}
use Rattle.base_names.specs.declared.memory.OrMemory.TheVariants.{Fault}
use Rattle.solve_defs.specs.Certificates.{certificate_looks, has_shape, look_at, point_looks}
use Rattle.solve_defs.specs.Looks.{Look, verdict_of}
use Rattle.solve_defs.specs.declared.verdict.Place.TheVariants.{Shape}
use Rattle.solve_defs.specs.declared.verdict.Verdict.TheVariants.{Valid}
use Rattle.cert_check.specs.Found.{tested, verdict_by}
use Rattle.cert_check.proofs.Answering.{finds_before, finds_behind, looked_at}
use Rattle.cert_check.proofs.Verdicts.{behind}
use Rattle.cert_check.proofs.checking.all_looks.Goals as goal

pub returns-in_err-kept_point : goal.returns-in_err-kept_point
returns-in_err-kept_point c =
    let m = c.args.m.now in
    let o = c.args.o.now in
    let cert = c.args.cert.now in
    let shape : List Look = look_at Shape (has_shape m o cert) ∷ [] in
    let point : List Look = point_looks m o.point in
    let tested_shape : Valid ≡ tested (has_shape m o cert) Shape = search rules in
    let shape_passes : Valid ≡ verdict_of shape = tested_shape ∙ looked_at Shape (has_shape m o cert) in
    let found = c.from_residual-in_err-kept_point.result in
    let failed = c.in_err-kept_point.field-0.0 in
    let answer : found ≡ Err (Fault failed) = search rules in
    let own : verdict_by {A = Unit {0}} (Err failed) ≡ verdict_of point = ap verdict_by (sym c.in_err-kept_point.was) ∙ c.kept_point.ensures in
    finds_before (shape ++ point) (certificate_looks m o cert) found failed answer (behind shape point (verdict_by {A = Unit {0}} (Err failed)) shape_passes own)

pub returns : goal.returns
returns c =
    let m = c.args.m.now in
    let o = c.args.o.now in
    let cert = c.args.cert.now in
    let shape : List Look = look_at Shape (has_shape m o cert) ∷ [] in
    let point : List Look = point_looks m o.point in
    let tested_shape : Valid ≡ tested (has_shape m o cert) Shape = search rules in
    let shape_passes : Valid ≡ verdict_of shape = tested_shape ∙ looked_at Shape (has_shape m o cert) in
    let point_passes : Valid ≡ verdict_of point = ap verdict_by (sym c.in_ok-kept_point.was) ∙ c.kept_point.ensures in
    finds_behind (shape ++ point) (certificate_looks m o cert) c.certificate.result (behind shape point Valid shape_passes point_passes) c.certificate.ensures
