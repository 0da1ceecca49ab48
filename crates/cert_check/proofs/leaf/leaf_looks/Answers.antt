use Rattle.std.proofs.Common.{rules, ◌≡◌, ◌∙◌, ap, List, [], ◌∷◌, ◌++◌, length, map}
use Rattle.std.specs.Result.{IsErr}
use Rattle.solve_defs.specs.Certificates.{sign_looks, sums_from}
use Rattle.solve_defs.specs.Looks.{Look, verdict_of}
use Rattle.solve_defs.specs.declared.verdict.Verdict.TheVariants.{Valid}
use Rattle.cert_check.specs.Found.{verdict_by}
use Rattle.cert_check.specs.Leaves.{claim_by, coef_by, compared, side_look}
use Rattle.cert_check.specs.Sums.{Sum, leaf_sums}
use Rattle.cert_check.proofs.Compared.{leaf_compared}
use Rattle.cert_check.proofs.SumsFormed.{length-leaf_sums}
use Rattle.cert_check.proofs.Verdicts.{behind, stays}
use Rattle.cert_check.proofs.leaf.leaf_looks.Goals as goal

pub sum_looks-requires-clause-sizes : goal.sum_looks-requires-clause-sizes
sum_looks-requires-clause-sizes c = ap length c.add.ensures ∙ length-leaf_sums c.args.m.now c.args.weights.now

pub returns-in_err-signs-clause-looks : goal.returns-in_err-signs-clause-looks
returns-in_err-signs-clause-looks c =
    let m = c.args.m.now in
    let leaf = c.args.leaf in
    let weights = c.args.weights.now in
    let claim = claim_by m c.args.claim.now in
    let signs : List Look = sign_looks m c.args.bounds.now leaf weights in
    let sums : List Look = sums_from m leaf weights 0 claim.coefs in
    let side = side_look m c.args.bounds.now leaf claim weights in
    let found = c.from_residual.result in
    let is_err : IsErr found = search rules in
    let own : verdict_by found ≡ verdict_of signs = search rules in
    stays found (signs ++ sums) (side ∷ []) is_err (stays found signs sums is_err own)

pub returns-in_err-sum_looks-clause-looks : goal.returns-in_err-sum_looks-clause-looks
returns-in_err-sum_looks-clause-looks c =
    let m = c.args.m.now in
    let leaf = c.args.leaf in
    let weights = c.args.weights.now in
    let claim = claim_by m c.args.claim.now in
    let signs : List Look = sign_looks m c.args.bounds.now leaf weights in
    let sums : List Look = sums_from m leaf weights 0 claim.coefs in
    let side = side_look m c.args.bounds.now leaf claim weights in
    let found = c.from_residual-in_err-sum_looks.result in
    let is_err : IsErr found = search rules in
    let signs_pass : Valid ≡ verdict_of signs = search rules in
    let formed : verdict_by found ≡ compared leaf 0 (leaf_sums m weights) (map (coef_by m c.args.claim.now) m.vars) = search rules in
    let own = formed ∙ leaf_compared m leaf weights c.args.claim.now c.requires.lawful c.requires.weights in
    stays found (signs ++ sums) (side ∷ []) is_err (behind signs sums (verdict_by found) signs_pass own)

pub returns-clause-looks : goal.returns-clause-looks
returns-clause-looks c =
    let m = c.args.m.now in
    let leaf = c.args.leaf in
    let weights = c.args.weights.now in
    let claim = claim_by m c.args.claim.now in
    let signs : List Look = sign_looks m c.args.bounds.now leaf weights in
    let sums : List Look = sums_from m leaf weights 0 claim.coefs in
    let side = side_look m c.args.bounds.now leaf claim weights in
    let signs_pass : Valid ≡ verdict_of signs = search rules in
    let formed : Valid ≡ compared leaf 0 (leaf_sums m weights) (map (coef_by m c.args.claim.now) m.vars) = search rules in
    let sums_pass = formed ∙ leaf_compared m leaf weights c.args.claim.now c.requires.lawful c.requires.weights in
    behind (signs ++ sums) (side ∷ []) (verdict_by c.side_look.result) (behind signs sums Valid signs_pass sums_pass) c.side_look.ensures
