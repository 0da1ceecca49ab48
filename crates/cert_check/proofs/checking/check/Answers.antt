use Rattle.std.proofs.Common.{◌≡◌, ◌∙◌, sym, List, ◌++◌}
use Rattle.std.proofs.lemmas.Result.{IfOk-weaker}
use Rattle.solve_defs.specs.Certificates.{looks, verdict}
use Rattle.solve_defs.specs.Looks.{Look, verdict_of}
use Rattle.solve_defs.proofs.LeafLooks.{valid_holds}
use Rattle.solve_defs.proofs.ValidOutcomes.{valid_optimal, valid_point}
use Rattle.solve_defs.proofs.ValidRays.{valid_unbounded}
use Rattle.solve_defs.proofs.ValidTrees.{valid_infeasible}
use Rattle.cert_check.proofs.FirstFailure.{all_valid, first_invalid, first_too_wide, invalid_first, too_wide_first, valid_all}
use Rattle.cert_check.proofs.checking.check.Goals as goal

pub returns-clause-verdict : goal.returns-clause-verdict
unfolding verdict
returns-clause-verdict c = c.decided.ensures

pub returns-clause-valid : goal.returns-clause-valid
returns-clause-valid c =
    let all : List Look = looks c.args.m.now c.args.o.now c.args.cert.now in
    IfOk-weaker c.decided.result (λ v. v ≡ verdict_of all) _ (λ v is. (λ e. valid_all all (sym is ∙ e), λ passes. is ∙ all_valid all passes)) c.decided.ensures

pub returns-clause-invalid : goal.returns-clause-invalid
returns-clause-invalid c =
    let all : List Look = looks c.args.m.now c.args.o.now c.args.cert.now in
    IfOk-weaker c.decided.result (λ v. v ≡ verdict_of all) _ (λ v is. λ place. (λ e. invalid_first all place (sym is ∙ e), λ first. is ∙ first_invalid place all first)) c.decided.ensures

pub returns-clause-too_wide : goal.returns-clause-too_wide
returns-clause-too_wide c =
    let all : List Look = looks c.args.m.now c.args.o.now c.args.cert.now in
    IfOk-weaker c.decided.result (λ v. v ≡ verdict_of all) _ (λ v is. λ wide. (λ e. too_wide_first all wide (sym is ∙ e), λ first. is ∙ first_too_wide wide all first)) c.decided.ensures

pub returns-clause-best : goal.returns-clause-best
returns-clause-best c =
    let all : List Look = looks c.args.m.now c.args.o.now c.args.cert.now in
    IfOk-weaker c.decided.result (λ v. v ≡ verdict_of all) _ (λ v is. λ e optimal. let best = valid_optimal c.args.m.now c.args.o.now c.args.cert.now c.requires.lawful (valid_holds all (sym is ∙ e)) optimal in (best.point, best.is_kept, best.best)) c.decided.ensures

pub returns-clause-no_point : goal.returns-clause-no_point
returns-clause-no_point c =
    let all : List Look = looks c.args.m.now c.args.o.now c.args.cert.now in
    IfOk-weaker c.decided.result (λ v. v ≡ verdict_of all) _ (λ v is. λ e. valid_infeasible c.args.m.now c.args.o.now c.args.cert.now c.requires.lawful (valid_holds all (sym is ∙ e))) c.decided.ensures

pub returns-clause-unbounded : goal.returns-clause-unbounded
returns-clause-unbounded c =
    let all : List Look = looks c.args.m.now c.args.o.now c.args.cert.now in
    IfOk-weaker c.decided.result (λ v. v ≡ verdict_of all) _ (λ v is. λ e. valid_unbounded c.args.m.now c.args.o.now c.args.cert.now (valid_holds all (sym is ∙ e))) c.decided.ensures

pub returns-clause-point : goal.returns-clause-point
returns-clause-point c =
    let all : List Look = looks c.args.m.now c.args.o.now c.args.cert.now in
    IfOk-weaker c.decided.result (λ v. v ≡ verdict_of all) _ (λ v is. λ e p. valid_point c.args.m.now c.args.o.now c.args.cert.now p (valid_holds all (sym is ∙ e))) c.decided.ensures
