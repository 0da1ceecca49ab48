use Rattle.std.proofs.Common.{sym, subst, ap}
use Rattle.model_data.specs.Lawful.{IsLawful}
use Rattle.lp_defs.proofs.Sound.{kept, lawful}
use Rattle.lp_defs.proofs.SoundText.{spelled_sound}
use Rattle.solve_defs.specs.Certificates.{verdict}
use Rattle.solve_defs.specs.Plain.{plain_cut}
use Rattle.verify_command.specs.Findings.{IsFinding}
use Rattle.verify_command.specs.declared.finding.Finding.TheVariants.{Checked}
use Rattle.verify_laws.proofs.Ends.{ends_checked, ends_too_long}
use Rattle.verify_laws.proofs.Solved.{found, not_invalid, valid_where_all_fit}
use Rattle.verify_laws.proofs.joined.what_is_solved_is_verified.Goals as goal

pub returns-clause-checked : goal.returns-clause-checked
returns-clause-checked c m p k block answer input solve parts =
    let sound = spelled_sound block m solve.spells in
    let o = (plain_cut m p k).outcome in
    let cert = (plain_cut m p k).cert in
    (verdict m o cert, found m p k block answer input solve parts, not_invalid m o cert c.a_verdict_tells_the_first_failure.ensures.invalid (c.a_solve_is_right.ensures.valid m p k (lawful m sound) (kept m sound)))

pub returns-clause-valid : goal.returns-clause-valid
returns-clause-valid c m p k block answer input solve parts fit =
    let sound = spelled_sound block m solve.spells in
    subst (λ v. IsFinding input (Checked v))
    (valid_where_all_fit m (plain_cut m p k).outcome (plain_cut m p k).cert c.a_verdict_tells_the_first_failure.ensures.valid (c.a_solve_is_right.ensures.valid m p k (lawful m sound) (kept m sound)) fit)
    (found m p k block answer input solve parts)

pub returns-clause-ends : goal.returns-clause-ends
returns-clause-ends c m p k block answer input end left contents contents' solve parts short says =
    let sound = spelled_sound block m solve.spells in
    let o = (plain_cut m p k).outcome in
    let cert = (plain_cut m p k).cert in
    ends_checked input end left contents contents' (verdict m o cert) (found m p k block answer input solve parts)
    (not_invalid m o cert c.a_verdict_tells_the_first_failure.ensures.invalid (c.a_solve_is_right.ensures.valid m p k (lawful m sound) (kept m sound))) short says

pub returns-clause-too_long : goal.returns-clause-too_long
returns-clause-too_long c = ends_too_long
