use Rattle.std.proofs.Common.{Err, refl}
use Rattle.std.proofs.lemmas.Result.{err_from_is_err_and}
use Rattle.session.proofs.Obeying.{answers_refused}
use Rattle.session.proofs.state.State.answer.Goals as goal

pub returns-in_err-append_refusal-in-Err-clause-answers : goal.returns-in_err-append_refusal-in-Err-clause-answers
returns-in_err-append_refusal-in-Err-clause-answers g c =
    let fails = err_from_is_err_and c.from_residual-in_err-append_refusal-in-Err.result c.from_residual-in_err-append_refusal-in-Err.ensures.1 in
    rw fails.1 (answers_refused (Err fails.0) _ c.in-Err.refusal _ _ c.args.out.now.items _ _ _ _ refl c.in-Err.ensures.refused c.requires.empty tt tt)

pub returns-in_ok-append_refusal-in-Err-clause-answers : goal.returns-in_ok-append_refusal-in-Err-clause-answers
returns-in_ok-append_refusal-in-Err-clause-answers g c =
    answers_refused _ _ c.in-Err.refusal _ _ c.args.out.now.items _ _ _ _ refl c.in-Err.ensures.refused c.requires.empty c.in_ok-append_refusal-in-Err.ensures refl
