use Rattle.std.proofs.Common.{refl, rules, subst}
use Rattle.std.specs.Prelude.{ℤ}
use Rattle.model_core.specs.Parameter.{set_of}
use Rattle.session.specs.Step.{Does}
use Rattle.std.specs.Int.{w128}
use Rattle.std.proofs.lemmas.Int.{to_z-of_z}
use Rattle.session.specs.Session.{effect, set_effect}
use Rattle.session.proofs.Obeying.{answers_alone, answers_maybe, answers_batch, answers_status, does_say}
use Rattle.session.proofs.state.State.obey.Goals as goal

pub returns-in-Read-clause-answers : goal.returns-in-Read-clause-answers
unfolding effect
returns-in-Read-clause-answers g c = rw c.in-Read.is (answers_maybe _ _ _ _ _ _ _ _ _ refl refl c.read.ensures)

pub returns-in-Queue-clause-answers : goal.returns-in-Queue-clause-answers
unfolding effect
returns-in-Queue-clause-answers g c = rw c.in-Queue.is (answers_maybe _ _ _ _ _ _ _ _ _ refl refl c.queue.ensures)

pub returns-in-Write-clause-answers : goal.returns-in-Write-clause-answers
unfolding effect
returns-in-Write-clause-answers g c = rw c.in-Write.is (answers_maybe _ _ _ _ _ _ _ _ _ refl refl c.write.ensures)

pub returns-in-Update-clause-answers : goal.returns-in-Update-clause-answers
unfolding effect
returns-in-Update-clause-answers g c = rw c.in-Update.is (answers_alone _ _ _ _ _ _ _ _ _ refl c.update.ensures)

pub returns-in-GetLb-clause-answers : goal.returns-in-GetLb-clause-answers
unfolding effect
returns-in-GetLb-clause-answers g c = rw c.in-GetLb.is (answers_alone _ _ _ _ _ _ _ _ _ refl c.tell_lower.ensures)

pub returns-in-GetUb-clause-answers : goal.returns-in-GetUb-clause-answers
unfolding effect
returns-in-GetUb-clause-answers g c = rw c.in-GetUb.is (answers_alone _ _ _ _ _ _ _ _ _ refl c.tell_upper.ensures)

pub returns-in-GetObj-clause-answers : goal.returns-in-GetObj-clause-answers
unfolding effect
returns-in-GetObj-clause-answers g c = rw c.in-GetObj.is (answers_alone _ _ _ _ _ _ _ _ _ refl c.tell_objective.ensures)

pub returns-in-GetType-clause-answers : goal.returns-in-GetType-clause-answers
unfolding effect
returns-in-GetType-clause-answers g c = rw c.in-GetType.is (answers_alone _ _ _ _ _ _ _ _ _ refl c.tell_kind.ensures)

pub returns-in-GetRhs-clause-answers : goal.returns-in-GetRhs-clause-answers
unfolding effect
returns-in-GetRhs-clause-answers g c = rw c.in-GetRhs.is (answers_alone _ _ _ _ _ _ _ _ _ refl c.tell_side.ensures)

pub returns-in-GetSense-clause-answers : goal.returns-in-GetSense-clause-answers
unfolding effect
returns-in-GetSense-clause-answers g c = rw c.in-GetSense.is (answers_alone _ _ _ _ _ _ _ _ _ refl c.tell_sense.ensures)

pub returns-in-GetCoeff-clause-answers : goal.returns-in-GetCoeff-clause-answers
unfolding effect
returns-in-GetCoeff-clause-answers g c = rw c.in-GetCoeff.is (answers_alone _ _ _ _ _ _ _ _ _ refl c.tell_coefficient.ensures)

pub returns-in-GetVTag-clause-answers : goal.returns-in-GetVTag-clause-answers
unfolding effect
returns-in-GetVTag-clause-answers g c = rw c.in-GetVTag.is (answers_alone _ _ _ _ _ _ _ _ _ refl c.tell_tag.ensures)

pub returns-in-GetParam-clause-answers : goal.returns-in-GetParam-clause-answers
unfolding effect
returns-in-GetParam-clause-answers g c = rw c.in-GetParam.is (answers_alone _ _ _ _ _ _ _ _ _ refl c.tell_parameter.ensures)

pub returns-in-SetParam-clause-answers : goal.returns-in-SetParam-clause-answers
unfolding effect
returns-in-SetParam-clause-answers g c = rw c.in-SetParam.is (answers_alone _ _ _ _ _ _ _ _ _ refl (subst (λ (v : ℤ). Does c.set_parameter.result (set_effect c.args.self.now (set_of c.in-SetParam.name v c.args.self.now.params)) c.set_parameter.new.self c.set_parameter.new.out.items) (to_z-of_z w128 c.in-SetParam.value (search rules)) c.set_parameter.ensures))

pub returns-in-Bye-clause-answers : goal.returns-in-Bye-clause-answers
unfolding effect
returns-in-Bye-clause-answers g c = rw c.in-Bye.is (answers_alone _ _ _ _ _ _ _ _ _ refl (does_say _ _ _ _ _ c.requires.empty c.append_bye.ensures))

pub returns-in-GetNumVars-clause-answers : goal.returns-in-GetNumVars-clause-answers
unfolding effect
returns-in-GetNumVars-clause-answers g c = rw c.in-GetNumVars.is (answers_alone _ _ _ _ _ _ _ _ _ refl c.count_vars.ensures)

pub returns-in-GetNumConstrs-clause-answers : goal.returns-in-GetNumConstrs-clause-answers
unfolding effect
returns-in-GetNumConstrs-clause-answers g c = rw c.in-GetNumConstrs.is (answers_alone _ _ _ _ _ _ _ _ _ refl c.count_rows.ensures)

pub returns-in-Batch-clause-answers : goal.returns-in-Batch-clause-answers
returns-in-Batch-clause-answers g c = rw c.in-Batch.is (answers_batch _ _ _ _ _ _ _ _ _ _ c.submit.ensures.submits)

pub returns-in-BStatus-clause-answers : goal.returns-in-BStatus-clause-answers
returns-in-BStatus-clause-answers g c = rw c.in-BStatus.is (answers_status _ _ _ _ _ _ _ _ _ _ _ c.tell_status.ensures.asks.0 c.tell_status.ensures.asks.1)
