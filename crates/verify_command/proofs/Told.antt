-- What was told of a finding is what stands there by the end.
use Rattle.std.proofs.Common.{sym, subst, ℕ, List, Option}
use Rattle.solve_defs.specs.declared.verdict.Verdict.{Verdict}
use Rattle.solve_defs.specs.declared.verdict.Verdict.TheVariants as verdict
use Rattle.verify_command.specs.Findings.{IsFinding}
use Rattle.verify_command.specs.Verify.{Answers, Tells, TellsVerdict}
use Rattle.verify_command.specs.declared.command.VerifyEnd.{VerifyEnd}
use Rattle.verify_command.specs.declared.command.VerifyEnd.TheVariants.{Invalid, NoMemory, NoModel, ReadFault, Refused, TooLong, TooWide, Valid, WriteFault}
use Rattle.verify_command.specs.declared.finding.Finding.{Finding}
use Rattle.verify_command.specs.declared.finding.Finding.TheVariants as found
use Rattle.verify_command.proofs.OneFinding.{valid_verified}

verdict_answers : (input : List ℕ) (v : Verdict) (end : VerifyEnd) (contents contents' : Option (List ℕ)) → IsFinding input (found.Checked v) → TellsVerdict v end contents contents' → Answers end input contents contents'
verdict_answers input verdict.Valid Valid contents contents' finding told = (finding, valid_verified input finding.finds, told)
verdict_answers input verdict.Valid Invalid contents contents' finding told = absurd told
verdict_answers input verdict.Valid (TooWide wide) contents contents' finding told = absurd told
verdict_answers input (verdict.Invalid place) Valid contents contents' finding told = absurd told
verdict_answers input (verdict.Invalid place) Invalid contents contents' finding told = (place, finding, told)
verdict_answers input (verdict.Invalid place) (TooWide wide) contents contents' finding told = absurd told
verdict_answers input (verdict.TooWide wide) Valid contents contents' finding told = absurd told
verdict_answers input (verdict.TooWide wide) Invalid contents contents' finding told = absurd told
verdict_answers input (verdict.TooWide wide) (TooWide told_one) contents contents' finding told =
    (subst (λ w. IsFinding input (found.Checked (verdict.TooWide w))) (sym told.0) finding, told.1)
verdict_answers input verdict.Valid WriteFault contents contents' finding told = (verdict.Valid, told.0, finding, told.1, told.2)
verdict_answers input (verdict.Invalid place) WriteFault contents contents' finding told = (verdict.Invalid place, told.0, finding, told.1, told.2)
verdict_answers input (verdict.TooWide wide) WriteFault contents contents' finding told = (verdict.TooWide wide, told.0, finding, told.1, told.2)
verdict_answers input verdict.Valid NoMemory contents contents' finding told = told
verdict_answers input (verdict.Invalid place) NoMemory contents contents' finding told = told
verdict_answers input (verdict.TooWide wide) NoMemory contents contents' finding told = told
verdict_answers input verdict.Valid (NoModel fault) contents contents' finding told = absurd told
verdict_answers input (verdict.Invalid place) (NoModel fault) contents contents' finding told = absurd told
verdict_answers input (verdict.TooWide wide) (NoModel fault) contents contents' finding told = absurd told
verdict_answers input verdict.Valid (Refused line) contents contents' finding told = absurd told
verdict_answers input (verdict.Invalid place) (Refused line) contents contents' finding told = absurd told
verdict_answers input (verdict.TooWide wide) (Refused line) contents contents' finding told = absurd told
verdict_answers input verdict.Valid ReadFault contents contents' finding told = absurd told
verdict_answers input (verdict.Invalid place) ReadFault contents contents' finding told = absurd told
verdict_answers input (verdict.TooWide wide) ReadFault contents contents' finding told = absurd told
verdict_answers input verdict.Valid TooLong contents contents' finding told = absurd told
verdict_answers input (verdict.Invalid place) TooLong contents contents' finding told = absurd told
verdict_answers input (verdict.TooWide wide) TooLong contents contents' finding told = absurd told

pub told_answers : (input : List ℕ) (finding : Finding) (end : VerifyEnd) (contents contents' : Option (List ℕ)) → IsFinding input finding → Tells finding end contents contents' → Answers end input contents contents'
told_answers input (found.Checked v) end contents contents' is told = verdict_answers input v end contents contents' is told
told_answers input (found.NoModel fault) (NoModel other) contents contents' is told =
    (subst (λ f. IsFinding input (found.NoModel f)) (sym told.0) is, told.1)
told_answers input (found.NoModel fault) _ contents contents' is told = absurd told
told_answers input (found.Refused line) (Refused other) contents contents' is told =
    (subst (λ n. IsFinding input (found.Refused n)) (sym told.0) is, told.1)
told_answers input (found.Refused line) _ contents contents' is told = absurd told
