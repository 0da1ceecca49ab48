-- What is found where looks are made one after the other.
use Rattle.std.specs.Prelude.{◌≡◌, Bool, Result, Ok, Err, if◌then◌else◌}
use Rattle.base_names.specs.declared.memory.OrMemory.{OrMemory}
use Rattle.base_names.specs.declared.memory.OrMemory.TheVariants.{Fault, NoMemory}
use Rattle.solve_defs.specs.declared.verdict.Place.{Place}
use Rattle.solve_defs.specs.declared.verdict.Verdict.{Verdict}
use Rattle.solve_defs.specs.declared.verdict.Verdict.TheVariants.{Valid, Invalid, TooWide}
use Rattle.cert_check.specs.declared.failure.Failure.{Failure}
use Rattle.cert_check.specs.declared.failure.Failure.TheVariants as failure

abbrev pub verdict_by : {A : Type 0} → Result A Failure → Verdict
verdict_by (Ok a) = Valid
verdict_by (Err (failure.Invalid place)) = Invalid place
verdict_by (Err (failure.TooWide wide)) = TooWide wide

-- a look at this place, whose operations fit
abbrev pub tested : Bool → Place → Verdict
tested holds place = if holds then Valid else Invalid place

-- where there was memory, the answer is this verdict
abbrev pub Finds : {A : Type 0} → Result A (OrMemory Failure) → Verdict → Type 0
Finds (Ok a) verdict = verdict ≡ Valid
Finds (Err (Fault failed)) verdict = verdict ≡ verdict_by {A = Unit {0}} (Err failed)
Finds (Err NoMemory) verdict = Unit {0}
