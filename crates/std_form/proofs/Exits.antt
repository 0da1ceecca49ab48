-- What is refused in a part is refused in the whole.
use Rattle.std.proofs.Common.{◌≡◌, subst, Result, Ok, Err}
use Rattle.std.specs.Result.{IfOk, IsErr}
use Rattle.base_names.specs.declared.memory.OrMemory.{OrMemory}
use Rattle.base_names.specs.declared.memory.OrMemory.TheVariants.{Fault, NoMemory}
use Rattle.frac128.specs.declared.operations.Wide.{Wide as Refused}
use Rattle.std_form.specs.Outcome.{Meets}
use Rattle.std_form.specs.declared.fault.StdFault.{StdFault}
use Rattle.std_form.specs.declared.fault.StdFault.TheVariants.{Wide}

pub exit : {A B C : Type 0} (answer : Result A (OrMemory StdFault)) (meaning : A → B) (own : Result B Refused)
    (whole_meaning : A → C) (whole : Result C Refused)
    → IsErr answer → Meets answer meaning own → ((e : Refused) → own ≡ Err e → whole ≡ Err e) → Meets answer whole_meaning whole
exit (Ok a) meaning own whole_meaning whole is_err told through = absurd cc
exit (Err (Fault (Wide e))) meaning own whole_meaning whole is_err told through = through e told
exit (Err NoMemory) meaning own whole_meaning whole is_err told through = tt

pub told_ok : {A B : Type 0} (answer : Result A (OrMemory StdFault)) (meaning : A → B) (wanted : Result B Refused) → Meets answer meaning wanted
    → IfOk answer (λ a. wanted ≡ Ok (meaning a))
told_ok (Ok a) meaning wanted told = told
told_ok (Err e) meaning wanted told = tt

pub told_fault : {A B : Type 0} (answer : Result A (OrMemory StdFault)) (meaning : A → B) (wanted : Result B Refused) → Meets answer meaning wanted
    → (e : Refused) → answer ≡ Err (Fault (Wide e)) → wanted ≡ Err e
told_fault answer meaning wanted told e is = subst (λ given. Meets given meaning wanted) is told
