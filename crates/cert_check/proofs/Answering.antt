-- Answers that tell of looks, one behind the other.
use Rattle.std.proofs.Common.{◌≡◌, ◌∙◌, refl, sym, subst, Bool, true, false, List, [], ◌∷◌, ◌++◌, Result, Err}
use Rattle.base_names.specs.declared.memory.OrMemory.{OrMemory}
use Rattle.base_names.specs.declared.memory.OrMemory.TheVariants.{Fault}
use Rattle.solve_defs.specs.Certificates.{look_at}
use Rattle.solve_defs.specs.Looks.{Look, verdict_of}
use Rattle.solve_defs.specs.declared.verdict.Place.{Place}
use Rattle.solve_defs.specs.declared.verdict.Verdict.TheVariants.{Valid}
use Rattle.cert_check.specs.Found.{Finds, tested, verdict_by}
use Rattle.cert_check.specs.declared.failure.Failure.{Failure}
use Rattle.cert_check.proofs.Verdicts.{append_on, append_stops, not_valid}

pub looked_at : (place : Place) (holds : Bool) → tested holds place ≡ verdict_of (look_at place holds ∷ [])
looked_at place true = refl
looked_at place false = refl

pub finds_behind : {A : Type 0} (xs ys : List Look) (found : Result A (OrMemory Failure)) → Valid ≡ verdict_of xs → Finds found (verdict_of ys) → Finds found (verdict_of (xs ++ ys))
finds_behind xs ys found passes told = subst (Finds found) (sym (append_on xs ys passes)) told

pub finds_before : {A : Type 0} (xs ys : List Look) (found : Result A (OrMemory Failure)) (failed : Failure) → found ≡ Err (Fault failed) → verdict_by {A = Unit {0}} (Err failed) ≡ verdict_of xs
    → Finds found (verdict_of (xs ++ ys))
finds_before xs ys found failed is told =
    subst (λ r. Finds r (verdict_of (xs ++ ys))) (sym is) (sym (append_stops xs ys (verdict_by {A = Unit {0}} (Err failed)) (not_valid failed) told))
