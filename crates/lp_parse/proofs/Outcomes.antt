-- What the outcome of a call says, where a definition's outcome is what it is to be.
use Rattle.std.proofs.Common.{◌≡◌, ◌∙◌, ap, subst, Ok, Err, Result}
use Rattle.std.specs.Result.{IfOk}
use Rattle.base_names.specs.declared.memory.OrMemory.{OrMemory}
use Rattle.base_names.specs.declared.memory.OrMemory.TheVariants.{Fault, NoMemory}
use Rattle.lp_defs.specs.declared.fault.ModelFault.{ModelFault}
use Rattle.lp_parse.specs.Outcome.{Meets}

module _ {A B : Type 0} (outcome : Result A (OrMemory ModelFault)) (meaning : A → B) where
  -- what is wanted, in other words
  pub met_as : {wanted other : Result B ModelFault} → wanted ≡ other → Meets outcome meaning wanted → Meets outcome meaning other
  met_as same met = subst (Meets outcome meaning) same met

-- a fault is the wanted one
pub fault_met : {A B : Type 0} (outcome : Result A (OrMemory ModelFault)) (meaning : A → B) (wanted : Result B ModelFault) (fault : ModelFault)
    → Meets outcome meaning wanted → outcome ≡ Err (Fault fault) → wanted ≡ Err fault
fault_met (Ok a) meaning wanted fault met is = absurd cc
fault_met (Err (Fault other)) meaning wanted fault met is = let same : other ≡ fault = cc in met ∙ ap Err same
fault_met (Err NoMemory) meaning wanted fault met is = absurd cc

-- a value is the wanted one
pub value_met : {A : Type 0} (outcome : Result A (OrMemory ModelFault)) (read wanted : Result A ModelFault)
    → read ≡ wanted → Meets outcome (λ a. a) wanted → IfOk outcome (λ a. read ≡ Ok a)
value_met (Ok a) read wanted same met = same ∙ met
value_met (Err e) read wanted same met = tt
