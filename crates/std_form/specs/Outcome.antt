-- What an answer says of a definition's.
use Rattle.std.specs.Prelude.{◌≡◌, ℕ, List, [], ◌∷◌, ◌++◌, flat_map, Result, Ok, Err, if◌then◌else◌}
use Rattle.base_names.specs.declared.memory.OrMemory.{OrMemory}
use Rattle.base_names.specs.declared.memory.OrMemory.TheVariants.{Fault, NoMemory}
use Rattle.frac128.specs.Fraction.{Fraction}
use Rattle.frac128.specs.declared.operations.Wide.{Wide as Refused}
use Rattle.model_data.specs.declared.solution.Weight.{Weight}
use Rattle.solve_defs.specs.Values.{is_zero}
use Rattle.std_form.specs.declared.fault.StdFault.{StdFault}
use Rattle.std_form.specs.declared.fault.StdFault.TheVariants.{Wide}

-- where there was memory, it is the wanted value, or the operation that does not fit
abbrev pub Meets : {A B : Type 0} → Result A (OrMemory StdFault) → (A → B) → Result B Refused → Type 0
Meets (Ok a) meaning wanted = wanted ≡ Ok (meaning a)
Meets (Err (Fault (Wide refused))) meaning wanted = wanted ≡ Err refused
Meets (Err NoMemory) meaning wanted = Unit

-- what is made, behind what is there
abbrev pub behind : {A E : Type 0} → List A → Result (List A) E → Result (List A) E
behind done (Ok made) = Ok (done ++ made)
behind done (Err e) = Err e

-- what is made in parts, one behind the other
abbrev pub joined : {A E : Type 0} → Result (List (List A)) E → Result (List A) E
joined (Ok parts) = Ok (flat_map (λ same. same) parts)
joined (Err e) = Err e

-- the weights with one more, where it is not 0
abbrev pub with_weight : List Weight → ℕ → Fraction → List Weight
with_weight done number x = if is_zero x then done else done ++ record { place = number; weight = x } ∷ []
