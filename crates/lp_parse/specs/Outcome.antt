-- What an outcome in Rust says of a definition's.
use Rattle.std.specs.Prelude.{◌≡◌, Result, Ok, Err}
use Rattle.base_names.specs.declared.memory.OrMemory.{OrMemory}
use Rattle.base_names.specs.declared.memory.OrMemory.TheVariants.{Fault, NoMemory}
use Rattle.lp_defs.specs.declared.fault.ModelFault.{ModelFault}

-- It is the wanted one, where there was memory.
abbrev pub Meets : {A B : Type 0} → Result A (OrMemory ModelFault) → (A → B) → Result B ModelFault → Type 0
Meets (Ok a) meaning wanted = wanted ≡ Ok (meaning a)
Meets (Err (Fault fault)) meaning wanted = wanted ≡ Err fault
Meets (Err NoMemory) meaning wanted = Unit
