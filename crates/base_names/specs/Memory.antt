-- What is printed of want of memory.
use Rattle.std.specs.Prelude.{ℕ, List, codes, Option, Some}
use Rattle.base_names.specs.declared.memory.OrMemory.{OrMemory}
use Rattle.base_names.specs.declared.memory.OrMemory.TheVariants.{Fault, NoMemory}

abbrev pub memory_text : List ℕ
memory_text = codes "out of memory"

-- a fault of the call's own as it prints itself, and want of memory
abbrev pub fault_or_memory_text : {S : Type 0} → (S → Option (List ℕ)) → OrMemory S → Option (List ℕ)
fault_or_memory_text text (Fault fault) = text fault
fault_or_memory_text text NoMemory = Some memory_text
