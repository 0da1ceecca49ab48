-- What is printed of a fault: its place and its word.
use Rattle.std.specs.Prelude.{ℕ, List, ◌++◌, codes, decimal}
use Rattle.base_names.specs.RefusalText.{fault_text}
use Rattle.base_names.specs.declared.refusal.FaultWord.{FaultWord}

-- `line 5 column 5 NUMBER`
abbrev pub placed_text : (line column : ℕ) → FaultWord → List ℕ
placed_text line column fault = codes "line " ++ decimal line ++ codes " column " ++ decimal column ++ codes " " ++ fault_text fault
