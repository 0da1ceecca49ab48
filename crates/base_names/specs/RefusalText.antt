-- The text of a refusal: `ERR`, its number, its name, and what some add.
use Rattle.std.specs.Prelude.{ℕ, List, ◌++◌, codes, decimal}
use Rattle.base_names.specs.declared.refusal.FaultWord.{FaultWord}
use Rattle.base_names.specs.declared.refusal.FaultWord.TheVariants.{Word, Number, NameLength, DoubledName, NoSection, Unsupported, AfterEnd, Size}
use Rattle.base_names.specs.declared.refusal.OwnerLimit.{OwnerLimit}
use Rattle.base_names.specs.declared.refusal.OwnerLimit.TheVariants.{Commands, Numbers, Bytes}
use Rattle.base_names.specs.declared.refusal.Refusal.{Refusal}
use Rattle.base_names.specs.declared.refusal.Refusal.TheVariants.{KEY, LINE, STATE, MODEL, NAME, DUPLICATE, RANGE, PARAM, NOTAG, SIZE, NOJOB, NONODE, BATCH, BATCHSTATE, OWNERFULL, JOURNALFULL, DISK, MEMORY, ROLE, NOSOLUTION, NODE, NODELOST}

abbrev pub fault_text : FaultWord → List ℕ
fault_text Word = codes "WORD"
fault_text Number = codes "NUMBER"
fault_text NameLength = codes "NAMELENGTH"
fault_text DoubledName = codes "DOUBLEDNAME"
fault_text NoSection = codes "NOSECTION"
fault_text Unsupported = codes "UNSUPPORTED"
fault_text AfterEnd = codes "AFTEREND"
fault_text Size = codes "SIZE"

abbrev pub limit_text : OwnerLimit → List ℕ
limit_text Commands = codes "COMMANDS"
limit_text Numbers = codes "NUMBERS"
limit_text Bytes = codes "BYTES"

abbrev pub refusal_text : Refusal → List ℕ
refusal_text KEY = codes "ERR 1 KEY"
refusal_text LINE = codes "ERR 2 LINE"
refusal_text STATE = codes "ERR 3 STATE"
refusal_text (MODEL line column fault) = codes "ERR 4 MODEL " ++ decimal line ++ codes " " ++ decimal column ++ codes " " ++ fault_text fault
refusal_text NAME = codes "ERR 5 NAME"
refusal_text DUPLICATE = codes "ERR 6 DUPLICATE"
refusal_text RANGE = codes "ERR 7 RANGE"
refusal_text PARAM = codes "ERR 8 PARAM"
refusal_text NOTAG = codes "ERR 9 NOTAG"
refusal_text SIZE = codes "ERR 10 SIZE"
refusal_text NOJOB = codes "ERR 11 NOJOB"
refusal_text NONODE = codes "ERR 12 NONODE"
refusal_text BATCH = codes "ERR 13 BATCH"
refusal_text (BATCHSTATE status) = codes "ERR 14 BATCHSTATE " ++ decimal status
refusal_text (OWNERFULL limit) = codes "ERR 15 OWNERFULL " ++ limit_text limit
refusal_text (JOURNALFULL need limit) = codes "ERR 16 JOURNALFULL"
refusal_text (DISK before after) = codes "ERR 17 DISK"
refusal_text MEMORY = codes "ERR 18 MEMORY"
refusal_text ROLE = codes "ERR 19 ROLE"
refusal_text NOSOLUTION = codes "ERR 20 NOSOLUTION"
refusal_text NODE = codes "ERR 21 NODE"
refusal_text (NODELOST node) = codes "ERR 22 NODELOST " ++ decimal node.0
