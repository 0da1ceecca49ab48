-- A body is added to a journal over a disk in memory: what is stored then, and what is in doubt.
use Rattle.std.specs.Prelude.{ℕ, List, Option, Some, None, if◌then◌else◌}
use Rattle.disk_model.specs.Memory.{DiskState}
use Rattle.journal.specs.Plans.{open_plan, settle_plan, stage_plan}
use Rattle.journal_in_memory.specs.Running.{Ran, ran}

pub record Added : Type 0 where
  pub disk : DiskState
  pub doubt : Option (List ℕ)

-- Behind the opening of its gate. Where that failed the body is in doubt.
abbrev pub gated : (body : List ℕ) → Ran → Added
gated body gate = record { disk = gate.disk; doubt = if gate.all then None else Some body }

-- Behind the writing of it behind a closed gate. Where that failed nothing is in doubt.
abbrev pub staged : (end : ℕ) (body : List ℕ) → Ran → Added
staged end body stage = if stage.all then gated body (ran (open_plan end) stage.disk) else record { disk = stage.disk; doubt = None }

-- Behind the settling of what was in doubt. Where that failed it stays so.
abbrev pub settled : (doubt : Option (List ℕ)) (end : ℕ) (body : List ℕ) → Ran → Added
settled doubt end body settle = if settle.all then staged end body (ran (stage_plan end body) settle.disk) else record { disk = settle.disk; doubt = doubt }

abbrev pub added : (doubt : Option (List ℕ)) (end : ℕ) (body : List ℕ) → DiskState → Added
added doubt end body s = settled doubt end body (ran (settle_plan doubt end) s)
