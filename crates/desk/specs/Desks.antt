-- What a desk is seen as.
use Rattle.std.specs.Prelude.{ℕ, List, map}
use Rattle.cluster_defs.specs.Site as site
use Rattle.cluster_defs.specs.declared.entry.Entry.{Entry}
use Rattle.hub_core.specs.Noting.{Noted}
use Rattle.hub_core.specs.State.{State, start_of}
use Rattle.hub_core.specs.declared.setup.Setup.{Setup}
use Rattle.hub_words.specs.Object.{Object}

-- its hub, and how often that has told of the limit on commands
pub record Held (D : Type 0) : Type 0 where
  pub hub : State D
  pub fulls : ℕ

-- the entries of a history, without the disk's counts
abbrev pub entries_in : List Noted → List Entry
entries_in history = map (λ item. item.0) history

abbrev pub setup_in : Setup → site.Setup
setup_in s = record { nodes = s.nodes; limit = s.limit; hard = s.hard; limits = record { commands = s.limits.commands; bytes = s.limits.bytes; journal = s.limits.journal } }

-- what no ask changes
abbrev pub object_of : {D : Type 0} → (name : D → ℕ) → State D → Object
object_of name h = record { borrow = 0; disk = name h.disk; setup = setup_in h.setup; start = start_of h; faults = h.begun }
