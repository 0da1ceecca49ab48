-- The disk's count of faults, through openings one after the other.
use Rattle.std.specs.Prelude.{ℕ, ◌≤◌, ⊤, List, [], ◌∷◌, ◌++◌}
use Rattle.table_defs.specs.Table.{Table}
use Rattle.cluster_defs.specs.Entries.{Entry}
use Rattle.cluster_defs.specs.Legal.{IsLegal, IsTold, says_disk}
use Rattle.cluster_defs.specs.Life.{Opening}
use Rattle.cluster_defs.specs.Site.{Site}

-- behind a history
abbrev pub faults_behind : ℕ → List Entry → ℕ
faults_behind faults [] = faults
faults_behind faults (e ∷ es) = faults_behind e.after es

-- Each opening finds at least the faults that were counted before it, since a disk's count never falls.
abbrev pub AreOfOneDisk : ℕ → List Opening → Type 0
AreOfOneDisk faults [] = ⊤
AreOfOneDisk faults (o ∷ os) = (faults ≤ o.faults) × AreOfOneDisk (faults_behind o.faults o.history) os

-- each from a table of its own
abbrev pub AreLegal : Site → List Opening → Type 0
AreLegal k [] = ⊤
AreLegal k (o ∷ os) = ((t : Table) × IsLegal k t o.end o.faults o.history o.returned) × AreLegal k os

abbrev pub histories : List Opening → List Entry
histories [] = []
histories (o ∷ os) = o.history ++ histories os

-- Each entry begins with at least the count that the one before it ended with. In it the count rose exactly where its answer
-- says that the disk failed.
abbrev pub AreCounted : ℕ → List Entry → Type 0
AreCounted faults [] = ⊤
AreCounted faults (e ∷ es) = (faults ≤ e.before) × IsTold (says_disk e.reply) e.before e.after × AreCounted e.after es
