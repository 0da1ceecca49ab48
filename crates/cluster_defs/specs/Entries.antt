-- A deed as it is kept, with its answer.
use Rattle.std.specs.Prelude.{ℕ, List}
use Rattle.base_names.specs.declared.node.Placed.{Placed}
use Rattle.cluster_defs.specs.Deeds.{Deed, Faults, FinishReply}
use Rattle.cluster_defs.specs.Replies as tells

pub data EntryReply : Type 0 where
  Reply : tells.Reply → EntryReply
  Took : EntryReply
  Finish : FinishReply → EntryReply

-- the deed, the places that were given behind it, and the disk's counts of faults around it
pub record Entry : Type 0 where
  pub deed : Deed
  pub placed : List Placed
  pub reply : EntryReply
  pub before : ℕ
  pub after : ℕ

abbrev pub faults_of : Entry → Faults
faults_of e = record { before = e.before; after = e.after }
