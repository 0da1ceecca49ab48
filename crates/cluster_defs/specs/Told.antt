-- What is told over a list of deeds, on a disk that doesn't fail.
use Rattle.std.specs.Prelude.{List, [], ◌∷◌}
use Rattle.base_names.specs.declared.node.Placed.{Placed}
use Rattle.cluster_defs.specs.Cluster.{Cluster}
use Rattle.cluster_defs.specs.Deeds.{Deed, Faults}
use Rattle.cluster_defs.specs.Entries.{EntryReply}
use Rattle.cluster_defs.specs.Site.{Site}
use Rattle.cluster_defs.specs.Step.{step}

abbrev pub well : Faults
well = record { before = 0; after = 0 }

pub record Told : Type 0 where
  pub placed : List Placed
  pub reply : EntryReply

abbrev pub told : Site → Cluster → List Deed → List Told
told k c [] = []
told k c (deed ∷ deeds) = let s = step k c deed well in record { placed = s.placed; reply = s.reply } ∷ told k s.next deeds
