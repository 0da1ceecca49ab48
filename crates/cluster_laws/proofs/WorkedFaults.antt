-- Two openings of one disk: in the first one a batch is refused by the disk, and in the second one it is made.
use Rattle.std.proofs.Common.{refl, List, [], ◌∷◌, None, arith}
use Rattle.base_names.specs.declared.refusal.Refusal.TheVariants.{DISK}
use Rattle.table_defs.specs.Names.{is_id, is_owner}
use Rattle.table_defs.specs.Table.{no_rows}
use Rattle.cluster_defs.specs.Asks as asks
use Rattle.cluster_defs.specs.Counted.{AreCounted, AreLegal, AreOfOneDisk}
use Rattle.cluster_defs.specs.Deeds.{Asked}
use Rattle.cluster_defs.specs.Entries as answers
use Rattle.cluster_defs.specs.Entries.{Entry}
use Rattle.cluster_defs.specs.Life.{Opening}
use Rattle.cluster_defs.specs.Replies as tells
use Rattle.cluster_defs.specs.Waiters.{is_node, is_seat}
use Rattle.cluster_defs.proofs.Scenes.{ada, batch, body, seat, site, work}
use Rattle.cluster_laws.proofs.Faults.{all_counted}

-- Three calls failed before the first opening, one in its entry, and two more until the next.
abbrev refused_entry : Entry
refused_entry = record { deed = Asked (seat 1 ada) (asks.Create body); placed = []; reply = answers.Reply (tells.Refused (DISK 3 4)); before = 3; after = 4 }

abbrev made_entry : Entry
made_entry = record { deed = Asked (seat 1 ada) (asks.Create body); placed = work (batch ada 1) 1 1 ∷ []; reply = answers.Reply (tells.Made (batch ada 1)); before = 6; after = 6 }

abbrev openings : List Opening
openings = record { end = 8; faults = 3; history = refused_entry ∷ []; returned = []; under_way = None } ∷ record { end = 8; faults = 6; history = made_entry ∷ []; returned = []; under_way = None } ∷ []

legal : AreLegal (site 1 1 0) openings
unfolding is_owner is_id is_seat is_node
legal = ((no_rows, (tt, record { may = refl; placed = refl; reply = refl; later = omega arith; told = omega arith }, tt)), ((no_rows, (tt, record { may = refl; placed = refl; reply = refl; later = omega arith; told = refl }, tt)), tt))

one_disk : AreOfOneDisk 3 openings
one_disk = (omega arith, (omega arith, tt))

its_faults_are_counted : AreCounted 3 (refused_entry ∷ made_entry ∷ [])
its_faults_are_counted = all_counted (site 1 1 0) 3 openings legal one_disk
