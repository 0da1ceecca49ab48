-- A history at hand of which all holds that bounds its sums.
use Rattle.std.proofs.Common.{inl, inr, refl, ◌≤◌, List, map, [], ◌∷◌, None, pos, arith}
use Rattle.table_defs.specs.Names.{is_id, is_owner}
use Rattle.table_defs.specs.Table.{no_rows}
use Rattle.cluster_defs.specs.Asks as asks
use Rattle.cluster_defs.specs.Ends.{end_of}
use Rattle.cluster_defs.specs.Entries.{Entry}
use Rattle.cluster_defs.specs.Legal.{IsLegal, cluster_behind}
use Rattle.cluster_defs.specs.Life.{events_from}
use Rattle.cluster_defs.specs.Opened.{opened}
use Rattle.cluster_defs.specs.Replies as tells
use Rattle.cluster_defs.specs.Room.{AreShort}
use Rattle.cluster_defs.specs.Site.{Site}
use Rattle.cluster_defs.specs.Waiters.{is_node, is_seat}
use Rattle.cluster_defs.proofs.Scenes.{ada, ask, batch, body, bob, entry, seat, site, work}
use Rattle.cluster_laws.specs.Bounds.{AreAmong, AreBounded, IsLawful, IsWritten, jobs_asked, most_jobs}
use Rattle.cluster_laws.proofs.Bounded.{behind_bounded}
use Rattle.cluster_laws.proofs.Owners.{few_owners}

abbrev here : Site
here = site 1 1 0

-- Bob's batch gets the place that ada's gives up, and her job waits.
abbrev history : List Entry
history = map entry (
    ask (seat 1 ada) (asks.Create body) (work (batch ada 1) 1 1 ∷ []) (tells.Made (batch ada 1))
    ∷ ask (seat 1 bob) (asks.Create body) [] (tells.Made (batch bob 1))
    ∷ ask (seat 1 ada) (asks.Job (pos 0)) [] (tells.Job 1 None)
    ∷ ask (seat 1 ada) (asks.Abort (batch ada 1)) (work (batch bob 1) 1 1 ∷ []) tells.Done
    ∷ [])

lawful : IsLawful here.setup
lawful = record { commands = omega arith; journal = omega arith; nodes = omega arith }

written : IsWritten here
written = record { width = λ id n body. refl; whole = λ id n body. omega arith }

legal : IsLegal here no_rows (end_of here []) 0 history []
unfolding is_owner is_id is_seat is_node
legal = (tt, record { may = refl; placed = refl; reply = refl; later = omega arith; told = refl }, (tt, record { may = refl; placed = refl; reply = refl; later = omega arith; told = refl }, (tt, record { may = refl; placed = refl; reply = refl; later = omega arith; told = refl }, (tt, record { may = refl; placed = refl; reply = refl; later = omega arith; told = refl }, tt))))

short : AreShort here (events_from here 0 (opened here no_rows (end_of here [])) [] history)
unfolding is_owner is_id is_seat is_node
short = ((λ n is. absurd is), ((λ n is. absurd is), ((λ n is. omega (arith, is)), tt)))

-- Two owners ask, so a job is asked for as often as two owners may at most.
among : AreAmong (ada ∷ bob ∷ []) history
among = (inl refl, (inr (inl refl), (inl refl, (inl refl, tt))))

few : jobs_asked history ≤ most_jobs
few = few_owners here no_rows (end_of here []) 0 history [] (ada ∷ bob ∷ []) lawful legal among (omega arith)

its_sums_are_bounded : AreBounded here (cluster_behind here no_rows (end_of here []) history [])
its_sums_are_bounded = behind_bounded here [] 0 history [] lawful written refl tt legal (omega arith) short (omega arith, (omega arith, (tt, (tt, tt)))) few
