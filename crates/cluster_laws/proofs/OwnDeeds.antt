-- Each deed of the cluster is one own step of each owner's part.
use Rattle.std.proofs.Common.{◌≡◌, refl, sym, ap, ◌∙◌, ℕ, Bool, true, false, not, Some, None}
use Rattle.std.specs.Prelude.{nat_le}
use Rattle.base_names.specs.declared.id.BatchId.{BatchId}
use Rattle.model_data.specs.declared.batch.BatchResult.{BatchResult}
use Rattle.table_defs.specs.Names.{Owner, is_attempt, is_owner}
use Rattle.table_defs.specs.Owned.{table_of}
use Rattle.table_defs.specs.Table.{completed, ended, row_of}
use Rattle.cluster_defs.specs.Cluster.{Cluster}
use Rattle.cluster_defs.specs.Deeds.{Faults}
use Rattle.cluster_defs.specs.Own.{Owned, own_settled, own_step, own_work}
use Rattle.cluster_defs.specs.Part.{Part, part_of, placements_of}
use Rattle.cluster_defs.specs.Placement.{place, settled}
use Rattle.cluster_defs.specs.Reading.{Work, nothing_read, reading, reply_for}
use Rattle.cluster_defs.specs.Site.{Site}
use Rattle.cluster_defs.specs.Step.{step, still_open, with_result, with_returned, with_taken}
use Rattle.table_defs.proofs.Lists.{filter_filter}
use Rattle.table_defs.proofs.Owned.{other_change, own_change, own_row}
use Rattle.cluster_laws.proofs.OwnEffects.{attempt_other}
use Rattle.cluster_laws.proofs.OwnPlaces.{own_placements}
use Rattle.cluster_defs.specs.Deeds.{Deed}
use Rattle.cluster_defs.specs.Deeds.{Asked, Took, Finished, Left}
use Rattle.cluster_laws.proofs.OwnCommands.{IsOwnStep, if_on, own_ask_step, part_same}
use Rattle.cluster_laws.proofs.Rule.{if_off}

-- ---- workers

-- nothing is read but placements
worker_other : (u : Owner) (c d : Cluster) → part_of u d ≡ part_of u c → own_settled (placements_of u (place d)) (part_of u c) ≡ part_of u (settled (place d) d)
worker_other u c d e = ap (own_settled (placements_of u (place d))) (sym e) ∙ sym (own_placements u (place d) d)

quiet_step : (u : Owner) (k : Site) (c d : Cluster) → part_of u d ≡ part_of u c
    → own_step k (part_of u c) (record { ask = None; failed = None; marked = None; work = None; placed = placements_of u (place d) }) ≡ record { next = part_of u (settled (place d) d); reply = None }
quiet_step u k c d e = ap (λ (q : Part). record { next = q; reply = None }) (worker_other u c d e)

-- Whether a work's attempt goes on is seen by the own rows.
open_own : (u : Owner) (c : Cluster) (id : BatchId) (attempt : ℕ) → is_owner u id.owner ≡ true → still_open attempt (row_of id (table_of u c.table)) ≡ still_open attempt (row_of id c.table)
open_own u c id attempt own = ap (still_open attempt) (own_row u id c.table own)

work_step : (u : Owner) (k : Site) (c d : Cluster) (w : Work) → part_of u d ≡ own_work (Some w) (part_of u c)
    → own_step k (part_of u c) (record { ask = None; failed = None; marked = None; work = Some w; placed = placements_of u (place d) }) ≡ record { next = part_of u (settled (place d) d); reply = None }
work_step u k c d w e = ap (λ (q : Part). record { next = q; reply = None }) (ap (own_settled (placements_of u (place d))) (sym e) ∙ sym (own_placements u (place d) d))

abbrev work_of : BatchId → ℕ → BatchResult → Bool → Work
work_of id attempt result disk = record { id = id; attempt = attempt; result = result; disk = disk }

finished_own : (u : Owner) (k : Site) (c : Cluster) (id : BatchId) (attempt : ℕ) (result : BatchResult) (f : Faults) (o w : Bool) → still_open attempt (row_of id c.table) ≡ o → nat_le f.after f.before ≡ w → is_owner u id.owner ≡ true → IsOwnStep u k c (Finished id attempt result) (step k c (Finished id attempt result) f)
finished_own u k c id attempt result f false w over h own = rw (own, over) (work_step u k c c (work_of id attempt result false) (sym (if_off _ _ _ (open_own u c id attempt own ∙ over))))
finished_own u k c id attempt result f true true still h own = rw (own, still, h) (work_step u k c (with_result k c id attempt result) (work_of id attempt result false)
    (part_same _ (own_change u id (ended completed (Some result)) c.table (λ row. refl)) refl (filter_filter (λ r. is_owner u r.id.owner) (λ r. not (is_attempt id attempt r.id r.attempt)) c.placed) refl
    ∙ sym (if_on _ _ _ (open_own u c id attempt own ∙ still))))
finished_own u k c id attempt result f true false still h own = rw (own, still, h) (work_step u k c (with_returned c id attempt) (work_of id attempt result true) (sym (if_on _ _ _ (open_own u c id attempt own ∙ still))))

finished_other : (u : Owner) (k : Site) (c : Cluster) (id : BatchId) (attempt : ℕ) (result : BatchResult) (f : Faults) (o w : Bool) → still_open attempt (row_of id c.table) ≡ o → nat_le f.after f.before ≡ w → is_owner u id.owner ≡ false → IsOwnStep u k c (Finished id attempt result) (step k c (Finished id attempt result) f)
finished_other u k c id attempt result f false w over h other = rw (other, over) (quiet_step u k c c refl)
finished_other u k c id attempt result f true true still h other = rw (other, still, h) (quiet_step u k c (with_result k c id attempt result)
    (part_same _ (other_change u id (ended completed (Some result)) c.table (λ row. refl) other) refl (attempt_other u id attempt c.placed other) refl))
finished_other u k c id attempt result f true false still h other = rw (other, still, h) (quiet_step u k c (with_returned c id attempt) refl)

finished_by : (u : Owner) (k : Site) (c : Cluster) (id : BatchId) (attempt : ℕ) (result : BatchResult) (f : Faults) (b : Bool) → is_owner u id.owner ≡ b → IsOwnStep u k c (Finished id attempt result) (step k c (Finished id attempt result) f)
finished_by u k c id attempt result f true own = finished_own u k c id attempt result f _ _ refl refl own
finished_by u k c id attempt result f false other = finished_other u k c id attempt result f _ _ refl refl other

left_by : (u : Owner) (k : Site) (c : Cluster) (id : BatchId) (attempt : ℕ) (f : Faults) (o : Bool) → still_open attempt (row_of id c.table) ≡ o → IsOwnStep u k c (Left id attempt) (step k c (Left id attempt) f)
left_by u k c id attempt f false over = rw over (quiet_step u k c c refl)
left_by u k c id attempt f true still = rw still (quiet_step u k c (with_returned c id attempt) refl)

-- ---- any deed

pub one_step : (u : Owner) (k : Site) (c : Cluster) (d : Deed) (f : Faults) → own_step k (part_of u c) (reading u c d (step k c d f)) ≡ record { next = part_of u (step k c d f).next; reply = reply_for u d (step k c d f).reply }
one_step u k c (Asked seat ask) f = own_ask_step u k c seat ask f
one_step u k c (Took worker id attempt) f = quiet_step u k c (with_taken c id attempt) refl
one_step u k c (Finished id attempt result) f = finished_by u k c id attempt result f (is_owner u id.owner) refl
one_step u k c (Left id attempt) f = left_by u k c id attempt f (still_open attempt (row_of id c.table)) refl

pub nothing_changes : (u : Owner) (k : Site) (c : Cluster) (d : Deed) (f : Faults) → reading u c d (step k c d f) ≡ nothing_read → part_of u (step k c d f).next ≡ part_of u c
nothing_changes u k c d f none = sym (ap (λ (o : Owned). o.next) (sym (ap (own_step k (part_of u c)) none) ∙ one_step u k c d f))
