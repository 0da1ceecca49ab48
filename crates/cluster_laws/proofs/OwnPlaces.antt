-- What placements do to one owner's part: nothing but what that owner's own ones do.
use Rattle.std.proofs.Common.{◌≡◌, refl, ap, ap₂, true, false, List, Option, Some, None}
use Rattle.base_names.specs.declared.node.NodeNo.{NodeNo}
use Rattle.base_names.specs.declared.node.Placed.{Placed}
use Rattle.base_names.specs.declared.node.Waiter.{Waiter}
use Rattle.base_names.specs.declared.node.Waiter.TheVariants.{Seat, Batch}
use Rattle.table_defs.specs.Names.{Owner, is_owner}
use Rattle.cluster_defs.specs.Cluster.{Cluster, Job, Running, id_of}
use Rattle.cluster_defs.specs.Own.{own_settled}
use Rattle.cluster_defs.specs.Part.{attempts_of, jobs_of, part_of, placements_of}
use Rattle.cluster_defs.specs.Placement.{place_among, placed_attempts, placed_jobs, settled, with_place}
use Rattle.cluster_defs.specs.Waiters.{is_job, owner_of}
use Rattle.table_defs.proofs.Lists.{each_part, filter_changed, filter_changed_others, find_filter, push_other, push_own}
use Rattle.cluster_laws.proofs.Waiters.{job_without, waiter_within}

place_own : (u : Owner) (w : Waiter) (node : NodeNo) (jobs : List Job) → is_owner u (owner_of w) ≡ true → jobs_of u (placed_jobs record { waiter = w; node = node } jobs) ≡ placed_jobs record { waiter = w; node = node } (jobs_of u jobs)
place_own u (Seat job) node jobs own = filter_changed (λ j. is_owner u j.seat.owner) (λ j. is_job job (id_of j)) (with_place node) (λ j. refl) jobs
place_own u (Batch id attempt) node jobs own = refl

place_other : (u : Owner) (w : Waiter) (node : NodeNo) (jobs : List Job) → is_owner u (owner_of w) ≡ false → jobs_of u (placed_jobs record { waiter = w; node = node } jobs) ≡ jobs_of u jobs
place_other u (Seat job) node jobs other = filter_changed_others (λ j. is_owner u j.seat.owner) (λ j. is_job job (id_of j)) (with_place node) (λ j. refl) (λ j own. job_without u job (id_of j) other own) jobs
place_other u (Batch id attempt) node jobs other = refl

attempts_own : (u : Owner) (w : Waiter) (node : NodeNo) (placed : List Running) → is_owner u (owner_of w) ≡ true → attempts_of u (placed_attempts record { waiter = w; node = node } placed) ≡ placed_attempts record { waiter = w; node = node } (attempts_of u placed)
attempts_own u (Seat job) node placed own = refl
attempts_own u (Batch id attempt) node placed own = push_own (λ r. is_owner u r.id.owner) (record { id = id; attempt = attempt; node = node }) own placed

attempts_other : (u : Owner) (w : Waiter) (node : NodeNo) (placed : List Running) → is_owner u (owner_of w) ≡ false → attempts_of u (placed_attempts record { waiter = w; node = node } placed) ≡ attempts_of u placed
attempts_other u (Seat job) node placed other = refl
attempts_other u (Batch id attempt) node placed other = push_other (λ r. is_owner u r.id.owner) (record { id = id; attempt = attempt; node = node }) other placed

pub own_placements : (u : Owner) (ps : List Placed) (c : Cluster) → part_of u (settled ps c) ≡ own_settled (placements_of u ps) (part_of u c)
own_placements u ps c = ap₂ (λ (jobs : List Job) (placed : List Running). record (part_of u c) { jobs = jobs; placed = placed })
    (each_part placed_jobs (λ p. is_owner u (owner_of p.waiter)) (jobs_of u) (λ p jobs own. place_own u p.waiter p.node jobs own) (λ p jobs other. place_other u p.waiter p.node jobs other) ps c.jobs)
    (each_part placed_attempts (λ p. is_owner u (owner_of p.waiter)) (attempts_of u) (λ p placed own. attempts_own u p.waiter p.node placed own) (λ p placed other. attempts_other u p.waiter p.node placed other) ps c.placed)

-- an own waiter's place stands among the own placements
pub own_place : (u : Owner) (w : Waiter) (ps : List Placed) → is_owner u (owner_of w) ≡ true → place_among w (placements_of u ps) ≡ place_among w ps
own_place u w ps own = ap (λ (found : Option Placed). elim found as (λ _. Option NodeNo) [ None ↦ None | Some p ↦ Some p.node ]) (find_filter (λ p. is_owner u (owner_of p.waiter)) _ (λ p. waiter_within u w p.waiter own) ps)
