-- What holds of a cluster's jobs in every history: a seat holds one at most, which waits exactly while it has no node, and none
-- that waits may run.
use Rattle.std.specs.Prelude.{◌≡◌, ⊤, Bool, true, false, List, [], ◌∷◌, filter, None, is_some}
use Rattle.base_names.specs.declared.node.Waiter.{Waiter}
use Rattle.base_names.specs.declared.node.Waiter.TheVariants as waits
use Rattle.base_names.specs.declared.seat.Seat.{Seat}
use Rattle.cluster_defs.specs.Cluster.{Cluster, Job, Waiting, id_of, lines}
use Rattle.cluster_laws.specs.Places.{CannotRun, Every}
use Rattle.cluster_defs.specs.Waiters.{is_seat}

abbrev pub asks_for : Seat → Waiter → Bool
asks_for s (waits.Seat job) = is_seat s job.seat
asks_for s (waits.Batch id attempt) = false

abbrev pub jobs_for : Seat → List Job → List Job
jobs_for s jobs = filter (λ job. is_seat s job.seat) jobs

abbrev pub waits_at : Seat → List Waiting → List Waiting
waits_at s ws = filter (λ w. asks_for s w.waiter) ws

-- the job waits: it has no node, and is not lost
pub record IsFree (j : Job) (w : Waiting) : Type 0 where
  pub named : w.waiter ≡ waits.Seat (id_of j)
  pub nowhere : j.node ≡ None
  pub held : j.lost ≡ false

-- how a seat stands, by its jobs and by what waits of them
abbrev pub SeatStands : List Job → List Waiting → Type 0
SeatStands [] [] = ⊤
SeatStands [] (w ∷ ws) = ⊥
SeatStands (j ∷ []) [] = is_some j.node ≡ true
SeatStands (j ∷ []) (w ∷ []) = IsFree j w
SeatStands (j ∷ []) (w ∷ v ∷ ws) = ⊥
SeatStands (j ∷ k ∷ js) ws = ⊥

abbrev pub IsSeated : Cluster → Type 0
IsSeated c = (s : Seat) → SeatStands (jobs_for s c.jobs) (waits_at s c.waiting)

pub record IsSettled (c : Cluster) : Type 0 where
  pub seated : IsSeated c
  pub full : Every (CannotRun (lines c)) c.waiting
