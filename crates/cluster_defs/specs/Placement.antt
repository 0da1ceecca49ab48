-- Which waiting jobs go to which nodes.
use Rattle.std.specs.Prelude.{◌+◌, ◌==◌, nat_lt, Bool, true, false, ◌&&◌, ◌||◌, ℤ, pos, int_le, List, [], ◌∷◌, ◌++◌, filter, find, not, option_map, Option, Some, None, if◌then◌else◌}
use Rattle.std.specs.Ordering.{int_eq}
use Rattle.base_names.specs.declared.node.NodeLine.{NodeLine}
use Rattle.base_names.specs.declared.node.NodeNo.{NodeNo}
use Rattle.base_names.specs.declared.node.NodeState.{NodeState}
use Rattle.base_names.specs.declared.node.NodeState.TheVariants.{Alive, Draining, Failed}
use Rattle.base_names.specs.declared.node.Placed.{Placed}
use Rattle.base_names.specs.declared.node.Waiter.{Waiter}
use Rattle.base_names.specs.declared.node.Waiter.TheVariants.{Seat, Batch}
use Rattle.table_defs.specs.Lists.{changed, each}
use Rattle.cluster_defs.specs.Cluster.{Cluster, Job, Running, Waiting, id_of, lines}
use Rattle.cluster_defs.specs.Waiters.{is_job, is_node, is_waiter}

-- ---- the waiting list, in the order in which its jobs may run

-- behind those of its own priority and above
abbrev pub enqueue : Waiting → List Waiting → List Waiting
enqueue w [] = w ∷ []
enqueue w (v ∷ vs) = if int_le w.priority v.priority then v ∷ enqueue w vs else w ∷ v ∷ vs

abbrev pub dequeue : Waiter → List Waiting → List Waiting
dequeue w ws = filter (λ v. not (is_waiter w v.waiter)) ws

-- ---- where one job may run

abbrev pub is_alive : NodeState → Bool
is_alive Alive = true
is_alive Draining = false
is_alive Failed = false

-- Priority 100 passes the limit, and is held by the hard one where there is one.
abbrev pub has_room : ℤ → NodeLine → Bool
has_room priority n = if int_eq priority (pos 100) then (n.hard == 0) || nat_lt n.running n.hard else nat_lt n.running n.limit

abbrev pub may_run : ℤ → NodeLine → Bool
may_run priority n = is_alive n.state && has_room priority n

-- The first of the two, unless the second has more left below its limit. More may run than the limit says, so sums are compared.
abbrev pub roomier : NodeLine → Option NodeLine → NodeLine
roomier n None = n
roomier n (Some m) = if nat_lt (n.limit + m.running) (m.limit + n.running) then m else n

-- of the nodes on which the job may run the one with most left below its limit, the first one of these
abbrev pub best_node : ℤ → List NodeLine → Option NodeLine
best_node priority [] = None
best_node priority (n ∷ ns) = if may_run priority n then Some (roomier n (best_node priority ns)) else best_node priority ns

-- ---- all places

-- One more runs there.
abbrev pub occupied : NodeNo → List NodeLine → List NodeLine
occupied node ns = changed (λ n. is_node node n.node) (λ n. record n { running = n.running + 1 }) ns

-- Each waiting job in turn gets its place. One that finds none need not be tried again, since those behind it only take more
-- room: so one pass is the rule for one place, repeated until none may run (`by_choice`).
abbrev pub places : List Waiting → List NodeLine → List Placed
places [] ns = []
places (w ∷ ws) ns = elim (best_node w.priority ns) as (λ _. List Placed) [ None ↦ places ws ns | Some n ↦ record { waiter = w.waiter; node = n.node } ∷ places ws (occupied n.node ns) ]

abbrev pub place : Cluster → List Placed
place c = places c.waiting (lines c)

-- ---- what runs then

abbrev pub with_place : NodeNo → Job → Job
with_place node job = record job { node = Some node }

abbrev pub placed_jobs : Placed → List Job → List Job
placed_jobs p jobs = elim p.waiter as (λ _. List Job) [ Seat job ↦ changed (λ j. is_job job (id_of j)) (with_place p.node) jobs | Batch id attempt ↦ jobs ]

abbrev pub placed_attempts : Placed → List Running → List Running
placed_attempts p placed = elim p.waiter as (λ _. List Running) [ Seat job ↦ placed | Batch id attempt ↦ placed ++ record { id = id; attempt = attempt; node = p.node } ∷ [] ]

abbrev pub all_placed_jobs : List Placed → List Job → List Job
all_placed_jobs ps jobs = each placed_jobs ps jobs

abbrev pub all_placed_attempts : List Placed → List Running → List Running
all_placed_attempts ps placed = each placed_attempts ps placed

abbrev pub all_dequeued : List Placed → List Waiting → List Waiting
all_dequeued ps ws = each (λ (p : Placed). dequeue p.waiter) ps ws

-- these places have been given
abbrev pub settled : List Placed → Cluster → Cluster
settled ps c = record c { jobs = all_placed_jobs ps c.jobs; placed = all_placed_attempts ps c.placed; waiting = all_dequeued ps c.waiting }

-- where they put a waiter
abbrev pub place_among : Waiter → List Placed → Option NodeNo
place_among w ps = elim (find (λ p. is_waiter w p.waiter) ps) as (λ _. Option NodeNo) [ None ↦ None | Some p ↦ Some p.node ]

-- ---- the rule, one place at a time

pub record Choice : Type 0 where
  pub waiter : Waiter
  pub node : NodeNo
  -- those that still wait
  pub left : List Waiting

abbrev pub keeping : Waiting → Choice → Choice
keeping w c = record c { left = w ∷ c.left }

-- the first waiting job that may run, and where it goes
abbrev pub choice : List Waiting → List NodeLine → Option Choice
choice [] ns = None
choice (w ∷ ws) ns = elim (best_node w.priority ns) as (λ _. Option Choice) [ Some n ↦ Some record { waiter = w.waiter; node = n.node; left = ws } | None ↦ option_map (keeping w) (choice ws ns) ]

-- that place, and then those of the ones that still wait
abbrev pub by_choice : Option Choice → List NodeLine → List Placed
by_choice None ns = []
by_choice (Some c) ns = record { waiter = c.waiter; node = c.node } ∷ places c.left (occupied c.node ns)
