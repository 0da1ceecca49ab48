-- Behind a placing the nodes' lines are those behind each of its places.
use Rattle.std.proofs.Common.{◌≡◌, refl, sym, ap, ap₂, ◌∙◌, subst, ℕ, ◌+◌, ◌≤◌, ◌==◌, ◌&&◌, Bool, true, false, not, List, [], ◌∷◌, ◌++◌, length, Option, Some, None, cond, arith, map}
use Rattle.std.specs.Prelude.{filter, find, ⊤}
use Rattle.std.proofs.lemmas.Bool.Decides.{nat_tests}
use Rattle.base_names.specs.declared.node.NodeLine.{NodeLine}
use Rattle.base_names.specs.declared.node.NodeNo.{NodeNo}
use Rattle.base_names.specs.declared.node.Placed.{Placed}
use Rattle.base_names.specs.declared.node.Waiter.{Waiter}
use Rattle.base_names.specs.declared.node.Waiter.TheVariants as waits
use Rattle.base_names.specs.declared.seat.JobId.{JobId}
use Rattle.base_names.specs.declared.seat.Seat.{Seat}
use Rattle.table_defs.specs.Lists.{changed}
use Rattle.cluster_defs.specs.Cluster.{Cluster, Job, Node, Running, Waiting, id_of, is_at, lines, runs_at}
use Rattle.cluster_defs.specs.Placement.{all_placed_attempts, all_placed_jobs, best_node, occupied, place, placed_attempts, placed_jobs, places, settled, with_place}
use Rattle.cluster_laws.specs.Places.{CannotRun, Every, lines_behind}
use Rattle.cluster_laws.specs.Seated.{IsFree, IsSeated, SeatStands, asks_for, jobs_for, waits_at}
use Rattle.cluster_defs.specs.Waiters.{is_job, is_node, is_seat, is_waiter}
use Rattle.table_defs.proofs.Names.{and_left}
use Rattle.cluster_laws.proofs.Allowed.{none_may_run}
use Rattle.cluster_laws.proofs.Lists.{find_head, head_of, no_length, none_changed, some_same}
use Rattle.cluster_laws.proofs.Seated.{job_else}
use Rattle.cluster_laws.proofs.Waiters.{seat_refl, waiter_refl}

-- ---- one more of a kind

filter_within : {A : Type 0} (p test : A → Bool) (within : (x : A) → test x ≡ true → p x ≡ true) (xs : List A) → filter test (filter p xs) ≡ filter test xs
filter_within p test within [] = refl
filter_within p test within (x ∷ xs) = grind (arith, within x, filter_within p test within xs)

one_of : {A : Type 0} (b : Bool) (x : A) (xs : List A) → length (cond b (x ∷ xs) xs) ≡ length xs + cond b 1 0
one_of true x xs = omega arith
one_of false x xs = omega arith

kept_of : {A : Type 0} (b : Bool) (x : A) (xs ys : List A) (n : ℕ) → length xs ≡ length ys + n → length (cond b (x ∷ xs) xs) ≡ length (cond b (x ∷ ys) ys) + n
kept_of true x xs ys n h = omega (arith, h)
kept_of false x xs ys n h = h

more_by : {A : Type 0} (test p : A → Bool) (f : A → A) (y : A) (ys : List A) (x : A) (b : Bool) → length (cond b (y ∷ filter test ys) (filter test ys)) ≤ 1 → cond b (Some y) (find test ys) ≡ Some x → p x ≡ false
    → (length (filter test ys) ≤ 1 → find test ys ≡ Some x → length (filter p (changed test f ys)) ≡ length (filter p ys) + cond (p (f x)) 1 0)
    → length (filter p (cond b (f y) y ∷ changed test f ys)) ≡ length (filter p (y ∷ ys)) + cond (p (f x)) 1 0
more_by test p f y ys x true one is off later =
    let none : length (filter test ys) ≤ 0 = omega (arith, one) in
    let e : changed test f ys ≡ ys = none_changed test f ys (no_length (filter test ys) none) in
    let s : y ≡ x = some_same y x is in
    let a : p y ≡ false = ap p s ∙ off in
    let c : p (f y) ≡ p (f x) = ap (λ z. p (f z)) s in
    rw (e, a, c) (one_of (p (f x)) (f y) (filter p ys))
more_by test p f y ys x false one is off later = let h = later one is in kept_of (p y) y _ _ _ h

pub one_more : {A : Type 0} (test p : A → Bool) (f : A → A) (xs : List A) (x : A) → length (filter test xs) ≤ 1 → find test xs ≡ Some x → p x ≡ false → length (filter p (changed test f xs)) ≡ length (filter p xs) + cond (p (f x)) 1 0
one_more test p f [] x one is off = absurd (grind (arith, is))
one_more test p f (y ∷ ys) x one is off = more_by test p f y ys x (test y) one is off (λ one is. one_more test p f ys x one is off)

-- ---- the count at a node

abbrev count : NodeNo → List Job → List Running → ℕ
count node jobs placed = length (filter (runs_at node) jobs) + length (filter (λ r. is_node node r.node) placed)

abbrev line_with : List Job → List Running → Node → NodeLine
line_with jobs placed n = record { node = n.node; state = n.state; limit = n.limit; hard = n.hard; running = count n.node jobs placed }

-- each that waits is free
abbrev FreeFor : List Job → List Waiting → Type 0
FreeFor js [] = ⊤
FreeFor [] (w ∷ ws) = ⊥
FreeFor (j ∷ []) (w ∷ []) = IsFree j w
FreeFor (j ∷ []) (w ∷ v ∷ ws) = ⊥
FreeFor (j ∷ k ∷ js) (w ∷ ws) = ⊥

abbrev AreFree : List Job → List Waiting → Type 0
AreFree jobs ws = (s : Seat) → FreeFor (jobs_for s jobs) (waits_at s ws)

tail_none : (js : List Job) (w : Waiting) (ws : List Waiting) → FreeFor js (w ∷ ws) → ws ≡ []
tail_none [] w ws h = absurd h
tail_none (j ∷ []) w [] h = refl
tail_none (j ∷ []) w (v ∷ ws) h = absurd h
tail_none (j ∷ k ∷ js) w ws h = absurd h

tail_by : (js ks : List Job) (w : Waiting) (ws : List Waiting) (b : Bool) → (b ≡ false → ks ≡ js) → FreeFor js (cond b (w ∷ ws) ws) → FreeFor ks ws
tail_by js ks w ws true same h = subst (FreeFor ks) (sym (tail_none js w ws h)) tt
tail_by js ks w ws false same h = subst (λ (x : List Job). FreeFor x ws) (sym (same refl)) h

tail_free : (jobs : List Job) (w : Waiting) (ws : List Waiting) → AreFree jobs (w ∷ ws) → AreFree jobs ws
tail_free jobs w ws free s = tail_by (jobs_for s jobs) (jobs_for s jobs) w (waits_at s ws) (asks_for s w.waiter) (λ other. refl) (free s)

placed_free : (node : NodeNo) (jobs : List Job) (w : Waiting) (ws : List Waiting) → AreFree jobs (w ∷ ws) → AreFree (placed_jobs record { waiter = w.waiter; node = node } jobs) ws
placed_free node jobs w ws free s = tail_by (jobs_for s jobs) _ w (waits_at s ws) (asks_for s w.waiter) (job_else s node w.waiter jobs) (free s)

-- ---- one place

-- the one job that is placed
the_one : (js : List Job) (w : Waiting) (ws : List Waiting) → FreeFor js (w ∷ ws) → (j : Job) × (js ≡ j ∷ []) × IsFree j w
the_one [] w ws h = absurd h
the_one (j ∷ []) w [] h = (j, refl, h)
the_one (j ∷ []) w (v ∷ ws) h = absurd h
the_one (j ∷ k ∷ js) w ws h = absurd h

seat_waits : (s : Seat) (w : Waiting) (ws : List Waiting) (job : JobId) → w.waiter ≡ waits.Seat job → s ≡ job.seat → asks_for s w.waiter ≡ true
seat_waits s w ws job is e = ap (asks_for s) is ∙ (ap (λ (x : Seat). is_seat x job.seat) e ∙ seat_refl job.seat)

abbrev is_waiter_of : JobId → Waiter → Bool
is_waiter_of job x = is_waiter (waits.Seat job) x

and_yes : (b : Bool) → (b && not false) ≡ b
and_yes true = refl
and_yes false = refl

job_more : (node at : NodeNo) (job : JobId) (jobs : List Job) (w : Waiting) (ws : List Waiting) → w.waiter ≡ waits.Seat job → AreFree jobs (w ∷ ws)
    → length (filter (runs_at node) (changed (λ j. is_job job (id_of j)) (with_place at) jobs)) ≡ length (filter (runs_at node) jobs) + cond (is_node node at) 1 0
job_more node at job jobs w ws is free =
    let s = job.seat in
    let h = subst (λ (b : Bool). FreeFor (jobs_for s jobs) (cond b (w ∷ waits_at s ws) (waits_at s ws))) (seat_waits s w ws job is refl) (free s) in
    let o = the_one (jobs_for s jobs) w (waits_at s ws) h in
    let named : waits.Seat job ≡ waits.Seat (id_of o.0) = sym is ∙ o.2.named in
    let mine : is_job job (id_of o.0) ≡ true = ap (is_waiter_of job) (sym named) ∙ waiter_refl (waits.Seat job) in
    let all : filter (λ (j : Job). is_job job (id_of j)) jobs ≡ o.0 ∷ [] =
    sym (filter_within (λ (j : Job). is_seat s j.seat) (λ (j : Job). is_job job (id_of j)) (λ j own. and_left (is_seat s j.seat) (job.number == j.number) own) jobs)
    ∙ (ap (λ (js : List Job). filter (λ (j : Job). is_job job (id_of j)) js) o.1 ∙ ap (λ (b : Bool). cond b (o.0 ∷ []) []) mine) in
    let few : length (filter (λ (j : Job). is_job job (id_of j)) jobs) ≤ 1 = rw all (omega arith) in
    let found : find (λ (j : Job). is_job job (id_of j)) jobs ≡ Some o.0 = find_head (λ (j : Job). is_job job (id_of j)) jobs ∙ ap head_of all in
    let off : runs_at node o.0 ≡ false = ap (λ (n : Option NodeNo). is_at node n && not o.0.lost) o.2.nowhere in
    let on : runs_at node (with_place at o.0) ≡ is_node node at = ap (λ (b : Bool). is_node node at && not b) o.2.held ∙ and_yes (is_node node at) in
    one_more (λ j. is_job job (id_of j)) (runs_at node) (with_place at) jobs o.0 few found off ∙ ap (λ (b : Bool). length (filter (runs_at node) jobs) + cond b 1 0) on

attempt_more : (node : NodeNo) (r : Running) (placed : List Running) → length (filter (λ r. is_node node r.node) (placed ++ r ∷ [])) ≡ length (filter (λ r. is_node node r.node) placed) + cond (is_node node r.node) 1 0
attempt_more node r [] = one_of (is_node node r.node) r []
attempt_more node r (q ∷ placed) = kept_of (is_node node q.node) q _ _ _ (attempt_more node r placed)

count_more : (node at : NodeNo) (x : Waiter) (jobs : List Job) (placed : List Running) (w : Waiting) (ws : List Waiting) → w.waiter ≡ x → AreFree jobs (w ∷ ws)
    → count node (placed_jobs record { waiter = x; node = at } jobs) (placed_attempts record { waiter = x; node = at } placed) ≡ count node jobs placed + cond (is_node node at) 1 0
count_more node at (waits.Seat job) jobs placed w ws is free = let e = job_more node at job jobs w ws is free in omega (arith, e)
count_more node at (waits.Batch id n) jobs placed w ws is free = let e = attempt_more node record { id = id; attempt = n; node = at } placed in omega (arith, e)

flip_node : (a b : NodeNo) → is_node a b ≡ is_node b a
unfolding is_node
flip_node a b = grind (arith, nat_tests)

abbrev line_at : Node → ℕ → NodeLine
line_at n c = record { node = n.node; state = n.state; limit = n.limit; hard = n.hard; running = c }

zero_more : (c d : ℕ) → d ≡ c + 0 → d ≡ c
zero_more c d h = omega (arith, h)

line_by : (n : Node) (c d : ℕ) (b : Bool) → d ≡ c + cond b 1 0 → line_at n d ≡ cond b (line_at n (c + 1)) (line_at n c)
line_by n c d true h = ap (line_at n) h
line_by n c d false h = ap (line_at n) (zero_more c d h)

one_line : (p : NodeNo) (x : Waiter) (jobs : List Job) (placed : List Running) (w : Waiting) (ws : List Waiting) → w.waiter ≡ x → AreFree jobs (w ∷ ws) → (nodes : List Node)
    → map (line_with (placed_jobs record { waiter = x; node = p } jobs) (placed_attempts record { waiter = x; node = p } placed)) nodes ≡ occupied p (map (line_with jobs placed) nodes)
one_line p x jobs placed w ws is free [] = refl
one_line p x jobs placed w ws is free (n ∷ nodes) =
    ap₂ (λ (l : NodeLine) (ls : List NodeLine). l ∷ ls)
    (line_by n (count n.node jobs placed) _ (is_node p n.node) (count_more n.node p x jobs placed w ws is free ∙ ap (λ (b : Bool). count n.node jobs placed + cond b 1 0) (flip_node n.node p)))
    (one_line p x jobs placed w ws is free nodes)

-- ---- all places

grows_by : (w : Waiting) (ws : List Waiting) (ns : List NodeLine) (jobs : List Job) (placed : List Running) (nodes : List Node) (x : Option NodeLine) → AreFree jobs (w ∷ ws)
    → ((m : List NodeLine) (js : List Job) (rs : List Running) → AreFree js ws → map (line_with (all_placed_jobs (places ws m) js) (all_placed_attempts (places ws m) rs)) nodes ≡ lines_behind (places ws m) (map (line_with js rs) nodes))
    → (ps : List Placed) → ps ≡ elim x as (λ _. List Placed) [ None ↦ places ws ns | Some n ↦ record { waiter = w.waiter; node = n.node } ∷ places ws (occupied n.node ns) ]
    → map (line_with (all_placed_jobs ps jobs) (all_placed_attempts ps placed)) nodes ≡ lines_behind ps (map (line_with jobs placed) nodes)
grows_by w ws ns jobs placed nodes None free later ps is = subst (λ (ps : List Placed). map (line_with (all_placed_jobs ps jobs) (all_placed_attempts ps placed)) nodes ≡ lines_behind ps (map (line_with jobs placed) nodes)) (sym is) (later ns jobs placed (tail_free jobs w ws free))
grows_by w ws ns jobs placed nodes (Some n) free later ps is = subst (λ (ps : List Placed). map (line_with (all_placed_jobs ps jobs) (all_placed_attempts ps placed)) nodes ≡ lines_behind ps (map (line_with jobs placed) nodes)) (sym is)
    (let m = occupied n.node ns in
    later m (placed_jobs record { waiter = w.waiter; node = n.node } jobs) (placed_attempts record { waiter = w.waiter; node = n.node } placed) (placed_free n.node jobs w ws free)
    ∙ ap (lines_behind (places ws m)) (one_line n.node w.waiter jobs placed w ws refl free nodes))

grows : (ws : List Waiting) (ns : List NodeLine) (jobs : List Job) (placed : List Running) (nodes : List Node) → AreFree jobs ws → map (line_with (all_placed_jobs (places ws ns) jobs) (all_placed_attempts (places ws ns) placed)) nodes ≡ lines_behind (places ws ns) (map (line_with jobs placed) nodes)
grows [] ns jobs placed nodes free = refl
grows (w ∷ ws) ns jobs placed nodes free = grows_by w ws ns jobs placed nodes (best_node w.priority ns) free (λ m js rs f. grows ws m js rs nodes f) (places (w ∷ ws) ns) refl

free_of : (js : List Job) (ws : List Waiting) → SeatStands js ws → FreeFor js ws
free_of js [] h = tt
free_of [] (w ∷ ws) h = absurd h
free_of (j ∷ []) (w ∷ []) h = h
free_of (j ∷ []) (w ∷ v ∷ ws) h = absurd h
free_of (j ∷ k ∷ js) (w ∷ ws) h = absurd h

-- what runs on each node, behind a placing
pub lines_grow : (c : Cluster) → IsSeated c → lines (settled (place c) c) ≡ lines_behind (place c) (lines c)
lines_grow c seated = grows c.waiting (lines c) c.jobs c.placed c.nodes (λ s. free_of (jobs_for s c.jobs) (waits_at s c.waiting) (seated s))

-- behind a placing none may run
pub none_runs : (c : Cluster) → IsSeated c → Every (CannotRun (lines (settled (place c) c))) (settled (place c) c).waiting
none_runs c seated = subst (λ (ns : List NodeLine). Every (CannotRun ns) (settled (place c) c).waiting) (sym (lines_grow c seated)) (none_may_run c.waiting (lines c))
