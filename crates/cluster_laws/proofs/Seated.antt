-- Each deed keeps each seat's job: it waits exactly while it has no node.
use Rattle.std.proofs.Common.{◌≡◌, inl, inr, refl, sym, ap, ◌∙◌, subst, ℕ, ◌+◌, ◌==◌, ◌&&◌, Bool, true, false, not, ℤ, List, [], ◌∷◌, ◌++◌, Option, Some, None, cond, arith}
use Rattle.std.specs.Prelude.{filter, is_some, is_none}
use Rattle.base_names.specs.declared.node.NodeNo.{NodeNo}
use Rattle.base_names.specs.declared.node.Placed.{Placed}
use Rattle.base_names.specs.declared.node.Waiter.{Waiter}
use Rattle.base_names.specs.declared.node.Waiter.TheVariants as waits
use Rattle.base_names.specs.declared.refusal.Refusal.TheVariants.{STATE}
use Rattle.base_names.specs.declared.seat.JobId.{JobId}
use Rattle.base_names.specs.declared.seat.Role.{Role}
use Rattle.base_names.specs.declared.seat.Role.TheVariants.{Standard, Admin}
use Rattle.base_names.specs.declared.seat.Seat.{Seat}
use Rattle.model_data.specs.declared.batch.BatchRow.{BatchRow}
use Rattle.table_defs.specs.Lists.{changed, each}
use Rattle.table_defs.specs.Table.{Table, row_of}
use Rattle.table_defs.specs.Taken.{unless}
use Rattle.cluster_defs.specs.Appended.{attempt_in}
use Rattle.cluster_defs.specs.Cluster.{Cluster, Job, Waiting, id_of, is_at, job_of, jobs_given, lines, runs_at}
use Rattle.cluster_defs.specs.Effects.{done, is_lost, jobs_after, lost_jobs, marked_jobs, new_job, waiting_after, without_job}
use Rattle.cluster_defs.specs.Listing.{by_id, is_going_on}
use Rattle.cluster_defs.specs.Opened.{all_waiting, mounted}
use Rattle.cluster_defs.specs.Placement.{all_dequeued, dequeue, enqueue, place, placed_jobs, settled, with_place}
use Rattle.cluster_defs.specs.Refusals.{marked_job, state_refusal}
use Rattle.cluster_laws.specs.Seated.{IsFree, IsSeated, SeatStands, asks_for, jobs_for, waits_at}
use Rattle.cluster_defs.specs.Site.{Site}
use Rattle.cluster_defs.specs.Waiters.{is_job, is_role, is_seat, is_waiter}
use Rattle.table_defs.proofs.Lists.{each_part, filter_changed, filter_changed_others, filter_filter, filter_others, none_filter, push_other, push_own}
use Rattle.table_defs.proofs.Names.{and_left, bool_off}
use Rattle.table_defs.proofs.Rows.{unless_none}
use Rattle.cluster_laws.proofs.Listings.{seat_parts}
use Rattle.cluster_laws.proofs.Lists.{find_head, found_passes, head_of, some_same}
use Rattle.cluster_laws.proofs.Standing.{Comes, comes_of}
use Rattle.cluster_laws.proofs.Waiters.{waiter_refl}
use Rattle.cluster_defs.specs.Asks.{Ask}
use Rattle.cluster_defs.specs.Asks as asks

-- ---- seats

role_is : (a b : Role) → is_role a b ≡ true → a ≡ b
role_is Standard Standard h = refl
role_is Admin Admin h = refl
role_is Standard Admin h = absurd (grind (arith, h))
role_is Admin Standard h = absurd (grind (arith, h))

pub seat_is : (a b : Seat) → is_seat a b ≡ true → a ≡ b
seat_is a b h = let p = seat_parts a b h in let r = role_is a.role b.role p.2 in λ i. record { number = p.0 i; owner = p.1 i; role = r i }

-- another seat's waiter is not this one
other_waiter : (s : Seat) (x v : Waiter) → asks_for s x ≡ false → asks_for s v ≡ true → is_waiter x v ≡ false
other_waiter s x (waits.Batch id n) other own = absurd (grind (arith, own))
other_waiter s (waits.Batch id n) (waits.Seat job) other own = refl
other_waiter s (waits.Seat a) (waits.Seat b) other own = bool_off (is_job a b) (λ h. let e : a.seat ≡ b.seat = seat_is a.seat b.seat (and_left (is_seat a.seat b.seat) (a.number == b.number) h) in let k : is_seat s a.seat ≡ true = ap (is_seat s) e ∙ own in grind (arith, k, other))

-- ---- waiting lists

enqueue_else : (s : Seat) (w : Waiting) (ws : List Waiting) → asks_for s w.waiter ≡ false → waits_at s (enqueue w ws) ≡ waits_at s ws
enqueue_else s w [] h = rw h
enqueue_else s w (v ∷ vs) h = grind (arith, h, enqueue_else s w vs h)

enqueue_first : (s : Seat) (w : Waiting) (ws : List Waiting) → asks_for s w.waiter ≡ true → waits_at s ws ≡ [] → waits_at s (enqueue w ws) ≡ w ∷ []
enqueue_first s w [] h none = rw h
enqueue_first s w (v ∷ vs) h none = grind (arith, h, none, enqueue_first s w vs h)

pub dequeue_else : (s : Seat) (x : Waiter) (ws : List Waiting) → asks_for s x ≡ false → waits_at s (dequeue x ws) ≡ waits_at s ws
dequeue_else s x ws other = filter_others (λ (w : Waiting). asks_for s w.waiter) (λ (w : Waiting). not (is_waiter x w.waiter)) (λ w own. ap not (other_waiter s x w.waiter other own)) ws

dequeue_own : (s : Seat) (x : Waiter) (ws : List Waiting) → waits_at s (dequeue x ws) ≡ dequeue x (waits_at s ws)
dequeue_own s x ws = filter_filter (λ (w : Waiting). asks_for s w.waiter) (λ (w : Waiting). not (is_waiter x w.waiter)) ws

gone : (x : Waiter) (w : Waiting) → w.waiter ≡ x → dequeue x (w ∷ []) ≡ []
gone x w is = ap (λ (b : Bool). cond (not b) (w ∷ []) []) (ap (is_waiter x) is ∙ waiter_refl x)

-- ---- placing

pub job_seat : (s : Seat) (node : NodeNo) (x : Waiter) (jobs : List Job) → jobs_for s (placed_jobs record { waiter = x; node = node } jobs) ≡ placed_jobs record { waiter = x; node = node } (jobs_for s jobs)
job_seat s node (waits.Seat job) jobs = filter_changed (λ (j : Job). is_seat s j.seat) (λ j. is_job job (id_of j)) (with_place node) (λ j. refl) jobs
job_seat s node (waits.Batch id n) jobs = refl

pub job_else : (s : Seat) (node : NodeNo) (x : Waiter) (jobs : List Job) → asks_for s x ≡ false → jobs_for s (placed_jobs record { waiter = x; node = node } jobs) ≡ jobs_for s jobs
job_else s node (waits.Seat job) jobs other = filter_changed_others (λ (j : Job). is_seat s j.seat) (λ j. is_job job (id_of j)) (with_place node) (λ j. refl) (λ j own. other_waiter s (waits.Seat job) (waits.Seat (id_of j)) other own) jobs
job_else s node (waits.Batch id n) jobs other = refl

put_at : (node : NodeNo) (x : Waiter) (j : Job) → x ≡ waits.Seat (id_of j) → placed_jobs record { waiter = x; node = node } (j ∷ []) ≡ with_place node j ∷ []
put_at node x j is = ap (λ (y : Waiter). placed_jobs record { waiter = y; node = node } (j ∷ [])) is ∙ ap (λ (b : Bool). cond b (with_place node j) j ∷ []) (waiter_refl (waits.Seat (id_of j)))

placed_stands : (jobs : List Job) (ws : List Waiting) (ps : List Placed) → SeatStands jobs ws → Comes ws ps → SeatStands (each placed_jobs ps jobs) (each (λ (p : Placed). dequeue p.waiter) ps ws)
placed_stands jobs [] ps h c = subst (λ (x : List Placed). SeatStands (each placed_jobs x jobs) (each (λ (p : Placed). dequeue p.waiter) x [])) (sym c) h
placed_stands [] (w ∷ ws) ps h c = absurd h
placed_stands (j ∷ []) (w ∷ []) ps h c = elim c [
  | inl none ↦ subst (λ (x : List Placed). SeatStands (each placed_jobs x (j ∷ [])) (each (λ (p : Placed). dequeue p.waiter) x (w ∷ []))) (sym none) h
  | inr some ↦ subst (λ (x : List Placed). SeatStands (each placed_jobs x (j ∷ [])) (each (λ (p : Placed). dequeue p.waiter) x (w ∷ []))) (sym some.1)
      (subst (λ (ws : List Waiting). SeatStands (placed_jobs record { waiter = w.waiter; node = some.0 } (j ∷ [])) ws) (sym (gone w.waiter w refl)) (subst (λ (js : List Job). SeatStands js []) (sym (put_at some.0 w.waiter j h.named)) refl))
]
placed_stands (j ∷ []) (w ∷ v ∷ ws) ps h c = absurd h
placed_stands (j ∷ k ∷ js) (w ∷ ws) ps h c = absurd h

pub placing_is_seated : (c : Cluster) → IsSeated c → IsSeated (settled (place c) c)
placing_is_seated c seated s =
    let ps = place c in
    let e = each_part placed_jobs (λ p. asks_for s p.waiter) (jobs_for s) (λ p jobs own. job_seat s p.node p.waiter jobs) (λ p jobs other. job_else s p.node p.waiter jobs other) ps c.jobs in
    let f = each_part (λ (p : Placed). dequeue p.waiter) (λ p. asks_for s p.waiter) (waits_at s) (λ p ws own. dequeue_own s p.waiter ws) (λ p ws other. dequeue_else s p.waiter ws other) ps c.waiting in
    subst (λ (x : List Job). SeatStands x (waits_at s (all_dequeued ps c.waiting))) (sym e)
    (subst (λ (x : List Waiting). SeatStands (each placed_jobs (filter (λ p. asks_for s p.waiter) ps) (jobs_for s c.jobs)) x) (sym f)
    (placed_stands (jobs_for s c.jobs) (waits_at s c.waiting) (filter (λ p. asks_for s p.waiter) ps) (seated s) (comes_of (asks_for s) c.waiting (lines c))))

-- ---- what a command does to one seat

pub stands_as : (js ks : List Job) (ws vs : List Waiting) → js ≡ ks → ws ≡ vs → SeatStands ks vs → SeatStands js ws
stands_as js ks ws vs e f h = subst (λ (x : List Job). SeatStands x ws) (sym e) (subst (SeatStands ks) (sym f) h)

none_waits : (ws : List Waiting) → SeatStands [] ws → ws ≡ []
none_waits [] h = refl
none_waits (w ∷ ws) h = absurd h

none_is : {A : Type 0} (x : Option A) → is_none x ≡ true → x ≡ None
none_is None h = refl
none_is (Some x) h = absurd (grind (arith, h))

pub no_job : (s : Seat) (jobs : List Job) → unless (is_none (job_of s jobs)) STATE ≡ None → jobs_for s jobs ≡ []
no_job s jobs h = none_filter (λ job. is_seat s job.seat) jobs (none_is (job_of s jobs) (unless_none (is_none (job_of s jobs)) STATE h))

new_stands : (c : Cluster) (seat s : Seat) (priority : ℤ) (b : Bool) → is_seat s seat ≡ b → jobs_for seat c.jobs ≡ [] → IsSeated c → SeatStands (jobs_for s (jobs_after c.given seat (asks.Job priority) c.jobs)) (waits_at s (waiting_after c seat (asks.Job priority)))
new_stands c seat s priority true own none seated =
    let e = seat_is s seat own in
    let here : jobs_for s c.jobs ≡ [] = ap (λ (x : Seat). jobs_for x c.jobs) e ∙ none in
    let w : Waiting = record { waiter = waits.Seat record { seat = seat; number = jobs_given seat c.given + 1 }; priority = priority } in
    let nothing : waits_at s c.waiting ≡ [] = none_waits (waits_at s c.waiting) (subst (λ (x : List Job). SeatStands x (waits_at s c.waiting)) here (seated s)) in
    stands_as _ (new_job c.given seat priority ∷ []) _ (w ∷ []) (push_own (λ (j : Job). is_seat s j.seat) (new_job c.given seat priority) own c.jobs ∙ ap (λ (x : List Job). x ++ new_job c.given seat priority ∷ []) here) (enqueue_first s w c.waiting own nothing) (record { named = refl; nowhere = refl; held = refl })
new_stands c seat s priority false other none seated =
    let w : Waiting = record { waiter = waits.Seat record { seat = seat; number = jobs_given seat c.given + 1 }; priority = priority } in
    stands_as _ (jobs_for s c.jobs) _ (waits_at s c.waiting) (push_other (λ (j : Job). is_seat s j.seat) (new_job c.given seat priority) other c.jobs) (enqueue_else s w c.waiting other) (seated s)

-- no job of the seat is left
left_none : (s : Seat) (jobs : List Job) → jobs_for s (without_job s jobs) ≡ []
left_none s [] = refl
left_none s (j ∷ jobs) = grind (arith, left_none s jobs)

pub other_seat : (s seat x : Seat) → is_seat s seat ≡ false → is_seat s x ≡ true → is_seat seat x ≡ false
other_seat s seat x other own = bool_off (is_seat seat x) (λ h. let e = seat_is seat x h in let k : is_seat s seat ≡ true = ap (is_seat s) e ∙ own in grind (arith, k, other))

left_else : (seat s : Seat) (jobs : List Job) → is_seat s seat ≡ false → jobs_for s (without_job seat jobs) ≡ jobs_for s jobs
left_else seat s jobs other = filter_others (λ (j : Job). is_seat s j.seat) (λ (j : Job). not (is_seat seat j.seat)) (λ j own. ap not (other_seat s seat j.seat other own)) jobs

pub found_seat : (seat : Seat) (job : Job) (jobs : List Job) → job_of seat jobs ≡ Some job → seat ≡ job.seat
found_seat seat job jobs h = seat_is seat job.seat (found_passes (λ (j : Job). is_seat seat j.seat) jobs job h)

-- what waits of a seat that leaves its job
leave_waits : (jobs : List Job) (ws : List Waiting) (job : Job) → head_of jobs ≡ Some job → SeatStands jobs ws → dequeue (waits.Seat (id_of job)) ws ≡ []
leave_waits [] ws job is h = absurd (grind (arith, is))
leave_waits (j ∷ []) [] job is h = refl
leave_waits (j ∷ []) (w ∷ []) job is h = let e : j ≡ job = some_same j job is in gone (waits.Seat (id_of job)) w (h.named ∙ ap (λ (x : Job). waits.Seat (id_of x)) e)
leave_waits (j ∷ []) (w ∷ v ∷ ws) job is h = absurd h
leave_waits (j ∷ k ∷ js) ws job is h = absurd h

leave_by : (c : Cluster) (seat s : Seat) (b : Bool) (found : Option Job) → is_seat s seat ≡ b → job_of seat c.jobs ≡ found → IsSeated c
    → SeatStands (jobs_for s (without_job seat c.jobs)) (waits_at s (elim found as (λ _. List Waiting) [ None ↦ c.waiting | Some job ↦ dequeue (waits.Seat (id_of job)) c.waiting ]))
leave_by c seat s false None other is seated = stands_as _ (jobs_for s c.jobs) _ (waits_at s c.waiting) (left_else seat s c.jobs other) refl (seated s)
leave_by c seat s false (Some job) other is seated = stands_as _ (jobs_for s c.jobs) _ (waits_at s c.waiting) (left_else seat s c.jobs other) (dequeue_else s (waits.Seat (id_of job)) c.waiting (ap (is_seat s) (sym (found_seat seat job c.jobs is)) ∙ other)) (seated s)
leave_by c seat s true None own is seated =
    let e = seat_is s seat own in
    let none : jobs_for s c.jobs ≡ [] = ap (λ (x : Seat). jobs_for x c.jobs) e ∙ none_filter (λ job. is_seat seat job.seat) c.jobs is in
    stands_as _ [] _ [] (ap (λ (x : Seat). jobs_for s (without_job x c.jobs)) (sym e) ∙ left_none s c.jobs) (none_waits (waits_at s c.waiting) (subst (λ (x : List Job). SeatStands x (waits_at s c.waiting)) none (seated s))) tt
leave_by c seat s true (Some job) own is seated =
    let e = seat_is s seat own in
    let first : head_of (jobs_for s c.jobs) ≡ Some job = sym (find_head (λ (j : Job). is_seat s j.seat) c.jobs) ∙ (ap (λ (x : Seat). job_of x c.jobs) e ∙ is) in
    stands_as _ [] _ [] (ap (λ (x : Seat). jobs_for s (without_job x c.jobs)) (sym e) ∙ left_none s c.jobs) (dequeue_own s (waits.Seat (id_of job)) c.waiting ∙ leave_waits (jobs_for s c.jobs) (waits_at s c.waiting) job first (seated s)) tt

-- a lost job does not wait
poll_waits : (jobs : List Job) (ws : List Waiting) → is_lost (head_of jobs) ≡ true → SeatStands jobs ws → ws ≡ []
poll_waits [] ws is h = absurd (grind (arith, is))
poll_waits (j ∷ []) [] is h = refl
poll_waits (j ∷ []) (w ∷ []) is h = let k : j.lost ≡ false = h.held in absurd (grind (arith, is, k))
poll_waits (j ∷ []) (w ∷ v ∷ ws) is h = absurd h
poll_waits (j ∷ k ∷ js) ws is h = absurd h

poll_by : (c : Cluster) (seat s : Seat) (b l : Bool) → is_seat s seat ≡ b → is_lost (job_of seat c.jobs) ≡ l → IsSeated c → SeatStands (jobs_for s (cond l (without_job seat c.jobs) c.jobs)) (waits_at s c.waiting)
poll_by c seat s b false own lost seated = seated s
poll_by c seat s false true other lost seated = stands_as _ (jobs_for s c.jobs) _ (waits_at s c.waiting) (left_else seat s c.jobs other) refl (seated s)
poll_by c seat s true true own lost seated =
    let e = seat_is s seat own in
    let first : is_lost (head_of (jobs_for s c.jobs)) ≡ true = ap is_lost (sym (find_head (λ (j : Job). is_seat s j.seat) c.jobs) ∙ ap (λ (x : Seat). job_of x c.jobs) e) ∙ lost in
    stands_as _ [] _ [] (ap (λ (x : Seat). jobs_for s (without_job x c.jobs)) (sym e) ∙ left_none s c.jobs) (poll_waits (jobs_for s c.jobs) (waits_at s c.waiting) first (seated s)) tt

changed_node : (f : Job → Job) → ((j : Job) → (f j).node ≡ j.node) → (j : Job) (b : Bool) → is_some j.node ≡ true → is_some (cond b (f j) j).node ≡ true
changed_node f at j true h = ap is_some (at j) ∙ h
changed_node f at j false h = h

changed_free : (test : Job → Bool) (f : Job → Job) → ((j : Job) → id_of (f j) ≡ id_of j) → ((j : Job) → (f j).node ≡ j.node) → ((j : Job) → j.node ≡ None → test j ≡ true → (f j).lost ≡ j.lost) → (j : Job) (w : Waiting) (b : Bool) → test j ≡ b → IsFree j w → IsFree (cond b (f j) j) w
changed_free test f named at held j w true is h = record { named = h.named ∙ ap (λ (i : JobId). waits.Seat i) (sym (named j)); nowhere = at j ∙ h.nowhere; held = held j h.nowhere is ∙ h.held }
changed_free test f named at held j w false is h = h

-- a change that leaves name and node, and spares what waits
changed_stands : (test : Job → Bool) (f : Job → Job) → ((j : Job) → id_of (f j) ≡ id_of j) → ((j : Job) → (f j).node ≡ j.node) → ((j : Job) → j.node ≡ None → test j ≡ true → (f j).lost ≡ j.lost) → (jobs : List Job) (ws : List Waiting) → SeatStands jobs ws → SeatStands (changed test f jobs) ws
changed_stands test f named at held [] ws h = h
changed_stands test f named at held (j ∷ []) [] h = changed_node f at j (test j) h
changed_stands test f named at held (j ∷ []) (w ∷ []) h = changed_free test f named at held j w (test j) refl h
changed_stands test f named at held (j ∷ []) (w ∷ v ∷ ws) h = absurd h
changed_stands test f named at held (j ∷ k ∷ js) ws h = absurd h

abbrev lose : Job → Job
lose job = record job { lost = true }

abbrev mark : Job → Job
mark job = record job { marked = true }

nowhere_runs : (node : NodeNo) (place : Option NodeNo) (lost : Bool) → place ≡ None → (is_at node place && not lost) ≡ true → lost ≡ true
nowhere_runs node None lost h k = absurd (grind (arith, k))
nowhere_runs node (Some p) lost h k = absurd (grind (arith, h))

fail_stands : (c : Cluster) (node : NodeNo) (s : Seat) → IsSeated c → SeatStands (jobs_for s (lost_jobs node c.jobs)) (waits_at s c.waiting)
fail_stands c node s seated = stands_as _ (changed (runs_at node) lose (jobs_for s c.jobs)) _ (waits_at s c.waiting) (filter_changed (λ (j : Job). is_seat s j.seat) (runs_at node) lose (λ j. refl) c.jobs) refl
    (changed_stands (runs_at node) lose (λ j. refl) (λ j. refl) (λ j nowhere is. sym (nowhere_runs node j.node j.lost nowhere is)) (jobs_for s c.jobs) (waits_at s c.waiting) (seated s))

mark_stands : (c : Cluster) (found : Option Job) (s : Seat) → IsSeated c → SeatStands (jobs_for s (marked_jobs found c.jobs)) (waits_at s c.waiting)
mark_stands c None s seated = seated s
mark_stands c (Some job) s seated = stands_as _ (changed (λ (j : Job). is_job (id_of job) (id_of j)) mark (jobs_for s c.jobs)) _ (waits_at s c.waiting) (filter_changed (λ (j : Job). is_seat s j.seat) (λ (j : Job). is_job (id_of job) (id_of j)) mark (λ j. refl) c.jobs) refl
    (changed_stands (λ (j : Job). is_job (id_of job) (id_of j)) mark (λ j. refl) (λ j. refl) (λ j nowhere is. refl) (jobs_for s c.jobs) (waits_at s c.waiting) (seated s))

pub done_is_seated : (k : Site) (c : Cluster) (seat : Seat) (ask : Ask) → state_refusal c.jobs seat ask ≡ None → IsSeated c → IsSeated (done k c seat ask)
done_is_seated k c seat (asks.Job priority) h seated s = new_stands c seat s priority (is_seat s seat) refl (no_job seat c.jobs h) seated
done_is_seated k c seat asks.Poll h seated s = poll_by c seat s (is_seat s seat) (is_lost (job_of seat c.jobs)) refl refl seated
done_is_seated k c seat asks.Leave h seated s = leave_by c seat s (is_seat s seat) (job_of seat c.jobs) refl refl seated
done_is_seated k c seat (asks.Create body) h seated s = stands_as _ (jobs_for s c.jobs) _ (waits_at s c.waiting) refl (enqueue_else s _ c.waiting refl) (seated s)
done_is_seated k c seat (asks.Abort id) h seated s = stands_as _ (jobs_for s c.jobs) _ (waits_at s c.waiting) refl (dequeue_else s (waits.Batch id (attempt_in (row_of id c.table))) c.waiting refl) (seated s)
done_is_seated k c seat (asks.Retry id) h seated s = stands_as _ (jobs_for s c.jobs) _ (waits_at s c.waiting) refl (enqueue_else s _ c.waiting refl) (seated s)
done_is_seated k c seat (asks.Fail node) h seated s = fail_stands c node s seated
done_is_seated k c seat (asks.AbortJob number own) h seated s = mark_stands c (marked_job c.jobs number own) s seated
done_is_seated k c seat ask h seated s = seated s

-- ---- an opened cluster, and what ran

waiting_else : (s : Seat) (rows : List BatchRow) (ws : List Waiting) → waits_at s (all_waiting rows ws) ≡ waits_at s ws
waiting_else s [] ws = refl
waiting_else s (row ∷ rows) ws = waiting_else s rows (enqueue record { waiter = waits.Batch row.id row.attempt; priority = row.body.params.priority } ws) ∙ enqueue_else s record { waiter = waits.Batch row.id row.attempt; priority = row.body.params.priority } ws refl

pub mounted_is_seated : (k : Site) (t : Table) (end : ℕ) → IsSeated (mounted k t end)
mounted_is_seated k t end = (λ s. stands_as [] [] _ [] refl (waiting_else s (by_id (filter is_going_on t.rows)) []) tt)

none_placed : (jobs : List Job) (ws : List Waiting) (ps : List Placed) (j : Job) → jobs ≡ j ∷ [] → is_some j.node ≡ true → SeatStands jobs ws → Comes ws ps → ps ≡ []
none_placed jobs [] ps j is runs h c = c
none_placed [] (w ∷ ws) ps j is runs h c = absurd h
none_placed (i ∷ []) (w ∷ []) ps j is runs h c = let e : i ≡ j = cc in let k : is_some j.node ≡ false = ap is_some (ap (λ (x : Job). x.node) (sym e) ∙ h.nowhere) in absurd (grind (arith, k, runs))
none_placed (i ∷ []) (w ∷ v ∷ ws) ps j is runs h c = absurd h
none_placed (i ∷ k ∷ js) (w ∷ ws) ps j is runs h c = absurd h

pub job_stays : (c : Cluster) (s : Seat) (j : Job) → IsSeated c → jobs_for s c.jobs ≡ j ∷ [] → is_some j.node ≡ true → jobs_for s (settled (place c) c).jobs ≡ j ∷ []
job_stays c s j seated is runs =
    let ps = place c in
    let none = none_placed (jobs_for s c.jobs) (waits_at s c.waiting) (filter (λ p. asks_for s p.waiter) ps) j is runs (seated s) (comes_of (asks_for s) c.waiting (lines c)) in
    each_part placed_jobs (λ p. asks_for s p.waiter) (jobs_for s) (λ p jobs own. job_seat s p.node p.waiter jobs) (λ p jobs other. job_else s p.node p.waiter jobs other) ps c.jobs
    ∙ (ap (λ (x : List Placed). each placed_jobs x (jobs_for s c.jobs)) none ∙ is)
