-- What has a place keeps it over a whole step.
use Rattle.std.proofs.Common.{◌≡◌, inl, inr, refl, sym, ap, ◌∙◌, subst, ℕ, ℤ, Bool, true, false, not, List, [], ◌∷◌, ◌++◌, Option, Some, None, cond, arith}
use Rattle.std.specs.Prelude.{◌⊎◌, filter, if◌then◌else◌, is_some, nat_le}
use Rattle.base_names.specs.declared.id.BatchId.{BatchId}
use Rattle.base_names.specs.declared.node.NodeNo.{NodeNo}
use Rattle.base_names.specs.declared.node.Placed.{Placed}
use Rattle.base_names.specs.declared.refusal.Refusal.{Refusal}
use Rattle.base_names.specs.declared.seat.Seat.{Seat}
use Rattle.model_data.specs.declared.batch.BatchResult.{BatchResult}
use Rattle.table_defs.specs.Lists.{changed}
use Rattle.table_defs.specs.Names.{is_attempt, is_id}
use Rattle.table_defs.specs.Table.{row_of}
use Rattle.table_defs.proofs.Lists.{filter_changed, filter_filter, push_other}
use Rattle.table_defs.proofs.Names.{and_off, not_both}
use Rattle.cluster_defs.specs.Answers.{poll_reply, whole_reply}
use Rattle.cluster_defs.specs.Appended.{attempt_in}
use Rattle.cluster_defs.specs.Asks as asks
use Rattle.cluster_defs.specs.Asks.{Ask}
use Rattle.cluster_defs.specs.Cluster.{Cluster, Given, Job, Running, id_of, is_at, job_of, runs_at}
use Rattle.cluster_defs.specs.Deeds.{Asked, Deed, Faults, Finished, Left, Took}
use Rattle.cluster_defs.specs.Effects.{done, is_lost, jobs_after, marked_jobs, new_job, placed_after, without_job}
use Rattle.cluster_defs.specs.Entries as answers
use Rattle.cluster_defs.specs.Placement.{place, settled}
use Rattle.cluster_defs.specs.Refusals.{ask_refusal, commands_refusal, marked_job, state_refusal}
use Rattle.cluster_defs.specs.Replies as tells
use Rattle.cluster_defs.specs.Site.{Site}
use Rattle.cluster_defs.specs.Step.{asked_with, count_reply, step, still_open, with_result, with_returned, with_taken, within_limit}
use Rattle.cluster_defs.specs.Waiters.{is_job, is_node, is_seat}
use Rattle.cluster_laws.specs.Places.{IsIn, new_attempts}
use Rattle.cluster_laws.specs.Seated.{IsSeated, jobs_for}
use Rattle.cluster_laws.specs.Staying.{RunsOn, ends_attempt, ends_job}
use Rattle.cluster_laws.proofs.Lists.{find_head, head_of}
use Rattle.cluster_laws.proofs.Allowed.{attempts_stay}
use Rattle.cluster_laws.proofs.Seated.{done_is_seated, found_seat, job_stays, no_job, seat_is}
use Rattle.cluster_laws.proofs.Settling.{result_is_seated, state_from}

-- ---- what a command does to a job that has a node

one_kept : (j : Job) (b : Bool) → b ≡ false → cond (not b) (j ∷ []) [] ≡ j ∷ []
one_kept j true h = absurd (grind (arith, h))
one_kept j false h = refl

without_stays : (s seat : Seat) (jobs : List Job) (j : Job) → jobs_for s jobs ≡ j ∷ [] → is_seat seat j.seat ≡ false → RunsOn j (jobs_for s (without_job seat jobs))
without_stays s seat jobs j is other = inl (filter_filter (λ (x : Job). is_seat s x.seat) (λ (x : Job). not (is_seat seat x.seat)) jobs ∙ (ap (filter (λ (x : Job). not (is_seat seat x.seat))) is ∙ one_kept j (is_seat seat j.seat) other))

changed_stays : (s : Seat) (test : Job → Bool) (f : Job → Job) (jobs : List Job) (j : Job) → ((x : Job) → (f x).seat ≡ x.seat) → jobs_for s jobs ≡ j ∷ [] → RunsOn j ((if test j then f j else j) ∷ []) → RunsOn j (jobs_for s (changed test f jobs))
changed_stays s test f jobs j seats is h = subst (RunsOn j) (sym (filter_changed (λ (x : Job). is_seat s x.seat) test f (λ x. ap (is_seat s) (seats x)) jobs ∙ ap (changed test f) is)) h

some_none : (js : List Job) (j : Job) → js ≡ j ∷ [] → js ≡ [] → ⊥
some_none [] j is none = absurd (grind (arith, is))
some_none (k ∷ js) j is none = absurd (grind (arith, none))

new_by : (s seat : Seat) (given : List Given) (p : ℤ) (jobs : List Job) (j : Job) (b : Bool) → is_seat s seat ≡ b → jobs_for seat jobs ≡ [] → jobs_for s jobs ≡ j ∷ [] → RunsOn j (jobs_for s (jobs ++ new_job given seat p ∷ []))
new_by s seat given p jobs j true same none is = absurd (some_none (jobs_for s jobs) j is (ap (λ (x : Seat). jobs_for x jobs) (seat_is s seat same) ∙ none))
new_by s seat given p jobs j false other none is = inl (push_other (λ (x : Job). is_seat s x.seat) (new_job given seat p) other jobs ∙ is)

-- The seat's own lost job is told as such.
told_at : (j : Job) (seat : Seat) (node : Option NodeNo) (b : Bool) → j.node ≡ node → j.lost ≡ b → b ≡ true → is_some node ≡ true → ends_job j (Asked seat asks.Poll) (answers.Reply (poll_reply (Some j))) ≡ is_seat seat j.seat
told_at j seat None b at lost h runs = absurd (grind (arith, runs))
told_at j seat (Some n) true at lost h runs = rw (lost, at) refl
told_at j seat (Some n) false at lost h runs = absurd (grind (arith, h))

told_lost : (j : Job) (seat : Seat) (found : Option Job) → found ≡ Some j → is_lost found ≡ true → is_some j.node ≡ true → ends_job j (Asked seat asks.Poll) (answers.Reply (poll_reply found)) ≡ is_seat seat j.seat
told_lost j seat found is lost runs = ap (λ (x : Option Job). ends_job j (Asked seat asks.Poll) (answers.Reply (poll_reply x))) is ∙ told_at j seat j.node j.lost refl refl (sym (ap is_lost is) ∙ lost) runs

-- a seat that polls a lost job is another one, where this job goes on
apart_by : (s seat : Seat) (jobs : List Job) (j : Job) (b : Bool) → is_seat seat j.seat ≡ b → jobs_for s jobs ≡ j ∷ [] → is_some j.node ≡ true → ends_job j (Asked seat asks.Poll) (answers.Reply (poll_reply (job_of seat jobs))) ≡ false → is_lost (job_of seat jobs) ≡ true → b ≡ false
apart_by s seat jobs j false is one runs on lost = refl
apart_by s seat jobs j true is one runs on lost =
    let mine : job_of s jobs ≡ Some j = find_head (λ (x : Job). is_seat s x.seat) jobs ∙ ap head_of one in
    let same : seat ≡ s = seat_is seat j.seat is ∙ sym (found_seat s j jobs mine) in
    absurd (not_both is (sym (told_lost j seat (job_of seat jobs) (ap (λ (x : Seat). job_of x jobs) same ∙ mine) lost runs) ∙ on))

poll_by : (s seat : Seat) (jobs : List Job) (j : Job) (lost : Bool) → jobs_for s jobs ≡ j ∷ [] → (lost ≡ true → is_seat seat j.seat ≡ false) → RunsOn j (jobs_for s (if lost then without_job seat jobs else jobs))
poll_by s seat jobs j true is apart = without_stays s seat jobs j is (apart refl)
poll_by s seat jobs j false is apart = inl is

runs_marked : (j : Job) (b : Bool) → RunsOn j ((if b then record j { marked = true } else j) ∷ [])
runs_marked j true = inr refl
runs_marked j false = inl refl

mark_stays : (s : Seat) (found : Option Job) (jobs : List Job) (j : Job) → jobs_for s jobs ≡ j ∷ [] → RunsOn j (jobs_for s (marked_jobs found jobs))
mark_stays s None jobs j is = inl is
mark_stays s (Some job) jobs j is = changed_stays s (λ (x : Job). is_job (id_of job) (id_of x)) (λ (x : Job). record x { marked = true }) jobs j (λ x. refl) is (runs_marked j (is_job (id_of job) (id_of j)))

lost_by : (j : Job) (b : Bool) → b ≡ false → RunsOn j ((if b then record j { lost = true } else j) ∷ [])
lost_by j true h = absurd (grind (arith, h))
lost_by j false h = inl refl

after_stays : (c : Cluster) (ps : List Placed) (s seat : Seat) (ask : Ask) (j : Job) → state_refusal c.jobs seat ask ≡ None → jobs_for s c.jobs ≡ j ∷ [] → is_some j.node ≡ true → ends_job j (Asked seat ask) (answers.Reply (whole_reply c ps seat ask)) ≡ false → RunsOn j (jobs_for s (jobs_after c.given seat ask c.jobs))
after_stays c ps s seat (asks.Job priority) j h is runs on = new_by s seat c.given priority c.jobs j (is_seat s seat) refl (no_job seat c.jobs h) is
after_stays c ps s seat asks.Poll j h is runs on = poll_by s seat c.jobs j (is_lost (job_of seat c.jobs)) is (apart_by s seat c.jobs j (is_seat seat j.seat) refl is runs on)
after_stays c ps s seat asks.Leave j h is runs on = without_stays s seat c.jobs j is on
after_stays c ps s seat (asks.Fail node) j h is runs on = changed_stays s (runs_at node) (λ (x : Job). record x { lost = true }) c.jobs j (λ x. refl) is (lost_by j (runs_at node j) (and_off (is_at node j.node) (not j.lost) on))
after_stays c ps s seat (asks.AbortJob number own) j h is runs on = mark_stays s (marked_job c.jobs number own) c.jobs j is
after_stays c ps s seat ask j h is runs on = inl is

-- ---- and what placing does to it

placing_stays : (c : Cluster) (s : Seat) (j : Job) → RunsOn j (jobs_for s c.jobs) → is_some j.node ≡ true → IsSeated c → RunsOn j (jobs_for s (settled (place c) c).jobs)
placing_stays c s j (inl is) runs seated = inl (job_stays c s j seated is runs)
placing_stays c s j (inr is) runs seated = inr (job_stays c s (record j { marked = true }) seated is runs)

-- ---- what is done to an attempt that runs

in_by : (p : Running → Bool) (r y : Running) (ys : List Running) (b : Bool) → p y ≡ b → p r ≡ true → (r ≡ y) ⊎ IsIn r ys → (IsIn r ys → IsIn r (filter p ys)) → IsIn r (cond b (y ∷ filter p ys) (filter p ys))
in_by p r y ys true is h (inl e) later = inl e
in_by p r y ys true is h (inr i) later = inr (later i)
in_by p r y ys false is h (inl e) later = absurd (not_both (sym (ap p e) ∙ h) is)
in_by p r y ys false is h (inr i) later = later i

in_kept : (p : Running → Bool) (r : Running) (xs : List Running) → p r ≡ true → IsIn r xs → IsIn r (filter p xs)
in_kept p r [] h i = absurd i
in_kept p r (y ∷ ys) h i = in_by p r y ys (p y) refl h i (in_kept p r ys h)

in_front : (r : Running) (xs ys : List Running) → IsIn r xs → IsIn r (xs ++ ys)
in_front r [] ys i = absurd i
in_front r (x ∷ xs) ys (inl e) = inl e
in_front r (x ∷ xs) ys (inr i) = inr (in_front r xs ys i)

after_placed : (c : Cluster) (ps : List Placed) (seat : Seat) (ask : Ask) (r : Running) → IsIn r c.placed → ends_attempt r (Asked seat ask) (answers.Reply (whole_reply c ps seat ask)) ≡ false → IsIn r (placed_after c.table ask c.placed)
after_placed c ps seat (asks.Abort id) r i on = in_kept (λ x. not (is_attempt id (attempt_in (row_of id c.table)) x.id x.attempt)) r c.placed (ap not (and_off (is_id id r.id) _ on)) i
after_placed c ps seat (asks.Fail node) r i on = in_kept (λ x. not (is_node node x.node)) r c.placed (ap not on) i
after_placed c ps seat ask r i on = i

placing_keeps : (c : Cluster) (r : Running) → IsIn r c.placed → IsIn r (settled (place c) c).placed
placing_keeps c r i = subst (IsIn r) (sym (attempts_stay (place c) c.placed)) (in_front r c.placed (new_attempts (place c)) i)

-- ---- any deed

asked_stays : (k : Site) (c : Cluster) (seat : Seat) (ask : Ask) (f : Faults) (s : Seat) (j : Job) (x0 x : Option Refusal) → ask_refusal k c seat ask f ≡ x → IsSeated c → jobs_for s c.jobs ≡ j ∷ [] → is_some j.node ≡ true
    → ends_job j (Asked seat ask) (within_limit c x0 (asked_with k c seat ask x)).reply ≡ false → RunsOn j (jobs_for s (within_limit c x0 (asked_with k c seat ask x)).next.jobs)
asked_stays k c seat ask f s j (Some r) x h seated is runs on = inl is
asked_stays k c seat ask f s j None (Some r) h seated is runs on = placing_stays (record c { usage = count_reply k c seat ask (tells.Refused r) }) s j (inl is) runs seated
asked_stays k c seat ask f s j None None h seated is runs on = let state = state_from k c seat ask f h in placing_stays (done k c seat ask) s j (after_stays c (place (done k c seat ask)) s seat ask j state is runs on) runs (done_is_seated k c seat ask state seated)

asked_keeps : (k : Site) (c : Cluster) (seat : Seat) (ask : Ask) (r : Running) (x0 x : Option Refusal) → IsIn r c.placed → ends_attempt r (Asked seat ask) (within_limit c x0 (asked_with k c seat ask x)).reply ≡ false → IsIn r (within_limit c x0 (asked_with k c seat ask x)).next.placed
asked_keeps k c seat ask r (Some q) x i on = i
asked_keeps k c seat ask r None (Some q) i on = placing_keeps (record c { usage = count_reply k c seat ask (tells.Refused q) }) r i
asked_keeps k c seat ask r None None i on = placing_keeps (done k c seat ask) r (after_placed c (place (done k c seat ask)) seat ask r i on)

finish_stays : (k : Site) (c : Cluster) (id : BatchId) (n : ℕ) (result : BatchResult) (f : Faults) (s : Seat) (j : Job) (o w : Bool) → still_open n (row_of id c.table) ≡ o → nat_le f.after f.before ≡ w → IsSeated c → jobs_for s c.jobs ≡ j ∷ [] → is_some j.node ≡ true → RunsOn j (jobs_for s (step k c (Finished id n result) f).next.jobs)
finish_stays k c id n result f s j false w h g seated is runs = rw h (placing_stays c s j (inl is) runs seated)
finish_stays k c id n result f s j true true h g seated is runs = rw (h, g) (placing_stays (with_result k c id n result) s j (inl is) runs (result_is_seated k c id n result seated))
finish_stays k c id n result f s j true false h g seated is runs = rw (h, g) (placing_stays (with_returned c id n) s j (inl is) runs seated)

finish_keeps : (k : Site) (c : Cluster) (id : BatchId) (n : ℕ) (result : BatchResult) (f : Faults) (r : Running) (o w : Bool) → still_open n (row_of id c.table) ≡ o → nat_le f.after f.before ≡ w → IsIn r c.placed
    → ends_attempt r (Finished id n result) (step k c (Finished id n result) f).reply ≡ false → IsIn r (step k c (Finished id n result) f).next.placed
finish_keeps k c id n result f r false w h g i = rw h (λ on. placing_keeps c r i)
finish_keeps k c id n result f r true true h g i = rw (h, g) (λ on. placing_keeps (with_result k c id n result) r (in_kept (λ x. not (is_attempt id n x.id x.attempt)) r c.placed (ap not on) i))
finish_keeps k c id n result f r true false h g i = rw (h, g) (λ on. placing_keeps (with_returned c id n) r i)

left_stays : (k : Site) (c : Cluster) (id : BatchId) (n : ℕ) (f : Faults) (s : Seat) (j : Job) (o : Bool) → still_open n (row_of id c.table) ≡ o → IsSeated c → jobs_for s c.jobs ≡ j ∷ [] → is_some j.node ≡ true → RunsOn j (jobs_for s (step k c (Left id n) f).next.jobs)
left_stays k c id n f s j false h seated is runs = rw h (placing_stays c s j (inl is) runs seated)
left_stays k c id n f s j true h seated is runs = rw h (placing_stays (with_returned c id n) s j (inl is) runs seated)

left_keeps : (k : Site) (c : Cluster) (id : BatchId) (n : ℕ) (f : Faults) (r : Running) (o : Bool) → still_open n (row_of id c.table) ≡ o → IsIn r c.placed → IsIn r (step k c (Left id n) f).next.placed
left_keeps k c id n f r false h i = rw h (placing_keeps c r i)
left_keeps k c id n f r true h i = rw h (placing_keeps (with_returned c id n) r i)

-- A job that has a node runs on over each deed that does not end it.
pub step_stays : (k : Site) (c : Cluster) (d : Deed) (f : Faults) (s : Seat) (j : Job) → IsSeated c → jobs_for s c.jobs ≡ j ∷ [] → is_some j.node ≡ true → ends_job j d (step k c d f).reply ≡ false → RunsOn j (jobs_for s (step k c d f).next.jobs)
step_stays k c (Asked seat ask) f s j seated is runs on = asked_stays k c seat ask f s j (commands_refusal k c.usage c.jobs seat ask) (ask_refusal k c seat ask f) refl seated is runs on
step_stays k c (Took worker id n) f s j seated is runs on = placing_stays (with_taken c id n) s j (inl is) runs seated
step_stays k c (Finished id n result) f s j seated is runs on = finish_stays k c id n result f s j (still_open n (row_of id c.table)) (nat_le f.after f.before) refl refl seated is runs
step_stays k c (Left id n) f s j seated is runs on = left_stays k c id n f s j (still_open n (row_of id c.table)) refl seated is runs

-- So does an attempt.
pub step_keeps : (k : Site) (c : Cluster) (d : Deed) (f : Faults) (r : Running) → IsIn r c.placed → ends_attempt r d (step k c d f).reply ≡ false → IsIn r (step k c d f).next.placed
step_keeps k c (Asked seat ask) f r i on = asked_keeps k c seat ask r (commands_refusal k c.usage c.jobs seat ask) (ask_refusal k c seat ask f) i on
step_keeps k c (Took worker id n) f r i on = placing_keeps (with_taken c id n) r i
step_keeps k c (Finished id n result) f r i on = finish_keeps k c id n result f r (still_open n (row_of id c.table)) (nat_le f.after f.before) refl refl i on
step_keeps k c (Left id n) f r i on = left_keeps k c id n f r (still_open n (row_of id c.table)) refl i
