-- What is counted: entries, charges, and the jobs that a seat was given.
use Rattle.std.proofs.Common.{◌≡◌, refl, sym, ap, ◌∙◌, subst, ℕ, ◌+◌, ◌≤◌, ◌||◌, Bool, true, false, not, List, [], ◌∷◌, ◌++◌, length, Option, Some, None, arith}
use Rattle.std.specs.Prelude.{filter, if◌then◌else◌, nat_le}
use Rattle.std.proofs.lemmas.Bool.Decides.{nat_tests}
use Rattle.std.proofs.lemmas.List.{length-append, length-map}
use Rattle.base_names.specs.declared.id.BatchId.{BatchId}
use Rattle.base_names.specs.declared.node.NodeNo.{NodeNo}
use Rattle.base_names.specs.declared.node.Placed.{Placed}
use Rattle.base_names.specs.declared.node.Waiter.{Waiter}
use Rattle.base_names.specs.declared.node.Waiter.TheVariants as waits
use Rattle.base_names.specs.declared.refusal.OwnerLimit.TheVariants.{Commands}
use Rattle.base_names.specs.declared.refusal.Refusal.{Refusal}
use Rattle.base_names.specs.declared.refusal.Refusal.TheVariants.{OWNERFULL}
use Rattle.base_names.specs.declared.seat.Seat.{Seat}
use Rattle.model_data.specs.declared.batch.BatchResult.{BatchResult}
use Rattle.table_defs.specs.Lists.{changed, each, put}
use Rattle.table_defs.specs.Names.{Owner, is_owner}
use Rattle.table_defs.specs.Table.{row_of}
use Rattle.table_defs.proofs.Lists.{fewer, push_own, put_other}
use Rattle.table_defs.proofs.Names.{owner_is}
use Rattle.table_defs.proofs.Rows.{unless_none}
use Rattle.cluster_defs.specs.Answers.{whole_reply}
use Rattle.cluster_defs.specs.Asks as asks
use Rattle.cluster_defs.specs.Asks.{Ask}
use Rattle.cluster_defs.specs.Charges.{charge, counted}
use Rattle.cluster_defs.specs.Cluster.{Cluster, Given, Job, Usage, given_of, id_of, job_of, jobs_given, runs_at, usage_of}
use Rattle.cluster_defs.specs.Deeds.{Asked, Deed, Faults, Finished, Left, Took}
use Rattle.cluster_defs.specs.Effects.{done, given_after, is_lost, jobs_after, marked_jobs, new_job, without_job}
use Rattle.cluster_defs.specs.Legal.{MayHappen}
use Rattle.cluster_defs.specs.Placement.{place, placed_jobs, settled, with_place}
use Rattle.cluster_defs.specs.Refusals.{ask_refusal, commands_refusal, is_free, marked_job, most_charges}
use Rattle.cluster_defs.specs.Replies as tells
use Rattle.cluster_defs.specs.Replies.{Reply}
use Rattle.cluster_defs.specs.Site.{Site}
use Rattle.cluster_defs.specs.Step.{asked_with, count_reply, step, still_open, with_result, with_returned, with_taken, within_limit}
use Rattle.cluster_defs.specs.Waiters.{is_job, is_seat}
use Rattle.cluster_laws.specs.Bounds.{CanBeWritten, IsWritable, IsWritten, asks_for_job, most_charge}
use Rattle.cluster_laws.proofs.Charged.{IsLight, answer_charged, refused_charged}
use Rattle.cluster_laws.proofs.Counts.{counted_has, finish_within, left_within, none_of_both, not_full, put_else, put_same}
use Rattle.cluster_laws.proofs.Lists.{find_head, head_of}
use Rattle.cluster_laws.proofs.Seated.{other_seat, seat_is}
use Rattle.cluster_laws.proofs.Waiters.{seat_refl}

-- ---- how many jobs there are

placed_long : (w : Waiter) (node : NodeNo) (jobs : List Job) → length (placed_jobs record { waiter = w; node = node } jobs) ≡ length jobs
placed_long (waits.Seat job) node jobs = length-map jobs (λ j. if is_job job (id_of j) then with_place node j else j)
placed_long (waits.Batch id n) node jobs = refl

pub all_long : (ps : List Placed) (jobs : List Job) → length (each placed_jobs ps jobs) ≡ length jobs
all_long [] jobs = refl
all_long (p ∷ ps) jobs = all_long ps (placed_jobs p jobs) ∙ placed_long p.waiter p.node jobs

changed_long : (test : Job → Bool) (f : Job → Job) (jobs : List Job) → length (changed test f jobs) ≡ length jobs
changed_long test f jobs = length-map jobs (λ j. if test j then f j else j)

-- how many jobs a deed asks for
abbrev pub asked_in : Deed → ℕ
asked_in d = if asks_for_job d then 1 else 0

polled : (lost : Bool) (seat : Seat) (jobs : List Job) → length (if lost then without_job seat jobs else jobs) ≤ length jobs + 0
polled true seat jobs = let h = fewer (λ (j : Job). not (is_seat seat j.seat)) jobs in omega (arith, h)
polled false seat jobs = omega arith

marked_long : (found : Option Job) (jobs : List Job) → length (marked_jobs found jobs) ≤ length jobs + 0
marked_long None jobs = omega arith
marked_long (Some job) jobs = let h = changed_long (λ (j : Job). is_job (id_of job) (id_of j)) (λ (j : Job). record j { marked = true }) jobs in omega (arith, h)

one_job : (given : List Given) (seat : Seat) (ask : Ask) (jobs : List Job) → length (jobs_after given seat ask jobs) ≤ length jobs + asked_in (Asked seat ask)
one_job given seat (asks.Job priority) jobs = let h = length-append jobs (new_job given seat priority ∷ []) in omega (arith, h)
one_job given seat asks.Poll jobs = polled (is_lost (job_of seat jobs)) seat jobs
one_job given seat asks.Leave jobs = let h = fewer (λ (j : Job). not (is_seat seat j.seat)) jobs in omega (arith, h)
one_job given seat (asks.Fail node) jobs = let h = changed_long (runs_at node) (λ (j : Job). record j { lost = true }) jobs in omega (arith, h)
one_job given seat (asks.AbortJob number own) jobs = marked_long (marked_job jobs number own) jobs
one_job given seat ask jobs = omega arith

settled_long : (c : Cluster) (n : ℕ) → length c.jobs ≤ n → length (settled (place c) c).jobs ≤ n
settled_long c n h = let e = all_long (place c) c.jobs in omega (arith, e, h)

more : (m n : ℕ) → m ≤ n → m ≤ n + 1
more m n h = omega (arith, h)

no_fewer : (m n : ℕ) → m ≤ m + n
no_fewer m n = omega arith

asked_jobs : (k : Site) (c : Cluster) (seat : Seat) (ask : Ask) (x0 x : Option Refusal) → length (within_limit c x0 (asked_with k c seat ask x)).next.jobs ≤ length c.jobs + asked_in (Asked seat ask)
asked_jobs k c seat ask (Some r) x = no_fewer _ _
asked_jobs k c seat ask None (Some r) = settled_long (record c { usage = count_reply k c seat ask (tells.Refused r) }) _ (no_fewer _ _)
asked_jobs k c seat ask None None = settled_long (done k c seat ask) _ (one_job c.given seat ask c.jobs)

finish_jobs : (k : Site) (c : Cluster) (id : BatchId) (n : ℕ) (result : BatchResult) (f : Faults) (o w : Bool) → still_open n (row_of id c.table) ≡ o → nat_le f.after f.before ≡ w → length (step k c (Finished id n result) f).next.jobs ≤ length c.jobs + 0
finish_jobs k c id n result f false w h g = rw h (settled_long c _ (omega arith))
finish_jobs k c id n result f true true h g = rw (h, g) (settled_long (with_result k c id n result) _ (omega arith))
finish_jobs k c id n result f true false h g = rw (h, g) (settled_long (with_returned c id n) _ (omega arith))

left_jobs : (k : Site) (c : Cluster) (id : BatchId) (n : ℕ) (f : Faults) (o : Bool) → still_open n (row_of id c.table) ≡ o → length (step k c (Left id n) f).next.jobs ≤ length c.jobs + 0
left_jobs k c id n f false h = rw h (settled_long c _ (omega arith))
left_jobs k c id n f true h = rw h (settled_long (with_returned c id n) _ (omega arith))

pub step_jobs : (k : Site) (c : Cluster) (d : Deed) (f : Faults) → length (step k c d f).next.jobs ≤ length c.jobs + asked_in d
step_jobs k c (Asked seat ask) f = asked_jobs k c seat ask (commands_refusal k c.usage c.jobs seat ask) (ask_refusal k c seat ask f)
step_jobs k c (Took worker id n) f = settled_long (with_taken c id n) _ (omega arith)
step_jobs k c (Finished id n result) f = finish_jobs k c id n result f (still_open n (row_of id c.table)) (nat_le f.after f.before) refl refl
step_jobs k c (Left id n) f = left_jobs k c id n f (still_open n (row_of id c.table)) refl

-- ---- the jobs that a seat was given

given_same : (s : Seat) (x : Given) (all : List Given) → x.seat ≡ s → jobs_given s (put (λ g. is_seat s g.seat) x all) ≡ x.jobs
given_same s x all is =
    ap given_of (find_head (λ (g : Given). is_seat s g.seat) (put (λ g. is_seat s g.seat) x all)
    ∙ ap head_of (push_own (λ (g : Given). is_seat s g.seat) x (ap (is_seat s) is ∙ seat_refl s) (filter (λ g. not (is_seat s g.seat)) all) ∙ ap (λ (xs : List Given). xs ++ x ∷ []) (none_of_both (λ (g : Given). is_seat s g.seat) all)))

given_else : (s seat : Seat) (x : Given) (all : List Given) → x.seat ≡ seat → is_seat s seat ≡ false → jobs_given s (put (λ g. is_seat seat g.seat) x all) ≡ jobs_given s all
given_else s seat x all is other =
    ap given_of (find_head (λ (g : Given). is_seat s g.seat) (put (λ g. is_seat seat g.seat) x all)
    ∙ (ap head_of (put_other (λ (g : Given). is_seat s g.seat) (λ (g : Given). is_seat seat g.seat) x (ap (is_seat s) is ∙ other) (λ g own. other_seat s seat g.seat other own) all)
    ∙ sym (find_head (λ (g : Given). is_seat s g.seat) all)))

abbrev pub AreGiven : List Given → List Usage → Type 0
AreGiven given usage = (s : Seat) → jobs_given s given ≤ (usage_of s.owner usage).entries

rise_by : (u o : Owner) (bytes : ℕ) (all : List Usage) (n : ℕ) (b : Bool) → is_owner u o ≡ b → ((v : Owner) → v ≡ o → u ≡ v → n ≤ (usage_of o all).entries) → n ≤ (usage_of u all).entries → n ≤ (usage_of u (counted o false bytes all)).entries
rise_by u o bytes all n true is own h = let e = owner_is u o is in counted_has (λ x. n ≤ x.entries) u o false bytes all (λ free. more n _ (own o refl e)) h
rise_by u o bytes all n false is own h = let e : usage_of u (counted o false bytes all) ≡ usage_of u all = put_else u o (record { owner = o; entries = (usage_of o all).entries + 1; charges = (usage_of o all).charges + bytes }) all refl is in subst (λ (x : Usage). n ≤ x.entries) (sym e) h

pub entries_rise : (u o : Owner) (free : Bool) (bytes : ℕ) (all : List Usage) (n : ℕ) → ((v : Owner) → v ≡ o → u ≡ v → n ≤ (usage_of o all).entries) → n ≤ (usage_of u all).entries → n ≤ (usage_of u (counted o free bytes all)).entries
entries_rise u o true bytes all n own h = h
entries_rise u o false bytes all n own h = rise_by u o bytes all n (is_owner u o) refl own h

given_kept : (given : List Given) (usage : List Usage) (o : Owner) (free : Bool) (bytes : ℕ) → AreGiven given usage → AreGiven given (counted o free bytes usage)
given_kept given usage o free bytes h s = entries_rise s.owner o free bytes usage (jobs_given s given) (λ v is same. subst (λ (x : Owner). jobs_given s given ≤ (usage_of x usage).entries) (same ∙ is) (h s)) (h s)

new_given_by : (given : List Given) (usage : List Usage) (seat s : Seat) (bytes : ℕ) (b : Bool) → is_seat s seat ≡ b → AreGiven given usage → jobs_given s (put (λ g. is_seat seat g.seat) (record { seat = seat; jobs = jobs_given seat given + 1 }) given) ≤ (usage_of s.owner (counted seat.owner false bytes usage)).entries
new_given_by given usage seat s bytes true own h =
    let x : Given = record { seat = seat; jobs = jobs_given seat given + 1 } in
    let e : s ≡ seat = seat_is s seat own in
    let u : Usage = record { owner = seat.owner; entries = (usage_of seat.owner usage).entries + 1; charges = (usage_of seat.owner usage).charges + bytes } in
    subst (λ (t : Seat). jobs_given t (put (λ g. is_seat seat g.seat) x given) ≤ (usage_of t.owner (counted seat.owner false bytes usage)).entries) (sym e)
    (let a : jobs_given seat (put (λ g. is_seat seat g.seat) x given) ≡ jobs_given seat given + 1 = given_same seat x given refl in
    let b : (usage_of seat.owner (counted seat.owner false bytes usage)).entries ≡ (usage_of seat.owner usage).entries + 1 = ap (λ (y : Usage). y.entries) (put_same seat.owner u usage refl) in
    let d = h seat in omega (arith, a, b, d))
new_given_by given usage seat s bytes false other h =
    let a = given_else s seat (record { seat = seat; jobs = jobs_given seat given + 1 }) given refl other in
    let b = given_kept given usage seat.owner false bytes h s in
    omega (arith, a, b)

given_asked : (given : List Given) (usage : List Usage) (jobs : List Job) (seat : Seat) (ask : Ask) (bytes : ℕ) → AreGiven given usage → AreGiven (given_after seat ask given) (counted seat.owner (is_free jobs seat ask) bytes usage)
given_asked given usage jobs seat (asks.Job priority) bytes h s = new_given_by given usage seat s bytes (is_seat s seat) refl h
given_asked given usage jobs seat ask bytes h s = given_kept given usage seat.owner (is_free jobs seat ask) bytes h s

-- ---- all that is counted

pub record AreCounts (k : Site) (c : Cluster) : Type 0 where
  pub entries : (u : Owner) → (usage_of u c.usage).entries ≤ k.setup.limits.commands
  pub charges : (u : Owner) → (usage_of u c.usage).charges ≤ most_charges + most_charge
  pub given : AreGiven c.given c.usage

not_charged : (a : Bool) (m : ℕ) (free : Bool) → (free || not (a || nat_le most_charges m)) ≡ true → free ≡ false → m ≤ most_charges
not_charged a m true h is = absurd (grind (arith, is))
not_charged true m false h is = absurd (grind (arith, h))
not_charged false m false h is = grind (arith, nat_tests, h)

charged_more : (a b : ℕ) → a ≤ most_charges → b ≤ most_charge → a + b ≤ most_charges + most_charge
charged_more a b h g = omega (arith, h, g)

counts_by : (k : Site) (c : Cluster) (seat : Seat) (ask : Ask) (reply : Reply) (given : List Given) → commands_refusal k c.usage c.jobs seat ask ≡ None → charge k seat ask reply ≤ most_charge → AreCounts k c → AreGiven given (count_reply k c seat ask reply)
    → (d : Cluster) → d.usage ≡ count_reply k c seat ask reply → d.given ≡ given → AreCounts k d
counts_by k c seat ask reply given may charged h are d usage same = record {
  entries = λ u. subst (λ (all : List Usage). (usage_of u all).entries ≤ k.setup.limits.commands) (sym usage) (counted_has (λ x. x.entries ≤ k.setup.limits.commands) u seat.owner (is_free c.jobs seat ask) (charge k seat ask reply) c.usage (not_full _ _ (is_free c.jobs seat ask) _ (unless_none _ (OWNERFULL Commands) may)) (h.entries u));
  charges = λ u. subst (λ (all : List Usage). (usage_of u all).charges ≤ most_charges + most_charge) (sym usage) (counted_has (λ x. x.charges ≤ most_charges + most_charge) u seat.owner (is_free c.jobs seat ask) (charge k seat ask reply) c.usage (λ free. charged_more _ _ (not_charged _ _ (is_free c.jobs seat ask) (unless_none _ (OWNERFULL Commands) may) free) charged) (h.charges u));
  given = subst (λ (g : List Given). AreGiven g d.usage) (sym same) (subst (AreGiven given) (sym usage) are);
}

asked_counts : (k : Site) (c : Cluster) (seat : Seat) (ask : Ask) (x : Option Refusal) → commands_refusal k c.usage c.jobs seat ask ≡ None → IsWritten k → IsLight k c → CanBeWritten k seat ask → AreCounts k c → AreCounts k (within_limit c None (asked_with k c seat ask x)).next
asked_counts k c seat ask (Some r) may written light can h = counts_by k c seat ask (tells.Refused r) c.given may (refused_charged k seat ask r can) h (given_kept c.given c.usage seat.owner (is_free c.jobs seat ask) (charge k seat ask (tells.Refused r)) h.given) _ refl refl
asked_counts k c seat ask None may written light can h =
    let reply = whole_reply c (place (done k c seat ask)) seat ask in
    counts_by k c seat ask reply (given_after seat ask c.given) may (answer_charged k c (place (done k c seat ask)) seat ask written light can) h (given_asked c.given c.usage c.jobs seat ask (charge k seat ask reply) h.given) _ refl refl

same_counts : (k : Site) (c d : Cluster) → d.usage ≡ c.usage → d.given ≡ c.given → AreCounts k c → AreCounts k d
same_counts k c d usage given h = record {
  entries = λ u. subst (λ (all : List Usage). (usage_of u all).entries ≤ k.setup.limits.commands) (sym usage) (h.entries u);
  charges = λ u. subst (λ (all : List Usage). (usage_of u all).charges ≤ most_charges + most_charge) (sym usage) (h.charges u);
  given = subst (λ (g : List Given). AreGiven g d.usage) (sym given) (subst (AreGiven c.given) (sym usage) h.given);
}

finish_given : (k : Site) (c : Cluster) (id : BatchId) (n : ℕ) (result : BatchResult) (f : Faults) (o w : Bool) → still_open n (row_of id c.table) ≡ o → nat_le f.after f.before ≡ w → (step k c (Finished id n result) f).next.given ≡ c.given
finish_given k c id n result f false w h g = rw h refl
finish_given k c id n result f true true h g = rw (h, g) refl
finish_given k c id n result f true false h g = rw (h, g) refl

left_given : (k : Site) (c : Cluster) (id : BatchId) (n : ℕ) (f : Faults) (o : Bool) → still_open n (row_of id c.table) ≡ o → (step k c (Left id n) f).next.given ≡ c.given
left_given k c id n f false h = rw h refl
left_given k c id n f true h = rw h refl

pub step_counts : (k : Site) (c : Cluster) (d : Deed) (f : Faults) → MayHappen k c d → IsWritten k → IsLight k c → IsWritable k d → AreCounts k c → AreCounts k (step k c d f).next
step_counts k c (Asked seat ask) f may written light can h = subst (λ (x : Option Refusal). AreCounts k (within_limit c x (asked_with k c seat ask (ask_refusal k c seat ask f))).next) (sym may) (asked_counts k c seat ask (ask_refusal k c seat ask f) may written light can h)
step_counts k c (Took worker id n) f may written light can h = same_counts k c (step k c (Took worker id n) f).next refl refl h
step_counts k c (Finished id n result) f may written light can h = same_counts k c (step k c (Finished id n result) f).next (finish_within k c id n result f (still_open n (row_of id c.table)) (nat_le f.after f.before) refl refl) (finish_given k c id n result f (still_open n (row_of id c.table)) (nat_le f.after f.before) refl refl) h
step_counts k c (Left id n) f may written light can h = same_counts k c (step k c (Left id n) f).next (left_within k c id n f (still_open n (row_of id c.table)) refl) (left_given k c id n f (still_open n (row_of id c.table)) refl) h
