-- What a command that is done changes of an owner's part.
use Rattle.std.proofs.Common.{◌≡◌, refl, sym, ap, ap₂, ◌∙◌, ℕ, Bool, true, false, not, List, [], ◌∷◌, ◌++◌, Option, Some, None, arith, map}
use Rattle.std.specs.Prelude.{filter, if◌then◌else◌, ◌+◌}
use Rattle.base_names.specs.declared.id.BatchId.{BatchId}
use Rattle.base_names.specs.declared.node.NodeNo.{NodeNo}
use Rattle.base_names.specs.declared.node.Placed.{Placed}
use Rattle.base_names.specs.declared.node.Waiter.TheVariants as waits
use Rattle.base_names.specs.declared.seat.Seat.{Seat}
use Rattle.model_data.specs.declared.batch.AttemptOf.{AttemptOf}
use Rattle.model_data.specs.declared.batch.BatchRecord.TheVariants as is
use Rattle.model_data.specs.declared.batch.BatchRow.{BatchRow}
use Rattle.table_defs.specs.Lists.{put}
use Rattle.table_defs.specs.Names.{Owner, is_attempt, is_owner}
use Rattle.table_defs.specs.Owned.{items_of, table_of}
use Rattle.table_defs.specs.Table.{Table, aborted, applied, begun, ended, lost, row_of}
use Rattle.table_defs.specs.Taken.{on_row}
use Rattle.cluster_defs.specs.Answers.{batch_line, poll_reply, reply_to, row_reply, status_reply}
use Rattle.cluster_defs.specs.Appended.{attempt_in, lost_with, next_id, record_of}
use Rattle.cluster_defs.specs.Charges.{counted}
use Rattle.cluster_defs.specs.Cluster.{Given, Job, Running, Usage, attempts_at, id_of, job_of, jobs_given, runs_at, usage_of}
use Rattle.cluster_defs.specs.Effects.{given_after, is_lost, jobs_after, kept_table, lost_jobs, marked_jobs, new_job, placed_after, without_attempt, without_job, without_node}
use Rattle.cluster_defs.specs.Part.{attempts_of, givens_of, jobs_of, usages_of}
use Rattle.cluster_defs.specs.Placement.{place_among}
use Rattle.cluster_defs.specs.Reading.{if_own}
use Rattle.cluster_defs.specs.Refusals.{batch_refusal, is_for_admins}
use Rattle.cluster_defs.specs.Waiters.{is_job, is_node, is_seat, owner_of}
use Rattle.table_defs.proofs.Lists.{filter_changed, filter_changed_others, filter_filter, filter_others, push_other, push_own, put_other, put_own}
use Rattle.table_defs.proofs.Names.{attempt_without, owner_within, owner_without}
use Rattle.table_defs.proofs.Owned.{other_change, other_create, other_removal, own_change, own_create, own_greatest, own_lost, own_removal, own_row}
use Rattle.cluster_laws.proofs.Lists.{filter_map_filter}
use Rattle.cluster_laws.proofs.OwnLooks.{own_given, own_job, own_rows, own_usage}
use Rattle.cluster_laws.proofs.OwnPlaces.{own_place}
use Rattle.cluster_laws.proofs.Waiters.{job_without, seat_without}
use Rattle.cluster_defs.specs.Asks.{Ask}
use Rattle.cluster_defs.specs.Asks as asks
use Rattle.cluster_defs.specs.Replies as tells

-- the batch that a command names is the seat's own
abbrev pub names_own : Seat → Ask → Bool
names_own seat (asks.Status id) = is_owner seat.owner id.owner
names_own seat (asks.Row id) = is_owner seat.owner id.owner
names_own seat (asks.Abort id) = is_owner seat.owner id.owner
names_own seat (asks.Discard id) = is_owner seat.owner id.owner
names_own seat (asks.Retry id) = is_owner seat.owner id.owner
names_own seat ask = true

own_or_none : (b : Bool) (wanted : BatchRow → Bool) (row : Option BatchRow) → on_row wanted (if b then row else None) ≡ None → b ≡ true
own_or_none true wanted row h = refl
own_or_none false wanted row h = absurd (grind (arith, h))

pub names_own_from : (t : Table) (seat : Seat) (ask : Ask) → batch_refusal t seat ask ≡ None → names_own seat ask ≡ true
names_own_from t seat (asks.Status id) h = own_or_none (is_owner seat.owner id.owner) (λ row. true) (row_of id t) h
names_own_from t seat (asks.Row id) h = own_or_none (is_owner seat.owner id.owner) (λ row. true) (row_of id t) h
names_own_from t seat (asks.Abort id) h = own_or_none (is_owner seat.owner id.owner) _ (row_of id t) h
names_own_from t seat (asks.Discard id) h = own_or_none (is_owner seat.owner id.owner) _ (row_of id t) h
names_own_from t seat (asks.Retry id) h = own_or_none (is_owner seat.owner id.owner) _ (row_of id t) h
names_own_from t seat ask h = refl

-- the owner of a batch that an own seat names, and of one that another seat names
named : (u : Owner) (seat : Seat) (id : BatchId) → is_owner u seat.owner ≡ true → is_owner seat.owner id.owner ≡ true → is_owner u id.owner ≡ true
named u seat id own same = owner_within u seat.owner id.owner own same

id_off : (a b : Bool) → (a ≡ true → b ≡ false) → b ≡ true → a ≡ false
id_off true b h p = absurd (grind (arith, h refl, p))
id_off false b h p = refl

named_other : (u : Owner) (seat : Seat) (id : BatchId) → is_owner u seat.owner ≡ false → is_owner seat.owner id.owner ≡ true → is_owner u id.owner ≡ false
named_other u seat id other same = id_off (is_owner u id.owner) (is_owner seat.owner id.owner) (owner_without u seat.owner id.owner other) same

-- ---- a command of an own seat

pub table_own : (u : Owner) (seat : Seat) (ask : Ask) (t : Table) (placed own_placed : List Running) → is_owner u seat.owner ≡ true → is_for_admins ask ≡ false → names_own seat ask ≡ true
    → table_of u (kept_table (record_of t placed seat ask) t) ≡ kept_table (record_of (table_of u t) own_placed seat ask) (table_of u t)
table_own u seat (asks.Create body) t placed own_placed own h n =
    own_create u (next_id seat.owner t) 1 body t own ∙ ap (λ (g : ℕ). applied (is.Create record { owner = seat.owner; number = g + 1 } 1 body) (table_of u t)) (sym (own_greatest u seat.owner t own))
table_own u seat (asks.Abort id) t placed own_placed own h n = own_change u id (ended aborted None) t (λ row. refl)
table_own u seat (asks.Discard id) t placed own_placed own h n = own_removal u id t
table_own u seat (asks.Retry id) t placed own_placed own h n =
    own_change u id (begun (attempt_in (row_of id t) + 1)) t (λ row. refl) ∙ ap (λ (row : Option BatchRow). applied (is.Retry id (attempt_in row + 1)) (table_of u t)) (sym (own_row u id t (named u seat id own n)))
table_own u seat (asks.Fail node) t placed own_placed own h n = absurd (grind (arith, h))
table_own u seat ask t placed own_placed own h n = refl

if_two : {A B : Type 0} (f : A → B) (b : Bool) (x y : A) → f (if b then x else y) ≡ (if b then f x else f y)
if_two f true x y = refl
if_two f false x y = refl

poll_own : (u : Owner) (seat : Seat) (jobs : List Job) → is_owner u seat.owner ≡ true → jobs_of u (if is_lost (job_of seat jobs) then without_job seat jobs else jobs) ≡ (if is_lost (job_of seat (jobs_of u jobs)) then without_job seat (jobs_of u jobs) else jobs_of u jobs)
poll_own u seat jobs own =
    if_two (jobs_of u) (is_lost (job_of seat jobs)) (without_job seat jobs) jobs
    ∙ ap₂ (λ (job : Option Job) (js : List Job). if is_lost job then js else jobs_of u jobs) (sym (own_job u seat jobs own)) (filter_filter (λ job. is_owner u job.seat.owner) (λ job. not (is_seat seat job.seat)) jobs)

pub jobs_own : (u : Owner) (seat : Seat) (ask : Ask) (given : List Given) (jobs : List Job) → is_owner u seat.owner ≡ true → is_for_admins ask ≡ false → jobs_of u (jobs_after given seat ask jobs) ≡ jobs_after (givens_of u given) seat ask (jobs_of u jobs)
jobs_own u seat (asks.Job priority) given jobs own h = push_own (λ job. is_owner u job.seat.owner) (new_job given seat priority) own jobs ∙ ap (λ (g : ℕ). jobs_of u jobs ++ record { seat = seat; number = g + 1; priority = priority; node = None; lost = false; marked = false } ∷ []) (sym (own_given u seat given own))
jobs_own u seat asks.Poll given jobs own h = poll_own u seat jobs own
jobs_own u seat asks.Leave given jobs own h = filter_filter (λ job. is_owner u job.seat.owner) (λ job. not (is_seat seat job.seat)) jobs
jobs_own u seat (asks.Fail node) given jobs own h = absurd (grind (arith, h))
jobs_own u seat (asks.AbortJob number job) given jobs own h = absurd (grind (arith, h))
jobs_own u seat ask given jobs own h = refl

pub placed_own : (u : Owner) (seat : Seat) (ask : Ask) (t : Table) (placed : List Running) → is_owner u seat.owner ≡ true → is_for_admins ask ≡ false → names_own seat ask ≡ true → attempts_of u (placed_after t ask placed) ≡ placed_after (table_of u t) ask (attempts_of u placed)
placed_own u seat (asks.Abort id) t placed own h n =
    filter_filter (λ r. is_owner u r.id.owner) (λ r. not (is_attempt id (attempt_in (row_of id t)) r.id r.attempt)) placed
    ∙ ap (λ (row : Option BatchRow). without_attempt id (attempt_in row) (attempts_of u placed)) (sym (own_row u id t (named u seat id own n)))
placed_own u seat (asks.Fail node) t placed own h n = absurd (grind (arith, h))
placed_own u seat ask t placed own h n = refl

pub given_own : (u : Owner) (seat : Seat) (ask : Ask) (given : List Given) → is_owner u seat.owner ≡ true → givens_of u (given_after seat ask given) ≡ given_after seat ask (givens_of u given)
given_own u seat (asks.Job priority) given own =
    put_own (λ g. is_owner u g.seat.owner) (λ g. is_seat seat g.seat) (record { seat = seat; jobs = jobs_given seat given + 1 }) own given
    ∙ ap (λ (n : ℕ). put (λ g. is_seat seat g.seat) (record { seat = seat; jobs = n + 1 }) (givens_of u given)) (sym (own_given u seat given own))
given_own u seat ask given own = refl

pub count_own : (u o : Owner) (free : Bool) (bytes : ℕ) (usage : List Usage) → is_owner u o ≡ true → usages_of u (counted o free bytes usage) ≡ counted o free bytes (usages_of u usage)
count_own u o true bytes usage own = refl
count_own u o false bytes usage own =
    put_own (λ x. is_owner u x.owner) (λ x. is_owner o x.owner) (record { owner = o; entries = (usage_of o usage).entries + 1; charges = (usage_of o usage).charges + bytes }) own usage
    ∙ ap (λ (x : Usage). put (λ y. is_owner o y.owner) (record { owner = o; entries = x.entries + 1; charges = x.charges + bytes }) (usages_of u usage)) (sym (own_usage u o usage own))

pub reply_own : (u : Owner) (seat : Seat) (ask : Ask) (t : Table) (jobs : List Job) (given : List Given) (ps : List Placed) → is_owner u seat.owner ≡ true → names_own seat ask ≡ true
    → reply_to (table_of u t) (jobs_of u jobs) (givens_of u given) (filter (λ p. is_owner u (owner_of p.waiter)) ps) seat ask ≡ reply_to t jobs given ps seat ask
reply_own u seat (asks.Job priority) t jobs given ps own n =
    ap (λ (g : ℕ). tells.Job (g + 1) (place_among (waits.Seat record { seat = seat; number = g + 1 }) (filter (λ p. is_owner u (owner_of p.waiter)) ps))) (own_given u seat given own)
    ∙ ap (λ (node : Option NodeNo). tells.Job (jobs_given seat given + 1) node) (own_place u (waits.Seat record { seat = seat; number = jobs_given seat given + 1 }) ps own)
reply_own u seat asks.Poll t jobs given ps own n = ap poll_reply (own_job u seat jobs own)
reply_own u seat (asks.Create body) t jobs given ps own n = ap (λ (g : ℕ). tells.Made record { owner = seat.owner; number = g + 1 }) (own_greatest u seat.owner t own)
reply_own u seat (asks.Status id) t jobs given ps own n = ap (status_reply id) (own_row u id t (named u seat id own n))
reply_own u seat (asks.Row id) t jobs given ps own n = ap row_reply (own_row u id t (named u seat id own n))
reply_own u seat asks.Listing t jobs given ps own n = ap (λ (rows : List BatchRow). tells.Rows (map batch_line rows)) (own_rows u seat.owner t.rows own)
reply_own u seat ask t jobs given ps own n = refl

-- ---- a command of another seat

pub table_other : (u : Owner) (seat : Seat) (ask : Ask) (t : Table) (placed : List Running) → is_owner u seat.owner ≡ false → is_for_admins ask ≡ false → names_own seat ask ≡ true → table_of u (kept_table (record_of t placed seat ask) t) ≡ table_of u t
table_other u seat (asks.Create body) t placed other h n = other_create u (next_id seat.owner t) 1 body t other
table_other u seat (asks.Abort id) t placed other h n = other_change u id (ended aborted None) t (λ row. refl) (named_other u seat id other n)
table_other u seat (asks.Discard id) t placed other h n = other_removal u id t (named_other u seat id other n)
table_other u seat (asks.Retry id) t placed other h n = other_change u id (begun (attempt_in (row_of id t) + 1)) t (λ row. refl) (named_other u seat id other n)
table_other u seat (asks.Fail node) t placed other h n = absurd (grind (arith, h))
table_other u seat ask t placed other h n = refl

without_other : (u : Owner) (seat : Seat) (jobs : List Job) → is_owner u seat.owner ≡ false → jobs_of u (without_job seat jobs) ≡ jobs_of u jobs
without_other u seat jobs other = filter_others (λ job. is_owner u job.seat.owner) (λ job. not (is_seat seat job.seat)) (λ job own. ap not (seat_without u seat job.seat other own)) jobs

if_both : {A : Type 0} (b : Bool) (x y : A) → x ≡ y → (if b then x else y) ≡ y
if_both true x y h = h
if_both false x y h = refl

pub jobs_other : (u : Owner) (seat : Seat) (ask : Ask) (given : List Given) (jobs : List Job) → is_owner u seat.owner ≡ false → is_for_admins ask ≡ false → jobs_of u (jobs_after given seat ask jobs) ≡ jobs_of u jobs
jobs_other u seat (asks.Job priority) given jobs other h = push_other (λ job. is_owner u job.seat.owner) (new_job given seat priority) other jobs
jobs_other u seat asks.Poll given jobs other h = if_two (jobs_of u) (is_lost (job_of seat jobs)) (without_job seat jobs) jobs ∙ if_both (is_lost (job_of seat jobs)) _ _ (without_other u seat jobs other)
jobs_other u seat asks.Leave given jobs other h = without_other u seat jobs other
jobs_other u seat (asks.Fail node) given jobs other h = absurd (grind (arith, h))
jobs_other u seat (asks.AbortJob number job) given jobs other h = absurd (grind (arith, h))
jobs_other u seat ask given jobs other h = refl

pub attempt_other : (u : Owner) (id : BatchId) (attempt : ℕ) (placed : List Running) → is_owner u id.owner ≡ false → attempts_of u (without_attempt id attempt placed) ≡ attempts_of u placed
attempt_other u id attempt placed other = filter_others (λ r. is_owner u r.id.owner) (λ r. not (is_attempt id attempt r.id r.attempt)) (λ r own. ap not (attempt_without u id r.id attempt r.attempt other own)) placed

pub placed_other : (u : Owner) (seat : Seat) (ask : Ask) (t : Table) (placed : List Running) → is_owner u seat.owner ≡ false → is_for_admins ask ≡ false → names_own seat ask ≡ true → attempts_of u (placed_after t ask placed) ≡ attempts_of u placed
placed_other u seat (asks.Abort id) t placed other h n = attempt_other u id (attempt_in (row_of id t)) placed (named_other u seat id other n)
placed_other u seat (asks.Fail node) t placed other h n = absurd (grind (arith, h))
placed_other u seat ask t placed other h n = refl

pub given_other : (u : Owner) (seat : Seat) (ask : Ask) (given : List Given) → is_owner u seat.owner ≡ false → givens_of u (given_after seat ask given) ≡ givens_of u given
given_other u seat (asks.Job priority) given other = put_other (λ g. is_owner u g.seat.owner) (λ g. is_seat seat g.seat) (record { seat = seat; jobs = jobs_given seat given + 1 }) other (λ g own. seat_without u seat g.seat other own) given
given_other u seat ask given other = refl

pub count_other : (u o : Owner) (free : Bool) (bytes : ℕ) (usage : List Usage) → is_owner u o ≡ false → usages_of u (counted o free bytes usage) ≡ usages_of u usage
count_other u o true bytes usage other = refl
count_other u o false bytes usage other = put_other (λ x. is_owner u x.owner) (λ x. is_owner o x.owner) (record { owner = o; entries = (usage_of o usage).entries + 1; charges = (usage_of o usage).charges + bytes }) other (λ x own. owner_without u o x.owner other own) usage

-- ---- an administrators' command of any seat

pub items_own : (u : Owner) (node : NodeNo) (placed : List Running) → items_of u (attempts_at node placed) ≡ attempts_at node (attempts_of u placed)
items_own u node placed = filter_map_filter (λ (item : AttemptOf). is_owner u item.id.owner) (λ (r : Running). is_node node r.node) (λ r. record { id = r.id; attempt = r.attempt }) placed

pub lost_all : (items : List AttemptOf) (t : Table) → kept_table (lost_with items) t ≡ lost items t
lost_all [] t = refl
lost_all (item ∷ items) t = refl

pub table_failed : (u : Owner) (node : NodeNo) (placed : List Running) (t : Table) → table_of u (kept_table (lost_with (attempts_at node placed)) t) ≡ lost (attempts_at node (attempts_of u placed)) (table_of u t)
table_failed u node placed t = ap (table_of u) (lost_all (attempts_at node placed) t) ∙ (own_lost u (attempts_at node placed) t ∙ ap (λ (items : List AttemptOf). lost items (table_of u t)) (items_own u node placed))

pub jobs_failed : (u : Owner) (node : NodeNo) (jobs : List Job) → jobs_of u (lost_jobs node jobs) ≡ lost_jobs node (jobs_of u jobs)
jobs_failed u node jobs = filter_changed (λ job. is_owner u job.seat.owner) (runs_at node) (λ job. record job { lost = true }) (λ job. refl) jobs

pub placed_failed : (u : Owner) (node : NodeNo) (placed : List Running) → attempts_of u (without_node node placed) ≡ without_node node (attempts_of u placed)
placed_failed u node placed = filter_filter (λ r. is_owner u r.id.owner) (λ r. not (is_node node r.node)) placed

marked_then : (u : Owner) (found : Job) (jobs : List Job) (b : Bool) → is_owner u found.seat.owner ≡ b → jobs_of u (marked_jobs (Some found) jobs) ≡ marked_jobs (if b then Some found else None) (jobs_of u jobs)
marked_then u found jobs true is = filter_changed (λ job. is_owner u job.seat.owner) (λ job. is_job (id_of found) (id_of job)) (λ job. record job { marked = true }) (λ job. refl) jobs
marked_then u found jobs false is = filter_changed_others (λ job. is_owner u job.seat.owner) (λ job. is_job (id_of found) (id_of job)) (λ job. record job { marked = true }) (λ job. refl) (λ job own. job_without u (id_of found) (id_of job) is own) jobs

pub jobs_marked : (u : Owner) (found : Option Job) (jobs : List Job) → jobs_of u (marked_jobs found jobs) ≡ marked_jobs (if_own u found) (jobs_of u jobs)
jobs_marked u None jobs = refl
jobs_marked u (Some found) jobs = marked_then u found jobs (is_owner u found.seat.owner) refl
