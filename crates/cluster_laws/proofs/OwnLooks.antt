-- An owner's part shows each look-up of that owner as the whole cluster does, and so each of its own tests.
use Rattle.std.proofs.Common.{◌≡◌, refl, ap, ap₂, ◌∙◌, ℕ, Bool, true, false, not, List, [], ◌∷◌, Option, Some, None, arith}
use Rattle.std.specs.Prelude.{is_none, is_some, if◌then◌else◌, sum_by, ◌+◌, nat_le, nat_lt, ◌==◌, ◌||◌}
use Rattle.base_names.specs.declared.id.BatchId.{BatchId}
use Rattle.base_names.specs.declared.refusal.OwnerLimit.TheVariants.{Commands, Numbers, Bytes}
use Rattle.base_names.specs.declared.refusal.Refusal.{Refusal}
use Rattle.base_names.specs.declared.refusal.Refusal.TheVariants.{DISK, JOURNALFULL, NOJOB, NONODE, OWNERFULL, ROLE, STATE}
use Rattle.base_names.specs.declared.seat.Role.TheVariants.{Admin}
use Rattle.base_names.specs.declared.seat.Seat.{Seat}
use Rattle.model_data.specs.declared.batch.BatchRecord.{BatchRecord}
use Rattle.model_data.specs.declared.batch.BatchRecord.TheVariants as is
use Rattle.model_data.specs.declared.batch.BatchRow.{BatchRow}
use Rattle.table_defs.specs.Names.{Owner, is_owner}
use Rattle.table_defs.specs.Owned.{rows_of, table_of}
use Rattle.table_defs.specs.Table.{Table, row_of, submitted}
use Rattle.table_defs.specs.Taken.{is_over, on_row, or_else, unless}
use Rattle.cluster_defs.specs.Appended.{attempt_in}
use Rattle.cluster_defs.specs.Cluster.{Cluster, Given, Job, Usage, given_of, job_of, jobs_given, usage_of, usage_or}
use Rattle.cluster_defs.specs.Deeds.{Faults}
use Rattle.cluster_defs.specs.Looks.{cut, job_cut}
use Rattle.cluster_defs.specs.Own.{own_refusal}
use Rattle.cluster_defs.specs.Part.{givens_of, jobs_of, part_of, usages_of}
use Rattle.cluster_defs.specs.Reading.{is_admins, shared_refusal}
use Rattle.cluster_defs.specs.Refusals.{alive_refusal, ask_refusal, batch_refusal, bytes_refusal, commands_refusal, disk_refusal, first_of, is_free, is_at_limit, job_refusal, may_retry, most_number, need, numbers_refusal, role_refusal, room_refusal, seen_row, state_refusal}
use Rattle.cluster_defs.specs.Site.{Site}
use Rattle.cluster_defs.specs.Step.{still_open}
use Rattle.cluster_defs.specs.Waiters.{is_role, is_seat, owner_of}
use Rattle.table_defs.proofs.Lists.{filter_others, find_filter}
use Rattle.table_defs.proofs.Names.{owner_within}
use Rattle.table_defs.proofs.Owned.{own_greatest, own_row}
use Rattle.cluster_laws.proofs.Waiters.{seat_within}
use Rattle.base_names.specs.declared.node.Waiter.{Waiter}
use Rattle.base_names.specs.declared.node.Waiter.TheVariants as waits
use Rattle.cluster_defs.specs.Asks.{Ask}
use Rattle.cluster_defs.specs.Asks as asks

-- ---- look-ups

pub own_job : (u : Owner) (seat : Seat) (jobs : List Job) → is_owner u seat.owner ≡ true → job_of seat (jobs_of u jobs) ≡ job_of seat jobs
own_job u seat jobs own = find_filter (λ job. is_owner u job.seat.owner) (λ job. is_seat seat job.seat) (λ job. seat_within u seat job.seat own) jobs

pub own_given : (u : Owner) (seat : Seat) (given : List Given) → is_owner u seat.owner ≡ true → jobs_given seat (givens_of u given) ≡ jobs_given seat given
own_given u seat given own = ap given_of (find_filter (λ g. is_owner u g.seat.owner) (λ g. is_seat seat g.seat) (λ g. seat_within u seat g.seat own) given)

pub own_usage : (u o : Owner) (usage : List Usage) → is_owner u o ≡ true → usage_of o (usages_of u usage) ≡ usage_of o usage
own_usage u o usage own = ap (usage_or o) (find_filter (λ x. is_owner u x.owner) (λ x. is_owner o x.owner) (λ x. owner_within u o x.owner own) usage)

pub own_rows : (u o : Owner) (rows : List BatchRow) → is_owner u o ≡ true → rows_of o (rows_of u rows) ≡ rows_of o rows
own_rows u o rows own = filter_others (λ row. is_owner o row.id.owner) (λ row. is_owner u row.id.owner) (λ row. owner_within u o row.id.owner own) rows

if_same : {A : Type 0} (b : Bool) (x y z : A) → (b ≡ true → x ≡ y) → (if b then x else z) ≡ (if b then y else z)
if_same true x y z h = h refl
if_same false x y z h = refl

pub own_seen : (u : Owner) (seat : Seat) (id : BatchId) (t : Table) → is_owner u seat.owner ≡ true → seen_row seat id (table_of u t) ≡ seen_row seat id t
own_seen u seat id t own = if_same (is_owner seat.owner id.owner) _ _ None (λ same. own_row u id t (owner_within u seat.owner id.owner own same))

-- ---- tests

pub free_own : (u : Owner) (seat : Seat) (ask : Ask) (jobs : List Job) → is_owner u seat.owner ≡ true → is_free (jobs_of u jobs) seat ask ≡ is_free jobs seat ask
free_own u seat asks.Leave jobs own = ap is_some (own_job u seat jobs own)
free_own u seat ask jobs own = refl

pub commands_own : (u : Owner) (k : Site) (seat : Seat) (ask : Ask) (jobs : List Job) (usage : List Usage) → is_owner u seat.owner ≡ true → commands_refusal k (usages_of u usage) (jobs_of u jobs) seat ask ≡ commands_refusal k usage jobs seat ask
commands_own u k seat ask jobs usage own = ap₂ (λ (free : Bool) (x : Usage). unless (free || not (is_at_limit k x)) (OWNERFULL Commands)) (free_own u seat ask jobs own) (own_usage u seat.owner usage own)

state_own : (u : Owner) (seat : Seat) (ask : Ask) (jobs : List Job) → is_owner u seat.owner ≡ true → state_refusal (jobs_of u jobs) seat ask ≡ state_refusal jobs seat ask
state_own u seat (asks.Job priority) jobs own = ap (λ (job : Option Job). unless (is_none job) STATE) (own_job u seat jobs own)
state_own u seat ask jobs own = refl

job_own : (u : Owner) (seat : Seat) (ask : Ask) (jobs : List Job) → is_owner u seat.owner ≡ true → job_refusal (jobs_of u jobs) seat ask ≡ job_refusal jobs seat ask
job_own u seat asks.Poll jobs own = ap (λ (job : Option Job). unless (is_some job) NOJOB) (own_job u seat jobs own)
job_own u seat asks.Leave jobs own = ap (λ (job : Option Job). unless (is_some job) NOJOB) (own_job u seat jobs own)
job_own u seat ask jobs own = refl

batch_own : (u : Owner) (seat : Seat) (ask : Ask) (t : Table) → is_owner u seat.owner ≡ true → batch_refusal (table_of u t) seat ask ≡ batch_refusal t seat ask
batch_own u seat (asks.Status id) t own = ap (on_row (λ row. true)) (own_seen u seat id t own)
batch_own u seat (asks.Row id) t own = ap (on_row (λ row. true)) (own_seen u seat id t own)
batch_own u seat (asks.Abort id) t own = ap (on_row (λ row. row.status == submitted)) (own_seen u seat id t own)
batch_own u seat (asks.Discard id) t own = ap (on_row is_over) (own_seen u seat id t own)
batch_own u seat (asks.Retry id) t own = ap (on_row may_retry) (own_seen u seat id t own)
batch_own u seat ask t own = refl

numbers_own : (u : Owner) (seat : Seat) (ask : Ask) (t : Table) → is_owner u seat.owner ≡ true → numbers_refusal (table_of u t) seat ask ≡ numbers_refusal t seat ask
numbers_own u seat (asks.Create body) t own = ap (λ (n : ℕ). unless (nat_lt n most_number) (OWNERFULL Numbers)) (own_greatest u seat.owner t own)
numbers_own u seat ask t own = refl

bytes_own : (u : Owner) (k : Site) (seat : Seat) (ask : Ask) (t : Table) → is_owner u seat.owner ≡ true → bytes_refusal k (table_of u t) seat ask ≡ bytes_refusal k t seat ask
bytes_own u k seat (asks.Create body) t own = ap (λ (rows : List BatchRow). unless (nat_le (sum_by (λ row. k.model_bytes row.body.model) rows + k.model_bytes body.model) k.setup.limits.bytes) (OWNERFULL Bytes)) (own_rows u seat.owner t.rows own)
bytes_own u k seat ask t own = refl

-- ---- the refusal is the own one, with what is read of it

-- what is read of a refusal
unfoldable pub back : Option Refusal → Option Refusal
back None = None
back (Some refusal) = shared_refusal refusal

or_none : (a : Option Refusal) → or_else a None ≡ a
or_none None = refl
or_none (Some r) = refl

back_one : (a s : Option Refusal) → back s ≡ s → or_else a (or_else (back (or_else a s)) None) ≡ or_else a s
unfolding back
back_one None s h = or_none (back s) ∙ h
back_one (Some r) s h = refl

back_two : (a b s : Option Refusal) → back s ≡ s → or_else a (or_else b (or_else (back (or_else a (or_else b s))) None)) ≡ or_else a (or_else b s)
unfolding back
back_two None b s h = back_one b s h
back_two (Some r) b s h = refl

back_or : (a b : Option Refusal) → back a ≡ a → back b ≡ b → back (or_else a b) ≡ or_else a b
back_or None b p q = q
back_or (Some r) b p q = p

back_unless : (b : Bool) (r : Refusal) → shared_refusal r ≡ Some r → back (unless b r) ≡ unless b r
unfolding back
back_unless true r h = refl
back_unless false r h = h

back_none : back None ≡ None
unfolding back
back_none = refl

back_disk : (f : Faults) (r : BatchRecord) → back (or_else (disk_refusal f (Some r)) None) ≡ or_else (disk_refusal f (Some r)) None
back_disk f r = back_or (disk_refusal f (Some r)) None (back_unless (nat_le f.after f.before) (DISK f.before f.after) refl) back_none

back_room : (k : Site) (c : Cluster) (f : Faults) (r : BatchRecord) → back (or_else (room_refusal k c.journal c.table r) (or_else (disk_refusal f (Some r)) None)) ≡ or_else (room_refusal k c.journal c.table r) (or_else (disk_refusal f (Some r)) None)
back_room k c f r = back_or (room_refusal k c.journal c.table r) (or_else (disk_refusal f (Some r)) None) (back_unless (nat_le (need k c.journal c.table r) k.setup.limits.journal) (JOURNALFULL (need k c.journal c.table r) k.setup.limits.journal) refl) (back_disk f r)

role_first : (b : Bool) (x y : Option Refusal) → b ≡ false → or_else (unless b ROLE) x ≡ or_else (unless b ROLE) y
role_first true x y h = absurd (grind (arith, h))
role_first false x y h = refl

pub whole_tests : Site → Cluster → Seat → Ask → Option Refusal → Option Refusal
whole_tests k c seat ask shared = first_of (role_refusal seat ask ∷ state_refusal c.jobs seat ask ∷ job_refusal c.jobs seat ask ∷ batch_refusal c.table seat ask ∷ numbers_refusal c.table seat ask ∷ bytes_refusal k c.table seat ask ∷ shared ∷ [])

refusal_back : (k : Site) (c : Cluster) (seat : Seat) (ask : Ask) (f : Faults) → is_admins seat ask ≡ false → whole_tests k c seat ask (back (ask_refusal k c seat ask f)) ≡ ask_refusal k c seat ask f
unfolding whole_tests
refusal_back k c seat (asks.Job priority) f h = back_one (state_refusal c.jobs seat (asks.Job priority)) (or_else (alive_refusal c.nodes (asks.Job priority)) None) (back_or (alive_refusal c.nodes (asks.Job priority)) None (back_unless _ NONODE refl) back_none)
refusal_back k c seat asks.Poll f h = back_one (job_refusal c.jobs seat asks.Poll) None back_none
refusal_back k c seat asks.Leave f h = back_one (job_refusal c.jobs seat asks.Leave) None back_none
refusal_back k c seat (asks.Create body) f h = back_two (numbers_refusal c.table seat (asks.Create body)) (bytes_refusal k c.table seat (asks.Create body)) _ (back_room k c f _)
refusal_back k c seat (asks.Status id) f h = back_one (batch_refusal c.table seat (asks.Status id)) None back_none
refusal_back k c seat (asks.Row id) f h = back_one (batch_refusal c.table seat (asks.Row id)) None back_none
refusal_back k c seat asks.Listing f h = rw back_none
refusal_back k c seat (asks.Abort id) f h = back_one (batch_refusal c.table seat (asks.Abort id)) _ (back_disk f (is.Abort id (attempt_in (row_of id c.table))))
refusal_back k c seat (asks.Discard id) f h = back_one (batch_refusal c.table seat (asks.Discard id)) _ (back_room k c f _)
refusal_back k c seat (asks.Retry id) f h = back_one (batch_refusal c.table seat (asks.Retry id)) _ (back_room k c f _)
refusal_back k c seat ask f h = role_first (is_role seat.role Admin) _ _ h

five : (x a b d e g a' b' d' e' g' s : Option Refusal) → a' ≡ a → b' ≡ b → d' ≡ d → e' ≡ e → g' ≡ g → first_of (x ∷ a' ∷ b' ∷ d' ∷ e' ∷ g' ∷ s ∷ []) ≡ first_of (x ∷ a ∷ b ∷ d ∷ e ∷ g ∷ s ∷ [])
five x a b d e g a' b' d' e' g' s p q r v w = cc

pub own_refusal_is : (u : Owner) (k : Site) (c : Cluster) (seat : Seat) (ask : Ask) (f : Faults) → is_owner u seat.owner ≡ true → is_admins seat ask ≡ false → own_refusal k (part_of u c) seat ask (back (ask_refusal k c seat ask f)) ≡ ask_refusal k c seat ask f
unfolding whole_tests
own_refusal_is u k c seat ask f own h =
    five (role_refusal seat ask) _ _ _ _ _ _ _ _ _ _ (back (ask_refusal k c seat ask f)) (state_own u seat ask c.jobs own) (job_own u seat ask c.jobs own) (batch_own u seat ask c.table own) (numbers_own u seat ask c.table own) (bytes_own u k seat ask c.table own)
    ∙ refusal_back k c seat ask f h

-- ---- looks

pub cut_own : (u : Owner) (w : Waiter) (t : Table) (jobs : List Job) → is_owner u (owner_of w) ≡ true → cut (table_of u t) (jobs_of u jobs) w ≡ cut t jobs w
cut_own u (waits.Seat job) t jobs own = ap (job_cut job.number) (own_job u job.seat jobs own)
cut_own u (waits.Batch id attempt) t jobs own = ap (λ (row : Option BatchRow). not (still_open attempt row)) (own_row u id t own)
