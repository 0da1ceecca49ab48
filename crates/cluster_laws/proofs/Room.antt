-- An outcome always fits into the journal, since it frees its reserve.
use Rattle.std.proofs.Common.{◌≡◌, refl, sym, ap, subst, ℕ, suc, ◌+◌, ◌≤◌, ◌==◌, true, false, List, [], ◌∷◌, ◌++◌, length, Option, Some, None, arith}
use Rattle.std.specs.Prelude.{option_to_list, nat_le}
use Rattle.std.proofs.lemmas.Bool.Decides.{nat_tests}
use Rattle.base_names.specs.declared.id.BatchId.{BatchId}
use Rattle.base_names.specs.declared.refusal.Refusal.TheVariants.{JOURNALFULL}
use Rattle.model_data.specs.declared.batch.AttemptOf.{AttemptOf}
use Rattle.model_data.specs.declared.batch.BatchRecord.{BatchRecord}
use Rattle.model_data.specs.declared.batch.BatchRecord.TheVariants.{Create, Abort, Discard, Retry, Finish, Lost, Next}
use Rattle.model_data.specs.declared.batch.BatchResult.{BatchResult}
use Rattle.table_defs.specs.Keyed.{IsKeyed}
use Rattle.table_defs.specs.Names.{is_id}
use Rattle.table_defs.specs.Table.{Table, aborted, after, applied, completed, ended, failed as lost_status, lost, no_rows, row_of, submitted, with_row}
use Rattle.table_defs.specs.Taken.{first_refusal, is_open, lost_refusal, on_row, refusal}
use Rattle.cluster_defs.specs.Listing.{is_going_on}
use Rattle.cluster_defs.specs.Cluster.{Cluster}
use Rattle.cluster_defs.specs.Entries.{faults_of}
use Rattle.cluster_defs.specs.Journal.{Event, was_failed, was_kept, was_not_opened, was_opened}
use Rattle.cluster_defs.specs.Legal.{GivenBack, IsLegal, IsLegalFrom, back_at, cluster_behind, cluster_from, given_back}
use Rattle.cluster_defs.specs.Life.{Tells, event_in, events_from}
use Rattle.cluster_defs.specs.Opened.{opened}
use Rattle.cluster_defs.specs.Refusals.{journal_refusal, need, reserve, room_refusal}
use Rattle.cluster_defs.specs.Room.{AreShort, Fits, IsOutcome, IsShort}
use Rattle.cluster_defs.specs.Site.{Site}
use Rattle.cluster_laws.specs.Sound.{IsSound}
use Rattle.cluster_defs.specs.Step.{step}
use Rattle.table_defs.proofs.Keyed.{keyed_after, keyed_kept, single_with}
use Rattle.table_defs.proofs.Names.{and_left}
use Rattle.table_defs.proofs.Records.{or_first, or_then}
use Rattle.table_defs.proofs.Rows.{numbered_with, unless_none, wanted_row}
use Rattle.cluster_laws.proofs.Lists.{one_fewer}
use Rattle.cluster_laws.proofs.Lives.{back_good, back_journal, back_table}
use Rattle.cluster_laws.proofs.Records.{step_tells}
use Rattle.cluster_laws.proofs.SoundOpenings.{opened_is_good}
use Rattle.cluster_laws.proofs.SoundSteps.{step_is_good}
use Rattle.cluster_laws.proofs.Weights.{going_on}
use Rattle.cluster_defs.specs.Entries.{Entry}
use Rattle.cluster_defs.specs.Entries.{EntryReply}

-- ---- an outcome ends one attempt, or as many as it has items

frees_one : (id : BatchId) (n status : ℕ) (result : Option BatchResult) (t : Table) → (status == submitted) ≡ false → on_row (is_open n) (row_of id t) ≡ None → IsKeyed t → going_on (with_row id (ended status result) t) + 1 ≡ going_on t
frees_one id n status result t over taken o =
    let w = wanted_row (is_open n) (row_of id t) taken in
    one_fewer (λ row. is_id id row.id) is_going_on (ended status result) t.rows w.0 (o.single id) w.1 (and_left (is_going_on w.0) (w.0.attempt == n) w.2) over

ordered_ended : (id : BatchId) (status : ℕ) (result : Option BatchResult) (t : Table) → IsKeyed t → IsKeyed (with_row id (ended status result) t)
ordered_ended id status result t o = record { numbered = numbered_with id (ended status result) t (λ row. refl) o.numbered; single = single_with id (ended status result) t (λ row. refl) o.single }

frees_all : (items : List AttemptOf) (t : Table) → lost_refusal items t ≡ None → IsKeyed t → going_on (lost items t) + length items ≡ going_on t
frees_all [] t taken o = omega arith
frees_all (item ∷ items) t taken o =
    let next = with_row item.id (ended lost_status None) t in
    let first = frees_one item.id item.attempt lost_status None t refl (or_first (on_row (is_open item.attempt) (row_of item.id t)) (lost_refusal items next) taken) o in
    let later = frees_all items next (or_then (on_row (is_open item.attempt) (row_of item.id t)) (lost_refusal items next) taken) (ordered_ended item.id lost_status None t o) in
    omega (arith, first, later)

pub frees : (r : BatchRecord) (n : ℕ) (t : Table) → IsOutcome r n → refusal r t ≡ None → IsKeyed t → going_on (applied r t) + n ≡ going_on t
frees (Abort id attempt) n t is taken o = let e = frees_one id attempt aborted None t refl taken o in omega (arith, e, is)
frees (Finish id attempt result) n t is taken o = let e = frees_one id attempt completed (Some result) t refl taken o in omega (arith, e, is)
frees (Lost items) n t is taken o = let e = frees_all items t taken o in omega (arith, e, is)
frees (Create id attempt body) n t is taken o = absurd is
frees (Discard id) n t is taken o = absurd is
frees (Retry id attempt) n t is taken o = absurd is
frees (Next id) n t is taken o = absurd is

-- An Abort, a Finish and a Lost that are taken always fit.
pub outcome_fits : (k : Site) (end : ℕ) (t : Table) (r : BatchRecord) (n : ℕ) → IsOutcome r n → refusal r t ≡ None → IsKeyed t → IsShort k r → end + reserve t ≤ k.setup.limits.journal → need k end t r ≤ k.setup.limits.journal
outcome_fits k end t r n is taken o short fits = let e = frees r n t is taken o in let s = short n is in omega (arith, e, s, fits)

-- ---- any record

room_left : (k : Site) (end : ℕ) (t : Table) (r : BatchRecord) → room_refusal k end t r ≡ None → need k end t r ≤ k.setup.limits.journal
room_left k end t r h = let b : nat_le (need k end t r) k.setup.limits.journal ≡ true = unless_none _ (JOURNALFULL (need k end t r) k.setup.limits.journal) h in grind (arith, nat_tests, b)

pub record_fits : (k : Site) (end : ℕ) (t : Table) (r : BatchRecord) → refusal r t ≡ None → journal_refusal k end t (Some r) ≡ None → IsKeyed t → IsShort k r → end + reserve t ≤ k.setup.limits.journal → need k end t r ≤ k.setup.limits.journal
record_fits k end t (Abort id attempt) taken room o short fits = outcome_fits k end t (Abort id attempt) 1 refl taken o short fits
record_fits k end t (Finish id attempt result) taken room o short fits = outcome_fits k end t (Finish id attempt result) 1 refl taken o short fits
record_fits k end t (Lost items) taken room o short fits = outcome_fits k end t (Lost items) (length items) refl taken o short fits
record_fits k end t (Create id attempt body) taken room o short fits = room_left k end t (Create id attempt body) room
record_fits k end t (Discard id) taken room o short fits = room_left k end t (Discard id) room
record_fits k end t (Retry id attempt) taken room o short fits = room_left k end t (Retry id attempt) room
record_fits k end t (Next id) taken room o short fits = room_left k end t (Next id) room

-- ---- a step

pub record Stays (k : Site) (c d : Cluster) : Type 0 where
  pub ordered : IsKeyed d.table
  pub fits : Fits k d
  pub rises : c.journal ≤ d.journal

as_before : (k : Site) (c d : Cluster) → d.table ≡ c.table → d.journal ≡ c.journal → IsKeyed c.table → Fits k c → Stays k c d
as_before k c d table end o fits = record { ordered = subst IsKeyed (sym table) o; fits = let e = ap reserve table in omega (arith, e, end, fits); rises = omega (arith, end) }

pub event_stays : (k : Site) (event : Option Event) (c d : Cluster) → Tells k event c d → (more : List Event) → AreShort k (option_to_list event ++ more) → IsKeyed c.table → Fits k c → Stays k c d × AreShort k more
event_stays k None c d tells more short o fits = (as_before k c d tells.0 tells.1 o fits, short)
event_stays k (Some (was_kept r)) c d tells more short o fits =
    let n = record_fits k c.journal c.table r tells.0 tells.1 o short.0 fits in
    let e = ap reserve tells.2 in
    (record { ordered = subst IsKeyed (sym tells.2) (keyed_kept r c.table tells.0 o); fits = omega (arith, n, e, tells.3); rises = omega (arith, tells.3) }, short.1)
event_stays k (Some (was_failed r)) c d tells more short o fits = (as_before k c d tells.1 tells.2 o fits, short)
event_stays k (Some was_not_opened) c d tells more short o fits = absurd tells
event_stays k (Some was_opened) c d tells more short o fits = absurd tells

-- ---- a history

pub history_stays : (k : Site) (H : List Entry) (N : List GivenBack) (n faults : ℕ) (c : Cluster) → IsLegalFrom k n faults c N H → IsSound c → IsKeyed c.table → Fits k c → AreShort k (events_from k n c N H) → Stays k c (cluster_from k n c N H)
history_stays k [] N n faults c legal good o fits short = as_before k c (given_back (back_at n N) c) (back_table (back_at n N) c) (back_journal (back_at n N) c) o fits
history_stays k (e ∷ es) N n faults c legal good o fits short =
    let d = given_back (back_at n N) c in
    let b = as_before k c d (back_table (back_at n N) c) (back_journal (back_at n N) c) o fits in
    let g : IsSound d = back_good (back_at n N) c good in
    let next = (step k d e.deed (faults_of e)).next in
    let event = event_in d e.deed e.reply in
    let tells : Tells k event d next = subst (λ (reply : EntryReply). Tells k (event_in d e.deed reply) d next) (sym legal.1.reply) (step_tells k d e.deed (faults_of e) g) in
    let s = event_stays k event d next tells (events_from k (suc n) next N es) short b.ordered b.fits in
    let later = history_stays k es N (suc n) e.after next legal.2 (step_is_good k d e.deed (faults_of e) g) s.0.ordered s.0.fits s.1 in
    record { ordered = later.ordered; fits = later.fits; rises = omega (arith, b.rises, s.0.rises, later.rises) }

pub behind_stays : (k : Site) (rs : List BatchRecord) (end faults : ℕ) (H : List Entry) (N : List GivenBack) → first_refusal rs no_rows ≡ None → IsLegal k (after rs no_rows) end faults H N → Fits k (opened k (after rs no_rows) end)
    → AreShort k (events_from k 0 (opened k (after rs no_rows) end) N H) → Fits k (cluster_behind k (after rs no_rows) end H N)
behind_stays k rs end faults H N taken legal fits short =
    let o = keyed_after rs taken in (history_stays k H N 0 faults (opened k (after rs no_rows) end) legal (opened_is_good k (after rs no_rows) end o) o fits short).fits

-- What taken records keep of a table holds of the table behind a history.
event_keeps : (k : Site) (P : Table → Type 0) → ((r : BatchRecord) (t : Table) → refusal r t ≡ None → P t → P (applied r t)) → (event : Option Event) (c d : Cluster) → Tells k event c d → P c.table → P d.table
event_keeps k P kept None c d tells h = subst P (sym tells.0) h
event_keeps k P kept (Some (was_kept r)) c d tells h = subst P (sym tells.2) (kept r c.table tells.0 h)
event_keeps k P kept (Some (was_failed r)) c d tells h = subst P (sym tells.1) h
event_keeps k P kept (Some was_not_opened) c d tells h = absurd tells
event_keeps k P kept (Some was_opened) c d tells h = absurd tells

pub table_history : (k : Site) (P : Table → Type 0) → ((r : BatchRecord) (t : Table) → refusal r t ≡ None → P t → P (applied r t)) → (H : List Entry) (N : List GivenBack) (n : ℕ) (c : Cluster) → IsSound c → P c.table → P (cluster_from k n c N H).table
table_history k P kept [] N n c good h = subst P (sym (back_table (back_at n N) c)) h
table_history k P kept (e ∷ es) N n c good h =
    let d = given_back (back_at n N) c in
    let g : IsSound d = back_good (back_at n N) c good in
    let s = step k d e.deed (faults_of e) in
    table_history k P kept es N (suc n) s.next (step_is_good k d e.deed (faults_of e) g) (event_keeps k P kept (event_in d e.deed s.reply) d s.next (step_tells k d e.deed (faults_of e) g) (subst P (sym (back_table (back_at n N) c)) h))

pub behind_fits : (k : Site) (rs : List BatchRecord) (end : ℕ) (H : List Entry) (N : List GivenBack) (r : BatchRecord) (n : ℕ) → first_refusal rs no_rows ≡ None → Fits k (cluster_behind k (after rs no_rows) end H N) → IsOutcome r n → IsShort k r
    → refusal r (cluster_behind k (after rs no_rows) end H N).table ≡ None → need k (cluster_behind k (after rs no_rows) end H N).journal (cluster_behind k (after rs no_rows) end H N).table r ≤ k.setup.limits.journal
behind_fits k rs end H N r n taken fits is short now =
    let o = keyed_after rs taken in
    outcome_fits k (cluster_behind k (after rs no_rows) end H N).journal (cluster_behind k (after rs no_rows) end H N).table r n is now (table_history k IsKeyed keyed_kept H N 0 (opened k (after rs no_rows) end) (opened_is_good k (after rs no_rows) end o) o) short fits

-- The end never falls.
event_rises : (k : Site) (event : Option Event) (c d : Cluster) → Tells k event c d → c.journal ≤ d.journal
event_rises k None c d tells = omega (arith, tells.1)
event_rises k (Some (was_kept r)) c d tells = omega (arith, tells.3)
event_rises k (Some (was_failed r)) c d tells = omega (arith, tells.2)
event_rises k (Some was_not_opened) c d tells = absurd tells
event_rises k (Some was_opened) c d tells = absurd tells

rises_from : (k : Site) (H : List Entry) (N : List GivenBack) (n : ℕ) (c : Cluster) → IsSound c → c.journal ≤ (cluster_from k n c N H).journal
rises_from k [] N n c good = omega (arith, back_journal (back_at n N) c)
rises_from k (e ∷ es) N n c good =
    let d = given_back (back_at n N) c in
    let g : IsSound d = back_good (back_at n N) c good in
    let s = step k d e.deed (faults_of e) in
    let b = back_journal (back_at n N) c in
    let r = event_rises k (event_in d e.deed s.reply) d s.next (step_tells k d e.deed (faults_of e) g) in
    let later = rises_from k es N (suc n) s.next (step_is_good k d e.deed (faults_of e) g) in
    omega (arith, b, r, later)

pub behind_rises : (k : Site) (rs : List BatchRecord) (end faults : ℕ) (H : List Entry) (N : List GivenBack) → first_refusal rs no_rows ≡ None → IsLegal k (after rs no_rows) end faults H N → end ≤ (cluster_behind k (after rs no_rows) end H N).journal
behind_rises k rs end faults H N taken legal = rises_from k H N 0 (opened k (after rs no_rows) end) (opened_is_good k (after rs no_rows) end (keyed_after rs taken))
