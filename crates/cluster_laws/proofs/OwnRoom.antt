-- The journal of a store always has room for the outcomes of what goes on, so that it is opened again.
use Rattle.std.proofs.Common.{◌≡◌, inl, inr, refl, sym, ap, ◌∙◌, subst, ℕ, suc, ◌+◌, ◌≤◌, Bool, true, false, List, [], ◌∷◌, ◌++◌, Option, Some, None, cond, arith}
use Rattle.std.specs.Prelude.{⊤, option_to_list}
use Rattle.base_names.specs.declared.refusal.Refusal.{Refusal}
use Rattle.base_names.specs.declared.refusal.Refusal.TheVariants.{DISK}
use Rattle.base_names.specs.declared.seat.Seat.{Seat}
use Rattle.model_data.specs.declared.batch.BatchRecord.{BatchRecord}
use Rattle.model_data.specs.declared.batch.BatchRecord.TheVariants as is
use Rattle.table_defs.specs.Keyed.{IsKeyed}
use Rattle.table_defs.specs.Table.{Table, after, applied, no_rows, row_of}
use Rattle.table_defs.specs.Taken.{refusal}
use Rattle.table_defs.proofs.Keyed.{keyed_after, keyed_kept}
use Rattle.table_defs.proofs.Lists.{append_nil}
use Rattle.table_defs.proofs.Records.{after_append}
use Rattle.cluster_defs.specs.Appended.{record_of}
use Rattle.cluster_defs.specs.Asks.{Ask}
use Rattle.cluster_defs.specs.Cluster.{Cluster}
use Rattle.cluster_defs.specs.Deeds.{Asked, Deed, Disk, Faults, Finished, Kept, Left, Took}
use Rattle.cluster_defs.specs.Ends.{end_of}
use Rattle.cluster_defs.specs.Entries as answers
use Rattle.cluster_defs.specs.Entries.{Entry, EntryReply, faults_of}
use Rattle.cluster_defs.specs.Journal.{Becomes, Event, Journal, further, none_yet, table_behind, was_failed, was_kept, was_not_opened, was_opened}
use Rattle.cluster_defs.specs.Legal.{GivenBack, IsLegalFrom, back_at, cluster_from, given_back}
use Rattle.cluster_defs.specs.Life.{Brings, Life, Tells, cluster_at, event_in, event_of, events_from, events_of, in_doubt, lived, onto, opened_in_vain, stopped_in, told_of, untouched}
use Rattle.cluster_defs.specs.Opened.{opened}
use Rattle.cluster_defs.specs.Refusals.{ask_refusal, commands_refusal, journal_refusal, need, reserve}
use Rattle.cluster_defs.specs.Replies as tells
use Rattle.cluster_defs.specs.Room.{Fits, IsShort}
use Rattle.cluster_defs.specs.Site.{Site}
use Rattle.cluster_defs.specs.Step.{asked_with, step, still_open, within_limit}
use Rattle.cluster_defs.specs.Told.{well}
use Rattle.cluster_laws.specs.OwnRoom.{HasRoom, IsShortEvent}
use Rattle.cluster_laws.specs.Places.{Every}
use Rattle.cluster_laws.specs.Sound.{IsSound}
use Rattle.cluster_laws.proofs.Ends.{end_push, kept_end}
use Rattle.cluster_laws.proofs.Journals.{reached_sound}
use Rattle.cluster_laws.proofs.Lives.{back_good, back_journal, back_table, good_from, life_reaches, stopped_tells}
use Rattle.cluster_laws.proofs.Records.{IsOther, commands_other, disk_is_last, disk_other, tells_disk, room_from, step_tells}
use Rattle.cluster_laws.proofs.Room.{record_fits}
use Rattle.cluster_laws.proofs.SoundOpenings.{opened_is_good}
use Rattle.cluster_laws.proofs.SoundSteps.{step_is_good}

-- ---- each record that may be kept was looked at for room

abbrev HadRoom : Site → ℕ → Table → Option Event → Type 0
HadRoom k end t None = ⊤
HadRoom k end t (Some (was_kept r)) = journal_refusal k end t (Some r) ≡ None
HadRoom k end t (Some (was_failed r)) = journal_refusal k end t (Some r) ≡ None
HadRoom k end t (Some was_not_opened) = ⊤
HadRoom k end t (Some was_opened) = ⊤

told_room : (k : Site) (end : ℕ) (t : Table) (reply : EntryReply) (r : BatchRecord) → journal_refusal k end t (Some r) ≡ None → HadRoom k end t (told_of reply r)
told_room k end t (answers.Reply (tells.Refused (DISK before after))) r h = h
told_room k end t (answers.Reply (tells.Refused refusal)) r h = tt
told_room k end t (answers.Reply reply) r h = h
told_room k end t (answers.Finish Kept) r h = h
told_room k end t (answers.Finish (Disk before after)) r h = h
told_room k end t reply r h = tt

one_room : (k : Site) (end : ℕ) (t : Table) (reply : EntryReply) (r : Option BatchRecord) → journal_refusal k end t r ≡ None → HadRoom k end t (event_of reply r)
one_room k end t reply None h = tt
one_room k end t reply (Some r) h = told_room k end t reply r h

refused_room : (k : Site) (end : ℕ) (t : Table) (refusal : Refusal) (r : Option BatchRecord) → (tells_disk refusal ≡ true → journal_refusal k end t r ≡ None) → HadRoom k end t (event_of (answers.Reply (tells.Refused refusal)) r)
refused_room k end t refusal None h = tt
refused_room k end t (DISK before after) (Some r) h = h refl
refused_room k end t refusal (Some r) h = tt

asked_room : (k : Site) (c : Cluster) (seat : Seat) (ask : Ask) (f : Faults) (x0 x : Option Refusal) → IsOther x0 → ask_refusal k c seat ask f ≡ x → HadRoom k c.journal c.table (event_of (within_limit c x0 (asked_with k c seat ask x)).reply (record_of c.table c.placed seat ask))
asked_room k c seat ask f (Some r) x other h = refused_room k c.journal c.table r (record_of c.table c.placed seat ask) (λ disk. absurd (disk_other r other disk))
asked_room k c seat ask f None (Some r) other h = refused_room k c.journal c.table r (record_of c.table c.placed seat ask) (λ disk. (disk_is_last k c seat ask f r disk h).2)
asked_room k c seat ask f None None other h = one_room k c.journal c.table (asked_with k c seat ask None).reply (record_of c.table c.placed seat ask) (room_from k c seat ask f h)

finish_room : (k : Site) (end : ℕ) (t : Table) (r : BatchRecord) (b : Bool) → journal_refusal k end t (Some r) ≡ None → journal_refusal k end t (cond b (Some r) None) ≡ None
finish_room k end t r true h = h
finish_room k end t r false h = refl

event_room : (k : Site) (c : Cluster) (d : Deed) (f : Faults) → HadRoom k c.journal c.table (event_in c d (step k c d f).reply)
event_room k c (Asked seat ask) f = asked_room k c seat ask f (commands_refusal k c.usage c.jobs seat ask) (ask_refusal k c seat ask f) (commands_other _) refl
event_room k c (Took worker id n) f = tt
event_room k c (Finished id n result) f = one_room k c.journal c.table (step k c (Finished id n result) f).reply _ (finish_room k c.journal c.table (is.Finish id n result) (still_open n (row_of id c.table)) refl)
event_room k c (Left id n) f = tt

doubt_room : (k : Site) (end : ℕ) (t : Table) (event : Option Event) → HadRoom k end t event → HadRoom k end t (in_doubt event)
doubt_room k end t None h = tt
doubt_room k end t (Some (was_kept r)) h = h
doubt_room k end t (Some (was_failed r)) h = tt
doubt_room k end t (Some was_not_opened) h = tt
doubt_room k end t (Some was_opened) h = tt

stop_room : (k : Site) (c : Cluster) (deed : Option Deed) → HadRoom k c.journal c.table (stopped_in k c deed)
stop_room k c None = tt
stop_room k c (Some deed) = doubt_room k c.journal c.table (event_in c deed (step k c deed well).reply) (event_room k c deed well)

-- ---- one event

no_doubt : (k : Site) (end : ℕ) (t : Table) (doubt : Option BatchRecord) → doubt ≡ None → (r : BatchRecord) → doubt ≡ Some r → need k end t r ≤ k.setup.limits.journal
no_doubt k end t doubt none r is = absurd (grind (arith, none, is))

this_doubt : (k : Site) (end : ℕ) (t : Table) (s : BatchRecord) (doubt : Option BatchRecord) → doubt ≡ Some s → need k end t s ≤ k.setup.limits.journal → (r : BatchRecord) → doubt ≡ Some r → need k end t r ≤ k.setup.limits.journal
this_doubt k end t s doubt here h r is = let e : s ≡ r = cc in subst (λ (x : BatchRecord). need k end t x ≤ k.setup.limits.journal) e h

with_record : (k : Site) (j next : Journal) (r : BatchRecord) → next.records ≡ j.records ++ r ∷ [] → next.doubt ≡ None → need k (end_of k j.records) (table_behind j) r ≤ k.setup.limits.journal → HasRoom k next
with_record k j next r longer none h =
    let e : end_of k next.records ≡ end_of k j.records + 5 + k.record_bytes r = ap (end_of k) longer ∙ end_push k j.records r in
    let t : table_behind next ≡ applied r (table_behind j) = ap (λ (rs : List BatchRecord). after rs no_rows) longer ∙ after_append j.records (r ∷ []) no_rows in
    let n = ap reserve t in
    record { fits = omega (arith, e, n, h); doubt = no_doubt k (end_of k next.records) (table_behind next) next.doubt none }

same_records : (k : Site) (j next : Journal) → next.records ≡ j.records → HasRoom k j → ((r : BatchRecord) → next.doubt ≡ Some r → need k (end_of k j.records) (table_behind j) r ≤ k.setup.limits.journal) → HasRoom k next
same_records k j next is h doubt = record {
  fits = subst (λ (rs : List BatchRecord). end_of k rs + reserve (after rs no_rows) ≤ k.setup.limits.journal) (sym is) h.fits;
  doubt = λ r d. subst (λ (rs : List BatchRecord). need k (end_of k rs) (after rs no_rows) r ≤ k.setup.limits.journal) (sym is) (doubt r d);
}

found_room : (k : Site) (j next : Journal) (doubt : Option BatchRecord) → j.doubt ≡ doubt → next.records ≡ j.records ++ option_to_list doubt → next.doubt ≡ None → HasRoom k j → HasRoom k next
found_room k j next None is longer none h = same_records k j next (longer ∙ append_nil j.records) h (no_doubt k _ _ next.doubt none)
found_room k j next (Some r) is longer none h = with_record k j next r longer none (h.doubt r is)

pub opened_room : (k : Site) (j next : Journal) → Becomes was_opened j next → HasRoom k j → HasRoom k next
opened_room k j next b h = elim b.0 [ inl same ↦ same_records k j next same h (no_doubt k _ _ next.doubt b.1) | inr longer ↦ found_room k j next j.doubt refl longer b.1 h ]

failed_room : (k : Site) (j next : Journal) (r : BatchRecord) → Becomes (was_failed r) j next → need k (end_of k j.records) (table_behind j) r ≤ k.setup.limits.journal → HasRoom k j → HasRoom k next
failed_room k j next r b n h = elim b.1 [
  | inl as_it_was ↦ same_records k j next b.0 h (λ s is. h.doubt s (sym as_it_was ∙ is))
  | inr other ↦ elim other [ inl here ↦ same_records k j next b.0 h (this_doubt k _ _ r next.doubt here n) | inr gone ↦ same_records k j next b.0 h (no_doubt k _ _ next.doubt gone) ]
]

-- that a cluster is at a journal
record IsAt (k : Site) (c : Cluster) (j : Journal) : Type 0 where
  table : c.table ≡ table_behind j
  end : c.journal ≡ end_of k j.records
  keyed : IsKeyed c.table
  room : HasRoom k j

needed : (k : Site) (c : Cluster) (j : Journal) (r : BatchRecord) → IsAt k c j → refusal r c.table ≡ None → journal_refusal k c.journal c.table (Some r) ≡ None → IsShort k r → need k (end_of k j.records) (table_behind j) r ≤ k.setup.limits.journal
needed k c j r at taken had short =
    let e = ap reserve at.table in
    let n = record_fits k c.journal c.table r taken had at.keyed short (omega (arith, e, at.end, at.room.fits)) in
    let f = ap (λ (t : Table). reserve (applied r t)) at.table in
    omega (arith, n, at.end, f)

event_at : (k : Site) (event : Option Event) (c d : Cluster) (j : Journal) → Tells k event c d → HadRoom k c.journal c.table event → Every (IsShortEvent k) (option_to_list event) → IsAt k c j → (more : List Event) (last : Journal) → Brings (option_to_list event ++ more) j last
    → (middle : Journal) × IsAt k d middle × Brings more middle last
event_at k None c d j tells had short at more last b = (j, record { table = tells.0 ∙ at.table; end = tells.1 ∙ at.end; keyed = subst IsKeyed (sym tells.0) at.keyed; room = at.room }, b)
event_at k (Some (was_kept r)) c d j tells had short at more last b = (
  b.0,
  record {
    table = tells.2 ∙ (ap (applied r) at.table ∙ sym (ap (λ (rs : List BatchRecord). after rs no_rows) b.1.0 ∙ after_append j.records (r ∷ []) no_rows));
    end = kept_end k c d r j.records b.0.records tells.3 at.end b.1.0;
    keyed = subst IsKeyed (sym tells.2) (keyed_kept r c.table tells.0 at.keyed);
    room = with_record k j b.0 r b.1.0 b.1.1 (needed k c j r at tells.0 had short.0);
  },
  b.2,
)
event_at k (Some (was_failed r)) c d j tells had short at more last b = (
  b.0,
  record {
    table = tells.1 ∙ (at.table ∙ sym (ap (λ (rs : List BatchRecord). after rs no_rows) b.1.0));
    end = tells.2 ∙ (at.end ∙ sym (ap (end_of k) b.1.0));
    keyed = subst IsKeyed (sym tells.1) at.keyed;
    room = failed_room k j b.0 r b.1 (needed k c j r at tells.0 had short.0) at.room;
  },
  b.2,
)
event_at k (Some was_not_opened) c d j tells had short at more last b = absurd tells
event_at k (Some was_opened) c d j tells had short at more last b = absurd tells

-- ---- a history and a life

front_part : {A : Type 0} (P : A → Type 0) (xs ys : List A) → Every P (xs ++ ys) → Every P xs × Every P ys
front_part P [] ys h = (tt, h)
front_part P (x ∷ xs) ys h = let r = front_part P xs ys h.1 in ((h.0, r.0), r.1)

onto_part : (P : Event → Type 0) (xs events : List Event) → Every P (onto xs events) → Every P xs × Every P events
onto_part P [] events h = (tt, h)
onto_part P (x ∷ xs) events h = let r = onto_part P xs (x ∷ events) h in ((r.1.0, r.0), r.1.1)

history_at : (k : Site) (H : List Entry) (N : List GivenBack) (n faults : ℕ) (c : Cluster) (j last : Journal) → IsLegalFrom k n faults c N H → IsSound c → IsAt k c j → Every (IsShortEvent k) (events_from k n c N H) → Brings (events_from k n c N H) j last → IsAt k (cluster_from k n c N H) last
history_at k [] N n faults c j last legal good at short b =
    let t = back_table (back_at n N) c in
    subst (IsAt k (given_back (back_at n N) c)) (sym b) (record { table = t ∙ at.table; end = back_journal (back_at n N) c ∙ at.end; keyed = subst IsKeyed (sym t) at.keyed; room = at.room })
history_at k (e ∷ es) N n faults c j last legal good at short b =
    let d = given_back (back_at n N) c in
    let t = back_table (back_at n N) c in
    let g : IsSound d = back_good (back_at n N) c good in
    let next = (step k d e.deed (faults_of e)).next in
    let event = event_in d e.deed e.reply in
    let tells : Tells k event d next = subst (λ (reply : EntryReply). Tells k (event_in d e.deed reply) d next) (sym legal.1.reply) (step_tells k d e.deed (faults_of e) g) in
    let had : HadRoom k d.journal d.table event = subst (λ (reply : EntryReply). HadRoom k d.journal d.table (event_in d e.deed reply)) (sym legal.1.reply) (event_room k d e.deed (faults_of e)) in
    let more = events_from k (suc n) next N es in
    let s = front_part (IsShortEvent k) (option_to_list event) more short in
    let m = event_at k event d next j tells had s.0 (record { table = t ∙ at.table; end = back_journal (back_at n N) c ∙ at.end; keyed = subst IsKeyed (sym t) at.keyed; room = at.room }) more last b in
    history_at k es N (suc n) e.after next m.0 last legal.2 (step_is_good k d e.deed (faults_of e) g) m.1 s.1 m.2

stop_at : (k : Site) (event : Option Event) (c : Cluster) (j next : Journal) → Tells k event c c → HadRoom k c.journal c.table event → Every (IsShortEvent k) (option_to_list event) → IsAt k c j → Brings (option_to_list event) j next → HasRoom k next
stop_at k event c j next tells had short at b =
    let m = event_at k event c c j tells had short at [] next (subst (λ (es : List Event). Brings es j next) (sym (append_nil (option_to_list event))) b) in
    subst (HasRoom k) (sym m.2) m.1.room

none_room : (k : Site) → 8 ≤ k.setup.limits.journal → HasRoom k none_yet
none_room k least = record { fits = omega (arith, least); doubt = no_doubt k (end_of k []) no_rows None refl }

pub life_room : {k : Site} {events : List Event} {j : Journal} → Life k events j → 8 ≤ k.setup.limits.journal → Every (IsShortEvent k) events → HasRoom k j
life_room {k} untouched least short = none_room k least
life_room {k} (opened_in_vain {j = j} next before becomes) least short = let h = life_room before least short.1 in same_records k j next becomes.0 h (λ s is. h.doubt s (sym becomes.1 ∙ is))
life_room {k} (lived {events = events} {j = j} first last next o before becomes ended legal may brings stops) least short =
    let t = table_behind first in
    let c = cluster_at k t o in
    let s = onto_part (IsShortEvent k) (option_to_list (stopped_in k c o.under_way)) (onto (events_of k t o) (was_opened ∷ events)) short in
    let q = onto_part (IsShortEvent k) (events_of k t o) (was_opened ∷ events) s.1 in
    let keyed = keyed_after first.records (reached_sound (further was_opened first (life_reaches before) (tt, becomes))).taken in
    let good = opened_is_good k t o.end keyed in
    let begin : IsAt k (opened k t o.end) first = record { table = refl; end = ended; keyed = keyed; room = opened_room k j first becomes (life_room before least q.1.1) } in
    let at = history_at k o.history o.returned 0 o.faults (opened k t o.end) first last legal good begin q.0 brings in
    stop_at k (stopped_in k c o.under_way) c last next (stopped_tells k c o.under_way (good_from k o.history o.returned 0 (opened k t o.end) good)) (stop_room k c o.under_way) s.0 at stops

pub opening_fits : (k : Site) (events : List Event) (j first : Journal) (end : ℕ) → Life k events j → 8 ≤ k.setup.limits.journal → Every (IsShortEvent k) events → Becomes was_opened j first → end ≡ end_of k first.records → Fits k (opened k (table_behind first) end)
opening_fits k events j first end life least short becomes ended = let h = opened_room k j first becomes (life_room life least short) in omega (arith, h.fits, ended)
