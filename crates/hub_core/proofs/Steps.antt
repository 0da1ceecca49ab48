-- One step of a store, by what is asked and how it is answered.
use Rattle.std.proofs.Common.{◌≡◌, refl, sym, ◌∙◌, ap, ap₂, subst, arith, rules, ℕ, ◌+◌, ◌*◌, ◌<◌, ◌≤◌, ◌^◌, Bool, true, false, not, List, [], ◌∷◌, ◌++◌, length, Option, Some, None, cond, if◌then◌else◌, length-append}
use Rattle.std.specs.Prelude.{filter, nat_le, nat_lt, ◌||◌, ◌==◌}
use Rattle.std.proofs.lemmas.Bool.Decides.{nat_tests}
use Rattle.std.proofs.lemmas.List.Elements.{filter-append}
use Rattle.base_names.specs.declared.id.BatchId.{BatchId}
use Rattle.base_names.specs.declared.refusal.OwnerLimit.TheVariants.{Commands}
use Rattle.base_names.specs.declared.refusal.Refusal.{Refusal}
use Rattle.base_names.specs.declared.refusal.Refusal.TheVariants.{BATCH, DISK, OWNERFULL}
use Rattle.base_names.specs.declared.seat.Seat.{Seat}
use Rattle.cluster_defs.specs.Appended.{next_id}
use Rattle.cluster_defs.specs.Asks as asks
use Rattle.cluster_defs.specs.Asks.{asked_today}
use Rattle.cluster_defs.specs.Charges.{counted}
use Rattle.cluster_defs.specs.Cluster.{usage_of}
use Rattle.cluster_defs.specs.Deeds.{Faults}
use Rattle.cluster_defs.specs.Refusals.{bytes_refusal, commands_refusal, disk_refusal, is_at_limit, journal_refusal, need, numbers_refusal, reserve, reserved, seen_row}
use Rattle.cluster_defs.specs.Replies as tells
use Rattle.cluster_defs.specs.Site.{Site}
use Rattle.cluster_defs.specs.Store.{Store, Stored, count_in, store_refusal, store_step, stored_with, stored_within}
use Rattle.cluster_defs.specs.declared.ask.Ask.{Ask}
use Rattle.cluster_defs.specs.declared.ask.Ask.TheVariants.{Create, Status}
use Rattle.cluster_defs.specs.declared.reply.Reply.{Reply}
use Rattle.hub_core.specs.Answering.{creating_refusal, told_row, told_status}
use Rattle.cluster_defs.specs.Replies.{told_today}
use Rattle.model_data.specs.declared.batch.BatchBody.{BatchBody}
use Rattle.model_data.specs.declared.batch.BatchRecord.{BatchRecord}
use Rattle.model_data.specs.declared.batch.BatchRecord.TheVariants as is
use Rattle.model_data.specs.declared.batch.BatchRow.{BatchRow}
use Rattle.table_defs.proofs.Records.{or_first}
use Rattle.table_defs.specs.Names.{is_owner}
use Rattle.table_defs.specs.Table.{Table, applied, greatest, new_row, row_of, submitted}
use Rattle.table_defs.specs.Taken.{on_row, or_else, refusal, unless}

-- ---- the limit on commands

full_refused : (seat : Seat) (ask : Ask) (k : Site) (s : Store) → is_at_limit k (usage_of seat.owner s.usage) ≡ true → commands_refusal k s.usage [] seat (asked_today ask) ≡ Some (OWNERFULL Commands)
full_refused seat (Create body) k s full = rw full
full_refused seat (Status id) k s full = rw full

pub free_allowed : (seat : Seat) (ask : Ask) (k : Site) (s : Store) → is_at_limit k (usage_of seat.owner s.usage) ≡ false → commands_refusal k s.usage [] seat (asked_today ask) ≡ None
free_allowed seat (Create body) k s free = rw free
free_allowed seat (Status id) k s free = rw free

pub step_full : (k : Site) (s : Store) (seat : Seat) (ask : Ask) (f : Faults) → is_at_limit k (usage_of seat.owner s.usage) ≡ true → store_step k s seat ask f ≡ record { next = s; reply = tells.Refused (OWNERFULL Commands) }
step_full k s seat ask f full = ap (λ (o : Option Refusal). stored_within s o (stored_with k s seat (asked_today ask) (store_refusal k s seat (asked_today ask) f))) (full_refused seat ask k s full)

allowed : (k : Site) (s : Store) (seat : Seat) (ask : Ask) (f : Faults) → is_at_limit k (usage_of seat.owner s.usage) ≡ false → store_step k s seat ask f ≡ stored_with k s seat (asked_today ask) (store_refusal k s seat (asked_today ask) f)
allowed k s seat ask f free = ap (λ (o : Option Refusal). stored_within s o (stored_with k s seat (asked_today ask) (store_refusal k s seat (asked_today ask) f))) (free_allowed seat ask k s free)

-- ---- the status of a batch

-- what is told of a row that is there, or of none
status_as : (k : Site) (s : Store) (seat : Seat) (id : BatchId) (f : Faults) (own : Bool) (found : Option BatchRow)
    → is_owner seat.owner id.owner ≡ own → row_of id s.table ≡ found
    → stored_with k s seat (asks.Status id) (or_else (on_row (λ row. true) (if own then found else None)) None) ≡ record { next = record { table = s.table; usage = counted seat.owner false 0 s.usage; journal = s.journal }; reply = told_today (told_row id (if own then found else None)) }
status_as k s seat id f false found own is = refl
status_as k s seat id f true None own is = refl
status_as k s seat id f true (Some row) own is = rw is refl

pub step_status : (k : Site) (s : Store) (seat : Seat) (id : BatchId) (f : Faults) → is_at_limit k (usage_of seat.owner s.usage) ≡ false
    → store_step k s seat (Status id) f ≡ record { next = record { table = s.table; usage = counted seat.owner false 0 s.usage; journal = s.journal }; reply = told_today (told_status s.table seat id) }
step_status k s seat id f free = allowed k s seat (Status id) f free ∙ status_as k s seat id f (is_owner seat.owner id.owner) (row_of id s.table) refl refl

-- ---- a batch that is created

or_later : (a b c x : Option Refusal) (r : Refusal) → or_else a (or_else b (or_else c None)) ≡ Some r → or_else a (or_else b (or_else c x)) ≡ Some r
or_later (Some a) b c x r is = is
or_later None (Some b) c x r is = is
or_later None None (Some c) x r is = is
or_later None None None x r is = absurd (grind (arith, is))

or_none : (a b c x : Option Refusal) → or_else a (or_else b (or_else c None)) ≡ None → or_else a (or_else b (or_else c x)) ≡ x
or_none (Some a) b c x is = absurd (grind (arith, is))
or_none None (Some b) c x is = absurd (grind (arith, is))
or_none None None (Some c) x is = absurd (grind (arith, is))
or_none None None None x is = refl

last_refusal : (x : Option Refusal) → or_else x None ≡ x
last_refusal None = refl
last_refusal (Some r) = refl

abbrev pub charged : Site → Seat → BatchBody → ℕ
charged k seat body = k.record_bytes (is.Create record { owner = seat.owner; number = 1 } 1 body)

pub step_refused : (k : Site) (s : Store) (seat : Seat) (body : BatchBody) (why : Refusal) (f : Faults) → is_at_limit k (usage_of seat.owner s.usage) ≡ false → creating_refusal k s seat body ≡ Some why
    → store_step k s seat (Create body) f ≡ record { next = record { table = s.table; usage = counted seat.owner false (charged k seat body) s.usage; journal = s.journal }; reply = tells.Refused why }
step_refused k s seat body why f free told =
    allowed k s seat (Create body) f free ∙ ap (stored_with k s seat (asks.Create body))
    (or_later (numbers_refusal s.table seat (asks.Create body)) (bytes_refusal k s.table seat (asks.Create body)) (journal_refusal k s.journal s.table (Some (is.Create (next_id seat.owner s.table) 1 body))) (or_else (disk_refusal f (Some (is.Create (next_id seat.owner s.table) 1 body))) None) why told)

creates : (k : Site) (s : Store) (seat : Seat) (body : BatchBody) (f : Faults) (o : Option Refusal) → is_at_limit k (usage_of seat.owner s.usage) ≡ false → creating_refusal k s seat body ≡ None → disk_refusal f (Some (is.Create (next_id seat.owner s.table) 1 body)) ≡ o
    → store_step k s seat (Create body) f ≡ stored_with k s seat (asks.Create body) o
creates k s seat body f o free none disk =
    allowed k s seat (Create body) f free ∙ ap (stored_with k s seat (asks.Create body))
    (or_none (numbers_refusal s.table seat (asks.Create body)) (bytes_refusal k s.table seat (asks.Create body)) (journal_refusal k s.journal s.table (Some (is.Create (next_id seat.owner s.table) 1 body))) (or_else (disk_refusal f (Some (is.Create (next_id seat.owner s.table) 1 body))) None) none
    ∙ (last_refusal (disk_refusal f (Some (is.Create (next_id seat.owner s.table) 1 body))) ∙ disk))

le_true : (a b : ℕ) → a ≤ b → nat_le a b ≡ true
le_true a b h = grind (arith, nat_tests, h)

lt_false : (a b : ℕ) → b < a → nat_le a b ≡ false
lt_false a b h = grind (arith, nat_tests, h)

pub step_made : (k : Site) (s : Store) (seat : Seat) (body : BatchBody) (f : Faults) → is_at_limit k (usage_of seat.owner s.usage) ≡ false → creating_refusal k s seat body ≡ None → f.after ≤ f.before
    → let r = is.Create (next_id seat.owner s.table) 1 body in
    store_step k s seat (Create body) f ≡ record { next = record { table = applied r s.table; usage = counted seat.owner false (charged k seat body) s.usage; journal = s.journal + 5 + k.record_bytes r }; reply = tells.Made (next_id seat.owner s.table) }
step_made k s seat body f free none steady = creates k s seat body f None free none (ap (λ (b : Bool). unless b (DISK f.before f.after)) (le_true f.after f.before steady))

pub step_disk : (k : Site) (s : Store) (seat : Seat) (body : BatchBody) (f : Faults) → is_at_limit k (usage_of seat.owner s.usage) ≡ false → creating_refusal k s seat body ≡ None → f.before < f.after
    → store_step k s seat (Create body) f ≡ record { next = record { table = s.table; usage = counted seat.owner false (charged k seat body) s.usage; journal = s.journal }; reply = tells.Refused (DISK f.before f.after) }
step_disk k s seat body f free none rose = creates k s seat body f (Some (DISK f.before f.after)) free none (ap (λ (b : Bool). unless b (DISK f.before f.after)) (lt_false f.after f.before rose))

-- ---- what a new batch changes

pub new_taken : (owner : List ℕ) (attempt : ℕ) (body : BatchBody) (t : Table) → refusal (is.Create (next_id owner t) attempt body) t ≡ None
new_taken owner attempt body t = ap (λ (b : Bool). unless b BATCH) (next_above (greatest owner t)) where
  next_above : (n : ℕ) → nat_lt n (n + 1) ≡ true
  next_above n = grind (arith, nat_tests)

pub reserve_more : (id : BatchId) (attempt : ℕ) (body : BatchBody) (t : Table) → reserve (applied (is.Create id attempt body) t) ≡ reserve t + reserved
reserve_more id attempt body t =
    let more : length (filter (λ (row : BatchRow). row.status == submitted) (t.rows ++ new_row id attempt body ∷ [])) ≡ length (filter (λ (row : BatchRow). row.status == submitted) t.rows) + 1
    = ap length (filter-append (λ (row : BatchRow). row.status == submitted) t.rows (new_row id attempt body ∷ [])) ∙ length-append (filter (λ (row : BatchRow). row.status == submitted) t.rows) (new_row id attempt body ∷ []) in
    omega (arith, more)

le_of : (a b : ℕ) (r : Refusal) → unless (nat_le a b) r ≡ None → a ≤ b
le_of a b r is = grind (arith, nat_tests, is)

or_third : (a b c : Option Refusal) → or_else a (or_else b (or_else c None)) ≡ None → c ≡ None
or_third (Some a) b c is = absurd (grind (arith, is))
or_third None (Some b) c is = absurd (grind (arith, is))
or_third None None (Some c) is = absurd (grind (arith, is))
or_third None None None is = refl

-- A batch that is not refused has room in the journal.
pub room_for : (k : Site) (s : Store) (seat : Seat) (body : BatchBody) → creating_refusal k s seat body ≡ None → need k s.journal s.table (is.Create (next_id seat.owner s.table) 1 body) ≤ k.setup.limits.journal
room_for k s seat body none = le_of _ _ _ (or_third (numbers_refusal s.table seat (asks.Create body)) (bytes_refusal k s.table seat (asks.Create body)) (journal_refusal k s.journal s.table (Some (is.Create (next_id seat.owner s.table) 1 body))) none)

-- An owner that may ask has asked less than the limit, and was charged less than the most.
pub below_limit : (limit entries most charges : ℕ) → (nat_le limit entries || nat_le most charges) ≡ false → (entries < limit) × (charges < most)
below_limit limit entries most charges free = by (nat_le limit entries) (nat_le most charges) refl refl free where
  by : (a b : Bool) → nat_le limit entries ≡ a → nat_le most charges ≡ b → (a || b) ≡ false → (entries < limit) × (charges < most)
  by true b p q h = absurd (grind (arith, h))
  by false true p q h = absurd (grind (arith, h))
  by false false p q h = (grind (arith, nat_tests, p), grind (arith, nat_tests, q))

-- An owner whose batch is not refused has a number left.
pub numbers_left : (k : Site) (s : Store) (seat : Seat) (body : BatchBody) → creating_refusal k s seat body ≡ None → greatest seat.owner s.table < 4294967295
numbers_left k s seat body none = lt_of (greatest seat.owner s.table) 4294967295 _ (or_first (numbers_refusal s.table seat (asks.Create body)) _ none) where
  lt_of : (a b : ℕ) (r : Refusal) → unless (nat_lt a b) r ≡ None → a < b
  lt_of a b r is = grind (arith, nat_tests, is)
