-- The history of a store: what was asked and replied, with the disk's counts of faults around it.
use Rattle.std.specs.Prelude.{◌≡◌, ◌≤◌, ℕ, ⊤, Bool, true, false, List, [], ◌∷◌, ◌++◌, map, Option, None, option_to_list}
use Rattle.base_names.specs.declared.refusal.Refusal.TheVariants.{DISK}
use Rattle.base_names.specs.declared.seat.Seat.{Seat}
use Rattle.cluster_defs.specs.Appended.{record_of}
use Rattle.cluster_defs.specs.Asking.{entries_of}
use Rattle.cluster_defs.specs.Asks.{asked_today}
use Rattle.cluster_defs.specs.Deeds.{Faults}
use Rattle.cluster_defs.specs.Entries as answers
use Rattle.cluster_defs.specs.Journal.{Event}
use Rattle.cluster_defs.specs.Legal.{IsTold}
use Rattle.cluster_defs.specs.Life.{event_of}
use Rattle.cluster_defs.specs.Refusals.{commands_refusal}
use Rattle.cluster_defs.specs.Replies.{told_today}
use Rattle.cluster_defs.specs.Site.{Site}
use Rattle.cluster_defs.specs.Store.{Store, Stored, store_step}
use Rattle.cluster_defs.specs.declared.ask.Ask.{Ask}
use Rattle.cluster_defs.specs.declared.entry.Entry.{Entry}
use Rattle.cluster_defs.specs.declared.reply.Reply.{Reply}
use Rattle.cluster_defs.specs.declared.reply.Reply.TheVariants.{Made, Refused, Status}
use Rattle.hub_core.specs.declared.setup.Counts.{Counts}

abbrev pub Noted : Type 0
Noted = Entry × Counts

abbrev pub faults_in : Counts → Faults
faults_in counts = record { before = counts.before; after = counts.after }

-- what is noted of an ask: nothing where it was not looked at
abbrev pub noted_of : Seat → Ask → Reply → Counts → List Noted
noted_of seat ask reply counts = map (λ entry. (entry, counts)) (entries_of seat ask reply)

-- what the ask of an entry does in a store
abbrev pub stored_at : Site → Store → Noted → Stored
stored_at k s e = store_step k s e.0.seat e.0.ask (faults_in e.1)

-- The disk failed where the reply says so.
abbrev pub says_disk : Reply → Bool
says_disk (Made id) = false
says_disk (Status id status) = false
says_disk (Refused (DISK before after)) = true
says_disk (Refused _) = false

-- an entry in a store, behind a count of faults
pub record IsStoredStep (k : Site) (s : Store) (faults : ℕ) (e : Noted) : Type 0 where
  pub may : commands_refusal k s.usage [] e.0.seat (asked_today e.0.ask) ≡ None
  pub reply : told_today e.0.reply ≡ (stored_at k s e).reply
  pub later : faults ≤ e.1.before
  pub told : IsTold (says_disk e.0.reply) e.1.before e.1.after

-- Each entry is a step in the store that those before it leave, and the counts follow one another.
abbrev pub AreStored : Site → ℕ → Store → List Noted → Type 0
AreStored k faults s [] = ⊤
AreStored k faults s (e ∷ es) = IsStoredStep k s faults e × AreStored k e.1.after (stored_at k s e).next es

abbrev pub store_behind : Site → Store → List Noted → Store
store_behind k s [] = s
store_behind k s (e ∷ es) = store_behind k (stored_at k s e).next es

abbrev pub faults_behind : ℕ → List Noted → ℕ
faults_behind faults [] = faults
faults_behind faults (e ∷ es) = faults_behind e.1.after es

-- what an entry is to the journal
abbrev pub event_at : Store → Noted → Option Event
event_at s e = event_of (answers.Reply (told_today e.0.reply)) (record_of s.table [] e.0.seat (asked_today e.0.ask))

-- the first one first
abbrev pub store_events : Site → Store → List Noted → List Event
store_events k s [] = []
store_events k s (e ∷ es) = option_to_list (event_at s e) ++ store_events k (stored_at k s e).next es
