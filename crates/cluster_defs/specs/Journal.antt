-- The records of a cluster through openings and stops: those that are acknowledged, and one that is in doubt.
use Rattle.std.specs.Prelude.{◌≡◌, ◌⊎◌, ⊤, flat_map, map, List, [], ◌∷◌, ◌++◌, Option, Some, None, option_to_list}
use Rattle.model_data.specs.declared.batch.BatchRecord.{BatchRecord}
use Rattle.table_defs.specs.Names.{Owner}
use Rattle.table_defs.specs.Owned.{part_of_record}
use Rattle.table_defs.specs.Table.{Table, after, no_rows}
use Rattle.table_defs.specs.Taken.{AreTaken, refusal}

pub record Journal : Type 0 where
  -- acknowledged since the empty disk
  pub records : List BatchRecord
  pub doubt : Option BatchRecord

abbrev pub table_behind : Journal → Table
table_behind j = after j.records no_rows

pub data Event : Type 0 where
  -- the record of a deed was kept
  was_kept : BatchRecord → Event
  -- a deed was answered that the disk failed, or stopped inside its call
  was_failed : BatchRecord → Event
  -- an opening failed, or was stopped
  was_not_opened : Event
  was_opened : Event

-- Its record is taken by the table that stands.
abbrev pub IsTakenIn : Event → Table → Type 0
IsTakenIn (was_kept r) t = refusal r t ≡ None
IsTakenIn (was_failed r) t = refusal r t ≡ None
IsTakenIn was_not_opened t = ⊤
IsTakenIn was_opened t = ⊤

-- what may stand behind an event
abbrev pub Becomes : Event → Journal → Journal → Type 0
Becomes (was_kept r) j next = (next.records ≡ j.records ++ r ∷ []) × (next.doubt ≡ None)
Becomes (was_failed r) j next = (next.records ≡ j.records) × ((next.doubt ≡ j.doubt) ⊎ ((next.doubt ≡ Some r) ⊎ (next.doubt ≡ None)))
Becomes was_not_opened j next = (next.records ≡ j.records) × (next.doubt ≡ j.doubt)
Becomes was_opened j next = ((next.records ≡ j.records) ⊎ (next.records ≡ j.records ++ option_to_list j.doubt)) × (next.doubt ≡ None)

abbrev pub Follows : Event → Journal → Journal → Type 0
Follows event j next = IsTakenIn event (table_behind j) × Becomes event j next

abbrev pub none_yet : Journal
none_yet = record { records = []; doubt = None }

-- a journal that came about by these events
pub data Reaches : List Event → Journal → Type 0 where
  start : Reaches [] none_yet
  further : {events : List Event} {j : Journal} (event : Event) (next : Journal) → Reaches events j → Follows event j next → Reaches (event ∷ events) next

-- Each record is taken, and so would the one in doubt be.
pub record AreAllTaken (j : Journal) : Type 0 where
  pub taken : AreTaken j.records no_rows
  pub doubt : AreTaken (j.records ++ option_to_list j.doubt) no_rows

-- ---- what one who saw the events may believe, the latest first

-- The record was answered DISK, or stopped in its call, and nothing was kept or opened since.
abbrev pub IsPending : BatchRecord → List Event → Type 0
IsPending r [] = ⊥
IsPending r (was_kept s ∷ events) = ⊥
IsPending r (was_failed s ∷ events) = (r ≡ s) ⊎ IsPending r events
IsPending r (was_not_opened ∷ events) = IsPending r events
IsPending r (was_opened ∷ events) = ⊥

-- Each kept record is there, in order, and nothing else, but that an opening may have found one more at the end, which was pending.
abbrev pub AreThere : List Event → List BatchRecord → Type 0
AreThere [] rs = rs ≡ []
AreThere (was_kept r ∷ events) rs = (before : List BatchRecord) × AreThere events before × (rs ≡ before ++ r ∷ [])
AreThere (was_failed r ∷ events) rs = AreThere events rs
AreThere (was_not_opened ∷ events) rs = AreThere events rs
AreThere (was_opened ∷ events) rs = AreThere events rs ⊎ ((before : List BatchRecord) × (r : BatchRecord) × AreThere events before × IsPending r events × (rs ≡ before ++ r ∷ []))

-- ---- one owner's part of the events

abbrev pub own_event : Owner → Event → List Event
own_event u (was_kept r) = map was_kept (part_of_record u r)
own_event u (was_failed r) = map was_failed (part_of_record u r)
own_event u was_not_opened = was_not_opened ∷ []
own_event u was_opened = was_opened ∷ []

abbrev pub own_events : Owner → List Event → List Event
own_events u events = flat_map (own_event u) events
