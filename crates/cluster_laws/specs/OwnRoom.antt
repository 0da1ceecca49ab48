-- That a journal has room for the outcomes of all that goes on, by its own records, with the one in doubt too.
use Rattle.std.specs.Prelude.{◌≡◌, ◌+◌, ◌≤◌, ⊤, Some}
use Rattle.model_data.specs.declared.batch.BatchRecord.{BatchRecord}
use Rattle.cluster_defs.specs.Ends.{end_of}
use Rattle.cluster_defs.specs.Journal.{Event, Journal, table_behind, was_failed, was_kept, was_not_opened, was_opened}
use Rattle.cluster_defs.specs.Refusals.{need, reserve}
use Rattle.cluster_defs.specs.Room.{IsShort}
use Rattle.cluster_defs.specs.Site.{Site}

pub record HasRoom (k : Site) (j : Journal) : Type 0 where
  pub fits : end_of k j.records + reserve (table_behind j) ≤ k.setup.limits.journal
  -- and so if it is found
  pub doubt : (r : BatchRecord) → j.doubt ≡ Some r → need k (end_of k j.records) (table_behind j) r ≤ k.setup.limits.journal

-- the record of an outcome is short, if it was kept or may have been
abbrev pub IsShortEvent : Site → Event → Type 0
IsShortEvent k (was_kept r) = IsShort k r
IsShortEvent k (was_failed r) = IsShort k r
IsShortEvent k was_not_opened = ⊤
IsShortEvent k was_opened = ⊤
