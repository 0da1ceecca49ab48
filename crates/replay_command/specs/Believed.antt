-- What one who sees a script's steps may believe of the journal on its disk, through any number of stops and openings, and an owner of
-- its part.
use Rattle.std.specs.Prelude.{⊤, ◌≡◌, List, [], ◌∷◌, ◌++◌, Option, IfSome, option_to_list}
use Rattle.cluster_defs.specs.Journal.{AreThere, Event, Journal, own_events, table_behind}
use Rattle.hub_core.specs.Answering.{FollowsBy}
use Rattle.table_defs.specs.Names.{Owner}
use Rattle.table_defs.specs.Owned.{records_of, table_of}
use Rattle.table_defs.specs.Table.{Table, after, no_rows}
use Rattle.replay_command.specs.Script.{Deed, RefusedAt, Went}

-- Behind a step that was this to the journal, with the events before it, the latest first.
pub record IsBelieved (events : List Event) (j : Journal) (event : Option Event) (table : Option Table) (next : Journal) : Type 0 where
  -- its journal comes of the one before
  pub follows : FollowsBy event j next
  -- each record that was acknowledged is there, in order, and nothing else, but that an opening may have found one more at the end,
  -- which was in doubt
  pub there : AreThere (option_to_list event ++ events) next.records
  -- so it is with what one owner was told, and the records of that owner
  pub own : (u : Owner) → AreThere (own_events u (option_to_list event ++ events)) (records_of u next.records)
  -- what is open is the table of these records, and an owner's that of its own
  pub table_is : IfSome table (λ t. t ≡ table_behind next)
  pub own_table : (u : Owner) → IfSome table (λ t. table_of u t ≡ after (records_of u next.records) no_rows)

-- Each step goes on from what was believed before it.
abbrev pub AreBelieved : List Event → Journal → List Deed → Type 0
AreBelieved events j [] = ⊤
AreBelieved events j (RefusedAt line ∷ deeds) = AreBelieved events j deeds
AreBelieved events j (Went event table ∷ deeds) = (next : Journal) × IsBelieved events j event table next × AreBelieved (option_to_list event ++ events) next deeds
