-- What a whole session did to its desk, its source and its sink.
use Rattle.std.specs.Prelude.{ℕ, ◌≡◌, List, ◌++◌, Option}
use Rattle.base_names.specs.declared.seat.Seat.{Seat}
use Rattle.base_io.specs.Held.{Held}
use Rattle.cluster_defs.specs.declared.entry.Entry.{Entry}
use Rattle.session.specs.Beginning.{beginning_of}
use Rattle.session.specs.Dialogue.{Told}
use Rattle.session.specs.Session.{Call}
use Rattle.session.specs.Hearing.{Heard, entries_by, fulls_by}
use Rattle.session.specs.Talk.{Talked}
use Rattle.session.specs.Transcript.{session_writing}
use Rattle.session.specs.declared.talking.End.{End}

-- Its lines heard so much, and by that it told its transcript, with the calls that the desk has since.
pub record Converses (end : End) (seat : Seat) (reader : Held) (mine mine' : List Entry) (fulls fulls' : ℕ) (left left' contents contents' : Option (List ℕ)) : Type 0 where
  pub heard : List Heard
  pub told : Told Call
  pub talked : Talked end (session_writing seat (beginning_of reader) heard) reader.bytes told left left' contents contents'
  pub mine_is : mine' ≡ mine ++ entries_by seat told.deeds
  pub fulls_is : fulls' ≡ fulls_by fulls told.deeds
