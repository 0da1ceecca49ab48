-- What holding a session over a file did, by its end.
use Rattle.std.specs.Prelude.{ℕ, ◌≡◌, List, Option}
use Rattle.base_names.specs.declared.seat.Role.{Role}
use Rattle.session.specs.Beginning.{at_first}
use Rattle.session.specs.Dialogue.{Told}
use Rattle.session.specs.Hearing.{Heard, entries_by}
use Rattle.session.specs.Session.{Call}
use Rattle.session.specs.Talk.{Says}
use Rattle.session.specs.Transcript.{session_writing}
use Rattle.session.specs.declared.talking.End.{End}
use Rattle.session_command.specs.OnDisk.{AreFromFile, Disked, IsRefusedFor, seat_of}
use Rattle.session_command.specs.declared.command.SessionEnd.{SessionEnd}
use Rattle.session_command.specs.declared.command.SessionEnd.TheVariants.{Ended, Unopened}

-- A session's lines heard what the desk over the file replied, and that there was no memory.
pub record SessionSays (end : End) (owner : List ℕ) (role : Role) (disk : Disked) (left left' contents contents' : Option (List ℕ)) : Type 0 where
  pub heard : List Heard
  pub told : Told Call
  pub says : Says end (session_writing (seat_of owner role) at_first heard) told left left' contents contents'
  pub from_file : AreFromFile disk (entries_by (seat_of owner role) told.deeds)

-- nothing was taken and nothing written
abbrev pub Untouched : (left left' contents contents' : Option (List ℕ)) → Type 0
Untouched left left' contents contents' = (left' ≡ left) × (contents' ≡ contents)

-- The session was held, or the file wasn't opened.
abbrev pub SessionHeld : SessionEnd → (owner : List ℕ) → Role → Disked → (left left' contents contents' : Option (List ℕ)) → Type 0
SessionHeld (Ended end) owner role disk left left' contents contents' = SessionSays end owner role disk left left' contents contents'
SessionHeld (Unopened fault) owner role disk left left' contents contents' = Untouched left left' contents contents' × IsRefusedFor fault disk
