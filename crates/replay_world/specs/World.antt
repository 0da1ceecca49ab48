-- The world of a script between two steps.
use Rattle.std.specs.Prelude.{ℕ, ◌==◌, Bool, List, [], ◌∷◌, find, Option, None, if◌then◌else◌}
use Rattle.disk_model.specs.Memory.{DiskState, new_disk}
use Rattle.session.specs.Session.{Session}
use Rattle.hub_core.specs.declared.setup.Limits.{Limits}
use Rattle.hub_core.specs.declared.setup.Setup.{Setup}
use Rattle.replay_world.specs.Hubs.{Hub, opened}

pub record World : Type 0 where
  pub setup : Setup
  -- with what is armed on it
  pub disk : DiskState
  -- none behind a stop
  pub hub : Option Hub
  -- one for each seat that holds one
  pub sessions : List Session

-- ---- sessions

-- whose seat has this number
abbrev pub sits_at : ℕ → Session → Bool
sits_at seat session = session.seat.number == seat

abbrev pub session_at : ℕ → List Session → Option Session
session_at seat sessions = find (sits_at seat) sessions

-- without the one at the seat
abbrev pub without_seat : ℕ → List Session → List Session
without_seat seat [] = []
without_seat seat (session ∷ sessions) = if sits_at seat session then sessions else session ∷ without_seat seat sessions

-- with another one in its place
abbrev pub with_session : ℕ → Session → List Session → List Session
with_session seat new [] = []
with_session seat new (session ∷ sessions) = if sits_at seat session then new ∷ sessions else session ∷ with_session seat new sessions

-- ---- the set-up

-- one node for two jobs
abbrev pub setup_of : Limits → Setup
setup_of limits = record { nodes = 1; limit = 2; hard = 0; limits = limits }

abbrev pub usual_limits : Limits
usual_limits = record { commands = 65536; bytes = 8388608; journal = 1000000000 }

-- before the first step: a hub over an empty disk, and no session
abbrev pub first_world : Limits → World
first_world limits = let o = opened new_disk in record { setup = setup_of limits; disk = o.disk; hub = o.hub; sessions = [] }

-- A stop ends all sessions and the hub.
abbrev pub halted : World → World
halted w = record w { hub = None; sessions = [] }
