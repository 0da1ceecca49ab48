-- Where the reading of an input begins: behind bytes that were read before, and maybe with a line that was given back.
use Rattle.std.specs.Prelude.{ℕ, List, [], ◌++◌, Option, None, Some}
use Rattle.base_io.specs.Frames.{Frame, Made, InLine, still, behind, ended_line, made_from, frames_to_end}
use Rattle.base_io.specs.Held.{Held}

pub record Beginning : Type 0 where
  -- how many bytes were read before
  pub count : ℕ
  -- the line that was given back
  pub waiting : Option (List ℕ)

-- an input that is read from its first byte on
abbrev pub at_first : Beginning
at_first = record { count = 0; waiting = None }

abbrev pub beginning_of : Held → Beginning
beginning_of held = record { count = held.given; waiting = held.waiting }

-- `wants` is how long a block a line asks for.
module _ (wants : List ℕ → Option ℕ) where
  -- a line that was given back counts as one that has ended
  abbrev pub begun_by : Option (List ℕ) → Made
  begun_by None = still (InLine [])
  begun_by (Some line) = ended_line wants line

  abbrev pub begun : Beginning → Made
  begun beginning = begun_by beginning.waiting

  -- what some bytes make, whatever comes behind them
  abbrev pub made_onward : Beginning → (bytes : List ℕ) → Made
  made_onward beginning bytes = behind (begun beginning).frames (made_from wants beginning.count (begun beginning).place bytes)

  abbrev pub frames_onward : Beginning → (bytes : List ℕ) → List Frame
  frames_onward beginning bytes = (made_onward beginning bytes).frames

  -- the frames of these bytes, after which the input ends
  abbrev pub frames_to_close : Beginning → (bytes : List ℕ) → List Frame
  frames_to_close beginning bytes = (begun beginning).frames ++ frames_to_end wants beginning.count (begun beginning).place bytes
