-- How the bytes of a whole input are cut into frames: lines, each with the block that it asks for.
-- This is one machine over single bytes, with a rule apart for the end of the input, so that frames are
-- read from bytes in any pieces.
use Rattle.std.specs.Prelude.{ℕ, ◌+◌, ◌-◌, zero, suc, ◌==◌, nat_le, nat_lt, List, [], ◌∷◌, ◌++◌, length, Option, unwrap_or, if◌then◌else◌}
use Rattle.base_io.specs.declared.limits.TheConstants.{LINE_LIMIT, INPUT_LIMIT}
use Rattle.base_io.specs.Lines.{without_return, is_too_long}

-- A line with its block, which is empty where the line asks for none. Or a line whose block the input's
-- end cuts short, with the bytes of it that came. Or the input can't be read any further, since a line
-- or the input as a whole is too long.
pub data Frame : Type 0 where
  Whole : (line block : List ℕ) → Frame
  Cut : (line part : List ℕ) → Frame
  TooLong : Frame

-- Where the input stands between two bytes: within a line, so much of which has come; within the block
-- of a line, of which so much has come and so many bytes are missing; or past what is too long.
pub data Place : Type 0 where
  InLine : (line : List ℕ) → Place
  InBlock : (line block : List ℕ) (missing : ℕ) → Place
  Past : Place

-- What bytes make: the frames that are whole by them, and the place behind them.
pub record Made : Type 0 where
  pub frames : List Frame
  pub place : Place

-- no frame
abbrev pub still : Place → Made
still place = record { frames = []; place = place }

-- the frame behind which nothing is read
abbrev pub overrun : Made
overrun = record { frames = TooLong ∷ []; place = Past }

-- these frames, and then what is made behind them
abbrev pub behind : List Frame → Made → Made
behind frames made = record { frames = frames ++ made.frames; place = made.place }

-- a line with so much of its block, which is whole where it lacks no byte
abbrev pub with_block : (line block : List ℕ) (missing : ℕ) → Made
with_block line block zero = record { frames = Whole line block ∷ []; place = InLine [] }
with_block line block (suc missing) = still (InBlock line block (suc missing))

-- a last line, of whose block no byte comes
abbrev pub last_frame : (line : List ℕ) (wanted : ℕ) → Frame
last_frame line zero = Whole line []
last_frame line (suc missing) = Cut line []

-- `wants` is how long a block a line asks for; a block of no byte is as none.
module _ (wants : List ℕ → Option ℕ) where
  abbrev pub block_len : (line : List ℕ) → ℕ
  block_len line = unwrap_or (wants line) 0

  -- a line that has ended
  abbrev pub ended_line : (line : List ℕ) → Made
  ended_line line = with_block line [] (block_len line)

  -- One more byte of a line. A line feed ends it, and a carriage return before that isn't of it.
  abbrev pub after_line_byte : (line : List ℕ) (byte : ℕ) → Made
  after_line_byte line byte =
      if byte == 10
      then ended_line (without_return line)
      else (if is_too_long (line ++ byte ∷ []) then overrun else still (InLine (line ++ byte ∷ [])))

  -- One more byte, of which there were `count`. The byte by which the input reaches its limit belongs to
  -- no frame.
  abbrev pub after_byte : (count : ℕ) → Place → (byte : ℕ) → Made
  after_byte count (InLine line) byte = if nat_le INPUT_LIMIT (count + 1) then overrun else after_line_byte line byte
  after_byte count (InBlock line block missing) byte =
      if nat_le INPUT_LIMIT (count + 1) then overrun else with_block line (block ++ byte ∷ []) (missing - 1)
  after_byte count Past byte = still Past

  -- what some bytes more make, whatever comes behind them
  abbrev pub made_from : (count : ℕ) → Place → (bytes : List ℕ) → Made
  made_from count place [] = still place
  made_from count place (byte ∷ bytes) =
      behind (after_byte count place byte).frames (made_from (count + 1) (after_byte count place byte).place bytes)

  abbrev pub frames_from : (count : ℕ) → Place → (bytes : List ℕ) → List Frame
  frames_from count place bytes = (made_from count place bytes).frames

  abbrev pub place_from : (count : ℕ) → Place → (bytes : List ℕ) → Place
  place_from count place bytes = (made_from count place bytes).place

  -- What the end of the input makes: a last line without a line feed counts, and a carriage return at
  -- its end stays.
  abbrev pub frames_at_end : Place → List Frame
  frames_at_end (InLine []) = []
  frames_at_end (InLine (byte ∷ bytes)) =
      (if nat_lt LINE_LIMIT (length (byte ∷ bytes)) then TooLong else last_frame (byte ∷ bytes) (block_len (byte ∷ bytes))) ∷ []
  frames_at_end (InBlock line block missing) = Cut line block ∷ []
  frames_at_end Past = []

  -- the frames of these bytes, after which the input ends
  abbrev pub frames_to_end : (count : ℕ) → Place → (bytes : List ℕ) → List Frame
  frames_to_end count place bytes = frames_from count place bytes ++ frames_at_end (place_from count place bytes)

  -- the frames of a whole input
  abbrev pub frames_of : (input : List ℕ) → List Frame
  frames_of input = frames_to_end 0 (InLine []) input
