-- What reading the next frame of an input did.
use Rattle.std.specs.Prelude.{ℕ, ◌≡◌, ◌⊎◌, true, false, List, [], ◌∷◌, ◌++◌, Option, Result, Ok, Err}
use Rattle.base_names.specs.declared.memory.NoMemory.{NoMemory}
use Rattle.base_io.specs.Frames as frames
use Rattle.base_io.specs.Frames.{Whole, Cut, InLine}
use Rattle.base_io.specs.Held.{Held}
use Rattle.base_io.specs.Reader.{Moves}
use Rattle.session.specs.Beginning.{beginning_of, made_onward, frames_onward, frames_to_close}
use Rattle.session.specs.declared.frame.NextFrame.{NextFrame}
use Rattle.session.specs.declared.frame.NextFrame.TheVariants.{Whole as Read, Cut as Ended, End, TooLong, ReadFault}

-- `wants` is how long a block a line asks for.

-- These bytes are one frame, whatever comes behind them, and a line begins behind them.
pub record IsFrame (wants : List ℕ → Option ℕ) (line block : List ℕ) (old : Held) (given : List ℕ) : Type 0 where
  pub one : made_onward wants (beginning_of old) given ≡ record { frames = Whole line block ∷ []; place = InLine [] }

-- These bytes are one frame where the input ends behind them, as it does.
pub record IsLastFrame (wants : List ℕ → Option ℕ) (line block : List ℕ) (old : Held) (given : List ℕ) (new : Held) : Type 0 where
  pub one : frames_to_close wants (beginning_of old) given ≡ Whole line block ∷ []
  pub ended : new.ended ≡ true
  pub last : new.bytes ≡ []

-- No frame is whole by what is held.
pub record IsPartOfFrame (wants : List ℕ → Option ℕ) (held : Held) : Type 0 where
  pub none : frames_onward wants (beginning_of held) held.bytes ≡ []

-- What was given and what is held is no frame.
pub record IsNoFrame (wants : List ℕ → Option ℕ) (old : Held) (given : List ℕ) (new : Held) : Type 0 where
  pub none : frames_onward wants (beginning_of old) (given ++ new.bytes) ≡ []

-- The input ends, and what was given and what is held is no frame.
pub record IsEnd (wants : List ℕ → Option ℕ) (old : Held) (given : List ℕ) (new : Held) : Type 0 where
  pub none : frames_to_close wants (beginning_of old) (given ++ new.bytes) ≡ []
  pub ended : new.ended ≡ true

-- The input ends, and what was given and what is held is a line with a part of its block.
pub record IsCut (wants : List ℕ → Option ℕ) (old : Held) (given : List ℕ) (new : Held) : Type 0 where
  pub line : List ℕ
  pub part : List ℕ
  pub one : frames_to_close wants (beginning_of old) (given ++ new.bytes) ≡ Cut line part ∷ []
  pub ended : new.ended ≡ true

-- The first frame of what was given, of what is held and of what may still come is too long.
pub record IsTooLong (wants : List ℕ → Option ℕ) (old : Held) (given : List ℕ) (new : Held) : Type 0 where
  pub long : (more : List ℕ) → (new.ended ≡ true → more ≡ []) → frames_to_close wants (beginning_of old) (given ++ (new.bytes ++ more)) ≡ frames.TooLong ∷ []

-- what a call for the next frame did, by its answer
abbrev pub ReadsFrame : (wants : List ℕ → Option ℕ) → Result NextFrame NoMemory → (old new : Held) (left left' : Option (List ℕ)) → Type 0
ReadsFrame wants (Ok (Read line block)) old new left left' =
    (given : List ℕ) × Moves (IsPartOfFrame wants) old new left left' given
    × (IsFrame wants line block old given ⊎ IsLastFrame wants line block old given new)
ReadsFrame wants (Ok End) old new left left' = (given : List ℕ) × Moves (IsPartOfFrame wants) old new left left' given × IsEnd wants old given new
ReadsFrame wants (Ok Ended) old new left left' = (given : List ℕ) × Moves (IsPartOfFrame wants) old new left left' given × IsCut wants old given new
ReadsFrame wants (Ok TooLong) old new left left' = (given : List ℕ) × Moves (IsPartOfFrame wants) old new left left' given × IsTooLong wants old given new
ReadsFrame wants (Ok ReadFault) old new left left' =
    (given : List ℕ) × Moves (IsPartOfFrame wants) old new left left' given × (new.ended ≡ false) × IsNoFrame wants old given new
ReadsFrame wants (Err _) old new left left' = (given : List ℕ) × Moves (IsPartOfFrame wants) old new left left' given
