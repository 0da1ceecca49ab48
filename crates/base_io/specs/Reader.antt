-- What a reader of lines is seen as, and what its calls do.
use Rattle.std.specs.Prelude.{ℕ, ◌+◌, ◌<◌, ◌≤◌, ◌≡◌, ◌⊎◌, true, false, List, [], ◌∷◌, ◌++◌, length, Option, None, Result, Ok, Err}
use Rattle.base_names.specs.declared.memory.NoMemory.{NoMemory}
use Rattle.base_names.specs.Outside.{Reads, IsAtEnd}
use Rattle.base_io.specs.declared.limits.TheConstants.{LINE_LIMIT, INPUT_LIMIT, READ_LIMIT}
use Rattle.base_io.specs.declared.piece.Piece.{Piece}
use Rattle.base_io.specs.declared.piece.Piece.TheVariants.{Line, End, TooLong, ReadFault}
use Rattle.base_io.specs.declared.line_end.LineEnd.{LineEnd}
use Rattle.base_io.specs.declared.line_end.LineEnd.TheVariants.{At, Input, TooLong as Overlong, ReadFault as Fault}
use Rattle.base_io.specs.Lines.{has_line_feed, without_return, is_too_long, IsEndAt}
use Rattle.base_io.specs.Held.{Held}

-- What any call did to the reader and its source, where no line waits: these bytes were given. What
-- was held and what was taken from the source is what was given and what is held now.
pub record Passes (old new : Held) (left left' : Option (List ℕ)) (given : List ℕ) : Type 0 where
  pub moved : List ℕ
  pub read : Reads left left' moved
  pub kept : old.bytes ++ moved ≡ given ++ new.bytes
  pub count : new.given ≡ old.given + length given
  pub below : new.given < INPUT_LIMIT
  pub waiting : new.waiting ≡ None
  -- once the source has said that it is at its end it isn't read again
  pub once : old.ended ≡ true → (new.ended ≡ true) × (moved ≡ [])
  pub at_end : (old.ended ≡ true → IsAtEnd left) → new.ended ≡ true → IsAtEnd left'

-- No read was made too early or too much. Before the last one no more than a part was held of what was asked for, and
-- it gave at most READ_LIMIT bytes. Where nothing was read, it gave none.
pub record Needed (IsPart : Held → Type 0) (old new : Held) (given : List ℕ) : Type 0 where
  -- what was held before the last read, and what that gave
  pub earlier : List ℕ
  pub last : List ℕ
  pub whole : earlier ++ last ≡ given ++ new.bytes
  pub short : length last ≤ READ_LIMIT
  pub part : ((earlier ≡ old.bytes) × (last ≡ [])) ⊎ IsPart (record old { bytes = earlier })

-- what any call did that was asked for something of which this may be a part
pub record Moves (IsPart : Held → Type 0) (old new : Held) (left left' : Option (List ℕ)) (given : List ℕ) : Type 0 where
  pub passes : Passes old new left left' given
  pub needed : Needed IsPart old new given

-- a line that a line feed ended
pub record IsEndedLine (line given : List ℕ) : Type 0 where
  pub body : List ℕ
  pub whole : given ≡ body ++ 10 ∷ []
  pub one : has_line_feed body ≡ false
  pub line_is : line ≡ without_return body

-- the last line of an input, which no line feed ended
pub record IsLastLine (line given : List ℕ) (new : Held) : Type 0 where
  pub whole : given ≡ line
  pub one : has_line_feed line ≡ false
  pub some : 0 < length line
  pub ended : new.ended ≡ true
  pub last : new.bytes ≡ []

-- The line that begins with what is held passes its limit: it is too long whatever comes next, or it is
-- the last line.
pub record IsLongLine (held : Held) : Type 0 where
  pub line : List ℕ
  pub rest : List ℕ
  pub whole : held.bytes ≡ line ++ rest
  pub one : has_line_feed line ≡ false
  pub long : (is_too_long line ≡ true) ⊎ ((LINE_LIMIT < length line) × (held.ended ≡ true) × (rest ≡ []))

-- An input of which so much was given reaches its limit with this line, or with the byte behind it.
abbrev pub ReachesLimit : (given : ℕ) (line rest : List ℕ) → Type 0
ReachesLimit given line rest = (INPUT_LIMIT ≤ given + length line) ⊎ ((0 < length rest) × (INPUT_LIMIT ≤ given + length line + 1))

-- the input reaches its limit so with the line that begins with what is held
pub record IsLongInput (held : Held) : Type 0 where
  pub line : List ℕ
  pub rest : List ℕ
  pub whole : held.bytes ≡ line ++ rest
  pub one : has_line_feed line ≡ false
  pub long : ReachesLimit held.given line rest

-- no more than a part of a line is held
pub record IsPartOfLine (held : Held) : Type 0 where
  pub one : has_line_feed held.bytes ≡ false
  pub short : is_too_long held.bytes ≡ false
  pub below : held.given + length held.bytes < INPUT_LIMIT

-- what a call for a line did, by its answer
abbrev pub GivesLine : Result Piece NoMemory → (old new : Held) (left left' : Option (List ℕ)) → Type 0
GivesLine (Ok (Line line)) old new left left' =
    (given : List ℕ) × Moves IsPartOfLine old new left left' given
    × (IsEndedLine line given ⊎ IsLastLine line given new) × (length line ≤ LINE_LIMIT)
GivesLine (Ok End) old new left left' = Moves IsPartOfLine old new left left' [] × (new.ended ≡ true) × (new.bytes ≡ [])
GivesLine (Ok TooLong) old new left left' = Moves IsPartOfLine old new left left' [] × (IsLongLine new ⊎ IsLongInput new)
GivesLine (Ok ReadFault) old new left left' = Moves IsPartOfLine old new left left' [] × (new.ended ≡ false) × IsPartOfLine new
GivesLine (Err _) old new left left' = Moves IsPartOfLine old new left left' []

-- what the search for a line's end did, by its answer
abbrev pub FindsLineEnd : Result LineEnd NoMemory → (old new : Held) (left left' : Option (List ℕ)) → Type 0
FindsLineEnd (Ok (At place)) old new left left' = Moves IsPartOfLine old new left left' [] × IsEndAt place new.bytes
FindsLineEnd (Ok Input) old new left left' = Moves IsPartOfLine old new left left' [] × (new.ended ≡ true) × IsPartOfLine new
FindsLineEnd (Ok Overlong) old new left left' = Moves IsPartOfLine old new left left' [] × (IsLongLine new ⊎ IsLongInput new)
FindsLineEnd (Ok Fault) old new left left' = Moves IsPartOfLine old new left left' [] × (new.ended ≡ false) × IsPartOfLine new
FindsLineEnd (Err _) old new left left' = Moves IsPartOfLine old new left left' []

-- no more than a part of a block of k bytes is held
pub record IsPartOfBlock (k : ℕ) (held : Held) : Type 0 where
  pub short : length held.bytes < k
  pub below : held.given + length held.bytes < INPUT_LIMIT

-- the input reaches its limit with a byte of the block of k bytes that begins with what is held
pub record IsLongBlock (k : ℕ) (held : Held) : Type 0 where
  pub here : INPUT_LIMIT ≤ held.given + length held.bytes
  pub within : INPUT_LIMIT ≤ held.given + k

-- what a call for a block of k bytes did, by its answer
abbrev pub GivesBlock : ℕ → Result Piece NoMemory → (old new : Held) (left left' : Option (List ℕ)) → Type 0
GivesBlock k (Ok (Line block)) old new left left' = Moves (IsPartOfBlock k) old new left left' block × (length block ≡ k)
GivesBlock k (Ok End) old new left left' = Moves (IsPartOfBlock k) old new left left' [] × (new.ended ≡ true) × IsPartOfBlock k new
GivesBlock k (Ok TooLong) old new left left' = Moves (IsPartOfBlock k) old new left left' [] × IsLongBlock k new
GivesBlock k (Ok ReadFault) old new left left' = Moves (IsPartOfBlock k) old new left left' [] × (new.ended ≡ false) × IsPartOfBlock k new
GivesBlock k (Err _) old new left left' = Moves (IsPartOfBlock k) old new left left' []
