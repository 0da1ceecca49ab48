-- A dialogue answers the lines of an input with their blocks, one after the other. One fold over frames says what is
-- written, what is done beside it, and where the dialogue stands.
use Rattle.std.specs.Prelude.{ℕ, Bool, true, false, ◌≡◌, List, [], ◌∷◌, ◌++◌, Option}
use Rattle.base_io.specs.Frames.{Frame, Whole, Cut, TooLong}
use Rattle.session.specs.Beginning.{Beginning, frames_onward, frames_to_close}

-- what is told: what is written, and what is done beside it
pub record Told (Deed : Type 0) : Type 0 where
  pub text : List ℕ
  pub deeds : List Deed

abbrev pub told_nothing : {Deed : Type 0} → Told Deed
told_nothing {Deed} = record { text = []; deeds = [] }

-- this, and then that
abbrev pub told_both : {Deed : Type 0} → (first then : Told Deed) → Told Deed
told_both first then = record { text = first.text ++ then.text; deeds = first.deeds ++ then.deeds }

-- `whole` is `front`, and then something
abbrev pub IsFront : {Deed : Type 0} → (front whole : Told Deed) → Type 0
IsFront {Deed} front whole = (rest : Told Deed) × (told_both front rest ≡ whole)

-- It goes on, or is over by what a line asked, or by a line or an input that is too long.
pub data Course (Session : Type 0) : Type 0 where
  Going : (session : Session) → Course Session
  Over : Course Session
  Long : Course Session

-- what is told, and how it goes on
pub record Said (Session Deed : Type 0) : Type 0 where
  pub told : Told Deed
  pub course : Course Session

-- How long a block a line asks for, how a line with its block is answered, and what a line comes to whose block the input's end cuts
-- short.
pub record Dialogue (Session Deed : Type 0) : Type 0 where
  pub wants : List ℕ → Option ℕ
  pub answer : Session → (line block : List ℕ) → Said Session Deed
  pub cut : Session → (line part : List ℕ) → Said Session Deed

abbrev pub is_going : {Session : Type 0} → Course Session → Bool
is_going (Going session) = true
is_going Over = false
is_going Long = false

abbrev pub is_over : {Session : Type 0} → Course Session → Bool
is_over (Going session) = false
is_over Over = true
is_over Long = false

abbrev pub is_long : {Session : Type 0} → Course Session → Bool
is_long (Going session) = false
is_long Over = false
is_long Long = true

abbrev pub says_nothing : {Session Deed : Type 0} → Course Session → Said Session Deed
says_nothing course = record { told = told_nothing; course = course }

-- this behind what was told before
abbrev pub behind : {Session Deed : Type 0} → Told Deed → Said Session Deed → Said Session Deed
behind before next = record { told = told_both before next.told; course = next.course }

module _ {Session Deed : Type 0} (dialogue : Dialogue Session Deed) where
  -- to one frame
  abbrev pub said_at : Course Session → Frame → Said Session Deed
  said_at (Going session) (Whole line block) = dialogue.answer session line block
  said_at (Going session) (Cut line part) = dialogue.cut session line part
  said_at (Going session) TooLong = says_nothing Long
  said_at Over frame = says_nothing Over
  said_at Long frame = says_nothing Long

  -- to frames, one after the other
  abbrev pub said : Course Session → List Frame → Said Session Deed
  said course [] = says_nothing course
  said course (frame ∷ frames) = behind (said_at course frame).told (said (said_at course frame).course frames)

  -- to an input from its beginning to its end
  abbrev pub said_to : Beginning → Session → (input : List ℕ) → Said Session Deed
  said_to beginning session input = said (Going session) (frames_to_close dialogue.wants beginning input)

  -- to what was read of an input, whatever comes next
  abbrev pub said_so_far : Beginning → Session → (taken : List ℕ) → Said Session Deed
  said_so_far beginning session taken = said (Going session) (frames_onward dialogue.wants beginning taken)
