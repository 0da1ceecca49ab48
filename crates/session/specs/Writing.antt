-- What a program tells for the bytes of its input, and what it has taken and told where it ends.
use Rattle.std.specs.Prelude.{ℕ, Bool, true, ◌≡◌, ◌≤◌, ◌⊎◌, List, [], ◌++◌, length, Option, Some}
use Rattle.base_io.specs.declared.limits.TheConstants.{READ_LIMIT}
use Rattle.session.specs.Beginning.{Beginning}
use Rattle.session.specs.Dialogue.{Told, IsFront, Dialogue, is_going, is_over, is_long, said_to, said_so_far}

pub record Writing (Deed : Type 0) : Type 0 where
  -- what is told for a whole input
  pub whole : (input : List ℕ) → Told Deed
  -- whether the input ends the program before it ends itself
  pub is_over : (input : List ℕ) → Bool
  -- whether a line, or the input as a whole, is too long
  pub is_too_long : (input : List ℕ) → Bool
  -- what is told when so much was read, before it is known whether more comes
  pub so_far : (taken : List ℕ) → Told Deed
  -- and whether more is read then
  pub is_going : (taken : List ℕ) → Bool

-- what a dialogue tells
abbrev pub writing_by : {Session Deed : Type 0} → Dialogue Session Deed → Beginning → Session → Writing Deed
writing_by dialogue beginning session = record {
  whole = λ input. (said_to dialogue beginning session input).told;
  is_over = λ input. is_over (said_to dialogue beginning session input).course;
  is_too_long = λ input. is_long (said_to dialogue beginning session input).course;
  so_far = λ taken. (said_so_far dialogue beginning session taken).told;
  is_going = λ taken. is_going (said_so_far dialogue beginning session taken).course;
}

-- What may follow what was taken: nothing, or what the source tells that it has left.
abbrev pub MayFollow : (left : Option (List ℕ)) → (rest : List ℕ) → Type 0
MayFollow left rest = (rest ≡ []) ⊎ (left ≡ Some rest)

-- No read was made too early or too much. Before the last one the program was going on by what was read, and all that
-- this asked for was answered. The last one gave at most READ_LIMIT bytes.
pub record IsNeeded {Deed : Type 0} (writing : Writing Deed) (taken : List ℕ) (told : Told Deed) : Type 0 where
  pub before : List ℕ
  pub last : List ℕ
  pub whole : taken ≡ before ++ last
  pub short : length last ≤ READ_LIMIT
  pub going : writing.is_going before ≡ true
  pub answered : IsFront (writing.so_far before) told
