-- Which step a line of a script is, by its words.
use Rattle.std.specs.Prelude.{ℕ, ◌+◌, ◌^◌, nat_le, nat_lt, ◌&&◌, List, [], ◌∷◌, codes, bytes_eq, Option, Some, None, drop, option_and_then, if◌then◌else◌}
use Rattle.base_names.specs.Decimal.{number_of}
use Rattle.base_names.specs.OwnerName.{is_owner_name}
use Rattle.base_names.specs.declared.seat.Role.{Role}
use Rattle.base_names.specs.declared.seat.Role.TheVariants.{Standard, Admin}
use Rattle.disk_model.specs.declared.image.Image.{Image}
use Rattle.disk_model.specs.declared.image.Image.TheVariants.{Old, New, Fill}
use Rattle.wire_text.specs.Commands.{block_len_of, command_of_words}
use Rattle.wire_text.specs.Line.{words_of}
use Rattle.script_text.specs.declared.limits.TheConstants.{LEAST_JOURNAL, MOST_JOURNAL}
use Rattle.script_text.specs.declared.step.Step.{Step}
use Rattle.script_text.specs.declared.step.Step.TheVariants.{Limits, Seat, At, Hang, Fault, Stop, Open}

-- ---- single words

-- the number that digits spell, where it is from the first of these on and below the second; zeros may lead
abbrev pub number_within : (least limit : ℕ) → List ℕ → Option ℕ
number_within least limit word = option_and_then (λ n. if nat_le least n && nat_lt n limit then Some n else None) (number_of word)

-- 1 to 255
abbrev pub seat_number : List ℕ → Option ℕ
seat_number word = number_within 1 256 word

abbrev pub byte_number : List ℕ → Option ℕ
byte_number word = number_within 0 256 word

abbrev pub role_of : List ℕ → Option Role
role_of word = if bytes_eq word (codes "STANDARD") then Some Standard else (if bytes_eq word (codes "ADMIN") then Some Admin else None)

abbrev pub owner_of : List ℕ → Option (List ℕ)
owner_of word = if is_owner_name word then Some word else None

-- no word more
abbrev pub no_more : List (List ℕ) → Option (Unit {0})
no_more [] = Some tt
no_more (word ∷ words) = None

-- ---- steps, by the words behind the first one

-- this, and what is told behind it
infixl 3 ◌>>=◌
abbrev pub ◌>>=◌ : {A B : Type 0} → Option A → (A → Option B) → Option B
told >>= later = option_and_then later told

-- the greatest numbers of an owner's commands and of its models' bytes, and the journal's limit
abbrev pub limits_step : List (List ℕ) → Option Step
limits_step (first ∷ second ∷ third ∷ rest) = do
  end ← no_more rest
  commands ← number_within 0 (2 ^ 32) first
  bytes ← number_within 0 (2 ^ 64) second
  journal ← number_within LEAST_JOURNAL (MOST_JOURNAL + 1) third
  Some (Limits commands bytes journal)
limits_step words = None

abbrev pub seat_step : List (List ℕ) → Option Step
seat_step (first ∷ second ∷ third ∷ rest) = do
  end ← no_more rest
  number ← seat_number first
  owner ← owner_of second
  role ← role_of third
  Some (Seat number owner role)
seat_step words = None

abbrev pub hang_step : List (List ℕ) → Option Step
hang_step (word ∷ []) = do
  number ← seat_number word
  Some (Hang number)
hang_step words = None

abbrev pub fault_step : List (List ℕ) → Option Step
fault_step (word ∷ []) = do
  k ← number_within 1 (2 ^ 64) word
  Some (Fault k)
fault_step words = None

-- what a stop leaves
abbrev pub image_of : List (List ℕ) → Option Image
image_of (word ∷ []) = if bytes_eq word (codes "OLD") then Some Old else (if bytes_eq word (codes "NEW") then Some New else None)
image_of (word ∷ byte ∷ []) = if bytes_eq word (codes "FILL") then (byte_number byte >>= λ b. Some (Fill b)) else None
image_of words = None

abbrev pub stop_step : List (List ℕ) → Option Step
stop_step [] = None
stop_step (word ∷ words) = do
  k ← number_within 0 (2 ^ 64) word
  image ← image_of words
  Some (Stop k image)

abbrev pub open_step : List (List ℕ) → Option Step
open_step [] = Some Open
open_step words = None

-- without a command line
abbrev pub plain_step : (word : List ℕ) → List (List ℕ) → Option Step
plain_step word words =
    if bytes_eq word (codes "LIMITS") then limits_step words
    else (if bytes_eq word (codes "SEAT") then seat_step words
    else (if bytes_eq word (codes "HANG") then hang_step words
    else (if bytes_eq word (codes "FAULT") then fault_step words
    else (if bytes_eq word (codes "STOP") then stop_step words
    else (if bytes_eq word (codes "OPEN") then open_step words
    else None)))))

-- a step for a seat, whatever its command line is
abbrev pub at_step : List (List ℕ) → Option Step
at_step [] = None
at_step (word ∷ words) = seat_number word >>= λ number. Some (At number)

-- the step that the words of a line are
abbrev pub step_of : List (List ℕ) → Option Step
step_of [] = None
step_of (word ∷ words) = if bytes_eq word (codes "AT") then at_step words else plain_step word words

-- the words of the command line in a step for a seat, which may be none
abbrev pub command_words : List (List ℕ) → List (List ℕ)
command_words words = drop 2 words

-- ---- blocks

abbrev pub block_of : Step → (command : List (List ℕ)) → Option ℕ
block_of (At number) command = block_len_of (command_of_words command)
block_of step command = None

-- How many bytes of a block a line asks for: as many as the command in it does.
abbrev pub block_wanted : List ℕ → Option ℕ
block_wanted line = step_of (words_of line) >>= λ step. block_of step (command_words (words_of line))
