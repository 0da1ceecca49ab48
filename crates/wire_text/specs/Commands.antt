-- Which command a line is, or why it is none.
use Rattle.std.specs.Prelude.{ℕ, Bool, true, false, not, ◌&&◌, List, [], ◌∷◌, bytes_eq, Option, Some, None, unwrap_or, Result, Ok, Err, if◌then◌else◌}
use Rattle.std.specs.Option.{option_and_then}
use Rattle.frac128.specs.Checked.{◌>>=◌}
use Rattle.base_names.specs.declared.refusal.Refusal.{Refusal}
use Rattle.base_names.specs.declared.refusal.Refusal.TheVariants.{LINE}
use Rattle.model_core.specs.declared.change.NamedTerm.{NamedTerm}
use Rattle.wire_text.specs.Kinds.{Kind, name, number, parameter, told}
use Rattle.wire_text.specs.Forms.{Arguments, nothing, pairs, ◌then◌, Makes, form_of, called, verbs}
use Rattle.wire_text.specs.Line.{words_of}
use Rattle.wire_text.specs.declared.command.Command.{Command}
use Rattle.wire_text.specs.declared.command.Command.TheVariants.{Read}
use Rattle.wire_text.specs.declared.verb.Verb.{Verb}

abbrev pub is_line : {A : Type 0} → Result A Refusal → Bool
is_line (Err LINE) = true
is_line (Err _) = false
is_line (Ok _) = false

-- A word of this kind, whatever it tells. Every word may stand in a name's place.
abbrev pub is_such : Kind → List ℕ → Bool
is_such name word = true
is_such parameter word = true
is_such argument word = not (is_line (told argument word))

abbrev pub are_pairs : List (List ℕ) → Bool
are_pairs [] = true
are_pairs (coef ∷ []) = false
are_pairs (coef ∷ variable ∷ words) = is_such number coef && is_such name variable && are_pairs words

-- The words fit the arguments: there is one for each of them, and it is of its kind.
abbrev pub fit : Arguments → List (List ℕ) → Bool
fit nothing [] = true
fit nothing (word ∷ words) = false
fit pairs words = are_pairs words
fit (argument then rest) [] = false
fit (argument then rest) (word ∷ words) = is_such argument word && fit rest words

abbrev pub terms_told : List (List ℕ) → Result (List NamedTerm) Refusal
terms_told [] = Ok []
terms_told (coef ∷ []) = Err LINE
terms_told (coef ∷ variable ∷ words) = do
  c ← told number coef
  n ← told name variable
  terms ← terms_told words
  Ok (record { name = n; coef = c } ∷ terms)

-- The command of words that fit. The first word that tells nothing says why there is none.
abbrev pub made : (arguments : Arguments) → Makes arguments → List (List ℕ) → Result Command Refusal
made nothing command words = Ok command
made pairs makes words = do
  terms ← terms_told words
  Ok (makes terms)
made (argument then rest) makes [] = Err LINE
made (argument then rest) makes (word ∷ words) = do
  value ← told argument word
  made rest (makes value) words

-- the words behind those with which a command begins
abbrev pub behind : (called words : List (List ℕ)) → Option (List (List ℕ))
behind [] words = Some words
behind (first ∷ called) [] = None
behind (first ∷ called) (word ∷ words) = if bytes_eq word first then behind called words else None

-- what words say as this command; nothing where they aren't called so, or don't fit its arguments
abbrev pub said_as : Verb → List (List ℕ) → Option (Result Command Refusal)
said_as v words =
    option_and_then (λ rest. if fit (form_of v).arguments rest then Some (made (form_of v).arguments (form_of v).makes rest) else None) (behind (called v) words)

-- Words that are no command's are LINE.
abbrev pub said_as_any : List Verb → List (List ℕ) → Result Command Refusal
said_as_any [] words = Err LINE
said_as_any (v ∷ vs) words = unwrap_or (said_as v words) (said_as_any vs words)

unfoldable pub command_of_words : List (List ℕ) → Result Command Refusal
command_of_words words = said_as_any verbs words

-- the command that a line is, or why it is none
abbrev pub command_of : List ℕ → Result Command Refusal
command_of line = command_of_words (words_of line)

-- how many bytes of a block stand behind a line
abbrev pub block_len_of : Result Command Refusal → Option ℕ
block_len_of (Ok (Read len)) = len
block_len_of (Ok _) = None
block_len_of (Err _) = None
