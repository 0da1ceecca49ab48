-- A line read from the left: the command first, and then its arguments.
use Rattle.std.specs.Prelude.{◌≡◌, ◌⊎◌, ℕ, List, [], ◌∷◌, ◌++◌, codes, bytes_eq, find, Option, Some, None, option_map, Result, Ok, Err, if◌then◌else◌}
use Rattle.frac128.specs.Checked.{◌>>=◌}
use Rattle.base_names.specs.declared.refusal.Refusal.{Refusal}
use Rattle.frac128.specs.Fraction.{Fraction}
use Rattle.model_core.specs.declared.change.NamedTerm.{NamedTerm}
use Rattle.base_names.specs.declared.refusal.Refusal.TheVariants.{LINE, MEMORY}
use Rattle.wire_text.specs.Commands.{are_pairs, fit, made, terms_told}
use Rattle.wire_text.specs.Forms.{Arguments, Makes, change_form, query_form, form_of, plain_verbs, changes, queries}
use Rattle.wire_text.specs.declared.command.Command.{Command}
use Rattle.wire_text.specs.declared.verb.Verb.{Verb}
use Rattle.wire_text.specs.declared.verb.Verb.TheVariants.{Change, Get}
use Rattle.wire_text.specs.declared.verb.ChangeVerb.{ChangeVerb}
use Rattle.wire_text.specs.declared.verb.Query.{Query}

abbrev pub query_of : List ℕ → Option Query
query_of word = find (λ q. bytes_eq word (query_form q).word) queries

abbrev pub change_of : List ℕ → Option ChangeVerb
change_of word = find (λ c. bytes_eq word (change_form c).word) changes

abbrev pub change_verb : Option ChangeVerb → Option Verb
change_verb change = option_map (λ c. Change c) change

abbrev pub verb_or : Option Verb → Option Verb → Option Verb
verb_or (Some v) other = Some v
verb_or None other = other

-- the command that one word calls
abbrev pub verb_of : List ℕ → Option Verb
verb_of word = verb_or (find (λ v. bytes_eq word (form_of v).word) plain_verbs) (change_verb (change_of word))

abbrev pub query_at : List (List ℕ) → Option (Verb × List (List ℕ))
query_at [] = None
query_at (word ∷ words) = option_map (λ q. (Get q, words)) (query_of word)

-- the command with which words begin, and the words behind that
abbrev pub verb_at : List (List ℕ) → Option (Verb × List (List ℕ))
verb_at [] = None
verb_at (word ∷ words) = if bytes_eq word (codes "GET") then query_at words else option_map (λ v. (v, words)) (verb_of word)

-- what words say as these arguments; LINE where they don't fit
abbrev pub read_as : (arguments : Arguments) → Makes arguments → List (List ℕ) → Result Command Refusal
read_as arguments makes words = if fit arguments words then made arguments makes words else Err LINE

-- what the words behind a command say
abbrev pub read_behind : Verb → List (List ℕ) → Result Command Refusal
read_behind v words = read_as (form_of v).arguments (form_of v).makes words

-- an answer, with what is made of its value
abbrev pub given : {A B : Type 0} → (A → B) → Result A Refusal → Result B Refusal
given f (Ok value) = Ok (f value)
given f (Err refusal) = Err refusal

-- What a call answered that may find no memory is what words say, or MEMORY.
abbrev pub Reads : Result Command Refusal → Result Command Refusal → Type 0
Reads said (Ok command) = said ≡ Ok command
Reads said (Err refusal) = (refusal ≡ MEMORY) ⊎ (said ≡ Err refusal)

-- what pairs of words tell; LINE where they are none
abbrev pub read_pairs : List (List ℕ) → Result (Result (List NamedTerm) Refusal) Refusal
read_pairs words = if are_pairs words then Ok (terms_told words) else Err LINE

-- Terms were told, and one more pair follows.
abbrev pub with_pair : Result (List NamedTerm) Refusal → Result Fraction Refusal → Result (List ℕ) Refusal → Result (List NamedTerm) Refusal
with_pair so_far coef variable = do
  terms ← so_far
  c ← coef
  n ← variable
  Ok (terms ++ record { name = n; coef = c } ∷ [])

-- Terms were told, and further pairs follow.
abbrev pub with_pairs : Result (List NamedTerm) Refusal → List (List ℕ) → Result (Result (List NamedTerm) Refusal) Refusal
with_pairs so_far words = do
  rest ← read_pairs words
  Ok (so_far >>= λ front. rest >>= λ back. Ok (front ++ back))

abbrev pub ReadsPairs : Result (Result (List NamedTerm) Refusal) Refusal → Result (Result (List NamedTerm) Refusal) Refusal → Type 0
ReadsPairs said (Ok terms) = said ≡ Ok terms
ReadsPairs said (Err refusal) = (refusal ≡ MEMORY) ⊎ (said ≡ Err refusal)
