-- The items of a text: each run with the kind that it has, or with its fault.
use Rattle.std.specs.Prelude.{ℕ, ◌+◌, Bool, false, not, ◌&&◌, List, [], ◌∷◌, length, ◌==◌, codes, Option, Some, None, position, Result, Ok, Err, if◌then◌else◌}
use Rattle.std.specs.Str.{str_eq_ignore_ascii_case}
use Rattle.base_names.specs.declared.refusal.FaultWord.{FaultWord}
use Rattle.base_names.specs.declared.refusal.FaultWord.TheVariants.{Unsupported, Word}
use Rattle.lp_defs.specs.declared.token.LexFault.{LexFault}
use Rattle.lp_defs.specs.declared.token.Place.{Place}
use Rattle.lp_defs.specs.declared.token.Token.{Token}
use Rattle.lp_defs.specs.declared.token.TokenKind.{TokenKind}
use Rattle.lp_defs.specs.Kinds.{Kind, is_any_word, kind_of}
use Rattle.lp_defs.specs.Tokens.{Run, is_plain_byte, runs_of}

-- a token with its bytes
pub record Lexeme : Type 0 where
  pub token : Token
  pub bytes : List ℕ

-- what stands next in a text: a token, or a run that is none
abbrev pub Item : Type 0
Item = Result Lexeme LexFault

abbrev pub fault_at : Place → FaultWord → LexFault
fault_at place fault = record { line = place.line; column = place.column; fault = fault }

abbrev pub lexeme_of : Run → TokenKind → Lexeme
lexeme_of run kind = record {
  token = record {
    line = run.place.line;
    column = run.place.column;
    start = run.place.offset;
    end = run.place.offset + length run.bytes;
    kind = kind;
  };
  bytes = run.bytes;
}

abbrev pub item_of_kind : Run → Kind → Item
item_of_kind run (Ok kind) = Ok (lexeme_of run kind)
item_of_kind run (Err fault) = Err (fault_at run.place fault)

-- A run with a byte that no token has is at fault there, whatever it would be else.
abbrev pub item_but_for : Option ℕ → Run → Item
item_but_for (Some bad) run = Err (record { line = run.place.line; column = run.place.column + bad; fault = Word })
item_but_for None run = item_of_kind run (kind_of run.bytes)

abbrev pub item_alone : Run → Item
item_alone run = item_but_for (position (λ byte. not (is_plain_byte byte)) run.bytes) run

-- the word that may not follow on the line
unfoldable pub forbidden_after : List ℕ → Option (List ℕ)
forbidden_after first =
    if is_any_word (codes "lazy" ∷ codes "general" ∷ []) first then Some (codes "constraints")
    else (if is_any_word (codes "user" ∷ []) first then Some (codes "cuts")
    else None)

abbrev pub is_next_on_line : Option (List ℕ) → ℕ → List Run → Bool
is_next_on_line None line runs = false
is_next_on_line (Some word) line [] = false
is_next_on_line (Some word) line (next ∷ _) = next.place.line == line && str_eq_ignore_ascii_case word next.bytes

-- a run with those behind it
abbrev pub item_of : Run → List Run → Item
item_of run more =
    if is_next_on_line (forbidden_after run.bytes) run.place.line more then Err (fault_at run.place Unsupported)
    else item_alone run

unfoldable pub items_of : List Run → List Item
items_of [] = []
items_of (run ∷ more) = item_of run more ∷ items_of more

abbrev pub items : List ℕ → List Item
items text = items_of (runs_of text)

abbrev pub with_token : Token → Result (List Token) LexFault → Result (List Token) LexFault
with_token token (Ok tokens) = Ok (token ∷ tokens)
with_token token (Err fault) = Err fault

-- all tokens, or the first fault
unfoldable pub tokens_of : List Item → Result (List Token) LexFault
tokens_of [] = Ok []
tokens_of (Ok lexeme ∷ more) = with_token lexeme.token (tokens_of more)
tokens_of (Err fault ∷ more) = Err fault
