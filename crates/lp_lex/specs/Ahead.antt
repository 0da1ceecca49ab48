-- What a text has ahead of a place that is in no run and in no comment.
use Rattle.std.specs.Prelude.{◌≡◌, ℕ, ◌+◌, ◌-◌, ◌^◌, ◌<◌, ◌≤◌, List, [], ◌∷◌, length, drop, slice_range, Option, Some, None, Result, Ok, Err, IsTrue}
use Rattle.lp_defs.specs.declared.token.LexFault.{LexFault}
use Rattle.lp_defs.specs.declared.token.Place.{Place}
use Rattle.lp_defs.specs.declared.token.Token.{Token}
use Rattle.lp_defs.specs.declared.token.TokenKind.{TokenKind}
use Rattle.lp_defs.specs.Items.{Item, lexeme_of}
use Rattle.lp_defs.specs.Kinds.{kind_of}
use Rattle.lp_defs.specs.Tokens.{Run, behind_bytes, gap, is_plain, runs_from}

abbrev pub runs_ahead : List ℕ → Place → List Run
runs_ahead text place = runs_from gap place (drop place.offset text)

-- the place of the text's end, by the bytes ahead
abbrev pub end_ahead : List ℕ → Place → Place
end_ahead text place = behind_bytes place (drop place.offset text)

-- a place of a text that is short enough for its lines and columns to be counted
pub record IsWithin (text : List ℕ) (place : Place) : Type 0 where
  pub in_text : place.offset ≤ length text
  pub short : length text < 2 ^ 32 - 1
  pub line : place.line ≤ place.offset + 1
  pub column : place.column ≤ place.offset + 1

-- the bytes between two places begin no run
pub record IsGap (text : List ℕ) (from to : Place) : Type 0 where
  pub within : IsWithin text to
  pub forward : from.offset ≤ to.offset
  pub same_runs : runs_ahead text to ≡ runs_ahead text from
  pub same_end : end_ahead text to ≡ end_ahead text from

-- the place behind so many bytes of a run
abbrev pub along : Place → ℕ → Place
along place len = record { line = place.line; column = place.column + len; offset = place.offset + len }

-- the run comes next, ahead of the place
pub record IsNext (text : List ℕ) (place : Place) (run : Run) : Type 0 where
  pub forward : place.offset ≤ run.place.offset
  pub not_empty : 0 < length run.bytes
  pub slice : run.bytes ≡ slice_range text run.place.offset (run.place.offset + length run.bytes)
  pub runs : runs_ahead text place ≡ run ∷ runs_ahead text (along run.place (length run.bytes))
  pub same_end : end_ahead text (along run.place (length run.bytes)) ≡ end_ahead text place
  pub within : IsWithin text (along run.place (length run.bytes))

-- what is told of the items ahead: the first one, or nothing at the end
abbrev pub next_of : List Item → Result (Option Token) LexFault
next_of [] = Ok None
next_of (Ok lexeme ∷ _) = Ok (Some lexeme.token)
next_of (Err fault ∷ _) = Err fault

-- the items that are ahead then; a fault stays
abbrev pub items_behind : List Item → List Item
items_behind [] = []
items_behind (Ok lexeme ∷ more) = more
items_behind (Err fault ∷ more) = Err fault ∷ more

-- the bytes of the token that is the first item
abbrev pub first_bytes : List Item → List ℕ
first_bytes [] = []
first_bytes (Ok lexeme ∷ _) = lexeme.bytes
first_bytes (Err _ ∷ _) = []

-- the token stands in the text from an offset on, its text is the slice, and these are its bytes
pub record IsSlice (text : List ℕ) (from : ℕ) (bytes : List ℕ) (token : Token) : Type 0 where
  pub behind : from ≤ token.start
  pub not_empty : token.start < token.end
  pub in_text : token.end ≤ length text
  pub same : slice_range text token.start token.end ≡ bytes
  pub plain : IsTrue (is_plain bytes)
  pub kind : kind_of bytes ≡ Ok token.kind

-- the item that a run is, by the kind or the fault that was found
abbrev pub item_of_outcome : Run → Result TokenKind LexFault → Item
item_of_outcome run (Ok kind) = Ok (lexeme_of run kind)
item_of_outcome run (Err fault) = Err fault

-- the spans rise from an offset on, and end by another
abbrev pub AreSpans : ℕ → ℕ → List Token → Type 0
AreSpans from end [] = from ≤ end
AreSpans from end (token ∷ tokens) = (from ≤ token.start) × (token.start < token.end) × AreSpans token.end end tokens

-- the slice is a token of the kind that is told
abbrev pub HasKind : List ℕ → Token → Type 0
HasKind text token = kind_of (slice_range text token.start token.end) ≡ Ok token.kind
