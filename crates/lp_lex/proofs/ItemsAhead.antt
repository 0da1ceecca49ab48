-- The items ahead of a run.
use Rattle.std.proofs.Common.{IsTrue, Bool, true, false, cond, not, ◌&&◌, refl, ◌≡◌, sym, ◌∙◌, ap, ap₂, subst, ℕ, ◌+◌, List, [], ◌∷◌, length, arith, Ok, Err, Result, Some, None, Option}
use Rattle.std.proofs.lemmas.Iterator.Adapters.{position_from-zero}
use Rattle.std.specs.List.{position, position_from}
use Rattle.base_names.specs.declared.refusal.FaultWord.TheVariants.{Unsupported}
use Rattle.lp_defs.specs.Kinds.{Kind, kind_of}
use Rattle.lp_defs.specs.declared.token.LexFault.{LexFault}
use Rattle.lp_defs.specs.declared.token.Place.{Place}
use Rattle.lp_defs.specs.declared.token.TokenKind.{TokenKind}
use Rattle.lp_defs.specs.Items.{Item, fault_at, forbidden_after, is_next_on_line, item_alone, item_but_for, item_of, item_of_kind, items_of, lexeme_of}
use Rattle.lp_defs.specs.Tokens.{Run, is_plain, is_plain_byte}
use Rattle.lp_lex.specs.Ahead.{IsNext, IsSlice, along, first_bytes, item_of_outcome, items_behind, next_of, runs_ahead}

-- a run that comes next is read as this
pub record IsRead (text : List ℕ) (place : Place) (run : Run) (outcome : Result TokenKind LexFault) : Type 0 where
  pub next : IsNext text place run
  pub outcome_is : item_of_outcome run outcome ≡ item_of run (runs_ahead text (along run.place (length run.bytes)))

ahead_is : (text : List ℕ) (place : Place) (run : Run) (outcome : Result TokenKind LexFault) → IsRead text place run outcome → items_of (runs_ahead text place) ≡ item_of_outcome run outcome ∷ items_of (runs_ahead text (along run.place (length run.bytes)))
unfolding items_of
ahead_is text place run outcome r =
    let more = runs_ahead text (along run.place (length run.bytes)) in
    ap items_of r.next.runs ∙ ap (λ item. item ∷ items_of more) (sym r.outcome_is)

pub at_end : (text : List ℕ) (place : Place) → runs_ahead text place ≡ [] → items_of (runs_ahead text place) ≡ []
unfolding items_of
at_end text place e = ap items_of e

pub fault-next : (text : List ℕ) (place : Place) (run : Run) (fault : LexFault) → IsRead text place run (Err fault) → Err fault ≡ next_of (items_of (runs_ahead text place))
fault-next text place run fault r = sym (ap next_of (ahead_is text place run (Err fault) r))

pub fault-items : (text : List ℕ) (place : Place) (run : Run) (fault : LexFault) → IsRead text place run (Err fault) → items_of (runs_ahead text place) ≡ items_behind (items_of (runs_ahead text place))
fault-items text place run fault r = let e = ahead_is text place run (Err fault) r in e ∙ ap items_behind (sym e)

pub token-next : (text : List ℕ) (place : Place) (run : Run) (kind : TokenKind) → IsRead text place run (Ok kind) → Ok (Some (lexeme_of run kind).token) ≡ next_of (items_of (runs_ahead text place))
token-next text place run kind r = sym (ap next_of (ahead_is text place run (Ok kind) r))

pub token-items : (text : List ℕ) (place : Place) (run : Run) (kind : TokenKind) → IsRead text place run (Ok kind) → items_of (runs_ahead text (along run.place (length run.bytes))) ≡ items_behind (items_of (runs_ahead text place))
token-items text place run kind r = sym (ap items_behind (ahead_is text place run (Ok kind) r))

-- a token has the kind of its bytes, and no byte that no token has
kind_in : TokenKind → Item → TokenKind
kind_in kind (Ok lexeme) = lexeme.token.kind
kind_in kind (Err fault) = kind

pub record IsToken (run : Run) (kind : TokenKind) : Type 0 where
  pub plain : IsTrue (is_plain run.bytes)
  pub kind_is : kind_of run.bytes ≡ Ok kind

kind_known : (run : Run) (kind : TokenKind) (found : Kind) → Ok (lexeme_of run kind) ≡ item_of_kind run found → found ≡ Ok kind
unfolding kind_in
kind_known run kind (Ok other) e = ap Ok (sym (ap (kind_in kind) e))
kind_known run kind (Err fault) e = absurd cc

-- the first byte that no token has, from an index on
bad_from : ℕ → List ℕ → Option ℕ
bad_from i bytes = position_from (λ byte. not (is_plain_byte byte)) i bytes

plain_step : (i byte : ℕ) (bytes : List ℕ) (plain : Bool) → is_plain_byte byte ≡ plain → bad_from i (byte ∷ bytes) ≡ None → ((j : ℕ) → bad_from j bytes ≡ None → is_plain bytes ≡ true) → is_plain (byte ∷ bytes) ≡ true
unfolding bad_from
plain_step i byte bytes true h e rest =
    let here = ap (λ b. cond (not b) (Some i) (bad_from (i + 1) bytes)) h in
    ap₂ ◌&&◌ h (rest (i + 1) (sym here ∙ e))
plain_step i byte bytes false h e rest =
    let here = ap (λ b. cond (not b) (Some i) (bad_from (i + 1) bytes)) h in
    let same : Some i ≡ None = sym here ∙ e in
    absurd cc

plain_from : (bytes : List ℕ) (i : ℕ) → bad_from i bytes ≡ None → is_plain bytes ≡ true
plain_from [] i e = refl
plain_from (byte ∷ bytes) i e = plain_step i byte bytes (is_plain_byte byte) refl e (λ j. plain_from bytes j)

all_plain : (bytes : List ℕ) → position (λ byte. not (is_plain_byte byte)) bytes ≡ None → is_plain bytes ≡ true
unfolding bad_from
all_plain bytes e = plain_from bytes 0 (sym (position_from-zero (λ byte. not (is_plain_byte byte)) bytes) ∙ e)

outcome_known : (run : Run) (kind : TokenKind) (bad : Option ℕ) → position (λ byte. not (is_plain_byte byte)) run.bytes ≡ bad → Ok (lexeme_of run kind) ≡ item_but_for bad run → IsToken run kind
outcome_known run kind None p e = record { plain = all_plain run.bytes p; kind_is = kind_known run kind (kind_of run.bytes) e }
outcome_known run kind (Some bad) p e = absurd cc

token_known : (run : Run) (kind : TokenKind) (more : List Run) (forbidden : Bool) → Ok (lexeme_of run kind) ≡ cond forbidden (Err (fault_at run.place Unsupported)) (item_alone run) → IsToken run kind
token_known run kind more true e = absurd cc
token_known run kind more false e = outcome_known run kind (position (λ byte. not (is_plain_byte byte)) run.bytes) refl e

pub token-slice : (text : List ℕ) (place : Place) (run : Run) (kind : TokenKind) → IsRead text place run (Ok kind) → IsSlice text place.offset (first_bytes (items_of (runs_ahead text place))) (lexeme_of run kind).token
token-slice text place run kind r =
    let some = r.next.not_empty in
    let within = r.next.within.in_text in
    let more = runs_ahead text (along run.place (length run.bytes)) in
    let known = token_known run kind more (is_next_on_line (forbidden_after run.bytes) run.place.line more) r.outcome_is in
    let bytes : run.bytes ≡ first_bytes (items_of (runs_ahead text place)) = sym (ap first_bytes (ahead_is text place run (Ok kind) r)) in
    record {
      behind = r.next.forward;
      not_empty = omega arith;
      in_text = within;
      same = sym r.next.slice ∙ bytes;
      plain = subst (λ (bs : List ℕ). IsTrue (is_plain bs)) bytes known.plain;
      kind = subst (λ (bs : List ℕ). kind_of bs ≡ Ok kind) bytes known.kind_is;
    }
