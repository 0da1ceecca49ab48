-- What a lexer has ahead, read on from a stage.
use Rattle.std.proofs.Common.{◌≡◌, refl, sym, ◌∙◌, ap, ap₂, ℕ, List, [], ◌∷◌, map, Ok, Err, Result, Some, None}
use Rattle.frac128.specs.Checked.{◌>>=◌}
use Rattle.model_data.specs.declared.model.Model.{Model}
use Rattle.lp_defs.specs.declared.fault.ModelFault.{ModelFault}
use Rattle.lp_defs.specs.declared.token.LexFault.{LexFault}
use Rattle.lp_defs.specs.declared.token.Token.{Token}
use Rattle.lp_defs.specs.Items.{Item}
use Rattle.lp_defs.specs.Reading.{after, at_the_end, reading_from, stopped}
use Rattle.lp_defs.specs.Stage.{Stage}
use Rattle.lp_defs.specs.Symbols.{Spot, seen_of, spot_of, symbol_of}
use Rattle.lp_defs.specs.Text.{reading}
use Rattle.lp_lex.specs.declared.lexer.Lexer.{Lexer}
use Rattle.lp_lex.specs.Ahead.{first_bytes, items_behind, next_of}
use Rattle.lp_lex.specs.Lexer.{end_of, items_ahead, text_of}

abbrev pub rest_of : Stage → List Item → Spot → Result Model ModelFault
rest_of stage ahead end = reading_from stage (map seen_of ahead) end

-- The rest of the text, read on from the stage, is what the whole text is read as.
pub record IsReadSoFar (text : List ℕ) (lexer : Lexer) (stage : Stage) : Type 0 where
  pub same_text : text_of lexer ≡ text
  pub rest : rest_of stage (items_ahead lexer) (spot_of (end_of lexer)) ≡ reading text

abbrev pub spot_of_token : Token → Spot
spot_of_token token = record { line = token.line; column = token.column }

abbrev pub fault_of_run : LexFault → ModelFault
fault_of_run fault = record { line = fault.line; column = fault.column; fault = fault.fault }

pub rest-end : (stage : Stage) (ahead : List Item) (end : Spot) → next_of ahead ≡ Ok None → rest_of stage ahead end ≡ at_the_end stage end
unfolding reading_from
rest-end stage [] end e = refl
rest-end stage (Ok lexeme ∷ more) end e = absurd cc
rest-end stage (Err fault ∷ more) end e = absurd cc

pub rest-fault : (stage : Stage) (ahead : List Item) (end : Spot) (fault : LexFault) → next_of ahead ≡ Err fault
    → rest_of stage ahead end ≡ Err (stopped stage (fault_of_run fault))
unfolding reading_from
rest-fault stage [] end fault e = absurd cc
rest-fault stage (Ok lexeme ∷ more) end fault e = absurd cc
rest-fault stage (Err other ∷ more) end fault e =
    let same : other ≡ fault = cc in
    ap (λ (f : LexFault). Err (stopped stage (fault_of_run f))) same

abbrev pub goes_on : Result Stage ModelFault → List Item → Spot → Result Model ModelFault
goes_on step ahead end = step >>= λ next. rest_of next ahead end

pub rest-token : (stage : Stage) (ahead : List Item) (end : Spot) (token : Token) → next_of ahead ≡ Ok (Some token)
    → rest_of stage ahead end ≡ goes_on (after stage (spot_of_token token) (symbol_of token.kind (first_bytes ahead))) (items_behind ahead) end
unfolding reading_from
rest-token stage [] end token e = absurd cc
rest-token stage (Ok lexeme ∷ more) end token e =
    let same : lexeme.token ≡ token = cc in
    ap (λ (t : Token). goes_on (after stage (spot_of_token t) (symbol_of t.kind lexeme.bytes)) more end) same
rest-token stage (Err fault ∷ more) end token e = absurd cc

-- a token that the lexer has told
pub record IsTold (before after : Lexer) (token : Token) (bytes : List ℕ) : Type 0 where
  pub next : Ok (Some token) ≡ next_of (items_ahead before)
  pub items_are : items_ahead after ≡ items_behind (items_ahead before)
  pub bytes_are : bytes ≡ first_bytes (items_ahead before)
  pub same_text : text_of after ≡ text_of before
  pub same_end : end_of after ≡ end_of before

module _ {text : List ℕ} {lexer later : Lexer} {stage : Stage} {token : Token} {bytes : List ℕ} where
  -- the reading behind the token
  behind : IsReadSoFar text lexer stage → IsTold lexer later token bytes
      → goes_on (after stage (spot_of_token token) (symbol_of token.kind bytes)) (items_ahead later) (spot_of (end_of later)) ≡ reading text
  behind so_far told =
      let step = λ (bs : List ℕ). after stage (spot_of_token token) (symbol_of token.kind bs) in
      ap (λ (bs : List ℕ). goes_on (step bs) (items_ahead later) (spot_of (end_of later))) told.bytes_are
      ∙ (ap₂ (λ ahead end. goes_on (step (first_bytes (items_ahead lexer))) ahead (spot_of end)) told.items_are told.same_end
      ∙ (sym (rest-token stage (items_ahead lexer) (spot_of (end_of lexer)) token (sym told.next)) ∙ so_far.rest))

  pub read_more : (next : Stage) → IsReadSoFar text lexer stage → IsTold lexer later token bytes
      → after stage (spot_of_token token) (symbol_of token.kind bytes) ≡ Ok next → IsReadSoFar text later next
  read_more next so_far told is = record {
    same_text = told.same_text ∙ so_far.same_text;
    rest = sym (ap (λ step. goes_on step (items_ahead later) (spot_of (end_of later))) is) ∙ behind so_far told;
  }

  pub read_stop : (fault : ModelFault) → IsReadSoFar text lexer stage → IsTold lexer later token bytes
      → after stage (spot_of_token token) (symbol_of token.kind bytes) ≡ Err fault → reading text ≡ Err fault
  read_stop fault so_far told is =
      sym (behind so_far told) ∙ ap (λ step. goes_on step (items_ahead later) (spot_of (end_of later))) is

module _ {text : List ℕ} {lexer : Lexer} {stage : Stage} where
  pub read_end : IsReadSoFar text lexer stage → Ok None ≡ next_of (items_ahead lexer) → reading text ≡ at_the_end stage (spot_of (end_of lexer))
  read_end so_far next = sym so_far.rest ∙ rest-end stage (items_ahead lexer) (spot_of (end_of lexer)) (sym next)

  pub read_no_token : (fault : LexFault) → IsReadSoFar text lexer stage → Err fault ≡ next_of (items_ahead lexer)
      → reading text ≡ Err (stopped stage (fault_of_run fault))
  read_no_token fault so_far next = sym so_far.rest ∙ rest-fault stage (items_ahead lexer) (spot_of (end_of lexer)) fault (sym next)
