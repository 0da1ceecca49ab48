-- The tokens that were read, and those ahead.
use Rattle.std.proofs.Common.{◌≡◌, refl, sym, ◌∙◌, ap, subst, ℕ, ◌<◌, ◌≤◌, List, [], ◌∷◌, ◌++◌, append-nil, append_assoc, arith, Ok, Err, Result, Some, None, All}
use Rattle.std.proofs.lemmas.List.Elements.{All-append, All-cons, All-nil}
use Rattle.lp_defs.specs.declared.token.LexFault.{LexFault}
use Rattle.lp_defs.specs.declared.token.Token.{Token}
use Rattle.lp_defs.specs.Items.{Item, items, tokens_of, with_token}
use Rattle.lp_defs.specs.Kinds.{kind_of}
use Rattle.lp_lex.specs.declared.lexer.Lexer.{Lexer}
use Rattle.lp_lex.specs.Ahead.{AreSpans, HasKind, IsSlice, first_bytes, items_behind, next_of}
use Rattle.lp_lex.specs.Lexer.{items_ahead, offset_of, text_of}

abbrev pub joined : List Token → Result (List Token) LexFault → Result (List Token) LexFault
joined tokens (Ok more) = Ok (tokens ++ more)
joined tokens (Err fault) = Err fault

-- the tokens that a lexer has told
pub record IsReadSoFar (text : List ℕ) (lexer : Lexer) (tokens : List Token) : Type 0 where
  pub same_text : text_of lexer ≡ text
  pub all : joined tokens (tokens_of (items_ahead lexer)) ≡ tokens_of (items text)
  pub spans : AreSpans 0 (offset_of lexer) tokens
  pub kinds : All (HasKind text) tokens

pub tokens_of-end : (ahead : List Item) (tokens : List Token) → next_of ahead ≡ Ok None → joined tokens (tokens_of ahead) ≡ Ok tokens
unfolding tokens_of
tokens_of-end [] tokens e = ap Ok (append-nil tokens)
tokens_of-end (Ok lexeme ∷ more) tokens e = absurd cc
tokens_of-end (Err fault ∷ more) tokens e = absurd cc

pub tokens_of-fault : (ahead : List Item) (tokens : List Token) (fault : LexFault) → next_of ahead ≡ Err fault → joined tokens (tokens_of ahead) ≡ Err fault
unfolding tokens_of
tokens_of-fault [] tokens fault e = absurd cc
tokens_of-fault (Ok lexeme ∷ more) tokens fault e = absurd cc
tokens_of-fault (Err other ∷ more) tokens fault e = let same : other ≡ fault = cc in ap Err same

joined-with_token : (tokens : List Token) (token : Token) (more : Result (List Token) LexFault) → joined tokens (with_token token more) ≡ joined (tokens ++ token ∷ []) more
joined-with_token tokens token (Ok more) = ap Ok (sym (append_assoc tokens (token ∷ []) more))
joined-with_token tokens token (Err fault) = refl

pub tokens_of-token : (ahead : List Item) (tokens : List Token) (token : Token) → next_of ahead ≡ Ok (Some token) → joined tokens (tokens_of ahead) ≡ joined (tokens ++ token ∷ []) (tokens_of (items_behind ahead))
unfolding tokens_of
tokens_of-token [] tokens token e = absurd cc
tokens_of-token (Ok lexeme ∷ more) tokens token e =
    let same : lexeme.token ≡ token = cc in
    joined-with_token tokens lexeme.token (tokens_of more) ∙ ap (λ t. joined (tokens ++ t ∷ []) (tokens_of more)) same
tokens_of-token (Err fault ∷ more) tokens token e = absurd cc

pub AreSpans-more : (from end : ℕ) (tokens : List Token) (token : Token) → AreSpans from end tokens → end ≤ token.start → token.start < token.end → AreSpans from token.end (tokens ++ token ∷ [])
AreSpans-more from end [] token h starts some = (omega arith, some, omega arith)
AreSpans-more from end (first ∷ tokens) token h starts some = (h.0, h.1, AreSpans-more first.end end tokens token h.2 starts some)

pub AreSpans-longer : (from end longer : ℕ) (tokens : List Token) → AreSpans from end tokens → end ≤ longer → AreSpans from longer tokens
AreSpans-longer from end longer [] h more = omega arith
AreSpans-longer from end longer (first ∷ tokens) h more = (h.0, h.1, AreSpans-longer first.end end longer tokens h.2 more)

-- one more token
pub record IsTold (before after : Lexer) (token : Token) : Type 0 where
  pub next : Ok (Some token) ≡ next_of (items_ahead before)
  pub items_are : items_ahead after ≡ items_behind (items_ahead before)
  pub slice : IsSlice (text_of before) (offset_of before) (first_bytes (items_ahead before)) token
  pub offset_is : offset_of after ≡ token.end
  pub same_text : text_of after ≡ text_of before

HasKind-slice : (text bytes : List ℕ) (from : ℕ) (token : Token) → IsSlice text from bytes token → HasKind text token
HasKind-slice text bytes from token s = ap kind_of s.same ∙ s.kind

pub read_more : (text : List ℕ) (before after : Lexer) (tokens : List Token) (token : Token) → IsReadSoFar text before tokens → IsTold before after token → IsReadSoFar text after (tokens ++ token ∷ [])
read_more text before after tokens token so_far told =
    let kind : HasKind text token = subst (λ (t : List ℕ). HasKind t token) so_far.same_text (HasKind-slice _ _ _ token told.slice) in
    record {
      same_text = told.same_text ∙ so_far.same_text;
      all = ap (λ ahead. joined (tokens ++ token ∷ []) (tokens_of ahead)) told.items_are
          ∙ (sym (tokens_of-token (items_ahead before) tokens token (sym told.next)) ∙ so_far.all);
      spans = subst (λ (n : ℕ). AreSpans 0 n (tokens ++ token ∷ [])) (sym told.offset_is)
          (AreSpans-more 0 (offset_of before) tokens token so_far.spans told.slice.behind told.slice.not_empty);
      kinds = All-append (HasKind text) tokens (token ∷ []) so_far.kinds (All-cons (HasKind text) token [] kind (All-nil (HasKind text)));
    }
