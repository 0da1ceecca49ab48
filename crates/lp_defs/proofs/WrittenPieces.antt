-- The pieces of a written line, one space apart.
use Rattle.std.proofs.Common.{◌≡◌, refl, sym, ◌∙◌, subst, ℕ, Bool, true, false, List, [], ◌∷◌, ◌++◌, append_assoc, codes, None}
use Rattle.std.specs.Prelude.{if◌then◌else◌}
use Rattle.frac128.specs.Fraction.{Fraction}
use Rattle.frac128.specs.Lowest.{IsKept}
use Rattle.frac128.specs.Numbers.{is_below_zero}
use Rattle.frac_text.specs.Writing.{canonical_text as number_text, size_text}
use Rattle.model_data.specs.Names.{IsName}
use Rattle.model_data.specs.declared.model.Sense.{Sense}
use Rattle.lp_defs.specs.Canonical.{sense_text, sign_text, signed_text, spaced, term_text}
use Rattle.lp_defs.specs.Items.{forbidden_after}
use Rattle.lp_defs.specs.Symbols.{Symbol, sign, comparison}
use Rattle.lp_defs.proofs.Sight.{Gap, at_blank, IsFree, IsToken, Open, open_word, Reads, blank, mild, any, open_gap}
use Rattle.lp_defs.proofs.Takes.{flat}
use Rattle.lp_defs.proofs.WrittenNumbers.{number_token, number_free, size_mild, size_token}
use Rattle.lp_defs.proofs.WrittenWords.{free_sense, minus_token, name_token, plus_token, sense_token}
use Rattle.lp_defs.proofs.WrittenLines.{number_symbol, signed_symbols, term_symbols}

-- a piece that may follow anything, before what may follow anything
pub record Piece (text : List ℕ) (symbols : List Symbol) : Type 0 where
  pub reads : (rest : List ℕ) (more : List Symbol) → Open rest → Reads rest more → Reads (text ++ rest) (symbols ++ more)
  pub opens : (rest : List ℕ) → Gap rest → Open (32 ∷ (text ++ rest))

pub data Pieces : List (List ℕ) → List (List Symbol) → Type 0 where
  no_piece : Pieces [] []
  one_more : {text : List ℕ} {symbols : List Symbol} {texts : List (List ℕ)} {entries : List (List Symbol)} →
      Piece text symbols → Pieces texts entries → Pieces (text ∷ texts) (symbols ∷ entries)

pub spaced_open : {texts : List (List ℕ)} {entries : List (List Symbol)} (rest : List ℕ) → Pieces texts entries → Open rest →
    Open (spaced texts ++ rest)
spaced_open rest no_piece way = way
spaced_open rest (one_more {text} {symbols} {texts} {entries} piece pieces) way =
    let more = spaced_open rest pieces way in
    subst (λ t. Open (32 ∷ t)) (sym (append_assoc text (spaced texts) rest)) (piece.opens (spaced texts ++ rest) (open_gap _ more))

pub spaced_reads : {texts : List (List ℕ)} {entries : List (List Symbol)} (rest : List ℕ) (more : List Symbol) → Pieces texts entries →
    Open rest → Reads rest more → Reads (spaced texts ++ rest) (flat entries ++ more)
spaced_reads rest more no_piece way reads = reads
spaced_reads rest more (one_more {text} {symbols} {texts} {entries} piece pieces) way reads =
    let others = spaced_reads rest more pieces way reads in
    let behind = piece.reads (spaced texts ++ rest) (flat entries ++ more) (spaced_open rest pieces way) others in
    subst (λ t. Reads (32 ∷ t) ((symbols ++ flat entries) ++ more)) (sym (append_assoc text (spaced texts) rest))
    (subst (λ s. Reads (32 ∷ (text ++ (spaced texts ++ rest))) s) (sym (append_assoc symbols (flat entries) more)) (blank behind))

pub pieces_append : {texts texts' : List (List ℕ)} {entries entries' : List (List Symbol)} → Pieces texts entries → Pieces texts' entries' →
    Pieces (texts ++ texts') (entries ++ entries')
pieces_append no_piece more = more
pieces_append (one_more piece pieces) more = one_more piece (pieces_append pieces more)

-- Signs

sign_token : (x : Fraction) → IsToken (sign_text x) (sign (is_below_zero x.num))
sign_token x = by_test (is_below_zero x.num)
  where
    by_test : (b : Bool) → IsToken (if b then codes "-" else codes "+") (sign b)
    by_test true = minus_token
    by_test false = plus_token

sign_mild : (x : Fraction) → forbidden_after (sign_text x) ≡ None
unfolding forbidden_after
sign_mild x = by_test (is_below_zero x.num)
  where
    by_test : (b : Bool) → forbidden_after (if b then codes "-" else codes "+") ≡ None
    by_test true = refl
    by_test false = refl

sign_free : (x : Fraction) → IsFree (sign_text x)
sign_free x = by_test (is_below_zero x.num)
  where
    by_test : (b : Bool) → IsFree (if b then codes "-" else codes "+")
    by_test true = record { no_constraints = refl; no_cuts = refl }
    by_test false = record { no_constraints = refl; no_cuts = refl }

sign_opens : (x : Fraction) (rest : List ℕ) → Gap rest → Open (32 ∷ (sign_text x ++ rest))
sign_opens x rest white = open_word (sign_token x).is_word (sign_free x) white

-- The pieces

pub term_piece : (x : Fraction) (text : List ℕ) → IsKept x → IsName text → Piece (term_text x text) (term_symbols x text)
term_piece x text kept named = record {
  reads = λ rest more way reads.
      subst (λ t. Reads t (term_symbols x text ++ more)) (sym (in_words rest))
      (mild (sign_token x) (sign_mild x) at_blank
      (blank (mild (size_token x kept) (size_mild x kept) at_blank
      (blank (any (name_token text named) way reads)))));
  opens = λ rest white. subst (λ t. Open (32 ∷ t)) (sym (in_words rest)) (sign_opens x (32 ∷ (size_text x ++ 32 ∷ (text ++ rest))) at_blank);
}
  where
    in_words : (rest : List ℕ) → term_text x text ++ rest ≡ sign_text x ++ 32 ∷ (size_text x ++ 32 ∷ (text ++ rest))
    in_words rest =
        append_assoc (sign_text x ++ 32 ∷ size_text x) (32 ∷ text) rest ∙ append_assoc (sign_text x) (32 ∷ size_text x) (32 ∷ (text ++ rest))

pub constant_piece : (x : Fraction) → IsKept x → Piece (signed_text x) (signed_symbols x)
constant_piece x kept = record {
  reads = λ rest more way reads.
      subst (λ t. Reads t (signed_symbols x ++ more)) (sym (append_assoc (sign_text x) (32 ∷ size_text x) rest))
      (mild (sign_token x) (sign_mild x) at_blank (blank (any (size_token x kept) way reads)));
  opens = λ rest white.
      subst (λ t. Open (32 ∷ t)) (sym (append_assoc (sign_text x) (32 ∷ size_text x) rest)) (sign_opens x (32 ∷ (size_text x ++ rest)) at_blank);
}

pub sense_piece : (sense : Sense) → Piece (sense_text sense) (comparison sense ∷ [])
sense_piece sense = record {
  reads = λ rest more way reads. any (sense_token sense) way reads;
  opens = λ rest white. open_word (sense_token sense).is_word (free_sense sense) white;
}

pub number_piece : (x : Fraction) → IsKept x → Piece (number_text x) (number_symbol x ∷ [])
number_piece x kept = record {
  reads = λ rest more way reads. any (number_token x kept) way reads;
  opens = λ rest white. open_word (number_token x kept).is_word (number_free x kept) white;
}
