-- The tokens that the words of a written model are.
use Rattle.std.proofs.Common.{◌≡◌, refl, ◌∙◌, ap, ℕ, ◌-◌, Bool, true, false, not, ◌&&◌, ◌||◌, List, [], ◌∷◌, ◌++◌, length, length-append, arith, ◌==◌, codes, Ok}
use Rattle.std.specs.Prelude.{nat_le, take}
use Rattle.std.specs.List.{list_all}
use Rattle.std.proofs.lemmas.Bool.{and_from}
use Rattle.std.proofs.lemmas.List.Folds.{list_all-append}
use Rattle.std.proofs.Math.Seq.{take-append_seam}
use Rattle.model_data.specs.Names.{IsName, is_name, is_name_byte, is_reserved, begins_name, is_visible}
use Rattle.model_data.specs.declared.limits.TheConstants.{MAX_NAME_LEN}
use Rattle.model_data.specs.declared.model.Sense.{Sense}
use Rattle.model_data.specs.declared.model.Sense.TheVariants.{Equal, Greater, Less}
use Rattle.lp_defs.specs.declared.token.SectionWord.TheVariants.{Binary, Bounds, End, Free, General, Maximize, Minimize, Subject}
use Rattle.lp_defs.specs.declared.token.TokenKind.{TokenKind}
use Rattle.lp_defs.specs.declared.token.TokenKind.TheVariants.{Comparison, Infinite, Label, Name, Section, Sign}
use Rattle.lp_defs.specs.Canonical.{sense_text}
use Rattle.lp_defs.specs.Kinds.{front_of, kind_of, quantity_of, section_of, symbol_of as run_symbol}
use Rattle.lp_defs.specs.Symbols.{Symbol, sign, comparison, number as number_symbol, keyword, label, name, infinite, symbol_of}
use Rattle.lp_defs.specs.Tokens.{is_plain, is_plain_byte}
use Rattle.lp_defs.proofs.Labels.{name-label}
use Rattle.lp_defs.proofs.Names.{both_of, lawful-name, turned}
use Rattle.lp_defs.proofs.Sight.{IsFree, IsToken, IsWord}

-- Fixed words

-- The facts on a fixed word compute.
fixed : (first : ℕ) (more : List ℕ) (kind : TokenKind) (symbol : Symbol) → is_plain (first ∷ more) ≡ true → kind_of (first ∷ more) ≡ Ok kind →
    symbol_of kind (first ∷ more) ≡ symbol → IsToken (first ∷ more) symbol
fixed first more kind symbol plain kind_is symbol_is = record {
  is_word = record { first = first; more = more; is = refl; plain = plain };
  kind = kind;
  kind_is = kind_is;
  symbol_is = symbol_is;
}

pub plus_token : IsToken (codes "+") (sign false)
unfolding kind_of run_symbol
plus_token = fixed 43 [] (Sign false) (sign false) refl refl refl

pub minus_token : IsToken (codes "-") (sign true)
unfolding kind_of run_symbol
minus_token = fixed 45 [] (Sign true) (sign true) refl refl refl

pub sense_token : (sense : Sense) → IsToken (sense_text sense) (comparison sense)
unfolding kind_of run_symbol
sense_token Less = fixed 60 (codes "=") (Comparison Less) (comparison Less) refl refl refl
sense_token Greater = fixed 62 (codes "=") (Comparison Greater) (comparison Greater) refl refl refl
sense_token Equal = fixed 61 [] (Comparison Equal) (comparison Equal) refl refl refl

pub minimize_token : IsToken (codes "Minimize") (keyword Minimize)
unfolding kind_of run_symbol quantity_of section_of
minimize_token = fixed 77 (codes "inimize") (Section Minimize) (keyword Minimize) refl refl refl

pub maximize_token : IsToken (codes "Maximize") (keyword Maximize)
unfolding kind_of run_symbol quantity_of section_of
maximize_token = fixed 77 (codes "aximize") (Section Maximize) (keyword Maximize) refl refl refl

pub subject_token : IsToken (codes "Subject") (keyword Subject)
unfolding kind_of run_symbol quantity_of section_of
subject_token = fixed 83 (codes "ubject") (Section Subject) (keyword Subject) refl refl refl

pub to_token : IsToken (codes "To") (name (codes "To"))
unfolding is_name
to_token = fixed 84 (codes "o") Name (name (codes "To")) refl (lawful-name (codes "To") refl) refl

pub bounds_token : IsToken (codes "Bounds") (keyword Bounds)
unfolding kind_of run_symbol quantity_of section_of
bounds_token = fixed 66 (codes "ounds") (Section Bounds) (keyword Bounds) refl refl refl

pub generals_token : IsToken (codes "Generals") (keyword General)
unfolding kind_of run_symbol quantity_of section_of
generals_token = fixed 71 (codes "enerals") (Section General) (keyword General) refl refl refl

pub binaries_token : IsToken (codes "Binaries") (keyword Binary)
unfolding kind_of run_symbol quantity_of section_of
binaries_token = fixed 66 (codes "inaries") (Section Binary) (keyword Binary) refl refl refl

pub end_token : IsToken (codes "End") (keyword End)
unfolding kind_of run_symbol quantity_of section_of
end_token = fixed 69 (codes "nd") (Section End) (keyword End) refl refl refl

pub free_token : IsToken (codes "free") (keyword Free)
unfolding kind_of run_symbol quantity_of section_of
free_token = fixed 102 (codes "ree") (Section Free) (keyword Free) refl refl refl

pub infinity_token : IsToken (codes "-infinity") (number_symbol true (infinite true))
unfolding kind_of run_symbol quantity_of
infinity_token = fixed 45 (codes "infinity") (Infinite true) (number_symbol true (infinite true)) refl refl refl

pub free_sense : (sense : Sense) → IsFree (sense_text sense)
free_sense Less = record { no_constraints = refl; no_cuts = refl }
free_sense Greater = record { no_constraints = refl; no_cuts = refl }
free_sense Equal = record { no_constraints = refl; no_cuts = refl }

-- Names

plain_name_bytes : (bytes : List ℕ) → list_all is_name_byte bytes ≡ true → is_plain bytes ≡ true
plain_name_bytes [] h = refl
plain_name_bytes (byte ∷ bytes) h =
    let p = both_of (is_name_byte byte) (list_all is_name_byte bytes) h in
    and_from (is_plain_byte byte) (is_plain bytes) (plain_byte p.0) (plain_name_bytes bytes p.1)
  where
    by_tests : (v b s : Bool) → b ≡ s → (v && not (s || ((58 == byte) || false))) ≡ true → (v && not b) ≡ true
    by_tests false b s e h = h
    by_tests true b true e h = absurd cc
    by_tests true b false e h = ap not e

    plain_byte : is_name_byte byte ≡ true → is_plain_byte byte ≡ true
    plain_byte h = by_tests (is_visible byte) (byte == 92) (92 == byte) (turned byte 92) h

name_word : (text : List ℕ) → IsName text → IsWord text
unfolding is_name
name_word [] h = absurd cc
name_word (byte ∷ bytes) h =
    let p = both_of _ (not (is_reserved (byte ∷ bytes))) h in
    let q = both_of _ (nat_le (length (byte ∷ bytes)) MAX_NAME_LEN) p.0 in
    let r = both_of (begins_name byte) (list_all is_name_byte (byte ∷ bytes)) q.0 in
    record { first = byte; more = bytes; is = refl; plain = plain_name_bytes (byte ∷ bytes) r.1 }

pub name_token : (text : List ℕ) → IsName text → IsToken text (name text)
name_token text h = record { is_word = name_word text h; kind = Name; kind_is = lawful-name text h; symbol_is = refl }

front_is : (text : List ℕ) → front_of (text ++ codes ":") ≡ text
front_is text =
    let e = length-append text (codes ":") in
    let n : length (text ++ codes ":") - 1 ≡ length text = omega (arith, e) in
    ap (λ k. take k (text ++ codes ":")) n ∙ take-append_seam text (codes ":")

pub label_token : (text : List ℕ) → IsName text → IsToken (text ++ codes ":") (label text)
label_token text h =
    let w = name_word text h in
    record {
      is_word = record {
        first = w.first;
        more = w.more ++ codes ":";
        is = ap (λ t. t ++ codes ":") w.is;
        plain = list_all-append is_plain_byte text (codes ":") ∙ ap (λ b. b && true) w.plain;
      };
      kind = Label;
      kind_is = name-label text h;
      symbol_is = ap label (front_is text);
    }
