-- What is seen of words with white space between them.
use Rattle.std.proofs.Common.{◌≡◌, refl, sym, ◌∙◌, ap, ap₂, subst, ℕ, zero, suc, ◌+◌, ◌<◌, ◌≤◌, Bool, true, false, cond, not, ◌&&◌, ◌||◌, List, [], ◌∷◌, ◌++◌, map, arith, ◌==◌, codes, Option, Some, None, Ok, Err}
use Rattle.std.specs.Prelude.{if◌then◌else◌, position, take_while}
use Rattle.std.specs.List.{position_from}
use Rattle.std.proofs.lemmas.Iterator.Adapters.{position_from-zero}
use Rattle.std.specs.Str.{str_eq_ignore_ascii_case}
use Rattle.std.proofs.lemmas.Bool.{and_left, and_right, ne_eqb}
use Rattle.std.proofs.Math.Nat.{ne_of_gt}
use Rattle.std.proofs.lemmas.List.Sums.{take_while-cons}
use Rattle.lp_defs.specs.declared.token.Place.{Place}
use Rattle.lp_defs.specs.declared.token.TokenKind.{TokenKind}
use Rattle.lp_defs.specs.Items.{fault_at, forbidden_after, is_next_on_line, item_alone, item_but_for, item_of, item_of_kind, items_of}
use Rattle.lp_defs.specs.Kinds.{is_any_word, kind_of}
use Rattle.lp_defs.specs.Symbols.{Seen, Spot, Symbol, seen_of, spot_of, symbol_of, token}
use Rattle.lp_defs.specs.Tokens.{Part, Run, behind_byte, behind_bytes, gap, comment, run, is_plain, is_plain_byte, is_run, is_run_byte, is_white, line_feed, part_after, runs_from, uncommented_part}
use Rattle.base_names.specs.declared.refusal.FaultWord.TheVariants.{Unsupported}
use Rattle.lp_defs.proofs.Names.{both_of}

-- bytes of words, one of which is a token
pub record IsWord (word : List ℕ) : Type 0 where
  pub first : ℕ
  pub more : List ℕ
  pub is : word ≡ first ∷ more
  pub plain : is_plain word ≡ true

pub record IsToken (word : List ℕ) (symbol : Symbol) : Type 0 where
  pub is_word : IsWord word
  pub kind : TokenKind
  pub kind_is : kind_of word ≡ Ok kind
  pub symbol_is : symbol_of kind word ≡ symbol

-- a text that begins with white space
pub data Gap : List ℕ → Type 0 where
  at_blank : {text : List ℕ} → Gap (32 ∷ text)
  at_feed : {text : List ℕ} → Gap (10 ∷ text)

-- a word that is forbidden nowhere
pub record IsFree (word : List ℕ) : Type 0 where
  pub no_constraints : str_eq_ignore_ascii_case (codes "constraints") word ≡ false
  pub no_cuts : str_eq_ignore_ascii_case (codes "cuts") word ≡ false

-- a text that may follow any word
pub data Open : List ℕ → Type 0 where
  open_feed : {text : List ℕ} → Open (10 ∷ text)
  open_word : {word text : List ℕ} → IsWord word → IsFree word → Gap text → Open (32 ∷ (word ++ text))

-- the symbols of the words of a text
pub data Reads : List ℕ → List Symbol → Type 0 where
  done : Reads [] []
  blank : {text : List ℕ} {symbols : List Symbol} → Reads text symbols → Reads (32 ∷ text) symbols
  feed : {text : List ℕ} {symbols : List Symbol} → Reads text symbols → Reads (10 ∷ text) symbols
  -- a word behind which none is forbidden
  mild : {word text : List ℕ} {symbol : Symbol} {symbols : List Symbol} →
      IsToken word symbol → forbidden_after word ≡ None → Gap text → Reads text symbols → Reads (word ++ text) (symbol ∷ symbols)
  any : {word text : List ℕ} {symbol : Symbol} {symbols : List Symbol} →
      IsToken word symbol → Open text → Reads text symbols → Reads (word ++ text) (symbol ∷ symbols)

-- Bytes

never : (byte n : ℕ) → is_plain_byte n ≡ false → is_plain_byte byte ≡ true → (byte == n) ≡ false
never byte n bad plain = ne_eqb byte n (λ e. let no : true ≡ false = sym plain ∙ (ap is_plain_byte e ∙ bad) in cc)

never_white : (byte : ℕ) → is_plain_byte byte ≡ true → is_white byte ≡ false
never_white byte plain =
    let a = never byte 32 refl plain in
    let b = never byte 9 refl plain in
    let c = never byte 10 refl plain in
    let d = never byte 13 refl plain in
    ap₂ ◌||◌ (ap₂ ◌||◌ (ap₂ ◌||◌ a b) c) d

run_byte : (byte : ℕ) → is_plain_byte byte ≡ true → is_run_byte byte ≡ true
run_byte byte plain = ap₂ (λ (w b : Bool). not (w || b)) (never_white byte plain) (never byte 92 refl plain)

run_part : (byte : ℕ) → is_plain_byte byte ≡ true → uncommented_part byte ≡ run
run_part byte plain = ap₂ (λ (b w : Bool). cond b comment (cond w gap run)) (never byte 92 refl plain) (never_white byte plain)

-- Runs

whole_word : (word text : List ℕ) → is_plain word ≡ true → Gap text → take_while is_run_byte (word ++ text) ≡ word
whole_word [] _ plain at_blank = refl
whole_word [] _ plain at_feed = refl
whole_word (byte ∷ word) text plain white =
    let p = both_of (is_plain_byte byte) (is_plain word) plain in
    take_while-cons is_run_byte byte (word ++ text)
    ∙ (ap (λ b. cond b (byte ∷ take_while is_run_byte (word ++ text)) []) (run_byte byte p.0)
    ∙ ap (λ bytes. byte ∷ bytes) (whole_word word text p.1 white))

-- the runs from a byte on, where it belongs to a run
begun : Part → Place → ℕ → List ℕ → List Run
begun before place byte text =
    let more = runs_from run (behind_byte place byte) text in
    if (not (is_run before)) then record { place = place; bytes = take_while is_run_byte (byte ∷ text) } ∷ more else more

begun-is : (before : Part) (place : Place) (byte : ℕ) (text : List ℕ) → part_after before byte ≡ run →
    runs_from before place (byte ∷ text) ≡ begun before place byte text
unfolding runs_from begun
begun-is before place byte text is =
    ap (λ here. if (is_run here && not (is_run before))
    then record { place = place; bytes = take_while is_run_byte (byte ∷ text) } ∷ runs_from here (behind_byte place byte) text
    else runs_from here (behind_byte place byte) text) is

inside : (word text : List ℕ) (place : Place) → is_plain word ≡ true → Gap text →
    runs_from run place (word ++ text) ≡ runs_from gap (behind_bytes place word) text
unfolding runs_from behind_bytes begun
inside [] _ place plain at_blank = refl
inside [] _ place plain at_feed = refl
inside (byte ∷ word) text place plain white =
    let p = both_of (is_plain_byte byte) (is_plain word) plain in
    begun-is run place byte (word ++ text) (run_part byte p.0) ∙ inside word text (behind_byte place byte) p.1 white

runs_from-word : (word text : List ℕ) (place : Place) → IsWord word → Gap text →
    runs_from gap place (word ++ text) ≡ record { place = place; bytes = word } ∷ runs_from gap (behind_bytes place word) text
unfolding behind_bytes begun
runs_from-word word text place w white =
    subst (λ word. runs_from gap place (word ++ text) ≡ record { place = place; bytes = word } ∷ runs_from gap (behind_bytes place word) text)
    (sym w.is) (of_bytes w.first w.more (subst (λ word. is_plain word ≡ true) w.is w.plain))
  where
    of_bytes : (byte : ℕ) (bytes : List ℕ) → is_plain (byte ∷ bytes) ≡ true →
        runs_from gap place ((byte ∷ bytes) ++ text) ≡ record { place = place; bytes = byte ∷ bytes } ∷ runs_from gap (behind_bytes place (byte ∷ bytes)) text
    of_bytes byte bytes plain =
        let p = both_of (is_plain_byte byte) (is_plain bytes) plain in
        begun-is gap place byte (bytes ++ text) (run_part byte p.0)
        ∙ ap₂ (λ (own : List ℕ) (runs : List Run). record { place = place; bytes = own } ∷ runs)
        (whole_word (byte ∷ bytes) text plain white) (inside bytes text (behind_byte place byte) p.1 white)

-- Lines

line_behind : (place : Place) (byte : ℕ) → place.line ≤ (behind_byte place byte).line
line_behind place byte = by_test (byte == line_feed)
  where
    by_test : (b : Bool) → place.line ≤ (cond {A = Place} b
        (record { line = place.line + 1; column = 1; offset = place.offset + 1 })
        (record { line = place.line; column = place.column + 1; offset = place.offset + 1 })).line
    by_test true = omega arith
    by_test false = omega arith

lines_behind : (place : Place) (bytes : List ℕ) → place.line ≤ (behind_bytes place bytes).line
unfolding behind_bytes
lines_behind place [] = omega arith
lines_behind place (byte ∷ bytes) = let a = line_behind place byte in let b = lines_behind (behind_byte place byte) bytes in omega (arith, a, b)

later : (barred : Option (List ℕ)) (line : ℕ) (part : Part) (place : Place) (text : List ℕ) → line < place.line →
    is_next_on_line barred line (runs_from part place text) ≡ false
unfolding runs_from
later None line part place text h = refl
later (Some word) line part place [] h = refl
later (Some word) line part place (byte ∷ text) h =
    let more : line < (behind_byte place byte).line = omega (arith, line_behind place byte, h) in
    by_test (record { place = place; bytes = take_while is_run_byte (byte ∷ text) }) (runs_from (part_after part byte) (behind_byte place byte) text)
    h (later (Some word) line (part_after part byte) (behind_byte place byte) text more) (is_run (part_after part byte) && not (is_run part))
  where
    by_test : (own : Run) (others : List Run) → line < own.place.line → is_next_on_line (Some word) line others ≡ false →
        (b : Bool) → is_next_on_line (Some word) line (if b then own ∷ others else others) ≡ false
    by_test own others h more true =
        and_left (own.place.line == line) (str_eq_ignore_ascii_case word own.bytes) (ne_eqb own.place.line line (ne_of_gt h))
    by_test own others h more false = more

-- no word is forbidden before a free one
free_next : (word : List ℕ) (line : ℕ) (next : Run) (more : List Run) → IsFree next.bytes →
    is_next_on_line (forbidden_after word) line (next ∷ more) ≡ false
unfolding forbidden_after
free_next word line next more free =
    by_tests (is_any_word (codes "lazy" ∷ codes "general" ∷ []) word) (is_any_word (codes "user" ∷ []) word)
  where
    by_tests : (a b : Bool) → is_next_on_line (if a then Some (codes "constraints") else (if b then Some (codes "cuts") else None)) line
        (next ∷ more) ≡ false
    by_tests true b = and_right (next.place.line == line) (str_eq_ignore_ascii_case (codes "constraints") next.bytes) free.no_constraints
    by_tests false true = and_right (next.place.line == line) (str_eq_ignore_ascii_case (codes "cuts") next.bytes) free.no_cuts
    by_tests false false = refl

open_next : (word text : List ℕ) (line : ℕ) (place : Place) → line ≤ place.line → Open text →
    is_next_on_line (forbidden_after word) line (runs_from gap place text) ≡ false
unfolding runs_from
open_next word _ line place h (open_feed {text}) =
    let below : line < place.line + 1 = omega (arith, h) in
    later (forbidden_after word) line gap (behind_byte place 10) text below
open_next word _ line place h (open_word {word = next} {text} w free white) =
    let behind = behind_byte place 32 in
    ap (is_next_on_line (forbidden_after word) line) (runs_from-word next text behind w white)
    ∙ free_next word line (record { place = behind; bytes = next }) (runs_from gap (behind_bytes behind next) text) free

-- Items

none_from : (i : ℕ) (word : List ℕ) → is_plain word ≡ true → position_from (λ byte. not (is_plain_byte byte)) i word ≡ None
none_from i [] plain = refl
none_from i (byte ∷ word) plain =
    let p = both_of (is_plain_byte byte) (is_plain word) plain in
    ap (λ b. cond (not b) (Some i) (position_from (λ byte. not (is_plain_byte byte)) (i + 1) word)) p.0 ∙ none_from (i + 1) word p.1

none_bad : (word : List ℕ) → is_plain word ≡ true → position (λ byte. not (is_plain_byte byte)) word ≡ None
none_bad word plain = position_from-zero (λ byte. not (is_plain_byte byte)) word ∙ none_from 0 word plain

item_is : (word : List ℕ) (symbol : Symbol) (place : Place) (more : List Run) → IsToken word symbol →
    is_next_on_line (forbidden_after word) place.line more ≡ false →
    seen_of (item_of (record { place = place; bytes = word }) more) ≡ token (spot_of place) symbol
item_is word symbol place more t clear =
    let own : Run = record { place = place; bytes = word } in
    ap (λ b. seen_of (cond b (Err (fault_at place Unsupported)) (item_alone own))) clear
    ∙ (ap (λ bad. seen_of (item_but_for bad own)) (none_bad word t.is_word.plain)
    ∙ (ap (λ kind. seen_of (item_of_kind own kind)) t.kind_is
    ∙ ap (λ s. token (spot_of place) s) t.symbol_is))

-- What is seen

abbrev sight : Place → List ℕ → List Seen
sight place text = map seen_of (items_of (runs_from gap place text))

-- tokens of the symbols, with spots in order
abbrev pub tokens : (ℕ → Spot) → List Symbol → List Seen
tokens spots [] = []
tokens spots (symbol ∷ symbols) = token (spots 0) symbol ∷ tokens (λ i. spots (suc i)) symbols

before : Spot → (ℕ → Spot) → ℕ → Spot
before spot spots zero = spot
before spot spots (suc i) = spots i

unfoldable pub Shown : Place → List ℕ → List Symbol → Type 0
Shown place text symbols = (spots : ℕ → Spot) × (sight place text ≡ tokens spots symbols)

shown_word : (word text : List ℕ) (symbol : Symbol) (symbols : List Symbol) (place : Place) → IsToken word symbol → Gap text →
    is_next_on_line (forbidden_after word) place.line (runs_from gap (behind_bytes place word) text) ≡ false →
    Shown (behind_bytes place word) text symbols → Shown place (word ++ text) (symbol ∷ symbols)
unfolding items_of Shown before
shown_word word text symbol symbols place t white clear shown = (
  before (spot_of place) shown.0,
  ap (λ runs. map seen_of (items_of runs)) (runs_from-word word text place t.is_word white)
      ∙ ap₂ (λ (s : Seen) (more : List Seen). s ∷ more)
      (item_is word symbol place (runs_from gap (behind_bytes place word) text) t clear) shown.1,
)

pub open_gap : (text : List ℕ) → Open text → Gap text
open_gap _ (open_feed) = at_feed
open_gap _ (open_word w free white) = at_blank

pub shown : (text : List ℕ) (symbols : List Symbol) → Reads text symbols → (place : Place) → Shown place text symbols
unfolding Shown runs_from items_of
shown _ _ done place = ((λ i. spot_of place), refl)
shown _ _ (blank {text} {symbols} more) place = shown text symbols more (behind_byte place 32)
shown _ _ (feed {text} {symbols} more) place = shown text symbols more (behind_byte place 10)
shown _ _ (mild {word} {text} {symbol} {symbols} t none white more) place =
    let behind = behind_bytes place word in
    shown_word word text symbol symbols place t white (ap (λ barred. is_next_on_line barred place.line (runs_from gap behind text)) none)
    (shown text symbols more behind)
shown _ _ (any {word} {text} {symbol} {symbols} t free more) place =
    let behind = behind_bytes place word in
    shown_word word text symbol symbols place t (open_gap text free) (open_next word text place.line behind (lines_behind place word) free)
    (shown text symbols more behind)
