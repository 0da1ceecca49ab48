-- The tokens of a text: each name is a lawful one, and each number is in lowest terms and fits.
use Rattle.std.proofs.Common.{◌≡◌, refl, sym, ◌∙◌, ap, ap₂, subst, ℕ, ◌+◌, ◌<◌, Bool, true, false, cond, not, ◌&&◌, ◌||◌, List, [], ◌∷◌, length, map, take_while, arith, ◌==◌, codes, nat_le, Option, Some, None, unwrap_or, Result, Ok, Err}
use Rattle.std.specs.List.{position, position_from}
use Rattle.std.specs.Prelude.{if◌then◌else◌}
use Rattle.std.proofs.lemmas.Iterator.Adapters.{position_from-zero}
use Rattle.std.proofs.lemmas.List.Sums.{take_while-cons}
use Rattle.base_names.specs.declared.refusal.FaultWord.TheVariants.{NameLength, Unsupported, Word}
use Rattle.frac128.specs.Fraction.{Fraction}
use Rattle.frac128.specs.Lowest.{IsKept}
use Rattle.frac_text.specs.Reading.{reading}
use Rattle.frac_text.specs.declared.fault.NumFault.{NumFault}
use Rattle.frac_text.specs.declared.fault.NumFault.TheVariants.{NotNumber, TooWide as too_wide_number}
use Rattle.model_data.specs.Names.{IsName, is_one_of}
use Rattle.model_data.specs.declared.limits.TheConstants.{MAX_NAME_LEN}
use Rattle.frac_text.proofs.Kept.{reading_kept}
use Rattle.lp_defs.specs.declared.token.Place.{Place}
use Rattle.lp_defs.specs.declared.token.TokenKind.{TokenKind}
use Rattle.lp_defs.specs.declared.token.TokenKind.TheVariants.{Colon, Comparison, Infinite, Label, Name, Number, Section, Sign, TooWide}
use Rattle.lp_defs.specs.Items.{fault_at, forbidden_after, is_next_on_line, item_alone, item_but_for, item_of, item_of_kind, items_of}
use Rattle.lp_defs.specs.Kinds.{Kind, as_label, begins_number, begins_with, colon, ends_in_colon, front_of, is_infinite, is_word_of_its_own, kind_of, label_of, name_of, number_kind, quantity_of, section_of, symbol_of}
use Rattle.lp_defs.specs.Symbols.{Quantity, finite, too_wide, infinite, Seen, Symbol, token, no_token, number, label, name, seen_of}
use Rattle.lp_defs.specs.Symbols as symbols
use Rattle.lp_defs.specs.Text.{seen}
use Rattle.lp_defs.specs.Tokens.{Part, Run, backslash, behind_byte, comment, gap, is_plain, is_plain_byte, is_run, is_run_byte, is_white, line_feed, part_after, run, runs_from, first_place}
use Rattle.lp_defs.proofs.Labels.{label-lawful}
use Rattle.lp_defs.proofs.Names.{Try, both_of, first_of, name-lawful, section_tries, symbols as symbol_tries}
use Rattle.lp_defs.proofs.Words.{sections}

abbrev pub IsSoundQuantity : Quantity → Type 0
IsSoundQuantity (finite x) = IsKept x
IsSoundQuantity (too_wide negative huge) = Unit {0}
IsSoundQuantity (infinite negative) = Unit {0}

abbrev pub IsSoundSymbol : Symbol → Type 0
IsSoundSymbol (number has_sign quantity) = IsSoundQuantity quantity
IsSoundSymbol (label text) = IsName text
IsSoundSymbol (name text) = IsName text
IsSoundSymbol symbol = Unit {0}

abbrev pub IsSoundSeen : Seen → Type 0
IsSoundSeen (token s symbol) = IsSoundSymbol symbol
IsSoundSeen (no_token fault) = Unit {0}

abbrev pub AreSound : List Seen → Type 0
AreSound [] = Unit {0}
AreSound (x ∷ xs) = IsSoundSeen x × AreSound xs

-- Kinds whose number is kept

abbrev KeepsToken : TokenKind → Type 0
KeepsToken (Number x) = IsKept x
KeepsToken kind = Unit {0}

abbrev Keeps : Kind → Type 0
Keeps (Ok kind) = KeepsToken kind
Keeps (Err fault) = Unit {0}

abbrev KeepsIn : Option Kind → Type 0
KeepsIn (Some kind) = Keeps kind
KeepsIn None = Unit {0}

abbrev KeepEach : List Try → Type 0
KeepEach [] = Unit {0}
KeepEach (one ∷ more) = Keeps one.kind × KeepEach more

or_else : (o : Option Kind) (kind : Kind) → KeepsIn o → Keeps kind → Keeps (unwrap_or o kind)
or_else (Some own) kind h k = h
or_else None kind h k = k

branch : (b : Bool) (kind : Kind) (more : Option Kind) → Keeps kind → KeepsIn more → KeepsIn (cond b (Some kind) more)
branch true kind more h k = h
branch false kind more h k = k

first_kept : (tries : List Try) → KeepEach tries → KeepsIn (first_of tries)
unfolding first_of
first_kept [] h = tt
first_kept (one ∷ more) h = branch one.holds one.kind (first_of more) h.0 (first_kept more h.1)

symbol_kept : (bytes : List ℕ) → KeepsIn (symbol_of bytes)
unfolding symbol_of symbol_tries first_of
symbol_kept bytes = first_kept (symbol_tries bytes) (tt, (tt, (tt, (tt, (tt, (tt, (tt, (tt, (tt)))))))))

section_kept : (bytes : List ℕ) → KeepsIn (section_of bytes)
unfolding section_of section_tries first_of
section_kept bytes = first_kept (section_tries sections bytes) (tt, (tt, (tt, (tt, (tt, (tt, (tt, (tt, (tt, (tt, (tt, (tt))))))))))))

number_kept : (o : Result Fraction NumFault) → ((x : Fraction) → o ≡ Ok x → IsKept x) → Keeps (number_kind o)
number_kept (Ok x) h = h x refl
number_kept (Err NotNumber) h = tt
number_kept (Err (too_wide_number negative huge)) h = tt

quantity_kept : (bytes : List ℕ) → KeepsIn (quantity_of bytes)
unfolding quantity_of
quantity_kept bytes =
    branch (is_infinite bytes) _ _ tt (branch (begins_number bytes) _ None (number_kept (reading bytes) (reading_kept bytes)) tt)

pick : (b : Bool) (kind other : Kind) → Keeps kind → Keeps other → Keeps (cond b kind other)
pick true kind other h k = h
pick false kind other h k = k

name_kept : (bytes : List ℕ) → Keeps (name_of bytes)
unfolding name_of
name_kept bytes =
    pick (is_one_of bytes colon || begins_with (codes "*^<>=()],") bytes) (Err Word) _ tt (pick (nat_le (length bytes) MAX_NAME_LEN) (Ok Name) (Err NameLength) tt tt)

as_label_kept : (kind : Kind) → Keeps (as_label kind)
as_label_kept (Ok kind) = tt
as_label_kept (Err fault) = tt

label_kept : (bytes : List ℕ) → Keeps (label_of bytes)
unfolding label_of
label_kept bytes = pick (is_word_of_its_own bytes) (Err Word) _ tt (as_label_kept (name_of bytes))

kind_kept : (bytes : List ℕ) → Keeps (kind_of bytes)
unfolding kind_of
kind_kept bytes =
    or_else (symbol_of bytes) _ (symbol_kept bytes)
    (or_else (quantity_of bytes) _ (quantity_kept bytes)
    (or_else (section_of bytes) _ (section_kept bytes)
    (pick (ends_in_colon bytes) (label_of (front_of bytes)) (name_of bytes) (label_kept (front_of bytes)) (name_kept bytes))))

-- Runs

token_sound : (kind : TokenKind) (bytes : List ℕ) → kind_of bytes ≡ Ok kind → 0 < length bytes → is_plain bytes ≡ true →
    IsSoundSymbol (symbols.symbol_of kind bytes)
token_sound (Number x) bytes is some plain = subst Keeps is (kind_kept bytes)
token_sound Label bytes is some plain = label-lawful bytes plain is
token_sound Name bytes is some plain = name-lawful bytes some plain is
token_sound (Sign negative) bytes is some plain = tt
token_sound Colon bytes is some plain = tt
token_sound (Comparison sense) bytes is some plain = tt
token_sound (TooWide negative huge) bytes is some plain = tt
token_sound (Infinite negative) bytes is some plain = tt
token_sound (Section word) bytes is some plain = tt

-- the first byte that no token has, from an index on
abbrev bad_from : ℕ → List ℕ → Option ℕ
bad_from i bytes = position_from (λ byte. not (is_plain_byte byte)) i bytes

plain_from : (bytes : List ℕ) (i : ℕ) → bad_from i bytes ≡ None → is_plain bytes ≡ true
plain_from [] i e = refl
plain_from (byte ∷ bytes) i e = by_test (is_plain_byte byte) refl e (plain_from bytes (i + 1))
  where
    by_test : (b : Bool) → is_plain_byte byte ≡ b → cond (not b) (Some i) (bad_from (i + 1) bytes) ≡ None →
        (bad_from (i + 1) bytes ≡ None → is_plain bytes ≡ true) → is_plain (byte ∷ bytes) ≡ true
    by_test true is e rest = ap₂ ◌&&◌ is (rest e)
    by_test false is e rest = absurd cc

all_plain : (bytes : List ℕ) → position (λ byte. not (is_plain_byte byte)) bytes ≡ None → is_plain bytes ≡ true
all_plain bytes e = plain_from bytes 0 (sym (position_from-zero (λ byte. not (is_plain_byte byte)) bytes) ∙ e)

of_kind : (here : Run) (kind : Kind) → kind_of here.bytes ≡ kind → 0 < length here.bytes → is_plain here.bytes ≡ true →
    IsSoundSeen (seen_of (item_of_kind here kind))
of_kind here (Ok kind) is some plain = token_sound kind here.bytes is some plain
of_kind here (Err fault) is some plain = tt

item_sound : (here : Run) (more : List Run) → 0 < length here.bytes → IsSoundSeen (seen_of (item_of here more))
item_sound here more some = by_next (is_next_on_line (forbidden_after here.bytes) here.place.line more)
  where
    by_bad : (bad : Option ℕ) → position (λ byte. not (is_plain_byte byte)) here.bytes ≡ bad → IsSoundSeen (seen_of (item_but_for bad here))
    by_bad (Some bad) is = tt
    by_bad None is = of_kind here (kind_of here.bytes) refl some (all_plain here.bytes is)

    by_next : (b : Bool) → IsSoundSeen (seen_of (if b then Err (fault_at here.place Unsupported) else item_alone here))
    by_next true = tt
    by_next false = by_bad (position (λ byte. not (is_plain_byte byte)) here.bytes) refl

-- A byte of a run's beginning is one that goes on with a run.
begins_run : (before : Part) (byte : ℕ) → is_run (part_after before byte) ≡ true → is_run_byte byte ≡ true
begins_run before byte h = by_part before h
  where
    by_tests : (b w : Bool) → is_run (if b then comment else (if w then gap else run)) ≡ true → not (w || b) ≡ true
    by_tests true w h = absurd cc
    by_tests false true h = absurd cc
    by_tests false false h = refl

    in_comment : (b : Bool) → is_run (if b then gap else comment) ≡ true → is_run_byte byte ≡ true
    in_comment true h = absurd cc
    in_comment false h = absurd cc

    by_part : (before : Part) → is_run (part_after before byte) ≡ true → is_run_byte byte ≡ true
    by_part gap h = by_tests (byte == backslash) (is_white byte) h
    by_part comment h = in_comment (byte == line_feed) h
    by_part run h = by_tests (byte == backslash) (is_white byte) h

not_empty : (byte : ℕ) (bytes : List ℕ) → is_run_byte byte ≡ true → 0 < length (take_while is_run_byte (byte ∷ bytes))
not_empty byte bytes h =
    let whole = take_while-cons is_run_byte byte bytes ∙ ap (λ b. cond b (byte ∷ take_while is_run_byte bytes) []) h in
    omega (arith, ap length whole)

runs_sound : (before : Part) (place : Place) (text : List ℕ) → AreSound (map seen_of (items_of (runs_from before place text)))
unfolding items_of runs_from
runs_sound before place [] = tt
runs_sound before place (byte ∷ text) =
    let after = part_after before byte in
    by_test (is_run after && not (is_run before)) refl (runs_sound after (behind_byte place byte) text)
  where
    by_test : (b : Bool) → (is_run (part_after before byte) && not (is_run before)) ≡ b →
        AreSound (map seen_of (items_of (runs_from (part_after before byte) (behind_byte place byte) text))) →
        AreSound (map seen_of (items_of (
        if b then record { place = place; bytes = take_while is_run_byte (byte ∷ text) } ∷ runs_from (part_after before byte) (behind_byte place byte) text
        else runs_from (part_after before byte) (behind_byte place byte) text)))
    by_test true is rest =
        let begins = begins_run before byte (both_of (is_run (part_after before byte)) (not (is_run before)) is).0 in
        (item_sound (record { place = place; bytes = take_while is_run_byte (byte ∷ text) }) _ (not_empty byte text begins), rest)
    by_test false is rest = rest

pub text_sound : (text : List ℕ) → AreSound (seen text)
text_sound text = runs_sound gap first_place text
