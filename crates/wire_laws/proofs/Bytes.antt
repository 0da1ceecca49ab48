-- Texts of which no byte is a blank.
use Rattle.std.proofs.Common.{◌≡◌, ℕ, zero, suc, ◌^◌, ◌<◌, Bool, true, false, ◌==◌, List, [], ◌∷◌, ◌++◌, length, All, decimal, ℤ, pos, negsuc, unsigned_abs, refl, sym, ap, ◌∙◌, arith, rules}
use Rattle.std.specs.Prelude.{not, codes}
use Rattle.std.specs.Char.{is_ascii_digit}
use Rattle.std.specs.Fmt.{signed_decimal}
use Rattle.std.specs.List.{list_all}
use Rattle.std.specs.Str.Parse.{digits_value}
use Rattle.std.proofs.lemmas.Bool.{and_from, and_parts, false≢true, leb-true, ne_eqb, not-true}
use Rattle.std.proofs.lemmas.List.{append-nil}
use Rattle.std.proofs.lemmas.Fmt.{decimal_is_IsNumeral_wide}
use Rattle.std.proofs.lemmas.List.Elements.{All-cons}
use Rattle.std.proofs.lemmas.List.Folds.{list_all-append}
use Rattle.std.proofs.lemmas.Str.Parse.{IsNumeralModel, numerals_by_value}
use Rattle.base_names.specs.Id.{IsId, id_text}
use Rattle.base_names.specs.OwnerName.{is_owner_byte}
use Rattle.base_names.specs.declared.id.BatchId.{BatchId}
use Rattle.frac128.specs.Fraction.{Fraction}
use Rattle.frac128.specs.Lowest.{IsKept}
use Rattle.frac128.specs.Numbers.{limit}
use Rattle.frac128.specs.Text.{canonical_text, denominator_text}
use Rattle.model_data.specs.Names.{IsName, IsTag, is_name, is_name_byte, is_tag, is_visible}
use Rattle.wire_laws.specs.Written.{is_one_word}
use Rattle.wire_text.specs.Line.{is_blank, is_word}

abbrev pub is_plain : List ℕ → Bool
is_plain text = list_all (λ byte. not (is_blank byte)) text

-- A test that neither blank passes keeps blanks out.
no_blank : (p : ℕ → Bool) → p 32 ≡ false → p 9 ≡ false → (byte : ℕ) → p byte ≡ true → not (is_blank byte) ≡ true
no_blank p space tab byte h =
    let no_space : (byte == 32) ≡ false = ne_eqb byte 32 (λ (e : byte ≡ 32). false≢true (sym space ∙ (ap p (sym e) ∙ h))) in
    let no_tab : (byte == 9) ≡ false = ne_eqb byte 9 (λ (e : byte ≡ 9). false≢true (sym tab ∙ (ap p (sym e) ∙ h))) in
    rw (no_space, no_tab) refl

all_plain : (p : ℕ → Bool) → p 32 ≡ false → p 9 ≡ false → (text : List ℕ) → list_all p text ≡ true → is_plain text ≡ true
all_plain p space tab [] h = refl
all_plain p space tab (byte ∷ bytes) h =
    let parts = and_parts _ _ h in
    and_from _ _ (no_blank p space tab byte parts.0) (all_plain p space tab bytes parts.1)

plain-append : (xs ys : List ℕ) → is_plain xs ≡ true → is_plain ys ≡ true → is_plain (xs ++ ys) ≡ true
plain-append xs ys h k = list_all-append (λ byte. not (is_blank byte)) xs ys ∙ and_from _ _ h k

pub plain_all : (bytes : List ℕ) → is_plain bytes ≡ true → All (λ byte. is_blank byte ≡ false) bytes
plain_all [] h = λ k d under. absurd (omega arith)
plain_all (byte ∷ bytes) h =
    let parts = and_parts _ _ h in
    All-cons (λ byte. is_blank byte ≡ false) byte bytes (not-true _ parts.0) (plain_all bytes parts.1)

own : IsNumeralModel (λ text. list_all is_ascii_digit text ≡ true) (digits_value 10)
own = numerals_by_value _ (search rules)

is_word-some : (text rest : List ℕ) → 0 < length text → is_word (text ++ rest) ≡ true
is_word-some [] rest some = absurd (omega arith)
is_word-some (byte ∷ bytes) rest some = refl

decimal_plain : (n : ℕ) → n < limit → is_plain (decimal n) ≡ true
decimal_plain n h =
    let wide : n < 10 ^ 64 = omega arith in
    all_plain is_ascii_digit refl refl (decimal n) (own.from (decimal n) (decimal_is_IsNumeral_wide n wide).0.1)

decimal_first : (n : ℕ) (rest : List ℕ) → n < limit → is_plain rest ≡ true → is_one_word (decimal n ++ rest) ≡ true
decimal_first n rest h plain =
    let wide : n < 10 ^ 64 = omega arith in
    and_from _ _ (is_word-some (decimal n) rest (decimal_is_IsNumeral_wide n wide).0.0) (plain-append (decimal n) rest (decimal_plain n h) plain)

signed_first : (n : ℤ) (rest : List ℕ) → unsigned_abs n < limit → is_plain rest ≡ true → is_one_word (signed_decimal n ++ rest) ≡ true
signed_first (pos n) rest h plain = decimal_first n rest h plain
signed_first (negsuc n) rest h plain = plain-append (decimal (suc n)) rest (decimal_plain (suc n) h) plain

denominator_plain : (below : ℕ) → suc below < limit → is_plain (denominator_text below) ≡ true
denominator_plain zero h = refl
denominator_plain (suc below) h = decimal_plain (suc (suc below)) h

without_rest : (text : List ℕ) → is_one_word (text ++ []) ≡ true → is_one_word text ≡ true
without_rest [] h = h
without_rest (byte ∷ bytes) h = rw (← append-nil bytes) h

-- texts that are one word
pub number_word : (x : Fraction) → IsKept x → is_one_word (canonical_text x) ≡ true
number_word x kept = signed_first x.num (denominator_text x.below) kept.num_fits (denominator_plain x.below kept.den_fits)

pub whole_word : (n : ℤ) → unsigned_abs n < limit → is_one_word (signed_decimal n) ≡ true
whole_word n h = without_rest (signed_decimal n) (signed_first n [] h refl)

pub decimal_word : (n : ℕ) → n < limit → is_one_word (decimal n) ≡ true
decimal_word n h = without_rest (decimal n) (decimal_first n [] h refl)

pub name_word : (text : List ℕ) → IsName text → is_one_word text ≡ true
unfolding is_name
name_word [] h = absurd (false≢true h)
name_word (byte ∷ bytes) h =
    all_plain is_name_byte refl refl (byte ∷ bytes) (and_parts _ _ (and_parts _ _ (and_parts _ _ h).0).0).1

pub tag_word : (text : List ℕ) → IsTag text → is_one_word text ≡ true
unfolding is_tag
tag_word [] h = absurd (false≢true h)
tag_word (byte ∷ bytes) h = all_plain is_visible refl refl (byte ∷ bytes) (and_parts _ _ (and_parts _ _ h).0).1

owner_first : (owner rest : List ℕ) → list_all is_owner_byte owner ≡ true → 0 < length owner → is_plain rest ≡ true → is_one_word (owner ++ rest) ≡ true
owner_first owner rest named some plain =
    and_from _ _ (is_word-some owner rest some) (plain-append owner rest (all_plain is_owner_byte refl refl owner named) plain)

pub id_word : (id : BatchId) → IsId id → is_one_word (id_text id) ≡ true
id_word id h =
    let parts = and_parts _ _ h.0 in
    let some : 0 < length id.owner = leb-true 1 (length id.owner) (and_parts _ _ parts.0).0 in
    let number : is_plain (decimal id.number) ≡ true = decimal_plain id.number (omega (arith, h.1)) in
    owner_first id.owner (codes "." ++ decimal id.number) parts.1 some number
