-- Words without spaces and line feeds, and what cutting at a space gives.
use Rattle.std.proofs.Common.{◌≡◌, refl, sym, ◌∙◌, ap, ap₂, ℕ, zero, suc, ◌+◌, ◌^◌, ◌<◌, ◌==◌, Bool, true, false, not, List, [], ◌∷◌, ◌++◌, length, take, drop, get_or, Option, Some, None, decimal, arith, rules, nat_lt, ℤ, pos, negsuc, unsigned_abs, add-one}
use Rattle.std.specs.Char.{is_ascii_digit}
use Rattle.std.specs.Fmt.{signed_decimal}
use Rattle.std.specs.List.{list_all, position, position_or_len}
use Rattle.std.specs.Str.Parse.{digits_value}
use Rattle.std.proofs.lemmas.Bool.{and_parts, lt-ltb, ltb-true, ne_eqb, eqb-true}
use Rattle.std.proofs.lemmas.Bool.Decides.{nat_tests}
use Rattle.std.proofs.lemmas.Fmt.{decimal_is_IsNumeral_wide}
use Rattle.std.proofs.lemmas.List.{take-append-drop, length-append}
use Rattle.std.proofs.lemmas.List.Quantifiers.{position-Some}
use Rattle.std.proofs.lemmas.Str.Parse.{IsNumeralModel, numerals_by_value}
use Rattle.std.proofs.Math.Seq.{take-append_seam, drop-append-add, drop-cons}
use Rattle.frac128.specs.Fraction.{Fraction}
use Rattle.frac128.specs.Lowest.{IsKept}
use Rattle.frac128.specs.Numbers.{limit}
use Rattle.frac128.specs.Text.{canonical_text, denominator_text, op_word}
use Rattle.frac128.specs.declared.operations.Op.{Op}
use Rattle.frac128.specs.declared.operations.Op.TheVariants.{Add, Sub, Mul, Div}
use Rattle.cert_text.specs.Reading.{◌>>=◌, cut, parts_at}
use Rattle.cert_text.specs.Spelling.{is_one_line}
use Rattle.cert_text.proofs.Basics.{all-append, all-weaker, bound_then, pair_is}

-- a byte above the space
abbrev pub is_ink : ℕ → Bool
is_ink byte = nat_lt 32 byte

abbrev pub AreInk : List ℕ → Type 0
AreInk bytes = list_all is_ink bytes ≡ true

abbrev pub IsLine : List ℕ → Type 0
IsLine bytes = is_one_line bytes ≡ true

no_space : (byte : ℕ) → is_ink byte ≡ true → (byte == 32) ≡ false
no_space byte h = ne_eqb byte 32 (λ (e : byte ≡ 32). omega (arith, e, ltb-true 32 byte h))

no_end : (byte : ℕ) → is_ink byte ≡ true → not (byte == 10) ≡ true
no_end byte h = ap not (ne_eqb byte 10 (λ (e : byte ≡ 10). omega (arith, e, ltb-true 32 byte h)))

pub ink_line : (bytes : List ℕ) → AreInk bytes → IsLine bytes
ink_line bytes h = all-weaker is_ink (λ byte. not (byte == 10)) bytes no_end h

pub line-append : (a b : List ℕ) → IsLine a → IsLine b → IsLine (a ++ b)
line-append a b h k = all-append (λ byte. not (byte == 10)) a b h k

pub ink-append : (a b : List ℕ) → AreInk a → AreInk b → AreInk (a ++ b)
ink-append a b h k = all-append is_ink a b h k

-- ---- words of a line

own : IsNumeralModel (λ text. list_all is_ascii_digit text ≡ true) (digits_value 10)
own = numerals_by_value _ (search rules)

digit_ink : (byte : ℕ) → is_ascii_digit byte ≡ true → is_ink byte ≡ true
digit_ink byte h = grind (arith, nat_tests)

pub decimal_ink : (n : ℕ) → n < 10 ^ 64 → AreInk (decimal n)
decimal_ink n h = all-weaker is_ascii_digit is_ink (decimal n) digit_ink (own.from (decimal n) (decimal_is_IsNumeral_wide n h).0.1)

pub signed_ink : (k : ℤ) → unsigned_abs k < 10 ^ 64 → AreInk (signed_decimal k)
signed_ink (pos n) h = decimal_ink n h
signed_ink (negsuc n) h = decimal_ink (suc n) h

denominator_ink : (below : ℕ) → suc below < limit → AreInk (denominator_text below)
denominator_ink zero h = refl
denominator_ink (suc below) h = decimal_ink (suc (suc below)) (omega arith)

pub canonical_ink : (x : Fraction) → IsKept x → AreInk (canonical_text x)
canonical_ink x kept = ink-append (signed_decimal x.num) (denominator_text x.below) (signed_ink x.num (omega (arith, kept.num_fits))) (denominator_ink x.below kept.den_fits)

pub op_ink : (op : Op) → AreInk (op_word op)
op_ink Add = refl
op_ink Sub = refl
op_ink Mul = refl
op_ink Div = refl

-- ---- cutting

space_behind : (front rest : List ℕ) → AreInk front → position_or_len (λ byte. byte == 32) (front ++ 32 ∷ rest) ≡ length front
space_behind [] rest h = refl
space_behind (x ∷ xs) rest h =
    let parts = and_parts (is_ink x) (list_all is_ink xs) h in
    rw (no_space x parts.0, space_behind xs rest parts.1) (omega arith)

space_at : (front rest : List ℕ) → AreInk front → position (λ byte. byte == 32) (front ++ 32 ∷ rest) ≡ Some (length front)
space_at front rest h =
    let at = space_behind front rest h in
    let inside : nat_lt (length front) (length (front ++ 32 ∷ rest)) ≡ true = lt-ltb _ _ (omega (arith, length-append front (32 ∷ rest))) in
    rw (at, inside)

-- a word is cut off at the space behind it
pub cut_at : (word rest : List ℕ) → AreInk word → cut (word ++ 32 ∷ rest) ≡ Some (word, rest)
unfolding cut
cut_at word rest h =
    let text = word ++ 32 ∷ rest in
    let front : take (length word) text ≡ word = take-append_seam word (32 ∷ rest) in
    let back : drop (length word + 1) text ≡ rest = drop-append-add word (32 ∷ rest) 1 in
    ap (parts_at text) (space_at word rest h) ∙ ap₂ (λ (a b : List ℕ). Some (a, b)) front back

-- a text around its first space
around : (text : List ℕ) (place : ℕ) → position (λ byte. byte == 32) text ≡ Some place → take place text ++ 32 ∷ drop (place + 1) text ≡ text
around text place at =
    let is = position-Some (λ byte. byte == 32) text place 0 at in
    let byte : get_or text place 0 ≡ 32 = eqb-true (get_or text place 0) 32 is.1 in
    let rest : drop place text ≡ 32 ∷ drop (place + 1) text =
    drop-cons text place 0 is.0 ∙ ap₂ (λ (b : ℕ) (n : ℕ). b ∷ drop n text) byte (sym (add-one place)) in
    ap (λ (back : List ℕ). take place text ++ back) (sym rest) ∙ take-append-drop place text

pub cut_is : (text word rest : List ℕ) → cut text ≡ Some (word, rest) → word ++ 32 ∷ rest ≡ text
unfolding cut
cut_is text word rest h = by_place (position (λ byte. byte == 32) text) refl h
  where
    by_place : (o : Option ℕ) → position (λ byte. byte == 32) text ≡ o → parts_at text o ≡ Some (word, rest) → word ++ 32 ∷ rest ≡ text
    by_place None e h = absurd cc
    by_place (Some place) e h =
        let same = pair_is (take place text) word (drop (place + 1) text) rest h in
        ap₂ (λ (a b : List ℕ). a ++ 32 ∷ b) (sym same.0) (sym same.1) ∙ around text place e

pub parted : {B C : Type 0} (t : List ℕ) (f : List ℕ × List ℕ → Option B) (b : B) → (cut t >>= f) ≡ Some b
    → ((word rest : List ℕ) → word ++ 32 ∷ rest ≡ t → f (word, rest) ≡ Some b → C) → C
parted t f b h further = bound_then (cut t) f b h (λ p read more. further p.0 p.1 (cut_is t p.0 p.1 read) more)
