-- What stands in a text for its bytes.
use Rattle.std.proofs.Common.{◌≡◌, ℕ, zero, suc, ◌/◌, ◌%◌, ◌<◌, ◌≤◌, Bool, true, false, ◌||◌, ◌==◌, List, [], ◌∷◌, ◌++◌, flat_map, refl, ap, ap₂, ◌∙◌, arith}
use Rattle.std.specs.Prelude.{nat_lt, decimal, ℤ, pos, negsuc}
use Rattle.std.specs.Fmt.{digits, digits_onto, digit_glyph, signed_decimal}
use Rattle.std.proofs.lemmas.Bool.Decides.{nat_tests}
use Rattle.json.specs.Print.{escape, escape_byte, quoted}
use Rattle.frac128.specs.Fraction.{Fraction}
use Rattle.frac128.specs.Text.{canonical_text, denominator_text}
use Rattle.json_solution.specs.Solution.{escaped_byte, in_quotes}
use Rattle.json_solution.proofs.Tags.{AreVisible}

pub cases : {P : Type 0} (b : Bool) → (b ≡ true → P) → (b ≡ false → P) → P
cases true on off = on refl
cases false on off = off refl

escaped_is : (b : ℕ) → 32 ≤ b → escape_byte b ≡ escaped_byte b
unfolding escape_byte
escaped_is b h =
    let some : nat_lt 0 b ≡ true = grind (arith, nat_tests) in
    let e8 : (b == 8) ≡ false = grind (arith, nat_tests) in
    let e12 : (b == 12) ≡ false = grind (arith, nat_tests) in
    let e10 : (b == 10) ≡ false = grind (arith, nat_tests) in
    let e13 : (b == 13) ≡ false = grind (arith, nat_tests) in
    let e9 : (b == 9) ≡ false = grind (arith, nat_tests) in
    let high : nat_lt b 32 ≡ false = grind (arith, nat_tests) in
    cases ((b == 34) || (b == 92)) (λ e. rw (e, some) refl) (λ e. rw (e, e8, e12, e10, e13, e9, high) refl)

pub escaped_all : (s : List ℕ) → AreVisible s → escape s ≡ flat_map escaped_byte s
escaped_all [] h = refl
escaped_all (b ∷ bs) h = ap₂ (λ (x y : List ℕ). x ++ y) (escaped_is b h.0) (escaped_all bs h.1)

pub quoted_is : (s : List ℕ) → AreVisible s → quoted s ≡ in_quotes s
quoted_is s h = ap (λ (x : List ℕ). 34 ∷ (x ++ 34 ∷ [])) (escaped_all s h)

-- a digit, a minus or a slash
abbrev pub NeedNoEscape : List ℕ → Type 0
NeedNoEscape [] = Unit {0}
NeedNoEscape (b ∷ bs) = ((45 ≤ b) × (b ≤ 57)) × NeedNoEscape bs

plain_is : (b : ℕ) → 45 ≤ b → b ≤ 57 → escape_byte b ≡ b ∷ []
plain_is b low high =
    let e34 : (b == 34) ≡ false = grind (arith, nat_tests) in
    let e92 : (b == 92) ≡ false = grind (arith, nat_tests) in
    escaped_is b (omega arith) ∙ rw (e34, e92) refl

pub plain_escape : (s : List ℕ) → NeedNoEscape s → escape s ≡ s
plain_escape [] h = refl
plain_escape (b ∷ bs) h = ap₂ (λ (x y : List ℕ). x ++ y) (plain_is b h.0.0 h.0.1) (plain_escape bs h.1)

plain_append : (s t : List ℕ) → NeedNoEscape s → NeedNoEscape t → NeedNoEscape (s ++ t)
plain_append [] t h g = g
plain_append (b ∷ bs) t h g = (h.0, plain_append bs t h.1 g)

glyph : (d : ℕ) → d < 10 → (45 ≤ digit_glyph false d) × (digit_glyph false d ≤ 57)
glyph d h = let small : nat_lt d 10 ≡ true = grind (arith, nat_tests) in rw small (omega arith, omega arith)

plain_digits : (k n : ℕ) (acc : List ℕ) → NeedNoEscape acc → NeedNoEscape (digits_onto k 10 false n acc)
plain_digits zero n acc h = h
plain_digits (suc k) n acc h =
    let here = glyph (n % 10) (omega arith) in
    cases (n / 10 == 0) (λ e. rw e (here, h)) (λ e. rw e (plain_digits k (n / 10) (digit_glyph false (n % 10) ∷ acc) (here, h)))

plain_decimal : (n : ℕ) → NeedNoEscape (decimal n)
unfolding digits
plain_decimal n = plain_digits 64 n [] tt

plain_signed : (z : ℤ) → NeedNoEscape (signed_decimal z)
plain_signed (pos n) = plain_decimal n
plain_signed (negsuc n) = ((omega arith, omega arith), plain_decimal (suc n))

plain_denominator : (d : ℕ) → NeedNoEscape (denominator_text d)
plain_denominator zero = tt
plain_denominator (suc d) = ((omega arith, omega arith), plain_decimal (suc (suc d)))

pub number_escape : (x : Fraction) → escape (canonical_text x) ≡ canonical_text x
number_escape x = plain_escape (canonical_text x) (plain_append (signed_decimal x.num) (denominator_text x.below) (plain_signed x.num) (plain_denominator x.below))
