-- Number texts read from the left are those of the grammar: what the reader takes is spelled so.
use Rattle.std.proofs.Common.{zero, inl, inr, ◌⊎◌, ◌≡◌, refl, sym, ◌∙◌, ap, ap₂, subst, ℕ, suc, ◌+◌, ◌<◌, Bool, true, false, ◌&&◌, ◌||◌, List, [], ◌∷◌, ◌++◌, length, arith, ◌==◌, if◌then◌else◌, nat_lt, ℤ, pos, Option, Some, None, Err, option_map}
use Rattle.std.specs.Char.{is_ascii_digit}
use Rattle.std.specs.List.{prefix_len}
use Rattle.std.specs.Str.{all_ascii_digits}
use Rattle.std.proofs.lemmas.Bool.{ltb-true, ltb-false}
use Rattle.std.proofs.lemmas.Bool.Decides.{eqb_tells}
use Rattle.std.proofs.lemmas.List.{take-append-drop}
use Rattle.frac128.specs.Numbers.{signed}
use Rattle.frac_text.specs.Digits.{number, front_digits, behind_digits}
use Rattle.frac_text.specs.Grammar.{AreDigits, IsSign, none, plus_sign, minus_sign, IsFraction, no_point, with_point, IsExponent, no_exponent, with_exponent, Spells, SpellsParts, plus, minus, point, slash, lower_e, upper_e, max_len, max_exponent_len}
use Rattle.frac_text.specs.Number.{Number, decimal, ratio, parts_of, outcome_of}
use Rattle.frac_text.specs.declared.fault.NumFault.TheVariants.{NotNumber}
use Rattle.frac_text.specs.Reading.{is_negative, behind_sign, ratio_of, digits_of_exponent, exponent_of, decimal_of, number_from, unsigned_number, number_of, outcome_or_fault, reading}
use Rattle.frac_text.proofs.Scanning.{left_out, number_of-spelled}
use Rattle.frac_text.proofs.Runs.{AreDigits-front_digits, both_of}

-- which way a test went
chosen : {A : Type 0} (b : Bool) (x y z : A) → (if b then x else y) ≡ z → ((b ≡ true) × (x ≡ z)) ⊎ ((b ≡ false) × (y ≡ z))
chosen true x y z h = inl (refl, h)
chosen false x y z h = inr (refl, h)

kept_some : {A : Type 0} (b : Bool) (x z : A) → (if b then Some x else None) ≡ Some z → (b ≡ true) × (x ≡ z)
kept_some true x z h = (refl, cc)
kept_some false x z h = absurd cc

is_same : (a b : ℕ) → (a == b) ≡ true → a ≡ b
is_same a b h = elim (eqb_tells a b) [ inl p ↦ p.1 | inr p ↦ absurd cc ]

either : (a b : Bool) → (a || b) ≡ true → (a ≡ true) ⊎ (b ≡ true)
either true b h = inl refl
either false b h = inr h

-- a sign in front, as the bytes that it takes
record Signed (bytes : List ℕ) : Type 0 where
  sign : List ℕ
  sign_is : IsSign sign (is_negative bytes)
  bytes_are : bytes ≡ sign ++ behind_sign bytes

signed_plain : (byte : ℕ) (bytes : List ℕ) → (byte == plus) ≡ false → (byte == minus) ≡ false → Signed (byte ∷ bytes)
signed_plain byte bytes p m = record {
  sign = [];
  sign_is = subst (IsSign []) (sym m) none;
  bytes_are = sym (left_out (byte == plus || byte == minus) bytes (byte ∷ bytes) (ap₂ ◌||◌ p m));
}

signed_bytes : (bytes : List ℕ) → Signed bytes
signed_bytes [] = record { sign = []; sign_is = none; bytes_are = refl }
signed_bytes (byte ∷ bytes) = elim (eqb_tells byte minus) [
  | inl m ↦ subst (λ b. Signed (b ∷ bytes)) (sym m.1) (record { sign = minus ∷ []; sign_is = minus_sign; bytes_are = refl })
  | inr m ↦ elim (eqb_tells byte plus) [
    | inl p ↦ subst (λ b. Signed (b ∷ bytes)) (sym p.1) (record { sign = plus ∷ []; sign_is = plus_sign; bytes_are = refl })
    | inr p ↦ signed_plain byte bytes p.0 m.0
  ]
]

-- exponents
letter_taken : (letter : ℕ) → (letter == lower_e || letter == upper_e) ≡ true → (letter ≡ lower_e) ⊎ (letter ≡ upper_e)
letter_taken letter h = elim (either (letter == lower_e) (letter == upper_e) h) [ inl e ↦ inl (is_same letter lower_e e) | inr e ↦ inr (is_same letter upper_e e) ]

exponent_taken : (letter : ℕ) (bytes : List ℕ) (exponent : ℤ) → (letter == lower_e || letter == upper_e) ≡ true → digits_of_exponent (is_negative bytes) (behind_sign bytes) ≡ Some exponent → IsExponent (letter ∷ bytes) exponent
exponent_taken letter bytes exponent h e =
    let negative = is_negative bytes in
    let digits = behind_sign bytes in
    let found = kept_some (all_ascii_digits digits && nat_lt 0 (length digits) && nat_lt (length digits) (max_exponent_len + 1)) (signed negative (number digits)) exponent e in
    let last = both_of (all_ascii_digits digits && nat_lt 0 (length digits)) (nat_lt (length digits) (max_exponent_len + 1)) found.0 in
    let first = both_of (all_ascii_digits digits) (nat_lt 0 (length digits)) last.0 in
    let in_front = signed_bytes bytes in
    with_exponent (record {
      letter = letter;
      sign = in_front.sign;
      digits = digits;
      negative = negative;
      bytes_are = ap (λ b. letter ∷ b) in_front.bytes_are;
      letter_is = letter_taken letter h;
      sign_is = in_front.sign_is;
      are_digits = first.0;
      not_empty = ltb-true 0 (length digits) first.1;
      not_long = let short = ltb-true (length digits) (max_exponent_len + 1) last.1 in omega (arith, short);
      value = sym found.1;
    })

exponent_spelled : (power : List ℕ) (exponent : ℤ) → exponent_of power ≡ Some exponent → IsExponent power exponent
exponent_spelled [] exponent e = let same : pos 0 ≡ exponent = cc in subst (IsExponent []) same no_exponent
exponent_spelled (letter ∷ bytes) exponent e =
    elim (chosen (letter == lower_e || letter == upper_e) (digits_of_exponent (is_negative bytes) (behind_sign bytes)) None (Some exponent) e) [
      | inl p ↦ exponent_taken letter bytes exponent p.0 p.1
      | inr p ↦ absurd cc
    ]

-- decimals
mapped : (f : ℤ → Number) (o : Option ℤ) (n : Number) → option_map f o ≡ Some n → (e : ℤ) × (o ≡ Some e) × (f e ≡ n)
mapped f (Some e) n h = (e, refl, cc)
mapped f None n h = absurd cc

record IsDecimalOf (negative : Bool) (whole behind power : List ℕ) (n : Number) : Type 0 where
  exponent : ℤ
  number_is : decimal negative whole behind exponent ≡ n
  power_is : IsExponent power exponent
  has_digit : 0 < length whole + length behind

positive : (n : ℕ) → (n == 0) ≡ false → 0 < n
positive zero h = absurd cc
positive (suc n) h = omega arith

decimal_taken : (negative : Bool) (whole behind power : List ℕ) (n : Number) → decimal_of negative whole behind power ≡ Some n → IsDecimalOf negative whole behind power n
decimal_taken negative whole behind power n e =
    elim (chosen (length whole + length behind == 0) None (option_map (decimal negative whole behind) (exponent_of power)) (Some n) e) [
      | inl p ↦ absurd cc
      | inr p ↦
          let m = mapped (decimal negative whole behind) (exponent_of power) n p.1 in
          record { exponent = m.0; number_is = m.2; power_is = exponent_spelled power m.0 m.1; has_digit = positive (length whole + length behind) p.0 }
    ]

module _ (text : List ℕ) (negative : Bool) (sign digits : List ℕ) (sign_is : IsSign sign negative) (are_digits : AreDigits digits) where
  decimal_parts : (fraction behind power : List ℕ) (n : Number) → text ≡ sign ++ (digits ++ (fraction ++ power)) → IsFraction fraction behind → decimal_of negative digits behind power ≡ Some n → SpellsParts text n
  decimal_parts fraction behind power n t f e =
      let d = decimal_taken negative digits behind power n e in
      subst (SpellsParts text) d.number_is (record {
        sign = sign;
        fraction = fraction;
        power = power;
        text_is = t;
        sign_is = sign_is;
        whole_digits = are_digits;
        fraction_is = f;
        has_digit = d.has_digit;
        power_is = d.power_is;
      })

  ratio_parts : (under : List ℕ) (n : Number) → text ≡ sign ++ (digits ++ (slash ∷ under)) → ratio_of negative digits under ≡ Some n → SpellsParts text n
  ratio_parts under n t e =
      let found = kept_some (nat_lt 0 (length digits) && all_ascii_digits under && nat_lt 0 (number under)) (ratio negative digits under) n e in
      let last = both_of (nat_lt 0 (length digits) && all_ascii_digits under) (nat_lt 0 (number under)) found.0 in
      let first = both_of (nat_lt 0 (length digits)) (all_ascii_digits under) last.0 in
      subst (SpellsParts text) found.1 (record {
        sign = sign;
        text_is = t;
        sign_is = sign_is;
        over_digits = are_digits;
        has_digit = ltb-true 0 (length digits) first.0;
        under_digits = first.1;
        under_above_zero = ltb-true 0 (number under) last.1;
      })

  number_parts : (rest : List ℕ) (n : Number) → text ≡ sign ++ (digits ++ rest) → number_from negative digits rest ≡ Some n → SpellsParts text n
  number_parts [] n t e = decimal_parts [] [] [] n t no_point e
  number_parts (byte ∷ bytes) n t e =
      let front = front_digits bytes in
      let behind = behind_digits bytes in
      let pointed = decimal_of negative digits front behind in
      let plain = decimal_of negative digits [] (byte ∷ bytes) in
      elim (chosen (byte == slash) (ratio_of negative digits bytes) (if byte == point then pointed else plain) (Some n) e) [
        | inl p ↦ ratio_parts bytes n (t ∙ ap (λ b. sign ++ (digits ++ (b ∷ bytes))) (is_same byte slash p.0)) p.1
        | inr p ↦ elim (chosen (byte == point) pointed plain (Some n) p.1) [
          | inl q ↦
              let parted : byte ∷ bytes ≡ (point ∷ front) ++ behind = ap₂ (λ (b : ℕ) (bs : List ℕ). b ∷ bs) (is_same byte point q.0) (sym (take-append-drop (prefix_len is_ascii_digit bytes) bytes)) in
              decimal_parts (point ∷ front) front behind n (t ∙ ap (λ r. sign ++ (digits ++ r)) parted) (with_point front (AreDigits-front_digits bytes)) q.1
          | inr q ↦ decimal_parts [] [] (byte ∷ bytes) n t no_point q.1
        ]
      ]

parts_spelled : (text : List ℕ) (n : Number) → unsigned_number (is_negative text) (behind_sign text) ≡ Some n → SpellsParts text n
parts_spelled text n e =
    let body = behind_sign text in
    let in_front = signed_bytes text in
    let parted = sym (take-append-drop (prefix_len is_ascii_digit body) body) in
    number_parts text (is_negative text) in_front.sign (front_digits body) in_front.sign_is (AreDigits-front_digits body) (behind_digits body) n
    (in_front.bytes_are ∙ ap (λ b. in_front.sign ++ b) parted) e

pub spelled-number_of : (text : List ℕ) (n : Number) → number_of text ≡ Some n → Spells text n
unfolding number_of
spelled-number_of text n e =
    elim (chosen (nat_lt max_len (length text)) None (unsigned_number (is_negative text) (behind_sign text)) (Some n) e) [
      | inl p ↦ absurd cc
      | inr p ↦ record { not_long = ltb-false max_len (length text) p.0; parts = parts_spelled text n p.1 }
    ]

-- what is read, by the grammar
pub reading-spelled : (text : List ℕ) (n : Number) → Spells text n → reading text ≡ outcome_of (parts_of n)
reading-spelled text n s = ap outcome_or_fault (number_of-spelled text n s)

unspelled_by : (o : Option Number) → ((n : Number) → o ≡ Some n → ⊥) → outcome_or_fault o ≡ Err NotNumber
unspelled_by (Some n) h = absurd (h n refl)
unspelled_by None h = refl

pub reading-unspelled : (text : List ℕ) → ((n : Number) → Spells text n → ⊥) → reading text ≡ Err NotNumber
reading-unspelled text h = unspelled_by (number_of text) (λ n e. h n (spelled-number_of text n e))
