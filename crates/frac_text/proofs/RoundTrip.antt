-- What is written is read again.
use Rattle.std.proofs.Common.{zero, unsigned_abs, ◌≡◌, refl, sym, ◌∙◌, ap, ap₂, subst, ℕ, suc, ◌^◌, ◌<◌, ◌≤◌, List, [], ◌∷◌, ◌++◌, length, arith, rules, lit<, length-append, append-nil, append_assoc, ℤ, pos, negsuc, Ok}
use Rattle.std.specs.Fmt.{signed_decimal}
use Rattle.std.specs.Prelude.{decimal}
use Rattle.std.proofs.lemmas.Fmt.{decimal_is_IsNumeral_wide, length-decimal-le_wide}
use Rattle.std.proofs.lemmas.Str.Parse.{IsNumeralModel, numerals_by_fold, tells_all_ascii_digits}
use Rattle.frac128.specs.Fraction.{Fraction, den, lowest}
use Rattle.frac128.specs.Lowest.{IsKept}
use Rattle.frac128.specs.Numbers.{limit, signed, is_below_zero}
use Rattle.frac128.proofs.Field.{lowest-self}
use Rattle.frac_text.specs.Digits.{number, number_after}
use Rattle.frac_text.specs.Grammar.{AreDigits, IsSign, none, minus_sign, no_point, no_exponent, Spells, minus, slash}
use Rattle.frac_text.specs.Number.{Number, Parts, ratio, parts_of, outcome_of, value_of}
use Rattle.frac_text.specs.Number.{decimal as plain}
use Rattle.frac_text.specs.Reading.{reading, outcome_or_fault}
use Rattle.frac_text.specs.Writing.{canonical_text, denominator_text}
use Rattle.frac_text.proofs.Outcomes.{outcome_of-fits}
use Rattle.frac_text.proofs.Scanning.{number_of-spelled}

own : IsNumeralModel AreDigits number
own = numerals_by_fold AreDigits tells_all_ascii_digits number_after (search rules)

record IsDecimal (n : ℕ) : Type 0 where
  are_digits : AreDigits (decimal n)
  not_empty : 0 < length (decimal n)
  number_is : number (decimal n) ≡ n
  short : length (decimal n) ≤ 39

is_decimal : (n : ℕ) → n < limit → IsDecimal n
is_decimal n h =
    let wide : n < 10 ^ 64 = omega arith in
    let d = decimal_is_IsNumeral_wide n wide in
    record {
      are_digits = own.from (decimal n) d.0.1;
      not_empty = d.0.0;
      number_is = own.same (decimal n) d.0.1 ∙ d.1;
      short = length-decimal-le_wide 39 n (lit< tt) (omega arith) wide;
    }

-- the sign and the size of a number, as its text has them
sign_text : ℤ → List ℕ
sign_text (pos n) = []
sign_text (negsuc n) = minus ∷ []

sign_is : (n : ℤ) → IsSign (sign_text n) (is_below_zero n)
unfolding sign_text
sign_is (pos n) = none
sign_is (negsuc n) = minus_sign

signed_text : (n : ℤ) → signed_decimal n ≡ sign_text n ++ decimal (unsigned_abs n)
unfolding sign_text
signed_text (pos n) = refl
signed_text (negsuc n) = refl

signed_is : (n : ℤ) → signed (is_below_zero n) (unsigned_abs n) ≡ n
signed_is (pos n) = refl
signed_is (negsuc n) = refl

sign_short : (n : ℤ) → length (sign_text n) ≤ 1
unfolding sign_text
sign_short (pos n) = omega arith
sign_short (negsuc n) = omega arith

-- the parts of the text of n over suc d
number_with : ℤ → ℕ → Number
number_with n zero = plain (is_below_zero n) (decimal (unsigned_abs n)) [] (pos 0)
number_with n (suc d) = ratio (is_below_zero n) (decimal (unsigned_abs n)) (decimal (suc (suc d)))

number_with-spelled : (n : ℤ) (d : ℕ) → unsigned_abs n < limit → suc d < limit → Spells (signed_decimal n ++ denominator_text d) (number_with n d)
unfolding number_with
number_with-spelled n zero h k =
    let d = is_decimal (unsigned_abs n) h in
    let text : signed_decimal n ++ [] ≡ sign_text n ++ (decimal (unsigned_abs n) ++ []) = append-nil (signed_decimal n) ∙ (signed_text n ∙ ap (λ t. sign_text n ++ t) (sym (append-nil (decimal (unsigned_abs n))))) in
    record {
      not_long = omega (arith, ap length text, length-append (sign_text n) (decimal (unsigned_abs n) ++ []), length-append (decimal (unsigned_abs n)) [], sign_short n, d.short);
      parts = record {
        sign = sign_text n;
        fraction = [];
        power = [];
        text_is = text;
        sign_is = sign_is n;
        whole_digits = d.are_digits;
        fraction_is = no_point;
        has_digit = omega (arith, d.not_empty);
        power_is = no_exponent;
      };
    }
number_with-spelled n (suc d) h k =
    let over = is_decimal (unsigned_abs n) h in
    let under = is_decimal (suc (suc d)) k in
    let tail : List ℕ = slash ∷ decimal (suc (suc d)) in
    let text : signed_decimal n ++ tail ≡ sign_text n ++ (decimal (unsigned_abs n) ++ tail) = ap (λ t. t ++ tail) (signed_text n) ∙ append_assoc (sign_text n) (decimal (unsigned_abs n)) tail in
    record {
      not_long = omega (arith, ap length text, length-append (sign_text n) (decimal (unsigned_abs n) ++ tail), length-append (decimal (unsigned_abs n)) tail, sign_short n, over.short, under.short);
      parts = record {
        sign = sign_text n;
        text_is = text;
        sign_is = sign_is n;
        over_digits = over.are_digits;
        has_digit = over.not_empty;
        under_digits = under.are_digits;
        under_above_zero = omega (arith, under.number_is);
      };
    }

-- and what they are worth
negative_is : (n : ℤ) (d : ℕ) → (parts_of (number_with n d)).negative ≡ is_below_zero n
unfolding number_with
negative_is n zero = refl
negative_is n (suc d) = refl

over_is : (n : ℤ) (d : ℕ) → unsigned_abs n < limit → (parts_of (number_with n d)).over ≡ unsigned_abs n
unfolding number_with
over_is n zero h =
    let e = ap number (append-nil (decimal (unsigned_abs n))) ∙ (is_decimal (unsigned_abs n) h).number_is in
    omega (arith, e)
over_is n (suc d) h = (is_decimal (unsigned_abs n) h).number_is

under_is : (n : ℤ) (d : ℕ) → suc d < limit → (parts_of (number_with n d)).under ≡ suc d
unfolding number_with
under_is n zero h = refl
under_is n (suc d) h = (is_decimal (suc (suc d)) h).number_is

value_is : (p : Parts) (x : Fraction) → p.negative ≡ is_below_zero x.num → p.over ≡ unsigned_abs x.num → p.under ≡ den x → IsKept x → value_of p ≡ x
value_is p x s o u h =
    ap₂ (λ n d. lowest n d) (ap₂ signed s o ∙ signed_is x.num) u ∙ lowest-self x h.nothing_in_common

outcome_is : (p : Parts) (x : Fraction) → p.negative ≡ is_below_zero x.num → p.over ≡ unsigned_abs x.num → p.under ≡ den x → IsKept x → outcome_of p ≡ Ok x
outcome_is p x s o u h =
    outcome_of-fits p (subst (λ n. n < limit) (sym o) h.num_fits, subst (λ n. n < limit) (sym u) h.den_fits) ∙ ap Ok (value_is p x s o u h)

-- what is written is read again
pub reading-canonical_text : (x : Fraction) → IsKept x → reading (canonical_text x) ≡ Ok x
reading-canonical_text x h =
    let n = number_with x.num x.below in
    ap outcome_or_fault (number_of-spelled (canonical_text x) n (number_with-spelled x.num x.below h.num_fits h.den_fits))
    ∙ outcome_is (parts_of n) x (negative_is x.num x.below) (over_is x.num x.below h.num_fits) (under_is x.num x.below h.den_fits) h

-- so each value has its own text
pub canonical_text-injective : (x y : Fraction) → IsKept x → IsKept y → canonical_text x ≡ canonical_text y → x ≡ y
canonical_text-injective x y h k e =
    let same : Ok x ≡ Ok y = sym (reading-canonical_text x h) ∙ (ap reading e ∙ reading-canonical_text y k) in
    cc
