-- What holds of each of the ten digits, and of a decimal.
use Rattle.std.proofs.Common.{◌≡◌, sym, ◌∙◌, ap, ℕ, ◌^◌, ◌<◌, Bool, true, false, not, ◌||◌, length, arith, rules}
use Rattle.std.specs.Char.{is_ascii_digit}
use Rattle.std.specs.Prelude.{decimal, nat_le}
use Rattle.std.specs.Str.{all_ascii_digits}
use Rattle.std.proofs.lemmas.Bool.{agree_below, agree_below_at, leb-true}
use Rattle.std.proofs.lemmas.Fmt.{decimal_is_IsNumeral_wide}
use Rattle.std.proofs.lemmas.Str.Parse.{IsNumeralModel, numerals_by_fold, tells_all_ascii_digits}
use Rattle.frac128.specs.Numbers.{limit}
use Rattle.frac_text.specs.Digits.{number, number_after}
use Rattle.frac_text.specs.Grammar.{AreDigits}
use Rattle.lp_defs.proofs.Names.{both_of, not_true}

-- The premise computes.
pub each_digit : (f : ℕ → Bool) → agree_below (λ c. not (is_ascii_digit c) || f c) (λ c. true) 58 ≡ true →
    (c : ℕ) → is_ascii_digit c ≡ true → f c ≡ true
each_digit f all c h =
    let p = both_of (nat_le 48 c) (nat_le c 57) h in
    let below : c < 58 = omega (arith, leb-true c 57 p.1) in
    sym (ap (λ b. not b || f c) h) ∙ agree_below_at (λ c. not (is_ascii_digit c) || f c) (λ c. true) 58 c all below

pub no_digit : (f : ℕ → Bool) → agree_below (λ c. not (is_ascii_digit c) || not (f c)) (λ c. true) 58 ≡ true →
    (c : ℕ) → is_ascii_digit c ≡ true → f c ≡ false
no_digit f all c h = not_true (f c) (each_digit (λ c. not (f c)) all c h)

own : IsNumeralModel AreDigits number
own = numerals_by_fold AreDigits tells_all_ascii_digits number_after (search rules)

pub decimal_digits : (n : ℕ) → n < limit → (0 < length (decimal n)) × (all_ascii_digits (decimal n) ≡ true)
decimal_digits n h =
    let wide : n < 10 ^ 64 = omega arith in
    let d = decimal_is_IsNumeral_wide n wide in
    (d.0.0, own.from (decimal n) d.0.1)
