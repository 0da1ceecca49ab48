-- What reading digits gives, and that a decimal is read back and is the one spelling.
use Rattle.std.proofs.Common.{◌≡◌, ℕ, ◌^◌, ◌<◌, ◌≤◌, true, not, ◌||◌, ◌==◌, List, length, get_or, Option, Some, None, Result, Ok, Err, inl, inr, decimal, refl, ap, sym, ◌∙◌, arith, rules}
use Rattle.std.specs.Char.{is_ascii_digit}
use Rattle.std.specs.List.{list_all}
use Rattle.std.specs.Option.{IfSome}
use Rattle.std.specs.Result.{result_ok}
use Rattle.std.specs.Str.{IsUtf8}
use Rattle.std.specs.Str.Parse.{digits_value, ParsesUnsigned}
use Rattle.std.proofs.lemmas.Bool.{and_parts, and_from, or_left, or_right, or_cases, not-true, not_from_false, ltb-true, lt-ltb, le-ltb, eqb-true, eqb-false, eq-eqb, ne_eqb, cases_lt, cases_Bool}
use Rattle.std.proofs.lemmas.Str.{IsUtf8-from_ascii}
use Rattle.std.proofs.lemmas.Str.Parse.{IsNumeralModel, numerals_by_value, parse_digits}
use Rattle.std.proofs.lemmas.Fmt.{IsAscii-from_digits, digits_decimal, digits_value-decimal, decimal-digits_value, decimal_nonempty, first_decimal, decimal_digit}
use Rattle.base_names.specs.Decimal.{are_digits, is_decimal, number_of, decimal_of, below}

own : IsNumeralModel (λ text. list_all is_ascii_digit text ≡ true) (digits_value 10)
own = numerals_by_value _ (search rules)

pub below_at : (limit n : ℕ) → n < limit → below limit (Some n) ≡ Some n
below_at limit n h = rw (lt-ltb n limit h)

pub below_past : (limit n : ℕ) → limit ≤ n → below limit (Some n) ≡ None
below_past limit n h = rw (le-ltb n limit h)

only_digits : (text : List ℕ) → are_digits text ≡ true → list_all is_ascii_digit text ≡ true
only_digits text h = (and_parts _ _ h).1

not_empty : (text : List ℕ) → are_digits text ≡ true → 0 < length text
not_empty text h = ltb-true 0 (length text) (and_parts _ _ h).0

pub digits_utf8 : (text : List ℕ) → are_digits text ≡ true → IsUtf8 text
digits_utf8 text h = IsUtf8-from_ascii text (IsAscii-from_digits text (own.to text (only_digits text h)))

pub parsed : {E : Type 0} (text : List ℕ) (r : Result ℕ E) → are_digits text ≡ true → ParsesUnsigned 64 10 text r → result_ok r ≡ below (2 ^ 64) (number_of text)
parsed {E} text (Ok n) h p =
    let told = parse_digits own {E = E} 64 text (Ok n) p (only_digits text h) in
    rw h (ap Some told.1 ∙ sym (below_at (2 ^ 64) (digits_value 10 text) told.0.1))
parsed {E} text (Err e) h p =
    let told = parse_digits own {E = E} 64 text (Err e) p (only_digits text h) in
    let past : 2 ^ 64 ≤ digits_value 10 text =
    elim (cases_lt (digits_value 10 text) (2 ^ 64)) [ inl small ↦ absurd (told (not_empty text h, small)) | inr large ↦ large ] in
    rw h (sym (below_past (2 ^ 64) (digits_value 10 text) past))

-- a decimal has no zero in front, unless it is that zero
one_zero : (n : ℕ) → n < 2 ^ 64 → ((length (decimal n) == 1) || not (get_or (decimal n) 0 0 == 48)) ≡ true
one_zero n h = elim (cases_lt 0 n) [
  | inl some ↦ or_right _ _ (not_from_false _ (ne_eqb _ 48 (λ (e : get_or (decimal n) 0 0 ≡ 48). omega (arith, e, first_decimal n some h))))
  | inr none ↦ or_left _ _ (eq-eqb _ 1 (ap length (decimal_digit n (omega arith))))
]

decimal_is : (n : ℕ) → n < 2 ^ 64 → is_decimal (decimal n) ≡ true
decimal_is n h =
    and_from _ _ (and_from _ _ (lt-ltb 0 _ (decimal_nonempty n h)) (digits_decimal own n h)) (one_zero n h)

pub decimal-read : (n : ℕ) → n < 2 ^ 64 → decimal_of (decimal n) ≡ Some n
decimal-read n h = rw (decimal_is n h) (ap Some (digits_value-decimal own n h))

-- digits that are a decimal are what is written of their value
value-spelled : (text : List ℕ) → is_decimal text ≡ true → digits_value 10 text < 2 ^ 64 → decimal (digits_value 10 text) ≡ text
value-spelled text h small =
    let parts = and_parts _ _ h in
    let alone : get_or text 0 0 ≡ 48 → length text ≡ 1 = λ zero_first.
    elim (or_cases _ _ parts.1) [
      | inl one ↦ eqb-true (length text) 1 one
      | inr other ↦ absurd (eqb-false (get_or text 0 0) 48 (not-true _ other) zero_first)
    ] in
    decimal-digits_value own text (only_digits text parts.0) (not_empty text parts.0) alone small

pub decimal-spelled : (text : List ℕ) (n : ℕ) → decimal_of text ≡ Some n → n < 2 ^ 64 → decimal n ≡ text
decimal-spelled text n h small =
    elim (cases_Bool (is_decimal text)) [
      | inl is ↦
          let value : digits_value 10 text ≡ n = cc (rw is at h) in
          ap decimal (sym value) ∙ value-spelled text is (rw value small)
      | inr not_is ↦ absurd (cc (rw not_is at h))
    ]

pub number-decimal : (text : List ℕ) → is_decimal text ≡ true → number_of text ≡ decimal_of text
number-decimal text h = let digits : are_digits text ≡ true = (and_parts _ _ h).0 in rw (h, digits)

-- reading is exact: nothing but what is written is read, and all of it is
pub below-read : (text : List ℕ) (n : ℕ) → n < 2 ^ 64 → decimal n ≡ text → below (2 ^ 64) (decimal_of text) ≡ Some n
below-read text n small is = rw (← is, decimal-read n small) (below_at (2 ^ 64) n small)

below-spelled-at : (text : List ℕ) (o : Option ℕ) → decimal_of text ≡ o → IfSome (below (2 ^ 64) o) (λ n. decimal n ≡ text)
below-spelled-at text None is = tt
below-spelled-at text (Some n) is =
    elim (cases_lt n (2 ^ 64)) [
      | inl small ↦ rw (below_at (2 ^ 64) n small) (decimal-spelled text n is small)
      | inr large ↦ rw (below_past (2 ^ 64) n large) tt
    ]

pub below-spelled : (text : List ℕ) → IfSome (below (2 ^ 64) (decimal_of text)) (λ n. decimal n ≡ text)
below-spelled text = below-spelled-at text (decimal_of text) refl
