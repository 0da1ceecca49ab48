-- The tokens that the numbers of a written model are.
use Rattle.std.proofs.Common.{◌≡◌, refl, sym, ◌∙◌, ap, ap₂, subst, ℕ, zero, suc, ◌<◌, Bool, true, false, ◌||◌, List, [], ◌∷◌, ◌++◌, length, arith, ◌==◌, codes, Option, Some, None, Ok, ℤ, pos, negsuc, unsigned_abs, unwrap_or}
use Rattle.std.specs.Char.{is_ascii_digit, to_ascii_lowercase}
use Rattle.std.specs.Prelude.{decimal, if◌then◌else◌}
use Rattle.std.specs.Str.{all_ascii_digits}
use Rattle.std.proofs.lemmas.Bool.{and_from}
use Rattle.std.proofs.lemmas.List.Folds.{list_all-append}
use Rattle.frac128.specs.Fraction.{Fraction}
use Rattle.frac128.specs.Lowest.{IsKept}
use Rattle.frac128.specs.Numbers.{is_below_zero, limit}
use Rattle.frac_text.specs.Reading.{is_negative, reading}
use Rattle.frac_text.specs.Writing.{canonical_text as number_text, denominator_text, size_text}
use Rattle.frac_text.proofs.RoundTrip.{reading-canonical_text}
use Rattle.model_data.specs.Names.{is_one_of}
use Rattle.lp_defs.specs.declared.token.TokenKind.TheVariants.{Infinite, Number}
use Rattle.lp_defs.specs.Items.{forbidden_after}
use Rattle.lp_defs.specs.Kinds.{Kind, begins_number, is_infinite, kind_of, number_kind, quantity_of, section_of, symbol_of}
use Rattle.lp_defs.specs.Quantity.{under_sign}
use Rattle.lp_defs.specs.Symbols.{number as number_symbol, finite}
use Rattle.lp_defs.specs.Tokens.{is_plain, is_plain_byte}
use Rattle.lp_defs.proofs.Digits.{decimal_digits, each_digit, no_digit}
use Rattle.lp_defs.proofs.Names.{both_of, last_kind}
use Rattle.lp_defs.proofs.Sight.{IsFree, IsToken}

-- Runs that begin with a digit, or with a minus and a digit

digit_symbol : (d : ℕ) (ds : List ℕ) → is_ascii_digit d ≡ true → symbol_of (d ∷ ds) ≡ None
unfolding symbol_of
digit_symbol d ds h =
    let h43 = no_digit (λ c. 43 == c) refl d h in
    let h45 = no_digit (λ c. 45 == c) refl d h in
    let h58 = no_digit (λ c. 58 == c) refl d h in
    let h60 = no_digit (λ c. 60 == c) refl d h in
    let h61 = no_digit (λ c. 61 == c) refl d h in
    let h62 = no_digit (λ c. 62 == c) refl d h in
    let h91 = no_digit (λ c. 91 == c) refl d h in
    simp (h43, h45, h58, h60, h61, h62, h91)

minus_symbol : (d : ℕ) (ds : List ℕ) → is_ascii_digit d ≡ true → symbol_of (45 ∷ d ∷ ds) ≡ None
unfolding symbol_of
minus_symbol d ds h =
    let h62 = no_digit (λ c. 62 == c) refl d h in
    simp (h62)

digit_infinite : (d : ℕ) (ds : List ℕ) → is_ascii_digit d ≡ true → is_infinite (d ∷ ds) ≡ false
digit_infinite d ds h =
    let h43 = no_digit (λ c. c == 43) refl d h in
    let h45 = no_digit (λ c. c == 45) refl d h in
    let h105 = no_digit (λ c. 105 == to_ascii_lowercase c) refl d h in
    simp (h43, h45, h105)

minus_infinite : (d : ℕ) (ds : List ℕ) → is_ascii_digit d ≡ true → is_infinite (45 ∷ d ∷ ds) ≡ false
minus_infinite d ds h =
    let h105 = no_digit (λ c. 105 == to_ascii_lowercase c) refl d h in
    simp (h105)

-- no word is forbidden behind a number
digit_mild : (d : ℕ) (ds : List ℕ) → is_ascii_digit d ≡ true → forbidden_after (d ∷ ds) ≡ None
unfolding forbidden_after
digit_mild d ds h =
    let h108 = no_digit (λ c. 108 == to_ascii_lowercase c) refl d h in
    let h103 = no_digit (λ c. 103 == to_ascii_lowercase c) refl d h in
    let h117 = no_digit (λ c. 117 == to_ascii_lowercase c) refl d h in
    simp (h108, h103, h117)

digit_free : (d : ℕ) (ds : List ℕ) → is_ascii_digit d ≡ true → IsFree (d ∷ ds)
digit_free d ds h =
    let h99 = no_digit (λ c. 99 == to_ascii_lowercase c) refl d h in
    record { no_constraints = simp (h99); no_cuts = simp (h99) }

-- Tokens

number_kind_is : (run : List ℕ) (x : Fraction) → symbol_of run ≡ None → is_infinite run ≡ false → begins_number run ≡ true →
    reading run ≡ Ok x → kind_of run ≡ Ok (Number x)
unfolding kind_of quantity_of last_kind
number_kind_is run x no_symbol not_infinite begins read =
    ap (λ option. unwrap_or option (unwrap_or (quantity_of run) others)) no_symbol
    ∙ (ap₂ (λ (infinite number : Bool). unwrap_or (quantity_by infinite number) others) not_infinite begins
    ∙ ap number_kind read)
  where
    others : Kind
    others = unwrap_or (section_of run) (last_kind run)

    quantity_by : Bool → Bool → Option Kind
    quantity_by infinite number =
        if infinite then Some (Ok (Infinite (is_negative run))) else (if number then Some (number_kind (reading run)) else None)

unsigned_token : (d : ℕ) (ds : List ℕ) (x : Fraction) → is_ascii_digit d ≡ true → is_plain (d ∷ ds) ≡ true → reading (d ∷ ds) ≡ Ok x →
    IsToken (d ∷ ds) (number_symbol false (finite x))
unsigned_token d ds x h plain read =
    let h43 = no_digit (λ c. 43 == c) refl d h in
    let h45 = no_digit (λ c. 45 == c) refl d h in
    let begins = ap (λ b. b || is_one_of (codes ".+-") d) h in
    record {
      is_word = record { first = d; more = ds; is = refl; plain = plain };
      kind = Number x;
      kind_is = number_kind_is (d ∷ ds) x (digit_symbol d ds h) (digit_infinite d ds h) begins read;
      symbol_is = ap₂ (λ (a b : Bool). number_symbol (a || (b || false)) (finite x)) h43 h45;
    }

negative_token : (d : ℕ) (ds : List ℕ) (x : Fraction) → is_ascii_digit d ≡ true → is_plain (d ∷ ds) ≡ true → reading (45 ∷ d ∷ ds) ≡ Ok x →
    IsToken (45 ∷ d ∷ ds) (number_symbol true (finite x))
negative_token d ds x h plain read = record {
  is_word = record { first = 45; more = d ∷ ds; is = refl; plain = plain };
  kind = Number x;
  kind_is = number_kind_is (45 ∷ d ∷ ds) x (minus_symbol d ds h) (minus_infinite d ds h) refl read;
  symbol_is = refl;
}

-- The digits of sizes

plain_digits : (ds : List ℕ) → all_ascii_digits ds ≡ true → is_plain ds ≡ true
plain_digits [] h = refl
plain_digits (d ∷ ds) h =
    let p = both_of (is_ascii_digit d) (all_ascii_digits ds) h in
    and_from (is_plain_byte d) (is_plain ds) (each_digit is_plain_byte refl d p.0) (plain_digits ds p.1)

-- a text that begins with a digit, and may be a token
record IsSize (text : List ℕ) : Type 0 where
  first : ℕ
  more : List ℕ
  is : text ≡ first ∷ more
  digit : is_ascii_digit first ≡ true
  plain : is_plain (first ∷ more) ≡ true

plain_denominator : (below : ℕ) → suc below < limit → is_plain (denominator_text below) ≡ true
plain_denominator zero h = refl
plain_denominator (suc below) h = plain_digits (decimal (suc (suc below))) (decimal_digits (suc (suc below)) h).1

size_with : (ds rest : List ℕ) → 0 < length ds → all_ascii_digits ds ≡ true → is_plain rest ≡ true → IsSize (ds ++ rest)
size_with [] rest some h plain = absurd (omega (arith, some))
size_with (d ∷ ds) rest some h plain = record {
  first = d;
  more = ds ++ rest;
  is = refl;
  digit = (both_of (is_ascii_digit d) (all_ascii_digits ds) h).0;
  plain =
      list_all-append is_plain_byte (d ∷ ds) rest
      ∙ and_from (is_plain (d ∷ ds)) (is_plain rest) (plain_digits (d ∷ ds) h) plain;
}

is_size : (n below : ℕ) → n < limit → suc below < limit → IsSize (decimal n ++ denominator_text below)
is_size n below fits below_fits =
    let d = decimal_digits n fits in
    size_with (decimal n) (denominator_text below) d.0 d.1 (plain_denominator below below_fits)

-- Numbers

-- the value without its sign
abbrev pub size_of : Fraction → Fraction
size_of x = record { num = pos (unsigned_abs x.num); below = x.below }

pub size_token : (x : Fraction) → IsKept x → IsToken (size_text x) (number_symbol false (finite (size_of x)))
size_token x kept =
    let s = is_size (unsigned_abs x.num) x.below kept.num_fits kept.den_fits in
    let own : IsKept (size_of x) =
    record { nothing_in_common = kept.nothing_in_common; num_fits = kept.num_fits; den_fits = kept.den_fits } in
    subst (λ text. IsToken text (number_symbol false (finite (size_of x)))) (sym s.is)
    (unsigned_token s.first s.more (size_of x) s.digit s.plain (sym (ap reading s.is) ∙ reading-canonical_text (size_of x) own))

pub size_mild : (x : Fraction) → IsKept x → forbidden_after (size_text x) ≡ None
size_mild x kept =
    let s = is_size (unsigned_abs x.num) x.below kept.num_fits kept.den_fits in
    ap forbidden_after s.is ∙ digit_mild s.first s.more s.digit

pub number_token : (x : Fraction) → IsKept x → IsToken (number_text x) (number_symbol (is_below_zero x.num) (finite x))
number_token x kept = by_sign x.num x.below kept.num_fits kept.den_fits (reading-canonical_text x kept)
  where
    by_sign : (n : ℤ) (below : ℕ) → unsigned_abs n < limit → suc below < limit →
        reading (number_text (record { num = n; below = below })) ≡ Ok (record { num = n; below = below }) →
        IsToken (number_text (record { num = n; below = below })) (number_symbol (is_below_zero n) (finite (record { num = n; below = below })))
    by_sign (pos n) below fits below_fits read =
        let y : Fraction = record { num = pos n; below = below } in
        let s = is_size n below fits below_fits in
        subst (λ text. IsToken text (number_symbol false (finite y))) (sym s.is)
        (unsigned_token s.first s.more y s.digit s.plain (sym (ap reading s.is) ∙ read))
    by_sign (negsuc n) below fits below_fits read =
        let y : Fraction = record { num = negsuc n; below = below } in
        let s = is_size (suc n) below fits below_fits in
        subst (λ text. IsToken (45 ∷ text) (number_symbol true (finite y))) (sym s.is)
        (negative_token s.first s.more y s.digit s.plain (sym (ap (λ text. reading (45 ∷ text)) s.is) ∙ read))

pub signed_back : (x : Fraction) → under_sign (is_below_zero x.num) (finite (size_of x)) ≡ finite x
signed_back x = by_sign x.num x.below
  where
    by_sign : (n : ℤ) (below : ℕ) →
        under_sign (is_below_zero n) (finite (record { num = pos (unsigned_abs n); below = below })) ≡ finite (record { num = n; below = below })
    by_sign (pos n) below = refl
    by_sign (negsuc n) below = refl

pub number_free : (x : Fraction) → IsKept x → IsFree (number_text x)
number_free x kept = by_sign x.num x.below kept.num_fits kept.den_fits
  where
    by_sign : (n : ℤ) (below : ℕ) → unsigned_abs n < limit → suc below < limit → IsFree (number_text (record { num = n; below = below }))
    by_sign (pos n) below fits below_fits =
        let s = is_size n below fits below_fits in
        subst IsFree (sym s.is) (digit_free s.first s.more s.digit)
    by_sign (negsuc n) below fits below_fits = record { no_constraints = refl; no_cuts = refl }
