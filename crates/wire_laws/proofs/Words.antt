-- The word for a value is one word, and tells the value.
use Rattle.std.proofs.Common.{◌≡◌, ℕ, ◌+◌, ◌<◌, ◌≤◌, ◌^◌, Bool, true, false, List, [], ◌∷◌, decimal, ℤ, unsigned_abs, Some, None, Ok, Err, refl, sym, ap, ◌∙◌, subst, arith}
use Rattle.std.specs.Prelude.{bytes_eq, codes, nat_le, option_map, if◌then◌else◌}
use Rattle.std.specs.Fmt.{signed_decimal}
use Rattle.std.specs.Int.{IsGcd}
use Rattle.std.specs.List.{list_any}
use Rattle.std.specs.Str.Parse.{digits_value}
use Rattle.std.proofs.Math.Nat.{mod-one}
use Rattle.std.proofs.lemmas.Bool.Decides.{nat_tests}
use Rattle.std.proofs.lemmas.List.{append-nil}
use Rattle.std.proofs.lemmas.Nat.Gcd.{IsGcd-from_mod, IsGcd-from_zero}
use Rattle.std.proofs.lemmas.Slice.Eq.{bytes_eq-Decides}
use Rattle.base_names.specs.Decimal.{is_decimal, number_of}
use Rattle.base_names.specs.declared.refusal.Refusal.TheVariants.{LINE, NAME}
use Rattle.base_names.proofs.Decimals.{decimal-read, number-decimal}
use Rattle.base_names.proofs.Ids.{written-read}
use Rattle.frac128.specs.Fraction.{Fraction}
use Rattle.frac128.specs.Lowest.{IsKept}
use Rattle.frac128.specs.Numbers.{is_below_zero, limit}
use Rattle.frac_text.specs.Reading.{number_of as parts_of_text, reading}
use Rattle.frac_text.specs.Writing.{canonical_text}
use Rattle.frac_text.proofs.RoundTrip.{reading-canonical_text}
use Rattle.model_data.specs.Lawful.{IsBelowBoundSize}
use Rattle.model_data.specs.Names.{is_name, is_tag}
use Rattle.model_data.specs.declared.model.Sense.TheVariants.{Less, Greater, Equal}
use Rattle.model_data.specs.declared.model.VarKind.TheVariants.{Continuous, Integer, Binary}
use Rattle.wire_laws.specs.Written.{HasWord, IsFiniteBound, is_one_word, word_for}
use Rattle.wire_laws.proofs.Bytes.{decimal_word, id_word, name_word, number_word, tag_word, whole_word}
use Rattle.wire_text.specs.Kinds.{Kind, Value, batch, block_size, bound_of, bound_told, comparison, finite, infinite, is_far, kind, lower, lower_told, name, number, number_told, or_line, parameter, size, tag, told, upper, upper_told, whole, whole_told}
use Rattle.wire_text.specs.declared.limits.TheConstants.{BLOCK_LIMIT}

pub one_word : (argument : Kind) (v : Value argument) → HasWord argument v → is_one_word (word_for argument v) ≡ true
one_word name v h = name_word v h
one_word number v h = number_word v h
one_word whole v h = whole_word v h
one_word lower None h = refl
one_word lower (Some x) h = number_word x h.0
one_word upper None h = refl
one_word upper (Some x) h = number_word x h.0
one_word comparison Less h = refl
one_word comparison Greater h = refl
one_word comparison Equal h = refl
one_word kind Continuous h = refl
one_word kind Integer h = refl
one_word kind Binary h = refl
one_word tag v h = tag_word v h
one_word parameter v h = h
one_word size None h = decimal_word (BLOCK_LIMIT + 1) (omega arith)
one_word size (Some k) h = decimal_word k (omega arith)
one_word batch v h = id_word v h

taken : {A : Type 0} (b : Bool) (x y : A) → b ≡ true → (if b then x else y) ≡ x
taken true x y h = refl
taken false x y h = absurd cc

left_out : {A : Type 0} (b : Bool) (x y : A) → b ≡ false → (if b then x else y) ≡ y
left_out true x y h = absurd cc
left_out false x y h = refl

-- a number's text is neither of two words that aren't read as it
other_word : (word first second : List ℕ) (x : Fraction) → reading word ≡ Ok x → (reading first ≡ Ok x → ⊥) → (reading second ≡ Ok x → ⊥) → list_any (bytes_eq word) (first ∷ second ∷ []) ≡ false
other_word word first second x is not_first not_second = by_tests (bytes_eq word first) (bytes_eq word second) refl refl
  where
    by_tests : (a b : Bool) → bytes_eq word first ≡ a → bytes_eq word second ≡ b → list_any (bytes_eq word) (first ∷ second ∷ []) ≡ false
    by_tests true b same same' = absurd (not_first (ap reading (sym ((bytes_eq-Decides word first).0 same)) ∙ is))
    by_tests false true same same' = absurd (not_second (ap reading (sym ((bytes_eq-Decides word second).0 same')) ∙ is))
    by_tests false false same same' = rw (same, same') refl

no_number : (x : Fraction) → (reading (codes "inf") ≡ Ok x → ⊥) × (reading (codes "infinity") ≡ Ok x → ⊥) × (reading (codes "-inf") ≡ Ok x → ⊥) × (reading (codes "-infinity") ≡ Ok x → ⊥)
unfolding parts_of_text
no_number x = (λ h. cc, λ h. cc, λ h. cc, λ h. cc)

near_enough : (x : Fraction) → IsBelowBoundSize x → is_far x ≡ false
near_enough x near = grind (arith, nat_tests)

finite_read : (x : Fraction) → IsFiniteBound x → bound_of (canonical_text x) ≡ Ok (finite x)
finite_read x bound =
    let text = canonical_text x in
    let is : reading text ≡ Ok x = reading-canonical_text x bound.0 in
    let none = no_number x in
    left_out (list_any (bytes_eq text) (codes "inf" ∷ codes "infinity" ∷ [])) (Ok (infinite false)) (if (list_any (bytes_eq text) (codes "-inf" ∷ codes "-infinity" ∷ [])) then Ok (infinite true) else bound_told (reading text)) (other_word text (codes "inf") (codes "infinity") x is none.0 none.1)
    ∙ (left_out (list_any (bytes_eq text) (codes "-inf" ∷ codes "-infinity" ∷ [])) (Ok (infinite true)) (bound_told (reading text)) (other_word text (codes "-inf") (codes "-infinity") x is none.2 none.3)
    ∙ (ap bound_told is ∙ ap (λ b. Ok (if b then infinite (is_below_zero x.num) else finite x)) (near_enough x bound.1)))

whole_kept : (n : ℤ) → unsigned_abs n < limit → IsKept (record { num = n; below = 0 })
whole_kept n fits = record { nothing_in_common = IsGcd-from_mod (unsigned_abs n) 1 1 (subst (λ r. IsGcd 1 r 1) (sym (mod-one (unsigned_abs n))) (IsGcd-from_zero 1 0 refl)); num_fits = fits; den_fits = omega arith }

whole_read : (n : ℤ) → unsigned_abs n < limit → reading (signed_decimal n) ≡ Ok (record { num = n; below = 0 })
whole_read n fits = ap reading (sym (append-nil (signed_decimal n))) ∙ reading-canonical_text (record { num = n; below = 0 }) (whole_kept n fits)

decimal_is : (k : ℕ) (b : Bool) → (if b then Some (digits_value 10 (decimal k)) else None) ≡ Some k → b ≡ true
decimal_is k true h = refl
decimal_is k false h = absurd cc

digits_read : (k : ℕ) → k < 2 ^ 64 → number_of (decimal k) ≡ Some k
digits_read k fits = number-decimal (decimal k) (decimal_is k (is_decimal (decimal k)) (decimal-read k fits)) ∙ decimal-read k fits

short_is : (k : ℕ) → k ≤ BLOCK_LIMIT → nat_le k BLOCK_LIMIT ≡ true
short_is k short = grind (arith, nat_tests)

pub word_read : (argument : Kind) (v : Value argument) → HasWord argument v → told argument (word_for argument v) ≡ Ok v
word_read name v h = taken (is_name v) (Ok v) (Err NAME) h
word_read number v h = ap number_told (reading-canonical_text v h)
word_read whole v h = ap whole_told (whole_read v h)
word_read lower None h = refl
word_read lower (Some x) h = ap lower_told (finite_read x h)
word_read upper None h = refl
word_read upper (Some x) h = ap upper_told (finite_read x h)
word_read comparison Less h = refl
word_read comparison Greater h = refl
word_read comparison Equal h = refl
word_read kind Continuous h = refl
word_read kind Integer h = refl
word_read kind Binary h = refl
word_read tag v h = taken (is_tag v) (Ok v) (Err LINE) h
word_read parameter v h = refl
word_read size None h = ap (λ n. or_line (option_map block_size n)) (digits_read (BLOCK_LIMIT + 1) (omega arith))
word_read size (Some k) h = ap (λ n. or_line (option_map block_size n)) (digits_read k (omega arith)) ∙ ap (λ b. Ok (if b then Some k else None)) (short_is k h)
word_read batch v h = ap or_line (written-read v h)
