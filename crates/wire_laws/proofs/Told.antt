-- What a word tells has a word.
use Rattle.std.proofs.Common.{◌≡◌, ℕ, ◌+◌, ◌^◌, ◌<◌, Bool, true, false, ◌==◌, List, [], ◌∷◌, take, drop, ℤ, unsigned_abs, Option, Some, None, Result, Ok, Err, refl, ap, subst, arith}
use Rattle.std.specs.Prelude.{bytes_eq, codes, nat_lt, option_map, position, if◌then◌else◌}
use Rattle.std.specs.List.{list_any}
use Rattle.std.proofs.lemmas.Bool.Decides.{nat_tests}
use Rattle.base_names.specs.Decimal.{below, decimal_of, number_of}
use Rattle.base_names.specs.Id.{IsId, id_at, id_of, id_of_parts}
use Rattle.base_names.specs.OwnerName.{is_owner_name}
use Rattle.base_names.specs.declared.id.BatchId.{BatchId}
use Rattle.base_names.specs.declared.refusal.Refusal.{Refusal}
use Rattle.base_names.specs.declared.refusal.Refusal.TheVariants.{LINE, NAME}
use Rattle.frac128.specs.Fraction.{Fraction, den}
use Rattle.frac128.specs.Lowest.{IsKept}
use Rattle.frac128.specs.Numbers.{is_below_zero, limit}
use Rattle.frac_text.specs.Reading.{reading}
use Rattle.frac_text.specs.declared.fault.NumFault.{NumFault}
use Rattle.frac_text.specs.declared.fault.NumFault.TheVariants.{NotNumber, TooWide}
use Rattle.frac_text.proofs.Kept.{reading_kept}
use Rattle.model_data.specs.Names.{IsName, is_name, is_tag}
use Rattle.wire_laws.specs.Written.{HasWord, IsFiniteBound, is_one_word}
use Rattle.wire_text.specs.Kinds.{Bound, Kind, Value, batch, bound_of, bound_told, comparison, finite, infinite, is_far, kind, lower, name, number, number_told, or_line, parameter, size, tag, told, upper, whole, whole_told}
use Rattle.wire_text.proofs.LawfulCommands.{bound_of-near, lower_told-finite, ok_is, size_told, tag_is, upper_told-finite}

number_told-ok : (found : Result Fraction NumFault) (x : Fraction) → number_told found ≡ Ok x → found ≡ Ok x
number_told-ok (Ok y) x h = ap Ok (ok_is y x h)
number_told-ok (Err NotNumber) x h = absurd cc
number_told-ok (Err (TooWide negative huge)) x h = absurd cc

whole_told-fits : (found : Result Fraction NumFault) (n : ℤ) → ((x : Fraction) → found ≡ Ok x → IsKept x) → whole_told found ≡ Ok n → unsigned_abs n < limit
whole_told-fits (Ok x) n kept h = by_den (den x == 1) h
  where
    by_den : (b : Bool) → (if b then Ok x.num else Err LINE) ≡ Ok n → unsigned_abs n < limit
    by_den true h = subst (λ m. unsigned_abs m < limit) (ok_is x.num n h) (kept x refl).num_fits
    by_den false h = absurd cc
whole_told-fits (Err NotNumber) n kept h = absurd cc
whole_told-fits (Err (TooWide negative huge)) n kept h = absurd cc

bound_told-read : (found : Result Fraction NumFault) (x : Fraction) → bound_told found ≡ Ok (finite x) → found ≡ Ok x
bound_told-read (Ok y) x h = by_far (is_far y) h
  where
    by_far : (b : Bool) → ◌≡◌ {A = Result Bound Refusal} (Ok (if b then infinite (is_below_zero y.num) else finite y)) (Ok (finite x)) → ◌≡◌ {A = Result Fraction NumFault} (Ok y) (Ok x)
    by_far true h = absurd cc
    by_far false h = let same : y ≡ x = cc in ap Ok same
bound_told-read (Err NotNumber) x h = absurd cc
bound_told-read (Err (TooWide negative true)) x h = absurd cc
bound_told-read (Err (TooWide negative false)) x h = absurd cc

bound_of-read : (word : List ℕ) (x : Fraction) → bound_of word ≡ Ok (finite x) → reading word ≡ Ok x
bound_of-read word x h = by_words (list_any (bytes_eq word) (codes "inf" ∷ codes "infinity" ∷ [])) (list_any (bytes_eq word) (codes "-inf" ∷ codes "-infinity" ∷ [])) h
  where
    by_words : (above below : Bool) → (if above then Ok (infinite false) else (if below then Ok (infinite true) else bound_told (reading word))) ≡ Ok (finite x) → reading word ≡ Ok x
    by_words true below h = absurd cc
    by_words false true h = absurd cc
    by_words false false h = bound_told-read (reading word) x h

finite_is : (word : List ℕ) (x : Fraction) → bound_of word ≡ Ok (finite x) → IsFiniteBound x
finite_is word x h = (reading_kept word x (bound_of-read word x h), bound_of-near word x h)

name_is : (word v : List ℕ) (b : Bool) → is_name word ≡ b → (if b then Ok word else Err NAME) ≡ Ok v → IsName v
name_is word v true is h = subst IsName (ok_is word v h) is
name_is word v false is h = absurd cc

below-fits : (found : Option ℕ) (n : ℕ) → below (2 ^ 32) found ≡ Some n → n < 2 ^ 32
below-fits None n h = absurd cc
below-fits (Some m) n h = by_test (nat_lt m (2 ^ 32)) refl h
  where
    by_test : (b : Bool) → nat_lt m (2 ^ 32) ≡ b → (if b then Some m else None) ≡ Some n → n < 2 ^ 32
    by_test true is h = let same : m ≡ n = cc in subst (λ k. k < 2 ^ 32) same (grind (arith, nat_tests))
    by_test false is h = absurd cc

id_of_parts-is : (owner digits : List ℕ) (id : BatchId) → id_of_parts owner digits ≡ Some id → IsId id
id_of_parts-is owner digits id h = by_parts (is_owner_name owner) (below (2 ^ 32) (decimal_of digits)) refl refl h
  where
    by_parts : (named : Bool) (n : Option ℕ) → is_owner_name owner ≡ named → below (2 ^ 32) (decimal_of digits) ≡ n → (if named then option_map (λ number. let made : BatchId = record { owner = owner; number = number } in made) n else None) ≡ Some id → IsId id
    by_parts false n is fits h = absurd cc
    by_parts true None is fits h = absurd cc
    by_parts true (Some n) is fits h =
        let made : BatchId = record { owner = owner; number = n } in
        let same : made ≡ id = cc in
        subst IsId same (is, below-fits (decimal_of digits) n fits)

id_at-is : (text : List ℕ) (point : Option ℕ) (id : BatchId) → id_at text point ≡ Some id → IsId id
id_at-is text None id h = absurd cc
id_at-is text (Some point) id h = id_of_parts-is (take point text) (drop (point + 1) text) id h

id_is : (text : List ℕ) (found : Option BatchId) (id : BatchId) → id_of text ≡ found → or_line found ≡ Ok id → IsId id
id_is text None id is h = absurd cc
id_is text (Some other) id is h = subst IsId (ok_is other id h) (id_at-is text (position (λ byte. byte == 46) text) other is)

pub told-has_word : (argument : Kind) (word : List ℕ) (v : Value argument) → is_one_word word ≡ true → told argument word ≡ Ok v → HasWord argument v
told-has_word name word v one h = name_is word v (is_name word) refl h
told-has_word number word v one h = reading_kept word v (number_told-ok (reading word) v h)
told-has_word whole word v one h = whole_told-fits (reading word) v (reading_kept word) h
told-has_word lower word v one h = lower_told-finite IsFiniteBound (bound_of word) v (finite_is word) h
told-has_word upper word v one h = upper_told-finite IsFiniteBound (bound_of word) v (finite_is word) h
told-has_word comparison word v one h = tt
told-has_word kind word v one h = tt
told-has_word tag word v one h = tag_is word v (is_tag word) refl h
told-has_word parameter word v one h = subst (λ text. is_one_word text ≡ true) (ok_is word v h) one
told-has_word size word v one h = size_told (number_of word) v h
told-has_word batch word v one h = id_is word (id_of word) v refl h
