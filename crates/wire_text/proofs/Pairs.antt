-- Pairs of words read one by one, into the terms that they tell together.
use Rattle.std.proofs.Common.{◌≡◌, ℕ, Bool, true, false, List, [], ◌∷◌, ◌++◌, Result, Ok, Err, refl, sym, ap, ◌∙◌, append_assoc}
use Rattle.std.specs.Prelude.{◌&&◌, if◌then◌else◌}
use Rattle.std.proofs.Math.Bool.{true-and}
use Rattle.std.proofs.lemmas.List.{append-nil}
use Rattle.frac128.specs.Checked.{◌>>=◌}
use Rattle.base_names.specs.declared.refusal.Refusal.{Refusal}
use Rattle.base_names.specs.declared.refusal.Refusal.TheVariants.{LINE}
use Rattle.frac128.specs.Fraction.{Fraction}
use Rattle.model_core.specs.declared.change.NamedTerm.{NamedTerm}
use Rattle.wire_text.specs.Commands.{are_pairs, is_such, terms_told}
use Rattle.wire_text.specs.Kinds.{name, number, told}
use Rattle.wire_text.specs.Reading.{read_pairs, with_pair, with_pairs}

-- these terms, and then those
abbrev joined : Result (List NamedTerm) Refusal → Result (List NamedTerm) Refusal → Result (List NamedTerm) Refusal
joined front back = front >>= λ xs. back >>= λ ys. Ok (xs ++ ys)

joined-nil : (back : Result (List NamedTerm) Refusal) → joined (Ok []) back ≡ back
joined-nil (Ok ys) = refl
joined-nil (Err e) = refl

-- before the first pair
pub with_pairs-nil : (words : List (List ℕ)) → with_pairs (Ok []) words ≡ read_pairs words
with_pairs-nil words = by_test (are_pairs words)
  where
    by_test : (b : Bool) → ((if b then Ok (terms_told words) else Err LINE) >>= λ rest. Ok (joined (Ok []) rest)) ≡ (if b then Ok (terms_told words) else Err LINE)
    by_test true = ap (λ told. Ok told) (joined-nil (terms_told words))
    by_test false = refl

-- behind the last one
pub with_pairs-end : (front : Result (List NamedTerm) Refusal) → with_pairs front [] ≡ Ok front
with_pairs-end (Ok xs) = ap (λ ys. Ok (Ok ys)) (append-nil xs)
with_pairs-end (Err e) = refl

-- a term, and those behind it
abbrev term_before : Result Fraction Refusal → Result (List ℕ) Refusal → Result (List NamedTerm) Refusal → Result (List NamedTerm) Refusal
term_before coef variable rest = coef >>= λ c. variable >>= λ n. rest >>= λ terms. Ok (record { name = n; coef = c } ∷ terms)

moved : (front : Result (List NamedTerm) Refusal) (coef : Result Fraction Refusal) (variable : Result (List ℕ) Refusal) (rest : Result (List NamedTerm) Refusal) → joined (with_pair front coef variable) rest ≡ joined front (term_before coef variable rest)
moved (Err e) coef variable rest = refl
moved (Ok xs) (Err e) variable rest = refl
moved (Ok xs) (Ok c) (Err e) rest = refl
moved (Ok xs) (Ok c) (Ok n) (Err e) = refl
moved (Ok xs) (Ok c) (Ok n) (Ok ys) = ap (λ terms. Ok terms) (append_assoc xs (record { name = n; coef = c } ∷ []) ys)

-- a pair goes from the words to the terms
pub with_pairs-pair : (front : Result (List NamedTerm) Refusal) (coef variable : List ℕ) (words : List (List ℕ)) → is_such number coef ≡ true → with_pairs (with_pair front (told number coef) (told name variable)) words ≡ with_pairs front (coef ∷ variable ∷ words)
with_pairs-pair front coef variable words such =
    let same : are_pairs (coef ∷ variable ∷ words) ≡ are_pairs words = ap (λ b. (b && true) && are_pairs words) such ∙ true-and (are_pairs words) in
    by_tests (are_pairs words) ∙ ap (λ b. (if b then Ok (terms_told (coef ∷ variable ∷ words)) else Err LINE) >>= λ rest. Ok (joined front rest)) (sym same)
  where
    by_tests : (b : Bool) → ((if b then Ok (terms_told words) else Err LINE) >>= λ rest. Ok (joined (with_pair front (told number coef) (told name variable)) rest)) ≡ ((if b then Ok (terms_told (coef ∷ variable ∷ words)) else Err LINE) >>= λ rest. Ok (joined front rest))
    by_tests true = ap (λ told'. Ok told') (moved front (told number coef) (told name variable) (terms_told words))
    by_tests false = refl
