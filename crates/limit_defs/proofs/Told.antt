-- Where the text of a model's limits tells two numbers, they are those of its definition.
use Rattle.std.proofs.Common.{◌≡◌, refl, sym, ◌∙◌, ap, ap₂, Bool, true, false, true≢false, ℕ, ◌^◌, ◌<◌, ◌≤◌, List, [], ◌∷◌, ◌++◌, cond, codes, decimal, arith, rules}
use Rattle.std.specs.Prelude.{◌==◌, not, nat_le}
use Rattle.std.specs.Char.{is_ascii_digit}
use Rattle.std.specs.List.{list_all}
use Rattle.std.specs.Str.Parse.{digits_value}
use Rattle.std.proofs.lemmas.Bool.{and_from, and_parts, leb-true, ne_eqb, not_from_false}
use Rattle.std.proofs.lemmas.Fmt.{digits_decimal, digits_value-decimal}
use Rattle.std.proofs.lemmas.Str.Parse.{IsNumeralModel, numerals_by_value}
use Rattle.model_data.specs.declared.limits.TheConstants.{MAX_ITERATIONS, MAX_NODES}
use Rattle.model_data.specs.declared.model.Model.{Model}
use Rattle.model_data.specs.declared.params.Params.{Params}
use Rattle.limit_defs.specs.Limits.{HasEnoughNodes, HasEnoughPivots, has_open, iterations_of, nodes_of}
use Rattle.limit_defs.specs.Text.{limit_text, limits_text, lines_of}

-- ---- what stands before a line feed

abbrev has_no_feed : List ℕ → Bool
has_no_feed text = list_all (λ b. not (b == 10)) text

feed_first : (x : ℕ) (xs : List ℕ) → x ≡ 10 → has_no_feed (x ∷ xs) ≡ true → ⊥
feed_first x xs feed h = true≢false (sym (and_parts (not (x == 10)) (has_no_feed xs) h).0 ∙ ap (λ z. not (z == 10)) feed)

before_feed : (xs ys rest others : List ℕ) → has_no_feed xs ≡ true → has_no_feed ys ≡ true → xs ++ 10 ∷ rest ≡ ys ++ 10 ∷ others → (xs ≡ ys) × (rest ≡ others)
before_feed [] [] rest others p q is = (refl, cc)
before_feed [] (y ∷ ys) rest others p q is = let same : 10 ≡ y = cc in absurd (feed_first y ys (sym same) q)
before_feed (x ∷ xs) [] rest others p q is = let same : x ≡ 10 = cc in absurd (feed_first x xs same p)
before_feed (x ∷ xs) (y ∷ ys) rest others p q is =
    let same : x ≡ y = cc in
    let behind : xs ++ 10 ∷ rest ≡ ys ++ 10 ∷ others = cc in
    let parts = before_feed xs ys rest others (and_parts (not (x == 10)) (has_no_feed xs) p).1 (and_parts (not (y == 10)) (has_no_feed ys) q).1 behind in
    (ap₂ (λ z zs. z ∷ zs) same parts.0, parts.1)

-- ---- decimals

no_feed : (x : ℕ) → is_ascii_digit x ≡ true → not (x == 10) ≡ true
no_feed x digit = not_from_false (x == 10) (ne_eqb x 10 (λ (feed : x ≡ 10). true≢false (sym digit ∙ ap is_ascii_digit feed)))

own : IsNumeralModel (λ text. list_all is_ascii_digit text ≡ true) (digits_value 10)
own = numerals_by_value (λ text. list_all is_ascii_digit text ≡ true) (search rules)

digits_alone : (n : ℕ) → n < 2 ^ 64 → list_all is_ascii_digit (decimal n) ≡ true
digits_alone n small = digits_decimal own n small

no_feed_among_digits : (text : List ℕ) → list_all is_ascii_digit text ≡ true → has_no_feed text ≡ true
no_feed_among_digits [] digits = refl
no_feed_among_digits (x ∷ xs) digits =
    let parts = and_parts (is_ascii_digit x) (list_all is_ascii_digit xs) digits in
    and_from (not (x == 10)) (has_no_feed xs) (no_feed x parts.0) (no_feed_among_digits xs parts.1)

one_number : (n k : ℕ) → n < 2 ^ 64 → k < 2 ^ 64 → decimal n ≡ decimal k → n ≡ k
one_number n k small less is = sym (digits_value-decimal own n small) ∙ ap (digits_value 10) is ∙ digits_value-decimal own k less

-- ---- a limit

is_no_word : (n : ℕ) (word : List ℕ) → n < 2 ^ 64 → list_all is_ascii_digit word ≡ false → word ≡ decimal n → ⊥
is_no_word n word small letters is = true≢false (sym (digits_alone n small) ∙ ap (list_all is_ascii_digit) (sym is) ∙ letters)

limit_is : (most limit n : ℕ) → most < 2 ^ 64 → n < 2 ^ 64 → limit_text most limit ≡ decimal n → limit ≡ n
limit_is most limit n small less = by_test (nat_le limit most) refl
  where
    by_test : (b : Bool) → nat_le limit most ≡ b → cond {A = List ℕ} b (decimal limit) (codes "OVER") ≡ decimal n → limit ≡ n
    by_test true within is = let most_is = leb-true limit most within in one_number limit n (omega (arith, most_is, small)) less is
    by_test false above is = absurd (is_no_word n (codes "OVER") less refl is)

limit_no_feed : (most limit : ℕ) → most < 2 ^ 64 → has_no_feed (limit_text most limit) ≡ true
limit_no_feed most limit small = by_test (nat_le limit most) refl
  where
    by_test : (b : Bool) → nat_le limit most ≡ b → has_no_feed (cond {A = List ℕ} b (decimal limit) (codes "OVER")) ≡ true
    by_test true within = let most_is = leb-true limit most within in no_feed_among_digits (decimal limit) (digits_alone limit (omega (arith, most_is, small)))
    by_test false above = refl

told_lines : (xs ys others more : List ℕ) → has_no_feed xs ≡ true → has_no_feed ys ≡ true → has_no_feed others ≡ true → has_no_feed more ≡ true
    → lines_of xs others ≡ lines_of ys more → (xs ≡ ys) × (others ≡ more)
told_lines xs ys others more p q r s is =
    let behind : xs ++ 10 ∷ 78 ∷ 79 ∷ 68 ∷ 69 ∷ 83 ∷ 32 ∷ (others ++ 10 ∷ []) ≡ ys ++ 10 ∷ 78 ∷ 79 ∷ 68 ∷ 69 ∷ 83 ∷ 32 ∷ (more ++ 10 ∷ []) = cc in
    let first = before_feed xs ys _ _ p q behind in
    let last : others ++ 10 ∷ [] ≡ more ++ 10 ∷ [] = let rest = first.1 in cc in
    (first.0, (before_feed others more [] [] r s last).0)

pub told_enough : (m : Model) (p : Params) (iterations nodes : ℕ) → iterations < 2 ^ 64 → nodes < 2 ^ 64
    → limits_text m ≡ lines_of (decimal iterations) (decimal nodes) → iterations ≤ p.iterations → nodes ≤ p.nodes
    → HasEnoughPivots m p × HasEnoughNodes m p
unfolding limits_text
told_enough m p iterations nodes small less is pivots_enough nodes_enough = by_test (has_open m) refl is
  where
    pivots_clean : has_no_feed (decimal iterations) ≡ true
    pivots_clean = no_feed_among_digits (decimal iterations) (digits_alone iterations small)

    nodes_clean : has_no_feed (decimal nodes) ≡ true
    nodes_clean = no_feed_among_digits (decimal nodes) (digits_alone nodes less)

    by_test : (b : Bool) → has_open m ≡ b
        → cond b (lines_of (codes "OPEN") (codes "OPEN")) (lines_of (limit_text MAX_ITERATIONS (iterations_of m)) (limit_text MAX_NODES (nodes_of m))) ≡ lines_of (decimal iterations) (decimal nodes)
        → HasEnoughPivots m p × HasEnoughNodes m p
    by_test true some told =
        absurd (is_no_word iterations (codes "OPEN") small refl (told_lines (codes "OPEN") (decimal iterations) (codes "OPEN") (decimal nodes) refl pivots_clean refl nodes_clean told).0)
    by_test false none told =
        let parts =
        told_lines (limit_text MAX_ITERATIONS (iterations_of m)) (decimal iterations) (limit_text MAX_NODES (nodes_of m)) (decimal nodes)
        (limit_no_feed MAX_ITERATIONS (iterations_of m) (omega arith)) pivots_clean (limit_no_feed MAX_NODES (nodes_of m) (omega arith)) nodes_clean told in
        let first = limit_is MAX_ITERATIONS (iterations_of m) iterations (omega arith) small parts.0 in
        let second = limit_is MAX_NODES (nodes_of m) nodes (omega arith) less parts.1 in (
          record { closed = none; enough = omega (arith, first, pivots_enough) },
          record { closed = none; enough = omega (arith, second, nodes_enough) },
        )
