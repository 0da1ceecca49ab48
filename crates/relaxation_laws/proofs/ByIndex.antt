-- A sum over a dictionary's columns as a sum over all variables by index.
use Rattle.std.specs.Prelude.{not}
use Rattle.std.proofs.Common.{◌≡◌, ◌≢◌, ◌∙◌, ⊎_elim, refl, sym, ap, ap₂, subst, ℕ, zero, suc, ◌+◌, ◌≤◌, ◌==◌, cond, List, [], ◌∷◌, ◌++◌, length, All, AllPairs, arith, eq-eqb, ne_eqb}
use Rattle.std.proofs.lemmas.Bool.{cases_eq}
use Rattle.std.proofs.lemmas.List.Elements.{All-head, All-tail}
use Rattle.frac128.specs.Fraction.{Fraction, zero_value}
use Rattle.frac128.specs.Lowest.{IsInLowestTerms}
use Rattle.frac128.proofs.Field.{apart_of-product, exact_product-zero_left, exact_product-zero_right, exact_sum-zero_left, exact_sum-zero_right}
use Rattle.frac128.proofs.Sums.{total, total-append, total-plus, total-same, total-zero, ◌⊕◌, ◌⊗◌}
use Rattle.dictionary.specs.Dictionary.{entry}
use Rattle.dictionary.specs.Solutions.{Point, sum_at}
use Rattle.dictionary.proofs.Points.OwnPoint.{place_of}
use Rattle.solve_defs.proofs.Places.{AllPairs-first, AllPairs-rest, none_before, only_place, places}

-- the coefficient of a variable, and 0 where it has no column
abbrev pub look : List ℕ → List Fraction → ℕ → Fraction
look vs coefs u = entry coefs (place_of vs u)

look-here : (v : ℕ) (vs : List ℕ) (a : Fraction) (coefs : List Fraction) → look (v ∷ vs) (a ∷ coefs) v ≡ a
look-here v vs a coefs = ap (λ b. entry (a ∷ coefs) (cond (not b) (1 + place_of vs v) 0)) (eq-eqb v v refl)

look-apart : (u v : ℕ) (vs : List ℕ) (a : Fraction) (coefs : List Fraction) → (u ≡ v → ⊥) → look (v ∷ vs) (a ∷ coefs) u ≡ look vs coefs u
look-apart u v vs a coefs other =
    ap (λ b. entry (a ∷ coefs) (cond (not b) (1 + place_of vs u) 0)) (ne_eqb v u (λ e. other (sym e))) ∙ ap (entry (a ∷ coefs)) (next (place_of vs u))
  where
    next : (n : ℕ) → 1 + n ≡ suc n
    next n = omega arith

look-absent : (v : ℕ) (vs : List ℕ) (coefs : List Fraction) → length coefs ≡ length vs → All (λ w. v ≢ w) vs → look vs coefs v ≡ zero_value
look-absent v [] [] same others = refl
look-absent v [] (a ∷ coefs) same others = absurd (omega (arith, same))
look-absent v (w ∷ vs) [] same others = absurd (omega (arith, same))
look-absent v (w ∷ vs) (a ∷ coefs) same others =
    look-apart v w vs a coefs (All-head (λ u. v ≢ u) w vs others) ∙ look-absent v vs coefs (omega (arith, same)) (All-tail (λ u. v ≢ u) w vs others)

-- a variable's own share, and nothing of the others
own : ℕ → Fraction → Point → ℕ → Fraction
own v a x u = cond (u == v) (a ⊗ x u) zero_value

own_here : (v : ℕ) (a : Fraction) (x : Point) → own v a x v ≡ a ⊗ x v
unfolding own
own_here v a x = ap (λ b. cond b (a ⊗ x v) zero_value) (eq-eqb v v refl)

own_apart : (v : ℕ) (a : Fraction) (x : Point) (u : ℕ) → (u ≡ v → ⊥) → own v a x u ≡ zero_value
unfolding own
own_apart v a x u other = ap (λ b. cond b (a ⊗ x u) zero_value) (ne_eqb u v other)

parted : (x : Point) (v : ℕ) (vs : List ℕ) (a : Fraction) (coefs : List Fraction) → look vs coefs v ≡ zero_value → (u : ℕ) → look (v ∷ vs) (a ∷ coefs) u ⊗ x u ≡ own v a x u ⊕ look vs coefs u ⊗ x u
parted x v vs a coefs none u =
    ⊎_elim
    (λ same. subst (λ w. look (v ∷ vs) (a ∷ coefs) w ⊗ x w ≡ own v a x w ⊕ look vs coefs w ⊗ x w) (sym same)
    (ap (λ s. s ⊗ x v) (look-here v vs a coefs)
    ∙ sym (ap₂ (λ p q. p ⊕ q) (own_here v a x) (ap (λ s. s ⊗ x v) none ∙ exact_product-zero_left (x v)) ∙ exact_sum-zero_right (a ⊗ x v) (apart_of-product a (x v)))))
    (λ other.
    ap (λ s. s ⊗ x u) (look-apart u v vs a coefs other)
    ∙ sym (ap (λ s. s ⊕ look vs coefs u ⊗ x u) (own_apart v a x u other) ∙ exact_sum-zero_left (look vs coefs u ⊗ x u) (apart_of-product (look vs coefs u) (x u))))
    (cases_eq u v)

own_total : (x : Point) (most v : ℕ) (a : Fraction) → v ≤ most → x 0 ≡ zero_value → total (own v a x) (places 1 most) ≡ a ⊗ x v
own_total x most zero a within none =
    none_before (own zero a x) zero 1 most (own_apart zero a x) (omega arith) ∙ sym (ap (λ s. a ⊗ s) none ∙ exact_product-zero_right a)
own_total x most (suc v) a within none =
    only_place (own (suc v) a x) (suc v) 1 most (own_apart (suc v) a x) (subst (λ s. IsInLowestTerms s) (sym (own_here (suc v) a x)) (apart_of-product a (x (suc v)))) (omega arith) (omega (arith, within))
    ∙ own_here (suc v) a x

-- Where no variable stands twice, and that of index 0 is 0.
pub by_index : (x : Point) (most : ℕ) (vs : List ℕ) (coefs : List Fraction) → length coefs ≡ length vs → AllPairs (λ v w. v ≢ w) vs → All (λ v. v ≤ most) vs → x 0 ≡ zero_value
    → sum_at x vs coefs ≡ total (λ u. look vs coefs u ⊗ x u) (places 1 most)
by_index x most [] [] same distinct within none =
    sym (total-same (λ u. zero_value ⊗ x u) (λ u. zero_value) (places 1 most) (λ u. exact_product-zero_left (x u)) ∙ total-zero (places 1 most))
by_index x most [] (a ∷ coefs) same distinct within none = absurd (omega (arith, same))
by_index x most (v ∷ vs) [] same distinct within none = absurd (omega (arith, same))
by_index x most (v ∷ vs) (a ∷ coefs) same distinct within none =
    let absent = look-absent v vs coefs (omega (arith, same)) (AllPairs-first (λ p q. p ≢ q) v vs distinct) in
    ap₂ (λ p q. p ⊕ q) (sym (own_total x most v a (All-head (λ w. w ≤ most) v vs within) none))
    (by_index x most vs coefs (omega (arith, same)) (AllPairs-rest (λ p q. p ≢ q) v vs distinct) (All-tail (λ w. w ≤ most) v vs within) none)
    ∙ sym (total-same (λ u. look (v ∷ vs) (a ∷ coefs) u ⊗ x u) (λ u. own v a x u ⊕ look vs coefs u ⊗ x u) (places 1 most) (parted x v vs a coefs absent)
    ∙ total-plus (own v a x) (λ u. look vs coefs u ⊗ x u) (places 1 most))

-- ---- places in two parts

places-append : (first n m : ℕ) → places first (n + m) ≡ places first n ++ places (first + n) m
places-append first zero m = ap₂ places start (omega arith)
  where
    start : first ≡ first + 0
    start = omega arith
places-append first (suc n) m =
    ap (places first) count ∙ ap (λ rest. first ∷ rest) (places-append (suc first) n m ∙ ap (λ k. places (suc first) n ++ places k m) start)
  where
    count : suc n + m ≡ suc (n + m)
    count = omega arith

    start : suc first + n ≡ first + suc n
    start = omega arith

pub in_parts : (g : ℕ → Fraction) (n m : ℕ) → total g (places 1 (n + m)) ≡ total g (places 1 n) ⊕ total g (places (suc n) m)
in_parts g n m = ap (total g) (places-append 1 n m) ∙ total-append g (places 1 n) (places (1 + n) m) ∙ ap (λ k. total g (places 1 n) ⊕ total g (places k m)) (next n)
  where
    next : (k : ℕ) → 1 + k ≡ suc k
    next k = omega arith
