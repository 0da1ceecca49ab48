-- Sums of coefficients times values: what is taken apart, scaled and taken away.
use Rattle.std.proofs.Common.{◌≡◌, ◌∙◌, refl, sym, ap, ap₂, ℕ, suc, List, [], ◌∷◌, ◌++◌, length, map, arith}
use Rattle.frac128.specs.Fraction.{Fraction, exact_sum, zero_value}
use Rattle.frac128.proofs.Field.{apart_of-sum, apart_of-zero, exact_product-sum, exact_product-sum_right, exact_product-zero_left, exact_product-zero_right, exact_product_assoc, exact_sum-zero_left, exact_sum_assoc}
use Rattle.frac128.proofs.Sums.{◌⊕◌, ◌⊗◌, minus, minus-none, minus-product, products, sums}
use Rattle.dictionary.specs.Solutions.{Point, sum_at}
use Rattle.frac128.specs.Lowest.{IsInLowestTerms}

-- ---- sums over columns

pub apart_of-sum_at : (x : Point) (vs : List ℕ) (coefs : List Fraction) → IsInLowestTerms (sum_at x vs coefs)
apart_of-sum_at x [] coefs = apart_of-zero
apart_of-sum_at x (v ∷ vs) [] = apart_of-zero
apart_of-sum_at x (v ∷ vs) (a ∷ coefs) = apart_of-sum (a ⊗ x v) (sum_at x vs coefs)

-- two parts of the columns
pub sum_at-append : (x : Point) (vs ws : List ℕ) (coefs others : List Fraction) → length coefs ≡ length vs → sum_at x (vs ++ ws) (coefs ++ others) ≡ sum_at x vs coefs ⊕ sum_at x ws others
sum_at-append x [] ws [] others same = sym (exact_sum-zero_left (sum_at x ws others) (apart_of-sum_at x ws others))
sum_at-append x [] ws (a ∷ coefs) others same = absurd (omega (arith, same))
sum_at-append x (v ∷ vs) ws [] others same = absurd (omega (arith, same))
sum_at-append x (v ∷ vs) ws (a ∷ coefs) others same =
    ap (λ s. a ⊗ x v ⊕ s) (sum_at-append x vs ws coefs others (omega (arith, same))) ∙ sym (exact_sum_assoc (a ⊗ x v) (sum_at x vs coefs) (sum_at x ws others))

-- one column and the others
pub sum_at-middle : (x : Point) (vs ws : List ℕ) (coefs others : List Fraction) (v : ℕ) (a : Fraction) → length coefs ≡ length vs → sum_at x (vs ++ v ∷ ws) (coefs ++ a ∷ others) ≡ (sum_at x vs coefs ⊕ sum_at x ws others) ⊕ a ⊗ x v
sum_at-middle x vs ws coefs others v a same =
    sum_at-append x vs (v ∷ ws) coefs (a ∷ others) same ∙ turned (sum_at x vs coefs) (a ⊗ x v) (sum_at x ws others)
  where
    turned : (p q r : Fraction) → p ⊕ (q ⊕ r) ≡ (p ⊕ r) ⊕ q
    turned p q r = simp sums

-- each coefficient times a number
pub sum_at-scaled : (x : Point) (vs : List ℕ) (coefs : List Fraction) (q : Fraction) → sum_at x vs (map (λ a. a ⊗ q) coefs) ≡ sum_at x vs coefs ⊗ q
sum_at-scaled x [] coefs q = sym (exact_product-zero_left q)
sum_at-scaled x (v ∷ vs) [] q = sym (exact_product-zero_left q)
sum_at-scaled x (v ∷ vs) (a ∷ coefs) q =
    ap₂ exact_sum (turned a (x v)) (sum_at-scaled x vs coefs q) ∙ sym (exact_product-sum (a ⊗ x v) (sum_at x vs coefs) q)
  where
    turned : (b y : Fraction) → b ⊗ q ⊗ y ≡ b ⊗ y ⊗ q
    turned b y = simp products

-- what is left of one of each two where f times the other is taken away
abbrev pub less_products : Fraction → List Fraction → List Fraction → List Fraction
less_products f [] others = []
less_products f (a ∷ coefs) [] = []
less_products f (a ∷ coefs) (b ∷ others) = (a ⊕ minus (f ⊗ b)) ∷ less_products f coefs others

pub length-less_products : (f : Fraction) (coefs others : List Fraction) → length others ≡ length coefs → length (less_products f coefs others) ≡ length coefs
length-less_products f [] others same = refl
length-less_products f (a ∷ coefs) [] same = absurd (omega (arith, same))
length-less_products f (a ∷ coefs) (b ∷ others) same = ap suc (length-less_products f coefs others (omega (arith, same)))

nothing : (f : Fraction) → zero_value ≡ zero_value ⊕ minus (f ⊗ zero_value)
nothing f = sym (ap (λ s. zero_value ⊕ minus s) (exact_product-zero_right f) ∙ minus-none zero_value apart_of-zero)

pub sum_at-less : (x : Point) (vs : List ℕ) (coefs others : List Fraction) (f : Fraction) → length others ≡ length coefs → sum_at x vs (less_products f coefs others) ≡ sum_at x vs coefs ⊕ minus (f ⊗ sum_at x vs others)
sum_at-less x [] coefs others f same = nothing f
sum_at-less x (v ∷ vs) [] [] f same = nothing f
sum_at-less x (v ∷ vs) [] (b ∷ others) f same = absurd (omega (arith, same))
sum_at-less x (v ∷ vs) (a ∷ coefs) [] f same = absurd (omega (arith, same))
sum_at-less x (v ∷ vs) (a ∷ coefs) (b ∷ others) f same =
    let rest = sum_at-less x vs coefs others f (omega (arith, same)) in
    ap₂ exact_sum (here a b (x v)) rest ∙ turned (a ⊗ x v) (f ⊗ (b ⊗ x v)) (sum_at x vs coefs) (f ⊗ sum_at x vs others)
    ∙ ap (λ s. (a ⊗ x v ⊕ sum_at x vs coefs) ⊕ minus s) (sym (exact_product-sum_right f (b ⊗ x v) (sum_at x vs others)))
  where
    here : (p q y : Fraction) → (p ⊕ minus (f ⊗ q)) ⊗ y ≡ p ⊗ y ⊕ minus (f ⊗ (q ⊗ y))
    here p q y = exact_product-sum p (minus (f ⊗ q)) y ∙ ap (λ s. p ⊗ y ⊕ s) (minus-product (f ⊗ q) y ∙ ap minus (exact_product_assoc f q y))

    turned : (p q r s : Fraction) → (p ⊕ minus q) ⊕ (r ⊕ minus s) ≡ (p ⊕ r) ⊕ minus (q ⊕ s)
    turned p q r s = simp sums
