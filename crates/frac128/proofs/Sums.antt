-- Sums of exact fractions: their order, their negations, and sums over lists: two at once, times a factor, in either order,
-- and one that is at most another.
use Rattle.std.proofs.Common.{◌≡◌, refl, sym, ◌∙◌, ap, ap₂, List, [], ◌∷◌, ◌++◌, map}
use Rattle.std.specs.Prelude.{All, filter_map, Option, Some, None}
use Rattle.std.specs.List.{cons_option}
use Rattle.std.proofs.lemmas.List.Elements.{All-head, All-tail}
use Rattle.frac128.specs.Fraction.{Fraction, exact_product, exact_sum, negation, zero_value}
use Rattle.frac128.specs.Lowest.{IsInLowestTerms}
use Rattle.frac128.specs.Order.{IsAtMost}
use Rattle.frac128.proofs.Field.{apart_of-sum, apart_of-zero, exact_product-negation_left, exact_product-negation_right, exact_product-sum, exact_product-sum_right, exact_product-zero_left, exact_product-zero_right, exact_product_assoc, exact_product_comm, exact_sum-negation, exact_sum-zero_left, exact_sum-zero_right, exact_sum_assoc, exact_sum_comm, negation-negation, negation-sum}
use Rattle.frac128.proofs.Ordered.{IsAtMost-self, IsAtMost-sums}

infixl 60 ◌⊕◌
abbrev pub ◌⊕◌ : Fraction → Fraction → Fraction
x ⊕ y = exact_sum x y

infixl 70 ◌⊗◌
abbrev pub ◌⊗◌ : Fraction → Fraction → Fraction
x ⊗ y = exact_product x y

-- the negation, shut
pub minus : Fraction → Fraction
minus x = negation x

pub minus_is : (x : Fraction) → minus x ≡ negation x
unfolding minus
minus_is x = refl

pub sum_left_comm : (x y z : Fraction) → x ⊕ (y ⊕ z) ≡ y ⊕ (x ⊕ z)
sum_left_comm x y z = sym (exact_sum_assoc x y z) ∙ ap (λ s. s ⊕ z) (exact_sum_comm x y) ∙ exact_sum_assoc y x z

pub minus-sum : (x y : Fraction) → minus (x ⊕ y) ≡ minus x ⊕ minus y
unfolding minus
minus-sum x y = negation-sum x y

pub minus-minus : (x : Fraction) → minus (minus x) ≡ x
unfolding minus
minus-minus x = negation-negation x

pub sum-minus : (x : Fraction) → x ⊕ minus x ≡ zero_value
unfolding minus
sum-minus x = exact_sum-negation x

pub minus-product : (x y : Fraction) → minus x ⊗ y ≡ minus (x ⊗ y)
unfolding minus
minus-product x y = exact_product-negation_left x y

pub product-minus : (x y : Fraction) → x ⊗ minus y ≡ minus (x ⊗ y)
unfolding minus
product-minus x y = exact_product-negation_right x y

pub minus-none : (x : Fraction) → IsInLowestTerms x → x ⊕ minus zero_value ≡ x
unfolding minus
minus-none x low = exact_sum-zero_right x low

pub product_left_comm : (x y z : Fraction) → x ⊗ (y ⊗ z) ≡ y ⊗ (x ⊗ z)
product_left_comm x y z = sym (exact_product_assoc x y z) ∙ ap (λ s. s ⊗ z) (exact_product_comm x y) ∙ exact_product_assoc y x z

-- for `simp`: sums of values and their negations, sorted
pub ruleset sums = (exact_sum_assoc, exact_sum_comm, sum_left_comm, minus-sum, minus-minus)

pub ruleset products = (exact_product_assoc, exact_product_comm, product_left_comm)

-- (a + b) + (c + d) = (a + c) + (b + d)
pub interchange : (a b c d : Fraction) → (a ⊕ b) ⊕ (c ⊕ d) ≡ (a ⊕ c) ⊕ (b ⊕ d)
interchange a b c d =
    exact_sum_assoc a b (c ⊕ d)
    ∙ ap (λ s. a ⊕ s) (sym (exact_sum_assoc b c d) ∙ ap (λ s. s ⊕ d) (exact_sum_comm b c) ∙ exact_sum_assoc c b d)
    ∙ sym (exact_sum_assoc a c (b ⊕ d))

pub no_zeros : zero_value ≡ zero_value ⊕ zero_value
no_zeros = sym (exact_sum-zero_left zero_value apart_of-zero)

-- ---- over lists

-- the sum of what a function gives for each
abbrev pub total : {A : Type 0} → (A → Fraction) → List A → Fraction
total f [] = zero_value
total f (a ∷ xs) = f a ⊕ total f xs

pub total_low : {A : Type 0} (f : A → Fraction) (xs : List A) → IsInLowestTerms (total f xs)
total_low f [] = apart_of-zero
total_low f (a ∷ xs) = apart_of-sum (f a) (total f xs)

pub total-same : {A : Type 0} (f g : A → Fraction) (xs : List A) → ((a : A) → f a ≡ g a) → total f xs ≡ total g xs
total-same f g [] same = refl
total-same f g (a ∷ xs) same = ap₂ exact_sum (same a) (total-same f g xs same)

pub total-zero : {A : Type 0} (xs : List A) → total (λ a. zero_value) xs ≡ zero_value
total-zero [] = refl
total-zero (a ∷ xs) = ap (λ s. zero_value ⊕ s) (total-zero xs) ∙ sym no_zeros

pub total-plus : {A : Type 0} (f g : A → Fraction) (xs : List A) → total (λ a. f a ⊕ g a) xs ≡ total f xs ⊕ total g xs
total-plus f g [] = no_zeros
total-plus f g (a ∷ xs) = ap (λ s. f a ⊕ g a ⊕ s) (total-plus f g xs) ∙ interchange (f a) (g a) (total f xs) (total g xs)

pub total-product : {A : Type 0} (f : A → Fraction) (xs : List A) (y : Fraction) → total f xs ⊗ y ≡ total (λ a. f a ⊗ y) xs
total-product f [] y = exact_product-zero_left y
total-product f (a ∷ xs) y = exact_product-sum (f a) (total f xs) y ∙ ap (λ s. f a ⊗ y ⊕ s) (total-product f xs y)

pub product-total : {A : Type 0} (y : Fraction) (f : A → Fraction) (xs : List A) → y ⊗ total f xs ≡ total (λ a. y ⊗ f a) xs
product-total y f [] = exact_product-zero_right y
product-total y f (a ∷ xs) = exact_product-sum_right y (f a) (total f xs) ∙ ap (λ s. y ⊗ f a ⊕ s) (product-total y f xs)

-- A sum of sums is the same the other way round.
pub total-exchange : {A B : Type 0} (f : A → B → Fraction) (xs : List A) (bs : List B) → total (λ b. total (λ a. f a b) xs) bs ≡ total (λ a. total (f a) bs) xs
total-exchange f xs [] = sym (total-zero xs)
total-exchange f xs (b ∷ bs) =
    ap (λ s. total (λ a. f a b) xs ⊕ s) (total-exchange f xs bs) ∙ sym (total-plus (λ a. f a b) (λ a. total (f a) bs) xs)

pub total-at_most : {A : Type 0} (f g : A → Fraction) (xs : List A) → All (λ a. IsAtMost (f a) (g a)) xs → IsAtMost (total f xs) (total g xs)
total-at_most f g [] each = IsAtMost-self zero_value
total-at_most f g (a ∷ xs) each =
    IsAtMost-sums (f a) (g a) (total f xs) (total g xs) (All-head (λ b. IsAtMost (f b) (g b)) a xs each)
    (total-at_most f g xs (All-tail (λ b. IsAtMost (f b) (g b)) a xs each))

pub total-append : {A : Type 0} (f : A → Fraction) (xs bs : List A) → total f (xs ++ bs) ≡ total f xs ⊕ total f bs
total-append f [] bs = sym (exact_sum-zero_left (total f bs) (total_low f bs))
total-append f (a ∷ xs) bs = ap (λ s. f a ⊕ s) (total-append f xs bs) ∙ sym (exact_sum_assoc (f a) (total f xs) (total f bs))

pub total-map : {A B : Type 0} (f : B → Fraction) (h : A → B) (xs : List A) → total f (map h xs) ≡ total (λ a. f (h a)) xs
total-map f h [] = refl
total-map f h (a ∷ xs) = ap (λ s. f (h a) ⊕ s) (total-map f h xs)

-- 0 where there is nothing
abbrev pub of_some : {B : Type 0} → (B → Fraction) → Option B → Fraction
of_some f None = zero_value
of_some f (Some b) = f b

with_option : {B : Type 0} (f : B → Fraction) (o : Option B) (bs : List B) → total f (cons_option o bs) ≡ of_some f o ⊕ total f bs
with_option f None bs = sym (exact_sum-zero_left (total f bs) (total_low f bs))
with_option f (Some b) bs = refl

pub total-filter_map : {A B : Type 0} (f : B → Fraction) (h : A → Option B) (xs : List A) → total f (filter_map h xs) ≡ total (λ a. of_some f (h a)) xs
total-filter_map f h [] = refl
total-filter_map f h (a ∷ xs) = with_option f (h a) (filter_map h xs) ∙ ap (λ s. of_some f (h a) ⊕ s) (total-filter_map f h xs)
