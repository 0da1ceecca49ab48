-- The looks of a leaf as sums over the model's rows and bounds.
use Rattle.std.specs.Prelude.{◌*ℤ◌, slice_get}
use Rattle.std.specs.Ordering.{MatchOrdering, is_eq}
use Rattle.std.proofs.Common.{◌≡◌, ◌∙◌, refl, sym, ap, ap₂, subst, ℕ, zero, suc, ◌+◌, ◌<◌, ◌==◌, Bool, true, false, cond, List, [], ◌∷◌, length, drop, All, Some, None, IsTrue, Ordering, Less, Equal, Greater, pos, arith, eq-eqb, ne_eqb}
use Rattle.std.proofs.lemmas.Bool.Decides.{Decides-int_eq}
use Rattle.std.proofs.lemmas.Int.{ints}
use Rattle.std.proofs.lemmas.List.Elements.{All-cons, All-head, All-nil, All-tail}
use Rattle.frac128.specs.Fraction.{Fraction, den, zero_value}
use Rattle.frac128.specs.Order.{IsAtMost, IsBelow, order_of}
use Rattle.frac128.specs.Lowest.{IsInLowestTerms}
use Rattle.frac128.proofs.Field.{apart_of-sum, apart_of-zero, exact_product-zero_left, exact_sum-zero_left, exact_sum_comm}
use Rattle.frac128.proofs.Ordered.{IsAtMost_antisymm, IsAtMost_trans, IsBelow-not, order_of-tells}
use Rattle.frac128.proofs.Sums.{no_zeros, of_some, total, ◌⊕◌, ◌⊗◌}
use Rattle.model_data.specs.declared.solution.Weight.{Weight}
use Rattle.solve_defs.specs.Certificates.{share}
use Rattle.solve_defs.specs.Looks.{Step}
use Rattle.solve_defs.specs.StandardForm.{numbered}
use Rattle.solve_defs.specs.Values.{is_same, is_zero, value_at}
use Rattle.solve_defs.proofs.FormQuotients.{at_most_lowest, lowest_at_most, zero-product}
use Rattle.solve_defs.proofs.LeafSums.{amount}

-- ---- what is shown of two values

pub show_same : (x y : Fraction) → IsAtMost x y → IsAtMost y x → IsTrue (is_same x y)
show_same x y h back = told (order_of x y) (order_of-tells x y)
  where
    told : (r : Ordering) → MatchOrdering r (IsBelow x y) (x.num *ℤ pos (den y) ≡ y.num *ℤ pos (den x)) (IsBelow y x) → IsTrue (is_eq r)
    told Less k = absurd (IsBelow-not x y k back)
    told Equal k = refl
    told Greater k = absurd (IsBelow-not y x k h)

-- one value in lowest terms
pub same_at_most : (x y : Fraction) → zero_value ⊕ x ≡ zero_value ⊕ y → IsAtMost x y
same_at_most x y same = IsAtMost_trans x (zero_value ⊕ x) y (at_most_lowest x) (subst (λ z. IsAtMost z y) (sym same) (lowest_at_most y))

-- ---- weights by number

zero_of : (x : Fraction) → is_zero x ≡ true → x.num ≡ pos 0
zero_of x h = (Decides-int_eq x.num (pos 0)).0 h

-- a value of 0
pub none_low : (x : Fraction) → x.num ≡ pos 0 → zero_value ⊕ x ≡ zero_value
none_low x none =
    IsAtMost_antisymm (zero_value ⊕ x) zero_value (apart_of-sum zero_value x) apart_of-zero
    (IsAtMost_trans (zero_value ⊕ x) x zero_value (lowest_at_most x) record { at_most = omega (arith, ints, none) })
    (IsAtMost_trans zero_value x (zero_value ⊕ x) record { at_most = omega (arith, ints, none) } (at_most_lowest x))

pub none_times : (x y : Fraction) → x.num ≡ pos 0 → x ⊗ y ≡ zero_value
none_times x y none = sym (zero-product x y) ∙ ap (λ t. t ⊗ y) (none_low x none) ∙ exact_product-zero_left y

counted : (Weight → Fraction) → ℕ → List Fraction → Fraction
counted f n [] = zero_value
counted f n (x ∷ xs) = f record { place = n; weight = x } ⊕ counted f (suc n) xs

counted_low : (f : Weight → Fraction) (n : ℕ) (xs : List Fraction) → IsInLowestTerms (counted f n xs)
unfolding counted
counted_low f n [] = apart_of-zero
counted_low f n (x ∷ xs) = apart_of-sum _ _

-- Those of 0 are left out, and count for nothing.
numbered_total : (P : Fraction → Type 0) (f : Weight → Fraction) (n : ℕ) (xs : List Fraction) → All P xs → ((place : ℕ) (x : Fraction) → P x → x.num ≡ pos 0 → f record { place = place; weight = x } ≡ zero_value) → total f (numbered n xs) ≡ counted f n xs
unfolding counted
numbered_total P f n [] all none = refl
numbered_total P f n (x ∷ xs) all none = by_test (numbered_total P f (suc n) xs (All-tail P x xs all) none) (is_zero x) refl
  where
    by_test : total f (numbered (suc n) xs) ≡ counted f (suc n) xs → (b : Bool) → is_zero x ≡ b
        → total f (cond b (numbered (suc n) xs) (record { place = n; weight = x } ∷ numbered (suc n) xs)) ≡ f record { place = n; weight = x } ⊕ counted f (suc n) xs
    by_test rest true is = rest ∙ sym (ap (λ t. t ⊕ counted f (suc n) xs) (none n x (All-head P x xs all) (zero_of x is)) ∙ exact_sum-zero_left (counted f (suc n) xs) (counted_low f (suc n) xs))
    by_test rest false is = ap (λ t. f record { place = n; weight = x } ⊕ t) rest

-- ---- weights of items

abbrev pub items_total : {A : Type 0} → (A → Fraction → Fraction) → List A → List Fraction → Fraction
items_total part [] ws = zero_value
items_total part (a ∷ items) [] = zero_value
items_total part (a ∷ items) (w ∷ ws) = part a w ⊕ items_total part items ws

get_drop : {A : Type 0} (all : List A) (r : ℕ) (a : A) (items : List A) → drop r all ≡ a ∷ items → (slice_get all r ≡ Some a) × (drop (suc r) all ≡ items)
get_drop [] zero a items e = absurd cc
get_drop [] (suc r) a items e = absurd cc
get_drop (x ∷ xs) zero a items e = (cc, cc)
get_drop (x ∷ xs) (suc r) a items e = get_drop xs r a items e

counted_items : {A : Type 0} (f : Weight → Fraction) (part : A → Fraction → Fraction) (all : List A) (r : ℕ) (items : List A) (ws : List Fraction) → drop r all ≡ items → length ws ≡ length items
    → ((k : ℕ) (a : A) (w : Fraction) → slice_get all k ≡ Some a → f record { place = suc k; weight = w } ≡ part a w) → counted f (suc r) ws ≡ items_total part items ws
unfolding counted
counted_items f part all r [] [] at same has = refl
counted_items f part all r [] (w ∷ ws) at same has = absurd (omega (arith, same))
counted_items f part all r (a ∷ items) [] at same has = absurd (omega (arith, same))
counted_items f part all r (a ∷ items) (w ∷ ws) at same has =
    let here = get_drop all r a items at in
    ap₂ (λ p q. p ⊕ q) (has r a w here.0) (counted_items f part all (suc r) items ws here.1 (omega (arith, same)) has)

pub numbered_items : {A : Type 0} (f : Weight → Fraction) (part : A → Fraction → Fraction) (all : List A) (ws : List Fraction) → length ws ≡ length all
    → ((place : ℕ) (x : Fraction) → x.num ≡ pos 0 → f record { place = place; weight = x } ≡ zero_value)
    → ((k : ℕ) (a : A) (w : Fraction) → slice_get all k ≡ Some a → f record { place = suc k; weight = w } ≡ part a w) → total f (numbered 1 ws) ≡ items_total part all ws
numbered_items f part all ws same none has = numbered_total (λ x. Unit {0}) f 1 ws (λ k e within. tt) (λ place x low. none place x) ∙ counted_items f part all 0 all ws refl same has

-- ---- one variable's share

share_here : (step : Fraction → Step) (j : ℕ) (x : Fraction) → of_some amount (share step j record { place = j; weight = x }) ≡ amount (step x)
share_here step j x = ap (λ b. of_some amount (cond b (Some (step x)) None)) (eq-eqb j j refl)

share_apart : (step : Fraction → Step) (j k : ℕ) (x : Fraction) → (k ≡ j → ⊥) → of_some amount (share step j record { place = k; weight = x }) ≡ zero_value
share_apart step j k x other = ap (λ b. of_some amount (cond b (Some (step x)) None)) (ne_eqb k j other)

counted_past : (step : Fraction → Step) (j n : ℕ) (ws : List Fraction) → j < n → counted (λ w. of_some amount (share step j w)) n ws ≡ zero_value
unfolding counted
counted_past step j n [] past = refl
counted_past step j n (x ∷ xs) past = ap₂ (λ p q. p ⊕ q) (share_apart step j n x (λ e. omega (arith, e, past))) (counted_past step j (suc n) xs (omega (arith, past))) ∙ sym no_zeros

counted_share : (step : Fraction → Step) (n d : ℕ) (ws : List Fraction) → d < length ws → counted (λ w. of_some amount (share step (n + d) w)) n ws ≡ zero_value ⊕ amount (step (value_at ws d))
unfolding counted
counted_share step n d [] within = absurd (omega (arith, within))
counted_share step n zero (x ∷ xs) within =
    let same : n + 0 ≡ n = omega arith in
    ap₂ (λ p q. p ⊕ q) (ap (λ j. of_some amount (share step j record { place = n; weight = x })) same ∙ share_here step n x) (counted_past step (n + 0) (suc n) xs (omega arith))
    ∙ exact_sum_comm (amount (step x)) zero_value
counted_share step n (suc d) (x ∷ xs) within =
    let next : n + suc d ≡ suc n + d = omega arith in
    ap₂ (λ p q. p ⊕ q) (share_apart step (n + suc d) n x (λ e. omega (arith, e))) (ap (λ j. counted (λ w. of_some amount (share step j w)) (suc n) xs) next ∙ counted_share step (suc n) d xs (omega (arith, within)))
    ∙ exact_sum-zero_left (zero_value ⊕ amount (step (value_at xs d))) (apart_of-sum zero_value (amount (step (value_at xs d))))

pub numbered_share : (step : Fraction → Step) (j : ℕ) (ws : List Fraction) → j < length ws → All IsInLowestTerms ws → amount (step zero_value) ≡ zero_value
    → total (λ w. of_some amount (share step (suc j) w)) (numbered 1 ws) ≡ zero_value ⊕ amount (step (value_at ws j))
numbered_share step j ws within low none =
    let next : suc j ≡ 1 + j = omega arith in
    numbered_total IsInLowestTerms (λ w. of_some amount (share step (suc j) w)) 1 ws low (λ place x low_x is_none. of_test (place == suc j) x (ap (λ y. amount (step y)) (sym (exact_sum-zero_left x low_x) ∙ none_low x is_none) ∙ none))
    ∙ ap (λ k. counted (λ w. of_some amount (share step k w)) 1 ws) next ∙ counted_share step 1 j ws within
  where
    of_test : (b : Bool) (x : Fraction) → amount (step x) ≡ zero_value → of_some amount (cond b (Some (step x)) None) ≡ zero_value
    of_test true x h = h
    of_test false x h = refl

-- ---- what holds of each weight

abbrev pub EachItem : {A : Type 0} → (A → Fraction → Type 0) → List A → List Fraction → Type 0
EachItem P [] ws = Unit {0}
EachItem P (a ∷ items) [] = Unit {0}
EachItem P (a ∷ items) (w ∷ ws) = P a w × EachItem P items ws

numbered_each : {A : Type 0} (P : A → Fraction → Type 0) (Q : Weight → Type 0) (all : List A) (r : ℕ) (items : List A) (ws : List Fraction) → drop r all ≡ items → length ws ≡ length items → EachItem P items ws
    → ((k : ℕ) (a : A) (w : Fraction) → slice_get all k ≡ Some a → is_zero w ≡ false → P a w → Q record { place = suc k; weight = w }) → All Q (numbered (suc r) ws)
numbered_each P Q all r items [] at same each has = All-nil Q
numbered_each P Q all r [] (w ∷ ws) at same each has = absurd (omega (arith, same))
numbered_each P Q all r (a ∷ items) (w ∷ ws) at same each has =
    let here = get_drop all r a items at in
    by_test here.0 (numbered_each P Q all (suc r) items ws here.1 (omega (arith, same)) each.1 has) (is_zero w) refl
  where
    by_test : slice_get all r ≡ Some a → All Q (numbered (suc (suc r)) ws) → (b : Bool) → is_zero w ≡ b → All Q (cond b (numbered (suc (suc r)) ws) (record { place = suc r; weight = w } ∷ numbered (suc (suc r)) ws))
    by_test at_a rest true is = rest
    by_test at_a rest false is = All-cons Q record { place = suc r; weight = w } (numbered (suc (suc r)) ws) (has r a w at_a is each.0) rest

pub numbered_all : {A : Type 0} (P : A → Fraction → Type 0) (Q : Weight → Type 0) (all : List A) (ws : List Fraction) → length ws ≡ length all → EachItem P all ws
    → ((k : ℕ) (a : A) (w : Fraction) → slice_get all k ≡ Some a → is_zero w ≡ false → P a w → Q record { place = suc k; weight = w }) → All Q (numbered 1 ws)
numbered_all P Q all ws same each has = numbered_each P Q all 0 all ws refl same each has
