-- Sums over a list, when items are left out or changed.
use Rattle.std.proofs.Common.{◌≡◌, refl, sym, ap, ◌∙◌, ℕ, ◌+◌, ◌*◌, ◌≤◌, Bool, true, false, List, [], ◌∷◌, length, Some, cond, arith}
use Rattle.std.specs.Prelude.{filter, find, sum_by}
use Rattle.std.proofs.lemmas.List.Sums.{sum_by-cons}
use Rattle.table_defs.specs.Lists.{changed}
use Rattle.cluster_laws.proofs.Lists.{no_length, none_changed}

filter_by : {A : Type 0} (w : A → ℕ) (p : A → Bool) (x : A) (xs : List A) (b : Bool) → sum_by w (filter p xs) ≤ sum_by w xs → sum_by w (cond b (x ∷ filter p xs) (filter p xs)) ≤ sum_by w (x ∷ xs)
filter_by w p x xs true h = let a = sum_by-cons w x (filter p xs) in let b = sum_by-cons w x xs in omega (arith, a, b, h)
filter_by w p x xs false h = let b = sum_by-cons w x xs in omega (arith, b, h)

pub sum_filter : {A : Type 0} (w : A → ℕ) (p : A → Bool) (xs : List A) → sum_by w (filter p xs) ≤ sum_by w xs
sum_filter w p [] = omega arith
sum_filter w p (x ∷ xs) = filter_by w p x xs (p x) (sum_filter w p xs)

pub sum_each : {A : Type 0} (w v : A → ℕ) → ((x : A) → w x ≤ v x) → (xs : List A) → sum_by w xs ≤ sum_by v xs
sum_each w v le [] = omega arith
sum_each w v le (x ∷ xs) = let a = sum_by-cons w x xs in let b = sum_by-cons v x xs in let h = sum_each w v le xs in let c = le x in omega (arith, a, b, c, h)

pub sum_length : {A : Type 0} (w : A → ℕ) (n : ℕ) → ((x : A) → n ≤ w x) → (xs : List A) → n * length xs ≤ sum_by w xs
sum_length w n le [] = omega arith
sum_length w n le (x ∷ xs) = let a = sum_by-cons w x xs in let h = sum_length w n le xs in let c = le x in omega (arith, a, c, h)

changed_by : {A : Type 0} (w : A → ℕ) (f : A → A) (x : A) (xs ys : List A) (b : Bool) (m : ℕ) → w (f x) ≤ w x + m → sum_by w ys ≤ sum_by w xs → sum_by w (cond b (f x) x ∷ ys) ≤ sum_by w (x ∷ xs) + m
changed_by w f x xs ys true m le h = let a = sum_by-cons w (f x) ys in let b = sum_by-cons w x xs in omega (arith, a, b, le, h)
changed_by w f x xs ys false m le h = let a = sum_by-cons w x ys in let b = sum_by-cons w x xs in omega (arith, a, b, h)

le_more : (a b : ℕ) → a ≤ b → a ≤ b + 0
le_more a b h = omega (arith, h)

pub sum_changed : {A : Type 0} (w : A → ℕ) (test : A → Bool) (f : A → A) → ((x : A) → w (f x) ≤ w x) → (xs : List A) → sum_by w (changed test f xs) ≤ sum_by w xs
sum_changed w test f le [] = omega arith
sum_changed w test f le (x ∷ xs) = let h = changed_by w f x xs (changed test f xs) (test x) 0 (le_more (w (f x)) (w x) (le x)) (sum_changed w test f le xs) in omega (arith, h)

one_by : {A : Type 0} (w : A → ℕ) (test : A → Bool) (f : A → A) (x : A) (xs : List A) (b : Bool) (m : ℕ) → length (cond b (x ∷ filter test xs) (filter test xs)) ≤ 1 → ((y : A) → cond b (Some x) (find test xs) ≡ Some y → w (f y) ≤ w y + m)
    → (length (filter test xs) ≤ 1 → ((y : A) → find test xs ≡ Some y → w (f y) ≤ w y + m) → sum_by w (changed test f xs) ≤ sum_by w xs + m) → sum_by w (cond b (f x) x ∷ changed test f xs) ≤ sum_by w (x ∷ xs) + m
one_by w test f x xs true m one le later =
    let none : length (filter test xs) ≤ 0 = omega (arith, one) in
    let e : sum_by w (changed test f xs) ≡ sum_by w xs = ap (sum_by w) (none_changed test f xs (no_length (filter test xs) none)) in
    let a = sum_by-cons w (f x) (changed test f xs) in let b = sum_by-cons w x xs in let c = le x refl in omega (arith, e, a, b, c)
one_by w test f x xs false m one le later = let a = sum_by-cons w x (changed test f xs) in let b = sum_by-cons w x xs in let h = later one le in omega (arith, a, b, h)

-- where one item at most is changed
pub sum_one : {A : Type 0} (w : A → ℕ) (test : A → Bool) (f : A → A) (xs : List A) (m : ℕ) → length (filter test xs) ≤ 1 → ((y : A) → find test xs ≡ Some y → w (f y) ≤ w y + m) → sum_by w (changed test f xs) ≤ sum_by w xs + m
sum_one w test f [] m one le = omega arith
sum_one w test f (x ∷ xs) m one le = one_by w test f x xs (test x) m one le (λ one le. sum_one w test f xs m one le)

-- ---- how many are of a kind

abbrev pub one_of_kind : {A : Type 0} → (A → Bool) → A → ℕ
one_of_kind p x = cond (p x) 1 0

count_by : {A : Type 0} (p : A → Bool) (x : A) (xs : List A) (b : Bool) → length (filter p xs) ≡ sum_by (one_of_kind p) xs → length (cond b (x ∷ filter p xs) (filter p xs)) ≡ cond b 1 0 + sum_by (one_of_kind p) xs
count_by p x xs true h = omega (arith, h)
count_by p x xs false h = omega (arith, h)

pub count_is : {A : Type 0} (p : A → Bool) (xs : List A) → length (filter p xs) ≡ sum_by (one_of_kind p) xs
count_is p [] = refl
count_is p (x ∷ xs) = count_by p x xs (p x) (count_is p xs) ∙ sym (sum_by-cons (one_of_kind p) x xs)

at_most_one : (b : Bool) (n : ℕ) → cond b 1 0 ≤ n + 1
at_most_one true n = omega arith
at_most_one false n = omega arith

none_of : (b : Bool) (n : ℕ) → b ≡ false → cond b 1 0 ≤ n
none_of true n h = absurd (grind (arith, h))
none_of false n h = omega arith

pub fewer_changed : {A : Type 0} (p test : A → Bool) (f : A → A) → ((x : A) → p (f x) ≡ false) → (xs : List A) → length (filter p (changed test f xs)) ≤ length (filter p xs)
fewer_changed p test f off xs = let h = sum_changed (one_of_kind p) test f (λ x. none_of (p (f x)) _ (off x)) xs in let a = count_is p (changed test f xs) in let b = count_is p xs in omega (arith, a, b, h)

pub one_more : {A : Type 0} (p test : A → Bool) (f : A → A) (xs : List A) → length (filter test xs) ≤ 1 → length (filter p (changed test f xs)) ≤ length (filter p xs) + 1
one_more p test f xs one = let h = sum_one (one_of_kind p) test f xs 1 one (λ y is. at_most_one (p (f y)) (one_of_kind p y)) in let a = count_is p (changed test f xs) in let b = count_is p xs in omega (arith, a, b, h)
