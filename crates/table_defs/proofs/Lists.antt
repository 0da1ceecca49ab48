-- How a filter goes with what is done to a list.
use Rattle.std.proofs.Common.{length, ◌≤◌, arith, ◌≡◌, refl, ap, ◌∙◌, Bool, true, false, not, List, [], ◌∷◌, ◌++◌, None, cond, arith}
use Rattle.std.specs.Prelude.{filter, find}
use Rattle.std.proofs.lemmas.List.Elements.{filter-append}
use Rattle.table_defs.specs.Lists.{changed, each, put}

-- two filters in either order
pub filter_filter : {A : Type 0} (p q : A → Bool) (xs : List A) → filter p (filter q xs) ≡ filter q (filter p xs)
filter_filter p q [] = refl
filter_filter p q (x ∷ xs) = grind (arith, filter_filter p q xs)

-- what is looked for is among what is kept
pub find_filter : {A : Type 0} (p test : A → Bool) (within : (x : A) → test x ≡ true → p x ≡ true) (xs : List A) → find test (filter p xs) ≡ find test xs
find_filter p test within [] = refl
find_filter p test within (x ∷ xs) = grind (arith, within x, find_filter p test within xs)

-- what is left out is not of the part
pub filter_others : {A : Type 0} (p keep : A → Bool) (others : (x : A) → p x ≡ true → keep x ≡ true) (xs : List A) → filter p (filter keep xs) ≡ filter p xs
filter_others p keep others [] = refl
filter_others p keep others (x ∷ xs) = grind (arith, others x, filter_others p keep others xs)

-- the change leaves each item in its part
pub filter_changed : {A : Type 0} (p test : A → Bool) (f : A → A) (stays : (x : A) → p (f x) ≡ p x) (xs : List A) → filter p (changed test f xs) ≡ changed test f (filter p xs)
filter_changed p test f stays [] = refl
filter_changed p test f stays (x ∷ xs) = grind (arith, stays x, filter_changed p test f stays xs)

-- what is changed is not of the part
pub filter_changed_others : {A : Type 0} (p test : A → Bool) (f : A → A) (stays : (x : A) → p (f x) ≡ p x) (others : (x : A) → p x ≡ true → test x ≡ false) (xs : List A) → filter p (changed test f xs) ≡ filter p xs
filter_changed_others p test f stays others [] = refl
filter_changed_others p test f stays others (x ∷ xs) = grind (arith, stays x, others x, filter_changed_others p test f stays others xs)

pub append_nil : {A : Type 0} (xs : List A) → xs ++ [] ≡ xs
append_nil [] = refl
append_nil (x ∷ xs) = ap (λ (ys : List _). x ∷ ys) (append_nil xs)

each_then : {X A : Type 0} (f : X → A → A) (b : Bool) (x : X) (xs : List X) (a s : A) → (b ≡ true → s ≡ f x a) → (b ≡ false → s ≡ a) → each f xs s ≡ each f (cond b (x ∷ xs) xs) a
each_then f true x xs a s own other = ap (each f xs) (own refl)
each_then f false x xs a s own other = ap (each f xs) (other refl)

-- The part of what comes of a by all items is what comes of a's part by the items of that part.
pub each_part : {X A : Type 0} (f : X → A → A) (mine : X → Bool) (part : A → A) (own : (x : X) (a : A) → mine x ≡ true → part (f x a) ≡ f x (part a)) (other : (x : X) (a : A) → mine x ≡ false → part (f x a) ≡ part a) (xs : List X) (a : A) → part (each f xs a) ≡ each f (filter mine xs) (part a)
each_part f mine part own other [] a = refl
each_part f mine part own other (x ∷ xs) a = each_part f mine part own other xs (f x a) ∙ each_then f (mine x) x (filter mine xs) (part a) (part (f x a)) (own x a) (other x a)

pub push_own : {A : Type 0} (p : A → Bool) (x : A) → p x ≡ true → (xs : List A) → filter p (xs ++ x ∷ []) ≡ filter p xs ++ x ∷ []
push_own p x own xs = filter-append p xs (x ∷ []) ∙ ap (λ (b : Bool). filter p xs ++ cond b (x ∷ []) []) own

pub push_other : {A : Type 0} (p : A → Bool) (x : A) → p x ≡ false → (xs : List A) → filter p (xs ++ x ∷ []) ≡ filter p xs
push_other p x other xs = filter-append p xs (x ∷ []) ∙ (ap (λ (b : Bool). filter p xs ++ cond b (x ∷ []) []) other ∙ append_nil (filter p xs))

-- an item put in its place
pub put_own : {A : Type 0} (p test : A → Bool) (x : A) → p x ≡ true → (xs : List A) → filter p (put test x xs) ≡ put test x (filter p xs)
put_own p test x own xs = push_own p x own (filter (λ y. not (test y)) xs) ∙ ap (λ (ys : List _). ys ++ x ∷ []) (filter_filter p (λ y. not (test y)) xs)

pub put_other : {A : Type 0} (p test : A → Bool) (x : A) → p x ≡ false → ((y : A) → p y ≡ true → test y ≡ false) → (xs : List A) → filter p (put test x xs) ≡ filter p xs
put_other p test x other others xs = push_other p x other (filter (λ y. not (test y)) xs) ∙ filter_others p (λ y. not (test y)) (λ y own. ap not (others y own)) xs

pub find_push : {A : Type 0} (test : A → Bool) (x : A) (xs : List A) → find test xs ≡ None → find test (xs ++ x ∷ []) ≡ find test (x ∷ [])
find_push test x [] none = refl
find_push test x (y ∷ ys) none = grind (arith, none, find_push test x ys)

pub filter_push : {A : Type 0} (p : A → Bool) (xs : List A) (x : A) (b : Bool) → p x ≡ b → filter p (xs ++ x ∷ []) ≡ filter p xs ++ cond b (x ∷ []) []
filter_push p xs x b is = filter-append p xs (x ∷ []) ∙ ap (λ (c : Bool). filter p xs ++ cond c (x ∷ []) []) is

pub none_filter : {A : Type 0} (p : A → Bool) (xs : List A) → find p xs ≡ None → filter p xs ≡ []
none_filter p [] h = refl
none_filter p (x ∷ xs) h = grind (arith, h, none_filter p xs)

pub fewer : {A : Type 0} (p : A → Bool) (xs : List A) → length (filter p xs) ≤ length xs
fewer p [] = omega arith
fewer p (x ∷ xs) = grind (arith, fewer p xs)
