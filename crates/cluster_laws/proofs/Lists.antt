-- More of how a filter goes with what is done to a list.
use Rattle.std.proofs.Common.{◌≡◌, refl, sym, ap, ◌∙◌, ◌+◌, ◌≤◌, Bool, true, false, List, [], ◌∷◌, length, map, Option, Some, None, cond, arith}
use Rattle.std.specs.Prelude.{filter, find}
use Rattle.table_defs.specs.Lists.{changed}

-- what is made of the items of a part
pub filter_map_filter : {A B : Type 0} (p : B → Bool) (q : A → Bool) (f : A → B) (xs : List A) → filter p (map f (filter q xs)) ≡ map f (filter q (filter (λ x. p (f x)) xs))
filter_map_filter p q f [] = refl
filter_map_filter p q f (x ∷ xs) = grind (arith, filter_map_filter p q f xs)

-- ---- one item of a kind

abbrev pub head_of : {A : Type 0} → List A → Option A
head_of [] = None
head_of (x ∷ xs) = Some x

pub find_head : {A : Type 0} (p : A → Bool) (xs : List A) → find p xs ≡ head_of (filter p xs)
find_head p [] = refl
find_head p (x ∷ xs) = grind (arith, find_head p xs)

pub some_same : {A : Type 0} (x y : A) → Some x ≡ Some y → x ≡ y
some_same x y h = cc

passes_by : {A : Type 0} (p : A → Bool) (y : A) (ys : List A) (x : A) (b : Bool) → p y ≡ b → cond b (Some y) (find p ys) ≡ Some x → (find p ys ≡ Some x → p x ≡ true) → p x ≡ true
passes_by p y ys x true is h later = ap p (sym (some_same y x h)) ∙ is
passes_by p y ys x false is h later = later h

pub found_passes : {A : Type 0} (p : A → Bool) (xs : List A) (x : A) → find p xs ≡ Some x → p x ≡ true
found_passes p [] x h = absurd (grind (arith, h))
found_passes p (y ∷ ys) x h = passes_by p y ys x (p y) refl h (found_passes p ys x)

pub none_changed : {A : Type 0} (test : A → Bool) (f : A → A) (xs : List A) → filter test xs ≡ [] → changed test f xs ≡ xs
none_changed test f [] h = refl
none_changed test f (x ∷ xs) h = grind (arith, h, none_changed test f xs)

pub no_length : {A : Type 0} (xs : List A) → length xs ≤ 0 → xs ≡ []
no_length [] h = refl
no_length (x ∷ xs) h = absurd (omega (arith, h))

one_fewer_by : {A : Type 0} (test p : A → Bool) (f : A → A) (y : A) (ys : List A) (x : A) (b : Bool) → length (cond b (y ∷ filter test ys) (filter test ys)) ≤ 1 → cond b (Some y) (find test ys) ≡ Some x → p x ≡ true → p (f x) ≡ false
    → (length (filter test ys) ≤ 1 → find test ys ≡ Some x → length (filter p (changed test f ys)) + 1 ≡ length (filter p ys))
    → length (filter p (cond b (f y) y ∷ changed test f ys)) + 1 ≡ length (filter p (y ∷ ys))
one_fewer_by test p f y ys x true one is on off later =
    let none : length (filter test ys) ≤ 0 = omega (arith, one) in
    let e : changed test f ys ≡ ys = none_changed test f ys (no_length (filter test ys) none) in
    let s : y ≡ x = cc in
    let a : p y ≡ true = ap p s ∙ on in
    let c : p (f y) ≡ false = ap (λ z. p (f z)) s ∙ off in
    rw (e, a, c) (omega arith)
one_fewer_by test p f y ys x false one is on off later = let h = later one is in grind (arith, h)

-- The one item that passes is changed, and is of the kind no longer.
pub one_fewer : {A : Type 0} (test p : A → Bool) (f : A → A) (xs : List A) (x : A) → length (filter test xs) ≤ 1 → find test xs ≡ Some x → p x ≡ true → p (f x) ≡ false → length (filter p (changed test f xs)) + 1 ≡ length (filter p xs)
one_fewer test p f [] x one is on off = absurd (grind (arith, is))
one_fewer test p f (y ∷ ys) x one is on off = one_fewer_by test p f y ys x (test y) one is on off (λ one is. one_fewer test p f ys x one is on off)
