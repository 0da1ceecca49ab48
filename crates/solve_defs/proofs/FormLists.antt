-- What holds of each element of a list, one element at a time.
use Rattle.std.proofs.Common.{◌≡◌, refl, sym, ℕ, zero, suc, ◌<◌, List, [], ◌∷◌, ◌++◌, drop, length, map, slice_index_or, arith}
use Rattle.std.specs.Prelude.{All, AllPairs}

abbrev pub Each : {A : Type 0} → (A → Type 0) → List A → Type 0
Each P [] = Unit {0}
Each P (x ∷ xs) = P x × Each P xs

pub each_from_all : {A : Type 0} (P : A → Type 0) (xs : List A) → All P xs → Each P xs
each_from_all P [] h = tt
each_from_all P (x ∷ xs) h = (h 0 x (omega arith), each_from_all P xs (λ k d below. h (suc k) d (omega (arith, below))))

pub all_from_each : {A : Type 0} (P : A → Type 0) (xs : List A) → Each P xs → All P xs
all_from_each P [] h k d below = absurd (omega (arith, below))
all_from_each P (x ∷ xs) h zero d below = h.0
all_from_each P (x ∷ xs) h (suc k) d below = all_from_each P xs h.1 k d (omega (arith, below))

pub each-append : {A : Type 0} (P : A → Type 0) (xs ys : List A) → Each P xs → Each P ys → Each P (xs ++ ys)
each-append P [] ys h k = k
each-append P (x ∷ xs) ys h k = (h.0, each-append P xs ys h.1 k)

pub each_left : {A : Type 0} (P : A → Type 0) (xs ys : List A) → Each P (xs ++ ys) → Each P xs
each_left P [] ys h = tt
each_left P (x ∷ xs) ys h = (h.0, each_left P xs ys h.1)

pub each_right : {A : Type 0} (P : A → Type 0) (xs ys : List A) → Each P (xs ++ ys) → Each P ys
each_right P [] ys h = h
each_right P (x ∷ xs) ys h = each_right P xs ys h.1

-- each pair's first is the first one
pub pairs_head : {A : Type 0} (R : A → A → Type 0) (x : A) (xs : List A) → AllPairs R (x ∷ xs) → Each (R x) xs
pairs_head R x xs h = each_from_all (R x) xs (λ k d below. h 0 (suc k) d (omega arith) (omega (arith, below)))

pub pairs_tail : {A : Type 0} (R : A → A → Type 0) (x : A) (xs : List A) → AllPairs R (x ∷ xs) → AllPairs R xs
pairs_tail R x xs h = λ i j d low high. h (suc i) (suc j) d (omega (arith, low)) (omega (arith, high))

-- the place at which a rest of a list begins
pub at_drop : {A : Type 0} (ys : List A) (k : ℕ) (d z : A) (zs : List A) → drop k ys ≡ z ∷ zs → (slice_index_or ys k d ≡ z) × (drop (suc k) ys ≡ zs) × (k < length ys)
at_drop [] zero d z zs e = absurd cc
at_drop [] (suc k) d z zs e = absurd cc
at_drop (y ∷ ys) zero d z zs e = (cc, cc, omega arith)
at_drop (y ∷ ys) (suc k) d z zs e = let rest = at_drop ys k d z zs e in (rest.0, rest.1, omega (arith, rest.2))

pub index-map : {A B : Type 0} (f : A → B) (xs : List A) (k : ℕ) (d : A) (e : B) → f d ≡ e → slice_index_or (map f xs) k e ≡ f (slice_index_or xs k d)
index-map f [] k d e same = sym same
index-map f (x ∷ xs) zero d e same = refl
index-map f (x ∷ xs) (suc k) d e same = index-map f xs k d e same
