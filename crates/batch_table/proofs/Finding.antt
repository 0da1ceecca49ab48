-- What stands at the place at which a test passes, where it passes at no other, and what a change there does.
use Rattle.std.proofs.Common.{◌≡◌, ap, refl, ℕ, zero, suc, ◌<◌, ◌≤◌, Bool, true, false, List, [], ◌∷◌, length, Some, None, arith, get_or, set}
use Rattle.std.specs.Prelude.{filter, find}
use Rattle.table_defs.proofs.Names.{bool_off}
use Rattle.table_defs.specs.Lists.{changed}

one_passes : {A : Type 0} (test : A → Bool) (xs : List A) (i : ℕ) (d : A) → i < length xs → test (get_or xs i d) ≡ true → 1 ≤ length (filter test xs)
one_passes test [] i d there is = absurd (omega arith)
one_passes test (x ∷ xs) zero d there is = rw is (omega arith)
one_passes test (x ∷ xs) (suc i) d there is = grind (arith, one_passes test xs i d (omega arith) is)

-- what stands before the one that passes does not
fails_before : {A : Type 0} (test : A → Bool) (x : A) (xs : List A) (i : ℕ) (d : A) → i < length xs → test (get_or xs i d) ≡ true → length (filter test (x ∷ xs)) ≤ 1 → test x ≡ false
fails_before test x xs i d there is one = bool_off (test x) (λ passes.
    let rest : length (filter test xs) ≤ 0 = grind (arith, passes, one) in
    let some = one_passes test xs i d there is in omega (arith, rest, some))

fewer_behind : {A : Type 0} (test : A → Bool) (x : A) (xs : List A) → test x ≡ false → length (filter test (x ∷ xs)) ≤ 1 → length (filter test xs) ≤ 1
fewer_behind test x xs off one = grind (arith, off, one)

pub find_at : {A : Type 0} (test : A → Bool) (xs : List A) (i : ℕ) (d : A) → i < length xs → test (get_or xs i d) ≡ true → length (filter test xs) ≤ 1 → find test xs ≡ Some (get_or xs i d)
find_at test [] i d there is one = absurd (omega arith)
find_at test (x ∷ xs) zero d there is one = rw is refl
find_at test (x ∷ xs) (suc i) d there is one =
    let off = fails_before test x xs i d (omega arith) is one in
    rw off (find_at test xs i d (omega arith) is (fewer_behind test x xs off one))

pub find_nowhere : {A : Type 0} (test : A → Bool) (xs : List A) → ((k : ℕ) (d : A) → k < length xs → test (get_or xs k d) ≡ false) → find test xs ≡ None
find_nowhere test [] all = refl
find_nowhere test (x ∷ xs) all = let off : test x ≡ false = all 0 x (omega arith) in rw off (find_nowhere test xs (λ k d below. all (suc k) d (omega arith)))

none_passes : {A : Type 0} (test : A → Bool) (f : A → A) (xs : List A) → length (filter test xs) ≤ 0 → changed test f xs ≡ xs
none_passes test f [] none = refl
none_passes test f (x ∷ xs) none = grind (arith, none, none_passes test f xs)

-- the one item that passes is changed in its place
pub changed_at : {A : Type 0} (test : A → Bool) (f : A → A) (xs : List A) (i : ℕ) (d : A) → i < length xs → test (get_or xs i d) ≡ true → length (filter test xs) ≤ 1 → changed test f xs ≡ set xs i (f (get_or xs i d))
changed_at test f [] i d there is one = absurd (omega arith)
changed_at test f (x ∷ xs) zero d there is one =
    let few : length (filter test xs) ≤ 0 = grind (arith, is, one) in rw is (ap (λ (ys : List _). f x ∷ ys) (none_passes test f xs few))
changed_at test f (x ∷ xs) (suc i) d there is one =
    let off = fails_before test x xs i d (omega arith) is one in
    rw off (ap (λ (ys : List _). x ∷ ys) (changed_at test f xs i d (omega arith) is (fewer_behind test x xs off one)))

pub changed_nowhere : {A : Type 0} (test : A → Bool) (f : A → A) (xs : List A) → find test xs ≡ None → changed test f xs ≡ xs
changed_nowhere test f [] is = refl
changed_nowhere test f (x ∷ xs) is = grind (arith, is, changed_nowhere test f xs)
