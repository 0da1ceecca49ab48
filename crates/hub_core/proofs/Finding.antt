-- What stands at the first place at which a test passes.
use Rattle.std.proofs.Common.{◌≡◌, refl, ℕ, zero, suc, ◌<◌, ◌≤◌, Bool, true, false, List, [], ◌∷◌, length, Some, None, arith, get_or}
use Rattle.std.specs.Prelude.{find, position}
use Rattle.std.specs.List.{position_or_len}
use Rattle.std.proofs.lemmas.Bool.Decides.{nat_tests}
use Rattle.std.proofs.lemmas.List.Quantifiers.{position-Some}
use Rattle.std.proofs.lemmas.List.Sums.{fails_before_first}

find_first : {A : Type 0} (test : A → Bool) (xs : List A) (i : ℕ) (d : A) → i < length xs → test (get_or xs i d) ≡ true → ((k : ℕ) → k < i → test (get_or xs k d) ≡ false) → find test xs ≡ Some (get_or xs i d)
find_first test [] i d there is before = absurd (omega arith)
find_first test (x ∷ xs) zero d there is before = rw is
find_first test (x ∷ xs) (suc i) d there is before = let off : test x ≡ false = before 0 (omega arith) in rw off (find_first test xs i d (omega arith) is (λ k below. before (suc k) (omega arith)))

pub find_at : {A : Type 0} (test : A → Bool) (xs : List A) (n : ℕ) (d : A) → position test xs ≡ Some n → find test xs ≡ Some (get_or xs n d)
find_at test xs n d is = let at = position-Some test xs n d is in find_first test xs n d at.0 at.1 at.2

fails_all : {A : Type 0} (test : A → Bool) (xs : List A) → ((k : ℕ) (d : A) → k < length xs → test (get_or xs k d) ≡ false) → find test xs ≡ None
fails_all test [] all = refl
fails_all test (x ∷ xs) all = let off : test x ≡ false = all 0 x (omega arith) in rw off (fails_all test xs (λ k d below. all (suc k) d (omega arith)))

pub find_nowhere : {A : Type 0} (test : A → Bool) (xs : List A) → position test xs ≡ None → find test xs ≡ None
find_nowhere test xs is =
    let past : length xs ≤ position_or_len test xs = grind (arith, nat_tests, is) in
    fails_all test xs (λ k d below. fails_before_first test xs k d (omega arith))
