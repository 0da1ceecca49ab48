-- Parts of lists.
use Rattle.std.proofs.lemmas.List.{take_rest}
use Rattle.std.proofs.Common.{◌≡◌, refl, ap, ℕ, zero, suc, ◌+◌, List, [], ◌∷◌, length, drop, slice_set, add-one, arith}

-- one behind another start
pub drop-drop_one : {A : Type 0} (n : ℕ) (xs : List A) → drop 1 (drop n xs) ≡ drop (suc n) xs
drop-drop_one zero xs = refl
drop-drop_one (suc n) [] = refl
drop-drop_one (suc n) (x ∷ xs) = drop-drop_one n xs

pub drop_next : {A : Type 0} (n : ℕ) (xs : List A) → drop (n + 1) xs ≡ drop (suc n) xs
drop_next n xs = ap (λ k. drop k xs) (add-one n)

-- the only one is replaced
pub set_only : {A : Type 0} (xs : List A) (x : A) → length xs ≡ 1 → slice_set xs 0 x ≡ x ∷ []
set_only [] x one = absurd (omega (arith, one))
set_only (y ∷ []) x one = refl
set_only (y ∷ z ∷ xs) x one = absurd (omega (arith, one))

pub ruleset parts = (drop-drop_one, drop_next, set_only, take_rest)
