-- What passes a test, from what holds of all that do.
use Rattle.std.proofs.Common.{◌≡◌, ◌∙◌, refl, sym, ℕ, zero, suc, ◌<◌, Bool, true, false, true≢false, cond, List, [], ◌∷◌, length, filter, slice_index_or, All, arith}
use Rattle.std.proofs.lemmas.List.Elements.{All-head, All-tail}

-- what holds of all that pass holds of one that passes
pub passing : {X : Type 0} (p : X → Bool) (P : X → Type 0) (xs : List X) (k : ℕ) (e : X) → k < length xs → p (slice_index_or xs k e) ≡ true → All P (filter p xs) → P (slice_index_or xs k e)
passing p P [] k e within pass all = absurd (omega (arith, within))
passing {X = X} p P (x ∷ xs) k e within pass all = by_test (λ k e within pass all. passing p P xs k e within pass all) (p x) refl k within pass all
  where
    by_test : ((k : ℕ) (e : X) → k < length xs → p (slice_index_or xs k e) ≡ true → All P (filter p xs) → P (slice_index_or xs k e))
        → (b : Bool) → p x ≡ b → (k : ℕ) → k < suc (length xs) → p (slice_index_or (x ∷ xs) k e) ≡ true → All P (cond b (x ∷ filter p xs) (filter p xs)) → P (slice_index_or (x ∷ xs) k e)
    by_test others true is zero within pass all = All-head P x (filter p xs) all
    by_test others true is (suc k) within pass all = others k e (omega (arith, within)) pass (All-tail P x (filter p xs) all)
    by_test others false is zero within pass all = absurd (true≢false (sym pass ∙ is))
    by_test others false is (suc k) within pass all = others k e (omega (arith, within)) pass all
