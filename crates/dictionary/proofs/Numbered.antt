-- Numbers in a row.
use Rattle.std.proofs.Common.{◌≡◌, ◌∙◌, ap, ℕ, zero, suc, ◌+◌, ◌-◌, ◌≤◌, [], ◌∷◌, ◌++◌, arith}
use Rattle.dictionary.specs.Dictionary.{numbers_from}

pub numbers_from-more : (first count : ℕ) → numbers_from first (count + 1) ≡ numbers_from first count ++ (first + count) ∷ []
numbers_from-more first zero =
    let same : first ≡ first + 0 = omega arith in ap (λ n. n ∷ []) same
numbers_from-more first (suc count) =
    let more : suc count + 1 ≡ suc (count + 1) = omega arith in
    let last : suc first + count ≡ first + suc count = omega arith in
    rw more (ap (λ rest. first ∷ rest) (numbers_from-more (suc first) count ∙ ap (λ n. numbers_from (suc first) count ++ n ∷ []) last))

pub numbers_from-next : (first n : ℕ) → first ≤ n → numbers_from first (n + 1 - first) ≡ numbers_from first (n - first) ++ n ∷ []
numbers_from-next first n h =
    let count : n + 1 - first ≡ n - first + 1 = omega arith in
    let last : first + (n - first) ≡ n = omega arith in
    rw count (numbers_from-more first (n - first) ∙ ap (λ m. numbers_from first (n - first) ++ m ∷ []) last)
