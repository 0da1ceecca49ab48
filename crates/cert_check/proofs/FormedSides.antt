-- Steps one behind the other.
use Rattle.std.proofs.Common.{◌≡◌, ◌∙◌, refl, sym, ap, List, [], ◌∷◌, ◌++◌, Result, Ok, Err}
use Rattle.std.specs.Result.{IsErr}
use Rattle.frac128.specs.Checked.{◌>>=◌}
use Rattle.frac128.specs.Fraction.{Fraction}
use Rattle.frac128.specs.declared.operations.Wide.{Wide}
use Rattle.solve_defs.specs.Looks.{Step, checked_step, formed}

formed_append : (start : Fraction) (xs ys : List Step) → formed start (xs ++ ys) ≡ formed start xs >>= λ sum. formed sum ys
formed_append start [] ys = refl
formed_append start (step ∷ xs) ys = behind_first (checked_step start step) (λ next. formed_append next xs ys)
  where
    behind_first : (first : Result Fraction Wide) → ((next : Fraction) → formed next (xs ++ ys) ≡ formed next xs >>= λ sum. formed sum ys) → first >>= (λ next. formed next (xs ++ ys)) ≡ (first >>= λ next. formed next xs) >>= λ sum. formed sum ys
    behind_first (Ok next) rest = rest next
    behind_first (Err wide) rest = refl

pub goes_on : (start sum : Fraction) (xs ys : List Step) → Ok sum ≡ formed start xs → formed sum ys ≡ formed start (xs ++ ys)
goes_on start sum xs ys is = ap (λ (r : Result Fraction Wide). r >>= λ s. formed s ys) is ∙ sym (formed_append start xs ys)

pub ends : (start : Fraction) (xs ys : List Step) (found : Result Fraction Wide) → IsErr found → found ≡ formed start xs → found ≡ formed start (xs ++ ys)
ends start xs ys (Ok sum) is_err is = absurd cc
ends start xs ys (Err wide) is_err is = ap (λ (r : Result Fraction Wide). r >>= λ s. formed s ys) is ∙ sym (formed_append start xs ys)
