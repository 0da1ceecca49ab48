-- Rows that are made step by step.
use Rattle.std.proofs.Common.{◌≡◌, refl, ℕ, List, ◌++◌, length, take, drop, slice_set, Ok, Err}
use Rattle.frac128.specs.Checked.{checked_quotient}
use Rattle.frac128.specs.declared.operations.Wide.{Wide}
use Rattle.frac128.specs.Fraction.{Fraction, one_value}
use Rattle.dictionary.specs.Dictionary.{each, entry, solved_row}
use Rattle.dictionary.proofs.Parts.{drop-drop_one, set_only}

pub solved_row-whole : (c : ℕ) (row left right here : List Fraction) (p own : Fraction)
    → p ≡ entry row c → length here ≡ 1
    → Ok left ≡ each (λ x. checked_quotient x p) (take c row)
    → Ok right ≡ each (λ x. checked_quotient x p) (drop 1 (drop c row))
    → checked_quotient one_value p ≡ Ok own
    → Ok (left ++ (slice_set here 0 own ++ right)) ≡ solved_row c row
unfolding solved_row
solved_row-whole c row left right here p own is_p one before behind last =
    rw (← is_p, ← before, ← drop-drop_one c row, ← behind, last, set_only here own one) refl

pub solved_row-behind : (c : ℕ) (row left : List Fraction) (p : Fraction) (wide : Wide)
    → p ≡ entry row c
    → Ok left ≡ each (λ x. checked_quotient x p) (take c row)
    → Err wide ≡ each (λ x. checked_quotient x p) (drop 1 (drop c row))
    → Err wide ≡ solved_row c row
unfolding solved_row
solved_row-behind c row left p wide is_p before behind = rw (← is_p, ← before, ← drop-drop_one c row, ← behind) refl

pub solved_row-last : (c : ℕ) (row left right : List Fraction) (p : Fraction) (wide : Wide)
    → p ≡ entry row c
    → Ok left ≡ each (λ x. checked_quotient x p) (take c row)
    → Ok right ≡ each (λ x. checked_quotient x p) (drop 1 (drop c row))
    → checked_quotient one_value p ≡ Err wide
    → Err wide ≡ solved_row c row
unfolding solved_row
solved_row-last c row left right p wide is_p before behind last = rw (← is_p, ← before, ← drop-drop_one c row, ← behind, last) refl
