-- The coefficients of a row, one term after another from the last.
use Rattle.std.proofs.Common.{◌≡◌, ◌∙◌, refl, ap, ap₂, ℕ, zero, suc, ◌+◌, ◌<◌, ◌==◌, Bool, false, if◌then◌else◌, List, [], ◌∷◌, length, map, replicate, slice_set, Some, unwrap_or, arith, eq-eqb}
use Rattle.std.proofs.lemmas.Bool.Decides.{nat_tests}
use Rattle.std.proofs.lemmas.List.{length-map}
use Rattle.frac128.specs.Fraction.{Fraction, zero_value}
use Rattle.dictionary.specs.Dictionary.{numbers_from}
use Rattle.model_data.specs.declared.model.Term.{Term}
use Rattle.solve_defs.specs.StandardForm as defs
use Rattle.solve_defs.specs.Values.{coefficient, term_of}
use Rattle.dictionary.proofs.Opened.{length-numbers_from}
use Rattle.std_form.proofs.Entries.{entries-zeros}

-- by variable, of so many from the first on
abbrev pub coefficients : List Term → ℕ → ℕ → List Fraction
coefficients terms first count = map (coefficient terms) (numbers_from first count)

pub length-coefficients : (terms : List Term) (first count : ℕ) → length (coefficients terms first count) ≡ count
length-coefficients terms first count = length-map (numbers_from first count) (coefficient terms) ∙ length-numbers_from first count

different : (a b : ℕ) → (a ≡ b → ⊥) → (a == b) ≡ false
different a b apart = grind (arith, nat_tests)

coefficient-own : (t : Term) (terms : List Term) (place : ℕ) → t.var ≡ place → coefficient (t ∷ terms) place ≡ t.coef
coefficient-own t terms place own = ap (λ (b : Bool). unwrap_or (if b then Some t.coef else term_of terms place) zero_value) (eq-eqb t.var place own)

coefficient-others : (t : Term) (terms : List Term) (place : ℕ) → (t.var ≡ place → ⊥) → coefficient (t ∷ terms) place ≡ coefficient terms place
coefficient-others t terms place apart = ap (λ (b : Bool). unwrap_or (if b then Some t.coef else term_of terms place) zero_value) (different t.var place apart)

coefficients-before : (t : Term) (terms : List Term) (first count : ℕ) → t.var < first → coefficients (t ∷ terms) first count ≡ coefficients terms first count
coefficients-before t terms first zero before = refl
coefficients-before t terms first (suc count) before =
    ap₂ (λ (x : Fraction) (xs : List Fraction). x ∷ xs)
    (coefficient-others t terms first (λ own. omega (arith, before, own)))
    (coefficients-before t terms (suc first) count (omega (arith, before)))

coefficients-from : (t : Term) (terms : List Term) (first count k : ℕ) → t.var ≡ first + k
    → coefficients (t ∷ terms) first count ≡ slice_set (coefficients terms first count) k t.coef
coefficients-from t terms first zero k here = refl
coefficients-from t terms first (suc count) zero here =
    ap₂ (λ (x : Fraction) (xs : List Fraction). x ∷ xs)
    (coefficient-own t terms first (omega (arith, here)))
    (coefficients-before t terms (suc first) count (omega (arith, here)))
coefficients-from t terms first (suc count) (suc k) here =
    ap₂ (λ (x : Fraction) (xs : List Fraction). x ∷ xs)
    (coefficient-others t terms first (λ own. omega (arith, here, own)))
    (coefficients-from t terms (suc first) count k (omega (arith, here)))

-- one more term in front
coefficients-cons : (t : Term) (terms : List Term) (count : ℕ) → coefficients (t ∷ terms) 0 count ≡ slice_set (coefficients terms 0 count) t.var t.coef
coefficients-cons t terms count = coefficients-from t terms 0 count t.var (omega arith)

coefficients-none : (first count : ℕ) → coefficients [] first count ≡ replicate count zero_value
coefficients-none first zero = refl
coefficients-none first (suc count) = ap (λ (xs : List Fraction). zero_value ∷ xs) (coefficients-none (suc first) count)

pub row_entries-none : (shapes : List defs.Shape) → defs.row_entries shapes [] ≡ replicate (defs.column_count shapes) zero_value
row_entries-none shapes = ap (defs.entries shapes) (coefficients-none 0 (length shapes)) ∙ entries-zeros shapes

pub row_entries-cons : (shapes : List defs.Shape) (t : Term) (terms : List Term)
    → defs.row_entries shapes (t ∷ terms) ≡ defs.entries shapes (slice_set (coefficients terms 0 (length shapes)) t.var t.coef)
row_entries-cons shapes t terms = ap (defs.entries shapes) (coefficients-cons t terms (length shapes))
