-- Coefficients by variable, and the terms that they stand for.
use Rattle.std.proofs.Common.{◌≡◌, ◌≢◌, refl, sym, ◌∙◌, ap, ap₂, subst, arith, ℕ, zero, suc, ◌+◌, ◌-◌, ◌<◌, ◌≤◌, ◌==◌, nat_lt, Bool, true, false, if◌then◌else◌}
use Rattle.std.proofs.Common.{ℤ, pos, negsuc, unsigned_abs, List, [], ◌∷◌, ◌++◌, length, set, get_or, cond}
use Rattle.std.proofs.lemmas.Bool.{cond-false, cond-true, eq-eqb, eqb-false, eqb-true, false≢true, le-ltb, lt-ltb, ltb-false, ne_eqb}
use Rattle.std.specs.List.Sorted.{IsPermutation, IsSorted}
use Rattle.std.specs.Ordering.{is_lt, nat_cmp}
use Rattle.std.specs.declared.cmp.Ordering.TheVariants.{Equal, Greater, Less}
use Rattle.std.proofs.Math.ListN.{get_or-append}
use Rattle.std.proofs.lemmas.List.{get_or-set_other, get_or-set_same, get_or_default, get_or_push, length-set, length_push}
use Rattle.std.proofs.lemmas.List.Elements.{All-nil, All-push}
use Rattle.std.proofs.lemmas.List.Sorted.{All-permutation, Contains-permutation}
use Rattle.frac128.specs.Fraction.{Fraction, zero_value}
use Rattle.model_data.specs.declared.model.Term.{Term}
use Rattle.lp_defs.specs.Draft.{before_terms, coefficient_in, with_coefficient}
use Rattle.lp_parse.specs.Terms.{AreBelow, AreNamedFrom, AreRising, AreTidy, IsLonger, IsNamedFrom, IsTable, named_with, terms_from, terms_of, tidied, weight}

abbrev pub IsNone : Fraction → Type 0
IsNone x = x.num ≡ pos 0

abbrev term : ℕ → Fraction → Term
term var x = record { var = var; coef = x }

abs_zero : (z : ℤ) → unsigned_abs z ≡ 0 → z ≡ pos 0
abs_zero (pos n) e = ap pos e
abs_zero (negsuc n) e = absurd (omega arith)

pub before_none : (var : ℕ) (x : Fraction) (terms : List Term) → IsNone x → before_terms var x terms ≡ terms
before_none var x terms e = cond-true (unsigned_abs x.num == 0) terms (term var x ∷ terms) (ap (λ (z : ℤ). unsigned_abs z == 0) e)

pub before_some : (var : ℕ) (x : Fraction) (terms : List Term) → (IsNone x → ⊥) → before_terms var x terms ≡ term var x ∷ terms
before_some var x terms some =
    cond-false (unsigned_abs x.num == 0) terms (term var x ∷ terms) (ne_eqb (unsigned_abs x.num) 0 (λ e. some (abs_zero x.num e)))

pub weight_none : (x : Fraction) → IsNone x → weight x ≡ 0
weight_none x e = cond-true (unsigned_abs x.num == 0) 0 1 (ap (λ (z : ℤ). unsigned_abs z == 0) e)

pub weight_some : (x : Fraction) → (IsNone x → ⊥) → weight x ≡ 1
weight_some x some = cond-false (unsigned_abs x.num == 0) 0 1 (ne_eqb (unsigned_abs x.num) 0 (λ e. some (abs_zero x.num e)))

length_before : (var : ℕ) (x : Fraction) (terms : List Term) → length (before_terms var x terms) ≡ weight x + length terms
length_before var x terms = by (unsigned_abs x.num == 0) where
  by : (b : Bool) → length (if b then terms else (term var x ∷ terms)) ≡ (if b then 0 else 1) + length terms
  by true = omega arith
  by false = omega arith

-- a test of a coefficient, by what it says of the terms
tested : (P : List Term → Type 0) (var : ℕ) (x : Fraction) (terms : List Term)
    → (IsNone x → P terms) → ((IsNone x → ⊥) → P (term var x ∷ terms)) → P (before_terms var x terms)
tested P var x terms none some = by (unsigned_abs x.num == 0) refl where
  by : (b : Bool) → (unsigned_abs x.num == 0) ≡ b → P (if b then terms else (term var x ∷ terms))
  by true e = none (abs_zero x.num (eqb-true (unsigned_abs x.num) 0 e))
  by false e = some (λ (zero : IsNone x). false≢true (sym e ∙ ap (λ (z : ℤ). unsigned_abs z == 0) zero))

-- the terms of later variables
coefficient_later : (var n : ℕ) (coefs : List Fraction) → var < n → coefficient_in var (terms_from n coefs) ≡ zero_value
coefficient_later var n [] later = refl
coefficient_later var n (x ∷ coefs) later =
    tested (λ l. coefficient_in var l ≡ zero_value) n x (terms_from (suc n) coefs)
    (λ none. coefficient_later var (suc n) coefs (omega arith))
    (λ some. cond-false (n == var) x (coefficient_in var (terms_from (suc n) coefs)) (ne_eqb n var (λ e. omega arith))
    ∙ coefficient_later var (suc n) coefs (omega arith))

with_later : (var n : ℕ) (y : Fraction) (coefs : List Fraction) → var < n
    → with_coefficient var y (terms_from n coefs) ≡ before_terms var y (terms_from n coefs)
with_later var n y [] later = refl
with_later var n y (x ∷ coefs) later =
    tested (λ l. with_coefficient var y l ≡ before_terms var y l) n x (terms_from (suc n) coefs)
    (λ none. with_later var (suc n) y coefs (omega arith))
    (λ some. cond-false (nat_lt n var) (term n x ∷ with_coefficient var y (terms_from (suc n) coefs))
    (if n == var then before_terms var y (terms_from (suc n) coefs) else before_terms var y (term n x ∷ terms_from (suc n) coefs))
    (le-ltb n var (omega arith))
    ∙ cond-false (n == var) (before_terms var y (terms_from (suc n) coefs)) (before_terms var y (term n x ∷ terms_from (suc n) coefs))
    (ne_eqb n var (λ e. omega arith)))

-- the coefficient of a variable
coefficient_from : (n k : ℕ) (coefs : List Fraction) → AreTidy coefs → coefficient_in (n + k) (terms_from n coefs) ≡ get_or coefs k zero_value
coefficient_from n k [] tidy = refl
coefficient_from n zero (x ∷ coefs) tidy =
    let same : n + 0 ≡ n = omega arith in
    ap (λ (v : ℕ). coefficient_in v (terms_from n (x ∷ coefs))) same
    ∙ tested (λ l. coefficient_in n l ≡ x) n x (terms_from (suc n) coefs)
    (λ none. coefficient_later n (suc n) coefs (omega arith) ∙ sym (tidy 0 none))
    (λ some. cond-true (n == n) x (coefficient_in n (terms_from (suc n) coefs)) (eq-eqb n n refl))
coefficient_from n (suc k) (x ∷ coefs) tidy =
    let same : n + suc k ≡ suc n + k = omega arith in
    let rest = ap (λ (v : ℕ). coefficient_in v (terms_from (suc n) coefs)) same ∙ coefficient_from (suc n) k coefs (λ var. tidy (suc var)) in
    tested (λ l. coefficient_in (n + suc k) l ≡ get_or coefs k zero_value) n x (terms_from (suc n) coefs)
    (λ none. rest)
    (λ some. cond-false (n == n + suc k) x (coefficient_in (n + suc k) (terms_from (suc n) coefs)) (ne_eqb n (n + suc k) (λ e. omega arith)) ∙ rest)

pub coefficient_of : (var : ℕ) (coefs : List Fraction) → AreTidy coefs → get_or coefs var zero_value ≡ coefficient_in var (terms_of coefs)
coefficient_of var coefs tidy = sym (ap (λ (v : ℕ). coefficient_in v (terms_of coefs)) (same) ∙ coefficient_from 0 var coefs tidy) where
  same : var ≡ 0 + var
  same = omega arith

-- another coefficient of a variable
with_from : (n k : ℕ) (y : Fraction) (coefs : List Fraction) → k < length coefs
    → with_coefficient (n + k) y (terms_from n coefs) ≡ terms_from n (set coefs k y)
with_from n k y [] within = absurd (omega arith)
with_from n zero y (x ∷ coefs) within =
    let same : n + 0 ≡ n = omega arith in
    ap (λ (v : ℕ). with_coefficient v y (terms_from n (x ∷ coefs))) same
    ∙ tested (λ l. with_coefficient n y l ≡ before_terms n y (terms_from (suc n) coefs)) n x (terms_from (suc n) coefs)
    (λ none. with_later n (suc n) y coefs (omega arith))
    (λ some. cond-false (nat_lt n n) (term n x ∷ with_coefficient n y (terms_from (suc n) coefs))
    (if n == n then before_terms n y (terms_from (suc n) coefs) else before_terms n y (term n x ∷ terms_from (suc n) coefs))
    (le-ltb n n (omega arith))
    ∙ cond-true (n == n) (before_terms n y (terms_from (suc n) coefs)) (before_terms n y (term n x ∷ terms_from (suc n) coefs)) (eq-eqb n n refl))
with_from n (suc k) y (x ∷ coefs) within =
    let same : n + suc k ≡ suc n + k = omega arith in
    let rest = ap (λ (v : ℕ). with_coefficient v y (terms_from (suc n) coefs)) same ∙ with_from (suc n) k y coefs (omega arith) in
    by rest (unsigned_abs x.num == 0)
  where
    by : with_coefficient (n + suc k) y (terms_from (suc n) coefs) ≡ terms_from (suc n) (set coefs k y) → (b : Bool)
        → with_coefficient (n + suc k) y (if b then terms_from (suc n) coefs else (term n x ∷ terms_from (suc n) coefs))
        ≡ (if b then terms_from (suc n) (set coefs k y) else (term n x ∷ terms_from (suc n) (set coefs k y)))
    by rest true = rest
    by rest false =
        cond-true (nat_lt n (n + suc k)) (term n x ∷ with_coefficient (n + suc k) y (terms_from (suc n) coefs))
        (if n == n + suc k then before_terms (n + suc k) y (terms_from (suc n) coefs) else before_terms (n + suc k) y (term n x ∷ terms_from (suc n) coefs))
        (lt-ltb n (n + suc k) (omega arith))
        ∙ ap (λ (l : List Term). term n x ∷ l) rest

pub with_set : (var : ℕ) (y : Fraction) (coefs : List Fraction) → var < length coefs → terms_of (set coefs var y) ≡ with_coefficient var y (terms_of coefs)
with_set var y coefs within = sym (ap (λ (v : ℕ). with_coefficient v y (terms_of coefs)) same ∙ with_from 0 var y coefs within) where
  same : var ≡ 0 + var
  same = omega arith

-- how many terms there are
counted_from : (n k : ℕ) (y : Fraction) (coefs : List Fraction) → k < length coefs
    → length (terms_from n (set coefs k y)) + weight (get_or coefs k zero_value) ≡ length (terms_from n coefs) + weight y
counted_from n k y [] within = absurd (omega arith)
counted_from n zero y (x ∷ coefs) within =
    let old = length_before n x (terms_from (suc n) coefs) in
    let new = length_before n y (terms_from (suc n) coefs) in
    omega (arith, old, new)
counted_from n (suc k) y (x ∷ coefs) within =
    let old = length_before n x (terms_from (suc n) coefs) in
    let new = length_before n x (terms_from (suc n) (set coefs k y)) in
    let rest = counted_from (suc n) k y coefs (omega arith) in
    omega (arith, old, new, rest)

counted_with : (n k : ℕ) (y : Fraction) (coefs : List Fraction)
    → length (with_coefficient (n + k) y (terms_from n coefs)) + weight (get_or coefs k zero_value) ≡ length (terms_from n coefs) + weight y
counted_with n k y [] = let new = length_before (n + k) y [] in omega (arith, new)
counted_with n zero y (x ∷ coefs) =
    let set_is = ap length (with_from n 0 y (x ∷ coefs) (omega arith)) in
    let new = counted_from n 0 y (x ∷ coefs) (omega arith) in
    omega (arith, set_is, new)
counted_with n (suc k) y (x ∷ coefs) =
    let same : n + suc k ≡ suc n + k = omega arith in
    let rest = ap (λ (v : ℕ). length (with_coefficient v y (terms_from (suc n) coefs)) + weight (get_or coefs k zero_value)) same
    ∙ counted_with (suc n) k y coefs in
    by rest (unsigned_abs x.num == 0)
  where
    by : length (with_coefficient (n + suc k) y (terms_from (suc n) coefs)) + weight (get_or coefs k zero_value)
        ≡ length (terms_from (suc n) coefs) + weight y → (b : Bool)
        → length (with_coefficient (n + suc k) y (if b then terms_from (suc n) coefs else (term n x ∷ terms_from (suc n) coefs))) + weight (get_or coefs k zero_value)
        ≡ length (if b then terms_from (suc n) coefs else (term n x ∷ terms_from (suc n) coefs)) + weight y
    by rest true = rest
    by rest false =
        let first = ap length (cond-true (nat_lt n (n + suc k)) (term n x ∷ with_coefficient (n + suc k) y (terms_from (suc n) coefs))
        (if n == n + suc k then before_terms (n + suc k) y (terms_from (suc n) coefs) else before_terms (n + suc k) y (term n x ∷ terms_from (suc n) coefs))
        (lt-ltb n (n + suc k) (omega arith))) in
        omega (arith, first, rest)

-- without the term of a variable
pub emptied : (var : ℕ) (coefs : List Fraction) → var < length coefs
    → length (terms_of (set coefs var zero_value)) + weight (get_or coefs var zero_value) ≡ length (terms_of coefs)
emptied var coefs within = let all = counted_from 0 var zero_value coefs within in omega (arith, all)

-- how many terms there are with another coefficient of a variable
pub counted : (var : ℕ) (y : Fraction) (coefs : List Fraction)
    → length (with_coefficient var y (terms_of coefs)) + weight (get_or coefs var zero_value) ≡ length (terms_of coefs) + weight y
counted var y coefs =
    let same : var ≡ 0 + var = omega arith in
    ap (λ (v : ℕ). length (with_coefficient v y (terms_of coefs)) + weight (get_or coefs var zero_value)) same ∙ counted_with 0 var y coefs

length_from : (n : ℕ) (coefs : List Fraction) → length (terms_from n coefs) ≤ length coefs
length_from n [] = omega arith
length_from n (x ∷ coefs) =
    let rest = length_from (suc n) coefs in
    let count = length_before n x (terms_from (suc n) coefs) in
    by (unsigned_abs x.num == 0) rest
  where
    by : (b : Bool) → length (terms_from (suc n) coefs) ≤ length coefs
        → length (if b then terms_from (suc n) coefs else (term n x ∷ terms_from (suc n) coefs)) ≤ length (x ∷ coefs)
    by true rest = omega (arith, rest)
    by false rest = omega (arith, rest)

pub length_terms : (coefs : List Fraction) → length (terms_of coefs) ≤ length coefs
length_terms coefs = length_from 0 coefs

-- the first term, and those behind it
first_from : (n k : ℕ) (coefs : List Fraction) → k < length coefs → ((i : ℕ) → i < k → IsNone (get_or coefs i zero_value))
    → (IsNone (get_or coefs k zero_value) → ⊥)
    → terms_from n coefs ≡ term (n + k) (get_or coefs k zero_value) ∷ terms_from n (set coefs k zero_value)
first_from n k [] within before some = absurd (omega arith)
first_from n zero (x ∷ coefs) within before some =
    let same : n ≡ n + 0 = omega arith in
    before_some n x (terms_from (suc n) coefs) some
    ∙ ap (λ (v : ℕ). term v x ∷ terms_from (suc n) coefs) same
first_from n (suc k) (x ∷ coefs) within before some =
    let same : suc n + k ≡ n + suc k = omega arith in
    let none = before 0 (omega arith) in
    before_none n x (terms_from (suc n) coefs) none
    ∙ first_from (suc n) k coefs (omega arith) (λ i less. before (suc i) (omega arith)) some
    ∙ ap₂ (λ (v : ℕ) (l : List Term). term v (get_or coefs k zero_value) ∷ l) same
    (sym (before_none n x (terms_from (suc n) (set coefs k zero_value)) none))

pub first_term : (k : ℕ) (coefs : List Fraction) → k < length coefs → ((i : ℕ) → i < k → IsNone (get_or coefs i zero_value))
    → (IsNone (get_or coefs k zero_value) → ⊥)
    → terms_of coefs ≡ term k (get_or coefs k zero_value) ∷ terms_of (set coefs k zero_value)
first_term k coefs within before some =
    let same : 0 + k ≡ k = omega arith in
    first_from 0 k coefs within before some
    ∙ ap (λ (v : ℕ). term v (get_or coefs k zero_value) ∷ terms_of (set coefs k zero_value)) same

none_from : (n : ℕ) (coefs : List Fraction) → ((var : ℕ) → get_or coefs var zero_value ≡ zero_value) → terms_from n coefs ≡ []
none_from n [] none = refl
none_from n (x ∷ coefs) none =
    before_none n x (terms_from (suc n) coefs) (ap (λ (y : Fraction). y.num) (none 0)) ∙ none_from (suc n) coefs (λ var. none (suc var))

pub no_terms : (coefs : List Fraction) → ((var : ℕ) → get_or coefs var zero_value ≡ zero_value) → terms_of coefs ≡ []
no_terms coefs none = none_from 0 coefs none

-- one more coefficient of 0
pushed_from : (n : ℕ) (coefs : List Fraction) → terms_from n (coefs ++ zero_value ∷ []) ≡ terms_from n coefs
pushed_from n [] = refl
pushed_from n (x ∷ coefs) = ap (before_terms n x) (pushed_from (suc n) coefs)

pushed_at : (coefs : List Fraction) (var : ℕ) → get_or (coefs ++ zero_value ∷ []) var zero_value ≡ get_or coefs var zero_value
pushed_at [] zero = refl
pushed_at [] (suc var) = refl
pushed_at (x ∷ coefs) zero = refl
pushed_at (x ∷ coefs) (suc var) = pushed_at coefs var

pub longer_itself : (coefs : List Fraction) → IsLonger coefs coefs
longer_itself coefs = record { same = λ var. refl; longer = omega arith; same_terms = λ n. refl }

pub longer_push : (short long : List Fraction) → IsLonger short long → IsLonger short (long ++ zero_value ∷ [])
longer_push short long so_far =
    let most = so_far.longer in
    let more = length_push long zero_value in
    record {
      same = λ var. pushed_at long var ∙ so_far.same var;
      longer = omega (arith, most, more);
      same_terms = λ n. pushed_from n long ∙ so_far.same_terms n;
    }

-- there is one term more at most
pub length_with : (var : ℕ) (x : Fraction) (terms : List Term) → length (with_coefficient var x terms) ≤ length terms + 1
length_with var x [] = most var x [] where
  most : (var : ℕ) (x : Fraction) (terms : List Term) → length (before_terms var x terms) ≤ length terms + 1
  most var x terms = tested (λ l. length l ≤ length terms + 1) var x terms (λ none. omega arith) (λ some. omega arith)
length_with var x (t ∷ terms) = by (length_with var x terms) (nat_lt t.var var) (t.var == var) where
  most : (var : ℕ) (x : Fraction) (terms : List Term) → length (before_terms var x terms) ≤ length terms + 1
  most var x terms = tested (λ l. length l ≤ length terms + 1) var x terms (λ none. omega arith) (λ some. omega arith)

  by : length (with_coefficient var x terms) ≤ length terms + 1 → (less same : Bool)
      → length (if less then t ∷ with_coefficient var x terms
      else (if same then before_terms var x terms else before_terms var x (t ∷ terms))) ≤ length (t ∷ terms) + 1
  by rest true same = omega (arith, rest)
  by rest false true = let same_length = most var x terms in omega (arith, same_length)
  by rest false false = most var x (t ∷ terms)

-- coefficients of 0, however they are written
with_none : (var : ℕ) (x y : Fraction) → IsNone x → IsNone y → (terms : List Term) → with_coefficient var x terms ≡ with_coefficient var y terms
with_none var x y x_none y_none [] = before_none var x [] x_none ∙ sym (before_none var y [] y_none)
with_none var x y x_none y_none (t ∷ terms) = by (with_none var x y x_none y_none terms) (nat_lt t.var var) (t.var == var) where
  by : with_coefficient var x terms ≡ with_coefficient var y terms → (less same : Bool)
      → (if less then t ∷ with_coefficient var x terms else (if same then before_terms var x terms else before_terms var x (t ∷ terms)))
      ≡ (if less then t ∷ with_coefficient var y terms else (if same then before_terms var y terms else before_terms var y (t ∷ terms)))
  by rest true same = ap (λ (l : List Term). t ∷ l) rest
  by rest false true = before_none var x terms x_none ∙ sym (before_none var y terms y_none)
  by rest false false = before_none var x (t ∷ terms) x_none ∙ sym (before_none var y (t ∷ terms) y_none)

by_test : (P : Fraction → Type 0) (x : Fraction) → (IsNone x → P zero_value) → ((IsNone x → ⊥) → P x) → P (tidied x)
by_test P x none some = by (unsigned_abs x.num == 0) refl where
  by : (b : Bool) → (unsigned_abs x.num == 0) ≡ b → P (if b then zero_value else x)
  by true e = none (abs_zero x.num (eqb-true (unsigned_abs x.num) 0 e))
  by false e = some (λ (zero : IsNone x). false≢true (sym e ∙ ap (λ (z : ℤ). unsigned_abs z == 0) zero))

pub tidied_none : (x : Fraction) → IsNone x → zero_value ≡ tidied x
tidied_none x none = by_test (λ y. zero_value ≡ y) x (λ e. refl) (λ some. absurd (some none))

pub tidied_some : (x : Fraction) → (IsNone x → ⊥) → x ≡ tidied x
tidied_some x some = by_test (λ y. x ≡ y) x (λ e. absurd (some e)) (λ e. refl)

with_tidied : (var : ℕ) (x : Fraction) (terms : List Term) → with_coefficient var (tidied x) terms ≡ with_coefficient var x terms
with_tidied var x terms =
    by_test (λ y. with_coefficient var y terms ≡ with_coefficient var x terms) x (λ none. with_none var zero_value x refl none terms) (λ some. refl)

tidied_tidy : (x : Fraction) → IsNone (tidied x) → tidied x ≡ zero_value
tidied_tidy x = by_test (λ y. IsNone y → y ≡ zero_value) x (λ none e. refl) (λ some e. absurd (some e))

-- a coefficient of 0 is set to 0
set_none : (n k : ℕ) (coefs : List Fraction) → IsNone (get_or coefs k zero_value) → terms_from n (set coefs k zero_value) ≡ terms_from n coefs
set_none n k [] none = refl
set_none n zero (x ∷ coefs) none = sym (before_none n x (terms_from (suc n) coefs) none)
set_none n (suc k) (x ∷ coefs) none = ap (before_terms n x) (set_none (suc n) k coefs none)

-- the next variable's term, and the others
pub next_term : (k : ℕ) (named : List ℕ) (coefs : List Fraction) (var : ℕ) → k < length named → get_or named k var ≡ var → AreRising named
    → AreNamedFrom k named coefs → var < length coefs
    → before_terms var (get_or coefs var zero_value) [] ++ terms_of (set coefs var zero_value) ≡ terms_of coefs
next_term k named coefs var within is rising named_all below =
    tested (λ l. l ++ terms_of (set coefs var zero_value) ≡ terms_of coefs) var (get_or coefs var zero_value) []
    (λ none. set_none 0 var coefs none)
    (λ some. sym (first_term var coefs below before some))
  where
    before : (i : ℕ) → i < var → IsNone (get_or coefs i zero_value)
    before i less = ap (λ (x : Fraction). x.num) (named_all i (λ at.
        let order = rising k at.0 var at.1 at.2 in
        let there = get_or_default named at.0 var i at.2 ∙ at.3 in
        omega (arith, order, there, is, less)))

pub named_next : (k : ℕ) (named : List ℕ) (coefs : List Fraction) (var : ℕ) → k < length named → get_or named k var ≡ var
    → AreNamedFrom k named coefs → var < length coefs → AreNamedFrom (k + 1) named (set coefs var zero_value)
named_next k named coefs var within is named_all below = λ other missing. both other missing (other == var) refl where
  both : (other : ℕ) → (IsNamedFrom (k + 1) named other → ⊥) → (b : Bool) → (other == var) ≡ b
      → get_or (set coefs var zero_value) other zero_value ≡ zero_value
  both other missing true e =
      let same = eqb-true other var e in
      ap (λ (v : ℕ). get_or (set coefs var zero_value) v zero_value) same ∙ get_or-set_same coefs var zero_value zero_value below
  both other missing false e =
      let apart : other ≢ var = eqb-false other var e in
      get_or-set_other coefs var other zero_value zero_value apart
      ∙ named_all other (λ at. missing (at.0, later at, at.2, at.3))
    where
      later : (at : IsNamedFrom k named other) → k + 1 ≤ at.0
      later at = step (at.0 == k) refl where
        step : (b : Bool) → (at.0 == k) ≡ b → k + 1 ≤ at.0
        step true f =
            let at_k = eqb-true at.0 k f in
            let there : get_or named k other ≡ other = ap (λ (j : ℕ). get_or named j other) (sym at_k) ∙ at.3 in
            absurd (eqb-false other var e (sym there ∙ get_or_default named k other var within ∙ is))
        step false f = let apart_k : at.0 ≢ k = eqb-false at.0 k f in let least = at.1 in omega (arith, least, apart_k)

-- sorted numbers rise
not_less : (x y : ℕ) → is_lt (nat_cmp x y) ≡ false → y ≤ x
not_less x y h = ltb-false x y (by (nat_lt x y) (x == y) h) where
  by : (l e : Bool) → is_lt (cond l Less (cond e Equal Greater)) ≡ false → l ≡ false
  by true e h = absurd cc
  by false e h = refl

rises : (steps i : ℕ) (named : List ℕ) (d : ℕ) → IsSorted nat_cmp named → i + steps < length named → get_or named i d ≤ get_or named (i + steps) d
rises zero i named d sorted within = let same : i + 0 ≡ i = omega arith in rw same (omega arith)
rises (suc steps) i named d sorted within =
    let same : i + suc steps ≡ i + steps + 1 = omega arith in
    let rest = rises steps i named d sorted (omega arith) in
    let last = not_less (get_or named (i + steps + 1) d) (get_or named (i + steps) d) (sorted (i + steps) d (omega arith) (omega arith)) in
    rw same (omega (arith, rest, last))

pub sorted_rising : (named : List ℕ) → IsSorted nat_cmp named → AreRising named
sorted_rising named sorted = λ i j d order within.
    let same : i + (j - i) ≡ j = omega arith in
    subst (λ (k : ℕ). get_or named i d ≤ get_or named k d) same (rises (j - i) i named d sorted (omega arith))

-- a table with its variables in another order
pub table_sorted : (coefs : List Fraction) (named sorted : List ℕ) (count : ℕ) → IsPermutation named sorted → IsTable coefs named count
    → IsTable coefs sorted count
table_sorted coefs named sorted count same table = record {
  tidy = table.tidy;
  named_all = λ var missing. table.named_all var (λ at.
      let there = Contains-permutation named sorted var same (at.0, at.2, at.3) in
      missing (there.0, omega arith, there.1, there.2));
  below = All-permutation (λ var. var < length coefs) named sorted same table.below;
  counted = table.counted;
}

-- no variable is named
pub empty_table : (coefs : List Fraction) → ((var : ℕ) → get_or coefs var zero_value ≡ zero_value) → IsTable coefs [] 0
empty_table coefs none = record {
  tidy = λ var e. none var;
  named_all = λ var missing. none var;
  below = All-nil (λ (var : ℕ). var < length coefs);
  counted = sym (ap length (no_terms coefs none));
}

pub no_count : (coefs : List Fraction) → length (terms_of coefs) ≡ 0 → terms_of coefs ≡ []
no_count coefs e = by (terms_of coefs) e where
  by : (terms : List Term) → length terms ≡ 0 → terms ≡ []
  by [] e = refl
  by (t ∷ terms) e = absurd (omega arith)

-- a table with longer coefficients
pub table_longer : (coefs long : List Fraction) (named : List ℕ) (count : ℕ) → IsLonger coefs long → IsTable coefs named count → IsTable long named count
table_longer coefs long named count longer table = record {
  tidy = λ var e. longer.same var ∙ table.tidy var (ap (λ (x : Fraction). x.num) (sym (longer.same var)) ∙ e);
  named_all = λ var missing. longer.same var ∙ table.named_all var missing;
  below = λ k d within. let less = table.below k d within in let most = longer.longer in omega (arith, less, most);
  counted = table.counted ∙ ap length (sym (longer.same_terms 0));
}

-- another coefficient of a variable
module _ (coefs : List Fraction) (named : List ℕ) (count var : ℕ) (x : Fraction) (table : IsTable coefs named count) (below : var < length coefs) where
  abbrev pub old : Fraction
  old = get_or coefs var zero_value

  abbrev pub is_new : Bool
  is_new = nat_lt (weight old) (weight x)

  pub set_terms : terms_of (set coefs var (tidied x)) ≡ with_coefficient var x (terms_of coefs)
  set_terms = with_set var (tidied x) coefs below ∙ with_tidied var x (terms_of coefs)

  set_tidy : AreTidy (set coefs var (tidied x))
  set_tidy = λ other e. both other e (other == var) refl where
    both : (other : ℕ) → IsNone (get_or (set coefs var (tidied x)) other zero_value) → (b : Bool) → (other == var) ≡ b
        → get_or (set coefs var (tidied x)) other zero_value ≡ zero_value
    both other e true at =
        let here : get_or (set coefs var (tidied x)) other zero_value ≡ tidied x =
        ap (λ (v : ℕ). get_or (set coefs var (tidied x)) v zero_value) (eqb-true other var at) ∙ get_or-set_same coefs var (tidied x) zero_value below in
        here ∙ tidied_tidy x (ap (λ (y : Fraction). y.num) (sym here) ∙ e)
    both other e false at =
        let same : get_or (set coefs var (tidied x)) other zero_value ≡ get_or coefs other zero_value =
        get_or-set_other coefs var other (tidied x) zero_value (eqb-false other var at) in
        same ∙ table.tidy other (ap (λ (y : Fraction). y.num) (sym same) ∙ e)

  -- a variable that isn't among the old and the new names
  not_old : (b : Bool) (other : ℕ) → (IsNamedFrom 0 (named_with b named var) other → ⊥) → IsNamedFrom 0 named other → ⊥
  not_old true other missing at =
      let more = length_push named var in
      let less = at.2 in
      missing (at.0, at.1, omega (arith, more, less), get_or-append named (var ∷ []) other at.0 less ∙ at.3)
  not_old false other missing at = missing at

  not_new : (b : Bool) → is_new ≡ b → (IsNamedFrom 0 (named_with b named var) var → ⊥) → tidied x ≡ zero_value
  not_new true e missing =
      let more = length_push named var in
      absurd (missing (length named, omega arith, omega (arith, more), get_or_push named var var (length named) refl))
  not_new false e missing =
      let unnamed : old ≡ zero_value = table.named_all var missing in
      let none : weight old ≡ 0 = ap weight unnamed in
      let most = ltb-false (weight old) (weight x) e in
      by_test (λ y. y ≡ zero_value) x (λ zero. refl) (λ some. let one = weight_some x some in absurd (omega (arith, none, most, one)))

  set_named : (b : Bool) → is_new ≡ b → AreNamedFrom 0 (named_with b named var) (set coefs var (tidied x))
  set_named b e = λ other missing. both other missing (other == var) refl where
    both : (other : ℕ) → (IsNamedFrom 0 (named_with b named var) other → ⊥) → (c : Bool) → (other == var) ≡ c
        → get_or (set coefs var (tidied x)) other zero_value ≡ zero_value
    both other missing true at =
        let same = eqb-true other var at in
        ap (λ (v : ℕ). get_or (set coefs var (tidied x)) v zero_value) same ∙ get_or-set_same coefs var (tidied x) zero_value below
        ∙ not_new b e (subst (λ (v : ℕ). IsNamedFrom 0 (named_with b named var) v → ⊥) same missing)
    both other missing false at =
        get_or-set_other coefs var other (tidied x) zero_value (eqb-false other var at) ∙ table.named_all other (not_old b other missing)

  set_below : (b : Bool) → AreBelow (length (set coefs var (tidied x))) (named_with b named var)
  set_below true =
      let len = length-set coefs var (tidied x) in
      All-push (λ (v : ℕ). v < length (set coefs var (tidied x))) named var
      (subst (λ (n : ℕ). AreBelow n named) (sym len) table.below) (omega (arith, len, below))
  set_below false = subst (λ (n : ℕ). AreBelow n named) (sym (length-set coefs var (tidied x))) table.below

  pub set_count : length (terms_of (set coefs var (tidied x))) + weight old ≡ count + weight x
  set_count =
      let all = counted var x coefs in
      let terms = ap length set_terms in
      let so_far = table.counted in
      omega (arith, all, terms, so_far)

  pub set_table : (new_count : ℕ) → new_count + weight old ≡ count + weight x
      → IsTable (set coefs var (tidied x)) (named_with is_new named var) new_count
  set_table new_count counts =
      let all = set_count in
      record {
        tidy = set_tidy;
        named_all = set_named is_new refl;
        below = set_below is_new;
        counted = omega (arith, all, counts);
      }

-- the fields behind the step
module _ {coefs long : List Fraction} {named : List ℕ} {count var so_far now : ℕ} (x : Fraction) (table : IsTable coefs named count)
    (longer : IsLonger coefs long) (below : var < length long) (so_far_is : so_far ≡ weight (get_or long var zero_value)) (now_is : now ≡ weight x) where
  long_table : IsTable long named count
  long_table = table_longer coefs long named count longer table

  pub so_far_within : so_far ≤ count + now
  so_far_within = let all = set_count long named count var x long_table below in omega (arith, all, so_far_is, now_is)

  pub table_behind : {names : List ℕ} {y : Fraction} → names ≡ named_with (nat_lt so_far now) named var → y ≡ tidied x
      → IsTable (set long var y) names (count + now - so_far)
  table_behind {names} {y} names_are y_is =
      let all = set_count long named count var x long_table below in
      let counts : (count + now - so_far) + weight (get_or long var zero_value) ≡ count + weight x = omega (arith, all, so_far_is, now_is) in
      let told : named_with (nat_lt (weight (get_or long var zero_value)) (weight x)) named var ≡ names =
      ap₂ (λ (a b : ℕ). named_with (nat_lt a b) named var) (sym so_far_is) (sym now_is) ∙ sym names_are in
      subst (λ (z : Fraction). IsTable (set long var z) names (count + now - so_far)) (sym y_is)
      (subst (λ (l : List ℕ). IsTable (set long var (tidied x)) l (count + now - so_far)) told
      (set_table long named count var x long_table below (count + now - so_far) counts))

  pub terms_behind : {y : Fraction} → y ≡ tidied x → terms_of (set long var y) ≡ with_coefficient var x (terms_of coefs)
  terms_behind y_is =
      ap (λ (z : Fraction). terms_of (set long var z)) y_is ∙ set_terms long named count var x long_table below
      ∙ ap (with_coefficient var x) (longer.same_terms 0)
