-- The own point of a dictionary, and the points that a column leads to.
use Rattle.std.proofs.Common.{◌≡◌, ◌≢◌, ⊎_elim, ◌∙◌, refl, sym, ap, ap₂, subst, ℕ, suc, ◌+◌, ◌<◌, ◌==◌, List, [], ◌∷◌, ◌++◌, length, length-append, length-drop, length-take-le, take, drop, get_or-append-add, get_or-drop, get_or-take, slice_index, slice_index_or, All, AllPairs, arith, ne_eqb, eq-eqb}
use Rattle.std.specs.List.{position_or_len}
use Rattle.std.proofs.lemmas.Bool.{cases_lt}
use Rattle.std.proofs.lemmas.List.{get_or_append_left, get_or_past}
use Rattle.std.proofs.lemmas.List.Elements.{All-get_or, All-head, All-tail}
use Rattle.std.proofs.lemmas.List.Sums.{position_or_len_is}
use Rattle.frac128.specs.Fraction.{Fraction, exact_sum, zero_value}
use Rattle.frac128.specs.Order.{IsAtMost}
use Rattle.frac128.proofs.Field.{apart_of-product, apart_of-zero, exact_product-zero_left, exact_product-zero_right, exact_sum-zero_left, exact_sum-zero_right}
use Rattle.frac128.proofs.Ordered.{IsAtMost-product, IsAtMost-self, IsAtMost-sums}
use Rattle.dictionary.specs.Dictionary.{Dictionary, entry}
use Rattle.dictionary.specs.Solutions.{HasFeasibleConstants, HasNoRise, IsFeasible, IsLawful, Point, Solves, objective_at, own_point, sum_at}
use Rattle.frac128.specs.Lowest.{IsInLowestTerms}
use Rattle.dictionary.proofs.Points.Lawful.{IsWide}
use Rattle.dictionary.proofs.Points.PivotLaw.{solves_from_true}
use Rattle.frac128.proofs.Sums.{minus, minus-none, ◌⊕◌, ◌⊗◌}
use Rattle.dictionary.proofs.Points.Turned.{sum_at-place, total}

-- ---- where a variable stands

abbrev pub place_of : List ℕ → ℕ → ℕ
place_of basic v = position_or_len (λ b. b == v) basic

abbrev Distinct : List ℕ → Type 0
Distinct xs = AllPairs (λ v w. v ≢ w) xs

pub distinct_left : (xs ys : List ℕ) (i j : ℕ) → Distinct (xs ++ ys) → i < j → j < length xs → slice_index xs i ≢ slice_index xs j
distinct_left xs ys i j distinct below within same =
    distinct i j 0 below (omega (arith, within, length-append xs ys))
    (get_or_append_left xs ys 0 i (omega (arith, below, within)) ∙ same ∙ sym (get_or_append_left xs ys 0 j within))

pub distinct_right : (xs ys : List ℕ) (i j : ℕ) → Distinct (xs ++ ys) → i < j → j < length ys → slice_index ys i ≢ slice_index ys j
distinct_right xs ys i j distinct below within same =
    distinct (length xs + i) (length xs + j) 0 (omega (arith, below)) (omega (arith, within, length-append xs ys))
    (get_or-append-add xs ys i 0 ∙ same ∙ sym (get_or-append-add xs ys j 0))

pub distinct_parts : (xs ys : List ℕ) (i j : ℕ) → Distinct (xs ++ ys) → i < length xs → j < length ys → slice_index xs i ≢ slice_index ys j
distinct_parts xs ys i j distinct within column_within same =
    distinct i (length xs + j) 0 (omega (arith, within)) (omega (arith, column_within, length-append xs ys))
    (get_or_append_left xs ys 0 i within ∙ same ∙ sym (get_or-append-add xs ys j 0))

pub place-basic : (xs ys : List ℕ) (i : ℕ) → Distinct (xs ++ ys) → i < length xs → place_of xs (slice_index xs i) ≡ i
place-basic xs ys i distinct within =
    position_or_len_is (λ b. b == slice_index xs i) xs i 0 (omega (arith, within)) (λ k below. ne_eqb _ _ (distinct_left xs ys k i distinct below within)) (λ _. eq-eqb _ _ refl)

pub place-nonbasic : (xs ys : List ℕ) (j : ℕ) → Distinct (xs ++ ys) → j < length ys → place_of xs (slice_index ys j) ≡ length xs
place-nonbasic xs ys j distinct within =
    position_or_len_is (λ b. b == slice_index ys j) xs (length xs) 0 (omega arith) (λ k below. ne_eqb _ _ (distinct_parts xs ys k j distinct below within)) (λ past. absurd (omega (arith, past)))

-- ---- sums where most variables are 0

pub sum_at-none : (x : Point) (vs : List ℕ) (coefs : List Fraction) → ((k : ℕ) → k < length vs → x (slice_index vs k) ≡ zero_value) → sum_at x vs coefs ≡ zero_value
sum_at-none x [] coefs none = refl
sum_at-none x (v ∷ vs) [] none = refl
sum_at-none x (v ∷ vs) (a ∷ coefs) none =
    ap₂ exact_sum (ap (λ y. a ⊗ y) (none 0 (omega arith)) ∙ exact_product-zero_right a) (sum_at-none x vs coefs (λ k within. none (suc k) (omega (arith, within))))
    ∙ exact_sum-zero_right zero_value apart_of-zero

pub sum_at-one : (x : Point) (j : ℕ) (vs : List ℕ) (coefs : List Fraction) → j < length vs → length coefs ≡ length vs → ((k : ℕ) → k < length vs → (k ≡ j → ⊥) → x (slice_index vs k) ≡ zero_value)
    → sum_at x vs coefs ≡ entry coefs j ⊗ x (slice_index vs j)
sum_at-one x j vs coefs within same none =
    let a = entry coefs j ⊗ x (slice_index vs j) in
    sum_at-place x j vs coefs within same
    ∙ ap (λ s. s ⊕ a) (ap₂ exact_sum (sum_at-none x (take j vs) (take j coefs) front) (sum_at-none x (drop (suc j) vs) (drop (suc j) coefs) behind) ∙ exact_sum-zero_right zero_value apart_of-zero)
    ∙ exact_sum-zero_left a (apart_of-product (entry coefs j) (x (slice_index vs j)))
  where
    front : (k : ℕ) → k < length (take j vs) → x (slice_index (take j vs) k) ≡ zero_value
    front k below =
        let less : k < j = omega (arith, below, length-take-le j vs (omega arith)) in
        ap x (get_or-take j vs k 0 less) ∙ none k (omega (arith, less, within)) (omega (arith, less))

    behind : (k : ℕ) → k < length (drop (suc j) vs) → x (slice_index (drop (suc j) vs) k) ≡ zero_value
    behind k below =
        ap x (get_or-drop (suc j) vs k 0) ∙ none (suc j + k) (omega (arith, below, length-drop (suc j) vs)) (omega arith)

-- ---- signs

-- what no coefficient makes greater
sum_at-at_most : (x : Point) (vs : List ℕ) (coefs : List Fraction) → All (λ a. IsAtMost a zero_value) coefs → ((v : ℕ) → IsAtMost zero_value (x v)) → IsAtMost (sum_at x vs coefs) zero_value
sum_at-at_most x [] coefs low high = IsAtMost-self zero_value
sum_at-at_most x (v ∷ vs) [] low high = IsAtMost-self zero_value
sum_at-at_most x (v ∷ vs) (a ∷ coefs) low high =
    subst (IsAtMost (a ⊗ x v ⊕ sum_at x vs coefs)) (exact_sum-zero_right zero_value apart_of-zero)
    (IsAtMost-sums (a ⊗ x v) zero_value (sum_at x vs coefs) zero_value
    (subst (IsAtMost (a ⊗ x v)) (exact_product-zero_left (x v)) (IsAtMost-product a zero_value (x v) (high v) (All-head (λ b. IsAtMost b zero_value) a coefs low)))
    (sum_at-at_most x vs coefs (All-tail (λ b. IsAtMost b zero_value) a coefs low) high))

-- a row that no column makes greater is at most its constant
pub total-at_most : (x : Point) (vs : List ℕ) (row : List Fraction) → IsInLowestTerms (entry row 0) → HasNoRise row → ((v : ℕ) → IsAtMost zero_value (x v)) → IsAtMost (total x vs row) (entry row 0)
total-at_most x vs row low falls high =
    subst (IsAtMost (total x vs row)) (exact_sum-zero_right (entry row 0) low)
    (IsAtMost-sums (entry row 0) (entry row 0) (sum_at x vs (drop 1 row)) zero_value (IsAtMost-self (entry row 0)) (sum_at-at_most x vs (drop 1 row) falls high))

-- ---- the own point

-- what holds of 0 and of all constants holds of all its values
own_point-all : (P : Fraction → Type 0) (d : Dictionary) (v : ℕ) → P zero_value → All (λ row. P (entry row 0)) d.rows → P (own_point d v)
own_point-all P d v none all =
    ⊎_elim
    (λ within. All-get_or (λ row. P (entry row 0)) d.rows (place_of d.basic v) [] within all)
    (λ past. subst (λ row. P (entry row 0)) (sym (get_or_past d.rows (place_of d.basic v) [] past)) none)
    (cases_lt (place_of d.basic v) (length d.rows))

pub own_point-basic : (d : Dictionary) (i : ℕ) → IsLawful d → i < length d.basic → own_point d (slice_index d.basic i) ≡ entry (slice_index_or d.rows i []) 0
own_point-basic d i lawful within = ap (λ place. entry (slice_index_or d.rows place []) 0) (place-basic d.basic d.nonbasic i lawful.distinct within)

pub own_point-nonbasic : (d : Dictionary) (j : ℕ) → IsLawful d → j < length d.nonbasic → own_point d (slice_index d.nonbasic j) ≡ zero_value
own_point-nonbasic d j lawful within =
    let same = lawful.shape.rows in
    ap (λ place. entry (slice_index_or d.rows place []) 0) (place-nonbasic d.basic d.nonbasic j lawful.distinct within)
    ∙ ap (λ row. entry row 0) (get_or_past d.rows (length d.basic) [] (omega (arith, same)))

pub own_columns-none : (d : Dictionary) (coefs : List Fraction) → IsLawful d → sum_at (own_point d) d.nonbasic coefs ≡ zero_value
own_columns-none d coefs lawful = sum_at-none (own_point d) d.nonbasic coefs (λ k within. own_point-nonbasic d k lawful within)

-- each row's constant, and that of an objective, is in lowest terms
pub constant-wide : (n : ℕ) (row : List Fraction) → IsWide n row → All IsInLowestTerms row → IsInLowestTerms (entry row 0)
constant-wide n row wide low = All-get_or IsInLowestTerms row 0 zero_value (omega (arith, wide)) low

pub constants-reduced : (d : Dictionary) → IsLawful d → All (λ row. IsInLowestTerms (entry row 0)) d.rows
constants-reduced d lawful k e within =
    constant-wide (length d.nonbasic) (slice_index_or d.rows k e) (lawful.shape.row_entries k e within) (lawful.reduced.rows k e within)

pub objective-reduced : (d : Dictionary) → IsLawful d → IsInLowestTerms (entry d.objective 0)
objective-reduced d lawful =
    constant-wide (length d.nonbasic) d.objective lawful.shape.objective_entries lawful.reduced.objective

pub own_point-solves : (d : Dictionary) → IsLawful d → Solves d (own_point d)
own_point-solves d lawful =
    let low = constants-reduced d lawful in
    let same = lawful.shape.rows in
    solves_from_true d (own_point d) (λ v. own_point-all IsInLowestTerms d v apart_of-zero low)
    (λ i within.
    let k = entry (slice_index_or d.rows i []) 0 in
    own_point-basic d i lawful within
    ∙ sym (ap (λ s. k ⊕ minus s) (own_columns-none d (drop 1 (slice_index_or d.rows i [])) lawful) ∙ minus-none k (All-get_or (λ row. IsInLowestTerms (entry row 0)) d.rows i [] (omega (arith, same, within)) low)))

pub own_point-feasible : (d : Dictionary) → IsLawful d → HasFeasibleConstants d → IsFeasible d (own_point d)
own_point-feasible d lawful constants = record {
  solves = own_point-solves d lawful;
  at_least_zero = λ v. own_point-all (IsAtMost zero_value) d v (IsAtMost-self zero_value) constants;
}

pub own_point-value : (d : Dictionary) → IsLawful d → objective_at d (own_point d) ≡ entry d.objective 0
own_point-value d lawful =
    ap (λ s. entry d.objective 0 ⊕ s) (own_columns-none d (drop 1 d.objective) lawful) ∙ exact_sum-zero_right (entry d.objective 0) (objective-reduced d lawful)
