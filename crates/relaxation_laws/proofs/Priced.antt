-- The weights of a dictionary's row make an objective of the form's rows and columns: two affine functions that agree at all
-- solutions have the same coefficients, which is seen where the columns are 0, and where one of them is 1.
use Rattle.std.proofs.Common.{◌≡◌, ◌≢◌, ◌∙◌, ⊎_elim, refl, sym, ap, ap₂, subst, ℕ, zero, suc, ◌+◌, ◌<◌, ◌≤◌, cond, List, [], ◌∷◌, length, length-set, map, drop, replicate, get_or, slice_index_or, slice_set, All, AllPairs, Option, Some, None, arith, nat_lt, ◌⊎◌, length-append, get_or-append-add}
use Rattle.std.proofs.lemmas.Bool.{cases_lt, le-ltb, lt-ltb}
use Rattle.std.proofs.lemmas.List.{get_or-map, get_or_past, length-map, length-replicate}
use Rattle.std.proofs.lemmas.List.Elements.{All-head, All-map, All-replicate, All-tail}
use Rattle.frac128.specs.Fraction.{Fraction, exact_difference, negation, one_value, zero_value}
use Rattle.frac128.specs.Lowest.{IsInLowestTerms}
use Rattle.frac128.proofs.Field.{apart_of-product, apart_of-sum, apart_of-zero, exact_product-negation_left, exact_product-sum_right, exact_product-zero_right, exact_product_comm, exact_sum-zero_left, exact_sum-zero_right, negation-negation}
use Rattle.frac128.proofs.Sums.{minus, minus-sum, minus_is, product-minus, sum-minus, sums, total, total-same, ◌⊕◌, ◌⊗◌}
use Rattle.dictionary.specs.declared.standard.Std.{Std}
use Rattle.dictionary.specs.declared.standard.StdRow.{StdRow}
use Rattle.dictionary.specs.Dictionary.{Dictionary, IsUniform, entry, numbers_from}
use Rattle.dictionary.specs.Solutions.{HasReducedNumbers, IsLawful, Point, total_at}
use Rattle.dictionary.proofs.Opened.{length-numbers_from}
use Rattle.dictionary.proofs.Points.Lawful.{All-right, IsWide, wide_entries}
use Rattle.dictionary.proofs.Points.OwnPoint.{place_of}
use Rattle.dictionary.proofs.Points.Turned.{entry-behind}
use Rattle.solve_defs.specs.Columns.{columns_sum}
use Rattle.solve_defs.specs.Ends.{column_of, duals, weight_in, weight_of}
use Rattle.solve_defs.specs.Values.{value_at}
use Rattle.solve_defs.proofs.FormSums.{columns_sum_low, one_column}
use Rattle.solve_defs.proofs.Places.{places}
use Rattle.solve_defs.proofs.FormBounds.{low_negation}
use Rattle.relaxation_laws.specs.FormPoints.{form_point}
use Rattle.relaxation_laws.specs.FormWeights.{Prices, weighted, weighted_sides, weighted_values}
use Rattle.relaxation_laws.specs.Reached.{Relaxes}
use Rattle.relaxation_laws.proofs.Bridge.{left_over, slack_is, value_column, value_slack}
use Rattle.relaxation_laws.proofs.ByIndex.{by_index, in_parts, look}

-- ---- factors

pub lowest_product : (a x : Fraction) → a ⊗ (zero_value ⊕ x) ≡ a ⊗ x
lowest_product a x =
    exact_product-sum_right a zero_value x ∙ ap (λ t. t ⊕ a ⊗ x) (exact_product-zero_right a) ∙ exact_sum-zero_left (a ⊗ x) (apart_of-product a x)

-- ---- weighted rows

pub weighted_low : (part : StdRow → Fraction) (rows : List StdRow) (ys : List Fraction) → IsInLowestTerms (weighted part rows ys)
weighted_low part [] ys = apart_of-zero
weighted_low part (row ∷ rows) [] = apart_of-zero
weighted_low part (row ∷ rows) (y ∷ ys) = apart_of-sum _ _

pub weighted-same : (part other : StdRow → Fraction) (rows : List StdRow) (ys : List Fraction) → All (λ row. part row ≡ other row) rows → weighted part rows ys ≡ weighted other rows ys
weighted-same part other [] ys all = refl
weighted-same part other (row ∷ rows) [] all = refl
weighted-same part other (row ∷ rows) (y ∷ ys) all =
    ap₂ (λ p q. y ⊗ p ⊕ q) (All-head (λ r. part r ≡ other r) row rows all) (weighted-same part other rows ys (All-tail (λ r. part r ≡ other r) row rows all))

less_zero : zero_value ≡ zero_value ⊕ minus zero_value
less_zero = sym (sum-minus zero_value)

pub weighted-less : (part other : StdRow → Fraction) (rows : List StdRow) (ys : List Fraction) → weighted (λ row. part row ⊕ minus (other row)) rows ys ≡ weighted part rows ys ⊕ minus (weighted other rows ys)
weighted-less part other [] ys = less_zero
weighted-less part other (row ∷ rows) [] = less_zero
weighted-less part other (row ∷ rows) (y ∷ ys) =
    ap₂ (λ p q. p ⊕ q) (exact_product-sum_right y (part row) (minus (other row)) ∙ ap (λ s. y ⊗ part row ⊕ s) (product-minus y (other row))) (weighted-less part other rows ys)
    ∙ turned (y ⊗ part row) (y ⊗ other row) (weighted part rows ys) (weighted other rows ys)
  where
    turned : (p q r s : Fraction) → (p ⊕ minus q) ⊕ (r ⊕ minus s) ≡ (p ⊕ r) ⊕ minus (q ⊕ s)
    turned p q r s = simp sums

-- ---- the slacks' part

slack_part : (g : ℕ → Fraction) (x : Point) (part : StdRow → Fraction) (first : ℕ) (rows : List StdRow) → ((i : ℕ) (row : StdRow) → i < length rows → x (first + i) ≡ part (get_or rows i row))
    → total (λ u. negation (g u) ⊗ x u) (places first (length rows)) ≡ minus (weighted part rows (map g (numbers_from first (length rows))))
slack_part g x part first [] has = sym (minus_is zero_value)
slack_part g x part first (row ∷ rows) has =
    ap₂ (λ p q. p ⊕ q) (exact_product-negation_left (g first) (x first) ∙ sym (minus_is (g first ⊗ x first)) ∙ ap (λ y. minus (g first ⊗ y)) (ap x (start first) ∙ has 0 row (omega arith)))
    (slack_part g x part (suc first) rows (λ i r within. ap x (next first i) ∙ has (suc i) r (omega (arith, within))))
    ∙ sym (minus-sum (g first ⊗ part row) (weighted part rows (map g (numbers_from (suc first) (length rows)))))
  where
    start : (k : ℕ) → k ≡ k + 0
    start k = omega arith

    next : (k i : ℕ) → suc k + i ≡ k + suc i
    next k i = omega arith

-- ---- weights and coefficients

coefficient_is : (d : Dictionary) (row : List Fraction) → IsWide (length d.nonbasic) row → (u : ℕ) → look d.nonbasic (drop 1 row) u ≡ negation (weight_of d row u)
coefficient_is d row wide u = by_place (place_of d.nonbasic u) (cases_lt (place_of d.nonbasic u) (length d.nonbasic))
  where
    by_place : (p : ℕ) → (p < length d.nonbasic) ⊎ (length d.nonbasic ≤ p) → entry (drop 1 row) p ≡ negation (weight_in row (cond (nat_lt p (length d.nonbasic)) (Some p) None))
    by_place p cases =
        ⊎_elim
        (λ within. entry-behind p row ∙ sym (ap (λ b. negation (weight_in row (cond b (Some p) None))) (lt-ltb p (length d.nonbasic) within) ∙ negation-negation (entry row (suc p))))
        (λ past. entry-behind p row ∙ get_or_past row (suc p) zero_value (omega (arith, past, wide)) ∙ sym (ap (λ b. negation (weight_in row (cond b (Some p) None))) (le-ltb p (length d.nonbasic) past)))
        cases

-- a row's total by the weights
total_is : (s : Std) (d : Dictionary) (row : List Fraction) (x : Point) → Relaxes s d → IsWide (length d.nonbasic) row → x 0 ≡ zero_value
    → total_at d x row ≡ entry row 0 ⊕ (total (λ u. negation (weight_of d row u) ⊗ x u) (places 1 (length s.obj)) ⊕ total (λ u. negation (weight_of d row u) ⊗ x u) (places (suc (length s.obj)) (length s.rows)))
total_is s d row x h wide none =
    let bound : ℕ → Type 0 = λ v. v ≤ length s.obj + length s.rows in
    ap (λ t. entry row 0 ⊕ t)
    (by_index x (length s.obj + length s.rows) d.nonbasic (drop 1 row) (wide_entries (length d.nonbasic) row wide) (right_pairs d h.lawful) (All-right bound d.basic d.nonbasic h.variables) none
    ∙ total-same (λ u. look d.nonbasic (drop 1 row) u ⊗ x u) (λ u. negation (weight_of d row u) ⊗ x u) (places 1 (length s.obj + length s.rows)) (λ u. ap (λ c. c ⊗ x u) (coefficient_is d row wide u))
    ∙ in_parts (λ u. negation (weight_of d row u) ⊗ x u) (length s.obj) (length s.rows))
  where
    right_pairs : (e : Dictionary) → IsLawful e → AllPairs (λ v w. v ≢ w) e.nonbasic
    right_pairs e lawful i j d2 below within same =
        lawful.distinct (length e.basic + i) (length e.basic + j) d2 (omega (arith, below)) (omega (arith, within, length-append e.basic e.nonbasic))
        (get_or-append-add e.basic e.nonbasic i d2 ∙ same ∙ sym (get_or-append-add e.basic e.nonbasic j d2))

-- ---- the columns' part

column_part : (g : ℕ → Fraction) (x : Point) (first : ℕ) (ts : List Fraction) → ((i : ℕ) → i < length ts → x (first + i) ≡ get_or ts i zero_value)
    → total (λ u. negation (g u) ⊗ x u) (places first (length ts)) ≡ minus (columns_sum (map g (numbers_from first (length ts))) ts)
column_part g x first [] has = sym (minus_is zero_value)
column_part g x first (t ∷ ts) has =
    ap₂ (λ p q. p ⊕ q) (exact_product-negation_left (g first) (x first) ∙ sym (minus_is (g first ⊗ x first)) ∙ ap (λ y. minus (g first ⊗ y)) (ap x (start first) ∙ has 0 (omega arith)))
    (column_part g x (suc first) ts (λ i within. ap x (next first i) ∙ has (suc i) (omega (arith, within))))
    ∙ sym (minus-sum (g first ⊗ t) (columns_sum (map g (numbers_from (suc first) (length ts))) ts))
  where
    start : (k : ℕ) → k ≡ k + 0
    start k = omega arith

    next : (k i : ℕ) → suc k + i ≡ k + suc i
    next k i = omega arith

abbrev row_weights_of : Std → Dictionary → List Fraction → List Fraction
row_weights_of s d row = map (weight_of d row) (numbers_from (suc (length s.obj)) (length s.rows))

abbrev column_weights_of : Std → Dictionary → List Fraction → List Fraction
column_weights_of s d row = map (weight_of d row) (numbers_from 1 (length s.obj))

-- a row's total where the columns have these values
total_at_values : (s : Std) (d : Dictionary) (row ts : List Fraction) → Relaxes s d → IsWide (length d.nonbasic) row → length ts ≡ length s.obj
    → total_at d (form_point s ts) row ≡ entry row 0 ⊕ (minus (columns_sum (column_weights_of s d row) ts) ⊕ minus (weighted (left_over ts) s.rows (row_weights_of s d row)))
total_at_values s d row ts h wide same =
    let x = form_point s ts in
    let g = weight_of d row in
    total_is s d row x h wide refl
    ∙ ap₂ (λ p q. entry row 0 ⊕ (p ⊕ q))
    (subst (λ n. total (λ u. negation (g u) ⊗ x u) (places 1 n) ≡ minus (columns_sum (map g (numbers_from 1 n)) ts)) same (column_part g x 1 ts (λ i within. value_column s ts i within)))
    (slack_part g x (left_over ts) (suc (length s.obj)) s.rows (λ i r within. ap (λ n. x (suc n + i)) (sym same) ∙ value_slack s ts i ∙ slack_is s ts i r within))

-- ---- the columns at 0, and one of them at 1

pub columns_sum-comm : (xs ys : List Fraction) → columns_sum xs ys ≡ columns_sum ys xs
columns_sum-comm [] [] = refl
columns_sum-comm [] (y ∷ ys) = refl
columns_sum-comm (x ∷ xs) [] = refl
columns_sum-comm (x ∷ xs) (y ∷ ys) = ap₂ (λ p q. p ⊕ q) (exact_product_comm x y) (columns_sum-comm xs ys)

none_sum : (coefs : List Fraction) (n : ℕ) → columns_sum coefs (replicate n zero_value) ≡ zero_value
none_sum [] n = refl
none_sum (a ∷ coefs) zero = refl
none_sum (a ∷ coefs) (suc n) = ap₂ (λ p q. p ⊕ q) (exact_product-zero_right a) (none_sum coefs n) ∙ exact_sum-zero_right zero_value apart_of-zero

pub unit : ℕ → ℕ → List Fraction
unit n j = slice_set (replicate n zero_value) j one_value

unit_sum : (coefs : List Fraction) (n j : ℕ) → length coefs ≡ n → j < n → IsInLowestTerms (value_at coefs j) → columns_sum coefs (unit n j) ≡ value_at coefs j
unfolding unit
unit_sum coefs n j same within low =
    subst (λ k. columns_sum coefs (slice_set (replicate k zero_value) j one_value) ≡ value_at coefs j) same
    (columns_sum-comm coefs (slice_set (replicate (length coefs) zero_value) j one_value) ∙ one_column j coefs (omega (arith, same, within)) low)

pub unit_length : (n j : ℕ) → length (unit n j) ≡ n
unfolding unit
unit_length n j = length-set (replicate n zero_value) j one_value ∙ length-replicate n zero_value

-- ---- reduced weights

pub weight_low : (d : Dictionary) (row : List Fraction) → All IsInLowestTerms row → (u : ℕ) → IsInLowestTerms (weight_of d row u)
weight_low d row low u = of_option (column_of d u)
  where
    of_option : (o : Option ℕ) → IsInLowestTerms (weight_in row o)
    of_option None = apart_of-zero
    of_option (Some p) = low_negation (entry row (suc p)) (read (cases_lt (suc p) (length row)))
      where
        read : (suc p < length row) ⊎ (length row ≤ suc p) → IsInLowestTerms (entry row (suc p))
        read cases = ⊎_elim (λ within. low (suc p) zero_value within) (λ past. subst IsInLowestTerms (sym (get_or_past row (suc p) zero_value past)) apart_of-zero) cases

-- ---- the coefficients

-- the row is k and the coefficients at each solution where the columns have these values
abbrev pub Agrees : Std → Dictionary → List Fraction → Fraction → List Fraction → Type 0
Agrees s d row k coefs = (ts : List Fraction) → length ts ≡ length s.obj → All IsInLowestTerms ts → total_at d (form_point s ts) row ≡ k ⊕ columns_sum coefs ts

side_from : (k total w : Fraction) → IsInLowestTerms k → IsInLowestTerms total → IsInLowestTerms w → total ⊕ (minus zero_value ⊕ minus w) ≡ k ⊕ zero_value → total ≡ k ⊕ w
side_from k total w low_k low low_w h =
    sym (exact_sum-zero_right total low) ∙ ap (λ s. total ⊕ s) (sym (sum-minus w)) ∙ turned total w
    ∙ ap (λ s. s ⊕ w) (ap (λ s. total ⊕ s) (sym less_none) ∙ h ∙ exact_sum-zero_right k low_k)
  where
    turned : (p q : Fraction) → p ⊕ (q ⊕ minus q) ≡ (p ⊕ minus q) ⊕ q
    turned p q = simp sums

    less_none : minus zero_value ⊕ minus w ≡ minus w
    less_none =
        let negated = low_negation w low_w in
        ap (λ s. s ⊕ minus w) (minus_is zero_value) ∙ exact_sum-zero_left (minus w) (subst (λ s. IsInLowestTerms s) (sym (minus_is w)) negated)

coefficient_from : (k w a r c : Fraction) → IsInLowestTerms c → (k ⊕ w) ⊕ (minus r ⊕ minus (w ⊕ minus a)) ≡ k ⊕ c → c ≡ a ⊕ minus r
coefficient_from k w a r c low h =
    sym (taken c low) ∙ ap (λ s. minus k ⊕ s) (sym h ∙ turned k w a r ∙ ap (λ s. s ⊕ (k ⊕ (a ⊕ minus r))) (sum-minus w) ∙ exact_sum-zero_left (k ⊕ (a ⊕ minus r)) (apart_of-sum k (a ⊕ minus r)))
    ∙ taken (a ⊕ minus r) (apart_of-sum a (minus r))
  where
    taken : (q : Fraction) → IsInLowestTerms q → minus k ⊕ (k ⊕ q) ≡ q
    taken q low_q = again k q ∙ ap (λ s. s ⊕ q) (sum-minus k) ∙ exact_sum-zero_left q low_q
      where
        again : (p t : Fraction) → minus p ⊕ (p ⊕ t) ≡ (p ⊕ minus p) ⊕ t
        again p t = simp sums

    turned : (p q s t : Fraction) → (p ⊕ q) ⊕ (minus t ⊕ minus (q ⊕ minus s)) ≡ (q ⊕ minus q) ⊕ (p ⊕ (s ⊕ minus t))
    turned p q s t = simp sums

-- the right sides where the columns are 0, and what the rows leave of them elsewhere
sides_at_none : (s : Std) (n : ℕ) (ys : List Fraction) → HasReducedNumbers s → weighted (left_over (replicate n zero_value)) s.rows ys ≡ weighted_sides s ys
sides_at_none s n ys low =
    weighted-same (left_over (replicate n zero_value)) (λ row. row.rhs) s.rows ys
    (λ k e within. let side = low.sides k e within in let row = slice_index_or s.rows k e in
    ap (λ t. row.rhs ⊕ negation t) (none_sum row.coefs n) ∙ exact_sum-zero_right row.rhs side)

sides_at : (s : Std) (ts ys : List Fraction) → weighted (left_over ts) s.rows ys ≡ weighted_sides s ys ⊕ minus (weighted_values s ys ts)
sides_at s ts ys =
    weighted-same (left_over ts) (λ row. row.rhs ⊕ minus (columns_sum row.coefs ts)) s.rows ys
    (λ k e below. let row = slice_index_or s.rows k e in ap (λ t. row.rhs ⊕ t) (sym (minus_is (columns_sum row.coefs ts))))
    ∙ weighted-less (λ row. row.rhs) (λ row. columns_sum row.coefs ts) s.rows ys

-- values in lowest terms do
pub lowest : List Fraction → List Fraction
lowest ts = map (λ t. zero_value ⊕ t) ts

pub lowest_sum : (coefs ts : List Fraction) → columns_sum coefs (lowest ts) ≡ columns_sum coefs ts
unfolding lowest
lowest_sum [] ts = refl
lowest_sum (a ∷ coefs) [] = refl
lowest_sum (a ∷ coefs) (t ∷ ts) = ap₂ (λ p q. p ⊕ q) (lowest_product a t) (lowest_sum coefs ts)

pub lowest_low : (ts : List Fraction) → All IsInLowestTerms (lowest ts)
unfolding lowest
lowest_low ts = All-map IsInLowestTerms (λ t. zero_value ⊕ t) ts (λ k e within. apart_of-sum zero_value (slice_index_or ts k e))

pub lowest_length : (ts : List Fraction) → length (lowest ts) ≡ length ts
unfolding lowest
lowest_length ts = length-map ts (λ t. zero_value ⊕ t)

pub lowest_at : (ts : List Fraction) (j : ℕ) → j < length ts → value_at (lowest ts) j ≡ zero_value ⊕ value_at ts j
unfolding lowest
lowest_at ts j within = get_or-map (λ t. zero_value ⊕ t) ts j zero_value zero_value within

-- one value, brought to lowest terms
pub unit_value : (coefs : List Fraction) (j : ℕ) → j < length coefs → columns_sum coefs (unit (length coefs) j) ≡ zero_value ⊕ value_at coefs j
unit_value coefs j within =
    columns_sum-comm coefs (unit (length coefs) j) ∙ sym (lowest_sum (unit (length coefs) j) coefs) ∙ columns_sum-comm (unit (length coefs) j) (lowest coefs)
    ∙ unit_sum (lowest coefs) (length coefs) j (lowest_length coefs) within (lowest_low coefs j zero_value (omega (arith, within, lowest_length coefs))) ∙ lowest_at coefs j within

record IsPricedRow (s : Std) (d : Dictionary) (row : List Fraction) (k : Fraction) (coefs : List Fraction) : Type 0 where
  values : (ts : List Fraction) → length ts ≡ length s.obj → columns_sum coefs ts ≡ weighted_values s (row_weights_of s d row) ts ⊕ minus (columns_sum (column_weights_of s d row) ts)
  side : entry row 0 ≡ k ⊕ weighted_sides s (row_weights_of s d row)

priced_row : (s : Std) (d : Dictionary) (row : List Fraction) (k : Fraction) (coefs : List Fraction) → HasReducedNumbers s → Relaxes s d → IsWide (length d.nonbasic) row → All IsInLowestTerms row
    → IsInLowestTerms k → Agrees s d row k coefs → IsPricedRow s d row k coefs
priced_row s d row k coefs low h wide low_row low_k agrees =
    let n = length s.obj in
    let ys = row_weights_of s d row in
    let reduced = column_weights_of s d row in
    let side : entry row 0 ≡ k ⊕ weighted_sides s ys =
    side_from k (entry row 0) (weighted_sides s ys) low_k (low_row 0 zero_value (omega (arith, wide))) (weighted_low (λ r. r.rhs) s.rows ys)
    (sym (total_at_values s d row (replicate n zero_value) h wide (length-replicate n zero_value)
    ∙ ap₂ (λ p q. entry row 0 ⊕ (minus p ⊕ minus q)) (none_sum reduced n) (sides_at_none s n ys low))
    ∙ agrees (replicate n zero_value) (length-replicate n zero_value) (All-replicate IsInLowestTerms n zero_value apart_of-zero) ∙ ap (λ t. k ⊕ t) (none_sum coefs n)) in
    let at_low : (ts : List Fraction) → length ts ≡ n → All IsInLowestTerms ts → columns_sum coefs ts ≡ weighted_values s ys ts ⊕ minus (columns_sum reduced ts) =
    λ ts same low_ts.
    coefficient_from k (weighted_sides s ys) (weighted_values s ys ts) (columns_sum reduced ts) (columns_sum coefs ts) (columns_sum_low coefs ts)
    (sym (total_at_values s d row ts h wide same ∙ ap₂ (λ p q. p ⊕ (minus (columns_sum reduced ts) ⊕ minus q)) side (sides_at s ts ys)) ∙ agrees ts same low_ts) in
    record {
      values = λ ts same.
          sym (lowest_sum coefs ts) ∙ at_low (lowest ts) (lowest_length ts ∙ same) (lowest_low ts)
          ∙ ap₂ (λ p q. p ⊕ minus q) (weighted-same (λ r. columns_sum r.coefs (lowest ts)) (λ r. columns_sum r.coefs ts) s.rows ys (λ k2 e within. lowest_sum (slice_index_or s.rows k2 e).coefs ts)) (lowest_sum reduced ts);
      side = side;
    }

-- ---- as the weights are read off

rows_in : (s : Std) (d : Dictionary) → Relaxes s d → length d.rows ≡ length s.rows
rows_in s d h = let lawful = h.lawful in lawful.shape.rows ∙ h.rows

pub ys_are : (s : Std) (d : Dictionary) (row : List Fraction) → Relaxes s d → (duals d row).ys ≡ row_weights_of s d row
ys_are s d row h = ap₂ (λ n m. map (weight_of d row) (numbers_from n m)) (ap (λ n. n + 1) h.columns ∙ next (length s.obj)) (rows_in s d h)
  where
    next : (n : ℕ) → n + 1 ≡ suc n
    next n = omega arith

reduced_are : (s : Std) (d : Dictionary) (row : List Fraction) → Relaxes s d → (duals d row).reduced ≡ column_weights_of s d row
reduced_are s d row h = ap (λ n. map (weight_of d row) (numbers_from 1 n)) h.columns

pub prices : (s : Std) (d : Dictionary) (row : List Fraction) (k : Fraction) (coefs : List Fraction) → IsUniform s → HasReducedNumbers s → Relaxes s d → IsWide (length d.nonbasic) row → All IsInLowestTerms row
    → IsInLowestTerms k → length coefs ≡ length s.obj → All IsInLowestTerms coefs → Agrees s d row k coefs → Prices s k coefs (duals d row) (entry row 0)
prices s d row k coefs uniform low h wide low_row low_k same low_coefs agrees =
    let priced = priced_row s d row k coefs low h wide low_row low_k agrees in
    let ys = ys_are s d row h in
    let reduced = reduced_are s d row h in
    let n = length s.obj in
    let columns : length (duals d row).reduced ≡ n = ap length reduced ∙ length-map (numbers_from 1 n) (weight_of d row) ∙ length-numbers_from 1 n in
    let values : (ts : List Fraction) → length ts ≡ n → columns_sum coefs ts ≡ exact_difference (weighted_values s (duals d row).ys ts) (columns_sum (duals d row).reduced ts) =
    λ ts long.
    priced.values ts long ∙ ap (λ t. weighted_values s (row_weights_of s d row) ts ⊕ t) (minus_is (columns_sum (column_weights_of s d row) ts))
    ∙ sym (ap₂ (λ p q. exact_difference (weighted_values s p ts) (columns_sum q ts)) ys reduced) in
    record {
      rows = ap length ys ∙ length-map (numbers_from (suc n) (length s.rows)) (weight_of d row) ∙ length-numbers_from (suc n) (length s.rows);
      columns = columns;
      values = values;
      side = priced.side ∙ sym (ap (λ p. k ⊕ weighted_sides s p) ys);
    }
