-- Allowed values of the columns are the feasible solutions of the dictionary without an artificial variable.
use Rattle.std.proofs.Common.{◌≡◌, ⊎_elim, ◌∙◌, refl, sym, ap, ap₂, subst, ℕ, zero, suc, ◌+◌, ◌<◌, List, [], ◌∷◌, ◌++◌, length, map, get_or, get_or-append-add, slice_index, slice_index_or, All, arith}
use Rattle.std.proofs.lemmas.Bool.{cases_lt}
use Rattle.std.proofs.lemmas.List.{get_or-map, get_or_append_left, get_or_past, length-map}
use Rattle.std.proofs.lemmas.List.Elements.{All-append, All-cons, All-from_get_or, All-get_or, All-map, All-weaker}
use Rattle.frac128.specs.Fraction.{Fraction, exact_difference, exact_product, exact_sum, negation, zero_value}
use Rattle.frac128.specs.Order.{IsAtMost}
use Rattle.frac128.specs.Lowest.{IsInLowestTerms}
use Rattle.frac128.proofs.Ordered.{IsAtMost-difference, IsAtMost-self, IsAtMost_of-difference}
use Rattle.frac128.proofs.Field.{apart_of-sum, apart_of-zero}
use Rattle.frac128.proofs.Sums.{minus_is}
use Rattle.dictionary.specs.declared.standard.Std.{Std}
use Rattle.dictionary.specs.declared.standard.StdRow.{StdRow}
use Rattle.dictionary.specs.Dictionary.{numbers_from, without_artificial}
use Rattle.dictionary.specs.Solutions.{HasReducedNumbers, IsFeasible, Point, Solves, objective_at, sum_at}
use Rattle.dictionary.proofs.Opened.{length-numbers_from}
use Rattle.dictionary.proofs.Points.PivotLaw.{solves_from_true, true_from_solves}
use Rattle.dictionary.proofs.Points.Turned.{told}
use Rattle.dictionary.proofs.Points.Opening.{get_or-numbers_from}
use Rattle.solve_defs.specs.Columns.{IsColumnsPoint, KeepsStdRow, columns_sum, form_value}
use Rattle.solve_defs.proofs.FormSums.{columns_sum_low}
use Rattle.relaxation_laws.specs.FormPoints.{columns_of, form_point, form_values, slacks}

-- ---- numbers in a row

-- a sum over columns in a row, where the point has the values of a list there
pub sum_at-values : (x : Point) (first n : ℕ) (coefs ys : List Fraction) → length ys ≡ n → ((i : ℕ) → i < n → x (first + i) ≡ get_or ys i zero_value)
    → sum_at x (numbers_from first n) coefs ≡ columns_sum coefs ys
sum_at-values x first zero [] ys same has = refl
sum_at-values x first zero (a ∷ coefs) [] same has = refl
sum_at-values x first zero (a ∷ coefs) (y ∷ ys) same has = absurd (omega (arith, same))
sum_at-values x first (suc n) [] ys same has = refl
sum_at-values x first (suc n) (a ∷ coefs) [] same has = absurd (omega (arith, same))
sum_at-values x first (suc n) (a ∷ coefs) (y ∷ ys) same has =
    let here : first ≡ first + 0 = omega arith in
    ap₂ (λ p s. exact_sum (exact_product a p) s) (ap x here ∙ has 0 (omega arith))
    (sum_at-values x (suc first) n coefs ys (omega (arith, same)) (λ i within. ap x (one_on first i) ∙ has (suc i) (omega (arith, within))))
  where
    one_on : (k i : ℕ) → suc k + i ≡ k + suc i
    one_on k i = omega arith

-- ---- from the columns

pub value_column : (s : Std) (ys : List Fraction) (i : ℕ) → i < length ys → form_point s ys (1 + i) ≡ get_or ys i zero_value
value_column s ys i within =
    let next : 1 + i ≡ suc i = omega arith in
    ap (λ v. get_or (form_values s ys) v zero_value) next ∙ get_or_append_left ys (slacks s ys) zero_value i within

pub value_slack : (s : Std) (ys : List Fraction) (i : ℕ) → form_point s ys (suc (length ys) + i) ≡ get_or (slacks s ys) i zero_value
value_slack s ys i =
    let next : suc (length ys) + i ≡ suc (length ys + i) = omega arith in
    ap (λ v. get_or (form_values s ys) v zero_value) next ∙ get_or-append-add ys (slacks s ys) i zero_value

pub slack_is : (s : Std) (ys : List Fraction) (i : ℕ) (row : StdRow) → i < length s.rows
    → get_or (slacks s ys) i zero_value ≡ exact_difference (get_or s.rows i row).rhs (columns_sum (get_or s.rows i row).coefs ys)
slack_is s ys i row within = get_or-map (λ r. exact_difference r.rhs (columns_sum r.coefs ys)) s.rows i row zero_value within

-- what holds of 0, of the columns' values and of what the rows leave holds of all
pub form_point-all : (P : Fraction → Type 0) (s : Std) (ys : List Fraction) → P zero_value → All P ys → All P (slacks s ys) → (v : ℕ) → P (form_point s ys v)
form_point-all P s ys none columns rest v =
    ⊎_elim
    (λ within. All-get_or P (form_values s ys) v zero_value within (All-cons P zero_value (ys ++ slacks s ys) none (All-append P ys (slacks s ys) columns rest)))
    (λ past. subst P (sym (get_or_past (form_values s ys) v zero_value past)) none)
    (cases_lt v (length (form_values s ys)))

lowest_reduced : (x : Fraction) → IsInLowestTerms x → IsInLowestTerms x
lowest_reduced x low = low

pub form_point-reduced : (s : Std) (ys : List Fraction) → All IsInLowestTerms ys → (v : ℕ) → IsInLowestTerms (form_point s ys v)
form_point-reduced s ys low v =
    form_point-all IsInLowestTerms s ys apart_of-zero (All-weaker IsInLowestTerms IsInLowestTerms lowest_reduced ys low)
    (All-map IsInLowestTerms (λ row. exact_difference row.rhs (columns_sum row.coefs ys)) s.rows (λ k d within. apart_of-sum _ _)) v

-- Any values of the columns are a solution, with what they leave of each right side.
pub form_point-solves : (s : Std) (ys : List Fraction) → length ys ≡ length s.obj → All IsInLowestTerms ys → Solves (without_artificial s) (form_point s ys)
unfolding without_artificial
form_point-solves s ys same low =
    let x = form_point s ys in
    let n = length s.obj in
    let m = length s.rows in
    solves_from_true (without_artificial s) x (form_point-reduced s ys low)
    (λ i within.
    let row : StdRow = record { coefs = []; rhs = zero_value } in
    let inside : i < m = omega (arith, within, length-numbers_from (suc n) m) in
    let here : x (slice_index (numbers_from (suc n) m) i) ≡ exact_difference (get_or s.rows i row).rhs (columns_sum (get_or s.rows i row).coefs ys) =
    ap x (get_or-numbers_from (suc n) m i 0 inside ∙ ap (λ k. suc k + i) (sym same)) ∙ value_slack s ys i ∙ slack_is s ys i row inside in
    here ∙ sym (row_told s ys i row same inside))
  where
    row_told : (s : Std) (ys : List Fraction) (i : ℕ) (row : StdRow) → length ys ≡ length s.obj → i < length s.rows
        → told (form_point s ys) (numbers_from 1 (length s.obj)) (slice_index_or (map (λ r. r.rhs ∷ r.coefs) s.rows) i []) ≡ exact_difference (get_or s.rows i row).rhs (columns_sum (get_or s.rows i row).coefs ys)
    row_told s ys i row same inside =
        ap (told (form_point s ys) (numbers_from 1 (length s.obj))) (get_or-map (λ r. r.rhs ∷ r.coefs) s.rows i row [] inside)
        ∙ ap (λ t. exact_sum (get_or s.rows i row).rhs t)
        (minus_is _ ∙ ap negation (sum_at-values (form_point s ys) 1 (length s.obj) (get_or s.rows i row).coefs ys same (λ k below. value_column s ys k (omega (arith, below, same)))))

abbrev pub left_over : List Fraction → StdRow → Fraction
left_over ys row = exact_difference row.rhs (columns_sum row.coefs ys)

pub form_point-feasible : (s : Std) (ys : List Fraction) → IsColumnsPoint s ys → IsFeasible (without_artificial s) (form_point s ys)
form_point-feasible s ys h = record {
  solves = form_point-solves s ys h.columns h.lowest;
  at_least_zero = form_point-all (IsAtMost zero_value) s ys (IsAtMost-self zero_value) h.at_least_zero
      (All-map (IsAtMost zero_value) (left_over ys) s.rows (All-weaker (KeepsStdRow ys) (λ row. IsAtMost zero_value (left_over ys row)) (λ row keeps. IsAtMost-difference _ _ keeps) s.rows h.rows));
}

pub form_point-objective : (s : Std) (ys : List Fraction) → length ys ≡ length s.obj → objective_at (without_artificial s) (form_point s ys) ≡ form_value s ys
unfolding without_artificial
form_point-objective s ys same =
    ap (λ t. exact_sum s.constant t) (sum_at-values (form_point s ys) 1 (length s.obj) s.obj ys same (λ k below. value_column s ys k (omega (arith, below, same))))

-- ---- and back

pub length-columns_of : (s : Std) (x : Point) → length (columns_of s x) ≡ length s.obj
length-columns_of s x = length-map (numbers_from 1 (length s.obj)) x ∙ length-numbers_from 1 (length s.obj)

pub columns_of-at : (s : Std) (x : Point) (i : ℕ) → i < length s.obj → get_or (columns_of s x) i zero_value ≡ x (1 + i)
columns_of-at s x i within =
    get_or-map x (numbers_from 1 (length s.obj)) i 0 zero_value (omega (arith, within, length-numbers_from 1 (length s.obj)))
    ∙ ap x (get_or-numbers_from 1 (length s.obj) i 0 within)

pub columns_of-sum : (s : Std) (x : Point) (coefs : List Fraction) → sum_at x (numbers_from 1 (length s.obj)) coefs ≡ columns_sum coefs (columns_of s x)
columns_of-sum s x coefs = sum_at-values x 1 (length s.obj) coefs (columns_of s x) (length-columns_of s x) (λ i within. sym (columns_of-at s x i within))

-- each slack is what its row leaves
pub solution_rows : (s : Std) (x : Point) (i : ℕ) (row : StdRow) → Solves (without_artificial s) x → i < length s.rows
    → x (suc (length s.obj) + i) ≡ left_over (columns_of s x) (get_or s.rows i row)
unfolding without_artificial
solution_rows s x i row h within =
    let n = length s.obj in
    let m = length s.rows in
    ap x (sym (get_or-numbers_from (suc n) m i 0 within))
    ∙ true_from_solves (without_artificial s) x h i (omega (arith, within, length-numbers_from (suc n) m))
    ∙ ap (told x (numbers_from 1 n)) (get_or-map (λ r. r.rhs ∷ r.coefs) s.rows i row [] within)
    ∙ ap (λ t. exact_sum (get_or s.rows i row).rhs t) (minus_is _ ∙ ap negation (columns_of-sum s x (get_or s.rows i row).coefs))

pub solution_columns : (s : Std) (x : Point) → HasReducedNumbers s → IsFeasible (without_artificial s) x → IsColumnsPoint s (columns_of s x)
solution_columns s x low h =
    let row : StdRow = record { coefs = []; rhs = zero_value } in
    record {
      columns = length-columns_of s x;
      lowest = All-map IsInLowestTerms x (numbers_from 1 (length s.obj)) (λ k d within. h.solves.reduced (slice_index_or (numbers_from 1 (length s.obj)) k d));
      at_least_zero = All-map (IsAtMost zero_value) x (numbers_from 1 (length s.obj)) (λ k d within. h.at_least_zero (slice_index_or (numbers_from 1 (length s.obj)) k d));
      rows = All-from_get_or (KeepsStdRow (columns_of s x)) s.rows row
          (λ i within. let reduced = low.sides i row within in
          IsAtMost_of-difference (columns_sum (get_or s.rows i row).coefs (columns_of s x)) (get_or s.rows i row).rhs (columns_sum_low (get_or s.rows i row).coefs (columns_of s x)) reduced
          (subst (IsAtMost zero_value) (solution_rows s x i row h.solves within) (h.at_least_zero (suc (length s.obj) + i))));
    }

pub solution_objective : (s : Std) (x : Point) → objective_at (without_artificial s) x ≡ form_value s (columns_of s x)
unfolding without_artificial
solution_objective s x = ap (λ t. exact_sum s.constant t) (columns_of-sum s x s.obj)
