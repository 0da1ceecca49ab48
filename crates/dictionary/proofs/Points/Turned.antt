-- What rows say of a point before and after a pivot.
use Rattle.std.proofs.Common.{◌≡◌, ◌≢◌, ◌↔◌, ◌∙◌, refl, sym, ap, ap₂, ℕ, suc, ◌-◌, ◌<◌, List, [], ◌∷◌, ◌++◌, length, length-take-le, length-drop, map, take, drop, slice_index, slice_set, pos, arith}
use Rattle.std.proofs.Math.Seq.{set_split, split_at}
use Rattle.std.proofs.lemmas.List.{length-map}
use Rattle.frac128.specs.Fraction.{Fraction, inverse, one_value, zero_value}
use Rattle.frac128.proofs.Field.{apart_of-sum, exact_product-inverse, exact_product-one_left, exact_product-one_right, exact_product-sum, exact_product-sum_right, exact_product_assoc, exact_product_comm, exact_sum-zero_left, inverse_apart}
use Rattle.dictionary.specs.Dictionary.{entry}
use Rattle.dictionary.specs.Solutions.{Point, sum_at}
use Rattle.frac128.specs.Lowest.{IsInLowestTerms}
use Rattle.dictionary.proofs.Points.ExactPivot.{other_entries, other_objective, other_row, solved_entries}
use Rattle.dictionary.proofs.Points.Sums.{length-less_products, less_products, sum_at-less, sum_at-middle, sum_at-scaled}
use Rattle.frac128.proofs.Sums.{minus, minus-product, product-minus, sum-minus, sums, ◌⊕◌, ◌⊗◌}

-- a basic variable's row, and an objective, at a point
abbrev pub told : Point → List ℕ → List Fraction → Fraction
told x vs row = entry row 0 ⊕ minus (sum_at x vs (drop 1 row))

abbrev pub total : Point → List ℕ → List Fraction → Fraction
total x vs row = entry row 0 ⊕ sum_at x vs (drop 1 row)

-- the columns but one
abbrev pub rest : Point → ℕ → List ℕ → List Fraction → Fraction
rest x j vs coefs = sum_at x (take j vs) (take j coefs) ⊕ sum_at x (drop (suc j) vs) (drop (suc j) coefs)

pub same_front : {A B : Type 0} (j : ℕ) (xs : List A) (ys : List B) → j < length ys → length xs ≡ length ys → length (take j xs) ≡ length (take j ys)
same_front j xs ys within same = length-take-le j xs (omega arith) ∙ sym (length-take-le j ys (omega arith))

same_behind : {A B : Type 0} (j : ℕ) (xs : List A) (ys : List B) → length xs ≡ length ys → length (drop j xs) ≡ length (drop j ys)
same_behind j xs ys same = length-drop j xs ∙ ap (λ n. n - j) same ∙ sym (length-drop j ys)

pub sum_at-place : (x : Point) (j : ℕ) (vs : List ℕ) (coefs : List Fraction) → j < length vs → length coefs ≡ length vs → sum_at x vs coefs ≡ rest x j vs coefs ⊕ entry coefs j ⊗ x (slice_index vs j)
sum_at-place x j vs coefs within same =
    ap₂ (sum_at x) (split_at vs j 0 within) (split_at coefs j zero_value (omega arith))
    ∙ sum_at-middle x (take j vs) (drop (suc j) vs) (take j coefs) (drop (suc j) coefs) (slice_index vs j) (entry coefs j) (same_front j coefs vs within same)

-- with another variable at the place
sum_at-set : (x : Point) (j u : ℕ) (vs : List ℕ) (front behind : List Fraction) (a : Fraction) → j < length vs → length front ≡ length (take j vs)
    → sum_at x (slice_set vs j u) (front ++ a ∷ behind) ≡ (sum_at x (take j vs) front ⊕ sum_at x (drop (suc j) vs) behind) ⊕ a ⊗ x u
sum_at-set x j u vs front behind a within same =
    ap (λ ws. sum_at x ws (front ++ a ∷ behind)) (set_split vs j u within)
    ∙ sum_at-middle x (take j vs) (drop (suc j) vs) front behind u a same

-- ---- the solved row

pub sum_at-solved : (x : Point) (j u : ℕ) (vs : List ℕ) (entries : List Fraction) (q : Fraction) → j < length vs → length entries ≡ length vs
    → sum_at x (slice_set vs j u) (solved_entries j q entries) ≡ rest x j vs entries ⊗ q ⊕ (one_value ⊗ q) ⊗ x u
sum_at-solved x j u vs entries q within same =
    sum_at-set x j u vs (map (λ a. a ⊗ q) (take j entries)) (map (λ a. a ⊗ q) (drop (suc j) entries)) (one_value ⊗ q) within (length-map (take j entries) (λ a. a ⊗ q) ∙ same_front j entries vs within same)
    ∙ ap (λ s. s ⊕ (one_value ⊗ q) ⊗ x u)
    (ap₂ (λ l r. l ⊕ r) (sum_at-scaled x (take j vs) (take j entries) q) (sum_at-scaled x (drop (suc j) vs) (drop (suc j) entries) q)
    ∙ sym (exact_product-sum (sum_at x (take j vs) (take j entries)) (sum_at x (drop (suc j) vs) (drop (suc j) entries)) q))

-- u = k - (t + p v), solved for v, where q is one over p
solve : (k t p q u v : Fraction) → IsInLowestTerms v → q ⊗ p ≡ one_value → u ≡ k ⊕ minus (t ⊕ p ⊗ v) → v ≡ k ⊗ q ⊕ minus (t ⊗ q ⊕ q ⊗ u)
solve k t p q u v low one is_u =
    let qu : q ⊗ u ≡ k ⊗ q ⊕ minus (t ⊗ q ⊕ v) =
    ap (λ s. q ⊗ s) is_u ∙ exact_product-sum_right q k (minus (t ⊕ p ⊗ v))
    ∙ ap₂ (λ a b. a ⊕ b) (exact_product_comm q k)
    (product-minus q (t ⊕ p ⊗ v) ∙ ap minus (exact_product-sum_right q t (p ⊗ v) ∙ ap₂ (λ a b. a ⊕ b) (exact_product_comm q t) own)) in
    sym (ap (λ s. k ⊗ q ⊕ minus (t ⊗ q ⊕ s)) qu ∙ twice (k ⊗ q) (t ⊗ q) v
    ∙ ap₂ (λ a b. a ⊕ (b ⊕ v)) (sum-minus (k ⊗ q)) (sum-minus (t ⊗ q)) ∙ ap (λ s. zero_value ⊕ s) (exact_sum-zero_left v low) ∙ exact_sum-zero_left v low)
  where
    own : q ⊗ (p ⊗ v) ≡ v
    own = sym (exact_product_assoc q p v) ∙ ap (λ s. s ⊗ v) one ∙ exact_product-one_left v low

    twice : (a b c : Fraction) → a ⊕ minus (b ⊕ (a ⊕ minus (b ⊕ c))) ≡ (a ⊕ minus a) ⊕ ((b ⊕ minus b) ⊕ c)
    twice a b c = simp sums

-- times q and times p
over_and_times : (k p q : Fraction) → IsInLowestTerms k → q ⊗ p ≡ one_value → k ⊗ q ⊗ p ≡ k
over_and_times k p q low one = exact_product_assoc k q p ∙ ap (λ s. k ⊗ s) one ∙ exact_product-one_right k low

solve_back : (k t p q u v : Fraction) → IsInLowestTerms k → IsInLowestTerms t → IsInLowestTerms u → q ⊗ p ≡ one_value → v ≡ k ⊗ q ⊕ minus (t ⊗ q ⊕ q ⊗ u) → u ≡ k ⊕ minus (t ⊕ p ⊗ v)
solve_back k t p q u v low_k low_t low_u one is_v =
    solve (k ⊗ q) (t ⊗ q) q p v u low_u (exact_product_comm p q ∙ one) is_v
    ∙ ap₂ (λ a b. a ⊕ minus (b ⊕ p ⊗ v)) (over_and_times k p q low_k one) (over_and_times t p q low_t one)

-- the row is true of a point exactly where the solved row is
pub told-solved : (x : Point) (j u : ℕ) (vs : List ℕ) (k : Fraction) (entries : List Fraction) → ((v : ℕ) → IsInLowestTerms (x v)) → IsInLowestTerms k → IsInLowestTerms (entry entries j)
    → (entry entries j).num ≢ pos 0 → j < length vs → length entries ≡ length vs
    → (x u ≡ told x vs (k ∷ entries)) ↔ (x (slice_index vs j) ≡ told x (slice_set vs j u) (k ⊗ inverse (entry entries j) ∷ solved_entries j (inverse (entry entries j)) entries))
told-solved x j u vs k entries low low_k low_p some within same =
    let p = entry entries j in
    let q = inverse p in
    let t = rest x j vs entries in
    let v = x (slice_index vs j) in
    let one : q ⊗ p ≡ one_value = exact_product_comm q p ∙ exact_product-inverse p some in
    let before : told x vs (k ∷ entries) ≡ k ⊕ minus (t ⊕ p ⊗ v) = ap (λ s. k ⊕ minus s) (sum_at-place x j vs entries within same) in
    let after : told x (slice_set vs j u) (k ⊗ q ∷ solved_entries j q entries) ≡ k ⊗ q ⊕ minus (t ⊗ q ⊕ q ⊗ x u) =
    ap (λ s. k ⊗ q ⊕ minus s) (sum_at-solved x j u vs entries q within same ∙ ap (λ s. t ⊗ q ⊕ s ⊗ x u) (exact_product-one_left q (inverse_apart p some low_p))) in (
      λ h. solve k t p q (x u) v (low (slice_index vs j)) one (h ∙ before) ∙ sym after,
      λ h. solve_back k t p q (x u) v low_k (apart_of-sum _ _) (low u) one (h ∙ after) ∙ sym before,
    )

-- ---- the others

pub sum_at-other : (x : Point) (j u : ℕ) (vs : List ℕ) (f : Fraction) (solved entries : List Fraction) → j < length vs → length solved ≡ length vs → length entries ≡ length vs
    → sum_at x (slice_set vs j u) (other_entries j f solved entries) ≡ (rest x j vs entries ⊕ minus (f ⊗ rest x j vs solved)) ⊕ minus (f ⊗ entry solved j) ⊗ x u
sum_at-other x j u vs f solved entries within same_solved same =
    let front = same_front j solved vs within same_solved ∙ sym (same_front j entries vs within same) in
    let behind = same_behind (suc j) solved vs same_solved ∙ sym (same_behind (suc j) entries vs same) in
    sum_at-set x j u vs (less_products f (take j entries) (take j solved)) (less_products f (drop (suc j) entries) (drop (suc j) solved)) (minus (f ⊗ entry solved j)) within
    (length-less_products f (take j entries) (take j solved) front ∙ same_front j entries vs within same)
    ∙ ap (λ s. s ⊕ minus (f ⊗ entry solved j) ⊗ x u)
    (ap₂ (λ l r. l ⊕ r) (sum_at-less x (take j vs) (take j entries) (take j solved) f front) (sum_at-less x (drop (suc j) vs) (drop (suc j) entries) (drop (suc j) solved) f behind)
    ∙ sorted (sum_at x (take j vs) (take j entries)) (f ⊗ sum_at x (take j vs) (take j solved)) (sum_at x (drop (suc j) vs) (drop (suc j) entries)) (f ⊗ sum_at x (drop (suc j) vs) (drop (suc j) solved))
    ∙ ap (λ s. rest x j vs entries ⊕ minus s) (sym (exact_product-sum_right f (sum_at x (take j vs) (take j solved)) (sum_at x (drop (suc j) vs) (drop (suc j) solved)))))
  where
    sorted : (p q r s : Fraction) → (p ⊕ minus q) ⊕ (r ⊕ minus s) ≡ (p ⊕ r) ⊕ minus (q ⊕ s)
    sorted p q r s = simp sums

-- a row's entries from column 1 on
pub entry-behind : (j : ℕ) (row : List Fraction) → entry (drop 1 row) j ≡ entry row (suc j)
entry-behind j [] = refl
entry-behind j (k ∷ entries) = refl

-- f times what the solved row says
times_told : (x : Point) (j u : ℕ) (vs : List ℕ) (f : Fraction) (solved : List Fraction) → j < length vs → length (drop 1 solved) ≡ length vs
    → f ⊗ told x (slice_set vs j u) solved ≡ f ⊗ entry solved 0 ⊕ minus (f ⊗ rest x j vs (drop 1 solved) ⊕ f ⊗ (entry (drop 1 solved) j ⊗ x u))
times_told x j u vs f solved within same =
    let entries = drop 1 solved in
    let own = entry entries j ⊗ x u in
    let is_sum : sum_at x (slice_set vs j u) entries ≡ rest x j vs entries ⊕ own =
    ap (sum_at x (slice_set vs j u)) (split_at entries j zero_value (omega arith)) ∙ sum_at-set x j u vs (take j entries) (drop (suc j) entries) (entry entries j) within (same_front j entries vs within same) in
    ap (λ s. f ⊗ (entry solved 0 ⊕ minus s)) is_sum ∙ exact_product-sum_right f (entry solved 0) (minus (rest x j vs entries ⊕ own))
    ∙ ap (λ s. f ⊗ entry solved 0 ⊕ s) (product-minus f (rest x j vs entries ⊕ own) ∙ ap minus (exact_product-sum_right f (rest x j vs entries) own))

-- what the columns of such a row add up to, where the solved row is true
other_columns : (x : Point) (j u : ℕ) (vs : List ℕ) (solved row : List Fraction) → j < length vs → length (drop 1 solved) ≡ length vs → length (drop 1 row) ≡ length vs
    → sum_at x (slice_set vs j u) (other_entries j (entry row (suc j)) (drop 1 solved) (drop 1 row))
    ≡ (rest x j vs (drop 1 row) ⊕ minus (entry row (suc j) ⊗ rest x j vs (drop 1 solved))) ⊕ minus (entry row (suc j) ⊗ (entry (drop 1 solved) j ⊗ x u))
other_columns x j u vs solved row within same_solved same =
    let f = entry row (suc j) in
    let o = entry (drop 1 solved) j in
    sum_at-other x j u vs f (drop 1 solved) (drop 1 row) within same_solved same
    ∙ ap (λ s. (rest x j vs (drop 1 row) ⊕ minus (f ⊗ rest x j vs (drop 1 solved))) ⊕ s) (minus-product (f ⊗ o) (x u) ∙ ap minus (exact_product_assoc f o (x u)))

own_columns : (x : Point) (j u : ℕ) (vs : List ℕ) (solved row : List Fraction) → j < length vs → length (drop 1 solved) ≡ length vs → length (drop 1 row) ≡ length vs
    → x (slice_index vs j) ≡ told x (slice_set vs j u) solved
    → sum_at x vs (drop 1 row) ≡ rest x j vs (drop 1 row) ⊕ (entry row (suc j) ⊗ entry solved 0 ⊕ minus (entry row (suc j) ⊗ rest x j vs (drop 1 solved) ⊕ entry row (suc j) ⊗ (entry (drop 1 solved) j ⊗ x u)))
own_columns x j u vs solved row within same_solved same is_told =
    sum_at-place x j vs (drop 1 row) within same
    ∙ ap₂ (λ f v. rest x j vs (drop 1 row) ⊕ f ⊗ v) (entry-behind j row) is_told
    ∙ ap (λ s. rest x j vs (drop 1 row) ⊕ s) (times_told x j u vs (entry row (suc j)) solved within same_solved)

pub told-other : (x : Point) (j u : ℕ) (vs : List ℕ) (solved row : List Fraction) → j < length vs → length (drop 1 solved) ≡ length vs → length (drop 1 row) ≡ length vs
    → x (slice_index vs j) ≡ told x (slice_set vs j u) solved → told x (slice_set vs j u) (other_row j solved row) ≡ told x vs row
told-other x j u vs solved row within same_solved same is_told =
    let f = entry row (suc j) in
    ap (λ s. (entry row 0 ⊕ minus (f ⊗ entry solved 0)) ⊕ minus s) (other_columns x j u vs solved row within same_solved same)
    ∙ sorted (entry row 0) (f ⊗ entry solved 0) (rest x j vs (drop 1 row)) (f ⊗ rest x j vs (drop 1 solved)) (f ⊗ (entry (drop 1 solved) j ⊗ x u))
    ∙ sym (ap (λ s. entry row 0 ⊕ minus s) (own_columns x j u vs solved row within same_solved same is_told))
  where
    sorted : (k a t b c : Fraction) → (k ⊕ minus a) ⊕ minus ((t ⊕ minus b) ⊕ minus c) ≡ k ⊕ minus (t ⊕ (a ⊕ minus (b ⊕ c)))
    sorted k a t b c = simp sums

pub total-other : (x : Point) (j u : ℕ) (vs : List ℕ) (solved row : List Fraction) → j < length vs → length (drop 1 solved) ≡ length vs → length (drop 1 row) ≡ length vs
    → x (slice_index vs j) ≡ told x (slice_set vs j u) solved → total x (slice_set vs j u) (other_objective j solved row) ≡ total x vs row
total-other x j u vs solved row within same_solved same is_told =
    let f = entry row (suc j) in
    ap (λ s. (entry row 0 ⊕ f ⊗ entry solved 0) ⊕ s) (other_columns x j u vs solved row within same_solved same)
    ∙ sorted (entry row 0) (f ⊗ entry solved 0) (rest x j vs (drop 1 row)) (f ⊗ rest x j vs (drop 1 solved)) (f ⊗ (entry (drop 1 solved) j ⊗ x u))
    ∙ sym (ap (λ s. entry row 0 ⊕ s) (own_columns x j u vs solved row within same_solved same is_told))
  where
    sorted : (k a t b c : Fraction) → (k ⊕ a) ⊕ ((t ⊕ minus b) ⊕ minus c) ≡ k ⊕ (t ⊕ (a ⊕ minus (b ⊕ c)))
    sorted k a t b c = simp sums
