-- A row whose entry in the column is 0 stays as it is.
use Rattle.std.proofs.Common.{◌≡◌, ◌∙◌, refl, sym, ap, ap₂, ℕ, zero, suc, ◌-◌, ◌<◌, List, [], ◌∷◌, ◌++◌, length, length-take-le, take, drop, pos, Result, Ok, arith}
use Rattle.std.specs.List.{All}
use Rattle.std.proofs.lemmas.List.{length-drop}
use Rattle.std.proofs.lemmas.List.Elements.{All-cons, All-head, All-tail}
use Rattle.frac128.specs.Checked.{checked_difference, checked_product, checked_sum, less_product, plus_product, value_or_wide, ◌>>=◌}
use Rattle.frac128.specs.Fraction.{Fraction, den, exact_difference, exact_product, exact_sum, lowest, negation, zero_value}
use Rattle.frac128.specs.Lowest.{IsInLowestTerms, IsKept}
use Rattle.frac128.specs.declared.operations.Op.TheVariants.{Add, Mul, Sub}
use Rattle.frac128.specs.declared.operations.Wide.{Wide}
use Rattle.frac128.proofs.Field.{exact_product-zero_left, exact_sum-zero_right, lowest-self, lowest-zero}
use Rattle.frac128.proofs.Kept.{FitsDifference-zero_right, FitsProduct-zero_left, FitsSum-zero_right}
use Rattle.dictionary.specs.Dictionary.{each_pair, eliminated_basic, eliminated_entries, eliminated_objective, entry}

zero_from : (f : Fraction) → IsInLowestTerms f → f.num ≡ pos 0 → f ≡ zero_value
zero_from f low e = sym (lowest-self f low) ∙ ap (λ n. lowest n (den f)) e ∙ lowest-zero (den f) (omega arith)

-- ---- one operation

product_zero : (y : Fraction) → checked_product zero_value y ≡ Ok zero_value
product_zero y =
    ap (λ b. value_or_wide b (exact_product zero_value y) Mul zero_value y) (FitsProduct-zero_left y) ∙ ap Ok (exact_product-zero_left y)

difference_zero : (x : Fraction) → IsKept x → checked_difference x zero_value ≡ Ok x
difference_zero x kept =
    ap (λ b. value_or_wide b (exact_difference x zero_value) Sub x zero_value) (FitsDifference-zero_right x kept)
    ∙ ap Ok (exact_sum-zero_right x kept.nothing_in_common)

sum_zero : (x : Fraction) → IsKept x → checked_sum x zero_value ≡ Ok x
sum_zero x kept =
    ap (λ b. value_or_wide b (exact_sum x zero_value) Add x zero_value) (FitsSum-zero_right x kept) ∙ ap Ok (exact_sum-zero_right x kept.nothing_in_common)

less_zero : (x y : Fraction) → IsKept x → less_product zero_value x y ≡ Ok x
less_zero x y kept = ap (λ (r : Result Fraction Wide). r >>= (λ product. checked_difference x product)) (product_zero y) ∙ difference_zero x kept

plus_zero : (x y : Fraction) → IsKept x → plus_product zero_value x y ≡ Ok x
plus_zero x y kept = ap (λ (r : Result Fraction Wide). r >>= (λ product. checked_sum x product)) (product_zero y) ∙ sum_zero x kept

-- ---- a row

each_less_zero : (xs ys : List Fraction) → length ys ≡ length xs → All IsKept xs → each_pair (less_product zero_value) xs ys ≡ Ok xs
each_less_zero [] ys same kept = refl
each_less_zero (x ∷ xs) [] same kept = absurd (omega (arith, same))
each_less_zero (x ∷ xs) (y ∷ ys) same kept =
    ap (λ (r : Result Fraction Wide). r >>= (λ z. each_pair (less_product zero_value) xs ys >>= (λ zs. Ok (z ∷ zs)))) (less_zero x y (All-head IsKept x xs kept))
    ∙ ap (λ (r : Result (List Fraction) Wide). r >>= (λ zs. Ok (x ∷ zs))) (each_less_zero xs ys (omega (arith, same)) (All-tail IsKept x xs kept))

kept_take : (k : ℕ) (xs : List Fraction) → All IsKept xs → All IsKept (take k xs)
kept_take zero xs kept = λ i d within. absurd (omega (arith, within))
kept_take (suc k) [] kept = kept
kept_take (suc k) (x ∷ xs) kept = All-cons IsKept x (take k xs) (All-head IsKept x xs kept) (kept_take k xs (All-tail IsKept x xs kept))

kept_drop : (k : ℕ) (xs : List Fraction) → All IsKept xs → All IsKept (drop k xs)
kept_drop zero xs kept = kept
kept_drop (suc k) [] kept = kept
kept_drop (suc k) (x ∷ xs) kept = kept_drop k xs (All-tail IsKept x xs kept)

in_parts : (k : ℕ) (xs : List Fraction) → k < length xs → take k xs ++ entry xs k ∷ drop (suc k) xs ≡ xs
in_parts k [] within = absurd (omega (arith, within))
in_parts zero (x ∷ xs) within = refl
in_parts (suc k) (x ∷ xs) within = ap (λ ys. x ∷ ys) (in_parts k xs (omega (arith, within)))

entries_zero : (place : ℕ) (solved entries : List Fraction) → length solved ≡ length entries → place < length entries → All IsKept entries
    → entry entries place ≡ zero_value → eliminated_entries place zero_value solved entries ≡ Ok entries
unfolding eliminated_entries
entries_zero place solved entries same within kept here =
    let front = each_less_zero (take place entries) (take place solved)
    (length-take-le place solved (omega (arith, same, within)) ∙ sym (length-take-le place entries (omega (arith, within)))) (kept_take place entries kept) in
    let behind = each_less_zero (drop (suc place) entries) (drop (suc place) solved)
    (length-drop (suc place) solved ∙ ap (λ n. n - suc place) same ∙ sym (length-drop (suc place) entries)) (kept_drop (suc place) entries kept) in
    let last : List Fraction → List Fraction → Result Fraction Wide → Result (List Fraction) Wide =
    λ left right r. r >>= (λ own. Ok (left ++ negation own ∷ right)) in
    let own = checked_product zero_value (entry solved place) in
    ap (λ (r : Result (List Fraction) Wide). r >>= (λ left. each_pair (less_product zero_value) (drop (suc place) entries) (drop (suc place) solved) >>= (λ right. last left right own))) front
    ∙ ap (λ (r : Result (List Fraction) Wide). r >>= (λ right. last (take place entries) right own)) behind
    ∙ ap (last (take place entries) (drop (suc place) entries)) (product_zero (entry solved place))
    ∙ ap Ok (ap (λ x. take place entries ++ x ∷ drop (suc place) entries) (sym here) ∙ in_parts place entries within)

-- what is made of a row's constant, and of the entries behind it
abbrev with_constant : Result Fraction Wide → Result (List Fraction) Wide → Result (List Fraction) Wide
with_constant constant entries = constant >>= (λ k. entries >>= (λ xs. Ok (k ∷ xs)))

row_zero : (constant : Fraction → Fraction → Fraction → Result Fraction Wide) (c : ℕ) (solved row : List Fraction) → length row ≡ length solved → 0 < c → c < length row
    → All IsKept row → (entry row c).num ≡ pos 0 → ((x y : Fraction) → IsKept x → constant zero_value x y ≡ Ok x)
    → with_constant (constant (entry row c) (entry row 0) (entry solved 0)) (eliminated_entries (c - 1) (entry row c) (drop 1 solved) (drop 1 row)) ≡ Ok row
row_zero constant zero solved row same above within kept none stays = absurd (omega (arith, above))
row_zero constant (suc c) solved [] same above within kept none stays = absurd (omega (arith, within))
row_zero constant (suc c) [] (k ∷ entries) same above within kept none stays = absurd (omega (arith, same))
row_zero constant (suc c) (s ∷ solved) (k ∷ entries) same above within kept none stays =
    let others = All-tail IsKept k entries kept in
    let here : entry entries c ≡ zero_value =
    zero_from (entry entries c) (others c zero_value (omega (arith, within))).nothing_in_common none in
    let place : suc c - 1 ≡ c = omega arith in
    ap (λ p. with_constant (constant (entry entries c) k s) (eliminated_entries p (entry entries c) solved entries)) place
    ∙ ap (λ f. with_constant (constant f k s) (eliminated_entries c f solved entries)) here
    ∙ ap₂ with_constant (stays k s (All-head IsKept k entries kept)) (entries_zero c solved entries (omega (arith, same)) (omega (arith, within)) others here)

pub basic_zero : (c : ℕ) (solved row : List Fraction) → length row ≡ length solved → 0 < c → c < length row → All IsKept row → (entry row c).num ≡ pos 0
    → eliminated_basic c solved row ≡ Ok row
unfolding eliminated_basic
basic_zero c solved row same above within kept none = row_zero less_product c solved row same above within kept none less_zero

pub objective_zero : (c : ℕ) (solved row : List Fraction) → length row ≡ length solved → 0 < c → c < length row → All IsKept row → (entry row c).num ≡ pos 0
    → eliminated_objective c solved row ≡ Ok row
unfolding eliminated_objective
objective_zero c solved row same above within kept none = row_zero plus_product c solved row same above within kept none plus_zero
