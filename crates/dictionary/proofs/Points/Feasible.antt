-- Pivots that keep the constants at least 0.
use Rattle.std.proofs.Common.{◌≡◌, ◌≢◌, ⊎_elim, ◌∙◌, refl, sym, ap, subst, ℕ, zero, suc, ◌-◌, ◌<◌, Bool, true, false, List, [], length, length-drop, length-take-le, map, take, drop, slice_index_or, All, Option, Some, None, IfSome, option_map, unwrap_or, pos, arith}
use Rattle.std.proofs.lemmas.Bool.{cases_eq}
use Rattle.std.proofs.lemmas.List.{get_or_at, length-map}
use Rattle.std.proofs.lemmas.List.Elements.{All-from_get_or, All-get_or}
use Rattle.frac128.specs.Fraction.{Fraction, exact_quotient, inverse, zero_value}
use Rattle.frac128.specs.Order.{IsAtMost, IsBelow}
use Rattle.frac128.proofs.Field.{exact_product-zero_left, exact_product-zero_right, exact_product_comm, exact_quotient-product, exact_sum-zero_right}
use Rattle.frac128.proofs.Ordered.{IsAtMost-difference, IsAtMost-from_below, IsAtMost-product, IsAtMost-self, IsAtMost-sums}
use Rattle.dictionary.specs.Dictionary.{Dictionary, entry, row_at}
use Rattle.dictionary.specs.Rule.{is_positive, maximized_row}
use Rattle.dictionary.specs.Solutions.{HasFeasibleConstants, IsLawful, Pivots, PivotsByRule}
use Rattle.frac128.specs.Lowest.{IsInLowestTerms}
use Rattle.dictionary.proofs.Points.Chosen.{Enters, Leaves, above_from_positive, at_most_from_not_positive, entering-some, leaving-some, maximized-wide}
use Rattle.dictionary.proofs.Points.FreeRise.{inverse_above, not_zero, row_along, row_along-at_least}
use Rattle.dictionary.proofs.Points.Lawful.{Turns, replaced-other, replaced_length, turn}
use Rattle.dictionary.proofs.Points.OwnPoint.{constant-wide, constants-reduced}
use Rattle.dictionary.proofs.Points.ExactPivot.{less_one, other_objective, other_row, turned, turned_rows}
use Rattle.frac128.proofs.Sums.{minus, minus-none, minus_is, ◌⊕◌, ◌⊗◌}

-- the constants after a pivot, where those of the solved row and of the others are known
pub constants-turned : (P : Fraction → Type 0) (i j : ℕ) (solved : List Fraction) (rows : List (List Fraction)) → i < length rows → P (entry solved 0)
    → ((k : ℕ) → k < length rows → (k ≡ i → ⊥) → P (row_along j (entry solved 0) (slice_index_or rows k []))) → All (λ row. P (entry row 0)) (turned_rows i j solved rows)
constants-turned P i j solved rows within own others =
    All-from_get_or (λ row. P (entry row 0)) (turned_rows i j solved rows) []
    (λ k below.
    ⊎_elim
    (λ same. subst (λ place. P (entry (slice_index_or (turned_rows i j solved rows) place []) 0)) (sym same) (subst (λ row. P (entry row 0)) (sym here) own))
    (λ other. subst (λ row. P (entry row 0)) (sym (replaced-other (other_row j solved) solved [] [] i k rows (omega (arith, below, same_length)) other)) (others k (omega (arith, below, same_length)) other))
    (cases_eq k i))
  where
    front : length (map (other_row j solved) (take i rows)) ≡ i
    front = length-map (take i rows) (other_row j solved) ∙ length-take-le i rows (omega (arith, within))

    here : slice_index_or (turned_rows i j solved rows) i [] ≡ solved
    here = get_or_at (map (other_row j solved) (take i rows)) solved (map (other_row j solved) (drop (suc i) rows)) [] i front

    same_length : length (turned_rows i j solved rows) ≡ length rows
    same_length =
        replaced_length i (map (other_row j solved) (take i rows)) (map (other_row j solved) (drop (suc i) rows)) solved (length rows) within front
        (length-map (drop (suc i) rows) (other_row j solved) ∙ length-drop (suc i) rows)

-- x - a t is at least 0 where t is at most x / a
above_ratio : (a t x : Fraction) → IsInLowestTerms x → IsBelow zero_value a → IsAtMost t (exact_quotient x a) → IsAtMost zero_value (x ⊕ minus (a ⊗ t))
above_ratio a t x low above most =
    let scaled : IsAtMost (t ⊗ a) x = subst (IsAtMost (t ⊗ a)) (exact_quotient-product x a low (not_zero a above)) (IsAtMost-product t (exact_quotient x a) a (IsAtMost-from_below zero_value a above) most) in
    subst (λ s. IsAtMost zero_value (x ⊕ s)) (sym (minus_is (a ⊗ t)))
    (IsAtMost-difference (a ⊗ t) x (subst (λ s. IsAtMost s x) (exact_product_comm t a) scaled))

quotient_at_least : (x a : Fraction) → IsAtMost zero_value x → IsBelow zero_value a → IsAtMost zero_value (exact_quotient x a)
quotient_at_least x a high above =
    subst (λ s. IsAtMost s (exact_quotient x a)) (exact_product-zero_left (inverse a)) (IsAtMost-product zero_value x (inverse a) (IsAtMost-from_below zero_value (inverse a) (inverse_above a above)) high)

-- ---- by the rule

pub by_rule : (r c : ℕ) (d e : Dictionary) → IsLawful d → PivotsByRule r c d e → Pivots r c d e
by_rule r c d e lawful h =
    let enters = entering-some d c h.enters in
    let leaves = leaving-some d c r h.compared lawful.shape h.are_ratios h.leaves in
    let is = leaves.is_row in
    let below = leaves.within in
    let place_is : r - 1 ≡ leaves.place = omega (arith, is) in
    record {
      row_above = omega (arith, is);
      row_within = omega (arith, is, below);
      column_above = enters.above;
      column_within = enters.within;
      not_zero = subst (λ place. (entry (slice_index_or d.rows place []) c).num ≢ pos 0) (sym place_is) (not_zero (entry (slice_index_or d.rows leaves.place []) c) (above_from_positive (entry (slice_index_or d.rows leaves.place []) c) leaves.positive));
      is_pivot = h.is_pivot;
    }

-- the row that leaves is the one that is solved
leaving_place : (i j : ℕ) (d : Dictionary) → (leaves : Leaves (suc i) (suc j) d) → leaves.place ≡ i
leaving_place i j d leaves = let is = leaves.is_row in omega (arith, is)

leaving_quotient : (i j : ℕ) (d e : Dictionary) → (h : Turns i j d e) → (leaves : Leaves (suc i) (suc j) d)
    → exact_quotient (entry (slice_index_or d.rows leaves.place []) 0) (entry (slice_index_or d.rows leaves.place []) (suc j)) ≡ entry h.solved 0
leaving_quotient i j d e h leaves =
    ap (λ place. exact_quotient (entry (slice_index_or d.rows place []) 0) (entry (slice_index_or d.rows place []) (suc j))) (leaving_place i j d leaves) ∙ sym h.known.constant

solved_at_least : (i j : ℕ) (d e : Dictionary) → IsLawful d → HasFeasibleConstants d → (h : Turns i j d e) → Leaves (suc i) (suc j) d → IsAtMost zero_value (entry h.solved 0)
solved_at_least i j d e lawful constants h leaves =
    let row = slice_index_or d.rows leaves.place [] in
    let same = lawful.shape.rows in
    let below = leaves.within in
    subst (IsAtMost zero_value) (leaving_quotient i j d e h leaves)
    (quotient_at_least (entry row 0) (entry row (suc j)) (All-get_or (λ r. IsAtMost zero_value (entry r 0)) d.rows leaves.place [] (omega (arith, same, below)) constants) (above_from_positive (entry row (suc j)) leaves.positive))

pub feasible_by_turn : (i j : ℕ) (d e : Dictionary) → IsLawful d → HasFeasibleConstants d → Turns i j d e → Leaves (suc i) (suc j) d → HasFeasibleConstants e
feasible_by_turn i j d e lawful constants h leaves =
    let v = entry h.solved 0 in
    let same = lawful.shape.rows in
    let row_within = h.row_within in
    let v_high = solved_at_least i j d e lawful constants h leaves in
    let least = λ (k : ℕ) (below : k < length d.rows) (bounds : is_positive (entry (slice_index_or d.rows k []) (suc j)) ≡ true).
    subst (λ s. IsAtMost s (exact_quotient (entry (slice_index_or d.rows k []) 0) (entry (slice_index_or d.rows k []) (suc j)))) (leaving_quotient i j d e h leaves) (leaves.least k below bounds) in
    subst HasFeasibleConstants (sym h.is_made)
    (constants-turned (IsAtMost zero_value) i j h.solved d.rows (omega (arith, same, row_within)) v_high
    (λ k below other.
    let row = slice_index_or d.rows k [] in
    by_test v row v_high (All-get_or (λ r. IsAtMost zero_value (entry r 0)) d.rows k [] below constants)
    (All-get_or (λ r. IsInLowestTerms (entry r 0)) d.rows k [] below (constants-reduced d lawful)) (is_positive (entry row (suc j))) refl (least k below)))
  where
    by_test : (t : Fraction) (r : List Fraction) → IsAtMost zero_value t → IsAtMost zero_value (entry r 0) → IsInLowestTerms (entry r 0) → (b : Bool) → is_positive (entry r (suc j)) ≡ b
        → (is_positive (entry r (suc j)) ≡ true → IsAtMost t (exact_quotient (entry r 0) (entry r (suc j)))) → IsAtMost zero_value (row_along j t r)
    by_test t r high constant reduced true e least = above_ratio (entry r (suc j)) t (entry r 0) reduced (above_from_positive (entry r (suc j)) e) (least e)
    by_test t r high constant reduced false e least = row_along-at_least j t r high constant (at_most_from_not_positive (entry r (suc j)) e)

pub feasible_by_rule : (r c : ℕ) (d e : Dictionary) → IsLawful d → HasFeasibleConstants d → PivotsByRule r c d e → HasFeasibleConstants e
feasible_by_rule zero c d e lawful constants h = absurd (let pivots = by_rule zero c d e lawful h in let above = pivots.row_above in omega (arith, above))
feasible_by_rule (suc i) zero d e lawful constants h = absurd (let pivots = by_rule (suc i) zero d e lawful h in let above = pivots.column_above in omega (arith, above))
feasible_by_rule (suc i) (suc j) d e lawful constants h =
    feasible_by_turn i j d e lawful constants (turn i j d e lawful (by_rule (suc i) (suc j) d e lawful h)) (leaving-some d (suc j) (suc i) h.compared lawful.shape h.are_ratios h.leaves)

pub maximized-turned : (i j : ℕ) (solved : List Fraction) (d : Dictionary) → maximized_row (turned i j solved d) ≡ other_objective j solved (maximized_row d)
maximized-turned i j solved d = of_option d.auxiliary
  where
    of_option : (o : Option (List Fraction)) → unwrap_or (option_map (other_objective j solved) o) (other_objective j solved d.objective) ≡ other_objective j solved (unwrap_or o d.objective)
    of_option None = refl
    of_option (Some w) = refl

pub maximized-reduced : (d : Dictionary) → IsLawful d → IsInLowestTerms (entry (maximized_row d) 0)
maximized-reduced d lawful = constant-wide (length d.nonbasic) (maximized_row d) (maximized-wide d lawful.shape) (of_option d.auxiliary lawful.reduced.auxiliary)
  where
    of_option : (o : Option (List Fraction)) → IfSome o (All IsInLowestTerms) → All IsInLowestTerms (unwrap_or o d.objective)
    of_option None h = lawful.reduced.objective
    of_option (Some w) h = h

pub rises_by_turn : (i j : ℕ) (d e : Dictionary) → IsLawful d → HasFeasibleConstants d → Turns i j d e → Leaves (suc i) (suc j) d → Enters (suc j) d → IsAtMost (entry (maximized_row d) 0) (entry (maximized_row e) 0)
rises_by_turn i j d e lawful constants h leaves enters =
    let v = entry h.solved 0 in
    let z = entry (maximized_row d) 0 in
    let slope = entry (maximized_row d) (suc j) in
    let v_high = solved_at_least i j d e lawful constants h leaves in
    let more : IsAtMost zero_value (slope ⊗ v) = subst (λ s. IsAtMost s (slope ⊗ v)) (exact_product-zero_left v) (IsAtMost-product zero_value slope v v_high (IsAtMost-from_below zero_value slope enters.rise)) in
    subst (λ s. IsAtMost z (entry s 0)) (sym (ap maximized_row h.is_made ∙ maximized-turned i j h.solved d))
    (subst (λ s. IsAtMost s (z ⊕ slope ⊗ v)) (exact_sum-zero_right z (maximized-reduced d lawful)) (IsAtMost-sums z z zero_value (slope ⊗ v) (IsAtMost-self z) more))

pub rises_by_rule : (r c : ℕ) (d e : Dictionary) → IsLawful d → HasFeasibleConstants d → PivotsByRule r c d e → IsAtMost (entry (maximized_row d) 0) (entry (maximized_row e) 0)
rises_by_rule zero c d e lawful constants h = absurd (let pivots = by_rule zero c d e lawful h in let above = pivots.row_above in omega (arith, above))
rises_by_rule (suc i) zero d e lawful constants h = absurd (let pivots = by_rule (suc i) zero d e lawful h in let above = pivots.column_above in omega (arith, above))
rises_by_rule (suc i) (suc j) d e lawful constants h =
    rises_by_turn i j d e lawful constants (turn i j d e lawful (by_rule (suc i) (suc j) d e lawful h)) (leaving-some d (suc j) (suc i) h.compared lawful.shape h.are_ratios h.leaves) (entering-some d (suc j) h.enters)

-- ---- a row whose constant is 0

pub feasible_by_zero : (r c : ℕ) (d e : Dictionary) → IsLawful d → HasFeasibleConstants d → Pivots r c d e → entry (row_at d.rows r) 0 ≡ zero_value → HasFeasibleConstants e
feasible_by_zero zero c d e lawful constants pivots none = absurd (let above = pivots.row_above in omega (arith, above))
feasible_by_zero (suc i) zero d e lawful constants pivots none = absurd (let above = pivots.column_above in omega (arith, above))
feasible_by_zero (suc i) (suc j) d e lawful constants pivots none =
    let h = turn i j d e lawful pivots in
    let row = slice_index_or d.rows i [] in
    let own : entry row 0 ≡ zero_value = ap (λ place. entry (slice_index_or d.rows place []) 0) (sym (less_one i)) ∙ none in
    let v : entry h.solved 0 ≡ zero_value = h.known.constant ∙ ap (λ k. exact_quotient k (entry row (suc j))) own ∙ exact_product-zero_left (inverse (entry row (suc j))) in
    let same = lawful.shape.rows in
    let row_within = h.row_within in
    subst HasFeasibleConstants (sym h.is_made)
    (constants-turned (IsAtMost zero_value) i j h.solved d.rows (omega (arith, same, row_within)) (subst (IsAtMost zero_value) (sym v) (IsAtMost-self zero_value))
    (λ k below other.
    let k_row = slice_index_or d.rows k [] in
    subst (IsAtMost zero_value) (sym (stays (entry k_row 0) (entry k_row (suc j)) (entry h.solved 0) (All-get_or (λ r. IsInLowestTerms (entry r 0)) d.rows k [] below (constants-reduced d lawful)) v))
    (All-get_or (λ r. IsAtMost zero_value (entry r 0)) d.rows k [] below constants)))
  where
    stays : (x a t : Fraction) → IsInLowestTerms x → t ≡ zero_value → x ⊕ minus (a ⊗ t) ≡ x
    stays x a t low e = ap (λ s. x ⊕ minus (a ⊗ s)) e ∙ ap (λ s. x ⊕ minus s) (exact_product-zero_right a) ∙ minus-none x low
