-- Two dictionaries of one path cannot both have the variable of largest index that moves: one where it leaves, one where it enters.
use Rattle.std.proofs.Common.{◌≡◌, ◌≢◌, ⊎_elim, ◌∙◌, refl, sym, ap, subst, subst₂, ℕ, zero, suc, ◌<◌, ◌≤◌, Bool, true, false, List, [], ◌∷◌, length, drop, slice_index, slice_index_or, arith, ltb-false}
use Rattle.std.proofs.lemmas.Bool.{cases_eq}
use Rattle.std.proofs.lemmas.Int.{ints}
use Rattle.std.proofs.lemmas.List.{get_or_past}
use Rattle.frac128.specs.Fraction.{Fraction, exact_quotient, inverse, one_value, zero_value}
use Rattle.frac128.specs.Order.{IsAtMost, IsBelow}
use Rattle.frac128.proofs.Field.{apart_of-one, apart_of-zero, exact_sum-zero_left, exact_sum-zero_right, exact_product-zero_left, exact_product-zero_right, exact_product_comm, exact_sum_comm}
use Rattle.frac128.proofs.Ordered.{IsAtMost-from_below, IsAtMost-negation, IsAtMost-product, IsAtMost-self, IsAtMost-sums, IsBelow-not, IsBelow-product, IsBelow-sum, above_zero}
use Rattle.dictionary.specs.Dictionary.{Dictionary, entry}
use Rattle.dictionary.specs.Rule.{is_positive, maximized_row}
use Rattle.dictionary.specs.Solutions.{IsLawful, Point, Solves, own_point, sum_at}
use Rattle.dictionary.proofs.Points.Chosen.{above_from_positive, at_most_from_not_positive, maximized-wide}
use Rattle.dictionary.proofs.Points.Feasible.{maximized-reduced}
use Rattle.dictionary.proofs.Points.FreeRise.{along, along-solves, along-basic, along-columns, along-other, along-own, row_along, row_along-at_least, row_along-none}
use Rattle.dictionary.proofs.Points.OwnPoint.{distinct_parts, own_point-basic, own_point-nonbasic, place_of}
use Rattle.frac128.proofs.Sums.{minus, minus_is, ◌⊕◌, ◌⊗◌}
use Rattle.dictionary.proofs.Points.Turned.{entry-behind}
use Rattle.cycle_laws.proofs.Bases.{is_basic, nonbasic_at, one_column, same_constant, stands}
use Rattle.cycle_laws.specs.Bases.{maximized_at}
use Rattle.cycle_laws.proofs.Steps.{Step}

-- ---- signs

falling_product : (a x : Fraction) → IsAtMost a zero_value → IsAtMost zero_value x → IsAtMost (a ⊗ x) zero_value
falling_product a x low high = subst (IsAtMost (a ⊗ x)) (exact_product-zero_left x) (IsAtMost-product a zero_value x high low)

rising_product : (a x : Fraction) → IsAtMost zero_value a → IsAtMost x zero_value → IsAtMost (a ⊗ x) zero_value
rising_product a x high low = subst (λ s. IsAtMost s zero_value) (exact_product_comm x a) (falling_product x a low high)

-- a sum none of whose parts is above 0
sum_at-falls : (x : Point) (vs : List ℕ) (coefs : List Fraction) → ((k : ℕ) → k < length vs → IsAtMost (entry coefs k ⊗ x (slice_index vs k)) zero_value) → IsAtMost (sum_at x vs coefs) zero_value
sum_at-falls x [] coefs low = IsAtMost-self zero_value
sum_at-falls x (v ∷ vs) [] low = IsAtMost-self zero_value
sum_at-falls x (v ∷ vs) (a ∷ coefs) low =
    subst (IsAtMost (a ⊗ x v ⊕ sum_at x vs coefs)) (exact_sum-zero_right zero_value apart_of-zero)
    (IsAtMost-sums (a ⊗ x v) zero_value (sum_at x vs coefs) zero_value (low zero (omega arith)) (sum_at-falls x vs coefs (λ k within. low (suc k) (omega (arith, within)))))

one_above : IsBelow zero_value one_value
one_above = (above_zero one_value).1 (omega (arith, ints))

-- ---- one up along the entering column

-- a variable that is neither basic nor the column's
pub along-nowhere : (d : Dictionary) (j v : ℕ) → IsLawful d → (v ≢ slice_index d.nonbasic j) → is_basic d v ≡ false → along j one_value d v ≡ zero_value
unfolding is_basic
along-nowhere d j v lawful other nowhere =
    let past = ltb-false (place_of d.basic v) (length d.basic) nowhere in
    along-other j one_value d v other ∙ ap (row_along j one_value) (get_or_past d.rows (place_of d.basic v) [] (omega (arith, past, lawful.shape.rows))) ∙ row_along-none j one_value

abbrev up : (d e : Dictionary) → Step d e → Point
up d e s = along s.j one_value d

up-value : (d e : Dictionary) → IsLawful d → (s : Step d e) → maximized_at d (up d e s) ≡ entry (maximized_row d) 0 ⊕ entry (maximized_row d) (suc s.j) ⊗ one_value
up-value d e lawful s = ap (λ t. entry (maximized_row d) 0 ⊕ t) (along-columns s.j one_value d (maximized_row d) lawful s.turn.column_within (maximized-wide d lawful.shape))

-- the maximized row is greater there than at the own point
up-above : (d e : Dictionary) → IsLawful d → (s : Step d e) → IsBelow (entry (maximized_row d) 0) (maximized_at d (up d e s))
up-above d e lawful s =
    let z = entry (maximized_row d) 0 in
    let slope = entry (maximized_row d) (suc s.j) in
    let above = above_from_positive slope s.rises in
    let rise : IsBelow zero_value (slope ⊗ one_value) = subst (λ t. IsBelow t (slope ⊗ one_value)) (exact_product-zero_left one_value) (IsBelow-product zero_value slope one_value one_above above) in
    subst (IsBelow z) (sym (up-value d e lawful s))
    (subst (λ t. IsBelow t (z ⊕ slope ⊗ one_value)) (exact_sum-zero_left z (maximized-reduced d lawful))
    (subst (IsBelow (zero_value ⊕ z)) (exact_sum_comm (slope ⊗ one_value) z) (IsBelow-sum zero_value (slope ⊗ one_value) z rise)))

-- ---- two steps

-- In d a variable leaves that enters in another dictionary e with the same solutions, values and own point. No variable above it
-- enters in d, or is basic in d and not in e.
pub record Clash (d d' e e' : Dictionary) : Type 0 where
  pub lawful_d : IsLawful d
  pub lawful_e : IsLawful e
  pub leaving : Step d d'
  pub entering : Step e e'
  pub solutions : (x : Point) → Solves d x → Solves e x
  pub values : (x : Point) → Solves d x → maximized_at d x ≡ maximized_at e x
  pub own : (v : ℕ) → own_point d v ≡ own_point e v
  pub same : slice_index d.basic leaving.i ≡ slice_index e.nonbasic entering.j
  pub entered_at_most : slice_index d.nonbasic leaving.j ≤ slice_index e.nonbasic entering.j
  pub moved_at_most : (v : ℕ) → is_basic d v ≡ true → is_basic e v ≡ false → v ≤ slice_index e.nonbasic entering.j

-- the constant of a row of d whose variable is nonbasic in e
row_constant : (d d' e e' : Dictionary) → (h : Clash d d' e e') → (i k : ℕ) → i < length d.basic → k < length e.nonbasic → slice_index d.basic i ≡ slice_index e.nonbasic k → entry (slice_index_or d.rows i []) 0 ≡ zero_value
row_constant d d' e e' h i k i_in k_in is =
    sym (own_point-basic d i h.lawful_d i_in) ∙ ap (own_point d) is ∙ h.own (slice_index e.nonbasic k) ∙ own_point-nonbasic e k h.lawful_e k_in

-- a row of d of such a variable, one up along the column
row_up : (d d' e e' : Dictionary) → (h : Clash d d' e e') → (i k : ℕ) → i < length d.basic → k < length e.nonbasic → slice_index d.basic i ≡ slice_index e.nonbasic k
    → up d d' h.leaving (slice_index e.nonbasic k) ≡ row_along h.leaving.j one_value (slice_index_or d.rows i [])
row_up d d' e e' h i k i_in k_in is =
    ap (up d d' h.leaving) (sym is) ∙ along-basic h.leaving.j i one_value d h.lawful_d h.leaving.turn.column_within i_in

quotient_none : (x a : Fraction) → x ≡ zero_value → exact_quotient x a ≡ zero_value
quotient_none x a e = ap (λ y. exact_quotient y a) e ∙ exact_product-zero_left (inverse a)

-- a row that falls
row_falls : (j : ℕ) (row : List Fraction) → entry row 0 ≡ zero_value → is_positive (entry row (suc j)) ≡ true → IsAtMost (row_along j one_value row) zero_value
row_falls j row none positive =
    let a = entry row (suc j) in
    let above : IsAtMost zero_value (a ⊗ one_value) =
    subst (λ t. IsAtMost t (a ⊗ one_value)) (exact_product-zero_left one_value) (IsAtMost-product zero_value a one_value (IsAtMost-from_below zero_value one_value one_above) (IsAtMost-from_below zero_value a (above_from_positive a positive))) in
    let falls : IsAtMost (minus (a ⊗ one_value)) zero_value = subst (λ t. IsAtMost t zero_value) (sym (minus_is (a ⊗ one_value))) (IsAtMost-negation zero_value (a ⊗ one_value) above) in
    subst (λ t. IsAtMost (t ⊕ minus (a ⊗ one_value)) zero_value) (sym none)
    (subst (IsAtMost (zero_value ⊕ minus (a ⊗ one_value))) (exact_sum-zero_right zero_value apart_of-zero) (IsAtMost-sums zero_value zero_value (minus (a ⊗ one_value)) zero_value (IsAtMost-self zero_value) falls))

-- What a column of e adds to its maximized row there is at most 0: the column's variable may be ..
Adds : (d d' e e' : Dictionary) → Clash d d' e e' → ℕ → Type 0
Adds d d' e e' h k = IsAtMost (entry (maximized_row e) (suc k) ⊗ up d d' h.leaving (slice_index e.nonbasic k)) zero_value

-- .. the one that enters in d,
own_adds : (d d' e e' : Dictionary) → (h : Clash d d' e e') → (k : ℕ) → k < length e.nonbasic → slice_index e.nonbasic k ≡ slice_index d.nonbasic h.leaving.j → Adds d d' e e' h k
unfolding Adds
own_adds d d' e e' h k within is =
    let a = entry (maximized_row e) (suc k) in
    let s = h.leaving in
    falling_product a (up d d' s (slice_index e.nonbasic k)) (at_most_from_not_positive a (by_test (is_positive a) refl))
    (subst (IsAtMost zero_value) (sym (ap (up d d' s) is ∙ along-own s.j one_value d)) (IsAtMost-from_below zero_value one_value one_above))
  where
    by_test : (b : Bool) → is_positive (entry (maximized_row e) (suc k)) ≡ b → is_positive (entry (maximized_row e) (suc k)) ≡ false
    by_test false p = p
    by_test true p =
        let most = h.entering.smallest_in k within p in
        let least = h.entered_at_most in
        let both : slice_index d.basic h.leaving.i ≡ slice_index d.nonbasic h.leaving.j = h.same ∙ omega (arith, most, least, is) in
        absurd (distinct_parts d.basic d.nonbasic h.leaving.i h.leaving.j h.lawful_d.distinct h.leaving.turn.row_within h.leaving.turn.column_within both)

-- .. another one that is not basic in d,
other_adds : (d d' e e' : Dictionary) → (h : Clash d d' e e') → (k : ℕ) → k < length e.nonbasic → (slice_index e.nonbasic k ≢ slice_index d.nonbasic h.leaving.j) → is_basic d (slice_index e.nonbasic k) ≡ false → Adds d d' e e' h k
unfolding Adds
other_adds d d' e e' h k within other nowhere =
    let a = entry (maximized_row e) (suc k) in
    let none = along-nowhere d h.leaving.j (slice_index e.nonbasic k) h.lawful_d other nowhere in
    subst (λ t. IsAtMost t zero_value) (sym (ap (λ x. a ⊗ x) none ∙ exact_product-zero_right a)) (IsAtMost-self zero_value)

-- .. the one that leaves in d,
same_adds : (d d' e e' : Dictionary) → (h : Clash d d' e e') → Adds d d' e e' h h.entering.j
unfolding Adds
same_adds d d' e e' h =
    let t = h.entering in
    let s = h.leaving in
    let a = entry (maximized_row e) (suc t.j) in
    let in_e = t.turn.column_within in
    let in_d = s.turn.row_within in
    rising_product a (up d d' s (slice_index e.nonbasic t.j)) (IsAtMost-from_below zero_value a (above_from_positive a t.rises))
    (subst (λ x. IsAtMost x zero_value) (sym (row_up d d' e e' h s.i t.j in_d in_e h.same))
    (row_falls s.j (slice_index_or d.rows s.i []) (row_constant d d' e e' h s.i t.j in_d in_e h.same) s.bounds))

-- .. or a smaller one that is basic in d, which would have left if it fell.
smaller_adds : (d d' e e' : Dictionary) → (h : Clash d d' e e') → (i k : ℕ) → i < length d.basic → k < length e.nonbasic → slice_index d.basic i ≡ slice_index e.nonbasic k → slice_index e.nonbasic k < slice_index e.nonbasic h.entering.j → Adds d d' e e' h k
unfolding Adds
smaller_adds d d' e e' h i k in_d in_e is less =
    let s = h.leaving in
    let a = entry (maximized_row e) (suc k) in
    let row = slice_index_or d.rows i [] in
    let none = row_constant d d' e e' h i k in_d in_e is in
    falling_product a (up d d' s (slice_index e.nonbasic k)) (at_most_from_not_positive a (entering_test (is_positive a) refl))
    (subst (IsAtMost zero_value) (sym (row_up d d' e e' h i k in_d in_e is))
    (row_along-at_least s.j one_value row (IsAtMost-from_below zero_value one_value one_above) (subst (IsAtMost zero_value) (sym none) (IsAtMost-self zero_value))
    (at_most_from_not_positive (entry row (suc s.j)) (leaving_test none (is_positive (entry row (suc s.j))) refl))))
  where
    entering_test : (b : Bool) → is_positive (entry (maximized_row e) (suc k)) ≡ b → is_positive (entry (maximized_row e) (suc k)) ≡ false
    entering_test false p = p
    entering_test true p = absurd (let most = h.entering.smallest_in k in_e p in omega (arith, most, less))

    leaving_test : entry (slice_index_or d.rows i []) 0 ≡ zero_value → (b : Bool) → is_positive (entry (slice_index_or d.rows i []) (suc h.leaving.j)) ≡ b → is_positive (entry (slice_index_or d.rows i []) (suc h.leaving.j)) ≡ false
    leaving_test none false p = p
    leaving_test none true p =
        let s = h.leaving in
        let row = slice_index_or d.rows i [] in
        let own_row = slice_index_or d.rows s.i [] in
        let here = quotient_none (entry row 0) (entry row (suc s.j)) none in
        let there = quotient_none (entry own_row 0) (entry own_row (suc s.j)) (row_constant d d' e e' h s.i h.entering.j s.turn.row_within h.entering.turn.column_within h.same) in
        let tie = s.smallest_out i in_d p (subst₂ IsAtMost (sym here) (sym there) (IsAtMost-self zero_value)) in
        let same = h.same in
        absurd (omega (arith, tie, same, is, less))

adds : (d d' e e' : Dictionary) → (h : Clash d d' e e') → (k : ℕ) → k < length e.nonbasic → Adds d d' e e' h k
adds d d' e e' h k within = by_test (is_basic d (slice_index e.nonbasic k)) refl
  where
    by_test : (b : Bool) → is_basic d (slice_index e.nonbasic k) ≡ b → Adds d d' e e' h k
    by_test false nowhere =
        ⊎_elim (λ is. own_adds d d' e e' h k within is) (λ other. other_adds d d' e e' h k within other nowhere) (cases_eq (slice_index e.nonbasic k) (slice_index d.nonbasic h.leaving.j))
    by_test true basic =
        let there = stands d (slice_index e.nonbasic k) basic in
        let most = h.moved_at_most (slice_index e.nonbasic k) basic (nonbasic_at e k h.lawful_e within) in
        ⊎_elim
        (λ is. subst (Adds d d' e e' h) (sym (one_column e k h.entering.j h.lawful_e within h.entering.turn.column_within is)) (same_adds d d' e e' h))
        (λ other. smaller_adds d d' e e' h (place_of d.basic (slice_index e.nonbasic k)) k there.within within there.is (omega (arith, most, other)))
        (cases_eq (slice_index e.nonbasic k) (slice_index e.nonbasic h.entering.j))

-- The maximized row rises above its constant by d and not by e.
pub clash : (d d' e e' : Dictionary) → Clash d d' e e' → ⊥
unfolding Adds
clash d d' e e' h =
    let s = h.leaving in
    let x = up d d' s in
    let z = entry (maximized_row d) 0 in
    let z' = entry (maximized_row e) 0 in
    let solves = along-solves s.j one_value d h.lawful_d s.turn.column_within apart_of-one in
    let sum = sum_at x e.nonbasic (drop 1 (maximized_row e)) in
    let falls : IsAtMost sum zero_value = sum_at-falls x e.nonbasic (drop 1 (maximized_row e))
    (λ k within. subst (λ a. IsAtMost (a ⊗ x (slice_index e.nonbasic k)) zero_value) (sym (entry-behind k (maximized_row e))) (adds d d' e e' h k within)) in
    let most : IsAtMost (maximized_at e x) z' =
    subst (IsAtMost (z' ⊕ sum)) (exact_sum-zero_right z' (maximized-reduced e h.lawful_e)) (IsAtMost-sums z' z' sum zero_value (IsAtMost-self z') falls) in
    IsBelow-not z (maximized_at d x) (up-above d d' h.lawful_d s)
    (subst₂ IsAtMost (sym (h.values x solves)) (sym (same_constant d e h.lawful_d h.lawful_e h.values h.own)) most)
