-- The weights that are brought back combine the leaf's rows and bounds to the coefficients, with the side.
use Rattle.std.specs.Prelude.{unwrap_or}
use Rattle.std.proofs.Common.{◌≡◌, ◌∙◌, ⊎_elim, refl, sym, ap, ap₂, subst, ℕ, suc, ◌+◌, ◌<◌, false, true≢false, List, [], ◌∷◌, ◌++◌, length, map, drop, All, Option, Some, None, IsTrue, Ok, arith, filter_map, option_map}
use Rattle.std.proofs.lemmas.Bool.{cases_lt}
use Rattle.std.proofs.lemmas.List.{get_or-map, get_or_past, length-map}
use Rattle.std.proofs.lemmas.List.Elements.{All-append, All-cons, All-map, All-nil}
use Rattle.frac128.specs.Fraction.{Fraction, negation, zero_value}
use Rattle.frac128.specs.Order.{IsAtMost}
use Rattle.frac128.specs.Lowest.{IsInLowestTerms}
use Rattle.frac128.proofs.Field.{apart_of-zero, exact_product-zero_right, exact_sum-zero_left, exact_sum_assoc, exact_sum_comm}
use Rattle.frac128.proofs.Ordered.{IsAtMost-negation, IsAtMost-self}
use Rattle.frac128.proofs.Sums.{minus, minus-sum, minus_is, of_some, total, total-append, total-filter_map, total_low, ◌⊕◌, ◌⊗◌}
use Rattle.frac128.proofs.Chains.{same_ok, through}
use Rattle.model_data.specs.Size.{rows_of_sense}
use Rattle.model_data.specs.declared.model.Model.{Model}
use Rattle.model_data.specs.declared.model.Row.{Row}
use Rattle.model_data.specs.declared.model.Sense.{Sense}
use Rattle.model_data.specs.declared.model.Sense.TheVariants.{Equal, Greater, Less}
use Rattle.model_data.specs.declared.solution.Weights.{Weights}
use Rattle.dictionary.specs.Dictionary.{numbers_from}
use Rattle.dictionary.specs.declared.standard.Std.{Std}
use Rattle.dictionary.proofs.Opened.{length-numbers_from}
use Rattle.dictionary.proofs.Points.Opening.{get_or-numbers_from}
use Rattle.solve_defs.specs.Bounds.{Bounds, effective_bounds}
use Rattle.solve_defs.specs.Certificates.{lower_of, may_weigh_bound, may_weigh_row, may_weigh_sense, nth, row_share, share, side_of, side_steps, sign_looks, sum_steps, sums_from, terms_of, upper_of}
use Rattle.solve_defs.specs.Columns.{columns_sum}
use Rattle.solve_defs.specs.LeafWeights.{Combines}
use Rattle.solve_defs.specs.Looks.{Holds, minus as less, minus_times, plus, plus_times, total_of}
use Rattle.solve_defs.specs.StandardForm.{Shape, free, low_weight, low_weights, mirrored, numbered, row_weight, row_weights, shape_between, shapes_of, shifted, spans_of, up_weight, up_weights, width}
use Rattle.solve_defs.specs.Values.{coefficient, is_same, is_zero, term_of, value_at}
use Rattle.solve_defs.specs.declared.cut.Cut.{Cut}
use Rattle.solve_defs.specs.declared.solving.Duals.{Duals}
use Rattle.solve_defs.proofs.FormLists.{at_drop}
use Rattle.solve_defs.proofs.LeafSums.{amount, low_side, row_side, sides, total_of-steps, up_side}
use Rattle.solve_defs.proofs.PointValues.{at_most_shown}
use Rattle.relaxation_laws.specs.LeafSums.{bound_total, coefficients_of, lower_side, row_total, upper_side}
use Rattle.relaxation_laws.proofs.BackLooks.{EachItem, items_total, none_times, numbered_all, numbered_items, numbered_share, same_at_most, show_same}
use Rattle.relaxation_laws.proofs.BackSums.{Given, before_spans, lows_of, row_total-same, side_back, ups_of, values_back}
use Rattle.relaxation_laws.proofs.Priced.{lowest_product, unit, unit_length, unit_value}

-- ---- so many weights

rows_long : (place : ℕ) (rows : List Row) (ys ws : List Fraction) → row_weights place rows ys ≡ Ok ws → length ws ≡ length rows
rows_long place [] ys ws h = ap length (sym (same_ok [] ws h))
rows_long place (row ∷ rows) ys ws h =
    let own = through (row_weight row.sense (value_at ys place) (value_at ys (suc place))) _ ws h in
    let others = through (row_weights (place + rows_of_sense row.sense) rows ys) _ ws own.rest in
    ap length (sym (same_ok (own.value ∷ others.value) ws others.rest)) ∙ ap suc (rows_long (place + rows_of_sense row.sense) rows ys others.value others.first)

lows_long : (column : ℕ) (shapes : List Shape) (reduced : List Fraction) → length (low_weights column shapes reduced) ≡ length shapes
lows_long column [] reduced = refl
lows_long column (shape ∷ shapes) reduced = ap suc (lows_long (column + width shape) shapes reduced)

ups_long : (place column : ℕ) (shapes : List Shape) (ys reduced : List Fraction) → length (up_weights place column shapes ys reduced) ≡ length shapes
ups_long place column [] ys reduced = refl
ups_long place column (shape ∷ shapes) ys reduced = ap suc (ups_long (place + spans_of shape) (column + width shape) shapes ys reduced)

-- what holds of 0 and of each weight
at_place : (P : Fraction → Type 0) (ys : List Fraction) (k : ℕ) → P zero_value → All P ys → P (value_at ys k)
at_place P ys k none all = ⊎_elim (λ within. all k zero_value within) (λ past. subst P (sym (get_or_past ys k zero_value past)) none) (cases_lt k (length ys))

lows_all : (P : Fraction → Type 0) (column : ℕ) (shapes : List Shape) (reduced : List Fraction) → P zero_value → All P reduced → All P (low_weights column shapes reduced)
lows_all P column [] reduced none all = All-nil P
lows_all P column (shape ∷ shapes) reduced none all =
    All-cons P (low_weight shape (value_at reduced column)) (low_weights (column + width shape) shapes reduced) (own shape (at_place P reduced column none all)) (lows_all P (column + width shape) shapes reduced none all)
  where
    own : (shape : Shape) {x : Fraction} → P x → P (low_weight shape x)
    own (shifted l u) h = h
    own (mirrored u) h = none
    own free h = none

ups_all : (P : Fraction → Type 0) (place column : ℕ) (shapes : List Shape) (ys reduced : List Fraction) → P zero_value → All P ys → All P reduced → All P (up_weights place column shapes ys reduced)
ups_all P place column [] ys reduced none all also = All-nil P
ups_all P place column (shape ∷ shapes) ys reduced none all also =
    All-cons P (up_weight shape (value_at reduced column) (value_at ys place)) (up_weights (place + spans_of shape) (column + width shape) shapes ys reduced)
    (own shape (at_place P reduced column none also) (at_place P ys place none all)) (ups_all P (place + spans_of shape) (column + width shape) shapes ys reduced none all also)
  where
    own : (shape : Shape) {x y : Fraction} → P x → P y → P (up_weight shape x y)
    own (shifted l (Some u)) h k = k
    own (shifted l None) h k = none
    own (mirrored u) h k = h
    own free h k = none

-- ---- signs

abbrev high : Fraction → Type 0
high x = IsAtMost zero_value x

row_signs : (place : ℕ) (rows : List Row) (ys ws : List Fraction) → All high ys → row_weights place rows ys ≡ Ok ws → EachItem (λ row w. IsTrue (may_weigh_sense row.sense w)) rows ws
row_signs place [] ys ws all h = tt
row_signs place (row ∷ rows) ys ws all h =
    let own = through (row_weight row.sense (value_at ys place) (value_at ys (suc place))) _ ws h in
    let others = through (row_weights (place + rows_of_sense row.sense) rows ys) _ ws own.rest in
    subst (EachItem (λ r w. IsTrue (may_weigh_sense r.sense w)) (row ∷ rows)) (same_ok (own.value ∷ others.value) ws others.rest)
    (by_sense_is row.sense own.value (value_at ys place) (value_at ys (suc place)) (at_place high ys place (IsAtMost-self zero_value) all) own.first, row_signs (place + rows_of_sense row.sense) rows ys others.value all others.first)
  where
    by_sense_is : (sense : Sense) (w x y : Fraction) → high x → row_weight sense x y ≡ Ok w → IsTrue (may_weigh_sense sense w)
    by_sense_is Less w x y above e = at_most_shown zero_value w (subst high (same_ok x w e) above)
    by_sense_is Greater w x y above e = at_most_shown w zero_value (subst (λ v. IsAtMost v zero_value) (same_ok (negation x) w e) (IsAtMost-negation zero_value x above))
    by_sense_is Equal w x y above e = refl

abbrev shape_of : Bounds → Shape
shape_of b = shape_between b.lower b.upper

none_is : {A : Type 0} → is_zero zero_value ≡ false → A
none_is e = absurd (true≢false e)

low_signs : (column : ℕ) (bounds : List Bounds) (reduced : List Fraction) → All high reduced → EachItem (λ b w. is_zero w ≡ false → IsTrue (may_weigh_bound b.lower w)) bounds (low_weights column (map shape_of bounds) reduced)
low_signs column [] reduced all = tt
low_signs column (b ∷ bounds) reduced all = (own b.lower b.upper (at_place high reduced column (IsAtMost-self zero_value) all), low_signs (column + width (shape_of b)) bounds reduced all)
  where
    own : (lower upper : Option Fraction) {x : Fraction} → high x → is_zero (low_weight (shape_between lower upper) x) ≡ false → IsTrue (may_weigh_bound lower (low_weight (shape_between lower upper) x))
    own (Some l) upper {x = x} above some = at_most_shown zero_value x above
    own None (Some u) above some = none_is some
    own None None above some = none_is some

up_signs : (place column : ℕ) (bounds : List Bounds) (ys reduced : List Fraction) → All high ys → All high reduced
    → EachItem (λ b w. is_zero w ≡ false → IsTrue (may_weigh_bound b.upper w)) bounds (up_weights place column (map shape_of bounds) ys reduced)
up_signs place column [] ys reduced all also = tt
up_signs place column (b ∷ bounds) ys reduced all also =
    (own b.lower b.upper (at_place high reduced column (IsAtMost-self zero_value) also) (at_place high ys place (IsAtMost-self zero_value) all), up_signs (place + spans_of (shape_of b)) (column + width (shape_of b)) bounds ys reduced all also)
  where
    own : (lower upper : Option Fraction) {x y : Fraction} → high x → high y → is_zero (up_weight (shape_between lower upper) x y) ≡ false → IsTrue (may_weigh_bound upper (up_weight (shape_between lower upper) x y))
    own (Some l) (Some u) {y = y} above more some = at_most_shown zero_value y more
    own (Some l) None above more some = none_is some
    own None (Some u) {x = x} above more some = at_most_shown zero_value x above
    own None None above more some = none_is some

-- ---- items

rows_items : (part : Row → Fraction) (rows : List Row) (ws : List Fraction) → items_total (λ row w. w ⊗ part row) rows ws ≡ row_total part rows ws
rows_items part [] ws = refl
rows_items part (row ∷ rows) [] = refl
rows_items part (row ∷ rows) (w ∷ ws) = ap (λ t. w ⊗ part row ⊕ t) (rows_items part rows ws)

bounds_items : (part : Bounds → Fraction → Fraction) (other : Shape → Fraction → Fraction) (bounds : List Bounds) (ws : List Fraction) → ((b : Bounds) (w : Fraction) → part b w ≡ other (shape_of b) w)
    → items_total part bounds ws ≡ bound_total other (map shape_of bounds) ws
bounds_items part other [] ws same = refl
bounds_items part other (b ∷ bounds) [] same = refl
bounds_items part other (b ∷ bounds) (w ∷ ws) same = ap₂ (λ p q. p ⊕ q) (same b w) (bounds_items part other bounds ws same)

of_term : (w : Fraction) (o : Option Fraction) → of_some amount (option_map (plus_times w) o) ≡ w ⊗ unwrap_or o zero_value
of_term w None = sym (exact_product-zero_right w)
of_term w (Some c) = refl

no_term : (w : Fraction) (o : Option Fraction) → w ⊗ zero_value ≡ zero_value → ((c : Fraction) → w ⊗ c ≡ zero_value) → of_some amount (option_map (plus_times w) o) ≡ zero_value
no_term w None one all = refl
no_term w (Some c) one all = all c

no_lower : (w : Fraction) (o : Option Fraction) → ((c : Fraction) → w ⊗ c ≡ zero_value) → of_some amount (option_map (minus_times w) o) ≡ zero_value
no_lower w None all = refl
no_lower w (Some c) all = ap negation (all c)

lower_is : (lower upper : Option Fraction) (w : Fraction) → of_some amount (option_map (minus_times w) lower) ≡ lower_side (shape_between lower upper) w
lower_is (Some l) upper w = refl
lower_is None (Some u) w = refl
lower_is None None w = refl

upper_is : (lower upper : Option Fraction) (w : Fraction) → of_some amount (option_map (plus_times w) upper) ≡ upper_side (shape_between lower upper) w
upper_is (Some l) (Some u) w = refl
upper_is (Some l) None w = refl
upper_is None (Some u) w = refl
upper_is None None w = refl

-- ---- a leaf

module _ (m : Model) (cuts : List Cut) (s : Std) (k : Fraction) (cs : List Fraction) (weights : Duals) (side : Fraction) (ws : List Fraction) (given : Given m cuts s k cs weights side ws) (low : IsInLowestTerms side) (leaf : ℕ) where
  abbrev bounds : List Bounds
  bounds = effective_bounds m cuts

  abbrev shapes : List Shape
  shapes = shapes_of m cuts

  abbrev lows : List Fraction
  lows = lows_of m cuts weights

  abbrev ups : List Fraction
  ups = ups_of m cuts weights

  abbrev back : Weights
  back = record { rows = numbered 1 ws; lows = numbered 1 lows; ups = numbered 1 ups }

  long_rows : length ws ≡ length m.rows
  long_rows = rows_long 0 m.rows weights.ys ws given.rows

  long_lows : length lows ≡ length bounds
  long_lows = lows_long 0 shapes weights.reduced ∙ length-map bounds shape_of

  long_ups : length ups ≡ length bounds
  long_ups = ups_long (before_spans m) 0 shapes weights.ys weights.reduced ∙ length-map bounds shape_of

  signs_hold : All Holds (sign_looks m bounds leaf back)
  signs_hold =
      All-append Holds _ _
      (All-append Holds _ _
      (All-map Holds _ (numbered 1 ws)
      (numbered_all (λ row w. IsTrue (may_weigh_sense row.sense w)) (λ w. IsTrue (may_weigh_row (nth m.rows w.place) w.weight)) m.rows ws long_rows (row_signs 0 m.rows weights.ys ws given.at_least_zero.ys given.rows)
      (λ n row w at some h. subst (λ o. IsTrue (may_weigh_row o w)) (sym at) h)))
      (All-map Holds _ (numbered 1 lows)
      (numbered_all (λ b w. is_zero w ≡ false → IsTrue (may_weigh_bound b.lower w)) (λ w. IsTrue (may_weigh_bound (lower_of (nth bounds w.place)) w.weight)) bounds lows long_lows (low_signs 0 bounds weights.reduced given.at_least_zero.reduced)
      (λ n b w at some h. subst (λ o. IsTrue (may_weigh_bound (lower_of o) w)) (sym at) (h some)))))
      (All-map Holds _ (numbered 1 ups)
      (numbered_all (λ b w. is_zero w ≡ false → IsTrue (may_weigh_bound b.upper w)) (λ w. IsTrue (may_weigh_bound (upper_of (nth bounds w.place)) w.weight)) bounds ups long_ups
      (up_signs (before_spans m) 0 bounds weights.ys weights.reduced given.at_least_zero.ys given.at_least_zero.reduced)
      (λ n b w at some h. subst (λ o. IsTrue (may_weigh_bound (upper_of o) w)) (sym at) (h some))))

  -- the coefficient of one variable
  rows_at : ℕ → Fraction
  rows_at j = row_total (λ row. coefficient row.terms j) m.rows ws

  steps_are : (j : ℕ) → j < length shapes → total amount (sum_steps m back j (suc j)) ≡ (rows_at j ⊕ (zero_value ⊕ negation (value_at lows j))) ⊕ (zero_value ⊕ value_at ups j)
  unfolding rows_at
  steps_are j within =
      let size = length-map bounds shape_of in
      let in_lows : j < length lows = omega (arith, within, long_lows, size) in
      let in_ups : j < length ups = omega (arith, within, long_ups, size) in
      total-append amount (filter_map (row_share m j) (numbered 1 ws) ++ filter_map (share less (suc j)) (numbered 1 lows)) (filter_map (share plus (suc j)) (numbered 1 ups))
      ∙ ap₂ (λ p q. p ⊕ q)
      (total-append amount (filter_map (row_share m j) (numbered 1 ws)) (filter_map (share less (suc j)) (numbered 1 lows))
      ∙ ap₂ (λ p q. p ⊕ q)
      (total-filter_map amount (row_share m j) (numbered 1 ws)
      ∙ numbered_items (λ w. of_some amount (row_share m j w)) (λ row w. w ⊗ coefficient row.terms j) m.rows ws long_rows
      (λ place x none. no_term x (term_of (terms_of (nth m.rows place)) j) (none_times x zero_value none) (λ c. none_times x c none))
      (λ n row w at. ap (λ o. of_some amount (option_map (plus_times w) (term_of (terms_of o) j))) at ∙ of_term w (term_of row.terms j))
      ∙ rows_items (λ row. coefficient row.terms j) m.rows ws)
      (total-filter_map amount (share less (suc j)) (numbered 1 lows) ∙ numbered_share less j lows in_lows (lows_all IsInLowestTerms 0 shapes weights.reduced apart_of-zero given.at_least_zero.lowest) refl))
      (total-filter_map amount (share plus (suc j)) (numbered 1 ups) ∙ numbered_share plus j ups in_ups (ups_all IsInLowestTerms (before_spans m) 0 shapes weights.ys weights.reduced apart_of-zero given.at_least_zero.ys_lowest given.at_least_zero.lowest) refl)

  -- a list's value in one place, where the list has that length
  one_value_of : (xs : List Fraction) (n j : ℕ) → length xs ≡ n → j < n → columns_sum xs (unit n j) ≡ zero_value ⊕ value_at xs j
  one_value_of xs n j same within = subst (λ size. columns_sum xs (unit size j) ≡ zero_value ⊕ value_at xs j) same (unit_value xs j (omega (arith, same, within)))

  coefficient_at : (row : Row) (w : Fraction) (j : ℕ) → j < length shapes → w ⊗ columns_sum (coefficients_of (length shapes) row) (unit (length shapes) j) ≡ w ⊗ coefficient row.terms j
  coefficient_at row w j within =
      let n = length shapes in
      let size = length-numbers_from 0 n in
      let zero_on : 0 + j ≡ j = omega arith in
      ap (λ v. w ⊗ v) (one_value_of (coefficients_of n row) n j (length-map (numbers_from 0 n) (coefficient row.terms) ∙ size) within) ∙ lowest_product w (value_at (coefficients_of n row) j)
      ∙ ap (λ v. w ⊗ v) (get_or-map (coefficient row.terms) (numbers_from 0 n) j 0 zero_value (omega (arith, within, size)) ∙ ap (coefficient row.terms) (get_or-numbers_from 0 n j 0 within ∙ zero_on))

  coefficient_sum : (j : ℕ) → j < length shapes → total amount (sum_steps m back j (suc j)) ≡ zero_value ⊕ value_at cs j
  unfolding rows_at
  coefficient_sum j within =
      let n = length shapes in
      let size = length-map bounds shape_of in
      let u = value_at ups j in
      let l = value_at lows j in
      steps_are j within
      ∙ sorted (rows_at j) l u
      ∙ sym (sym (one_value_of cs n j given.same within) ∙ values_back m cuts s k cs weights side ws given (unit n j) (unit_length n j)
      ∙ ap₂ (λ p q. p ⊕ q)
      (row_total-same (λ row. columns_sum (coefficients_of n row) (unit n j)) (λ row. coefficient row.terms j) m.rows ws (λ row w. coefficient_at row w j within))
      (ap₂ (λ p q. p ⊕ minus q) (one_value_of ups n j (long_ups ∙ sym size) within) (one_value_of lows n j (long_lows ∙ sym size) within)))
    where
      sorted : (r l u : Fraction) → (r ⊕ (zero_value ⊕ negation l)) ⊕ (zero_value ⊕ u) ≡ r ⊕ ((zero_value ⊕ u) ⊕ minus (zero_value ⊕ l))
      sorted r l u =
          exact_sum_assoc r (zero_value ⊕ negation l) (zero_value ⊕ u)
          ∙ ap (λ v. r ⊕ v) (exact_sum_comm (zero_value ⊕ negation l) (zero_value ⊕ u) ∙ ap (λ v. (zero_value ⊕ u) ⊕ v) (sym (minus-sum zero_value l ∙ ap₂ (λ p q. p ⊕ q) (minus_is zero_value) (minus_is l))))

  sum_holds : (j : ℕ) (coef : Fraction) → value_at cs j ≡ coef → j < length cs → IsTrue (is_same (total_of zero_value (sum_steps m back j (suc j))) coef)
  sum_holds j coef is within =
      let same = given.same in
      let steps = sum_steps m back j (suc j) in
      let value = total_of zero_value steps in
      let low_value : zero_value ⊕ value ≡ zero_value ⊕ coef =
      exact_sum_comm zero_value value ∙ total_of-steps zero_value steps ∙ exact_sum-zero_left (total amount steps) (total_low amount steps) ∙ coefficient_sum j (omega (arith, same, within)) ∙ ap (λ c. zero_value ⊕ c) is in
      show_same value coef (same_at_most value coef low_value) (same_at_most coef value (sym low_value))

  sums_from_hold : (place : ℕ) (coefs : List Fraction) → drop place cs ≡ coefs → All Holds (sums_from m leaf back place coefs)
  sums_from_hold place [] at = All-nil Holds
  sums_from_hold place (coef ∷ coefs) at =
      let here = at_drop cs place zero_value coef coefs at in
      All-cons Holds _ (sums_from m leaf back (suc place) coefs) (sum_holds place coef here.0 here.2) (sums_from_hold (suc place) coefs here.1)

  pub combines : Combines m cuts leaf back cs
  combines = record { signs = signs_hold; sums = sums_from_hold 0 cs refl }

  -- the side
  pub side_is : zero_value ⊕ total_of k (side_steps m bounds back) ≡ side
  side_is =
      let steps = side_steps m bounds back in
      exact_sum_comm zero_value (total_of k steps) ∙ total_of-steps k steps
      ∙ ap (λ t. k ⊕ t)
      (sides m bounds back
      ∙ ap₂ (λ p q. p ⊕ q)
      (ap₂ (λ p q. p ⊕ q)
      (numbered_items (row_side m) (λ row w. w ⊗ row.rhs) m.rows ws long_rows (λ place x none. none_times x (side_of (nth m.rows place)) none) (λ n row w at. ap (λ o. w ⊗ side_of o) at) ∙ rows_items (λ row. row.rhs) m.rows ws)
      (numbered_items (low_side bounds) (λ b w. of_some amount (option_map (minus_times w) b.lower)) bounds lows long_lows
      (λ place x none. no_lower x (lower_of (nth bounds place)) (λ c. none_times x c none)) (λ n b w at. ap (λ o. of_some amount (option_map (minus_times w) (lower_of o))) at)
      ∙ bounds_items (λ b w. of_some amount (option_map (minus_times w) b.lower)) lower_side bounds lows (λ b w. lower_is b.lower b.upper w)))
      (numbered_items (up_side bounds) (λ b w. of_some amount (option_map (plus_times w) b.upper)) bounds ups long_ups
      (λ place x none. no_term x (upper_of (nth bounds place)) (none_times x zero_value none) (λ c. none_times x c none)) (λ n b w at. ap (λ o. of_some amount (option_map (plus_times w) (upper_of o))) at)
      ∙ bounds_items (λ b w. of_some amount (option_map (plus_times w) b.upper)) upper_side bounds ups (λ b w. upper_is b.lower b.upper w))
      ∙ exact_sum_assoc (row_total (λ row. row.rhs) m.rows ws) (bound_total lower_side shapes lows) (bound_total upper_side shapes ups))
      ∙ sym (side_back m cuts s k cs weights side ws given low)
