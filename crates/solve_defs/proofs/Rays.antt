-- The points along a ray: they are feasible, and some are better than each whole number.
use Rattle.std.proofs.Common.{◌≡◌, refl, sym, ◌∙◌, ap, ap₂, subst, subst₂, ⊎_elim, ℕ, zero, suc, ◌+◌, ◌<◌, pos, ◌*ℤ◌, true, IsTrue, ◌&&◌, ◌||◌, not, List, [], ◌∷◌, ◌++◌, map, zip, length, flat_map, Option, Some, None, is_none, All, arith}
use Rattle.std.specs.List.{enumerate_from}
use Rattle.std.proofs.lemmas.Bool.{and_from, and_parts, not_from_false, or_left}
use Rattle.std.proofs.lemmas.Int.{ints}
use Rattle.std.proofs.lemmas.List.Elements.{All-append, All-cons, All-head, All-nil, All-tail}
use Rattle.frac128.specs.Fraction.{Fraction, den, exact_sum, inverse, negation, one_value, zero_value}
use Rattle.frac128.specs.Order.{IsAtMost, IsBelow}
use Rattle.frac128.proofs.Field.{apart_of-sum, exact_product-inverse, exact_product-negation_right, exact_product-one_left, exact_product-one_right, exact_product-sum, exact_product-sum_right, exact_product-zero_left, exact_product-zero_right, exact_product_assoc, exact_product_comm, exact_sum-negation, exact_sum-zero_left, exact_sum-zero_right, exact_sum_assoc, exact_sum_comm, lowest-apart, negation-negation, negation-sum}
use Rattle.frac128.proofs.Integers.{lt_of_le_not}
use Rattle.frac128.proofs.Ordered.{IsAtMost-difference, IsAtMost-product, IsAtMost-self, IsAtMost-sums, IsAtMost_trans, IsBelow-negation, IsBelow-not, IsBelow-product, IsBelow-sum, IsBelow_trans, IsBelow_trans_right, above_zero, cases_below}
use Rattle.frac128.proofs.Seen.{lowest-same}
use Rattle.model_data.specs.Size.{is_integer}
use Rattle.model_data.specs.declared.model.Direction.{Direction}
use Rattle.model_data.specs.declared.model.Direction.TheVariants.{Minimize, Maximize}
use Rattle.model_data.specs.declared.model.Model.{Model}
use Rattle.model_data.specs.declared.model.Row.{Row}
use Rattle.model_data.specs.declared.model.Sense.{Sense}
use Rattle.model_data.specs.declared.model.Sense.TheVariants.{Less, Greater, Equal}
use Rattle.model_data.specs.declared.model.Term.{Term}
use Rattle.model_data.specs.declared.model.Var.{Var}
use Rattle.model_data.specs.declared.solution.Point.{Point}
use Rattle.solve_defs.specs.Bounds.{Bounds, effective_bounds}
use Rattle.solve_defs.specs.Certificates.{compares, gains, is_above, is_negative_or_zero, is_positive_or_zero, is_under, is_within, keeps_along, objective_steps, point_bound, point_integer, point_row, point_value, ray_bound, ray_gain, ray_looks, ray_row, row_steps, stays_within}
use Rattle.solve_defs.specs.Kinds.{are_continuous, is_continuous}
use Rattle.solve_defs.specs.Looks.{Holds, Look, plus_times, total_of}
use Rattle.solve_defs.specs.Points.{Below, IsBetter, IsFeasiblePoint, IsUnbounded, Ratio, objective_value, quotient, ratio}
use Rattle.solve_defs.specs.Values.{is_at_most, is_whole, value_at}
use Rattle.solve_defs.specs.declared.verdict.Place.TheVariants.{RayRow}
use Rattle.solve_defs.proofs.Domains.{bound_looks, continuous_kind, integer_looks, whole_look, within_look}
use Rattle.solve_defs.proofs.FormBounds.{low_negation}
use Rattle.solve_defs.proofs.KeptPoints.{from_zero, kept_point, same_by}
use Rattle.solve_defs.proofs.LeafBounds.{All-left, All-right, objective_den}
use Rattle.solve_defs.proofs.LeafShares.{kept}
use Rattle.solve_defs.proofs.LeafSums.{amount, total_of-steps}
use Rattle.solve_defs.proofs.PointValues.{at_most-low, at_most_holds, at_most_shown, below_holds, below_low, low, low-ratio, low_below, same_holds, same_shown}
use Rattle.frac128.proofs.Sums.{◌⊕◌, ◌⊗◌, interchange, no_zeros, total, total-map, total-plus, total-same, product-total}
use Rattle.frac128.specs.Lowest.{IsInLowestTerms}

-- ---- along a ray

-- a point, and so often a direction
abbrev pub along : Fraction → List Fraction → List Fraction → List Fraction
along t [] ray = []
along t (x ∷ xs) [] = []
along t (x ∷ xs) (r ∷ ray) = (x ⊕ t ⊗ r) ∷ along t xs ray

pub length-along : (t : Fraction) (xs ray : List Fraction) → length xs ≡ length ray → length (along t xs ray) ≡ length xs
length-along t [] ray long = refl
length-along t (x ∷ xs) [] long = absurd (omega (arith, long))
length-along t (x ∷ xs) (r ∷ ray) long = ap suc (length-along t xs ray (omega (arith, long)))

value_along : (t : Fraction) (xs ray : List Fraction) (v : ℕ) → length xs ≡ length ray → value_at (along t xs ray) v ≡ value_at xs v ⊕ t ⊗ value_at ray v
value_along t [] [] v long = no_zeros ∙ ap (λ s. zero_value ⊕ s) (sym (exact_product-zero_right t))
value_along t [] (r ∷ ray) v long = absurd (omega (arith, long))
value_along t (x ∷ xs) [] v long = absurd (omega (arith, long))
value_along t (x ∷ xs) (r ∷ ray) zero long = refl
value_along t (x ∷ xs) (r ∷ ray) (suc v) long = value_along t xs ray v (omega (arith, long))

-- a coefficient times a value along the ray
term_along : (t c x r : Fraction) → c ⊗ (x ⊕ t ⊗ r) ≡ c ⊗ x ⊕ t ⊗ (c ⊗ r)
term_along t c x r =
    exact_product-sum_right c x (t ⊗ r)
    ∙ ap (λ s. c ⊗ x ⊕ s) (sym (exact_product_assoc c t r) ∙ ap (λ s. s ⊗ r) (exact_product_comm c t) ∙ exact_product_assoc t c r)

row_along : (t : Fraction) (xs ray : List Fraction) (terms : List Term) → length xs ≡ length ray
    → total amount (row_steps terms (along t xs ray)) ≡ total amount (row_steps terms xs) ⊕ t ⊗ total amount (row_steps terms ray)
row_along t xs ray terms long =
    total-map amount (λ s. plus_times s.coef (value_at (along t xs ray) s.var)) terms
    ∙ total-same (λ s. s.coef ⊗ value_at (along t xs ray) s.var) (λ s. s.coef ⊗ value_at xs s.var ⊕ t ⊗ (s.coef ⊗ value_at ray s.var)) terms
    (λ s. ap (λ y. s.coef ⊗ y) (value_along t xs ray s.var long) ∙ term_along t s.coef (value_at xs s.var) (value_at ray s.var))
    ∙ total-plus (λ s. s.coef ⊗ value_at xs s.var) (λ s. t ⊗ (s.coef ⊗ value_at ray s.var)) terms
    ∙ ap₂ exact_sum
    (sym (total-map amount (λ s. plus_times s.coef (value_at xs s.var)) terms))
    (sym (product-total t (λ s. s.coef ⊗ value_at ray s.var) terms)
    ∙ ap (λ s. t ⊗ s) (sym (total-map amount (λ s. plus_times s.coef (value_at ray s.var)) terms)))

-- the objective's terms
terms_along : (t : Fraction) (coefs xs ray : List Fraction) → length xs ≡ length ray
    → total (λ p. p.0 ⊗ p.1) (zip coefs (along t xs ray)) ≡ total (λ p. p.0 ⊗ p.1) (zip coefs xs) ⊕ t ⊗ total (λ p. p.0 ⊗ p.1) (zip coefs ray)
terms_along t [] xs ray long = no_zeros ∙ ap (λ s. zero_value ⊕ s) (sym (exact_product-zero_right t))
terms_along t (c ∷ coefs) [] [] long = no_zeros ∙ ap (λ s. zero_value ⊕ s) (sym (exact_product-zero_right t))
terms_along t (c ∷ coefs) [] (r ∷ ray) long = absurd (omega (arith, long))
terms_along t (c ∷ coefs) (x ∷ xs) [] long = absurd (omega (arith, long))
terms_along t (c ∷ coefs) (x ∷ xs) (r ∷ ray) long =
    ap₂ exact_sum (term_along t c x r) (terms_along t coefs xs ray (omega (arith, long)))
    ∙ interchange (c ⊗ x) (t ⊗ (c ⊗ r)) (total (λ p. p.0 ⊗ p.1) (zip coefs xs)) (t ⊗ total (λ p. p.0 ⊗ p.1) (zip coefs ray))
    ∙ ap (λ s. c ⊗ x ⊕ total (λ p. p.0 ⊗ p.1) (zip coefs xs) ⊕ s) (sym (exact_product-sum_right t (c ⊗ r) (total (λ p. p.0 ⊗ p.1) (zip coefs ray))))

-- ---- what stays

-- a value that is at most one, and a step that isn't above 0
falls : (t x r y : Fraction) → IsTrue (is_at_most zero_value t) → IsAtMost x y → IsAtMost r zero_value → IsAtMost (x ⊕ t ⊗ r) y
falls t x r y sign h k =
    IsAtMost_trans (x ⊕ t ⊗ r) (y ⊕ zero_value) y
    (IsAtMost-sums x y (t ⊗ r) zero_value h (subst (λ s. IsAtMost (t ⊗ r) s) (exact_product-zero_right t) (kept t r zero_value sign k)))
    (subst (λ s. IsAtMost s y) (low-ratio y) (low_below y))

rises : (t x r y : Fraction) → IsTrue (is_at_most zero_value t) → IsAtMost y x → IsAtMost zero_value r → IsAtMost y (x ⊕ t ⊗ r)
rises t x r y sign h k =
    IsAtMost_trans y (y ⊕ zero_value) (x ⊕ t ⊗ r)
    (subst (λ s. IsAtMost y s) (low-ratio y) (below_low y))
    (IsAtMost-sums y x zero_value (t ⊗ r) h (subst (λ s. IsAtMost s (t ⊗ r)) (exact_product-zero_right t) (kept t zero_value r sign k)))

-- three sums, of which the last is the first and so often the second
kept_along : (sense : Sense) (t x r z rhs : Fraction) → IsTrue (is_at_most zero_value t) → low (ratio z) ≡ low (ratio x) ⊕ t ⊗ low (ratio r)
    → IsTrue (compares sense x rhs) → IsTrue (keeps_along sense r) → IsTrue (compares sense z rhs)
kept_along Less t x r z rhs sign is at_point along_ray =
    at_most_shown z rhs (IsAtMost_trans z (low (ratio z)) rhs (below_low z) (subst (λ s. IsAtMost s rhs) (sym is)
    (falls t (low (ratio x)) (low (ratio r)) rhs sign
    (IsAtMost_trans (low (ratio x)) x rhs (low_below x) (at_most_holds x rhs at_point))
    (IsAtMost_trans (low (ratio r)) r zero_value (low_below r) (at_most_holds r zero_value along_ray)))))
kept_along Greater t x r z rhs sign is at_point along_ray =
    at_most_shown rhs z (IsAtMost_trans rhs (low (ratio z)) z (subst (λ s. IsAtMost rhs s) (sym is)
    (rises t (low (ratio x)) (low (ratio r)) rhs sign
    (IsAtMost_trans rhs x (low (ratio x)) (at_most_holds rhs x at_point) (below_low x))
    (IsAtMost_trans zero_value r (low (ratio r)) (at_most_holds zero_value r along_ray) (below_low r))))
    (low_below z))
kept_along Equal t x r z rhs sign is at_point along_ray = same_shown z rhs (same_by (ratio z) (ratio rhs) (omega arith) (omega arith) same)
  where
    nothing : low (ratio r) ≡ zero_value
    nothing = same_holds r zero_value along_ray ∙ low-ratio zero_value ∙ sym no_zeros

    same : low (ratio z) ≡ low (ratio rhs)
    same =
        is ∙ ap₂ (λ p q. p ⊕ t ⊗ q) (same_holds x rhs at_point) nothing
        ∙ ap (λ s. low (ratio rhs) ⊕ s) (exact_product-zero_right t)
        ∙ ap (λ s. s ⊕ zero_value) (low-ratio rhs) ∙ exact_sum-zero_right (rhs ⊕ zero_value) (apart_of-sum rhs zero_value) ∙ sym (low-ratio rhs)

-- ---- looks along the ray

abbrev look_at_point : List Fraction → ℕ → Row → Look
look_at_point xs number row = record { place = RayRow number; start = zero_value; steps = row_steps row.terms xs; holds = λ sum. compares row.sense sum row.rhs }

abbrev look_along : List Fraction → ℕ → Row → Look
look_along ray number row = record { place = RayRow number; start = zero_value; steps = row_steps row.terms ray; holds = λ sum. keeps_along row.sense sum }

rows_along : (t : Fraction) (xs ray : List Fraction) (number : ℕ) (rows : List Row) → IsTrue (is_at_most zero_value t) → length xs ≡ length ray
    → All Holds (flat_map (ray_row xs ray) (enumerate_from number rows)) → All Holds (map (point_row (along t xs ray)) (enumerate_from number rows))
rows_along t xs ray number [] sign long hold = All-nil Holds
rows_along t xs ray number (row ∷ rows) sign long hold =
    let rest = flat_map (ray_row xs ray) (enumerate_from (number + 1) rows) in
    let first = look_at_point xs number row in
    let second = look_along ray number row in
    let behind = All-tail Holds first (second ∷ rest) hold in
    All-cons Holds (point_row (along t xs ray) (number, row)) (map (point_row (along t xs ray)) (enumerate_from (number + 1) rows))
    (kept_along row.sense t (total_of zero_value (row_steps row.terms xs)) (total_of zero_value (row_steps row.terms ray)) (total_of zero_value (row_steps row.terms (along t xs ray)))
    row.rhs sign
    (from_zero (row_steps row.terms (along t xs ray)) ∙ row_along t xs ray row.terms long
    ∙ sym (ap₂ (λ p q. p ⊕ t ⊗ q) (from_zero (row_steps row.terms xs)) (from_zero (row_steps row.terms ray))))
    (All-head Holds first (second ∷ rest) hold) (All-head Holds second rest behind))
    (rows_along t xs ray (number + 1) rows sign long (All-tail Holds second rest behind))

within_along : (t x r : Fraction) (b : Bounds) → IsTrue (is_at_most zero_value t) → IsTrue (is_within b x && stays_within b r) → IsTrue (is_within b (x ⊕ t ⊗ r))
within_along t x r b sign shown =
    let parts = and_parts (is_within b x) (stays_within b r) shown in
    let inside = and_parts (is_above b.lower x) (is_under b.upper x) parts.0 in
    let stays = and_parts (is_none b.lower || is_positive_or_zero r) (is_none b.upper || is_negative_or_zero r) parts.1 in
    and_from (is_above b.lower (x ⊕ t ⊗ r)) (is_under b.upper (x ⊕ t ⊗ r)) (above_along b.lower inside.0 stays.0) (under_along b.upper inside.1 stays.1)
  where
    above_along : (bound : Option Fraction) → IsTrue (is_above bound x) → IsTrue (is_none bound || is_positive_or_zero r) → IsTrue (is_above bound (x ⊕ t ⊗ r))
    above_along None h k = refl
    above_along (Some l) h k = at_most_shown l (x ⊕ t ⊗ r) (rises t x r l sign (at_most_holds l x h) (at_most_holds zero_value r k))

    under_along : (bound : Option Fraction) → IsTrue (is_under bound x) → IsTrue (is_none bound || is_negative_or_zero r) → IsTrue (is_under bound (x ⊕ t ⊗ r))
    under_along None h k = refl
    under_along (Some u) h k = at_most_shown (x ⊕ t ⊗ r) u (falls t x r u sign (at_most_holds x u h) (at_most_holds r zero_value k))

bounds_along : (t : Fraction) (xs ray : List Fraction) (number : ℕ) (bounds : List Bounds) → IsTrue (is_at_most zero_value t) → length xs ≡ length ray
    → All Holds (map ray_bound (enumerate_from number (zip bounds (zip xs ray)))) → All Holds (map within_look (enumerate_from number (zip bounds (along t xs ray))))
bounds_along t xs ray number [] sign long hold = All-nil Holds
bounds_along t [] ray number (b ∷ bounds) sign long hold = All-nil Holds
bounds_along t (x ∷ xs) [] number (b ∷ bounds) sign long hold = absurd (omega (arith, long))
bounds_along t (x ∷ xs) (r ∷ ray) number (b ∷ bounds) sign long hold =
    let rest = map ray_bound (enumerate_from (number + 1) (zip bounds (zip xs ray))) in
    All-cons Holds (within_look (number, (b, x ⊕ t ⊗ r))) (map within_look (enumerate_from (number + 1) (zip bounds (along t xs ray))))
    (within_along t x r b sign (All-head Holds (ray_bound (number, (b, (x, r)))) rest hold))
    (bounds_along t xs ray (number + 1) bounds sign (omega (arith, long)) (All-tail Holds (ray_bound (number, (b, (x, r)))) rest hold))

no_integers : (zs : List Fraction) (number : ℕ) (vars : List Var) → are_continuous vars ≡ true → All Holds (map whole_look (enumerate_from number (zip vars zs)))
no_integers zs number [] continuous = All-nil Holds
no_integers [] number (v ∷ vars) continuous = All-nil Holds
no_integers (z ∷ zs) number (v ∷ vars) continuous =
    let parts = and_parts (is_continuous v.kind) (are_continuous vars) continuous in
    All-cons Holds (whole_look (number, (v, z))) (map whole_look (enumerate_from (number + 1) (zip vars zs)))
    (or_left (not (is_integer v.kind)) (is_whole z) (not_from_false (is_integer v.kind) (continuous_kind v.kind parts.0)))
    (no_integers zs (number + 1) vars parts.1)

abbrev pub point_along : Model → Fraction → List Fraction → List Fraction → Point
point_along m t xs ray = record { xs = along t xs ray; value = total_of m.constant (objective_steps m (along t xs ray)) }

-- Each point along the ray is feasible.
pub along_feasible : (m : Model) (t : Fraction) (xs ray : List Fraction) → IsTrue (is_at_most zero_value t) → length xs ≡ length m.vars → length ray ≡ length m.vars → are_continuous m.vars ≡ true
    → All Holds (ray_looks m xs ray) → IsFeasiblePoint m (point_along m t xs ray)
along_feasible m t xs ray sign long ray_long continuous hold =
    let same = long ∙ sym ray_long in
    let zs = along t xs ray in
    let rows = flat_map (ray_row xs ray) (enumerate_from 1 m.rows) in
    let bounds = map ray_bound (enumerate_from 1 (zip (effective_bounds m []) (zip xs ray))) in
    let front = All-left Holds (rows ++ bounds) (ray_gain m ray ∷ []) hold in
    let new_rows = map (point_row zs) (enumerate_from 1 m.rows) in
    let new_bounds = map point_bound (enumerate_from 1 (zip m.vars zs)) in
    let new_integers = map point_integer (enumerate_from 1 (zip m.vars zs)) in
    let last = point_value m (point_along m t xs ray) in
    kept_point m (point_along m t xs ray) (length-along t xs ray same ∙ long)
    (All-append Holds (new_rows ++ new_bounds ++ new_integers) (last ∷ [])
    (All-append Holds (new_rows ++ new_bounds) new_integers
    (All-append Holds new_rows new_bounds
    (rows_along t xs ray 1 m.rows sign same (All-left Holds rows bounds front))
    (subst (All Holds) (sym (bound_looks 0 1 m.vars zs)) (bounds_along t xs ray 1 (effective_bounds m []) sign same (All-right Holds rows bounds front))))
    (subst (All Holds) (sym (integer_looks 1 m.vars zs)) (no_integers zs 1 m.vars continuous)))
    (All-cons Holds last [] (same_shown (total_of m.constant (objective_steps m zs)) (total_of m.constant (objective_steps m zs)) refl) (All-nil Holds)))

-- ---- far along

-- what the objective is along the ray
value_far : (m : Model) (t : Fraction) (xs ray : List Fraction) → length xs ≡ length ray
    → low (ratio (total_of m.constant (objective_steps m (along t xs ray))))
    ≡ (m.constant ⊕ total amount (objective_steps m xs)) ⊕ t ⊗ low (ratio (total_of zero_value (objective_steps m ray)))
value_far m t xs ray long =
    let coefs = map (λ v. v.obj) m.vars in
    low-ratio (total_of m.constant (objective_steps m (along t xs ray)))
    ∙ total_of-steps m.constant (objective_steps m (along t xs ray))
    ∙ ap (λ s. m.constant ⊕ s)
    (total-map amount (λ p. plus_times p.0 p.1) (zip coefs (along t xs ray)) ∙ terms_along t coefs xs ray long
    ∙ ap₂ (λ p q. p ⊕ t ⊗ q)
    (sym (total-map amount (λ p. plus_times p.0 p.1) (zip coefs xs)))
    (sym (total-map amount (λ p. plus_times p.0 p.1) (zip coefs ray)) ∙ sym (from_zero (objective_steps m ray))))
    ∙ sym (exact_sum_assoc m.constant (total amount (objective_steps m xs)) (t ⊗ low (ratio (total_of zero_value (objective_steps m ray)))))

inverse_sign : (g : Fraction) → IsBelow zero_value g → IsAtMost zero_value (inverse g)
inverse_sign g above = ⊎_elim (λ less. absurd (wrong less)) (λ most. most) (cases_below (inverse g) zero_value)
  where
    not_zero : g.num ≡ pos 0 → ⊥
    not_zero e = let some = (above_zero g).0 above in omega (arith, ints, some, e)

    one_above : IsAtMost zero_value one_value
    one_above = record { at_most = omega (arith, ints) }

    wrong : IsBelow (inverse g) zero_value → ⊥
    wrong less =
        IsBelow-not one_value zero_value
        (subst₂ IsBelow (exact_product_comm (inverse g) g ∙ exact_product-inverse g not_zero) (exact_product-zero_left g) (IsBelow-product (inverse g) zero_value g above less))
        one_above

-- how far along a value is above a number
record Far (a g y : Fraction) : Type 0 where
  pub t : Fraction
  pub sign : IsAtMost zero_value t
  pub beyond : IsBelow y (a ⊕ t ⊗ g)

-- what is added to a, where t * g is y - a and g
reaches : (a g y : Fraction) → IsInLowestTerms g → IsBelow zero_value g → a ⊕ ((y ⊕ negation a) ⊗ inverse g ⊕ one_value) ⊗ g ≡ y ⊕ g
reaches a g y low_g above =
    ap (λ s. a ⊕ s)
    (exact_product-sum ((y ⊕ negation a) ⊗ inverse g) one_value g
    ∙ ap₂ exact_sum
    (exact_product_assoc (y ⊕ negation a) (inverse g) g ∙ ap (λ s. (y ⊕ negation a) ⊗ s) (exact_product_comm (inverse g) g ∙ exact_product-inverse g not_zero)
    ∙ exact_product-one_right (y ⊕ negation a) (apart_of-sum y (negation a)))
    (exact_product-one_left g low_g))
    ∙ sym (exact_sum_assoc a (y ⊕ negation a) g)
    ∙ ap (λ s. s ⊕ g)
    (exact_sum_comm a (y ⊕ negation a) ∙ exact_sum_assoc y (negation a) a ∙ ap (λ s. y ⊕ s) (exact_sum_comm (negation a) a ∙ exact_sum-negation a))
    ∙ exact_sum_assoc y zero_value g
    ∙ ap (λ s. y ⊕ s) (exact_sum-zero_left g low_g)
  where
    not_zero : g.num ≡ pos 0 → ⊥
    not_zero e = let some = (above_zero g).0 above in omega (arith, ints, some, e)

far : (a g y : Fraction) → IsInLowestTerms g → IsBelow zero_value g → Far a g y
far a g y low_g above = ⊎_elim here beyond_it (cases_below y a)
  where
    here : IsBelow y a → Far a g y
    here less = record {
      t = zero_value;
      sign = IsAtMost-self zero_value;
      beyond = subst (λ s. IsBelow y s) (low-ratio a ∙ ap (λ s. a ⊕ s) (sym (exact_product-zero_left g))) (IsBelow_trans y a (low (ratio a)) less (below_low a));
    }

    one_above : IsAtMost zero_value one_value
    one_above = record { at_most = omega (arith, ints) }

    at_least : IsAtMost a y → IsAtMost zero_value ((y ⊕ negation a) ⊗ inverse g ⊕ one_value)
    at_least most =
        subst (λ s. IsAtMost s ((y ⊕ negation a) ⊗ inverse g ⊕ one_value)) (sym no_zeros)
        (IsAtMost-sums zero_value ((y ⊕ negation a) ⊗ inverse g) zero_value one_value
        (subst (λ s. IsAtMost s ((y ⊕ negation a) ⊗ inverse g)) (exact_product-zero_left (inverse g))
        (IsAtMost-product zero_value (y ⊕ negation a) (inverse g) (inverse_sign g above) (IsAtMost-difference a y most)))
        one_above)

    beyond_it : IsAtMost a y → Far a g y
    beyond_it most = record {
      t = (y ⊕ negation a) ⊗ inverse g ⊕ one_value;
      sign = at_least most;
      beyond = subst (λ s. IsBelow y s) (exact_sum_comm g y ∙ sym (reaches a g y low_g above))
          (IsBelow_trans_right y (zero_value ⊕ y) (g ⊕ y)
          (subst (λ s. IsAtMost y s) (low-ratio y ∙ exact_sum_comm y zero_value) (below_low y))
          (IsBelow-sum zero_value g y above));
    }

low-below : (r s : Ratio) → 0 < r.den → 0 < s.den → IsBelow (low r) (low s) → Below r s
low-below r s r_some s_some h =
    lt_of_le_not (r.num *ℤ pos s.den) (s.num *ℤ pos r.den) (λ most. IsBelow-not (low r) (low s) h (at_most-low s r s_some r_some most))

-- how far along the objective, which the ray makes better, is better than a number
record Better (direction : Direction) (a g y : Fraction) : Type 0 where
  pub t : Fraction
  pub sign : IsAtMost zero_value t
  pub beyond : (value : Ratio) (limit : Ratio) → 0 < value.den → 0 < limit.den → low value ≡ a ⊕ t ⊗ g → low limit ≡ y → IsBetter direction value limit

better_far : (direction : Direction) (a y r : Fraction) → IsTrue (gains direction r) → Better direction a (low (ratio r)) y
better_far Maximize a y r gain =
    let g = low (ratio r) in
    let found = far a g y (lowest-apart r.num (den r) (omega arith)) (IsBelow_trans zero_value r g (below_holds zero_value r gain) (below_low r)) in
    record {
      t = found.t;
      sign = found.sign;
      beyond = λ value limit some limit_some is limit_is. low-below limit value limit_some some (subst₂ IsBelow (sym limit_is) (sym is) found.beyond);
    }
better_far Minimize a y r gain =
    let g = low (ratio r) in
    let below = IsBelow_trans_right g r zero_value (low_below r) (below_holds r zero_value gain) in
    let found = far (negation a) (negation g) (negation y) (low_negation g (lowest-apart r.num (den r) (omega arith))) (IsBelow-negation g zero_value below) in
    let turned_back : negation a ⊕ found.t ⊗ negation g ≡ negation (a ⊕ found.t ⊗ g) =
    ap (λ s. negation a ⊕ s) (exact_product-negation_right found.t g) ∙ sym (negation-sum a (found.t ⊗ g)) in
    record {
      t = found.t;
      sign = found.sign;
      beyond = λ value limit some limit_some is limit_is. low-below value limit some limit_some
          (subst₂ IsBelow (negation-negation (a ⊕ found.t ⊗ g) ∙ sym is) (negation-negation y ∙ sym limit_is)
          (IsBelow-negation (negation y) (negation (a ⊕ found.t ⊗ g)) (subst (λ s. IsBelow (negation y) s) turned_back found.beyond)));
    }

-- A ray shows that no number bounds the objective.
pub ray_unbounded : (m : Model) (xs ray : List Fraction) → length xs ≡ length m.vars → length ray ≡ length m.vars → are_continuous m.vars ≡ true → All Holds (ray_looks m xs ray) → IsUnbounded m
ray_unbounded m xs ray long ray_long continuous hold n =
    let rows = flat_map (ray_row xs ray) (enumerate_from 1 m.rows) in
    let bounds = map ray_bound (enumerate_from 1 (zip (effective_bounds m []) (zip xs ray))) in
    let gain = All-head Holds (ray_gain m ray) [] (All-right Holds (rows ++ bounds) (ray_gain m ray ∷ []) hold) in
    let a = m.constant ⊕ total amount (objective_steps m xs) in
    let found = better_far m.direction a (low (quotient n 1)) (total_of zero_value (objective_steps m ray)) gain in
    let kept_at = along_feasible m found.t xs ray (at_most_shown zero_value found.t found.sign) long ray_long continuous hold in
    let value = objective_value m kept_at.X kept_at.d in
    let kept_value = (point_along m found.t xs ray).value in
    let some = objective_den m kept_at.X kept_at.d kept_at.feasible.above_zero in
    record {
      X = kept_at.X;
      d = kept_at.d;
      feasible = kept_at.feasible;
      better = found.beyond value (quotient n 1) some (omega arith)
          (lowest-same value.num kept_value.num value.den (den kept_value) some (omega arith) kept_at.value ∙ value_far m found.t xs ray (long ∙ sym ray_long))
          refl;
    }
