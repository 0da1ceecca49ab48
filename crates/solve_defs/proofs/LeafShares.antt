-- What a single weight makes of a point is at most what it has of the side.
use Rattle.std.proofs.Common.{◌≡◌, refl, sym, ◌∙◌, ap, subst, subst₂, ℕ, zero, suc, ◌<◌, ℤ, pos, IsTrue, if◌then◌else◌, List, map, Option, Some, None, IfSome, All, AllPairs, option_map, unwrap_or, arith}
use Rattle.std.specs.Prelude.{slice_get, slice_index_or}
use Rattle.std.proofs.Math.Nat.{mul-pos}
use Rattle.std.proofs.lemmas.Bool.{eq-eqb, ne_eqb}
use Rattle.frac128.specs.Fraction.{Fraction, den, negation, zero_value}
use Rattle.frac128.specs.Order.{IsAtMost}
use Rattle.frac128.proofs.Field.{apart_of-product, exact_product-negation_left, exact_product-sum_right, exact_product-zero_left, exact_product-zero_right, exact_product_assoc, exact_product_comm, exact_sum-zero_right}
use Rattle.frac128.proofs.Ordered.{IsAtMost-negation, IsAtMost-product, IsAtMost-product_turned, IsAtMost-self, IsAtMost_trans}
use Rattle.frac128.proofs.Seen.{lowest-same}
use Rattle.model_data.specs.declared.model.Row.{Row}
use Rattle.model_data.specs.declared.model.Sense.{Sense}
use Rattle.model_data.specs.declared.model.Sense.TheVariants.{Less, Greater, Equal}
use Rattle.model_data.specs.declared.model.Term.{Term}
use Rattle.model_data.specs.declared.solution.Weight.{Weight}
use Rattle.solve_defs.specs.Bounds.{Bounds}
use Rattle.solve_defs.specs.Certificates.{lower_of, may_weigh_bound, may_weigh_row, may_weigh_sense, nth, share, side_of, terms_of, upper_of}
use Rattle.solve_defs.specs.Looks.{Step, minus, minus_times, plus, plus_times}
use Rattle.solve_defs.specs.Points.{AtMost, Compares, KeepsRow, quotient, ratio, row_value}
use Rattle.solve_defs.specs.Values.{coefficient, is_at_most, term_of}
use Rattle.solve_defs.proofs.LeafSums.{amount}
use Rattle.solve_defs.proofs.Places.{only_place, places, row_by_places}
use Rattle.solve_defs.proofs.PointValues.{at_most-low, at_most_holds, at_point, below_low, low, low-ratio, low-row_value, low_below, weighted_den}
use Rattle.solve_defs.proofs.Relaxed.{IsWithinAt}
use Rattle.frac128.proofs.Sums.{◌⊕◌, ◌⊗◌, of_some, product-total, total, total-same}

-- ---- rows

-- a weight times the terms of its row, by places
row_share_is : (a : Fraction) (terms : List Term) (x : ℕ → Fraction) (n : ℕ) → AllPairs (λ s t. s.var < t.var) terms → All (λ t. t.var < n) terms
    → total (λ j. of_some amount (option_map (plus_times a) (term_of terms j)) ⊗ x j) (places 0 n) ≡ a ⊗ total (λ t. t.coef ⊗ x t.var) terms
row_share_is a terms x n rising within =
    total-same (λ j. of_some amount (option_map (plus_times a) (term_of terms j)) ⊗ x j) (λ j. a ⊗ (coefficient terms j ⊗ x j)) (places 0 n)
    (λ j. ap (λ s. s ⊗ x j) (of_term (term_of terms j)) ∙ exact_product_assoc a (coefficient terms j) (x j))
    ∙ sym (product-total a (λ j. coefficient terms j ⊗ x j) (places 0 n))
    ∙ ap (λ s. a ⊗ s) (row_by_places x terms n rising within)
  where
    of_term : (o : Option Fraction) → of_some amount (option_map (plus_times a) o) ≡ a ⊗ unwrap_or o zero_value
    of_term None = sym (exact_product-zero_right a)
    of_term (Some c) = refl

-- a factor that is not below 0
pub kept : (a x y : Fraction) → IsTrue (is_at_most zero_value a) → IsAtMost x y → IsAtMost (a ⊗ x) (a ⊗ y)
kept a x y sign h = subst₂ IsAtMost (exact_product_comm x a) (exact_product_comm y a) (IsAtMost-product x y a (at_most_holds zero_value a sign) h)

-- one that is not above 0
turned : (a x y : Fraction) → IsTrue (is_at_most a zero_value) → IsAtMost x y → IsAtMost (a ⊗ y) (a ⊗ x)
turned a x y sign h = subst₂ IsAtMost (exact_product_comm y a) (exact_product_comm x a) (IsAtMost-product_turned x y a (at_most_holds a zero_value sign) h)

-- how a row's value in lowest terms compares with its right side
abbrev Stands : Sense → Fraction → Fraction → Type 0
Stands Less value rhs = IsAtMost value rhs
Stands Greater value rhs = IsAtMost rhs value
Stands Equal value rhs = value ≡ rhs ⊕ zero_value

weighed : (sense : Sense) (a value rhs : Fraction) → IsTrue (may_weigh_sense sense a) → Stands sense value rhs → IsAtMost (a ⊗ value) (a ⊗ rhs)
weighed Less a value rhs sign h = kept a value rhs sign h
weighed Greater a value rhs sign h = turned a rhs value sign h
weighed Equal a value rhs sign h = subst (λ s. IsAtMost s (a ⊗ rhs)) (sym (ap (λ s. a ⊗ s) h ∙ same)) (IsAtMost-self (a ⊗ rhs))
  where
    same : a ⊗ (rhs ⊕ zero_value) ≡ a ⊗ rhs
    same =
        exact_product-sum_right a rhs zero_value ∙ ap (λ s. a ⊗ rhs ⊕ s) (exact_product-zero_right a) ∙ exact_sum-zero_right (a ⊗ rhs) (apart_of-product a rhs)

pub row_den : (row : Row) (X : List ℤ) (d : ℕ) → 0 < d → 0 < (row_value row X d).den
row_den row X d some = mul-pos (weighted_den (map (λ t. (t.coef, slice_index_or X t.var (pos 0))) row.terms)) some

stands : (row : Row) (X : List ℤ) (d : ℕ) → 0 < d → (sense : Sense) → Compares sense (row_value row X d) (ratio row.rhs) → Stands sense (low (row_value row X d)) row.rhs
stands row X d some Less h =
    IsAtMost_trans (low (row_value row X d)) (low (ratio row.rhs)) row.rhs (at_most-low (row_value row X d) (ratio row.rhs) (row_den row X d some) (omega arith) h) (low_below row.rhs)
stands row X d some Greater h =
    IsAtMost_trans row.rhs (low (ratio row.rhs)) (low (row_value row X d)) (below_low row.rhs) (at_most-low (ratio row.rhs) (row_value row X d) (omega arith) (row_den row X d some) h)
stands row X d some Equal h =
    lowest-same (row_value row X d).num row.rhs.num (row_value row X d).den (den row.rhs) (row_den row X d some) (omega arith) h ∙ low-ratio row.rhs

-- what a row has to meet
pub record IsKeptRow (n : ℕ) (X : List ℤ) (d : ℕ) (row : Row) : Type 0 where
  pub rising : AllPairs (λ s t. s.var < t.var) row.terms
  pub within : All (λ t. t.var < n) row.terms
  pub keeps : KeepsRow X d row

pub row_at_most : (a : Fraction) (n : ℕ) (X : List ℤ) (d : ℕ) → 0 < d → (o : Option Row) → IfSome o (IsKeptRow n X d) → IsTrue (may_weigh_row o a)
    → IsAtMost (total (λ j. of_some amount (option_map (plus_times a) (term_of (terms_of o) j)) ⊗ at_point X d j) (places 0 n)) (a ⊗ side_of o)
row_at_most a n X d some None holds sign = absurd (cc)
row_at_most a n X d some (Some row) holds sign =
    subst (λ s. IsAtMost s (a ⊗ row.rhs))
    (ap (λ s. a ⊗ s) (low-row_value row X d some) ∙ sym (row_share_is a row.terms (at_point X d) n holds.rising holds.within))
    (weighed row.sense a (low (row_value row X d)) row.rhs sign (stands row X d some row.sense holds.keeps))

-- ---- bounds

share_here : (step : Fraction → Step) (v : ℕ) (w : Weight) → w.place ≡ suc v → of_some amount (share step (suc v) w) ≡ amount (step w.weight)
share_here step v w e = ap (λ b. of_some amount (if b then Some (step w.weight) else None)) (eq-eqb w.place (suc v) e)

share_apart : (step : Fraction → Step) (j v : ℕ) (w : Weight) → w.place ≡ suc v → (j ≡ v → ⊥) → of_some amount (share step (suc j) w) ≡ zero_value
share_apart step j v w e apart = ap (λ b. of_some amount (if b then Some (step w.weight) else None)) (ne_eqb w.place (suc j) (λ same. apart (back same)))
  where
    back : w.place ≡ suc j → j ≡ v
    back same = omega (arith, same, e)

-- a bound's weight counts at its own variable alone
share_is : (step : Fraction → Step) (x : ℕ → Fraction) (n v : ℕ) (w : Weight) → w.place ≡ suc v → v < n
    → total (λ j. of_some amount (share step (suc j) w) ⊗ x j) (places 0 n) ≡ amount (step w.weight) ⊗ x v
share_is step x n v w e within =
    only_place (λ j. of_some amount (share step (suc j) w) ⊗ x j) v 0 n (λ j apart. ap (λ s. s ⊗ x j) (share_apart step j v w e apart) ∙ exact_product-zero_left (x j))
    (apart_of-product (of_some amount (share step (suc v) w)) (x v)) (omega arith) (omega (arith, within))
    ∙ ap (λ s. s ⊗ x v) (share_here step v w e)

lower_at_point : (l : Fraction) (n : ℤ) (d : ℕ) → 0 < d → AtMost (ratio l) (quotient n d) → IsAtMost l (low (quotient n d))
lower_at_point l n d some h =
    IsAtMost_trans l (low (ratio l)) (low (quotient n d)) (below_low l) (at_most-low (ratio l) (quotient n d) (omega arith) some h)

upper_at_point : (u : Fraction) (n : ℤ) (d : ℕ) → 0 < d → AtMost (quotient n d) (ratio u) → IsAtMost (low (quotient n d)) u
upper_at_point u n d some h =
    IsAtMost_trans (low (quotient n d)) (low (ratio u)) u (at_most-low (quotient n d) (ratio u) some (omega arith) h) (low_below u)

-- -a * y is at most -(a * l) where l is at most y
lowered : (a l y : Fraction) → IsTrue (is_at_most zero_value a) → IsAtMost l y → IsAtMost (negation a ⊗ y) (negation (a ⊗ l))
lowered a l y sign h =
    subst (λ s. IsAtMost s (negation (a ⊗ l))) (sym (exact_product-negation_left a y)) (IsAtMost-negation (a ⊗ l) (a ⊗ y) (kept a l y sign h))

-- the bounds of a place, where a weight's number is one more
low_of_bounds : (n : ℕ) (X : List ℤ) (d v : ℕ) (w : Weight) → 0 < d → w.place ≡ suc v → (o : Option Bounds) → IfSome o (IsWithinAt n X d v) → IsTrue (may_weigh_bound (lower_of o) w.weight)
    → IsAtMost (total (λ j. of_some amount (share minus (suc j) w) ⊗ at_point X d j) (places 0 n)) (of_some amount (option_map (minus_times w.weight) (lower_of o)))
low_of_bounds n X d v w some e None holds sign = absurd (cc)
low_of_bounds n X d v w some e (Some b) holds sign =
    subst (λ s. IsAtMost s (of_some amount (option_map (minus_times w.weight) b.lower))) (sym (share_is minus (at_point X d) n v w e holds.place)) (by_bound b.lower holds.within.lower sign)
  where
    by_bound : (bound : Option Fraction) → IfSome bound (λ l. AtMost (ratio l) (quotient (slice_index_or X v (pos 0)) d)) → IsTrue (may_weigh_bound bound w.weight)
        → IsAtMost (negation w.weight ⊗ at_point X d v) (of_some amount (option_map (minus_times w.weight) bound))
    by_bound None h shown = absurd (cc)
    by_bound (Some l) h shown = lowered w.weight l (at_point X d v) shown (lower_at_point l (slice_index_or X v (pos 0)) d some h)

up_of_bounds : (n : ℕ) (X : List ℤ) (d v : ℕ) (w : Weight) → 0 < d → w.place ≡ suc v → (o : Option Bounds) → IfSome o (IsWithinAt n X d v) → IsTrue (may_weigh_bound (upper_of o) w.weight)
    → IsAtMost (total (λ j. of_some amount (share plus (suc j) w) ⊗ at_point X d j) (places 0 n)) (of_some amount (option_map (plus_times w.weight) (upper_of o)))
up_of_bounds n X d v w some e None holds sign = absurd (cc)
up_of_bounds n X d v w some e (Some b) holds sign =
    subst (λ s. IsAtMost s (of_some amount (option_map (plus_times w.weight) b.upper))) (sym (share_is plus (at_point X d) n v w e holds.place)) (by_bound b.upper holds.within.upper sign)
  where
    by_bound : (bound : Option Fraction) → IfSome bound (λ u. AtMost (quotient (slice_index_or X v (pos 0)) d) (ratio u)) → IsTrue (may_weigh_bound bound w.weight)
        → IsAtMost (w.weight ⊗ at_point X d v) (of_some amount (option_map (plus_times w.weight) bound))
    by_bound None h shown = absurd (cc)
    by_bound (Some u) h shown = kept w.weight (at_point X d v) u shown (upper_at_point u (slice_index_or X v (pos 0)) d some h)

-- the same by a weight's own number
pub low_at_most : (bounds : List Bounds) (n : ℕ) (X : List ℤ) (d : ℕ) (w : Weight) (place : ℕ) → 0 < d → w.place ≡ place → ((v : ℕ) → IfSome (slice_get bounds v) (IsWithinAt n X d v))
    → IsTrue (may_weigh_bound (lower_of (nth bounds place)) w.weight)
    → IsAtMost (total (λ j. of_some amount (share minus (suc j) w) ⊗ at_point X d j) (places 0 n)) (of_some amount (option_map (minus_times w.weight) (lower_of (nth bounds place))))
low_at_most bounds n X d w zero some e within sign = absurd (cc)
low_at_most bounds n X d w (suc v) some e within sign = low_of_bounds n X d v w some e (slice_get bounds v) (within v) sign

pub up_at_most : (bounds : List Bounds) (n : ℕ) (X : List ℤ) (d : ℕ) (w : Weight) (place : ℕ) → 0 < d → w.place ≡ place → ((v : ℕ) → IfSome (slice_get bounds v) (IsWithinAt n X d v))
    → IsTrue (may_weigh_bound (upper_of (nth bounds place)) w.weight)
    → IsAtMost (total (λ j. of_some amount (share plus (suc j) w) ⊗ at_point X d j) (places 0 n)) (of_some amount (option_map (plus_times w.weight) (upper_of (nth bounds place))))
up_at_most bounds n X d w zero some e within sign = absurd (cc)
up_at_most bounds n X d w (suc v) some e within sign = up_of_bounds n X d v w some e (slice_get bounds v) (within v) sign
