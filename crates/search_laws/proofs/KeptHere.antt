-- The looks of a relaxation's point hold where the point is whole wherever it has to be.
use Rattle.std.proofs.Common.{◌≡◌, refl, sym, ◌∙◌, subst, subst₂, ℕ, suc, ◌+◌, ◌<◌, ℤ, pos, ◌*ℤ◌, IsTrue, ◌&&◌, not, ⊎_elim, List, [], ◌∷◌, ◌++◌, map, zip, length, Option, Some, None, IfSome, All, arith}
use Rattle.std.specs.List.{AllZip, enumerate_from}
use Rattle.std.proofs.lemmas.Bool.{and_cases, and_from, cond_both, not-false, not_from_false, or_left, or_right}
use Rattle.std.proofs.lemmas.List.Elements.{All-append, All-cons, All-head, All-nil, All-tail}
use Rattle.frac128.specs.Fraction.{Fraction, den, zero_value}
use Rattle.frac128.specs.Order.{IsAtMost}
use Rattle.frac128.proofs.Ordered.{IsAtMost_trans}
use Rattle.frac128.proofs.Seen.{lowest-same}
use Rattle.model_data.specs.Size.{is_integer}
use Rattle.model_data.specs.declared.model.Model.{Model}
use Rattle.model_data.specs.declared.model.Row.{Row}
use Rattle.model_data.specs.declared.model.Sense.{Sense}
use Rattle.model_data.specs.declared.model.Sense.TheVariants.{Less, Greater, Equal}
use Rattle.model_data.specs.declared.model.Var.{Var}
use Rattle.model_data.specs.declared.solution.Point.{Point}
use Rattle.solve_defs.specs.Bounds.{Bounds, effective_bounds}
use Rattle.solve_defs.specs.Certificates.{compares, is_above, is_under, is_within, objective_steps, point_bound, point_integer, point_row, point_value, row_steps}
use Rattle.solve_defs.specs.Looks.{Holds, total_of}
use Rattle.solve_defs.specs.Plain.{Placed, first_fractional}
use Rattle.solve_defs.specs.Points.{AtMost, Compares, HasValues, IsFeasiblePoint, IsWithin, KeepsRow, Ratio, SameValue, objective_value, quotient, ratio, relaxation, row_value}
use Rattle.solve_defs.specs.Values.{is_whole}
use Rattle.solve_defs.specs.declared.cut.Cut.{Cut}
use Rattle.solve_defs.proofs.Domains.{bound_looks, integer_looks, whole_look, within_look}
use Rattle.solve_defs.proofs.KeptPoints.{objective_sum, row_sum, same_by, same_low}
use Rattle.solve_defs.proofs.LeafBounds.{objective_den}
use Rattle.solve_defs.proofs.LeafShares.{row_den}
use Rattle.solve_defs.proofs.PointValues.{at_most-low, at_most_shown, below_low, low, low_below, same_shown}
use Rattle.search_laws.specs.Searches.{IsKept}
use Rattle.search_laws.proofs.Looser.{bounds_kept, objective_kept}

-- ---- comparisons of values

pub at_most_from : (r s : Ratio) (x y : Fraction) → 0 < r.den → 0 < s.den → low r ≡ low (ratio x) → low s ≡ low (ratio y) → AtMost r s → IsAtMost x y
at_most_from r s x y r_some s_some r_is s_is h =
    IsAtMost_trans x (low (ratio x)) y (below_low x)
    (IsAtMost_trans (low (ratio x)) (low (ratio y)) y (subst₂ IsAtMost r_is s_is (at_most-low r s r_some s_some h)) (low_below y))

same_from : (r : Ratio) (x y : Fraction) → 0 < r.den → low r ≡ low (ratio x) → SameValue r (ratio y) → x.num *ℤ pos (den y) ≡ y.num *ℤ pos (den x)
same_from r x y some is h = same_by (ratio x) (ratio y) (omega arith) (omega arith) (sym is ∙ lowest-same r.num y.num r.den (den y) some (omega arith) h)

compares_shown : (sense : Sense) (r : Ratio) (sum rhs : Fraction) → 0 < r.den → low r ≡ low (ratio sum) → Compares sense r (ratio rhs) → IsTrue (compares sense sum rhs)
compares_shown Less r sum rhs some is h = at_most_shown sum rhs (at_most_from r (ratio rhs) sum rhs some (omega arith) is refl h)
compares_shown Greater r sum rhs some is h = at_most_shown rhs sum (at_most_from (ratio rhs) r rhs sum (omega arith) some refl is h)
compares_shown Equal r sum rhs some is h = same_shown sum rhs (same_from r sum rhs some is h)

-- ---- looks

rows_shown : (X : List ℤ) (d : ℕ) (xs : List Fraction) (number : ℕ) (rows : List Row) → 0 < d → HasValues X d xs → All (KeepsRow X d) rows → All Holds (map (point_row xs) (enumerate_from number rows))
rows_shown X d xs number [] some same keep = All-nil Holds
rows_shown X d xs number (row ∷ rows) some same keep =
    All-cons Holds (point_row xs (number, row)) (map (point_row xs) (enumerate_from (number + 1) rows))
    (compares_shown row.sense (row_value row X d) (total_of zero_value (row_steps row.terms xs)) row.rhs (row_den row X d some) (row_sum row X d xs some same) (All-head (KeepsRow X d) row rows keep))
    (rows_shown X d xs (number + 1) rows some same (All-tail (KeepsRow X d) row rows keep))

within_shown : (b : Bounds) (n : ℤ) (d : ℕ) (x : Fraction) → 0 < d → SameValue (quotient n d) (ratio x) → IsWithin b (quotient n d) → IsTrue (is_within b x)
within_shown b n d x some same within = and_from (is_above b.lower x) (is_under b.upper x) (above_shown b.lower within.lower) (under_shown b.upper within.upper)
  where
    above_shown : (bound : Option Fraction) → IfSome bound (λ l. AtMost (ratio l) (quotient n d)) → IsTrue (is_above bound x)
    above_shown None h = refl
    above_shown (Some l) h = at_most_shown l x (at_most_from (ratio l) (quotient n d) l x (omega arith) some refl (same_low n d x some same) h)

    under_shown : (bound : Option Fraction) → IfSome bound (λ u. AtMost (quotient n d) (ratio u)) → IsTrue (is_under bound x)
    under_shown None h = refl
    under_shown (Some u) h = at_most_shown x u (at_most_from (quotient n d) (ratio u) x u some (omega arith) (same_low n d x some same) refl h)

bounds_shown : (X : List ℤ) (d : ℕ) (xs : List Fraction) (number : ℕ) (bounds : List Bounds) → 0 < d → HasValues X d xs → AllZip (λ b n. IsWithin b (quotient n d)) bounds X
    → All Holds (map within_look (enumerate_from number (zip bounds xs)))
bounds_shown X d xs number [] some same each = All-nil Holds
bounds_shown X d [] number (b ∷ bounds) some same each = All-nil Holds
bounds_shown [] d (x ∷ xs) number (b ∷ bounds) some same each = absurd each
bounds_shown (n ∷ X) d (x ∷ xs) number (b ∷ bounds) some same each =
    All-cons Holds (within_look (number, (b, x))) (map within_look (enumerate_from (number + 1) (zip bounds xs)))
    (within_shown b n d x some same.0 each.0) (bounds_shown X d xs (number + 1) bounds some same.1 each.1)

some_none : (v : Placed) → ◌≡◌ {A = Option Placed} (Some v) None → ⊥
some_none v h = absurd (cc)

integers_shown : (number place : ℕ) (vars : List Var) (xs : List Fraction) → first_fractional place vars xs ≡ None → All Holds (map whole_look (enumerate_from number (zip vars xs)))
integers_shown number place [] xs none = All-nil Holds
integers_shown number place (v ∷ vars) [] none = All-nil Holds
integers_shown number place (v ∷ vars) (x ∷ xs) none =
    let own = is_integer v.kind && not (is_whole x) in
    let this = Some record { place = place; value = x } in
    cond_both {A = Option Placed} own this (first_fractional (suc place) vars xs) (λ o. o ≡ None → All Holds (map whole_look (enumerate_from number (zip (v ∷ vars) (x ∷ xs)))))
    (λ _ is. absurd (some_none record { place = place; value = x } is))
    (λ passed later. All-cons Holds (whole_look (number, (v, x))) (map whole_look (enumerate_from (number + 1) (zip vars xs)))
    (⊎_elim (λ other. or_left (not (is_integer v.kind)) (is_whole x) (not_from_false (is_integer v.kind) other))
    (λ whole. or_right (not (is_integer v.kind)) (is_whole x) (not-false (is_whole x) whole))
    (and_cases (is_integer v.kind) (not (is_whole x)) passed))
    (integers_shown (number + 1) (suc place) vars xs later))
    none

-- ---- all of it

pub kept_here : (m : Model) (cuts : List Cut) (p : Point) → IsFeasiblePoint (relaxation m cuts) p → length p.xs ≡ length m.vars → first_fractional 0 m.vars p.xs ≡ None → IsKept m p
kept_here m cuts p point long none =
    let some = point.feasible.above_zero in
    let rows = map (point_row p.xs) (enumerate_from 1 m.rows) in
    let bounds = map point_bound (enumerate_from 1 (zip m.vars p.xs)) in
    let integers = map point_integer (enumerate_from 1 (zip m.vars p.xs)) in
    record {
      long = long;
      looks = All-append Holds (rows ++ bounds ++ integers) (point_value m p ∷ [])
          (All-append Holds (rows ++ bounds) integers
          (All-append Holds rows bounds
          (rows_shown point.X point.d p.xs 1 m.rows some point.values point.feasible.rows)
          (subst (All Holds) (sym (bound_looks 0 1 m.vars p.xs))
          (bounds_shown point.X point.d p.xs 1 (effective_bounds m []) some point.values (bounds_kept m cuts point.X point.d point.feasible))))
          (subst (All Holds) (sym (integer_looks 1 m.vars p.xs)) (integers_shown 1 0 m.vars p.xs none)))
          (All-cons Holds (point_value m p) []
          (same_shown (total_of m.constant (objective_steps m p.xs)) p.value
          (same_from (objective_value m point.X point.d) (total_of m.constant (objective_steps m p.xs)) p.value (objective_den m point.X point.d some)
          (objective_sum m point.X point.d p.xs some point.values)
          (subst (λ v. SameValue v (ratio p.value)) (objective_kept m cuts point.X point.d) point.value)))
          (All-nil Holds));
    }
