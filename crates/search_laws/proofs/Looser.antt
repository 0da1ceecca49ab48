-- What holds within cuts holds without them.
use Rattle.std.proofs.Common.{◌≡◌, sym, ◌∙◌, ap, subst, ℕ, suc, ◌<◌, ◌==◌, ℤ, false, true≢false, List, [], ◌∷◌, zip, Option, Some, None, IfSome, ⊎_elim, if◌then◌else◌, arith}
use Rattle.std.specs.List.{AllZip}
use Rattle.std.proofs.lemmas.Bool.{cond_both}
use Rattle.frac128.specs.Fraction.{Fraction}
use Rattle.frac128.specs.Order.{IsAtMost}
use Rattle.frac128.proofs.Ordered.{IsAtMost_total, IsAtMost_trans}
use Rattle.model_data.specs.declared.model.Model.{Model}
use Rattle.model_data.specs.declared.model.Var.{Var}
use Rattle.solve_defs.specs.Bounds.{Bounds, both, bounds_from, cut_bounds, effective_bounds, greater_bound, lesser_bound, own_bounds, with_cuts}
use Rattle.solve_defs.specs.Points.{AtMost, IsBetter, IsFeasible, IsUnbounded, IsWithin, Ratio, objective_value, over, plus, quotient, ratio, relaxation, weighted_sum}
use Rattle.solve_defs.specs.Values.{is_at_most}
use Rattle.solve_defs.specs.declared.cut.Cut.{Cut}
use Rattle.solve_defs.proofs.CasePoints.{relaxed_whole}
use Rattle.solve_defs.proofs.Domains.{feasible_from, feasible_within}
use Rattle.solve_defs.proofs.PointValues.{at_most-low, at_most_shown, low, low-at_most}
use Rattle.solve_defs.proofs.Relaxed.{effective_bounds-relaxation, length-bounds_from, objective-relaxation, point_long}

-- ---- bounds

turned_round : (x y : Fraction) → is_at_most x y ≡ false → IsAtMost y x
turned_round x y h = ⊎_elim (λ most. absurd (true≢false (sym (at_most_shown x y most) ∙ h))) (λ most. most) (IsAtMost_total x y)

pub at_most_trans : (x y z : Ratio) → 0 < x.den → 0 < y.den → 0 < z.den → AtMost x y → AtMost y z → AtMost x z
at_most_trans x y z x_some y_some z_some h k =
    low-at_most x z x_some z_some (IsAtMost_trans (low x) (low y) (low z) (at_most-low x y x_some y_some h) (at_most-low y z y_some z_some k))

lower_kept : (a b : Option Fraction) (x : Ratio) → 0 < x.den → IfSome (greater_bound a b) (λ l. AtMost (ratio l) x) → IfSome a (λ l. AtMost (ratio l) x)
lower_kept None b x some h = tt
lower_kept (Some l) None x some h = h
lower_kept (Some l) (Some k) x some h =
    cond_both {A = Fraction} (is_at_most k l) l k (λ v. AtMost (ratio v) x → AtMost (ratio l) x) (λ _ g. g)
    (λ other g. at_most_trans (ratio l) (ratio k) x (omega arith) (omega arith) some (turned_round k l other).at_most g) h

upper_kept : (a b : Option Fraction) (x : Ratio) → 0 < x.den → IfSome (lesser_bound a b) (λ u. AtMost x (ratio u)) → IfSome a (λ u. AtMost x (ratio u))
upper_kept None b x some h = tt
upper_kept (Some u) None x some h = h
upper_kept (Some u) (Some k) x some h =
    cond_both {A = Fraction} (is_at_most u k) u k (λ v. AtMost x (ratio v) → AtMost x (ratio u)) (λ _ g. g)
    (λ other g. at_most_trans x (ratio k) (ratio u) some (omega arith) (omega arith) g (turned_round u k other).at_most) h

within_kept : (place : ℕ) (b : Bounds) (cuts : List Cut) (x : Ratio) → 0 < x.den → IsWithin (with_cuts place b cuts) x → IsWithin b x
within_kept place b [] x some h = h
within_kept place b (cut ∷ cuts) x some h =
    cond_both {A = Bounds} (cut.var == place) (both b (cut_bounds cut)) b (λ c. IsWithin c x → IsWithin b x)
    (λ _ g. record { lower = lower_kept b.lower (cut_bounds cut).lower x some g.lower; upper = upper_kept b.upper (cut_bounds cut).upper x some g.upper })
    (λ _ g. g)
    (within_kept place (if cut.var == place then both b (cut_bounds cut) else b) cuts x some h)

all_kept : (place : ℕ) (vars : List Var) (cuts : List Cut) (X : List ℤ) (d : ℕ) → 0 < d → AllZip (λ b n. IsWithin b (quotient n d)) (bounds_from place vars cuts) X
    → AllZip (λ b n. IsWithin b (quotient n d)) (bounds_from place vars []) X
all_kept place [] cuts [] d some each = tt
all_kept place [] cuts (n ∷ X) d some each = absurd each
all_kept place (v ∷ vars) cuts [] d some each = absurd each
all_kept place (v ∷ vars) cuts (n ∷ X) d some each = (within_kept place (own_bounds v) cuts (quotient n d) some each.0, all_kept (suc place) vars cuts X d some each.1)

-- a point of a relaxation is within the bounds without the cuts
pub bounds_kept : (m : Model) (cuts : List Cut) (X : List ℤ) (d : ℕ) → IsFeasible (relaxation m cuts) X d → AllZip (λ b n. IsWithin b (quotient n d)) (effective_bounds m []) X
bounds_kept m cuts X d feasible =
    all_kept 0 m.vars cuts X d feasible.above_zero (subst (λ bounds. AllZip (λ b n. IsWithin b (quotient n d)) bounds X) (effective_bounds-relaxation m cuts) (feasible_within (relaxation m cuts) X d feasible))

-- ---- the root

-- a point of a relaxation is one of the root's
pub root_point : (m : Model) (cuts : List Cut) (X : List ℤ) (d : ℕ) → IsFeasible (relaxation m cuts) X d → IsFeasible (relaxation m []) X d
root_point m cuts X d feasible =
    feasible_from (relaxation m []) X d feasible.above_zero feasible.rows
    (subst (λ bounds. AllZip (λ b n. IsWithin b (quotient n d)) bounds X) (sym (effective_bounds-relaxation m [])) (bounds_kept m cuts X d feasible))
    (relaxed_whole m.vars (effective_bounds m []) X d (length-bounds_from 0 m.vars []) (point_long m cuts X d feasible))

-- the cuts don't change the objective
pub objective_kept : (m : Model) (cuts : List Cut) (X : List ℤ) (d : ℕ) → objective_value (relaxation m cuts) X d ≡ objective_value m X d
objective_kept m cuts X d = ap (λ coefs. plus (over d (weighted_sum (zip coefs X))) (ratio m.constant)) (objective-relaxation m cuts)

pub unbounded_root : (m : Model) (cuts : List Cut) → IsUnbounded (relaxation m cuts) → IsUnbounded (relaxation m [])
unbounded_root m cuts unbounded n =
    let p = unbounded n in
    record {
      X = p.X;
      d = p.d;
      feasible = root_point m cuts p.X p.d p.feasible;
      better = subst (λ v. IsBetter m.direction v (quotient n 1)) (objective_kept m cuts p.X p.d ∙ sym (objective_kept m [] p.X p.d)) p.better;
    }
