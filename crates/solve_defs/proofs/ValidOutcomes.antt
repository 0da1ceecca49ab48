-- What a valid certificate proves of an outcome with a point.
use Rattle.std.proofs.Common.{◌≡◌, refl, sym, ◌∙◌, subst, ℕ, ◌<◌, ◌==◌, ℤ, ◌*ℤ◌, pos, List, true≢false, IsTrue, ⊎_elim, length, Option, is_some, Some, None, All, arith}
use Rattle.std.proofs.lemmas.Bool.{and_parts, eqb-true}
use Rattle.frac128.specs.Fraction.{den}
use Rattle.frac128.specs.Order.{IsAtMost}
use Rattle.frac128.proofs.Integers.{le_of_lt_not}
use Rattle.frac128.proofs.Ordered.{IsBelow-lowest, IsBelow-not}
use Rattle.frac128.proofs.Seen.{lowest-same}
use Rattle.model_data.specs.Lawful.{IsLawful}
use Rattle.model_data.specs.declared.model.Direction.{Direction}
use Rattle.model_data.specs.declared.model.Direction.TheVariants.{Minimize, Maximize}
use Rattle.model_data.specs.declared.model.Model.{Model}
use Rattle.model_data.specs.declared.solution.Cert.{Cert}
use Rattle.model_data.specs.declared.solution.Cert.TheVariants.{Nothing, Ray, Tree}
use Rattle.model_data.specs.declared.solution.CertNode.{CertNode}
use Rattle.model_data.specs.declared.solution.Outcome.{Outcome}
use Rattle.model_data.specs.declared.solution.Point.{Point}
use Rattle.solve_defs.specs.Certificates.{IsValid, certificate_looks, is_certificate_for, is_point_for, point_looks, value_of}
use Rattle.solve_defs.specs.Looks.{Holds}
use Rattle.solve_defs.specs.Points.{IsBestPoint, IsBetter, IsFeasible, IsFeasiblePoint, Ratio, objective_value, ratio}
use Rattle.solve_defs.specs.declared.status.TheConstants.{INFEASIBLE, OPTIMAL, UNBOUNDED}
use Rattle.solve_defs.proofs.KeptPoints.{kept_point}
use Rattle.solve_defs.proofs.LeafBounds.{All-left, objective_den}
use Rattle.solve_defs.proofs.PointValues.{at_most-low, low}
use Rattle.solve_defs.proofs.ValidTrees.{TreeShape, certificate_fits, needs_nothing, ray_shape, refuted, rest_holds, shape_holds, tree_shape, tree_status, valid_tree}

-- ---- a kept point

-- With every status a point that is kept is feasible.
pub valid_point : (m : Model) (o : Outcome) (cert : Cert) (p : Point) → IsValid m o cert → o.point ≡ Some p → IsFeasiblePoint m p
valid_point m o cert p valid is =
    let fits = subst (λ point. IsTrue (is_point_for m point)) is (and_parts (is_point_for m o.point) (is_certificate_for m o cert) (shape_holds m o cert valid)).0 in
    kept_point m p (eqb-true (length p.xs) (length m.vars) fits)
    (subst (λ point. All Holds (point_looks m point)) is (All-left Holds (point_looks m o.point) (certificate_looks m o cert) (rest_holds m o cert valid)))

-- ---- the best one

-- what is no better than one value isn't better than an equal one
no_better_same : (direction : Direction) (y x v : Ratio) → 0 < y.den → 0 < x.den → 0 < v.den → low x ≡ low v → (IsBetter direction y v → ⊥) → IsBetter direction y x → ⊥
no_better_same Maximize y x v y_some x_some v_some same none better =
    let most = at_most-low y v y_some v_some (le_of_lt_not (y.num *ℤ pos v.den) (v.num *ℤ pos y.den) none) in
    IsBelow-not (low x) (low y) (IsBelow-lowest x.num y.num x.den y.den x_some y_some better) (subst (λ z. IsAtMost (low y) z) (sym same) most)
no_better_same Minimize y x v y_some x_some v_some same none better =
    let most = at_most-low v y v_some y_some (le_of_lt_not (v.num *ℤ pos y.den) (y.num *ℤ pos v.den) none) in
    IsBelow-not (low y) (low x) (IsBelow-lowest y.num x.num y.den x.den y_some x_some better) (subst (λ z. IsAtMost z (low y)) (sym same) most)

best_of : (m : Model) (p : Point) → IsFeasiblePoint m p
    → ((Y : List ℤ) (e : ℕ) → IsFeasible m Y e → IsBetter m.direction (objective_value m Y e) (ratio p.value) → ⊥) → IsBestPoint m p
best_of m p point none =
    let value = objective_value m point.X point.d in
    let some = objective_den m point.X point.d point.feasible.above_zero in
    record {
      X = point.X;
      d = point.d;
      values = point.values;
      best = record {
        feasible = point.feasible;
        none_better = λ Y e feasible. no_better_same m.direction (objective_value m Y e) value (ratio p.value) (objective_den m Y e feasible.above_zero) some (omega arith)
            (lowest-same value.num p.value.num value.den (den p.value) some (omega arith) point.value) (none Y e feasible);
      };
      value = point.value;
    }

-- ---- by status

-- what an optimal outcome has
pub record Best (m : Model) (o : Outcome) : Type 0 where
  pub point : Point
  pub is_kept : o.point ≡ Some point
  pub best : IsBestPoint m point

has_point : (m : Model) (o : Outcome) (nodes : List CertNode) → TreeShape m o nodes → o.status ≡ OPTIMAL → IsTrue (is_some o.point)
has_point m o nodes shape optimal = ⊎_elim (λ kept. kept.1) (λ closed. absurd (apart (sym optimal ∙ closed.0))) (tree_status m o nodes shape)
  where
    apart : OPTIMAL ≡ INFEASIBLE → ⊥
    apart e = omega (arith, e)

best_tree : (m : Model) (o : Outcome) (nodes : List CertNode) → IsLawful m → IsValid m o (Tree nodes) → (point : Option Point) → o.point ≡ point → IsTrue (is_some point) → Best m o
best_tree m o nodes lawful valid None is some = absurd (true≢false (sym some))
best_tree m o nodes lawful valid (Some p) is some = record {
  point = p;
  is_kept = is;
  best = best_of m p (valid_point m o (Tree nodes) p valid is)
      (subst (λ point. (Y : List ℤ) (e : ℕ) → IsFeasible m Y e → IsBetter m.direction (objective_value m Y e) (ratio (value_of point)) → ⊥) is (valid_tree m o nodes lawful valid));
}

pub valid_optimal : (m : Model) (o : Outcome) (cert : Cert) → IsLawful m → IsValid m o cert → o.status ≡ OPTIMAL → Best m o
valid_optimal m o Nothing lawful valid optimal = absurd (refuted needs_nothing o.status OPTIMAL optimal refl (certificate_fits m o Nothing valid))
valid_optimal m o (Ray point ray) lawful valid optimal =
    absurd (refuted (λ s. s == UNBOUNDED) o.status OPTIMAL optimal refl (ray_shape m o point ray valid).status)
valid_optimal m o (Tree nodes) lawful valid optimal =
    best_tree m o nodes lawful valid o.point refl (has_point m o nodes (tree_shape m o nodes valid) optimal)
