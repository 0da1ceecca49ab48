-- What a valid tree proves of the model.
use Rattle.std.proofs.Common.{◌≡◌, refl, sym, ◌∙◌, subst, ℕ, ◌==◌, ℤ, Bool, true, false, true≢false, IsTrue, ◌&&◌, ◌||◌, not, ⊎_elim, List, [], ◌∷◌, ◌++◌, length, is_some, is_none, All, ◌⊎◌, inl, inr, arith}
use Rattle.std.specs.List.{AllByRecursion, list_all, list_any}
use Rattle.std.proofs.lemmas.Bool.{eqb-true, and_parts, not-true, or_cases, or_parts}
use Rattle.std.proofs.lemmas.List.Elements.{All-head, All-nil, All-tail}
use Rattle.frac128.specs.Fraction.{Fraction}
use Rattle.model_data.specs.Lawful.{IsLawful}
use Rattle.model_data.specs.declared.model.Model.{Model}
use Rattle.model_data.specs.declared.solution.Cert.{Cert}
use Rattle.model_data.specs.declared.solution.Cert.TheVariants.{Nothing, Ray, Tree}
use Rattle.model_data.specs.declared.solution.CertNode.{CertNode}
use Rattle.model_data.specs.declared.solution.Outcome.{Outcome}
use Rattle.solve_defs.specs.Cases.{IsWithinCut}
use Rattle.solve_defs.specs.Certificates.{IsValid, are_whole, certificate_looks, has_shape, is_bound, is_certificate_for, is_node_for, is_point_for, look_at, point_looks, tree_looks, under, value_of}
use Rattle.solve_defs.specs.Kinds.{are_continuous}
use Rattle.solve_defs.specs.Looks.{Holds}
use Rattle.solve_defs.specs.Points.{HasNoPoint, IsBetter, IsFeasible, objective_value, ratio}
use Rattle.solve_defs.specs.declared.status.TheConstants.{INFEASIBLE, OPTIMAL, UNBOUNDED}
use Rattle.solve_defs.specs.declared.verdict.Place.TheVariants.{Shape}
use Rattle.solve_defs.proofs.CaseTrees.{BoundGives, Node, tree_meets}
use Rattle.solve_defs.proofs.LeafBounds.{All-right}
use Rattle.solve_defs.proofs.LeafLooks.{bound_holds}

-- ---- the shape

pub shape_holds : (m : Model) (o : Outcome) (cert : Cert) → IsValid m o cert → IsTrue (has_shape m o cert)
shape_holds m o cert valid = All-head Holds (look_at Shape (has_shape m o cert)) (point_looks m o.point ++ certificate_looks m o cert) valid

pub rest_holds : (m : Model) (o : Outcome) (cert : Cert) → IsValid m o cert → All Holds (point_looks m o.point ++ certificate_looks m o cert)
rest_holds m o cert valid = All-tail Holds (look_at Shape (has_shape m o cert)) (point_looks m o.point ++ certificate_looks m o cert) valid

pub certificate_fits : (m : Model) (o : Outcome) (cert : Cert) → IsValid m o cert → IsTrue (is_certificate_for m o cert)
certificate_fits m o cert valid = (and_parts (is_point_for m o.point) (is_certificate_for m o cert) (shape_holds m o cert valid)).1

pub record TreeShape (m : Model) (o : Outcome) (nodes : List CertNode) : Type 0 where
  pub whole : IsTrue (are_whole 1 nodes)
  pub fit : IsTrue (list_all (is_node_for m) nodes)
  pub status : IsTrue ((o.status == OPTIMAL && is_some o.point) || (o.status == INFEASIBLE && is_none o.point && not (list_any is_bound nodes)))

pub tree_shape : (m : Model) (o : Outcome) (nodes : List CertNode) → IsValid m o (Tree nodes) → TreeShape m o nodes
tree_shape m o nodes valid =
    let status = ((o.status == OPTIMAL && is_some o.point) || (o.status == INFEASIBLE && is_none o.point && not (list_any is_bound nodes))) in
    let parts = and_parts (are_whole 1 nodes && list_all (is_node_for m) nodes) status (certificate_fits m o (Tree nodes) valid) in
    let front = and_parts (are_whole 1 nodes) (list_all (is_node_for m) nodes) parts.0 in
    record { whole = front.0; fit = front.1; status = parts.1 }

-- a test of a status that another status fails
pub refuted : (test : ℕ → Bool) (s t : ℕ) → s ≡ t → test t ≡ false → IsTrue (test s) → ⊥
refuted test s t same fails shown = true≢false (sym (subst (λ k. IsTrue (test k)) same shown) ∙ fails)

-- whether nothing is to be shown
abbrev pub needs_nothing : ℕ → Bool
needs_nothing s = not (s == OPTIMAL || (s == INFEASIBLE || s == UNBOUNDED))

pub record RayShape (m : Model) (o : Outcome) (point ray : List Fraction) : Type 0 where
  pub status : IsTrue (o.status == UNBOUNDED)
  pub continuous : are_continuous m.vars ≡ true
  pub long : length point ≡ length m.vars
  pub ray_long : length ray ≡ length m.vars

pub ray_shape : (m : Model) (o : Outcome) (point ray : List Fraction) → IsValid m o (Ray point ray) → RayShape m o point ray
ray_shape m o point ray valid =
    let front = o.status == UNBOUNDED && is_none o.point in
    let continuous = are_continuous m.vars in
    let long = length point == length m.vars in
    let four = and_parts (front && continuous && long) (length ray == length m.vars) (certificate_fits m o (Ray point ray) valid) in
    let three = and_parts (front && continuous) long four.0 in
    let two = and_parts front continuous three.0 in
    record {
      status = (and_parts (o.status == UNBOUNDED) (is_none o.point) two.0).0;
      continuous = two.1;
      long = eqb-true (length point) (length m.vars) three.1;
      ray_long = eqb-true (length ray) (length m.vars) four.1;
    }

-- what a tree's status says
pub tree_status : (m : Model) (o : Outcome) (nodes : List CertNode) → TreeShape m o nodes
    → ((o.status ≡ OPTIMAL) × IsTrue (is_some o.point)) ⊎ ((o.status ≡ INFEASIBLE) × (list_any is_bound nodes ≡ false))
tree_status m o nodes shape =
    ⊎_elim
    (λ kept. let parts = and_parts (o.status == OPTIMAL) (is_some o.point) kept in inl (eqb-true o.status OPTIMAL parts.0, parts.1))
    (λ closed. let parts = and_parts (o.status == INFEASIBLE && is_none o.point) (not (list_any is_bound nodes)) closed in
    inr (eqb-true o.status INFEASIBLE (and_parts (o.status == INFEASIBLE) (is_none o.point) parts.0).0, not-true (list_any is_bound nodes) parts.1))
    (or_cases (o.status == OPTIMAL && is_some o.point) (o.status == INFEASIBLE && is_none o.point && not (list_any is_bound nodes)) shape.status)

-- ---- the leaves

with_bounds : (m : Model) (value : Fraction) (Goal : List ℤ → ℕ → Type 0) (nodes : List CertNode) → BoundGives m value Goal → IsTrue (list_all (is_node_for m) nodes) → AllByRecursion (Node m value Goal) nodes
with_bounds m value Goal [] gives fit = tt
with_bounds m value Goal (node ∷ nodes) gives fit =
    let parts = and_parts (is_node_for m node) (list_all (is_node_for m) nodes) fit in
    (record { fits = parts.0; bound = λ _. gives }, with_bounds m value Goal nodes gives parts.1)

without_bounds : (m : Model) (value : Fraction) (Goal : List ℤ → ℕ → Type 0) (nodes : List CertNode) → list_any is_bound nodes ≡ false → IsTrue (list_all (is_node_for m) nodes)
    → AllByRecursion (Node m value Goal) nodes
without_bounds m value Goal [] none fit = tt
without_bounds m value Goal (node ∷ nodes) none fit =
    let parts = and_parts (is_node_for m node) (list_all (is_node_for m) nodes) fit in
    let bounds = or_parts (is_bound node) (list_any is_bound nodes) none in
    (record { fits = parts.0; bound = λ bound. absurd (true≢false (sym bound ∙ bounds.0)) }, without_bounds m value Goal nodes bounds.1 parts.1)

-- Each feasible point is in one of the leaves.
from_root : (m : Model) (o : Outcome) (Goal : List ℤ → ℕ → Type 0) (nodes : List CertNode) → IsLawful m → IsValid m o (Tree nodes) → AllByRecursion (Node m (value_of o.point) Goal) nodes
    → (X : List ℤ) (d : ℕ) → IsFeasible m X d → Goal X d
from_root m o Goal nodes lawful valid each X d feasible =
    (tree_meets m (value_of o.point) Goal lawful 1 (under [] ∷ []) nodes each (tree_shape m o nodes valid).whole
    (All-right Holds (point_looks m o.point) (tree_looks m (value_of o.point) 1 (under [] ∷ []) nodes) (rest_holds m o (Tree nodes) valid))).0
    X d record { feasible = feasible; within = All-nil (IsWithinCut X d) }

-- No feasible point is better than the kept one.
pub valid_tree : (m : Model) (o : Outcome) (nodes : List CertNode) → IsLawful m → IsValid m o (Tree nodes)
    → (X : List ℤ) (d : ℕ) → IsFeasible m X d → IsBetter m.direction (objective_value m X d) (ratio (value_of o.point)) → ⊥
valid_tree m o nodes lawful valid =
    from_root m o (λ X d. IsBetter m.direction (objective_value m X d) (ratio (value_of o.point)) → ⊥) nodes lawful valid
    (with_bounds m (value_of o.point) _ nodes (λ cuts leaf weights hold X d feasible. bound_holds m cuts leaf weights (value_of o.point) X d lawful hold feasible) (tree_shape m o nodes valid).fit)

-- ---- no point

no_bounds : (m : Model) (o : Outcome) (nodes : List CertNode) → TreeShape m o nodes → o.status ≡ INFEASIBLE → list_any is_bound nodes ≡ false
no_bounds m o nodes shape infeasible = ⊎_elim (λ kept. absurd (apart (sym kept.0 ∙ infeasible))) (λ closed. closed.1) (tree_status m o nodes shape)
  where
    apart : OPTIMAL ≡ INFEASIBLE → ⊥
    apart e = omega (arith, e)

pub valid_infeasible : (m : Model) (o : Outcome) (cert : Cert) → IsLawful m → IsValid m o cert → o.status ≡ INFEASIBLE → HasNoPoint m
valid_infeasible m o Nothing lawful valid infeasible X d feasible = refuted needs_nothing o.status INFEASIBLE infeasible refl (certificate_fits m o Nothing valid)
valid_infeasible m o (Ray point ray) lawful valid infeasible X d feasible =
    refuted (λ s. s == UNBOUNDED) o.status INFEASIBLE infeasible refl (ray_shape m o point ray valid).status
valid_infeasible m o (Tree nodes) lawful valid infeasible X d feasible =
    from_root m o (λ _ _. ⊥) nodes lawful valid (without_bounds m (value_of o.point) _ nodes (no_bounds m o nodes (tree_shape m o nodes valid) infeasible) (tree_shape m o nodes valid).fit) X d feasible
