-- The ends of a search: the certificate is valid.
use Rattle.std.proofs.Common.{◌≡◌, refl, ◌∙◌, ap, ℕ, ◌==◌, Bool, true, false, IsTrue, ◌&&◌, ◌||◌, not, List, [], ◌∷◌, ◌++◌, length, map, Option, is_some, Some, None, IfSome, All, arith, if◌then◌else◌}
use Rattle.std.specs.List.{list_all, list_any}
use Rattle.std.proofs.lemmas.Bool.{and_from, eq-eqb, not_from_false}
use Rattle.std.proofs.lemmas.List.Elements.{All-append, All-cons, All-nil}
use Rattle.frac128.specs.Fraction.{Fraction}
use Rattle.frac128.proofs.Ordered.{IsAtMost-self}
use Rattle.model_data.specs.declared.model.Model.{Model}
use Rattle.model_data.specs.declared.solution.Cert.{Cert}
use Rattle.model_data.specs.declared.solution.Cert.TheVariants.{Nothing, Ray, Tree}
use Rattle.model_data.specs.declared.solution.Outcome.{Outcome}
use Rattle.model_data.specs.declared.solution.Point.{Point}
use Rattle.model_data.specs.declared.solution.WideAt.{WideAt}
use Rattle.solve_defs.specs.Certificates.{IsValid, Subtree, are_whole, certificate_looks, cuts_of, has_shape, is_bound, is_certificate_for, is_node_for, is_point_for, look_at, point_looks, ray_looks, under}
use Rattle.solve_defs.specs.Kinds.{are_continuous}
use Rattle.solve_defs.specs.Looks.{Holds}
use Rattle.solve_defs.specs.Plain.{Search, outcome}
use Rattle.solve_defs.specs.Points.{IsUnbounded, relaxation}
use Rattle.solve_defs.specs.Values.{turned}
use Rattle.solve_defs.specs.declared.status.TheConstants.{INFEASIBLE, INF_OR_UNBD, OPTIMAL, UNBOUNDED}
use Rattle.solve_defs.specs.declared.verdict.Place.TheVariants.{Shape}
use Rattle.search_laws.specs.Searches.{IsKept, IsRight, IsTreeTo}
use Rattle.search_laws.proofs.Grown.{whole_tree}

valid_from : (m : Model) (o : Outcome) (cert : Cert) → IfSome o.point (IsKept m) → IsTrue (is_certificate_for m o cert) → All Holds (certificate_looks m o cert) → IsValid m o cert
valid_from m o cert kept fits hold =
    All-cons Holds (look_at Shape (has_shape m o cert)) (point_looks m o.point ++ certificate_looks m o cert)
    (and_from (is_point_for m o.point) (is_certificate_for m o cert) (point_fits o.point kept) fits)
    (All-append Holds (point_looks m o.point) (certificate_looks m o cert) (point_holds o.point kept) hold)
  where
    point_fits : (point : Option Point) → IfSome point (IsKept m) → IsTrue (is_point_for m point)
    point_fits None h = refl
    point_fits (Some point) h = eq-eqb (length point.xs) (length m.vars) h.long

    point_holds : (point : Option Point) → IfSome point (IsKept m) → All Holds (point_looks m point)
    point_holds None h = All-nil Holds
    point_holds (Some point) h = h.looks

-- a status without a certificate
abbrev pub claims_nothing : ℕ → Bool
claims_nothing status = not (status == OPTIMAL || (status == INFEASIBLE || status == UNBOUNDED))

pub stopped_right : (m : Model) (status : ℕ) (s : Search) (wide : Option WideAt) → IfSome s.incumbent (IsKept m) → IsTrue (claims_nothing status) → (status ≡ INF_OR_UNBD → ⊥)
    → IsRight m (outcome status s s.incumbent wide) Nothing
stopped_right m status s wide kept nothing other =
    record { valid = valid_from m (outcome status s s.incumbent wide) Nothing kept nothing (All-nil Holds); relaxed = λ e. absurd (other e) }

-- ---- no node is left

same_some : (a b : List Subtree) → a ≡ b → ◌≡◌ {A = Option (List Subtree)} (Some a) (Some b)
same_some a b e = ap (λ l. Some l) e

none_left : (later : List Subtree) → map cuts_of later ≡ [] → later ≡ []
none_left [] e = refl
none_left (own ∷ later) e = absurd (cc)

pub finished_right : (m : Model) (s : Search) → IsTreeTo m s.incumbent s.tree [] → IsRight m (outcome (if is_some s.incumbent then OPTIMAL else INFEASIBLE) s s.incumbent None) (Tree s.tree)
finished_right m s t = by_point s.incumbent t
  where
    by_point : (incumbent : Option Point) → IsTreeTo m incumbent s.tree [] → IsRight m (outcome (if is_some incumbent then OPTIMAL else INFEASIBLE) s incumbent None) (Tree s.tree)
    by_point None t =
        let o = outcome INFEASIBLE s None None in
        let whole = whole_tree (under [] ∷ []) s.tree (t.is_open ∙ same_some t.later [] (none_left t.later t.waits)) in
        record {
          valid = valid_from m o (Tree s.tree) tt
              (and_from (are_whole 1 s.tree && list_all (is_node_for m) s.tree) _ (and_from (are_whole 1 s.tree) (list_all (is_node_for m) s.tree) whole t.fits)
              (not_from_false (list_any is_bound s.tree) (t.no_bounds refl)))
              (t.holds None tt);
          relaxed = λ e. absurd (omega (arith, e));
        }
    by_point (Some point) t =
        let o = outcome OPTIMAL s (Some point) None in
        let whole = whole_tree (under [] ∷ []) s.tree (t.is_open ∙ same_some t.later [] (none_left t.later t.waits)) in
        record {
          valid = valid_from m o (Tree s.tree) t.kept
              (and_from (are_whole 1 s.tree && list_all (is_node_for m) s.tree) _ (and_from (are_whole 1 s.tree) (list_all (is_node_for m) s.tree) whole t.fits) refl)
              (t.holds (Some point) (IsAtMost-self (turned m.direction point.value)));
          relaxed = λ e. absurd (omega (arith, e));
        }

-- ---- an unbounded relaxation

pub open_right : (m : Model) (s : Search) → are_continuous m.vars ≡ false → IsUnbounded (relaxation m []) → IsRight m (outcome INF_OR_UNBD s None None) Nothing
open_right m s other unbounded = record { valid = valid_from m (outcome INF_OR_UNBD s None None) Nothing tt refl (All-nil Holds); relaxed = λ _. (other, unbounded) }

pub ray_right : (m : Model) (s : Search) (point ray : List Fraction) → are_continuous m.vars ≡ true → length point ≡ length m.vars → length ray ≡ length m.vars → All Holds (ray_looks m point ray)
    → IsRight m (outcome UNBOUNDED s None None) (Ray point ray)
ray_right m s point ray continuous long ray_long hold =
    let o = outcome UNBOUNDED s None None in
    record {
      valid = valid_from m o (Ray point ray) tt
          (and_from (are_continuous m.vars && (length point == length m.vars)) (length ray == length m.vars)
          (and_from (are_continuous m.vars) (length point == length m.vars) continuous (eq-eqb (length point) (length m.vars) long))
          (eq-eqb (length ray) (length m.vars) ray_long))
          hold;
      relaxed = λ e. absurd (omega (arith, e));
    }
