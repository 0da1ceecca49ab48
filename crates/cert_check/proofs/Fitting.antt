-- What the shape of a node says of its numbers.
use Rattle.std.proofs.Common.{◌≡◌, refl, ℕ, zero, suc, ◌-◌, ◌<◌, ◌≤◌, ◌==◌, IsTrue, ◌&&◌, List, [], ◌∷◌, length, All, ℤ, arith}
use Rattle.std.specs.Prelude.{is_none, nat_le, nat_lt, unsigned_abs}
use Rattle.std.specs.List.{list_all}
use Rattle.std.proofs.lemmas.Bool.{and_parts, eqb-true, leb-true, ltb-true}
use Rattle.std.proofs.lemmas.List.Elements.{All-cons, All-nil}
use Rattle.frac128.specs.Fraction.{Fraction}
use Rattle.frac128.specs.Numbers.{limit}
use Rattle.model_data.specs.declared.model.Model.{Model}
use Rattle.model_data.specs.declared.model.Var.{Var}
use Rattle.model_data.specs.declared.solution.Cert.TheVariants.{Ray, Tree}
use Rattle.model_data.specs.declared.solution.CertNode.{CertNode}
use Rattle.model_data.specs.declared.solution.CertNode.TheVariants.{Split}
use Rattle.model_data.specs.declared.solution.Outcome.{Outcome}
use Rattle.model_data.specs.declared.solution.Weight.{Weight}
use Rattle.model_data.specs.declared.solution.Weights.{Weights}
use Rattle.solve_defs.specs.Certificates.{are_weights_for, are_whole, is_certificate_for, is_integer_number, is_node_for, is_number_to}
use Rattle.solve_defs.specs.Kinds.{are_continuous}
use Rattle.solve_defs.specs.declared.status.TheConstants.{UNBOUNDED}
use Rattle.cert_check.specs.Leaves.{Fit}
use Rattle.cert_check.specs.Shapes.{goes_with_tree}
use Rattle.cert_check.specs.Sums.{AreNumbered, HasNumber}

numbered : (count : ℕ) (ws : List Weight) → IsTrue (list_all (λ w. is_number_to count w.place) ws) → AreNumbered count ws
numbered count [] h = All-nil (HasNumber count)
numbered count (w ∷ ws) h =
    let parts = and_parts (is_number_to count w.place) (list_all (λ v. is_number_to count v.place) ws) h in
    let own = and_parts (nat_le 1 w.place) (nat_le w.place count) parts.0 in
    All-cons (HasNumber count) w ws (record { above_zero = leb-true 1 w.place own.0; within = leb-true w.place count own.1 }) (numbered count ws parts.1)

pub weights_fit : (m : Model) (weights : Weights) → IsTrue (are_weights_for m weights) → Fit m weights
weights_fit m weights h =
    let rows = list_all (λ (w : Weight). is_number_to (length m.rows) w.place) weights.rows in
    let lows = list_all (λ (w : Weight). is_number_to (length m.vars) w.place) weights.lows in
    let ups = list_all (λ (w : Weight). is_number_to (length m.vars) w.place) weights.ups in
    let parts = and_parts (rows && lows) ups h in
    let two = and_parts rows lows parts.0 in
    record { rows = numbered (length m.rows) weights.rows two.0; lows = numbered (length m.vars) weights.lows two.1; ups = numbered (length m.vars) weights.ups parts.1 }

-- ---- a split

pub record SplitFits (m : Model) (number : ℕ) (k : ℤ) : Type 0 where
  pub above_zero : 1 ≤ number
  pub within : number ≤ length m.vars
  pub small : unsigned_abs k < limit

record IsNumber (count number : ℕ) : Type 0 where
  above_zero : 1 ≤ number
  within : number ≤ count

number_is : (vars : List Var) (number : ℕ) → IsTrue (is_integer_number vars number) → IsNumber (length vars) number
number_is vars zero h = absurd cc
number_is [] (suc place) h = absurd cc
number_is (v ∷ vars) (suc zero) h = record { above_zero = omega arith; within = omega arith }
number_is (v ∷ vars) (suc (suc place)) h =
    let rest = number_is vars (suc place) h in
    record { above_zero = omega arith; within = omega (arith, rest.within) }

pub split_fits : (m : Model) (number : ℕ) (k : ℤ) → IsTrue (is_node_for m (Split number k)) → SplitFits m number k
split_fits m number k h =
    let parts = and_parts (is_integer_number m.vars number) (nat_lt (unsigned_abs k) limit) h in
    let own = number_is m.vars number parts.0 in
    record { above_zero = own.above_zero; within = own.within; small = ltb-true (unsigned_abs k) limit parts.1 }

-- ---- a certificate

pub record RayFits (m : Model) (point ray : List Fraction) : Type 0 where
  pub point_is : length point ≡ length m.vars
  pub ray_is : length ray ≡ length m.vars

pub ray_fits : (m : Model) (o : Outcome) (point ray : List Fraction) → IsTrue (is_certificate_for m o (Ray point ray)) → RayFits m point ray
ray_fits m o point ray h =
    let without = o.status == UNBOUNDED && is_none o.point && are_continuous m.vars in
    let parts = and_parts (without && (length point == length m.vars)) (length ray == length m.vars) h in
    let two = and_parts without (length point == length m.vars) parts.0 in
    record { point_is = eqb-true (length point) (length m.vars) two.1; ray_is = eqb-true (length ray) (length m.vars) parts.1 }

pub nodes_fit : (m : Model) (o : Outcome) (nodes : List CertNode) → IsTrue (is_certificate_for m o (Tree nodes)) → IsTrue (list_all (is_node_for m) nodes)
nodes_fit m o nodes h =
    let parts = and_parts (are_whole 1 nodes && list_all (is_node_for m) nodes) (goes_with_tree o nodes) h in
    (and_parts (are_whole 1 nodes) (list_all (is_node_for m) nodes) parts.0).1
