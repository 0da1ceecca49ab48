-- A line adds at most one to the subtrees that are to come, and the first line of a tree makes them at most 2.
use Rattle.std.proofs.Common.{◌≡◌, refl, subst, ℕ, ◌+◌, ◌≤◌, ◌==◌, Bool, true, false, List, [], ◌∷◌, ◌++◌, Option, Some, None, arith}
use Rattle.std.specs.Prelude.{◌&&◌, is_none, is_some, option_map, if◌then◌else◌}
use Rattle.std.proofs.Math.Bool.{beq}
use Rattle.frac128.specs.Fraction.{Fraction}
use Rattle.model_data.specs.declared.solution.Cert.TheVariants.{Tree}
use Rattle.model_data.specs.declared.solution.CertNode.{CertNode}
use Rattle.model_data.specs.declared.solution.CertNode.TheVariants.{Split, Bound, Farkas}
use Rattle.model_data.specs.declared.solution.Outcome.{Outcome}
use Rattle.model_data.specs.declared.solution.Point.{Point}
use Rattle.model_data.specs.declared.solution.WideAt.{WideAt}
use Rattle.solve_defs.specs.declared.status.TheConstants.{NUMERIC}
use Rattle.cert_text.specs.Lines.{stage_behind}
use Rattle.cert_text.specs.Reading.{entry_of}
use Rattle.cert_text.specs.Stages.{begun_cert, is_empty, missing_behind, missing_of, next, node_begun, with_coordinate, with_weight}
use Rattle.cert_text.specs.declared.entry.Claim.TheVariants as claim
use Rattle.cert_text.specs.declared.entry.Entry.{Entry}
use Rattle.cert_text.specs.declared.entry.Entry.TheVariants as entry
use Rattle.cert_text.specs.declared.entry.Vector.TheVariants as vector
use Rattle.cert_text.specs.declared.stage.RaySoFar.{RaySoFar}
use Rattle.cert_text.specs.declared.stage.Stage.{Stage}
use Rattle.cert_text.specs.declared.stage.Stage.TheVariants as stage
use Rattle.cert_text.proofs.Basics.{bound}

-- a choice of a stage with none to come
abbrev HasNone : Option Stage → Type 0
HasNone None = Unit {0}
HasNone (Some t) = missing_of t ≡ 0

none_chosen : (b : Bool) (s : Stage) → missing_of s ≡ 0 → HasNone (if b then Some s else None)
none_chosen true s h = h
none_chosen false s h = tt

abbrev HasTwo : Option Stage → Type 0
HasTwo None = Unit {0}
HasTwo (Some t) = missing_of t ≤ 2

none_two : (o : Option Stage) → HasNone o → HasTwo o
none_two None h = tt
none_two (Some t) h = omega (arith, h)

two_chosen : (b : Bool) (o : Option Stage) → HasTwo o → HasTwo (if b then o else None)
two_chosen true o h = h
two_chosen false o h = tt

coordinate_none : (o : Outcome) (x : Fraction) (point : Option Point) (wide : Option WideAt) → HasNone (with_coordinate o x point wide)
coordinate_none o x None wide = tt
coordinate_none o x (Some point) None = refl
coordinate_none o x (Some point) (Some wide) = tt

cert_two : (o : Outcome) (e : Entry) → HasTwo (begun_cert o e)
cert_two o entry.Nothing = omega arith
cert_two o entry.Ray = omega arith
cert_two o (entry.Split var k) = omega arith
cert_two o (entry.Leaf claim.Bound) = omega arith
cert_two o (entry.Leaf claim.Farkas) = omega arith
cert_two o _ = tt

outcome_two : (o : Outcome) (e : Entry) → HasTwo (next (stage.Outcome o) e)
outcome_two o (entry.Value x) = none_two (next (stage.Outcome o) (entry.Value x)) (none_chosen (is_none o.point && is_none o.wide) (stage.Outcome (record o { point = Some record { xs = []; value = x } })) refl)
outcome_two o (entry.Component vector.X x) = none_two (next (stage.Outcome o) (entry.Component vector.X x)) (coordinate_none o x o.point o.wide)
outcome_two o (entry.Wide w) = none_two (next (stage.Outcome o) (entry.Wide w)) (none_chosen (is_none o.wide && (o.status == NUMERIC)) (stage.Outcome (record o { wide = Some w })) refl)
outcome_two o e = two_chosen (beq (is_some o.wide) (o.status == NUMERIC)) (begun_cert o e) (cert_two o e)

start_two : (e : Entry) → HasTwo (next stage.Start e)
start_two (entry.Outcome a b c d) = omega arith
start_two _ = tt

nothing_two : (o : Outcome) (e : Entry) → HasTwo (next (stage.Nothing o) e)
nothing_two o entry.End = omega arith
nothing_two o _ = tt

ray_two : (o : Outcome) (ray : RaySoFar) (e : Entry) → HasTwo (next (stage.Ray o ray) e)
ray_two o ray (entry.Component vector.P x) = none_two (next (stage.Ray o ray) (entry.Component vector.P x)) (none_chosen (is_empty ray.direction) (stage.Ray o (record ray { point = ray.point ++ x ∷ [] })) refl)
ray_two o ray (entry.Component vector.D x) = omega arith
ray_two o ray entry.End = omega arith
ray_two o ray _ = tt

-- at most so many are to come
abbrev HasMost : ℕ → Option Stage → Type 0
HasMost n None = Unit {0}
HasMost n (Some t) = missing_of t ≤ n

most_chosen : (n : ℕ) (b : Bool) (o : Option Stage) → HasMost n o → HasMost n (if b then None else o)
most_chosen n true o h = tt
most_chosen n false o h = h

end_most : (n : ℕ) (b : Bool) (s : Stage) → missing_of s ≡ 0 → HasMost n (if b then Some s else None)
end_most n true s h = omega (arith, h)
end_most n false s h = tt

weight_most : (n m : ℕ) (o : Outcome) (nodes : List CertNode) (node : Option CertNode) → m ≤ n → HasMost n (option_map (stage.Tree o m nodes) node)
weight_most n m o nodes None h = tt
weight_most n m o nodes (Some node) h = h

behind_most : (m : ℕ) (node : CertNode) → missing_behind m node ≤ m + 1
behind_most m (Split var k) = omega arith
behind_most m (Bound ws) = omega arith
behind_most m (Farkas ws) = omega arith

node_most : (n m : ℕ) (o : Outcome) (nodes : List CertNode) (node : Option CertNode) → m + 1 ≤ n → HasMost n (option_map (λ x. stage.Tree o (missing_behind m x) nodes x) node)
node_most n m o nodes None h = tt
node_most n m o nodes (Some node) h = omega (arith, h, behind_most m node)

tree_most : (n : ℕ) (o : Outcome) (m : ℕ) (nodes : List CertNode) (last : CertNode) (e : Entry) → m + 1 ≤ n → HasMost n (next (stage.Tree o m nodes last) e)
tree_most n o m nodes last (entry.Weight s w) h = weight_most n m o nodes (with_weight last s w) (omega (arith, h))
tree_most n o m nodes last entry.End h = end_most n (m == 0) (stage.Whole record { outcome = o; cert = Tree (nodes ++ last ∷ []) }) refl
tree_most n o m nodes last e h = most_chosen n (m == 0) (option_map (λ node. stage.Tree o (missing_behind m node) (nodes ++ last ∷ []) node) (node_begun e)) (node_most n m o (nodes ++ last ∷ []) (node_begun e) h)

from_two : (n : ℕ) (o : Option Stage) → 2 ≤ n → HasTwo o → HasMost n o
from_two n None h k = tt
from_two n (Some t) h k = omega (arith, h, k)

next_most : (s : Stage) (e : Entry) (n : ℕ) → 1 ≤ n → missing_of s ≤ n → HasMost (n + 1) (next s e)
next_most stage.Start e n some h = from_two (n + 1) (next stage.Start e) (omega (arith, some)) (start_two e)
next_most (stage.Outcome o) e n some h = from_two (n + 1) (next (stage.Outcome o) e) (omega (arith, some)) (outcome_two o e)
next_most (stage.Nothing o) e n some h = from_two (n + 1) (next (stage.Nothing o) e) (omega (arith, some)) (nothing_two o e)
next_most (stage.Ray o ray) e n some h = from_two (n + 1) (next (stage.Ray o ray) e) (omega (arith, some)) (ray_two o ray e)
next_most (stage.Tree o m nodes last) e n some h = tree_most (n + 1) o m nodes last e (omega (arith, h))
next_most (stage.Whole proof) e n some h = tt

pub behind_missing : (s : Stage) (bytes : List ℕ) (t : Stage) (n : ℕ) → 1 ≤ n → missing_of s ≤ n → stage_behind s bytes ≡ Some t → missing_of t ≤ n + 1
behind_missing s bytes t n some h behind =
    let says = bound (entry_of bytes) (λ e. next s e) t behind in
    subst (HasMost (n + 1)) says.2 (next_most s says.0 n some h)
