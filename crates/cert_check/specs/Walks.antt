-- The nodes of a tree, one by one.
use Rattle.std.specs.Prelude.{◌≡◌, ℕ, suc, ◌<◌, ◌≤◌, List, [], ◌∷◌, ◌++◌, length, map, replicate, All, Result, Ok, Err, ℤ, unsigned_abs}
use Rattle.base_names.specs.declared.memory.OrMemory.{OrMemory}
use Rattle.base_names.specs.declared.memory.OrMemory.TheVariants.{Fault, NoMemory}
use Rattle.frac128.specs.Fraction.{Fraction}
use Rattle.frac128.specs.Numbers.{limit}
use Rattle.model_data.specs.declared.model.Model.{Model}
use Rattle.model_data.specs.declared.solution.CertNode.{CertNode}
use Rattle.model_data.specs.declared.solution.CertNode.TheVariants.{Bound, Farkas, Split}
use Rattle.solve_defs.specs.Bounds.{effective_bounds}
use Rattle.solve_defs.specs.Certificates.{Subtree, above, bound_claim, cuts_of, entering_looks, farkas_claim, halves, leaf_looks, pred_number, tree_looks, under}
use Rattle.solve_defs.specs.Looks.{Look, verdict_of}
use Rattle.solve_defs.specs.declared.cut.Cut.{Cut}
use Rattle.solve_defs.specs.declared.verdict.Verdict.{Verdict}
use Rattle.solve_defs.specs.declared.verdict.Verdict.TheVariants.{Valid}
use Rattle.cert_check.specs.Open.{Situation}
use Rattle.cert_check.specs.Found.{verdict_by}
use Rattle.cert_check.specs.Sums.{no_sum}
use Rattle.cert_check.specs.declared.cases.Entry.{Entry}
use Rattle.cert_check.specs.declared.cases.Entry.TheVariants.{Above, Here}
use Rattle.cert_check.specs.declared.failure.Failure.{Failure}
use Rattle.cert_check.specs.declared.tree.Walk.{Walk}

-- ---- subtrees that are to come

-- how a subtree waits
abbrev pub situation_of : Model → Subtree → Situation
situation_of m (under cuts) = record { bounds = effective_bounds m cuts; entry = Here }
situation_of m (above cuts place k) = record { bounds = effective_bounds m cuts; entry = Above place k }

-- The variable of this place is one of so many, and the number is below the limit in size.
abbrev pub CanEnter : ℕ → Entry → Type 0
CanEnter count Here = Unit {0}
CanEnter count (Above place k) = (place < count) × (unsigned_abs k < limit)

-- These subtrees are to come, and the sums are 0.
pub record IsToCome (m : Model) (subtrees : List Subtree) (walk : Walk) : Type 0 where
  pub later : walk.cases.later ≡ map (situation_of m) subtrees
  pub enter : All (λ s. CanEnter (length m.vars) (situation_of m s).entry) subtrees
  pub sums : walk.sums ≡ replicate (length m.vars) no_sum

-- ---- what is found

-- in these nodes
abbrev pub ahead : Model → Walk → List Subtree → List CertNode → Verdict
ahead m walk subtrees nodes = verdict_of (tree_looks m walk.value (suc walk.leaves) subtrees nodes)

-- in a node where these cuts hold, and in those behind it
abbrev pub node_looks : Model → Fraction → ℕ → List Cut → List Subtree → CertNode → List CertNode → List Look
node_looks m value leaf cuts later (Split var k) nodes = tree_looks m value leaf (halves cuts (pred_number var) k ++ later) nodes
node_looks m value leaf cuts later (Bound weights) nodes = leaf_looks m cuts leaf (bound_claim m value) weights ++ tree_looks m value (suc leaf) later nodes
node_looks m value leaf cuts later (Farkas weights) nodes = leaf_looks m cuts leaf (farkas_claim m) weights ++ tree_looks m value (suc leaf) later nodes

abbrev pub at_node : Model → Walk → List Cut → List Subtree → CertNode → List CertNode → Verdict
at_node m walk cuts later node nodes = verdict_of (node_looks m walk.value (suc walk.leaves) cuts later node nodes)

-- ---- what a node leads to

-- What was to be found in any nodes is left to what is to come now.
pub record GoesOn (m : Model) (was : List CertNode → Verdict) (old new : Walk) : Type 0 where
  pub later : List Subtree
  pub to_come : IsToCome m later new
  pub value : new.value ≡ old.value
  pub leaves : new.leaves ≤ suc old.leaves
  pub same : (nodes : List CertNode) → was nodes ≡ ahead m new later nodes

abbrev pub Leads : {A : Type 0} → Model → (List CertNode → Verdict) → Walk → Walk → Result A (OrMemory Failure) → Type 0
Leads m was old new (Ok a) = GoesOn m was old new
Leads m was old new (Err (Fault failed)) = (nodes : List CertNode) → was nodes ≡ verdict_by {A = Unit {0}} (Err failed)
Leads m was old new (Err NoMemory) = Unit {0}

-- The case of this subtree begins: nothing is found, and its cuts hold.
pub record Begun (m : Model) (own : Subtree) (old new : Walk) : Type 0 where
  pub passes : Valid ≡ verdict_of (entering_looks own)
  pub begun : new ≡ record old { cases = record old.cases { bounds = effective_bounds m (cuts_of own) } }

abbrev pub Enters : {A : Type 0} → Model → Subtree → Walk → Walk → Result A (OrMemory Failure) → Type 0
Enters m own old new (Ok a) = Begun m own old new
Enters m own old new (Err (Fault failed)) = verdict_by {A = Unit {0}} (Err failed) ≡ verdict_of (entering_looks own)
Enters m own old new (Err NoMemory) = Unit {0}

-- the sums, the counts and the number of bounds are as they were
pub record IsOnWay (old new : Walk) : Type 0 where
  pub sums : new.sums ≡ old.sums
  pub leaves : new.leaves ≡ old.leaves
  pub count : length new.cases.bounds ≡ length old.cases.bounds
