-- Where a search stands between two turns: what its tree shows so far, and what is still to come.
use Rattle.std.specs.Prelude.{◌≡◌, IsTrue, false, List, [], ◌∷◌, length, map, All, IfSome, Option, Some, None}
use Rattle.std.specs.List.{list_all, list_any}
use Rattle.frac128.specs.Order.{IsAtMost}
use Rattle.model_data.specs.declared.model.Direction.{Direction}
use Rattle.model_data.specs.declared.model.Model.{Model}
use Rattle.model_data.specs.declared.solution.Cert.{Cert}
use Rattle.model_data.specs.declared.solution.CertNode.{CertNode}
use Rattle.model_data.specs.declared.solution.Outcome.{Outcome}
use Rattle.model_data.specs.declared.solution.Point.{Point}
use Rattle.solve_defs.specs.Certificates.{IsValid, Subtree, cuts_of, is_bound, is_node_for, point_looks, tree_looks, under, value_of}
use Rattle.solve_defs.specs.KeptCuts.{IsKeptCut}
use Rattle.solve_defs.specs.Kinds.{are_continuous}
use Rattle.solve_defs.specs.Looks.{Holds}
use Rattle.solve_defs.specs.Plain.{Node, Search}
use Rattle.solve_defs.specs.Points.{IsUnbounded, relaxation}
use Rattle.solve_defs.specs.Values.{turned}
use Rattle.solve_defs.specs.declared.cut.Cut.{Cut}
use Rattle.solve_defs.specs.declared.status.TheConstants.{INF_OR_UNBD, UNBOUNDED}
use Rattle.solve_defs.specs.Relaxations.{IsReached}
use Rattle.search_laws.specs.Trees.{still_open}

-- the point that is kept at last is no worse than the best so far
abbrev pub IsNoWorse : Direction → Option Point → Option Point → Type 0
IsNoWorse direction None kept = Unit {0}
IsNoWorse direction (Some best) None = ⊥
IsNoWorse direction (Some best) (Some kept) = IsAtMost (turned direction best.value) (turned direction kept.value)

-- The point's looks hold.
pub record IsKept (m : Model) (point : Point) : Type 0 where
  pub long : length point.xs ≡ length m.vars
  pub looks : All Holds (point_looks m (Some point))

-- The finished nodes with the best point so far, where subtrees under these cuts are still to come.
pub record IsTreeTo (m : Model) (incumbent : Option Point) (tree : List CertNode) (pending : List (List Cut)) : Type 0 where
  pub later : List Subtree
  pub is_open : still_open (under [] ∷ []) tree ≡ Some later
  pub waits : map cuts_of later ≡ pending
  -- the shape of its nodes
  pub fits : IsTrue (list_all (is_node_for m) tree)
  -- each look of a leaf holds, whatever better point is kept at last
  pub holds : (last : Option Point) → IsNoWorse m.direction incumbent last → All Holds (tree_looks m (value_of last) 1 (under [] ∷ []) tree)
  -- a leaf is closed by a value only where there is one
  pub no_bounds : incumbent ≡ None → list_any is_bound tree ≡ false
  pub kept : IfSome incumbent (IsKept m)

-- the cuts of the node under way before those of the nodes that are to begin
abbrev pub with_own : Option Node → List (List Cut) → List (List Cut)
with_own None waiting = waiting
with_own (Some node) waiting = node.cuts ∷ waiting

-- a search between two turns
pub record Stands (m : Model) (s : Search) : Type 0 where
  pub tree : IsTreeTo m s.incumbent s.tree (with_own s.node s.waiting)
  pub node : IfSome s.node (λ node. IsReached m node.cuts node.dictionary)

-- The bounds of each cut fit, of the node under way and of those that are to begin.
pub record HasKeptCuts (s : Search) : Type 0 where
  pub node : IfSome s.node (λ node. All IsKeptCut node.cuts)
  pub waiting : All (All IsKeptCut) s.waiting

-- an end: the certificate is valid, and a status that claims no certificate says what it says
pub record IsRight (m : Model) (o : Outcome) (cert : Cert) : Type 0 where
  pub valid : IsValid m o cert
  pub relaxed : o.status ≡ INF_OR_UNBD → (are_continuous m.vars ≡ false) × IsUnbounded (relaxation m [])

-- Where nothing bounds a relaxation, it is the root's, which is the one finished node.
pub record EndsAtRoot (o : Outcome) : Type 0 where
  pub relaxed : o.status ≡ INF_OR_UNBD → o.nodes ≡ 1
  pub unbounded : o.status ≡ UNBOUNDED → o.nodes ≡ 1
