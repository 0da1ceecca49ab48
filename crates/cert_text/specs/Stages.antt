-- How far a text has come, and what one more line does to it.
use Rattle.std.specs.Prelude.{ℕ, ◌+◌, ◌-◌, ◌==◌, Bool, true, false, not, ◌&&◌, nat_lt, List, [], ◌∷◌, ◌++◌, length, slice_get, Option, Some, None, is_some, is_none, option_map, if◌then◌else◌}
use Rattle.std.proofs.Math.Bool.{beq}
use Rattle.frac128.specs.Fraction.{Fraction}
use Rattle.model_data.specs.declared.solution.Cert.TheVariants.{Nothing, Ray, Tree}
use Rattle.model_data.specs.declared.solution.CertNode.{CertNode}
use Rattle.model_data.specs.declared.solution.CertNode.TheVariants.{Split, Bound, Farkas}
use Rattle.model_data.specs.declared.solution.Outcome.{Outcome}
use Rattle.model_data.specs.declared.solution.Point.{Point}
use Rattle.model_data.specs.declared.solution.Weight.{Weight}
use Rattle.model_data.specs.declared.solution.Weights.{Weights}
use Rattle.model_data.specs.declared.solution.WideAt.{WideAt}
use Rattle.solve_defs.specs.Values.{is_zero}
use Rattle.solve_defs.specs.declared.status.TheConstants.{NUMERIC}
use Rattle.cert_text.specs.declared.entry.Claim.TheVariants as claim
use Rattle.cert_text.specs.declared.entry.Entry.{Entry}
use Rattle.cert_text.specs.declared.entry.Entry.TheVariants as entry
use Rattle.cert_text.specs.declared.entry.Side.{Side}
use Rattle.cert_text.specs.declared.entry.Side.TheVariants as side
use Rattle.cert_text.specs.declared.entry.Vector.TheVariants as vector
use Rattle.cert_text.specs.declared.stage.RaySoFar.{RaySoFar}
use Rattle.cert_text.specs.declared.stage.Stage.{Stage}
use Rattle.cert_text.specs.declared.stage.Stage.TheVariants as stage

-- ---- the outcome

abbrev pub begun : Entry → Option Stage
begun (entry.Outcome status pivots nodes work) = Some (stage.Outcome record { status = status; pivots = pivots; nodes = nodes; work = work; point = None; wide = None })
begun _ = None

abbrev pub with_point : Outcome → Option Point → Option Stage
with_point o point = Some (stage.Outcome (record o { point = point }))

abbrev pub with_coordinate : Outcome → Fraction → Option Point → Option WideAt → Option Stage
with_coordinate o x None wide = None
with_coordinate o x (Some point) None = with_point o (Some (record point { xs = point.xs ++ x ∷ [] }))
with_coordinate o x (Some point) (Some wide) = None

-- ---- weights and nodes

abbrev pub place_or_zero : Option Weight → ℕ
place_or_zero None = 0
place_or_zero (Some w) = w.place

-- the number of the last weight, 0 where there is none
abbrev pub last_place : List Weight → ℕ
last_place ws = place_or_zero (slice_get ws (length ws - 1))

-- a weight that isn't 0, with a number above the last one and above 0
abbrev pub may_follow : List Weight → Weight → Bool
may_follow ws w = nat_lt (last_place ws) w.place && not (is_zero w.weight)

abbrev pub is_empty : {A : Type 0} → List A → Bool
is_empty [] = true
is_empty (_ ∷ _) = false

-- Rows come before lower bounds, and these before upper ones.
abbrev pub weights_with : Weights → Side → Weight → Option Weights
weights_with ws side.Row w =
    if is_empty ws.lows && is_empty ws.ups && may_follow ws.rows w then Some (record ws { rows = ws.rows ++ w ∷ [] }) else None
weights_with ws side.Lower w = if is_empty ws.ups && may_follow ws.lows w then Some (record ws { lows = ws.lows ++ w ∷ [] }) else None
weights_with ws side.Upper w = if may_follow ws.ups w then Some (record ws { ups = ws.ups ++ w ∷ [] }) else None

abbrev pub with_weight : CertNode → Side → Weight → Option CertNode
with_weight (Split var k) side w = None
with_weight (Bound ws) side w = option_map (λ vs. Bound vs) (weights_with ws side w)
with_weight (Farkas ws) side w = option_map (λ vs. Farkas vs) (weights_with ws side w)

abbrev pub no_weights : Weights
no_weights = record { rows = []; lows = []; ups = [] }

-- the node that begins with an entry
abbrev pub node_begun : Entry → Option CertNode
node_begun (entry.Split var k) = Some (Split var k)
node_begun (entry.Leaf claim.Bound) = Some (Bound no_weights)
node_begun (entry.Leaf claim.Farkas) = Some (Farkas no_weights)
node_begun _ = None

-- ---- the certificate

-- how many subtrees are to come behind a node
abbrev pub missing_behind : ℕ → CertNode → ℕ
missing_behind missing (Split var k) = missing + 1
missing_behind missing (Bound ws) = missing - 1
missing_behind missing (Farkas ws) = missing - 1

abbrev pub begun_tree : Outcome → Entry → Option Stage
begun_tree o e = option_map (λ node. stage.Tree o (missing_behind 1 node) [] node) (node_begun e)

abbrev pub no_ray : RaySoFar
no_ray = record { point = []; direction = [] }

abbrev pub begun_cert : Outcome → Entry → Option Stage
begun_cert o entry.Nothing = Some (stage.Nothing o)
begun_cert o entry.Ray = Some (stage.Ray o no_ray)
begun_cert o e = begun_tree o e

-- the value comes before the variables, and these before what doesn't fit
abbrev pub behind_outcome : Outcome → Entry → Option Stage
behind_outcome o (entry.Value x) = if is_none o.point && is_none o.wide then with_point o (Some record { xs = []; value = x }) else None
behind_outcome o (entry.Component vector.X x) = with_coordinate o x o.point o.wide
behind_outcome o (entry.Wide w) =
    if is_none o.wide && (o.status == NUMERIC) then Some (stage.Outcome (record o { wide = Some w })) else None
behind_outcome o e = if beq (is_some o.wide) (o.status == NUMERIC) then begun_cert o e else None

abbrev pub behind_nothing : Outcome → Entry → Option Stage
behind_nothing o entry.End = Some (stage.Whole record { outcome = o; cert = Nothing })
behind_nothing o _ = None

abbrev pub behind_ray : Outcome → RaySoFar → Entry → Option Stage
behind_ray o ray (entry.Component vector.P x) = if is_empty ray.direction then Some (stage.Ray o (record ray { point = ray.point ++ x ∷ [] })) else None
behind_ray o ray (entry.Component vector.D x) = Some (stage.Ray o (record ray { direction = ray.direction ++ x ∷ [] }))
behind_ray o ray entry.End = Some (stage.Whole record { outcome = o; cert = Ray ray.point ray.direction })
behind_ray o ray _ = None

-- A weight belongs to the last node. Another node comes only where a subtree is to come, and the end only where none is.
abbrev pub behind_tree : Outcome → ℕ → List CertNode → CertNode → Entry → Option Stage
behind_tree o missing nodes last (entry.Weight side w) = option_map (stage.Tree o missing nodes) (with_weight last side w)
behind_tree o missing nodes last entry.End =
    if missing == 0 then Some (stage.Whole record { outcome = o; cert = Tree (nodes ++ last ∷ []) }) else None
behind_tree o missing nodes last e =
    if missing == 0 then None
    else option_map (λ node. stage.Tree o (missing_behind missing node) (nodes ++ last ∷ []) node) (node_begun e)

-- the stage behind one more entry
abbrev pub next : Stage → Entry → Option Stage
next stage.Start e = begun e
next (stage.Outcome o) e = behind_outcome o e
next (stage.Nothing o) e = behind_nothing o e
next (stage.Ray o ray) e = behind_ray o ray e
next (stage.Tree o missing nodes last) e = behind_tree o missing nodes last e
next (stage.Whole proof) e = None

abbrev pub missing_of : Stage → ℕ
missing_of (stage.Tree o missing nodes last) = missing
missing_of _ = 0
