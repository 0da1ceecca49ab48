-- What may be said of each place that is given, apart from how it is found.
use Rattle.std.specs.Prelude.{◌≡◌, ◌≢◌, ◌⊎◌, ◌<◌, ◌≤◌, ◌+◌, ⊤, ℕ, ℤ, pos, List, [], ◌∷◌, ◌++◌, map}
use Rattle.base_names.specs.declared.node.NodeLine.{NodeLine}
use Rattle.base_names.specs.declared.node.NodeState.TheVariants.{Alive}
use Rattle.base_names.specs.declared.node.Placed.{Placed}
use Rattle.table_defs.specs.Lists.{each}
use Rattle.cluster_defs.specs.Cluster.{Running, Waiting}
use Rattle.cluster_defs.specs.Placement.{all_placed_attempts, occupied}

abbrev pub Every : {A : Type 0} → (A → Type 0) → List A → Type 0
Every P [] = ⊤
Every P (x ∷ xs) = P x × Every P xs

abbrev pub IsIn : {A : Type 0} → A → List A → Type 0
IsIn x [] = ⊥
IsIn x (y ∷ ys) = (x ≡ y) ⊎ IsIn x ys

-- A job of this priority may run on the node.
pub record MayRun (priority : ℤ) (n : NodeLine) : Type 0 where
  pub alive : n.state ≡ Alive
  pub below : priority ≢ pos 100 → n.running < n.limit
  pub hard : priority ≡ pos 100 → (n.hard ≡ 0) ⊎ (n.running < n.hard)

-- How much less the first has left below its limit than the second is told without a difference, since more may run than a
-- limit says: the first has less left, or no more.
abbrev pub HasLess : NodeLine → NodeLine → Type 0
HasLess a b = a.limit + b.running < b.limit + a.running

abbrev pub HasNoMore : NodeLine → NodeLine → Type 0
HasNoMore a b = a.limit + b.running ≤ b.limit + a.running

-- The node is the first of those with most left below their limits, among those on which the job may run.
pub record IsBest (priority : ℤ) (ns : List NodeLine) (n : NodeLine) : Type 0 where
  pub before : List NodeLine
  pub behind : List NodeLine
  pub whole : ns ≡ before ++ n ∷ behind
  pub may : MayRun priority n
  pub less : Every (λ (other : NodeLine). MayRun priority other → HasLess other n) before
  pub no_more : Every (λ (other : NodeLine). MayRun priority other → HasNoMore other n) behind

-- It is the place of a job that waits.
pub record IsAllowed (ws : List Waiting) (ns : List NodeLine) (p : Placed) : Type 0 where
  pub job : Waiting
  pub waits : IsIn job ws
  pub named : p.waiter ≡ job.waiter
  pub line : NodeLine
  pub at : p.node ≡ line.node
  pub best : IsBest job.priority ns line

-- each place at its moment, when those before it are given
abbrev pub AreAllowed : List Waiting → List NodeLine → List Placed → Type 0
AreAllowed ws ns [] = ⊤
AreAllowed ws ns (p ∷ ps) = IsAllowed ws ns p × AreAllowed ws (occupied p.node ns) ps

abbrev pub CannotRun : List NodeLine → Waiting → Type 0
CannotRun ns w = Every (λ (n : NodeLine). MayRun w.priority n → ⊥) ns

-- the nodes when these places are given
abbrev pub lines_behind : List Placed → List NodeLine → List NodeLine
lines_behind ps ns = each (λ (p : Placed). occupied p.node) ps ns

abbrev pub line_numbers : List NodeLine → List ℕ
line_numbers ns = map (λ n. n.node.0) ns

-- what these places add to the attempts that run
abbrev pub new_attempts : List Placed → List Running
new_attempts ps = all_placed_attempts ps []
