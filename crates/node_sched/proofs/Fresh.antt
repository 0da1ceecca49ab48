-- Nodes as a cluster is opened with them.
use Rattle.std.proofs.Common.{◌≡◌, refl, sym, ap, ap₂, ◌∙◌, ◌+◌, ℕ, suc, zero, List, [], ◌∷◌, ◌++◌, arith, length, length-append, subst}
use Rattle.std.specs.List.{AllByRecursion}
use Rattle.base_names.specs.declared.node.NodeLine.{NodeLine}
use Rattle.base_names.specs.declared.node.NodeState.TheVariants.{Alive}
use Rattle.base_names.specs.declared.node.Placed.{Placed}
use Rattle.cluster_defs.specs.Cluster.{Node, Waiting}
use Rattle.cluster_defs.specs.Opened.{nodes_from}
use Rattle.cluster_defs.specs.Site.{Site}
use Rattle.cluster_defs.specs.Waiters.{is_waiter}
use Rattle.node_sched.specs.Asked.{nothing_on}
use Rattle.node_sched.specs.Counts.{AreCounted, IsNumber, IsNumbered, nodes_of, schedule_of}
use Rattle.node_sched.specs.Runs.{Runs}
use Rattle.node_sched.specs.Schedule.{lines_of}
use Rattle.node_sched.proofs.Steps.{at_most}

abbrev node_at : ℕ → ℕ → ℕ → Node
node_at number limit hard = record { node = record { 0 = number }; state = Alive; limit = limit; hard = hard }

abbrev pub first_nodes : ℕ → ℕ → ℕ → List Node
first_nodes zero limit hard = []
first_nodes (suc n) limit hard = first_nodes n limit hard ++ record { node = record { 0 = suc n }; state = Alive; limit = limit; hard = hard } ∷ []

last_node : (k : Site) (first n : ℕ) → nodes_from k first (suc n) ≡ nodes_from k first n ++ node_at (first + n) k.setup.limit k.setup.hard ∷ []
last_node k first zero = ap (λ (m : ℕ). node_at m k.setup.limit k.setup.hard ∷ []) (omega arith)
last_node k first (suc n) =
    ap (λ (ns : List Node). node_at first k.setup.limit k.setup.hard ∷ ns) (last_node k (suc first) n)
    ∙ ap (λ (m : ℕ). nodes_from k first (suc n) ++ node_at m k.setup.limit k.setup.hard ∷ []) (omega arith)

-- These are the nodes of a cluster that is opened.
pub first_are_opened : (k : Site) (n limit hard : ℕ) → k.setup.limit ≡ limit → k.setup.hard ≡ hard → first_nodes n limit hard ≡ nodes_from k 1 n
first_are_opened k zero limit hard l h = refl
first_are_opened k (suc n) limit hard l h =
    ap (λ (ns : List Node). ns ++ node_at (suc n) limit hard ∷ []) (first_are_opened k n limit hard l h)
    ∙ ap₂ (λ (a b : ℕ). nodes_from k 1 n ++ node_at (suc n) a b ∷ []) (sym l) (sym h)
    ∙ ap (λ (m : ℕ). nodes_from k 1 n ++ node_at m k.setup.limit k.setup.hard ∷ []) (let e : suc n ≡ 1 + n = omega arith in e)
    ∙ sym (last_node k 1 n)

pub nodes_listed : (ps : List Placed) (ns : List Node) → nodes_of (lines_of ps ns) ≡ ns
nodes_listed ps [] = refl
nodes_listed ps (n ∷ ns) = ap (λ (l : List Node). n ∷ l) (nodes_listed ps ns)

numbered_more : (ps : List Placed) (k m : ℕ) (ns : List Node) (n : Node) → IsNumbered k (lines_of ps ns) → k + length ns ≡ m → n.node.0 ≡ suc m → IsNumbered k (lines_of ps (ns ++ n ∷ []))
numbered_more ps k m [] n ok at is = (omega (arith, at, is), tt)
numbered_more ps k m (x ∷ ns) n ok at is = (ok.0, numbered_more ps (suc k) m ns n ok.1 (omega (arith, at)) is)

first_length : (n limit hard : ℕ) → length (first_nodes n limit hard) ≡ n
first_length zero limit hard = refl
first_length (suc n) limit hard = length-append (first_nodes n limit hard) _ ∙ (let h = first_length n limit hard in omega (arith, h))

first_numbered : (n limit hard : ℕ) → IsNumbered 0 (lines_of [] (first_nodes n limit hard))
first_numbered zero limit hard = tt
first_numbered (suc n) limit hard = numbered_more [] 0 n (first_nodes n limit hard) (record { node = record { 0 = suc n }; state = Alive; limit = limit; hard = hard }) (first_numbered n limit hard) (let h = first_length n limit hard in omega (arith, h)) refl

none_in : {A : Type 0} (xs : List A) → length xs ≡ 0 → xs ≡ []
none_in [] is = refl
none_in (x ∷ xs) is = absurd (omega (arith, is))

pub fresh : (ws : List Waiting) (rs : Runs) (ls : List NodeLine) (n limit hard : ℕ) → length ws ≡ 0 → rs.placed ≡ [] → ls ≡ lines_of [] (first_nodes n limit hard) → AreCounted ws rs ls
fresh ws rs ls n limit hard waits runs is = record {
  counted = is ∙ ap₂ (λ (ps : List Placed) (ns : List Node). lines_of ps ns) (sym runs) (sym (ap nodes_of is ∙ nodes_listed [] (first_nodes n limit hard)));
  numbered = subst (IsNumbered 0) (sym is) (first_numbered n limit hard);
  placed_there = subst (AllByRecursion (λ p. IsNumber (length ls) p.node)) (sym runs) tt;
  once = λ w. let h = at_most (λ (x : Waiting). is_waiter w x.waiter) ws in let k = at_most (λ (x : Placed). is_waiter w x.waiter) rs.placed in let m : length rs.placed ≡ 0 = ap (λ (l : List Placed). length l) runs in omega (arith, h, k, m, waits);
  room = omega (arith, waits);
}

pub fresh_schedule : (ws : List Waiting) (rs : Runs) (ls : List NodeLine) (n limit hard : ℕ) → length ws ≡ 0 → rs.placed ≡ [] → ls ≡ lines_of [] (first_nodes n limit hard) → schedule_of ws rs ls ≡ nothing_on (first_nodes n limit hard)
fresh_schedule ws rs ls n limit hard waits runs is =
    let none = none_in ws waits in
    let nodes : nodes_of ls ≡ first_nodes n limit hard = ap nodes_of is ∙ nodes_listed [] (first_nodes n limit hard) in
    λ i. record { waiting = none i; running = runs i; nodes = nodes i }
