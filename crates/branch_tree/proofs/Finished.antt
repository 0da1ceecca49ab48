-- A finished node, as the fields of a search have it.
use Rattle.std.proofs.Common.{◌≡◌, ◌∙◌, refl, sym, ap, ap₂, ℕ, suc, Option, Some, None, List, [], ◌∷◌, ◌++◌}
use Rattle.model_data.specs.declared.model.Model.{Model}
use Rattle.model_data.specs.declared.params.Params.{Params}
use Rattle.model_data.specs.declared.solution.CertNode.{CertNode}
use Rattle.model_data.specs.declared.solution.Point.{Point}
use Rattle.solve_defs.specs.Plain.{Node, Progress, Search, finish, finished, next_node, no_events, node_event, with_finished}
use Rattle.solve_defs.specs.declared.cut.Cut.{Cut}
use Rattle.solve_defs.specs.declared.solving.Events.{Events}
use Rattle.branch_tree.specs.Counted.{IsCounted, stopped_by}
use Rattle.branch_tree.specs.Findings.{sol_of, with_point}
use Rattle.branch_tree.specs.Next.{kept, next_as, told_of}
use Rattle.branch_tree.specs.declared.counts.Counts.{Counts}
use Rattle.branch_tree.specs.declared.counts.Stop.{Stop}
use Rattle.branch_tree.specs.declared.finishing.Next.{Next}

-- the counts of a search with one node more
abbrev pub counts_of : Search → Counts
counts_of s = record { pivots = s.pivots; nodes = suc s.nodes; work = s.work }

-- What is finished in both, and the best point, are the same.
pub record SameSoFar (x t : Search) : Type 0 where
  pub pivots : x.pivots ≡ t.pivots
  pub nodes : x.nodes ≡ t.nodes
  pub work : x.work ≡ t.work
  pub incumbent : x.incumbent ≡ t.incumbent
  pub tree : x.tree ≡ t.tree

pub same_stop : (stop : Stop) (x t : Search) → SameSoFar x t → stopped_by stop x ≡ stopped_by stop t
same_stop stop x t h = let a = h.pivots in let b = h.nodes in let c = h.work in let d = h.incumbent in cc

pub same_end : (x t : Search) → SameSoFar x t → finished x ≡ finished t
same_end x t h = let a = h.pivots in let b = h.nodes in let c = h.work in let d = h.incumbent in let e = h.tree in cc

pub same_on : (x t : Search) (waiting : List (List Cut)) (node : Option Node) → SameSoFar x t → x.waiting ≡ waiting → x.node ≡ node → x ≡ record t { waiting = waiting; node = node }
same_on x t waiting node h w n =
    let make : ℕ → ℕ → ℕ → Option Point → List CertNode → List (List Cut) → Option Node → Search = λ a b c d e f g. record { pivots = a; nodes = b; work = c; incumbent = d; tree = e; waiting = f; node = g } in
    ap (λ a. make a x.nodes x.work x.incumbent x.tree x.waiting x.node) h.pivots
    ∙ ap (λ b. make t.pivots b x.work x.incumbent x.tree x.waiting x.node) h.nodes
    ∙ ap (λ c. make t.pivots t.nodes c x.incumbent x.tree x.waiting x.node) h.work
    ∙ ap (λ d. make t.pivots t.nodes t.work d x.tree x.waiting x.node) h.incumbent
    ∙ ap (λ e. make t.pivots t.nodes t.work t.incumbent e x.waiting x.node) h.tree
    ∙ ap (λ f. make t.pivots t.nodes t.work t.incumbent t.tree f x.node) w
    ∙ ap (λ g. make t.pivots t.nodes t.work t.incumbent t.tree waiting g) n

-- the fields behind a finished node
pub same_finished : (x s : Search) (own : CertNode) (point : Option Point) (below : List (List Cut)) (counts : Counts)
    → counts ≡ counts_of s → x.pivots ≡ counts.pivots → x.nodes ≡ counts.nodes → x.work ≡ counts.work
    → x.incumbent ≡ kept point s.incumbent → x.tree ≡ s.tree ++ own ∷ [] → SameSoFar x (with_finished (with_point s point) own below)
same_finished x s own None below counts is pivots nodes work best tree = record {
  pivots = pivots ∙ ap (λ (c : Counts). c.pivots) is;
  nodes = nodes ∙ ap (λ (c : Counts). c.nodes) is;
  work = work ∙ ap (λ (c : Counts). c.work) is;
  incumbent = best;
  tree = tree;
}
same_finished x s own (Some q) below counts is pivots nodes work best tree = record {
  pivots = pivots ∙ ap (λ (c : Counts). c.pivots) is;
  nodes = nodes ∙ ap (λ (c : Counts). c.nodes) is;
  work = work ∙ ap (λ (c : Counts). c.work) is;
  incumbent = best;
  tree = tree;
}

pub counted : (s : Search) (own : CertNode) (point : Option Point) (below : List (List Cut)) (counts : Counts) → counts ≡ counts_of s
    → IsCounted counts (with_finished (with_point s point) own below)
counted s own None below counts is = record { pivots = sym (ap (λ (c : Counts). c.pivots) is); nodes = sym (ap (λ (c : Counts). c.nodes) is); work = sym (ap (λ (c : Counts). c.work) is) }
counted s own (Some q) below counts is = record { pivots = sym (ap (λ (c : Counts). c.pivots) is); nodes = sym (ap (λ (c : Counts). c.nodes) is); work = sym (ap (λ (c : Counts). c.work) is) }

pub waiting_is : (s : Search) (own : CertNode) (point : Option Point) (below : List (List Cut)) → (with_finished (with_point s point) own below).waiting ≡ below ++ s.waiting
waiting_is s own None below = refl
waiting_is s own (Some q) below = refl

told_is : (m : Model) (s : Search) (own : CertNode) (point : Option Point) (below : List (List Cut))
    → told_of m (with_finished (with_point s point) own below) point ≡ sol_of m s point
told_is m s own None below = refl
told_is m s own (Some q) below = refl

-- The turn of a finished node, by what is told of it and what comes behind it.
pub finish_is : (m : Model) (p : Params) (s : Search) (own : CertNode) (point : Option Point) (below : List (List Cut)) (counts : Counts) (events : Events) (progress : Progress)
    → counts ≡ counts_of s
    → ((t : Search) → IsCounted counts t → events ≡ record no_events { sol = told_of m t point; node = node_event m t })
    → progress ≡ next_node m p (with_finished (with_point s point) own below)
    → record { events = events; progress = progress } ≡ finish m p (with_finished (with_point s point) own below) (sol_of m s point)
finish_is m p s own point below counts events progress is told at =
    let t = with_finished (with_point s point) own below in
    ap₂ (λ (e : Events) (g : Progress). record { events = e; progress = g })
    (told t (counted s own point below counts is) ∙ ap (λ sol. record no_events { sol = sol; node = node_event m t }) (told_is m s own point below))
    at

-- What comes behind a node that is closed.
pub next_is : (m : Model) (p : Params) (s : Search) (own : CertNode) (point : Option Point) (counts : Counts) (next : Next)
    → counts ≡ counts_of s → ((t : Search) → IsCounted counts t → t.waiting ≡ s.waiting → next_as t next ≡ next_node m p t)
    → next_as (with_finished (with_point s point) own []) next ≡ next_node m p (with_finished (with_point s point) own [])
next_is m p s own point counts next is law = law (with_finished (with_point s point) own []) (counted s own point [] counts is) (waiting_is s own point [])

-- another best point alone
pub same_kept : (x s : Search) (point : Option Point) → x.pivots ≡ s.pivots → x.nodes ≡ s.nodes → x.work ≡ s.work → x.incumbent ≡ kept point s.incumbent → x.tree ≡ s.tree → SameSoFar x (with_point s point)
same_kept x s None pivots nodes work best tree = record { pivots = pivots; nodes = nodes; work = work; incumbent = best; tree = tree }
same_kept x s (Some q) pivots nodes work best tree = record { pivots = pivots; nodes = nodes; work = work; incumbent = best; tree = tree }
