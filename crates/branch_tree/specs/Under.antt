-- What the fields of a search mean, and what is kept of them.
use Rattle.std.specs.Prelude.{◌≡◌, ◌<◌, ℕ, All, List, [], ◌∷◌, length, Option, Some, None}
use Rattle.std.specs.Option.{ForSome}
use Rattle.dictionary.specs.Dictionary.{Dictionary}
use Rattle.model_data.specs.declared.model.Model.{Model}
use Rattle.simplex_rule.specs.OnPath.{IsOnPath}
use Rattle.solve_defs.specs.Ends.{structural_count}
use Rattle.solve_defs.specs.Plain.{Node, Search}
use Rattle.solve_defs.specs.StandardForm.{column_count, shapes_of}
use Rattle.solve_defs.specs.declared.cut.Cut.{Cut}
use Rattle.std_form.specs.Cuts.{IsCutOf}
use Rattle.branch_tree.specs.Stage.{Stage}
use Rattle.branch_tree.specs.Waits.{Open}
use Rattle.branch_tree.specs.declared.search.Search.TheInside.{Inside}

-- Before the first turn the root waits.
abbrev pub waiting_of : Option Dictionary → Open → List (List Cut)
waiting_of None cases = [] ∷ []
waiting_of (Some run) cases = cases.waiting

abbrev pub node_of : Option Dictionary → Open → Option Node
node_of None cases = None
node_of (Some run) cases = Some record { cuts = cases.own; dictionary = run }

abbrev pub search_of : Inside → Search
search_of i = record {
  pivots = i.counts.pivots;
  nodes = i.counts.nodes;
  work = i.counts.work;
  incumbent = i.incumbent;
  tree = i.tree.items;
  waiting = waiting_of i.run i.cases;
  node = node_of i.run i.cases;
}

abbrev pub stage_of : Inside → Stage
stage_of i = record { model = i.model.model; params = i.params; search = search_of i }

-- The node under way is on its path with the columns of the model under its cuts, all cuts are those of the model, and one node
-- more is within the limit.
pub record IsUnderWay (m : Model) (limit nodes : ℕ) (cases : Open) (run : Dictionary) : Type 0 where
  pub path : IsOnPath run
  pub columns : structural_count run ≡ column_count (shapes_of m cases.own)
  pub own : All (IsCutOf (length m.vars)) cases.own
  pub waiting : All (All (IsCutOf (length m.vars))) cases.waiting
  pub within : nodes < limit

abbrev pub IsSound : Inside → Type 0
IsSound i = ForSome i.run (IsUnderWay i.model.model i.params.nodes i.counts.nodes i.cases)
