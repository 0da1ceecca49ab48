-- What the plain solver does where a node's relaxation has come to its end, by what is found there.
use Rattle.std.specs.Prelude.{ℕ, suc, List, [], ◌∷◌, ◌++◌, Option, Some, None, Result, Ok, Err}
use Rattle.base_names.specs.declared.memory.OrMemory.{OrMemory}
use Rattle.base_names.specs.declared.memory.OrMemory.TheVariants.{Fault}
use Rattle.frac128.specs.declared.operations.Wide.{Wide as Refused}
use Rattle.model_data.specs.declared.model.Model.{Model}
use Rattle.model_data.specs.declared.params.Params.{Params}
use Rattle.model_data.specs.declared.solution.Cert.TheVariants.{Nothing, Ray}
use Rattle.model_data.specs.declared.solution.CertNode.TheVariants.{Split as SplitNode}
use Rattle.model_data.specs.declared.solution.Point.{Point}
use Rattle.model_data.specs.declared.solution.SolEvent.{SolEvent}
use Rattle.solve_defs.specs.Bounds.{at_least_cut, at_most_cut}
use Rattle.solve_defs.specs.Plain.{Placed, Search, Turn, finish, no_events, node_event, outcome, over, refused, silent, sol_event, with_finished, with_node}
use Rattle.solve_defs.specs.declared.cut.Cut.{Cut}
use Rattle.solve_defs.specs.declared.status.TheConstants.{INF_OR_UNBD, UNBOUNDED}
use Rattle.std_form.specs.Cuts.{IsCutOf}
use Rattle.std_form.specs.declared.fault.StdFault.{StdFault}
use Rattle.std_form.specs.declared.fault.StdFault.TheVariants.{Wide as WideFault}
use Rattle.branch_tree.specs.declared.finding.Finding.{Finding}
use Rattle.branch_tree.specs.declared.finding.Finding.TheVariants.{Closed, Halved, Rising, RisingRelaxed, TooWide}
use Rattle.branch_tree.specs.declared.finding.Halves.{Halves}
use Rattle.branch_tree.specs.declared.readings.Fractional.{Fractional}

-- a variable by its place, with its value
abbrev pub placed_of : Fractional → Placed
placed_of f = record { place = f.place; value = f.value }

-- what is answered where there is memory
abbrev pub answer_of : {A : Type 0} → Result A Refused → Result A (OrMemory StdFault)
answer_of (Ok a) = Ok a
answer_of (Err wide) = Err (Fault (WideFault wide))

-- with this best point, where there is one
abbrev pub with_point : Search → Option Point → Search
with_point s None = s
with_point s (Some point) = record s { incumbent = Some point }

-- what is told of it
abbrev pub sol_of : Model → Search → Option Point → Option SolEvent
sol_of m s None = None
sol_of m s (Some point) = sol_event m (with_node (record s { incumbent = Some point })) point.value

abbrev pub low_cut : Halves → Cut
low_cut h = at_most_cut h.place h.most

abbrev pub high_cut : Halves → Cut
high_cut h = at_least_cut h.place h.least

-- the turn that such a finding makes at this node
abbrev pub turn_by : Model → Params → Search → List Cut → Finding → Turn
turn_by m p s cuts (Closed own point) = finish m p (with_finished (with_point s point) own []) (sol_of m s point)
turn_by m p s cuts (Halved h) =
    finish m p (with_finished s (SplitNode (suc h.place) h.most) ((cuts ++ low_cut h ∷ []) ∷ (cuts ++ high_cut h ∷ []) ∷ [])) None
turn_by m p s cuts (Rising point ray) = silent (over (outcome UNBOUNDED (with_node s) None None) (Ray point ray))
turn_by m p s cuts RisingRelaxed = record {
  events = record no_events { node = node_event m (with_node s) };
  progress = over (outcome INF_OR_UNBD (with_node s) None None) Nothing;
}
turn_by m p s cuts (TooWide wide point) = silent (refused s.pivots wide (with_point s point))

-- The cuts of a split are those of a model with so many variables.
abbrev pub HasCutsOf : ℕ → Finding → Type 0
HasCutsOf n (Closed own point) = Unit {0}
HasCutsOf n (Halved h) = IsCutOf n (low_cut h) × IsCutOf n (high_cut h)
HasCutsOf n (Rising point ray) = Unit {0}
HasCutsOf n RisingRelaxed = Unit {0}
HasCutsOf n (TooWide wide point) = Unit {0}
