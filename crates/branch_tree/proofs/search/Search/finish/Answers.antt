use Rattle.std.proofs.Common.{◌≡◌, ◌∙◌, refl, sym, ap, ap₂, subst, Some, IfOk, rules}
use Rattle.model_data.specs.declared.model.Model.{Model}
use Rattle.branch_tree.specs.Stage.{Stage}
use Rattle.solve_defs.specs.Plain.{Node, over, silent, with_node}
use Rattle.solve_defs.specs.declared.solving.Events.{Events}
use Rattle.branch_tree.specs.Findings.{turn_by}
use Rattle.branch_tree.specs.Stage.{Makes, turn_of}
use Rattle.branch_tree.specs.declared.done.Done.{Done}
use Rattle.branch_tree.specs.declared.finding.Finding.{Finding}
use Rattle.branch_tree.specs.declared.finding.Finding.TheVariants.{Halved, RisingRelaxed, TooWide}
use Rattle.branch_tree.specs.declared.step.Step.{Step}
use Rattle.branch_tree.specs.Counted.{IsCounted}
use Rattle.branch_tree.specs.declared.counts.Counts.{Counts}
use Rattle.solve_defs.specs.Plain.{no_events, node_event}
use Rattle.branch_tree.proofs.search.Search.finish.Goals as goal

pub returns-in-Halved-clause-turn : goal.returns-in-Halved-clause-turn
returns-in-Halved-clause-turn c =
    let now = c.args.self.now in
    let is : c.args.found ≡ Halved c.in-Halved.halves = search rules in
    subst (λ (f : Finding). IfOk c.halve.result (λ step. (node : Node) → now.search.node ≡ Some node → Makes (turn_by now.model now.params now.search node.cuts f) step now c.halve.new.self))
    (sym is) c.halve.ensures.turn

pub returns-in-RisingRelaxed-clause-turn : goal.returns-in-RisingRelaxed-clause-turn
returns-in-RisingRelaxed-clause-turn c = λ node h.
    let now = c.args.self.now in
    let s = now.search in
    let is : c.args.found ≡ RisingRelaxed = search rules in
    let w = c.with_node.ensures in
    let counted : IsCounted c.with_node.result (with_node s) = record { pivots = sym (ap (λ (k : Counts). k.pivots) w); nodes = sym (ap (λ (k : Counts). k.nodes) w); work = sym (ap (λ (k : Counts). k.work) w) } in
    let model : c.self.inside.model.model ≡ now.model = ap (λ (v : Stage). v.model) c.self.view_is in
    let told = c.events.ensures (with_node s) counted ∙ ap (λ (m : Model). record no_events { node = node_event m (with_node s) }) model in
    record {
      turn = ap₂ (λ (e : Events) (d : Done). record { events = e; progress = over d.outcome d.cert }) told c.at_root-in-RisingRelaxed.ensures
          ∙ ap (λ (f : Finding). turn_by now.model now.params s node.cuts f) (sym is);
      model = refl;
      params = refl;
    }

pub returns-in-TooWide-clause-turn : goal.returns-in-TooWide-clause-turn
returns-in-TooWide-clause-turn c = λ node h.
    let now = c.args.self.now in
    let is : c.args.found ≡ TooWide c.in-TooWide.wide c.in-TooWide.point = search rules in
    record {
      turn = ap (λ (t : Step). turn_of t c.too_wide.new.self.search) c.silent-in-TooWide.ensures
          ∙ ap silent (c.too_wide.ensures.done now.search)
          ∙ ap (λ (f : Finding). turn_by now.model now.params now.search node.cuts f) (sym is);
      model = c.too_wide.ensures.model;
      params = c.too_wide.ensures.params;
    }
