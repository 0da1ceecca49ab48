use Rattle.std.proofs.Common.{◌∙◌, ap, sym, List, option_map, false}
use Rattle.std.specs.List.{slice_get}
use Rattle.base_names.specs.declared.node.Waiter.{Waiter}
use Rattle.cluster_defs.specs.Cluster.{Waiting}
use Rattle.node_sched.specs.declared.turn.Turn.{Turn}
use Rattle.node_sched.specs.Schedule.{first_of}
use Rattle.node_sched.proofs.Turns.{first_in_range}
use Rattle.node_sched.proofs.waiting_list.WaitingList.first_ordinary.Goals as goal

pub returns-in-Some : goal.returns-in-Some
returns-in-Some c =
    sym (first_in_range c.self.inside.arrivals c.self.inside.entries.entries c.self.invariant.early ∙ ap (λ (l : List (Turn × Waiter)). option_map (λ (x : Turn × Waiter). x.1) (slice_get l 0)) (sym (c.range.ensures.between tt) ∙ c.in-Some.ensures.steps))
    ∙ ap (λ (l : List Waiting). option_map (λ (w : Waiting). w.waiter) (first_of false l)) c.self.view_is

pub returns-in-None : goal.returns-in-None
returns-in-None c =
    sym (first_in_range c.self.inside.arrivals c.self.inside.entries.entries c.self.invariant.early ∙ ap (λ (l : List (Turn × Waiter)). option_map (λ (x : Turn × Waiter). x.1) (slice_get l 0)) (sym (c.range.ensures.between tt) ∙ c.in-None.ensures.steps.0))
    ∙ ap (λ (l : List Waiting). option_map (λ (w : Waiting). w.waiter) (first_of false l)) c.self.view_is
