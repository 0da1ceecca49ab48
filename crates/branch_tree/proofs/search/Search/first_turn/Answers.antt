use Rattle.std.proofs.Common.{◌≡◌, ◌∙◌, refl, sym, ap, Some, Ok, Err, List, [], ◌∷◌, rules}
use Rattle.model_data.specs.declared.model.Model.{Model}
use Rattle.model_data.specs.declared.params.Params.{Params}
use Rattle.solve_defs.specs.declared.cut.Cut.{Cut}
use Rattle.branch_tree.specs.Counted.{IsCounted}
use Rattle.branch_tree.specs.Stage.{Stage, begun_as, turn_of}
use Rattle.branch_tree.specs.Waits.{Open}
use Rattle.branch_tree.specs.declared.step.Step.{Step}
use Rattle.solve_defs.specs.Plain.{Search, Turn, begun, silent}
use Rattle.solve_defs.specs.Path.{coming}
use Rattle.solve_defs.specs.Plain.{node_turn}
use Rattle.branch_tree.specs.Under.{node_of, waiting_of}
use Rattle.branch_tree.proofs.Turned.{turn_at_root, turn_before_root}
use Rattle.branch_tree.proofs.Underway.{fresh}
use Rattle.branch_tree.proofs.search.Search.first_turn.Goals as goal

pub returns-in-Ok-node_turn-clause-turn : goal.returns-in-Ok-node_turn-clause-turn
returns-in-Ok-node_turn-clause-turn c =
    let i = c.self.inside in
    let now = c.args.self.now in
    let v = c.self.view_is in
    let s = now.search in
    let run = c.in-Ok.run' in
    let root = c.root-root.result in
    let model : i.model.model ≡ now.model = ap (λ (w : Stage). w.model) v in
    let params : i.params ≡ now.params = ap (λ (w : Stage). w.params) v in
    let waits : s.waiting ≡ [] ∷ [] = sym (ap (λ (w : Stage). w.search.waiting) v) ∙ fresh i.run i.cases (ap (λ (w : Stage). w.search.node) v ∙ c.requires) in
    let cuts : c.own.result.now.items ≡ [] = search rules in
    let run_is : c.in_ok-run.field-0 ≡ Ok run = search rules in
    let is_counted : IsCounted i.counts s = record { pivots = sym (ap (λ (w : Stage). w.search.pivots) v); nodes = sym (ap (λ (w : Stage). w.search.nodes) v); work = sym (ap (λ (w : Stage). w.search.work) v) } in
    let law : begun_as s c.own.result.now.items [] c.in_ok-run.field-0 ≡ begun now.model now.params s (c.own.result.now.items ∷ []) = c.in_ok-run.ensures.begun s [] is_counted in
    let begins : begun_as s [] [] (Ok run) ≡ begun now.model now.params s ([] ∷ []) =
    ap (begun_as s [] []) (sym run_is) ∙ ap (λ (cs : List Cut). begun_as s cs [] c.in_ok-run.field-0) (sym cuts) ∙ law ∙ ap (λ (cs : List Cut). begun now.model now.params s (cs ∷ [])) cuts in
    let make : Model → Params → Search → Open → Turn = λ m p t o. node_turn m p (record t { waiting = o.waiting; node = Some record { cuts = o.own; dictionary = run } }) (record { cuts = o.own; dictionary = run }) (coming run) in
    let t : Search = record { pivots = i.counts.pivots; nodes = i.counts.nodes; work = i.counts.work; incumbent = i.incumbent; tree = i.tree.items; waiting = waiting_of i.run i.cases; node = node_of i.run i.cases } in
    let turned = c.in-Ok-node_turn.ensures.turn (record { cuts = root.own; dictionary = run }) refl in
    record {
      turn = turned.turn
          ∙ ap (λ (w : Stage). make w.model w.params w.search root) v
          ∙ ap (make now.model now.params s) c.root-root.ensures
          ∙ turn_at_root now.model now.params s run c.requires waits begins;
      model = turned.model ∙ model;
      params = turned.params ∙ params;
    }

pub returns-in-Err-clause-turn : goal.returns-in-Err-clause-turn
returns-in-Err-clause-turn c =
    let i = c.self.inside in
    let now = c.args.self.now in
    let v = c.self.view_is in
    let s = now.search in
    let stop = c.in-Err.stop in
    let waits : s.waiting ≡ [] ∷ [] = sym (ap (λ (w : Stage). w.search.waiting) v) ∙ fresh i.run i.cases (ap (λ (w : Stage). w.search.node) v ∙ c.requires) in
    let cuts : c.own.result.now.items ≡ [] = search rules in
    let run_is : c.in_ok-run.field-0 ≡ Err stop = search rules in
    let is_counted : IsCounted i.counts s = record { pivots = sym (ap (λ (w : Stage). w.search.pivots) v); nodes = sym (ap (λ (w : Stage). w.search.nodes) v); work = sym (ap (λ (w : Stage). w.search.work) v) } in
    let law : begun_as s c.own.result.now.items [] c.in_ok-run.field-0 ≡ begun now.model now.params s (c.own.result.now.items ∷ []) = c.in_ok-run.ensures.begun s [] is_counted in
    let ends : begun_as s [] [] (Err stop) ≡ begun now.model now.params s ([] ∷ []) =
    ap (begun_as s [] []) (sym run_is) ∙ ap (λ (cs : List Cut). begun_as s cs [] c.in_ok-run.field-0) (sym cuts) ∙ law ∙ ap (λ (cs : List Cut). begun now.model now.params s (cs ∷ [])) cuts in
    record {
      turn = ap (λ (t : Step). turn_of t c.stopped.new.self.search) c.silent.ensures
          ∙ ap silent (c.stopped.ensures.done s)
          ∙ turn_before_root now.model now.params s stop c.requires waits ends;
      model = c.stopped.ensures.model;
      params = c.stopped.ensures.params;
    }
