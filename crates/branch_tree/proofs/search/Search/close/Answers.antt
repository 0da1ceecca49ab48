use Rattle.std.proofs.Common.{◌≡◌, ◌∙◌, refl, sym, ap, subst, ◌<◌, Some, None, List, [], ◌∷◌, ◌++◌, drop, rules}
use Rattle.model_data.specs.declared.model.Model.{Model}
use Rattle.solve_defs.specs.declared.cut.Cut.{Cut}
use Rattle.branch_tree.specs.Stage.{Stage}
use Rattle.branch_tree.specs.Waits.{Open}
use Rattle.solve_defs.specs.StandardForm.{column_count, shapes_of}
use Rattle.solve_defs.specs.Plain.{Search, going, no_events, node_event, over, with_finished}
use Rattle.branch_tree.specs.Findings.{with_point}
use Rattle.branch_tree.specs.Next.{IsReady, kept, next_as, told_of}
use Rattle.branch_tree.specs.Under.{IsUnderWay}
use Rattle.branch_tree.specs.declared.finishing.Next.{Next}
use Rattle.branch_tree.specs.declared.finishing.Next.TheVariants.{Node as NextNode, Nothing, Stopped}
use Rattle.branch_tree.proofs.Finished.{counts_of, finish_is, next_is, same_end, same_finished, same_on, same_stop, waiting_is}
use Rattle.branch_tree.proofs.Underway.{closed_sound, run_of}
use Rattle.branch_tree.proofs.search.Search.close.Goals as goal

pub invariant_of-self-in-Node : goal.invariant_of-self-in-Node
invariant_of-self-in-Node c = λ x is.
    let i = c.self.inside in
    let now = c.args.self.now in
    let next_is : c.in_ok-next.next ≡ NextNode c.in-Node.cuts c.in-Node.run' = search rules in
    let ready = subst (λ (n : Next). IsReady c.with_node-counts.result now n) next_is c.in_ok-next.ensures.ready in
    let r = run_of i.run i.cases c.requires.0 (ap (λ (v : Stage). v.search.node) c.self.view_is ∙ c.requires.1) in
    let waits : i.cases.waiting ≡ c.in-Node.cuts.items ∷ drop 1 now.search.waiting = sym r.waits ∙ ap (λ (v : Stage). v.search.waiting) c.self.view_is ∙ ready.0 in
    let same : c.in-Node.run' ≡ x = cc in
    let model : now.model ≡ i.model.model = sym (ap (λ (v : Stage). v.model) c.self.view_is) in
    let columns = ready.2 ∙ ap (λ (m : Model). column_count (shapes_of m c.in-Node.cuts.items)) model in
    let limit : now.params.nodes ≡ i.params.nodes = sym (ap (λ (v : Stage). v.params.nodes) c.self.view_is) in
    subst (IsUnderWay i.model.model i.params.nodes c.with_node-counts.result.nodes c.begin_next.new.self) same
    (closed_sound i.model.model i.params.nodes i.counts.nodes c.with_node-counts.result.nodes i.cases c.begin_next.new.self c.in-Node.cuts.items (drop 1 now.search.waiting) r.of c.in-Node.run'
    (c.self.invariant r.of r.is) waits (c.begin_next.ensures (drop 1 now.search.waiting) waits) ready.1 columns (subst (λ n. c.with_node-counts.result.nodes < n) limit ready.3))

pub returns-in-Node-clause-turn : goal.returns-in-Node-clause-turn
returns-in-Node-clause-turn c =
    let i = c.self.inside in
    let now = c.args.self.now in
    let v = c.self.view_is in
    let s = now.search in
    let own = c.args.node in
    let point = c.args.point in
    let counts = c.with_node-counts.result in
    let counts_are : counts ≡ counts_of s = c.with_node-counts.ensures in
    let model : i.model.model ≡ now.model = ap (λ (w : Stage). w.model) v in
    let next : c.in_ok-next.next ≡ NextNode c.in-Node.cuts c.in-Node.run' = search rules in
    let ready = subst (λ (n : Next). IsReady counts now n) next c.in_ok-next.ensures.ready in
    let r = run_of i.run i.cases c.requires.0 (ap (λ (w : Stage). w.search.node) v ∙ c.requires.1) in
    let waits : i.cases.waiting ≡ c.in-Node.cuts.items ∷ drop 1 s.waiting = sym r.waits ∙ ap (λ (w : Stage). w.search.waiting) v ∙ ready.0 in
    let cases_are = c.begin_next.ensures (drop 1 s.waiting) waits in
    let best : c.keep.new.best ≡ kept point s.incumbent = c.keep.ensures ∙ ap (λ (w : Stage). kept point w.search.incumbent) v in
    let pushed : c.push.new.self.items ≡ i.tree.items ++ own ∷ [] = search rules in
    let tree : c.push.new.self.items ≡ s.tree ++ own ∷ [] = pushed ∙ ap (λ (w : Stage). w.search.tree ++ own ∷ []) v in
    let t = with_finished (with_point s point) own [] in
    let x : Search = record { pivots = counts.pivots; nodes = counts.nodes; work = counts.work; incumbent = c.keep.new.best; tree = c.push.new.self.items; waiting = c.begin_next.new.self.waiting; node = Some record { cuts = c.begin_next.new.self.own; dictionary = c.in-Node.run' } } in
    let same = same_finished x s own point [] counts counts_are refl refl refl best tree in
    let later : x.waiting ≡ drop 1 t.waiting = ap (λ (o : Open). o.waiting) cases_are ∙ ap (λ (w : List (List Cut)). drop 1 w) (sym (waiting_is s own point [])) in
    let node : x.node ≡ Some record { cuts = c.in-Node.cuts.items; dictionary = c.in-Node.run' } = ap (λ (o : Open). Some record { cuts = o.own; dictionary = c.in-Node.run' }) cases_are in
    let at : going x ≡ next_as t (NextNode c.in-Node.cuts c.in-Node.run') = ap going (same_on x t (drop 1 t.waiting) (Some record { cuts = c.in-Node.cuts.items; dictionary = c.in-Node.run' }) same later node) in
    record {
      turn = finish_is now.model now.params s own point [] counts c.events-events.result (going x) counts_are
          (λ u h. c.events-events.ensures u h ∙ ap (λ (m : Model). record no_events { sol = told_of m u point; node = node_event m u }) model)
          (at ∙ ap (next_as t) (sym next) ∙ next_is now.model now.params s own point counts c.in_ok-next.next counts_are c.in_ok-next.ensures.next);
      model = model;
      params = ap (λ (w : Stage). w.params) v;
    }

pub returns-in-Stopped-clause-turn : goal.returns-in-Stopped-clause-turn
returns-in-Stopped-clause-turn c =
    let i = c.self.inside in
    let now = c.args.self.now in
    let v = c.self.view_is in
    let s = now.search in
    let own = c.args.node in
    let point = c.args.point in
    let counts = c.with_node-counts.result in
    let counts_are : counts ≡ counts_of s = c.with_node-counts.ensures in
    let model : i.model.model ≡ now.model = ap (λ (w : Stage). w.model) v in
    let next : c.in_ok-next.next ≡ Stopped c.in-Stopped.stop = search rules in
    let best : c.keep.new.best ≡ kept point s.incumbent = c.keep.ensures ∙ ap (λ (w : Stage). kept point w.search.incumbent) v in
    let pushed : c.push.new.self.items ≡ i.tree.items ++ own ∷ [] = search rules in
    let tree : c.push.new.self.items ≡ s.tree ++ own ∷ [] = pushed ∙ ap (λ (w : Stage). w.search.tree ++ own ∷ []) v in
    let t = with_finished (with_point s point) own [] in
    let x : Search = record { pivots = counts.pivots; nodes = counts.nodes; work = counts.work; incumbent = c.keep.new.best; tree = c.push.new.self.items; waiting = [] ∷ []; node = None } in
    let same = same_finished x s own point [] counts counts_are refl refl refl best tree in
    let at : over c.stopped.result.outcome c.stopped.result.cert ≡ next_as t (Stopped c.in-Stopped.stop) = c.stopped.ensures.done x ∙ same_stop c.in-Stopped.stop x t same in
    record {
      turn = finish_is now.model now.params s own point [] counts c.events-events.result (over c.stopped.result.outcome c.stopped.result.cert) counts_are
          (λ u h. c.events-events.ensures u h ∙ ap (λ (m : Model). record no_events { sol = told_of m u point; node = node_event m u }) model)
          (at ∙ ap (next_as t) (sym next) ∙ next_is now.model now.params s own point counts c.in_ok-next.next counts_are c.in_ok-next.ensures.next);
      model = c.stopped.ensures.model ∙ model;
      params = c.stopped.ensures.params ∙ ap (λ (w : Stage). w.params) v;
    }

pub returns-in-Nothing-clause-turn : goal.returns-in-Nothing-clause-turn
returns-in-Nothing-clause-turn c =
    let i = c.self.inside in
    let now = c.args.self.now in
    let v = c.self.view_is in
    let s = now.search in
    let own = c.args.node in
    let point = c.args.point in
    let counts = c.with_node-counts.result in
    let counts_are : counts ≡ counts_of s = c.with_node-counts.ensures in
    let model : i.model.model ≡ now.model = ap (λ (w : Stage). w.model) v in
    let next : c.in_ok-next.next ≡ Nothing = search rules in
    let best : c.keep.new.best ≡ kept point s.incumbent = c.keep.ensures ∙ ap (λ (w : Stage). kept point w.search.incumbent) v in
    let pushed : c.push.new.self.items ≡ i.tree.items ++ own ∷ [] = search rules in
    let tree : c.push.new.self.items ≡ s.tree ++ own ∷ [] = pushed ∙ ap (λ (w : Stage). w.search.tree ++ own ∷ []) v in
    let t = with_finished (with_point s point) own [] in
    let x : Search = record { pivots = counts.pivots; nodes = counts.nodes; work = counts.work; incumbent = c.keep.new.best; tree = c.push.new.self.items; waiting = [] ∷ []; node = None } in
    let same = same_finished x s own point [] counts counts_are refl refl refl best tree in
    let at : over c.exhausted.result.outcome c.exhausted.result.cert ≡ next_as t Nothing = c.exhausted.ensures.done x ∙ same_end x t same in
    record {
      turn = finish_is now.model now.params s own point [] counts c.events-events.result (over c.exhausted.result.outcome c.exhausted.result.cert) counts_are
          (λ u h. c.events-events.ensures u h ∙ ap (λ (m : Model). record no_events { sol = told_of m u point; node = node_event m u }) model)
          (at ∙ ap (next_as t) (sym next) ∙ next_is now.model now.params s own point counts c.in_ok-next.next counts_are c.in_ok-next.ensures.next);
      model = c.exhausted.ensures.model ∙ model;
      params = c.exhausted.ensures.params ∙ ap (λ (w : Stage). w.params) v;
    }
