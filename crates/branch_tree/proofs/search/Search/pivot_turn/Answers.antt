use Rattle.std.proofs.Common.{◌≡◌, ◌∙◌, refl, sym, ap, subst, ℕ, ◌<◌, Option, Some, None, Result, Err, [], ◌∷◌, rules}
use Rattle.model_data.specs.declared.params.Params.{Params}
use Rattle.simplex_rule.specs.OnPath.{IsOnPath}
use Rattle.branch_tree.specs.Counted.{IsCounted}
use Rattle.branch_tree.specs.Stage.{Stage, turn_of}
use Rattle.branch_tree.specs.declared.counts.Stop.{Stop}
use Rattle.branch_tree.specs.declared.step.Step.{Step}
use Rattle.bland_rule.specs.Comes.{entering_of}
use Rattle.dictionary.specs.Dictionary.{Dictionary}
use Rattle.solve_defs.specs.Ends.{structural_count}
use Rattle.solve_defs.specs.Path.{a_pivot, coming}
use Rattle.solve_defs.specs.StandardForm.{column_count, shapes_of}
use Rattle.branch_tree.proofs.Relaxing.{pivot_columns}
use Rattle.solve_defs.specs.Plain.{Search, pivot_turn, silent}
use Rattle.branch_tree.specs.Counted.{behind_pivot, told}
use Rattle.branch_tree.proofs.Finished.{SameSoFar, same_stop}
use Rattle.branch_tree.proofs.Underway.{dictionary_is}
use Rattle.branch_tree.proofs.search.Search.pivot_turn.Goals as goal

pub invariant_of-self : goal.invariant_of-self
invariant_of-self c = λ x is.
    let i = c.self.inside in
    let same : c.pivot_turn.new.run ≡ x = cc in
    let found : i.run ≡ Some c.in-Some.run' = search rules in
    let u = c.self.invariant c.in-Some.run' found in
    let comes : coming c.in-Some.run' ≡ a_pivot (entering_of c.args.entering) = search rules in
    record {
      path = subst IsOnPath same c.in-Ok.ensures.path;
      columns = subst (λ (e : Dictionary). structural_count e ≡ column_count (shapes_of i.model.model i.cases.own)) same
          (pivot_columns c.in-Some.run' c.pivot_turn.new.run u.path record { entering = entering_of c.args.entering; comes = comes; gives = sym c.in-Ok.ensures.leads } ∙ u.columns);
      own = u.own;
      waiting = u.waiting;
      within = subst (λ n. n < i.params.nodes) (sym c.pivot_turn.ensures.nodes) u.within;
    }

pub returns-in-Err : goal.returns-in-Err
returns-in-Err c = λ node h.
    let i = c.self.inside in
    let now = c.args.self.now in
    let v = c.self.view_is in
    let s = now.search in
    let counts = c.pivot_turn.new.self in
    let stop = c.in-Err.stop in
    let found : i.run ≡ Some c.in-Some.run' = search rules in
    let is : c.pivot_turn.result ≡ Err stop = search rules in
    let dictionary = dictionary_is i.run i.cases node c.in-Some.run' (ap (λ (w : Stage). w.search.node) v ∙ h) found in
    let is_counted : IsCounted i.counts s = record { pivots = sym (ap (λ (w : Stage). w.search.pivots) v); nodes = sym (ap (λ (w : Stage). w.search.nodes) v); work = sym (ap (λ (w : Stage). w.search.work) v) } in
    let x = behind_pivot counts c.pivot_turn.new.run s node in
    let y : Search = record { pivots = counts.pivots; nodes = counts.nodes; work = counts.work; incumbent = i.incumbent; tree = i.tree.items; waiting = [] ∷ []; node = None } in
    let same : SameSoFar y x = record {
      pivots = refl;
      nodes = c.pivot_turn.ensures.nodes ∙ ap (λ (w : Stage). w.search.nodes) v;
      work = refl;
      incumbent = ap (λ (w : Stage). w.search.incumbent) v;
      tree = ap (λ (w : Stage). w.search.tree) v;
    } in
    record {
      turn = ap (λ (t : Step). turn_of t c.stopped.new.self.search) c.silent.ensures
          ∙ ap silent (c.stopped.ensures.done y ∙ same_stop stop y x same)
          ∙ ap (λ (r : Result (Option ℕ) Stop). told r x) (sym is)
          ∙ c.pivot_turn.ensures.turn s node is_counted dictionary
          ∙ ap (λ (p : Params). pivot_turn p s node (entering_of c.args.entering)) (ap (λ (w : Stage). w.params) v);
      model = c.stopped.ensures.model ∙ ap (λ (w : Stage). w.model) v;
      params = c.stopped.ensures.params ∙ ap (λ (w : Stage). w.params) v;
    }
