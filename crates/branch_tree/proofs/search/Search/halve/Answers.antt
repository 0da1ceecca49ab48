use Rattle.std.proofs.Common.{◌≡◌, ◌∙◌, refl, sym, ap, ap₂, subst, ◌<◌, suc, Some, None, Ok, Err, List, [], ◌∷◌, ◌++◌, length, rules}
use Rattle.model_data.specs.declared.model.Model.{Model}
use Rattle.model_data.specs.declared.params.Params.{Params}
use Rattle.solve_defs.specs.declared.cut.Cut.{Cut}
use Rattle.std_form.specs.Cuts.{IsCutOf}
use Rattle.simplex_rule.specs.OnPath.{IsOnPath}
use Rattle.branch_tree.specs.Stage.{Stage, begun_as}
use Rattle.branch_tree.specs.Waits.{Open}
use Rattle.model_data.specs.declared.solution.CertNode.{CertNode}
use Rattle.model_data.specs.declared.solution.CertNode.TheVariants.{Split as SplitNode}
use Rattle.solve_defs.specs.Ends.{structural_count}
use Rattle.solve_defs.specs.StandardForm.{column_count, shapes_of}
use Rattle.solve_defs.specs.Plain.{Node, Search, begun, finish, going, next_node, over, with_finished}
use Rattle.branch_tree.specs.Findings.{high_cut, low_cut}
use Rattle.branch_tree.specs.Under.{IsUnderWay}
use Rattle.branch_tree.proofs.Finished.{counted, counts_of, finish_is, same_finished, same_on, same_stop}
use Rattle.branch_tree.proofs.Underway.{halved_sound, part_cuts, run_of, under_way}
use Rattle.branch_tree.proofs.search.Search.halve.Goals as goal

pub ready-requires : goal.ready-requires
ready-requires c =
    let i = c.self.inside in
    let n = ap (λ (v : Stage). v.search.node) c.self.view_is ∙ c.requires.node.1 in
    let u = under_way i.model.model i.params.nodes i.counts.nodes i.cases i.run c.requires.node.0 c.self.invariant n in
    let cuts : c.in_ok-cuts.cuts.items ≡ i.cases.own ++ low_cut c.args.halves ∷ [] = search rules in
    let model : c.args.self.now.model ≡ i.model.model = sym (ap (λ (v : Stage). v.model) c.self.view_is) in
    let low = subst (λ (m : Model). IsCutOf (length m.vars) (low_cut c.args.halves)) model c.requires.cuts.0 in
    part_cuts (IsCutOf (length i.model.model.vars)) i.cases.own c.in_ok-cuts.cuts.items (low_cut c.args.halves) cuts u.1.own low

pub invariant_of-self-in_err-begin_part : goal.invariant_of-self-in_err-begin_part
invariant_of-self-in_err-begin_part c = λ x is.
    let i = c.self.inside in
    let same : c.begin_part.new.self ≡ i.cases = search rules in
    subst (λ (o : Open). IsUnderWay i.model.model i.params.nodes i.counts.nodes o x) (sym same) (c.self.invariant x is)

pub invariant_of-self-in-Ok : goal.invariant_of-self-in-Ok
invariant_of-self-in-Ok c = λ x is.
    let i = c.self.inside in
    let n = ap (λ (v : Stage). v.search.node) c.self.view_is ∙ c.requires.node.1 in
    let u = under_way i.model.model i.params.nodes i.counts.nodes i.cases i.run c.requires.node.0 c.self.invariant n in
    let cuts : c.in_ok-cuts.cuts.items ≡ i.cases.own ++ low_cut c.args.halves ∷ [] = search rules in
    let model : c.args.self.now.model ≡ i.model.model = sym (ap (λ (v : Stage). v.model) c.self.view_is) in
    let low = subst (λ (m : Model). IsCutOf (length m.vars) (low_cut c.args.halves)) model c.requires.cuts.0 in
    let high = subst (λ (m : Model). IsCutOf (length m.vars) (high_cut c.args.halves)) model c.requires.cuts.1 in
    let cases_are : c.begin_part.new.self ≡ record { own = c.in_ok-cuts.cuts.items; waiting = (i.cases.own ++ high_cut c.args.halves ∷ []) ∷ i.cases.waiting } = search rules in
    let path : IsOnPath c.in-Ok.run' = search rules in
    let columns : structural_count c.in-Ok.run' ≡ column_count (shapes_of i.model.model c.in_ok-cuts.cuts.items) = search rules in
    let within : c.with_node-counts.result.nodes < i.params.nodes = search rules in
    let same : c.in-Ok.run' ≡ x = cc in
    subst (IsUnderWay i.model.model i.params.nodes c.with_node-counts.result.nodes c.begin_part.new.self) same
    (halved_sound i.model.model i.params.nodes i.counts.nodes c.with_node-counts.result.nodes i.cases c.begin_part.new.self c.in_ok-cuts.cuts.items (low_cut c.args.halves) (high_cut c.args.halves) u.0 c.in-Ok.run'
    u.1 cuts low high cases_are path columns within)

pub returns-in-Ok-clause-turn : goal.returns-in-Ok-clause-turn
returns-in-Ok-clause-turn c = λ node h.
    let i = c.self.inside in
    let now = c.args.self.now in
    let v = c.self.view_is in
    let s = now.search in
    let halves = c.args.halves in
    let own : CertNode = SplitNode (suc halves.place) halves.most in
    let low_cuts = node.cuts ++ low_cut halves ∷ [] in
    let high_cuts = node.cuts ++ high_cut halves ∷ [] in
    let below : List (List Cut) = low_cuts ∷ high_cuts ∷ [] in
    let later : List (List Cut) = high_cuts ∷ s.waiting in
    let counts = c.with_node-counts.result in
    let counts_are : counts ≡ counts_of s = c.with_node-counts.ensures in
    let model : i.model.model ≡ now.model = ap (λ (w : Stage). w.model) v in
    let params : i.params ≡ now.params = ap (λ (w : Stage). w.params) v in
    let r = run_of i.run i.cases node (ap (λ (w : Stage). w.search.node) v ∙ h) in
    let own_cuts : i.cases.own ≡ node.cuts = ap (λ (n : Node). n.cuts) r.node_is in
    let waits : i.cases.waiting ≡ s.waiting = sym r.waits ∙ ap (λ (w : Stage). w.search.waiting) v in
    let part : c.in_ok-cuts.cuts.items ≡ i.cases.own ++ low_cut halves ∷ [] = search rules in
    let cuts : c.in_ok-cuts.cuts.items ≡ low_cuts = part ∙ ap (λ (o : List Cut). o ++ low_cut halves ∷ []) own_cuts in
    let cases_are : c.begin_part.new.self ≡ record { own = c.in_ok-cuts.cuts.items; waiting = (i.cases.own ++ high_cut halves ∷ []) ∷ i.cases.waiting } = search rules in
    let run_is : c.in_ok-run.run' ≡ Ok c.in-Ok.run' = search rules in
    let pushed : c.push_reserved.new.self.items ≡ i.tree.items ++ own ∷ [] = search rules in
    let tree : c.push_reserved.new.self.items ≡ s.tree ++ own ∷ [] = pushed ∙ ap (λ (w : Stage). w.search.tree ++ own ∷ []) v in
    let t = with_finished s own below in
    let x : Search = record { pivots = counts.pivots; nodes = counts.nodes; work = counts.work; incumbent = i.incumbent; tree = c.push_reserved.new.self.items; waiting = c.begin_part.new.self.waiting; node = Some record { cuts = c.begin_part.new.self.own; dictionary = c.in-Ok.run' } } in
    let same = same_finished x s own None below counts counts_are refl refl refl (ap (λ (w : Stage). w.search.incumbent) v) tree in
    let later_is : x.waiting ≡ later = ap (λ (o : Open). o.waiting) cases_are ∙ ap₂ (λ (o : List Cut) (w : List (List Cut)). (o ++ high_cut halves ∷ []) ∷ w) own_cuts waits in
    let node_is : x.node ≡ Some record { cuts = c.in_ok-cuts.cuts.items; dictionary = c.in-Ok.run' } = ap (λ (o : Open). Some record { cuts = o.own; dictionary = c.in-Ok.run' }) cases_are in
    let at : going x ≡ begun_as t c.in_ok-cuts.cuts.items later (Ok c.in-Ok.run') = ap going (same_on x t later (Some record { cuts = c.in_ok-cuts.cuts.items; dictionary = c.in-Ok.run' }) same later_is node_is) in
    let law : begun_as t c.in_ok-cuts.cuts.items later c.in_ok-run.run' ≡ begun i.model.model i.params t (c.in_ok-cuts.cuts.items ∷ later) = c.in_ok-run.ensures.begun t later (counted s own None below counts counts_are) in
    let next : going x ≡ next_node i.model.model i.params t =
    at ∙ ap (begun_as t c.in_ok-cuts.cuts.items later) (sym run_is) ∙ law ∙ ap (λ (cs : List Cut). begun i.model.model i.params t (cs ∷ later)) cuts in
    record {
      turn = finish_is i.model.model i.params s own None below counts c.events-events.result (going x) counts_are c.events-events.ensures next
          ∙ ap (λ (m : Model). finish m i.params t None) model ∙ ap (λ (p : Params). finish now.model p t None) params;
      model = model;
      params = params;
    }

pub returns-in-Err-clause-turn : goal.returns-in-Err-clause-turn
returns-in-Err-clause-turn c = λ node h.
    let i = c.self.inside in
    let now = c.args.self.now in
    let v = c.self.view_is in
    let s = now.search in
    let halves = c.args.halves in
    let own : CertNode = SplitNode (suc halves.place) halves.most in
    let low_cuts = node.cuts ++ low_cut halves ∷ [] in
    let high_cuts = node.cuts ++ high_cut halves ∷ [] in
    let below : List (List Cut) = low_cuts ∷ high_cuts ∷ [] in
    let later : List (List Cut) = high_cuts ∷ s.waiting in
    let counts = c.with_node-counts.result in
    let counts_are : counts ≡ counts_of s = c.with_node-counts.ensures in
    let model : i.model.model ≡ now.model = ap (λ (w : Stage). w.model) v in
    let params : i.params ≡ now.params = ap (λ (w : Stage). w.params) v in
    let r = run_of i.run i.cases node (ap (λ (w : Stage). w.search.node) v ∙ h) in
    let own_cuts : i.cases.own ≡ node.cuts = ap (λ (n : Node). n.cuts) r.node_is in
    let part : c.in_ok-cuts.cuts.items ≡ i.cases.own ++ low_cut halves ∷ [] = search rules in
    let cuts : c.in_ok-cuts.cuts.items ≡ low_cuts = part ∙ ap (λ (o : List Cut). o ++ low_cut halves ∷ []) own_cuts in
    let run_is : c.in_ok-run.run' ≡ Err c.in-Err.stop = search rules in
    let pushed : c.push_reserved.new.self.items ≡ i.tree.items ++ own ∷ [] = search rules in
    let tree : c.push_reserved.new.self.items ≡ s.tree ++ own ∷ [] = pushed ∙ ap (λ (w : Stage). w.search.tree ++ own ∷ []) v in
    let t = with_finished s own below in
    let x : Search = record { pivots = counts.pivots; nodes = counts.nodes; work = counts.work; incumbent = i.incumbent; tree = c.push_reserved.new.self.items; waiting = [] ∷ []; node = None } in
    let same = same_finished x s own None below counts counts_are refl refl refl (ap (λ (w : Stage). w.search.incumbent) v) tree in
    let done = over c.stopped.result.outcome c.stopped.result.cert in
    let at : done ≡ begun_as t c.in_ok-cuts.cuts.items later (Err c.in-Err.stop) = c.stopped.ensures.done x ∙ same_stop c.in-Err.stop x t same in
    let law : begun_as t c.in_ok-cuts.cuts.items later c.in_ok-run.run' ≡ begun i.model.model i.params t (c.in_ok-cuts.cuts.items ∷ later) = c.in_ok-run.ensures.begun t later (counted s own None below counts counts_are) in
    let next : done ≡ next_node i.model.model i.params t =
    at ∙ ap (begun_as t c.in_ok-cuts.cuts.items later) (sym run_is) ∙ law ∙ ap (λ (cs : List Cut). begun i.model.model i.params t (cs ∷ later)) cuts in
    record {
      turn = finish_is i.model.model i.params s own None below counts c.events-events.result done counts_are c.events-events.ensures next
          ∙ ap (λ (m : Model). finish m i.params t None) model ∙ ap (λ (p : Params). finish now.model p t None) params;
      model = c.stopped.ensures.model ∙ model;
      params = c.stopped.ensures.params ∙ params;
    }
