use Rattle.std.proofs.Common.{◌≡◌, ◌∙◌, ap, ℕ, Some}
use Rattle.branch_tree.specs.Stage.{Stage}
use Rattle.solve_defs.specs.Plain.{Search}
use Rattle.solve_defs.specs.declared.status.TheConstants.{NUMERIC}
use Rattle.branch_tree.specs.Counted.{stopped_by}
use Rattle.branch_tree.specs.Findings.{with_point}
use Rattle.branch_tree.specs.Next.{kept}
use Rattle.branch_tree.specs.Under.{node_of, waiting_of}
use Rattle.branch_tree.specs.declared.counts.Stop.{Stop}
use Rattle.branch_tree.proofs.Finished.{same_kept, same_stop}
use Rattle.branch_tree.proofs.search.Search.too_wide.Goals as goal

pub returns-clause-done : goal.returns-clause-done
returns-clause-done c = λ q.
    let i = c.self.inside in
    let s = c.args.self.now.search in
    let v = c.self.view_is in
    let x : Search = record { pivots = i.counts.pivots; nodes = i.counts.nodes; work = i.counts.work; incumbent = c.keep.new.best; tree = i.tree.items; waiting = waiting_of i.run i.cases; node = node_of i.run i.cases } in
    let at : ℕ → Stop = λ n. record { status = NUMERIC; wide = Some record { at = n; wide = c.args.wide } } in
    let pivots : i.counts.pivots ≡ s.pivots = ap (λ (w : Stage). w.search.pivots) v in
    let best : c.keep.new.best ≡ kept c.args.point s.incumbent = c.keep.ensures ∙ ap (λ (w : Stage). kept c.args.point w.search.incumbent) v in
    let same = same_kept x s c.args.point pivots (ap (λ (w : Stage). w.search.nodes) v) (ap (λ (w : Stage). w.search.work) v) best (ap (λ (w : Stage). w.search.tree) v) in
    c.stopped.ensures.done q
    ∙ ap (λ (stop : Stop). stopped_by stop x) c.refused-stop.ensures
    ∙ ap (λ n. stopped_by (at n) x) pivots
    ∙ same_stop (at s.pivots) x (with_point s c.args.point) same
