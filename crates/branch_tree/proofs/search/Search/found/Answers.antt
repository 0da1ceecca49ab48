use Rattle.std.proofs.Common.{◌≡◌, ◌∙◌, sym, ap, subst, Some, List, All, length, rules}
use Rattle.solve_defs.specs.Ends.{structural_count}
use Rattle.solve_defs.specs.StandardForm.{column_count, shapes_of}
use Rattle.solve_defs.specs.declared.cut.Cut.{Cut}
use Rattle.std_form.specs.Cuts.{IsCutOf}
use Rattle.branch_tree.proofs.search.Search.found.Goals as goal

pub best-requires-clause-cuts : goal.best-requires-clause-cuts
best-requires-clause-cuts c =
    let found : c.self.inside.run ≡ Some c.in-Some.run' = search rules in
    let u = c.self.invariant c.in-Some.run' found in
    subst (All (IsCutOf (length c.self.inside.model.model.vars))) (sym c.own-cuts.ensures) u.own

pub best-requires-clause-columns : goal.best-requires-clause-columns
best-requires-clause-columns c =
    let found : c.self.inside.run ≡ Some c.in-Some.run' = search rules in
    let u = c.self.invariant c.in-Some.run' found in
    ap structural_count c.tableau-t.ensures ∙ u.columns ∙ ap (λ (cs : List Cut). column_count (shapes_of c.self.inside.model.model cs)) (sym c.own-cuts.ensures)

pub pointless-requires-clause-cuts : goal.pointless-requires-clause-cuts
pointless-requires-clause-cuts c =
    let found : c.self.inside.run ≡ Some c.in-Some.run' = search rules in
    let u = c.self.invariant c.in-Some.run' found in
    subst (All (IsCutOf (length c.self.inside.model.model.vars))) (sym c.own-cuts.ensures) u.own

pub unbounded-requires-clause-cuts : goal.unbounded-requires-clause-cuts
unbounded-requires-clause-cuts c =
    let found : c.self.inside.run ≡ Some c.in-Some.run' = search rules in
    let u = c.self.invariant c.in-Some.run' found in
    subst (All (IsCutOf (length c.self.inside.model.model.vars))) (sym c.own-cuts.ensures) u.own

pub unbounded-requires-clause-columns : goal.unbounded-requires-clause-columns
unbounded-requires-clause-columns c =
    let found : c.self.inside.run ≡ Some c.in-Some.run' = search rules in
    let u = c.self.invariant c.in-Some.run' found in
    ap structural_count c.tableau-t.ensures ∙ u.columns ∙ ap (λ (cs : List Cut). column_count (shapes_of c.self.inside.model.model cs)) (sym c.own-cuts.ensures)
