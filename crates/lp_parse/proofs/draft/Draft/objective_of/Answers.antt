use Rattle.std.proofs.Common.{◌∙◌, ap}
use Rattle.lp_defs.specs.Draft.{Unfinished, objective_of_vars}
use Rattle.lp_parse.proofs.ObjectiveOf.{objective_found, objective_missing}
use Rattle.lp_parse.proofs.draft.Draft.objective_of.Goals as goal

pub returns-in-Some : goal.returns-in-Some
returns-in-Some c =
    objective_found c.self.invariant c.args.name.now c.in-Some.ensures.place c.in-Some.ensures.found c.index.ensures
    ∙ ap (λ (u : Unfinished). objective_of_vars c.args.name.now u.model.vars) c.self.view_is

pub returns-in-None : goal.returns-in-None
returns-in-None c =
    c.zero.ensures ∙ objective_missing c.self.invariant c.args.name.now c.in-None.ensures.found
    ∙ ap (λ (u : Unfinished). objective_of_vars c.args.name.now u.model.vars) c.self.view_is
