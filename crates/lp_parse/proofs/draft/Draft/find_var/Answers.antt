use Rattle.std.proofs.Common.{rules, ◌≡◌, sym, ap, ap₂, ◌∙◌, position, bytes_eq, unwrap_or, length}
use Rattle.model_data.specs.declared.model.Var.{Var}
use Rattle.lp_defs.specs.Draft.{Unfinished, var_place}
use Rattle.lp_parse.proofs.Known.{is_named, knows_var_shown}
use Rattle.lp_parse.proofs.Tables.{position-map, position_or_len-position}
use Rattle.lp_parse.proofs.draft.Draft.find_var.Goals as goal

pub returns-clause-place : goal.returns-clause-place
returns-clause-place c =
    let text = c.args.name.now in
    let place =
    c.place-place.ensures.place ∙ ap (position (bytes_eq text)) c.self.invariant.var_names_are
    ∙ position-map (λ (v : Var). v.name) (bytes_eq text) c.self.inside.vars.items in
    let len : c.len.result ≡ length c.self.inside.vars.items = search rules in
    c.unwrap_or.ensures ∙ ap₂ unwrap_or place len ∙ position_or_len-position (is_named text) c.self.inside.vars.items
    ∙ ap (λ (u : Unfinished). var_place text u.model) c.self.view_is

pub returns-clause-known : goal.returns-clause-known
returns-clause-known c =
    c.is_some.ensures ∙ c.place-place.ensures.found ∙ sym (knows_var_shown c.self.inside c.self.invariant c.self.view_is c.args.name.now)
