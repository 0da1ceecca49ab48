use Rattle.std.proofs.Common.{rules, ◌≡◌, ◌+◌, sym, ap, subst, ◌∙◌, ℕ, List, [], ◌∷◌, ◌++◌, length}
use Rattle.model_data.specs.declared.model.Row.{Row}
use Rattle.model_data.specs.declared.model.Term.{Term}
use Rattle.lp_parse.specs.Draft.{IsSound, with_name}
use Rattle.lp_parse.proofs.Grown.{sound_row}
use Rattle.lp_parse.proofs.draft.Draft.close_row.Goals as goal

pub invariant_of-self : goal.invariant_of-self
invariant_of-self c =
    let draft = c.self.inside in
    subst (λ (l : List Term). IsSound draft.vars.items draft.var_names draft.rows.items draft.row_names draft.closed_terms l)
    (sym c.in_err-terms.ensures.unchanged) c.self.invariant

pub invariant_of-self-2 : goal.invariant_of-self-2
invariant_of-self-2 c =
    let draft = c.self.inside in
    let r : Row = record { name = c.of.result; sense = c.args.sense; rhs = c.args.rhs; terms = c.of-2.result } in
    let title : c.as_str.result.now ≡ r.name = search rules in
    let count : length draft.terms ≡ c.len.result = search rules in
    let rows = c.push_reserved.new.self.items in
    let left = c.take.new.self in
    subst (λ (n : ℕ). IsSound draft.vars.items draft.var_names rows c.add.new.self (draft.closed_terms + n) left) count
    (sound_row c.self.invariant r rows c.add.new.self left
    (c.push_reserved.ensures.items ∙ ap (λ (l : List Row). l ++ r ∷ []) c.reserve.ensures.items)
    (c.in_ok-add.ensures.ok ∙ ap (with_name draft.row_names) title)
    (search rules)
    (search rules))
