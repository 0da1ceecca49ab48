use Rattle.std.proofs.Common.{refl, ◌+◌, ap, sym, ◌∙◌, List, length, nat_le, Ok, string_bytes}
use Rattle.model_data.specs.Lawful.{term_count}
use Rattle.model_data.specs.declared.limits.TheConstants.{MAX_TERMS}
use Rattle.model_data.specs.declared.model.Term.{Term}
use Rattle.lp_defs.specs.Draft.{OpenRow, Unfinished, coefficient_in, with_coefficient}
use Rattle.lp_parse.specs.Meaning.{summand_of}
use Rattle.lp_parse.proofs.AddedTerm.{term_refused, term_told}
use Rattle.lp_parse.proofs.draft.Draft.add_to_row.Goals as goal

pub returns-then-not-has_room_for_term : goal.returns-then-not-has_room_for_term
returns-then-not-has_room_for_term c =
    let u = c.args.self.now in
    let read =
    c.coefficient-so_far.ensures
    ∙ ap (coefficient_in c.find_var-var.result.0) (ap (λ (u : Unfinished). u.row.terms) c.self.view_is) in
    let row : OpenRow = record { title = u.row.title; terms = with_coefficient c.find_var-var.result.0 c.in_ok-sum.sum c.mention_if_new.new.self.row.terms } in
    let terms = ap (λ (row : OpenRow). with_coefficient c.find_var-var.result.0 c.in_ok-sum.sum row.terms) c.in_ok-mention_if_new.ensures.row in
    rw c.fault.ensures (
    term_refused (summand_of c.args.term.now) u {row = row} c.find_var-var.ensures.place read c.in_ok-sum.ensures c.in_ok-mention_if_new.ensures.model refl terms
    (sym c.has_room_for_term.ensures ∙ c.if-not-has_room_for_term.true))

pub returns : goal.returns
returns c =
    let u = c.args.self.now in
    let read =
    c.coefficient-so_far.ensures
    ∙ ap (coefficient_in c.find_var-var.result.0) (ap (λ (u : Unfinished). u.row.terms) c.self.view_is) in
    let shown = c.self-2.view_is in
    let row : OpenRow = record { title = string_bytes c.self-2.inside.title; terms = c.set_coefficient.new.self } in
    let title = ap (λ (u : Unfinished). u.row.title) shown ∙ ap (λ (row : OpenRow). row.title) c.in_ok-mention_if_new.ensures.row in
    let set = c.in_ok-set_coefficient.ensures.ok ∙ ap (λ (u : Unfinished). with_coefficient c.find_var-var.result.0 c.in_ok-sum.sum u.row.terms) shown in
    let terms = set ∙ ap (λ (row : OpenRow). with_coefficient c.find_var-var.result.0 c.in_ok-sum.sum row.terms) c.in_ok-mention_if_new.ensures.row in
    let room = ap (λ (l : List Term). nat_le (term_count c.mention_if_new.new.self.model + length l) MAX_TERMS) set
    ∙ sym c.has_room_for_term.ensures ∙ c.if-not-has_room_for_term.false in
    term_told (summand_of c.args.term.now) u {row = row} c.find_var-var.ensures.place read c.in_ok-sum.ensures c.in_ok-mention_if_new.ensures.model title terms room
    ∙ ap (λ (u : Unfinished). Ok (record { model = u.model; row = row })) (sym shown)
