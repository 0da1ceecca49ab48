use Rattle.std.proofs.Common.{◌≡◌, sym, ◌∙◌, ap, arith, length}
use Rattle.std.proofs.lemmas.Bool.{le-leb, lt-ltb}
use Rattle.model_data.specs.Lawful.{term_count}
use Rattle.lp_defs.specs.Draft.{Unfinished}
use Rattle.lp_parse.proofs.Coefficients.{length_with}
use Rattle.lp_parse.proofs.draft.Draft.has_room_for_term.Goals as goal

pub returns-then-self-len-lt-MAX_TERMS : goal.returns-then-self-len-lt-MAX_TERMS
returns-then-self-len-lt-MAX_TERMS c =
    let u = c.args.self.now in
    let closed : c.self.inside.closed_terms ≡ term_count u.model = c.self.invariant.counted ∙ ap (λ (u : Unfinished). term_count u.model) c.self.view_is in
    let open_terms : c.len.result ≡ length u.row.terms = c.len.ensures ∙ ap (λ (u : Unfinished). length u.row.terms) c.self.view_is in
    let most = length_with c.args.var c.args.coef.now u.row.terms in
    let room = c.if-self-len-lt-MAX_TERMS.true in
    lt-ltb _ _ (omega (arith, room)) ∙ sym (le-leb _ _ (omega (arith, closed, open_terms, most, room)))
