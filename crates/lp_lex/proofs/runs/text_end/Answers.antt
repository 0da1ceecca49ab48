use Rattle.std.proofs.Common.{sym, ◌∙◌, ap, subst, arith, slice_index}
use Rattle.lp_defs.specs.declared.token.Place.{Place}
use Rattle.lp_lex.specs.Ahead.{IsWithin, end_ahead}
use Rattle.lp_lex.proofs.Gaps.{end_on, end_reached, within_on}
use Rattle.lp_lex.proofs.runs.text_end.Goals as goal

pub loop-place-preserved : goal.loop-place-preserved
loop-place-preserved c =
    let text = c.args.text.now in
    let place = c.loop-place.place in
    let within = within_on text place (slice_index text place.offset) c.loop-place.invariant.within c.loop-place-test.true in
    record {
      within = subst (λ (p : Place). IsWithin text p) (sym c.behind_byte-place.ensures) within;
      same_end = ap (end_ahead text) c.behind_byte-place.ensures ∙ (end_on text place c.loop-place-test.true ∙ c.loop-place.invariant.same_end);
    }

pub returns : goal.returns
returns c = sym (end_reached c.args.text.now c.loop-place.place (omega arith)) ∙ c.loop-place.invariant.same_end
