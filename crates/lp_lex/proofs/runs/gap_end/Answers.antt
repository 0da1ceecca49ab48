use Rattle.std.proofs.Common.{◌≡◌, sym, ◌∙◌, subst, arith, slice_index}
use Rattle.lp_defs.specs.declared.token.Place.{Place}
use Rattle.lp_defs.specs.Tokens.{part_after}
use Rattle.lp_lex.proofs.Gaps.{IsScanned, IsGap-at_end, comment_begins, comment_goes_on, part_of, scanned_on, white_goes_on}
use Rattle.lp_lex.proofs.runs.gap_end.Goals as goal
use Rattle.lp_lex.proofs.runs.gap_end.Goals.{then-in_comment, else-in_comment+then-byte-eq92, else-in_comment+else-byte-eq92+else-not-is_white}

pub loop-place-preserved : goal.loop-place-preserved
loop-place-preserved c =
    let byte = slice_index c.args.text.now c.loop-place.place.offset in
    let part : part_after (part_of c.loop-place.in_comment) byte ≡ part_of c.if-in_comment.in_comment =
    elim c.if-in_comment.branch [
      | then-in_comment w ↦ comment_goes_on byte _ _ w.if-in_comment.true w.in_comment-is
      | else-in_comment+then-byte-eq92 w ↦ comment_begins byte _ _ w.if-in_comment.false w.if-byte-eq92.true w.in_comment-is
      | else-in_comment+else-byte-eq92+else-not-is_white w ↦
          white_goes_on byte _ _ w.if-in_comment.false w.if-byte-eq92.false (sym w.is_white.ensures ∙ w.if-not-is_white.false) w.in_comment-is
    ] in
    let scanned = scanned_on c.args.text.now c.args.place c.loop-place.place c.loop-place.in_comment c.if-in_comment.in_comment c.loop-place.invariant (omega arith) part in
    subst (λ (p : Place). IsScanned c.args.text.now c.args.place p c.if-in_comment.in_comment) (sym c.behind_byte-place.ensures) scanned

pub returns-after-loop-place-clause-gap : goal.returns-after-loop-place-clause-gap
returns-after-loop-place-clause-gap c = IsGap-at_end c.args.text.now c.args.place c.loop-place.place c.loop-place.in_comment c.loop-place.invariant (omega arith)
