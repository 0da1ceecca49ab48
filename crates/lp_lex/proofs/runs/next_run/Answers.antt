use Rattle.std.proofs.Common.{◌≡◌, sym, ◌∙◌, ap, subst, arith, List, ℕ, length, drop, take_while, ◌<◌}
use Rattle.std.proofs.lemmas.Grind.{common_steps}
use Rattle.std.proofs.lemmas.List.Folds.{length-prefix_len}
use Rattle.lp_defs.specs.Tokens.{is_run_byte}
use Rattle.lp_lex.specs.Ahead.{IsNext}
use Rattle.lp_lex.proofs.RunsAhead.{IsNext-behind_gap, none-behind_gap, slice_to_end}
use Rattle.lp_lex.proofs.runs.next_run.Goals as goal

pub returns-then-is_empty-clause-none : goal.returns-then-is_empty-clause-none
returns-then-is_empty-clause-none c =
    let same = c.front_run-is_simple.ensures.run ∙ ap (take_while is_run_byte) (slice_to_end c.args.text.now c.gap_end-place.result.offset) in
    let none : length c.front_run-is_simple.result.0.now ≡ 0 = grind (arith, common_steps) in
    none-behind_gap c.args.text.now c.args.place c.gap_end-place.result c.gap_end-place.ensures.gap c.gap_end-place.ensures.stop (ap length (sym same) ∙ none)

pub returns-clause-some : goal.returns-clause-some
returns-clause-some c =
    let same = c.front_run-is_simple.ensures.run ∙ ap (take_while is_run_byte) (slice_to_end c.args.text.now c.gap_end-place.result.offset) in
    let some : 0 < length c.front_run-is_simple.result.0.now = grind (arith, common_steps) in
    let bytes = drop c.gap_end-place.result.offset c.args.text.now in
    let len = length-prefix_len is_run_byte bytes in
    let counted = ap length same in
    let next = IsNext-behind_gap c.args.text.now c.args.place c.gap_end-place.result c.gap_end-place.ensures.gap (omega arith) in
    subst (λ (bs : List ℕ). IsNext c.args.text.now c.args.place (record { place = c.gap_end-place.result; bytes = bs })) (sym same) next
