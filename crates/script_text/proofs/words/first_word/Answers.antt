use Rattle.std.proofs.Common.{◌≡◌, ◌<◌, length, sym, ap, ◌∙◌, arith}
use Rattle.std.proofs.lemmas.Bool.Decides.{nat_tests}
use Rattle.wire_text.specs.Line.{words_of}
use Rattle.wire_text.proofs.LineCuts.{nil_from_length, shorter-behind, words_of-behind, words_of-first}
use Rattle.script_text.proofs.words.first_word.Goals as goal

pub returns-then-is_empty-clause-words : goal.returns-then-is_empty-clause-words
returns-then-is_empty-clause-words c =
    let empty : length c.split_at.result.1.now ≡ 0 = grind (arith, nat_tests) in
    sym (words_of-behind _ _ c.run_len.ensures.run) ∙ ap words_of (sym c.split_at.ensures.back ∙ nil_from_length _ empty)

pub returns-clause-words : goal.returns-clause-words
returns-clause-words c =
    let some : 0 < length c.split_at.result.1.now = grind (arith, nat_tests) in
    rw (c.split_at-2.ensures.front, c.split_at-2.ensures.back) (words_of-first _ _ _ _ c.split_at.ensures.back c.run_len.ensures.run c.run_len.ensures.ended some c.run_len-2.ensures.run c.run_len-2.ensures.ended)

pub returns-clause-shorter : goal.returns-clause-shorter
returns-clause-shorter c =
    let some : 0 < length c.split_at.result.1.now = grind (arith, nat_tests) in
    rw c.split_at-2.ensures.back (shorter-behind _ _ _ _ c.split_at.ensures.back c.run_len.ensures.ended some c.run_len-2.ensures.ended)
