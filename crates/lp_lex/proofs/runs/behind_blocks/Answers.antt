use Rattle.std.proofs.Common.{arith, sym, ◌∙◌}
use Rattle.lp_lex.proofs.Blocks.{passed_block}
use Rattle.lp_lex.proofs.runs.behind_blocks.Goals as goal

pub loop-len-preserved : goal.loop-len-preserved
loop-len-preserved c =
    let room = c.loop-len-test.true in
    passed_block c.args.bytes.now c.loop-len.len 32 c.loop-len.invariant (omega (arith, room)) (sym c.are_simple.ensures ∙ c.if-are_simple.true)
