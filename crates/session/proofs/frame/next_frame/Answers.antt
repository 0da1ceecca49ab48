use Rattle.std.proofs.Common.{ℕ, Option, ap, arith, ◌∙◌}
use Rattle.std.specs.Prelude.{unwrap_or}
use Rattle.std.proofs.lemmas.Result.{err_from_is_err_and}
use Rattle.session.proofs.FrameSteps.{line_says, end_without_line, long_without_line, fault_without_line, no_memory_without_line, frame_of_block, end_of_block, long_of_block, fault_of_block, no_memory_of_block}
use Rattle.session.proofs.frame.next_frame.Goals as goal

pub returns-in_err-line-clause-reads : goal.returns-in_err-line-clause-reads
returns-in_err-line-clause-reads g c =
    let says = line_says g.B.Blocks.wants _ c.args.reader.now c.line.new.self _ _ c.in_err-line.ensures.again c.in_err-line.ensures.line in
    let fails = err_from_is_err_and c.from_residual.result c.from_residual.ensures.1 in
    rw fails.1 (no_memory_without_line g.B.Blocks.wants _ _ _ _ fails.0 says)

pub returns-in-End-clause-reads : goal.returns-in-End-clause-reads
returns-in-End-clause-reads g c =
    let says = rw c.in-End.is at (line_says g.B.Blocks.wants _ c.args.reader.now c.line.new.self _ _ c.in_ok-line.ensures.again c.in_ok-line.ensures.line) in
    end_without_line g.B.Blocks.wants _ _ _ _ says

pub returns-in-TooLong-clause-reads : goal.returns-in-TooLong-clause-reads
returns-in-TooLong-clause-reads g c =
    let says = rw c.in-TooLong.is at (line_says g.B.Blocks.wants _ c.args.reader.now c.line.new.self _ _ c.in_ok-line.ensures.again c.in_ok-line.ensures.line) in
    long_without_line g.B.Blocks.wants _ _ _ _ says

pub returns-in-ReadFault-clause-reads : goal.returns-in-ReadFault-clause-reads
returns-in-ReadFault-clause-reads g c =
    let says = rw c.in-ReadFault.is at (line_says g.B.Blocks.wants _ c.args.reader.now c.line.new.self _ _ c.in_ok-line.ensures.again c.in_ok-line.ensures.line) in
    fault_without_line g.B.Blocks.wants _ _ _ _ says

pub returns-in_err-block-clause-reads : goal.returns-in_err-block-clause-reads
returns-in_err-block-clause-reads g c =
    let size = c.unwrap_or-len.ensures ∙ ap (λ (o : Option ℕ). unwrap_or o 0) (c.len_behind.ensures ∙ ap g.B.Blocks.wants c.as_bytes.ensures) in
    let says = rw c.in-Line.is at (line_says g.B.Blocks.wants _ c.args.reader.now c.line.new.self _ _ c.in_ok-line.ensures.again c.in_ok-line.ensures.line) in
    let fails = err_from_is_err_and c.from_residual-in_err-block.result c.from_residual-in_err-block.ensures.1 in
    let gives = c.in_err-block.ensures.block in
    let takes = says (omega (arith, gives.passes.count, gives.passes.below)) in
    rw fails.1 (no_memory_of_block g.B.Blocks.wants c.args.reader.now c.line.new.self c.block.new.self _ _ _ c.in-Line.line takes.0 c.unwrap_or-len.result size takes.1 fails.0 gives)

pub returns-in-Line-2-clause-reads : goal.returns-in-Line-2-clause-reads
returns-in-Line-2-clause-reads g c =
    let size = c.unwrap_or-len.ensures ∙ ap (λ (o : Option ℕ). unwrap_or o 0) (c.len_behind.ensures ∙ ap g.B.Blocks.wants c.as_bytes.ensures) in
    let says = rw c.in-Line.is at (line_says g.B.Blocks.wants _ c.args.reader.now c.line.new.self _ _ c.in_ok-line.ensures.again c.in_ok-line.ensures.line) in
    let gives = rw c.in-Line-2.is at c.in_ok-block.ensures.block in
    let takes = says (omega (arith, gives.0.passes.count, gives.0.passes.below)) in
    frame_of_block g.B.Blocks.wants c.args.reader.now c.line.new.self c.block.new.self _ _ _ c.in-Line.line takes.0 c.unwrap_or-len.result size takes.1 c.in-Line-2.block gives

pub returns-in-End-2-clause-reads : goal.returns-in-End-2-clause-reads
returns-in-End-2-clause-reads g c =
    let size = c.unwrap_or-len.ensures ∙ ap (λ (o : Option ℕ). unwrap_or o 0) (c.len_behind.ensures ∙ ap g.B.Blocks.wants c.as_bytes.ensures) in
    let says = rw c.in-Line.is at (line_says g.B.Blocks.wants _ c.args.reader.now c.line.new.self _ _ c.in_ok-line.ensures.again c.in_ok-line.ensures.line) in
    let gives = rw c.in-End-2.is at c.in_ok-block.ensures.block in
    let takes = says (omega (arith, gives.0.passes.count, gives.0.passes.below)) in
    end_of_block g.B.Blocks.wants c.args.reader.now c.line.new.self c.block.new.self _ _ _ c.in-Line.line takes.0 c.unwrap_or-len.result size takes.1 gives

pub returns-in-TooLong-2-clause-reads : goal.returns-in-TooLong-2-clause-reads
returns-in-TooLong-2-clause-reads g c =
    let size = c.unwrap_or-len.ensures ∙ ap (λ (o : Option ℕ). unwrap_or o 0) (c.len_behind.ensures ∙ ap g.B.Blocks.wants c.as_bytes.ensures) in
    let says = rw c.in-Line.is at (line_says g.B.Blocks.wants _ c.args.reader.now c.line.new.self _ _ c.in_ok-line.ensures.again c.in_ok-line.ensures.line) in
    let gives = rw c.in-TooLong-2.is at c.in_ok-block.ensures.block in
    let takes = says (omega (arith, gives.0.passes.count, gives.0.passes.below)) in
    long_of_block g.B.Blocks.wants c.args.reader.now c.line.new.self c.block.new.self _ _ _ c.in-Line.line takes.0 c.unwrap_or-len.result size takes.1 gives

pub returns-in-ReadFault-2-clause-reads : goal.returns-in-ReadFault-2-clause-reads
returns-in-ReadFault-2-clause-reads g c =
    let size = c.unwrap_or-len.ensures ∙ ap (λ (o : Option ℕ). unwrap_or o 0) (c.len_behind.ensures ∙ ap g.B.Blocks.wants c.as_bytes.ensures) in
    let says = rw c.in-Line.is at (line_says g.B.Blocks.wants _ c.args.reader.now c.line.new.self _ _ c.in_ok-line.ensures.again c.in_ok-line.ensures.line) in
    let gives = rw c.in-ReadFault-2.is at c.in_ok-block.ensures.block in
    let takes = says (omega (arith, gives.0.passes.count, gives.0.passes.below)) in
    fault_of_block g.B.Blocks.wants c.args.reader.now c.line.new.self c.block.new.self _ _ _ c.in-Line.line takes.0 c.unwrap_or-len.result size takes.1 gives
