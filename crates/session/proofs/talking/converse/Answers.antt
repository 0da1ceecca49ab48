use Rattle.std.proofs.Common.{ℕ, List, length, Ok, refl, sym, ap, arith, ◌∙◌}
use Rattle.std.specs.Prelude.{unwrap_or}
use Rattle.session.specs.Transcript.{wants}
use Rattle.session.proofs.Conversing.{Goes-start, closed, cut_short, too_long, read_fault, no_frame, goes_next, over, write_fault, no_answer}
use Rattle.session.proofs.FrameBytes.{goes_down}
use Rattle.session.proofs.talking.converse.Goals as goal

pub loop-line-init : goal.loop-line-init
loop-line-init g c = record {
  goes = Goes-start c.args.session.now.seat c.args.session.now c.args.reader.now _ _ _ _ c.requires.first c.requires.ended;
  same_desk = refl;
  same_source = refl;
  same_sink = refl;
  source_later = omega arith;
  sink_later = omega arith;
}

pub returns-in-Ok-End-clause-converses : goal.returns-in-Ok-End-clause-converses
returns-in-Ok-End-clause-converses g c =
    let reads = rw c.in-Ok-End.field-0-is at c.in-Ok-End.ensures.reads in
    closed _ _ _ _ _ _ _ _ _ _ _ _ _ _ reads.0 c.loop-line.invariant.goes reads.1 reads.2

pub returns-in-Ok-Cut-clause-converses : goal.returns-in-Ok-Cut-clause-converses
returns-in-Ok-Cut-clause-converses g c =
    let reads = rw c.in-Ok-Cut.field-0-is at c.in-Ok-Cut.ensures.reads in
    cut_short _ _ _ _ _ _ _ _ _ _ _ _ _ _ reads.0 c.loop-line.invariant.goes reads.1 reads.2

pub returns-in-Ok-TooLong-clause-converses : goal.returns-in-Ok-TooLong-clause-converses
returns-in-Ok-TooLong-clause-converses g c =
    let reads = rw c.in-Ok-TooLong.field-0-is at c.in-Ok-TooLong.ensures.reads in
    too_long _ _ _ _ _ _ _ _ _ _ _ _ _ _ reads.0 c.loop-line.invariant.goes reads.1 reads.2

pub returns-in-Ok-ReadFault-clause-converses : goal.returns-in-Ok-ReadFault-clause-converses
returns-in-Ok-ReadFault-clause-converses g c =
    let reads = rw c.in-Ok-ReadFault.field-0-is at c.in-Ok-ReadFault.ensures.reads in
    read_fault _ _ _ _ _ _ _ _ _ _ _ _ _ _ reads.0 c.loop-line.invariant.goes reads.1 reads.2 reads.3

pub returns-in-Err-clause-converses : goal.returns-in-Err-clause-converses
returns-in-Err-clause-converses g c =
    let reads = c.in-Err.ensures.reads in
    no_frame _ _ _ _ _ _ _ _ _ _ _ _ _ _ reads.0 c.loop-line.invariant.goes reads.1

pub returns-in-Bye-clause-converses : goal.returns-in-Bye-clause-converses
returns-in-Bye-clause-converses g c =
    let reads = rw c.in-Ok-Whole.field-0-is at c.in-Ok-Whole.ensures.reads in
    let steps = rw (c.as_bytes.ensures, c.as_bytes-in-loop-line.ensures) at c.in-Bye.ensures.steps in
    over _ _ _ _ _ _ _ _ _ _ _ _ _ _ reads.0 c.loop-line.invariant.goes reads.1 _ _ reads.2 steps.heard _ _ steps.mine_is steps.fulls_is _ steps.says.0 steps.says.1

pub returns-in-WriteFault-clause-converses : goal.returns-in-WriteFault-clause-converses
returns-in-WriteFault-clause-converses g c =
    let reads = rw c.in-Ok-Whole.field-0-is at c.in-Ok-Whole.ensures.reads in
    let steps = rw (c.as_bytes.ensures, c.as_bytes-in-loop-line.ensures) at c.in-WriteFault.ensures.steps in
    write_fault _ _ _ _ _ _ _ _ _ _ _ _ _ _ reads.0 c.loop-line.invariant.goes reads.1 _ _ reads.2 steps.heard _ _ steps.mine_is steps.fulls_is _ steps.says.0 steps.says.1 steps.says.2

pub returns-in-NoMemory-clause-converses : goal.returns-in-NoMemory-clause-converses
returns-in-NoMemory-clause-converses g c =
    let reads = rw c.in-Ok-Whole.field-0-is at c.in-Ok-Whole.ensures.reads in
    let steps = rw (c.as_bytes.ensures, c.as_bytes-in-loop-line.ensures) at c.in-NoMemory.ensures.steps in
    no_answer _ _ _ _ _ _ _ _ _ _ _ _ _ _ reads.0 c.loop-line.invariant.goes reads.1 _ _ reads.2 steps.heard _ _ steps.mine_is steps.fulls_is _ steps.says

pub loop-line-preserved : goal.loop-line-preserved
loop-line-preserved g c =
    let reads = rw c.in-Ok-Whole.field-0-is at c.in-Ok-Whole.ensures.reads in
    let steps = rw (c.as_bytes.ensures, c.as_bytes-in-loop-line.ensures) at c.in-More.ensures.steps in
    record {
      goes = goes_next _ _ _ _ _ _ _ _ _ _ _ _ _ _ reads.0 c.loop-line.invariant.goes reads.1 _ _ reads.2 steps.heard _ _ steps.mine_is steps.fulls_is _ _ steps.says.0 steps.says.1 steps.says.2;
      same_desk = c.in-More.ensures.same_desk ∙ c.loop-line.invariant.same_desk;
      same_source = c.in-Ok-Whole.ensures.same ∙ c.loop-line.invariant.same_source;
      same_sink = c.in-More.ensures.same_sink ∙ c.loop-line.invariant.same_sink;
      source_later = omega (arith, c.in-Ok-Whole.ensures.later, c.loop-line.invariant.source_later);
      sink_later = omega (arith, c.in-More.ensures.later, c.loop-line.invariant.sink_later);
    }

pub step-requires : goal.step-requires
step-requires g c =
    ap length c.as_bytes-in-loop-line.ensures
    ∙ (c.in-Ok-Whole.ensures.block _ _ (ap Ok c.in-Ok-Whole.field-0-is) ∙ ap (λ (l : List ℕ). unwrap_or (wants l) 0) (sym c.as_bytes.ensures))

pub loop-line-smaller : goal.loop-line-smaller
loop-line-smaller g c =
    let reads = rw c.in-Ok-Whole.field-0-is at c.in-Ok-Whole.ensures.reads in
    goes_down wants _ _ _ _ _ _ reads.0 reads.1 reads.2
