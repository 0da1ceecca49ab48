use Rattle.std.proofs.Common.{refl, arith, ◌∙◌}
use Rattle.replay_command.proofs.Replaying.{Goes-start, done, cut_short, too_long, read_fault, no_memory, refused_at, said_is, write_fault, goes_next}
use Rattle.replay_command.proofs.command.replay.Goals as goal

pub loop-line-init : goal.loop-line-init
loop-line-init g c = record {
  goes = rw c.new-reader.ensures (Goes-start (g.S.Source.left c.args.source.now) (g.K.Sink.contents c.args.sink.now));
  same_source = refl;
  same_sink = refl;
  source_later = omega arith;
  sink_later = omega arith;
}

pub returns-in-Ok-End-clause-replayed : goal.returns-in-Ok-End-clause-replayed
returns-in-Ok-End-clause-replayed g c =
    let reads = rw c.in-Ok-End.field-0-is at c.in-Ok-End.ensures.reads in
    done _ _ _ _ _ _ _ _ reads.0 c.loop-line.invariant.goes reads.1 reads.2

pub returns-in-Ok-Cut-clause-replayed : goal.returns-in-Ok-Cut-clause-replayed
returns-in-Ok-Cut-clause-replayed g c =
    let reads = rw c.in-Ok-Cut.field-0-is at c.in-Ok-Cut.ensures.reads in
    rw c.lines.ensures (cut_short _ _ _ _ _ _ _ _ reads.0 c.loop-line.invariant.goes reads.1 reads.2)

pub returns-in-Ok-TooLong-clause-replayed : goal.returns-in-Ok-TooLong-clause-replayed
returns-in-Ok-TooLong-clause-replayed g c =
    let reads = rw c.in-Ok-TooLong.field-0-is at c.in-Ok-TooLong.ensures.reads in
    too_long _ _ _ _ _ _ _ _ reads.0 c.loop-line.invariant.goes reads.1 reads.2

pub returns-in-Ok-ReadFault-clause-replayed : goal.returns-in-Ok-ReadFault-clause-replayed
returns-in-Ok-ReadFault-clause-replayed g c =
    let reads = rw c.in-Ok-ReadFault.field-0-is at c.in-Ok-ReadFault.ensures.reads in
    read_fault _ _ _ _ _ _ _ _ reads.0 c.loop-line.invariant.goes reads.1 reads.2 reads.3

pub returns-in-Err-clause-replayed : goal.returns-in-Err-clause-replayed
returns-in-Err-clause-replayed g c =
    let reads = c.in-Err.ensures.reads in
    no_memory _ _ _ _ _ _ _ _ reads.0 c.loop-line.invariant.goes reads.1

pub returns-in-Ok-Refused-clause-replayed : goal.returns-in-Ok-Refused-clause-replayed
returns-in-Ok-Refused-clause-replayed g c =
    let reads = rw c.in-Ok-Whole.field-0-is at c.in-Ok-Whole.ensures.reads in
    let says = rw (c.as_bytes.ensures, c.as_bytes-in-loop-line.ensures, c.in-Ok-Refused.field-0-is) at c.in-Ok-Refused.ensures in
    refused_at _ _ _ _ _ _ _ _ reads.0 c.loop-line.invariant.goes reads.1 _ _ reads.2 _ says

pub returns-in-Err-answer-clause-replayed : goal.returns-in-Err-answer-clause-replayed
returns-in-Err-answer-clause-replayed g c =
    let reads = rw c.in-Ok-Whole.field-0-is at c.in-Ok-Whole.ensures.reads in
    no_memory _ _ _ _ _ _ _ _ reads.0 c.loop-line.invariant.goes reads.1

pub returns-in-WriteFault-clause-replayed : goal.returns-in-WriteFault-clause-replayed
returns-in-WriteFault-clause-replayed g c =
    let reads = rw c.in-Ok-Whole.field-0-is at c.in-Ok-Whole.ensures.reads in
    let on = rw (c.as_bytes.ensures, c.as_bytes-in-loop-line.ensures, c.in-Ok-Next.field-0-is) at c.in-Ok-Next.ensures in
    let put = c.in-WriteFault.ensures.front in
    write_fault _ _ _ _ _ _ _ _ reads.0 c.loop-line.invariant.goes reads.1 _ _ reads.2 _ _ _ on _ c.as_slice.result.now put.0 put.1
    (said_is _ _ _ _ _ _ _ _ reads.0 c.loop-line.invariant.goes reads.1 _ _ reads.2 _ _ _ on c.as_slice.result.now c.as_slice.ensures.value c.clear.ensures.items) put.2 put.3

pub loop-line-preserved : goal.loop-line-preserved
loop-line-preserved g c =
    let reads = rw c.in-Ok-Whole.field-0-is at c.in-Ok-Whole.ensures.reads in
    let on = rw (c.as_bytes.ensures, c.as_bytes-in-loop-line.ensures, c.in-Ok-Next.field-0-is) at c.in-Ok-Next.ensures in
    record {
      goes = goes_next _ _ _ _ _ _ _ _ reads.0 c.loop-line.invariant.goes reads.1 _ _ reads.2 _ _ _ on _ c.as_slice.result.now
          (said_is _ _ _ _ _ _ _ _ reads.0 c.loop-line.invariant.goes reads.1 _ _ reads.2 _ _ _ on c.as_slice.result.now c.as_slice.ensures.value c.clear.ensures.items) (c.in-Done.ensures.done refl);
      same_source = c.in-Ok-Whole.ensures.same ∙ c.loop-line.invariant.same_source;
      same_sink = c.in-Done.ensures.same ∙ c.loop-line.invariant.same_sink;
      source_later = omega (arith, c.in-Ok-Whole.ensures.later, c.loop-line.invariant.source_later);
      sink_later = omega (arith, c.in-Done.ensures.later, c.loop-line.invariant.sink_later);
    }
