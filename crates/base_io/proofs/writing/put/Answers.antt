use Rattle.std.proofs.Common.{take, drop, sym, arith, rules}
use Rattle.std.proofs.Math.Seq.{take-add}
use Rattle.std.proofs.lemmas.List.{append-nil, length-drop, take_rest, take-append-drop}
use Rattle.base_names.proofs.Outside.{Writes-more}
use Rattle.base_io.proofs.writing.put.Goals as goal

pub loop-at-preserved : goal.loop-at-preserved
loop-at-preserved g c = record {
  same = search rules;
  in_range =
      let count = rw (take_rest c.args.bytes.now c.loop-at.at) at c.in-Bytes.ensures.count in omega (arith, count.0, length-drop c.loop-at.at c.args.bytes.now);
  written =
      rw (take-add c.loop-at.at c.in-Bytes.n c.args.bytes.now) (
      rw (take_rest c.args.bytes.now c.loop-at.at) at (Writes-more _ _ _ _ _ c.loop-at.invariant.written c.in-Bytes.ensures.bytes)
      );
  later = omega arith;
}

pub returns-in-Failed-clause-front : goal.returns-in-Failed-clause-front
returns-in-Failed-clause-front g c = (
  take c.loop-at.at c.args.bytes.now,
  drop c.loop-at.at c.args.bytes.now,
  sym (take-append-drop c.loop-at.at c.args.bytes.now),
  rw append-nil at (Writes-more _ _ _ _ _ c.loop-at.invariant.written c.in-Failed.ensures.bytes),
)
