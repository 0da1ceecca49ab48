use Rattle.std.proofs.Common.{rules, arith, length, ◌+◌, ◌-◌, ◌*◌}
use Rattle.std.proofs.lemmas.Result.{err_from_is_err_and}
use Rattle.dictionary.specs.Dictionary.{eliminated_basic}
use Rattle.dictionary.proofs.CellRows.{rows_at_start, rows_one_on, rows_stopped}
use Rattle.dictionary.proofs.elimination.eliminate_rows.Goals as goal

pub loop-row-init : goal.loop-row-init
loop-row-init c = rows_at_start (eliminated_basic c.args.column c.args.solved.now) (length c.args.solved.now) c.args.count c.args.cells.now

pub returns-in_err-eliminate_basic : goal.returns-in_err-eliminate_basic
returns-in_err-eliminate_basic c =
    let p = err_from_is_err_and c.from_residual.result c.from_residual.ensures.1 in
    rw (p.1, p.2) (rows_stopped (eliminated_basic c.args.column c.args.solved.now) (length c.args.solved.now) c.loop-row.row
    (c.loop-row.row * length c.args.solved.now + length c.args.solved.now - c.loop-row.row * length c.args.solved.now)
    c.args.count c.loop-row.cells _ _ c.loop-row-test.true (omega arith) (search rules) c.loop-row.invariant)

pub loop-row-preserved : goal.loop-row-preserved
loop-row-preserved c =
    rows_one_on (eliminated_basic c.args.column c.args.solved.now) (length c.args.solved.now) c.loop-row.row _ c.args.count c.loop-row.cells c.eliminate_basic.new.row _ c.loop-row-test.true (search rules) (search rules) (omega arith) (search rules) c.loop-row.invariant
