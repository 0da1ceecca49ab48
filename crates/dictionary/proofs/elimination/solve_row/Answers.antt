use Rattle.std.proofs.Common.{rules}
use Rattle.std.proofs.lemmas.Result.{err_from_is_err_and}
use Rattle.dictionary.proofs.Rows.{solved_row-behind, solved_row-last, solved_row-whole}
use Rattle.dictionary.proofs.elimination.solve_row.Goals as goal

pub returns-in_err-divide_all-2 : goal.returns-in_err-divide_all-2
returns-in_err-divide_all-2 c =
    let p = err_from_is_err_and c.from_residual-in_err-divide_all-2.result c.from_residual-in_err-divide_all-2.ensures.1 in
    rw (p.1, p.2) (solved_row-behind c.args.column c.args.row.now c.divide_all.new.entries c.index-row-column.result c.in_err-divide_all-2.field-0.0 (search rules) (search rules) (search rules))

pub returns-in_err-own : goal.returns-in_err-own
returns-in_err-own c =
    let p = err_from_is_err_and c.from_residual-in_err-own.result c.from_residual-in_err-own.ensures.1 in
    rw (p.1, p.2) (solved_row-last c.args.column c.args.row.now c.divide_all.new.entries c.divide_all-2.new.entries c.index-row-column.result c.in_err-own.field-0.0 (search rules) (search rules) (search rules) (search rules))

pub returns : goal.returns
returns c =
    solved_row-whole c.args.column c.args.row.now c.divide_all.new.entries c.divide_all-2.new.entries c.split_at_mut-own.result.0.now c.index-row-column.result c.in_ok-own.field-0
    (search rules) c.split_at_mut-own.ensures.front_len (search rules) (search rules) (search rules)
