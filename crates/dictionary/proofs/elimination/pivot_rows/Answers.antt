use Rattle.std.proofs.Common.{rules, ◌≡◌, ◌-◌, ◌*◌, refl, sym, subst, ap, ◌∙◌, Ok, Err}
use Rattle.std.proofs.lemmas.Result.{err_from_is_err_and}
use Rattle.dictionary.specs.Cells.{rows_of}
use Rattle.dictionary.specs.Dictionary.{each, eliminated_basic, with_value}
use Rattle.dictionary.proofs.PivotRows.{below_length, pivoted_parts-above, pivoted_parts-below, pivoted_parts-solved, pivoted_rows-split, row_at-split, rows_of-split, split_at_row}
use Rattle.dictionary.proofs.elimination.pivot_rows.Goals as goal

pub solve_row-requires-clause-not_zero : goal.solve_row-requires-clause-not_zero
solve_row-requires-clause-not_zero c =
    let s = split_at_row c.args.row c.args.count c.args.width c.args.cells.now c.split_at_mut-above.result.0.now c.split_at_mut-above.result.1.now c.split_at_mut-solved.result.0.now c.split_at_mut-solved.result.1.now
    c.requires.row_above c.requires.row_within c.split_at_mut-above.ensures.value c.split_at_mut-solved.ensures.value c.split_at_mut-above.ensures.front_len c.split_at_mut-solved.ensures.front_len in
    rw (← row_at-split _ _ _ _ _ _ _ s) c.requires.not_zero

pub returns-in_err-solve_row : goal.returns-in_err-solve_row
returns-in_err-solve_row c =
    let p = err_from_is_err_and c.from_residual.result c.from_residual.ensures.1 in
    let s = split_at_row c.args.row c.args.count c.args.width c.args.cells.now c.split_at_mut-above.result.0.now c.split_at_mut-above.result.1.now c.split_at_mut-solved.result.0.now c.split_at_mut-solved.result.1.now
    c.requires.row_above c.requires.row_within c.split_at_mut-above.ensures.value c.split_at_mut-solved.ensures.value c.split_at_mut-above.ensures.front_len c.split_at_mut-solved.ensures.front_len in
    rw (p.1, p.2, pivoted_rows-split _ _ _ c.args.column _ _ _ _ s) (pivoted_parts-solved _ _ _ _ _ (search rules))

pub returns-in_err-eliminate_rows : goal.returns-in_err-eliminate_rows
returns-in_err-eliminate_rows c =
    let p = err_from_is_err_and c.from_residual-in_err-eliminate_rows.result c.from_residual-in_err-eliminate_rows.ensures.1 in
    let s = split_at_row c.args.row c.args.count c.args.width c.args.cells.now c.split_at_mut-above.result.0.now c.split_at_mut-above.result.1.now c.split_at_mut-solved.result.0.now c.split_at_mut-solved.result.1.now
    c.requires.row_above c.requires.row_within c.split_at_mut-above.ensures.value c.split_at_mut-solved.ensures.value c.split_at_mut-above.ensures.front_len c.split_at_mut-solved.ensures.front_len in
    rw (p.1, p.2, pivoted_rows-split _ _ _ c.args.column _ _ _ _ s) (pivoted_parts-above _ _ c.solve_row.new.row _ _ _ (search rules)
    (subst (λ n. Err c.in_err-eliminate_rows.field-0.0 ≡ each (eliminated_basic c.args.column c.solve_row.new.row) (rows_of n (c.args.row - 1) c.split_at_mut-above.result.0.now)) (c.solve_row.auto.row ∙ s.here_length) (search rules)))

pub eliminate_rows-requires-2-clause-cells : goal.eliminate_rows-requires-2-clause-cells
eliminate_rows-requires-2-clause-cells c =
    let s = split_at_row c.args.row c.args.count c.args.width c.args.cells.now c.split_at_mut-above.result.0.now c.split_at_mut-above.result.1.now c.split_at_mut-solved.result.0.now c.split_at_mut-solved.result.1.now
    c.requires.row_above c.requires.row_within c.split_at_mut-above.ensures.value c.split_at_mut-solved.ensures.value c.split_at_mut-above.ensures.front_len c.split_at_mut-solved.ensures.front_len in
    below_length _ _ _ _ _ _ _ s c.requires.cells ∙ ap (λ n. (c.args.count - c.args.row) * n) (sym (c.solve_row.auto.row ∙ s.here_length))

pub returns : goal.returns
returns c =
    let s = split_at_row c.args.row c.args.count c.args.width c.args.cells.now c.split_at_mut-above.result.0.now c.split_at_mut-above.result.1.now c.split_at_mut-solved.result.0.now c.split_at_mut-solved.result.1.now
    c.requires.row_above c.requires.row_within c.split_at_mut-above.ensures.value c.split_at_mut-solved.ensures.value c.split_at_mut-above.ensures.front_len c.split_at_mut-solved.ensures.front_len in
    let after = split_at_row c.args.row c.args.count c.args.width _ c.eliminate_rows.new.cells _ c.solve_row.new.row c.eliminate_rows-2.new.cells
    c.requires.row_above c.requires.row_within refl refl (c.eliminate_rows.auto.cells ∙ s.above_length) (c.solve_row.auto.row ∙ s.here_length) in
    ap (with_value c.eliminate_rows-2.result) (rows_of-split _ _ _ _ _ _ _ after)
    ∙ pivoted_parts-below c.args.column c.split_at_mut-solved.result.0.now c.solve_row.new.row _ _ _ _ c.eliminate_rows-2.result (search rules)
    (subst (λ n. Ok (rows_of n (c.args.row - 1) c.eliminate_rows.new.cells) ≡ each (eliminated_basic c.args.column c.solve_row.new.row) (rows_of n (c.args.row - 1) c.split_at_mut-above.result.0.now)) (c.solve_row.auto.row ∙ s.here_length) (search rules))
    (subst (λ n. with_value c.eliminate_rows-2.result (rows_of n (c.args.count - c.args.row) c.eliminate_rows-2.new.cells) ≡ each (eliminated_basic c.args.column c.solve_row.new.row) (rows_of n (c.args.count - c.args.row) c.split_at_mut-solved.result.1.now)) (c.solve_row.auto.row ∙ s.here_length) c.eliminate_rows-2.ensures)
    ∙ sym (pivoted_rows-split _ _ _ c.args.column _ _ _ _ s)
