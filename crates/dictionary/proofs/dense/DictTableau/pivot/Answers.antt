use Rattle.std.proofs.Common.{◌≡◌, ◌<◌, ◌≤◌, ◌-◌, ◌+◌, ◌*◌, ◌∙◌, refl, sym, ap, subst, ℕ, take, drop, length, option_map, slice_index, slice_set, Ok, Err, arith, rules}
use Rattle.std.specs.Option.{ForSome}
use Rattle.std.proofs.lemmas.List.{get_or_read, with_items_is}
use Rattle.std.proofs.lemmas.Result.{err_from_is_err_and}
use Rattle.dictionary.specs.Cells.{rows_of}
use Rattle.dictionary.specs.Dense.{dictionary_of, width_of}
use Rattle.dictionary.specs.Dictionary.{Dictionary, each_option, eliminated_objective, pivot, pivoted_rows}
use Rattle.dictionary.proofs.Pivoted.{pivot-auxiliary_refused, pivot-objective_refused, pivot-rows_refused, pivot-whole, rows_of-exchanged, solved_is}
use Rattle.dictionary.proofs.Filled.{filled_after, filled_exchanged}
use Rattle.dictionary.proofs.Opened.{same_dictionary}
use Rattle.dictionary.proofs.dense.DictTableau.pivot.Goals as goal

pub returns-in_err-pivot_rows-clause-value : goal.returns-in_err-pivot_rows-clause-value
returns-in_err-pivot_rows-clause-value c =
    let p = err_from_is_err_and c.from_residual.result c.from_residual.ensures.1 in
    let rows : Err c.in_err-pivot_rows.field-0.0 ≡ pivoted_rows c.args.row c.args.col (rows_of (width_of c.self.inside) (length c.self.inside.basic.items) c.self.inside.cells.items) = search rules in
    rw (p.1, p.2) (pivot-rows_refused c.args.row c.args.col (dictionary_of c.self.inside) c.in_err-pivot_rows.field-0.0 rows ∙ ap (pivot c.args.row c.args.col) c.self.view_is)

pub returns-in_err-eliminate_objective-clause-value : goal.returns-in_err-eliminate_objective-clause-value
returns-in_err-eliminate_objective-clause-value c =
    let p = err_from_is_err_and c.from_residual-in_err-eliminate_objective.result c.from_residual-in_err-eliminate_objective.ensures.1 in
    let rows : Ok (rows_of (width_of c.self.inside) (length c.self.inside.basic.items) c.pivot_rows.new.cells) ≡ pivoted_rows c.args.row c.args.col (rows_of (width_of c.self.inside) (length c.self.inside.basic.items) c.self.inside.cells.items) = search rules in
    let kept : length c.pivot_rows.new.cells ≡ c.self.inside.cells.len = search rules in
    let cells : c.deref.result.now ≡ c.pivot_rows.new.cells = c.deref.ensures.value ∙ with_items_is c.self.inside.cells c.pivot_rows.new.cells kept in
    let wide : (c.args.row - 1) * (c.len-width.result + 1) + (c.len-width.result + 1) - (c.args.row - 1) * (c.len-width.result + 1) ≡ (c.len-width.result + 1) = omega arith in
    let within : c.args.row ≤ (length c.self.inside.basic.items) = subst (λ (d : Dictionary). c.args.row ≤ length d.basic) (sym c.self.view_is) c.requires.row_within in
    let width : (c.len-width.result + 1) ≡ (width_of c.self.inside) = search rules in
    let solved = solved_is (width_of c.self.inside) (length c.self.inside.basic.items) c.args.row (c.len-width.result + 1) c.pivot_rows.new.cells c.requires.row_above within width in
    let objective : Err c.in_err-eliminate_objective.field-0.0 ≡ eliminated_objective c.args.col (take (c.len-width.result + 1) (drop ((c.args.row - 1) * (c.len-width.result + 1)) c.pivot_rows.new.cells)) c.self.inside.objective.items = search rules in
    rw (p.1, p.2) (pivot-objective_refused c.args.row c.args.col (dictionary_of c.self.inside) (rows_of (width_of c.self.inside) (length c.self.inside.basic.items) c.pivot_rows.new.cells) (take (c.len-width.result + 1) (drop ((c.args.row - 1) * (c.len-width.result + 1)) c.pivot_rows.new.cells)) c.in_err-eliminate_objective.field-0.0 rows solved objective ∙ ap (pivot c.args.row c.args.col) c.self.view_is)

pub invariant_of-self-in_err-eliminate_auxiliary : goal.invariant_of-self-in_err-eliminate_auxiliary
invariant_of-self-in_err-eliminate_auxiliary c =
    let kept : length c.pivot_rows.new.cells ≡ length c.self.inside.cells.items = search rules in
    let objective_kept : length c.eliminate_objective.new.row ≡ length c.self.inside.objective.items = search rules in
    let solved : length (take ((c.args.row - 1) * (c.len-width.result + 1) + (c.len-width.result + 1) - (c.args.row - 1) * (c.len-width.result + 1)) (drop ((c.args.row - 1) * (c.len-width.result + 1)) c.deref.result.now)) ≡ width_of c.self.inside = search rules in
    let widths : ForSome c.eliminate_auxiliary.new.row (λ w. length w.items ≡ width_of c.self.inside) =
    subst (λ (n : ℕ). ForSome c.eliminate_auxiliary.new.row (λ w. length w.items ≡ n)) solved c.eliminate_auxiliary.ensures.widths in
    filled_after c.self.inside c.pivot_rows.new.cells c.eliminate_objective.new.row c.eliminate_auxiliary.new.row c.self.invariant kept objective_kept widths

pub returns-in_err-eliminate_auxiliary-clause-value : goal.returns-in_err-eliminate_auxiliary-clause-value
returns-in_err-eliminate_auxiliary-clause-value c =
    let p = err_from_is_err_and c.from_residual-in_err-eliminate_auxiliary.result c.from_residual-in_err-eliminate_auxiliary.ensures.1 in
    let rows : Ok (rows_of (width_of c.self.inside) (length c.self.inside.basic.items) c.pivot_rows.new.cells) ≡ pivoted_rows c.args.row c.args.col (rows_of (width_of c.self.inside) (length c.self.inside.basic.items) c.self.inside.cells.items) = search rules in
    let kept : length c.pivot_rows.new.cells ≡ c.self.inside.cells.len = search rules in
    let cells : c.deref.result.now ≡ c.pivot_rows.new.cells = c.deref.ensures.value ∙ with_items_is c.self.inside.cells c.pivot_rows.new.cells kept in
    let wide : (c.args.row - 1) * (c.len-width.result + 1) + (c.len-width.result + 1) - (c.args.row - 1) * (c.len-width.result + 1) ≡ (c.len-width.result + 1) = omega arith in
    let within : c.args.row ≤ (length c.self.inside.basic.items) = subst (λ (d : Dictionary). c.args.row ≤ length d.basic) (sym c.self.view_is) c.requires.row_within in
    let width : (c.len-width.result + 1) ≡ (width_of c.self.inside) = search rules in
    let solved = solved_is (width_of c.self.inside) (length c.self.inside.basic.items) c.args.row (c.len-width.result + 1) c.pivot_rows.new.cells c.requires.row_above within width in
    let objective : Ok c.eliminate_objective.new.row ≡ eliminated_objective c.args.col (take (c.len-width.result + 1) (drop ((c.args.row - 1) * (c.len-width.result + 1)) c.pivot_rows.new.cells)) c.self.inside.objective.items = search rules in
    let auxiliary : Err c.in_err-eliminate_auxiliary.field-0.0 ≡ each_option (eliminated_objective c.args.col (take (c.len-width.result + 1) (drop ((c.args.row - 1) * (c.len-width.result + 1)) c.pivot_rows.new.cells))) (option_map (λ w. w.items) c.self.inside.auxiliary) = search rules in
    rw (p.1, p.2) (pivot-auxiliary_refused c.args.row c.args.col (dictionary_of c.self.inside) (rows_of (width_of c.self.inside) (length c.self.inside.basic.items) c.pivot_rows.new.cells) (take (c.len-width.result + 1) (drop ((c.args.row - 1) * (c.len-width.result + 1)) c.pivot_rows.new.cells)) c.eliminate_objective.new.row c.in_err-eliminate_auxiliary.field-0.0 rows solved objective auxiliary ∙ ap (pivot c.args.row c.args.col) c.self.view_is)

pub invariant_of-self-2 : goal.invariant_of-self-2
invariant_of-self-2 c =
    let kept : length c.pivot_rows.new.cells ≡ length c.self.inside.cells.items = search rules in
    let objective_kept : length c.eliminate_objective.new.row ≡ length c.self.inside.objective.items = search rules in
    let solved : length (take ((c.args.row - 1) * (c.len-width.result + 1) + (c.len-width.result + 1) - (c.args.row - 1) * (c.len-width.result + 1)) (drop ((c.args.row - 1) * (c.len-width.result + 1)) c.deref.result.now)) ≡ width_of c.self.inside = search rules in
    let widths : ForSome c.eliminate_auxiliary.new.row (λ w. length w.items ≡ width_of c.self.inside) =
    subst (λ (n : ℕ). ForSome c.eliminate_auxiliary.new.row (λ w. length w.items ≡ n)) solved c.eliminate_auxiliary.ensures.widths in
    filled_exchanged _ (c.args.row - 1) (c.args.col - 1) c.index-entering.result.now c.index.result.now (filled_after c.self.inside c.pivot_rows.new.cells c.eliminate_objective.new.row c.eliminate_auxiliary.new.row c.self.invariant kept objective_kept widths)

pub returns-clause-value : goal.returns-clause-value
returns-clause-value c =
    let rows : Ok (rows_of (width_of c.self.inside) (length c.self.inside.basic.items) c.pivot_rows.new.cells) ≡ pivoted_rows c.args.row c.args.col (rows_of (width_of c.self.inside) (length c.self.inside.basic.items) c.self.inside.cells.items) = search rules in
    let kept : length c.pivot_rows.new.cells ≡ c.self.inside.cells.len = search rules in
    let cells : c.deref.result.now ≡ c.pivot_rows.new.cells = c.deref.ensures.value ∙ with_items_is c.self.inside.cells c.pivot_rows.new.cells kept in
    let wide : (c.args.row - 1) * (c.len-width.result + 1) + (c.len-width.result + 1) - (c.args.row - 1) * (c.len-width.result + 1) ≡ (c.len-width.result + 1) = omega arith in
    let within : c.args.row ≤ (length c.self.inside.basic.items) = subst (λ (d : Dictionary). c.args.row ≤ length d.basic) (sym c.self.view_is) c.requires.row_within in
    let width : (c.len-width.result + 1) ≡ (width_of c.self.inside) = search rules in
    let solved = solved_is (width_of c.self.inside) (length c.self.inside.basic.items) c.args.row (c.len-width.result + 1) c.pivot_rows.new.cells c.requires.row_above within width in
    let objective : Ok c.eliminate_objective.new.row ≡ eliminated_objective c.args.col (take (c.len-width.result + 1) (drop ((c.args.row - 1) * (c.len-width.result + 1)) c.pivot_rows.new.cells)) c.self.inside.objective.items = search rules in
    let auxiliary : Ok (option_map (λ w. w.items) c.eliminate_auxiliary.new.row) ≡ each_option (eliminated_objective c.args.col (take (c.len-width.result + 1) (drop ((c.args.row - 1) * (c.len-width.result + 1)) c.pivot_rows.new.cells))) (option_map (λ w. w.items) c.self.inside.auxiliary) = search rules in
    let objective_kept : length c.eliminate_objective.new.row ≡ c.self.inside.objective.len = search rules in
    let column_within : c.args.col ≤ length c.self.inside.nonbasic.items = subst (λ (d : Dictionary). c.args.col ≤ length d.nonbasic) (sym c.self.view_is) c.requires.col_within in
    let column_place : c.args.col - 1 < length c.self.inside.nonbasic.items = omega arith in
    let row_place : c.args.row - 1 < length c.self.inside.basic.items = omega arith in
    let entering : c.index-entering.result.now ≡ slice_index c.self.inside.nonbasic.items (c.args.col - 1) =
    get_or_read c.self.inside.nonbasic.items (c.args.col - 1) c.index-entering.result.now column_place c.index-entering.ensures 0 in
    let leaving : c.index.result.now ≡ slice_index c.self.inside.basic.items (c.args.row - 1) =
    get_or_read c.self.inside.basic.items (c.args.row - 1) c.index.result.now row_place c.index.ensures 0 in
    ap Ok (same_dictionary _ _ _ _ _ _ _ _ _ _ (ap (slice_set c.self.inside.basic.items (c.args.row - 1)) entering) (ap (slice_set c.self.inside.nonbasic.items (c.args.col - 1)) leaving)
    (rows_of-exchanged c.self.inside.basic.items c.self.inside.nonbasic.items (c.args.row - 1) (c.args.col - 1) _ _ _ c.pivot_rows.new.cells (with_items_is c.self.inside.cells c.pivot_rows.new.cells kept))
    (with_items_is c.self.inside.objective c.eliminate_objective.new.row objective_kept) refl)
    ∙ pivot-whole c.args.row c.args.col (dictionary_of c.self.inside) (rows_of (width_of c.self.inside) (length c.self.inside.basic.items) c.pivot_rows.new.cells) (take (c.len-width.result + 1) (drop ((c.args.row - 1) * (c.len-width.result + 1)) c.pivot_rows.new.cells)) c.eliminate_objective.new.row (option_map (λ w. w.items) c.eliminate_auxiliary.new.row) rows solved objective auxiliary ∙ ap (pivot c.args.row c.args.col) c.self.view_is
