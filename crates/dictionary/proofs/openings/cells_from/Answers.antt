use Rattle.std.proofs.Common.{rules, ◌≡◌, ◌+◌, ◌*◌, ◌∙◌, ◌++◌, ◌∷◌, [], ap, sym, subst, length, map, take, length-append}
use Rattle.std.proofs.Math.Seq.{take-length}
use Rattle.std.proofs.lemmas.Iterator.Adapters.{YieldsList-from_vec}
use Rattle.std.proofs.lemmas.Iterator.Consumers.{YieldsList-end, YieldsList-turn}
use Rattle.dictionary.specs.Cells.{opening_row, rows_of}
use Rattle.dictionary.proofs.CellRows.{pushed_one_on}
use Rattle.dictionary.proofs.openings.cells_from.Goals as goal

pub loop-row-preserved : goal.loop-row-preserved
loop-row-preserved c =
    let turn = YieldsList-turn (YieldsList-from_vec c.args.rows.items (cc) (cc)) c.loop-row.yielded _ c.loop-row.yielded_by _ c.next.new.self c.in-Some.row c.in-Some.is c.next.ensures.steps in
    let wide = subst (λ row. length (opening_row c.args.artificial.now row) ≡ c.args.width) (sym turn.1) (c.requires.widths (length c.loop-row.yielded) c.in-Some.row turn.0) in
    let pushed : c.push_row.new.cells.items ≡ c.loop-row.cells.items ++ opening_row c.args.artificial.now c.in-Some.row = search rules in
    let next : length (c.loop-row.yielded ++ c.in-Some.row ∷ []) ≡ length c.loop-row.yielded + 1 = length-append c.loop-row.yielded (c.in-Some.row ∷ []) in
    rw next
    (pushed_one_on (opening_row c.args.artificial.now) c.args.width (length c.loop-row.yielded) c.args.rows.items c.in-Some.row c.loop-row.cells.items c.push_row.new.cells.items
    turn.0 turn.1 pushed wide c.loop-row.invariant)

pub returns-clause-rows : goal.returns-clause-rows
returns-clause-rows c =
    let end = YieldsList-end (YieldsList-from_vec c.args.rows.items (cc) (cc)) c.loop-row.yielded _ c.loop-row.yielded_by _ c.next.new.self c.in-None.is c.next.ensures.steps in
    subst (λ n. rows_of c.args.width n c.loop-row.cells.items ≡ map (opening_row c.args.artificial.now) (take n c.args.rows.items)) end.1 c.loop-row.invariant.0
    ∙ ap (map (opening_row c.args.artificial.now)) (take-length c.args.rows.items)

pub returns-clause-count : goal.returns-clause-count
returns-clause-count c =
    let end = YieldsList-end (YieldsList-from_vec c.args.rows.items (cc) (cc)) c.loop-row.yielded _ c.loop-row.yielded_by _ c.next.new.self c.in-None.is c.next.ensures.steps in
    c.loop-row.invariant.1 ∙ ap (λ n. n * c.args.width) end.1
