use Rattle.std.proofs.Common.{subst, ◌≡◌, ◌≤◌, ◌<◌, ◌-◌, ◌+◌, ◌*◌, ◌∙◌, sym, suc, length, slice_index_or, arith, ℕ}
use Rattle.std.proofs.lemmas.List.{get_or_read}
use Rattle.frac128.specs.Fraction.{zero_value}
use Rattle.dictionary.specs.Dictionary.{Dictionary, entry, row_at}
use Rattle.dictionary.proofs.CellRows.{cell_of, cell_within}
use Rattle.dictionary.proofs.dense.DictTableau.entry.Goals as goal

pub returns-then-place-rows-clause-basic : goal.returns-then-place-rows-clause-basic
returns-then-place-rows-clause-basic c =
    let cells = c.self.inside.cells.items in
    let width = suc (length c.self.inside.nonbasic.items) in
    let count = length c.self.inside.basic.items in
    let within : c.args.row - 1 < count = omega arith in
    let columns : c.args.col ≤ length c.self.inside.nonbasic.items = subst (λ (d : Dictionary). c.args.col ≤ length d.nonbasic) (sym c.self.view_is) c.requires.col_within in
    let narrow : c.args.col < width = omega arith in
    let wide : c.len.result + 1 ≡ width = omega arith in
    let cell : c.index.result.now ≡ slice_index_or cells ((c.args.row - 1) * width + c.args.col) c.index.result.now =
    subst (λ (n : ℕ). c.index.result.now ≡ slice_index_or cells ((c.args.row - 1) * n + c.args.col) c.index.result.now) wide c.index.ensures in
    let fits = cell_within width count (length cells) (c.args.row - 1) c.args.col within narrow c.self.invariant.cells in
    subst (λ (d : Dictionary). c.args.row ≤ length d.basic → c.index.result.now ≡ entry (row_at d.rows c.args.row) c.args.col) c.self.view_is (λ _.
    get_or_read cells ((c.args.row - 1) * width + c.args.col) c.index.result.now fits cell zero_value ∙ sym (cell_of width count cells (c.args.row - 1) c.args.col zero_value within narrow))
