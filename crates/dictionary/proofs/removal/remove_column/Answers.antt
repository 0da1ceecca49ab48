use Rattle.std.proofs.Common.{◌≡◌, arith, rules}
use Rattle.dictionary.proofs.Removed.{removed_all, removed_one_on}
use Rattle.dictionary.proofs.removal.remove_column.Goals as goal

pub loop-row-preserved : goal.loop-row-preserved
loop-row-preserved c =
    let next = removed_one_on c.args.width c.loop-row.row c.args.column c.args.count c.args.cells.now.items c.loop-row.cells.items c.copy_within.new.self.items c.copy_within-in-loop-row.new.self.items
    c.requires.within c.loop-row-test.true (search rules) c.copy_within.ensures.items c.copy_within-in-loop-row.ensures.items (c.loop-row.invariant.0, c.loop-row.invariant.1) in
    (next.0, next.1, search rules)

pub returns-clause-rows : goal.returns-clause-rows
returns-clause-rows c =
    let last : c.loop-row.row ≡ c.args.count = omega arith in
    removed_all c.args.width c.loop-row.row c.args.column c.args.count c.args.cells.now.items c.loop-row.cells.items c.truncate.new.self.items
    last (search rules) c.truncate.ensures.items c.loop-row.invariant.0
