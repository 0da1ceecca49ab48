use Rattle.std.proofs.Common.{◌≡◌, ℕ, ◌-◌, ◌+◌, List, Vec, Global, ap, sym, subst, ◌∙◌, arith}
use Rattle.rec_format.specs.Format.{items_read}
use Rattle.rec_format.proofs.ItemsRead.{behind, items_end, items_fault, items_step}
use Rattle.rec_format.proofs.composed.read_items.Goals as goal

pub returns-in-Err : goal.returns-in-Err
returns-in-Err g c =
    items_fault g.T.Spelled.format.read (λ (v : Vec g.row.T.Denot Global). v.items) c.in-Err.fault c.args.count c.loop-taken.taken c.args.reader.now.bytes.now c.loop-taken.reader.bytes.now c.read_from.new.reader.bytes.now
    c.loop-taken.items.items c.loop-taken-test.true c.loop-taken.invariant c.in-Err.ensures

pub loop-taken-preserved : goal.loop-taken-preserved
loop-taken-preserved g c =
    items_step g.T.Spelled.format.read c.args.count c.loop-taken.taken c.args.reader.now.bytes.now c.loop-taken.reader.bytes.now c.read_from.new.reader.bytes.now c.loop-taken.items.items c.in-Ok.item
    c.loop-taken-test.true c.loop-taken.invariant c.in-Ok.ensures
    ∙ ap (λ xs. behind xs (items_read g.T.Spelled.format.read (c.args.count - (c.loop-taken.taken + 1)) c.read_from.new.reader.bytes.now)) (sym (c.in_ok-push-in-Ok.ensures).items)

pub returns : goal.returns
returns g c =
    let all : c.loop-taken.taken ≡ c.args.count = omega arith in
    items_end g.T.Spelled.format.read c.args.count c.args.reader.now.bytes.now c.loop-taken.reader.bytes.now c.loop-taken.items.items
    (subst (λ (n : ℕ). items_read g.T.Spelled.format.read c.args.count c.args.reader.now.bytes.now ≡ behind c.loop-taken.items.items (items_read g.T.Spelled.format.read (c.args.count - n) c.loop-taken.reader.bytes.now)) all c.loop-taken.invariant)
