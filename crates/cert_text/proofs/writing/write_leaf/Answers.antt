use Rattle.std.proofs.Common.{◌∷◌, ap, append_assoc, map}
use Rattle.cert_text.specs.declared.entry.Entry.TheVariants as entry
use Rattle.cert_text.specs.declared.entry.Side.TheVariants as side
use Rattle.cert_text.proofs.Added.{both_added, last_added}
use Rattle.cert_text.proofs.writing.write_leaf.Goals as goal

pub returns : goal.returns
returns c =
    let ws = c.args.weights.now in
    let two = both_added _ _ _ _ _ c.in_ok-write_entry.ensures c.in_ok-write_weights.ensures in
    let three = both_added _ _ _ _ _ two c.in_ok-write_weights-2.ensures in
    last_added c.write_weights-3.result _ _ _ _ _ _ three
    (rw (c.as_slice.ensures, c.as_slice-2.ensures, c.as_slice-3.ensures)
    (ap (λ es. entry.Leaf c.args.claim ∷ es) (append_assoc (map (entry.Weight side.Row) ws.rows) (map (entry.Weight side.Lower) ws.lows) (map (entry.Weight side.Upper) ws.ups))))
    c.write_weights-3.ensures
