use Rattle.base_names.proofs.OwnerNames.{name_utf8}
use Rattle.base_names.proofs.owner.Owner.as_str.Goals as goal

pub unreachable-requires : goal.unreachable-requires
unreachable-requires c =
    let other = rw c.as_bytes.ensures.bytes at c.in-Err.ensures.cases.0 in
    other (name_utf8 c.args.self.now c.as_bytes.ensures.name)
