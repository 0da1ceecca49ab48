use Rattle.std.proofs.Common.{refl}
use Rattle.cert_text.proofs.Added.{both_added, last_added}
use Rattle.cert_text.proofs.writing.write_outcome.Goals as goal

pub returns : goal.returns
returns c =
    let two = both_added _ _ _ _ _ c.in_ok-write_entry.ensures c.in_ok-write_point.ensures in
    last_added c.write_wide.result _ _ _ _ _ _ two refl c.write_wide.ensures
