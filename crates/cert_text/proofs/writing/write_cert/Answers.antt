use Rattle.std.proofs.Common.{sym, ap}
use Rattle.cert_text.specs.Spelling.{cert_entries}
use Rattle.cert_text.proofs.Added.{both_added, last_added}
use Rattle.cert_text.proofs.writing.write_cert.Goals as goal

pub returns-in_ok-write_vector-in-Ray : goal.returns-in_ok-write_vector-in-Ray
returns-in_ok-write_vector-in-Ray c =
    let two = both_added _ _ _ _ _ c.in_ok-write_entry-in-Ray.ensures c.in_ok-write_vector-in-Ray.ensures in
    last_added c.write_vector-in-Ray.result _ _ _ _ _ _ two (rw (c.as_slice.ensures, c.as_slice-in-Ray.ensures) (sym (ap cert_entries c.in-Ray.is))) c.write_vector-in-Ray.ensures
