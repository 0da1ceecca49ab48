use Rattle.std.proofs.Common.{◌∷◌, ap, sym, ◌∙◌, List}
use Rattle.frac128.specs.Fraction.{Fraction}
use Rattle.cert_text.specs.Spelling.{components, point_entries}
use Rattle.cert_text.specs.declared.entry.Entry.TheVariants as entry
use Rattle.cert_text.specs.declared.entry.Vector.TheVariants as vector
use Rattle.cert_text.proofs.Added.{last_added}
use Rattle.cert_text.proofs.writing.write_point.Goals as goal

pub returns-in_ok-write_entry-in-Some : goal.returns-in_ok-write_entry-in-Some
returns-in_ok-write_entry-in-Some c =
    last_added c.write_vector.result _ _ _ _ _ _ c.in_ok-write_entry-in-Some.ensures
    (ap (λ (xs : List Fraction). entry.Value c.in-Some.point.value ∷ components vector.X xs) c.as_slice.ensures ∙ sym (ap point_entries c.in-Some.is))
    c.write_vector.ensures
