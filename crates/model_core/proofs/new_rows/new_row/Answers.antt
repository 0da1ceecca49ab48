use Rattle.std.proofs.Common.{◌≡◌, sym, ◌∙◌, ap, ap₂, ℕ, List, true, ◌&&◌, bytes_eq, map, inr}
use Rattle.std.specs.List.{list_any}
use Rattle.model_data.specs.Names.{is_name}
use Rattle.model_core.specs.One.{has_double}
use Rattle.model_core.proofs.NewRow.{none_of, row_name_taken, row_refused, row_term_doubled}
use Rattle.model_core.proofs.new_rows.new_row.Goals as goal

pub returns-in-Err-clause-refused : goal.returns-in-Err-clause-refused
returns-in-Err-clause-refused c =
    let terms = rw c.as_slice.ensures at c.in-Err.ensures.refused in
    row_refused c.requires.index c.args.name.now c.args.sense c.args.rhs c.args.terms.now c.in-Err.refusal terms

pub returns-in_default-clause-refused : goal.returns-in_default-clause-refused
returns-in_default-clause-refused c =
    let named = ap is_name (sym c.as_bytes.ensures) ∙ sym c.is_name.ensures ∙ c.if-not-is_name.false in
    let known = rw c.as_slice.ensures at c.in-Ok.ensures.known in
    let double = rw c.as_slice.ensures at c.in-Ok.ensures.double in
    inr (row_term_doubled c.requires.index c.args.name.now c.args.sense c.args.rhs c.args.terms.now (ap₂ (λ a b. a && b) named known)
    (none_of c.in-Ok.found (has_double (map (λ t. t.name) c.args.terms.now) ≡ true) double c.in_default.not-Some))

pub returns-then-has-clause-refused : goal.returns-then-has-clause-refused
returns-then-has-clause-refused c =
    let named = ap is_name (sym c.as_bytes.ensures) ∙ sym c.is_name.ensures ∙ c.if-not-is_name.false in
    let known = rw c.as_slice.ensures at c.in-Ok.ensures.known in
    inr (row_name_taken c.requires.index c.args.name.now c.args.sense c.args.rhs c.args.terms.now (ap₂ (λ a b. a && b) named known)
    (ap (λ (t : List ℕ). list_any (bytes_eq t) c.args.tables.now.rows.texts) (sym c.as_bytes-2.ensures) ∙ sym c.has.ensures ∙ c.if-has.true))
