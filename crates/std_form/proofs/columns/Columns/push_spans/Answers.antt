use Rattle.std.proofs.Common.{◌≡◌, ◌∙◌, sym, ap, List, [], length, ◌+◌, ◌<◌, get_or, Ok, rules}
use Rattle.dictionary.specs.declared.standard.StdRow.{StdRow}
use Rattle.solve_defs.specs.StandardForm.{column_count, span_row}
use Rattle.std_form.specs.Outcome.{Meets, behind}
use Rattle.std_form.specs.Shapes.{shape_of}
use Rattle.std_form.proofs.Exits.{exit}
use Rattle.std_form.proofs.Places.{Stands, stands}
use Rattle.std_form.proofs.Steps.{behind-refused, behind-then, spans-step, spans_left}
use Rattle.std_form.proofs.columns.Columns.push_spans.Goals as goal

pub push_span-requires : goal.push_span-requires
push_span-requires c =
    let place = c.loop-placed.placed-index in
    let within : place < length c.self.inside.placed.items = search rules in
    let own : c.placed-item.result ≡ get_or c.self.inside.placed.items place c.placed-item.result = search rules in
    let here : Stands c.args.self.now place c.placed-item.result = stands _ _ _ place _ c.self.view_is c.self.invariant within own in
    here.ends

pub returns-in_err-push_span : goal.returns-in_err-push_span
returns-in_err-push_span c =
    let place = c.loop-placed.placed-index in
    let within : place < length c.self.inside.placed.items = search rules in
    let own : c.placed-item.result ≡ get_or c.self.inside.placed.items place c.placed-item.result = search rules in
    let here : Stands c.args.self.now place c.placed-item.result = stands _ _ _ place _ c.self.view_is c.self.invariant within own in
    let done = c.loop-placed.rows.items in
    let part = span_row (column_count c.args.self.now) c.placed-item.result.column (shape_of c.placed-item.result.shape) in
    let refused : Meets {B = List StdRow} c.from_residual.result (λ _. []) (behind done part) = search rules in
    exit _ _ _ _ _ c.from_residual.ensures.0 refused
    (λ e is. sym c.loop-placed.invariant ∙ ap (behind done) (spans-step c.args.self.now place c.placed-item.result here)
    ∙ behind-refused done part (spans_left c.args.self.now (place + 1)) e is)

pub loop-placed-preserved : goal.loop-placed-preserved
loop-placed-preserved c =
    let place = c.loop-placed.placed-index in
    let within : place < length c.self.inside.placed.items = search rules in
    let own : c.placed-item.result ≡ get_or c.self.inside.placed.items place c.placed-item.result = search rules in
    let here : Stands c.args.self.now place c.placed-item.result = stands _ _ _ place _ c.self.view_is c.self.invariant within own in
    let done = c.loop-placed.rows.items in
    let part = span_row (column_count c.args.self.now) c.placed-item.result.column (shape_of c.placed-item.result.shape) in
    let made : behind done part ≡ Ok c.push_span.new.rows.items = search rules in
    sym (behind-then done c.push_span.new.rows.items part (spans_left c.args.self.now (place + 1)) made)
    ∙ sym (ap (behind done) (spans-step c.args.self.now place c.placed-item.result here)) ∙ c.loop-placed.invariant
