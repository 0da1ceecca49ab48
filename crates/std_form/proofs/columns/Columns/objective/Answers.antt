use Rattle.std.proofs.Common.{◌≡◌, ◌∙◌, sym, ap, ◌+◌, ◌<◌, ◌≤◌, List, length, drop, get_or, replicate, slice_set, arith}
use Rattle.std.proofs.lemmas.List.{take_at}
use Rattle.frac128.specs.Fraction.{zero_value}
use Rattle.model_data.specs.declared.model.Var.{Var}
use Rattle.solve_defs.specs.StandardForm.{entries}
use Rattle.solve_defs.specs.Values.{turned}
use Rattle.std_form.proofs.Entries.{entries-zeros, filled, filled-end, filled-step, length-filled}
use Rattle.solve_defs.proofs.FormValues.{length-entries}
use Rattle.std_form.proofs.columns.Columns.objective.Goals as goal

pub loop-place-init : goal.loop-place-init
loop-place-init c =
    c.in_ok-obj.ensures ∙ sym (entries-zeros c.args.self.now) ∙ ap (λ n. entries c.args.self.now (replicate n zero_value)) (omega arith)

pub loop-place-preserved : goal.loop-place-preserved
loop-place-preserved c =
    let direction = c.args.m.now.direction in
    let vars = c.args.m.now.vars in
    let shapes = c.args.self.now in
    let place = c.loop-place.place in
    let size = ap length c.as_slice-var-items.ensures in
    let within : place < length vars = omega (arith, size, c.loop-place-test.true) in
    let before = filled direction vars place (length shapes) in
    let after = filled direction vars (place + 1) (length shapes) in
    let before_size = length-filled direction vars place (length shapes) c.requires (omega (arith, within)) in
    let after_size = length-filled direction vars (place + 1) (length shapes) c.requires (omega (arith, within)) in
    let value : c.turned.result ≡ turned direction (get_or vars place c.var-item.result).obj =
    c.turned.ensures ∙ ap (λ (v : Var). turned direction v.obj) c.var-item.is
    ∙ ap (λ (vs : List Var). turned direction (get_or vs place c.var-item.result).obj) c.as_slice-var-items.ensures in
    let written : c.write.new.coefs ≡ entries shapes after =
    c.write.ensures before before_size (c.deref_mut.ensures.value ∙ c.loop-place.invariant)
    ∙ ap (λ x. entries shapes (slice_set before place x)) value
    ∙ ap (entries shapes) (filled-step direction vars place (length shapes) c.var-item.result c.requires within) in
    let same : length c.write.new.coefs ≡ c.loop-place.obj.len =
    ap length written ∙ length-entries shapes after after_size ∙ sym (length-entries shapes before before_size)
    ∙ ap length (sym c.loop-place.invariant) ∙ ap length (sym c.deref_mut.ensures.value) ∙ c.deref_mut.ensures.len in
    take_at c.write.new.coefs (drop (length c.write.new.coefs) c.loop-place.obj.items) c.loop-place.obj.len same ∙ written

pub returns : goal.returns
returns c =
    let vars = c.args.m.now.vars in
    let size = ap length c.as_slice-var-items.ensures in
    let end : length vars ≤ c.loop-place.place = omega (arith, size, c.loop-place-test.false) in
    let within : c.loop-place.place ≤ length vars = omega (arith, size, c.loop-place.auto.place-end) in
    c.loop-place.invariant ∙ filled-end c.args.m.now.direction c.args.self.now vars c.loop-place.place (length c.args.self.now) c.requires end within
