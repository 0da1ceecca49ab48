use Rattle.std.proofs.Common.{◌≡◌, ◌∙◌, sym, ap, List, [], ◌∷◌, ◌++◌, append-nil, append_assoc, length, drop}
use Rattle.std.proofs.lemmas.List.{take_at}
use Rattle.std.specs.Iterator.Adapters.{rev_source}
use Rattle.std.specs.Slice.Iter.{iter_rest}
use Rattle.model_data.specs.declared.model.Term.{Term}
use Rattle.solve_defs.specs.StandardForm.{row_entries}
use Rattle.std_form.proofs.Coefficients.{coefficients, length-coefficients, row_entries-cons, row_entries-none}
use Rattle.solve_defs.proofs.FormSizes.{length-row_entries}
use Rattle.std_form.proofs.columns.Columns.coefs.Goals as goal

pub loop-term-init : goal.loop-term-init
loop-term-init c = record {
  can_next = tt;
  is_finite = tt;
  written = [];
  all = append-nil (iter_rest (rev_source c.into_iter-term-iterator.result))
      ∙ ap (λ i. iter_rest (rev_source i)) c.into_iter-term-iterator.ensures.into_iter_gives ∙ ap iter_rest c.rev-term-items.ensures.source
      ∙ c.iter.ensures.rest;
  so_far = c.in_ok-coefs.ensures ∙ sym (row_entries-none c.args.self.now);
}

pub write-requires : goal.write-requires
write-requires c =
    ap length (c.deref_mut.ensures.value ∙ c.loop-term.invariant.so_far) ∙ length-row_entries c.args.self.now c.loop-term.invariant.written

pub loop-term-preserved : goal.loop-term-preserved
loop-term-preserved c =
    let before : List Term = c.loop-term.invariant.written in
    let count = length c.args.self.now in
    let written : c.write.new.coefs ≡ row_entries c.args.self.now (c.in-Some.term.now ∷ before) =
    c.write.ensures (coefficients before 0 count) (length-coefficients before 0 count) (c.deref_mut.ensures.value ∙ c.loop-term.invariant.so_far)
    ∙ sym (row_entries-cons c.args.self.now c.in-Some.term.now before) in
    let size : length c.write.new.coefs ≡ c.loop-term.coefs.len =
    ap length written ∙ length-row_entries c.args.self.now (c.in-Some.term.now ∷ before)
    ∙ sym (length-row_entries c.args.self.now before) ∙ ap length (sym c.loop-term.invariant.so_far) ∙ ap length (sym c.deref_mut.ensures.value)
    ∙ c.deref_mut.ensures.len in
    record {
      can_next = tt;
      is_finite = tt;
      written = c.in-Some.term.now ∷ before;
      all = sym (append_assoc (iter_rest (rev_source c.next.new.self)) (c.in-Some.term.now ∷ []) before)
          ∙ ap (λ (terms : List Term). terms ++ before) (sym c.in-Some.ensures.steps) ∙ c.loop-term.invariant.all;
      so_far = take_at c.write.new.coefs (drop (length c.write.new.coefs) c.loop-term.coefs.items) c.loop-term.coefs.len size ∙ written;
    }
