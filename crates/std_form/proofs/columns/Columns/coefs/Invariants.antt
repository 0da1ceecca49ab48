use Rattle.std.proofs.Common.{◌≡◌, List, ◌++◌}
use Rattle.std.specs.Iterator.Adapters.{rev_source}
use Rattle.std.specs.Slice.Iter.{iter_rest}
use Rattle.model_data.specs.declared.model.Term.{Term}
use Rattle.solve_defs.specs.StandardForm.{row_entries}
use Rattle.std_form.proofs.columns.Columns.coefs.Given as goal

abbrev pub invariant-loop-term : goal.invariant-loop-term
invariant-loop-term l = record {
  can_next : (goal.iterator-loop-term).can_next l.term-iterator;
  is_finite : (goal.iterator-loop-term).is_finite l.term-iterator;
  written : List Term;
  all : iter_rest (rev_source l.term-iterator) ++ written ≡ l.terms;
  so_far : l.coefs.items ≡ row_entries l.self written;
}
