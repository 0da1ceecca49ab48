use Rattle.std.proofs.Common.{◌≡◌, bytes_eq, map, take, true}
use Rattle.std.specs.List.{list_all, list_any}
use Rattle.model_core.specs.Placed.{placed}
use Rattle.model_core.proofs.ordered.placed_terms.Given as goal

abbrev pub invariant-loop-term : goal.invariant-loop-term
invariant-loop-term l = record {
  placed : l.ordered.items ≡ map (placed l.vars.texts) (take l.term-index l.terms);
  known : list_all (λ t. list_any (bytes_eq t.name) l.vars.texts) (take l.term-index l.terms) ≡ true;
}
