use Rattle.std.proofs.Common.{◌≡◌, ◌++◌, take}
use Rattle.std.specs.List.{flat_map}
use Rattle.lp_defs.specs.Canonical.{name_at, spaced_word, term_text}
use Rattle.lp_print.proofs.rows.write_terms.Given as goal

abbrev pub invariant-loop-term : goal.invariant-loop-term
invariant-loop-term l = l.out.items ≡ l.initial.out.items ++ flat_map (λ t. spaced_word (term_text t.coef (name_at l.vars t.var))) (take l.term-index l.terms)
