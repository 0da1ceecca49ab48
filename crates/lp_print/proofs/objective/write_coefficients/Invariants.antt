use Rattle.std.proofs.Common.{◌≡◌, ◌++◌, take}
use Rattle.std.specs.List.{flat_map}
use Rattle.lp_defs.specs.Canonical.{spaced_word, term_text}
use Rattle.lp_print.proofs.objective.write_coefficients.Given as goal

abbrev pub invariant-loop-var : goal.invariant-loop-var
invariant-loop-var l = l.out.items ≡ l.initial.out.items ++ flat_map (λ v. spaced_word (term_text v.obj v.name)) (take l.var-index l.vars)
