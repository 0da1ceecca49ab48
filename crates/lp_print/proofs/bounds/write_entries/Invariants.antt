use Rattle.std.proofs.Common.{◌≡◌, ◌++◌, take}
use Rattle.std.specs.List.{flat_map}
use Rattle.lp_defs.specs.Canonical.{bounds_of, lines}
use Rattle.lp_print.proofs.bounds.write_entries.Given as goal

abbrev pub invariant-loop-var : goal.invariant-loop-var
invariant-loop-var l = l.out.items ≡ l.initial.out.items ++ flat_map (λ v. lines (bounds_of v)) (take l.var-index l.vars)
