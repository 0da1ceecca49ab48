use Rattle.std.proofs.Common.{◌≡◌, ◌++◌, take}
use Rattle.std.specs.List.{flat_map}
use Rattle.lp_defs.specs.Canonical.{kind_lines, lines}
use Rattle.lp_print.proofs.kinds.write_names.Given as goal

abbrev pub invariant-loop-var : goal.invariant-loop-var
invariant-loop-var l = l.out.items ≡ l.initial.out.items ++ flat_map (λ v. lines (kind_lines l.kind v)) (take l.var-index l.vars)
