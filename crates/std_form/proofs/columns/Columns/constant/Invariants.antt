use Rattle.std.proofs.Common.{◌≡◌, drop}
use Rattle.solve_defs.specs.StandardForm.{constant_with}
use Rattle.std_form.proofs.columns.Columns.constant.Given as goal

abbrev pub invariant-loop-place : goal.invariant-loop-place
invariant-loop-place l = constant_with (drop l.place l.self) l.constant (drop l.place l.m.vars) ≡ constant_with l.self l.m.constant l.m.vars
