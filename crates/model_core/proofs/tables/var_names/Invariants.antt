use Rattle.std.proofs.Common.{◌≡◌, map, take}
use Rattle.model_data.specs.declared.model.Var.{Var}
use Rattle.model_core.proofs.tables.var_names.Given as goal

abbrev pub invariant-loop-var : goal.invariant-loop-var
invariant-loop-var l = l.names.texts ≡ map (λ (x : Var). x.name) (take l.var-index l.vars)
