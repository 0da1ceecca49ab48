use Rattle.std.specs.List.{AllWithin}
use Rattle.model_data.specs.Kept.{IsKeptVar}
use Rattle.model_data.proofs.kept.kept_vars.Given as goal

abbrev pub invariant-loop-var : goal.invariant-loop-var
invariant-loop-var l = AllWithin IsKeptVar l.vars 0 l.var-index
