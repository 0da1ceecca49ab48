use Rattle.std.proofs.Common.{◌≡◌, [], drop, map}
use Rattle.rec_format.specs.Orderly as defs
use Rattle.rec_format.proofs.distinct.are_var_names_new.Given as goal

abbrev pub invariant-loop-var : goal.invariant-loop-var
invariant-loop-var l = defs.are_new l.seen (map (λ v. v.name) (drop l.var-index l.vars)) ≡ defs.are_new [] (map (λ v. v.name) l.vars)
