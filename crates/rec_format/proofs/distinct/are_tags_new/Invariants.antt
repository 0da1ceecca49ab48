use Rattle.std.proofs.Common.{◌≡◌, [], drop}
use Rattle.std.specs.Prelude.{filter_map}
use Rattle.rec_format.specs.Orderly as defs
use Rattle.rec_format.proofs.distinct.are_tags_new.Given as goal

abbrev pub invariant-loop-var : goal.invariant-loop-var
invariant-loop-var l = defs.are_new l.seen (filter_map (λ v. v.tag) (drop l.var-index l.vars)) ≡ defs.are_new [] (filter_map (λ v. v.tag) l.vars)
