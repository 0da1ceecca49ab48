use Rattle.std.proofs.Common.{rules, not, ◌==◌}
use Rattle.std.proofs.lemmas.Fn.{filter_same}
use Rattle.model_core.proofs.terms.leave_out.Goals as goal

pub returns : goal.returns
returns c = filter_same _ (λ t. not (t.var == c.args.var)) _ (λ x b f k. search rules) _ _ c.retain.ensures.filtered
