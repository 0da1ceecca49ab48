use Rattle.std.proofs.Common.{rules, not}
use Rattle.std.proofs.lemmas.Fn.{filter_same}
use Rattle.model_core.specs.Effect.{is_zero}
use Rattle.model_core.proofs.ordered.leave_zeros_out.Goals as goal

pub returns : goal.returns
returns c = filter_same _ (λ t. not (is_zero t.coef)) _ (λ x b f k. search rules) _ _ c.retain.ensures.filtered
