use Rattle.std.proofs.Common.{◌≡◌, ◌∙◌, sym, ap₂}
use Rattle.model_data.specs.declared.limits.TheConstants.{MAX_ITERATIONS}
use Rattle.limit_defs.specs.Counts.{pivots_within}
use Rattle.limit_defs.specs.Limits.{iterations_of, nodes_of, pivots_of}
use Rattle.enough_limits.specs.Bounds.{limited}
use Rattle.enough_limits.proofs.Limited.{limited_above, limited_none}
use Rattle.enough_limits.proofs.Products.{nodes_some, product_above}
use Rattle.enough_limits.proofs.iterations.iteration_bound.Goals as goal

pub returns-in_err-pivots : goal.returns-in_err-pivots
returns-in_err-pivots c =
    let m = c.args.m.now in
    let told : limited MAX_ITERATIONS (pivots_of m) ≡ c.pivot_bound.result =
    sym (c.pivot_bound.ensures ∙ ap₂ (λ columns rows. limited MAX_ITERATIONS (pivots_within columns rows)) c.root_columns.ensures c.root_rows.ensures) in
    c.from_residual.ensures
    ∙ sym (limited_none MAX_ITERATIONS (iterations_of m) (product_above MAX_ITERATIONS (pivots_of m) (nodes_of m) (limited_above MAX_ITERATIONS (pivots_of m) (told ∙ c.in_err-pivots.was)) (nodes_some m)))
