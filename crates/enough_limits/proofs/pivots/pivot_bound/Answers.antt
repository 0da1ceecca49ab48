use Rattle.std.proofs.Common.{◌≡◌, ◌∙◌, sym, ap, ap₂, ◌+◌, ◌*◌, arith}
use Rattle.model_data.specs.declared.limits.TheConstants.{MAX_ITERATIONS}
use Rattle.limit_defs.specs.Counts.{choose}
use Rattle.enough_limits.specs.Bounds.{limited}
use Rattle.enough_limits.proofs.Choose.{either_part}
use Rattle.enough_limits.proofs.pivots.pivot_bound.Goals as goal

pub returns-else-rows-others : goal.returns-else-rows-others
returns-else-rows-others c =
    let n = c.args.n in
    let m = c.args.m in
    let all : m + (n + 1) ≡ n + m + 1 = omega arith in
    c.twice_the_ways-else-rows-others.ensures
    ∙ ap₂ (λ rows others. limited MAX_ITERATIONS (2 * choose (rows + (others + 1)) (others + 1))) c.from-rows.ensures c.from-others.ensures
    ∙ ap (λ ways. limited MAX_ITERATIONS (2 * ways)) (sym (either_part m (n + 1)) ∙ ap (λ total. choose total m) all)
