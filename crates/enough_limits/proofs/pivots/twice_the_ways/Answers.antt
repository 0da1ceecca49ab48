use Rattle.std.proofs.Common.{◌≡◌, ◌∙◌, sym, ap, subst, refl, ◌+◌, ◌*◌, ◌-◌, ◌/◌, ◌≤◌, arith}
use Rattle.model_data.specs.declared.limits.TheConstants.{MAX_ITERATIONS}
use Rattle.limit_defs.specs.Counts.{choose}
use Rattle.enough_limits.proofs.Choose.{next_ways, choose_rises}
use Rattle.enough_limits.proofs.Limited.{limited_none}
use Rattle.enough_limits.proofs.pivots.twice_the_ways.Goals as goal

pub loop-step-init : goal.loop-step-init
unfolding choose
loop-step-init c = record { value = refl; most = omega arith; within = omega arith }

pub returns-then-twice-gt-MAX_ITERATIONS : goal.returns-then-twice-gt-MAX_ITERATIONS
returns-then-twice-gt-MAX_ITERATIONS c =
    let many = c.args.many in
    let next = c.loop-step.step + 1 in
    let rest = c.args.few - next in
    let within = c.loop-step-test.true in
    let last : next + rest ≡ c.args.few = omega (arith, within) in
    let now : c.loop-step.twice * (many + c.loop-step.step + 1) / next ≡ 2 * choose (many + next) next =
    ap (λ n. n * (many + c.loop-step.step + 1) / next) c.loop-step.invariant.value ∙ next_ways many c.loop-step.step in
    let rises : choose (many + next) next ≤ choose (many + c.args.few) c.args.few = subst (λ n. choose (many + next) next ≤ choose (many + n) n) last (choose_rises many next rest) in
    let above = c.if-twice-gt-MAX_ITERATIONS.true in
    sym (limited_none MAX_ITERATIONS (2 * choose (many + c.args.few) c.args.few) (omega (arith, now, rises, above)))

pub loop-step-preserved : goal.loop-step-preserved
loop-step-preserved c =
    let now : c.loop-step.twice * (c.args.many + c.loop-step.step + 1) / (c.loop-step.step + 1) ≡ 2 * choose (c.args.many + (c.loop-step.step + 1)) (c.loop-step.step + 1) =
    ap (λ n. n * (c.args.many + c.loop-step.step + 1) / (c.loop-step.step + 1)) c.loop-step.invariant.value ∙ next_ways c.args.many c.loop-step.step in
    let most = c.if-twice-gt-MAX_ITERATIONS.false in
    let within = c.loop-step-test.true in
    record { value = now; most = omega (arith, most); within = omega (arith, within) }
