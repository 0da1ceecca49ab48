use Rattle.std.proofs.Common.{◌∙◌, ◌<◌}
use Rattle.std.specs.Prelude.{unsigned_abs}
use Rattle.frac128.specs.Numbers.{limit}
use Rattle.frac128.proofs.Divisors.{gcd-above_zero}
use Rattle.frac128.proofs.Fitting.{FitsSum-is}
use Rattle.frac128.proofs.Results.{IsLowest-sum, exact_sum-parts}
use Rattle.frac128.proofs.Seen.{same_read, seen}
use Rattle.frac128.proofs.fractions.Frac.add.Goals as goal

pub divided-own-requires : goal.divided-own-requires
divided-own-requires c = rw c.gcd-divisor.ensures (gcd-above_zero _ _ c.other.invariant.den_above_zero)

pub divided-others-requires : goal.divided-others-requires
divided-others-requires c = rw c.gcd-divisor.ensures (gcd-above_zero _ _ c.other.invariant.den_above_zero)

pub returns-in_err-num : goal.returns-in_err-num
returns-in_err-num c =
    let own = seen _ _ _ c.self.view_is c.self.invariant in
    let others = seen _ _ _ c.other.view_is c.other.invariant in
    let divisor = rw (own.den, others.den) at c.gcd-divisor.ensures in
    let own_scale = rw (divisor, own.den) at c.divided-own.ensures in
    let others_scale = rw (divisor, others.den) at c.divided-others.ensures in
    let told = rw (own.num, others.num, own_scale, others_scale) at c.in_err-num.ensures in
    rw c.from_residual.ensures (λ fits. told ((FitsSum-is c.args.self.now c.args.other.now).0 fits).0)

pub returns-in_err-den : goal.returns-in_err-den
returns-in_err-den c =
    let own = seen _ _ _ c.self.view_is c.self.invariant in
    let others = seen _ _ _ c.other.view_is c.other.invariant in
    let divisor = rw (own.den, others.den) at c.gcd-divisor.ensures in
    let own_scale = rw (divisor, own.den) at c.divided-own.ensures in
    let others_scale = rw (divisor, others.den) at c.divided-others.ensures in
    let told = rw (own_scale, others.den) at c.in_err-den.ensures in
    rw c.from_residual-in_err-den.ensures (λ fits. told ((FitsSum-is c.args.self.now c.args.other.now).0 fits).1)

pub divided-requires : goal.divided-requires
divided-requires c =
    rw (c.gcd-common.ensures, c.gcd-divisor.ensures) (gcd-above_zero _ _ (gcd-above_zero _ _ c.other.invariant.den_above_zero))

pub divided-requires-2 : goal.divided-requires-2
divided-requires-2 c =
    rw (c.gcd-common.ensures, c.gcd-divisor.ensures) (gcd-above_zero _ _ (gcd-above_zero _ _ c.other.invariant.den_above_zero))

pub from_parts-requires : goal.from_parts-requires
from_parts-requires c =
    let own = seen _ _ _ c.self.view_is c.self.invariant in
    let others = seen _ _ _ c.other.view_is c.other.invariant in
    let divisor = rw (own.den, others.den) at c.gcd-divisor.ensures in
    let own_scale = rw (divisor, own.den) at c.divided-own.ensures in
    let others_scale = rw (divisor, others.den) at c.divided-others.ensures in
    let num = rw (own.num, others.num, own_scale, others_scale) at c.in_ok-num.ensures in
    let den = rw (own_scale, others.den) at c.in_ok-den.ensures in
    let num_fits : unsigned_abs c.in_ok-num.num < limit = rw num.1 num.0.2 in
    let read = same_read c.in_ok-num.num num_fits in
    let common = rw (c.unsigned_abs.ensures.value, read, num.1, divisor) at c.gcd-common.ensures in
    let top = rw (c.unsigned_abs-2.ensures.value, read, num.1, common) at c.divided.ensures in
    let bottom = rw (den.1, common) at c.divided-2.ensures in
    rw (top, bottom) (IsLowest-sum c.args.self.now c.args.other.now own.kept others.kept num.0.2 den.0)

pub returns : goal.returns
returns c =
    let own = seen _ _ _ c.self.view_is c.self.invariant in
    let others = seen _ _ _ c.other.view_is c.other.invariant in
    let divisor = rw (own.den, others.den) at c.gcd-divisor.ensures in
    let own_scale = rw (divisor, own.den) at c.divided-own.ensures in
    let others_scale = rw (divisor, others.den) at c.divided-others.ensures in
    let num = rw (own.num, others.num, own_scale, others_scale) at c.in_ok-num.ensures in
    let den = rw (own_scale, others.den) at c.in_ok-den.ensures in
    let num_fits : unsigned_abs c.in_ok-num.num < limit = rw num.1 num.0.2 in
    let read = same_read c.in_ok-num.num num_fits in
    let common = rw (c.unsigned_abs.ensures.value, read, num.1, divisor) at c.gcd-common.ensures in
    let top = rw (c.unsigned_abs-2.ensures.value, read, num.1, common) at c.divided.ensures in
    let bottom = rw (den.1, common) at c.divided-2.ensures in
    let made = rw (read, num.1, top, bottom) at c.from_parts.ensures in (
      (FitsSum-is c.args.self.now c.args.other.now).1 (num.0, den.0),
      made ∙ exact_sum-parts c.args.self.now c.args.other.now own.kept others.kept,
    )
