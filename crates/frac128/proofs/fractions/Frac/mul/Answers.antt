use Rattle.std.proofs.Common.{◌∙◌}
use Rattle.frac128.proofs.Fitting.{FitsProduct-is}
use Rattle.frac128.proofs.Results.{IsLowest-product, exact_product-parts}
use Rattle.frac128.proofs.Seen.{seen}
use Rattle.frac128.proofs.fractions.Frac.mul.Goals as goal

pub returns-in_err-size : goal.returns-in_err-size
returns-in_err-size c =
    let own = seen _ _ _ c.self.view_is c.self.invariant in
    let others = seen _ _ _ c.other.view_is c.other.invariant in
    let left = rw (c.unsigned_abs.ensures.value, own.num, others.den) at c.reduced_parts-left.ensures.num in
    let right = rw (c.unsigned_abs-2.ensures.value, others.num, own.den) at c.reduced_parts-right.ensures.num in
    let told = rw (left, right) at c.in_err-size.ensures in
    rw c.from_residual.ensures (λ fits. told ((FitsProduct-is c.args.self.now c.args.other.now).0 fits).0)

pub returns-in_err-den : goal.returns-in_err-den
returns-in_err-den c =
    let own = seen _ _ _ c.self.view_is c.self.invariant in
    let others = seen _ _ _ c.other.view_is c.other.invariant in
    let left_den = rw (c.unsigned_abs.ensures.value, own.num, others.den) at c.reduced_parts-left.ensures.den in
    let right_den = rw (c.unsigned_abs-2.ensures.value, others.num, own.den) at c.reduced_parts-right.ensures.den in
    let told = rw (left_den, right_den) at c.in_err-den.ensures in
    rw c.from_residual-in_err-den.ensures (λ fits. told ((FitsProduct-is c.args.self.now c.args.other.now).0 fits).1)

pub from_parts-requires : goal.from_parts-requires
from_parts-requires c =
    let own = seen _ _ _ c.self.view_is c.self.invariant in
    let others = seen _ _ _ c.other.view_is c.other.invariant in
    let left = rw (c.unsigned_abs.ensures.value, own.num, others.den) at c.reduced_parts-left.ensures.num in
    let right = rw (c.unsigned_abs-2.ensures.value, others.num, own.den) at c.reduced_parts-right.ensures.num in
    let left_den = rw (c.unsigned_abs.ensures.value, own.num, others.den) at c.reduced_parts-left.ensures.den in
    let right_den = rw (c.unsigned_abs-2.ensures.value, others.num, own.den) at c.reduced_parts-right.ensures.den in
    let size = rw (left, right) at c.in_ok-size.ensures in
    let den = rw (left_den, right_den) at c.in_ok-den.ensures in
    rw (size.1, den.1) (IsLowest-product c.args.self.now c.args.other.now own.kept others.kept size.0 den.0)

pub returns : goal.returns
returns c =
    let own = seen _ _ _ c.self.view_is c.self.invariant in
    let others = seen _ _ _ c.other.view_is c.other.invariant in
    let left = rw (c.unsigned_abs.ensures.value, own.num, others.den) at c.reduced_parts-left.ensures.num in
    let right = rw (c.unsigned_abs-2.ensures.value, others.num, own.den) at c.reduced_parts-right.ensures.num in
    let left_den = rw (c.unsigned_abs.ensures.value, own.num, others.den) at c.reduced_parts-left.ensures.den in
    let right_den = rw (c.unsigned_abs-2.ensures.value, others.num, own.den) at c.reduced_parts-right.ensures.den in
    let size = rw (left, right) at c.in_ok-size.ensures in
    let den = rw (left_den, right_den) at c.in_ok-den.ensures in
    let made = rw (own.num, others.num, size.1, den.1) at c.from_parts.ensures in (
      (FitsProduct-is c.args.self.now c.args.other.now).1 (size.0, den.0),
      made ∙ exact_product-parts c.args.self.now c.args.other.now own.kept others.kept,
    )
