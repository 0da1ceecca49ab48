use Rattle.std.proofs.Common.{◌≢◌, ◌∙◌, ap, ◌<◌, ⊎_elim, of_z, pos, arith}
use Rattle.std.specs.Prelude.{unsigned_abs}
use Rattle.std.specs.Int.{w128}
use Rattle.std.proofs.lemmas.Int.{to_z-of_z}
use Rattle.frac128.specs.Numbers.{limit}
use Rattle.frac128.proofs.Fitting.{FitsReduced-is}
use Rattle.frac128.proofs.Integers.{size_above_zero}
use Rattle.frac128.proofs.Results.{IsLowest-reduced, quotient-parts}
use Rattle.frac128.proofs.fractions.Frac.make.Goals as goal

pub returns-then-size-ge-LIMIT : goal.returns-then-size-ge-LIMIT
returns-then-size-ge-LIMIT c h =
    let num = to_z-of_z w128 c.args.num c.ranges.num in
    let den = to_z-of_z w128 c.args.den c.ranges.den in
    let size = rw (c.unsigned_abs.ensures.value, c.unsigned_abs-2.ensures.value, num, den) at c.reduced_parts-size.ensures.num in
    let den_size = rw (c.unsigned_abs.ensures.value, c.unsigned_abs-2.ensures.value, num, den) at c.reduced_parts-size.ensures.den in
    let fits = (FitsReduced-is (unsigned_abs c.args.num) (unsigned_abs c.args.den)).0 h.1 in
    let fits_num : c.reduced_parts-size.result.0 < limit = rw size fits.0 in
    let fits_den : c.reduced_parts-size.result.1 < limit = rw den_size fits.1 in
    ⊎_elim (λ big. omega arith) (λ big. let b = big.1 in omega arith) c.then-size-ge-LIMIT.either

pub from_parts-requires : goal.from_parts-requires
from_parts-requires c =
    let num = to_z-of_z w128 c.args.num c.ranges.num in
    let den = to_z-of_z w128 c.args.den c.ranges.den in
    let size = rw (c.unsigned_abs.ensures.value, c.unsigned_abs-2.ensures.value, num, den) at c.reduced_parts-size.ensures.num in
    let den_size = rw (c.unsigned_abs.ensures.value, c.unsigned_abs-2.ensures.value, num, den) at c.reduced_parts-size.ensures.den in
    let some : c.args.den ≢ pos 0 = λ e. c.if-den-eq0.false (ap (of_z w128) e) in
    let small = rw size at c.if-size-ge-LIMIT.false in
    let den_small = rw den_size at c.if-den_size-ge-LIMIT.false in
    rw (size, den_size) (IsLowest-reduced (unsigned_abs c.args.num) (unsigned_abs c.args.den) (size_above_zero c.args.den some) small den_small)

pub returns : goal.returns
returns c =
    let num = to_z-of_z w128 c.args.num c.ranges.num in
    let den = to_z-of_z w128 c.args.den c.ranges.den in
    let size = rw (c.unsigned_abs.ensures.value, c.unsigned_abs-2.ensures.value, num, den) at c.reduced_parts-size.ensures.num in
    let den_size = rw (c.unsigned_abs.ensures.value, c.unsigned_abs-2.ensures.value, num, den) at c.reduced_parts-size.ensures.den in
    let some : c.args.den ≢ pos 0 = λ e. c.if-den-eq0.false (ap (of_z w128) e) in
    let small = rw size at c.if-size-ge-LIMIT.false in
    let den_small = rw den_size at c.if-den_size-ge-LIMIT.false in
    let made = rw (num, den, size, den_size) at c.from_parts.ensures in (
      (some, (FitsReduced-is (unsigned_abs c.args.num) (unsigned_abs c.args.den)).1 (small, den_small)),
      made ∙ quotient-parts c.args.num c.args.den some,
    )
