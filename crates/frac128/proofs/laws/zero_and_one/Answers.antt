use Rattle.std.proofs.Common.{◌∙◌}
use Rattle.frac128.specs.Fraction.{inverse}
use Rattle.frac128.proofs.Field.{exact_product-one_left, exact_sum-zero_left, exact_product-one_right, exact_product-zero_left, exact_product-zero_right, exact_sum-zero_right}
use Rattle.frac128.proofs.Kept.{FitsDifference-zero_left, FitsDifference-zero_right, FitsProduct-one_left, FitsProduct-one_right, FitsProduct-zero_left, FitsProduct-zero_right, FitsQuotient-one_right, FitsQuotient-zero_left, FitsSum-zero_left, FitsSum-zero_right, exact_quotient-one_right}
use Rattle.frac128.proofs.laws.zero_and_one.Goals as goal

pub returns-clause-sum : goal.returns-clause-sum
returns-clause-sum c x kept = exact_sum-zero_right x kept.nothing_in_common

pub returns-clause-difference : goal.returns-clause-difference
returns-clause-difference c x kept = exact_sum-zero_right x kept.nothing_in_common

pub returns-clause-product_zero : goal.returns-clause-product_zero
returns-clause-product_zero c = exact_product-zero_right

pub returns-clause-product_one : goal.returns-clause-product_one
returns-clause-product_one c x kept = exact_product-one_right x kept.nothing_in_common

pub returns-clause-quotient_zero : goal.returns-clause-quotient_zero
returns-clause-quotient_zero c x = exact_product-zero_left (inverse x)

pub returns-clause-quotient_one : goal.returns-clause-quotient_one
returns-clause-quotient_one c x kept = exact_quotient-one_right x ∙ exact_product-one_right x kept.nothing_in_common

pub returns-clause-sum_fits : goal.returns-clause-sum_fits
returns-clause-sum_fits c x kept = (FitsSum-zero_right x kept, FitsSum-zero_left x kept)

pub returns-clause-difference_fits : goal.returns-clause-difference_fits
returns-clause-difference_fits c x kept = (FitsDifference-zero_right x kept, FitsDifference-zero_left x kept)

pub returns-clause-product_zero_fits : goal.returns-clause-product_zero_fits
returns-clause-product_zero_fits c x = (FitsProduct-zero_right x, FitsProduct-zero_left x)

pub returns-clause-product_one_fits : goal.returns-clause-product_one_fits
returns-clause-product_one_fits c x kept = (FitsProduct-one_right x kept, FitsProduct-one_left x kept)

pub returns-clause-quotient_zero_fits : goal.returns-clause-quotient_zero_fits
returns-clause-quotient_zero_fits c = FitsQuotient-zero_left

pub returns-clause-quotient_one_fits : goal.returns-clause-quotient_one_fits
returns-clause-quotient_one_fits c = FitsQuotient-one_right

pub returns-clause-sum_left : goal.returns-clause-sum_left
returns-clause-sum_left c x kept = exact_sum-zero_left x kept.nothing_in_common

pub returns-clause-product_one_left : goal.returns-clause-product_one_left
returns-clause-product_one_left c x kept = exact_product-one_left x kept.nothing_in_common
