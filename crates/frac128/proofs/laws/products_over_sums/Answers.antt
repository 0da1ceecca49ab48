use Rattle.frac128.proofs.Field.{exact_product-sum, exact_product-sum_right}
use Rattle.frac128.proofs.laws.products_over_sums.Goals as goal

pub returns-clause-left : goal.returns-clause-left
returns-clause-left c = exact_product-sum

pub returns-clause-right : goal.returns-clause-right
returns-clause-right c = exact_product-sum_right
