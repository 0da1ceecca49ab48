use Rattle.frac128.proofs.Ordered.{IsAtMost-product, IsAtMost-product_turned, IsBelow-product, IsBelow-product_turned}
use Rattle.frac128.proofs.laws.order_of_products.Goals as goal

pub returns-clause-at_most : goal.returns-clause-at_most
returns-clause-at_most c = IsAtMost-product

pub returns-clause-below : goal.returns-clause-below
returns-clause-below c = IsBelow-product

pub returns-clause-at_most_turned : goal.returns-clause-at_most_turned
returns-clause-at_most_turned c = IsAtMost-product_turned

pub returns-clause-below_turned : goal.returns-clause-below_turned
returns-clause-below_turned c = IsBelow-product_turned
