use Rattle.frac128.proofs.Field.{exact_product_assoc, exact_product_comm}
use Rattle.frac128.proofs.Kept.{FitsProduct_comm}
use Rattle.frac128.proofs.laws.products_in_any_order.Goals as goal

pub returns-clause-commute : goal.returns-clause-commute
returns-clause-commute c = exact_product_comm

pub returns-clause-associate : goal.returns-clause-associate
returns-clause-associate c = exact_product_assoc

pub returns-clause-fit : goal.returns-clause-fit
returns-clause-fit c = FitsProduct_comm
