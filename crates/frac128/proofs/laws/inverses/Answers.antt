use Rattle.frac128.proofs.Field.{exact_product-inverse, exact_quotient-product}
use Rattle.frac128.proofs.laws.inverses.Goals as goal

pub returns-clause-cancel : goal.returns-clause-cancel
returns-clause-cancel c = exact_product-inverse

pub returns-clause-divided_and_multiplied : goal.returns-clause-divided_and_multiplied
returns-clause-divided_and_multiplied c x y kept some = exact_quotient-product x y kept.nothing_in_common some
