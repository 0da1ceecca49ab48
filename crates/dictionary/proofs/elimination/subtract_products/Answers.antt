use Rattle.frac128.specs.Checked.{less_product}
use Rattle.dictionary.proofs.InOrder.{each_pair_onto-nil}
use Rattle.dictionary.proofs.elimination.subtract_products.Goals as goal

pub loop-place-init : goal.loop-place-init
loop-place-init c = each_pair_onto-nil (less_product c.args.factor.now) c.args.entries.now c.args.solved.now
