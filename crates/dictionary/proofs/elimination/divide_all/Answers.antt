use Rattle.frac128.specs.Checked.{checked_quotient}
use Rattle.dictionary.proofs.InOrder.{each_onto-nil}
use Rattle.dictionary.proofs.elimination.divide_all.Goals as goal

pub loop-entry-init : goal.loop-entry-init
loop-entry-init c = each_onto-nil (λ x. checked_quotient x c.args.divisor.now) c.args.entries.now
