use Rattle.std.proofs.Common.{◌∙◌, sym, rules}
use Rattle.enough_limits.proofs.Leaves.{leaves_next, range_told}
use Rattle.enough_limits.proofs.Products.{nodes_above, over_as_well}
use Rattle.enough_limits.proofs.nodes.node_bound.Goals as goal

pub loop-var-preserved : goal.loop-var-preserved
loop-var-preserved c = record {
  most = c.times-leaves.ensures.most;
  leaves =
      leaves_next c.args.m.now c.loop-var.var-index c.var-item.result c.loop-var.leaves c.times-leaves.result c.in-Some.range c.loop-var.invariant.leaves
      (search rules) (search rules) (range_told c.var-item.result c.in-Some.range (sym c.range.ensures ∙ c.in-Some.is)) c.times-leaves.ensures.value;
}

pub returns-in-None-clause-over : goal.returns-in-None-clause-over
returns-in-None-clause-over c = λ _.
    over_as_well c.args.m.now (nodes_above c.args.m.now c.loop-var.var-index c.loop-var.leaves c.loop-var.invariant.leaves c.in-None.is)
