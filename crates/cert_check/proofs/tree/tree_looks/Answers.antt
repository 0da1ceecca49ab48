use Rattle.std.proofs.Common.{rules, ◌≡◌, ◌∙◌, refl, ap, subst, List, [], ◌∷◌, ◌<◌, length, replicate, get_or}
use Rattle.std.specs.Result.{IsErr}
use Rattle.solve_defs.specs.Bounds.{Bounds}
use Rattle.cert_check.specs.Open.{Open, Situation}
use Rattle.cert_check.specs.Sums.{no_sum}
use Rattle.cert_check.specs.Walks.{GoesOn, Leads, ahead}
use Rattle.cert_check.specs.declared.cases.Entry.TheVariants.{Here}
use Rattle.cert_check.specs.declared.tree.Walk.{Walk}
use Rattle.cert_check.proofs.Walked.{begins_underway, found_underway, goes_on_underway}
use Rattle.cert_check.proofs.tree.tree_looks.Goals as goal

pub loop-node-init : goal.loop-node-init
loop-node-init c =
    let m = c.args.m.now in
    let cases = c.in_ok-of.field-0 in
    let sums : c.in_ok-zeros.field-0 ≡ replicate (length m.vars) no_sum = search rules in
    let root : Situation = record { bounds = c.args.bounds.items; entry = Here } in
    let open_is : cases ≡ record { bounds = c.args.bounds.items; later = root ∷ [] } = search rules in
    let walk : Walk = record { cases = cases; sums = c.in_ok-zeros.field-0; leaves = 0; value = c.args.value.now } in
    begins_underway m c.args.value.now c.args.nodes.now walk
    (ap (λ (o : Open). o.later) open_is ∙ ap (λ (bs : List Bounds). record { bounds = bs; entry = Here } ∷ []) c.requires.bounds)
    sums refl refl

pub returns-in_err-node : goal.returns-in_err-node
returns-in_err-node c =
    let m = c.args.m.now in
    let nodes = c.args.nodes.now in
    let i = c.loop-node.node-index in
    let node = c.node-item.result in
    let here = c.loop-node.invariant in
    let old = c.loop-node.walk in
    let found = c.from_residual-in_err-node.result in
    let is_err : IsErr found = search rules in
    let leads : Leads m (λ rest. ahead m old here.subtrees (node ∷ rest)) old c.node.new.self found = search (rules, c.node.ensures here.subtrees here.to_come) in
    found_underway m c.args.value.now nodes i node old c.node.new.self found here is_err c.loop-node-test.true c.node-item.is leads

pub loop-node-preserved : goal.loop-node-preserved
loop-node-preserved c =
    let m = c.args.m.now in
    let i = c.loop-node.node-index in
    let node = c.node-item.result in
    let here = c.loop-node.invariant in
    let old = c.loop-node.walk in
    let new = c.node.new.self in
    let goes : GoesOn m (λ rest. ahead m old here.subtrees (node ∷ rest)) old new =
    subst (Leads m (λ rest. ahead m old here.subtrees (node ∷ rest)) old new) c.in_ok-node.was (c.node.ensures here.subtrees here.to_come) in
    goes_on_underway m c.args.value.now c.args.nodes.now i node old new here c.loop-node-test.true c.node-item.is goes
