use Rattle.std.proofs.Common.{◌≡◌, ◌∙◌, ap, arith, ℕ, []}
use Rattle.node_sched.specs.Asked.{nothing_on}
use Rattle.node_sched.specs.Schedule.{lines_of}
use Rattle.node_sched.proofs.Fresh.{first_are_opened, first_nodes, fresh, fresh_schedule}
use Rattle.node_sched.proofs.nodes.Nodes.new.Goals as goal

pub invariant_of-result : goal.invariant_of-result
invariant_of-result c =
    let all : c.loop-before.before ≡ c.args.count = omega (arith, c.loop-before-test.false, c.loop-before.auto.before-end) in
    fresh c.new.result c.new-2.result c.loop-before.lines.items c.args.count c.args.limit c.args.hard c.new.ensures c.new-2.ensures (c.loop-before.invariant ∙ ap (λ (n : ℕ). lines_of [] (first_nodes n c.args.limit c.args.hard)) all)

pub returns : goal.returns
returns c k limit hard =
    let all : c.loop-before.before ≡ c.args.count = omega (arith, c.loop-before-test.false, c.loop-before.auto.before-end) in
    fresh_schedule c.new.result c.new-2.result c.loop-before.lines.items c.args.count c.args.limit c.args.hard c.new.ensures c.new-2.ensures (c.loop-before.invariant ∙ ap (λ (n : ℕ). lines_of [] (first_nodes n c.args.limit c.args.hard)) all)
    ∙ ap nothing_on (first_are_opened k c.args.count c.args.limit c.args.hard limit hard)
