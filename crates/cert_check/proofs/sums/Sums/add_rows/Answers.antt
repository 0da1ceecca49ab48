use Rattle.std.proofs.Common.{rules, ◌≡◌, ◌∙◌, sym, ap, length}
use Rattle.cert_check.specs.Sums.{with_terms}
use Rattle.cert_check.proofs.SumSteps.{length-with_terms, row_more}
use Rattle.cert_check.proofs.sums.Sums.add_rows.Goals as goal

pub loop-w-preserved : goal.loop-w-preserved
loop-w-preserved c =
    let w = c.w-item.result in
    let row = c.item.result.now in
    let made : c.add_row.new.self ≡ with_terms w.weight row.terms c.loop-w.self = search rules in
    record {
      same = sym (row_more c.args.rows.now c.args.weights.now c.loop-w.w-index w row c.loop-w.self c.add_row.new.self c.loop-w-test.true c.w-item.is c.item.ensures made) ∙ c.loop-w.invariant.same;
      sizes = ap length made ∙ length-with_terms w.weight row.terms c.loop-w.self ∙ c.loop-w.invariant.sizes;
    }
