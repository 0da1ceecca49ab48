use Rattle.std.proofs.Common.{◌≡◌, ◌<◌, ◌≤◌, ◌-◌, ◌+◌, ◌∙◌, ap, length, map, replicate, slice_index, suc, arith, rules}
use Rattle.frac128.specs.Fraction.{negation, zero_value}
use Rattle.dictionary.specs.Dictionary.{entry, numbers_from}
use Rattle.solve_defs.specs.Ends.{structural_count, weight_of}
use Rattle.lp_certs.specs.ByIndex.{line_at}
use Rattle.lp_certs.proofs.Indexed.{pass_begun, pass_ended, pass_on, row_behind, weights_are}
use Rattle.lp_certs.proofs.by_index.weights.Goals as goal

pub loop-place-init : goal.loop-place-init
loop-place-init g c =
    let d = g.T.Tableau.meaning c.args.t.now in
    let zeros : c.in_ok-weights.weights.items ≡ replicate (c.structural_count.result + c.rows.result) zero_value = search rules in
    zeros ∙ pass_begun (λ k. negation (entry (line_at d c.args.line) (suc k))) d.nonbasic _

pub loop-place-preserved : goal.loop-place-preserved
loop-place-preserved g c =
    let d = g.T.Tableau.meaning c.args.t.now in
    let below : c.loop-place.place < length d.nonbasic = search rules in
    let cols : c.cols.result ≡ length d.nonbasic = search rules in
    let column : c.cols.result - c.loop-place.place ≡ suc (length d.nonbasic - c.loop-place.place - 1) = omega (arith, below, cols) in
    pass_on (λ k. negation (entry (line_at d c.args.line) (suc k))) d.nonbasic _ c.loop-place.place _ _ c.loop-place.weights.items c.put.new.values.items below
    (c.nonbasic.ensures ∙ ap (λ n. slice_index d.nonbasic (n - 1)) column ∙ row_behind d.nonbasic (length d.nonbasic - c.loop-place.place - 1))
    (c.neg.ensures ∙ ap negation (c.line_entry.ensures ∙ ap (entry (line_at d c.args.line)) column))
    c.loop-place.invariant c.put.ensures

pub returns : goal.returns
returns g c =
    let d = g.T.Tableau.meaning c.args.t.now in
    let past : length d.nonbasic ≤ c.loop-place.place = search rules in
    let count : c.structural_count.result + c.rows.result ≡ structural_count d + length d.basic = search rules in
    pass_ended (λ k. negation (entry (line_at d c.args.line) (suc k))) d.nonbasic _ c.loop-place.place c.loop-place.weights.items past c.loop-place.invariant
    ∙ weights_are d (line_at d c.args.line) (numbers_from 1 (c.structural_count.result + c.rows.result))
    ∙ ap (λ n. map (weight_of d (line_at d c.args.line)) (numbers_from 1 n)) count
