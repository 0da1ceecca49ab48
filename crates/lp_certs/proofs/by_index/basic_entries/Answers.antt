use Rattle.std.proofs.Common.{◌≡◌, ◌<◌, ◌≤◌, ◌-◌, ◌∙◌, ap, length, replicate, slice_index, suc, arith, rules}
use Rattle.frac128.specs.Fraction.{zero_value}
use Rattle.dictionary.specs.Dictionary.{entry, numbers_from, row_at}
use Rattle.solve_defs.specs.Ends.{structural_count}
use Rattle.lp_certs.proofs.Indexed.{entries_are, pass_begun, pass_ended, pass_on, row_behind}
use Rattle.lp_certs.proofs.by_index.basic_entries.Goals as goal

pub loop-place-init : goal.loop-place-init
loop-place-init g c =
    let d = g.T.Tableau.meaning c.args.t.now in
    let zeros : c.in_ok-entries.entries.items ≡ replicate (structural_count d) zero_value = search rules in
    zeros ∙ pass_begun (λ k. entry (row_at d.rows (suc k)) c.args.column) d.basic (structural_count d)

pub loop-place-preserved : goal.loop-place-preserved
loop-place-preserved g c =
    let d = g.T.Tableau.meaning c.args.t.now in
    let below : c.loop-place.place < length d.basic = search rules in
    let rows : c.rows.result ≡ length d.basic = search rules in
    let row : c.rows.result - c.loop-place.place ≡ suc (length d.basic - c.loop-place.place - 1) = omega (arith, below, rows) in
    pass_on (λ k. entry (row_at d.rows (suc k)) c.args.column) d.basic (structural_count d) c.loop-place.place _ _ c.loop-place.entries.items c.put.new.values.items below
    (c.basic.ensures ∙ ap (λ n. slice_index d.basic (n - 1)) row ∙ row_behind d.basic (length d.basic - c.loop-place.place - 1))
    (c.entry.ensures.basic (omega (arith, rows)) ∙ ap (λ n. entry (row_at d.rows n) c.args.column) row)
    c.loop-place.invariant c.put.ensures

pub returns : goal.returns
returns g c =
    let d = g.T.Tableau.meaning c.args.t.now in
    let past : length d.basic ≤ c.loop-place.place = search rules in
    pass_ended (λ k. entry (row_at d.rows (suc k)) c.args.column) d.basic (structural_count d) c.loop-place.place c.loop-place.entries.items past c.loop-place.invariant
    ∙ entries_are d c.args.column (numbers_from 1 (structural_count d))
