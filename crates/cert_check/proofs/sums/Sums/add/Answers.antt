use Rattle.std.proofs.Common.{rules, ◌≡◌, ◌∙◌, sym, ap, subst, length, replicate}
use Rattle.std.proofs.Math.ListN.{length-replicate}
use Rattle.solve_defs.specs.Looks.{minus}
use Rattle.cert_check.specs.Sums.{AreNumbered, no_sum, with_bounds, with_rows}
use Rattle.cert_check.proofs.SumSteps.{length-with_bounds, length-with_rows}
use Rattle.cert_check.proofs.sums.Sums.add.Goals as goal

pub take_lows-requires : goal.take_lows-requires
take_lows-requires c =
    let m = c.args.m.now in
    let ws = c.args.weights.now in
    let rows : c.add_rows.new.self ≡ with_rows m.rows ws.rows (replicate (length m.vars) no_sum) = search rules in
    let many : length c.add_rows.new.self ≡ length m.vars =
    ap length rows ∙ length-with_rows m.rows ws.rows (replicate (length m.vars) no_sum) ∙ length-replicate (length m.vars) no_sum in
    let lows : AreNumbered (length c.add_rows.new.self) ws.lows = subst (λ n. AreNumbered n ws.lows) (sym many) c.requires.weights.lows in
    search (rules, lows)

pub add_ups-requires : goal.add_ups-requires
add_ups-requires c =
    let m = c.args.m.now in
    let ws = c.args.weights.now in
    let rows : c.add_rows.new.self ≡ with_rows m.rows ws.rows (replicate (length m.vars) no_sum) = search rules in
    let lows : c.take_lows.new.self ≡ with_bounds minus ws.lows c.add_rows.new.self = search rules in
    let many : length c.take_lows.new.self ≡ length m.vars =
    ap length lows ∙ length-with_bounds minus ws.lows c.add_rows.new.self ∙ ap length rows
    ∙ length-with_rows m.rows ws.rows (replicate (length m.vars) no_sum) ∙ length-replicate (length m.vars) no_sum in
    let ups : AreNumbered (length c.take_lows.new.self) ws.ups = subst (λ n. AreNumbered n ws.ups) (sym many) c.requires.weights.ups in
    search (rules, ups)
