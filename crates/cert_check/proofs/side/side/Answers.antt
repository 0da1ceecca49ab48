use Rattle.std.proofs.Common.{rules, ◌≡◌, ◌∙◌, List, ◌++◌, Result, Ok}
use Rattle.std.specs.Result.{IsErr}
use Rattle.frac128.specs.Fraction.{Fraction}
use Rattle.frac128.specs.declared.operations.Wide.{Wide}
use Rattle.solve_defs.specs.Looks.{Step, formed}
use Rattle.cert_check.specs.Leaves.{claim_by, low_sides, row_sides, up_sides}
use Rattle.cert_check.proofs.FormedSides.{ends, goes_on}
use Rattle.cert_check.proofs.side.side.Goals as goal

pub returns-in_err-rows : goal.returns-in_err-rows
returns-in_err-rows c =
    let m = c.args.m.now in
    let start = (claim_by m c.args.claim.now).constant in
    let rows : List Step = row_sides m.rows c.args.weights.now.rows in
    let lows : List Step = low_sides c.args.bounds.now c.args.weights.now.lows in
    let ups : List Step = up_sides c.args.bounds.now c.args.weights.now.ups in
    let found = c.from_residual.result in
    let is_err : IsErr found = search rules in
    let own : found ≡ formed start rows = search rules in
    ends start (rows ++ lows) ups found is_err (ends start rows lows found is_err own)

pub returns-in_err-lows : goal.returns-in_err-lows
returns-in_err-lows c =
    let m = c.args.m.now in
    let start = (claim_by m c.args.claim.now).constant in
    let rows : List Step = row_sides m.rows c.args.weights.now.rows in
    let lows : List Step = low_sides c.args.bounds.now c.args.weights.now.lows in
    let ups : List Step = up_sides c.args.bounds.now c.args.weights.now.ups in
    let found = c.from_residual-in_err-lows.result in
    let is_err : IsErr found = search rules in
    let rows_formed : ◌≡◌ {A = Result Fraction Wide} (Ok c.in_ok-rows.rows) (formed start rows) = search rules in
    let own : found ≡ formed c.in_ok-rows.rows lows = search rules in
    ends start (rows ++ lows) ups found is_err (own ∙ goes_on start c.in_ok-rows.rows rows lows rows_formed)

pub returns : goal.returns
returns c =
    let m = c.args.m.now in
    let start = (claim_by m c.args.claim.now).constant in
    let rows : List Step = row_sides m.rows c.args.weights.now.rows in
    let lows : List Step = low_sides c.args.bounds.now c.args.weights.now.lows in
    let ups : List Step = up_sides c.args.bounds.now c.args.weights.now.ups in
    let rows_formed : ◌≡◌ {A = Result Fraction Wide} (Ok c.in_ok-rows.rows) (formed start rows) = search rules in
    let lows_formed : ◌≡◌ {A = Result Fraction Wide} (Ok c.in_ok-lows.lows) (formed c.in_ok-rows.rows lows) = search rules in
    let own : c.with_ups.result ≡ formed c.in_ok-lows.lows ups = search rules in
    own ∙ goes_on start c.in_ok-lows.lows (rows ++ lows) ups (lows_formed ∙ goes_on start c.in_ok-rows.rows rows lows rows_formed)
