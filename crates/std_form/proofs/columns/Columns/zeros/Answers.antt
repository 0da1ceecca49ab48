use Rattle.std.proofs.Common.{◌≡◌, ◌∙◌, ap, ap₂, ℕ, replicate, arith, rules}
use Rattle.solve_defs.specs.StandardForm.{column_count}
use Rattle.frac128.specs.Fraction.{Fraction}
use Rattle.std_form.proofs.Places.{in_order-count}
use Rattle.std_form.proofs.columns.Columns.zeros.Goals as goal

pub returns : goal.returns
returns c =
    let last = in_order-count 0 c.self.inside.placed.items c.self.inside.count c.self.invariant in
    let count : c.self.inside.count ≡ column_count c.args.self.now = omega (arith, last) ∙ ap column_count c.self.view_is in
    let zeros : c.in_ok-vec.field-0.items ≡ replicate c.self.inside.count c.zero.result = search rules in
    zeros ∙ ap₂ (λ (n : ℕ) (z : Fraction). replicate n z) count c.zero.ensures
