-- In phase one w is bounded, so that some row leaves.
use Rattle.std.proofs.Common.{◌≡◌, ◌≢◌, ◌∙◌, sym, ap, subst, ℕ, zero, suc, ◌<◌, List, length, All, Some, None, option_map, unwrap_or, Ok, arith}
use Rattle.frac128.specs.Fraction.{Fraction, negation, zero_value}
use Rattle.frac128.specs.Order.{IsAtMost, IsBelow}
use Rattle.frac128.proofs.Ordered.{IsAtMost-negation, IsBelow-not}
use Rattle.dictionary.specs.Dictionary.{Dictionary, entry}
use Rattle.dictionary.specs.Rule.{Ratio, entering_column, leaving_row, ratios}
use Rattle.dictionary.specs.Solutions.{HasFeasibleConstants, IsLawful, IsPhaseOne, total_at}
use Rattle.frac128.specs.Lowest.{IsInLowestTerms}
use Rattle.dictionary.proofs.Points.ExactPivot.{same_some}
use Rattle.dictionary.proofs.Points.Chosen.{entering-some, leaving-none}
use Rattle.dictionary.proofs.Points.FreeRise.{along, along-columns, along-feasible, rise_above}
use Rattle.dictionary.proofs.Points.Lawful.{IsWide}
use Rattle.dictionary.proofs.Points.OwnPoint.{constant-wide}
use Rattle.dictionary.proofs.Points.PhaseOne.{auxiliary_all}
use Rattle.frac128.proofs.Sums.{◌⊕◌, ◌⊗◌}
use Rattle.frac128.proofs.Field.{apart_of-zero}

-- w cannot rise without end
not_free : (j : ℕ) (d : Dictionary) (w : List Fraction) → IsLawful d → IsPhaseOne d → HasFeasibleConstants d → d.auxiliary ≡ Some w → j < length d.nonbasic → IsBelow zero_value (entry w (suc j))
    → All (λ row. IsAtMost (entry row (suc j)) zero_value) d.rows → ⊥
not_free j d w lawful phase constants is_w within steep free =
    let wide = auxiliary_all (IsWide (length d.nonbasic)) d w lawful.shape.auxiliary_entries is_w in
    let low = constant-wide (length d.nonbasic) w wide (auxiliary_all (All IsInLowestTerms) d w lawful.reduced.auxiliary is_w) in
    let rise = rise_above (entry w 0) (entry w (suc j)) zero_value low apart_of-zero steep in
    let x = along j rise.value d in
    let feasible = along-feasible j rise.value d lawful constants within free rise.reduced rise.at_least_zero in
    let is_total : Some (total_at d x w) ≡ Some (negation (x 0)) = subst (λ o. option_map (total_at d x) o ≡ Some (negation (x 0))) is_w (phase.is_negation x feasible.solves) in
    let is_sum : total_at d x w ≡ entry w 0 ⊕ entry w (suc j) ⊗ rise.value = ap (λ s. entry w 0 ⊕ s) (along-columns j rise.value d w lawful within wide) in
    IsBelow-not zero_value (negation (x 0)) (subst (IsBelow zero_value) (sym is_sum ∙ same_some is_total) rise.above) (IsAtMost-negation zero_value (x 0) (feasible.at_least_zero 0))

pub some_leaves : (d : Dictionary) (w : List Fraction) (c : ℕ) (rs : List Ratio) → IsLawful d → IsPhaseOne d → HasFeasibleConstants d → d.auxiliary ≡ Some w → entering_column d ≡ Some c → ratios d c ≡ Ok rs → leaving_row rs ≢ None
some_leaves d w zero rs lawful phase constants is_w enters are_ratios none = absurd (let known = entering-some d zero enters in let above = known.above in omega (arith, above))
some_leaves d w (suc j) rs lawful phase constants is_w enters are_ratios none =
    let known = entering-some d (suc j) enters in
    let within = known.within in
    not_free j d w lawful phase constants is_w (omega (arith, within)) (subst (λ o. IsBelow zero_value (entry (unwrap_or o d.objective) (suc j))) is_w known.rise) (leaving-none d (suc j) rs lawful.shape are_ratios none)
