-- A path whose operations fit is the exact one.
use Rattle.std.proofs.Common.{◌≡◌, ◌∙◌, refl, sym, ap, subst, ℕ, zero, suc, true, Some, unwrap_or, Ok}
use Rattle.frac128.proofs.Chains.{same_ok, through}
use Rattle.dictionary.specs.Dictionary.{Dictionary, IsUniform, artificial_column, needs_phase_one, opening, pivot}
use Rattle.dictionary.specs.ExactPath.{exact_pivot, exact_ratios}
use Rattle.dictionary.specs.Rule.{leaving_row}
use Rattle.dictionary.specs.Solutions.{HasFeasibleConstants, HasReducedNumbers, IsLawful}
use Rattle.dictionary.specs.declared.standard.Std.{Std}
use Rattle.dictionary.proofs.Points.Exact.{fitting_pivot, fitting_ratios}
use Rattle.dictionary.proofs.Points.FirstPivot.{opening_pivots}
use Rattle.dictionary.proofs.Points.Feasible as feasible
use Rattle.solve_defs.specs.ExactRelaxation.{ExactRelaxation, ExactlyLeadsTo, exact_pivoted}
use Rattle.solve_defs.specs.Path.{LeadsTo, Path, artificial, awaits_artificial, by_rule, next, pivoted, settled}
use Rattle.solve_defs.specs.ExactRelaxation as exact
use Rattle.solve_defs.specs.Path as solving
use Rattle.relaxation_laws.specs.Reached.{Phase, Reached, at_opening, in_phase_one, in_phase_two}
use Rattle.relaxation_laws.proofs.ByRule.{awaits_none, comes_artificial, comes_by_rule, made_by_rule}
use Rattle.relaxation_laws.proofs.FirstStep.{awaits_opening, least_opening}
use Rattle.relaxation_laws.proofs.Steps.{leads_kept, opening_reached}

-- ---- one pivot

rule_fits : (d f : Dictionary) → IsLawful d → HasFeasibleConstants d → LeadsTo d f → ExactlyLeadsTo d f
rule_fits d f lawful constants leads =
    let comes = comes_by_rule d leads.entering (awaits_none d constants) leads.comes in
    let c = comes.column in
    let by = made_by_rule c d f lawful comes.enters comes.bounded (subst (λ entering. next entering d ≡ Ok f) comes.is_column leads.gives) in
    let rule = by.rule in
    let leaves : leaving_row (exact_ratios d c) ≡ Some by.row = subst (λ rs. leaving_row rs ≡ Some by.row) (fitting_ratios d c rule.compared rule.are_ratios) rule.leaves in
    let is_exact : by.pivoted ≡ exact_pivoted (by_rule c) d =
    fitting_pivot by.row c d by.pivoted lawful (feasible.by_rule by.row c d by.pivoted lawful rule) ∙ ap (λ o. exact_pivot (unwrap_or o 0) c d) (sym leaves) in
    record {
      entering = leads.entering;
      comes = leads.comes;
      gives = sym by.is_settled ∙ ap settled (is_exact ∙ ap (λ entering. exact_pivoted entering d) (sym comes.is_column));
    }

first_fits : (s : Std) (f : Dictionary) → IsUniform s → HasReducedNumbers s → needs_phase_one s ≡ true → next artificial (opening s) ≡ Ok f → f ≡ settled (exact_pivoted artificial (opening s))
unfolding next
first_fits s f uniform low needed h =
    let d = opening s in
    let made = through (pivoted artificial d) _ f h in
    let found = least_opening s needed in
    let is_pivot : pivot found.0 (artificial_column d) d ≡ Ok made.value = subst (λ o. pivot (unwrap_or o 0) (artificial_column d) d ≡ Ok made.value) found.1 made.first in
    let before = opening_reached s uniform low in
    let is_exact = fitting_pivot found.0 (artificial_column d) d made.value before.relaxes.lawful (opening_pivots s found.0 made.value uniform low needed found.1 is_pivot) in
    sym (same_ok _ _ made.rest) ∙ ap settled (is_exact ∙ ap (λ o. exact_pivot (unwrap_or o 0) (artificial_column d) d) (sym found.1))

pub leads_exactly : (s : Std) (d f : Dictionary) → IsUniform s → HasReducedNumbers s → Reached s d → LeadsTo d f → ExactlyLeadsTo d f
leads_exactly s d f uniform low reached leads = by_phase reached.phase
  where
    by_phase : Phase s d → ExactlyLeadsTo d f
    by_phase (at_opening needed is) =
        let enters = comes_artificial d leads.entering (ap awaits_artificial is ∙ awaits_opening s needed) leads.comes in
        let gives = first_fits s f uniform low needed (subst (λ e. next artificial e ≡ Ok f) is (subst (λ entering. next entering d ≡ Ok f) enters leads.gives)) in
        record { entering = leads.entering; comes = leads.comes; gives = gives ∙ ap (λ e. settled (exact_pivoted artificial e)) (sym is) ∙ ap (λ entering. settled (exact_pivoted entering d)) (sym enters) }
    by_phase (in_phase_one w h) = rule_fits d f reached.relaxes.lawful h.constants leads
    by_phase (in_phase_two h) = rule_fits d f reached.relaxes.lawful h.constants leads

-- ---- a path

record Walked (s : Std) (n : ℕ) (d : Dictionary) : Type 0 where
  reached : Reached s d
  walked : ExactRelaxation (opening s) n d

walk : (s : Std) (n : ℕ) (d e : Dictionary) → IsUniform s → HasReducedNumbers s → d ≡ opening s → Path d n e → Walked s n e
walk s zero d e uniform low is solving.here = record { reached = subst (Reached s) (sym is) (opening_reached s uniform low); walked = subst (λ f. ExactRelaxation (opening s) zero f) (sym is) exact.here }
walk s (suc n) d f uniform low is (solving.further {e = e} path leads) =
    let before = walk s n d e uniform low is path in
    record { reached = leads_kept s e f uniform low before.reached leads; walked = exact.further before.walked (leads_exactly s e f uniform low before.reached leads) }

pub path_is_exact : (s : Std) (n : ℕ) (d : Dictionary) → IsUniform s → HasReducedNumbers s → Path (opening s) n d → ExactRelaxation (opening s) n d
path_is_exact s n d uniform low path = let all = walk s n (opening s) d uniform low refl path in all.walked
