-- What a relaxation's ends show of its form.
use Rattle.std.specs.Prelude.{replicate}
use Rattle.std.proofs.Common.{◌≡◌, ◌∙◌, refl, sym, ap, subst, ℕ, suc, ◌<◌, List, [], length, slice_index_or, All, unwrap_or, arith, ℤ}
use Rattle.frac128.specs.Fraction.{Fraction, zero_value}
use Rattle.frac128.specs.Order.{IsAtMost, IsBelow}
use Rattle.frac128.specs.Lowest.{IsInLowestTerms}
use Rattle.frac128.proofs.Ordered.{IsBelow-negation}
use Rattle.frac128.proofs.Sums.{◌⊕◌, ◌⊗◌}
use Rattle.dictionary.specs.declared.standard.Std.{Std}
use Rattle.dictionary.specs.Dictionary.{Dictionary, IsUniform, entry}
use Rattle.dictionary.specs.Solutions.{HasNoRise, HasReducedNumbers, IsFeasible, IsLawful, Point, RisesFreely, Solves, objective_at, own_point}
use Rattle.dictionary.proofs.Points.FreeRise.{along, along-absent, along-columns, along-feasible, apart_of-whole, rise_above}
use Rattle.dictionary.proofs.Points.OwnPoint.{objective-reduced, own_point-feasible, own_point-value, total-at_most}
use Rattle.dictionary.proofs.Points.PhaseOne.{auxiliary_all, no_point}
use Rattle.solve_defs.specs.Columns.{HasNoColumnsPoint, IsBestColumnsPoint, IsColumnsPoint, RisesAbove, form_value}
use Rattle.solve_defs.specs.Ends.{dual_of, duals, farkas_of, point_of}
use Rattle.solve_defs.specs.Values.{whole}
use Rattle.relaxation_laws.specs.FormEnds.{AreAtLeastZero, ShowsBest, ShowsNoPoint}
use Rattle.relaxation_laws.specs.FormPoints.{columns_of, form_point}
use Rattle.relaxation_laws.specs.FormWeights.{Prices}
use Rattle.relaxation_laws.specs.Reached.{IsInPhaseOne, IsInPhaseTwo, Relaxes}
use Rattle.relaxation_laws.proofs.Artificial.{basic_constant}
use Rattle.relaxation_laws.proofs.Bridge.{form_point-feasible, form_point-objective, solution_columns, solution_objective}
use Rattle.relaxation_laws.proofs.Ending.{duals_at_least, no_artificial_value, point_is_own, w_prices, z_prices}

-- ---- feasible points of the dictionary and of the form

pub feasible_there : (s : Std) (d : Dictionary) (ys : List Fraction) → Relaxes s d → IsColumnsPoint s ys → IsFeasible d (form_point s ys)
feasible_there s d ys h allowed =
    let feasible = form_point-feasible s ys allowed in
    record { solves = (h.solutions (form_point s ys) refl).1 feasible.solves; at_least_zero = feasible.at_least_zero }

pub feasible_back : (s : Std) (d : Dictionary) (x : Point) → HasReducedNumbers s → Relaxes s d → x 0 ≡ zero_value → IsFeasible d x → IsColumnsPoint s (columns_of s x)
feasible_back s d x low h none feasible = solution_columns s x low record { solves = (h.solutions x none).0 feasible.solves; at_least_zero = feasible.at_least_zero }

pub value_there : (s : Std) (d : Dictionary) (ys : List Fraction) → Relaxes s d → IsColumnsPoint s ys → objective_at d (form_point s ys) ≡ form_value s ys
value_there s d ys h allowed =
    let feasible = feasible_there s d ys h allowed in
    h.objective (form_point s ys) refl feasible.solves ∙ form_point-objective s ys allowed.columns

pub value_back : (s : Std) (d : Dictionary) (x : Point) → Relaxes s d → x 0 ≡ zero_value → Solves d x → form_value s (columns_of s x) ≡ objective_at d x
value_back s d x h none solves = sym (solution_objective s x) ∙ sym (h.objective x none solves)

-- ---- the best point

pub best_value : (s : Std) (d : Dictionary) → Relaxes s d → IsInPhaseTwo d → form_value s (point_of d) ≡ entry d.objective 0
best_value s d h phase =
    let feasible = own_point-feasible d h.lawful phase.constants in
    ap (form_value s) (point_is_own s d h) ∙ value_back s d (own_point d) h (no_artificial_value d h.lawful phase) feasible.solves ∙ own_point-value d h.lawful

pub point_allowed : (s : Std) (d : Dictionary) → HasReducedNumbers s → Relaxes s d → IsInPhaseTwo d → IsColumnsPoint s (point_of d)
point_allowed s d low h phase =
    subst (IsColumnsPoint s) (sym (point_is_own s d h)) (feasible_back s d (own_point d) low h (no_artificial_value d h.lawful phase) (own_point-feasible d h.lawful phase.constants))

pub best_point : (s : Std) (d : Dictionary) → HasReducedNumbers s → Relaxes s d → IsInPhaseTwo d → HasNoRise d.objective → IsBestColumnsPoint s (point_of d)
best_point s d low h phase falls = record {
  allowed = point_allowed s d low h phase;
  none_greater = λ zs allowed.
      let feasible = feasible_there s d zs h allowed in
      subst (λ v. IsAtMost v (form_value s (point_of d))) (value_there s d zs h allowed)
      (subst (IsAtMost (objective_at d (form_point s zs))) (sym (best_value s d h phase)) (total-at_most (form_point s zs) d.nonbasic d.objective (objective-reduced d h.lawful) falls feasible.at_least_zero));
}

pub best_weights : (s : Std) (d : Dictionary) → IsUniform s → HasReducedNumbers s → Relaxes s d → HasNoRise d.objective → ShowsBest s (entry d.objective 0) (dual_of d)
unfolding dual_of
best_weights s d uniform low h falls = record { prices = z_prices s d uniform low h; at_least_zero = let lawful = h.lawful in duals_at_least d d.objective lawful.reduced.objective falls }

-- ---- no point

w_below : (d : Dictionary) (w : List Fraction) → IsLawful d → IsInPhaseOne d w → IsBelow (entry w 0) zero_value
w_below d w lawful h =
    let own = h.artificial in
    subst (λ v. IsBelow v zero_value) (sym (basic_constant own.place d w lawful h.negation h.is_w own.within own.is_artificial)) (IsBelow-negation zero_value (entry (slice_index_or d.rows own.place []) 0) own.above)

pub no_columns_point : (s : Std) (d : Dictionary) (w : List Fraction) → Relaxes s d → IsInPhaseOne d w → HasNoRise w → HasNoColumnsPoint s
no_columns_point s d w h phase falls zs allowed =
    no_point d w (form_point s zs) h.lawful phase.negation phase.is_w falls (w_below d w h.lawful phase) (feasible_there s d zs h allowed) refl

pub no_point_weights : (s : Std) (d : Dictionary) (w : List Fraction) → IsUniform s → HasReducedNumbers s → Relaxes s d → IsInPhaseOne d w → HasNoRise w → ShowsNoPoint s (entry w 0) (farkas_of d)
unfolding farkas_of
no_point_weights s d w uniform low h phase falls =
    let is : duals d (unwrap_or d.auxiliary []) ≡ duals d w = ap (λ o. duals d (unwrap_or o [])) phase.is_w in
    record {
      prices = subst (λ ws. Prices s zero_value (replicate (length s.obj) zero_value) ws (entry w 0)) (sym is) (w_prices s d w uniform low h phase.negation phase.is_w);
      at_least_zero = subst AreAtLeastZero (sym is) (let lawful = h.lawful in duals_at_least d w (auxiliary_all (All IsInLowestTerms) d w lawful.reduced.auxiliary phase.is_w) falls);
      below = w_below d w h.lawful phase;
    }

-- ---- no bound

pub rises_above : (s : Std) (d : Dictionary) (j : ℕ) (n : ℤ) → HasReducedNumbers s → Relaxes s d → IsInPhaseTwo d → RisesFreely (suc j) d → RisesAbove s n
rises_above s d j n low h phase free =
    let lawful = h.lawful in
    let bound = free.within in
    let within : j < length d.nonbasic = omega (arith, bound) in
    let rise = rise_above (entry d.objective 0) (entry d.objective (suc j)) (whole n) (objective-reduced d lawful) (apart_of-whole n) free.rise in
    let x = along j rise.value d in
    let feasible = along-feasible j rise.value d lawful phase.constants within free.free rise.reduced rise.at_least_zero in
    let none : x 0 ≡ zero_value = along-absent j rise.value d lawful within phase.others in
    let value : objective_at d x ≡ entry d.objective 0 ⊕ entry d.objective (suc j) ⊗ rise.value = ap (λ t. entry d.objective 0 ⊕ t) (along-columns j rise.value d d.objective lawful within lawful.shape.objective_entries) in
    record {
      ys = columns_of s x;
      allowed = feasible_back s d x low h none feasible;
      above = subst (IsBelow (whole n)) (sym (value_back s d x h none feasible.solves ∙ value)) rise.above;
    }
