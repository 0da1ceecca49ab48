-- The laws of a relaxation, as its dictionaries on the path meet them.
use Rattle.std.proofs.Common.{◌≡◌, sym, ap, subst, ℕ, true, cond, List, [], unwrap_or, Ok}
use Rattle.model_data.specs.Lawful.{IsLawful}
use Rattle.model_data.specs.declared.model.Model.{Model}
use Rattle.model_data.specs.Kept.{HasKeptNumbers}
use Rattle.dictionary.specs.Dictionary.{Dictionary, IsUniform, entry, needs_phase_one, opening}
use Rattle.dictionary.specs.Rule.{entering_column}
use Rattle.dictionary.specs.Solutions.{HasFeasibleConstants, HasReducedNumbers}
use Rattle.dictionary.specs.declared.standard.Std.{Std}
use Rattle.solve_defs.specs.Ends.{farkas_of}
use Rattle.solve_defs.specs.Path.{Path, a_pivot, an_end, artificial, coming, coming_by_rule}
use Rattle.solve_defs.specs.StandardForm.{standard_form}
use Rattle.solve_defs.specs.declared.cut.Cut.{Cut}
use Rattle.solve_defs.specs.declared.solving.LpEnd.TheVariants.{Best, NoPoint, Unbounded}
use Rattle.solve_defs.proofs.FormSizes.{form-uniform}
use Rattle.relaxation_laws.specs.FormEnds.{BestEnd, NoPointEnd, ShowsNoPoint, UnboundedEnd}
use Rattle.relaxation_laws.specs.Reached.{Phase, Reached, at_opening, in_phase_one, in_phase_two}
use Rattle.relaxation_laws.proofs.ByRule.{awaits_none, comes_by_rule}
use Rattle.relaxation_laws.proofs.Ending.{EndsAt, at_best, at_no_point, at_unbounded, ends_at}
use Rattle.relaxation_laws.proofs.FirstStep.{awaits_opening}
use Rattle.relaxation_laws.proofs.FormEnds.{best_point, best_value, best_weights, no_columns_point, no_point_weights, rises_above}
use Rattle.relaxation_laws.proofs.LowestForm.{form_reduced}
use Rattle.relaxation_laws.proofs.Rising.{ray_rises}
use Rattle.relaxation_laws.proofs.Steps.{path_reached}

-- ---- the artificial variable's pivot

pub artificial_there : (s : Std) → needs_phase_one s ≡ true → coming (opening s) ≡ a_pivot artificial
unfolding coming
artificial_there s needed = ap (λ b. cond b (a_pivot artificial) (coming_by_rule (opening s) (entering_column (opening s)))) (awaits_opening s needed)

not_by_rule : (d : Dictionary) {A : Type 0} → HasFeasibleConstants d → coming d ≡ a_pivot artificial → A
not_by_rule d constants comes =
    let ruled = comes_by_rule d artificial (awaits_none d constants) comes in
    let same = ruled.is_column in
    absurd cc

pub artificial_only_first : (s : Std) (d : Dictionary) → Reached s d → coming d ≡ a_pivot artificial → (needs_phase_one s ≡ true) × (d ≡ opening s)
artificial_only_first s d reached comes = by_phase reached.phase
  where
    by_phase : Phase s d → (needs_phase_one s ≡ true) × (d ≡ opening s)
    by_phase (at_opening needed is) = (needed, is)
    by_phase (in_phase_one w h) = not_by_rule d h.constants comes
    by_phase (in_phase_two h) = not_by_rule d h.constants comes

-- ---- the ends

pub best_end : (s : Std) (d : Dictionary) → IsUniform s → HasReducedNumbers s → Reached s d → coming d ≡ an_end Best → BestEnd s d
best_end s d uniform low reached comes = of_end (ends_at s d Best reached comes)
  where
    of_end : EndsAt s d Best → BestEnd s d
    of_end (at_best h falls) = record {
      point = best_point s d low reached.relaxes h falls;
      value = best_value s d reached.relaxes h;
      weights = best_weights s d uniform low reached.relaxes falls;
    }

pub no_point_end : (s : Std) (d : Dictionary) → IsUniform s → HasReducedNumbers s → Reached s d → coming d ≡ an_end NoPoint → NoPointEnd s d
no_point_end s d uniform low reached comes = of_end (ends_at s d NoPoint reached comes)
  where
    of_end : EndsAt s d NoPoint → NoPointEnd s d
    of_end (at_no_point w h falls) = record {
      none = no_columns_point s d w reached.relaxes h falls;
      weights = subst (λ o. ShowsNoPoint s (entry (unwrap_or o []) 0) (farkas_of d)) (sym h.is_w) (no_point_weights s d w uniform low reached.relaxes h falls);
    }

pub unbounded_end : (s : Std) (d : Dictionary) → IsUniform s → HasReducedNumbers s → Reached s d → coming d ≡ an_end Unbounded → UnboundedEnd s d
unbounded_end s d uniform low reached comes = of_end (ends_at s d Unbounded reached comes)
  where
    of_end : EndsAt s d Unbounded → UnboundedEnd s d
    of_end (at_unbounded j h enters free) = record {
      rises = λ n. rises_above s d j n low reached.relaxes h free;
      ray = ray_rises s d j low reached.relaxes h enters free;
    }

-- ---- the model's relaxation

pub model_reached : (m : Model) (cuts : List Cut) (s : Std) (n : ℕ) (d : Dictionary) → IsLawful m → HasKeptNumbers m → standard_form m cuts ≡ Ok s → Path (opening s) n d → Reached s d
model_reached m cuts s n d lawful low form path = path_reached s n d (form-uniform m cuts s lawful form) (form_reduced m cuts s low form) path
