-- The weights of a relaxation that ends come back.
use Rattle.std.proofs.Common.{◌≡◌, All, List, Ok}
use Rattle.model_data.specs.Kept.{HasKeptNumbers}
use Rattle.model_data.specs.Lawful.{IsLawful}
use Rattle.model_data.specs.declared.model.Model.{Model}
use Rattle.model_data.specs.declared.solution.Weights.{Weights}
use Rattle.dictionary.specs.Dictionary.{Dictionary}
use Rattle.dictionary.specs.declared.standard.Std.{Std}
use Rattle.solve_defs.specs.Ends.{dual_of, farkas_of}
use Rattle.solve_defs.specs.KeptCuts.{IsKeptCut}
use Rattle.solve_defs.specs.Path.{an_end, coming}
use Rattle.solve_defs.specs.Relaxations.{IsReached}
use Rattle.solve_defs.specs.StandardForm.{shapes_of, standard_form, weights_back}
use Rattle.solve_defs.specs.declared.cut.Cut.{Cut}
use Rattle.solve_defs.specs.declared.solving.LpEnd.TheVariants.{Best, NoPoint}
use Rattle.relaxation_laws.specs.Reached.{Reached}
use Rattle.relaxation_laws.proofs.Ending.{EndsAt, at_best, at_no_point, ends_at}
use Rattle.relaxation_laws.proofs.Shown.{known}
use Rattle.fit_laws.specs.KeptEntries.{HasKeptEntries}
use Rattle.fit_laws.proofs.Equalities.{best_weights_come, farkas_weights_come}
use Rattle.fit_laws.proofs.KeptForms.{form_fits}
use Rattle.fit_laws.proofs.KeptPath.{dual_fits, farkas_fits, path_fits}

pub end_weights : (m : Model) (cuts : List Cut) (d : Dictionary) → IsLawful m → HasKeptNumbers m → All IsKeptCut cuts → IsReached m cuts d → coming d ≡ an_end Best → (weights : Weights) × (weights_back m (shapes_of m cuts) (dual_of d).ys (dual_of d).reduced ≡ Ok weights)
end_weights m cuts d lawful low fits reached comes =
    let s = reached.form in
    let is = known m cuts d lawful low reached in
    of_end s d (path_fits s reached.pivots d is.uniform is.lowest (form_fits m cuts s low fits reached.is_form) reached.path) is.reached (ends_at s d Best is.reached comes) reached.is_form
  where
    of_end : (s : Std) (d : Dictionary) → HasKeptEntries d → Reached s d → EndsAt s d Best → standard_form m cuts ≡ Ok s → (weights : Weights) × (weights_back m (shapes_of m cuts) (dual_of d).ys (dual_of d).reduced ≡ Ok weights)
    of_end s d kept reached (at_best phase falls) form = best_weights_come m cuts s d form reached.relaxes phase (dual_fits d kept)

pub end_farkas_weights : (m : Model) (cuts : List Cut) (d : Dictionary) → IsLawful m → HasKeptNumbers m → All IsKeptCut cuts → IsReached m cuts d → coming d ≡ an_end NoPoint → (weights : Weights) × (weights_back m (shapes_of m cuts) (farkas_of d).ys (farkas_of d).reduced ≡ Ok weights)
end_farkas_weights m cuts d lawful low fits reached comes =
    let s = reached.form in
    let is = known m cuts d lawful low reached in
    of_end s d (path_fits s reached.pivots d is.uniform is.lowest (form_fits m cuts s low fits reached.is_form) reached.path) is.reached (ends_at s d NoPoint is.reached comes) reached.is_form
  where
    of_end : (s : Std) (d : Dictionary) → HasKeptEntries d → Reached s d → EndsAt s d NoPoint → standard_form m cuts ≡ Ok s → (weights : Weights) × (weights_back m (shapes_of m cuts) (farkas_of d).ys (farkas_of d).reduced ≡ Ok weights)
    of_end s d kept reached (at_no_point w phase falls) form = farkas_weights_come m cuts s d w form reached.relaxes phase (farkas_fits d w phase.is_w kept)
