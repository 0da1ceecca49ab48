-- What each relaxation shows at its end.
use Rattle.std.proofs.Common.{◌≡◌, ap, ap₂, refl, sym, subst, List, [], Ok}
use Rattle.frac128.specs.Fraction.{Fraction}
use Rattle.model_data.specs.Lawful.{IsLawful}
use Rattle.model_data.specs.declared.model.Model.{Model}
use Rattle.model_data.specs.declared.solution.Point.{Point}
use Rattle.model_data.specs.Kept.{HasKeptNumbers}
use Rattle.dictionary.specs.Dictionary.{Dictionary, IsUniform, entry}
use Rattle.dictionary.specs.Solutions.{HasReducedNumbers}
use Rattle.dictionary.specs.declared.standard.Std.{Std}
use Rattle.solve_defs.specs.Points.{IsBestPoint, relaxation}
use Rattle.solve_defs.specs.Ends.{dual_of, farkas_of, point_of, ray_of}
use Rattle.solve_defs.specs.Path.{an_end, coming}
use Rattle.solve_defs.specs.StandardForm.{point_back, shapes_of}
use Rattle.solve_defs.specs.Values.{turned}
use Rattle.solve_defs.specs.declared.cut.Cut.{Cut}
use Rattle.solve_defs.specs.declared.solving.LpEnd.TheVariants.{Best}
use Rattle.solve_defs.specs.Relaxations.{IsReached, RelaxationLaw}
use Rattle.solve_defs.proofs.FormEnds.{best_columns, unbounded_columns}
use Rattle.solve_defs.proofs.FormLaw.{point_back_is_exact}
use Rattle.solve_defs.proofs.FormSizes.{form-uniform}
use Rattle.relaxation_laws.specs.Reached.{Reached}
use Rattle.relaxation_laws.proofs.Back.{bound_back, farkas_back}
use Rattle.relaxation_laws.proofs.BackRay.{ray_holds}
use Rattle.relaxation_laws.proofs.LowestForm.{form_reduced}
use Rattle.relaxation_laws.proofs.Whole.{best_end, model_reached, no_point_end, unbounded_end}

-- ---- what is known of a relaxation under way

pub record Known (s : Std) (d : Dictionary) : Type 0 where
  pub uniform : IsUniform s
  pub lowest : HasReducedNumbers s
  pub reached : Reached s d

pub known : (m : Model) (cuts : List Cut) (d : Dictionary) → IsLawful m → HasKeptNumbers m → (reached : IsReached m cuts d) → Known reached.form d
known m cuts d lawful low reached =
    let s = reached.form in
    record {
      uniform = form-uniform m cuts s lawful reached.is_form;
      lowest = form_reduced m cuts s low reached.is_form;
      reached = model_reached m cuts s reached.pivots d lawful low reached.is_form reached.path;
    }

-- ---- each end

best_shown : (m : Model) (cuts : List Cut) (d : Dictionary) (xs : List Fraction) → IsLawful m → HasKeptNumbers m → IsReached m cuts d → coming d ≡ an_end Best → point_back (shapes_of m cuts) (point_of d) ≡ Ok xs
    → IsBestPoint (relaxation m cuts) record { xs = xs; value = turned m.direction (entry d.objective 0) }
best_shown m cuts d xs lawful low reached comes made =
    let s = reached.form in
    let is = known m cuts d lawful low reached in
    let ends = best_end s d is.uniform is.lowest is.reached comes in
    subst (IsBestPoint (relaxation m cuts)) (ap₂ with_value (sym (point_back_is_exact (shapes_of m cuts) (point_of d) xs made)) (ap (turned m.direction) ends.value))
    (best_columns m cuts s (point_of d) lawful reached.is_form ends.point)
  where
    with_value : List Fraction → Fraction → Point
    with_value ys value = record { xs = ys; value = value }

-- What is asked of relaxations holds of each one.
pub relaxation_law : (m : Model) → IsLawful m → HasKeptNumbers m → RelaxationLaw m
relaxation_law m lawful low = record {
  point = λ cuts d xs. best_shown m cuts d xs lawful low;
  bound = λ cuts d weights reached comes made.
      let s = reached.form in
      let is = known m cuts d lawful low reached in
      bound_back m cuts s (entry d.objective 0) (dual_of d) weights lawful reached.is_form (best_end s d is.uniform is.lowest is.reached comes).weights made;
  no_point = λ cuts d weights reached comes made.
      let s = reached.form in
      let is = known m cuts d lawful low reached in
      farkas_back m cuts s _ (farkas_of d) weights lawful reached.is_form (no_point_end s d is.uniform is.lowest is.reached comes).weights made;
  unbounded = λ cuts d reached comes.
      let s = reached.form in
      let is = known m cuts d lawful low reached in
      unbounded_columns m cuts s lawful reached.is_form (unbounded_end s d is.uniform is.lowest is.reached comes).rises;
  ray = λ d xs ray reached comes made also.
      let s = reached.form in
      let is = known m [] d lawful low reached in
      ray_holds m [] s (ray_of d) xs ray lawful refl reached.is_form (unbounded_end s d is.uniform is.lowest is.reached comes).ray made also;
}
