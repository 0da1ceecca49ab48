-- The columns of a relaxation, from its opening on.
use Rattle.std.proofs.Common.{◌≡◌, ◌∙◌, refl, sym, ap, ℕ, suc, List, length}
use Rattle.std.proofs.lemmas.List.{length-map}
use Rattle.frac128.specs.Fraction.{Fraction}
use Rattle.dictionary.specs.Dictionary.{Dictionary, IsUniform, opening}
use Rattle.dictionary.specs.Solutions.{HasReducedNumbers}
use Rattle.dictionary.specs.declared.standard.Std.{Std}
use Rattle.dictionary.proofs.Opened.{length-numbers_from}
use Rattle.model_data.specs.declared.model.Model.{Model}
use Rattle.simplex_rule.specs.OnPath.{IsOnPath}
use Rattle.relaxation_laws.proofs.Steps.{opening_reached, path_reached}
use Rattle.solve_defs.specs.Ends.{point_of, ray_of, structural_count}
use Rattle.solve_defs.specs.Path.{LeadsTo, further}
use Rattle.solve_defs.specs.StandardForm.{column_count, shapes_of}
use Rattle.solve_defs.specs.declared.cut.Cut.{Cut}

pub opening_columns : (m : Model) (cuts : List Cut) (s : Std) (run : Dictionary) → run ≡ opening s → IsUniform s → HasReducedNumbers s
    → length s.obj ≡ column_count (shapes_of m cuts) → structural_count run ≡ column_count (shapes_of m cuts)
opening_columns m cuts s run is uniform low long = let r = opening_reached s uniform low in ap structural_count is ∙ r.relaxes.columns ∙ long

pub pivot_columns : (d e : Dictionary) → IsOnPath d → LeadsTo d e → structural_count e ≡ structural_count d
pivot_columns d e h leads =
    let before = path_reached h.form h.pivots d h.uniform h.lowest h.path in
    let after = path_reached h.form (suc h.pivots) e h.uniform h.lowest (further h.path leads) in
    after.relaxes.columns ∙ sym before.relaxes.columns

pub point_long : (d : Dictionary) (xs : List Fraction) (n : ℕ) → xs ≡ point_of d → structural_count d ≡ n → length xs ≡ n
unfolding point_of
point_long d xs n is long = ap length is ∙ length-map _ _ ∙ length-numbers_from 1 (structural_count d) ∙ long

pub ray_point_long : (d : Dictionary) (n : ℕ) → structural_count d ≡ n → length (ray_of d).point ≡ n
unfolding ray_of
ray_point_long d n long = point_long d (point_of d) n refl long

pub ray_long : (d : Dictionary) (n : ℕ) → structural_count d ≡ n → length (ray_of d).ray ≡ n
unfolding ray_of
ray_long d n long = length-map _ _ ∙ length-numbers_from 1 (structural_count d) ∙ long
