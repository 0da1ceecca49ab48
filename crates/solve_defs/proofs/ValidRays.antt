-- What a valid ray proves of the model.
use Rattle.std.proofs.Common.{◌≡◌, sym, ⊎_elim, ◌∙◌, refl, arith}
use Rattle.model_data.specs.declared.model.Model.{Model}
use Rattle.model_data.specs.declared.solution.Cert.{Cert}
use Rattle.model_data.specs.declared.solution.Cert.TheVariants.{Nothing, Ray, Tree}
use Rattle.model_data.specs.declared.solution.Outcome.{Outcome}
use Rattle.solve_defs.specs.Certificates.{IsValid, point_looks, ray_looks}
use Rattle.solve_defs.specs.Looks.{Holds}
use Rattle.solve_defs.specs.Points.{IsUnbounded}
use Rattle.solve_defs.specs.declared.status.TheConstants.{INFEASIBLE, OPTIMAL, UNBOUNDED}
use Rattle.solve_defs.proofs.LeafBounds.{All-right}
use Rattle.solve_defs.proofs.Rays.{ray_unbounded}
use Rattle.solve_defs.proofs.ValidTrees.{certificate_fits, needs_nothing, ray_shape, refuted, rest_holds, tree_shape, tree_status}

pub valid_unbounded : (m : Model) (o : Outcome) (cert : Cert) → IsValid m o cert → o.status ≡ UNBOUNDED → IsUnbounded m
valid_unbounded m o Nothing valid unbounded = absurd (refuted needs_nothing o.status UNBOUNDED unbounded refl (certificate_fits m o Nothing valid))
valid_unbounded m o (Ray point ray) valid unbounded =
    let shape = ray_shape m o point ray valid in
    ray_unbounded m point ray shape.long shape.ray_long shape.continuous (All-right Holds (point_looks m o.point) (ray_looks m point ray) (rest_holds m o (Ray point ray) valid))
valid_unbounded m o (Tree nodes) valid unbounded =
    absurd (⊎_elim (λ kept. optimal (sym kept.0 ∙ unbounded)) (λ closed. infeasible (sym closed.0 ∙ unbounded)) (tree_status m o nodes (tree_shape m o nodes valid)))
  where
    optimal : OPTIMAL ≡ UNBOUNDED → ⊥
    optimal e = omega (arith, e)

    infeasible : INFEASIBLE ≡ UNBOUNDED → ⊥
    infeasible e = omega (arith, e)
