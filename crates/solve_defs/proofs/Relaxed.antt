-- What the relaxation of a model has of it, and what holds at a feasible point of it.
use Rattle.std.proofs.Common.{◌≡◌, refl, ◌∙◌, ap, ap₂, subst, ℕ, zero, suc, ◌<◌, ℤ, pos, List, [], ◌∷◌, map, length, Option, Some, None, IfSome, All, arith}
use Rattle.std.specs.Prelude.{slice_get, slice_index_or}
use Rattle.std.specs.List.{AllZip}
use Rattle.std.proofs.lemmas.List.Elements.{All-head, All-tail}
use Rattle.std.proofs.lemmas.Slice.Zip.{AllZip-long}
use Rattle.frac128.specs.Fraction.{Fraction}
use Rattle.model_data.specs.declared.model.Model.{Model}
use Rattle.model_data.specs.declared.model.Var.{Var}
use Rattle.model_data.specs.declared.model.VarKind.TheVariants.{Continuous}
use Rattle.solve_defs.specs.Bounds.{Bounds, bounds_from, effective_bounds, greater_bound, lesser_bound, own_bounds}
use Rattle.solve_defs.specs.Certificates.{nth}
use Rattle.solve_defs.specs.Points.{IsFeasible, IsWithin, quotient, relaxation, relaxed_vars}
use Rattle.solve_defs.specs.declared.cut.Cut.{Cut}
use Rattle.solve_defs.proofs.Domains.{feasible_within}

-- ---- the relaxation

pub length-bounds_from : (place : ℕ) (vars : List Var) (cuts : List Cut) → length (bounds_from place vars cuts) ≡ length vars
length-bounds_from place [] cuts = refl
length-bounds_from place (v ∷ vars) cuts = ap suc (length-bounds_from (suc place) vars cuts)

no_greater : (bound : Option Fraction) → greater_bound bound None ≡ bound
no_greater None = refl
no_greater (Some x) = refl

no_lesser : (bound : Option Fraction) → lesser_bound bound None ≡ bound
no_lesser None = refl
no_lesser (Some x) = refl

bounds_of : Option Fraction → Option Fraction → Bounds
bounds_of lower upper = record { lower = lower; upper = upper }

own_relaxed : (v : Var) (b : Bounds) → own_bounds (record v { lower = b.lower; upper = b.upper; kind = Continuous }) ≡ b
unfolding bounds_of
own_relaxed v b = ap₂ bounds_of (no_greater b.lower) (no_lesser b.upper)

-- The bounds of the relaxed variables are those that they were given.
bounds_relaxed : (place : ℕ) (vars : List Var) (bounds : List Bounds) → length bounds ≡ length vars → bounds_from place (relaxed_vars vars bounds) [] ≡ bounds
bounds_relaxed place [] [] same = refl
bounds_relaxed place [] (b ∷ bounds) same = absurd (omega (arith, same))
bounds_relaxed place (v ∷ vars) [] same = absurd (omega (arith, same))
bounds_relaxed place (v ∷ vars) (b ∷ bounds) same =
    ap₂ (λ c cs. c ∷ cs) (own_relaxed v b) (bounds_relaxed (suc place) vars bounds (omega (arith, same)))

pub effective_bounds-relaxation : (m : Model) (cuts : List Cut) → effective_bounds (relaxation m cuts) [] ≡ effective_bounds m cuts
effective_bounds-relaxation m cuts = bounds_relaxed 0 m.vars (effective_bounds m cuts) (length-bounds_from 0 m.vars cuts)

objective_relaxed : (vars : List Var) (bounds : List Bounds) → length bounds ≡ length vars → map (λ v. v.obj) (relaxed_vars vars bounds) ≡ map (λ v. v.obj) vars
objective_relaxed [] [] same = refl
objective_relaxed [] (b ∷ bounds) same = absurd (omega (arith, same))
objective_relaxed (v ∷ vars) [] same = absurd (omega (arith, same))
objective_relaxed (v ∷ vars) (b ∷ bounds) same = ap (λ xs. v.obj ∷ xs) (objective_relaxed vars bounds (omega (arith, same)))

-- the objective's coefficients are the model's
pub objective-relaxation : (m : Model) (cuts : List Cut) → map (λ v. v.obj) (relaxation m cuts).vars ≡ map (λ v. v.obj) m.vars
objective-relaxation m cuts = objective_relaxed m.vars (effective_bounds m cuts) (length-bounds_from 0 m.vars cuts)

-- ---- by places

pub All-slice_get : {A : Type 0} (P : A → Type 0) (xs : List A) (i : ℕ) → All P xs → IfSome (slice_get xs i) P
All-slice_get P [] i each = tt
All-slice_get P (x ∷ xs) zero each = All-head P x xs each
All-slice_get P (x ∷ xs) (suc i) each = All-slice_get P xs i (All-tail P x xs each)

pub All-nth : {A : Type 0} (P : A → Type 0) (xs : List A) (i : ℕ) → All P xs → IfSome (nth xs i) P
All-nth P xs zero each = tt
All-nth P xs (suc i) each = All-slice_get P xs i each

-- a variable's value is within its bounds
pub record IsWithinAt (n : ℕ) (X : List ℤ) (d v : ℕ) (b : Bounds) : Type 0 where
  pub place : v < n
  pub within : IsWithin b (quotient (slice_index_or X v (pos 0)) d)

within_at : (bounds : List Bounds) (X : List ℤ) (d v : ℕ) → AllZip (λ b n. IsWithin b (quotient n d)) bounds X → IfSome (slice_get bounds v) (IsWithinAt (length bounds) X d v)
within_at [] X d v each = tt
within_at (b ∷ bounds) [] d v each = absurd each
within_at (b ∷ bounds) (n ∷ X) d zero each = record { place = omega arith; within = each.0 }
within_at (b ∷ bounds) (n ∷ X) d (suc v) each = further (slice_get bounds v) (within_at bounds X d v each.1)
  where
    further : (o : Option Bounds) → IfSome o (IsWithinAt (length bounds) X d v) → IfSome o (IsWithinAt (length (b ∷ bounds)) (n ∷ X) d (suc v))
    further None h = tt
    further (Some c) h = let before = h.place in record { place = omega (arith, before); within = h.within }

-- ---- feasible points

bounds_of_point : (m : Model) (cuts : List Cut) (X : List ℤ) (d : ℕ) → IsFeasible (relaxation m cuts) X d → AllZip (λ b n. IsWithin b (quotient n d)) (effective_bounds m cuts) X
bounds_of_point m cuts X d feasible = subst (λ bounds. AllZip (λ b n. IsWithin b (quotient n d)) bounds X) (effective_bounds-relaxation m cuts) (feasible_within (relaxation m cuts) X d feasible)

pub point_within : (m : Model) (cuts : List Cut) (X : List ℤ) (d v : ℕ) → IsFeasible (relaxation m cuts) X d
    → IfSome (slice_get (effective_bounds m cuts) v) (IsWithinAt (length m.vars) X d v)
point_within m cuts X d v feasible =
    subst (λ n. IfSome (slice_get (effective_bounds m cuts) v) (IsWithinAt n X d v)) (length-bounds_from 0 m.vars cuts)
    (within_at (effective_bounds m cuts) X d v (bounds_of_point m cuts X d feasible))

pub point_long : (m : Model) (cuts : List Cut) (X : List ℤ) (d : ℕ) → IsFeasible (relaxation m cuts) X d → length X ≡ length m.vars
point_long m cuts X d feasible =
    AllZip-long (λ b n. IsWithin b (quotient n d)) (effective_bounds m cuts) X (bounds_of_point m cuts X d feasible) ∙ length-bounds_from 0 m.vars cuts
