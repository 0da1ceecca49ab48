-- Today's kinds allow one range: a point is feasible where it is within all bounds, and whole for each integer variable.
use Rattle.std.proofs.Common.{◌≡◌, refl, ap, ap₂, subst, ℕ, zero, suc, ◌+◌, ◌<◌, ℤ, true, false, ◌||◌, not, List, [], ◌∷◌, map, zip, All, arith}
use Rattle.std.specs.List.{AllZip, Any, enumerate_from}
use Rattle.std.proofs.Math.Bool.{or-false}
use Rattle.frac128.specs.Fraction.{Fraction}
use Rattle.model_data.specs.Size.{is_integer}
use Rattle.model_data.specs.declared.model.Model.{Model}
use Rattle.model_data.specs.declared.model.Var.{Var}
use Rattle.model_data.specs.declared.model.VarKind.{VarKind}
use Rattle.model_data.specs.declared.model.VarKind.TheVariants.{Continuous, Integer, Binary}
use Rattle.solve_defs.specs.Bounds.{Bounds, bounds_from, effective_bounds, own_bounds}
use Rattle.solve_defs.specs.Certificates.{is_in_range, is_within, look_at, point_bound, point_integer}
use Rattle.solve_defs.specs.Kinds.{domain, domain_of, is_continuous}
use Rattle.solve_defs.specs.Looks.{Look}
use Rattle.solve_defs.specs.Points.{IsFeasible, IsIn, IsWholeIf, IsWithin, KeepsRow, quotient}
use Rattle.solve_defs.specs.Values.{is_whole}
use Rattle.solve_defs.specs.declared.verdict.Place.TheVariants.{PointBound, PointInteger}

pub one_range : (kind : VarKind) (bounds : Bounds) → (domain_of kind bounds).ranges ≡ bounds ∷ []
one_range Continuous bounds = refl
one_range Integer bounds = refl
one_range Binary bounds = refl

pub whole_kind : (kind : VarKind) (bounds : Bounds) → (domain_of kind bounds).whole ≡ is_integer kind
whole_kind Continuous bounds = refl
whole_kind Integer bounds = refl
whole_kind Binary bounds = refl

pub continuous_kind : (kind : VarKind) → is_continuous kind ≡ true → is_integer kind ≡ false
continuous_kind Continuous is = refl
continuous_kind Integer is = absurd (cc)
continuous_kind Binary is = absurd (cc)

-- ---- points

any_one : (P : Bounds → Type 0) (b : Bounds) → Any P (b ∷ []) → P b
any_one P b (zero, x, inside, is, holds) = subst P (sym_of b x is) holds
  where
    sym_of : (b x : Bounds) → b ≡ x → x ≡ b
    sym_of b x is = cc
any_one P b (suc k, x, inside, is, holds) = absurd (omega (arith, inside))

one_any : (P : Bounds → Type 0) (b : Bounds) → P b → Any P (b ∷ [])
one_any P b holds = (0, b, omega arith, refl, holds)

within_of : (v : Var) (n : ℤ) (d : ℕ) → IsIn (domain v) n d → IsWithin (own_bounds v) (quotient n d)
within_of v n d is = any_one (λ b. IsWithin b (quotient n d)) (own_bounds v) (subst (Any (λ b. IsWithin b (quotient n d))) (one_range v.kind (own_bounds v)) is.range)

whole_of : (v : Var) (n : ℤ) (d : ℕ) → IsIn (domain v) n d → IsWholeIf (is_integer v.kind) d n
whole_of v n d is = subst (λ whole. IsWholeIf whole d n) (whole_kind v.kind (own_bounds v)) is.whole

in_domain : (v : Var) (n : ℤ) (d : ℕ) → IsWithin (own_bounds v) (quotient n d) → IsWholeIf (is_integer v.kind) d n → IsIn (domain v) n d
in_domain v n d within whole = record {
  range = subst (Any (λ b. IsWithin b (quotient n d))) (back (domain v).ranges (own_bounds v ∷ []) (one_range v.kind (own_bounds v)))
      (one_any (λ b. IsWithin b (quotient n d)) (own_bounds v) within);
  whole = subst (λ w. IsWholeIf w d n) (back (domain v).whole (is_integer v.kind) (whole_kind v.kind (own_bounds v))) whole;
}
  where
    back : {A : Type 0} (x y : A) → x ≡ y → y ≡ x
    back x y is = cc

within_all : (place : ℕ) (vars : List Var) (X : List ℤ) (d : ℕ) → AllZip (λ v n. IsIn (domain v) n d) vars X → AllZip (λ b n. IsWithin b (quotient n d)) (bounds_from place vars []) X
within_all place [] [] d each = tt
within_all place [] (n ∷ X) d each = absurd each
within_all place (v ∷ vars) [] d each = absurd each
within_all place (v ∷ vars) (n ∷ X) d each = (within_of v n d each.0, within_all (suc place) vars X d each.1)

whole_all : (vars : List Var) (X : List ℤ) (d : ℕ) → AllZip (λ v n. IsIn (domain v) n d) vars X → AllZip (λ v n. IsWholeIf (is_integer v.kind) d n) vars X
whole_all [] [] d each = tt
whole_all [] (n ∷ X) d each = absurd each
whole_all (v ∷ vars) [] d each = absurd each
whole_all (v ∷ vars) (n ∷ X) d each = (whole_of v n d each.0, whole_all vars X d each.1)

all_in : (place : ℕ) (vars : List Var) (X : List ℤ) (d : ℕ) → AllZip (λ b n. IsWithin b (quotient n d)) (bounds_from place vars []) X
    → AllZip (λ v n. IsWholeIf (is_integer v.kind) d n) vars X → AllZip (λ v n. IsIn (domain v) n d) vars X
all_in place [] [] d within whole = tt
all_in place [] (n ∷ X) d within whole = absurd whole
all_in place (v ∷ vars) [] d within whole = absurd whole
all_in place (v ∷ vars) (n ∷ X) d within whole = (in_domain v n d within.0 whole.0, all_in (suc place) vars X d within.1 whole.1)

pub feasible_within : (m : Model) (X : List ℤ) (d : ℕ) → IsFeasible m X d → AllZip (λ b n. IsWithin b (quotient n d)) (effective_bounds m []) X
feasible_within m X d feasible = within_all 0 m.vars X d feasible.vars

pub feasible_whole : (m : Model) (X : List ℤ) (d : ℕ) → IsFeasible m X d → AllZip (λ v n. IsWholeIf (is_integer v.kind) d n) m.vars X
feasible_whole m X d feasible = whole_all m.vars X d feasible.vars

pub feasible_from : (m : Model) (X : List ℤ) (d : ℕ) → 0 < d → All (KeepsRow X d) m.rows → AllZip (λ b n. IsWithin b (quotient n d)) (effective_bounds m []) X
    → AllZip (λ v n. IsWholeIf (is_integer v.kind) d n) m.vars X → IsFeasible m X d
feasible_from m X d above_zero rows within whole = record { above_zero = above_zero; rows = rows; vars = all_in 0 m.vars X d within whole }

-- ---- looks

abbrev pub within_look : ℕ × (Bounds × Fraction) → Look
within_look (number, p) = look_at (PointBound number) (is_within p.0 p.1)

abbrev pub whole_look : ℕ × (Var × Fraction) → Look
whole_look (number, p) = look_at (PointInteger number) (not (is_integer p.0.kind) || is_whole p.1)

pub bound_look : (number : ℕ) (v : Var) (x : Fraction) → point_bound (number, (v, x)) ≡ within_look (number, (own_bounds v, x))
bound_look number v x = ap (look_at (PointBound number)) (by_kind v.kind (own_bounds v))
  where
    by_kind : (kind : VarKind) (b : Bounds) → is_in_range (domain_of kind b) x ≡ is_within b x
    by_kind Continuous b = or-false (is_within b x)
    by_kind Integer b = or-false (is_within b x)
    by_kind Binary b = or-false (is_within b x)

pub bound_looks : (place number : ℕ) (vars : List Var) (xs : List Fraction)
    → map point_bound (enumerate_from number (zip vars xs)) ≡ map within_look (enumerate_from number (zip (bounds_from place vars []) xs))
bound_looks place number [] xs = refl
bound_looks place number (v ∷ vars) [] = refl
bound_looks place number (v ∷ vars) (x ∷ xs) = ap₂ (λ look looks. look ∷ looks) (bound_look number v x) (bound_looks (suc place) (number + 1) vars xs)

pub integer_looks : (number : ℕ) (vars : List Var) (xs : List Fraction) → map point_integer (enumerate_from number (zip vars xs)) ≡ map whole_look (enumerate_from number (zip vars xs))
integer_looks number [] xs = refl
integer_looks number (v ∷ vars) [] = refl
integer_looks number (v ∷ vars) (x ∷ xs) =
    ap₂ (λ look looks. look ∷ looks) (ap (λ whole. look_at (PointInteger number) (not whole || is_whole x)) (whole_kind v.kind (own_bounds v))) (integer_looks (number + 1) vars xs)
