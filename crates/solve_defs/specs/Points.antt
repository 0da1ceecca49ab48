-- Points of a model, the best ones among them, and models that have none. Nothing here speaks of how a point is found.
--
-- A point is a list of whole numbers over one denominator that is above 0. All is said by whole numbers alone: values
-- are compared by cross products.
use Rattle.std.specs.Prelude.{◌≡◌, ℕ, ◌*◌, ◌<◌, Bool, IsTrue, List, [], ◌∷◌, map, zip, slice_index_or, All, IfSome, ℤ, pos, ◌+ℤ◌, ◌*ℤ◌, ◌≤ℤ◌, ◌<ℤ◌, unsigned_abs}
use Rattle.std.specs.Int.{◌∣◌}
use Rattle.std.specs.List.{AllZip, Any}
use Rattle.frac128.specs.Fraction.{Fraction, den}
use Rattle.model_data.specs.declared.model.Direction.{Direction}
use Rattle.model_data.specs.declared.model.Direction.TheVariants.{Minimize, Maximize}
use Rattle.model_data.specs.declared.model.Model.{Model}
use Rattle.model_data.specs.declared.model.Row.{Row}
use Rattle.model_data.specs.declared.model.Sense.{Sense}
use Rattle.model_data.specs.declared.model.Sense.TheVariants.{Less, Greater, Equal}
use Rattle.model_data.specs.declared.model.Var.{Var}
use Rattle.model_data.specs.declared.model.VarKind.TheVariants.{Continuous}
use Rattle.model_data.specs.declared.solution.Point.{Point}
use Rattle.solve_defs.specs.Bounds.{Bounds, effective_bounds}
use Rattle.solve_defs.specs.Kinds.{Domain, domain}
use Rattle.solve_defs.specs.declared.cut.Cut.{Cut}

-- ---- quotients of whole numbers

-- num over den, which is above 0, in any terms
pub record Ratio : Type 0 where
  pub num : ℤ
  pub den : ℕ

abbrev pub quotient : ℤ → ℕ → Ratio
quotient n d = record { num = n; den = d }

abbrev pub ratio : Fraction → Ratio
ratio x = quotient x.num (den x)

abbrev pub over : ℕ → Ratio → Ratio
over d x = quotient x.num (x.den * d)

abbrev pub plus : Ratio → Ratio → Ratio
plus x y = quotient (x.num *ℤ pos y.den +ℤ y.num *ℤ pos x.den) (x.den * y.den)

abbrev pub AtMost : Ratio → Ratio → Type 0
AtMost x y = (x.num *ℤ pos y.den) ≤ℤ (y.num *ℤ pos x.den)

abbrev pub Below : Ratio → Ratio → Type 0
Below x y = (x.num *ℤ pos y.den) <ℤ (y.num *ℤ pos x.den)

abbrev pub SameValue : Ratio → Ratio → Type 0
SameValue x y = x.num *ℤ pos y.den ≡ y.num *ℤ pos x.den

-- ---- values at a point

-- a coefficient times a whole number
abbrev pub times : Fraction → ℤ → Ratio
times x n = quotient (x.num *ℤ n) (den x)

-- the sum of each coefficient times its whole number
abbrev pub weighted_sum : List (Fraction × ℤ) → Ratio
weighted_sum [] = quotient (pos 0) 1
weighted_sum (p ∷ ps) = plus (times p.0 p.1) (weighted_sum ps)

-- what a row's terms come to at X / d
abbrev pub row_value : Row → List ℤ → ℕ → Ratio
row_value row X d = over d (weighted_sum (map (λ t. (t.coef, slice_index_or X t.var (pos 0))) row.terms))

-- what the objective comes to at X / d
abbrev pub objective_value : Model → List ℤ → ℕ → Ratio
objective_value m X d = plus (over d (weighted_sum (zip (map (λ v. v.obj) m.vars) X))) (ratio m.constant)

-- ---- feasible points

abbrev pub Compares : Sense → Ratio → Ratio → Type 0
Compares Less x y = AtMost x y
Compares Greater x y = AtMost y x
Compares Equal x y = SameValue x y

-- the row holds at X / d
abbrev pub KeepsRow : List ℤ → ℕ → Row → Type 0
KeepsRow X d row = Compares row.sense (row_value row X d) (ratio row.rhs)

pub record IsWithin (bounds : Bounds) (x : Ratio) : Type 0 where
  pub lower : IfSome bounds.lower (λ l. AtMost (ratio l) x)
  pub upper : IfSome bounds.upper (λ u. AtMost x (ratio u))

-- d divides n, where only whole numbers serve
abbrev pub IsWholeIf : Bool → ℕ → ℤ → Type 0
IsWholeIf whole d n = IsTrue whole → d ∣ unsigned_abs n

-- n / d is a value of the domain
pub record IsIn (domain : Domain) (n : ℤ) (d : ℕ) : Type 0 where
  pub range : Any (λ bounds. IsWithin bounds (quotient n d)) domain.ranges
  pub whole : IsWholeIf domain.whole d n

-- X / d is a point at which each row holds, and which has a value that each variable allows.
pub record IsFeasible (m : Model) (X : List ℤ) (d : ℕ) : Type 0 where
  pub above_zero : 0 < d
  pub rows : All (KeepsRow X d) m.rows
  pub vars : AllZip (λ v n. IsIn (domain v) n d) m.vars X

-- ---- best points

abbrev pub IsBetter : Direction → Ratio → Ratio → Type 0
IsBetter Minimize x y = Below x y
IsBetter Maximize x y = Below y x

-- No feasible point, of any denominator, is better than this one.
pub record IsBest (m : Model) (X : List ℤ) (d : ℕ) : Type 0 where
  pub feasible : IsFeasible m X d
  pub none_better : (Y : List ℤ) (e : ℕ) → IsFeasible m Y e → IsBetter m.direction (objective_value m Y e) (objective_value m X d) → ⊥

abbrev pub HasNoPoint : Model → Type 0
HasNoPoint m = (X : List ℤ) (d : ℕ) → IsFeasible m X d → ⊥

-- a feasible point that is better than a whole number
pub record Passes (m : Model) (n : ℤ) : Type 0 where
  pub X : List ℤ
  pub d : ℕ
  pub feasible : IsFeasible m X d
  pub better : IsBetter m.direction (objective_value m X d) (quotient n 1)

-- no whole number bounds the objective
abbrev pub IsUnbounded : Model → Type 0
IsUnbounded m = (n : ℤ) → Passes m n

-- ---- the model of a node

-- the variables with the bounds as their own, none of them held to whole numbers
abbrev pub relaxed_vars : List Var → List Bounds → List Var
relaxed_vars [] bounds = []
relaxed_vars (v ∷ vars) [] = []
relaxed_vars (v ∷ vars) (b ∷ bounds) = record v { lower = b.lower; upper = b.upper; kind = Continuous } ∷ relaxed_vars vars bounds

-- the model where these cuts hold, without the demand for whole numbers
abbrev pub relaxation : Model → List Cut → Model
relaxation m cuts = record m { vars = relaxed_vars m.vars (effective_bounds m cuts) }

-- ---- points as lists of fractions

-- the fractions are the values of X / d
abbrev pub HasValues : List ℤ → ℕ → List Fraction → Type 0
HasValues X d xs = AllZip (λ n x. SameValue (quotient n d) (ratio x)) X xs

-- The point as a solution keeps it is feasible, and its value is the objective's.
pub record IsFeasiblePoint (m : Model) (p : Point) : Type 0 where
  pub X : List ℤ
  pub d : ℕ
  pub values : HasValues X d p.xs
  pub feasible : IsFeasible m X d
  pub value : SameValue (objective_value m X d) (ratio p.value)

-- It is a best one.
pub record IsBestPoint (m : Model) (p : Point) : Type 0 where
  pub X : List ℤ
  pub d : ℕ
  pub values : HasValues X d p.xs
  pub best : IsBest m X d
  pub value : SameValue (objective_value m X d) (ratio p.value)
