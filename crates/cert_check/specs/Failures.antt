-- What a check finds first: a look that doesn't hold, or an operation that doesn't fit. Sums are exact here, so nothing depends on
-- how a check goes about it.
use Rattle.std.specs.Prelude.{◌≡◌, ◌⊎◌, List, ◌∷◌, [], ◌++◌, All}
use Rattle.frac128.specs.Fits.{FitsDifference, FitsProduct, FitsSum}
use Rattle.frac128.specs.Fraction.{Fraction, exact_product}
use Rattle.frac128.specs.declared.operations.Op.TheVariants.{Add, Mul, Sub}
use Rattle.frac128.specs.declared.operations.Wide.{Wide}
use Rattle.solve_defs.specs.Looks.{Holds, Look, Step, minus, minus_times, moved, plus, plus_times, total_of}
use Rattle.solve_defs.specs.declared.verdict.Place.{Place}

-- ---- operations that fit

-- each operation of the step fits, where this is the sum so far
abbrev pub StepFits : Fraction → Step → Type 0
StepFits total (plus x) = FitsSum total x
StepFits total (minus x) = FitsDifference total x
StepFits total (plus_times x y) = FitsProduct x y × FitsSum total (exact_product x y)
StepFits total (minus_times x y) = FitsProduct x y × FitsDifference total (exact_product x y)

abbrev pub StepsFit : Fraction → List Step → Type 0
StepsFit total [] = Unit
StepsFit total (step ∷ steps) = StepFits total step × StepsFit (moved total step) steps

-- each operation of the look fits
abbrev pub Fits : Look → Type 0
Fits look = StepsFit look.start look.steps

-- it fits, and it holds
abbrev pub Passes : Look → Type 0
Passes look = Fits look × Holds look

-- ---- what fails

-- it fits, is at this place, and doesn't hold
pub record FailsAt (place : Place) (look : Look) : Type 0 where
  pub here : look.place ≡ place
  pub fits : Fits look
  pub fails : Holds look → ⊥

-- the sum so far doesn't take x, or doesn't give it
abbrev pub RefusesSum : Fraction → Fraction → Wide → Type 0
RefusesSum total x wide = (FitsSum total x → ⊥) × (wide ≡ record { op = Add; left = total; right = x })

abbrev pub RefusesDifference : Fraction → Fraction → Wide → Type 0
RefusesDifference total x wide = (FitsDifference total x → ⊥) × (wide ≡ record { op = Sub; left = total; right = x })

abbrev pub RefusesProduct : Fraction → Fraction → Wide → Type 0
RefusesProduct x y wide = (FitsProduct x y → ⊥) × (wide ≡ record { op = Mul; left = x; right = y })

-- The first operation of the step that doesn't fit is this one. A product comes before the sum that takes it.
abbrev pub StepRefuses : Fraction → Step → Wide → Type 0
StepRefuses total (plus x) wide = RefusesSum total x wide
StepRefuses total (minus x) wide = RefusesDifference total x wide
StepRefuses total (plus_times x y) wide = RefusesProduct x y wide ⊎ (FitsProduct x y × RefusesSum total (exact_product x y) wide)
StepRefuses total (minus_times x y) wide = RefusesProduct x y wide ⊎ (FitsProduct x y × RefusesDifference total (exact_product x y) wide)

-- The first operation of the look that doesn't fit is this one.
pub record Refuses (wide : Wide) (look : Look) : Type 0 where
  pub before : List Step
  pub step : Step
  pub after : List Step
  pub parts : look.steps ≡ before ++ step ∷ after
  pub fit : StepsFit look.start before
  pub here : StepRefuses (total_of look.start before) step wide

-- ---- which comes first

-- Each look before one of this kind passes.
pub record IsFirst (Kind : Look → Type 0) (looks : List Look) : Type 0 where
  pub before : List Look
  pub look : Look
  pub after : List Look
  pub parts : looks ≡ before ++ look ∷ after
  pub passed : All Passes before
  pub here : Kind look
