-- A look: a sum that is formed step by step, and what it has to be. A certificate is checked by a list of looks in order.
use Rattle.std.specs.Prelude.{Bool, true, false, IsTrue, List, [], ◌∷◌, Result, Ok, Err}
use Rattle.frac128.specs.Checked.{checked_difference, checked_sum, less_product, plus_product, ◌>>=◌}
use Rattle.frac128.specs.Fraction.{Fraction, exact_difference, exact_product, exact_sum}
use Rattle.frac128.specs.declared.operations.Wide.{Wide}
use Rattle.solve_defs.specs.declared.verdict.Place.{Place}
use Rattle.solve_defs.specs.declared.verdict.Verdict.{Verdict}
use Rattle.solve_defs.specs.declared.verdict.Verdict.TheVariants.{Valid, Invalid, TooWide}

-- what is added to a sum, or taken from it
pub data Step : Type 0 where
  plus : Fraction → Step
  minus : Fraction → Step
  -- a product, whose first factor is the left one
  plus_times : Fraction → Fraction → Step
  minus_times : Fraction → Fraction → Step

pub record Look : Type 0 where
  pub place : Place
  pub start : Fraction
  pub steps : List Step
  pub holds : Fraction → Bool

-- ---- by exact arithmetic

abbrev pub moved : Fraction → Step → Fraction
moved total (plus x) = exact_sum total x
moved total (minus x) = exact_difference total x
moved total (plus_times x y) = exact_sum total (exact_product x y)
moved total (minus_times x y) = exact_difference total (exact_product x y)

abbrev pub total_of : Fraction → List Step → Fraction
total_of total [] = total
total_of total (step ∷ steps) = total_of (moved total step) steps

abbrev pub Holds : Look → Type 0
Holds look = IsTrue (look.holds (total_of look.start look.steps))

-- ---- by operations, up to the first that does not fit

abbrev pub checked_step : Fraction → Step → Result Fraction Wide
checked_step total (plus x) = checked_sum total x
checked_step total (minus x) = checked_difference total x
checked_step total (plus_times x y) = plus_product x total y
checked_step total (minus_times x y) = less_product x total y

abbrev pub formed : Fraction → List Step → Result Fraction Wide
formed total [] = Ok total
formed total (step ∷ steps) = do
  next ← checked_step total step
  formed next steps

abbrev pub after_look : Look → Result Fraction Wide → Verdict → Verdict
after_look look (Err wide) later = TooWide wide
after_look look (Ok sum) later = after_test (look.holds sum)
  where
    after_test : Bool → Verdict
    after_test true = later
    after_test false = Invalid look.place

-- the first look that doesn't hold, or whose operations don't fit
abbrev pub verdict_of : List Look → Verdict
verdict_of [] = Valid
verdict_of (look ∷ looks) = after_look look (formed look.start look.steps) (verdict_of looks)
