-- The changes that lead from one of two models to the other.
use Rattle.std.specs.Prelude.{◌≡◌, List, [], ◌∷◌, Ok}
use Rattle.std.specs.List.{AllByRecursion}
use Rattle.model_data.specs.declared.model.Model.{Model}
use Rattle.model_core.specs.Asked.{IsLawfulChange}
use Rattle.model_core.specs.One.{after, fold, one}
use Rattle.model_core.specs.declared.change.Change.{Change}
use Rattle.lazy_model.specs.declared.replay.Side.{Side}
use Rattle.lazy_model.specs.declared.replay.Side.TheVariants.{Ahead, Apart, Behind}

-- each is accepted where it comes
abbrev pub AreAccepted : Model → List Change → Type 0
AreAccepted m [] = Unit {0}
AreAccepted m (c ∷ changes) = (one m c ≡ Ok (after m c)) × AreAccepted (after m c) changes

pub record IsLog (log : List Change) (from to : Model) : Type 0 where
  pub accepted : AreAccepted from log
  pub lawful : AllByRecursion IsLawfulChange log
  pub leads : fold from log ≡ to

-- the changes of the log that aren't applied
abbrev pub queued_of : Side → List Change → List Change
queued_of Apart log = []
queued_of Ahead log = log
queued_of Behind log = []

-- The other model is ahead of the applied one, or behind it, by the log's changes; or it is any other one, and the log has none.
abbrev pub IsBeside : Side → List Change → (applied other : Model) → Type 0
IsBeside Apart log applied other = log ≡ []
IsBeside Ahead log applied other = IsLog log applied other
IsBeside Behind log applied other = IsLog log other applied
