-- A model with changes that are accepted and not applied yet.
use Rattle.std.specs.Prelude.{ℕ, List, take, drop}
use Rattle.model_data.specs.declared.model.Model.{Model}
use Rattle.model_core.specs.One.{fold}
use Rattle.model_core.specs.declared.change.Change.{Change}

pub record Lazy : Type 0 where
  pub applied : Model
  pub queued : List Change

-- the model after all accepted changes
abbrev pub latest : Lazy → Model
latest s = fold s.applied s.queued

-- What a model that was loaded, all changes that were accepted since, and how many of them are applied stand for: the fold
-- up to this mark, and the changes behind it.
abbrev pub marked : Model → List Change → ℕ → Lazy
marked base changes mark = record { applied = fold base (take mark changes); queued = drop mark changes }
