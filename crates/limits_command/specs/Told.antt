-- What `limits` writes for a model.
use Rattle.std.specs.Prelude.{ℕ, ◌≡◌, List}
use Rattle.model_data.specs.declared.model.Model.{Model}
use Rattle.limit_defs.specs.Text.{limits_text}

abbrev pub TellsLimits : Model → List ℕ → Type 0
TellsLimits model text = text ≡ limits_text model
