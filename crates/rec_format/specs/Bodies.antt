-- The bytes of records that have a body or a result.
use Rattle.std.specs.Prelude.{ℕ}
use Rattle.model_data.specs.declared.batch.AttemptOf.{AttemptOf}
use Rattle.model_data.specs.declared.batch.BatchBody.{BatchBody}
use Rattle.model_data.specs.declared.batch.BatchResult.{BatchResult}
use Rattle.rec_format.specs.Format.{Format, both, fields}
use Rattle.rec_format.specs.Ids.{attempt}
use Rattle.rec_format.specs.Models.{model}
use Rattle.rec_format.specs.Parameters.{params}
use Rattle.rec_format.specs.Results.{found}

abbrev pub body : Format BatchBody
body = fields (both params model) (λ p. record { model = p.1; params = p.0 }) (λ b. (b.params, b.model))

-- an attempt, and what it solves
abbrev pub created : Format (AttemptOf × BatchBody)
created = both attempt body

-- an attempt, and what it found
abbrev pub finished : Format (AttemptOf × BatchResult)
finished = both attempt found
