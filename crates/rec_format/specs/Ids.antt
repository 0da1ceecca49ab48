-- The bytes of owners, batches and attempts.
use Rattle.std.specs.Prelude.{ℕ, List}
use Rattle.base_names.specs.OwnerName.{is_owner_name}
use Rattle.base_names.specs.declared.id.BatchId.{BatchId}
use Rattle.model_data.specs.declared.batch.AttemptOf.{AttemptOf}
use Rattle.rec_format.specs.Format.{Format, both, fields, list_of, number, text, that}

abbrev pub owner : Format (List ℕ)
owner = that (text 1) is_owner_name

abbrev pub batch : Format BatchId
batch = fields (both owner (number 4)) (λ p. record { owner = p.0; number = p.1 }) (λ b. (b.owner, b.number))

abbrev pub attempt : Format AttemptOf
attempt = fields (both batch (number 4)) (λ p. record { id = p.0; attempt = p.1 }) (λ a. (a.id, a.attempt))

abbrev pub attempts : Format (List AttemptOf)
attempts = list_of 4 attempt
