-- The bytes of records: a byte for the kind, and the fields.
use Rattle.std.specs.Prelude.{◌≡◌, ℕ, ◌==◌, List, [], ◌∷◌, length, if◌then◌else◌}
use Rattle.std.specs.Prelude.{Option, None, option_and_then, option_map}
use Rattle.base_names.specs.declared.id.BatchId.{BatchId}
use Rattle.model_data.specs.declared.batch.AttemptOf.{AttemptOf}
use Rattle.model_data.specs.declared.batch.BatchRecord.{BatchRecord}
use Rattle.model_data.specs.declared.batch.BatchRecord.TheVariants.{Abort, Create, Discard, Finish, Lost, Next, Retry}
use Rattle.model_data.specs.declared.model.Model.{Model}
use Rattle.rec_format.specs.Bodies.{created, finished}
use Rattle.rec_format.specs.Format.{Format, number}
use Rattle.rec_format.specs.Ids.{attempt, attempts, batch}
use Rattle.rec_format.specs.Models.{model}

abbrev pub attempt_of : BatchId → ℕ → AttemptOf
attempt_of id n = record { id = id; attempt = n }

abbrev pub record_write : BatchRecord → List ℕ
record_write (Create id n body) = 1 ∷ created.write (attempt_of id n, body)
record_write (Abort id n) = 2 ∷ attempt.write (attempt_of id n)
record_write (Discard id) = 3 ∷ batch.write id
record_write (Retry id n) = 4 ∷ attempt.write (attempt_of id n)
record_write (Finish id n found) = 5 ∷ finished.write (attempt_of id n, found)
record_write (Lost list) = 6 ∷ attempts.write list
record_write (Next id) = 7 ∷ batch.write id

abbrev pub RecordFits : BatchRecord → Type 0
RecordFits (Create id n body) = created.Fits (attempt_of id n, body)
RecordFits (Abort id n) = attempt.Fits (attempt_of id n)
RecordFits (Discard id) = batch.Fits id
RecordFits (Retry id n) = attempt.Fits (attempt_of id n)
RecordFits (Finish id n found) = finished.Fits (attempt_of id n, found)
RecordFits (Lost list) = attempts.Fits list
RecordFits (Next id) = batch.Fits id

abbrev pub made : {A : Type 0} → (A → BatchRecord) → Option (A × List ℕ) → Option (BatchRecord × List ℕ)
made make = option_map (λ p. (make p.0, p.1))

abbrev pub record_of_kind : ℕ → List ℕ → Option (BatchRecord × List ℕ)
record_of_kind kind bs =
    if kind == 1 then made (λ p. Create p.0.id p.0.attempt p.1) (created.read bs)
    else (if kind == 2 then made (λ of. Abort of.id of.attempt) (attempt.read bs)
    else (if kind == 3 then made Discard (batch.read bs)
    else (if kind == 4 then made (λ of. Retry of.id of.attempt) (attempt.read bs)
    else (if kind == 5 then made (λ p. Finish p.0.id p.0.attempt p.1) (finished.read bs)
    else (if kind == 6 then made Lost (attempts.read bs)
    else (if kind == 7 then made Next (batch.read bs)
    else None))))))

abbrev pub record_read : List ℕ → Option (BatchRecord × List ℕ)
record_read bs = option_and_then (λ k. record_of_kind k.0 k.1) ((number 1).read bs)

abbrev pub batch_record : Format BatchRecord
batch_record = record { write = record_write; read = record_read; Fits = RecordFits }

-- how many bytes spell a record
abbrev pub record_len : BatchRecord → ℕ
record_len r = length (record_write r)

-- how many bytes of a record spell its model
abbrev pub model_len : Model → ℕ
model_len m = length (model.write m)
