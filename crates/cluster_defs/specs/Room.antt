-- What is kept free in the journal for the outcomes of all that goes on.
use Rattle.std.specs.Prelude.{◌≡◌, ◌≤◌, ℕ, ◌+◌, ◌*◌, ⊤, List, [], ◌∷◌, length}
use Rattle.model_data.specs.declared.batch.BatchRecord.{BatchRecord}
use Rattle.model_data.specs.declared.batch.BatchRecord.TheVariants.{Create, Abort, Discard, Retry, Finish, Lost, Next}
use Rattle.cluster_defs.specs.Cluster.{Cluster}
use Rattle.cluster_defs.specs.Journal.{Event, was_failed, was_kept, was_not_opened, was_opened}
use Rattle.cluster_defs.specs.Refusals.{reserve, reserved}
use Rattle.cluster_defs.specs.Site.{Site}

-- an outcome, of how many attempts
abbrev pub IsOutcome : BatchRecord → ℕ → Type 0
IsOutcome (Abort id attempt) n = n ≡ 1
IsOutcome (Finish id attempt result) n = n ≡ 1
IsOutcome (Lost items) n = n ≡ length items
IsOutcome (Create id attempt body) n = ⊥
IsOutcome (Discard id) n = ⊥
IsOutcome (Retry id attempt) n = ⊥
IsOutcome (Next id) n = ⊥

-- With its 5 bytes the record of an outcome takes at most what is reserved for its attempts.
abbrev pub IsShort : Site → BatchRecord → Type 0
IsShort k r = (n : ℕ) → IsOutcome r n → 5 + k.record_bytes r ≤ reserved * n

-- It is asked of the records that were kept.
abbrev pub AreShort : Site → List Event → Type 0
AreShort k [] = ⊤
AreShort k (was_kept r ∷ events) = IsShort k r × AreShort k events
AreShort k (was_failed r ∷ events) = AreShort k events
AreShort k (was_not_opened ∷ events) = AreShort k events
AreShort k (was_opened ∷ events) = AreShort k events

-- The end and the reserve are within the journal's limit
abbrev pub Fits : Site → Cluster → Type 0
Fits k c = c.journal + reserve c.table ≤ k.setup.limits.journal
