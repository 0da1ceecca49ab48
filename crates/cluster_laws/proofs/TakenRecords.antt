-- The record that a command appends is taken by the table.
use Rattle.std.proofs.Common.{◌≡◌, refl, ℕ, ◌+◌, ◌==◌, ◌&&◌, Bool, true, false, List, [], ◌∷◌, Option, Some, None, arith}
use Rattle.std.specs.Prelude.{if◌then◌else◌, nat_lt, ⊤}
use Rattle.std.proofs.lemmas.Bool.Decides.{nat_tests}
use Rattle.base_names.specs.declared.refusal.Refusal.TheVariants.{BATCH, BATCHSTATE}
use Rattle.base_names.specs.declared.seat.Seat.{Seat}
use Rattle.model_data.specs.declared.batch.AttemptOf.{AttemptOf}
use Rattle.model_data.specs.declared.batch.BatchRow.{BatchRow}
use Rattle.table_defs.specs.Names.{is_owner}
use Rattle.table_defs.specs.Table.{Table, greatest, row_of, submitted}
use Rattle.table_defs.specs.Taken.{is_open, is_over, lost_refusal, may_begin, on_row, refusal, unless}
use Rattle.cluster_defs.specs.Appended.{attempt_in, lost_with, record_of}
use Rattle.cluster_defs.specs.Cluster.{Cluster, attempts_at}
use Rattle.cluster_defs.specs.Refusals.{batch_refusal, may_retry}
use Rattle.cluster_laws.specs.Sound.{EachStands}
use Rattle.table_defs.proofs.Rows.{unless_none}
use Rattle.cluster_laws.proofs.Sound.{lost_is_taken}
use Rattle.cluster_defs.specs.Asks.{Ask}
use Rattle.cluster_defs.specs.Asks as asks
use Rattle.model_data.specs.declared.batch.BatchRecord.{BatchRecord}

-- none, or a record that is taken
abbrev pub IsTaken : Table → Option BatchRecord → Type 0
IsTaken t None = ⊤
IsTaken t (Some r) = refusal r t ≡ None

above : (b : Bool) → b ≡ true → unless b BATCH ≡ None
above true h = refl
above false h = absurd (grind (arith, h))

above_state : (b : Bool) (status : ℕ) → b ≡ true → unless b (BATCHSTATE status) ≡ None
above_state true status h = refl
above_state false status h = absurd (grind (arith, h))

and_same : (a b d : Bool) → (a && b) ≡ true → d ≡ true → (a && d) ≡ true
and_same true b d h k = k
and_same false b d h k = h

next_above : (n : ℕ) → unless (nat_lt n (n + 1)) BATCH ≡ None
next_above n = above (nat_lt n (n + 1)) (grind (arith, nat_tests))

pub seen_is : (b : Bool) (wanted : BatchRow → Bool) (row : Option BatchRow) → on_row wanted (if b then row else None) ≡ None → on_row wanted row ≡ None
seen_is true wanted row h = h
seen_is false wanted row h = absurd (grind (arith, h))

open_now : (row : Option BatchRow) → on_row (λ r. r.status == submitted) row ≡ None → on_row (is_open (attempt_in row)) row ≡ None
open_now None h = absurd (grind (arith, h))
open_now (Some row) h = let s : (row.status == submitted) ≡ true = unless_none (row.status == submitted) (BATCHSTATE row.status) h in above_state _ row.status (grind (arith, nat_tests, s))

begins : (row : Option BatchRow) → on_row may_retry row ≡ None → on_row (may_begin (attempt_in row + 1)) row ≡ None
begins None h = absurd (grind (arith, h))
begins (Some row) h = above_state _ row.status (and_same _ (nat_lt row.attempt 4294967295) (attempt_in (Some row) + 1 == row.attempt + 1) (unless_none (may_retry row) (BATCHSTATE row.status) h) (grind (arith, nat_tests)))

lost_one : (items : List AttemptOf) (t : Table) → lost_refusal items t ≡ None → IsTaken t (lost_with items)
lost_one [] t h = tt
lost_one (item ∷ items) t h = h

pub record_taken : (c : Cluster) (seat : Seat) (ask : Ask) → EachStands c → batch_refusal c.table seat ask ≡ None → IsTaken c.table (record_of c.table c.placed seat ask)
record_taken c seat (asks.Create body) sound h = next_above (greatest seat.owner c.table)
record_taken c seat (asks.Abort id) sound h = open_now (row_of id c.table) (seen_is (is_owner seat.owner id.owner) (λ r. r.status == submitted) (row_of id c.table) h)
record_taken c seat (asks.Discard id) sound h = seen_is (is_owner seat.owner id.owner) is_over (row_of id c.table) h
record_taken c seat (asks.Retry id) sound h = begins (row_of id c.table) (seen_is (is_owner seat.owner id.owner) may_retry (row_of id c.table) h)
record_taken c seat (asks.Fail node) sound h = lost_one (attempts_at node c.placed) c.table (lost_is_taken node c sound)
record_taken c seat ask sound h = tt
