-- What is looked up in a table.
use Rattle.std.specs.Prelude.{◌≡◌, ℕ, ◌<◌, ◌==◌, Bool, true, false, List, filter, get_or, length, Option, Some, None, Result, Ok, Err}
use Rattle.base_names.specs.declared.refusal.Refusal.{Refusal}
use Rattle.batch_table.specs.declared.testing.Wanted.{Wanted}
use Rattle.batch_table.specs.declared.testing.Wanted.TheVariants.{Begin, Open, Over}
use Rattle.model_data.specs.declared.batch.BatchRow.{BatchRow}
use Rattle.table_defs.specs.Table.{Table, submitted}
use Rattle.table_defs.specs.Taken.{is_open, is_over, may_begin}

-- the attempts that go on
abbrev pub going_on : Table → List BatchRow
going_on t = filter (λ row. row.status == submitted) t.rows

abbrev pub is_wanted : Wanted → BatchRow → Bool
is_wanted (Open attempt) = is_open attempt
is_wanted Over = is_over
is_wanted (Begin attempt) = may_begin attempt

-- Ok exactly where there is no refusal, and else the refusal
abbrev pub Answers : {A : Type 0} → Option Refusal → Result A Refusal → Type 0
Answers None (Ok done) = Unit {0}
Answers None (Err refusal) = ⊥
Answers (Some why) (Ok done) = ⊥
Answers (Some why) (Err refusal) = refusal ≡ why

-- a place at which the test passes, or None where it passes nowhere
abbrev pub StandsAt : {A : Type 0} → (A → Bool) → List A → Option ℕ → Type 0
StandsAt test xs (Some i) = (i < length xs) × ((d : _) → test (get_or xs i d) ≡ true)
StandsAt test xs None = (k : ℕ) (d : _) → k < length xs → test (get_or xs k d) ≡ false
