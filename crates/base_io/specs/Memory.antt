-- The forms in memory: what they are seen as, and what each call does.
use Rattle.std.specs.Prelude.{ℕ, min, Bool, true, false, ◌≡◌, ◌==◌, ◌⊎◌, List, ◌++◌, length, drop}
use Rattle.std.specs.List.{list_any}
use Rattle.base_names.specs.Outside.{one_more}
use Rattle.base_io.specs.declared.source.Got.{Got}
use Rattle.base_io.specs.declared.source.Got.TheVariants.{Bytes as Gave, Failed as GaveNone}
use Rattle.base_io.specs.declared.sink.Took.{Took}
use Rattle.base_io.specs.declared.sink.Took.TheVariants.{Bytes as Kept, Failed as KeptNone}

-- whether the list of calls that fail has this number
abbrev pub is_listed : ℕ → List ℕ → Bool
is_listed call failing = list_any (λ other. other == call) failing

-- A source in memory: what it has left, the numbers of the calls that fail (counted from 1), how
-- many calls there were, and how many failed.
pub record SourceState : Type 0 where
  pub left : List ℕ
  pub failing : List ℕ
  pub calls : ℕ
  pub faults : ℕ

-- A read fails exactly where its number is listed. Else it gives all that it can.
abbrev pub SourceGave : Got → (room : ℕ) → SourceState → SourceState → Type 0
SourceGave (Gave n) room old new =
    (is_listed (one_more old.calls) old.failing ≡ false)
    × (n ≡ min room (length old.left))
    × (new ≡ record old { left = drop n old.left; calls = one_more old.calls })
SourceGave GaveNone room old new =
    (is_listed (one_more old.calls) old.failing ≡ true)
    × (new ≡ record old { calls = one_more old.calls; faults = one_more old.faults })

-- A sink in memory: what was written, the numbers of the calls that fail (counted from 1), how many
-- calls there were, how many failed, and how many of these failed because a growth found no memory.
pub record SinkState : Type 0 where
  pub contents : List ℕ
  pub failing : List ℕ
  pub calls : ℕ
  pub faults : ℕ
  pub refused : ℕ

-- A write fails exactly where its number is listed, or where a growth was refused. Else it takes the
-- whole piece.
abbrev pub SinkTook : Took → (piece : List ℕ) → SinkState → SinkState → Type 0
SinkTook (Kept n) piece old new =
    (is_listed (one_more old.calls) old.failing ≡ false)
    × (n ≡ length piece)
    × (new ≡ record old { contents = old.contents ++ piece; calls = one_more old.calls })
SinkTook KeptNone piece old new =
    ((is_listed (one_more old.calls) old.failing ≡ true)
    × (new ≡ record old { calls = one_more old.calls; faults = one_more old.faults }))
    ⊎ ((is_listed (one_more old.calls) old.failing ≡ false)
    × (new ≡ record old { calls = one_more old.calls; faults = one_more old.faults; refused = one_more old.refused }))
