-- What `verify` did to its source and its sink, by its end.
use Rattle.std.specs.Prelude.{ℕ, ◌≡◌, ◌≤◌, ◌<◌, List, length, Option}
use Rattle.base_names.specs.Outside.{IsAtEnd, Writes}
use Rattle.base_names.specs.Prefix.{IsPrefix}
use Rattle.whole_input.specs.Whole.{Takes}
use Rattle.solve_defs.specs.declared.verdict.Place.{Place}
use Rattle.solve_defs.specs.declared.verdict.Verdict.{Verdict}
use Rattle.solve_defs.specs.declared.verdict.Verdict.TheVariants as verdict
use Rattle.verify_command.specs.Findings.{IsFinding, IsVerified}
use Rattle.verify_command.specs.Texts.{verdict_text}
use Rattle.verify_command.specs.declared.command.VerifyEnd.{VerifyEnd}
use Rattle.verify_command.specs.declared.command.VerifyEnd.TheVariants.{Invalid, NoMemory, NoModel, ReadFault, Refused, TooLong, TooWide, Valid, WriteFault}
use Rattle.verify_command.specs.declared.command.TheConstants.{VERIFY_LIMIT}
use Rattle.verify_command.specs.declared.finding.Finding.{Finding}
use Rattle.verify_command.specs.declared.finding.Finding.TheVariants as found

-- ---- what was told

-- the line of a verdict stands on the sink, or a front of it where the sink failed
abbrev pub TellsVerdict : Verdict → VerifyEnd → (contents contents' : Option (List ℕ)) → Type 0
TellsVerdict verdict.Valid Valid contents contents' = Writes contents contents' (verdict_text verdict.Valid)
TellsVerdict (verdict.Invalid place) Invalid contents contents' = Writes contents contents' (verdict_text (verdict.Invalid place))
TellsVerdict (verdict.TooWide wide) (TooWide told) contents contents' = (told ≡ wide) × (contents' ≡ contents)
TellsVerdict v WriteFault contents contents' = (front : List ℕ) × IsPrefix front (verdict_text v) × Writes contents contents' front
TellsVerdict v NoMemory contents contents' = contents' ≡ contents
TellsVerdict v end contents contents' = ⊥

abbrev pub Tells : Finding → VerifyEnd → (contents contents' : Option (List ℕ)) → Type 0
Tells (found.NoModel fault) (NoModel told) contents contents' = (told ≡ fault) × (contents' ≡ contents)
Tells (found.Refused line) (Refused told) contents contents' = (told ≡ line) × (contents' ≡ contents)
Tells (found.Checked v) end contents contents' = TellsVerdict v end contents contents'
Tells finding end contents contents' = ⊥

-- ---- an input that was taken whole

abbrev pub Answers : VerifyEnd → (input : List ℕ) → (contents contents' : Option (List ℕ)) → Type 0
Answers Valid input contents contents' =
    IsFinding input (found.Checked verdict.Valid) × IsVerified input × Writes contents contents' (verdict_text verdict.Valid)
Answers Invalid input contents contents' =
    (place : Place) × IsFinding input (found.Checked (verdict.Invalid place)) × Writes contents contents' (verdict_text (verdict.Invalid place))
Answers (TooWide wide) input contents contents' = IsFinding input (found.Checked (verdict.TooWide wide)) × (contents' ≡ contents)
Answers (NoModel fault) input contents contents' = IsFinding input (found.NoModel fault) × (contents' ≡ contents)
Answers (Refused line) input contents contents' = IsFinding input (found.Refused line) × (contents' ≡ contents)
Answers WriteFault input contents contents' =
    (v : Verdict) × (front : List ℕ) × IsFinding input (found.Checked v) × IsPrefix front (verdict_text v) × Writes contents contents' front
Answers NoMemory input contents contents' = contents' ≡ contents
Answers ReadFault input contents contents' = ⊥
Answers TooLong input contents contents' = ⊥

-- ---- the ends

-- the input was taken whole
pub record IsWhole (left left' : Option (List ℕ)) (taken : List ℕ) : Type 0 where
  pub takes : Takes VERIFY_LIMIT left left' taken
  pub at_end : IsAtEnd left'
  pub allowed : length taken ≤ VERIFY_LIMIT

abbrev pub VerifySays : VerifyEnd → (left left' contents contents' : Option (List ℕ)) → Type 0
VerifySays TooLong left left' contents contents' =
    (taken : List ℕ) × Takes VERIFY_LIMIT left left' taken × (VERIFY_LIMIT < length taken) × (contents' ≡ contents)
VerifySays ReadFault left left' contents contents' =
    (taken : List ℕ) × Takes VERIFY_LIMIT left left' taken × (length taken ≤ VERIFY_LIMIT) × (contents' ≡ contents)
VerifySays NoMemory left left' contents contents' = (taken : List ℕ) × Takes VERIFY_LIMIT left left' taken × (contents' ≡ contents)
VerifySays end left left' contents contents' = (taken : List ℕ) × IsWhole left left' taken × Answers end taken contents contents'
