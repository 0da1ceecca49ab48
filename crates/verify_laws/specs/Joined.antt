-- The words of the law that joins a solve with its check.
use Rattle.std.specs.Prelude.{ℕ, List, All}
use Rattle.model_data.specs.declared.model.Model.{Model}
use Rattle.model_data.specs.declared.params.Params.{Params}
use Rattle.lp_defs.specs.Text as lp
use Rattle.cert_text.specs.Spelling as cert
use Rattle.cert_check.specs.Failures.{Fits}
use Rattle.solve_defs.specs.Certificates.{looks}
use Rattle.solve_defs.specs.Plain.{plain_cut}
use Rattle.solve_defs.specs.declared.verdict.Verdict.{Verdict}
use Rattle.solve_defs.specs.declared.verdict.Verdict.TheVariants as verdict
use Rattle.verify_command.specs.declared.command.VerifyEnd.{VerifyEnd}
use Rattle.verify_command.specs.declared.command.VerifyEnd.TheVariants.{Invalid, NoMemory, NoModel, ReadFault, Refused, TooLong, TooWide, Valid, WriteFault}

-- The block spells the model, and the answer the end of its plain solve, which is cut after so many turns where it hasn't ended by
-- then: so what a solve writes, and one that is cut.
pub record IsSolve (m : Model) (p : Params) (k : ℕ) (block answer : List ℕ) : Type 0 where
  pub spells : lp.Spells block m
  pub answers : cert.Spells answer (plain_cut m p k).outcome (plain_cut m p k).cert

-- each operation of the certificate's check fits
abbrev pub AllFit : Model → Params → ℕ → Type 0
AllFit m p k = All Fits (looks m (plain_cut m p k).outcome (plain_cut m p k).cert)

abbrev pub IsNotInvalid : Verdict → Type 0
IsNotInvalid verdict.Valid = Unit {0}
IsNotInvalid (verdict.Invalid place) = ⊥
IsNotInvalid (verdict.TooWide wide) = Unit {0}

-- the certificate was found valid, or too wide, but for faults and want of memory
abbrev pub EndsChecked : VerifyEnd → Type 0
EndsChecked Valid = Unit {0}
EndsChecked (TooWide wide) = Unit {0}
EndsChecked ReadFault = Unit {0}
EndsChecked WriteFault = Unit {0}
EndsChecked NoMemory = Unit {0}
EndsChecked Invalid = ⊥
EndsChecked (NoModel fault) = ⊥
EndsChecked (Refused line) = ⊥
EndsChecked TooLong = ⊥

-- the input was found too long, but for faults and want of memory
abbrev pub EndsTooLong : VerifyEnd → Type 0
EndsTooLong TooLong = Unit {0}
EndsTooLong ReadFault = Unit {0}
EndsTooLong NoMemory = Unit {0}
EndsTooLong _ = ⊥
