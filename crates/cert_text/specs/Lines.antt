-- A text read line by line.
use Rattle.std.specs.Prelude.{◌≡◌, ℕ, suc, ◌==◌, List, [], ◌∷◌, Option, Some, None, Result, Ok, Err}
use Rattle.std.specs.List.{slice_split}
use Rattle.base_names.specs.declared.memory.OrMemory.{OrMemory}
use Rattle.base_names.specs.declared.memory.OrMemory.TheVariants.{Fault, NoMemory}
use Rattle.cert_text.specs.Reading.{◌>>=◌, entry_of}
use Rattle.cert_text.specs.Stages.{next}
use Rattle.cert_text.specs.declared.proof.CertFault.{CertFault}
use Rattle.cert_text.specs.declared.proof.Proof.{Proof}
use Rattle.cert_text.specs.declared.stage.Stage.{Stage}
use Rattle.cert_text.specs.declared.stage.Stage.TheVariants as stage

-- the stage behind a line
abbrev pub stage_behind : Stage → List ℕ → Option Stage
stage_behind s line = entry_of line >>= λ e. next s e

-- what is read where this stands behind the last line that is ended, or the number of the line that is bad
abbrev pub ending : Stage → ℕ → List ℕ → Result Proof ℕ
ending (stage.Whole proof) number [] = Ok proof
ending _ number rest = Err number

-- what comes behind a stage, or the number of the line that is bad
abbrev pub or_bad : ℕ → (Stage → Result Proof ℕ) → Option Stage → Result Proof ℕ
or_bad number f None = Err number
or_bad number f (Some s) = f s

-- The same of all parts between line feeds. The last of them is what stands behind the last line feed.
unfoldable pub reading_from : Stage → ℕ → List (List ℕ) → Result Proof ℕ
reading_from s number [] = Err number
reading_from s number (last ∷ []) = ending s number last
reading_from s number (line ∷ part ∷ parts) = or_bad number (λ t. reading_from t (suc number) (part ∷ parts)) (stage_behind s line)

-- what a text is read as, or the number of its first bad line
abbrev pub reading : List ℕ → Result Proof ℕ
reading text = reading_from stage.Start 1 (slice_split (λ byte. byte == 10) text)

-- a call that may find no memory answers what was read
abbrev pub IsReadAs : Result Proof ℕ → Result Proof (OrMemory CertFault) → Type 0
IsReadAs said (Ok proof) = said ≡ Ok proof
IsReadAs said (Err (Fault fault)) = said ≡ Err fault.line
IsReadAs said (Err NoMemory) = Unit {0}
