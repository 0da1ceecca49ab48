-- What is found in an input: the first that is wrong, where its parts are looked at in order, or the verdict on its certificate.
use Rattle.std.specs.Prelude.{◌≡◌, ℕ, suc, List, Some}
use Rattle.model_data.specs.declared.model.Model.{Model}
use Rattle.model_data.specs.declared.solution.Cert.{Cert}
use Rattle.model_data.specs.declared.solution.Outcome.{Outcome}
use Rattle.model_data.specs.declared.solution.Point.{Point}
use Rattle.lp_defs.specs.Text as lp
use Rattle.cert_text.specs.Spelling as cert
use Rattle.solve_defs.specs.Certificates.{IsValid, verdict}
use Rattle.solve_defs.specs.Points.{HasNoPoint, IsBestPoint, IsFeasiblePoint, IsUnbounded}
use Rattle.solve_defs.specs.declared.status.TheConstants.{INFEASIBLE, OPTIMAL, UNBOUNDED}
use Rattle.verify_command.specs.Input.{HasNoParts, HasParts}
use Rattle.verify_command.specs.declared.finding.Finding.{Finding}
use Rattle.verify_command.specs.declared.finding.Finding.TheVariants.{Checked, NoModel, Refused}

-- ---- an input that can be checked

-- The block spells the model, and the text behind it the outcome with its certificate.
pub record IsReadAs (input : List ℕ) (m : Model) (o : Outcome) (c : Cert) : Type 0 where
  pub block : List ℕ
  pub text : List ℕ
  pub parts : HasParts input block text
  pub model : lp.Spells block m
  pub proof : cert.Spells text o c

-- ---- what is found

-- What is found of a model and the text of a certificate: its first bad line, where the line of the model's length is line 1 and the
-- block isn't counted; or the verdict.
abbrev pub FindsBehind : Model → (text : List ℕ) → Finding → Type 0
FindsBehind m text (NoModel fault) = ⊥
FindsBehind m text (Refused line) = (number : ℕ) × cert.IsFirstBadLine text number × (line ≡ suc number)
FindsBehind m text (Checked v) = (o : Outcome) × (c : Cert) × cert.Spells text o c × (v ≡ verdict m o c)

-- what is found in the parts of an input: the model comes before the certificate
abbrev pub FindsIn : (block text : List ℕ) → Finding → Type 0
FindsIn block text (NoModel fault) = lp.Stops block fault
FindsIn block text (Refused line) = (m : Model) × lp.Spells block m × FindsBehind m text (Refused line)
FindsIn block text (Checked v) = (m : Model) × lp.Spells block m × FindsBehind m text (Checked v)

-- what is found in an input, whose parts come first
pub data Finds (input : List ℕ) : Finding → Type 0 where
  without_parts : HasNoParts input → Finds input (Refused 1)
  in_parts : (block text : List ℕ) (found : Finding) → HasParts input block text → FindsIn block text found → Finds input found

-- This is found, and nothing else is.
pub record IsFinding (input : List ℕ) (found : Finding) : Type 0 where
  pub finds : Finds input found
  pub only : (other : Finding) → Finds input other → other ≡ found

-- ---- what a valid certificate shows

-- An optimal outcome's point is best of all points of the model, an infeasible model has none, and an unbounded one has better
-- points than any number. A point that is kept is feasible, with its value, whatever the status.
pub record IsShown (m : Model) (o : Outcome) : Type 0 where
  pub best : o.status ≡ OPTIMAL → (p : Point) × (o.point ≡ Some p) × IsBestPoint m p
  pub no_point : o.status ≡ INFEASIBLE → HasNoPoint m
  pub unbounded : o.status ≡ UNBOUNDED → IsUnbounded m
  pub feasible : (p : Point) → o.point ≡ Some p → IsFeasiblePoint m p

-- The certificate is valid, and what its outcome says of the model is so.
pub record IsVerified (input : List ℕ) : Type 0 where
  pub model : Model
  pub outcome : Outcome
  pub cert : Cert
  pub read : IsReadAs input model outcome cert
  pub valid : IsValid model outcome cert
  pub shown : IsShown model outcome
