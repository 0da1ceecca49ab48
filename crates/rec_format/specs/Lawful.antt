-- Which records have bytes.
use Rattle.std.specs.Prelude.{ℕ, ◌^◌, ◌<◌, List, length, All, IfSome}
use Rattle.frac128.specs.Lowest.{IsKept}
use Rattle.base_names.specs.Id.{IsId}
use Rattle.model_data.specs.Kept.{HasKeptNumbers}
use Rattle.model_data.specs.Lawful.{IsLawful}
use Rattle.model_data.specs.Params.{IsInRange}
use Rattle.model_data.specs.declared.batch.AttemptOf.{AttemptOf}
use Rattle.model_data.specs.declared.batch.BatchBody.{BatchBody}
use Rattle.model_data.specs.declared.batch.BatchRecord.{BatchRecord}
use Rattle.model_data.specs.declared.batch.BatchRecord.TheVariants.{Abort, Create, Discard, Finish, Lost, Next, Retry}
use Rattle.model_data.specs.declared.batch.BatchResult.{BatchResult}
use Rattle.model_data.specs.declared.model.Model.{Model}
use Rattle.model_data.specs.declared.model.Row.{Row}
use Rattle.model_data.specs.declared.model.Var.{Var}
use Rattle.model_data.specs.declared.solution.Point.{Point}
use Rattle.model_data.specs.declared.solution.WideAt.{WideAt}
use Rattle.rec_format.specs.Format.{AreBytes}
use Rattle.rec_format.specs.Records.{attempt_of}

-- ---- lawful records

abbrev pub IsAttempt : AttemptOf → Type 0
IsAttempt a = IsId a.id × (a.attempt < 2 ^ 32)

pub record IsLawfulBody (b : BatchBody) : Type 0 where
  pub params : IsInRange b.params
  pub model : IsLawful b.model

pub record IsKeptPoint (p : Point) : Type 0 where
  pub count : length p.xs < 2 ^ 32
  pub xs : All IsKept p.xs
  pub value : IsKept p.value

pub record IsKeptWide (w : WideAt) : Type 0 where
  pub at : w.at < 2 ^ 64
  pub left : IsKept w.wide.left
  pub right : IsKept w.wide.right

abbrev pub IsCertText : List ℕ → Type 0
IsCertText t = (length t < 2 ^ 32) × AreBytes t

-- a result as a program has it, of any status
pub record IsKeptResult (r : BatchResult) : Type 0 where
  pub status : r.outcome.status < 2 ^ 8
  pub pivots : r.outcome.pivots < 2 ^ 64
  pub nodes : r.outcome.nodes < 2 ^ 64
  pub work : r.outcome.work < 2 ^ 64
  pub point : IfSome r.outcome.point IsKeptPoint
  pub wide : IfSome r.outcome.wide IsKeptWide
  pub cert : IfSome r.cert IsCertText

-- a record that can be spelled, and is read from its spelling
abbrev pub IsLawfulRecord : BatchRecord → Type 0
IsLawfulRecord (Create id n body) = IsAttempt (attempt_of id n) × (IsLawfulBody body × HasKeptNumbers body.model)
IsLawfulRecord (Abort id n) = IsAttempt (attempt_of id n)
IsLawfulRecord (Discard id) = IsId id
IsLawfulRecord (Retry id n) = IsAttempt (attempt_of id n)
IsLawfulRecord (Finish id n found) = IsAttempt (attempt_of id n) × IsKeptResult found
IsLawfulRecord (Lost list) = (length list < 2 ^ 32) × All IsAttempt list
IsLawfulRecord (Next id) = IsId id

-- ---- what a caller sees to: the rest holds of each value of the types

abbrev pub IsShortPoint : Point → Type 0
IsShortPoint p = length p.xs < 2 ^ 32

abbrev pub IsShortResult : BatchResult → Type 0
IsShortResult r = IfSome r.outcome.point IsShortPoint × IfSome r.cert (λ t. length t < 2 ^ 32)

-- the body is lawful, the lists have fewer than 2^32 items, and the certificate fewer than 2^32 bytes
abbrev pub CanBeSpelled : BatchRecord → Type 0
CanBeSpelled (Create id n body) = IsLawfulBody body
CanBeSpelled (Finish id n found) = IsShortResult found
CanBeSpelled (Lost list) = length list < 2 ^ 32
CanBeSpelled _ = Unit {0}
