-- The calls of a disk, with their arguments and answers.
use Rattle.std.specs.Prelude.{ℕ, ◌≡◌, List, [], ◌∷◌, ◌++◌, Option, Some, IfSome}
use Rattle.disk_model.specs.declared.answer.DiskLen.{DiskLen}
use Rattle.disk_model.specs.declared.answer.DiskLen.TheVariants.{Failed as NoLen}
use Rattle.disk_model.specs.declared.answer.DiskDone.{DiskDone}
use Rattle.disk_model.specs.declared.answer.DiskDone.TheVariants.{Failed}

-- A read has its place and its length.
pub data DiskCall : Type 0 where
  LenCall : (answer : DiskLen) → DiskCall
  ReadCall : (at len : ℕ) (answer : DiskDone) → DiskCall
  WriteCall : (at : ℕ) (bytes : List ℕ) (answer : DiskDone) → DiskCall
  SyncCall : (answer : DiskDone) → DiskCall

-- the call was answered Failed
abbrev pub HasFailed : DiskCall → Type 0
HasFailed (LenCall answer) = answer ≡ NoLen
HasFailed (ReadCall at len answer) = answer ≡ Failed
HasFailed (WriteCall at bytes answer) = answer ≡ Failed
HasFailed (SyncCall answer) = answer ≡ Failed

-- The call was added at the end: a disk that tells its calls now told them before. It may stop telling.
abbrev pub AddsCall : Option (List DiskCall) → Option (List DiskCall) → DiskCall → Type 0
AddsCall old new call = IfSome new (λ now. (before : List DiskCall) × (old ≡ Some before) × (now ≡ before ++ call ∷ []))

-- These calls were made, one after the other.
abbrev pub Through : {D : Type 0} → (D → DiskCall → D → Type 0) → D → List DiskCall → D → Type 0
Through makes old [] new = new ≡ old
Through {D} makes old (call ∷ calls) new = (mid : D) × makes old call mid × Through makes mid calls new
