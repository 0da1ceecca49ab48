-- Which calls of the disk a call of the journal makes: those of its plan, in order, up to the first that fails.
use Rattle.std.specs.Prelude.{ℕ, ◌+◌, ◌==◌, ◌≡◌, ◌⊎◌, ◌&&◌, nat_lt, Bool, true, false, List, [], ◌∷◌, ◌++◌, length, take, get_or, Option, None, Some, IfSome, if◌then◌else◌}
use Rattle.std.specs.Str.{bytes_eq}
use Rattle.disk_model.specs.Calls.{DiskCall, LenCall, ReadCall, WriteCall, SyncCall, Through}
use Rattle.disk_model.specs.declared.answer.DiskLen.TheVariants.{Len, Failed as NoLen}
use Rattle.disk_model.specs.declared.answer.DiskDone.TheVariants.{Failed, Done}
use Rattle.journal.specs.Records.{end_of, header, record_of}

pub data Step : Type 0 where
  -- the length that is answered
  LenStep : (len : ℕ) → Step
  ReadStep : (at len : ℕ) → Step
  WriteStep : (at : ℕ) (bytes : List ℕ) → Step
  SyncStep : Step

abbrev pub done_call : Step → DiskCall
done_call (LenStep len) = LenCall (Len len)
done_call (ReadStep at len) = ReadCall at len Done
done_call (WriteStep at bytes) = WriteCall at bytes Done
done_call SyncStep = SyncCall Done

abbrev pub failed_call : Step → DiskCall
failed_call (LenStep len) = LenCall NoLen
failed_call (ReadStep at len) = ReadCall at len Failed
failed_call (WriteStep at bytes) = WriteCall at bytes Failed
failed_call SyncStep = SyncCall Failed

-- These calls are those of the plan up to the first that failed, or all of them.
abbrev pub Ran : List Step → List DiskCall → Bool → Type 0
Ran [] calls all = (calls ≡ []) × (all ≡ true)
Ran (step ∷ plan) calls all =
    ((calls ≡ failed_call step ∷ []) × (all ≡ false)) ⊎ ((rest : List DiskCall) × (calls ≡ done_call step ∷ rest) × Ran plan rest all)

-- these calls were added at the end: a disk that tells its calls now told them before
abbrev pub AddsCalls : Option (List DiskCall) → Option (List DiskCall) → List DiskCall → Type 0
AddsCalls old new made = IfSome new (λ now. (before : List DiskCall) × (old ≡ Some before) × (now ≡ before ++ made))

-- A disk ran a plan, to its end or to its first failure: it made these calls, by what each makes of it, and told them.
abbrev pub RanOn : {D : Type 0} → (calls : D → Option (List DiskCall)) → (makes : D → DiskCall → D → Type 0) → List Step → (old new : D) → Bool → Type 0
RanOn calls makes plan old new all = (made : List DiskCall) × Ran plan made all × AddsCalls (calls old) (calls new) made × Through makes old made new

-- it ran all of the first plan, and failed in the second one
abbrev pub FailedBehind : {D : Type 0} → (calls : D → Option (List DiskCall)) → (makes : D → DiskCall → D → Type 0) → (done plan : List Step) → (old new : D) → Type 0
FailedBehind {D} calls makes done plan old new = (mid : D) × RanOn calls makes done old mid true × RanOn calls makes plan mid new false

-- it ran a beginning of a plan, without a failure
abbrev pub RanPart : {D : Type 0} → (calls : D → Option (List DiskCall)) → (makes : D → DiskCall → D → Type 0) → List Step → (old new : D) → Type 0
RanPart calls makes plan old new = (done : List Step) × (rest : List Step) × (plan ≡ done ++ rest) × RanOn calls makes done old new true

-- ---- the plans

abbrev pub through : ℕ → List ℕ → List Step
through at bytes = WriteStep at bytes ∷ SyncStep ∷ []

abbrev pub settle_plan : Option (List ℕ) → ℕ → List Step
settle_plan None end = []
settle_plan (Some body) end = through end (0 ∷ [])

-- the record, behind the gate that is closed, with a closed gate behind
abbrev pub stage_plan : ℕ → List ℕ → List Step
stage_plan end body = through (end + 1) (record_of body ++ 0 ∷ [])

abbrev pub open_plan : ℕ → List Step
open_plan end = through end (1 ∷ [])

abbrev pub append_plan : Option (List ℕ) → ℕ → List ℕ → List Step
append_plan doubt end body = settle_plan doubt end ++ (stage_plan end body ++ open_plan end)

-- An append that failed left this in doubt, by the call that failed: one of settling, of the first two that add the body, or
-- of the last two.
abbrev pub FailedAdding : {D : Type 0} → (calls : D → Option (List DiskCall)) → (makes : D → DiskCall → D → Type 0) → (doubt : Option (List ℕ)) (end : ℕ) (body : List ℕ) (after : Option (List ℕ)) → (old new : D) → Type 0
FailedAdding calls makes doubt end body after old new =
    ((after ≡ doubt) × FailedBehind calls makes [] (settle_plan doubt end) old new)
    ⊎ (((after ≡ None) × FailedBehind calls makes (settle_plan doubt end) (stage_plan end body) old new)
    ⊎ ((after ≡ Some body) × FailedBehind calls makes (settle_plan doubt end ++ stage_plan end body) (open_plan end) old new))

-- the byte at the end is there and closes it
abbrev pub is_closed : List ℕ → Bool
is_closed file = get_or file (end_of file) 1 == 0

abbrev pub has_header : List ℕ → Bool
has_header file = bytes_eq (take 8 file) header

-- of a file of this length
abbrev pub measure_plan : ℕ → List Step
measure_plan len = SyncStep ∷ LenStep len ∷ []

abbrev pub whole_plan : ℕ → List Step
whole_plan len = ReadStep 0 len ∷ []

abbrev pub read_plan : ℕ → List Step
read_plan len = measure_plan len ++ (if nat_lt 8 len then whole_plan len else [])

abbrev pub begin_plan : List Step
begin_plan = through 0 header ++ through 8 (0 ∷ [])

abbrev pub mend_plan : List ℕ → List Step
mend_plan file = if is_closed file then [] else through (end_of file) (0 ∷ [])

-- a longer file with another header isn't written
abbrev pub write_plan : List ℕ → List Step
write_plan file = if nat_lt 8 (length file) then (if has_header file then mend_plan file else []) else begin_plan

abbrev pub mount_plan : List ℕ → List Step
mount_plan file = read_plan (length file) ++ write_plan file
