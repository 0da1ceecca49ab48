-- What a disk in memory is seen as, and what each call does to it.
use Rattle.std.specs.Prelude.{ℕ, ◌+◌, ◌≤◌, ◌≡◌, ◌≢◌, ◌⊎◌, ◌==◌, Bool, true, false, List, [], ◌∷◌, ◌++◌, length, Option, None, Some, is_some, if◌then◌else◌}
use Rattle.std.specs.List.{list_any}
use Rattle.base_names.specs.Outside.{one_more}
use Rattle.disk_model.specs.Calls.{DiskCall, LenCall, ReadCall, WriteCall, SyncCall}
use Rattle.disk_model.specs.Made.{has_failed}
use Rattle.disk_model.specs.Disk.{overwritten}
use Rattle.disk_model.specs.Images.{Stored, settled, stop_image, left_at}
use Rattle.disk_model.specs.declared.answer.DiskLen.{DiskLen}
use Rattle.disk_model.specs.declared.answer.DiskLen.TheVariants.{Len, Failed as NoLen}
use Rattle.disk_model.specs.declared.answer.DiskDone.{DiskDone}
use Rattle.disk_model.specs.declared.answer.DiskDone.TheVariants.{Done, Failed}
use Rattle.disk_model.specs.declared.arming.Begun.{Begun}
use Rattle.disk_model.specs.declared.arming.Begun.TheVariants.{Runs, Fails, Stops}
use Rattle.disk_model.specs.declared.arming.Stop.{Stop}
use Rattle.disk_model.specs.declared.image.Arm.{Arm}
use Rattle.disk_model.specs.declared.image.Arm.TheVariants as arms
use Rattle.disk_model.specs.declared.image.Image.{Image}

pub record DiskState : Type 0 where
  pub stored : Stored
  -- what was stored before each call
  pub past : List Stored
  pub calls : List DiskCall
  -- how many calls failed, and how many of these because a growth found no memory
  pub faults : ℕ
  pub refused : ℕ
  -- how many calls there were, those on a stopped disk not counted
  pub count : ℕ
  -- the numbers of the calls in which a failure comes, and that in which a stop does
  pub fails : List ℕ
  pub stop : Option Stop
  -- the image of the stop that has come
  pub stopped : Option Image

abbrev pub new_disk : DiskState
new_disk = record { stored = settled []; past = []; calls = []; faults = 0; refused = 0; count = 0; fails = []; stop = None; stopped = None }

-- ---- how a call begins

abbrev pub stop_in : Option Stop → (call : ℕ) → Option Image
stop_in None call = None
stop_in (Some stop) call = if stop.at == call then Some stop.image else None

abbrev pub is_due : List ℕ → (call : ℕ) → Bool
is_due fails call = list_any (λ at. at == call) fails

-- A stopped disk fails; a stop comes before a failure.
abbrev pub begins : (stopped stop : Option Image) (due : Bool) → Begun
begins (Some image) stop due = Fails
begins None (Some image) due = Stops
begins None None true = Fails
begins None None false = Runs

abbrev pub begun_of : DiskState → Begun
begun_of s = begins s.stopped (stop_in s.stop (one_more s.count)) (is_due s.fails (one_more s.count))

-- a stop removes all that is armed
abbrev pub with_stopped : Image → DiskState → DiskState
with_stopped image s = record s { fails = []; stop = None; stopped = Some image }

abbrev pub noted : DiskState → DiskState
noted s = record s { past = s.past ++ s.stored ∷ [] }

abbrev pub counted : DiskState → DiskState
counted s = record s { count = one_more s.count }

abbrev pub entered_by : (stopped stop : Option Image) → DiskState → DiskState
entered_by (Some image) stop s = noted s
entered_by None (Some image) s = with_stopped image (counted (noted s))
entered_by None None s = counted (noted s)

-- the disk while a call is under way
abbrev pub entered : DiskState → DiskState
entered s = entered_by s.stopped (stop_in s.stop (one_more s.count)) s

-- ---- how it ends

-- The call is added to those before. The count of faults rises where it failed, and then alone.
abbrev pub answered : DiskCall → DiskState → DiskState
answered call s = record s { calls = s.calls ++ call ∷ []; faults = if has_failed call then one_more s.faults else s.faults }

-- a growth found no memory
abbrev pub refusing : DiskState → DiskState
refusing s = record s { refused = one_more s.refused }

-- ---- the calls: each fails exactly where its beginning or a refused growth has it fail

abbrev pub len_answer : Begun → (len : ℕ) → DiskLen
len_answer Runs len = Len len
len_answer Fails len = NoLen
len_answer Stops len = NoLen

abbrev pub done_answer : Begun → DiskDone
done_answer Runs = Done
done_answer Fails = Failed
done_answer Stops = Failed

abbrev pub storing : (Stored → Stored) → DiskState → DiskState
storing change s = record s { stored = change s.stored }

abbrev pub wrote : (at : ℕ) (bytes : List ℕ) → Stored → Stored
wrote at bytes s = record s { bytes = overwritten at bytes s.bytes; written = s.written ++ (at, length bytes) ∷ [] }

abbrev pub synced_after : DiskDone → Stored → Stored
synced_after Done s = settled s.bytes
synced_after Failed s = s

-- A write in which a stop comes counts as written.
abbrev pub WriteMade : (at : ℕ) (bytes : List ℕ) → DiskDone → (old new : DiskState) → Type 0
WriteMade at bytes Done old new = (begun_of old ≡ Runs) × (new ≡ answered (WriteCall at bytes Done) (storing (wrote at bytes) (entered old)))
WriteMade at bytes Failed old new =
    ((begun_of old ≡ Fails) × (new ≡ answered (WriteCall at bytes Failed) (entered old)))
    ⊎ (((begun_of old ≡ Stops) × (new ≡ answered (WriteCall at bytes Failed) (storing (wrote at bytes) (entered old))))
    ⊎ ((begun_of old ≢ Fails) × (new ≡ answered (WriteCall at bytes Failed) (refusing (entered old)))))

abbrev pub CallMade : DiskState → DiskCall → DiskState → Type 0
CallMade old (LenCall answer) new = (answer ≡ len_answer (begun_of old) (length old.stored.bytes)) × (new ≡ answered (LenCall answer) (entered old))
CallMade old (ReadCall at len answer) new = (answer ≡ done_answer (begun_of old)) × (new ≡ answered (ReadCall at len answer) (entered old))
CallMade old (WriteCall at bytes answer) new = WriteMade at bytes answer old new
CallMade old (SyncCall answer) new = (answer ≡ done_answer (begun_of old)) × (new ≡ answered (SyncCall answer) (storing (synced_after answer) (entered old)))

-- ---- arming, and a stop

abbrev pub with_fail : ℕ → DiskState → DiskState
with_fail k s = record s { fails = s.fails ++ (s.count + k) ∷ [] }

-- a stop at once changes nothing on a stopped disk
abbrev pub with_stop : ℕ → Image → DiskState → DiskState
with_stop k image s = if k == 0 then (if is_some s.stopped then s else with_stopped image s) else record s { stop = Some record { at = s.count + k; image = image } }

-- The k of a failure is at least 1.
abbrev pub IsLawfulArm : Arm → Type 0
IsLawfulArm (arms.Fail k) = 1 ≤ k
IsLawfulArm (arms.Stop k image) = Unit {0}

abbrev pub armed : Arm → DiskState → DiskState
armed (arms.Fail k) s = with_fail k s
armed (arms.Stop k image) s = with_stop k image s

-- the disk that the stop left
abbrev pub restarted_by : Option Image → DiskState → DiskState
restarted_by None s = s
restarted_by (Some image) s = record s { stored = settled (stop_image image s.stored); stopped = None }

abbrev pub restarted : DiskState → DiskState
restarted s = restarted_by s.stopped s

-- ---- what it tells

abbrev pub moment_of : DiskState → ℕ
moment_of s = length s.past

abbrev pub left_of : DiskState → ℕ → List ℕ → Type 0
left_of s moment image = left_at s.past s.stored moment image

-- from a refused growth on it doesn't tell its calls
abbrev pub calls_of : DiskState → Option (List DiskCall)
calls_of s = if s.refused == 0 then Some s.calls else None
