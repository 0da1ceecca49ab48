-- A call as it is noted, and whether it failed.
use Rattle.std.specs.Prelude.{ℕ, Bool, true, false, List}
use Rattle.disk_model.specs.Calls.{DiskCall, LenCall, ReadCall, WriteCall, SyncCall}
use Rattle.disk_model.specs.declared.answer.DiskDone.TheVariants.{Done, Failed}
use Rattle.disk_model.specs.declared.answer.DiskLen.TheVariants as lens
use Rattle.disk_model.specs.declared.call_log.Made.{Made}
use Rattle.disk_model.specs.declared.call_log.Made.TheVariants.{Len, Read, Write, Sync}

-- these are the bytes of a write
abbrev pub call_of : Made → (bytes : List ℕ) → DiskCall
call_of (Len answer) bytes = LenCall answer
call_of (Read at len answer) bytes = ReadCall at len answer
call_of (Write at answer) bytes = WriteCall at bytes answer
call_of (Sync answer) bytes = SyncCall answer

abbrev pub has_failed : DiskCall → Bool
has_failed (LenCall (lens.Len len)) = false
has_failed (LenCall lens.Failed) = true
has_failed (ReadCall at len Done) = false
has_failed (ReadCall at len Failed) = true
has_failed (WriteCall at bytes Done) = false
has_failed (WriteCall at bytes Failed) = true
has_failed (SyncCall Done) = false
has_failed (SyncCall Failed) = true
