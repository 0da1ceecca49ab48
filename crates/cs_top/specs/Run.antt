-- What the top call leaves behind, by its status.
use Rattle.std.specs.Prelude.{ℕ, Bool, true, false, ◌≡◌, ◌⊎◌, List, [], ◌++◌, codes, decimal, Option, IfSome}
use Rattle.base_names.specs.Outside.{Rose, Reads, Writes, IsAtEnd}
use Rattle.base_names.specs.Prefix.{IsPrefix}
use Rattle.base_names.specs.declared.seat.Role.{Role}
use Rattle.lp_defs.specs.FaultText.{placed_text}
use Rattle.session.specs.Beginning.{at_first}
use Rattle.session.specs.Dialogue.{Told, IsFront}
use Rattle.session.specs.Hearing.{Heard, entries_by}
use Rattle.session.specs.Session.{Call}
use Rattle.session.specs.Transcript.{session_writing}
use Rattle.session.specs.Writing.{Writing, MayFollow, IsNeeded}
use Rattle.session.specs.declared.talking.End.{End}
use Rattle.session.specs.declared.talking.End.TheVariants.{Bye, Closed, ReadFault as ReadFault', WriteFault as WriteFault', TooLong as TooLong', NoMemory as NoMemory'}
use Rattle.model_command.specs.Says.{Relation, Says}
use Rattle.model_command.specs.declared.command.ModelEnd.{ModelEnd}
use Rattle.model_command.specs.declared.command.ModelEnd.TheVariants as model
use Rattle.solve_command.specs.Solve.{IsSolved}
use Rattle.limits_command.specs.Told.{TellsLimits}
use Rattle.frac128.specs.Text.{wide_text}
use Rattle.verify_command.specs.Verify.{VerifySays}
use Rattle.verify_command.specs.declared.command.VerifyEnd.{VerifyEnd}
use Rattle.verify_command.specs.declared.command.VerifyEnd.TheVariants as verify
use Rattle.model_data.specs.declared.batch.BatchBody.{BatchBody}
use Rattle.model_data.specs.declared.batch.BatchResult.{BatchResult}
use Rattle.replay_command.specs.Replayed.{Replayed}
use Rattle.replay_command.specs.declared.command.ReplayEnd.{ReplayEnd}
use Rattle.replay_command.specs.declared.command.ReplayEnd.TheVariants as replay
use Rattle.session_command.specs.Held.{Untouched}
use Rattle.session_command.specs.OnDisk.{AreFromFile, Disked, IsRefusedFor, seat_of}
use Rattle.session_command.specs.declared.command.SessionEnd.{SessionEnd}
use Rattle.session_command.specs.declared.command.SessionEnd.TheVariants.{Ended, Unopened}
use Rattle.hex.specs.Hex.{encode_lower}
use Rattle.hub_core.specs.declared.fault.HubFault.{HubFault}
use Rattle.hub_core.specs.declared.fault.HubFault.TheVariants as hub
use Rattle.cs_top.specs.declared.status.Status.{Status}
use Rattle.cs_top.specs.declared.status.Status.TheVariants.{Done, NoModel, WordsRefused, ReadFault, WriteFault, DiskFault, NoMemory, TooLong, Invalid, Refused, NotAJournal, BadRecord, TooFull, TooWide}
use Rattle.cs_top.specs.Task.{task_asked}
use Rattle.cs_top.specs.declared.task.Task.{Task}
use Rattle.cs_top.specs.declared.task.Task.TheVariants.{Session, Solve, Limits, Verify, Replay}

abbrev pub code_of : Status → ℕ
code_of Done = 0
code_of (NoModel fault) = 1
code_of WordsRefused = 2
code_of ReadFault = 3
code_of WriteFault = 4
code_of DiskFault = 5
code_of NoMemory = 6
code_of TooLong = 7
code_of Invalid = 8
code_of (Refused line) = 9
code_of (NotAJournal head) = 10
code_of (BadRecord number) = 10
code_of TooFull = 10
code_of (TooWide wide) = 11

abbrev pub session_status : End → Status
session_status Bye = Done
session_status Closed = Done
session_status ReadFault' = ReadFault
session_status WriteFault' = WriteFault
session_status TooLong' = TooLong
session_status NoMemory' = NoMemory

abbrev pub hub_status : HubFault → Status
hub_status hub.DiskFailed = DiskFault
hub_status (hub.NotAJournal head) = NotAJournal head
hub_status (hub.BadRecord number) = BadRecord number
hub_status (hub.TooFull sum) = TooFull
hub_status hub.NoMemory = NoMemory

abbrev pub held_status : SessionEnd → Status
held_status (Ended end) = session_status end
held_status (Unopened fault) = hub_status fault

abbrev pub model_status : ModelEnd → Status
model_status model.Done = Done
model_status (model.NoModel fault) = NoModel fault
model_status model.ReadFault = ReadFault
model_status model.WriteFault = WriteFault
model_status model.NoMemory = NoMemory
model_status model.TooLong = TooLong

abbrev pub verify_status : VerifyEnd → Status
verify_status verify.Valid = Done
verify_status verify.Invalid = Invalid
verify_status (verify.TooWide wide) = TooWide wide
verify_status (verify.NoModel fault) = NoModel fault
verify_status (verify.Refused line) = Refused line
verify_status verify.ReadFault = ReadFault
verify_status verify.WriteFault = WriteFault
verify_status verify.NoMemory = NoMemory
verify_status verify.TooLong = TooLong

abbrev pub replay_status : ReplayEnd → Status
replay_status replay.Done = Done
replay_status (replay.Refused line) = Refused line
replay_status replay.ReadFault = ReadFault
replay_status replay.WriteFault = WriteFault
replay_status replay.NoMemory = NoMemory
replay_status replay.TooLong = TooLong

-- The statuses: done 0, no model 1, words refused 2, read fault 3, write fault 4, disk fault 5, want of memory 6, input too long 7,
-- certificate invalid 8, line refused 9, no journal 10, certificate too wide 11.
abbrev pub IsStatus : ℕ → Type 0
IsStatus status = (status ≡ 0) ⊎ ((status ≡ 1) ⊎ ((status ≡ 2) ⊎ ((status ≡ 3) ⊎ ((status ≡ 4) ⊎ ((status ≡ 5) ⊎ ((status ≡ 6) ⊎ ((status ≡ 7) ⊎ ((status ≡ 8) ⊎ ((status ≡ 9) ⊎ ((status ≡ 10) ⊎ (status ≡ 11)))))))))))

-- ---- a session

-- What was taken from the source and told, its text on the sink, where the words are taken. It speaks of the bytes that
-- were taken whether or not the source tells what it has left.
pub record RunSays {Deed : Type 0} (status : ℕ) (writing : Writing Deed) (told : Told Deed) (left left' contents contents' : Option (List ℕ)) : Type 0 where
  pub taken : List ℕ
  pub read : Reads left left' taken
  pub wrote : Writes contents contents' told.text
  pub needed : IsNeeded writing taken told
  -- all of it, where the input ends or ends the program
  pub done : status ≡ 0 → (rest : List ℕ) → MayFollow left' rest → (told ≡ writing.whole (taken ++ rest)) × (writing.is_too_long (taken ++ rest) ≡ false)
  pub ended : status ≡ 0 → (writing.is_over taken ≡ true) ⊎ IsAtEnd left'
  -- all that comes before what is too long
  pub too_long : status ≡ 7 → (rest : List ℕ) → MayFollow left' rest → (told ≡ writing.whole (taken ++ rest)) × (writing.is_too_long (taken ++ rest) ≡ true)
  pub read_fault : status ≡ 3 → told ≡ writing.so_far taken
  pub in_part : (status ≡ 4) ⊎ (status ≡ 6) → (rest : List ℕ) → MayFollow left' rest → IsFront told (writing.whole (taken ++ rest))

-- A session's lines heard what the desk over the file replied, and that there was no memory.
pub record SessionSays (status : ℕ) (owner : List ℕ) (role : Role) (disk : Disked) (left left' contents contents' : Option (List ℕ)) : Type 0 where
  pub heard : List Heard
  pub told : Told Call
  pub says : RunSays status (session_writing (seat_of owner role) at_first heard) told left left' contents contents'
  pub from_file : AreFromFile disk (entries_by (seat_of owner role) told.deeds)

-- The file wasn't opened, or the session was held.
abbrev pub SessionRuns : (owner : List ℕ) → Role → Disked → Status → (left left' contents contents' : Option (List ℕ)) → Type 0
SessionRuns owner role disk Done left left' contents contents' = SessionSays 0 owner role disk left left' contents contents'
SessionRuns owner role disk (NoModel fault) left left' contents contents' = ⊥
SessionRuns owner role disk WordsRefused left left' contents contents' = ⊥
SessionRuns owner role disk ReadFault left left' contents contents' = SessionSays 3 owner role disk left left' contents contents'
SessionRuns owner role disk WriteFault left left' contents contents' = SessionSays 4 owner role disk left left' contents contents'
SessionRuns owner role disk DiskFault left left' contents contents' = Untouched left left' contents contents'
SessionRuns owner role disk NoMemory left left' contents contents' = Untouched left left' contents contents' ⊎ SessionSays 6 owner role disk left left' contents contents'
SessionRuns owner role disk TooLong left left' contents contents' = SessionSays 7 owner role disk left left' contents contents'
SessionRuns owner role disk Invalid left left' contents contents' = ⊥
SessionRuns owner role disk (Refused line) left left' contents contents' = ⊥
SessionRuns owner role disk (NotAJournal head) left left' contents contents' = Untouched left left' contents contents' × IsRefusedFor (hub.NotAJournal head) disk
SessionRuns owner role disk (BadRecord number) left left' contents contents' = Untouched left left' contents contents' × IsRefusedFor (hub.BadRecord number) disk
SessionRuns owner role disk TooFull left left' contents contents' = Untouched left left' contents contents' × ((sum : ℕ) × IsRefusedFor (hub.TooFull sum) disk)
SessionRuns owner role disk (TooWide wide) left left' contents contents' = ⊥

-- ---- a command over the text of a model

-- The text is answered by one that answers for its model.
abbrev pub ModelRuns : Relation → Status → (left left' contents contents' : Option (List ℕ)) → Type 0
ModelRuns is_answer Done left left' contents contents' = Says is_answer model.Done left left' contents contents'
ModelRuns is_answer (NoModel fault) left left' contents contents' = Says is_answer (model.NoModel fault) left left' contents contents'
ModelRuns is_answer WordsRefused left left' contents contents' = ⊥
ModelRuns is_answer ReadFault left left' contents contents' = Says is_answer model.ReadFault left left' contents contents'
ModelRuns is_answer WriteFault left left' contents contents' = Says is_answer model.WriteFault left left' contents contents'
ModelRuns is_answer DiskFault left left' contents contents' = ⊥
ModelRuns is_answer NoMemory left left' contents contents' = Says is_answer model.NoMemory left left' contents contents'
ModelRuns is_answer TooLong left left' contents contents' = Says is_answer model.TooLong left left' contents contents'
ModelRuns is_answer Invalid left left' contents contents' = ⊥
ModelRuns is_answer (Refused line) left left' contents contents' = ⊥
ModelRuns is_answer (NotAJournal head) left left' contents contents' = ⊥
ModelRuns is_answer (BadRecord number) left left' contents contents' = ⊥
ModelRuns is_answer TooFull left left' contents contents' = ⊥
ModelRuns is_answer (TooWide wide) left left' contents contents' = ⊥

-- ---- a check

abbrev pub VerifyRuns : Status → (left left' contents contents' : Option (List ℕ)) → Type 0
VerifyRuns Done left left' contents contents' = VerifySays verify.Valid left left' contents contents'
VerifyRuns Invalid left left' contents contents' = VerifySays verify.Invalid left left' contents contents'
VerifyRuns (TooWide wide) left left' contents contents' = VerifySays (verify.TooWide wide) left left' contents contents'
VerifyRuns (NoModel fault) left left' contents contents' = VerifySays (verify.NoModel fault) left left' contents contents'
VerifyRuns (Refused line) left left' contents contents' = VerifySays (verify.Refused line) left left' contents contents'
VerifyRuns ReadFault left left' contents contents' = VerifySays verify.ReadFault left left' contents contents'
VerifyRuns WriteFault left left' contents contents' = VerifySays verify.WriteFault left left' contents contents'
VerifyRuns NoMemory left left' contents contents' = VerifySays verify.NoMemory left left' contents contents'
VerifyRuns TooLong left left' contents contents' = VerifySays verify.TooLong left left' contents contents'
VerifyRuns WordsRefused left left' contents contents' = ⊥
VerifyRuns DiskFault left left' contents contents' = ⊥
VerifyRuns (NotAJournal head) left left' contents contents' = ⊥
VerifyRuns (BadRecord number) left left' contents contents' = ⊥
VerifyRuns TooFull left left' contents contents' = ⊥

-- ---- a script

-- whatever batches come to
abbrev pub ReplaySays : ReplayEnd → (left left' contents contents' : Option (List ℕ)) → Type 0
ReplaySays end left left' contents contents' = (plain : BatchBody → BatchResult) → Replayed plain end left left' contents contents'

-- The script wrote what its steps give: all of it, all before the line that is refused, before what is too long or before what failed to
-- be read, or a front of it.
abbrev pub ReplayRuns : Status → (left left' contents contents' : Option (List ℕ)) → Type 0
ReplayRuns Done left left' contents contents' = ReplaySays replay.Done left left' contents contents'
ReplayRuns (NoModel fault) left left' contents contents' = ⊥
ReplayRuns WordsRefused left left' contents contents' = ⊥
ReplayRuns ReadFault left left' contents contents' = ReplaySays replay.ReadFault left left' contents contents'
ReplayRuns WriteFault left left' contents contents' = ReplaySays replay.WriteFault left left' contents contents'
ReplayRuns DiskFault left left' contents contents' = ⊥
ReplayRuns NoMemory left left' contents contents' = ReplaySays replay.NoMemory left left' contents contents'
ReplayRuns TooLong left left' contents contents' = ReplaySays replay.TooLong left left' contents contents'
ReplayRuns Invalid left left' contents contents' = ⊥
ReplayRuns (Refused line) left left' contents contents' = ReplaySays (replay.Refused line) left left' contents contents'
ReplayRuns (NotAJournal head) left left' contents contents' = ⊥
ReplayRuns (BadRecord number) left left' contents contents' = ⊥
ReplayRuns TooFull left left' contents contents' = ⊥
ReplayRuns (TooWide wide) left left' contents contents' = ⊥

-- ---- the program

abbrev pub RunsAs : Task → Disked → Status → (left left' contents contents' : Option (List ℕ)) → Type 0
RunsAs (Session owner role) disk status left left' contents contents' = SessionRuns owner role disk status left left' contents contents'
RunsAs (Solve p) disk status left left' contents contents' = ModelRuns (IsSolved p) status left left' contents contents'
RunsAs Limits disk status left left' contents contents' = ModelRuns TellsLimits status left left' contents contents'
RunsAs Verify disk status left left' contents contents' = VerifyRuns status left left' contents contents'
RunsAs Replay disk status left left' contents contents' = ReplayRuns status left left' contents contents'

-- a session alone touches the disk
abbrev pub uses_disk : Task → Bool
uses_disk (Session owner role) = true
uses_disk (Solve p) = false
uses_disk Limits = false
uses_disk Verify = false
uses_disk Replay = false

-- the line that tells why
abbrev pub error_line : Status → List ℕ
error_line Done = []
error_line (NoModel fault) = codes "model: " ++ placed_text fault.line fault.column fault.fault ++ codes "\n"
error_line WordsRefused = codes "words refused\n"
error_line ReadFault = codes "read fault\n"
error_line WriteFault = codes "write fault\n"
error_line DiskFault = codes "disk fault\n"
error_line NoMemory = codes "out of memory\n"
error_line TooLong = codes "input too long\n"
error_line Invalid = codes "certificate invalid\n"
error_line (Refused line) = codes "line " ++ (decimal line ++ codes " refused\n")
error_line (NotAJournal head) = codes "not a journal: " ++ (encode_lower head ++ codes "\n")
error_line (BadRecord number) = codes "not a journal: record " ++ (decimal number ++ codes "\n")
error_line TooFull = codes "not a journal: full\n"
error_line (TooWide wide) = codes "certificate too wide: " ++ (wide_text wide ++ codes "\n")

-- What stands where the line of a status is to be written: for want of memory for a fault's line this is the status.
abbrev pub IsReportOf : Status → Status → Type 0
IsReportOf (NoModel fault) told = (told ≡ NoModel fault) ⊎ (told ≡ NoMemory)
IsReportOf (Refused line) told = (told ≡ Refused line) ⊎ (told ≡ NoMemory)
IsReportOf (NotAJournal head) told = (told ≡ NotAJournal head) ⊎ (told ≡ NoMemory)
IsReportOf (BadRecord number) told = (told ≡ BadRecord number) ⊎ (told ≡ NoMemory)
IsReportOf (TooWide wide) told = (told ≡ TooWide wide) ⊎ (told ≡ NoMemory)
IsReportOf status told = told ≡ status

-- The line is written, or a front of it where that sink's faults rose.
abbrev pub Reports : (line : List ℕ) (faults faults' : ℕ) (contents contents' : Option (List ℕ)) → Type 0
Reports line faults faults' contents contents' =
    Writes contents contents' line
    ⊎ (Rose faults faults' × ((front : List ℕ) × IsPrefix front line × Writes contents contents' front))

-- How a run ended: with this code, after it did what its words asked for, and told why on the sink for errors.
pub record Ends (words : List (List ℕ)) (code : ℕ) (disk : Disked) (left left' contents contents' : Option (List ℕ)) (faults faults' : ℕ) (errors errors' : Option (List ℕ)) : Type 0 where
  pub status : Status
  pub code_is : code_of status ≡ code
  pub runs : IfSome (task_asked words) (λ task. RunsAs task disk status left left' contents contents')
  pub reports : Reports (error_line status) faults faults' errors errors'
