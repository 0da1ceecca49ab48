-- What a run says by what its session did.
use Rattle.std.proofs.Common.{◌≡◌, ℕ, false, IfSome, None, Some, List, [], ◌⊎◌, Option, inl, inr, refl, sym, ap, subst, ◌∙◌, arith}
use Rattle.std.proofs.lemmas.List.{append-nil}
use Rattle.base_names.specs.Outside.{Reads, Writes}
use Rattle.session.specs.Beginning.{at_first}
use Rattle.lp_defs.specs.declared.fault.ModelFault.{ModelFault}
use Rattle.session.specs.Dialogue.{Told, told_nothing}
use Rattle.session.specs.Talk.{Says as Says'}
use Rattle.session.proofs.Dialogues.{told_both-nothing}
use Rattle.session_command.specs.Held as held
use Rattle.session_command.specs.Held.{SessionHeld, Untouched}
use Rattle.session_command.specs.OnDisk.{Disked, IsRefusedFor, seat_of}
use Rattle.session_command.specs.declared.command.SessionEnd.{SessionEnd}
use Rattle.session_command.specs.declared.command.SessionEnd.TheVariants.{Ended, Unopened}
use Rattle.session.specs.Transcript.{session_writing}
use Rattle.session.specs.Writing.{Writing}
use Rattle.session.specs.declared.talking.End.{End}
use Rattle.session.specs.declared.talking.End.TheVariants.{Bye, Closed, ReadFault, WriteFault, TooLong, NoMemory}
use Rattle.model_command.specs.Says.{Relation, Says}
use Rattle.model_command.specs.declared.command.ModelEnd.{ModelEnd}
use Rattle.model_command.specs.declared.command.ModelEnd.TheVariants as model
use Rattle.solve_command.specs.Solve.{IsSolved}
use Rattle.whole_input.specs.Whole.{Takes}
use Rattle.limits_command.specs.Told.{TellsLimits}
use Rattle.frac128.specs.declared.operations.Wide.{Wide}
use Rattle.verify_command.specs.Verify.{VerifySays}
use Rattle.verify_command.specs.declared.command.VerifyEnd.{VerifyEnd}
use Rattle.verify_command.specs.declared.command.VerifyEnd.TheVariants as verify
use Rattle.replay_command.specs.declared.command.ReplayEnd.{ReplayEnd}
use Rattle.replay_command.specs.declared.command.ReplayEnd.TheVariants as replay
use Rattle.base_names.specs.declared.seat.Role.{Role}
use Rattle.hub_core.specs.declared.fault.HubFault.{HubFault}
use Rattle.hub_core.specs.declared.fault.HubFault.TheVariants as hub
use Rattle.cs_top.specs.Run.{uses_disk, IsReportOf, RunSays, RunsAs, ModelRuns, ReplayRuns, ReplaySays, SessionRuns, SessionSays, VerifyRuns, code_of, held_status, hub_status, model_status, replay_status, session_status, verify_status}
use Rattle.cs_top.specs.declared.status.Status.{Status}
use Rattle.cs_top.specs.declared.status.Status.TheVariants.{NoModel, Done as Done', WordsRefused as WordsRefused', ReadFault as ReadFault', WriteFault as WriteFault', DiskFault, NoMemory as NoMemory', TooLong as TooLong', Invalid, Refused, NotAJournal, BadRecord, TooFull, TooWide}
use Rattle.cs_top.specs.declared.task.Task.{Task}
use Rattle.cs_top.specs.declared.task.Task.TheVariants.{Session, Solve, Limits, Verify, Replay}

neither : (status : ℕ) → (status ≡ 4 → ⊥) → (status ≡ 6 → ⊥) → (status ≡ 4) ⊎ (status ≡ 6) → ⊥
neither status four six (inl is) = four is
neither status four six (inr is) = six is

run_says : {Deed : Type 0} (end : End) (writing : Writing Deed) (told : Told Deed) (left left' contents contents' : Option (List ℕ)) → Says' end writing told left left' contents contents' → RunSays (code_of (session_status end)) writing told left left' contents contents'
run_says Bye writing told left left' contents contents' talked = record {
  taken = talked.taken;
  read = talked.read;
  wrote = talked.wrote;
  needed = talked.needed;
  done = λ _ rest may. ((talked.says rest may).whole, (talked.says rest may).is_too_long);
  ended = λ _. inl (ap writing.is_over (sym (append-nil talked.taken)) ∙ (talked.says [] (inl refl)).is_over);
  too_long = λ is. absurd (omega (arith, is));
  read_fault = λ is. absurd (omega (arith, is));
  in_part = λ is. absurd (neither 0 (λ h. omega (arith, h)) (λ h. omega (arith, h)) is);
}
run_says Closed writing told left left' contents contents' talked = record {
  taken = talked.taken;
  read = talked.read;
  wrote = talked.wrote;
  needed = talked.needed;
  done = λ _ rest may. ((talked.says.1 rest may).whole, (talked.says.1 rest may).is_too_long);
  ended = λ _. inr talked.says.0;
  too_long = λ is. absurd (omega (arith, is));
  read_fault = λ is. absurd (omega (arith, is));
  in_part = λ is. absurd (neither 0 (λ h. omega (arith, h)) (λ h. omega (arith, h)) is);
}
run_says TooLong writing told left left' contents contents' talked = record {
  taken = talked.taken;
  read = talked.read;
  wrote = talked.wrote;
  needed = talked.needed;
  done = λ is. absurd (omega (arith, is));
  ended = λ is. absurd (omega (arith, is));
  too_long = λ _ rest may. ((talked.says rest may).whole, (talked.says rest may).is_too_long);
  read_fault = λ is. absurd (omega (arith, is));
  in_part = λ is. absurd (neither 7 (λ h. omega (arith, h)) (λ h. omega (arith, h)) is);
}
run_says ReadFault writing told left left' contents contents' talked = record {
  taken = talked.taken;
  read = talked.read;
  wrote = talked.wrote;
  needed = talked.needed;
  done = λ is. absurd (omega (arith, is));
  ended = λ is. absurd (omega (arith, is));
  too_long = λ is. absurd (omega (arith, is));
  read_fault = λ _. talked.says;
  in_part = λ is. absurd (neither 3 (λ h. omega (arith, h)) (λ h. omega (arith, h)) is);
}
run_says WriteFault writing told left left' contents contents' talked = record {
  taken = talked.taken;
  read = talked.read;
  wrote = talked.wrote;
  needed = talked.needed;
  done = λ is. absurd (omega (arith, is));
  ended = λ is. absurd (omega (arith, is));
  too_long = λ is. absurd (omega (arith, is));
  read_fault = λ is. absurd (omega (arith, is));
  in_part = λ _ rest may. talked.says rest may;
}
run_says NoMemory writing told left left' contents contents' talked = record {
  taken = talked.taken;
  read = talked.read;
  wrote = talked.wrote;
  needed = talked.needed;
  done = λ is. absurd (omega (arith, is));
  ended = λ is. absurd (omega (arith, is));
  too_long = λ is. absurd (omega (arith, is));
  read_fault = λ is. absurd (omega (arith, is));
  in_part = λ _ rest may. talked.says rest may;
}

-- the session was held
held_says : (end : End) (owner : List ℕ) (role : Role) (disk : Disked) (left left' contents contents' : Option (List ℕ)) → held.SessionSays end owner role disk left left' contents contents'
    → SessionSays (code_of (session_status end)) owner role disk left left' contents contents'
held_says end owner role disk left left' contents contents' s = record {
  heard = s.heard;
  told = s.told;
  says = run_says end (session_writing (seat_of owner role) at_first s.heard) s.told left left' contents contents' s.says;
  from_file = s.from_file;
}

ended_runs : (end : End) (owner : List ℕ) (role : Role) (disk : Disked) (left left' contents contents' : Option (List ℕ)) → held.SessionSays end owner role disk left left' contents contents'
    → SessionRuns owner role disk (session_status end) left left' contents contents'
ended_runs Bye owner role disk left left' contents contents' s = held_says Bye owner role disk left left' contents contents' s
ended_runs Closed owner role disk left left' contents contents' s = held_says Closed owner role disk left left' contents contents' s
ended_runs TooLong owner role disk left left' contents contents' s = held_says TooLong owner role disk left left' contents contents' s
ended_runs ReadFault owner role disk left left' contents contents' s = held_says ReadFault owner role disk left left' contents contents' s
ended_runs WriteFault owner role disk left left' contents contents' s = held_says WriteFault owner role disk left left' contents contents' s
ended_runs NoMemory owner role disk left left' contents contents' s = inr (held_says NoMemory owner role disk left left' contents contents' s)

-- the file wasn't opened
unopened_runs : (fault : HubFault) (owner : List ℕ) (role : Role) (disk : Disked) (left left' contents contents' : Option (List ℕ)) → Untouched left left' contents contents' × IsRefusedFor fault disk
    → SessionRuns owner role disk (hub_status fault) left left' contents contents'
unopened_runs hub.DiskFailed owner role disk left left' contents contents' is = is.0
unopened_runs (hub.NotAJournal head) owner role disk left left' contents contents' is = is
unopened_runs (hub.BadRecord number) owner role disk left left' contents contents' is = is
unopened_runs (hub.TooFull sum) owner role disk left left' contents contents' is = (is.0, (sum, is.1))
unopened_runs hub.NoMemory owner role disk left left' contents contents' is = inl is.0

pub session_runs : (end : SessionEnd) (owner : List ℕ) (role : Role) (disk : Disked) (left left' contents contents' : Option (List ℕ)) → SessionHeld end owner role disk left left' contents contents'
    → SessionRuns owner role disk (held_status end) left left' contents contents'
session_runs (Ended end) owner role disk left left' contents contents' s = ended_runs end owner role disk left left' contents contents' s
session_runs (Unopened fault) owner role disk left left' contents contents' s = unopened_runs fault owner role disk left left' contents contents' s

-- ---- a command over the text of a model

pub model_runs : (is_answer : Relation) (end : ModelEnd) (left left' contents contents' : Option (List ℕ)) → Says is_answer end left left' contents contents'
    → ModelRuns is_answer (model_status end) left left' contents contents'
model_runs is_answer model.Done left left' contents contents' says = says
model_runs is_answer (model.NoModel fault) left left' contents contents' says = says
model_runs is_answer model.ReadFault left left' contents contents' says = says
model_runs is_answer model.WriteFault left left' contents contents' says = says
model_runs is_answer model.NoMemory left left' contents contents' says = says
model_runs is_answer model.TooLong left left' contents contents' says = says

-- ---- a check

pub verify_runs : (end : VerifyEnd) (left left' contents contents' : Option (List ℕ)) → VerifySays end left left' contents contents' → VerifyRuns (verify_status end) left left' contents contents'
verify_runs verify.Valid left left' contents contents' says = says
verify_runs verify.Invalid left left' contents contents' says = says
verify_runs (verify.TooWide wide) left left' contents contents' says = says
verify_runs (verify.NoModel fault) left left' contents contents' says = says
verify_runs (verify.Refused line) left left' contents contents' says = says
verify_runs verify.ReadFault left left' contents contents' says = says
verify_runs verify.WriteFault left left' contents contents' says = says
verify_runs verify.NoMemory left left' contents contents' says = says
verify_runs verify.TooLong left left' contents contents' says = says

-- ---- a script

pub replay_runs : (end : ReplayEnd) (left left' contents contents' : Option (List ℕ)) → ReplaySays end left left' contents contents' → ReplayRuns (replay_status end) left left' contents contents'
replay_runs replay.Done left left' contents contents' says = says
replay_runs (replay.Refused line) left left' contents contents' says = says
replay_runs replay.ReadFault left left' contents contents' says = says
replay_runs replay.WriteFault left left' contents contents' says = says
replay_runs replay.NoMemory left left' contents contents' says = says
replay_runs replay.TooLong left left' contents contents' says = says

-- ---- want of memory

none_read : (left : Option (List ℕ)) → Reads left left []
none_read None = refl
none_read (Some rest) = refl

none_written : (contents : Option (List ℕ)) → Writes contents contents []
none_written None = refl
none_written (Some text) = ap Some (sym (append-nil text))

nothing_taken : (limit : ℕ) (left : Option (List ℕ)) → Takes limit left left []
nothing_taken limit left = record { read = none_read left; before = []; last = []; whole = refl; allowed = omega arith; short = omega arith }

nothing_of_model : (is_answer : Relation) (left contents : Option (List ℕ)) → ModelRuns is_answer NoMemory' left left contents contents
nothing_of_model is_answer left contents = ([], nothing_taken _ left, refl)

nothing_of_script : (left contents : Option (List ℕ)) → ReplaySays replay.NoMemory left left contents contents
nothing_of_script left contents = λ plain. record {
  memory = [];
  told = told_nothing;
  says = record {
    taken = [];
    read = none_read left;
    wrote = none_written contents;
    needed = record { before = []; last = []; whole = refl; short = omega arith; going = refl; answered = (told_nothing, refl) };
    says = λ rest may. (_, refl);
  };
  refuses = λ rest may. tt;
  believed = tt;
}

-- what was told of a script up to a line that is refused is a front of it
untold_script : (line : ℕ) (left left' contents contents' : Option (List ℕ)) → ReplaySays (replay.Refused line) left left' contents contents' → ReplaySays replay.NoMemory left left' contents contents'
untold_script line left left' contents contents' says = λ plain.
    let replayed = says plain in
    record {
      memory = replayed.memory;
      told = replayed.told;
      says = record {
        taken = replayed.says.taken;
        read = replayed.says.read;
        wrote = replayed.says.wrote;
        needed = replayed.says.needed;
        says = λ rest may. (told_nothing, told_both-nothing replayed.told ∙ (replayed.says.says rest may).whole);
      };
      refuses = λ rest may. tt;
      believed = replayed.believed;
    }

-- Nothing was done.
pub nothing_runs : (task : Task) (disk : Disked) (left contents : Option (List ℕ)) → RunsAs task disk NoMemory' left left contents contents
nothing_runs (Session owner role) disk left contents = inl (refl, refl)
nothing_runs (Solve p) disk left contents = nothing_of_model (IsSolved p) left contents
nothing_runs Limits disk left contents = nothing_of_model TellsLimits left contents
nothing_runs Verify disk left contents = ([], nothing_taken _ left, refl)
nothing_runs Replay disk left contents = nothing_of_script left contents

-- The line of a fault found no memory.
untold_runs : (task : Task) (disk : Disked) (fault : ModelFault) (left left' contents contents' : Option (List ℕ)) → RunsAs task disk (NoModel fault) left left' contents contents' → RunsAs task disk NoMemory' left left' contents contents'
untold_runs (Session owner role) disk fault left left' contents contents' runs = absurd runs
untold_runs (Solve p) disk fault left left' contents contents' runs = (runs.0, runs.1.takes, runs.2.1)
untold_runs Limits disk fault left left' contents contents' runs = (runs.0, runs.1.takes, runs.2.1)
untold_runs Verify disk fault left left' contents contents' runs = (runs.0, runs.1.takes, runs.2.1)
untold_runs Replay disk fault left left' contents contents' runs = absurd runs

untold_line : (task : Task) (disk : Disked) (line : ℕ) (left left' contents contents' : Option (List ℕ)) → RunsAs task disk (Refused line) left left' contents contents' → RunsAs task disk NoMemory' left left' contents contents'
untold_line (Session owner role) disk line left left' contents contents' runs = absurd runs
untold_line (Solve p) disk line left left' contents contents' runs = absurd runs
untold_line Limits disk line left left' contents contents' runs = absurd runs
untold_line Verify disk line left left' contents contents' runs = (runs.0, runs.1.takes, runs.2.1)
untold_line Replay disk line left left' contents contents' runs = untold_script line left left' contents contents' runs

untold_header : (task : Task) (disk : Disked) (head : List ℕ) (left left' contents contents' : Option (List ℕ)) → RunsAs task disk (NotAJournal head) left left' contents contents' → RunsAs task disk NoMemory' left left' contents contents'
untold_header (Session owner role) disk head left left' contents contents' runs = inl runs.0
untold_header (Solve p) disk head left left' contents contents' runs = absurd runs
untold_header Limits disk head left left' contents contents' runs = absurd runs
untold_header Verify disk head left left' contents contents' runs = absurd runs
untold_header Replay disk head left left' contents contents' runs = absurd runs

untold_record : (task : Task) (disk : Disked) (number : ℕ) (left left' contents contents' : Option (List ℕ)) → RunsAs task disk (BadRecord number) left left' contents contents' → RunsAs task disk NoMemory' left left' contents contents'
untold_record (Session owner role) disk number left left' contents contents' runs = inl runs.0
untold_record (Solve p) disk number left left' contents contents' runs = absurd runs
untold_record Limits disk number left left' contents contents' runs = absurd runs
untold_record Verify disk number left left' contents contents' runs = absurd runs
untold_record Replay disk number left left' contents contents' runs = absurd runs

untold_wide : (task : Task) (disk : Disked) (wide : Wide) (left left' contents contents' : Option (List ℕ)) → RunsAs task disk (TooWide wide) left left' contents contents' → RunsAs task disk NoMemory' left left' contents contents'
untold_wide (Session owner role) disk wide left left' contents contents' runs = absurd runs
untold_wide (Solve p) disk wide left left' contents contents' runs = absurd runs
untold_wide Limits disk wide left left' contents contents' runs = absurd runs
untold_wide Verify disk wide left left' contents contents' runs = (runs.0, runs.1.takes, runs.2.1)
untold_wide Replay disk wide left left' contents contents' runs = absurd runs

-- the same where words ask for something
-- what isn't used stays
pub asked_unmoved : {A : Type 0} (asked : Option Task) (x : A) → IfSome asked (λ task. uses_disk task ≡ false → x ≡ x)
asked_unmoved None x = tt
asked_unmoved (Some task) x = λ _. refl

pub asked_nothing_runs : (asked : Option Task) (disk : Disked) (left contents : Option (List ℕ)) → IfSome asked (λ task. RunsAs task disk NoMemory' left left contents contents)
asked_nothing_runs None disk left contents = tt
asked_nothing_runs (Some task) disk left contents = nothing_runs task disk left contents

-- What is done is done as well where its status is told.
told_runs : (task : Task) (disk : Disked) (status told : Status) (left left' contents contents' : Option (List ℕ)) → IsReportOf status told → RunsAs task disk status left left' contents contents' → RunsAs task disk told left left' contents contents'
told_runs task disk (NoModel fault) told left left' contents contents' (inl same) runs = subst (λ s. RunsAs task disk s left left' contents contents') (sym same) runs
told_runs task disk (NoModel fault) told left left' contents contents' (inr none) runs =
    subst (λ s. RunsAs task disk s left left' contents contents') (sym none) (untold_runs task disk fault left left' contents contents' runs)
told_runs task disk (Refused line) told left left' contents contents' (inl same) runs = subst (λ s. RunsAs task disk s left left' contents contents') (sym same) runs
told_runs task disk (Refused line) told left left' contents contents' (inr none) runs =
    subst (λ s. RunsAs task disk s left left' contents contents') (sym none) (untold_line task disk line left left' contents contents' runs)
told_runs task disk (NotAJournal head) told left left' contents contents' (inl same) runs = subst (λ s. RunsAs task disk s left left' contents contents') (sym same) runs
told_runs task disk (NotAJournal head) told left left' contents contents' (inr none) runs =
    subst (λ s. RunsAs task disk s left left' contents contents') (sym none) (untold_header task disk head left left' contents contents' runs)
told_runs task disk (BadRecord number) told left left' contents contents' (inl same) runs = subst (λ s. RunsAs task disk s left left' contents contents') (sym same) runs
told_runs task disk (BadRecord number) told left left' contents contents' (inr none) runs =
    subst (λ s. RunsAs task disk s left left' contents contents') (sym none) (untold_record task disk number left left' contents contents' runs)
told_runs task disk (TooWide wide) told left left' contents contents' (inl same) runs = subst (λ s. RunsAs task disk s left left' contents contents') (sym same) runs
told_runs task disk (TooWide wide) told left left' contents contents' (inr none) runs =
    subst (λ s. RunsAs task disk s left left' contents contents') (sym none) (untold_wide task disk wide left left' contents contents' runs)
told_runs task disk Invalid told left left' contents contents' same runs = subst (λ s. RunsAs task disk s left left' contents contents') (sym same) runs
told_runs task disk Done' told left left' contents contents' same runs = subst (λ s. RunsAs task disk s left left' contents contents') (sym same) runs
told_runs task disk WordsRefused' told left left' contents contents' same runs = subst (λ s. RunsAs task disk s left left' contents contents') (sym same) runs
told_runs task disk ReadFault' told left left' contents contents' same runs = subst (λ s. RunsAs task disk s left left' contents contents') (sym same) runs
told_runs task disk WriteFault' told left left' contents contents' same runs = subst (λ s. RunsAs task disk s left left' contents contents') (sym same) runs
told_runs task disk DiskFault told left left' contents contents' same runs = subst (λ s. RunsAs task disk s left left' contents contents') (sym same) runs
told_runs task disk NoMemory' told left left' contents contents' same runs = subst (λ s. RunsAs task disk s left left' contents contents') (sym same) runs
told_runs task disk TooLong' told left left' contents contents' same runs = subst (λ s. RunsAs task disk s left left' contents contents') (sym same) runs
told_runs task disk TooFull told left left' contents contents' same runs = subst (λ s. RunsAs task disk s left left' contents contents') (sym same) runs

pub asked_told_runs : (asked : Option Task) (disk : Disked) (status told : Status) (left left' contents contents' : Option (List ℕ)) → IsReportOf status told
    → IfSome asked (λ task. RunsAs task disk status left left' contents contents') → IfSome asked (λ task. RunsAs task disk told left left' contents contents')
asked_told_runs None disk status told left left' contents contents' report runs = tt
asked_told_runs (Some task) disk status told left left' contents contents' report runs = told_runs task disk status told left left' contents contents' report runs
