-- How plans follow one another.
use Rattle.std.proofs.Common.{◌≡◌, ◌≢◌, inl, inr, ℕ, ◌≤◌, ◌<◌, nat_lt, Bool, true, false, List, [], ◌∷◌, ◌++◌, length, take, replicate, if◌then◌else◌, Option, None, Some, IfSome, refl, sym, ◌∙◌, ap, subst, append_assoc}
use Rattle.std.specs.Bool.{Decides}
use Rattle.std.proofs.lemmas.Bool.{false≢true, false_from_ne_true, le-ltb, lt-ltb}
use Rattle.std.proofs.lemmas.List.{append-nil, length-replicate}
use Rattle.std.proofs.lemmas.Slice.Eq.{bytes_eq-Decides}
use Rattle.disk_model.specs.Calls.{DiskCall, AddsCall, LenCall, SyncCall, Through}
use Rattle.disk_model.specs.declared.answer.DiskLen.{DiskLen}
use Rattle.disk_model.specs.declared.answer.DiskLen.TheVariants.{Len, Failed as NoLen}
use Rattle.disk_model.specs.declared.answer.DiskDone.{DiskDone}
use Rattle.disk_model.specs.declared.answer.DiskDone.TheVariants.{Done, Failed}
use Rattle.journal.specs.Plans.{Step, LenStep, SyncStep, done_call, failed_call, Ran, AddsCalls, RanOn, RanPart, begin_plan, has_header, mend_plan, measure_plan, mount_plan, read_plan, whole_plan, write_plan}
use Rattle.journal.specs.Mounting.{IsReadFault, IsTold, RanToLength, RanUpTo}
use Rattle.journal.specs.Putting.{is_done}
use Rattle.journal.specs.Records.{header}
use Rattle.journal.specs.declared.fault.MountFault.{MountFault}
use Rattle.journal.specs.declared.fault.MountFault.TheVariants.{DiskFailed, NotAJournal, NoMemory}

adds_more : (a b c : Option (List DiskCall)) (xs ys : List DiskCall) → AddsCalls a b xs → AddsCalls b c ys → AddsCalls a c (xs ++ ys)
adds_more a b None xs ys first second = tt
adds_more a b (Some now) xs ys first second =
    let from = subst (λ (o : Option (List DiskCall)). AddsCalls a o xs) second.1 first in
    (from.0, from.1, second.2 ∙ (ap (λ (l : List DiskCall). l ++ ys) from.2 ∙ append_assoc from.0 xs ys))

adds_none : (a : Option (List DiskCall)) → AddsCalls a a []
adds_none None = tt
adds_none (Some now) = (now, refl, sym (append-nil now))

ran_more : (xs ys : List Step) (cs ds : List DiskCall) (all : Bool) → Ran xs cs true → Ran ys ds all → Ran (xs ++ ys) (cs ++ ds) all
ran_more [] ys cs ds all first second = subst (λ (l : List DiskCall). Ran ys (l ++ ds) all) (sym first.0) second
ran_more (x ∷ xs) ys cs ds all (inl failed) second = absurd (false≢true (sym failed.1))
ran_more (x ∷ xs) ys cs ds all (inr went) second = inr (went.0 ++ ds, ap (λ (l : List DiskCall). l ++ ds) went.1, ran_more xs ys went.0 ds all went.2 second)

ran_short : (xs ys : List Step) (cs : List DiskCall) → Ran xs cs false → Ran (xs ++ ys) cs false
ran_short [] ys cs ran = absurd (false≢true ran.1)
ran_short (x ∷ xs) ys cs (inl failed) = inl failed
ran_short (x ∷ xs) ys cs (inr went) = inr (went.0, went.1, ran_short xs ys went.0 went.2)

-- ---- the plan of a reading

-- a file that the disk may have told
pub told_any : (seen : Option (List ℕ)) → (file : List ℕ) × IsTold seen file
told_any None = ([], tt)
told_any (Some file) = (file, refl)

pub told_of : (seen : Option (List ℕ)) (len : ℕ) → IfSome seen (λ told. len ≡ length told) → (file : List ℕ) × IsTold seen file × (length file ≡ len)
told_of None len is = (replicate len 0, tt, length-replicate len 0)
told_of (Some file) len is = (file, refl, sym is)

short_plan : (len : ℕ) → len ≤ 8 → measure_plan len ≡ read_plan len
short_plan len few = ap (λ (b : Bool). measure_plan len ++ (if b then whole_plan len else [])) (sym (le-ltb 8 len few))

long_plan : (len : ℕ) → 8 < len → measure_plan len ++ whole_plan len ≡ read_plan len
long_plan len more = ap (λ (b : Bool). measure_plan len ++ (if b then whole_plan len else [])) (sym (lt-ltb 8 len more))

-- ---- the plan of a mounting

-- a new file is begun
pub begun_plan : (file : List ℕ) → length file ≤ 8 → begin_plan ≡ write_plan file
begun_plan file few = ap (λ (b : Bool). if b then (if has_header file then mend_plan file else []) else begin_plan) (sym (le-ltb 8 (length file) few))

is_other : {P : Type 0} (b : Bool) → Decides b P → (P → ⊥) → b ≡ false
is_other b decides other = false_from_ne_true b (λ is. other (decides.0 is))

-- another file isn't written
pub other_plan : (file : List ℕ) → 8 < length file → take 8 file ≢ header → [] ≡ write_plan file
other_plan file more other =
    ap (λ (b : Bool). if b then mend_plan file else []) (sym (is_other (has_header file) (bytes_eq-Decides (take 8 file) header) other))
    ∙ ap (λ (b : Bool). if b then (if has_header file then mend_plan file else []) else begin_plan) (sym (lt-ltb 8 (length file) more))

-- ---- runs of a disk

module _ {D : Type 0} (calls : D → Option (List DiskCall)) (makes : D → DiskCall → D → Type 0) where
  through_more : (a b c : D) (xs ys : List DiskCall) → Through makes a xs b → Through makes b ys c → Through makes a (xs ++ ys) c
  through_more a b c [] ys first second = subst (λ (d : D). Through makes d ys c) first second
  through_more a b c (x ∷ xs) ys first second = (first.0, first.1, through_more first.0 b c xs ys first.2 second)

  -- nothing was run
  pub ran_none : (a : D) → RanOn calls makes [] a a true
  ran_none a = ([], (refl, refl), adds_none (calls a), refl)

  pub run_more : (xs ys : List Step) (a b c : D) (all : Bool) → RanOn calls makes xs a b true → RanOn calls makes ys b c all → RanOn calls makes (xs ++ ys) a c all
  run_more xs ys a b c all first second =
      (first.0 ++ second.0, ran_more xs ys first.0 second.0 all first.1 second.1, adds_more (calls a) (calls b) (calls c) first.0 second.0 first.2 second.2, through_more a b c first.0 second.0 first.3 second.3)

  pub run_short : (xs ys : List Step) (a b : D) → RanOn calls makes xs a b false → RanOn calls makes (xs ++ ys) a b false
  run_short xs ys a b run = (run.0, ran_short xs ys run.0 run.1, run.2, run.3)

  -- a beginning of a longer plan
  pub part_more : (xs ys : List Step) (a b : D) → RanPart calls makes xs a b → RanPart calls makes (xs ++ ys) a b
  part_more xs ys a b part = (part.0, part.1 ++ ys, ap (λ (l : List Step). l ++ ys) part.2 ∙ append_assoc part.0 part.1 ys, part.3)

  -- ---- one call, by what it was answered

  pub one_done : (step : Step) (call : DiskCall) (a b : D) → call ≡ done_call step → AddsCall (calls a) (calls b) call → makes a call b → RanOn calls makes (step ∷ []) a b true
  one_done step call a b is adds made = (call ∷ [], inr ([], ap (λ (c : DiskCall). c ∷ []) is, (refl, refl)), adds, (b, made, refl))

  pub one_failed : (step : Step) (call : DiskCall) (a b : D) → call ≡ failed_call step → AddsCall (calls a) (calls b) call → makes a call b → RanOn calls makes (step ∷ []) a b false
  one_failed step call a b is adds made = (call ∷ [], inl (ap (λ (c : DiskCall). c ∷ []) is, refl), adds, (b, made, refl))

  -- a sync
  pub sync_ran : (answer : DiskDone) (a b : D) → AddsCall (calls a) (calls b) (SyncCall answer) → makes a (SyncCall answer) b → RanOn calls makes (SyncStep ∷ []) a b (is_done answer)
  sync_ran Done a b adds made = one_done SyncStep (SyncCall Done) a b refl adds made
  sync_ran Failed a b adds made = one_failed SyncStep (SyncCall Failed) a b refl adds made

  -- a length behind a sync
  pub lengthen_ran : (answer : DiskLen) (a b c : D) → RanOn calls makes (SyncStep ∷ []) a b true → AddsCall (calls b) (calls c) (LenCall answer) → makes b (LenCall answer) c → RanToLength calls makes answer a c
  lengthen_ran (Len len) a b c first adds made = run_more (SyncStep ∷ []) (LenStep len ∷ []) a b c true first (one_done (LenStep len) (LenCall (Len len)) b c refl adds made)
  lengthen_ran NoLen a b c first adds made = λ len. run_more (SyncStep ∷ []) (LenStep len ∷ []) a b c false first (one_failed (LenStep len) (LenCall NoLen) b c refl adds made)

  -- ---- a reading

  -- a short file's length
  pub ran_short_file : (len : ℕ) (a b : D) (all : Bool) → len ≤ 8 → RanOn calls makes (measure_plan len) a b all → RanOn calls makes (read_plan len) a b all
  ran_short_file len a b all few ran = subst (λ (plan : List Step). RanOn calls makes plan a b all) (short_plan len few) ran

  -- a long file's bytes
  pub ran_long_file : (len : ℕ) (a b c : D) (all : Bool) → 8 < len → RanOn calls makes (measure_plan len) a b true → RanOn calls makes (whole_plan len) b c all → RanOn calls makes (read_plan len) a c all
  ran_long_file len a b c all more first second = subst (λ (plan : List Step). RanOn calls makes plan a c all) (long_plan len more) (run_more (measure_plan len) (whole_plan len) a b c all first second)

  -- no length
  pub ran_no_length : (len : ℕ) (a b : D) → RanOn calls makes (measure_plan len) a b false → RanOn calls makes (read_plan len) a b false
  ran_no_length len a b ran = run_short (measure_plan len) (if nat_lt 8 len then whole_plan len else []) a b ran

  -- behind a plan that ran to its end
  pub up_to_behind : (fault : Option MountFault) (xs ys : List Step) (a b c : D) → RanOn calls makes xs a b true → RanUpTo calls makes fault ys b c → RanUpTo calls makes fault (xs ++ ys) a c
  up_to_behind None xs ys a b c first second = run_more xs ys a b c true first second
  up_to_behind (Some DiskFailed) xs ys a b c first second = run_more xs ys a b c false first second
  up_to_behind (Some (NotAJournal head)) xs ys a b c first second = run_more xs ys a b c true first second
  up_to_behind (Some NoMemory) xs ys a b c first second =
      (xs ++ second.0, second.1, ap (λ (l : List Step). xs ++ l) second.2 ∙ sym (append_assoc xs second.0 second.1), run_more xs second.0 a b c true first second.3)

  -- a fault of reading ends a longer plan too
  pub up_to_short : (fault : MountFault) (xs ys : List Step) (a b : D) → IsReadFault fault → RanUpTo calls makes (Some fault) xs a b → RanUpTo calls makes (Some fault) (xs ++ ys) a b
  up_to_short DiskFailed xs ys a b is ran = run_short xs ys a b ran
  up_to_short (NotAJournal head) xs ys a b is ran = absurd is
  up_to_short NoMemory xs ys a b is ran = part_more xs ys a b ran

  pub up_to_long_file : (fault : MountFault) (len : ℕ) (a b c : D) → 8 < len → RanOn calls makes (measure_plan len) a b true → RanUpTo calls makes (Some fault) (whole_plan len) b c → RanUpTo calls makes (Some fault) (read_plan len) a c
  up_to_long_file fault len a b c more first second =
      subst (λ (plan : List Step). RanUpTo calls makes (Some fault) plan a c) (long_plan len more) (up_to_behind (Some fault) (measure_plan len) (whole_plan len) a b c first second)

  -- want of memory before the first call
  pub up_to_nothing : (plan : List Step) (a : D) → RanPart calls makes plan a a
  up_to_nothing plan a = ([], plan, refl, ran_none a)

  pub ran_mount : (fault : Option MountFault) (file : List ℕ) (a b c : D) → RanOn calls makes (read_plan (length file)) a b true → RanUpTo calls makes fault (write_plan file) b c → RanUpTo calls makes fault (mount_plan file) a c
  ran_mount fault file a b c first second = up_to_behind fault (read_plan (length file)) (write_plan file) a b c first second
