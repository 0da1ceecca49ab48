-- What a call of a disk in memory does, by its beginning and its end.
use Rattle.std.proofs.Common.{◌≡◌, ◌⊎◌, inl, inr, ℕ, ◌+◌, ◌≤◌, ◌==◌, Bool, true, false, List, [], ◌∷◌, ◌++◌, length, Option, None, Some, IfSome, if◌then◌else◌, refl, sym, ◌∙◌, ap, subst, arith}
use Rattle.std.proofs.lemmas.Bool.Decides.{nat_tests}
use Rattle.base_names.specs.Outside.{Rose, one_more}
use Rattle.disk_model.specs.Calls.{DiskCall, LenCall, ReadCall, WriteCall, SyncCall, AddsCall, HasFailed}
use Rattle.disk_model.specs.Disk.{Torn, Follows, Same}
use Rattle.disk_model.specs.Images.{Stored, settled}
use Rattle.disk_model.specs.Made.{has_failed}
use Rattle.disk_model.specs.Memory.{DiskState, CallMade, WriteMade, answered, begun_of, calls_of, entered, entered_by, left_of, moment_of, stop_in, storing, wrote}
use Rattle.disk_model.specs.Moments.{Called}
use Rattle.disk_model.specs.declared.answer.DiskLen.TheVariants.{Len, Failed as NoLen}
use Rattle.disk_model.specs.declared.answer.DiskDone.{DiskDone}
use Rattle.disk_model.specs.declared.answer.DiskDone.TheVariants.{Done, Failed}
use Rattle.disk_model.specs.declared.image.Image.{Image}
use Rattle.disk_model.proofs.ImageSteps.{passes, writes, writes_not}

-- ---- while it is under way

record IsEntered (s mid : DiskState) : Type 0 where
  past : mid.past ≡ s.past ++ s.stored ∷ []
  stored : mid.stored ≡ s.stored
  calls : mid.calls ≡ s.calls
  faults : mid.faults ≡ s.faults
  refused : mid.refused ≡ s.refused

is_entered_by : (stopped stop : Option Image) (s : DiskState) → IsEntered s (entered_by stopped stop s)
is_entered_by (Some image) stop s = record { past = refl; stored = refl; calls = refl; faults = refl; refused = refl }
is_entered_by None (Some image) s = record { past = refl; stored = refl; calls = refl; faults = refl; refused = refl }
is_entered_by None None s = record { past = refl; stored = refl; calls = refl; faults = refl; refused = refl }

is_entered : (s : DiskState) → IsEntered s (entered s)
is_entered s = is_entered_by s.stopped (stop_in s.stop (one_more s.count)) s

-- ---- at its end

record IsEnded (old new : DiskState) (call : DiskCall) : Type 0 where
  past : new.past ≡ old.past ++ old.stored ∷ []
  calls : new.calls ≡ old.calls ++ call ∷ []
  faults : new.faults ≡ (if has_failed call then one_more old.faults else old.faults)
  refused : (new.refused ≡ old.refused) ⊎ (new.refused ≡ one_more old.refused)

ended : (old mid new : DiskState) (call : DiskCall) → mid.past ≡ (entered old).past → mid.calls ≡ (entered old).calls → mid.faults ≡ (entered old).faults → (mid.refused ≡ (entered old).refused) ⊎ (mid.refused ≡ one_more (entered old).refused)
    → new ≡ answered call mid → IsEnded old new call
ended old mid new call past calls faults refused is =
    let e = is_entered old in
    record {
      past = ap (λ (d : DiskState). d.past) is ∙ (past ∙ e.past);
      calls = ap (λ (d : DiskState). d.calls) is ∙ ap (λ (l : List DiskCall). l ++ call ∷ []) (calls ∙ e.calls);
      faults = ap (λ (d : DiskState). d.faults) is ∙ ap (λ (n : ℕ). if has_failed call then one_more n else n) (faults ∙ e.faults);
      refused = elim refused [
        | inl same ↦ inl (ap (λ (d : DiskState). d.refused) is ∙ (same ∙ e.refused))
        | inr more ↦ inr (ap (λ (d : DiskState). d.refused) is ∙ (more ∙ ap one_more e.refused))
      ];
    }

made_ended : (old new : DiskState) (call : DiskCall) → CallMade old call new → IsEnded old new call
made_ended old new (LenCall answer) made = ended old (entered old) new (LenCall answer) refl refl refl (inl refl) made.1
made_ended old new (ReadCall at len answer) made = ended old (entered old) new (ReadCall at len answer) refl refl refl (inl refl) made.1
made_ended old new (SyncCall answer) made = ended old _ new (SyncCall answer) refl refl refl (inl refl) made.1
made_ended old new (WriteCall at bytes Done) made = ended old _ new (WriteCall at bytes Done) refl refl refl (inl refl) made.1
made_ended old new (WriteCall at bytes Failed) (inl failed) = ended old (entered old) new (WriteCall at bytes Failed) refl refl refl (inl refl) failed.1
made_ended old new (WriteCall at bytes Failed) (inr (inl stopped)) = ended old _ new (WriteCall at bytes Failed) refl refl refl (inl refl) stopped.1
made_ended old new (WriteCall at bytes Failed) (inr (inr refused)) = ended old _ new (WriteCall at bytes Failed) refl refl refl (inr refl) refused.1

-- ---- what each call does in time

-- none was refused before
none_before : (old new : ℕ) → (new ≡ old) ⊎ (new ≡ one_more old) → new ≡ 0 → old ≡ 0
none_before old new (inl same) none = sym same ∙ none
none_before old new (inr more) none = omega (arith, more, none)

zero_is : (n : ℕ) → (n == 0) ≡ true → n ≡ 0
zero_is n is = grind (arith, nat_tests)

is_zero : (n : ℕ) → n ≡ 0 → true ≡ (n == 0)
is_zero n is = ap (λ (m : ℕ). m == 0) (sym is)

adds : (was now : List DiskCall) (call : DiskCall) (old new : ℕ) → now ≡ was ++ call ∷ [] → ((new ≡ 0) → old ≡ 0) → AddsCall (if old == 0 then Some was else None) (if new == 0 then Some now else None) call
adds was now call old new more before = by (new == 0) refl where
  by : (b : Bool) → (new == 0) ≡ b → AddsCall (if old == 0 then Some was else None) (if b then Some now else None) call
  by false is = tt
  by true is = (was, ap (λ (b : Bool). if b then Some was else None) (sym (is_zero old (before (zero_is new is)))), more)

pub failed_is : (call : DiskCall) → HasFailed call → has_failed call ≡ true
failed_is (LenCall answer) is = ap (λ a. has_failed (LenCall a)) is
failed_is (ReadCall at len answer) is = ap (λ a. has_failed (ReadCall at len a)) is
failed_is (WriteCall at bytes answer) is = ap (λ a. has_failed (WriteCall at bytes a)) is
failed_is (SyncCall answer) is = ap (λ a. has_failed (SyncCall a)) is

pub not_failed : (call : DiskCall) → (HasFailed call → ⊥) → has_failed call ≡ false
not_failed (LenCall (Len len)) other = refl
not_failed (LenCall NoLen) other = absurd (other refl)
not_failed (ReadCall at len Done) other = refl
not_failed (ReadCall at len Failed) other = absurd (other refl)
not_failed (WriteCall at bytes Done) other = refl
not_failed (WriteCall at bytes Failed) other = absurd (other refl)
not_failed (SyncCall Done) other = refl
not_failed (SyncCall Failed) other = absurd (other refl)

pub called : (old new : DiskState) (call : DiskCall) → CallMade old call new → old.faults ≤ new.faults → Called (λ _. 0) moment_of left_of calls_of CallMade (λ d. d.faults) old new call
called old new call made later =
    let e = made_ended old new call made in
    record {
      same = refl;
      time = passes old new e.past;
      call = adds old.calls new.calls call old.refused new.refused e.calls (none_before old.refused new.refused e.refused);
      change = made;
      later = later;
      cause = λ failed. let more : new.faults ≡ one_more old.faults = e.faults ∙ ap (λ (b : Bool). if b then one_more old.faults else old.faults) (failed_is call failed) in omega (arith, more);
      steady = λ other. e.faults ∙ ap (λ (b : Bool). if b then one_more old.faults else old.faults) (not_failed call other);
    }

-- ---- what it does to what is stored

pub len_stored : (old new : DiskState) (call : DiskCall) → new ≡ answered call (entered old) → new.stored ≡ old.stored
len_stored old new call is = ap (λ (d : DiskState). d.stored) is ∙ (is_entered old).stored

pub change_stored : (old new : DiskState) (call : DiskCall) (change : Stored → Stored) → new ≡ answered call (storing change (entered old)) → new.stored ≡ change old.stored
change_stored old new call change is = ap (λ (d : DiskState). d.stored) is ∙ ap change (is_entered old).stored

-- written, or nothing
pub write_stored : (old new : DiskState) (at : ℕ) (bytes : List ℕ) (answer : DiskDone) → WriteMade at bytes answer old new → (new.stored ≡ wrote at bytes old.stored) ⊎ ((answer ≡ Failed) × (new.stored ≡ old.stored))
write_stored old new at bytes Done made = inl (change_stored old new (WriteCall at bytes Done) (wrote at bytes) made.1)
write_stored old new at bytes Failed (inl failed) = inr (refl, len_stored old new (WriteCall at bytes Failed) failed.1)
write_stored old new at bytes Failed (inr (inl stopped)) = inl (change_stored old new (WriteCall at bytes Failed) (wrote at bytes) stopped.1)
write_stored old new at bytes Failed (inr (inr refused)) = inr (refl, ap (λ (d : DiskState). d.stored) refused.1 ∙ (is_entered old).stored)

pub write_images : (old new : DiskState) (at : ℕ) (bytes : List ℕ) (answer : DiskDone) → at ≤ length old.stored.bytes → WriteMade at bytes answer old new → Follows (Torn at (length bytes)) (left_of old (moment_of old)) (left_of new (moment_of new))
write_images old new at bytes answer le made = elim (write_stored old new at bytes answer made) [
  | inl is ↦ writes old new at bytes le is
  | inr same ↦ writes_not old new at (length bytes) same.1
]
