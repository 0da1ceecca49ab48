-- One call of a disk in memory.
use Rattle.std.proofs.Common.{◌≡◌, ℕ, false, length, Option, None, Some, inl, inr, refl, sym, ap, subst, ◌∙◌, arith}
use Rattle.base_names.specs.Outside.{one_more}
use Rattle.disk_model.specs.Memory.{CallMade, DiskState, begun_of, done_answer, entered, entered_by, len_answer, stop_in}
use Rattle.disk_model.specs.declared.answer.DiskDone.TheVariants.{Done, Failed}
use Rattle.disk_model.specs.declared.answer.DiskLen.TheVariants.{Len, Failed as NoLen}
use Rattle.disk_model.specs.declared.arming.Begun.{Begun}
use Rattle.disk_model.specs.declared.arming.Begun.TheVariants.{Runs, Fails, Stops}
use Rattle.disk_model.specs.declared.image.Image.{Image}
use Rattle.journal.specs.Plans.{Step, LenStep, ReadStep, WriteStep, SyncStep, done_call, failed_call}
use Rattle.journal_in_memory.specs.Running.{made_by, runs}

len_runs : (b : Begun) (len n : ℕ) → Len len ≡ len_answer b n → b ≡ Runs
len_runs Runs len n is = refl
len_runs Fails len n is = absurd cc
len_runs Stops len n is = absurd cc

done_runs : (b : Begun) → Done ≡ done_answer b → b ≡ Runs
done_runs Runs is = refl
done_runs Fails is = absurd cc
done_runs Stops is = absurd cc

no_len : (n : ℕ) → NoLen ≡ Len n → ⊥
no_len n is = absurd cc

not_done : Failed ≡ Done → ⊥
not_done is = absurd cc

runs_or_fails : (b : Begun) → b ≡ Runs → b ≡ Fails → ⊥
runs_or_fails b one other = absurd cc

runs_or_stops : (b : Begun) → b ≡ Runs → b ≡ Stops → ⊥
runs_or_stops b one other = absurd cc

fails_or_stops : (b : Begun) → b ≡ Fails → b ≡ Stops → ⊥
fails_or_stops b one other = absurd cc

never_none : (n : ℕ) → one_more n ≡ 0 → ⊥
never_none n none = omega (arith, none)

-- a call that was done
pub done_made : (step : Step) (old mid : DiskState) → CallMade old (done_call step) mid → (begun_of old ≡ Runs) × (mid ≡ made_by Runs step old)
done_made (LenStep len) old mid made = (len_runs (begun_of old) len (length old.stored.bytes) made.0, made.1)
done_made (ReadStep at len) old mid made = (done_runs (begun_of old) made.0, made.1)
done_made (WriteStep at bytes) old mid made = (made.0, made.1)
done_made SyncStep old mid made = (done_runs (begun_of old) made.0, made.1)

-- and one that failed
failed_by : (b : Begun) (step : Step) (old new : DiskState) → begun_of old ≡ b → CallMade old (failed_call step) new → new.refused ≡ 0 → (runs b ≡ false) × (new ≡ made_by b step old)
failed_by Runs (LenStep len) old new is made none = absurd (no_len (length old.stored.bytes) (subst (λ (b : Begun). NoLen ≡ len_answer b (length old.stored.bytes)) is made.0))
failed_by Fails (LenStep len) old new is made none = (refl, made.1)
failed_by Stops (LenStep len) old new is made none = (refl, made.1)
failed_by Runs (ReadStep at len) old new is made none = absurd (not_done (subst (λ (b : Begun). Failed ≡ done_answer b) is made.0))
failed_by Fails (ReadStep at len) old new is made none = (refl, made.1)
failed_by Stops (ReadStep at len) old new is made none = (refl, made.1)
failed_by Runs (WriteStep at bytes) old new is (inl made) none = absurd (runs_or_fails (begun_of old) is made.0)
failed_by Runs (WriteStep at bytes) old new is (inr (inl made)) none = absurd (runs_or_stops (begun_of old) is made.0)
failed_by Runs (WriteStep at bytes) old new is (inr (inr made)) none = absurd (never_none _ (sym (ap (λ (s : DiskState). s.refused) made.1) ∙ none))
failed_by Fails (WriteStep at bytes) old new is (inl made) none = (refl, made.1)
failed_by Fails (WriteStep at bytes) old new is (inr (inl made)) none = absurd (fails_or_stops (begun_of old) is made.0)
failed_by Fails (WriteStep at bytes) old new is (inr (inr made)) none = absurd (made.0 is)
failed_by Stops (WriteStep at bytes) old new is (inl made) none = absurd (fails_or_stops (begun_of old) made.0 is)
failed_by Stops (WriteStep at bytes) old new is (inr (inl made)) none = (refl, made.1)
failed_by Stops (WriteStep at bytes) old new is (inr (inr made)) none = absurd (never_none _ (sym (ap (λ (s : DiskState). s.refused) made.1) ∙ none))
failed_by Runs SyncStep old new is made none = absurd (not_done (subst (λ (b : Begun). Failed ≡ done_answer b) is made.0))
failed_by Fails SyncStep old new is made none = (refl, made.1)
failed_by Stops SyncStep old new is made none = (refl, made.1)

pub failed_made : (step : Step) (old new : DiskState) → CallMade old (failed_call step) new → new.refused ≡ 0 → (runs (begun_of old) ≡ false) × (new ≡ made_by (begun_of old) step old)
failed_made step old new made none = failed_by (begun_of old) step old new refl made none

-- ---- refused growths

entered_by-refused : (stopped stop : Option Image) (s : DiskState) → (entered_by stopped stop s).refused ≡ s.refused
entered_by-refused (Some image) stop s = refl
entered_by-refused None (Some image) s = refl
entered_by-refused None None s = refl

entered-refused : (s : DiskState) → (entered s).refused ≡ s.refused
entered-refused s = entered_by-refused s.stopped (stop_in s.stop (one_more s.count)) s

none_before : (s new : DiskState) → new.refused ≡ (entered s).refused → new.refused ≡ 0 → s.refused ≡ 0
none_before s new same none = sym (entered-refused s) ∙ (sym same ∙ none)

-- Where none was refused so far, none was before a call that was done.
pub none_before_done : (step : Step) (old mid : DiskState) → CallMade old (done_call step) mid → mid.refused ≡ 0 → old.refused ≡ 0
none_before_done (LenStep len) old mid made none = none_before old mid (ap (λ (s : DiskState). s.refused) made.1) none
none_before_done (ReadStep at len) old mid made none = none_before old mid (ap (λ (s : DiskState). s.refused) made.1) none
none_before_done (WriteStep at bytes) old mid made none = none_before old mid (ap (λ (s : DiskState). s.refused) made.1) none
none_before_done SyncStep old mid made none = none_before old mid (ap (λ (s : DiskState). s.refused) made.1) none

pub none_before_failed : (step : Step) (old new : DiskState) → CallMade old (failed_call step) new → new.refused ≡ 0 → old.refused ≡ 0
none_before_failed (LenStep len) old new made none = none_before old new (ap (λ (s : DiskState). s.refused) made.1) none
none_before_failed (ReadStep at len) old new made none = none_before old new (ap (λ (s : DiskState). s.refused) made.1) none
none_before_failed (WriteStep at bytes) old new (inl made) none = none_before old new (ap (λ (s : DiskState). s.refused) made.1) none
none_before_failed (WriteStep at bytes) old new (inr (inl made)) none = none_before old new (ap (λ (s : DiskState). s.refused) made.1) none
none_before_failed (WriteStep at bytes) old new (inr (inr made)) none = absurd (never_none _ (sym (ap (λ (s : DiskState). s.refused) made.1) ∙ none))
none_before_failed SyncStep old new made none = none_before old new (ap (λ (s : DiskState). s.refused) made.1) none
