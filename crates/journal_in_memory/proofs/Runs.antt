-- A plan that ran on a disk in memory.
use Rattle.std.proofs.Common.{◌≡◌, ℕ, Bool, true, false, List, [], ◌∷◌, ◌++◌, Option, None, inl, inr, refl, sym, ap, subst, ◌∙◌, if◌then◌else◌}
use Rattle.std.proofs.lemmas.Bool.{false≢true}
use Rattle.disk_model.specs.Calls.{DiskCall, Through}
use Rattle.disk_model.specs.Memory.{CallMade, DiskState, begun_of, calls_of}
use Rattle.disk_model.specs.declared.arming.Begun.{Begun}
use Rattle.disk_model.specs.declared.arming.Begun.TheVariants.{Runs}
use Rattle.journal.specs.Plans as plans
use Rattle.journal.specs.Plans.{FailedAdding, FailedBehind, RanOn, Step, append_plan, open_plan, settle_plan, stage_plan}
use Rattle.journal_in_memory.specs.Adding.{added, gated, settled, staged}
use Rattle.journal_in_memory.specs.Running.{Ran, made_by, ran, runs}
use Rattle.journal_in_memory.proofs.Calls.{done_made, failed_made, none_before_done, none_before_failed}

abbrev ended : DiskState → Bool → Ran
ended disk all = record { disk = disk; all = all }

-- ---- none was refused before, where none is behind

none_before_calls : (plan : List Step) (made : List DiskCall) (old new : DiskState) (all : Bool) → plans.Ran plan made all → Through CallMade old made new → new.refused ≡ 0 → old.refused ≡ 0
none_before_calls [] made old new all (nothing, whole) through none =
    let same : new ≡ old = subst (λ (calls : List DiskCall). Through CallMade old calls new) nothing through in ap (λ (s : DiskState). s.refused) (sym same) ∙ none
none_before_calls (step ∷ plan) made old new all (inl (one, part)) through none =
    let last = subst (λ (calls : List DiskCall). Through CallMade old calls new) one through in
    none_before_failed step old last.0 last.1 (ap (λ (s : DiskState). s.refused) (sym last.2) ∙ none)
none_before_calls (step ∷ plan) made old new all (inr (rest, more, further)) through none =
    let first = subst (λ (calls : List DiskCall). Through CallMade old calls new) more through in
    none_before_done step old first.0 first.1 (none_before_calls plan rest first.0 new all further first.2 none)

none_at_first : (plan : List Step) (old new : DiskState) (all : Bool) → RanOn calls_of CallMade plan old new all → new.refused ≡ 0 → old.refused ≡ 0
none_at_first plan old new all (made, run, tells, through) none = none_before_calls plan made old new all run through none

-- ---- the run is the one

abbrev onward : Bool → Step → List Step → DiskState → Ran
onward goes step plan s = if goes then ran plan (made_by Runs step s) else ended (made_by (begun_of s) step s) false

ran_through : (plan : List Step) (made : List DiskCall) (old new : DiskState) (all : Bool) → plans.Ran plan made all → Through CallMade old made new → new.refused ≡ 0 → ran plan old ≡ ended new all
ran_through [] made old new all (nothing, whole) through none =
    let same : new ≡ old = subst (λ (calls : List DiskCall). Through CallMade old calls new) nothing through in
    ap (λ (s : DiskState). ended s true) (sym same) ∙ ap (ended new) (sym whole)
ran_through (step ∷ plan) made old new all (inl (one, part)) through none =
    let last = subst (λ (calls : List DiskCall). Through CallMade old calls new) one through in
    let failed = failed_made step old last.0 last.1 (ap (λ (s : DiskState). s.refused) (sym last.2) ∙ none) in
    ap (λ (goes : Bool). onward goes step plan old) failed.0 ∙ (ap (λ (s : DiskState). ended s false) (sym failed.1 ∙ sym last.2) ∙ ap (ended new) (sym part))
ran_through (step ∷ plan) made old new all (inr (rest, more, further)) through none =
    let first = subst (λ (calls : List DiskCall). Through CallMade old calls new) more through in
    let done = done_made step old first.0 first.1 in
    ap (λ (b : Begun). onward (runs b) step plan old) done.0 ∙ (ap (ran plan) (sym done.1) ∙ ran_through plan rest first.0 new all further first.2 none)

pub ran_is : (plan : List Step) (old new : DiskState) (all : Bool) → RanOn calls_of CallMade plan old new all → new.refused ≡ 0 → ran plan old ≡ ended new all
ran_is plan old new all (made, run, tells, through) none = ran_through plan made old new all run through none

-- ---- one plan behind another

pub record Split (a b : List Step) (s new : DiskState) : Type 0 where
  pub mid : DiskState
  pub first : ran a s ≡ ended mid true
  pub second : ran b mid ≡ ended new true

split_if : (goes : Bool) (step : Step) (a b : List Step) (s new : DiskState) → (ran (a ++ b) (made_by Runs step s) ≡ ended new true → Split a b (made_by Runs step s) new)
    → onward goes step (a ++ b) s ≡ ended new true → (mid : DiskState) × (onward goes step a s ≡ ended mid true) × (ran b mid ≡ ended new true)
split_if true step a b s new further is = let split = further is in (split.mid, split.first, split.second)
split_if false step a b s new further is = absurd (false≢true (ap (λ (r : Ran). r.all) is))

split_run : (a b : List Step) (s new : DiskState) → ran (a ++ b) s ≡ ended new true → Split a b s new
split_run [] b s new is = record { mid = s; first = refl; second = is }
split_run (step ∷ a) b s new is =
    let parts = split_if (runs (begun_of s)) step a b s new (split_run a b (made_by Runs step s) new) is in record { mid = parts.0; first = parts.1; second = parts.2 }

-- ---- an append

by_parts : (doubt : Option (List ℕ)) (end : ℕ) (body : List ℕ) (s one two new : DiskState) (all : Bool) → ran (settle_plan doubt end) s ≡ ended one true → ran (stage_plan end body) one ≡ ended two true
    → ran (open_plan end) two ≡ ended new all → added doubt end body s ≡ gated body (ended new all)
by_parts doubt end body s one two new all settle stage gate =
    ap (settled doubt end body) settle ∙ (ap (staged end body) stage ∙ ap (gated body) gate)

pub added_is : (doubt : Option (List ℕ)) (end : ℕ) (body : List ℕ) (old new : DiskState) → RanOn calls_of CallMade (append_plan doubt end body) old new true → new.refused ≡ 0 → added doubt end body old ≡ record { disk = new; doubt = None }
added_is doubt end body old new run none =
    let settle = split_run (settle_plan doubt end) (stage_plan end body ++ open_plan end) old new (ran_is (append_plan doubt end body) old new true run none) in
    let stage = split_run (stage_plan end body) (open_plan end) settle.mid new settle.second in
    by_parts doubt end body old settle.mid stage.mid new true settle.first stage.first stage.second

-- all of one plan was made, and not all of the next
behind_is : (a b : List Step) (old new : DiskState) → FailedBehind calls_of CallMade a b old new → new.refused ≡ 0 → (mid : DiskState) × (ran a old ≡ ended mid true) × (ran b mid ≡ ended new false)
behind_is a b old new (mid, before, failed) none =
    (mid, ran_is a old mid true before (none_at_first b mid new false failed none), ran_is b mid new false failed none)

pub failed_is : (doubt : Option (List ℕ)) (end : ℕ) (body : List ℕ) (after : Option (List ℕ)) (old new : DiskState) → FailedAdding calls_of CallMade doubt end body after old new → new.refused ≡ 0 → added doubt end body old ≡ record { disk = new; doubt = after }
failed_is doubt end body after old new (inl (stays, failed)) none =
    let parts = behind_is [] (settle_plan doubt end) old new failed none in
    let same : ran (settle_plan doubt end) old ≡ ended new false = ap (λ (r : Ran). ran (settle_plan doubt end) r.disk) parts.1 ∙ parts.2 in
    ap (settled doubt end body) same ∙ ap (λ (d : Option (List ℕ)). record { disk = new; doubt = d }) (sym stays)
failed_is doubt end body after old new (inr (inl (gone, failed))) none =
    let parts = behind_is (settle_plan doubt end) (stage_plan end body) old new failed none in
    ap (settled doubt end body) parts.1 ∙ (ap (staged end body) parts.2 ∙ ap (λ (d : Option (List ℕ)). record { disk = new; doubt = d }) (sym gone))
failed_is doubt end body after old new (inr (inr (doubtful, failed))) none =
    let parts = behind_is (settle_plan doubt end ++ stage_plan end body) (open_plan end) old new failed none in
    let settle = split_run (settle_plan doubt end) (stage_plan end body) old parts.0 parts.1 in
    by_parts doubt end body old settle.mid parts.0 new false settle.first settle.second parts.2 ∙ ap (λ (d : Option (List ℕ)). record { disk = new; doubt = d }) (sym doubtful)
