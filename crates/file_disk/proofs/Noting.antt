-- What a call of a disk over a file does in time.
use Rattle.std.proofs.Common.{◌≡◌, ℕ, ◌≤◌, Bool, List, [], ◌∷◌, ◌++◌, length, Some, if◌then◌else◌, refl, ◌∙◌, ap, arith, length-append}
use Rattle.base_names.specs.Outside.{one_more}
use Rattle.disk_model.specs.Calls.{DiskCall}
use Rattle.disk_model.specs.Made.{has_failed}
use Rattle.disk_model.specs.Moments.{Called}
use Rattle.disk_model.proofs.MemoryCalls.{failed_is, not_failed}

pub noted : {D : Type 0} (made : D → List DiskCall) (failed : D → ℕ) (old new : D) (call : DiskCall) → made new ≡ made old ++ call ∷ [] → failed new ≡ (if has_failed call then one_more (failed old) else failed old) → failed old ≤ failed new
    → Called (λ _. 0) (λ d. length (made d)) (λ _ _ _. ⊥) (λ d. Some (made d)) (λ _ _ _. Unit {0}) failed old new call
noted made failed old new call calls count later = record {
  same = refl;
  time = record { next = ap length calls ∙ length-append (made old) (call ∷ []); kept = λ t image le is. is; keeps = λ t image le is. is };
  call = (made old, refl, calls);
  change = tt;
  later = later;
  cause = λ is. let more : failed new ≡ one_more (failed old) = count ∙ ap (λ (b : Bool). if b then one_more (failed old) else failed old) (failed_is call is) in omega (arith, more);
  steady = λ other. count ∙ ap (λ (b : Bool). if b then one_more (failed old) else failed old) (not_failed call other);
}
