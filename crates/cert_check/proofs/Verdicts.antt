-- Looks one behind the other: what passes leaves the verdict to what is behind it, and what fails decides it.
use Rattle.std.proofs.Common.{◌≡◌, ◌∙◌, refl, sym, ap, ⊎_elim, ◌⊎◌, inl, inr, List, [], ◌∷◌, ◌++◌, Result, Ok, Err}
use Rattle.std.specs.Result.{IsErr}
use Rattle.std.proofs.lemmas.Bool.{cases_Bool}
use Rattle.frac128.specs.Fraction.{Fraction}
use Rattle.frac128.specs.declared.operations.Wide.{Wide}
use Rattle.solve_defs.specs.Looks.{Look, after_look, formed, verdict_of}
use Rattle.solve_defs.specs.declared.verdict.Verdict.{Verdict}
use Rattle.solve_defs.specs.declared.verdict.Verdict.TheVariants.{Valid, Invalid, TooWide}
use Rattle.cert_check.specs.Found.{tested, verdict_by}
use Rattle.cert_check.specs.declared.failure.Failure.{Failure}
use Rattle.cert_check.specs.declared.failure.Failure.TheVariants as failure

-- ---- one look

record Stops (look : Look) (found : Result Fraction Wide) : Type 0 where
  verdict : Verdict
  not_valid : verdict ≡ Valid → ⊥
  always : (later : Verdict) → after_look look found later ≡ verdict

goes_or_stops : (look : Look) (found : Result Fraction Wide) → ((later : Verdict) → after_look look found later ≡ later) ⊎ Stops look found
goes_or_stops look (Err wide) = inr (record { verdict = TooWide wide; not_valid = λ e. absurd cc; always = λ later. refl })
goes_or_stops look (Ok sum) =
    ⊎_elim
    (λ shown. inl (λ later. rw shown refl))
    (λ shown. inr (record { verdict = Invalid look.place; not_valid = λ e. absurd cc; always = λ later. rw shown refl }))
    (cases_Bool (look.holds sum))

pub passes_on : (look : Look) (looks : List Look) → Valid ≡ verdict_of (look ∷ []) → verdict_of (look ∷ looks) ≡ verdict_of looks
passes_on look looks valid =
    ⊎_elim (λ (goes : (later : Verdict) → after_look look (formed look.start look.steps) later ≡ later). goes (verdict_of looks))
    (λ (stops : Stops look (formed look.start look.steps)). absurd (stops.not_valid (sym (stops.always Valid) ∙ sym valid)))
    (goes_or_stops look (formed look.start look.steps))

pub stops_at : (look : Look) (looks : List Look) (v : Verdict) → (v ≡ Valid → ⊥) → v ≡ verdict_of (look ∷ []) → v ≡ verdict_of (look ∷ looks)
stops_at look looks v failed is =
    ⊎_elim (λ (goes : (later : Verdict) → after_look look (formed look.start look.steps) later ≡ later). absurd (failed (is ∙ goes Valid)))
    (λ (stops : Stops look (formed look.start look.steps)). is ∙ stops.always Valid ∙ sym (stops.always (verdict_of looks)))
    (goes_or_stops look (formed look.start look.steps))

-- ---- several

pub append_on : (xs ys : List Look) → Valid ≡ verdict_of xs → verdict_of (xs ++ ys) ≡ verdict_of ys
append_on [] ys valid = refl
append_on (look ∷ xs) ys valid =
    ⊎_elim
    (λ (goes : (later : Verdict) → after_look look (formed look.start look.steps) later ≡ later).
    goes (verdict_of (xs ++ ys)) ∙ append_on xs ys (valid ∙ goes (verdict_of xs)))
    (λ (stops : Stops look (formed look.start look.steps)). absurd (stops.not_valid (sym (stops.always (verdict_of xs)) ∙ sym valid)))
    (goes_or_stops look (formed look.start look.steps))

pub append_stops : (xs ys : List Look) (v : Verdict) → (v ≡ Valid → ⊥) → v ≡ verdict_of xs → v ≡ verdict_of (xs ++ ys)
append_stops [] ys v failed is = absurd (failed is)
append_stops (look ∷ xs) ys v failed is =
    ⊎_elim
    (λ (goes : (later : Verdict) → after_look look (formed look.start look.steps) later ≡ later).
    append_stops xs ys v failed (is ∙ goes (verdict_of xs)) ∙ sym (goes (verdict_of (xs ++ ys))))
    (λ (stops : Stops look (formed look.start look.steps)). is ∙ stops.always (verdict_of xs) ∙ sym (stops.always (verdict_of (xs ++ ys))))
    (goes_or_stops look (formed look.start look.steps))

-- ---- by answers

pub not_valid : (failed : Failure) → verdict_by {A = Unit {0}} (Err failed) ≡ Valid → ⊥
not_valid (failure.Invalid place) e = absurd cc
not_valid (failure.TooWide wide) e = absurd cc

-- a look whose sum is formed
pub summed : (look : Look) (sum : Fraction) → Ok sum ≡ formed look.start look.steps → tested (look.holds sum) look.place ≡ verdict_of (look ∷ [])
summed look sum is =
    ⊎_elim {C = tested (look.holds sum) look.place ≡ after_look look (Ok sum) Valid} (λ e. rw e refl) (λ e. rw e refl) (cases_Bool (look.holds sum))
    ∙ ap (λ (found : Result Fraction Wide). after_look look found Valid) is

pub too_wide : (look : Look) (wide : Wide) → Err wide ≡ formed look.start look.steps → TooWide wide ≡ verdict_of (look ∷ [])
too_wide look wide is = ap (λ (found : Result Fraction Wide). after_look look found Valid) is

-- What ends in a part ends so in the whole.
pub stays : {A : Type 0} (found : Result A Failure) (xs ys : List Look) → IsErr found → verdict_by found ≡ verdict_of xs → verdict_by found ≡ verdict_of (xs ++ ys)
stays (Ok a) xs ys is_err told = absurd cc
stays (Err failed) xs ys is_err told = append_stops xs ys (verdict_by {A = Unit {0}} (Err failed)) (not_valid failed) told

pub behind : (xs ys : List Look) (v : Verdict) → Valid ≡ verdict_of xs → v ≡ verdict_of ys → v ≡ verdict_of (xs ++ ys)
behind xs ys v valid told = told ∙ sym (append_on xs ys valid)
