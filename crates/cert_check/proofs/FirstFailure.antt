-- A verdict is the first failure.
use Rattle.std.proofs.Common.{◌≡◌, ◌∙◌, refl, sym, ap, subst, ⊎_elim, IsTrue, List, [], ◌∷◌, ◌++◌, All, Result, Ok, Err}
use Rattle.std.proofs.lemmas.Bool.{cases_Bool, true≢false}
use Rattle.std.proofs.lemmas.List.Elements.{All-cons, All-head, All-nil, All-tail}
use Rattle.frac128.specs.Fraction.{Fraction}
use Rattle.frac128.specs.declared.operations.Wide.{Wide}
use Rattle.solve_defs.specs.Looks.{Holds, Look, after_look, formed, total_of, verdict_of}
use Rattle.solve_defs.specs.declared.verdict.Place.{Place}
use Rattle.solve_defs.specs.declared.verdict.Verdict.{Verdict}
use Rattle.solve_defs.specs.declared.verdict.Verdict.TheVariants.{Invalid, TooWide, Valid}
use Rattle.cert_check.specs.Failures.{FailsAt, Fits, IsFirst, Passes, Refuses}
use Rattle.cert_check.proofs.Operations.{FirstRefused, TriedAll, all_fit, first_refused, refuses_forms, steps_form, tried_all}

-- ---- one look

found : (look : Look) → Fits look → (later : Verdict) → after_look look (formed look.start look.steps) later ≡ after_look look (Ok (total_of look.start look.steps)) later
found look fits later = ap (λ (r : Result Fraction Wide). after_look look r later) (steps_form look.start look.steps fits)

passes_on : (look : Look) (later : Verdict) → Passes look → after_look look (formed look.start look.steps) later ≡ later
passes_on look later passes = found look passes.0 later ∙ rw passes.1 refl

fails_at : (place : Place) (look : Look) (later : Verdict) → FailsAt place look → after_look look (formed look.start look.steps) later ≡ Invalid place
fails_at place look later fails =
    found look fails.fits later
    ∙ ⊎_elim {C = after_look look (Ok (total_of look.start look.steps)) later ≡ Invalid place} (λ e. absurd (fails.fails e)) (λ e. rw e (ap Invalid fails.here))
    (cases_Bool (look.holds (total_of look.start look.steps)))

refuses_at : (wide : Wide) (look : Look) (later : Verdict) → Refuses wide look → after_look look (formed look.start look.steps) later ≡ TooWide wide
refuses_at wide look later refuses = ap (λ (r : Result Fraction Wide). after_look look r later) (refuses_forms wide look refuses)

data Sorted (look : Look) : Type 0 where
  passes : Passes look → Sorted look
  fails : FailsAt look.place look → Sorted look
  refuses : (wide : Wide) → Refuses wide look → Sorted look

sorted_by : (look : Look) → TriedAll look.start look.steps → Sorted look
sorted_by look (all_fit fits) =
    ⊎_elim (λ e. passes (fits, e)) (λ e. fails (record { here = refl; fits = fits; fails = λ (h : Holds look). true≢false (sym h ∙ e) })) (cases_Bool (look.holds (total_of look.start look.steps)))
sorted_by look (first_refused refusal) =
    refuses refusal.wide (record { before = refusal.before; step = refusal.step; after = refusal.after; parts = refusal.parts; fit = refusal.fit; here = refusal.here })

sorted : (look : Look) → Sorted look
sorted look = sorted_by look (tried_all look.start look.steps)

-- ---- many looks

pub all_valid : (looks : List Look) → All Passes looks → verdict_of looks ≡ Valid
all_valid [] all = refl
all_valid (look ∷ looks) all =
    passes_on look (verdict_of looks) (All-head Passes look looks all) ∙ all_valid looks (All-tail Passes look looks all)

behind_passed : (before rest : List Look) → All Passes before → verdict_of (before ++ rest) ≡ verdict_of rest
behind_passed [] rest all = refl
behind_passed (look ∷ before) rest all =
    passes_on look (verdict_of (before ++ rest)) (All-head Passes look before all) ∙ behind_passed before rest (All-tail Passes look before all)

pub first_invalid : (place : Place) (looks : List Look) → IsFirst (FailsAt place) looks → verdict_of looks ≡ Invalid place
first_invalid place looks first =
    ap verdict_of first.parts ∙ behind_passed first.before (first.look ∷ first.after) first.passed ∙ fails_at place first.look (verdict_of first.after) first.here

pub first_too_wide : (wide : Wide) (looks : List Look) → IsFirst (Refuses wide) looks → verdict_of looks ≡ TooWide wide
first_too_wide wide looks first =
    ap verdict_of first.parts ∙ behind_passed first.before (first.look ∷ first.after) first.passed ∙ refuses_at wide first.look (verdict_of first.after) first.here

data Ended (looks : List Look) : Type 0 where
  all_passed : All Passes looks → Ended looks
  one_fails : (place : Place) → IsFirst (FailsAt place) looks → Ended looks
  one_refuses : (wide : Wide) → IsFirst (Refuses wide) looks → Ended looks

later_first : (Kind : Look → Type 0) (look : Look) (looks : List Look) → Passes look → IsFirst Kind looks → IsFirst Kind (look ∷ looks)
later_first Kind look looks own first = record {
  before = look ∷ first.before;
  look = first.look;
  after = first.after;
  parts = ap (λ ls. look ∷ ls) first.parts;
  passed = All-cons Passes look first.before own first.passed;
  here = first.here;
}

now_first : (Kind : Look → Type 0) (look : Look) (looks : List Look) → Kind look → IsFirst Kind (look ∷ looks)
now_first Kind look looks own = record { before = []; look = look; after = looks; parts = refl; passed = All-nil Passes; here = own }

ended_by : (look : Look) (looks : List Look) → Sorted look → Ended looks → Ended (look ∷ looks)
ended_by look looks (passes own) (all_passed all) = all_passed (All-cons Passes look looks own all)
ended_by look looks (passes own) (one_fails place first) = one_fails place (later_first (FailsAt place) look looks own first)
ended_by look looks (passes own) (one_refuses wide first) = one_refuses wide (later_first (Refuses wide) look looks own first)
ended_by look looks (fails own) rest = one_fails look.place (now_first (FailsAt look.place) look looks own)
ended_by look looks (refuses wide own) rest = one_refuses wide (now_first (Refuses wide) look looks own)

ended : (looks : List Look) → Ended looks
ended [] = all_passed (All-nil Passes)
ended (look ∷ looks) = ended_by look looks (sorted look) (ended looks)

-- ---- back from the verdict

pub valid_all : (looks : List Look) → verdict_of looks ≡ Valid → All Passes looks
valid_all looks h = by_end (ended looks)
  where
    by_end : Ended looks → All Passes looks
    by_end (all_passed all) = all
    by_end (one_fails place first) = absurd (cc (first_invalid place looks first))
    by_end (one_refuses wide first) = absurd (cc (first_too_wide wide looks first))

pub invalid_first : (looks : List Look) (place : Place) → verdict_of looks ≡ Invalid place → IsFirst (FailsAt place) looks
invalid_first looks place h = by_end (ended looks)
  where
    by_end : Ended looks → IsFirst (FailsAt place) looks
    by_end (all_passed all) = absurd (cc (all_valid looks all))
    by_end (one_fails other first) =
        let both : Invalid other ≡ Invalid place = sym (first_invalid other looks first) ∙ h in
        let same : other ≡ place = cc in
        subst (λ p. IsFirst (FailsAt p) looks) same first
    by_end (one_refuses wide first) = absurd (cc (first_too_wide wide looks first))

pub too_wide_first : (looks : List Look) (wide : Wide) → verdict_of looks ≡ TooWide wide → IsFirst (Refuses wide) looks
too_wide_first looks wide h = by_end (ended looks)
  where
    by_end : Ended looks → IsFirst (Refuses wide) looks
    by_end (all_passed all) = absurd (cc (all_valid looks all))
    by_end (one_fails place first) = absurd (cc (first_invalid place looks first))
    by_end (one_refuses other first) =
        let both : TooWide other ≡ TooWide wide = sym (first_too_wide other looks first) ∙ h in
        let same : other ≡ wide = cc in
        subst (λ w. IsFirst (Refuses w) looks) same first
