-- Sums that are formed side by side are held against the coefficients as they are where each is formed by itself.
use Rattle.std.proofs.Common.{◌≡◌, ◌∙◌, refl, sym, ap, ap₂, subst, ⊎_elim, ℕ, zero, suc, ◌+◌, ◌<◌, List, [], ◌∷◌, ◌++◌, length, map, drop, get_or, replicate, slice_set, Result, Ok, Err, arith}
use Rattle.std.proofs.lemmas.Bool.{cases_Bool}
use Rattle.std.proofs.lemmas.List.{drop_more, get_or-map, length-map}
use Rattle.frac128.specs.Fraction.{Fraction, zero_value}
use Rattle.model_data.specs.Lawful.{IsLawful}
use Rattle.model_data.specs.declared.model.Model.{Model}
use Rattle.model_data.specs.declared.model.Var.{Var}
use Rattle.model_data.specs.declared.solution.Weights.{Weights}
use Rattle.solve_defs.specs.Certificates.{sum_steps, sums_from}
use Rattle.solve_defs.specs.Looks.{Look, Step, after_look, formed, verdict_of}
use Rattle.solve_defs.specs.Values.{is_same}
use Rattle.solve_defs.specs.declared.verdict.Place.{Place}
use Rattle.solve_defs.specs.declared.verdict.Place.TheVariants.{LeafSum}
use Rattle.solve_defs.specs.declared.verdict.Verdict.{Verdict}
use Rattle.solve_defs.specs.declared.verdict.Verdict.TheVariants.{Invalid, Valid}
use Rattle.cert_check.specs.Found.{tested, verdict_by}
use Rattle.cert_check.specs.Leaves.{Fit, claim_by, coef_by, compared, sum_look}
use Rattle.cert_check.specs.Sums.{Sum, leaf_sums, no_sum, sum_at}
use Rattle.cert_check.specs.declared.claim.Claim.{Claim as Claimed}
use Rattle.cert_check.specs.declared.claim.Claim.TheVariants.{NoPoint, NoneBetter}
use Rattle.cert_check.specs.declared.failure.Failure.{Failure}
use Rattle.cert_check.proofs.Verdicts.{not_valid}
use Rattle.cert_check.proofs.SumsFormed.{leaf_sums-at, length-leaf_sums}

-- how the sum was formed doesn't matter
same_look : (leaf place : ℕ) (coef : Fraction) (steps : List Step) (sum : Sum) (later : Verdict)
    → after_look (sum_look leaf place coef) sum later ≡ after_look (record (sum_look leaf place coef) { steps = steps }) sum later
same_look leaf place coef steps (Ok total) later = refl
same_look leaf place coef steps (Err wide) later = refl

compared_is : (m : Model) (leaf : ℕ) (weights : Weights) (place : ℕ) (sums : List Sum) (coefs : List Fraction) → length sums ≡ length coefs
    → ((j : ℕ) → j < length sums → sum_at sums j ≡ formed zero_value (sum_steps m weights (place + j) (suc (place + j))))
    → compared leaf place sums coefs ≡ verdict_of (sums_from m leaf weights place coefs)
compared_is m leaf weights place [] [] sizes at = refl
compared_is m leaf weights place [] (coef ∷ coefs) sizes at = absurd (omega (arith, sizes))
compared_is m leaf weights place (sum ∷ sums) [] sizes at = absurd (omega (arith, sizes))
compared_is m leaf weights place (sum ∷ sums) (coef ∷ coefs) sizes at =
    ap (after_look (sum_look leaf place coef) sum) (compared_is m leaf weights (suc place) sums coefs (omega (arith, sizes)) behind)
    ∙ same_look leaf place coef steps sum later
    ∙ ap (λ (s : Sum). after_look (record (sum_look leaf place coef) { steps = steps }) s later) own
  where
    steps : List Step
    steps = sum_steps m weights place (suc place)

    later : Verdict
    later = verdict_of (sums_from m leaf weights (suc place) coefs)

    at_place : (k : ℕ) → k ≡ place → formed zero_value (sum_steps m weights k (suc k)) ≡ formed zero_value steps
    at_place k is = ap (λ (i : ℕ). formed zero_value (sum_steps m weights i (suc i))) is

    own : sum ≡ formed zero_value steps
    own = at 0 (omega arith) ∙ at_place (place + 0) (omega arith)

    moved : (j : ℕ) → place + suc j ≡ suc place + j
    moved j = omega arith

    behind : (j : ℕ) → j < length sums → sum_at sums j ≡ formed zero_value (sum_steps m weights (suc place + j) (suc (suc place + j)))
    behind j within = at (suc j) (omega (arith, within)) ∙ ap (λ (i : ℕ). formed zero_value (sum_steps m weights i (suc i))) (moved j)

coefs_are : (m : Model) (claim : Claimed) → map (coef_by m claim) m.vars ≡ (claim_by m claim).coefs
coefs_are m (NoneBetter value) = refl
coefs_are m NoPoint = refl

pub leaf_compared : (m : Model) (leaf : ℕ) (weights : Weights) (claim : Claimed) → IsLawful m → Fit m weights
    → compared leaf 0 (leaf_sums m weights) (map (coef_by m claim) m.vars) ≡ verdict_of (sums_from m leaf weights 0 (claim_by m claim).coefs)
leaf_compared m leaf weights claim lawful fit =
    compared_is m leaf weights 0 (leaf_sums m weights) (map (coef_by m claim) m.vars) sizes each
    ∙ ap (λ (cs : List Fraction). verdict_of (sums_from m leaf weights 0 cs)) (coefs_are m claim)
  where
    sizes : length (leaf_sums m weights) ≡ length (map (coef_by m claim) m.vars)
    sizes = length-leaf_sums m weights ∙ sym (length-map m.vars (coef_by m claim))

    from_zero : (j : ℕ) → j ≡ 0 + j
    from_zero j = omega arith

    each : (j : ℕ) → j < length (leaf_sums m weights) → sum_at (leaf_sums m weights) j ≡ formed zero_value (sum_steps m weights (0 + j) (suc (0 + j)))
    each j within =
        leaf_sums-at m weights j lawful fit (subst (λ n. j < n) (length-leaf_sums m weights) within)
        ∙ ap (λ (i : ℕ). formed zero_value (sum_steps m weights i (suc i))) (from_zero j)

-- ---- one sum after the other

-- a test that fails decides, and one that holds leaves it to the sums behind
pub test_fails : (look : Look) (sum : Fraction) (later : Verdict) (failed : Failure) → verdict_by {A = Unit {0}} (Err failed) ≡ tested (look.holds sum) look.place
    → verdict_by {A = Unit {0}} (Err failed) ≡ after_look look (Ok sum) later
test_fails look sum later failed is =
    ⊎_elim {C = verdict_by {A = Unit {0}} (Err failed) ≡ after_look look (Ok sum) later} (λ e. absurd (not_valid failed (is ∙ rw e refl))) (λ e. is ∙ rw e refl) (cases_Bool (look.holds sum))

pub test_holds : (look : Look) (sum : Fraction) (later : Verdict) → Valid ≡ tested (look.holds sum) look.place → after_look look (Ok sum) later ≡ later
test_holds look sum later is =
    ⊎_elim {C = after_look look (Ok sum) later ≡ later} (λ e. rw e refl) (λ e. absurd (invalid look.place (is ∙ rw e refl))) (cases_Bool (look.holds sum))
  where
    invalid : (place : Place) → Valid ≡ Invalid place → ⊥
    invalid place e = absurd cc

-- the sums from a place on
pub compared_more : (leaf i : ℕ) (sums : List Sum) (coefs : List Fraction) (coef : Fraction) → i < length sums → i < length coefs → coef ≡ get_or coefs i coef
    → compared leaf i (drop i sums) (drop i coefs) ≡ after_look (sum_look leaf i coef) (sum_at sums i) (compared leaf (i + 1) (drop (i + 1) sums) (drop (i + 1) coefs))
compared_more leaf i sums coefs coef within among is =
    ap₂ (compared leaf i) (drop_more sums i no_sum within) (drop_more coefs i coef among)
    ∙ ap (λ (c : Fraction). after_look (sum_look leaf i c) (sum_at sums i) (compared leaf (suc i) (drop (i + 1) sums) (drop (i + 1) coefs))) (sym is)
    ∙ ap (λ (k : ℕ). after_look (sum_look leaf i coef) (sum_at sums i) (compared leaf k (drop (i + 1) sums) (drop (i + 1) coefs))) next
  where
    next : suc i ≡ i + 1
    next = omega arith

-- ---- sums that are taken are 0 again

past : (i : ℕ) → sum_at (replicate i no_sum ++ []) i ≡ no_sum
past zero = refl
past (suc i) = past i

kept-at : (i : ℕ) (sums : List Sum) → sum_at (replicate i no_sum ++ drop i sums) i ≡ sum_at sums i
kept-at zero sums = refl
kept-at (suc i) [] = past i
kept-at (suc i) (s ∷ sums) = kept-at i sums

pub taken-at : (i : ℕ) (now sums : List Sum) → now ≡ replicate i no_sum ++ drop i sums → sum_at now i ≡ sum_at sums i
taken-at i now sums is = ap (λ (ss : List Sum). sum_at ss i) is ∙ kept-at i sums

set_next : (i : ℕ) (sums : List Sum) → i < length sums → slice_set (replicate i no_sum ++ drop i sums) i no_sum ≡ replicate (suc i) no_sum ++ drop (suc i) sums
set_next i [] within = absurd (omega (arith, within))
set_next zero (s ∷ sums) within = refl
set_next (suc i) (s ∷ sums) within = ap (λ (ss : List Sum). no_sum ∷ ss) (set_next i sums (omega (arith, within)))

pub taken_next : (i : ℕ) (now sums : List Sum) → i < length sums → now ≡ replicate i no_sum ++ drop i sums
    → slice_set now i no_sum ≡ replicate (i + 1) no_sum ++ drop (i + 1) sums
taken_next i now sums within is =
    ap (λ (ss : List Sum). slice_set ss i no_sum) is ∙ set_next i sums within ∙ ap (λ (k : ℕ). replicate k no_sum ++ drop k sums) next
  where
    next : suc i ≡ i + 1
    next = omega arith

-- ---- at one variable

pub sum_here : (m : Model) (claim : Claimed) (leaf i : ℕ) (v : Var) (now sums : List Sum) → i < length m.vars → v ≡ get_or m.vars i v → length sums ≡ length m.vars
    → now ≡ replicate i no_sum ++ drop i sums
    → compared leaf i (drop i sums) (drop i (map (coef_by m claim) m.vars))
    ≡ after_look (sum_look leaf i (coef_by m claim v)) (sum_at now i) (compared leaf (i + 1) (drop (i + 1) sums) (drop (i + 1) (map (coef_by m claim) m.vars)))
sum_here m claim leaf i v now sums within is sizes kept =
    compared_more leaf i sums coefs (coef_by m claim v) (subst (λ n. i < n) (sym sizes) within) (subst (λ n. i < n) (sym (length-map m.vars (coef_by m claim))) within) coef_at
    ∙ ap (λ (s : Sum). after_look (sum_look leaf i (coef_by m claim v)) s (compared leaf (i + 1) (drop (i + 1) sums) (drop (i + 1) coefs))) (sym (taken-at i now sums kept))
  where
    coefs : List Fraction
    coefs = map (coef_by m claim) m.vars

    coef_at : coef_by m claim v ≡ get_or coefs i (coef_by m claim v)
    coef_at = ap (coef_by m claim) is ∙ sym (get_or-map (coef_by m claim) m.vars i v (coef_by m claim v) within)
