-- What fits is formed, and what is refused is the first operation that doesn't fit.
use Rattle.std.proofs.Common.{◌≡◌, ◌∙◌, refl, sym, ap, subst, inl, inr, ⊎_elim, Bool, true, false, IsTrue, List, [], ◌∷◌, ◌++◌, Result, Ok, Err}
use Rattle.frac128.specs.Checked.{checked_difference, checked_product, checked_sum, value_or_wide, ◌>>=◌}
use Rattle.frac128.specs.Fits.{FitsDifference, FitsProduct, FitsSum, difference_fits, product_fits, sum_fits}
use Rattle.frac128.specs.Fraction.{Fraction, exact_difference, exact_product, exact_sum}
use Rattle.frac128.specs.declared.operations.Op.{Op}
use Rattle.frac128.specs.declared.operations.Op.TheVariants.{Add, Mul, Sub}
use Rattle.frac128.specs.declared.operations.Wide.{Wide}
use Rattle.solve_defs.specs.Looks.{Look, Step, checked_step, formed, minus, minus_times, moved, plus, plus_times, total_of}
use Rattle.cert_check.specs.Failures.{Refuses, RefusesDifference, RefusesProduct, RefusesSum, StepFits, StepRefuses, StepsFit}

-- ---- one operation

record IsFormed (fits : Bool) (value result : Fraction) : Type 0 where
  fit : IsTrue fits
  same : result ≡ value

record IsRefused (fits : Bool) (op : Op) (x y : Fraction) (wide : Wide) : Type 0 where
  no_fit : IsTrue fits → ⊥
  same : wide ≡ record { op = op; left = x; right = y }

formed_by : (fits : Bool) (value : Fraction) (op : Op) (x y result : Fraction) → value_or_wide fits value op x y ≡ Ok result → IsFormed fits value result
formed_by true value op x y result h = let same : value ≡ result = cc in record { fit = refl; same = sym same }
formed_by false value op x y result h = absurd cc

refused_by : (fits : Bool) (value : Fraction) (op : Op) (x y : Fraction) (wide : Wide) → value_or_wide fits value op x y ≡ Err wide → IsRefused fits op x y wide
refused_by true value op x y wide h = absurd cc
refused_by false value op x y wide h =
    let own : Wide = record { op = op; left = x; right = y } in
    let same : own ≡ wide = cc in
    record { no_fit = λ e. absurd cc; same = sym same }

forms : (fits : Bool) (value : Fraction) (op : Op) (x y : Fraction) → IsTrue fits → value_or_wide fits value op x y ≡ Ok value
forms fits value op x y fit = rw fit refl

refuses : (fits : Bool) (value : Fraction) (op : Op) (x y : Fraction) (wide : Wide) → (IsTrue fits → ⊥) → wide ≡ record { op = op; left = x; right = y }
    → value_or_wide fits value op x y ≡ Err wide
refuses true value op x y wide no_fit same = absurd (no_fit refl)
refuses false value op x y wide no_fit same = ap Err (sym same)

-- ---- one step

step_forms : (total : Fraction) (step : Step) → StepFits total step → checked_step total step ≡ Ok (moved total step)
step_forms total (plus x) fit = forms (sum_fits total x) (exact_sum total x) Add total x fit
step_forms total (minus x) fit = forms (difference_fits total x) (exact_difference total x) Sub total x fit
step_forms total (plus_times x y) fit =
    ap (λ (r : Result Fraction Wide). r >>= λ p. checked_sum total p) (forms (product_fits x y) (exact_product x y) Mul x y fit.0)
    ∙ forms (sum_fits total (exact_product x y)) (exact_sum total (exact_product x y)) Add total (exact_product x y) fit.1
step_forms total (minus_times x y) fit =
    ap (λ (r : Result Fraction Wide). r >>= λ p. checked_difference total p) (forms (product_fits x y) (exact_product x y) Mul x y fit.0)
    ∙ forms (difference_fits total (exact_product x y)) (exact_difference total (exact_product x y)) Sub total (exact_product x y) fit.1

step_refuses : (total : Fraction) (step : Step) (wide : Wide) → StepRefuses total step wide → checked_step total step ≡ Err wide
step_refuses total (plus x) wide h = refuses (sum_fits total x) (exact_sum total x) Add total x wide h.0 h.1
step_refuses total (minus x) wide h = refuses (difference_fits total x) (exact_difference total x) Sub total x wide h.0 h.1
step_refuses total (plus_times x y) wide h =
    ⊎_elim
    (λ (own : RefusesProduct x y wide).
    ap (λ (r : Result Fraction Wide). r >>= λ p. checked_sum total p) (refuses (product_fits x y) (exact_product x y) Mul x y wide own.0 own.1))
    (λ (own : FitsProduct x y × RefusesSum total (exact_product x y) wide).
    ap (λ (r : Result Fraction Wide). r >>= λ p. checked_sum total p) (forms (product_fits x y) (exact_product x y) Mul x y own.0)
    ∙ refuses (sum_fits total (exact_product x y)) (exact_sum total (exact_product x y)) Add total (exact_product x y) wide own.1.0 own.1.1)
    h
step_refuses total (minus_times x y) wide h =
    ⊎_elim
    (λ (own : RefusesProduct x y wide).
    ap (λ (r : Result Fraction Wide). r >>= λ p. checked_difference total p) (refuses (product_fits x y) (exact_product x y) Mul x y wide own.0 own.1))
    (λ (own : FitsProduct x y × RefusesDifference total (exact_product x y) wide).
    ap (λ (r : Result Fraction Wide). r >>= λ p. checked_difference total p) (forms (product_fits x y) (exact_product x y) Mul x y own.0)
    ∙ refuses (difference_fits total (exact_product x y)) (exact_difference total (exact_product x y)) Sub total (exact_product x y) wide own.1.0 own.1.1)
    h

-- a step fits, or is refused
pub data Tried (total : Fraction) (step : Step) : Type 0 where
  fit : StepFits total step → Tried total step
  refused : (wide : Wide) → StepRefuses total step wide → Tried total step

tried_sum : (total x : Fraction) (r : Result Fraction Wide) → checked_sum total x ≡ r → Tried total (plus x)
tried_sum total x (Ok next) h = fit (formed_by (sum_fits total x) (exact_sum total x) Add total x next h).fit
tried_sum total x (Err wide) h = let refusal = refused_by (sum_fits total x) (exact_sum total x) Add total x wide h in refused wide (refusal.no_fit, refusal.same)

tried_difference : (total x : Fraction) (r : Result Fraction Wide) → checked_difference total x ≡ r → Tried total (minus x)
tried_difference total x (Ok next) h = fit (formed_by (difference_fits total x) (exact_difference total x) Sub total x next h).fit
tried_difference total x (Err wide) h = let refusal = refused_by (difference_fits total x) (exact_difference total x) Sub total x wide h in refused wide (refusal.no_fit, refusal.same)

with_product : (total x y : Fraction) (r : Result Fraction Wide) → checked_product x y ≡ r → Tried total (plus (exact_product x y)) → Tried total (plus_times x y)
with_product total x y (Ok p) h (fit sum) = fit ((formed_by (product_fits x y) (exact_product x y) Mul x y p h).fit, sum)
with_product total x y (Ok p) h (refused wide sum) = refused wide (inr ((formed_by (product_fits x y) (exact_product x y) Mul x y p h).fit, sum))
with_product total x y (Err wide) h sum = let refusal = refused_by (product_fits x y) (exact_product x y) Mul x y wide h in refused wide (inl (refusal.no_fit, refusal.same))

less_product : (total x y : Fraction) (r : Result Fraction Wide) → checked_product x y ≡ r → Tried total (minus (exact_product x y)) → Tried total (minus_times x y)
less_product total x y (Ok p) h (fit rest) = fit ((formed_by (product_fits x y) (exact_product x y) Mul x y p h).fit, rest)
less_product total x y (Ok p) h (refused wide rest) = refused wide (inr ((formed_by (product_fits x y) (exact_product x y) Mul x y p h).fit, rest))
less_product total x y (Err wide) h rest = let refusal = refused_by (product_fits x y) (exact_product x y) Mul x y wide h in refused wide (inl (refusal.no_fit, refusal.same))

tried : (total : Fraction) (step : Step) → Tried total step
tried total (plus x) = tried_sum total x (checked_sum total x) refl
tried total (minus x) = tried_difference total x (checked_difference total x) refl
tried total (plus_times x y) = with_product total x y (checked_product x y) refl (tried_sum total (exact_product x y) (checked_sum total (exact_product x y)) refl)
tried total (minus_times x y) =
    less_product total x y (checked_product x y) refl (tried_difference total (exact_product x y) (checked_difference total (exact_product x y)) refl)

-- ---- many steps

first_forms : (total : Fraction) (step : Step) (steps : List Step) → StepFits total step → formed total (step ∷ steps) ≡ formed (moved total step) steps
first_forms total step steps own = ap (λ (r : Result Fraction Wide). r >>= λ next. formed next steps) (step_forms total step own)

pub steps_form : (start : Fraction) (steps : List Step) → StepsFit start steps → formed start steps ≡ Ok (total_of start steps)
steps_form start [] fits = refl
steps_form start (step ∷ steps) fits = first_forms start step steps fits.0 ∙ steps_form (moved start step) steps fits.1

go_on : (start : Fraction) (before rest : List Step) → StepsFit start before → formed start (before ++ rest) ≡ formed (total_of start before) rest
go_on start [] rest fits = refl
go_on start (step ∷ before) rest fits = first_forms start step (before ++ rest) fits.0 ∙ go_on (moved start step) before rest fits.1

pub refuses_forms : (wide : Wide) (look : Look) → Refuses wide look → formed look.start look.steps ≡ Err wide
refuses_forms wide look h =
    ap (formed look.start) h.parts ∙ go_on look.start h.before (h.step ∷ h.after) h.fit
    ∙ ap (λ (r : Result Fraction Wide). r >>= λ next. formed next h.after) (step_refuses (total_of look.start h.before) h.step wide h.here)

-- steps that fit, or the first operation that doesn't
pub record FirstRefused (start : Fraction) (steps : List Step) : Type 0 where
  pub wide : Wide
  pub before : List Step
  pub step : Step
  pub after : List Step
  pub parts : steps ≡ before ++ step ∷ after
  pub fit : StepsFit start before
  pub here : StepRefuses (total_of start before) step wide

pub data TriedAll (start : Fraction) (steps : List Step) : Type 0 where
  all_fit : StepsFit start steps → TriedAll start steps
  first_refused : FirstRefused start steps → TriedAll start steps

behind_step : (start : Fraction) (step : Step) (steps : List Step) → Tried start step → TriedAll (moved start step) steps → TriedAll start (step ∷ steps)
behind_step start step steps (fit own) (all_fit rest) = all_fit (own, rest)
behind_step start step steps (fit own) (first_refused refusal) =
    first_refused (record { wide = refusal.wide; before = step ∷ refusal.before; step = refusal.step; after = refusal.after; parts = ap (λ ss. step ∷ ss) refusal.parts; fit = (own, refusal.fit); here = refusal.here })
behind_step start step steps (refused wide own) rest =
    first_refused (record { wide = wide; before = []; step = step; after = steps; parts = refl; fit = tt; here = own })

pub tried_all : (start : Fraction) (steps : List Step) → TriedAll start steps
tried_all start [] = all_fit tt
tried_all start (step ∷ steps) = behind_step start step steps (tried start step) (tried_all (moved start step) steps)
