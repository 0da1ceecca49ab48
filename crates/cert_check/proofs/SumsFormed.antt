-- The sum of each variable, formed beside the others, is the one that is formed by itself.
use Rattle.std.proofs.Common.{◌≡◌, ◌∙◌, refl, sym, ap, subst, inl, inr, ⊎_elim, ℕ, zero, suc, ◌+◌, ◌-◌, ◌<◌, ◌≤◌, ◌==◌, if◌then◌else◌, List, [], ◌∷◌, ◌++◌, length, get_or, replicate, Bool, All, AllPairs, Option, Some, None, Result, Ok, Err, option_map, arith}
use Rattle.std.specs.List.{cons_option, filter_map}
use Rattle.std.proofs.lemmas.Bool.{cases_eq, eq-eqb, ne_eqb}
use Rattle.std.proofs.Math.ListN.{length-replicate}
use Rattle.std.proofs.lemmas.List.{get_or-replicate, get_or-set_other, get_or-set_same}
use Rattle.std.proofs.lemmas.List.Elements.{All-head, All-tail}
use Rattle.frac128.specs.Checked.{◌>>=◌}
use Rattle.frac128.specs.Fraction.{Fraction, zero_value}
use Rattle.frac128.specs.declared.operations.Wide.{Wide}
use Rattle.model_data.specs.Lawful.{IsLawful, IsLawfulRow}
use Rattle.model_data.specs.declared.model.Model.{Model}
use Rattle.model_data.specs.declared.model.Row.{Row}
use Rattle.model_data.specs.declared.model.Term.{Term}
use Rattle.model_data.specs.declared.solution.Weight.{Weight}
use Rattle.model_data.specs.declared.solution.Weights.{Weights}
use Rattle.solve_defs.specs.Certificates.{nth, row_share, share, sum_steps, terms_of}
use Rattle.solve_defs.specs.Looks.{Step, checked_step, formed, minus, plus, plus_times}
use Rattle.solve_defs.specs.Values.{term_of}
use Rattle.solve_defs.proofs.Places.{AllPairs-first, AllPairs-rest}
use Rattle.cert_check.specs.Leaves.{Fit}
use Rattle.cert_check.specs.Sums.{AreNumbered, HasNumber, Sum, leaf_sums, no_sum, stepped, sum_at, with_bounds, with_rows, with_step, with_terms}
use Rattle.cert_check.proofs.SumSteps.{length-with_bounds, length-with_rows, length-with_step, length-with_terms}

-- ---- steps, one after the other

abbrev all_steps : Sum → List Step → Sum
all_steps sum [] = sum
all_steps sum (step ∷ steps) = all_steps (stepped sum step) steps

all_refused : (wide : Wide) (steps : List Step) → all_steps (Err wide) steps ≡ Err wide
all_refused wide [] = refl
all_refused wide (step ∷ steps) = all_refused wide steps

all_formed : (total : Fraction) (steps : List Step) → all_steps (Ok total) steps ≡ formed total steps
all_formed total [] = refl
all_formed total (step ∷ steps) = behind_first (checked_step total step) (λ next. all_formed next steps)
  where
    behind_first : (first : Sum) → ((next : Fraction) → all_steps (Ok next) steps ≡ formed next steps) → all_steps first steps ≡ first >>= λ next. formed next steps
    behind_first (Ok next) rest = rest next
    behind_first (Err wide) rest = all_refused wide steps

all_append : (sum : Sum) (xs ys : List Step) → all_steps sum (xs ++ ys) ≡ all_steps (all_steps sum xs) ys
all_append sum [] ys = refl
all_append sum (step ∷ xs) ys = all_append (stepped sum step) xs ys

one_step : (sum : Sum) (step : Option Step) (steps : List Step) → all_steps sum (cons_option step steps) ≡ all_steps (all_steps sum (cons_option step [])) steps
one_step sum None steps = refl
one_step sum (Some step) steps = refl

-- ---- a step at one place

here : (place : ℕ) (step : Step) (sums : List Sum) (j : ℕ) → place < length sums → place ≡ j → sum_at (with_step place step sums) j ≡ stepped (sum_at sums j) step
here place step sums j within is =
    subst (λ k. sum_at (with_step place step sums) k ≡ stepped (sum_at sums k) step) is (get_or-set_same sums place (stepped (sum_at sums place) step) no_sum within)

elsewhere : (place : ℕ) (step : Step) (sums : List Sum) (j : ℕ) → (place ≡ j → ⊥) → sum_at (with_step place step sums) j ≡ sum_at sums j
elsewhere place step sums j apart = get_or-set_other sums place j (stepped (sum_at sums place) step) no_sum (λ e. apart (sym e))

-- ---- the terms of a row

absent : (terms : List Term) (j : ℕ) → All (λ t. j < t.var) terms → term_of terms j ≡ None
absent [] j above = refl
absent (t ∷ terms) j above =
    ap (λ (b : Bool). if b then Some t.coef else term_of terms j) (ne_eqb t.var j (λ e. apart e (All-head (λ s. j < s.var) t terms above)))
    ∙ absent terms j (All-tail (λ s. j < s.var) t terms above)
  where
    apart : t.var ≡ j → j < t.var → ⊥
    apart e less = omega (arith, e, less)

abbrev Rises : List Term → Type 0
Rises terms = AllPairs (λ s t. s.var < t.var) terms

terms-at : (weight : Fraction) (terms : List Term) (sums : List Sum) (j : ℕ) → Rises terms → All (λ t. t.var < length sums) terms
    → sum_at (with_terms weight terms sums) j ≡ all_steps (sum_at sums j) (cons_option (option_map (plus_times weight) (term_of terms j)) [])
terms-at weight [] sums j rises within = refl
terms-at weight (t ∷ terms) sums j rises within =
    terms-at weight terms next j (AllPairs-rest (λ s r. s.var < r.var) t terms rises)
    (subst (λ n. All (λ s. s.var < n) terms) (sym (length-with_step t.var step sums)) (All-tail (λ s. s.var < length sums) t terms within))
    ∙ ⊎_elim own other (cases_eq t.var j)
  where
    step : Step
    step = plus_times weight t.coef

    next : List Sum
    next = with_step t.var step sums

    behind : t.var ≡ j → All (λ s. j < s.var) terms
    behind is = subst (λ k. All (λ s. k < s.var) terms) is (AllPairs-first (λ s r. s.var < r.var) t terms rises)

    own : t.var ≡ j → all_steps (sum_at next j) (cons_option (option_map (plus_times weight) (term_of terms j)) [])
        ≡ all_steps (sum_at sums j) (cons_option (option_map (plus_times weight) (term_of (t ∷ terms) j)) [])
    own is =
        ap (λ (o : Option Fraction). all_steps (sum_at next j) (cons_option (option_map (plus_times weight) o) [])) (absent terms j (behind is))
        ∙ here t.var step sums j (All-head (λ s. s.var < length sums) t terms within) is
        ∙ sym (ap (λ (b : Bool). all_steps (sum_at sums j) (cons_option (option_map (plus_times weight) (if b then Some t.coef else term_of terms j)) [])) (eq-eqb t.var j is))

    other : (t.var ≡ j → ⊥) → all_steps (sum_at next j) (cons_option (option_map (plus_times weight) (term_of terms j)) [])
        ≡ all_steps (sum_at sums j) (cons_option (option_map (plus_times weight) (term_of (t ∷ terms) j)) [])
    other apart =
        ap (λ (s : Sum). all_steps s (cons_option (option_map (plus_times weight) (term_of terms j)) [])) (elsewhere t.var step sums j apart)
        ∙ sym (ap (λ (b : Bool). all_steps (sum_at sums j) (cons_option (option_map (plus_times weight) (if b then Some t.coef else term_of terms j)) [])) (ne_eqb t.var j apart))

-- ---- the rows with their weights

-- what holds of terms of a model with so many variables
abbrev AreTerms : ℕ → List Term → Type 0
AreTerms n terms = Rises terms × All (λ t. t.var < n) terms

none : (n : ℕ) → AreTerms n []
none n = (λ i j d less within. absurd (omega (arith, within)), λ k d within. absurd (omega (arith, within)))

terms_are : (n : ℕ) (rows : List Row) (number : ℕ) → All (IsLawfulRow n) rows → AreTerms n (terms_of (nth rows number))
terms_are n rows zero lawful = none n
terms_are n [] (suc place) lawful = none n
terms_are n (row ∷ rows) (suc zero) lawful = let own = All-head (IsLawfulRow n) row rows lawful in (own.rising, own.places)
terms_are n (row ∷ rows) (suc (suc place)) lawful = terms_are n rows (suc place) (All-tail (IsLawfulRow n) row rows lawful)

rows-at : (rows : List Row) (ws : List Weight) (sums : List Sum) (j : ℕ) → All (IsLawfulRow (length sums)) rows
    → sum_at (with_rows rows ws sums) j ≡ all_steps (sum_at sums j) (filter_map (λ w. option_map (plus_times w.weight) (term_of (terms_of (nth rows w.place)) j)) ws)
rows-at rows [] sums j lawful = refl
rows-at rows (w ∷ ws) sums j lawful =
    rows-at rows ws next j (subst (λ n. All (IsLawfulRow n) rows) (sym (length-with_terms w.weight terms sums)) lawful)
    ∙ ap (λ (s : Sum). all_steps s (filter_map own ws)) (terms-at w.weight terms sums j are.0 are.1)
    ∙ sym (one_step (sum_at sums j) (own w) (filter_map own ws))
  where
    own : Weight → Option Step
    own v = option_map (plus_times v.weight) (term_of (terms_of (nth rows v.place)) j)

    terms : List Term
    terms = terms_of (nth rows w.place)

    next : List Sum
    next = with_terms w.weight terms sums

    are : AreTerms (length sums) terms
    are = terms_are (length sums) rows w.place lawful

-- ---- the bounds with their weights

bounds-at : (step : Fraction → Step) (ws : List Weight) (sums : List Sum) (j : ℕ) → AreNumbered (length sums) ws
    → sum_at (with_bounds step ws sums) j ≡ all_steps (sum_at sums j) (filter_map (share step (suc j)) ws)
bounds-at step [] sums j numbered = refl
bounds-at step (w ∷ ws) sums j numbered =
    bounds-at step ws next j (subst (λ n. AreNumbered n ws) (sym (length-with_step (w.place - 1) (step w.weight) sums)) (All-tail (HasNumber (length sums)) w ws numbered))
    ∙ ap (λ (s : Sum). all_steps s (filter_map (share step (suc j)) ws)) (⊎_elim own other (cases_eq w.place (suc j)))
    ∙ sym (one_step (sum_at sums j) (share step (suc j) w) (filter_map (share step (suc j)) ws))
  where
    next : List Sum
    next = with_step (w.place - 1) (step w.weight) sums

    number : HasNumber (length sums) w
    number = All-head (HasNumber (length sums)) w ws numbered

    place_is : w.place ≡ suc j → w.place - 1 ≡ j
    place_is is = omega (arith, is)

    place_apart : (w.place ≡ suc j → ⊥) → 1 ≤ w.place → w.place - 1 ≡ j → ⊥
    place_apart apart some e = apart (omega (arith, some, e))

    below : 1 ≤ w.place → w.place ≤ length sums → w.place - 1 < length sums
    below some within = omega (arith, some, within)

    own : w.place ≡ suc j → sum_at next j ≡ all_steps (sum_at sums j) (cons_option (share step (suc j) w) [])
    own is =
        here (w.place - 1) (step w.weight) sums j (below number.above_zero number.within) (place_is is)
        ∙ sym (ap (λ (b : Bool). all_steps (sum_at sums j) (cons_option (if b then Some (step w.weight) else None) [])) (eq-eqb w.place (suc j) is))

    other : (w.place ≡ suc j → ⊥) → sum_at next j ≡ all_steps (sum_at sums j) (cons_option (share step (suc j) w) [])
    other apart =
        elsewhere (w.place - 1) (step w.weight) sums j (place_apart apart number.above_zero)
        ∙ sym (ap (λ (b : Bool). all_steps (sum_at sums j) (cons_option (if b then Some (step w.weight) else None) [])) (ne_eqb w.place (suc j) apart))

-- ---- all weights of a leaf

pub length-leaf_sums : (m : Model) (weights : Weights) → length (leaf_sums m weights) ≡ length m.vars
length-leaf_sums m weights =
    let none : List Sum = replicate (length m.vars) no_sum in
    let rows = with_rows m.rows weights.rows none in
    length-with_bounds plus weights.ups (with_bounds minus weights.lows rows) ∙ length-with_bounds minus weights.lows rows
    ∙ length-with_rows m.rows weights.rows none ∙ length-replicate (length m.vars) no_sum

pub leaf_sums-at : (m : Model) (weights : Weights) (j : ℕ) → IsLawful m → Fit m weights → j < length m.vars
    → sum_at (leaf_sums m weights) j ≡ formed zero_value (sum_steps m weights j (suc j))
leaf_sums-at m weights j lawful fit within =
    let none : List Sum = replicate (length m.vars) no_sum in
    let rows = with_rows m.rows weights.rows none in
    let lows = with_bounds minus weights.lows rows in
    let none_many : length none ≡ length m.vars = length-replicate (length m.vars) no_sum in
    let rows_many : length rows ≡ length m.vars = length-with_rows m.rows weights.rows none ∙ none_many in
    let lows_many : length lows ≡ length m.vars = length-with_bounds minus weights.lows rows ∙ rows_many in
    let row_steps : List Step = filter_map (row_share m j) weights.rows in
    let low_steps : List Step = filter_map (share minus (suc j)) weights.lows in
    let up_steps : List Step = filter_map (share plus (suc j)) weights.ups in
    bounds-at plus weights.ups lows j (subst (λ n. AreNumbered n weights.ups) (sym lows_many) fit.ups)
    ∙ ap (λ (s : Sum). all_steps s up_steps) (bounds-at minus weights.lows rows j (subst (λ n. AreNumbered n weights.lows) (sym rows_many) fit.lows)
    ∙ ap (λ (s : Sum). all_steps s low_steps) (rows-at m.rows weights.rows none j (subst (λ n. All (IsLawfulRow n) m.rows) (sym none_many) lawful.rows)
    ∙ ap (λ (s : Sum). all_steps s row_steps) (get_or-replicate (length m.vars) j no_sum no_sum within)))
    ∙ sym (ap (λ (s : Sum). all_steps s up_steps) (all_append no_sum row_steps low_steps))
    ∙ sym (all_append no_sum (row_steps ++ low_steps) up_steps)
    ∙ all_formed zero_value (sum_steps m weights j (suc j))
