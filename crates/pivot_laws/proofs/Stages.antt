-- A relaxation's stages: before the artificial variable's pivot, until phase one is over, and phase two. Each is one exact path.
use Rattle.std.proofs.Common.{◌≡◌, ◌∙◌, refl, sym, ap, subst, ℕ, zero, suc, ◌+◌, ◌<◌, ◌≤◌, Bool, true, false, cond, length, None, Ok, option_map, unwrap_or, arith}
use Rattle.std.proofs.lemmas.Bool.{cond_both}
use Rattle.frac128.proofs.Chains.{same_ok, through}
use Rattle.dictionary.specs.Dictionary.{Dictionary, IsUniform, artificial_column, end_phase_one, needs_phase_one, opening, pivot, without_artificial}
use Rattle.dictionary.specs.ExactPath.{ExactPath, ExactStep, further, here}
use Rattle.dictionary.specs.Solutions.{HasFeasibleConstants, HasReducedNumbers, IsLawful}
use Rattle.dictionary.specs.declared.standard.Std.{Std}
use Rattle.dictionary.proofs.Points.EndPhase.{end-feasible}
use Rattle.dictionary.proofs.Points.Exact.{fitting_step}
use Rattle.dictionary.proofs.Points.FirstPivot.{opening_feasible, opening_pivots}
use Rattle.dictionary.proofs.Points.Lawful.{IsLawful-turned, turns}
use Rattle.dictionary.proofs.Points.Opening.{IsLawful-opening, feasible-opening}
use Rattle.solve_defs.specs.Path.{LeadsTo, Path, artificial, by_rule, is_phase_one_over, next, pivoted, settled}
use Rattle.solve_defs.specs.Path as solving
use Rattle.limit_defs.specs.Counts.{choose, pivots_within}
use Rattle.relaxation_laws.specs.Reached.{Relaxes}
use Rattle.relaxation_laws.proofs.ByRule.{awaits_none, comes_artificial, comes_by_rule, made_by_rule, settled_two}
use Rattle.relaxation_laws.proofs.FirstStep.{awaits_opening, least_opening, opening_without}
use Rattle.relaxation_laws.proofs.Steps.{opening_reached, path_reached}
use Rattle.cycle_laws.proofs.Kept.{IsSound, path_sound}
use Rattle.cycle_laws.proofs.Steps.{step_of}
use Rattle.pivot_laws.proofs.PathBound.{path_bound}

-- ---- part of a relaxation, by the rule within a phase

-- the ways to choose which variables are basic
abbrev ways : Std → ℕ
ways s = choose (length s.obj + length s.rows + 1) (length s.rows)

record Part (s : Std) (k : ℕ) (e : Dictionary) : Type 0 where
  first : Dictionary
  relaxes : Relaxes s first
  constants : HasFeasibleConstants first
  path : ExactPath first k e

part_sound : (s : Std) (k : ℕ) (e : Dictionary) → Part s k e → IsSound e
part_sound s k e part = path_sound part.relaxes.lawful part.constants part.path

part_few : (s : Std) (k : ℕ) (e : Dictionary) → Part s k e → k < ways s
part_few s k e part =
    subst (λ m. k < choose (length s.obj + length s.rows + 1) m) part.relaxes.rows
    (path_bound (length s.obj + length s.rows + 1) k part.first e part.relaxes.lawful part.constants (λ i d within. below_next _ _ (part.relaxes.variables i d within)) part.path)
  where
    below_next : (v n : ℕ) → v ≤ n → v < n + 1
    below_next v n h = omega (arith, h)

part_begins : (s : Std) (d : Dictionary) → Relaxes s d → HasFeasibleConstants d → Part s 0 d
part_begins s d relaxes constants = record { first = d; relaxes = relaxes; constants = constants; path = here }

one_more : (s : Std) (k : ℕ) (e f : Dictionary) → Part s k e → ExactStep e f → Part s (suc k) f
one_more s k e f part step = record { first = part.first; relaxes = part.relaxes; constants = part.constants; path = further part.path step }

settled_feasible : (d : Dictionary) → IsLawful d → HasFeasibleConstants d → HasFeasibleConstants (settled d)
unfolding settled
settled_feasible d lawful constants = cond_both (is_phase_one_over d) (end_phase_one d) d HasFeasibleConstants (λ _. end-feasible d lawful constants) (λ _. constants)

-- ---- stages

-- so many pivots, and where they lead: the first path ends with phase one, where there is one
data Stage (s : Std) (n : ℕ) (e : Dictionary) : Type 0 where
  at_opening : n ≡ 0 → e ≡ opening s → needs_phase_one s ≡ true → Stage s n e
  in_first : (made : ℕ) → Part s made e → n ≡ suc made → Stage s n e
  in_second : (made : ℕ) → Part s made e → e.auxiliary ≡ None → n ≤ ways s + made → Stage s n e

-- a pivot by the rule, before it is looked at whether phase one is over
record RulePivot (e f : Dictionary) : Type 0 where
  made : Dictionary
  step : ExactStep e made
  is_settled : settled made ≡ f

rule_pivot : (e f : Dictionary) → IsSound e → LeadsTo e f → RulePivot e f
rule_pivot e f sound leads =
    let comes = comes_by_rule e leads.entering (awaits_none e sound.constants) leads.comes in
    let by = made_by_rule comes.column e f sound.lawful comes.enters comes.bounded (subst (λ entering. next entering e ≡ Ok f) comes.is_column leads.gives) in
    record { made = by.pivoted; step = fitting_step by.row comes.column e by.pivoted sound.lawful by.rule; is_settled = by.is_settled }

-- the artificial variable's pivot
first_constants : (s : Std) (f : Dictionary) → IsUniform s → HasReducedNumbers s → needs_phase_one s ≡ true → LeadsTo (opening s) f → HasFeasibleConstants f
unfolding next
first_constants s f uniform low needed leads =
    let d = opening s in
    let enters = comes_artificial d leads.entering (awaits_opening s needed) leads.comes in
    let made = through (pivoted artificial d) _ f (subst (λ entering. next entering d ≡ Ok f) enters leads.gives) in
    let least = least_opening s needed in
    let is_pivot : pivot least.0 (artificial_column d) d ≡ Ok made.value = subst (λ o. pivot (unwrap_or o 0) (artificial_column d) d ≡ Ok made.value) least.1 made.first in
    let lawful = IsLawful-opening s uniform low in
    let turned = turns least.0 (artificial_column d) d made.value lawful (opening_pivots s least.0 made.value uniform low needed least.1 is_pivot) in
    subst HasFeasibleConstants (same_ok _ _ made.rest)
    (settled_feasible made.value (IsLawful-turned turned.0 turned.1 d made.value lawful turned.2) (opening_feasible s least.0 made.value uniform low needed least.1 is_pivot))

no_w_left : (d : Dictionary) → (end_phase_one d).auxiliary ≡ None
unfolding end_phase_one
no_w_left d = refl

no_w_turned : (e f : Dictionary) → IsLawful e → ExactStep e f → e.auxiliary ≡ None → f.auxiliary ≡ None
no_w_turned e f lawful step none = let s = step_of e f lawful step in ap (λ (d : Dictionary). d.auxiliary) s.turn.is_made ∙ ap (option_map _) none

goes_on : (d : Dictionary) → is_phase_one_over d ≡ false → settled d ≡ d
unfolding settled
goes_on d h = ap (λ b. cond b (end_phase_one d) d) h

is_ended : (d : Dictionary) → is_phase_one_over d ≡ true → settled d ≡ end_phase_one d
unfolding settled
is_ended d h = ap (λ b. cond b (end_phase_one d) d) h

first_on : (s : Std) (n made : ℕ) (e f : Dictionary) → Part s made e → n ≡ suc made → Relaxes s f → LeadsTo e f → Stage s (suc n) f
first_on s n made e f part count relaxes leads = by_end (is_phase_one_over pivot.made) refl
  where
    pivot : RulePivot e f
    pivot = rule_pivot e f (part_sound s made e part) leads

    more : Part s (suc made) pivot.made
    more = one_more s made e pivot.made part pivot.step

    by_end : (over : Bool) → is_phase_one_over pivot.made ≡ over → Stage s (suc n) f
    by_end false is = in_first (suc made) (subst (Part s (suc made)) (sym (goes_on pivot.made is) ∙ pivot.is_settled) more) (ap suc count)
    by_end true is =
        let sound = part_sound s (suc made) pivot.made more in
        let few = part_few s (suc made) pivot.made more in
        let ended = sym pivot.is_settled ∙ is_ended pivot.made is in
        in_second 0 (part_begins s f relaxes (subst HasFeasibleConstants pivot.is_settled (settled_feasible pivot.made sound.lawful sound.constants)))
        (ap (λ (d : Dictionary). d.auxiliary) ended ∙ no_w_left pivot.made) (omega (arith, few, count))

second_on : (s : Std) (n made : ℕ) (e f : Dictionary) → Part s made e → e.auxiliary ≡ None → n ≤ ways s + made → LeadsTo e f → Stage s (suc n) f
second_on s n made e f part none count leads =
    let sound = part_sound s made e part in
    let pivot = rule_pivot e f sound leads in
    let still = no_w_turned e pivot.made sound.lawful pivot.step none in
    let is : pivot.made ≡ f = sym (settled_two pivot.made still) ∙ pivot.is_settled in
    in_second (suc made) (subst (Part s (suc made)) is (one_more s made e pivot.made part pivot.step)) (ap (λ (d : Dictionary). d.auxiliary) (sym is) ∙ still) (omega (arith, count))

stage_on : (s : Std) (n : ℕ) (e f : Dictionary) → IsUniform s → HasReducedNumbers s → Stage s n e → Relaxes s f → LeadsTo e f → Stage s (suc n) f
stage_on s n e f uniform low (at_opening none is needed) relaxes leads =
    in_first 0 (part_begins s f relaxes (first_constants s f uniform low needed (subst (λ d. LeadsTo d f) is leads))) (ap suc none)
stage_on s n e f uniform low (in_first made part count) relaxes leads = first_on s n made e f part count relaxes leads
stage_on s n e f uniform low (in_second made part none count) relaxes leads = second_on s n made e f part none count leads

-- ---- a whole path

opening_stage : (s : Std) → IsUniform s → HasReducedNumbers s → Stage s 0 (opening s)
unfolding without_artificial
opening_stage s uniform low = by_need (needs_phase_one s) refl
  where
    by_need : (b : Bool) → needs_phase_one s ≡ b → Stage s 0 (opening s)
    by_need true needed = at_opening refl refl needed
    by_need false needed =
        in_second 0 (part_begins s (opening s) (opening_reached s uniform low).relaxes (feasible-opening s needed)) (ap (λ (d : Dictionary). d.auxiliary) (opening_without s needed)) (omega arith)

path_stage : (s : Std) (n : ℕ) (d e : Dictionary) → IsUniform s → HasReducedNumbers s → d ≡ opening s → Path d n e → Stage s n e
path_stage s zero d e uniform low is solving.here = subst (Stage s 0) (sym is) (opening_stage s uniform low)
path_stage s (suc n) d f uniform low is (solving.further {e = e} path leads) =
    stage_on s n e f uniform low (path_stage s n d e uniform low is path)
    (path_reached s (suc n) f uniform low (subst (λ g. Path g (suc n) f) is (solving.further path leads))).relaxes leads

some_ways : (n m : ℕ) → m ≤ n → 0 < choose n m
unfolding choose
some_ways n zero h = omega arith
some_ways zero (suc m) h = absurd (omega (arith, h))
some_ways (suc n) (suc m) h = let some = some_ways n m (omega (arith, h)) in omega (arith, some)

stage_few : (s : Std) (n : ℕ) (e : Dictionary) → Stage s n e → n < pivots_within (length s.obj) (length s.rows)
stage_few s n e (at_opening none is needed) = let some = some_ways (length s.obj + length s.rows + 1) (length s.rows) (omega arith) in omega (arith, some, none)
stage_few s n e (in_first made part count) = let few = part_few s made e part in omega (arith, few, count)
stage_few s n e (in_second made part none count) = let few = part_few s made e part in omega (arith, few, count)

-- Fewer pivots than twice the ways to choose which variables are basic.
pub few_pivots : (s : Std) (n : ℕ) (e : Dictionary) → IsUniform s → HasReducedNumbers s → Path (opening s) n e → n < pivots_within (length s.obj) (length s.rows)
few_pivots s n e uniform low path = stage_few s n e (path_stage s n (opening s) e uniform low refl path)
