-- A path by the rule within a phase has fewer pivots than there are bases.
use Rattle.std.proofs.Common.{◌≡◌, ⊎_elim, ◌∙◌, refl, sym, ap, subst, ℕ, zero, suc, ◌+◌, ◌-◌, ◌<◌, ◌≤◌, Bool, true, false, ◌++◌, length, All, arith}
use Rattle.std.proofs.lemmas.Bool.{cases_lt}
use Rattle.std.proofs.lemmas.List.Elements.{All-get_or}
use Rattle.dictionary.specs.Dictionary.{Dictionary}
use Rattle.dictionary.specs.Solutions.{HasFeasibleConstants, IsLawful}
use Rattle.dictionary.proofs.Points.Lawful.{All-left}
use Rattle.dictionary.proofs.Points.OwnPoint.{distinct_left, place_of}
use Rattle.limit_defs.specs.Counts.{choose}
use Rattle.dictionary.specs.ExactPath.{ExactPath, ExactStep}
use Rattle.relaxation_laws.proofs.KeptForm.{variables-turned}
use Rattle.cycle_laws.proofs.Bases.{is_basic, length_after, stands, stands_nowhere}
use Rattle.pivot_laws.proofs.Flags.{few, members, members_of_list, one_rank, rank, rank_below, same_members, stands_in, stands_in-false, stands_in-true}
use Rattle.cycle_laws.proofs.NoCycle.{Run, after, no_cycle, run_of, sound, step_at}

-- ---- along a run

-- no variable of the dictionary reaches the number
abbrev pub HasVariablesBelow : ℕ → Dictionary → Type 0
HasVariablesBelow n d = All (λ v. v < n) (d.basic ++ d.nonbasic)

record Sized (n m : ℕ) (d : Dictionary) : Type 0 where
  low : HasVariablesBelow n d
  long : length d.basic ≡ m

sized : (top n : ℕ) (D : ℕ → Dictionary) → Run n D → HasVariablesBelow top (D 0) → (i : ℕ) → i ≤ n → Sized top (length (D 0).basic) (D i)
sized top n D run low zero within = record { low = low; long = refl }
sized top n D run low (suc i) within =
    let before = sized top n D run low i (omega (arith, within)) in
    let s = step_at n D run i (omega (arith, within)) in
    record { low = variables-turned (λ v. v < top) s.i s.j (D i) (D (suc i)) s.turn before.low; long = length_after (D i) (D (suc i)) s ∙ before.long }

-- ---- the basic variables as a set

test_is : (d : Dictionary) (u : ℕ) → is_basic d u ≡ stands_in d.basic u
test_is d u = by_test (is_basic d u) refl
  where
    by_test : (b : Bool) → is_basic d u ≡ b → is_basic d u ≡ stands_in d.basic u
    by_test true there = there ∙ sym (let at = stands d u there in stands_in-true d.basic u (place_of d.basic u) at.within at.is)
    by_test false nowhere = nowhere ∙ sym (stands_in-false d.basic u (λ k within. stands_nowhere d u k nowhere within))

members_are : (n : ℕ) (d : Dictionary) → IsLawful d → HasVariablesBelow n d → members (is_basic d) n ≡ length d.basic
members_are n d lawful low =
    same_members (is_basic d) (stands_in d.basic) n (test_is d)
    ∙ members_of_list d.basic n (λ k within. All-get_or (λ v. v < n) d.basic k 0 within (All-left (λ v. v < n) d.basic d.nonbasic low)) (λ i j less within. distinct_left d.basic d.nonbasic i j lawful.distinct less within)

nowhere_above : (n : ℕ) (d : Dictionary) (v : ℕ) → HasVariablesBelow n d → n ≤ v → is_basic d v ≡ false
nowhere_above n d v low least = by_test (is_basic d v) refl
  where
    by_test : (b : Bool) → is_basic d v ≡ b → b ≡ false
    by_test false h = refl
    by_test true h =
        let at = stands d v h in
        let less = All-get_or (λ u. u < n) d.basic (place_of d.basic v) 0 at.within (All-left (λ u. u < n) d.basic d.nonbasic low) in
        let is = at.is in
        absurd (omega (arith, less, is, least))

-- ---- parts of a run

part : (n : ℕ) (D : ℕ → Dictionary) → Run n D → (i m : ℕ) → i + m ≤ n → Run m (λ k. D (i + k))
part n D run i m within =
    let first = sound n D run i (omega (arith, within)) in
    record {
      lawful = subst (λ p. IsLawful (D p)) (sym (start i)) first.lawful;
      constants = subst (λ p. HasFeasibleConstants (D p)) (sym (start i)) first.constants;
      steps = λ k below. subst (λ p. ExactStep (D (i + k)) (D p)) (next i k) (run.steps (i + k) (omega (arith, within, below)));
    }
  where
    start : (a : ℕ) → a + 0 ≡ a
    start a = omega arith

    next : (a b : ℕ) → suc (a + b) ≡ a + suc b
    next a b = omega arith

-- no two dictionaries of a run have one basis
pub apart : (n : ℕ) (D : ℕ → Dictionary) → Run n D → (i j : ℕ) → i < j → j ≤ n → ((v : ℕ) → is_basic (D i) v ≡ is_basic (D j) v) → ⊥
apart n D run i j less within same =
    no_cycle (j - i) (λ k. D (i + k)) (omega (arith, less)) (part n D run i (j - i) (omega (arith, less, within)))
    (λ v. ap (λ p. is_basic (D p) v) (whole i j less) ∙ sym (same v) ∙ ap (λ p. is_basic (D p) v) (sym (start i)))
  where
    start : (a : ℕ) → a + 0 ≡ a
    start a = omega arith

    whole : (a b : ℕ) → a < b → a + (b - a) ≡ b
    whole a b h = omega arith

-- A run has fewer pivots than there are ways to choose its basic variables.
pub run_bound : (top n : ℕ) (D : ℕ → Dictionary) → Run n D → HasVariablesBelow top (D 0) → n < choose top (length (D 0).basic)
run_bound top n D run low =
    few (choose top (length (D 0).basic)) (suc n) (λ i. rank (is_basic (D i)) top)
    (λ i within.
    let there = sized top n D run low i (omega (arith, within)) in
    let lawful = (sound n D run i (omega (arith, within))).lawful in
    subst (λ m. rank (is_basic (D i)) top < choose top m) (members_are top (D i) lawful there.low ∙ there.long) (rank_below (is_basic (D i)) top))
    (λ i j less within same.
    let here = sized top n D run low i (omega (arith, less, within)) in
    let there = sized top n D run low j (omega (arith, within)) in
    let lawful_here = (sound n D run i (omega (arith, less, within))).lawful in
    let lawful_there = (sound n D run j (omega (arith, within))).lawful in
    let count = members_are top (D i) lawful_here here.low ∙ here.long ∙ sym there.long ∙ sym (members_are top (D j) lawful_there there.low) in
    apart n D run i j less (omega (arith, within))
    (λ v. ⊎_elim
    (λ (inside : v < top). one_rank (is_basic (D i)) (is_basic (D j)) top count same v inside)
    (λ past. nowhere_above top (D i) v here.low past ∙ sym (nowhere_above top (D j) v there.low past))
    (cases_lt v top)))

pub path_bound : (top n : ℕ) (d e : Dictionary) → IsLawful d → HasFeasibleConstants d → HasVariablesBelow top d → ExactPath d n e → n < choose top (length d.basic)
unfolding after
path_bound top n d e lawful constants low p = run_bound top n (after d) (run_of lawful constants p) low
