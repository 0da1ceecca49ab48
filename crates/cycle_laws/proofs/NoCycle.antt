-- On a path by the rule within a phase no basis is met twice.
use Rattle.std.proofs.Common.{◌≡◌, ◌↔◌, ⊎_elim, ◌∙◌, refl, sym, ap, subst, subst₂, ℕ, zero, suc, ◌+◌, ◌-◌, ◌<◌, ◌≤◌, Bool, true, false, true≢false, length, slice_index, Option, Some, None, arith}
use Rattle.std.specs.List.{Contains}
use Rattle.std.proofs.lemmas.Bool.{cases_eq, cases_lt, false_from_ne_true}
use Rattle.std.proofs.lemmas.List.{get_or_default}
use Rattle.frac128.specs.Fraction.{Fraction}
use Rattle.frac128.specs.Order.{IsAtMost}
use Rattle.frac128.proofs.Ordered.{IsAtMost-self, IsAtMost_antisymm, IsAtMost_trans}
use Rattle.dictionary.specs.Dictionary.{Dictionary, entry}
use Rattle.dictionary.specs.Rule.{entering_column, leaving_row, maximized_row}
use Rattle.dictionary.specs.Solutions.{HasFeasibleConstants, IsLawful, Point, Solves, own_point}
use Rattle.dictionary.proofs.Points.Feasible.{maximized-reduced}
use Rattle.dictionary.proofs.Points.OwnPoint.{place_of}
use Rattle.dictionary.specs.ExactPath.{ExactPath, ExactStep, exact_pivot, exact_ratios, further, here}
use Rattle.cycle_laws.specs.Bases.{HasSameBasis, maximized_at}
use Rattle.cycle_laws.proofs.Bases.{basic_at, came_into_basis, enters_basis, is_basic, left_basis, nonbasic_at, own_point_after, same_basis, same_constant, stands}
use Rattle.cycle_laws.proofs.Clash.{clash}
use Rattle.cycle_laws.proofs.Steps.{Step, degenerate, feasible_after, lawful_after, rises_after, solutions_after, step_of, value_after}
use Rattle.cycle_laws.proofs.Switches.{Moves, bound_of_all, stays_or_moves}

-- ---- runs: the dictionaries of a path by number

pub record Run (n : ℕ) (D : ℕ → Dictionary) : Type 0 where
  pub lawful : IsLawful (D 0)
  pub constants : HasFeasibleConstants (D 0)
  pub steps : (i : ℕ) → i < n → ExactStep (D i) (D (suc i))

-- what holds of each dictionary of a run
pub record Sound (d e : Dictionary) : Type 0 where
  pub lawful : IsLawful e
  pub constants : HasFeasibleConstants e
  pub solutions : (x : Point) → Solves d x ↔ Solves e x
  pub values : (x : Point) → Solves d x → maximized_at d x ≡ maximized_at e x

pub sound : (n : ℕ) (D : ℕ → Dictionary) → Run n D → (i : ℕ) → i ≤ n → Sound (D 0) (D i)
sound n D run zero within = record { lawful = run.lawful; constants = run.constants; solutions = λ x. (λ h. h, λ h. h); values = λ x h. refl }
sound n D run (suc i) within =
    let before = sound n D run i (omega (arith, within)) in
    let s = step_of (D i) (D (suc i)) before.lawful (run.steps i (omega (arith, within))) in
    record {
      lawful = lawful_after (D i) (D (suc i)) before.lawful s;
      constants = feasible_after (D i) (D (suc i)) before.lawful before.constants s;
      solutions = λ x. (
        λ h. (solutions_after (D i) (D (suc i)) x before.lawful s).0 ((before.solutions x).0 h),
        λ h. (before.solutions x).1 ((solutions_after (D i) (D (suc i)) x before.lawful s).1 h),
      );
      values = λ x h. before.values x h ∙ value_after (D i) (D (suc i)) x before.lawful s ((before.solutions x).0 h);
    }

pub step_at : (n : ℕ) (D : ℕ → Dictionary) → Run n D → (i : ℕ) → i < n → Step (D i) (D (suc i))
step_at n D run i within = step_of (D i) (D (suc i)) (sound n D run i (omega (arith, within))).lawful (run.steps i within)

-- between any two
between : (n : ℕ) (D : ℕ → Dictionary) → Run n D → (p q : ℕ) → p ≤ n → q ≤ n → (x : Point) → Solves (D p) x → Solves (D q) x
between n D run p q p_in q_in x h = ((sound n D run q q_in).solutions x).0 (((sound n D run p p_in).solutions x).1 h)

values_between : (n : ℕ) (D : ℕ → Dictionary) → Run n D → (p q : ℕ) → p ≤ n → q ≤ n → (x : Point) → Solves (D p) x → maximized_at (D p) x ≡ maximized_at (D q) x
values_between n D run p q p_in q_in x h =
    let first = ((sound n D run p p_in).solutions x).1 h in
    sym ((sound n D run p p_in).values x first) ∙ (sound n D run q q_in).values x first

-- ---- a run that ends with the basis that it began with

constant : Dictionary → Fraction
constant d = entry (maximized_row d) 0

rises : (n : ℕ) (D : ℕ → Dictionary) → Run n D → (i : ℕ) → i < n → IsAtMost (constant (D i)) (constant (D (suc i)))
unfolding constant
rises n D run i within =
    let known = sound n D run i (omega (arith, within)) in
    rises_after (D i) (D (suc i)) known.lawful known.constants (step_at n D run i within)

from_start : (n : ℕ) (D : ℕ → Dictionary) → Run n D → (i : ℕ) → i ≤ n → IsAtMost (constant (D 0)) (constant (D i))
from_start n D run zero within = IsAtMost-self (constant (D 0))
from_start n D run (suc i) within = IsAtMost_trans (constant (D 0)) (constant (D i)) (constant (D (suc i))) (from_start n D run i (omega (arith, within))) (rises n D run i (omega (arith, within)))

to_end : (n : ℕ) (D : ℕ → Dictionary) → Run n D → (m i : ℕ) → i + m ≡ n → IsAtMost (constant (D i)) (constant (D n))
to_end n D run zero i is = subst (λ p. IsAtMost (constant (D i)) (constant (D p))) (same i n is) (IsAtMost-self (constant (D i)))
  where
    same : (a b : ℕ) → a + 0 ≡ b → a ≡ b
    same a b e = omega arith
to_end n D run (suc m) i is =
    IsAtMost_trans (constant (D i)) (constant (D (suc i))) (constant (D n)) (rises n D run i (omega (arith, is))) (to_end n D run m (suc i) (omega (arith, is)))

-- the constants of the maximized row stay
constant_stays : (n : ℕ) (D : ℕ → Dictionary) → Run n D → constant (D n) ≡ constant (D 0) → (i : ℕ) → i ≤ n → constant (D i) ≡ constant (D 0)
unfolding constant
constant_stays n D run closed i within =
    let low = maximized-reduced (D i) (sound n D run i within).lawful in
    let low_first = maximized-reduced (D 0) run.lawful in
    IsAtMost_antisymm (constant (D i)) (constant (D 0)) low low_first
    (subst (IsAtMost (constant (D i))) closed (to_end n D run (n - i) i (omega (arith, within)))) (from_start n D run i within)

-- and so does the own point
own_stays : (n : ℕ) (D : ℕ → Dictionary) → Run n D → constant (D n) ≡ constant (D 0) → (i : ℕ) → i ≤ n → (v : ℕ) → own_point (D 0) v ≡ own_point (D i) v
unfolding constant
own_stays n D run closed zero within v = refl
own_stays n D run closed (suc i) within v =
    let s = step_at n D run i (omega (arith, within)) in
    let here = (sound n D run i (omega (arith, within))).lawful in
    let stays = constant_stays n D run closed i (omega (arith, within)) ∙ sym (constant_stays n D run closed (suc i) within) in
    own_stays n D run closed i (omega (arith, within)) v
    ∙ own_point_after (D i) (D (suc i)) here (sound n D run (suc i) within).lawful s (degenerate (D i) (D (suc i)) here s stays) v

closed_constant : (n : ℕ) (D : ℕ → Dictionary) → Run n D → ((v : ℕ) → is_basic (D n) v ≡ is_basic (D 0) v) → constant (D n) ≡ constant (D 0)
unfolding constant
closed_constant n D run closed =
    let last = sound n D run n (omega arith) in
    sym (same_constant (D 0) (D n) run.lawful last.lawful last.values (same_basis (D 0) (D n) run.lawful last.lawful (λ x. (last.solutions x).0) (λ v. sym (closed v))))

-- ---- the variable of largest index that moves

-- from k on no variable moves
abbrev StaysFrom : ℕ → ℕ → (ℕ → Dictionary) → Type 0
StaysFrom k n D = (v : ℕ) → k ≤ v → (i : ℕ) → i ≤ n → is_basic (D i) v ≡ is_basic (D 0) v

below : (k n : ℕ) (D : ℕ → Dictionary) → StaysFrom (suc k) n D → (p q v : ℕ) → p ≤ n → q ≤ n → is_basic (D p) v ≡ true → is_basic (D q) v ≡ false → v ≤ k
below k n D stays p q v p_in q_in there gone =
    ⊎_elim
    (λ (above : k < v). absurd (true≢false (sym there ∙ stays v (omega (arith, above)) p p_in ∙ sym (stays v (omega (arith, above)) q q_in) ∙ gone)))
    (λ most. most)
    (cases_lt k v)

move_clashes : (k n : ℕ) (D : ℕ → Dictionary) → (run : Run n D) → constant (D n) ≡ constant (D 0) → StaysFrom (suc k) n D → Moves (λ i. is_basic (D i) k) n → ⊥
move_clashes k n D run closed stays moves =
    let p = moves.falls.place in
    let q = moves.rises.place in
    let p_in = moves.falls.within in
    let q_in = moves.rises.within in
    let d = sound n D run p (omega (arith, p_in)) in
    let e = sound n D run q (omega (arith, q_in)) in
    let s = step_at n D run p p_in in
    let t = step_at n D run q q_in in
    let out = left_basis (D p) (D (suc p)) k s moves.falls.before moves.falls.after in
    let into = came_into_basis (D q) (D (suc q)) k t moves.rises.before moves.rises.after in
    clash (D p) (D (suc p)) (D q) (D (suc q)) record {
      lawful_d = d.lawful;
      lawful_e = e.lawful;
      leaving = s;
      entering = t;
      solutions = between n D run p q (omega (arith, p_in)) (omega (arith, q_in));
      values = values_between n D run p q (omega (arith, p_in)) (omega (arith, q_in));
      own = λ v. sym (own_stays n D run closed p (omega (arith, p_in)) v) ∙ own_stays n D run closed q (omega (arith, q_in)) v;
      same = out ∙ sym into;
      entered_at_most = subst (λ m. slice_index (D p).nonbasic s.j ≤ m) (sym into)
          (below k n D stays (suc p) p (slice_index (D p).nonbasic s.j) p_in (omega (arith, p_in)) (enters_basis (D p) (D (suc p)) s) (nonbasic_at (D p) s.j d.lawful s.turn.column_within));
      moved_at_most = λ v there gone. subst (λ m. v ≤ m) (sym into) (below k n D stays p q v (omega (arith, p_in)) (omega (arith, q_in)) there gone);
    }

descend : (k n : ℕ) (D : ℕ → Dictionary) → 0 < n → (run : Run n D) → ((v : ℕ) → is_basic (D n) v ≡ is_basic (D 0) v) → StaysFrom k n D → ⊥
descend zero n D some run closed stays =
    let s = step_at n D run 0 some in
    let v = slice_index (D 0).nonbasic s.j in
    true≢false (sym (enters_basis (D 0) (D 1) s) ∙ stays v (omega arith) 1 (omega (arith, some)) ∙ nonbasic_at (D 0) s.j run.lawful s.turn.column_within)
descend (suc k) n D some run closed stays =
    ⊎_elim
    (λ (same : (i : ℕ) → i ≤ n → is_basic (D i) k ≡ is_basic (D 0) k).
    descend k n D some run closed
    (λ v least i within. ⊎_elim (λ is. subst (λ u. is_basic (D i) u ≡ is_basic (D 0) u) is (same i within)) (λ other. stays v (omega (arith, least, other)) i within) (cases_eq k v)))
    (λ moves. move_clashes k n D run (closed_constant n D run closed) stays moves)
    (stays_or_moves (λ i. is_basic (D i) k) n (closed k))

pub no_cycle : (n : ℕ) (D : ℕ → Dictionary) → 0 < n → Run n D → ((v : ℕ) → is_basic (D n) v ≡ is_basic (D 0) v) → ⊥
no_cycle n D some run closed =
    let bounded = bound_of_all (λ i. (D i).basic) n in
    descend bounded.bound n D some run closed
    (λ v least i within. nowhere i v bounded.bound (bounded.above i) least within ∙ sym (nowhere 0 v bounded.bound (bounded.above 0) least (omega arith)))
  where
    nowhere : (i v bound : ℕ) → ((k : ℕ) → i ≤ n → k < length (D i).basic → slice_index (D i).basic k < bound) → bound ≤ v → i ≤ n → is_basic (D i) v ≡ false
    nowhere i v bound above least within = false_from_ne_true (is_basic (D i) v) (λ there. let at = stands (D i) v there in let less = above _ within at.within in let is = at.is in omega (arith, less, is, least))

-- ---- paths

after_row : Dictionary → ℕ → Option ℕ → Dictionary
after_row d c None = d
after_row d c (Some r) = exact_pivot r c d

after_column : Dictionary → Option ℕ → Dictionary
after_column d None = d
after_column d (Some c) = after_row d c (leaving_row (exact_ratios d c))

-- the dictionary after a pivot by the rule, where there is one
pub next : Dictionary → Dictionary
next d = after_column d (entering_column d)

is_next : (d e : Dictionary) → ExactStep d e → e ≡ next d
unfolding next after_column after_row
is_next d e h = h.is_pivot ∙ sym (ap (after_column d) h.enters ∙ ap (after_row d h.column) h.leaves)

unfoldable pub after : Dictionary → ℕ → Dictionary
after d zero = d
after d (suc i) = next (after d i)

pub last_is : {d e : Dictionary} {n : ℕ} → ExactPath d n e → e ≡ after d n
unfolding after
last_is here = refl
last_is (further {d = d} {e = e} {f = f} p s) = is_next e f s ∙ ap next (last_is p)

path_steps : {d e : Dictionary} {n : ℕ} → ExactPath d n e → (i : ℕ) → i < n → ExactStep (after d i) (after d (suc i))
unfolding after
path_steps here i within = absurd (omega (arith, within))
path_steps (further {d = d} {e = e} {f = f} {n = n} p s) i within =
    ⊎_elim
    (λ last. subst (λ j. ExactStep (after d j) (next (after d j))) (sym last) (subst₂ ExactStep (last_is p) (is_next e f s ∙ ap next (last_is p)) s))
    (λ other. path_steps p i (omega (arith, within, other)))
    (cases_eq i n)

pub run_of : {d e : Dictionary} {n : ℕ} → IsLawful d → HasFeasibleConstants d → ExactPath d n e → Run n (after d)
unfolding after
run_of lawful constants p = record { lawful = lawful; constants = constants; steps = path_steps p }

pub same_tests : (d e : Dictionary) → HasSameBasis d e → (v : ℕ) → is_basic e v ≡ is_basic d v
same_tests d e h v = by_tests (is_basic d v) (is_basic e v) refl refl
  where
    contains : (f : Dictionary) → is_basic f v ≡ true → Contains f.basic v
    contains f there = let at = stands f v there in (place_of f.basic v, at.within, get_or_default f.basic (place_of f.basic v) v 0 at.within ∙ at.is)

    basic : (f : Dictionary) → Contains f.basic v → is_basic f v ≡ true
    basic f there = basic_at f v there.0 there.1 (get_or_default f.basic there.0 0 v there.1 ∙ there.2)

    by_tests : (b c : Bool) → is_basic d v ≡ b → is_basic e v ≡ c → is_basic e v ≡ is_basic d v
    by_tests true c p q = basic e ((h v).0 (contains d p)) ∙ sym p
    by_tests false true p q = absurd (true≢false (sym (basic d ((h v).1 (contains e q))) ∙ p))
    by_tests false false p q = q ∙ sym p

-- A path by the rule that is not empty does not end with the basis that it began with.
pub no_basis_twice : (d e : Dictionary) (n : ℕ) → IsLawful d → HasFeasibleConstants d → ExactPath d n e → 0 < n → HasSameBasis d e → ⊥
unfolding after
no_basis_twice d e n lawful constants p some same =
    no_cycle n (after d) some (run_of lawful constants p) (subst (λ f. (v : ℕ) → is_basic f v ≡ is_basic d v) (last_is p) (same_tests d e same))
