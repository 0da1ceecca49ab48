-- Which variables are basic, and that they determine the own point.
use Rattle.std.proofs.Common.{◌≡◌, ◌≢◌, ⊎_elim, ◌∙◌, refl, sym, ap, ℕ, ◌<◌, ◌==◌, Bool, true, false, [], length, length-set, drop, nat_lt, get_or-set_other, get_or-set_same, slice_index, slice_index_or, slice_set, arith, ltb-true, ltb-false}
use Rattle.std.proofs.lemmas.Bool.{cases_eq, cases_order, eqb-false, eqb-true, le-ltb}
use Rattle.std.proofs.lemmas.List.{get_or_past}
use Rattle.std.proofs.lemmas.List.Elements.{All-get_or}
use Rattle.std.proofs.lemmas.List.Sums.{fails_before_first, passes_at_first}
use Rattle.frac128.specs.Fraction.{zero_value}
use Rattle.frac128.specs.Lowest.{IsInLowestTerms}
use Rattle.dictionary.specs.Dictionary.{Dictionary, entry}
use Rattle.dictionary.specs.Rule.{maximized_row}
use Rattle.dictionary.specs.Solutions.{IsLawful, Point, Solves, own_point}
use Rattle.dictionary.proofs.Points.Feasible.{maximized-reduced}
use Rattle.dictionary.proofs.Points.OwnPoint.{constants-reduced, distinct_right, own_columns-none, own_point-solves, place-basic, place-nonbasic, place_of, sum_at-none}
use Rattle.dictionary.proofs.Points.PivotLaw.{true_from_solves}
use Rattle.frac128.proofs.Field.{exact_sum-zero_right}
use Rattle.frac128.proofs.Sums.{minus, minus-none, ◌⊕◌}
use Rattle.cycle_laws.specs.Bases.{maximized_at}
use Rattle.cycle_laws.proofs.Steps.{Step, solutions_after}

-- ---- a test

unfoldable pub is_basic : Dictionary → ℕ → Bool
is_basic d v = nat_lt (place_of d.basic v) (length d.basic)

-- where a basic variable stands
pub record Stands (d : Dictionary) (v : ℕ) : Type 0 where
  pub within : place_of d.basic v < length d.basic
  pub is : slice_index d.basic (place_of d.basic v) ≡ v

pub stands : (d : Dictionary) (v : ℕ) → is_basic d v ≡ true → Stands d v
unfolding is_basic
stands d v h =
    let within = ltb-true (place_of d.basic v) (length d.basic) h in
    record { within = within; is = eqb-true (slice_index d.basic (place_of d.basic v)) v (passes_at_first (λ b. b == v) d.basic 0 within) }

pub stands_nowhere : (d : Dictionary) (v k : ℕ) → is_basic d v ≡ false → k < length d.basic → slice_index d.basic k ≢ v
unfolding is_basic
stands_nowhere d v k h within =
    let past = ltb-false (place_of d.basic v) (length d.basic) h in
    eqb-false (slice_index d.basic k) v (fails_before_first (λ b. b == v) d.basic k 0 (omega (arith, past, within)))

pub basic_at : (d : Dictionary) (v k : ℕ) → k < length d.basic → slice_index d.basic k ≡ v → is_basic d v ≡ true
basic_at d v k within is = by_test (is_basic d v) refl
  where
    by_test : (b : Bool) → is_basic d v ≡ b → b ≡ true
    by_test true h = refl
    by_test false h = absurd (stands_nowhere d v k h within is)

pub nonbasic_at : (d : Dictionary) (k : ℕ) → IsLawful d → k < length d.nonbasic → is_basic d (slice_index d.nonbasic k) ≡ false
unfolding is_basic
nonbasic_at d k lawful within = le-ltb (place_of d.basic (slice_index d.nonbasic k)) (length d.basic) (omega (arith, place-nonbasic d.basic d.nonbasic k lawful.distinct within))

-- two places of one variable are one
pub one_column : (d : Dictionary) (k j : ℕ) → IsLawful d → k < length d.nonbasic → j < length d.nonbasic → slice_index d.nonbasic k ≡ slice_index d.nonbasic j → k ≡ j
one_column d k j lawful k_in j_in same =
    ⊎_elim (λ e. e)
    (λ order. ⊎_elim (λ less. absurd (distinct_right d.basic d.nonbasic k j lawful.distinct less j_in same)) (λ less. absurd (distinct_right d.basic d.nonbasic j k lawful.distinct less k_in (sym same))) order)
    (cases_order k j)

-- ---- own points

pub own-nonbasic : (d : Dictionary) (v : ℕ) → IsLawful d → is_basic d v ≡ false → own_point d v ≡ zero_value
unfolding is_basic
own-nonbasic d v lawful h =
    let past = ltb-false (place_of d.basic v) (length d.basic) h in
    ap (λ row. entry row 0) (get_or_past d.rows (place_of d.basic v) [] (omega (arith, past, lawful.shape.rows)))

-- A solution where no variable but the basic ones differs from 0 is the own point.
pub is_own : (d : Dictionary) (x : Point) → IsLawful d → Solves d x → ((v : ℕ) → is_basic d v ≡ false → x v ≡ zero_value) → (v : ℕ) → x v ≡ own_point d v
is_own d x lawful solves none v = by_test (is_basic d v) refl
  where
    by_test : (b : Bool) → is_basic d v ≡ b → x v ≡ own_point d v
    by_test false h = none v h ∙ sym (own-nonbasic d v lawful h)
    by_test true h =
        let there = stands d v h in
        let place = place_of d.basic v in
        let row = slice_index_or d.rows place [] in
        let within = there.within in
        ap x (sym there.is) ∙ true_from_solves d x solves place within
        ∙ ap (λ s. entry row 0 ⊕ minus s) (sum_at-none x d.nonbasic (drop 1 row) (λ k below. none (slice_index d.nonbasic k) (nonbasic_at d k lawful below)))
        ∙ minus-none (entry row 0) (All-get_or (λ r. IsInLowestTerms (entry r 0)) d.rows place [] (omega (arith, within, lawful.shape.rows)) (constants-reduced d lawful))

-- Two lawful dictionaries with the same solutions and the same basic variables have the same own point.
pub same_basis : (d e : Dictionary) → IsLawful d → IsLawful e → ((x : Point) → Solves d x → Solves e x) → ((v : ℕ) → is_basic d v ≡ is_basic e v) → (v : ℕ) → own_point d v ≡ own_point e v
same_basis d e lawful_d lawful_e kept same =
    is_own e (own_point d) lawful_e (kept (own_point d) (own_point-solves d lawful_d)) (λ v h. own-nonbasic d v lawful_d (same v ∙ h))

-- the maximized row there
pub own_value : (d : Dictionary) → IsLawful d → maximized_at d (own_point d) ≡ entry (maximized_row d) 0
own_value d lawful =
    ap (λ s. entry (maximized_row d) 0 ⊕ s) (own_columns-none d (drop 1 (maximized_row d)) lawful) ∙ exact_sum-zero_right (entry (maximized_row d) 0) (maximized-reduced d lawful)

-- with the same own point and the same values, the same constant
pub same_constant : (d e : Dictionary) → IsLawful d → IsLawful e → ((x : Point) → Solves d x → maximized_at d x ≡ maximized_at e x) → ((v : ℕ) → own_point d v ≡ own_point e v) → entry (maximized_row d) 0 ≡ entry (maximized_row e) 0
same_constant d e lawful_d lawful_e values own =
    sym (own_value d lawful_d) ∙ values (own_point d) (own_point-solves d lawful_d) ∙ ap (maximized_at e) (λ t v. own v t) ∙ own_value e lawful_e

-- ---- which variables a step moves

pub basic_after : (d e : Dictionary) → (s : Step d e) → e.basic ≡ slice_set d.basic s.i (slice_index d.nonbasic s.j)
basic_after d e s = ap (λ (f : Dictionary). f.basic) s.turn.is_made

pub length_after : (d e : Dictionary) → (s : Step d e) → length e.basic ≡ length d.basic
length_after d e s = ap length (basic_after d e s) ∙ length-set d.basic s.i (slice_index d.nonbasic s.j)

other_after : (d e : Dictionary) (k : ℕ) → (s : Step d e) → k ≢ s.i → slice_index e.basic k ≡ slice_index d.basic k
other_after d e k s other = ap (λ vs. slice_index vs k) (basic_after d e s) ∙ get_or-set_other d.basic s.i k (slice_index d.nonbasic s.j) 0 other

own_after : (d e : Dictionary) → (s : Step d e) → slice_index e.basic s.i ≡ slice_index d.nonbasic s.j
own_after d e s = ap (λ vs. slice_index vs s.i) (basic_after d e s) ∙ get_or-set_same d.basic s.i (slice_index d.nonbasic s.j) 0 s.turn.row_within

-- the variable that enters
pub enters_basis : (d e : Dictionary) → (s : Step d e) → is_basic e (slice_index d.nonbasic s.j) ≡ true
enters_basis d e s =
    let within = s.turn.row_within in
    basic_at e (slice_index d.nonbasic s.j) s.i (omega (arith, within, length_after d e s)) (own_after d e s)

-- a variable that is basic no more is the one that left
pub left_basis : (d e : Dictionary) (v : ℕ) → (s : Step d e) → is_basic d v ≡ true → is_basic e v ≡ false → slice_index d.basic s.i ≡ v
left_basis d e v s before after =
    let there = stands d v before in
    let place = place_of d.basic v in
    let within = there.within in
    ⊎_elim
    (λ same. ap (slice_index d.basic) (sym same) ∙ there.is)
    (λ other. absurd (stands_nowhere e v place after (omega (arith, within, length_after d e s)) (other_after d e place s other ∙ there.is)))
    (cases_eq place s.i)

-- a variable that has become basic is the one that entered
pub came_into_basis : (d e : Dictionary) (v : ℕ) → (s : Step d e) → is_basic d v ≡ false → is_basic e v ≡ true → slice_index d.nonbasic s.j ≡ v
came_into_basis d e v s before after =
    let there = stands e v after in
    let place = place_of e.basic v in
    let within = there.within in
    ⊎_elim
    (λ same. sym (own_after d e s) ∙ ap (slice_index e.basic) (sym same) ∙ there.is)
    (λ other. absurd (stands_nowhere d v place before (omega (arith, within, length_after d e s)) (sym (other_after d e place s other) ∙ there.is)))
    (cases_eq place s.i)

-- Where the row that leaves has the constant 0, the own point stays.
pub own_point_after : (d e : Dictionary) → IsLawful d → IsLawful e → (s : Step d e) → entry (slice_index_or d.rows s.i []) 0 ≡ zero_value → (v : ℕ) → own_point d v ≡ own_point e v
own_point_after d e lawful_d lawful_e s nothing =
    is_own e (own_point d) lawful_e ((solutions_after d e (own_point d) lawful_d s).0 (own_point-solves d lawful_d))
    (λ v h. by_test v h (is_basic d v) refl)
  where
    by_test : (v : ℕ) → is_basic e v ≡ false → (b : Bool) → is_basic d v ≡ b → own_point d v ≡ zero_value
    by_test v after false before = own-nonbasic d v lawful_d before
    by_test v after true before =
        ap (own_point d) (sym (left_basis d e v s before after))
        ∙ ap (λ place. entry (slice_index_or d.rows place []) 0) (place-basic d.basic d.nonbasic s.i lawful_d.distinct s.turn.row_within) ∙ nothing
