-- What one exact pivot by the rule does to a lawful dictionary with a feasible own point.
use Rattle.std.proofs.Common.{◌≡◌, ◌↔◌, ◌∙◌, sym, ap, ap₂, subst, ℕ, suc, ◌<◌, ◌≤◌, [], length, slice_index, slice_index_or, true, arith}
use Rattle.std.proofs.lemmas.List.Elements.{All-get_or}
use Rattle.frac128.specs.Fraction.{Fraction, exact_quotient, inverse, zero_value}
use Rattle.frac128.specs.Order.{IsAtMost, IsBelow}
use Rattle.frac128.proofs.Field.{apart_of-product, exact_sum-zero_left, exact_product-inverse, exact_product-one_left, exact_product-zero_left, exact_product-zero_right, exact_product_assoc, exact_product_comm, exact_quotient-product}
use Rattle.frac128.specs.Lowest.{IsInLowestTerms}
use Rattle.dictionary.specs.Dictionary.{Dictionary, entry}
use Rattle.dictionary.specs.Rule.{is_positive, maximized_row}
use Rattle.dictionary.specs.Solutions.{HasFeasibleConstants, IsLawful, Point, Solves}
use Rattle.dictionary.proofs.Points.Chosen.{Leaves, above_from_positive, maximized-wide}
use Rattle.dictionary.proofs.Points.ExactPivot.{other_objective, turned}
use Rattle.dictionary.proofs.Points.Feasible.{feasible_by_turn, maximized-reduced, maximized-turned, rises_by_turn}
use Rattle.dictionary.proofs.Points.FreeRise.{not_zero}
use Rattle.dictionary.proofs.Points.Lawful.{IsLawful-turned, Turns}
use Rattle.dictionary.proofs.Points.OwnPoint.{constants-reduced}
use Rattle.dictionary.proofs.Points.PivotLaw.{AreTrue, objective_turned, solves_from_true, true_before, true_from_solves, true_turned}
use Rattle.frac128.proofs.Sums.{minus, sum-minus, sums, ◌⊕◌, ◌⊗◌}
use Rattle.dictionary.proofs.Points.Turned.{total}
use Rattle.dictionary.specs.ExactPath.{ExactStep, exact_pivot}
use Rattle.cycle_laws.specs.Bases.{maximized_at}
use Rattle.cycle_laws.specs.Choices.{LeavesFirst}
use Rattle.cycle_laws.proofs.Entering.{enters_first}
use Rattle.cycle_laws.proofs.Leaving.{leaves, leaves_first}
use Rattle.dictionary.proofs.Points.Exact.{exact_turn}

-- ---- a step by places

-- What is known of a step: the places of row and column from 0 on, the turn, and why the rule chose them.
pub record Step (d e : Dictionary) : Type 0 where
  pub i : ℕ
  pub j : ℕ
  pub turn : Turns i j d e
  pub rises : is_positive (entry (maximized_row d) (suc j)) ≡ true
  pub smallest_in : (k : ℕ) → k < length d.nonbasic → is_positive (entry (maximized_row d) (suc k)) ≡ true → slice_index d.nonbasic j ≤ slice_index d.nonbasic k
  pub bounds : is_positive (entry (slice_index_or d.rows i []) (suc j)) ≡ true
  pub leaves : Leaves (suc i) (suc j) d
  pub smallest_out : (k : ℕ) → k < length d.basic → is_positive (entry (slice_index_or d.rows k []) (suc j)) ≡ true
      → IsAtMost (exact_quotient (entry (slice_index_or d.rows k []) 0) (entry (slice_index_or d.rows k []) (suc j))) (exact_quotient (entry (slice_index_or d.rows i []) 0) (entry (slice_index_or d.rows i []) (suc j)))
      → slice_index d.basic i ≤ slice_index d.basic k

pub step_of : (d e : Dictionary) → IsLawful d → ExactStep d e → Step d e
step_of d e lawful h =
    let first = enters_first d h.column lawful.shape h.enters in
    let row : LeavesFirst d (suc first.place) h.row = subst (λ c. LeavesFirst d c h.row) first.is_column (leaves_first d h.column h.row lawful.shape h.leaves) in
    let i = row.place in
    let j = first.place in
    let made : e ≡ exact_pivot (suc i) (suc j) d = h.is_pivot ∙ ap₂ (λ r c. exact_pivot r c d) row.is_row first.is_column in
    record {
      i = i;
      j = j;
      turn = subst (Turns i j d) (sym made) (exact_turn i j d lawful row.within first.within (not_zero (entry (slice_index_or d.rows i []) (suc j)) (above_from_positive (entry (slice_index_or d.rows i []) (suc j)) row.bounds)));
      rises = first.rises;
      smallest_in = first.smallest;
      bounds = row.bounds;
      leaves = subst (λ r. Leaves r (suc j) d) row.is_row (leaves d h.row (suc j) lawful.shape row);
      smallest_out = row.smallest;
    }

-- ---- what a step keeps

pub lawful_after : (d e : Dictionary) → IsLawful d → Step d e → IsLawful e
lawful_after d e lawful s = IsLawful-turned s.i s.j d e lawful s.turn

pub feasible_after : (d e : Dictionary) → IsLawful d → HasFeasibleConstants d → Step d e → HasFeasibleConstants e
feasible_after d e lawful constants s = feasible_by_turn s.i s.j d e lawful constants s.turn s.leaves

pub solutions_after : (d e : Dictionary) (x : Point) → IsLawful d → Step d e → Solves d x ↔ Solves e x
solutions_after d e x lawful s =
    let turn = s.turn in (
      λ h. subst (λ f. Solves f x) (sym turn.is_made) (solves_from_true (turned s.i s.j turn.solved d) x h.reduced (true_turned s.i s.j d e x lawful h.reduced turn (true_from_solves d x h))),
      λ h. solves_from_true d x h.reduced (true_before s.i s.j d e x lawful h.reduced turn (subst (AreTrue x) turn.is_made (true_from_solves e x h))),
    )

maximized_after : (d e : Dictionary) (s : Step d e) → maximized_row e ≡ other_objective s.j s.turn.solved (maximized_row d)
maximized_after d e s = ap maximized_row s.turn.is_made ∙ maximized-turned s.i s.j s.turn.solved d

pub value_after : (d e : Dictionary) (x : Point) → IsLawful d → Step d e → Solves d x → maximized_at d x ≡ maximized_at e x
value_after d e x lawful s h =
    let turn = s.turn in
    sym (ap₂ (λ vs row. total x vs row) (ap (λ (f : Dictionary). f.nonbasic) turn.is_made) (maximized_after d e s)
    ∙ objective_turned s.i s.j d e x (maximized_row d) turn h (maximized-wide d lawful.shape))

pub rises_after : (d e : Dictionary) → IsLawful d → HasFeasibleConstants d → Step d e → IsAtMost (entry (maximized_row d) 0) (entry (maximized_row e) 0)
rises_after d e lawful constants s =
    let within = s.turn.column_within in
    rises_by_turn s.i s.j d e lawful constants s.turn s.leaves record { above = omega arith; within = omega (arith, within); rise = above_from_positive (entry (maximized_row d) (suc s.j)) s.rises }

-- ---- a step without a rise

-- nothing is added
cancelled : (z p : Fraction) → IsInLowestTerms z → IsInLowestTerms p → z ≡ z ⊕ p → p ≡ zero_value
cancelled z p low_z low_p e =
    sym (exact_sum-zero_left p low_p) ∙ ap (λ s. s ⊕ p) (sym (sum-minus z)) ∙ sorted z p ∙ ap (λ s. s ⊕ minus z) (sym e) ∙ sum-minus z
  where
    sorted : (a b : Fraction) → (a ⊕ minus a) ⊕ b ≡ (a ⊕ b) ⊕ minus a
    sorted a b = simp sums

-- a factor of nothing
other_factor : (a v : Fraction) → IsInLowestTerms v → IsBelow zero_value a → a ⊗ v ≡ zero_value → v ≡ zero_value
other_factor a v low above e =
    sym (exact_product-one_left v low) ∙ ap (λ s. s ⊗ v) (sym (exact_product_comm (inverse a) a ∙ exact_product-inverse a (not_zero a above)))
    ∙ exact_product_assoc (inverse a) a v ∙ ap (λ s. inverse a ⊗ s) e ∙ exact_product-zero_right (inverse a)

-- Where the maximized row's constant stays, the row that leaves has the constant 0.
pub degenerate : (d e : Dictionary) → IsLawful d → (s : Step d e) → entry (maximized_row d) 0 ≡ entry (maximized_row e) 0 → entry (slice_index_or d.rows s.i []) 0 ≡ zero_value
degenerate d e lawful s same =
    let z = entry (maximized_row d) 0 in
    let slope = entry (maximized_row d) (suc s.j) in
    let row = slice_index_or d.rows s.i [] in
    let v = entry s.turn.solved 0 in
    let a = entry row (suc s.j) in
    let within = s.turn.row_within in
    let nothing : slope ⊗ v ≡ zero_value = cancelled z (slope ⊗ v) (maximized-reduced d lawful) (apart_of-product slope v) (same ∙ ap (λ r. entry r 0) (maximized_after d e s)) in
    let low_v : IsInLowestTerms v = subst IsInLowestTerms (sym s.turn.known.constant) (apart_of-product (entry row 0) (inverse a)) in
    let none : v ≡ zero_value = other_factor slope v low_v (above_from_positive slope s.rises) nothing in
    let low : IsInLowestTerms (entry row 0) = All-get_or (λ r. IsInLowestTerms (entry r 0)) d.rows s.i [] (omega (arith, within, lawful.shape.rows)) (constants-reduced d lawful) in
    sym (exact_quotient-product (entry row 0) a low (not_zero a (above_from_positive a s.bounds)))
    ∙ ap (λ q. q ⊗ a) (sym s.turn.known.constant ∙ none) ∙ exact_product-zero_left a
