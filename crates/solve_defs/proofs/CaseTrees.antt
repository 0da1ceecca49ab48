-- A tree of cases: each point of a case is in one of its leaves.
use Rattle.std.proofs.Common.{◌≡◌, refl, sym, ◌∙◌, ap, subst, ℕ, zero, suc, ◌/◌, ℤ, pos, ◌+ℤ◌, ◌*ℤ◌, true, IsTrue, ◌⊎◌, inl, inr, ⊎_elim, List, [], ◌∷◌, ◌++◌, length, All, arith}
use Rattle.std.specs.Prelude.{◌≤ℤ◌, ◌<ℤ◌, slice_index_or, unsigned_abs}
use Rattle.std.specs.Int.{◌∣◌}
use Rattle.std.specs.List.{AllByRecursion, AllZip}
use Rattle.std.proofs.Math.Nat.{div-mul_cancel}
use Rattle.std.proofs.lemmas.Bool.{and_parts, eqb-true}
use Rattle.std.proofs.lemmas.Int.{by_lt_z, ints}
use Rattle.std.proofs.lemmas.List.Elements.{All-append, All-cons, All-nil}
use Rattle.frac128.specs.Fraction.{Fraction}
use Rattle.frac128.specs.Numbers.{is_below_zero, signed}
use Rattle.frac128.proofs.Integers.{le-mul_pos, lt_of_mul_pos, signed-mul, signed-size}
use Rattle.model_data.specs.Lawful.{IsLawful}
use Rattle.model_data.specs.Size.{is_integer}
use Rattle.model_data.specs.declared.model.Model.{Model}
use Rattle.model_data.specs.declared.model.Var.{Var}
use Rattle.model_data.specs.declared.solution.CertNode.{CertNode}
use Rattle.model_data.specs.declared.solution.CertNode.TheVariants.{Split, Bound, Farkas}
use Rattle.model_data.specs.declared.solution.Weights.{Weights}
use Rattle.solve_defs.specs.Bounds.{at_least_cut, at_most_cut}
use Rattle.solve_defs.specs.Cases.{IsCasePoint, IsWithinCut}
use Rattle.solve_defs.specs.Certificates.{Subtree, are_whole, bound_claim, cuts_of, entering_looks, farkas_claim, halves, is_bound, is_integer_number, is_node_for, leaf_looks, pred_number, tree_looks}
use Rattle.solve_defs.specs.Looks.{Holds}
use Rattle.solve_defs.specs.Points.{AtMost, IsFeasible, IsWholeIf, quotient, ratio, relaxation}
use Rattle.solve_defs.specs.Values.{whole}
use Rattle.solve_defs.specs.declared.cut.Cut.{Cut}
use Rattle.solve_defs.proofs.CasePoints.{case_point_relaxed}
use Rattle.solve_defs.proofs.Domains.{feasible_whole}
use Rattle.solve_defs.proofs.LeafBounds.{All-left, All-right}
use Rattle.solve_defs.proofs.LeafLooks.{farkas_holds}

-- ---- a split

-- A whole number's value that is above k is at least one more.
pub next_whole : (n k : ℤ) (d : ℕ) → d ∣ unsigned_abs n → (k *ℤ pos d) <ℤ n → ((k +ℤ pos 1) *ℤ pos d) ≤ℤ n
next_whole n k d divides less =
    let q = signed (is_below_zero n) (unsigned_abs n / d) in
    let same : q *ℤ pos d ≡ n = signed-mul (is_below_zero n) (unsigned_abs n / d) d ∙ ap (signed (is_below_zero n)) (div-mul_cancel d divides) ∙ signed-size n in
    let below = lt_of_mul_pos k q d (subst (λ z. (k *ℤ pos d) <ℤ z) (sym same) less) in
    subst (λ z. ((k +ℤ pos 1) *ℤ pos d) ≤ℤ z) same (le-mul_pos (k +ℤ pos 1) q d (next k q below))
  where
    next : (a b : ℤ) → a <ℤ b → (a +ℤ pos 1) ≤ℤ b
    next a b h = omega (arith, ints, h)

pub times_one : (a : ℤ) → a *ℤ pos 1 ≡ a
times_one a = omega (arith, ints)

-- at most k, or at least k + 1
pub one_side : (n k : ℤ) (d : ℕ) → d ∣ unsigned_abs n → AtMost (quotient n d) (ratio (whole k)) ⊎ AtMost (ratio (whole (k +ℤ pos 1))) (quotient n d)
one_side n k d divides =
    by_lt_z (k *ℤ pos d) n
    (λ less. inr (subst (λ z. ((k +ℤ pos 1) *ℤ pos d) ≤ℤ z) (sym (times_one n)) (next_whole n k d divides less)))
    (λ most. inl (subst (λ z. z ≤ℤ (k *ℤ pos d)) (sym (times_one n)) most))

whole_number : (vars : List Var) (X : List ℤ) (d number : ℕ) → IsTrue (is_integer_number vars number) → AllZip (λ v n. IsWholeIf (is_integer v.kind) d n) vars X
    → d ∣ unsigned_abs (slice_index_or X (pred_number number) (pos 0))
whole_number vars X d zero shown each = absurd (cc)
whole_number [] X d (suc place) shown each = absurd (cc)
whole_number (v ∷ vars) [] d (suc place) shown each = absurd each
whole_number (v ∷ vars) (n ∷ X) d (suc zero) shown each = each.0 shown
whole_number (v ∷ vars) (n ∷ X) d (suc (suc place)) shown each = whole_number vars X d (suc place) shown each.1

-- with one more cut
pub further : (m : Model) (cuts : List Cut) (cut : Cut) (X : List ℤ) (d : ℕ) → IsCasePoint m cuts X d → IsWithinCut X d cut → IsCasePoint m (cuts ++ cut ∷ []) X d
further m cuts cut X d point within =
    record { feasible = point.feasible; within = All-append (IsWithinCut X d) cuts (cut ∷ []) point.within (All-cons (IsWithinCut X d) cut [] within (All-nil (IsWithinCut X d))) }

pub split_sides : (m : Model) (cuts : List Cut) (number : ℕ) (k : ℤ) (X : List ℤ) (d : ℕ) → IsTrue (is_integer_number m.vars number) → IsCasePoint m cuts X d
    → IsCasePoint m (cuts ++ at_most_cut (pred_number number) k ∷ []) X d ⊎ IsCasePoint m (cuts ++ at_least_cut (pred_number number) (k +ℤ pos 1) ∷ []) X d
split_sides m cuts number k X d integer point =
    ⊎_elim
    (λ most. inl (further m cuts (at_most_cut (pred_number number) k) X d point record { lower = tt; upper = most }))
    (λ least. inr (further m cuts (at_least_cut (pred_number number) (k +ℤ pos 1)) X d point record { lower = least; upper = tt }))
    (one_side (slice_index_or X (pred_number number) (pos 0)) k d (whole_number m.vars X d number integer (feasible_whole m X d point.feasible)))

-- ---- all the cases

-- what each point of a case meets
abbrev pub Meets : Model → (List ℤ → ℕ → Type 0) → List Cut → Type 0
Meets m Goal cuts = (X : List ℤ) (d : ℕ) → IsCasePoint m cuts X d → Goal X d

-- what a leaf that is bounded by the value gives, where there may be one
abbrev pub BoundGives : Model → Fraction → (List ℤ → ℕ → Type 0) → Type 0
BoundGives m value Goal = (cuts : List Cut) (leaf : ℕ) (weights : Weights) → All Holds (leaf_looks m cuts leaf (bound_claim m value) weights)
    → (X : List ℤ) (d : ℕ) → IsFeasible (relaxation m cuts) X d → Goal X d

pub record Node (m : Model) (value : Fraction) (Goal : List ℤ → ℕ → Type 0) (node : CertNode) : Type 0 where
  pub fits : IsTrue (is_node_for m node)
  pub bound : is_bound node ≡ true → BoundGives m value Goal

both_sides : (m : Model) (Goal : List ℤ → ℕ → Type 0) (cuts : List Cut) (number : ℕ) (k : ℤ) → IsTrue (is_integer_number m.vars number)
    → Meets m Goal (cuts ++ at_most_cut (pred_number number) k ∷ []) → Meets m Goal (cuts ++ at_least_cut (pred_number number) (k +ℤ pos 1) ∷ []) → Meets m Goal cuts
both_sides m Goal cuts number k integer low high X d point = ⊎_elim (low X d) (high X d) (split_sides m cuts number k X d integer point)

pub tree_meets : (m : Model) (value : Fraction) (Goal : List ℤ → ℕ → Type 0) → IsLawful m → (leaf : ℕ) (later : List Subtree) (nodes : List CertNode)
    → AllByRecursion (Node m value Goal) nodes → IsTrue (are_whole (length later) nodes) → All Holds (tree_looks m value leaf later nodes) → AllByRecursion (λ s. Meets m Goal (cuts_of s)) later
tree_meets m value Goal lawful leaf [] nodes each shape hold = tt
tree_meets m value Goal lawful leaf (own ∷ later) [] each shape hold = let e = eqb-true (length (own ∷ later)) 0 shape in absurd (omega (arith, e))
tree_meets m value Goal lawful leaf (own ∷ later) (Split number k ∷ nodes) each shape hold =
    let rest = tree_meets m value Goal lawful leaf (halves (cuts_of own) (pred_number number) k ++ later) nodes each.1 shape
    (All-right Holds (entering_looks own) (tree_looks m value leaf (halves (cuts_of own) (pred_number number) k ++ later) nodes) hold) in
    (both_sides m Goal (cuts_of own) number k (and_parts (is_integer_number m.vars number) _ each.0.fits).0 rest.0 rest.1.0, rest.1.1)
tree_meets m value Goal lawful leaf (own ∷ later) (Bound weights ∷ nodes) each shape hold =
    let here = leaf_looks m (cuts_of own) leaf (bound_claim m value) weights in
    let behind = tree_looks m value (suc leaf) later nodes in
    let own_looks = All-right Holds (entering_looks own) here (All-left Holds (entering_looks own ++ here) behind hold) in (
      (λ X d point. each.0.bound refl (cuts_of own) leaf weights own_looks X d (case_point_relaxed m (cuts_of own) X d point)),
      tree_meets m value Goal lawful (suc leaf) later nodes each.1 shape (All-right Holds (entering_looks own ++ here) behind hold),
    )
tree_meets m value Goal lawful leaf (own ∷ later) (Farkas weights ∷ nodes) each shape hold =
    let here = leaf_looks m (cuts_of own) leaf (farkas_claim m) weights in
    let behind = tree_looks m value (suc leaf) later nodes in
    let own_looks = All-right Holds (entering_looks own) here (All-left Holds (entering_looks own ++ here) behind hold) in (
      (λ X d point. absurd (farkas_holds m (cuts_of own) leaf weights lawful own_looks X d (case_point_relaxed m (cuts_of own) X d point))),
      tree_meets m value Goal lawful (suc leaf) later nodes each.1 shape (All-right Holds (entering_looks own ++ here) behind hold),
    )
