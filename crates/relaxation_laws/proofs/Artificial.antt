-- What w has to do with the artificial variable: by its column or its row.
use Rattle.std.proofs.Common.{◌≡◌, ◌∙◌, ⊎_elim, refl, sym, ap, subst, ℕ, zero, suc, ◌<◌, List, [], length, slice_index, slice_index_or, drop, All, Option, Some, None, option_map, unwrap_or, arith}
use Rattle.std.proofs.lemmas.Bool.{cases_eq}
use Rattle.std.proofs.lemmas.Int.{ints}
use Rattle.frac128.specs.Fraction.{Fraction, negation, one_value, zero_value}
use Rattle.frac128.specs.Order.{IsAtMost, IsBelow}
use Rattle.frac128.specs.Lowest.{IsInLowestTerms}
use Rattle.frac128.proofs.Field.{apart_of-one, exact_product-one_right, exact_sum-zero_left, exact_sum-zero_right, exact_sum_assoc}
use Rattle.frac128.proofs.Ordered.{IsAtMost-negation, IsAtMost-self, IsBelow-not}
use Rattle.frac128.proofs.Sums.{minus, minus-minus, minus-sum, minus_is, sum-minus, ◌⊕◌}
use Rattle.dictionary.specs.Dictionary.{Dictionary, entry}
use Rattle.dictionary.specs.Rule.{entering_column}
use Rattle.dictionary.specs.Solutions.{IsLawful, IsPhaseOne, Point, Solves, own_point, total_at}
use Rattle.dictionary.proofs.Points.Chosen.{entering-some}
use Rattle.dictionary.proofs.Points.ExactPivot.{same_some}
use Rattle.dictionary.proofs.Points.FreeRise.{along, along-basic, along-columns, along-nonbasic, along-own, along-solves}
use Rattle.dictionary.proofs.Points.Lawful.{IsWide}
use Rattle.dictionary.proofs.Points.OwnPoint.{constant-wide, own_columns-none, own_point-basic, own_point-nonbasic, own_point-solves}
use Rattle.dictionary.proofs.Points.PhaseOne.{auxiliary_all}

one_at_least : IsAtMost zero_value one_value
one_at_least = record { at_most = omega (arith, ints) }

-- w at a solution
pub w_at : (d : Dictionary) (w : List Fraction) (x : Point) → IsPhaseOne d → d.auxiliary ≡ Some w → Solves d x → total_at d x w ≡ negation (x 0)
w_at d w x phase is_w solves = same_some (subst (λ o. option_map (total_at d x) o ≡ Some (negation (x 0))) is_w (phase.is_negation x solves))

w_wide : (d : Dictionary) (w : List Fraction) → IsLawful d → d.auxiliary ≡ Some w → IsWide (length d.nonbasic) w
w_wide d w lawful is_w = auxiliary_all (IsWide (length d.nonbasic)) d w lawful.shape.auxiliary_entries is_w

pub w_reduced : (d : Dictionary) (w : List Fraction) → IsLawful d → d.auxiliary ≡ Some w → IsInLowestTerms (entry w 0)
w_reduced d w lawful is_w = constant-wide (length d.nonbasic) w (w_wide d w lawful is_w) (auxiliary_all (All IsInLowestTerms) d w lawful.reduced.auxiliary is_w)

entry_reduced : (j : ℕ) (d : Dictionary) (row : List Fraction) → IsWide (length d.nonbasic) row → All IsInLowestTerms row → j < length d.nonbasic → IsInLowestTerms (entry row (suc j))
entry_reduced j d row wide low within = low (suc j) zero_value (omega (arith, wide, within))

-- w's constant is what the artificial variable has at the own point, negated
pub w_constant : (d : Dictionary) (w : List Fraction) → IsLawful d → IsPhaseOne d → d.auxiliary ≡ Some w → entry w 0 ≡ negation (own_point d 0)
w_constant d w lawful phase is_w =
    sym (ap (λ s. entry w 0 ⊕ s) (own_columns-none d (drop 1 w) lawful) ∙ exact_sum-zero_right (entry w 0) (w_reduced d w lawful is_w))
    ∙ w_at d w (own_point d) phase is_w (own_point-solves d lawful)

-- and with a column's variable at 1
w_column : (j : ℕ) (d : Dictionary) (w : List Fraction) → IsLawful d → IsPhaseOne d → d.auxiliary ≡ Some w → j < length d.nonbasic
    → entry w 0 ⊕ entry w (suc j) ≡ negation (along j one_value d 0)
w_column j d w lawful phase is_w within =
    let wide = w_wide d w lawful is_w in
    let low = entry_reduced j d w wide (auxiliary_all (All IsInLowestTerms) d w lawful.reduced.auxiliary is_w) within in
    ap (λ s. entry w 0 ⊕ s) (sym (along-columns j one_value d w lawful within wide ∙ exact_product-one_right (entry w (suc j)) low))
    ∙ w_at d w (along j one_value d) phase is_w (along-solves j one_value d lawful within apart_of-one)

-- ---- where the artificial variable is nonbasic

nonbasic_none : (j k : ℕ) (d : Dictionary) (w : List Fraction) → IsLawful d → IsPhaseOne d → d.auxiliary ≡ Some w → k < length d.nonbasic → slice_index d.nonbasic k ≡ 0 → j < length d.nonbasic
    → IsAtMost (entry w (suc j)) zero_value
nonbasic_none j k d w lawful phase is_w k_within is_zero within =
    let none : entry w 0 ≡ zero_value = w_constant d w lawful phase is_w ∙ ap negation (ap (own_point d) (sym is_zero) ∙ own_point-nonbasic d k lawful k_within) in
    let wide = w_wide d w lawful is_w in
    let low = entry_reduced j d w wide (auxiliary_all (All IsInLowestTerms) d w lawful.reduced.auxiliary is_w) within in
    let value : entry w (suc j) ≡ negation (along j one_value d 0) = sym (exact_sum-zero_left (entry w (suc j)) low) ∙ ap (λ s. s ⊕ entry w (suc j)) (sym none) ∙ w_column j d w lawful phase is_w within in
    let high : IsAtMost zero_value (along j one_value d 0) =
    ⊎_elim
    (λ same. subst (IsAtMost zero_value) (sym (along-own j one_value d) ∙ ap (along j one_value d) (ap (slice_index d.nonbasic) (sym same) ∙ is_zero)) one_at_least)
    (λ other. subst (IsAtMost zero_value) (sym (along-nonbasic j k one_value d lawful within k_within other) ∙ ap (along j one_value d) is_zero) (IsAtMost-self zero_value))
    (cases_eq k j) in
    subst (λ s. IsAtMost s zero_value) (sym value) (IsAtMost-negation zero_value (along j one_value d 0) high)

pub nonbasic_ends : (k : ℕ) (d : Dictionary) (w : List Fraction) → IsLawful d → IsPhaseOne d → d.auxiliary ≡ Some w → k < length d.nonbasic → slice_index d.nonbasic k ≡ 0 → entering_column d ≡ None
nonbasic_ends k d w lawful phase is_w k_within is_zero = by_option (entering_column d) refl
  where
    of_column : (c : ℕ) → entering_column d ≡ Some c → ⊥
    of_column zero e = let known = entering-some d zero e in let above = known.above in omega (arith, above)
    of_column (suc j) e =
        let known = entering-some d (suc j) e in
        let below = known.within in
        IsBelow-not zero_value (entry w (suc j)) (subst (λ o. IsBelow zero_value (entry (unwrap_or o d.objective) (suc j))) is_w known.rise)
        (nonbasic_none j k d w lawful phase is_w k_within is_zero (omega (arith, below)))

    by_option : (o : Option ℕ) → entering_column d ≡ o → o ≡ None
    by_option None e = refl
    by_option (Some c) e = absurd (of_column c e)

-- ---- where it is basic

pub basic_constant : (i : ℕ) (d : Dictionary) (w : List Fraction) → IsLawful d → IsPhaseOne d → d.auxiliary ≡ Some w → i < length d.basic → slice_index d.basic i ≡ 0
    → entry w 0 ≡ negation (entry (slice_index_or d.rows i []) 0)
basic_constant i d w lawful phase is_w within is_zero =
    w_constant d w lawful phase is_w ∙ ap negation (ap (own_point d) (sym is_zero) ∙ own_point-basic d i lawful within)

-- w's coefficients are the entries of its row
pub basic_column : (i j : ℕ) (d : Dictionary) (w : List Fraction) → IsLawful d → IsPhaseOne d → d.auxiliary ≡ Some w → i < length d.basic → slice_index d.basic i ≡ 0 → j < length d.nonbasic
    → entry w (suc j) ≡ entry (slice_index_or d.rows i []) (suc j)
basic_column i j d w lawful phase is_w within is_zero column_within =
    let row = slice_index_or d.rows i [] in
    let k = entry row 0 in
    let a = entry row (suc j) in
    let same = lawful.shape.rows in
    let wide = w_wide d w lawful is_w in
    let low_w = entry_reduced j d w wide (auxiliary_all (All IsInLowestTerms) d w lawful.reduced.auxiliary is_w) column_within in
    let low_a = entry_reduced j d row (lawful.shape.row_entries i [] (omega (arith, same, within))) (lawful.reduced.rows i [] (omega (arith, same, within))) column_within in
    let at_one : along j one_value d 0 ≡ k ⊕ minus a =
    ap (along j one_value d) (sym is_zero) ∙ along-basic j i one_value d lawful column_within within ∙ ap (λ s. k ⊕ minus s) (exact_product-one_right a low_a) in
    let both : minus k ⊕ entry w (suc j) ≡ minus k ⊕ a =
    ap (λ s. s ⊕ entry w (suc j)) (minus_is k ∙ sym (basic_constant i d w lawful phase is_w within is_zero)) ∙ w_column j d w lawful phase is_w column_within
    ∙ ap negation at_one ∙ sym (minus_is (k ⊕ minus a)) ∙ minus-sum k (minus a) ∙ ap (λ s. minus k ⊕ s) (minus-minus a) in
    sym (taken k (entry w (suc j)) low_w) ∙ ap (λ s. k ⊕ s) both ∙ taken k a low_a
  where
    taken : (p q : Fraction) → IsInLowestTerms q → p ⊕ (minus p ⊕ q) ≡ q
    taken p q low = sym (exact_sum_assoc p (minus p) q) ∙ ap (λ s. s ⊕ q) (sum-minus p) ∙ exact_sum-zero_left q low
