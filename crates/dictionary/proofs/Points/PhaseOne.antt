-- The artificial variable and the auxiliary objective.
use Rattle.std.proofs.Common.{◌≡◌, ◌≢◌, ◌↔◌, ◌∙◌, refl, sym, ap, ap₂, subst, ℕ, zero, suc, ◌<◌, ◌==◌, cond, List, [], ◌∷◌, ◌++◌, length, map, replicate, slice_index, slice_index_or, drop, All, Bool, true, false, Some, option_map, IfSome, arith, ne_eqb}
use Rattle.std.proofs.lemmas.List.{get_or-map, length-replicate}
use Rattle.std.proofs.lemmas.List.Elements.{All-get_or}
use Rattle.frac128.specs.Fraction.{Fraction, exact_sum, negation, one_value, zero_value}
use Rattle.frac128.specs.Order.{IsAtMost, IsBelow}
use Rattle.frac128.proofs.Field.{apart_of-product, apart_of-zero, exact_product-negation_left, exact_product-one_left, exact_product-zero_left, exact_product-zero_right, exact_sum-zero_left, exact_sum-zero_right, negation-negation}
use Rattle.frac128.proofs.Ordered.{IsAtMost-self, IsBelow-not}
use Rattle.dictionary.specs.Dictionary.{Dictionary, IsInShape, entry, with_artificial}
use Rattle.dictionary.specs.Solutions.{own_point, HasNoRise, IsFeasible, IsLawful, IsPhaseOne, Pivots, Point, Solves, objective_at, sum_at, total_at, without_artificial_value}
use Rattle.frac128.specs.Lowest.{IsInLowestTerms}
use Rattle.dictionary.proofs.Points.ExactPivot.{same_some}
use Rattle.dictionary.proofs.Points.Lawful.{All-left, All-right, IsWide}
use Rattle.dictionary.proofs.Points.OwnPoint.{constant-wide, own_columns-none, own_point-solves, total-at_most}
use Rattle.dictionary.proofs.Points.PivotLaw.{auxiliary_kept, solutions_kept, solves_from_true, true_from_solves}
use Rattle.dictionary.proofs.Points.Sums.{apart_of-sum_at, sum_at-middle}
use Rattle.frac128.proofs.Sums.{minus, ◌⊕◌, ◌⊗◌}
use Rattle.dictionary.proofs.Points.Turned.{told, total}

-- ---- w at its best

-- the row of w, and what is known of it
pub auxiliary_all : (P : List Fraction → Type 0) (d : Dictionary) (w : List Fraction) → IfSome d.auxiliary P → d.auxiliary ≡ Some w → P w
auxiliary_all P d w all is_w = subst (λ o. IfSome o P) is_w all

pub auxiliary-at_most : (d : Dictionary) (w : List Fraction) (x : Point) → IsLawful d → d.auxiliary ≡ Some w → HasNoRise w → IsFeasible d x → IsAtMost (total_at d x w) (entry w 0)
auxiliary-at_most d w x lawful is_w falls feasible =
    total-at_most x d.nonbasic w
    (constant-wide (length d.nonbasic) w (auxiliary_all (IsWide (length d.nonbasic)) d w lawful.shape.auxiliary_entries is_w) (auxiliary_all (All IsInLowestTerms) d w lawful.reduced.auxiliary is_w))
    falls feasible.at_least_zero

pub no_point : (d : Dictionary) (w : List Fraction) (x : Point) → IsLawful d → IsPhaseOne d → d.auxiliary ≡ Some w → HasNoRise w → IsBelow (entry w 0) zero_value → IsFeasible d x → x 0 ≢ zero_value
no_point d w x lawful phase is_w falls below feasible none =
    let is_total : Some (total_at d x w) ≡ Some (negation (x 0)) = subst (λ o. option_map (total_at d x) o ≡ Some (negation (x 0))) is_w (phase.is_negation x feasible.solves) in
    let is_zero : total_at d x w ≡ zero_value = same_some is_total ∙ ap negation none in
    IsBelow-not (entry w 0) zero_value below (subst (λ s. IsAtMost s (entry w 0)) is_zero (auxiliary-at_most d w x lawful is_w falls feasible))

-- w at the own point is its constant
pub own_artificial-zero : (d : Dictionary) (w : List Fraction) → IsLawful d → IsPhaseOne d → d.auxiliary ≡ Some w → entry w 0 ≡ zero_value → own_point d 0 ≡ zero_value
own_artificial-zero d w lawful phase is_w none =
    let x = own_point d in
    let solves = own_point-solves d lawful in
    let is_total : Some (total_at d x w) ≡ Some (negation (x 0)) = subst (λ o. option_map (total_at d x) o ≡ Some (negation (x 0))) is_w (phase.is_negation x solves) in
    let is_zero : total_at d x w ≡ zero_value = ap₂ (λ k s. k ⊕ s) none (own_columns-none d (drop 1 w) lawful) ∙ exact_sum-zero_right zero_value apart_of-zero in
    sym (negation-negation (x 0)) ∙ ap negation (sym (same_some is_total) ∙ is_zero)

pub IsPhaseOne-kept : (r c : ℕ) (d e : Dictionary) → IsLawful d → Pivots r c d e → IsPhaseOne d → IsPhaseOne e
IsPhaseOne-kept r c d e lawful h phase = record {
  is_negation = λ x s.
      let before = (solutions_kept r c d e x lawful h).1 s in
      sym (auxiliary_kept r c d e x lawful h before) ∙ phase.is_negation x before;
}

-- ---- with the artificial variable

sum_at-last : (x : Point) (vs : List ℕ) (coefs : List Fraction) (v : ℕ) (a : Fraction) → length coefs ≡ length vs → sum_at x (vs ++ v ∷ []) (coefs ++ a ∷ []) ≡ sum_at x vs coefs ⊕ a ⊗ x v
sum_at-last x vs coefs v a same =
    sum_at-middle x vs [] coefs [] v a same ∙ ap (λ s. s ⊕ a ⊗ x v) (exact_sum-zero_right (sum_at x vs coefs) (apart_of-sum_at x vs coefs))

-- a row with one more entry
last_columns : (x : Point) (vs : List ℕ) (row : List Fraction) (a : Fraction) → IsWide (length vs) row → sum_at x (vs ++ 0 ∷ []) (drop 1 (row ++ a ∷ [])) ≡ sum_at x vs (drop 1 row) ⊕ a ⊗ x 0
last_columns x vs [] a wide = absurd (omega (arith, wide))
last_columns x vs (k ∷ entries) a wide = sum_at-last x vs entries 0 a (omega (arith, wide))

last_columns-none : (x : Point) (vs : List ℕ) (row : List Fraction) (a : Fraction) → IsWide (length vs) row → x 0 ≡ zero_value → sum_at x (vs ++ 0 ∷ []) (drop 1 (row ++ a ∷ [])) ≡ sum_at x vs (drop 1 row)
last_columns-none x vs row a wide none =
    last_columns x vs row a wide
    ∙ ap (λ s. sum_at x vs (drop 1 row) ⊕ s) (ap (λ y. a ⊗ y) none ∙ exact_product-zero_right a)
    ∙ exact_sum-zero_right (sum_at x vs (drop 1 row)) (apart_of-sum_at x vs (drop 1 row))

pub same_constant : (n : ℕ) (row : List Fraction) (a : Fraction) → IsWide n row → entry (row ++ a ∷ []) 0 ≡ entry row 0
same_constant n [] a wide = absurd (omega (arith, wide))
same_constant n (k ∷ entries) a wide = refl

pub row_shape : (d : Dictionary) (i : ℕ) → IsInShape d → i < length d.basic → IsWide (length d.nonbasic) (slice_index_or d.rows i [])
row_shape d i shape within =
    let same = shape.rows in
    All-get_or (IsWide (length d.nonbasic)) d.rows i [] (omega (arith, same, within)) shape.row_entries

told_without : (d : Dictionary) (x : Point) (i : ℕ) → IsInShape d → x 0 ≡ zero_value → i < length d.basic
    → told x (d.nonbasic ++ 0 ∷ []) (slice_index_or (map (λ row. row ++ negation one_value ∷ []) d.rows) i []) ≡ told x d.nonbasic (slice_index_or d.rows i [])
told_without d x i shape none within =
    let same = shape.rows in
    let row = slice_index_or d.rows i [] in
    let wide = row_shape d i shape within in
    ap (told x (d.nonbasic ++ 0 ∷ [])) (get_or-map (λ row. row ++ negation one_value ∷ []) d.rows i [] [] (omega (arith, same, within)))
    ∙ ap₂ (λ k s. k ⊕ minus s) (same_constant (length d.nonbasic) row (negation one_value) wide) (last_columns-none x d.nonbasic row (negation one_value) wide none)

pub artificial-solutions : (d : Dictionary) (x : Point) → IsInShape d → x 0 ≡ zero_value → Solves (with_artificial d) x ↔ Solves d x
unfolding with_artificial
artificial-solutions d x shape none = (
  λ s. solves_from_true d x s.reduced (λ i within. true_from_solves (with_artificial d) x s i within ∙ told_without d x i shape none within),
  λ s. solves_from_true (with_artificial d) x s.reduced (λ i within. true_from_solves d x s i within ∙ sym (told_without d x i shape none within)),
)

pub artificial-objective : (d : Dictionary) (x : Point) → IsInShape d → x 0 ≡ zero_value → objective_at (with_artificial d) x ≡ objective_at d x
unfolding with_artificial
artificial-objective d x shape none =
    let wide = shape.objective_entries in
    ap₂ exact_sum (same_constant (length d.nonbasic) d.objective zero_value wide) (last_columns-none x d.nonbasic d.objective zero_value wide none)

sum_at-zeros : (x : Point) (vs : List ℕ) (n : ℕ) → sum_at x vs (replicate n zero_value) ≡ zero_value
sum_at-zeros x [] n = refl
sum_at-zeros x (v ∷ vs) zero = refl
sum_at-zeros x (v ∷ vs) (suc n) = ap₂ exact_sum (exact_product-zero_left (x v)) (sum_at-zeros x vs n) ∙ exact_sum-zero_right zero_value apart_of-zero

artificial-total : (x : Point) (vs : List ℕ) → IsInLowestTerms (x 0) → total x (vs ++ 0 ∷ []) (replicate (suc (length vs)) zero_value ++ negation one_value ∷ []) ≡ negation (x 0)
artificial-total x vs low =
    let own = negation one_value ⊗ x 0 in
    let reduced = apart_of-product (negation one_value) (x 0) in
    ap (λ s. zero_value ⊕ s) (last_columns x vs (replicate (suc (length vs)) zero_value) (negation one_value) (length-replicate (suc (length vs)) zero_value) ∙ ap (λ s. s ⊕ own) (sum_at-zeros x vs (length vs)) ∙ exact_sum-zero_left own reduced)
    ∙ exact_sum-zero_left own reduced ∙ exact_product-negation_left one_value (x 0) ∙ ap negation (exact_product-one_left (x 0) low)

pub artificial-phase_one : (d : Dictionary) → IsInShape d → IsPhaseOne (with_artificial d)
unfolding with_artificial
artificial-phase_one d shape = record {
  is_negation = λ x s.
      ap (λ n. Some (total x (d.nonbasic ++ 0 ∷ []) (replicate n zero_value ++ negation one_value ∷ []))) shape.objective_entries
      ∙ ap Some (artificial-total x d.nonbasic (s.reduced 0));
}

-- ---- a point without the artificial variable

put-all : (P : Fraction → Type 0) (x : Point) (v : ℕ) → P zero_value → P (x v) → P (without_artificial_value x v)
put-all P x v none own = of_cond (v == 0)
  where
    of_cond : (b : Bool) → P (cond b zero_value (x v))
    of_cond true = none
    of_cond false = own

put-other : (x : Point) (v : ℕ) → v ≢ 0 → without_artificial_value x v ≡ x v
put-other x v other = ap (λ b. cond b zero_value (x v)) (ne_eqb v 0 other)

sum_at-same : (x y : Point) (vs : List ℕ) (coefs : List Fraction) → ((k : ℕ) → k < length vs → x (slice_index vs k) ≡ y (slice_index vs k)) → sum_at x vs coefs ≡ sum_at y vs coefs
sum_at-same x y [] coefs same = refl
sum_at-same x y (v ∷ vs) [] same = refl
sum_at-same x y (v ∷ vs) (a ∷ coefs) same = ap₂ (λ p s. a ⊗ p ⊕ s) (same 0 (omega arith)) (sum_at-same x y vs coefs (λ k within. same (suc k) (omega (arith, within))))

pub put-feasible : (d : Dictionary) (x : Point) → IsInShape d → All (λ v. v ≢ 0) (d.basic ++ d.nonbasic) → IsFeasible d x → IsFeasible d (without_artificial_value x)
put-feasible d x shape others feasible =
    let y = without_artificial_value x in
    let low = feasible.solves.reduced in
    let basic = All-left (λ v. v ≢ 0) d.basic d.nonbasic others in
    let nonbasic = All-right (λ v. v ≢ 0) d.basic d.nonbasic others in
    let same_columns = λ (coefs : List Fraction). sum_at-same y x d.nonbasic coefs (λ k within. put-other x (slice_index d.nonbasic k) (nonbasic k 0 within)) in
    record {
      solves = solves_from_true d y (λ v. put-all IsInLowestTerms x v apart_of-zero (low v))
          (λ i within. put-other x (slice_index d.basic i) (basic i 0 within) ∙ true_from_solves d x feasible.solves i within
          ∙ ap (λ s. entry (slice_index_or d.rows i []) 0 ⊕ minus s) (sym (same_columns (drop 1 (slice_index_or d.rows i [])))));
      at_least_zero = λ v. put-all (IsAtMost zero_value) x v (IsAtMost-self zero_value) (feasible.at_least_zero v);
    }
