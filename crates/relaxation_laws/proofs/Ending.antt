-- Where each end comes, and what it tells of the form.
use Rattle.std.specs.Prelude.{is_some}
use Rattle.std.proofs.Common.{◌≡◌, ◌≢◌, ◌∙◌, ◌⊎◌, ⊎_elim, refl, sym, ap, ap₂, subst, ℕ, zero, suc, ◌+◌, ◌-◌, ◌<◌, ◌≤◌, ◌==◌, Bool, true, false, true≢false, cond, List, [], ◌∷◌, length, map, drop, replicate, slice_index_or, All, Option, Some, None, unwrap_or, arith, nat_lt, ne_eqb}
use Rattle.std.proofs.lemmas.Bool.{cases_lt, le-ltb, lt-ltb}
use Rattle.std.proofs.lemmas.List.{get_or_past, length-replicate}
use Rattle.std.proofs.lemmas.List.Elements.{All-map, All-replicate}
use Rattle.std.proofs.lemmas.List.Folds.{list_any_at}
use Rattle.std.proofs.lemmas.List.Sums.{position_or_len_is}
use Rattle.frac128.specs.Fraction.{Fraction, exact_sum, zero_value}
use Rattle.frac128.specs.Order.{IsAtMost, IsBelow}
use Rattle.frac128.specs.Lowest.{IsInLowestTerms}
use Rattle.frac128.proofs.Field.{apart_of-zero, exact_product-zero_left, exact_sum-zero_right}
use Rattle.frac128.proofs.Ordered.{IsAtMost-negation, IsAtMost-self}
use Rattle.dictionary.specs.declared.standard.Std.{Std}
use Rattle.dictionary.specs.Dictionary.{Dictionary, IsUniform, entry, numbers_from}
use Rattle.dictionary.specs.Rule.{entering_column, is_positive}
use Rattle.dictionary.specs.Solutions.{HasFeasibleConstants, HasNoRise, HasReducedNumbers, IsLawful, IsPhaseOne, RisesFreely, own_point}
use Rattle.dictionary.proofs.Points.Chosen.{at_most_from_not_positive, entering-none, entering-some}
use Rattle.dictionary.proofs.Points.Lawful.{All-left, IsWide}
use Rattle.dictionary.proofs.Points.OwnPoint.{place_of}
use Rattle.dictionary.proofs.Points.PhaseOne.{auxiliary_all}
use Rattle.dictionary.proofs.Points.Turned.{entry-behind}
use Rattle.solve_defs.specs.Columns.{columns_sum}
use Rattle.solve_defs.specs.Ends.{column_of, duals, point_of, structural_count, value_in, value_of, weight_in, weight_of}
use Rattle.solve_defs.specs.Path.{a_pivot, an_end, artificial, awaits_artificial, by_rule, coming, coming_by_rule, is_bounded}
use Rattle.solve_defs.specs.declared.solving.LpEnd.{LpEnd}
use Rattle.solve_defs.specs.declared.solving.LpEnd.TheVariants.{Best, NoPoint, Unbounded}
use Rattle.relaxation_laws.specs.FormEnds.{AreAtLeastZero}
use Rattle.relaxation_laws.specs.FormPoints.{columns_of, form_point}
use Rattle.relaxation_laws.specs.FormWeights.{Prices}
use Rattle.relaxation_laws.specs.Reached.{IsInPhaseOne, IsInPhaseTwo, Phase, Reached, Relaxes, at_opening, in_phase_one, in_phase_two}
use Rattle.relaxation_laws.proofs.Artificial.{w_at}
use Rattle.relaxation_laws.proofs.Bridge.{form_point-objective, form_point-solves}
use Rattle.relaxation_laws.proofs.ByRule.{awaits_none}
use Rattle.relaxation_laws.proofs.FirstStep.{awaits_opening}
use Rattle.relaxation_laws.proofs.Priced.{prices, weight_low}
use Rattle.relaxation_laws.proofs.Steps.{artificial_bounds}

-- ---- which end comes where

-- where an end has come
pub data EndsAt (s : Std) (d : Dictionary) : LpEnd → Type 0 where
  at_best : IsInPhaseTwo d → HasNoRise d.objective → EndsAt s d Best
  at_no_point : (w : List Fraction) → IsInPhaseOne d w → HasNoRise w → EndsAt s d NoPoint
  at_unbounded : (j : ℕ) → IsInPhaseTwo d → entering_column d ≡ Some (suc j) → RisesFreely (suc j) d → EndsAt s d Unbounded

same_end : {end other : LpEnd} → an_end end ≡ an_end other → end ≡ other
same_end e = cc

-- no row bounds
free_rows : (d : Dictionary) (c : ℕ) → is_bounded d c ≡ false → All (λ row. IsAtMost (entry row c) zero_value) d.rows
free_rows d c none k e within = at_most_from_not_positive (entry (slice_index_or d.rows k e) c) (by_test (is_positive (entry (slice_index_or d.rows k e) c)) refl)
  where
    by_test : (b : Bool) → is_positive (entry (slice_index_or d.rows k e) c) ≡ b → b ≡ false
    by_test false same = refl
    by_test true same = absurd (true≢false (sym (list_any_at (λ row. is_positive (entry row c)) d.rows k e within same) ∙ none))

one_end : (s : Std) (d : Dictionary) (w : List Fraction) (end : LpEnd) → IsLawful d → IsInPhaseOne d w → (o : Option ℕ) → entering_column d ≡ o → coming_by_rule d o ≡ an_end end → EndsAt s d end
one_end s d w end lawful h None none comes =
    let is_end : an_end NoPoint ≡ an_end end = sym (ap (λ o. cond (is_some o) (an_end NoPoint) (an_end Best)) h.is_w) ∙ comes in
    subst (EndsAt s d) (same_end is_end) (at_no_point w h (subst (λ o. HasNoRise (unwrap_or o d.objective)) h.is_w ((entering-none d lawful.shape).0 none)))
one_end s d w end lawful h (Some zero) enters comes = absurd (let known = entering-some d zero enters in let above = known.above in omega (arith, above))
one_end s d w end lawful h (Some (suc j)) enters comes =
    let same = lawful.shape.rows in
    let within = h.artificial.within in
    let bounded : is_bounded d (suc j) ≡ true = list_any_at (λ row. is_positive (entry row (suc j))) d.rows h.artificial.place [] (omega (arith, same, within)) (artificial_bounds j d w lawful h enters) in
    let is_pivot : a_pivot (by_rule (suc j)) ≡ an_end end = sym (ap (λ b. cond b (a_pivot (by_rule (suc j))) (an_end Unbounded)) bounded) ∙ comes in
    absurd cc

two_end : (s : Std) (d : Dictionary) (end : LpEnd) → IsLawful d → IsInPhaseTwo d → (o : Option ℕ) → entering_column d ≡ o → coming_by_rule d o ≡ an_end end → EndsAt s d end
two_end s d end lawful h None none comes =
    let is_end : an_end Best ≡ an_end end = sym (ap (λ o. cond (is_some o) (an_end NoPoint) (an_end Best)) h.no_w) ∙ comes in
    subst (EndsAt s d) (same_end is_end) (at_best h (subst (λ o. HasNoRise (unwrap_or o d.objective)) h.no_w ((entering-none d lawful.shape).0 none)))
two_end s d end lawful h (Some zero) enters comes = absurd (let known = entering-some d zero enters in let above = known.above in omega (arith, above))
two_end s d end lawful h (Some (suc j)) enters comes = by_test (is_bounded d (suc j)) refl comes
  where
    by_test : (b : Bool) → is_bounded d (suc j) ≡ b → cond b (a_pivot (by_rule (suc j))) (an_end Unbounded) ≡ an_end end → EndsAt s d end
    by_test true is e = absurd cc
    by_test false is e =
        let known = entering-some d (suc j) enters in
        subst (EndsAt s d) (same_end e) (at_unbounded j h enters record {
          above = omega arith;
          within = known.within;
          rise = subst (λ o. IsBelow zero_value (entry (unwrap_or o d.objective) (suc j))) h.no_w known.rise;
          free = free_rows d (suc j) is;
        })

pub ends_at : (s : Std) (d : Dictionary) (end : LpEnd) → Reached s d → coming d ≡ an_end end → EndsAt s d end
unfolding coming
ends_at s d end reached comes = by_phase reached.phase
  where
    lawful : IsLawful d
    lawful = reached.relaxes.lawful

    ruled : HasFeasibleConstants d → coming_by_rule d (entering_column d) ≡ an_end end
    ruled constants = subst (λ b. cond b (a_pivot artificial) (coming_by_rule d (entering_column d)) ≡ an_end end) (awaits_none d constants) comes

    by_phase : Phase s d → EndsAt s d end
    by_phase (at_opening needed is) =
        let awaits : awaits_artificial d ≡ true = ap awaits_artificial is ∙ awaits_opening s needed in
        let is_pivot : a_pivot artificial ≡ an_end end = subst (λ b. cond b (a_pivot artificial) (coming_by_rule d (entering_column d)) ≡ an_end end) awaits comes in
        absurd cc
    by_phase (in_phase_one w h) = one_end s d w end lawful h (entering_column d) refl (ruled h.constants)
    by_phase (in_phase_two h) = two_end s d end lawful h (entering_column d) refl (ruled h.constants)

-- ---- values and weights as they are read off

pub value_is_own : (d : Dictionary) (v : ℕ) → IsLawful d → value_of d v ≡ own_point d v
value_is_own d v lawful = by_place (place_of d.basic v) (cases_lt (place_of d.basic v) (length d.basic))
  where
    by_place : (p : ℕ) → (p < length d.basic) ⊎ (length d.basic ≤ p) → value_in d (cond (nat_lt p (length d.basic)) (Some p) None) ≡ entry (slice_index_or d.rows p []) 0
    by_place p cases =
        ⊎_elim
        (λ within. ap (λ b. value_in d (cond b (Some p) None)) (lt-ltb p (length d.basic) within) ∙ ap (λ place. entry (slice_index_or d.rows place []) 0) (less p))
        (λ past.
        let same = lawful.shape.rows in
        ap (λ b. value_in d (cond b (Some p) None)) (le-ltb p (length d.basic) past) ∙ sym (ap (λ row. entry row 0) (get_or_past d.rows p [] (omega (arith, past, same)))))
        cases
      where
        less : (n : ℕ) → suc n - 1 ≡ n
        less n = omega arith

pub point_is_own : (s : Std) (d : Dictionary) → Relaxes s d → point_of d ≡ columns_of s (own_point d)
unfolding point_of
point_is_own s d h = (λ i. map (λ v. value_is_own d v h.lawful i) (numbers_from 1 (structural_count d))) ∙ ap (λ n. map (own_point d) (numbers_from 1 n)) h.columns

-- a variable that is not basic is 0
pub own_absent : (d : Dictionary) (u : ℕ) → IsLawful d → All (λ v. v ≢ u) d.basic → own_point d u ≡ zero_value
own_absent d u lawful others =
    let same = lawful.shape.rows in
    let place : place_of d.basic u ≡ length d.basic = position_or_len_is (λ b. b == u) d.basic (length d.basic) 0 (omega arith) (λ k below. ne_eqb _ _ (others k 0 below)) (λ past. absurd (omega (arith, past))) in
    ap (λ p. entry (slice_index_or d.rows p []) 0) place ∙ ap (λ row. entry row 0) (get_or_past d.rows (length d.basic) [] (omega (arith, same)))

pub no_artificial_value : (d : Dictionary) → IsLawful d → IsInPhaseTwo d → own_point d 0 ≡ zero_value
no_artificial_value d lawful h = own_absent d 0 lawful (All-left (λ v. v ≢ 0) d.basic d.nonbasic h.others)

weights_at_least : (d : Dictionary) (row : List Fraction) (vs : List ℕ) → HasNoRise row → All (IsAtMost zero_value) (map (weight_of d row) vs)
weights_at_least d row vs falls = All-map (IsAtMost zero_value) (weight_of d row) vs (λ k e within. of_option (column_of d (slice_index_or vs k e)))
  where
    of_option : (o : Option ℕ) → IsAtMost zero_value (weight_in row o)
    of_option None = IsAtMost-self zero_value
    of_option (Some p) = IsAtMost-negation (entry row (suc p)) zero_value (no_rise row p falls)
      where
        no_rise : (r : List Fraction) (q : ℕ) → HasNoRise r → IsAtMost (entry r (suc q)) zero_value
        no_rise r q low =
            subst (λ a. IsAtMost a zero_value) (entry-behind q r)
            (⊎_elim (λ within. low q zero_value within) (λ past. subst (λ a. IsAtMost a zero_value) (sym (get_or_past (drop 1 r) q zero_value past)) (IsAtMost-self zero_value)) (cases_lt q (length (drop 1 r))))

pub duals_at_least : (d : Dictionary) (row : List Fraction) → All IsInLowestTerms row → HasNoRise row → AreAtLeastZero (duals d row)
duals_at_least d row low falls = record {
  ys = weights_at_least d row (numbers_from (structural_count d + 1) (length d.rows)) falls;
  reduced = weights_at_least d row (numbers_from 1 (structural_count d)) falls;
  ys_lowest = lowest (numbers_from (structural_count d + 1) (length d.rows));
  lowest = lowest (numbers_from 1 (structural_count d));
}
  where
    lowest : (vs : List ℕ) → All IsInLowestTerms (map (weight_of d row) vs)
    lowest vs = All-map IsInLowestTerms (weight_of d row) vs (λ k e within. weight_low d row low (slice_index_or vs k e))

-- ---- z and w by the weights

pub z_prices : (s : Std) (d : Dictionary) → IsUniform s → HasReducedNumbers s → Relaxes s d → Prices s s.constant s.obj (duals d d.objective) (entry d.objective 0)
z_prices s d uniform low h =
    let lawful = h.lawful in
    prices s d d.objective s.constant s.obj uniform low h lawful.shape.objective_entries lawful.reduced.objective low.constant refl low.obj
    (λ ts same low_ts.
    let solves = form_point-solves s ts same low_ts in
    h.objective (form_point s ts) refl ((h.solutions (form_point s ts) refl).1 solves) ∙ form_point-objective s ts same)

none_of : (n : ℕ) (ts : List Fraction) → zero_value ≡ exact_sum zero_value (columns_sum (replicate n zero_value) ts)
none_of n ts = sym (ap (λ t. exact_sum zero_value t) (no_sum n ts) ∙ exact_sum-zero_right zero_value apart_of-zero)
  where
    no_sum : (k : ℕ) (ys : List Fraction) → columns_sum (replicate k zero_value) ys ≡ zero_value
    no_sum zero ys = refl
    no_sum (suc k) [] = refl
    no_sum (suc k) (y ∷ ys) = ap₂ exact_sum (exact_product-zero_left y) (no_sum k ys) ∙ exact_sum-zero_right zero_value apart_of-zero

pub w_prices : (s : Std) (d : Dictionary) (w : List Fraction) → IsUniform s → HasReducedNumbers s → Relaxes s d → IsPhaseOne d → d.auxiliary ≡ Some w
    → Prices s zero_value (replicate (length s.obj) zero_value) (duals d w) (entry w 0)
w_prices s d w uniform low h phase is_w =
    let lawful = h.lawful in
    let zero_low : IsInLowestTerms zero_value = apart_of-zero in
    prices s d w zero_value (replicate (length s.obj) zero_value) uniform low h
    (auxiliary_all (IsWide (length d.nonbasic)) d w lawful.shape.auxiliary_entries is_w) (auxiliary_all (All IsInLowestTerms) d w lawful.reduced.auxiliary is_w)
    zero_low (length-replicate (length s.obj) zero_value) (All-replicate IsInLowestTerms (length s.obj) zero_value zero_low)
    (λ ts same low_ts.
    let solves = form_point-solves s ts same low_ts in
    w_at d w (form_point s ts) phase is_w ((h.solutions (form_point s ts) refl).1 solves) ∙ none_of (length s.obj) ts)
