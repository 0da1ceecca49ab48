-- The direction of an unbounded end keeps each row and each column, and the objective rises along it.
use Rattle.std.proofs.Common.{◌≡◌, ◌∙◌, ◌⊎◌, ⊎_elim, refl, sym, ap, ap₂, subst, ℕ, suc, ◌+◌, ◌-◌, ◌<◌, ◌≤◌, ◌==◌, cond, List, [], ◌∷◌, length, map, slice_index, slice_index_or, All, Some, None, unwrap_or, arith, nat_lt, eq-eqb, ne_eqb, get_or}
use Rattle.std.proofs.lemmas.Bool.{cases_eq, cases_lt, le-ltb, lt-ltb}
use Rattle.std.proofs.lemmas.Int.{ints}
use Rattle.std.proofs.lemmas.List.{get_or_past, length-map}
use Rattle.std.proofs.lemmas.List.Elements.{All-from_get_or, All-get_or, All-map}
use Rattle.frac128.specs.Fraction.{Fraction, negation, one_value, zero_value}
use Rattle.frac128.specs.Order.{IsAtMost, IsBelow}
use Rattle.frac128.specs.Lowest.{IsInLowestTerms}
use Rattle.frac128.proofs.Field.{apart_of-one, apart_of-zero, exact_product-one_right, exact_product-sum_right, exact_sum-zero_left, exact_sum_assoc, negation-negation, negation-sum}
use Rattle.frac128.proofs.Kept.{IsKept-one}
use Rattle.frac128.proofs.Ordered.{IsAtMost-negation, IsAtMost-self}
use Rattle.frac128.proofs.Sums.{interchange, minus, minus_is, no_zeros, sum-minus, sums, ◌⊕◌, ◌⊗◌}
use Rattle.dictionary.specs.declared.standard.Std.{Std}
use Rattle.dictionary.specs.declared.standard.StdRow.{StdRow}
use Rattle.dictionary.specs.Dictionary.{Dictionary, entry, numbers_from}
use Rattle.dictionary.specs.Rule.{entering_column}
use Rattle.dictionary.specs.Solutions.{HasReducedNumbers, IsLawful, RisesFreely, own_point}
use Rattle.dictionary.proofs.Opened.{length-numbers_from}
use Rattle.dictionary.proofs.Points.FreeRise.{along, along-absent, along-columns, along-own, along-solves, row_along}
use Rattle.dictionary.proofs.Points.OwnPoint.{own_point-nonbasic, own_point-solves, own_point-value, place_of}
use Rattle.solve_defs.specs.Columns.{IsColumnsPoint, columns_sum}
use Rattle.solve_defs.specs.Ends.{basic_row, point_of, ray_of, rise_in, rise_of}
use Rattle.solve_defs.proofs.FormSums.{columns_sum_low}
use Rattle.solve_defs.proofs.FormBounds.{low_negation}
use Rattle.relaxation_laws.specs.FormEnds.{IsStdRay}
use Rattle.relaxation_laws.specs.FormPoints.{columns_of}
use Rattle.relaxation_laws.specs.Reached.{IsInPhaseTwo, Relaxes}
use Rattle.relaxation_laws.proofs.Bridge.{solution_rows}
use Rattle.relaxation_laws.proofs.Ending.{no_artificial_value}
use Rattle.relaxation_laws.proofs.FormEnds.{point_allowed, value_back}

-- ---- how each variable rises

-- an entry that is there is in lowest terms, and 0 where there is none
entry_low : (d : Dictionary) (p c : ℕ) → IsLawful d → IsInLowestTerms (entry (slice_index_or d.rows p []) c)
entry_low d p c lawful =
    ⊎_elim
    (λ within. let low = lawful.reduced.rows p [] within in
    ⊎_elim (λ inside. low c zero_value inside) (λ past. subst IsInLowestTerms (sym (get_or_past (slice_index_or d.rows p []) c zero_value past)) zero_low) (cases_lt c (length (slice_index_or d.rows p []))))
    (λ past. subst (λ row. IsInLowestTerms (entry row c)) (sym (get_or_past d.rows p [] past)) zero_low)
    (cases_lt p (length d.rows))
  where
    zero_low : IsInLowestTerms zero_value
    zero_low = apart_of-zero

rise_in_is : (d : Dictionary) (j v : ℕ) → IsLawful d → rise_in d (suc j) (basic_row d v) ≡ negation (entry (slice_index_or d.rows (place_of d.basic v) []) (suc j))
rise_in_is d j v lawful = by_place (place_of d.basic v) (cases_lt (place_of d.basic v) (length d.basic))
  where
    less : (n : ℕ) → suc n - 1 ≡ n
    less n = omega arith

    by_place : (p : ℕ) → (p < length d.basic) ⊎ (length d.basic ≤ p) → rise_in d (suc j) (cond (nat_lt p (length d.basic)) (Some p) None) ≡ negation (entry (slice_index_or d.rows p []) (suc j))
    by_place p cases =
        ⊎_elim
        (λ within. ap (λ b. rise_in d (suc j) (cond b (Some p) None)) (lt-ltb p (length d.basic) within) ∙ ap (λ place. negation (entry (slice_index_or d.rows place []) (suc j))) (less p))
        (λ past.
        let same = lawful.shape.rows in
        ap (λ b. rise_in d (suc j) (cond b (Some p) None)) (le-ltb p (length d.basic) past) ∙ sym (ap (λ row. negation (entry row (suc j))) (get_or_past d.rows p [] (omega (arith, past, same)))))
        cases

rise_own : (d : Dictionary) (j : ℕ) → rise_of d (suc j) (slice_index d.nonbasic j) ≡ one_value
rise_own d j =
    ap (λ k. cond (slice_index d.nonbasic k == slice_index d.nonbasic j) one_value (rise_in d (suc j) (basic_row d (slice_index d.nonbasic j)))) (less j)
    ∙ ap (λ b. cond b one_value (rise_in d (suc j) (basic_row d (slice_index d.nonbasic j)))) (eq-eqb (slice_index d.nonbasic j) (slice_index d.nonbasic j) refl)
  where
    less : (n : ℕ) → suc n - 1 ≡ n
    less n = omega arith

rise_other : (d : Dictionary) (j v : ℕ) → IsLawful d → (v ≡ slice_index d.nonbasic j → ⊥) → rise_of d (suc j) v ≡ negation (entry (slice_index_or d.rows (place_of d.basic v) []) (suc j))
rise_other d j v lawful other =
    ap (λ k. cond (slice_index d.nonbasic k == v) one_value (rise_in d (suc j) (basic_row d v))) (less j)
    ∙ ap (λ b. cond b one_value (rise_in d (suc j) (basic_row d v))) (ne_eqb (slice_index d.nonbasic j) v (λ e. other (sym e))) ∙ rise_in_is d j v lawful
  where
    less : (n : ℕ) → suc n - 1 ≡ n
    less n = omega arith

-- the point along the column is the own point and the direction
along_is : (d : Dictionary) (j v : ℕ) → IsLawful d → j < length d.nonbasic → along j one_value d v ≡ own_point d v ⊕ rise_of d (suc j) v
along_is d j v lawful within =
    ⊎_elim
    (λ same. subst (λ u. along j one_value d u ≡ own_point d u ⊕ rise_of d (suc j) u) (sym same)
    (along-own j one_value d ∙ sym (ap₂ (λ p q. p ⊕ q) (own_point-nonbasic d j lawful within) (rise_own d j) ∙ exact_sum-zero_left one_value IsKept-one.nothing_in_common)))
    (λ other.
    let row = slice_index_or d.rows (place_of d.basic v) [] in
    let low = entry_low d (place_of d.basic v) (suc j) lawful in
    ap (λ b. cond b one_value (row_along j one_value row)) (ne_eqb v (slice_index d.nonbasic j) other)
    ∙ ap (λ t. entry row 0 ⊕ t) (ap minus (exact_product-one_right (entry row (suc j)) low) ∙ minus_is (entry row (suc j)) ∙ sym (rise_other d j v lawful other)))
    (cases_eq v (slice_index d.nonbasic j))

rise_at_least : (d : Dictionary) (j v : ℕ) → IsLawful d → RisesFreely (suc j) d → IsAtMost zero_value (rise_of d (suc j) v)
rise_at_least d j v lawful free =
    ⊎_elim
    (λ same. subst (λ u. IsAtMost zero_value (rise_of d (suc j) u)) (sym same) (subst (IsAtMost zero_value) (sym (rise_own d j)) record { at_most = omega (arith, ints) }))
    (λ other. subst (IsAtMost zero_value) (sym (rise_other d j v lawful other))
    (IsAtMost-negation (entry (slice_index_or d.rows (place_of d.basic v) []) (suc j)) zero_value
    (⊎_elim (λ within. All-get_or (λ row. IsAtMost (entry row (suc j)) zero_value) d.rows (place_of d.basic v) [] within free.free)
    (λ past. subst (λ row. IsAtMost (entry row (suc j)) zero_value) (sym (get_or_past d.rows (place_of d.basic v) [] past)) (IsAtMost-self zero_value)) (cases_lt (place_of d.basic v) (length d.rows)))))
    (cases_eq v (slice_index d.nonbasic j))

rise_low : (d : Dictionary) (j v : ℕ) → IsLawful d → IsInLowestTerms (rise_of d (suc j) v)
rise_low d j v lawful =
    ⊎_elim
    (λ same. subst (λ u. IsInLowestTerms (rise_of d (suc j) u)) (sym same) (subst IsInLowestTerms (sym (rise_own d j)) apart_of-one))
    (λ other. subst IsInLowestTerms (sym (rise_other d j v lawful other)) (low_negation _ (entry_low d (place_of d.basic v) (suc j) lawful)))
    (cases_eq v (slice_index d.nonbasic j))

-- ---- sums along it

columns_sum-plus : (coefs : List Fraction) (f g : ℕ → Fraction) (vs : List ℕ) → columns_sum coefs (map (λ v. f v ⊕ g v) vs) ≡ columns_sum coefs (map f vs) ⊕ columns_sum coefs (map g vs)
columns_sum-plus [] f g vs = no_zeros
columns_sum-plus (a ∷ coefs) f g [] = no_zeros
columns_sum-plus (a ∷ coefs) f g (v ∷ vs) =
    ap₂ (λ p q. p ⊕ q) (exact_product-sum_right a (f v) (g v)) (columns_sum-plus coefs f g vs) ∙ interchange (a ⊗ f v) (a ⊗ g v) (columns_sum coefs (map f vs)) (columns_sum coefs (map g vs))

sum_along : (s : Std) (d : Dictionary) (j : ℕ) (coefs : List Fraction) → IsLawful d → j < length d.nonbasic
    → columns_sum coefs (columns_of s (along j one_value d)) ≡ columns_sum coefs (columns_of s (own_point d)) ⊕ columns_sum coefs (columns_of s (rise_of d (suc j)))
sum_along s d j coefs lawful within =
    (λ i. columns_sum coefs (map (λ v. along_is d j v lawful within i) (numbers_from 1 (length s.obj)))) ∙ columns_sum-plus coefs (own_point d) (rise_of d (suc j)) (numbers_from 1 (length s.obj))

cancel : (p a b : Fraction) → IsInLowestTerms a → IsInLowestTerms b → p ⊕ a ≡ p ⊕ b → a ≡ b
cancel p a b low_a low_b same = sym (taken a low_a) ∙ ap (λ s. minus p ⊕ s) same ∙ taken b low_b
  where
    taken : (q : Fraction) → IsInLowestTerms q → minus p ⊕ (p ⊕ q) ≡ q
    taken q low = turned p q ∙ ap (λ s. s ⊕ q) (sum-minus p) ∙ exact_sum-zero_left q low
      where
        turned : (r t : Fraction) → minus r ⊕ (r ⊕ t) ≡ (r ⊕ minus r) ⊕ t
        turned r t = simp sums

-- a row's sum along the direction is what its slack rises by, negated
row_sum : (s : Std) (d : Dictionary) (j i : ℕ) (row : StdRow) → Relaxes s d → IsInPhaseTwo d → j < length d.nonbasic → i < length s.rows
    → columns_sum (get_or s.rows i row).coefs (columns_of s (rise_of d (suc j))) ≡ negation (rise_of d (suc j) (suc (length s.obj) + i))
row_sum s d j i row h phase column_within within =
    let lawful = h.lawful in
    let v = suc (length s.obj) + i in
    let here = get_or s.rows i row in
    let a = columns_sum here.coefs (columns_of s (own_point d)) in
    let b = columns_sum here.coefs (columns_of s (rise_of d (suc j))) in
    let low_b = columns_sum_low here.coefs (columns_of s (rise_of d (suc j))) in
    let rise = rise_of d (suc j) v in
    let reduced = rise_low d j v lawful in
    let there = along j one_value d in
    let none = along-absent j one_value d lawful column_within phase.others in
    let after : there v ≡ here.rhs ⊕ negation (a ⊕ b) = solution_rows s there i row ((h.solutions there none).0 (along-solves j one_value d lawful column_within apart_of-one)) within ∙ ap (λ t. here.rhs ⊕ negation t) (sum_along s d j here.coefs lawful column_within) in
    let before : own_point d v ≡ here.rhs ⊕ negation a = solution_rows s (own_point d) i row ((h.solutions (own_point d) (no_artificial_value d lawful phase)).0 (own_point-solves d lawful)) within in
    let both : (here.rhs ⊕ negation a) ⊕ negation b ≡ (here.rhs ⊕ negation a) ⊕ rise =
    exact_sum_assoc here.rhs (negation a) (negation b) ∙ ap (λ t. here.rhs ⊕ t) (sym (negation-sum a b)) ∙ sym after ∙ along_is d j v lawful column_within ∙ ap (λ t. t ⊕ rise) before in
    sym (negation-negation b) ∙ ap negation (cancel (here.rhs ⊕ negation a) (negation b) rise (low_negation b low_b) reduced both)

objective_sum : (s : Std) (d : Dictionary) (j : ℕ) → Relaxes s d → IsInPhaseTwo d → j < length d.nonbasic → columns_sum s.obj (columns_of s (rise_of d (suc j))) ≡ entry d.objective (suc j)
objective_sum s d j h phase within =
    let lawful = h.lawful in
    let there = along j one_value d in
    let a = columns_sum s.obj (columns_of s (own_point d)) in
    let b = columns_sum s.obj (columns_of s (rise_of d (suc j))) in
    let z = entry d.objective 0 in
    let c = entry d.objective (suc j) in
    let wide = lawful.shape.objective_entries in
    let low_c : IsInLowestTerms c = lawful.reduced.objective (suc j) zero_value (omega (arith, wide, within)) in
    let none = along-absent j one_value d lawful within phase.others in
    let solves = along-solves j one_value d lawful within apart_of-one in
    let after : s.constant ⊕ (a ⊕ b) ≡ z ⊕ c =
    ap (λ t. s.constant ⊕ t) (sym (sum_along s d j s.obj lawful within)) ∙ value_back s d there h none solves
    ∙ ap (λ t. z ⊕ t) (along-columns j one_value d d.objective lawful within wide ∙ exact_product-one_right c low_c) in
    let before : s.constant ⊕ a ≡ z = value_back s d (own_point d) h (no_artificial_value d lawful phase) (own_point-solves d lawful) ∙ own_point-value d lawful in
    cancel z b c (columns_sum_low s.obj (columns_of s (rise_of d (suc j)))) low_c (ap (λ t. t ⊕ b) (sym before) ∙ exact_sum_assoc s.constant a b ∙ after)

ray_is : (s : Std) (d : Dictionary) (j : ℕ) → Relaxes s d → entering_column d ≡ Some (suc j) → (ray_of d).ray ≡ columns_of s (rise_of d (suc j))
unfolding ray_of
ray_is s d j h enters = ap₂ (λ o n. map (rise_of d (unwrap_or o 0)) (numbers_from 1 n)) enters h.columns

ray_point : (d : Dictionary) → (ray_of d).point ≡ point_of d
unfolding ray_of
ray_point d = refl

pub ray_rises : (s : Std) (d : Dictionary) (j : ℕ) → HasReducedNumbers s → Relaxes s d → IsInPhaseTwo d → entering_column d ≡ Some (suc j) → RisesFreely (suc j) d → IsStdRay s (ray_of d)
ray_rises s d j low h phase enters free =
    let lawful = h.lawful in
    let bound = free.within in
    let within : j < length d.nonbasic = omega (arith, bound) in
    let ray = ray_is s d j h enters in
    let row : StdRow = record { coefs = []; rhs = zero_value } in
    record {
      allowed = subst (IsColumnsPoint s) (sym (ray_point d)) (point_allowed s d low h phase);
      columns = ap length ray ∙ length-map (numbers_from 1 (length s.obj)) (rise_of d (suc j)) ∙ length-numbers_from 1 (length s.obj);
      lowest = subst (All IsInLowestTerms) (sym ray) (All-map IsInLowestTerms (rise_of d (suc j)) (numbers_from 1 (length s.obj)) (λ k e below. rise_low d j (slice_index_or (numbers_from 1 (length s.obj)) k e) lawful));
      at_least_zero = subst (All (IsAtMost zero_value)) (sym ray) (All-map (IsAtMost zero_value) (rise_of d (suc j)) (numbers_from 1 (length s.obj)) (λ k e below. rise_at_least d j (slice_index_or (numbers_from 1 (length s.obj)) k e) lawful free));
      rows = subst (λ ys. All (λ r. IsAtMost (columns_sum r.coefs ys) zero_value) s.rows) (sym ray)
          (All-from_get_or (λ r. IsAtMost (columns_sum r.coefs (columns_of s (rise_of d (suc j)))) zero_value) s.rows row
          (λ i inside. subst (λ t. IsAtMost t zero_value) (sym (row_sum s d j i row h phase within inside)) (IsAtMost-negation zero_value (rise_of d (suc j) (suc (length s.obj) + i)) (rise_at_least d j (suc (length s.obj) + i) lawful free))));
      rises = subst (λ ys. IsBelow zero_value (columns_sum s.obj ys)) (sym ray) (subst (IsBelow zero_value) (sym (objective_sum s d j h phase within)) free.rise);
    }
