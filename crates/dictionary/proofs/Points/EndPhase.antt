-- The end of phase one.
use Rattle.std.proofs.Common.{◌≡◌, ◌≢◌, ◌↔◌, ⊎_elim, ◌∙◌, refl, sym, ap, ap₂, subst, ℕ, suc, ◌+◌, ◌-◌, ◌<◌, ◌≤◌, ◌^◌, ◌==◌, true≢false, List, [], ◌∷◌, ◌++◌, length, length-append, map, take, drop, remove, get_or, get_or-append-add, slice_index, slice_index_or, All, AllPairs, Contains, None, arith, eq-eqb, eqb-true}
use Rattle.std.proofs.lemmas.Bool.{cases_lt}
use Rattle.std.proofs.lemmas.List.{get_or-map, get_or_default, length-map}
use Rattle.std.proofs.lemmas.List.Edits.{get_or-remove_above, get_or-remove_below, length-remove, remove-append_right}
use Rattle.std.proofs.lemmas.List.Elements.{All-append, All-drop, All-map, All-take, All-weaker}
use Rattle.std.proofs.lemmas.List.Quantifiers.{all_pairs_remove}
use Rattle.std.proofs.lemmas.List.Sums.{fails_before_first, passes_at_first}
use Rattle.frac128.specs.Fraction.{Fraction, zero_value}
use Rattle.frac128.specs.Order.{IsAtMost}
use Rattle.frac128.proofs.Field.{apart_of-sum, exact_product-zero_right, exact_sum-zero_right}
use Rattle.dictionary.specs.Dictionary.{Dictionary, IsInShape, end_phase_one, entry}
use Rattle.dictionary.specs.Solutions.{HasFeasibleConstants, HasNoArtificial, HasReducedEntries, IsLawful, Point, Solves, objective_at, sum_at}
use Rattle.frac128.specs.Lowest.{IsInLowestTerms}
use Rattle.dictionary.proofs.Points.Lawful.{IsWide}
use Rattle.dictionary.proofs.Points.OwnPoint.{place_of}
use Rattle.dictionary.proofs.Points.PhaseOne.{row_shape}
use Rattle.dictionary.proofs.Points.PivotLaw.{solves_from_true, true_from_solves}
use Rattle.dictionary.proofs.Points.ExactPivot.{less_one}
use Rattle.dictionary.proofs.Points.Sums.{sum_at-append}
use Rattle.frac128.proofs.Sums.{minus, ◌⊕◌, ◌⊗◌}
use Rattle.dictionary.proofs.Points.Turned.{rest, same_front, sum_at-place, told}

-- ---- the artificial variable's place

abbrev pub place : Dictionary → ℕ
place d = place_of d.nonbasic 0

pub place-within : (d : Dictionary) → Contains d.nonbasic 0 → place d < length d.nonbasic
place-within d found =
    ⊎_elim (λ within. within)
    (λ past. let within = found.1 in absurd (true≢false (sym (eq-eqb _ _ found.2) ∙ fails_before_first (λ v. v == 0) d.nonbasic found.0 0 (omega (arith, past, within)))))
    (cases_lt (place d) (length d.nonbasic))

place-is : (d : Dictionary) → Contains d.nonbasic 0 → slice_index d.nonbasic (place d) ≡ 0
place-is d found = eqb-true _ _ (passes_at_first (λ v. v == 0) d.nonbasic 0 (place-within d found))

-- ---- a column that adds nothing

removed_columns : (x : Point) (p : ℕ) (vs : List ℕ) (row : List Fraction) → p < length vs → IsWide (length vs) row → x (slice_index vs p) ≡ zero_value → sum_at x (remove vs p) (drop 1 (remove row (suc p))) ≡ sum_at x vs (drop 1 row)
removed_columns x p vs [] within wide none = absurd (omega (arith, wide))
removed_columns x p vs (k ∷ entries) within wide none =
    let same : length entries ≡ length vs = omega (arith, wide) in
    sum_at-append x (take p vs) (drop (suc p) vs) (take p entries) (drop (suc p) entries) (same_front p entries vs within same)
    ∙ sym (sum_at-place x p vs entries within same ∙ ap (λ s. rest x p vs entries ⊕ s) (ap (λ y. entry entries p ⊗ y) none ∙ exact_product-zero_right (entry entries p))
    ∙ exact_sum-zero_right (rest x p vs entries) (apart_of-sum (sum_at x (take p vs) (take p entries)) (sum_at x (drop (suc p) vs) (drop (suc p) entries))))

same_constant : (n p : ℕ) (row : List Fraction) → IsWide n row → entry (remove row (suc p)) 0 ≡ entry row 0
same_constant n p [] wide = refl
same_constant n p (k ∷ entries) wide = refl

-- without the column of the place
unfoldable pub without_column : ℕ → Dictionary → Dictionary
without_column p d = record {
  basic = d.basic;
  nonbasic = remove d.nonbasic p;
  rows = map (λ row. remove row (suc p)) d.rows;
  objective = remove d.objective (suc p);
  auxiliary = None;
}

pub ended : (d : Dictionary) → end_phase_one d ≡ without_column (place d) d
unfolding end_phase_one without_column
ended d = ap (λ p. let e : Dictionary = record { basic = d.basic; nonbasic = remove d.nonbasic p; rows = map (λ row. remove row (suc (place d))) d.rows; objective = remove d.objective (suc (place d)); auxiliary = None } in e) (less_one (place d))

told_removed : (d : Dictionary) (x : Point) (p i : ℕ) → IsInShape d → p < length d.nonbasic → x (slice_index d.nonbasic p) ≡ zero_value → i < length d.basic
    → told x (remove d.nonbasic p) (slice_index_or (map (λ row. remove row (suc p)) d.rows) i []) ≡ told x d.nonbasic (slice_index_or d.rows i [])
told_removed d x p i shape within none below =
    let same = shape.rows in
    let row = slice_index_or d.rows i [] in
    let wide = row_shape d i shape below in
    ap (told x (remove d.nonbasic p)) (get_or-map (λ r. remove r (suc p)) d.rows i [] [] (omega (arith, same, below)))
    ∙ ap₂ (λ k s. k ⊕ minus s) (same_constant (length d.nonbasic) p row wide) (removed_columns x p d.nonbasic row within wide none)

solutions_without : (d : Dictionary) (x : Point) (p : ℕ) → IsInShape d → p < length d.nonbasic → x (slice_index d.nonbasic p) ≡ zero_value → Solves (without_column p d) x ↔ Solves d x
unfolding without_column
solutions_without d x p shape within none = (
  λ s. solves_from_true d x s.reduced (λ i below. true_from_solves (without_column p d) x s i below ∙ told_removed d x p i shape within none below),
  λ s. solves_from_true (without_column p d) x s.reduced (λ i below. true_from_solves d x s i below ∙ sym (told_removed d x p i shape within none below)),
)

objective_without : (d : Dictionary) (x : Point) (p : ℕ) → IsInShape d → p < length d.nonbasic → x (slice_index d.nonbasic p) ≡ zero_value → objective_at (without_column p d) x ≡ objective_at d x
unfolding without_column
objective_without d x p shape within none =
    ap₂ (λ k s. k ⊕ s) (same_constant (length d.nonbasic) p d.objective shape.objective_entries) (removed_columns x p d.nonbasic d.objective within shape.objective_entries none)

-- ---- what is kept

removed_wide : (p : ℕ) (vs : List ℕ) (row : List Fraction) → p < length vs → IsWide (length vs) row → IsWide (length (remove vs p)) (remove row (suc p))
removed_wide p vs row within wide = omega (arith, wide, within, length-remove vs p within, length-remove row (suc p) (omega (arith, wide, within)))

shape_without : (d : Dictionary) (p : ℕ) → IsInShape d → p < length d.nonbasic → IsInShape (without_column p d)
unfolding without_column
shape_without d p shape within =
    let n = length d.nonbasic in
    let limit = shape.column_limit in
    record {
      rows = length-map d.rows (λ row. remove row (suc p)) ∙ shape.rows;
      row_entries = All-map (IsWide (length (remove d.nonbasic p))) (λ row. remove row (suc p)) d.rows (All-weaker (IsWide n) (λ row. IsWide (length (remove d.nonbasic p)) (remove row (suc p))) (λ row wide. removed_wide p d.nonbasic row within wide) d.rows shape.row_entries);
      objective_entries = removed_wide p d.nonbasic d.objective within shape.objective_entries;
      auxiliary_entries = tt;
      row_limit = shape.row_limit;
      column_limit = fewer (length (remove d.nonbasic p)) n (length-remove d.nonbasic p within) limit;
    }
  where
    fewer : (m k : ℕ) → m + 1 ≡ k → k ≤ 2 ^ 31 → m ≤ 2 ^ 31
    fewer m k e h = omega (arith, e, h)

All-remove : (P : Fraction → Type 0) (row : List Fraction) (c : ℕ) → All P row → All P (remove row c)
All-remove P row c all = All-append P (take c row) (drop (suc c) row) (All-take P c row all) (All-drop P (suc c) row all)

reduced_without : (d : Dictionary) (p : ℕ) → HasReducedEntries d → HasReducedEntries (without_column p d)
unfolding without_column
reduced_without d p low = record {
  rows = All-map (All IsInLowestTerms) (λ row. remove row (suc p)) d.rows (All-weaker (All IsInLowestTerms) (λ row. All IsInLowestTerms (remove row (suc p))) (λ row all. All-remove IsInLowestTerms row (suc p) all) d.rows low.rows);
  objective = All-remove IsInLowestTerms d.objective (suc p) low.objective;
  auxiliary = tt;
}

removed_variables : (p : ℕ) (basic nonbasic : List ℕ) → remove (basic ++ nonbasic) (length basic + p) ≡ basic ++ remove nonbasic p
removed_variables p basic nonbasic =
    remove-append_right basic nonbasic (length basic) (length basic + p) refl (omega arith) ∙ ap (λ q. basic ++ remove nonbasic q) (behind (length basic) p)
  where
    behind : (m k : ℕ) → m + k - m ≡ k
    behind m k = omega arith

lawful_without : (d : Dictionary) (p : ℕ) → IsLawful d → p < length d.nonbasic → IsLawful (without_column p d)
unfolding without_column
lawful_without d p lawful within = record {
  shape = shape_without d p lawful.shape within;
  reduced = reduced_without d p lawful.reduced;
  distinct = subst (AllPairs (λ v w. v ≢ w)) (removed_variables p d.basic d.nonbasic) (all_pairs_remove (λ v w. v ≢ w) (d.basic ++ d.nonbasic) (length d.basic + p) (omega (arith, within, length-append d.basic d.nonbasic)) lawful.distinct);
}

-- none of the others is the one that is removed
others_without : (xs : List ℕ) (m : ℕ) → m < length xs → AllPairs (λ v w. v ≢ w) xs → slice_index xs m ≡ 0 → All (λ v. v ≢ 0) (remove xs m)
others_without xs m within distinct is k d below same =
    let long : k + 1 < length xs = omega (arith, below, length-remove xs m within) in
    let own : get_or xs m d ≡ 0 = get_or_default xs m d 0 within ∙ is in
    ⊎_elim
    (λ before. distinct k m d before within (sym (get_or-remove_below xs m d k before within) ∙ same ∙ sym own))
    (λ behind. distinct m (k + 1) d (omega (arith, behind)) long (own ∙ sym same ∙ get_or-remove_above xs m d k behind within))
    (cases_lt k m)

none_without : (d : Dictionary) (p : ℕ) → IsLawful d → p < length d.nonbasic → slice_index d.nonbasic p ≡ 0 → HasNoArtificial (without_column p d)
unfolding without_column
none_without d p lawful within is =
    subst (All (λ v. v ≢ 0)) (removed_variables p d.basic d.nonbasic)
    (others_without (d.basic ++ d.nonbasic) (length d.basic + p) (omega (arith, within, length-append d.basic d.nonbasic)) lawful.distinct (get_or-append-add d.basic d.nonbasic p 0 ∙ is))

feasible_without : (d : Dictionary) (p : ℕ) → IsLawful d → HasFeasibleConstants d → HasFeasibleConstants (without_column p d)
unfolding without_column
feasible_without d p lawful constants =
    All-map (λ row. IsAtMost zero_value (entry row 0)) (λ row. remove row (suc p)) d.rows
    (λ k e below. subst (IsAtMost zero_value) (sym (same_constant (length d.nonbasic) p (slice_index_or d.rows k e) (lawful.shape.row_entries k e below))) (constants k e below))

-- ---- the end of phase one

pub end-solutions : (d : Dictionary) (x : Point) → IsLawful d → Contains d.nonbasic 0 → x 0 ≡ zero_value → Solves (end_phase_one d) x ↔ Solves d x
end-solutions d x lawful found none =
    subst (λ e. Solves e x ↔ Solves d x) (sym (ended d)) (solutions_without d x (place d) lawful.shape (place-within d found) (ap x (place-is d found) ∙ none))

pub end-objective : (d : Dictionary) (x : Point) → IsLawful d → Contains d.nonbasic 0 → x 0 ≡ zero_value → objective_at (end_phase_one d) x ≡ objective_at d x
end-objective d x lawful found none =
    ap (λ e. objective_at e x) (ended d) ∙ objective_without d x (place d) lawful.shape (place-within d found) (ap x (place-is d found) ∙ none)

pub end-lawful : (d : Dictionary) → IsLawful d → Contains d.nonbasic 0 → IsLawful (end_phase_one d)
end-lawful d lawful found = subst IsLawful (sym (ended d)) (lawful_without d (place d) lawful (place-within d found))

pub end-none : (d : Dictionary) → IsLawful d → Contains d.nonbasic 0 → HasNoArtificial (end_phase_one d)
end-none d lawful found = subst HasNoArtificial (sym (ended d)) (none_without d (place d) lawful (place-within d found) (place-is d found))

pub end-feasible : (d : Dictionary) → IsLawful d → HasFeasibleConstants d → HasFeasibleConstants (end_phase_one d)
end-feasible d lawful constants = subst HasFeasibleConstants (sym (ended d)) (feasible_without d (place d) lawful constants)
