-- The dictionary at the start.
use Rattle.std.proofs.Common.{◌≡◌, ◌≢◌, ⊎_elim, ◌∙◌, refl, sym, ap, subst, subst₂, ℕ, zero, suc, ◌+◌, ◌-◌, ◌^◌, ◌<◌, ◌≤◌, ◌||◌, Bool, true, false, true≢false, cond, ℤ, pos, negsuc, ◌*ℤ◌, List, [], ◌∷◌, ◌++◌, append_assoc, length, length-append, replicate, get_or, slice_index_or, All, AllPairs, arith}
use Rattle.std.specs.Prelude.{◌≤ℤ◌}
use Rattle.std.specs.List.{list_any}
use Rattle.std.proofs.lemmas.Int.{ints}
use Rattle.std.proofs.lemmas.Bool.{cases_lt}
use Rattle.std.proofs.lemmas.List.{get_or-append_right, get_or_append_left, length-map, length-replicate}
use Rattle.std.proofs.lemmas.List.Elements.{All-append, All-cons, All-map, All-nil, All-replicate, All-weaker}
use Rattle.std.proofs.lemmas.List.Quantifiers.{all_pairs_push}
use Rattle.frac128.specs.Fraction.{Fraction, den, negation, one_value, zero_value}
use Rattle.frac128.specs.Numbers.{is_below_zero}
use Rattle.frac128.specs.Order.{IsAtMost}
use Rattle.frac128.proofs.Kept.{IsKept-negation, IsKept-one}
use Rattle.dictionary.specs.declared.standard.Std.{Std}
use Rattle.dictionary.specs.declared.standard.StdRow.{StdRow}
use Rattle.dictionary.specs.Dictionary.{Dictionary, IsInShape, IsUniform, entry, is_negative, needs_phase_one, numbers_from, opening, with_artificial, without_artificial}
use Rattle.dictionary.specs.Solutions.{HasFeasibleConstants, HasNoArtificial, HasReducedNumbers, IsLawful, IsPhaseOne}
use Rattle.frac128.specs.Lowest.{IsInLowestTerms}
use Rattle.dictionary.proofs.Points.Lawful.{AllLines, IsWide}
use Rattle.dictionary.proofs.Points.PhaseOne.{artificial-phase_one}
use Rattle.frac128.proofs.Field.{apart_of-zero}
use Rattle.dictionary.proofs.Opened.{length-numbers_from}

-- ---- numbers in a row

pub get_or-numbers_from : (first count i d : ℕ) → i < count → get_or (numbers_from first count) i d ≡ first + i
get_or-numbers_from first zero i d within = absurd (omega (arith, within))
get_or-numbers_from first (suc count) zero d within = omega arith
get_or-numbers_from first (suc count) (suc i) d within = get_or-numbers_from (suc first) count i d (omega (arith, within)) ∙ omega arith

distinct-numbers_from : (first count : ℕ) → AllPairs (λ v w. v ≢ w) (numbers_from first count)
distinct-numbers_from first count i j d below within same =
    let long : j < count = omega (arith, within, length-numbers_from first count) in
    omega (arith, below, same, get_or-numbers_from first count i d (omega (arith, below, long)), get_or-numbers_from first count j d long)

-- two lists of distinct numbers with none in common
distinct-append : (xs ys : List ℕ) → AllPairs (λ v w. v ≢ w) xs → AllPairs (λ v w. v ≢ w) ys
    → ((i j d : ℕ) → i < length xs → j < length ys → get_or xs i d ≢ get_or ys j d) → AllPairs (λ v w. v ≢ w) (xs ++ ys)
distinct-append xs ys left right apart i j d below within =
    let total : j < length xs + length ys = omega (arith, within, length-append xs ys) in
    ⊎_elim
    (λ j_left. subst₂ (λ v w. v ≢ w) (sym (get_or_append_left xs ys d i (omega (arith, below, j_left)))) (sym (get_or_append_left xs ys d j j_left)) (left i j d below j_left))
    (λ j_right.
    let from = λ (k : ℕ) (past : length xs ≤ k). sym (get_or-append_right xs ys (length xs) k d refl past) in
    ⊎_elim
    (λ i_left. subst₂ (λ v w. v ≢ w) (sym (get_or_append_left xs ys d i i_left)) (from j j_right) (apart i (j - length xs) d i_left (omega (arith, j_right, total))))
    (λ i_right. subst₂ (λ v w. v ≢ w) (from i i_right) (from j j_right) (right (i - length xs) (j - length xs) d (omega (arith, below, i_right)) (omega (arith, j_right, total))))
    (cases_lt i (length xs)))
    (cases_lt j (length xs))

not_zero-numbers_from : (first count : ℕ) → All (λ v. v ≢ 0) (numbers_from (suc first) count)
not_zero-numbers_from first count i d within same =
    omega (arith, same, get_or-numbers_from (suc first) count i d (omega (arith, within, length-numbers_from (suc first) count)))

-- ---- without the artificial variable

pub without-has_none : (s : Std) → HasNoArtificial (without_artificial s)
unfolding without_artificial
without-has_none s =
    All-append (λ v. v ≢ 0) (numbers_from (suc (length s.obj)) (length s.rows)) (numbers_from 1 (length s.obj))
    (not_zero-numbers_from (length s.obj) (length s.rows)) (not_zero-numbers_from 0 (length s.obj))

made_lines : (P : List Fraction → Type 0) (s : Std) → All (λ row. P (row.rhs ∷ row.coefs)) s.rows → P (s.constant ∷ s.obj) → AllLines P (without_artificial s)
unfolding without_artificial
made_lines P s rows objective =
    record { rows = All-map P (λ row. row.rhs ∷ row.coefs) s.rows rows; objective = objective; auxiliary = tt }

pub shape-without : (s : Std) → IsUniform s → IsInShape (without_artificial s)
unfolding without_artificial
shape-without s uniform =
    let n = length s.obj in
    let m = length s.rows in
    let columns = length-numbers_from 1 n in
    let rows = length-numbers_from (suc n) m in
    let entries = subst (λ k. AllLines (IsWide k) (without_artificial s)) (sym columns) (made_lines (IsWide n) s (λ k d within. ap suc (uniform.coefs k d within)) refl) in
    record {
      rows = length-map s.rows (λ row. row.rhs ∷ row.coefs) ∙ sym rows;
      row_entries = entries.rows;
      objective_entries = entries.objective;
      auxiliary_entries = entries.auxiliary;
      row_limit = subst (λ k. k < 2 ^ 31) (sym rows) uniform.row_limit;
      column_limit = subst (λ k. k ≤ 2 ^ 31) (sym columns) (lower n uniform.column_limit);
    }
  where
    lower : (k : ℕ) → k < 2 ^ 31 → k ≤ 2 ^ 31
    lower k h = omega (arith, h)

pub IsLawful-without : (s : Std) → IsUniform s → HasReducedNumbers s → IsLawful (without_artificial s)
unfolding without_artificial
IsLawful-without s uniform low =
    let n = length s.obj in
    let m = length s.rows in
    let columns = length-numbers_from 1 n in
    let rows = length-numbers_from (suc n) m in
    let entries = made_lines (All IsInLowestTerms) s
    (λ k d within. All-cons IsInLowestTerms (slice_index_or s.rows k d).rhs (slice_index_or s.rows k d).coefs (low.sides k d within) (low.coefs k d within))
    (All-cons IsInLowestTerms s.constant s.obj low.constant low.obj) in
    record {
      shape = shape-without s uniform;
      reduced = record { rows = entries.rows; objective = entries.objective; auxiliary = entries.auxiliary };
      distinct = distinct-append (numbers_from (suc n) m) (numbers_from 1 n) (distinct-numbers_from (suc n) m) (distinct-numbers_from 1 n)
          (λ i j d i_in j_in same.
          let j_within : j < n = omega (arith, j_in, columns) in
          omega (arith, same, j_within, get_or-numbers_from (suc n) m i d (omega (arith, i_in, rows)), get_or-numbers_from 1 n j d j_within));
    }

-- ---- with the artificial variable

artificial_lines : (P Q : List Fraction → Type 0) (d : Dictionary) → ((row : List Fraction) (a : Fraction) → IsInLowestTerms a → P row → Q (row ++ a ∷ [])) → P (replicate (length d.objective) zero_value) → AllLines P d → AllLines Q (with_artificial d)
unfolding with_artificial
artificial_lines P Q d step zeros all =
    let minus_one = negation one_value in
    record {
      rows = All-map Q (λ row. row ++ minus_one ∷ []) d.rows (All-weaker P (λ row. Q (row ++ minus_one ∷ [])) (λ row h. step row minus_one reduced h) d.rows all.rows);
      objective = step d.objective zero_value apart_of-zero all.objective;
      auxiliary = step (replicate (length d.objective) zero_value) minus_one reduced zeros;
    }
  where
    reduced : IsInLowestTerms (negation one_value)
    reduced = let kept = IsKept-negation one_value IsKept-one in kept.nothing_in_common

length_more : {A : Type 0} (xs : List A) (x : A) → length (xs ++ x ∷ []) ≡ suc (length xs)
length_more xs x = length-append xs (x ∷ []) ∙ omega arith

shape-with : (d : Dictionary) → IsInShape d → length d.nonbasic < 2 ^ 31 → IsInShape (with_artificial d)
unfolding with_artificial
shape-with d shape limit =
    let n = length d.nonbasic in
    let columns = length_more d.nonbasic 0 in
    let entries = subst (λ k. AllLines (IsWide k) (with_artificial d)) (sym columns)
    (artificial_lines (IsWide n) (IsWide (suc n)) d (λ row a low wide. length_more row a ∙ ap suc wide)
    (length-replicate (length d.objective) zero_value ∙ shape.objective_entries)
    record { rows = shape.row_entries; objective = shape.objective_entries; auxiliary = shape.auxiliary_entries }) in
    record {
      rows = length-map d.rows (λ row. row ++ negation one_value ∷ []) ∙ shape.rows;
      row_entries = entries.rows;
      objective_entries = entries.objective;
      auxiliary_entries = entries.auxiliary;
      row_limit = shape.row_limit;
      column_limit = subst (λ k. k ≤ 2 ^ 31) (sym columns) limit;
    }

pub IsLawful-with : (d : Dictionary) → IsLawful d → HasNoArtificial d → length d.nonbasic < 2 ^ 31 → IsLawful (with_artificial d)
unfolding with_artificial
IsLawful-with d lawful none limit =
    let low = lawful.reduced in
    let entries = artificial_lines (All IsInLowestTerms) (All IsInLowestTerms) d
    (λ row a low_a all. All-append IsInLowestTerms row (a ∷ []) all (All-cons IsInLowestTerms a [] low_a (All-nil IsInLowestTerms)))
    (All-replicate IsInLowestTerms (length d.objective) zero_value apart_of-zero)
    record { rows = low.rows; objective = low.objective; auxiliary = low.auxiliary } in
    record {
      shape = shape-with d lawful.shape limit;
      reduced = record { rows = entries.rows; objective = entries.objective; auxiliary = entries.auxiliary };
      distinct = subst (AllPairs (λ v w. v ≢ w)) (append_assoc d.basic d.nonbasic (0 ∷ [])) (all_pairs_push (λ v w. v ≢ w) (d.basic ++ d.nonbasic) 0 lawful.distinct none);
    }

-- ---- the opening dictionary

of_both : {A : Type 0} (P : A → Type 0) (b : Bool) {x y : A} → P x → P y → P (cond b x y)
of_both P true p q = p
of_both P false p q = q

pub few_columns : (s : Std) → length s.obj < 2 ^ 31 → length (without_artificial s).nonbasic < 2 ^ 31
unfolding without_artificial
few_columns s h = subst (λ k. k < 2 ^ 31) (sym (length-numbers_from 1 (length s.obj))) h

pub IsLawful-opening : (s : Std) → IsUniform s → HasReducedNumbers s → IsLawful (opening s)
unfolding opening
IsLawful-opening s uniform low =
    let lawful = IsLawful-without s uniform low in
    of_both IsLawful (needs_phase_one s) (IsLawful-with (without_artificial s) lawful (without-has_none s) (few_columns s uniform.column_limit)) lawful

pub phase_one-opening : (s : Std) → IsUniform s → needs_phase_one s ≡ true → IsPhaseOne (opening s)
unfolding opening
phase_one-opening s uniform needed =
    subst (λ b. IsPhaseOne (cond b (with_artificial (without_artificial s)) (without_artificial s))) (sym needed) (artificial-phase_one (without_artificial s) (shape-without s uniform))

at_least_zero : (x : Fraction) → is_negative x ≡ false → IsAtMost zero_value x
at_least_zero x h = record { at_most = by_sign x.num (den x) h }
  where
    by_sign : (n : ℤ) (d : ℕ) → is_below_zero n ≡ false → (pos 0 *ℤ pos d) ≤ℤ (n *ℤ pos 1)
    by_sign (pos n) d h = omega (arith, ints)
    by_sign (negsuc n) d h = absurd (true≢false h)

none-negative : (rows : List StdRow) → list_any (λ row. is_negative row.rhs) rows ≡ false → All (λ row. IsAtMost zero_value row.rhs) rows
none-negative [] h = All-nil (λ row. IsAtMost zero_value row.rhs)
none-negative (row ∷ rows) h =
    let both = or-false (is_negative row.rhs) (list_any (λ r. is_negative r.rhs) rows) h in
    All-cons (λ r. IsAtMost zero_value r.rhs) row rows (at_least_zero row.rhs both.0) (none-negative rows both.1)
  where
    or-false : (a b : Bool) → (a || b) ≡ false → (a ≡ false) × (b ≡ false)
    or-false true b e = absurd (true≢false e)
    or-false false b e = (refl, e)

pub feasible-opening : (s : Std) → needs_phase_one s ≡ false → HasFeasibleConstants (opening s)
unfolding opening without_artificial
feasible-opening s none =
    subst (λ b. HasFeasibleConstants (cond b (with_artificial (without_artificial s)) (without_artificial s))) (sym none)
    (All-map (λ row. IsAtMost zero_value (entry row 0)) (λ row. row.rhs ∷ row.coefs) s.rows (none-negative s.rows none))
