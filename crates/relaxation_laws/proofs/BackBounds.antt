-- The form's rows of variables and its columns, with their weights, are the bounds with the weights that are brought back.
use Rattle.std.proofs.Common.{◌≡◌, ◌∙◌, refl, sym, ap, ap₂, subst, ℕ, suc, ◌+◌, ◌<◌, List, [], ◌∷◌, ◌++◌, length, drop, replicate, slice_set, All, Some, None, Result, Ok, Err, arith}
use Rattle.std.proofs.lemmas.List.Sums.{sum_by-cons}
use Rattle.std.proofs.lemmas.List.Elements.{All-cons, All-head, All-nil, All-tail}
use Rattle.frac128.specs.Checked.{checked_difference, ◌>>=◌}
use Rattle.frac128.specs.declared.operations.Wide.{Wide}
use Rattle.frac128.specs.Fraction.{Fraction, negation, one_value, zero_value}
use Rattle.frac128.specs.Lowest.{IsInLowestTerms}
use Rattle.frac128.proofs.Field.{apart_of-product, apart_of-sum, apart_of-zero, exact_product-negation_right, exact_product-sum_right, exact_product-zero_left, exact_product-zero_right, exact_sum-zero_left, exact_sum-zero_right, exact_sum_comm}
use Rattle.frac128.proofs.Kept.{IsKept-one}
use Rattle.frac128.proofs.Sums.{minus, minus-minus, minus_is, sum-minus, sums, ◌⊕◌, ◌⊗◌}
use Rattle.frac128.proofs.Chains.{difference_is, same_ok, through}
use Rattle.dictionary.specs.declared.standard.StdRow.{StdRow}
use Rattle.solve_defs.specs.Columns.{columns_sum}
use Rattle.solve_defs.specs.StandardForm.{Shape, column_count, column_row, free, low_weights, mirrored, shifted, span_row, span_rows, up_weights, width}
use Rattle.solve_defs.specs.Values.{value_at}
use Rattle.solve_defs.proofs.FormLists.{at_drop}
use Rattle.solve_defs.proofs.FormSums.{columns_sum_low, offsets, one_column}
use Rattle.relaxation_laws.specs.FormWeights.{weighted}
use Rattle.relaxation_laws.specs.LeafSums.{bound_total, lower_side, upper_side}
use Rattle.relaxation_laws.proofs.Lifted.{NoneFree, both_at_one, length-both, lift}
use Rattle.relaxation_laws.proofs.Priced.{weighted_low}

-- ---- a variable's own part, and the others'

-- its row's part, its columns', its upper bound's and its lower bound's
join_values : (s d u l S D U L : Fraction) → s ⊕ minus d ≡ u ⊕ minus l → S ⊕ minus D ≡ U ⊕ minus L → (s ⊕ S) ⊕ minus (d ⊕ D) ≡ (u ⊕ U) ⊕ minus (l ⊕ L)
join_values s d u l S D U L own rest = regroup s S d D ∙ ap₂ (λ p q. p ⊕ q) own rest ∙ sym (regroup u U l L)
  where
    regroup : (a b c e : Fraction) → (a ⊕ b) ⊕ minus (c ⊕ e) ≡ (a ⊕ minus c) ⊕ (b ⊕ minus e)
    regroup a b c e = simp sums

join_sides : (s u l a b S U L A B : Fraction) → s ⊕ (u ⊕ minus l) ≡ a ⊕ b → S ⊕ (U ⊕ minus L) ≡ A ⊕ B → (s ⊕ S) ⊕ ((u ⊕ U) ⊕ minus (l ⊕ L)) ≡ (a ⊕ A) ⊕ (b ⊕ B)
join_sides s u l a b S U L A B own rest = regroup s S u U l L ∙ ap₂ (λ p q. p ⊕ q) own rest ∙ sorted a A b B
  where
    regroup : (p P q Q r R : Fraction) → (p ⊕ P) ⊕ ((q ⊕ Q) ⊕ minus (r ⊕ R)) ≡ (p ⊕ (q ⊕ minus r)) ⊕ (P ⊕ (Q ⊕ minus R))
    regroup p P q Q r R = simp sums

    sorted : (p P q Q : Fraction) → (p ⊕ q) ⊕ (P ⊕ Q) ≡ (p ⊕ P) ⊕ (q ⊕ Q)
    sorted p P q Q = simp sums

minus_zero : minus zero_value ≡ zero_value
minus_zero = minus_is zero_value

zero_low : IsInLowestTerms zero_value
zero_low = apart_of-zero

none_more : (x : Fraction) → IsInLowestTerms x → x ≡ zero_value ⊕ x
none_more x low = sym (exact_sum-zero_left x low)

mirrored_own : (r x : Fraction) → zero_value ⊕ minus (r ⊗ negation x) ≡ r ⊗ x ⊕ minus (zero_value ⊗ x)
mirrored_own r x =
    ap (λ v. zero_value ⊕ minus v) (exact_product-negation_right r x ∙ sym (minus_is (r ⊗ x))) ∙ ap (λ v. zero_value ⊕ v) (minus-minus (r ⊗ x))
    ∙ exact_sum_comm zero_value (r ⊗ x) ∙ ap (λ v. r ⊗ x ⊕ v) (sym (ap minus (exact_product-zero_left x) ∙ minus_zero))

both_own : (y r l u : Fraction) → y ⊗ (u ⊕ negation l) ⊕ (y ⊗ l ⊕ minus (r ⊗ l)) ≡ negation (r ⊗ l) ⊕ y ⊗ u
both_own y r l u =
    ap (λ v. v ⊕ (y ⊗ l ⊕ minus (r ⊗ l))) (exact_product-sum_right y u (negation l) ∙ ap (λ v. y ⊗ u ⊕ v) (exact_product-negation_right y l ∙ sym (minus_is (y ⊗ l))))
    ∙ sorted (y ⊗ u) (y ⊗ l) (r ⊗ l) ∙ ap (λ v. v ⊕ (minus (r ⊗ l) ⊕ y ⊗ u)) (sum-minus (y ⊗ l)) ∙ exact_sum-zero_left (minus (r ⊗ l) ⊕ y ⊗ u) (apart_of-sum (minus (r ⊗ l)) (y ⊗ u))
    ∙ ap (λ v. v ⊕ y ⊗ u) (minus_is (r ⊗ l))
  where
    sorted : (a b c : Fraction) → (a ⊕ minus b) ⊕ (b ⊕ minus c) ≡ (b ⊕ minus b) ⊕ (minus c ⊕ a)
    sorted a b c = simp sums

lower_own : (r l : Fraction) → zero_value ⊕ (zero_value ⊗ l ⊕ minus (r ⊗ l)) ≡ negation (r ⊗ l) ⊕ zero_value
lower_own r l =
    ap (λ v. zero_value ⊕ (v ⊕ minus (r ⊗ l))) (exact_product-zero_left l) ∙ exact_sum-zero_left (zero_value ⊕ minus (r ⊗ l)) (apart_of-sum zero_value (minus (r ⊗ l)))
    ∙ exact_sum_comm zero_value (minus (r ⊗ l)) ∙ ap (λ v. v ⊕ zero_value) (minus_is (r ⊗ l))

upper_own : (r u : Fraction) → zero_value ⊕ (r ⊗ u ⊕ minus (zero_value ⊗ u)) ≡ zero_value ⊕ r ⊗ u
upper_own r u = ap (λ v. zero_value ⊕ (r ⊗ u ⊕ v)) (ap minus (exact_product-zero_left u) ∙ minus_zero) ∙ ap (λ v. zero_value ⊕ v) (exact_sum-zero_right (r ⊗ u) (apart_of-product r u))

free_own : zero_value ⊕ (zero_value ⊗ zero_value ⊕ minus (zero_value ⊗ zero_value)) ≡ zero_value ⊕ zero_value
free_own = ap (λ v. zero_value ⊕ v) (sum-minus (zero_value ⊗ zero_value))

-- ---- the rows of variables

-- the row of a variable with two bounds, at values of the columns
column_value : (count column : ℕ) (most : Fraction) (t : List Fraction) → length t ≡ count → column < length t → IsInLowestTerms (value_at t column) → columns_sum (column_row count column most).coefs t ≡ value_at t column
column_value count column most t same within low = subst (λ n. columns_sum (slice_set (replicate n zero_value) column one_value) t ≡ value_at t column) same (one_column column t within low)

one_on : (k : ℕ) → k + 1 ≡ suc k
one_on k = omega arith

two_on : (k : ℕ) → k + 2 ≡ suc (suc k)
two_on k = omega arith

same_on : (k : ℕ) → k + 0 ≡ k
same_on k = omega arith

-- a variable with a row, and the rows behind it
record Spanned (count column : ℕ) (lower upper : Fraction) (shapes : List Shape) (spans : List StdRow) : Type 0 where
  span : Fraction
  is_span : span ≡ upper ⊕ negation lower
  others : List StdRow
  others_are : span_rows count (column + 1) shapes ≡ Ok others
  whole : spans ≡ column_row count column span ∷ others

spanned : (count column : ℕ) (lower upper : Fraction) (shapes : List Shape) (spans : List StdRow) → span_rows count column (shifted lower (Some upper) ∷ shapes) ≡ Ok spans → Spanned count column lower upper shapes spans
spanned count column lower upper shapes spans made =
    let first = through (span_row count column (shifted lower (Some upper))) _ spans made in
    let span = through (checked_difference upper lower) _ first.value first.first in
    let others = through (span_rows count (column + 1) shapes) _ spans first.rest in
    record {
      span = span.value;
      is_span = difference_is upper lower span.value span.first;
      others = others.value;
      others_are = others.first;
      whole = sym (same_ok (first.value ++ others.value) spans others.rest) ∙ ap (λ front. front ++ others.value) (sym (same_ok (column_row count column span.value ∷ []) first.value span.rest));
    }

-- one without a row
pub unspanned : (spans : List StdRow) (r : Result (List StdRow) Wide) → (r >>= (λ others. Ok ([] ++ others))) ≡ Ok spans → r ≡ Ok spans
unspanned spans (Ok others) h = h
unspanned spans (Err e) h = h

module _ (count : ℕ) (t ys reduced : List Fraction) (wide : length t ≡ count) (low : All IsInLowestTerms t) where
  abbrev at_values : StdRow → Fraction
  at_values row = columns_sum row.coefs t

  pub bounds_part : (shapes : List Shape) (place column : ℕ) (xs rs zs : List Fraction) (spans : List StdRow) → span_rows count column shapes ≡ Ok spans → length xs ≡ length shapes → drop column t ≡ lift shapes xs
      → drop column reduced ≡ rs → length rs ≡ column_count shapes → NoneFree shapes rs → drop place ys ≡ zs → length zs ≡ length spans
      → weighted at_values spans zs ⊕ minus (columns_sum rs (lift shapes xs)) ≡ columns_sum (up_weights place column shapes ys reduced) xs ⊕ minus (columns_sum (low_weights column shapes reduced) xs)
  bounds_part [] place column xs [] zs spans made same at there long none zs_at zs_long =
      ap (λ list. weighted at_values list zs ⊕ minus zero_value) (sym (same_ok [] spans made))
  bounds_part [] place column xs (r ∷ rs) zs spans made same at there long none zs_at zs_long = absurd (omega (arith, long))
  bounds_part (shape ∷ shapes) place column [] rs zs spans made same at there long none zs_at zs_long = absurd (omega (arith, same))
  bounds_part (shifted l u ∷ shapes) place column (x ∷ xs) [] zs spans made same at there long none zs_at zs_long = absurd (omega (arith, long, sum_by-cons width (shifted l u) shapes))
  bounds_part (mirrored u ∷ shapes) place column (x ∷ xs) [] zs spans made same at there long none zs_at zs_long = absurd (omega (arith, long, sum_by-cons width (mirrored u) shapes))
  bounds_part (free ∷ shapes) place column (x ∷ xs) [] zs spans made same at there long none zs_at zs_long = absurd (omega (arith, long, sum_by-cons width free shapes))
  bounds_part (free ∷ shapes) place column (x ∷ xs) (r ∷ []) zs spans made same at there long none zs_at zs_long = absurd (omega (arith, long, sum_by-cons width free shapes))
  bounds_part (shifted l (Some u) ∷ shapes) place column (x ∷ xs) (r ∷ rs) [] spans made same at there long none zs_at zs_long =
      let row = spanned count column l u shapes spans made in
      absurd (omega (arith, zs_long, ap length row.whole))
  bounds_part (shifted l (Some u) ∷ shapes) place column (x ∷ xs) (r ∷ rs) (z ∷ zs) spans made same at there long none zs_at zs_long =
      let row = spanned count column l u shapes spans made in
      let here = at_drop t column zero_value x (lift shapes xs) at in
      let red = at_drop reduced column zero_value r rs there in
      let weight = at_drop ys place zero_value z zs zs_at in
      let rest = bounds_part shapes (place + 1) (column + 1) xs rs zs row.others row.others_are (omega (arith, same)) (ap (λ k. drop k t) (one_on column) ∙ here.1)
      (ap (λ k. drop k reduced) (one_on column) ∙ red.1) (omega (arith, long, sum_by-cons width (shifted l (Some u)) shapes)) none (ap (λ k. drop k ys) (one_on place) ∙ weight.1) (omega (arith, zs_long, ap length row.whole)) in
      ap (λ list. weighted at_values list (z ∷ zs) ⊕ minus (r ⊗ x ⊕ columns_sum rs (lift shapes xs))) row.whole
      ∙ ap (λ v. (z ⊗ v ⊕ weighted at_values row.others zs) ⊕ minus (r ⊗ x ⊕ columns_sum rs (lift shapes xs))) (column_value count column row.span t wide here.2 (low column zero_value here.2) ∙ here.0)
      ∙ join_values (z ⊗ x) (r ⊗ x) (value_at ys place ⊗ x) (value_at reduced column ⊗ x) (weighted at_values row.others zs) (columns_sum rs (lift shapes xs))
      (columns_sum (up_weights (place + 1) (column + 1) shapes ys reduced) xs) (columns_sum (low_weights (column + 1) shapes reduced) xs)
      (ap₂ (λ p q. p ⊗ x ⊕ minus (q ⊗ x)) (sym weight.0) (sym red.0)) rest
  bounds_part (shifted l None ∷ shapes) place column (x ∷ xs) (r ∷ rs) zs spans made same at there long none zs_at zs_long =
      let here = at_drop t column zero_value x (lift shapes xs) at in
      let red = at_drop reduced column zero_value r rs there in
      let rest = bounds_part shapes (place + 0) (column + 1) xs rs zs spans (unspanned spans (span_rows count (column + 1) shapes) made) (omega (arith, same)) (ap (λ k. drop k t) (one_on column) ∙ here.1)
      (ap (λ k. drop k reduced) (one_on column) ∙ red.1) (omega (arith, long, sum_by-cons width (shifted l None) shapes)) none (ap (λ k. drop k ys) (same_on place) ∙ zs_at) zs_long in
      ap (λ v. v ⊕ minus (r ⊗ x ⊕ columns_sum rs (lift shapes xs))) (none_more (weighted at_values spans zs) (weighted_low at_values spans zs))
      ∙ join_values zero_value (r ⊗ x) (zero_value ⊗ x) (value_at reduced column ⊗ x) (weighted at_values spans zs) (columns_sum rs (lift shapes xs))
      (columns_sum (up_weights (place + 0) (column + 1) shapes ys reduced) xs) (columns_sum (low_weights (column + 1) shapes reduced) xs)
      (ap₂ (λ p q. p ⊕ minus (q ⊗ x)) (sym (exact_product-zero_left x)) (sym red.0)) rest
  bounds_part (mirrored u ∷ shapes) place column (x ∷ xs) (r ∷ rs) zs spans made same at there long none zs_at zs_long =
      let here = at_drop t column zero_value (negation x) (lift shapes xs) at in
      let red = at_drop reduced column zero_value r rs there in
      let rest = bounds_part shapes (place + 0) (column + 1) xs rs zs spans (unspanned spans (span_rows count (column + 1) shapes) made) (omega (arith, same)) (ap (λ k. drop k t) (one_on column) ∙ here.1)
      (ap (λ k. drop k reduced) (one_on column) ∙ red.1) (omega (arith, long, sum_by-cons width (mirrored u) shapes)) none (ap (λ k. drop k ys) (same_on place) ∙ zs_at) zs_long in
      ap (λ v. v ⊕ minus (r ⊗ negation x ⊕ columns_sum rs (lift shapes xs))) (none_more (weighted at_values spans zs) (weighted_low at_values spans zs))
      ∙ join_values zero_value (r ⊗ negation x) (value_at reduced column ⊗ x) (zero_value ⊗ x) (weighted at_values spans zs) (columns_sum rs (lift shapes xs))
      (columns_sum (up_weights (place + 0) (column + 1) shapes ys reduced) xs) (columns_sum (low_weights (column + 1) shapes reduced) xs)
      (mirrored_own r x ∙ ap (λ q. q ⊗ x ⊕ minus (zero_value ⊗ x)) (sym red.0)) rest
  bounds_part (free ∷ shapes) place column (x ∷ xs) (r ∷ q ∷ rs) zs spans made same at there long none zs_at zs_long =
      let here = at_drop t column zero_value x (zero_value ∷ lift shapes xs) at in
      let next = at_drop t (suc column) zero_value zero_value (lift shapes xs) here.1 in
      let red = at_drop reduced column zero_value r (q ∷ rs) there in
      let red2 = at_drop reduced (suc column) zero_value q rs red.1 in
      let rest = bounds_part shapes (place + 0) (column + 2) xs rs zs spans (unspanned spans (span_rows count (column + 2) shapes) made) (omega (arith, same)) (ap (λ k. drop k t) (two_on column) ∙ next.1)
      (ap (λ k. drop k reduced) (two_on column) ∙ red2.1) (omega (arith, long, sum_by-cons width free shapes)) none.1 (ap (λ k. drop k ys) (same_on place) ∙ zs_at) zs_long in
      let nothing : r ⊗ x ⊕ (q ⊗ zero_value ⊕ columns_sum rs (lift shapes xs)) ≡ zero_value ⊕ columns_sum rs (lift shapes xs) =
      ap₂ (λ a b. a ⊕ (b ⊕ columns_sum rs (lift shapes xs))) (ap (λ a. a ⊗ x) none.0 ∙ exact_product-zero_left x) (exact_product-zero_right q) ∙ ap (λ b. zero_value ⊕ b) (exact_sum-zero_left (columns_sum rs (lift shapes xs)) (columns_sum_low rs (lift shapes xs))) in
      ap₂ (λ v w. v ⊕ minus w) (none_more (weighted at_values spans zs) (weighted_low at_values spans zs)) nothing
      ∙ join_values zero_value zero_value (zero_value ⊗ x) (zero_value ⊗ x) (weighted at_values spans zs) (columns_sum rs (lift shapes xs))
      (columns_sum (up_weights (place + 0) (column + 2) shapes ys reduced) xs) (columns_sum (low_weights (column + 2) shapes reduced) xs)
      (ap₂ (λ a b. a ⊕ minus b) (sym (exact_product-zero_left x)) (sym (exact_product-zero_left x))) rest

module _ (count : ℕ) (ys reduced : List Fraction) where
  pub sides_part : (shapes : List Shape) (place column : ℕ) (zs : List Fraction) (spans : List StdRow) → span_rows count column shapes ≡ Ok spans → drop place ys ≡ zs → length zs ≡ length spans
      → weighted (λ row. row.rhs) spans zs ⊕ (columns_sum (up_weights place column shapes ys reduced) (offsets shapes) ⊕ minus (columns_sum (low_weights column shapes reduced) (offsets shapes)))
      ≡ bound_total lower_side shapes (low_weights column shapes reduced) ⊕ bound_total upper_side shapes (up_weights place column shapes ys reduced)
  sides_part [] place column zs spans made zs_at zs_long =
      ap (λ list. weighted (λ row. row.rhs) list zs ⊕ (zero_value ⊕ minus zero_value)) (sym (same_ok [] spans made)) ∙ ap (λ v. zero_value ⊕ v) (sum-minus zero_value)
  sides_part (shifted l (Some u) ∷ shapes) place column [] spans made zs_at zs_long =
      let row = spanned count column l u shapes spans made in
      absurd (omega (arith, zs_long, ap length row.whole))
  sides_part (shifted l (Some u) ∷ shapes) place column (z ∷ zs) spans made zs_at zs_long =
      let row = spanned count column l u shapes spans made in
      let r = value_at reduced column in
      let y = value_at ys place in
      let ups = up_weights (place + 1) (column + 1) shapes ys reduced in
      let lows = low_weights (column + 1) shapes reduced in
      let weight = at_drop ys place zero_value z zs zs_at in
      let rest = sides_part shapes (place + 1) (column + 1) zs row.others row.others_are (ap (λ k. drop k ys) (one_on place) ∙ weight.1) (omega (arith, zs_long, ap length row.whole)) in
      ap (λ list. weighted (λ row. row.rhs) list (z ∷ zs) ⊕ ((y ⊗ l ⊕ columns_sum ups (offsets shapes)) ⊕ minus (r ⊗ l ⊕ columns_sum lows (offsets shapes)))) row.whole
      ∙ ap₂ (λ a v. (a ⊗ v ⊕ weighted (λ row. row.rhs) row.others zs) ⊕ ((y ⊗ l ⊕ columns_sum ups (offsets shapes)) ⊕ minus (r ⊗ l ⊕ columns_sum lows (offsets shapes)))) (sym weight.0) row.is_span
      ∙ join_sides (y ⊗ (u ⊕ negation l)) (y ⊗ l) (r ⊗ l) (negation (r ⊗ l)) (y ⊗ u) (weighted (λ row. row.rhs) row.others zs) (columns_sum ups (offsets shapes)) (columns_sum lows (offsets shapes))
      (bound_total lower_side shapes lows) (bound_total upper_side shapes ups) (both_own y r l u) rest
  sides_part (shifted l None ∷ shapes) place column zs spans made zs_at zs_long =
      let r = value_at reduced column in
      let ups = up_weights (place + 0) (column + 1) shapes ys reduced in
      let lows = low_weights (column + 1) shapes reduced in
      let rest = sides_part shapes (place + 0) (column + 1) zs spans (unspanned spans (span_rows count (column + 1) shapes) made) (ap (λ k. drop k ys) (same_on place) ∙ zs_at) zs_long in
      ap (λ v. v ⊕ ((zero_value ⊗ l ⊕ columns_sum ups (offsets shapes)) ⊕ minus (r ⊗ l ⊕ columns_sum lows (offsets shapes)))) (none_more (weighted (λ row. row.rhs) spans zs) (weighted_low (λ row. row.rhs) spans zs))
      ∙ join_sides zero_value (zero_value ⊗ l) (r ⊗ l) (negation (r ⊗ l)) zero_value (weighted (λ row. row.rhs) spans zs) (columns_sum ups (offsets shapes)) (columns_sum lows (offsets shapes))
      (bound_total lower_side shapes lows) (bound_total upper_side shapes ups) (lower_own r l) rest
  sides_part (mirrored u ∷ shapes) place column zs spans made zs_at zs_long =
      let r = value_at reduced column in
      let ups = up_weights (place + 0) (column + 1) shapes ys reduced in
      let lows = low_weights (column + 1) shapes reduced in
      let rest = sides_part shapes (place + 0) (column + 1) zs spans (unspanned spans (span_rows count (column + 1) shapes) made) (ap (λ k. drop k ys) (same_on place) ∙ zs_at) zs_long in
      ap (λ v. v ⊕ ((r ⊗ u ⊕ columns_sum ups (offsets shapes)) ⊕ minus (zero_value ⊗ u ⊕ columns_sum lows (offsets shapes)))) (none_more (weighted (λ row. row.rhs) spans zs) (weighted_low (λ row. row.rhs) spans zs))
      ∙ join_sides zero_value (r ⊗ u) (zero_value ⊗ u) zero_value (r ⊗ u) (weighted (λ row. row.rhs) spans zs) (columns_sum ups (offsets shapes)) (columns_sum lows (offsets shapes))
      (bound_total lower_side shapes lows) (bound_total upper_side shapes ups) (upper_own r u) rest
  sides_part (free ∷ shapes) place column zs spans made zs_at zs_long =
      let ups = up_weights (place + 0) (column + 2) shapes ys reduced in
      let lows = low_weights (column + 2) shapes reduced in
      let rest = sides_part shapes (place + 0) (column + 2) zs spans (unspanned spans (span_rows count (column + 2) shapes) made) (ap (λ k. drop k ys) (same_on place) ∙ zs_at) zs_long in
      ap (λ v. v ⊕ ((zero_value ⊗ zero_value ⊕ columns_sum ups (offsets shapes)) ⊕ minus (zero_value ⊗ zero_value ⊕ columns_sum lows (offsets shapes)))) (none_more (weighted (λ row. row.rhs) spans zs) (weighted_low (λ row. row.rhs) spans zs))
      ∙ join_sides zero_value (zero_value ⊗ zero_value) (zero_value ⊗ zero_value) zero_value zero_value (weighted (λ row. row.rhs) spans zs) (columns_sum ups (offsets shapes)) (columns_sum lows (offsets shapes))
      (bound_total lower_side shapes lows) (bound_total upper_side shapes ups) free_own rest

-- ---- where free variables are 0 by columns that are not

zero_at : (count : ℕ) (t : List Fraction) → length t ≡ count → All IsInLowestTerms t → (shapes : List Shape) (column : ℕ) (spans : List StdRow) → span_rows count column shapes ≡ Ok spans → drop column t ≡ both_at_one shapes
    → All (λ row. columns_sum row.coefs t ≡ zero_value) spans
zero_at count t wide low [] column spans made at = subst (All (λ row. columns_sum row.coefs t ≡ zero_value)) (same_ok [] spans made) (All-nil (λ row. columns_sum row.coefs t ≡ zero_value))
zero_at count t wide low (shifted l (Some u) ∷ shapes) column spans made at =
    let row = spanned count column l u shapes spans made in
    let here = at_drop t column zero_value zero_value (both_at_one shapes) at in
    subst (All (λ r. columns_sum r.coefs t ≡ zero_value)) (sym row.whole)
    (All-cons (λ r. columns_sum r.coefs t ≡ zero_value) (column_row count column row.span) row.others (column_value count column row.span t wide here.2 (low column zero_value here.2) ∙ here.0)
    (zero_at count t wide low shapes (column + 1) row.others row.others_are (ap (λ k. drop k t) (one_on column) ∙ here.1)))
zero_at count t wide low (shifted l None ∷ shapes) column spans made at =
    let here = at_drop t column zero_value zero_value (both_at_one shapes) at in
    zero_at count t wide low shapes (column + 1) spans (unspanned spans (span_rows count (column + 1) shapes) made) (ap (λ k. drop k t) (one_on column) ∙ here.1)
zero_at count t wide low (mirrored u ∷ shapes) column spans made at =
    let here = at_drop t column zero_value zero_value (both_at_one shapes) at in
    zero_at count t wide low shapes (column + 1) spans (unspanned spans (span_rows count (column + 1) shapes) made) (ap (λ k. drop k t) (one_on column) ∙ here.1)
zero_at count t wide low (free ∷ shapes) column spans made at =
    let here = at_drop t column zero_value one_value (one_value ∷ both_at_one shapes) at in
    let next = at_drop t (suc column) zero_value one_value (both_at_one shapes) here.1 in
    zero_at count t wide low shapes (column + 2) spans (unspanned spans (span_rows count (column + 2) shapes) made) (ap (λ k. drop k t) (two_on column) ∙ next.1)

weighted_zero : (part : StdRow → Fraction) (rows : List StdRow) (ys : List Fraction) → All (λ row. part row ≡ zero_value) rows → weighted part rows ys ≡ zero_value
weighted_zero part [] ys all = refl
weighted_zero part (row ∷ rows) [] all = refl
weighted_zero part (row ∷ rows) (y ∷ ys) all =
    ap₂ (λ p q. p ⊕ q) (ap (λ t. y ⊗ t) (All-head (λ r. part r ≡ zero_value) row rows all) ∙ exact_product-zero_right y) (weighted_zero part rows ys (All-tail (λ r. part r ≡ zero_value) row rows all)) ∙ exact_sum-zero_left zero_value zero_low

both_low : (shapes : List Shape) → All IsInLowestTerms (both_at_one shapes)
both_low [] = All-nil IsInLowestTerms
both_low (shifted l u ∷ shapes) = All-cons IsInLowestTerms zero_value (both_at_one shapes) zero_low (both_low shapes)
both_low (mirrored u ∷ shapes) = All-cons IsInLowestTerms zero_value (both_at_one shapes) zero_low (both_low shapes)
both_low (free ∷ shapes) = All-cons IsInLowestTerms one_value (one_value ∷ both_at_one shapes) IsKept-one.nothing_in_common (All-cons IsInLowestTerms one_value (both_at_one shapes) IsKept-one.nothing_in_common (both_low shapes))

pub spans_zero : (shapes : List Shape) (spans : List StdRow) (zs : List Fraction) → span_rows (column_count shapes) 0 shapes ≡ Ok spans → weighted (λ row. columns_sum row.coefs (both_at_one shapes)) spans zs ≡ zero_value
spans_zero shapes spans zs made = weighted_zero (λ row. columns_sum row.coefs (both_at_one shapes)) spans zs (zero_at (column_count shapes) (both_at_one shapes) (length-both shapes) (both_low shapes) shapes 0 spans made refl)
