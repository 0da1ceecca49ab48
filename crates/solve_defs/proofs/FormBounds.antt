-- A variable is within its bounds just where its column is at least 0 and its own row holds.
use Rattle.std.proofs.Common.{◌≡◌, refl, sym, ◌∙◌, ap, ap₂, subst, subst₂, ℕ, suc, ◌+◌, ◌<◌, List, [], ◌∷◌, ◌++◌, drop, length, map, Option, Some, None, Ok, ℤ, pos, negsuc, arith}
use Rattle.std.specs.Prelude.{All, IfSome}
use Rattle.std.specs.List.{AllZip}
use Rattle.std.proofs.lemmas.Int.{ints}
use Rattle.std.proofs.lemmas.List.Sums.{sum_by-cons}
use Rattle.frac128.specs.Checked.{checked_difference, ◌>>=◌}
use Rattle.frac128.specs.Fraction.{Fraction, exact_difference, negation, zero_value}
use Rattle.frac128.specs.Order.{IsAtMost}
use Rattle.frac128.proofs.Field.{apart_of-sum, apart_of-zero, exact_sum-negation, exact_sum-zero_left, exact_sum-zero_right, exact_sum_assoc, exact_sum_comm, negation-negation, negation-sum}
use Rattle.frac128.proofs.Integers.{size-neg}
use Rattle.frac128.proofs.Ordered.{IsAtMost-difference, IsAtMost-negation, IsAtMost-self, IsAtMost-sum, IsAtMost_trans}
use Rattle.dictionary.specs.declared.standard.StdRow.{StdRow}
use Rattle.std.specs.Int.{IsGcd}
use Rattle.frac128.specs.Fraction.{den}
use Rattle.solve_defs.specs.Bounds.{Bounds}
use Rattle.solve_defs.specs.Columns.{KeepsStdRow, columns_sum, exact_value, exact_values_from}
use Rattle.frac128.specs.Lowest.{IsInLowestTerms}
use Rattle.solve_defs.specs.StandardForm.{Shape, shifted, mirrored, free, column_count, column_row, shape_between, span_row, span_rows, width}
use Rattle.solve_defs.specs.Values.{value_at}
use Rattle.solve_defs.proofs.FormLists.{Each, at_drop, each-append, each_left, each_right}
use Rattle.solve_defs.proofs.FormQuotients.{at_most_lowest, lowest_at_most, raw}
use Rattle.frac128.proofs.Sums.{◌⊕◌}
use Rattle.solve_defs.proofs.FormSums.{one_column, one_more, two_more}
use Rattle.frac128.proofs.Chains.{difference_is, same_ok, through}

-- ---- sums and differences

-- (x - t) + t
pub taken_and_given : (x t : Fraction) → (x ⊕ negation t) ⊕ t ≡ zero_value ⊕ x
taken_and_given x t =
    exact_sum_assoc x (negation t) t ∙ ap (λ z. x ⊕ z) (exact_sum_comm (negation t) t ∙ exact_sum-negation t) ∙ exact_sum_comm x zero_value

-- t + (x - t)
pub given_back : (x t : Fraction) → IsInLowestTerms x → t ⊕ (x ⊕ negation t) ≡ x
given_back x t low = exact_sum_comm t (x ⊕ negation t) ∙ taken_and_given x t ∙ exact_sum-zero_left x low

-- (t + x) - t
sum_less : (t x : Fraction) → IsInLowestTerms x → (t ⊕ x) ⊕ negation t ≡ x
sum_less t x low =
    exact_sum_assoc t x (negation t) ∙ given_back x t low

-- t - (t - x)
less_less : (t x : Fraction) → IsInLowestTerms x → t ⊕ negation (t ⊕ negation x) ≡ x
less_less t x low =
    ap (λ s. t ⊕ s) (negation-sum t (negation x) ∙ ap (λ s. negation t ⊕ s) (negation-negation x) ∙ exact_sum_comm (negation t) x) ∙ given_back x t low

at_least_sum : (l y : Fraction) → IsAtMost zero_value y → IsAtMost l (l ⊕ y)
at_least_sum l y h =
    IsAtMost_trans l (zero_value ⊕ l) (l ⊕ y) (at_most_lowest l) (subst (λ s. IsAtMost (zero_value ⊕ l) s) (exact_sum_comm y l) (IsAtMost-sum zero_value y l h))

at_most_difference : (u y : Fraction) → IsAtMost zero_value y → IsAtMost (u ⊕ negation y) u
at_most_difference u y h =
    IsAtMost_trans (u ⊕ negation y) (zero_value ⊕ u) u
    (subst (λ s. IsAtMost s (zero_value ⊕ u)) (exact_sum_comm (negation y) u) (IsAtMost-sum (negation y) zero_value u (IsAtMost-negation zero_value y h)))
    (lowest_at_most u)

span_back : (l u y : Fraction) → IsAtMost y (exact_difference u l) → IsAtMost (l ⊕ y) u
span_back l u y h =
    IsAtMost_trans (l ⊕ y) (zero_value ⊕ u) u
    (subst₂ IsAtMost (exact_sum_comm y l) (taken_and_given u l) (IsAtMost-sum y (exact_difference u l) l h)) (lowest_at_most u)

span_forth : (l u y : Fraction) → IsInLowestTerms y → IsAtMost (l ⊕ y) u → IsAtMost y (exact_difference u l)
span_forth l u y low h = subst (λ s. IsAtMost s (exact_difference u l)) (sum_less l y low) (IsAtMost-sum (l ⊕ y) u (negation l) h)

-- ---- one variable

abbrev pub WithinBoth : Option Fraction → Option Fraction → Fraction → Type 0
WithinBoth lower upper x = IfSome lower (λ l. IsAtMost l x) × IfSome upper (λ u. IsAtMost x u)

module _ (ys : List Fraction) (low : All IsInLowestTerms ys) (column : ℕ) (below : column < length ys) where
  column_sum : (most : Fraction) → columns_sum (column_row (length ys) column most).coefs ys ≡ value_at ys column
  column_sum most = one_column column ys below (low column zero_value below)

  pub variable_back : (lower upper : Option Fraction) (own : List StdRow) → IsAtMost zero_value (value_at ys column)
      → span_row (length ys) column (shape_between lower upper) ≡ Ok own → Each (KeepsStdRow ys) own
      → WithinBoth lower upper (exact_value (shape_between lower upper) (value_at ys column) (value_at ys (suc column)))
  variable_back (Some l) (Some u) own some h rows =
      let s = through (checked_difference u l) (λ span. Ok (column_row (length ys) column span ∷ [])) own h in
      let kept = subst (λ rs. Each (KeepsStdRow ys) rs) (sym (same_ok _ own s.rest)) rows in
      let most = subst₂ IsAtMost (column_sum s.value) (difference_is u l s.value s.first) kept.0 in
      (at_least_sum l (value_at ys column) some, span_back l u (value_at ys column) most)
  variable_back (Some l) None own some h rows = (at_least_sum l (value_at ys column) some, tt)
  variable_back None (Some u) own some h rows = (tt, at_most_difference u (value_at ys column) some)
  variable_back None None own some h rows = (tt, tt)

  pub variable_forth : (lower upper : Option Fraction) (own : List StdRow)
      → span_row (length ys) column (shape_between lower upper) ≡ Ok own
      → WithinBoth lower upper (exact_value (shape_between lower upper) (value_at ys column) (value_at ys (suc column)))
      → Each (KeepsStdRow ys) own
  variable_forth (Some l) (Some u) own h within =
      let s = through (checked_difference u l) (λ span. Ok (column_row (length ys) column span ∷ [])) own h in
      let most = span_forth l u (value_at ys column) (low column zero_value below) within.1 in
      subst (λ rs. Each (KeepsStdRow ys) rs) (same_ok _ own s.rest)
      (subst₂ IsAtMost (sym (column_sum s.value)) (sym (difference_is u l s.value s.first)) most, tt)
  variable_forth (Some l) None own h within = subst (λ rs. Each (KeepsStdRow ys) rs) (same_ok [] own h) tt
  variable_forth None (Some u) own h within = subst (λ rs. Each (KeepsStdRow ys) rs) (same_ok [] own h) tt
  variable_forth None None own h within = subst (λ rs. Each (KeepsStdRow ys) rs) (same_ok [] own h) tt

-- ---- all variables

abbrev pub Within : Bounds → Fraction → Type 0
Within b x = WithinBoth b.lower b.upper x

abbrev pub shape_of : Bounds → Shape
shape_of b = shape_between b.lower b.upper

pub some_column : (shape : Shape) → 0 < width shape
some_column (shifted l u) = omega arith
some_column (mirrored u) = omega arith
some_column free = omega arith

module _ (ys : List Fraction) (low : All IsInLowestTerms ys) where
  pub variables_back : (bounds : List Bounds) (column : ℕ) (spans : List StdRow) → All (IsAtMost zero_value) ys → column + column_count (map shape_of bounds) ≡ length ys
      → span_rows (length ys) column (map shape_of bounds) ≡ Ok spans → Each (KeepsStdRow ys) spans → AllZip Within bounds (exact_values_from column (map shape_of bounds) ys)
  variables_back [] column spans some long h rows = tt
  variables_back (b ∷ bounds) column spans some long h rows =
      let shape = shape_of b in
      let shapes = map shape_of bounds in
      let s = through (span_row (length ys) column shape) (λ own. span_rows (length ys) (column + width shape) shapes >>= (λ others. Ok (own ++ others))) spans h in
      let t = through (span_rows (length ys) (column + width shape) shapes) (λ others. Ok (s.value ++ others)) spans s.rest in
      let all = subst (λ rs. Each (KeepsStdRow ys) rs) (sym (same_ok _ spans t.rest)) rows in
      let count = sum_by-cons width shape shapes in
      let below : column < length ys = omega (arith, long, count, some_column shape) in (
        variable_back ys low column below b.lower b.upper s.value (some column zero_value below) s.first (each_left (KeepsStdRow ys) s.value t.value all),
        variables_back bounds (column + width shape) t.value some (omega (arith, long, count)) t.first (each_right (KeepsStdRow ys) s.value t.value all),
      )

  pub variables_forth : (bounds : List Bounds) (column : ℕ) (spans : List StdRow) → column + column_count (map shape_of bounds) ≡ length ys
      → span_rows (length ys) column (map shape_of bounds) ≡ Ok spans → AllZip Within bounds (exact_values_from column (map shape_of bounds) ys) → Each (KeepsStdRow ys) spans
  variables_forth [] column spans long h within = subst (λ rs. Each (KeepsStdRow ys) rs) (same_ok [] spans h) tt
  variables_forth (b ∷ bounds) column spans long h within =
      let shape = shape_of b in
      let shapes = map shape_of bounds in
      let s = through (span_row (length ys) column shape) (λ own. span_rows (length ys) (column + width shape) shapes >>= (λ others. Ok (own ++ others))) spans h in
      let t = through (span_rows (length ys) (column + width shape) shapes) (λ others. Ok (s.value ++ others)) spans s.rest in
      let count = sum_by-cons width shape shapes in
      let below : column < length ys = omega (arith, long, count, some_column shape) in
      subst (λ rs. Each (KeepsStdRow ys) rs) (same_ok _ spans t.rest)
      (each-append (KeepsStdRow ys) s.value t.value (variable_forth ys low column below b.lower b.upper s.value s.first within.0)
      (variables_forth bounds (column + width shape) t.value (omega (arith, long, count)) t.first within.1))

-- ---- columns for values of the variables

-- a number as one that is at least 0 less another one
abbrev parted : ℤ → Fraction → List Fraction
parted (pos n) x = x ∷ zero_value ∷ []
parted (negsuc n) x = zero_value ∷ negation x ∷ []

abbrev pub columns_of : Shape → Fraction → List Fraction
columns_of (shifted l u) x = exact_difference x l ∷ []
columns_of (mirrored u) x = exact_difference u x ∷ []
columns_of free x = parted x.num x

abbrev pub columns_for : List Shape → List Fraction → List Fraction
columns_for [] xs = []
columns_for (shape ∷ shapes) [] = []
columns_for (shape ∷ shapes) (x ∷ xs) = columns_of shape x ++ columns_for shapes xs

abbrev pub AreFit : List Fraction → Type 0
AreFit ys = Each (λ y. IsInLowestTerms y × IsAtMost zero_value y) ys

pub low_negation : (x : Fraction) → IsInLowestTerms x → IsInLowestTerms (negation x)
low_negation x low = subst (λ k. IsGcd k (den x) 1) (sym (size-neg x.num)) low

parted_fit : (n : ℤ) (k : ℕ) → IsInLowestTerms (raw n k) → AreFit (parted n (raw n k))
parted_fit (pos n) k low = ((low, record { at_most = omega (arith, ints) }), ((apart_of-zero, IsAtMost-self zero_value), tt))
parted_fit (negsuc n) k low = ((apart_of-zero, IsAtMost-self zero_value), ((low_negation (raw (negsuc n) k) low, record { at_most = omega (arith, ints) }), tt))

columns_fit : (lower upper : Option Fraction) (x : Fraction) → IsInLowestTerms x → WithinBoth lower upper x → AreFit (columns_of (shape_between lower upper) x)
columns_fit (Some l) upper x low within = ((apart_of-sum x (negation l), IsAtMost-difference l x within.0), tt)
columns_fit None (Some u) x low within = ((apart_of-sum u (negation x), IsAtMost-difference x u within.1), tt)
columns_fit None None x low within = parted_fit x.num x.below low

pub columns_all_fit : (bounds : List Bounds) (xs : List Fraction) → Each IsInLowestTerms xs → AllZip Within bounds xs → AreFit (columns_for (map shape_of bounds) xs)
columns_all_fit [] xs low within = tt
columns_all_fit (b ∷ bounds) [] low within = tt
columns_all_fit (b ∷ bounds) (x ∷ xs) low within =
    each-append (λ y. IsInLowestTerms y × IsAtMost zero_value y) (columns_of (shape_of b) x) (columns_for (map shape_of bounds) xs)
    (columns_fit b.lower b.upper x low.0 within.0) (columns_all_fit bounds xs low.1 within.1)

-- the columns behind those of one variable
record Read (shape : Shape) (x : Fraction) (ys : List Fraction) (column : ℕ) (rest : List Fraction) : Type 0 where
  is_value : exact_value shape (value_at ys column) (value_at ys (suc column)) ≡ x
  behind : drop (column + width shape) ys ≡ rest

read_one : (ys : List Fraction) (column : ℕ) (y : Fraction) (rest : List Fraction) → drop column ys ≡ y ∷ rest → (value_at ys column ≡ y) × (drop (column + 1) ys ≡ rest)
read_one ys column y rest at =
    let here = at_drop ys column zero_value y rest at in
    (here.0, ap (λ k. drop k ys) (one_more column) ∙ here.1)

read_two : (ys : List Fraction) (column : ℕ) (y z : Fraction) (rest : List Fraction) → drop column ys ≡ y ∷ z ∷ rest
    → (value_at ys column ≡ y) × (value_at ys (suc column) ≡ z) × (drop (column + 2) ys ≡ rest)
read_two ys column y z rest at =
    let here = at_drop ys column zero_value y (z ∷ rest) at in
    let second = at_drop ys (suc column) zero_value z rest here.1 in
    (here.0, second.0, ap (λ k. drop k ys) (two_more column) ∙ second.1)

read_parted : (n : ℤ) (x : Fraction) (ys : List Fraction) (column : ℕ) (rest : List Fraction) → IsInLowestTerms x → drop column ys ≡ parted n x ++ rest → Read free x ys column rest
read_parted (pos n) x ys column rest low at =
    let two = read_two ys column x zero_value rest at in
    record {
      is_value = ap₂ (λ y z. y ⊕ negation z) two.0 two.1 ∙ exact_sum-zero_right x low;
      behind = two.2;
    }
read_parted (negsuc n) x ys column rest low at =
    let two = read_two ys column zero_value (negation x) rest at in
    record {
      is_value = ap₂ (λ y z. y ⊕ negation z) two.0 two.1 ∙ ap (λ z. zero_value ⊕ z) (negation-negation x) ∙ exact_sum-zero_left x low;
      behind = two.2;
    }

read : (shape : Shape) (x : Fraction) (ys : List Fraction) (column : ℕ) (rest : List Fraction) → IsInLowestTerms x → drop column ys ≡ columns_of shape x ++ rest → Read shape x ys column rest
read (shifted l u) x ys column rest low at =
    let one = read_one ys column (exact_difference x l) rest at in
    record { is_value = ap (λ y. l ⊕ y) one.0 ∙ given_back x l low; behind = one.1 }
read (mirrored u) x ys column rest low at =
    let one = read_one ys column (exact_difference u x) rest at in
    record { is_value = ap (λ y. u ⊕ negation y) one.0 ∙ less_less u x low; behind = one.1 }
read free x ys column rest low at = read_parted x.num x ys column rest low at

-- They stand for these values.
pub values_read : (shapes : List Shape) (xs ys : List Fraction) (column : ℕ) → Each IsInLowestTerms xs → length xs ≡ length shapes → drop column ys ≡ columns_for shapes xs
    → exact_values_from column shapes ys ≡ xs
values_read [] [] ys column low same at = refl
values_read [] (x ∷ xs) ys column low same at = absurd (omega (arith, same))
values_read (shape ∷ shapes) [] ys column low same at = absurd (omega (arith, same))
values_read (shape ∷ shapes) (x ∷ xs) ys column low same at =
    let own = read shape x ys column (columns_for shapes xs) low.0 at in
    ap₂ (λ v vs. v ∷ vs) own.is_value (values_read shapes xs ys (column + width shape) low.1 (omega (arith, same)) own.behind)

length-parted : (n : ℤ) (x : Fraction) (rest : List Fraction) → length (parted n x ++ rest) ≡ 2 + length rest
length-parted (pos n) x rest = omega arith
length-parted (negsuc n) x rest = omega arith

length-columns_of : (shape : Shape) (x : Fraction) (rest : List Fraction) → length (columns_of shape x ++ rest) ≡ width shape + length rest
length-columns_of (shifted l u) x rest = omega arith
length-columns_of (mirrored u) x rest = omega arith
length-columns_of free x rest = length-parted x.num x rest

pub length-columns_for : (shapes : List Shape) (xs : List Fraction) → length xs ≡ length shapes → length (columns_for shapes xs) ≡ column_count shapes
length-columns_for [] xs same = refl
length-columns_for (shape ∷ shapes) [] same = absurd (omega (arith, same))
length-columns_for (shape ∷ shapes) (x ∷ xs) same =
    length-columns_of shape x (columns_for shapes xs) ∙ ap (λ n. width shape + n) (length-columns_for shapes xs (omega (arith, same))) ∙ sym (sum_by-cons width shape shapes)
