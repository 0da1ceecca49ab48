-- A row of the model holds just where its rows in standard form do.
use Rattle.std.proofs.Common.{◌≡◌, refl, sym, ◌∙◌, ap, subst, subst₂, ℕ, suc, ◌+◌, ◌<◌, List, [], ◌∷◌, length, map, slice_index_or, Option, Some, None, Ok}
use Rattle.std.specs.Prelude.{AllPairs, flat_map, unwrap_or}
use Rattle.std.proofs.lemmas.List.{length-map}
use Rattle.frac128.specs.Fraction.{Fraction, negation, zero_value}
use Rattle.frac128.specs.Order.{IsAtMost}
use Rattle.frac128.specs.Checked.{◌>>=◌}
use Rattle.frac128.proofs.Field.{apart_of-sum, exact_product-zero_right, exact_sum-negation, exact_sum-zero_left, exact_sum-zero_right, exact_sum_assoc, exact_sum_comm, negation-negation, negation-sum}
use Rattle.frac128.proofs.Ordered.{IsAtMost-negation, IsAtMost-sum, IsAtMost_trans}
use Rattle.model_data.specs.declared.model.Row.{Row}
use Rattle.model_data.specs.declared.model.Sense.{Sense}
use Rattle.model_data.specs.declared.model.Sense.TheVariants.{Less, Greater, Equal}
use Rattle.model_data.specs.declared.model.Term.{Term}
use Rattle.dictionary.specs.Dictionary.{each, numbers_from}
use Rattle.dictionary.specs.declared.standard.StdRow.{StdRow}
use Rattle.solve_defs.specs.Columns.{KeepsStdRow, columns_sum, exact_point, exact_values_from}
use Rattle.frac128.specs.Lowest.{IsInLowestTerms}
use Rattle.solve_defs.specs.StandardForm.{Shape, by_sense, column_count, free, less_offset, negated, offset, row_entries, rows_of, side_less, width}
use Rattle.solve_defs.specs.Values.{coefficient}
use Rattle.solve_defs.proofs.FormLists.{Each, each-append, each_left, each_right, index-map}
use Rattle.solve_defs.proofs.FormQuotients.{at_most_lowest, lowest_at_most, zero-sum}
use Rattle.frac128.proofs.Sums.{◌⊕◌, ◌⊗◌}
use Rattle.solve_defs.proofs.FormSums.{columns_and_offsets, columns_sum-negation, columns_sum_low, offset_value, offsets, places_sum, terms_by_place, terms_sum}
use Rattle.frac128.proofs.Chains.{less_product_is, same_ok, through}
use Rattle.dictionary.proofs.Opened.{length-numbers_from}

-- ---- a right side without the offsets

-- 0 on the left or on the right
turned_zero : (x : Fraction) → x ⊕ zero_value ≡ zero_value ⊕ x
turned_zero x = exact_sum_comm x zero_value

offset_less : (o : Option Fraction) (coef side next : Fraction) → less_offset o coef side ≡ Ok next
    → zero_value ⊕ next ≡ side ⊕ negation (coef ⊗ unwrap_or o zero_value)
offset_less None coef side next h =
    ap (λ x. zero_value ⊕ x) (sym (same_ok side next h)) ∙ sym (ap (λ x. side ⊕ negation x) (exact_product-zero_right coef) ∙ turned_zero side)
offset_less (Some x) coef side next h =
    ap (λ y. zero_value ⊕ y) (less_product_is coef side x next h) ∙ exact_sum-zero_left (side ⊕ negation (coef ⊗ x)) (apart_of-sum side (negation (coef ⊗ x)))

pub side_is : (shapes : List Shape) (side : Fraction) (terms : List Term) (out : Fraction) → side_less shapes side terms ≡ Ok out
    → zero_value ⊕ out ≡ side ⊕ negation (terms_sum terms (offsets shapes))
side_is shapes side [] out h = ap (λ x. zero_value ⊕ x) (sym (same_ok side out h)) ∙ sym (turned_zero side)
side_is shapes side (t ∷ terms) out h =
    let made = through (less_offset (offset (slice_index_or shapes t.var free)) t.coef side) (λ next. side_less shapes next terms) out h in
    let own = t.coef ⊗ offset_value (slice_index_or shapes t.var free) in
    let rest = terms_sum terms (offsets shapes) in
    side_is shapes made.value terms out made.rest
    ∙ sym (zero-sum made.value (negation rest))
    ∙ ap (λ x. x ⊕ negation rest) (offset_less (offset (slice_index_or shapes t.var free)) t.coef side made.value made.first)
    ∙ exact_sum_assoc side (negation own) (negation rest) ∙ ap (λ x. side ⊕ x) (sym (negation-sum own rest))
    ∙ ap (λ x. side ⊕ negation (t.coef ⊗ x ⊕ rest)) (sym (index-map offset_value shapes t.var free zero_value refl))

-- ---- what moves from one side to the other

module _ (columns offset_sum all side out : Fraction) (low : IsInLowestTerms columns) (whole : all ≡ columns ⊕ offset_sum)
    (moved : zero_value ⊕ out ≡ side ⊕ negation offset_sum) where
  back : (x : Fraction) → (x ⊕ negation offset_sum) ⊕ offset_sum ≡ zero_value ⊕ x
  back x =
      exact_sum_assoc x (negation offset_sum) offset_sum
      ∙ ap (λ z. x ⊕ z) (exact_sum_comm (negation offset_sum) offset_sum ∙ exact_sum-negation offset_sum) ∙ turned_zero x

  given : zero_value ⊕ side ≡ out ⊕ offset_sum
  given = sym (back side) ∙ ap (λ x. x ⊕ offset_sum) (sym moved) ∙ zero-sum out offset_sum

  forth : all ⊕ negation offset_sum ≡ columns
  forth =
      ap (λ x. x ⊕ negation offset_sum) whole ∙ exact_sum_assoc columns offset_sum (negation offset_sum)
      ∙ ap (λ x. columns ⊕ x) (exact_sum-negation offset_sum) ∙ exact_sum-zero_right columns low

  pub at_most_back : IsAtMost columns out → IsAtMost all side
  at_most_back h =
      IsAtMost_trans all (zero_value ⊕ side) side
      (subst₂ IsAtMost (sym whole) (sym given) (IsAtMost-sum columns out offset_sum h)) (lowest_at_most side)

  pub at_least_back : IsAtMost out columns → IsAtMost side all
  at_least_back h =
      IsAtMost_trans side (zero_value ⊕ side) all (at_most_lowest side)
      (subst₂ IsAtMost (sym given) (sym whole) (IsAtMost-sum out columns offset_sum h))

  pub at_most_forth : IsAtMost all side → IsAtMost columns out
  at_most_forth h =
      IsAtMost_trans columns (zero_value ⊕ out) out
      (subst₂ IsAtMost forth (sym moved) (IsAtMost-sum all side (negation offset_sum) h)) (lowest_at_most out)

  pub at_least_forth : IsAtMost side all → IsAtMost out columns
  at_least_forth h =
      IsAtMost_trans out (zero_value ⊕ out) columns (at_most_lowest out)
      (subst₂ IsAtMost (sym moved) forth (IsAtMost-sum side all (negation offset_sum) h))

-- ---- rows by their sense

abbrev pub Holds : Sense → Fraction → Fraction → Type 0
Holds Less x y = IsAtMost x y
Holds Greater x y = IsAtMost y x
Holds Equal x y = IsAtMost x y × IsAtMost y x

abbrev std_row : List Fraction → Fraction → StdRow
std_row coefs side = record { coefs = coefs; rhs = side }

unnegated : (x y : Fraction) → IsAtMost (negation x) (negation y) → IsAtMost y x
unnegated x y h = subst₂ IsAtMost (negation-negation y) (negation-negation x) (IsAtMost-negation (negation x) (negation y) h)

negated_back : (coefs ys : List Fraction) (side : Fraction) → KeepsStdRow ys (negated (std_row coefs side)) → IsAtMost side (columns_sum coefs ys)
negated_back coefs ys side h =
    unnegated (columns_sum coefs ys) side (subst (λ x. IsAtMost x (negation side)) (columns_sum-negation coefs ys) h)

negated_forth : (coefs ys : List Fraction) (side : Fraction) → IsAtMost side (columns_sum coefs ys) → KeepsStdRow ys (negated (std_row coefs side))
negated_forth coefs ys side h =
    subst (λ x. IsAtMost x (negation side)) (sym (columns_sum-negation coefs ys)) (IsAtMost-negation side (columns_sum coefs ys) h)

sense_back : (sense : Sense) (coefs ys : List Fraction) (side : Fraction) → Each (KeepsStdRow ys) (by_sense sense (std_row coefs side)) → Holds sense (columns_sum coefs ys) side
sense_back Less coefs ys side h = h.0
sense_back Greater coefs ys side h = negated_back coefs ys side h.0
sense_back Equal coefs ys side h = (h.0, negated_back coefs ys side h.1.0)

sense_forth : (sense : Sense) (coefs ys : List Fraction) (side : Fraction) → Holds sense (columns_sum coefs ys) side → Each (KeepsStdRow ys) (by_sense sense (std_row coefs side))
sense_forth Less coefs ys side h = (h, tt)
sense_forth Greater coefs ys side h = (negated_forth coefs ys side h, tt)
sense_forth Equal coefs ys side h = (h.0, (negated_forth coefs ys side h.1, tt))

module _ (columns offset_sum all side out : Fraction) (low : IsInLowestTerms columns) (whole : all ≡ columns ⊕ offset_sum)
    (moved : zero_value ⊕ out ≡ side ⊕ negation offset_sum) where
  holds_back : (sense : Sense) → Holds sense columns out → Holds sense all side
  holds_back Less h = at_most_back columns offset_sum all side out low whole moved h
  holds_back Greater h = at_least_back columns offset_sum all side out low whole moved h
  holds_back Equal h = (at_most_back columns offset_sum all side out low whole moved h.0, at_least_back columns offset_sum all side out low whole moved h.1)

  holds_forth : (sense : Sense) → Holds sense all side → Holds sense columns out
  holds_forth Less h = at_most_forth columns offset_sum all side out low whole moved h
  holds_forth Greater h = at_least_forth columns offset_sum all side out low whole moved h
  holds_forth Equal h = (at_most_forth columns offset_sum all side out low whole moved h.0, at_least_forth columns offset_sum all side out low whole moved h.1)

-- ---- a row's sum as its columns'

pub length-exact_values_from : (column : ℕ) (shapes : List Shape) (ys : List Fraction) → length (exact_values_from column shapes ys) ≡ length shapes
length-exact_values_from column [] ys = refl
length-exact_values_from column (shape ∷ shapes) ys = ap suc (length-exact_values_from (column + width shape) shapes ys)

abbrev pub IsRising : List Term → Type 0
IsRising terms = AllPairs (λ s t. s.var < t.var) terms

places_sum-length : (terms : List Term) (n : ℕ) (xs : List Fraction) → length xs ≡ n → places_sum terms 0 xs ≡ columns_sum (map (coefficient terms) (numbers_from 0 n)) xs
places_sum-length terms n xs same = ap (λ k. columns_sum (map (coefficient terms) (numbers_from 0 k)) xs) same

pub row_sum_is : (shapes : List Shape) (terms : List Term) (ys : List Fraction) → IsRising terms → length ys ≡ column_count shapes
    → terms_sum terms (exact_point shapes ys) ≡ columns_sum (row_entries shapes terms) ys ⊕ terms_sum terms (offsets shapes)
row_sum_is shapes terms ys rising long =
    let n = length shapes in
    let cs = map (coefficient terms) (numbers_from 0 n) in
    terms_by_place terms (exact_point shapes ys) rising ∙ places_sum-length terms n (exact_point shapes ys) (length-exact_values_from 0 shapes ys)
    ∙ columns_and_offsets shapes 0 cs ys ys refl long (length-map (numbers_from 0 n) (coefficient terms) ∙ length-numbers_from 0 n)
    ∙ ap (λ s. columns_sum (row_entries shapes terms) ys ⊕ s)
    (sym (terms_by_place terms (offsets shapes) rising ∙ places_sum-length terms n (offsets shapes) (length-map shapes offset_value)))

-- ---- rows

-- the row holds at these values
abbrev pub HoldsAt : List Fraction → Row → Type 0
HoldsAt xs row = Holds row.sense (terms_sum row.terms xs) row.rhs

module _ (shapes : List Shape) (ys : List Fraction) (long : length ys ≡ column_count shapes) where
  row_back : (row : Row) (made : List StdRow) → IsRising row.terms → rows_of shapes row ≡ Ok made → Each (KeepsStdRow ys) made → HoldsAt (exact_point shapes ys) row
  row_back row made rising h each_holds =
      let s = through (side_less shapes row.rhs row.terms) (λ side. Ok (by_sense row.sense record { coefs = row_entries shapes row.terms; rhs = side })) made h in
      let rows = subst (λ rs. Each (KeepsStdRow ys) rs) (sym (same_ok _ made s.rest)) each_holds in
      holds_back (columns_sum (row_entries shapes row.terms) ys) (terms_sum row.terms (offsets shapes)) (terms_sum row.terms (exact_point shapes ys)) row.rhs s.value
      (columns_sum_low (row_entries shapes row.terms) ys) (row_sum_is shapes row.terms ys rising long) (side_is shapes row.rhs row.terms s.value s.first)
      row.sense (sense_back row.sense (row_entries shapes row.terms) ys s.value rows)

  row_forth : (row : Row) (made : List StdRow) → IsRising row.terms → rows_of shapes row ≡ Ok made → HoldsAt (exact_point shapes ys) row → Each (KeepsStdRow ys) made
  row_forth row made rising h holds =
      let s = through (side_less shapes row.rhs row.terms) (λ side. Ok (by_sense row.sense record { coefs = row_entries shapes row.terms; rhs = side })) made h in
      let over_columns = holds_forth (columns_sum (row_entries shapes row.terms) ys) (terms_sum row.terms (offsets shapes)) (terms_sum row.terms (exact_point shapes ys)) row.rhs s.value
      (columns_sum_low (row_entries shapes row.terms) ys) (row_sum_is shapes row.terms ys rising long) (side_is shapes row.rhs row.terms s.value s.first)
      row.sense holds in
      subst (λ rs. Each (KeepsStdRow ys) rs) (same_ok _ made s.rest) (sense_forth row.sense (row_entries shapes row.terms) ys s.value over_columns)

  pub rows_back : (rows : List Row) (made : List (List StdRow)) → Each (λ row. IsRising row.terms) rows → each (rows_of shapes) rows ≡ Ok made
      → Each (KeepsStdRow ys) (flat_map (λ same. same) made) → Each (HoldsAt (exact_point shapes ys)) rows
  rows_back [] made rising h each_holds = tt
  rows_back (row ∷ rows) made rising h each_holds =
      let s = through (rows_of shapes row) (λ y. each (rows_of shapes) rows >>= (λ rest. Ok (y ∷ rest))) made h in
      let t = through (each (rows_of shapes) rows) (λ rest. Ok (s.value ∷ rest)) made s.rest in
      let all = subst (λ rs. Each (KeepsStdRow ys) (flat_map (λ same. same) rs)) (sym (same_ok _ made t.rest)) each_holds in (
        row_back row s.value rising.0 s.first (each_left (KeepsStdRow ys) s.value (flat_map (λ same. same) t.value) all),
        rows_back rows t.value rising.1 t.first (each_right (KeepsStdRow ys) s.value (flat_map (λ same. same) t.value) all),
      )

  pub rows_forth : (rows : List Row) (made : List (List StdRow)) → Each (λ row. IsRising row.terms) rows → each (rows_of shapes) rows ≡ Ok made
      → Each (HoldsAt (exact_point shapes ys)) rows → Each (KeepsStdRow ys) (flat_map (λ same. same) made)
  rows_forth [] made rising h each_holds = subst (λ rs. Each (KeepsStdRow ys) (flat_map (λ same. same) rs)) (same_ok [] made h) tt
  rows_forth (row ∷ rows) made rising h each_holds =
      let s = through (rows_of shapes row) (λ y. each (rows_of shapes) rows >>= (λ rest. Ok (y ∷ rest))) made h in
      let t = through (each (rows_of shapes) rows) (λ rest. Ok (s.value ∷ rest)) made s.rest in
      subst (λ rs. Each (KeepsStdRow ys) (flat_map (λ same. same) rs)) (same_ok _ made t.rest)
      (each-append (KeepsStdRow ys) s.value (flat_map (λ same. same) t.value) (row_forth row s.value rising.0 s.first each_holds.0) (rows_forth rows t.value rising.1 t.first each_holds.1))
