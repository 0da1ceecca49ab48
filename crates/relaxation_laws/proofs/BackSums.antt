-- What the weights that are brought back make of the model's rows and bounds: the objective's coefficients, and the side.
use Rattle.std.specs.Prelude.{flat_map, sum_by}
use Rattle.std.proofs.Common.{◌≡◌, ◌∙◌, refl, sym, ap, ap₂, ℕ, ◌+◌, List, [], ◌∷◌, ◌++◌, length, length-append, length-drop, map, drop, ◌-◌, All, Ok, arith}
use Rattle.std.proofs.lemmas.List.{length-map}
use Rattle.frac128.specs.Fraction.{Fraction, negation, zero_value}
use Rattle.frac128.specs.Lowest.{IsInLowestTerms}
use Rattle.frac128.proofs.Field.{exact_product-sum_right, exact_product-zero_right, exact_sum-negation, exact_sum-zero_left, exact_sum_assoc, exact_sum_comm, negation-negation}
use Rattle.frac128.proofs.Sums.{interchange, minus, minus_is, no_zeros, sums, ◌⊕◌, ◌⊗◌}
use Rattle.model_data.specs.Size.{rows_of_sense}
use Rattle.model_data.specs.declared.model.Model.{Model}
use Rattle.model_data.specs.declared.model.Row.{Row}
use Rattle.dictionary.specs.Dictionary.{numbers_from}
use Rattle.dictionary.specs.declared.standard.Std.{Std}
use Rattle.dictionary.specs.declared.standard.StdRow.{StdRow}
use Rattle.dictionary.proofs.Opened.{length-numbers_from}
use Rattle.solve_defs.specs.Columns.{columns_sum}
use Rattle.solve_defs.specs.StandardForm.{Shape, column_count, entries, low_weights, row_weights, shapes_of, up_weights}
use Rattle.solve_defs.specs.Values.{coefficient}
use Rattle.solve_defs.specs.declared.cut.Cut.{Cut}
use Rattle.solve_defs.specs.declared.solving.Duals.{Duals}
use Rattle.solve_defs.proofs.FormLists.{Each}
use Rattle.solve_defs.proofs.FormRows.{IsRising, side_is}
use Rattle.solve_defs.proofs.FormSums.{columns_sum-negation, columns_sum_low, offset_value, offsets, terms_by_place, terms_sum}
use Rattle.solve_defs.proofs.FormValues.{Parts}
use Rattle.solve_defs.proofs.FormBounds.{low_negation}
use Rattle.relaxation_laws.specs.FormEnds.{AreAtLeastZero}
use Rattle.relaxation_laws.specs.FormWeights.{Prices, weighted, weighted_sides, weighted_values}
use Rattle.relaxation_laws.specs.LeafSums.{bound_total, coefficients_of, lower_side, row_total, upper_side}
use Rattle.relaxation_laws.proofs.BackBounds.{bounds_part, sides_part, spans_zero}
use Rattle.relaxation_laws.proofs.BackRows.{HasParts, TurnsWith, rows_count, rows_part}
use Rattle.relaxation_laws.proofs.Lifted.{NoneFree, both_at_one, entries_both, entries_lift, length-both, length-lift, lift, lift_low, none_free}
use Rattle.relaxation_laws.proofs.Priced.{lowest, lowest_length, lowest_low, lowest_product, lowest_sum}

-- ---- sums over rows

pub row_total-same : (part other : Row → Fraction) (rows : List Row) (ws : List Fraction) → ((row : Row) (w : Fraction) → w ⊗ part row ≡ w ⊗ other row) → row_total part rows ws ≡ row_total other rows ws
row_total-same part other [] ws same = refl
row_total-same part other (row ∷ rows) [] same = refl
row_total-same part other (row ∷ rows) (w ∷ ws) same = ap₂ (λ p q. p ⊕ q) (same row w) (row_total-same part other rows ws same)

row_total-each : (part other : Row → Fraction) (P : Row → Type 0) (rows : List Row) (ws : List Fraction) → Each P rows → ((row : Row) (w : Fraction) → P row → w ⊗ part row ≡ w ⊗ other row) → row_total part rows ws ≡ row_total other rows ws
row_total-each part other P [] ws all same = refl
row_total-each part other P (row ∷ rows) [] all same = refl
row_total-each part other P (row ∷ rows) (w ∷ ws) all same = ap₂ (λ p q. p ⊕ q) (same row w all.0) (row_total-each part other P rows ws all.1 same)

row_total-plus : (part other : Row → Fraction) (rows : List Row) (ws : List Fraction) → row_total part rows ws ⊕ row_total other rows ws ≡ row_total (λ row. part row ⊕ other row) rows ws
row_total-plus part other [] ws = sym no_zeros
row_total-plus part other (row ∷ rows) [] = sym no_zeros
row_total-plus part other (row ∷ rows) (w ∷ ws) =
    interchange (w ⊗ part row) (row_total part rows ws) (w ⊗ other row) (row_total other rows ws)
    ∙ ap₂ (λ p q. p ⊕ q) (sym (exact_product-sum_right w (part row) (other row))) (row_total-plus part other rows ws)

each_of : {A : Type 0} (P : A → Type 0) (xs : List A) → ((a : A) → P a) → Each P xs
each_of P [] all = tt
each_of P (x ∷ xs) all = (all x, each_of P xs all)

-- ---- what is given: a form, its weights, and those of the model's rows

pub record Given (m : Model) (cuts : List Cut) (s : Std) (k : Fraction) (cs : List Fraction) (weights : Duals) (total : Fraction) (ws : List Fraction) : Type 0 where
  pub parts : Parts m cuts s
  pub same : length cs ≡ length (shapes_of m cuts)
  pub columns : length s.obj ≡ column_count (shapes_of m cuts)
  pub constant : Fraction
  pub prices : Prices s constant (entries (shapes_of m cuts) cs) weights total
  pub is_constant : zero_value ⊕ constant ≡ k ⊕ columns_sum cs (offsets (shapes_of m cuts))
  pub at_least_zero : AreAtLeastZero weights
  pub rows : row_weights 0 m.rows weights.ys ≡ Ok ws
  pub rising : Each (λ row. IsRising row.terms) m.rows

-- so many rows stand before those of variables
abbrev pub before_spans : Model → ℕ
before_spans m = sum_by (λ row. rows_of_sense row.sense) m.rows

abbrev pub lows_of : Model → List Cut → Duals → List Fraction
lows_of m cuts weights = low_weights 0 (shapes_of m cuts) weights.reduced

abbrev pub ups_of : Model → List Cut → Duals → List Fraction
ups_of m cuts weights = up_weights (before_spans m) 0 (shapes_of m cuts) weights.ys weights.reduced

module _ (m : Model) (cuts : List Cut) (s : Std) (k : Fraction) (cs : List Fraction) (weights : Duals) (total : Fraction) (ws : List Fraction) (given : Given m cuts s k cs weights total ws) where
  abbrev shapes : List Shape
  shapes = shapes_of m cuts

  in_rows : length weights.ys ≡ length (flat_map (λ same. same) given.parts.rows ++ given.parts.spans)
  in_rows = given.prices.rows ∙ ap length (sym given.parts.form_rows)

  -- the form's rows as the model's, and those of variables
  split : (part : StdRow → Fraction) (known : Row → Fraction) → TurnsWith part → Each (HasParts shapes part known) m.rows
      → weighted part s.rows weights.ys ≡ row_total known m.rows ws ⊕ weighted part given.parts.spans (drop (0 + before_spans m) weights.ys)
  split part known turns has =
      ap (λ rows. weighted part rows weights.ys) (sym given.parts.form_rows)
      ∙ rows_part shapes part known turns m.rows has given.parts.rows given.parts.spans weights.ys 0 ws given.parts.rows_are given.rows in_rows

  spans_long : length (drop (0 + before_spans m) weights.ys) ≡ length given.parts.spans
  spans_long =
      let count = rows_count shapes m.rows given.parts.rows given.parts.rows_are in
      let both = length-append (flat_map (λ same. same) given.parts.rows) given.parts.spans in
      left_over_is (0 + before_spans m) (before_spans m) (length-drop (0 + before_spans m) weights.ys) in_rows both count (omega arith)
    where
      left_over_is : {a b c e f : ℕ} (n n' : ℕ) → a ≡ b - n → b ≡ c → c ≡ e + f → e ≡ n' → n ≡ n' → a ≡ f
      left_over_is n n' p q r t u = omega (arith, p, q, r, t, u)

  at_values : List Fraction → StdRow → Fraction
  at_values t row = columns_sum row.coefs t

  turns_at : (t : List Fraction) → TurnsWith (λ row. columns_sum row.coefs t)
  turns_at t = record { turned = λ row. columns_sum-negation row.coefs t }

  -- the rows' coefficients of all variables
  n : ℕ
  n = length shapes

  free_none : NoneFree shapes weights.reduced
  free_none =
      let both = both_at_one shapes in
      let low = columns_sum_low weights.reduced both in
      let rows : weighted_values s weights.ys both ≡ zero_value =
      split (λ row. columns_sum row.coefs both) (λ row. zero_value) (turns_at both) (each_of (HasParts shapes (λ row. columns_sum row.coefs both) (λ row. zero_value)) m.rows (λ row side w made. ap (λ t. w ⊗ t) (entries_both shapes (map (coefficient row.terms) (numbers_from 0 (length shapes))))))
      ∙ ap₂ (λ p q. p ⊕ q) (no_rows m.rows ws) (spans_zero shapes given.parts.spans (drop (0 + before_spans m) weights.ys) given.parts.spans_are) ∙ sym no_zeros in
      let none : zero_value ≡ zero_value ⊕ negation (columns_sum weights.reduced both) =
      sym (entries_both shapes cs) ∙ given.prices.values both (length-both shapes ∙ sym given.columns) ∙ ap (λ t. t ⊕ negation (columns_sum weights.reduced both)) rows in
      none_free shapes weights.reduced given.at_least_zero.lowest given.at_least_zero.reduced
      (sym (negation-negation (columns_sum weights.reduced both)) ∙ ap negation (sym (exact_sum-zero_left (negation (columns_sum weights.reduced both)) (low_negation (columns_sum weights.reduced both) low)) ∙ sym none))
    where
      no_rows : (rows : List Row) (vs : List Fraction) → row_total (λ row. zero_value) rows vs ≡ zero_value
      no_rows [] vs = refl
      no_rows (row ∷ rows) [] = refl
      no_rows (row ∷ rows) (v ∷ vs) = ap₂ (λ p q. p ⊕ q) (exact_product-zero_right v) (no_rows rows vs) ∙ sym no_zeros

  -- The rows and the bounds with their weights have the objective's value, at values in lowest terms.
  values_low : (xs : List Fraction) → length xs ≡ length shapes → All IsInLowestTerms xs
      → columns_sum cs xs ≡ row_total (λ row. columns_sum (coefficients_of (length shapes) row) xs) m.rows ws ⊕ (columns_sum (ups_of m cuts weights) xs ⊕ minus (columns_sum (lows_of m cuts weights) xs))
  values_low xs same low =
      let t = lift shapes xs in
      let wide = length-lift shapes xs same in
      let known : Row → Fraction = λ row. columns_sum (coefficients_of (length shapes) row) xs in
      let d = columns_sum weights.reduced t in
      let rest = drop (0 + before_spans m) weights.ys in
      sym (entries_lift shapes cs xs given.same same) ∙ given.prices.values t (wide ∙ sym given.columns)
      ∙ ap₂ (λ p q. p ⊕ q)
      (split (λ row. columns_sum row.coefs t) known (turns_at t)
      (each_of (HasParts shapes (λ row. columns_sum row.coefs t) known) m.rows
      (λ row side w made. ap (λ v. w ⊗ v) (entries_lift shapes (coefficients_of (length shapes) row) xs (length-map (numbers_from 0 (length shapes)) (coefficient row.terms) ∙ length-numbers_from 0 (length shapes)) same))))
      (sym (minus_is d))
      ∙ exact_sum_assoc (row_total known m.rows ws) (weighted (λ row. columns_sum row.coefs t) given.parts.spans rest) (minus d)
      ∙ ap (λ v. row_total known m.rows ws ⊕ v)
      (bounds_part (column_count shapes) t weights.ys weights.reduced wide (lift_low shapes xs low) shapes (before_spans m) 0 xs weights.reduced rest given.parts.spans given.parts.spans_are same refl refl (given.prices.columns ∙ given.columns) free_none
      (ap (λ k. drop k weights.ys) (zero_more (before_spans m))) spans_long)
    where
      zero_more : (k : ℕ) → k ≡ 0 + k
      zero_more k = omega arith

  pub values_back : (xs : List Fraction) → length xs ≡ length shapes
      → columns_sum cs xs ≡ row_total (λ row. columns_sum (coefficients_of (length shapes) row) xs) m.rows ws ⊕ (columns_sum (ups_of m cuts weights) xs ⊕ minus (columns_sum (lows_of m cuts weights) xs))
  values_back xs same =
      sym (lowest_sum cs xs) ∙ values_low (lowest xs) (lowest_length xs ∙ same) (lowest_low xs)
      ∙ ap₂ (λ p q. p ⊕ q)
      (row_total-same (λ row. columns_sum (coefficients_of (length shapes) row) (lowest xs)) (λ row. columns_sum (coefficients_of (length shapes) row) xs) m.rows ws (λ row w. ap (λ v. w ⊗ v) (lowest_sum (coefficients_of (length shapes) row) xs)))
      (ap₂ (λ p q. p ⊕ minus q) (lowest_sum (ups_of m cuts weights) xs) (lowest_sum (lows_of m cuts weights) xs))

  -- ---- the side

  offset_terms : (row : Row) → IsRising row.terms → columns_sum (coefficients_of (length shapes) row) (offsets shapes) ≡ terms_sum row.terms (offsets shapes)
  offset_terms row rising =
      sym (terms_by_place row.terms (offsets shapes) rising ∙ ap (λ size. columns_sum (map (coefficient row.terms) (numbers_from 0 size)) (offsets shapes)) (length-map shapes offset_value))

  -- a right side, and what moved to it
  side_together : (w a r : Fraction) → w ⊗ (a ⊕ (r ⊕ negation a)) ≡ w ⊗ r
  side_together w a r =
      ap (λ v. w ⊗ v) (ap (λ v. a ⊕ v) (exact_sum_comm r (negation a)) ∙ sym (exact_sum_assoc a (negation a) r) ∙ ap (λ v. v ⊕ r) (exact_sum-negation a)) ∙ lowest_product w r

  pub side_back : IsInLowestTerms total → total ≡ k ⊕ (row_total (λ row. row.rhs) m.rows ws ⊕ (bound_total lower_side shapes (lows_of m cuts weights) ⊕ bound_total upper_side shapes (ups_of m cuts weights)))
  side_back low =
      let offs = offsets shapes in
      let left : Row → Fraction = λ row. row.rhs ⊕ negation (terms_sum row.terms offs) in
      let there : Row → Fraction = λ row. columns_sum (coefficients_of (length shapes) row) offs in
      let u = columns_sum (ups_of m cuts weights) offs in
      let l = columns_sum (lows_of m cuts weights) offs in
      let rest = drop (0 + before_spans m) weights.ys in
      let spans = weighted (λ row. row.rhs) given.parts.spans rest in
      let sides : weighted_sides s weights.ys ≡ row_total left m.rows ws ⊕ spans =
      split (λ row. row.rhs) left record { turned = λ row. refl }
      (each_of (HasParts shapes (λ row. row.rhs) left) m.rows (λ row side w made. sym (lowest_product w side) ∙ ap (λ v. w ⊗ v) (side_is shapes row.rhs row.terms side made))) in
      let rows : row_total there m.rows ws ⊕ row_total left m.rows ws ≡ row_total (λ row. row.rhs) m.rows ws =
      row_total-plus there left m.rows ws
      ∙ row_total-each (λ row. there row ⊕ left row) (λ row. row.rhs) (λ row. IsRising row.terms) m.rows ws given.rising (λ row w rising. ap (λ v. w ⊗ (v ⊕ left row)) (offset_terms row rising) ∙ side_together w (terms_sum row.terms offs) row.rhs) in
      sym (exact_sum-zero_left total low) ∙ ap (λ v. zero_value ⊕ v) given.prices.side
      ∙ sym (exact_sum_assoc zero_value given.constant (weighted_sides s weights.ys))
      ∙ ap₂ (λ p q. p ⊕ q) (given.is_constant ∙ ap (λ v. k ⊕ v) (values_back offs (length-map shapes offset_value))) sides
      ∙ sorted k (row_total there m.rows ws) u l (row_total left m.rows ws) spans
      ∙ ap₂ (λ p q. k ⊕ (p ⊕ q)) rows
      (sides_part (column_count shapes) weights.ys weights.reduced shapes (before_spans m) 0 rest given.parts.spans given.parts.spans_are (ap (λ v. drop v weights.ys) (zero_more (before_spans m))) spans_long)
    where
      zero_more : (v : ℕ) → v ≡ 0 + v
      zero_more v = omega arith

      sorted : (a r p q r2 e : Fraction) → (a ⊕ (r ⊕ (p ⊕ minus q))) ⊕ (r2 ⊕ e) ≡ a ⊕ ((r ⊕ r2) ⊕ (e ⊕ (p ⊕ minus q)))
      sorted a r p q r2 e = simp sums
