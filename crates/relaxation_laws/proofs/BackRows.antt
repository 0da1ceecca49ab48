-- The form's rows with their weights are the model's rows with the weights that are brought back.
use Rattle.std.specs.Prelude.{flat_map, sum_by}
use Rattle.std.proofs.Common.{◌≡◌, ◌∙◌, refl, sym, ap, ap₂, subst, ℕ, suc, ◌+◌, List, [], ◌∷◌, ◌++◌, append_assoc, length, length-append, length-drop, drop, Ok, arith}
use Rattle.std.proofs.lemmas.List.Sums.{sum_by-cons}
use Rattle.frac128.specs.Fraction.{Fraction, exact_difference, negation, zero_value}
use Rattle.frac128.proofs.Field.{exact_product-negation_left, exact_product-negation_right, exact_product-sum, exact_sum-zero_left, exact_sum_assoc}
use Rattle.frac128.proofs.Chains.{difference_is, same_ok, through}
use Rattle.frac128.proofs.Sums.{◌⊕◌, ◌⊗◌}
use Rattle.model_data.specs.Size.{rows_of_sense}
use Rattle.model_data.specs.declared.model.Row.{Row}
use Rattle.model_data.specs.declared.model.Sense.{Sense}
use Rattle.model_data.specs.declared.model.Sense.TheVariants.{Equal, Greater, Less}
use Rattle.dictionary.specs.Dictionary.{each}
use Rattle.dictionary.specs.declared.standard.StdRow.{StdRow}
use Rattle.solve_defs.specs.StandardForm.{Shape, by_sense, negated, row_entries, row_weight, row_weights, rows_of, side_less}
use Rattle.solve_defs.specs.Values.{value_at}
use Rattle.solve_defs.proofs.FormLists.{Each, at_drop}
use Rattle.relaxation_laws.specs.FormWeights.{weighted}
use Rattle.relaxation_laws.specs.LeafSums.{row_total}
use Rattle.relaxation_laws.proofs.Priced.{weighted_low}

-- what a row has, which turns with it
pub record TurnsWith (part : StdRow → Fraction) : Type 0 where
  pub turned : (row : StdRow) → part (negated row) ≡ negation (part row)

abbrev own_row : List Shape → Row → Fraction → StdRow
own_row shapes row side = record { coefs = row_entries shapes row.terms; rhs = side }

one_on : (k : ℕ) → k + 1 ≡ suc k
one_on k = omega arith

two_on : (k : ℕ) → k + 2 ≡ suc (suc k)
two_on k = omega arith

-- the form's rows of one row of the model
sense_part : (part : StdRow → Fraction) → TurnsWith part → (sense : Sense) (own : StdRow) (rest : List StdRow) (ys : List Fraction) (place : ℕ) (zs : List Fraction) (w : Fraction)
    → drop place ys ≡ zs → length zs ≡ length (by_sense sense own ++ rest) → row_weight sense (value_at ys place) (value_at ys (suc place)) ≡ Ok w
    → weighted part (by_sense sense own ++ rest) zs ≡ w ⊗ part own ⊕ weighted part rest (drop (place + rows_of_sense sense) ys)
sense_part part turns Less own rest ys place [] w at long h = absurd (omega (arith, long))
sense_part part turns Less own rest ys place (z ∷ zs) w at long h =
    let here = at_drop ys place zero_value z zs at in
    ap₂ (λ p q. p ⊗ part own ⊕ weighted part rest q) (sym here.0 ∙ same_ok _ w h) (sym here.1 ∙ ap (λ k. drop k ys) (sym (one_on place)))
sense_part part turns Greater own rest ys place [] w at long h = absurd (omega (arith, long))
sense_part part turns Greater own rest ys place (z ∷ zs) w at long h =
    let here = at_drop ys place zero_value z zs at in
    ap₂ (λ p q. p ⊕ weighted part rest q)
    (ap (λ t. z ⊗ t) (turns.turned own) ∙ exact_product-negation_right z (part own) ∙ sym (exact_product-negation_left z (part own)) ∙ ap (λ p. p ⊗ part own) (ap negation (sym here.0) ∙ same_ok _ w h))
    (sym here.1 ∙ ap (λ k. drop k ys) (sym (one_on place)))
sense_part part turns Equal own rest ys place [] w at long h = absurd (omega (arith, long))
sense_part part turns Equal own rest ys place (z ∷ []) w at long h = absurd (omega (arith, long))
sense_part part turns Equal own rest ys place (z ∷ y ∷ zs) w at long h =
    let here = at_drop ys place zero_value z (y ∷ zs) at in
    let next = at_drop ys (suc place) zero_value y zs here.1 in
    let value : w ≡ z ⊕ negation y = difference_is (value_at ys place) (value_at ys (suc place)) w h ∙ ap₂ exact_difference here.0 next.0 in
    ap (λ t. z ⊗ part own ⊕ (t ⊕ weighted part rest zs)) (ap (λ t. y ⊗ t) (turns.turned own) ∙ exact_product-negation_right y (part own) ∙ sym (exact_product-negation_left y (part own)))
    ∙ sym (exact_sum_assoc (z ⊗ part own) (negation y ⊗ part own) (weighted part rest zs))
    ∙ ap₂ (λ p q. p ⊕ weighted part rest q) (sym (exact_product-sum z (negation y) (part own)) ∙ ap (λ p. p ⊗ part own) (sym value)) (sym next.1 ∙ ap (λ k. drop k ys) (sym (two_on place)))

-- what each row of the form has is known by the model's
abbrev pub HasParts : List Shape → (StdRow → Fraction) → (Row → Fraction) → Row → Type 0
HasParts shapes part known row = (side w : Fraction) → side_less shapes row.rhs row.terms ≡ Ok side → w ⊗ part (own_row shapes row side) ≡ w ⊗ known row

pub rows_part : (shapes : List Shape) (part : StdRow → Fraction) (known : Row → Fraction) → TurnsWith part → (rows : List Row) → Each (HasParts shapes part known) rows
    → (made : List (List StdRow)) (spans : List StdRow) (ys : List Fraction) (place : ℕ) (ws : List Fraction) → each (rows_of shapes) rows ≡ Ok made → row_weights place rows ys ≡ Ok ws
    → length (drop place ys) ≡ length (flat_map (λ same. same) made ++ spans)
    → weighted part (flat_map (λ same. same) made ++ spans) (drop place ys) ≡ row_total known rows ws ⊕ weighted part spans (drop (place + sum_by (λ row. rows_of_sense row.sense) rows) ys)
rows_part shapes part known turns [] has made spans ys place ws is_made are long =
    let none : [] ≡ made = same_ok [] made is_made in
    subst (λ parts. weighted part (flat_map (λ same. same) parts ++ spans) (drop place ys) ≡ zero_value ⊕ weighted part spans (drop (place + 0) ys)) none
    (ap (λ k. weighted part spans (drop k ys)) (nothing_on place) ∙ sym (exact_sum-zero_left (weighted part spans (drop (place + 0) ys)) (weighted_low part spans (drop (place + 0) ys))))
  where
    nothing_on : (k : ℕ) → k ≡ k + 0
    nothing_on k = omega arith
rows_part shapes part known turns (row ∷ rows) has made spans ys place ws is_made are long =
    let first = through (rows_of shapes row) _ made is_made in
    let others = through (each (rows_of shapes) rows) _ made first.rest in
    let side = through (side_less shapes row.rhs row.terms) _ first.value first.first in
    let own = own_row shapes row side.value in
    let weight = through (row_weight row.sense (value_at ys place) (value_at ys (suc place))) _ ws are in
    let weights = through (row_weights (place + rows_of_sense row.sense) rows ys) _ ws weight.rest in
    let flat = flat_map (λ same. same) others.value in
    let whole : flat_map (λ same. same) made ++ spans ≡ by_sense row.sense own ++ (flat ++ spans) =
    ap (λ parts. flat_map (λ same. same) parts ++ spans) (sym (same_ok (first.value ∷ others.value) made others.rest))
    ∙ ap (λ front. (front ++ flat) ++ spans) (sym (same_ok (by_sense row.sense own) first.value side.rest)) ∙ append_assoc (by_sense row.sense own) flat spans in
    let size : length (drop place ys) ≡ length (by_sense row.sense own ++ (flat ++ spans)) = long ∙ ap length whole in
    let later = place + rows_of_sense row.sense in
    let rest = rows_part shapes part known turns rows has.1 others.value spans ys later weights.value others.first weights.first (after row.sense own (flat ++ spans) ys place size) in
    ap (λ list. weighted part list (drop place ys)) whole
    ∙ sense_part part turns row.sense own (flat ++ spans) ys place (drop place ys) weight.value refl size weight.first
    ∙ ap₂ (λ p q. p ⊕ q) (has.0 side.value weight.value side.first) rest
    ∙ sym (exact_sum_assoc (weight.value ⊗ known row) (row_total known rows weights.value) (weighted part spans (drop (later + sum_by (λ r. rows_of_sense r.sense) rows) ys)))
    ∙ ap₂ (λ p k. p ⊕ weighted part spans (drop k ys)) (ap (row_total known (row ∷ rows)) (same_ok (weight.value ∷ weights.value) ws weights.rest))
    (more place (rows_of_sense row.sense) (sum_by (λ r. rows_of_sense r.sense) rows) (sum_by (λ r. rows_of_sense r.sense) (row ∷ rows)) (sum_by-cons (λ r. rows_of_sense r.sense) row rows))
  where
    more : (p a b c : ℕ) → c ≡ a + b → p + a + b ≡ p + c
    more p a b c e = omega (arith, e)

    after : (sense : Sense) (o : StdRow) (later : List StdRow) (list : List Fraction) (p : ℕ) → length (drop p list) ≡ length (by_sense sense o ++ later) → length (drop (p + rows_of_sense sense) list) ≡ length later
    after Less o later list p e = omega (arith, e, length-drop p list, length-drop (p + 1) list)
    after Greater o later list p e = omega (arith, e, length-drop p list, length-drop (p + 1) list)
    after Equal o later list p e = omega (arith, e, length-drop p list, length-drop (p + 2) list)

-- so many rows of the form
sense_count : (sense : Sense) (own : StdRow) → length (by_sense sense own) ≡ rows_of_sense sense
sense_count Less own = refl
sense_count Greater own = refl
sense_count Equal own = refl

pub rows_count : (shapes : List Shape) (rows : List Row) (made : List (List StdRow)) → each (rows_of shapes) rows ≡ Ok made → length (flat_map (λ same. same) made) ≡ sum_by (λ row. rows_of_sense row.sense) rows
rows_count shapes [] made is_made = ap (λ parts. length (flat_map (λ same. same) parts)) (sym (same_ok [] made is_made))
rows_count shapes (row ∷ rows) made is_made =
    let first = through (rows_of shapes row) _ made is_made in
    let others = through (each (rows_of shapes) rows) _ made first.rest in
    let side = through (side_less shapes row.rhs row.terms) _ first.value first.first in
    let own = own_row shapes row side.value in
    ap (λ parts. length (flat_map (λ same. same) parts)) (sym (same_ok (first.value ∷ others.value) made others.rest)) ∙ length-append first.value (flat_map (λ same. same) others.value)
    ∙ ap₂ (λ a b. a + b) (ap length (sym (same_ok (by_sense row.sense own) first.value side.rest)) ∙ sense_count row.sense own) (rows_count shapes rows others.value others.first)
    ∙ sym (sum_by-cons (λ r. rows_of_sense r.sense) row rows)
