-- A relaxation's weights, brought back to the model, bound or empty a leaf of a certificate.
use Rattle.std.proofs.Common.{◌≡◌, ◌∙◌, refl, sym, ap, ap₂, subst, suc, List, [], ◌∷◌, length, map, replicate, Ok, arith}
use Rattle.std.proofs.lemmas.List.{length-map}
use Rattle.std.proofs.lemmas.List.Sums.{sum_by-cons}
use Rattle.frac128.specs.Fraction.{Fraction, negation, zero_value}
use Rattle.frac128.specs.Order.{IsAtMost}
use Rattle.frac128.specs.Lowest.{IsInLowestTerms}
use Rattle.frac128.proofs.Field.{apart_of-sum, exact_product-zero_left, exact_sum-zero_left, negation-sum}
use Rattle.frac128.proofs.Ordered.{IsBelow_trans_right}
use Rattle.frac128.proofs.Chains.{same_ok, through}
use Rattle.frac128.proofs.Sums.{no_zeros, ◌⊕◌, ◌⊗◌}
use Rattle.model_data.specs.Lawful.{IsLawful}
use Rattle.model_data.specs.declared.model.Direction.{Direction}
use Rattle.model_data.specs.declared.model.Direction.TheVariants.{Maximize, Minimize}
use Rattle.model_data.specs.declared.model.Model.{Model}
use Rattle.model_data.specs.declared.model.Var.{Var}
use Rattle.model_data.specs.declared.solution.Weights.{Weights}
use Rattle.dictionary.specs.declared.standard.Std.{Std}
use Rattle.solve_defs.specs.Columns.{columns_sum}
use Rattle.solve_defs.specs.LeafWeights.{no_coefs, objective_to_maximize}
use Rattle.solve_defs.specs.Relaxations.{BoundBy, Emptied}
use Rattle.solve_defs.specs.StandardForm.{Shape, column_count, entries, free, mirrored, numbered, row_weights, shapes_of, shifted, standard_form, weights_back, width}
use Rattle.solve_defs.specs.Values.{turned}
use Rattle.solve_defs.specs.declared.cut.Cut.{Cut}
use Rattle.solve_defs.specs.declared.solving.Duals.{Duals}
use Rattle.solve_defs.proofs.FormPoints.{objective_coefs}
use Rattle.solve_defs.proofs.FormSums.{columns_sum-negation, offsets}
use Rattle.solve_defs.proofs.FormValues.{constant_value, parts}
use Rattle.solve_defs.proofs.FormLaw.{rises}
use Rattle.solve_defs.proofs.FormSizes.{length-obj, length-shapes_of}
use Rattle.relaxation_laws.specs.FormEnds.{ShowsBest, ShowsNoPoint}
use Rattle.relaxation_laws.specs.FormWeights.{Prices}
use Rattle.relaxation_laws.proofs.BackLeaf.{combines, side_is}
use Rattle.relaxation_laws.proofs.BackLooks.{same_at_most}
use Rattle.relaxation_laws.proofs.BackSums.{Given, lows_of, ups_of}

-- ---- the model's rows and columns

-- ---- the direction turns all alike

turned_negation : (d : Direction) (c : Fraction) → turned d (negation c) ≡ negation (turned d c)
turned_negation Minimize c = refl
turned_negation Maximize c = refl

turned_objs : (d : Direction) (vars : List Var) → map (λ v. turned d v.obj) vars ≡ map (turned d) (map (λ v. v.obj) vars)
turned_objs d [] = refl
turned_objs d (v ∷ vars) = ap (λ rest. turned d v.obj ∷ rest) (turned_objs d vars)

entries_turned : (d : Direction) (shapes : List Shape) (cs : List Fraction) → map (turned d) (entries shapes cs) ≡ entries shapes (map (turned d) cs)
entries_turned d [] cs = refl
entries_turned d (shape ∷ shapes) [] = refl
entries_turned d (shifted l u ∷ shapes) (c ∷ cs) = ap (λ rest. turned d c ∷ rest) (entries_turned d shapes cs)
entries_turned d (mirrored u ∷ shapes) (c ∷ cs) = ap₂ (λ x rest. x ∷ rest) (turned_negation d c) (entries_turned d shapes cs)
entries_turned d (free ∷ shapes) (c ∷ cs) = ap₂ (λ x rest. turned d c ∷ x ∷ rest) (turned_negation d c) (entries_turned d shapes cs)

pub turned_sum : (d : Direction) (cs ys : List Fraction) → columns_sum (map (turned d) cs) ys ≡ turned d (columns_sum cs ys)
turned_sum Minimize cs ys = columns_sum-negation cs ys
turned_sum Maximize cs ys = as_it_is cs ys
  where
    as_it_is : (bs zs : List Fraction) → columns_sum (map (turned Maximize) bs) zs ≡ columns_sum bs zs
    as_it_is [] zs = refl
    as_it_is (b ∷ bs) [] = refl
    as_it_is (b ∷ bs) (z ∷ zs) = ap (λ t. b ⊗ z ⊕ t) (as_it_is bs zs)

turned_plus : (d : Direction) (x y : Fraction) → turned d (x ⊕ y) ≡ turned d x ⊕ turned d y
turned_plus Minimize x y = negation-sum x y
turned_plus Maximize x y = refl

turned_zero : (d : Direction) → turned d zero_value ≡ zero_value
turned_zero Minimize = refl
turned_zero Maximize = refl

-- ---- the objective

bound_given : (m : Model) (cuts : List Cut) (s : Std) (value : Fraction) (weights : Duals) (ws : List Fraction) → IsLawful m → standard_form m cuts ≡ Ok s → ShowsBest s value weights → row_weights 0 m.rows weights.ys ≡ Ok ws
    → Given m cuts s (turned m.direction m.constant) (objective_to_maximize m) weights value ws
bound_given m cuts s value weights ws lawful form shows rows =
    let p = parts m cuts s form in
    let shapes = shapes_of m cuts in
    let d = m.direction in
    let objs = objective_coefs m in
    let is_objs = turned_objs d m.vars in
    record {
      parts = p;
      same = length-map m.vars (λ v. turned d v.obj) ∙ length-shapes_of m cuts;
      columns = length-obj m cuts s p;
      constant = s.constant;
      prices = subst (λ coefs. Prices s s.constant coefs weights value) (sym p.form_obj ∙ entries_turned d shapes objs ∙ ap (entries shapes) (sym is_objs)) shows.prices;
      is_constant = ap (λ c. zero_value ⊕ c) (sym p.form_constant) ∙ ap (λ z. z ⊕ turned d p.constant) (sym (turned_zero d)) ∙ sym (turned_plus d zero_value p.constant)
          ∙ ap (turned d) (constant_value shapes m.constant m.vars p.constant (length-shapes_of m cuts) p.constant_is) ∙ turned_plus d m.constant (columns_sum objs (offsets shapes))
          ∙ ap (λ t. turned d m.constant ⊕ t) (sym (turned_sum d objs (offsets shapes)) ∙ ap (λ cs. columns_sum cs (offsets shapes)) (sym is_objs));
      at_least_zero = shows.at_least_zero;
      rows = rows;
      rising = rises m lawful;
    }

-- ---- nothing

no_entries : (vars : List Var) (shapes : List Shape) → length vars ≡ length shapes → replicate (column_count shapes) zero_value ≡ entries shapes (map (λ _. zero_value) vars)
no_entries [] [] same = refl
no_entries [] (shape ∷ shapes) same = absurd (omega (arith, same))
no_entries (v ∷ vars) [] same = absurd (omega (arith, same))
no_entries (v ∷ vars) (shifted l u ∷ shapes) same =
    let one : column_count (shifted l u ∷ shapes) ≡ suc (column_count shapes) = sum_by-cons width (shifted l u) shapes ∙ omega arith in
    ap (λ n. replicate n zero_value) one ∙ ap (λ rest. zero_value ∷ rest) (no_entries vars shapes (omega (arith, same)))
no_entries (v ∷ vars) (mirrored u ∷ shapes) same =
    let one : column_count (mirrored u ∷ shapes) ≡ suc (column_count shapes) = sum_by-cons width (mirrored u) shapes ∙ omega arith in
    ap (λ n. replicate n zero_value) one ∙ ap (λ rest. zero_value ∷ rest) (no_entries vars shapes (omega (arith, same)))
no_entries (v ∷ vars) (free ∷ shapes) same =
    let two : column_count (free ∷ shapes) ≡ suc (suc (column_count shapes)) = sum_by-cons width free shapes ∙ omega arith in
    ap (λ n. replicate n zero_value) two ∙ ap (λ rest. zero_value ∷ zero_value ∷ rest) (no_entries vars shapes (omega (arith, same)))

no_sum : (vars : List Var) (ys : List Fraction) → columns_sum (map (λ _. zero_value) vars) ys ≡ zero_value
no_sum [] ys = refl
no_sum (v ∷ vars) [] = refl
no_sum (v ∷ vars) (y ∷ ys) = ap₂ (λ p q. p ⊕ q) (exact_product-zero_left y) (no_sum vars ys) ∙ sym no_zeros

farkas_given : (m : Model) (cuts : List Cut) (s : Std) (side : Fraction) (weights : Duals) (ws : List Fraction) → IsLawful m → standard_form m cuts ≡ Ok s → ShowsNoPoint s side weights → row_weights 0 m.rows weights.ys ≡ Ok ws
    → Given m cuts s zero_value (no_coefs m) weights side ws
farkas_given m cuts s side weights ws lawful form shows rows =
    let p = parts m cuts s form in
    let shapes = shapes_of m cuts in
    let columns = length-obj m cuts s p in
    record {
      parts = p;
      same = length-map m.vars (λ _. zero_value) ∙ length-shapes_of m cuts;
      columns = columns;
      constant = zero_value;
      prices = subst (λ coefs. Prices s zero_value coefs weights side) (ap (λ n. replicate n zero_value) columns ∙ no_entries m.vars shapes (length-shapes_of m cuts)) shows.prices;
      is_constant = ap (λ t. zero_value ⊕ t) (sym (no_sum m.vars (offsets shapes)));
      at_least_zero = shows.at_least_zero;
      rows = rows;
      rising = rises m lawful;
    }

-- ---- weights that are brought back

record Back (m : Model) (cuts : List Cut) (duals : Duals) (weights : Weights) : Type 0 where
  rows : List Fraction
  rows_are : row_weights 0 m.rows duals.ys ≡ Ok rows
  is_back : record { rows = numbered 1 rows; lows = numbered 1 (lows_of m cuts duals); ups = numbered 1 (ups_of m cuts duals) } ≡ weights

back : (m : Model) (cuts : List Cut) (duals : Duals) (weights : Weights) → weights_back m (shapes_of m cuts) duals.ys duals.reduced ≡ Ok weights → Back m cuts duals weights
unfolding weights_back
back m cuts duals weights h =
    let rows = through (row_weights 0 m.rows duals.ys) _ weights h in
    record { rows = rows.value; rows_are = rows.first; is_back = same_ok _ weights rows.rest }

price_low : (s : Std) (k : Fraction) (coefs : List Fraction) (weights : Duals) (total : Fraction) → Prices s k coefs weights total → IsInLowestTerms total
price_low s k coefs weights total h = subst (λ t. IsInLowestTerms t) (sym h.side) (apart_of-sum _ _)

at_most_value : (value total : Fraction) → IsInLowestTerms total → zero_value ⊕ value ≡ total → IsAtMost value total
at_most_value value total low same = same_at_most value total (same ∙ sym (exact_sum-zero_left total low))

-- The weights of a best end bound a leaf by its value.
pub bound_back : (m : Model) (cuts : List Cut) (s : Std) (value : Fraction) (duals : Duals) (weights : Weights) → IsLawful m → standard_form m cuts ≡ Ok s → ShowsBest s value duals
    → weights_back m (shapes_of m cuts) duals.ys duals.reduced ≡ Ok weights → BoundBy m cuts weights value
bound_back m cuts s value duals weights lawful form shows made =
    let h = back m cuts duals weights made in
    let k = turned m.direction m.constant in
    let given = bound_given m cuts s value duals h.rows lawful form shows h.rows_are in
    let low = price_low s s.constant s.obj duals value shows.prices in
    subst (λ ws. BoundBy m cuts ws value) h.is_back
    record {
      combines = combines m cuts s k (objective_to_maximize m) duals value h.rows given low;
      side = at_most_value _ value low (side_is m cuts s k (objective_to_maximize m) duals value h.rows given low 1);
    }

-- The weights of an end without a point empty a leaf.
pub farkas_back : (m : Model) (cuts : List Cut) (s : Std) (total : Fraction) (duals : Duals) (weights : Weights) → IsLawful m → standard_form m cuts ≡ Ok s → ShowsNoPoint s total duals
    → weights_back m (shapes_of m cuts) duals.ys duals.reduced ≡ Ok weights → Emptied m cuts weights
farkas_back m cuts s total duals weights lawful form shows made =
    let h = back m cuts duals weights made in
    let given = farkas_given m cuts s total duals h.rows lawful form shows h.rows_are in
    let low = price_low s zero_value (replicate (length s.obj) zero_value) duals total shows.prices in
    subst (λ ws. Emptied m cuts ws) h.is_back
    record {
      combines = combines m cuts s zero_value (no_coefs m) duals total h.rows given low;
      side = IsBelow_trans_right _ total zero_value (at_most_value _ total low (side_is m cuts s zero_value (no_coefs m) duals total h.rows given low 1)) shows.below;
    }
