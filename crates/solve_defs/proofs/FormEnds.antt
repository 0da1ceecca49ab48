-- How a relaxation ends, by how its standard form does.
use Rattle.std.proofs.Common.{◌≡◌, sym, ap, subst, subst₂, ℕ, zero, suc, ◌<◌, List, Ok, ℤ, neg_ℤ, arith}
use Rattle.frac128.specs.Fraction.{Fraction, lowest, negation, zero_value}
use Rattle.frac128.specs.Order.{IsAtMost, IsBelow}
use Rattle.frac128.proofs.Field.{apart_of-sum}
use Rattle.frac128.proofs.Integers.{neg-neg}
use Rattle.frac128.proofs.Ordered.{IsAtMost-negation, IsBelow-lowest, IsBelow-negation, IsBelow-not, IsBelow_trans, IsBelow_trans_right}
use Rattle.model_data.specs.Lawful.{IsLawful}
use Rattle.model_data.specs.declared.model.Direction.{Direction}
use Rattle.model_data.specs.declared.model.Direction.TheVariants.{Minimize, Maximize}
use Rattle.model_data.specs.declared.model.Model.{Model}
use Rattle.dictionary.specs.declared.standard.Std.{Std}
use Rattle.solve_defs.specs.Columns.{HasNoColumnsPoint, IsBestColumnsPoint, RisesWithoutBound, columns_sum, exact_point, form_value, model_value}
use Rattle.frac128.specs.Lowest.{IsInLowestTerms}
use Rattle.solve_defs.specs.Points.{Below, HasNoPoint, IsBestPoint, IsBetter, IsUnbounded, Ratio, SameValue, objective_value, quotient, ratio, relaxation}
use Rattle.solve_defs.specs.StandardForm.{shapes_of, standard_form}
use Rattle.solve_defs.specs.Values.{turned, whole}
use Rattle.solve_defs.specs.declared.cut.Cut.{Cut}
use Rattle.solve_defs.proofs.FormBounds.{low_negation}
use Rattle.solve_defs.proofs.FormLaw.{columns_stand_for_points, points_come_from_columns}
use Rattle.solve_defs.proofs.FormPoints.{objective_above_zero}
use Rattle.solve_defs.proofs.FormQuotients.{at_most_lowest, from_same_value, lowest-raw, lowest_at_most, raw, value}
use Rattle.frac128.proofs.Sums.{◌⊕◌}

-- ---- quotients that are below each other

below_fractions : (x y : Ratio) (f g : Fraction) → 0 < x.den → 0 < y.den → value x ≡ f → value y ≡ g → Below x y → IsBelow f g
below_fractions x y f g p q d e h = subst₂ IsBelow d e (IsBelow-lowest x.num y.num x.den y.den p q h)

below-value : (n : ℤ) (d : ℕ) (y : Fraction) → 0 < d → IsBelow (lowest n d) y → Below (quotient n d) (ratio y)
below-value n zero y p h = absurd (omega (arith, p))
below-value n (suc d) y p h =
    let all = IsBelow_trans_right (raw n d) (zero_value ⊕ raw n d) y (at_most_lowest (raw n d)) (subst (λ z. IsBelow z y) (lowest-raw (raw n d)) h) in all.below

above-value : (n : ℤ) (d : ℕ) (y : Fraction) → 0 < d → IsBelow y (lowest n d) → Below (ratio y) (quotient n d)
above-value n zero y p h = absurd (omega (arith, p))
above-value n (suc d) y p h =
    let all = IsBelow_trans y (zero_value ⊕ raw n d) (raw n d) (subst (λ z. IsBelow y z) (lowest-raw (raw n d)) h) (lowest_at_most (raw n d)) in all.below

-- ---- values of the model

turned_low : (direction : Direction) (x : Fraction) → IsInLowestTerms x → IsInLowestTerms (turned direction x)
turned_low Minimize x low = low_negation x low
turned_low Maximize x low = low

model_value_low : (direction : Direction) (s : Std) (ys : List Fraction) → IsInLowestTerms (model_value direction s ys)
model_value_low direction s ys = turned_low direction (form_value s ys) (apart_of-sum s.constant (columns_sum s.obj ys))

objective_value_is : (m : Model) (X : List ℤ) (d : ℕ) (s : Std) (ys : List Fraction) → 0 < d → SameValue (objective_value m X d) (ratio (model_value m.direction s ys))
    → value (objective_value m X d) ≡ model_value m.direction s ys
objective_value_is m X d s ys p h =
    from_same_value (objective_value m X d).num (objective_value m X d).den (model_value m.direction s ys) (objective_above_zero m X d p) (model_value_low m.direction s ys) h

-- a value that is not greater is no better
not_better : (direction : Direction) (x y : Ratio) (f g : Fraction) → 0 < x.den → 0 < y.den → value x ≡ turned direction f → value y ≡ turned direction g → IsAtMost f g
    → IsBetter direction x y → ⊥
not_better Minimize x y f g p q d e most h = IsBelow-not (negation f) (negation g) (below_fractions x y (negation f) (negation g) p q d e h) (IsAtMost-negation f g most)
not_better Maximize x y f g p q d e most h = IsBelow-not g f (below_fractions y x g f q p e d h) most

-- the whole number that the standard form is to rise above
bound : Direction → ℤ → ℤ
bound Minimize n = neg_ℤ n
bound Maximize n = n

passes : (direction : Direction) (x : Ratio) (f : Fraction) (n : ℤ) → 0 < x.den → value x ≡ turned direction f → IsBelow (whole (bound direction n)) f
    → IsBetter direction x (quotient n 1)
unfolding bound
passes Minimize x f n p e h =
    below-value x.num x.den (whole n) p
    (subst₂ IsBelow (sym e) (ap whole (neg-neg n)) (IsBelow-negation (whole (neg_ℤ n)) f h))
passes Maximize x f n p e h = above-value x.num x.den (whole n) p (subst (λ z. IsBelow (whole n) z) (sym e) h)

-- ---- the ends

pub best_columns : (m : Model) (cuts : List Cut) (s : Std) (ys : List Fraction) → IsLawful m → standard_form m cuts ≡ Ok s → IsBestColumnsPoint s ys
    → IsBestPoint (relaxation m cuts) record { xs = exact_point (shapes_of m cuts) ys; value = model_value m.direction s ys }
best_columns m cuts s ys lawful form best =
    let own = columns_stand_for_points m cuts s ys lawful form best.allowed in
    let r = relaxation m cuts in
    record {
      X = own.X;
      d = own.d;
      values = own.values;
      best = record {
        feasible = own.feasible;
        none_better = λ Y e feasible better.
            let other = points_come_from_columns m cuts s Y e lawful form feasible in
            not_better m.direction (objective_value r Y e) (objective_value r own.X own.d) (form_value s other.ys) (form_value s ys)
            (objective_above_zero r Y e feasible.above_zero) (objective_above_zero r own.X own.d own.feasible.above_zero)
            (objective_value_is r Y e s other.ys feasible.above_zero other.value) (objective_value_is r own.X own.d s ys own.feasible.above_zero own.value)
            (best.none_greater other.ys other.allowed) better;
      };
      value = own.value;
    }

pub no_columns_point : (m : Model) (cuts : List Cut) (s : Std) → IsLawful m → standard_form m cuts ≡ Ok s → HasNoColumnsPoint s → HasNoPoint (relaxation m cuts)
no_columns_point m cuts s lawful form empty X d feasible =
    let other = points_come_from_columns m cuts s X d lawful form feasible in
    empty other.ys other.allowed

pub unbounded_columns : (m : Model) (cuts : List Cut) (s : Std) → IsLawful m → standard_form m cuts ≡ Ok s → RisesWithoutBound s → IsUnbounded (relaxation m cuts)
unbounded_columns m cuts s lawful form rises n =
    let above = rises (bound m.direction n) in
    let own = columns_stand_for_points m cuts s above.ys lawful form above.allowed in
    let r = relaxation m cuts in
    record {
      X = own.X;
      d = own.d;
      feasible = own.feasible;
      better = passes m.direction (objective_value r own.X own.d) (form_value s above.ys) n (objective_above_zero r own.X own.d own.feasible.above_zero)
          (objective_value_is r own.X own.d s above.ys own.feasible.above_zero own.value) above.above;
    }
