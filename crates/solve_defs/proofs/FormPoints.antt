-- Feasible points of a relaxation as whole numbers over one denominator, and as fractions in lowest terms.
use Rattle.std.proofs.Common.{◌≡◌, refl, sym, ◌∙◌, ap, ap₂, subst, ℕ, suc, ◌*◌, ◌<◌, List, [], ◌∷◌, length, map, slice_index_or, Option, Some, None, ℤ, pos, ◌*ℤ◌, arith}
use Rattle.std.specs.Prelude.{IfSome, zip, ◌≤ℤ◌}
use Rattle.std.specs.List.{AllZip}
use Rattle.std.proofs.Math.Nat.{mul-pos, mul_comm}
use Rattle.std.proofs.lemmas.Int.{ints}
use Rattle.frac128.specs.Fraction.{Fraction, den, lowest, zero_value}
use Rattle.frac128.specs.Order.{IsAtMost}
use Rattle.frac128.proofs.Field.{apart_of-zero, exact_sum_comm, lowest-self}
use Rattle.frac128.proofs.Integers.{mul-mul_pos}
use Rattle.frac128.proofs.Seen.{lowest-same}
use Rattle.model_data.specs.Size.{is_integer}
use Rattle.model_data.specs.declared.model.Model.{Model}
use Rattle.model_data.specs.declared.model.Row.{Row}
use Rattle.model_data.specs.declared.model.Sense.{Sense}
use Rattle.model_data.specs.declared.model.Sense.TheVariants.{Less, Greater, Equal}
use Rattle.model_data.specs.declared.model.Term.{Term}
use Rattle.model_data.specs.declared.model.Var.{Var}
use Rattle.solve_defs.specs.Bounds.{Bounds, both, bounds_from, effective_bounds}
use Rattle.solve_defs.specs.Columns.{columns_sum}
use Rattle.frac128.specs.Lowest.{IsInLowestTerms}
use Rattle.solve_defs.specs.Points.{AtMost, Compares, HasValues, IsFeasible, IsWholeIf, IsWithin, KeepsRow, objective_value, over, quotient, ratio, relaxation, relaxed_vars, row_value, weighted_sum}
use Rattle.solve_defs.specs.declared.cut.Cut.{Cut}
use Rattle.solve_defs.proofs.Domains.{feasible_from, feasible_within}
use Rattle.solve_defs.proofs.FormBounds.{Within}
use Rattle.solve_defs.proofs.FormLists.{Each, all_from_each, each_from_all, index-map}
use Rattle.solve_defs.proofs.FormQuotients.{at_least-value, at_most-value, lowest-raw, same_value, value, value-at_least, value-at_most, value-plus, value-step, zero-sum}
use Rattle.frac128.proofs.Sums.{◌⊕◌, ◌⊗◌}
use Rattle.solve_defs.proofs.FormRows.{Holds, HoldsAt}
use Rattle.solve_defs.proofs.FormSums.{terms_sum}
use Rattle.solve_defs.proofs.Relaxed.{length-bounds_from}

-- the values of X / d
abbrev pub values_of : List ℤ → ℕ → List Fraction
values_of X d = map (λ n. lowest n d) X

lowest_zero : (d : ℕ) → 0 < d → lowest (pos 0) d ≡ zero_value
lowest_zero d p = lowest-same (pos 0) (pos 0) d 1 p (omega arith) (omega (arith, ints)) ∙ lowest-self zero_value apart_of-zero

-- ---- sums

pub den_above_zero : (ps : List (Fraction × ℤ)) → 0 < (weighted_sum ps).den
den_above_zero [] = omega arith
den_above_zero (p ∷ ps) = mul-pos (omega arith) (den_above_zero ps)

over_above_zero : (ps : List (Fraction × ℤ)) (d : ℕ) → 0 < d → 0 < (over d (weighted_sum ps)).den
over_above_zero ps d p = mul-pos (den_above_zero ps) p

none : (d : ℕ) → 0 < d → value (over d (weighted_sum [])) ≡ zero_value
none d p = lowest_zero (1 * d) (mul-pos (omega arith) p)

abbrev at_terms : List ℤ → List Term → List (Fraction × ℤ)
at_terms X terms = map (λ t. (t.coef, slice_index_or X t.var (pos 0))) terms

pub terms_value : (terms : List Term) (X : List ℤ) (d : ℕ) → 0 < d → value (over d (weighted_sum (at_terms X terms))) ≡ terms_sum terms (values_of X d)
terms_value [] X d p = none d p
terms_value (t ∷ terms) X d p =
    value-step t.coef (slice_index_or X t.var (pos 0)) (weighted_sum (at_terms X terms)) d (den_above_zero (at_terms X terms)) p
    ∙ ap₂ (λ x s. t.coef ⊗ x ⊕ s) (sym (index-map (λ n. lowest n d) X t.var (pos 0) zero_value (lowest_zero d p))) (terms_value terms X d p)

pub zip_value : (cs : List Fraction) (X : List ℤ) (d : ℕ) → 0 < d → value (over d (weighted_sum (zip cs X))) ≡ columns_sum cs (values_of X d)
zip_value [] X d p = none d p
zip_value (c ∷ cs) [] d p = none d p
zip_value (c ∷ cs) (n ∷ X) d p =
    value-step c n (weighted_sum (zip cs X)) d (den_above_zero (zip cs X)) p ∙ ap (λ s. c ⊗ lowest n d ⊕ s) (zip_value cs X d p)

-- ---- rows

at_most_both : (a b : ℤ) → a ≡ b → (a ≤ℤ b) × (b ≤ℤ a)
at_most_both a b e = (omega (arith, ints, e), omega (arith, ints, e))

both_at_most : (a b : ℤ) → a ≤ℤ b → b ≤ℤ a → a ≡ b
both_at_most a b h k = omega (arith, ints, h, k)

compares_forth : (sense : Sense) (n : ℤ) (d : ℕ) (y : Fraction) → 0 < d → Compares sense (quotient n d) (ratio y) → Holds sense (lowest n d) y
compares_forth Less n d y p h = value-at_most n d y p h
compares_forth Greater n d y p h = value-at_least n d y p h
compares_forth Equal n d y p h =
    let two = at_most_both (n *ℤ pos (den y)) (y.num *ℤ pos d) h in
    (value-at_most n d y p two.0, value-at_least n d y p two.1)

compares_back : (sense : Sense) (n : ℤ) (d : ℕ) (y : Fraction) → 0 < d → Holds sense (lowest n d) y → Compares sense (quotient n d) (ratio y)
compares_back Less n d y p h = at_most-value n d y p h
compares_back Greater n d y p h = at_least-value n d y p h
compares_back Equal n d y p h =
    both_at_most (n *ℤ pos (den y)) (y.num *ℤ pos d) (at_most-value n d y p h.0) (at_least-value n d y p h.1)

row_holds : (row : Row) (X : List ℤ) (d : ℕ) → 0 < d → KeepsRow X d row → HoldsAt (values_of X d) row
row_holds row X d p h =
    subst (λ x. Holds row.sense x row.rhs) (terms_value row.terms X d p)
    (compares_forth row.sense (row_value row X d).num (row_value row X d).den row.rhs (over_above_zero (at_terms X row.terms) d p) h)

row_keeps : (row : Row) (X : List ℤ) (d : ℕ) → 0 < d → HoldsAt (values_of X d) row → KeepsRow X d row
row_keeps row X d p h =
    compares_back row.sense (row_value row X d).num (row_value row X d).den row.rhs (over_above_zero (at_terms X row.terms) d p)
    (subst (λ x. Holds row.sense x row.rhs) (sym (terms_value row.terms X d p)) h)

rows_hold : (rows : List Row) (X : List ℤ) (d : ℕ) → 0 < d → Each (KeepsRow X d) rows → Each (HoldsAt (values_of X d)) rows
rows_hold [] X d p h = tt
rows_hold (row ∷ rows) X d p h = (row_holds row X d p h.0, rows_hold rows X d p h.1)

rows_keep : (rows : List Row) (X : List ℤ) (d : ℕ) → 0 < d → Each (HoldsAt (values_of X d)) rows → Each (KeepsRow X d) rows
rows_keep [] X d p h = tt
rows_keep (row ∷ rows) X d p h = (row_keeps row X d p h.0, rows_keep rows X d p h.1)

-- ---- bounds

lower_forth : (o : Option Fraction) (n : ℤ) (d : ℕ) → 0 < d → IfSome o (λ l. AtMost (ratio l) (quotient n d)) → IfSome o (λ l. IsAtMost l (lowest n d))
lower_forth None n d p h = tt
lower_forth (Some l) n d p h = value-at_least n d l p h

upper_forth : (o : Option Fraction) (n : ℤ) (d : ℕ) → 0 < d → IfSome o (λ u. AtMost (quotient n d) (ratio u)) → IfSome o (λ u. IsAtMost (lowest n d) u)
upper_forth None n d p h = tt
upper_forth (Some u) n d p h = value-at_most n d u p h

lower_back : (o : Option Fraction) (n : ℤ) (d : ℕ) → 0 < d → IfSome o (λ l. IsAtMost l (lowest n d)) → IfSome o (λ l. AtMost (ratio l) (quotient n d))
lower_back None n d p h = tt
lower_back (Some l) n d p h = at_least-value n d l p h

upper_back : (o : Option Fraction) (n : ℤ) (d : ℕ) → 0 < d → IfSome o (λ u. IsAtMost (lowest n d) u) → IfSome o (λ u. AtMost (quotient n d) (ratio u))
upper_back None n d p h = tt
upper_back (Some u) n d p h = at_most-value n d u p h

bounds_forth : (bounds : List Bounds) (X : List ℤ) (d : ℕ) → 0 < d → AllZip (λ b n. IsWithin b (quotient n d)) bounds X → AllZip Within bounds (values_of X d)
bounds_forth [] [] d p h = tt
bounds_forth [] (n ∷ X) d p h = absurd h
bounds_forth (b ∷ bounds) [] d p h = absurd h
bounds_forth (b ∷ bounds) (n ∷ X) d p h = ((lower_forth b.lower n d p h.0.lower, upper_forth b.upper n d p h.0.upper), bounds_forth bounds X d p h.1)

bounds_back : (bounds : List Bounds) (X : List ℤ) (d : ℕ) → 0 < d → AllZip Within bounds (values_of X d) → AllZip (λ b n. IsWithin b (quotient n d)) bounds X
bounds_back [] [] d p h = tt
bounds_back [] (n ∷ X) d p h = absurd h
bounds_back (b ∷ bounds) [] d p h = absurd h
bounds_back (b ∷ bounds) (n ∷ X) d p h = (record { lower = lower_back b.lower n d p h.0.0; upper = upper_back b.upper n d p h.0.1 }, bounds_back bounds X d p h.1)

-- ---- the relaxation

plain_bounds : (lower upper : Option Fraction) → both (record { lower = lower; upper = upper }) (record { lower = None; upper = None }) ≡ record { lower = lower; upper = upper }
plain_bounds None None = refl
plain_bounds None (Some u) = refl
plain_bounds (Some l) None = refl
plain_bounds (Some l) (Some u) = refl

relaxed_bounds_from : (place : ℕ) (vars : List Var) (bounds : List Bounds) → length bounds ≡ length vars → bounds_from place (relaxed_vars vars bounds) [] ≡ bounds
relaxed_bounds_from place [] [] same = refl
relaxed_bounds_from place [] (b ∷ bounds) same = absurd (omega (arith, same))
relaxed_bounds_from place (v ∷ vars) [] same = absurd (omega (arith, same))
relaxed_bounds_from place (v ∷ vars) (b ∷ bounds) same =
    ap₂ (λ x xs. x ∷ xs) (plain_bounds b.lower b.upper) (relaxed_bounds_from (suc place) vars bounds (omega (arith, same)))

pub length-effective_bounds : (m : Model) (cuts : List Cut) → length (effective_bounds m cuts) ≡ length m.vars
length-effective_bounds m cuts = length-bounds_from 0 m.vars cuts

relaxed_bounds : (m : Model) (cuts : List Cut) → effective_bounds (relaxation m cuts) [] ≡ effective_bounds m cuts
relaxed_bounds m cuts = relaxed_bounds_from 0 m.vars (effective_bounds m cuts) (length-effective_bounds m cuts)

relaxed_obj : (vars : List Var) (bounds : List Bounds) → length bounds ≡ length vars → map (λ v. v.obj) (relaxed_vars vars bounds) ≡ map (λ v. v.obj) vars
relaxed_obj [] [] same = refl
relaxed_obj [] (b ∷ bounds) same = refl
relaxed_obj (v ∷ vars) [] same = absurd (omega (arith, same))
relaxed_obj (v ∷ vars) (b ∷ bounds) same = ap (λ xs. v.obj ∷ xs) (relaxed_obj vars bounds (omega (arith, same)))

none_whole : (vars : List Var) (bounds : List Bounds) (X : List ℤ) (d : ℕ) → length bounds ≡ length vars → AllZip (λ b n. IsWithin b (quotient n d)) bounds X
    → AllZip (λ v n. IsWholeIf (is_integer v.kind) d n) (relaxed_vars vars bounds) X
none_whole [] [] [] d same h = tt
none_whole [] [] (n ∷ X) d same h = absurd h
none_whole [] (b ∷ bounds) X d same h = absurd (omega (arith, same))
none_whole (v ∷ vars) [] X d same h = absurd (omega (arith, same))
none_whole (v ∷ vars) (b ∷ bounds) [] d same h = absurd h
none_whole (v ∷ vars) (b ∷ bounds) (n ∷ X) d same h = ((λ e. absurd cc), none_whole vars bounds X d (omega (arith, same)) h.1)

-- The values of the variables are within all bounds, and with them each row holds.
pub record AreFeasible (m : Model) (cuts : List Cut) (xs : List Fraction) : Type 0 where
  pub rows : Each (HoldsAt xs) m.rows
  pub bounds : AllZip Within (effective_bounds m cuts) xs

pub values_feasible : (m : Model) (cuts : List Cut) (X : List ℤ) (d : ℕ) → IsFeasible (relaxation m cuts) X d → AreFeasible m cuts (values_of X d)
values_feasible m cuts X d h = record {
  rows = rows_hold m.rows X d h.above_zero (each_from_all (KeepsRow X d) m.rows h.rows);
  bounds = bounds_forth (effective_bounds m cuts) X d h.above_zero (subst (λ bs. AllZip (λ b n. IsWithin b (quotient n d)) bs X) (relaxed_bounds m cuts) (feasible_within (relaxation m cuts) X d h));
}

pub feasible_values : (m : Model) (cuts : List Cut) (X : List ℤ) (d : ℕ) → 0 < d → AreFeasible m cuts (values_of X d) → IsFeasible (relaxation m cuts) X d
feasible_values m cuts X d p h =
    let within = bounds_back (effective_bounds m cuts) X d p h.bounds in
    feasible_from (relaxation m cuts) X d p (all_from_each (KeepsRow X d) m.rows (rows_keep m.rows X d p h.rows))
    (subst (λ bs. AllZip (λ b n. IsWithin b (quotient n d)) bs X) (sym (relaxed_bounds m cuts)) within)
    (none_whole m.vars (effective_bounds m cuts) X d (length-effective_bounds m cuts) within)

-- ---- the objective

-- each variable's coefficient in the objective
abbrev pub objective_coefs : Model → List Fraction
objective_coefs m = map (λ v. v.obj) m.vars

pub objective_above_zero : (m : Model) (X : List ℤ) (d : ℕ) → 0 < d → 0 < (objective_value m X d).den
objective_above_zero m X d p = mul-pos (over_above_zero (zip (objective_coefs m) X) d p) (omega arith)

pub objective_is : (m : Model) (cuts : List Cut) (X : List ℤ) (d : ℕ) → 0 < d
    → value (objective_value (relaxation m cuts) X d) ≡ columns_sum (objective_coefs m) (values_of X d) ⊕ m.constant
objective_is m cuts X d p =
    let cs = objective_coefs (relaxation m cuts) in
    value-plus (over d (weighted_sum (zip cs X))) (ratio m.constant) (over_above_zero (zip cs X) d p) (omega arith)
    ∙ ap₂ (λ s t. s ⊕ t) (zip_value cs X d p ∙ ap (λ es. columns_sum es (values_of X d)) (relaxed_obj m.vars (effective_bounds m cuts) (length-effective_bounds m cuts)))
    (lowest-raw m.constant)
    ∙ exact_sum_comm (columns_sum (objective_coefs m) (values_of X d)) (zero_value ⊕ m.constant)
    ∙ zero-sum m.constant (columns_sum (objective_coefs m) (values_of X d)) ∙ exact_sum_comm m.constant (columns_sum (objective_coefs m) (values_of X d))

-- ---- values over one denominator

pub has_values : (X : List ℤ) (d : ℕ) → 0 < d → HasValues X d (values_of X d)
has_values [] d p = tt
has_values (n ∷ X) d p = (same_value n d (lowest n d) p refl, has_values X d p)

pub record Common (xs : List Fraction) : Type 0 where
  pub X : List ℤ
  pub d : ℕ
  pub above_zero : 0 < d
  pub same : values_of X d ≡ xs

-- numerator and denominator times a number
scaled : (n : ℤ) (d k : ℕ) → 0 < d → 0 < k → lowest (n *ℤ pos k) (k * d) ≡ lowest n d
scaled n d k p q = lowest-same (n *ℤ pos k) n (k * d) d (mul-pos q p) p (mul-mul_pos n k d)

all_scaled : (X : List ℤ) (d k : ℕ) → 0 < d → 0 < k → values_of (map (λ n. n *ℤ pos k) X) (k * d) ≡ values_of X d
all_scaled [] d k p q = refl
all_scaled (n ∷ X) d k p q = ap₂ (λ x xs. x ∷ xs) (scaled n d k p q) (all_scaled X d k p q)

pub common : (xs : List Fraction) → Each IsInLowestTerms xs → Common xs
common [] low = record { X = []; d = 1; above_zero = omega arith; same = refl }
common (x ∷ xs) low =
    let rest = common xs low.1 in
    record {
      X = (x.num *ℤ pos rest.d) ∷ map (λ n. n *ℤ pos (den x)) rest.X;
      d = den x * rest.d;
      above_zero = mul-pos (omega arith) rest.above_zero;
      same = ap₂ (λ y ys. y ∷ ys)
          (ap (λ k. lowest (x.num *ℤ pos rest.d) k) (mul_comm (den x) rest.d) ∙ scaled x.num (den x) rest.d (omega arith) rest.above_zero ∙ lowest-self x low.0)
          (all_scaled rest.X rest.d (den x) rest.above_zero (omega arith) ∙ rest.same);
    }
