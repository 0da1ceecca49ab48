-- A feasible point of the model that is within the cuts is one of the relaxation under them.
use Rattle.std.proofs.Common.{◌≡◌, refl, sym, ◌∙◌, ap, subst, ℕ, suc, ◌+◌, ◌==◌, ℤ, pos, Bool, true, false, true≢false, if◌then◌else◌, List, [], ◌∷◌, length, Option, Some, None, IfSome, All, arith, add-zero}
use Rattle.std.specs.Prelude.{slice_index_or}
use Rattle.std.specs.List.{AllZip}
use Rattle.std.proofs.lemmas.Bool.{eqb-true}
use Rattle.std.proofs.lemmas.List.Elements.{All-head, All-tail}
use Rattle.std.proofs.lemmas.Slice.Zip.{AllZip-long}
use Rattle.frac128.specs.Fraction.{Fraction}
use Rattle.model_data.specs.Size.{is_integer}
use Rattle.model_data.specs.declared.model.Model.{Model}
use Rattle.model_data.specs.declared.model.Var.{Var}
use Rattle.solve_defs.specs.Bounds.{Bounds, both, bounds_from, cut_bounds, effective_bounds, greater_bound, lesser_bound, own_bounds, with_cuts}
use Rattle.solve_defs.specs.Cases.{IsCasePoint, IsWithinCut}
use Rattle.solve_defs.specs.Points.{IsFeasible, IsWholeIf, IsWithin, Ratio, quotient, relaxation, relaxed_vars}
use Rattle.solve_defs.specs.Values.{is_at_most}
use Rattle.solve_defs.specs.declared.cut.Cut.{Cut}
use Rattle.solve_defs.proofs.Domains.{feasible_from, feasible_whole, feasible_within}
use Rattle.solve_defs.proofs.Relaxed.{effective_bounds-relaxation, length-bounds_from}

-- ---- bounds together

either : {A : Type 0} (P : A → Type 0) (b : Bool) (x y : A) → P x → P y → P (if b then x else y)
either P true x y h k = h
either P false x y h k = k

greater_holds : (P : Fraction → Type 0) (a b : Option Fraction) → IfSome a P → IfSome b P → IfSome (greater_bound a b) P
greater_holds P None b h k = k
greater_holds P (Some x) None h k = h
greater_holds P (Some x) (Some y) h k = either P (is_at_most y x) x y h k

lesser_holds : (P : Fraction → Type 0) (a b : Option Fraction) → IfSome a P → IfSome b P → IfSome (lesser_bound a b) P
lesser_holds P None b h k = k
lesser_holds P (Some x) None h k = h
lesser_holds P (Some x) (Some y) h k = either P (is_at_most x y) x y h k

both_hold : (a b : Bounds) (x : Ratio) → IsWithin a x → IsWithin b x → IsWithin (both a b) x
both_hold a b x h k = record { lower = greater_holds _ a.lower b.lower h.lower k.lower; upper = lesser_holds _ a.upper b.upper h.upper k.upper }

with_cut : (a b : Bounds) (x : Ratio) (own : Bool) → IsWithin a x → (own ≡ true → IsWithin b x) → IsWithin (if own then both a b else a) x
with_cut a b x true h k = both_hold a b x h (k refl)
with_cut a b x false h k = h

within_cuts : (place : ℕ) (b : Bounds) (cuts : List Cut) (x : Ratio) → IsWithin b x → All (λ cut. cut.var ≡ place → IsWithin (cut_bounds cut) x) cuts → IsWithin (with_cuts place b cuts) x
within_cuts place b [] x h each = h
within_cuts place b (cut ∷ cuts) x h each =
    within_cuts place (if cut.var == place then both b (cut_bounds cut) else b) cuts x
    (with_cut b (cut_bounds cut) x (cut.var == place) h (λ e. All-head (λ c. c.var ≡ place → IsWithin (cut_bounds c) x) cut cuts each (eqb-true cut.var place e)))
    (All-tail (λ c. c.var ≡ place → IsWithin (cut_bounds c) x) cut cuts each)

-- ---- all variables

within_from : (place : ℕ) (vars : List Var) (cuts : List Cut) (whole X : List ℤ) (d : ℕ) → AllZip (λ b n. IsWithin b (quotient n d)) (bounds_from place vars []) X
    → All (IsWithinCut whole d) cuts → ((i : ℕ) → slice_index_or whole (place + i) (pos 0) ≡ slice_index_or X i (pos 0))
    → AllZip (λ b n. IsWithin b (quotient n d)) (bounds_from place vars cuts) X
within_from place [] cuts whole [] d each within same = tt
within_from place [] cuts whole (n ∷ X) d each within same = absurd each
within_from place (v ∷ vars) cuts whole [] d each within same = absurd each
within_from place (v ∷ vars) cuts whole (n ∷ X) d each within same = (
  within_cuts place (own_bounds v) cuts (quotient n d) each.0 (λ k default inside e. subst (λ z. IsWithin (cut_bounds (slice_index_or cuts k default)) (quotient z d)) (value e) (within k default inside)),
  within_from (suc place) vars cuts whole X d each.1 within (λ i. ap (λ j. slice_index_or whole j (pos 0)) (next i) ∙ same (suc i)),
)
  where
    value : {j : ℕ} → j ≡ place → slice_index_or whole j (pos 0) ≡ n
    value e = ap (λ j. slice_index_or whole j (pos 0)) (e ∙ sym (add-zero place)) ∙ same 0

    next : (i : ℕ) → suc place + i ≡ place + suc i
    next i = omega arith

-- no relaxed variable is held to whole numbers
pub relaxed_whole : (vars : List Var) (bounds : List Bounds) (X : List ℤ) (d : ℕ) → length bounds ≡ length vars → length X ≡ length vars
    → AllZip (λ v n. IsWholeIf (is_integer v.kind) d n) (relaxed_vars vars bounds) X
relaxed_whole [] bounds [] d same long = tt
relaxed_whole [] bounds (n ∷ X) d same long = absurd (omega (arith, long))
relaxed_whole (v ∷ vars) [] X d same long = absurd (omega (arith, same))
relaxed_whole (v ∷ vars) (b ∷ bounds) [] d same long = absurd (omega (arith, long))
relaxed_whole (v ∷ vars) (b ∷ bounds) (n ∷ X) d same long = ((λ whole. absurd (true≢false (sym whole))), relaxed_whole vars bounds X d (omega (arith, same)) (omega (arith, long)))

pub case_point_relaxed : (m : Model) (cuts : List Cut) (X : List ℤ) (d : ℕ) → IsCasePoint m cuts X d → IsFeasible (relaxation m cuts) X d
case_point_relaxed m cuts X d point =
    feasible_from (relaxation m cuts) X d point.feasible.above_zero point.feasible.rows
    (subst (λ bounds. AllZip (λ b n. IsWithin b (quotient n d)) bounds X) (sym (effective_bounds-relaxation m cuts))
    (within_from 0 m.vars cuts X X d (feasible_within m X d point.feasible) point.within (λ i. ap (λ j. slice_index_or X j (pos 0)) (add-zero_left i))))
    (relaxed_whole m.vars (effective_bounds m cuts) X d (length-bounds_from 0 m.vars cuts)
    (AllZip-long (λ v n. IsWholeIf (is_integer v.kind) d n) m.vars X (feasible_whole m X d point.feasible)))
  where
    add-zero_left : (i : ℕ) → 0 + i ≡ i
    add-zero_left i = omega arith
