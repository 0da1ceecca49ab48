-- One more cut, and the bounds of its variable.
use Rattle.std.proofs.Common.{◌≡◌, ◌∙◌, refl, ap, ap₂, ℕ, zero, suc, ◌+◌, ◌<◌, ◌==◌, Bool, false, if◌then◌else◌, List, [], ◌∷◌, ◌++◌, length, map, take, slice_index_or, slice_set, arith, eq-eqb}
use Rattle.std.proofs.lemmas.Bool.Decides.{nat_tests}
use Rattle.std.proofs.lemmas.List.{take_more}
use Rattle.model_data.specs.declared.model.Var.{Var}
use Rattle.solve_defs.specs.Bounds.{Bounds, both, bounds_from, cut_bounds, own_bounds, with_cuts}
use Rattle.solve_defs.specs.declared.cut.Cut.{Cut}

with_cuts-more : (place : ℕ) (bounds : Bounds) (cuts : List Cut) (cut : Cut)
    → with_cuts place bounds (cuts ++ cut ∷ [])
    ≡ (if cut.var == place then both (with_cuts place bounds cuts) (cut_bounds cut) else with_cuts place bounds cuts)
with_cuts-more place bounds [] cut = refl
with_cuts-more place bounds (other ∷ cuts) cut = with_cuts-more place (if other.var == place then both bounds (cut_bounds other) else bounds) cuts cut

eqb-false : (a b : ℕ) → (a ≡ b → ⊥) → (a == b) ≡ false
eqb-false a b apart = grind (arith, nat_tests)

with_cuts-own : (place : ℕ) (bounds : Bounds) (cuts : List Cut) (cut : Cut) → cut.var ≡ place
    → with_cuts place bounds (cuts ++ cut ∷ []) ≡ both (with_cuts place bounds cuts) (cut_bounds cut)
with_cuts-own place bounds cuts cut own =
    with_cuts-more place bounds cuts cut
    ∙ ap (λ (b : Bool). if b then both (with_cuts place bounds cuts) (cut_bounds cut) else with_cuts place bounds cuts) (eq-eqb cut.var place own)

with_cuts-others : (place : ℕ) (bounds : Bounds) (cuts : List Cut) (cut : Cut) → (cut.var ≡ place → ⊥)
    → with_cuts place bounds (cuts ++ cut ∷ []) ≡ with_cuts place bounds cuts
with_cuts-others place bounds cuts cut apart =
    with_cuts-more place bounds cuts cut
    ∙ ap (λ (b : Bool). if b then both (with_cuts place bounds cuts) (cut_bounds cut) else with_cuts place bounds cuts) (eqb-false cut.var place apart)

-- a cut on a variable that stands before
bounds_from-before : (first : ℕ) (vars : List Var) (cuts : List Cut) (cut : Cut) → cut.var < first
    → bounds_from first vars (cuts ++ cut ∷ []) ≡ bounds_from first vars cuts
bounds_from-before first [] cuts cut before = refl
bounds_from-before first (v ∷ vars) cuts cut before =
    ap₂ (λ (b : Bounds) (bs : List Bounds). b ∷ bs)
    (with_cuts-others first (own_bounds v) cuts cut (λ own. omega (arith, own)))
    (bounds_from-before (suc first) vars cuts cut (omega arith))

-- the bounds, of which that of the cut's variable is made tighter
abbrev pub tightened : Bounds → Cut → List Bounds → List Bounds
tightened d cut bounds = slice_set bounds cut.var (both (slice_index_or bounds cut.var d) (cut_bounds cut))

bounds_from-more : (first : ℕ) (vars : List Var) (cuts : List Cut) (cut : Cut) (k : ℕ) (d : Bounds) → cut.var ≡ first + k → k < length vars
    → bounds_from first vars (cuts ++ cut ∷ [])
    ≡ slice_set (bounds_from first vars cuts) k (both (slice_index_or (bounds_from first vars cuts) k d) (cut_bounds cut))
bounds_from-more first [] cuts cut k d here within = absurd (omega (arith, within))
bounds_from-more first (v ∷ vars) cuts cut zero d here within =
    ap₂ (λ (b : Bounds) (bs : List Bounds). b ∷ bs)
    (with_cuts-own first (own_bounds v) cuts cut (omega (arith, here)))
    (bounds_from-before (suc first) vars cuts cut (omega (arith, here)))
bounds_from-more first (v ∷ vars) cuts cut (suc k) d here within =
    ap₂ (λ (b : Bounds) (bs : List Bounds). b ∷ bs)
    (with_cuts-others first (own_bounds v) cuts cut (λ own. omega (arith, here, own)))
    (bounds_from-more (suc first) vars cuts cut k d (omega (arith, here)) (omega (arith, within)))

pub bounds_from-cut : (vars : List Var) (cuts : List Cut) (i : ℕ) (e : Cut) (d : Bounds) → i < length cuts → (slice_index_or cuts i e).var < length vars
    → bounds_from 0 vars (take (i + 1) cuts) ≡ tightened d (slice_index_or cuts i e) (bounds_from 0 vars (take i cuts))
bounds_from-cut vars cuts i e d among within =
    ap (bounds_from 0 vars) (take_more cuts i e among)
    ∙ bounds_from-more 0 vars (take i cuts) (slice_index_or cuts i e) (slice_index_or cuts i e).var d (omega arith) within

pub bounds_from-none : (first : ℕ) (vars : List Var) → bounds_from first vars [] ≡ map own_bounds vars
bounds_from-none first [] = refl
bounds_from-none first (v ∷ vars) = ap (λ (bs : List Bounds). own_bounds v ∷ bs) (bounds_from-none (suc first) vars)
