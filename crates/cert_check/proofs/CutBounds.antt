-- One more cut makes the bounds of its variable tighter, and no others.
use Rattle.std.proofs.Common.{◌≡◌, ◌∙◌, refl, sym, ap, ap₂, subst, ℕ, zero, suc, ◌+◌, ◌<◌, ◌==◌, Bool, if◌then◌else◌, List, [], ◌∷◌, ◌++◌, length, map, slice_index_or, slice_set, arith}
use Rattle.std.proofs.lemmas.Bool.{eq-eqb, ne_eqb}
use Rattle.model_data.specs.declared.model.Model.{Model}
use Rattle.model_data.specs.declared.model.Var.{Var}
use Rattle.solve_defs.specs.Bounds.{Bounds, both, bounds_from, cut_bounds, effective_bounds, own_bounds, with_cuts}
use Rattle.solve_defs.specs.declared.cut.Cut.{Cut}
use Rattle.solve_defs.proofs.Relaxed.{length-bounds_from}

behind_others : (place : ℕ) (bounds : Bounds) (cuts : List Cut) (cut : Cut)
    → with_cuts place bounds (cuts ++ cut ∷ []) ≡ (if cut.var == place then both (with_cuts place bounds cuts) (cut_bounds cut) else with_cuts place bounds cuts)
behind_others place bounds [] cut = refl
behind_others place bounds (other ∷ cuts) cut = behind_others place (if other.var == place then both bounds (cut_bounds other) else bounds) cuts cut

tighter : (place : ℕ) (bounds : Bounds) (cuts : List Cut) (cut : Cut) → cut.var ≡ place → with_cuts place bounds (cuts ++ cut ∷ []) ≡ both (with_cuts place bounds cuts) (cut_bounds cut)
tighter place bounds cuts cut own =
    behind_others place bounds cuts cut
    ∙ ap (λ (b : Bool). if b then both (with_cuts place bounds cuts) (cut_bounds cut) else with_cuts place bounds cuts) (eq-eqb cut.var place own)

untouched : (place : ℕ) (bounds : Bounds) (cuts : List Cut) (cut : Cut) → (cut.var ≡ place → ⊥) → with_cuts place bounds (cuts ++ cut ∷ []) ≡ with_cuts place bounds cuts
untouched place bounds cuts cut apart =
    behind_others place bounds cuts cut
    ∙ ap (λ (b : Bool). if b then both (with_cuts place bounds cuts) (cut_bounds cut) else with_cuts place bounds cuts) (ne_eqb cut.var place apart)

none_from : (first : ℕ) (vars : List Var) (cuts : List Cut) (cut : Cut) → cut.var < first → bounds_from first vars (cuts ++ cut ∷ []) ≡ bounds_from first vars cuts
none_from first [] cuts cut before = refl
none_from first (v ∷ vars) cuts cut before =
    ap₂ (λ (b : Bounds) (bs : List Bounds). b ∷ bs)
    (untouched first (own_bounds v) cuts cut (λ own. omega (arith, own)))
    (none_from (suc first) vars cuts cut (omega arith))

one_from : (first : ℕ) (vars : List Var) (cuts : List Cut) (cut : Cut) (k : ℕ) (d : Bounds) → cut.var ≡ first + k → k < length vars
    → bounds_from first vars (cuts ++ cut ∷ []) ≡ slice_set (bounds_from first vars cuts) k (both (slice_index_or (bounds_from first vars cuts) k d) (cut_bounds cut))
one_from first [] cuts cut k d here within = absurd (omega (arith, within))
one_from first (v ∷ vars) cuts cut zero d here within =
    ap₂ (λ (b : Bounds) (bs : List Bounds). b ∷ bs)
    (tighter first (own_bounds v) cuts cut (omega (arith, here)))
    (none_from (suc first) vars cuts cut (omega (arith, here)))
one_from first (v ∷ vars) cuts cut (suc k) d here within =
    ap₂ (λ (b : Bounds) (bs : List Bounds). b ∷ bs)
    (untouched first (own_bounds v) cuts cut (λ own. omega (arith, here, own)))
    (one_from (suc first) vars cuts cut k d (omega (arith, here)) (omega (arith, within)))

pub length-effective_bounds : (m : Model) (cuts : List Cut) → length (effective_bounds m cuts) ≡ length m.vars
length-effective_bounds m cuts = length-bounds_from 0 m.vars cuts

pub one_more_cut : (m : Model) (cuts : List Cut) (cut : Cut) (d : Bounds) → cut.var < length m.vars
    → effective_bounds m (cuts ++ cut ∷ []) ≡ slice_set (effective_bounds m cuts) cut.var (both (slice_index_or (effective_bounds m cuts) cut.var d) (cut_bounds cut))
one_more_cut m cuts cut d within = one_from 0 m.vars cuts cut cut.var d (omega arith) within

pub no_cuts : (first : ℕ) (vars : List Var) → bounds_from first vars [] ≡ map own_bounds vars
no_cuts first [] = refl
no_cuts first (v ∷ vars) = ap (λ (bs : List Bounds). own_bounds v ∷ bs) (no_cuts (suc first) vars)

-- the bounds of a case with one more cut, as they are written
pub cut_begins : (m : Model) (cuts : List Cut) (cut : Cut) (bounds : List Bounds) (b : Bounds) → bounds ≡ effective_bounds m cuts → b ≡ cut_bounds cut → cut.var < length bounds
    → slice_set bounds cut.var (both (slice_index_or bounds cut.var b) b) ≡ effective_bounds m (cuts ++ cut ∷ [])
cut_begins m cuts cut bounds b are is within =
    ap (λ (x : Bounds). slice_set bounds cut.var (both (slice_index_or bounds cut.var b) x)) is
    ∙ ap (λ (bs : List Bounds). slice_set bs cut.var (both (slice_index_or bs cut.var b) (cut_bounds cut))) are
    ∙ sym (one_more_cut m cuts cut b (subst (λ n. cut.var < n) (ap length are ∙ length-effective_bounds m cuts) within))
