-- The terms of a lawful row, of which one is set, or from which a variable goes.
use Rattle.std.proofs.Common.{◌≡◌, ◌≢◌, refl, sym, ◌∙◌, ap, subst, arith, ℕ, suc, ◌-◌, ◌<◌, ◌==◌, nat_lt, Bool, true, false, not, cond, if◌then◌else◌}
use Rattle.std.proofs.Common.{List, [], ◌∷◌, ◌++◌, map, filter, pos, unsigned_abs, All}
use Rattle.std.proofs.lemmas.Bool.{eqb-false, false≢true, ltb-false, ltb-true}
use Rattle.std.proofs.lemmas.List.Elements.{All-cons, All-nil}
use Rattle.std.proofs.lemmas.List.Kept.{AllPairs-cons, AllPairs-filter}
use Rattle.frac128.specs.Fraction.{Fraction}
use Rattle.model_data.specs.Lawful.{IsLawfulRow}
use Rattle.model_data.specs.declared.model.Row.{Row}
use Rattle.model_data.specs.declared.model.Term.{Term}
use Rattle.model_core.specs.Effect.{in_row, is_zero, moved, term_of, with_coefficient, without_place}
use Rattle.model_core.specs.Rising.{IsRising}
use Rattle.model_core.proofs.ByName.{pairs_head, pairs_tail}
use Rattle.model_core.proofs.LawfulParts.{all_append, all_filter, all_mapped, all_passed, all_weaker, pairs_append}
use Rattle.model_core.proofs.Spots.{by_order}

pub not_zero : (x : Fraction) → is_zero x ≡ false → x.num ≢ pos 0
not_zero x h e = false≢true (sym h ∙ ap (λ z. unsigned_abs z == 0) e)

-- the one term or none
module _ (place : ℕ) (x : Fraction) where
  term_step : (P : Term → Type 0) (b : Bool) → is_zero x ≡ b → (is_zero x ≡ false → P (record { var = place; coef = x }))
      → All P (if b then [] else record { var = place; coef = x } ∷ [])
  term_step P true e h = All-nil P
  term_step P false e h = All-cons P (record { var = place; coef = x }) [] (h e) (All-nil P)

  pub term_all : (P : Term → Type 0) → (is_zero x ≡ false → P (record { var = place; coef = x })) → All P (term_of place x)
  term_all P h = term_step P (is_zero x) refl h

  term_rises : (b : Bool) → IsRising (if b then [] else record { var = place; coef = x } ∷ [])
  term_rises true i j d before within = absurd (omega (arith, within))
  term_rises false i j d before within = absurd (omega (arith, before, within))

  pub set_all : (P : Term → Type 0) (terms : List Term) → All P terms → (is_zero x ≡ false → P (record { var = place; coef = x })) → All P (with_coefficient place x terms)
  set_all P terms h k =
      all_append P (filter (λ t. nat_lt t.var place) terms ++ term_of place x) (filter (λ t. nat_lt place t.var) terms)
      (all_append P (filter (λ t. nat_lt t.var place) terms) (term_of place x) (all_filter P (λ t. nat_lt t.var place) terms h) (term_all P k))
      (all_filter P (λ t. nat_lt place t.var) terms h)

  set_rises : (terms : List Term) → IsRising terms → IsRising (with_coefficient place x terms)
  set_rises terms h =
      let R = λ (s t : Term). s.var < t.var in
      let front = filter (λ (t : Term). nat_lt t.var place) terms in
      let back = filter (λ (t : Term). nat_lt place t.var) terms in
      let below : All (λ t. t.var < place) front = all_passed (λ t. t.var < place) (λ t. nat_lt t.var place) terms (λ t e. ltb-true t.var place e) in
      let above : All (λ t. place < t.var) back = all_passed (λ t. place < t.var) (λ t. nat_lt place t.var) terms (λ t e. ltb-true place t.var e) in
      pairs_append R (front ++ term_of place x) back
      (pairs_append R front (term_of place x) (AllPairs-filter R (λ t. nat_lt t.var place) terms h) (term_rises (is_zero x))
      (all_weaker (λ t. t.var < place) (λ t. All (R t) (term_of place x)) front below (λ t lt. term_all (R t) (λ e. lt))))
      (AllPairs-filter R (λ t. nat_lt place t.var) terms h)
      (all_append (λ t. All (R t) back) front (term_of place x)
      (all_weaker (λ t. t.var < place) (λ t. All (R t) back) front below
      (λ t lt. all_weaker (λ u. place < u.var) (R t) back above (λ u gt. omega (arith, lt, gt))))
      (term_all (λ t. All (R t) back) (λ e. above)))

  -- a row with one coefficient set
  pub set_lawful : (n : ℕ) (r : Row) → place < n → IsLawfulRow n r → IsLawfulRow n (in_row (with_coefficient place x) r)
  set_lawful n r within h = record {
    name = h.name;
    places = set_all (λ t. t.var < n) r.terms h.places (λ e. within);
    rising = set_rises r.terms h.rising;
    not_zero = set_all (λ t. t.coef.num ≢ pos 0) r.terms h.not_zero (λ e. not_zero x e);
  }

all_and : {X : Type 0} (P Q : X → Type 0) (xs : List X) → All P xs → All Q xs → All (λ x. P x × Q x) xs
all_and P Q xs h k i d within = (h i d within, k i d within)

-- without a variable
module _ (place : ℕ) where
  abbrev others : List Term → List Term
  others terms = filter (λ t. not (t.var == place)) terms

  apart : (b : Bool) (t : Term) → (t.var == place) ≡ b → not b ≡ true → t.var ≡ place → ⊥
  apart true t e h = absurd (false≢true h)
  apart false t e h = eqb-false t.var place e

  others_apart : (terms : List Term) → All (λ t. t.var ≡ place → ⊥) (others terms)
  others_apart terms = all_passed (λ t. t.var ≡ place → ⊥) (λ t. not (t.var == place)) terms (λ t e. apart (t.var == place) t refl e)

  below_step : (b : Bool) (t : Term) → nat_lt place t.var ≡ b → (t.var ≡ place → ⊥) → (n : ℕ) → place < suc n → t.var < suc n
      → (if b then record t { var = t.var - 1 } else t).var < n
  below_step true t e other n within lt = let far = ltb-true place t.var e in omega (arith, far, lt)
  below_step false t e other n within lt =
      let near = ltb-false place t.var e in
      by_order t.var place (nat_lt t.var place) refl (λ less. omega (arith, less, within)) (λ more. absurd (other (omega (arith, near, more))))

  less_step : (a b : Bool) (s t : Term) → nat_lt place s.var ≡ a → nat_lt place t.var ≡ b → (s.var ≡ place → ⊥) → s.var < t.var
      → (if a then record s { var = s.var - 1 } else s).var < (if b then record t { var = t.var - 1 } else t).var
  less_step true true s t e f other lt = let far = ltb-true place s.var e in omega (arith, far, lt)
  less_step true false s t e f other lt = let far = ltb-true place s.var e in let near = ltb-false place t.var f in absurd (omega (arith, far, near, lt))
  less_step false true s t e f other lt =
      let near = ltb-false place s.var e in
      let far = ltb-true place t.var f in
      by_order s.var place (nat_lt s.var place) refl (λ less. omega (arith, less, far)) (λ more. absurd (other (omega (arith, near, more))))
  less_step false false s t e f other lt = lt

  coef_step : (b : Bool) (t : Term) → (if b then record t { var = t.var - 1 } else t).coef ≡ t.coef
  coef_step true t = refl
  coef_step false t = refl

  rises_step : (b : Bool) (t : Term) (rest : List Term) → (t.var == place) ≡ b → All (λ u. t.var < u.var) rest → IsRising (map (moved place) rest)
      → IsRising (map (moved place) (cond (not b) (t ∷ rest) rest))
  rises_step true t rest e h k = k
  rises_step false t rest e h k =
      AllPairs-cons (λ (s u : Term). s.var < u.var) (moved place t) (map (moved place) rest)
      (all_mapped (λ u. t.var < u.var) (λ u. (moved place t).var < u.var) (moved place) rest h
      (λ u lt. less_step (nat_lt place t.var) (nat_lt place u.var) t u refl refl (eqb-false t.var place e) lt)) k

  dropped_rises : (terms : List Term) → IsRising terms → IsRising (without_place place terms)
  dropped_rises [] h = h
  dropped_rises (t ∷ terms) h =
      rises_step (t.var == place) t (others terms) refl
      (all_filter (λ u. t.var < u.var) (λ u. not (u.var == place)) terms (pairs_head (λ (s u : Term). s.var < u.var) t terms h))
      (dropped_rises terms (pairs_tail (λ (s u : Term). s.var < u.var) t terms h))

  -- a row of one variable less
  pub dropped_lawful : (n : ℕ) (r : Row) → place < suc n → IsLawfulRow (suc n) r → IsLawfulRow n (in_row (without_place place) r)
  dropped_lawful n r within h = record {
    name = h.name;
    places = all_mapped (λ t. (t.var ≡ place → ⊥) × (t.var < suc n)) (λ t. t.var < n) (moved place) (others r.terms)
        (all_and (λ t. t.var ≡ place → ⊥) (λ t. t.var < suc n) (others r.terms) (others_apart r.terms)
        (all_filter (λ t. t.var < suc n) (λ t. not (t.var == place)) r.terms h.places))
        (λ t both. below_step (nat_lt place t.var) t refl (both.0) n within (both.1));
    rising = dropped_rises r.terms h.rising;
    not_zero = all_mapped (λ t. t.coef.num ≢ pos 0) (λ t. t.coef.num ≢ pos 0) (moved place) (others r.terms)
        (all_filter (λ t. t.coef.num ≢ pos 0) (λ t. not (t.var == place)) r.terms h.not_zero)
        (λ t other. subst (λ (x : Fraction). x.num ≢ pos 0) (sym (coef_step (nat_lt place t.var) t)) other);
  }
