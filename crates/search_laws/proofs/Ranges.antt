-- A split divides the whole numbers between the bounds of its variable.
use Rattle.std.proofs.Common.{◌≡◌, refl, sym, ◌∙◌, ap, ap₂, subst, ℕ, zero, suc, ◌+◌, ◌-◌, ◌*◌, ◌<◌, ◌==◌, ℤ, pos, negsuc, neg_ℤ, ◌+ℤ◌, ◌-ℤ◌, ◌*ℤ◌, true, List, [], ◌∷◌, ◌++◌, Option, Some, None, if◌then◌else◌, arith}
use Rattle.std.specs.Prelude.{◌≤ℤ◌, ◌<ℤ◌}
use Rattle.std.proofs.Math.Nat.{div-one, mul-pos}
use Rattle.std.proofs.lemmas.Bool.{cond-false, cond-true, cond_both, eq-eqb, ne_eqb}
use Rattle.std.proofs.lemmas.Int.{ints}
use Rattle.frac128.specs.Fraction.{Fraction, den, negation}
use Rattle.frac128.specs.Order.{IsAtMost, IsBelow}
use Rattle.frac128.proofs.Field.{negation-negation}
use Rattle.frac128.proofs.Ordered.{IsAtMost-negation, IsAtMost_trans, IsBelow-not, IsBelow_trans, IsBelow_trans_right}
use Rattle.model_data.specs.Size.{is_integer}
use Rattle.model_data.specs.declared.model.Var.{Var}
use Rattle.solve_defs.specs.Bounds.{Bounds, at_least_cut, at_most_cut, both, cut_bounds, greater_bound, lesser_bound, own_bounds, with_cuts}
use Rattle.solve_defs.specs.Values.{floor_of, is_at_most, whole}
use Rattle.solve_defs.specs.declared.cut.Cut.{Cut}
use Rattle.solve_defs.proofs.PointValues.{at_most_holds}
use Rattle.search_laws.specs.Counts.{above_zero, ceil_of, range_between, range_of, ranges_from}
use Rattle.search_laws.proofs.SplitSides.{floor_is}

-- ---- floors and ceilings

floor_most : (x : Fraction) → IsAtMost (whole (floor_of x)) x
floor_most x = let least = (floor_is x).at_most in record { at_most = joined (floor_of x *ℤ pos (den x)) x.num least }
  where
    joined : (a b : ℤ) → a ≤ℤ b → a ≤ℤ (b *ℤ pos 1)
    joined a b h = omega (arith, ints, h)

pub floor_next : (x : Fraction) → IsBelow x (whole (floor_of x +ℤ pos 1))
floor_next x = let next = (floor_is x).next_above in record { below = joined x.num ((floor_of x +ℤ pos 1) *ℤ pos (den x)) next }
  where
    joined : (a b : ℤ) → a <ℤ b → (a *ℤ pos 1) <ℤ b
    joined a b h = omega (arith, ints, h)

ceil_least : (x : Fraction) → IsAtMost x (whole (ceil_of x))
ceil_least x = subst (λ y. IsAtMost y (whole (ceil_of x))) (negation-negation x) (IsAtMost-negation (whole (floor_of (negation x))) (negation x) (floor_most (negation x)))

wholes_below : (a b : ℤ) → IsBelow (whole a) (whole b) → a <ℤ b
wholes_below a b h = joined a b h.below
  where
    joined : (a b : ℤ) → (a *ℤ pos 1) <ℤ (b *ℤ pos 1) → a <ℤ b
    joined a b h = omega (arith, ints, h)

floor_whole : (k : ℤ) → floor_of (whole k) ≡ k
floor_whole (pos n) = ap (λ m. pos m) (div-one n)
floor_whole (negsuc n) = ap (λ m. negsuc m) (div-one n)

ceil_whole : (k : ℤ) → ceil_of (whole k) ≡ k
ceil_whole k = ap neg_ℤ (floor_whole (neg_ℤ k)) ∙ twice k
  where
    twice : (a : ℤ) → neg_ℤ (neg_ℤ a) ≡ a
    twice a = omega (arith, ints)

-- ---- both parts of a range

above_is : (z : ℤ) → pos 0 ≤ℤ z → pos (above_zero z) ≡ z
above_is (pos n) h = refl
above_is (negsuc n) h = absurd (omega (arith, ints, h))

two_parts : (f c k : ℤ) → f ≤ℤ k → k <ℤ c → suc (above_zero (k -ℤ f)) + suc (above_zero (c -ℤ (k +ℤ pos 1))) ≡ suc (above_zero (c -ℤ f))
two_parts f c k low high =
    joined (above_zero (k -ℤ f)) (above_zero (c -ℤ (k +ℤ pos 1))) (above_zero (c -ℤ f)) f c k
    (above_is (k -ℤ f) (first f k low)) (above_is (c -ℤ (k +ℤ pos 1)) (last c k high)) (above_is (c -ℤ f) (whole_range f c k low high))
  where
    first : (f k : ℤ) → f ≤ℤ k → pos 0 ≤ℤ (k -ℤ f)
    first f k h = omega (arith, ints, h)

    last : (c k : ℤ) → k <ℤ c → pos 0 ≤ℤ (c -ℤ (k +ℤ pos 1))
    last c k h = omega (arith, ints, h)

    whole_range : (f c k : ℤ) → f ≤ℤ k → k <ℤ c → pos 0 ≤ℤ (c -ℤ f)
    whole_range f c k g h = omega (arith, ints, g, h)

    joined : (a b n : ℕ) (f c k : ℤ) → pos a ≡ k -ℤ f → pos b ≡ c -ℤ (k +ℤ pos 1) → pos n ≡ c -ℤ f → suc a + suc b ≡ suc n
    joined a b n f c k p q r = omega (arith, ints, p, q, r)

one_more : (f k : ℤ) → f <ℤ (k +ℤ pos 1) → f ≤ℤ k
one_more f k h = omega (arith, ints, h)

lesser_is : (u x : Fraction) (k : ℤ) → IsAtMost x u → IsBelow (whole k) x → lesser_bound (Some u) (Some (whole k)) ≡ Some (whole k)
lesser_is u x k most less = cond_both {A = Fraction} (is_at_most u (whole k)) u (whole k) (λ v. ◌≡◌ {A = Option Fraction} (Some v) (Some (whole k)))
    (λ shown. absurd (IsBelow-not (whole k) x less (IsAtMost_trans x u (whole k) most (at_most_holds u (whole k) shown)))) (λ _. refl)

greater_is : (l x : Fraction) (n : ℤ) → IsAtMost l x → IsBelow x (whole n) → greater_bound (Some l) (Some (whole n)) ≡ Some (whole n)
greater_is l x n most less = cond_both {A = Fraction} (is_at_most (whole n) l) l (whole n) (λ v. ◌≡◌ {A = Option Fraction} (Some v) (Some (whole n)))
    (λ shown. absurd (IsBelow-not x (whole n) less (IsAtMost_trans (whole n) l x (at_most_holds (whole n) l shown) most))) (λ _. refl)

split_range : (l u x : Fraction) (k : ℤ) → IsAtMost l x → IsAtMost x u → IsBelow (whole k) x → IsBelow x (whole (k +ℤ pos 1))
    → range_between (Some l) (lesser_bound (Some u) (Some (whole k))) + range_between (greater_bound (Some l) (Some (whole (k +ℤ pos 1)))) (Some u) ≡ range_between (Some l) (Some u)
split_range l u x k above below low high =
    ap₂ (λ a b. range_between (Some l) a + range_between b (Some u)) (lesser_is u x k below low) (greater_is l x (k +ℤ pos 1) above high)
    ∙ ap₂ (λ a b. suc (above_zero (a -ℤ floor_of l)) + suc (above_zero (ceil_of u -ℤ b))) (ceil_whole k) (floor_whole (k +ℤ pos 1))
    ∙ two_parts (floor_of l) (ceil_of u) k
    (one_more (floor_of l) k (wholes_below (floor_of l) (k +ℤ pos 1) (IsBelow_trans_right (whole (floor_of l)) x (whole (k +ℤ pos 1)) (IsAtMost_trans (whole (floor_of l)) l x (floor_most l) above) high)))
    (wholes_below k (ceil_of u) (IsBelow_trans (whole k) x (whole (ceil_of u)) low (IsAtMost_trans x u (whole (ceil_of u)) below (ceil_least u))))

-- ---- one cut more

with_more : (place : ℕ) (b : Bounds) (cuts : List Cut) (cut : Cut)
    → with_cuts place b (cuts ++ cut ∷ []) ≡ (if cut.var == place then both (with_cuts place b cuts) (cut_bounds cut) else with_cuts place b cuts)
with_more place b [] cut = refl
with_more place b (c ∷ cuts) cut = with_more place (if c.var == place then both b (cut_bounds c) else b) cuts cut

with_other : (place : ℕ) (b : Bounds) (cuts : List Cut) (cut : Cut) → (cut.var ≡ place → ⊥) → with_cuts place b (cuts ++ cut ∷ []) ≡ with_cuts place b cuts
with_other place b cuts cut other = with_more place b cuts cut ∙ cond-false {A = Bounds} (cut.var == place) _ _ (ne_eqb cut.var place other)

with_own : (place : ℕ) (b : Bounds) (cuts : List Cut) (cut : Cut) → cut.var ≡ place → with_cuts place b (cuts ++ cut ∷ []) ≡ both (with_cuts place b cuts) (cut_bounds cut)
with_own place b cuts cut own = with_more place b cuts cut ∙ cond-true {A = Bounds} (cut.var == place) _ _ (eq-eqb cut.var place own)

ranges_later : (place : ℕ) (vars : List Var) (cuts : List Cut) (cut : Cut) → cut.var < place → ranges_from place vars (cuts ++ cut ∷ []) ≡ ranges_from place vars cuts
ranges_later place [] cuts cut before = refl
ranges_later place (v ∷ vars) cuts cut before =
    ap₂ (λ b r. range_of v b * r) (with_other place (own_bounds v) cuts cut (apart cut.var place before)) (ranges_later (suc place) vars cuts cut (omega (arith, before)))
  where
    apart : (a b : ℕ) → a < b → a ≡ b → ⊥
    apart a b h e = omega (arith, h, e)

-- ---- a split

-- the value is between the bounds of an integer variable
pub record Inside (v : Var) (b : Bounds) (x : Fraction) : Type 0 where
  pub integer : is_integer v.kind ≡ true
  pub low : Fraction
  pub up : Fraction
  pub lower : b.lower ≡ Some low
  pub upper : b.upper ≡ Some up
  pub above : IsAtMost low x
  pub below : IsAtMost x up

-- of the variable so many places behind the first one
abbrev pub InsideAt : ℕ → List Var → List Cut → ℕ → Fraction → Type 0
InsideAt place [] cuts i x = ⊥
InsideAt place (v ∷ vars) cuts zero x = Inside v (with_cuts place (own_bounds v) cuts) x
InsideAt place (v ∷ vars) cuts (suc i) x = InsideAt (suc place) vars cuts i x

own_split : (v : Var) (b : Bounds) (x : Fraction) (place : ℕ) (k : ℤ) → Inside v b x → IsBelow (whole k) x → IsBelow x (whole (k +ℤ pos 1))
    → range_of v (both b (cut_bounds (at_most_cut place k))) + range_of v (both b (cut_bounds (at_least_cut place (k +ℤ pos 1)))) ≡ range_of v b
own_split v b x place k inside low high =
    ap₂ (λ m n. m + n) (integer (both b (cut_bounds (at_most_cut place k)))) (integer (both b (cut_bounds (at_least_cut place (k +ℤ pos 1)))))
    ∙ ap₂ (λ l u. range_between (greater_bound l None) (lesser_bound u (Some (whole k))) + range_between (greater_bound l (Some (whole (k +ℤ pos 1)))) (lesser_bound u None)) inside.lower inside.upper
    ∙ split_range inside.low inside.up x k inside.above inside.below low high
    ∙ sym (ap₂ range_between inside.lower inside.upper)
    ∙ sym (integer b)
  where
    integer : (c : Bounds) → range_of v c ≡ range_between c.lower c.upper
    integer c = cond-true {A = ℕ} (is_integer v.kind) (range_between c.lower c.upper) 1 inside.integer

shared : (a b c r : ℕ) → a + b ≡ c → a * r + b * r ≡ c * r
shared a b c r e = subst (λ n. a * r + b * r ≡ n * r) e (sides a b r)
  where
    sides : (a b r : ℕ) → a * r + b * r ≡ (a + b) * r
    sides a b r = omega arith

factored : (g a b c : ℕ) → a + b ≡ c → g * a + g * b ≡ g * c
factored g a b c e = subst (λ n. g * a + g * b ≡ g * n) e (sides g a b)
  where
    sides : (g a b : ℕ) → g * a + g * b ≡ g * (a + b)
    sides g a b = omega arith

-- The product is divided among both parts.
pub ranges_split : (place i at : ℕ) (vars : List Var) (cuts : List Cut) (x : Fraction) (k : ℤ) → at ≡ place + i → InsideAt place vars cuts i x → IsBelow (whole k) x → IsBelow x (whole (k +ℤ pos 1))
    → ranges_from place vars (cuts ++ at_most_cut at k ∷ []) + ranges_from place vars (cuts ++ at_least_cut at (k +ℤ pos 1) ∷ []) ≡ ranges_from place vars cuts
ranges_split place i at [] cuts x k is inside low high = absurd inside
ranges_split place zero at (v ∷ vars) cuts x k is inside low high =
    let here : at ≡ place = omega (arith, is) in
    let next : at < suc place = omega (arith, is) in
    let rest = ranges_from (suc place) vars cuts in
    let b = with_cuts place (own_bounds v) cuts in
    ap₂ (λ m n. m + n)
    (ap₂ (λ c r. range_of v c * r) (with_own place (own_bounds v) cuts (at_most_cut at k) here) (ranges_later (suc place) vars cuts (at_most_cut at k) next))
    (ap₂ (λ c r. range_of v c * r) (with_own place (own_bounds v) cuts (at_least_cut at (k +ℤ pos 1)) here) (ranges_later (suc place) vars cuts (at_least_cut at (k +ℤ pos 1)) next))
    ∙ shared (range_of v (both b (cut_bounds (at_most_cut at k)))) (range_of v (both b (cut_bounds (at_least_cut at (k +ℤ pos 1))))) (range_of v b) rest (own_split v b x at k inside low high)
ranges_split place (suc i) at (v ∷ vars) cuts x k is inside low high =
    let other : at ≡ place → ⊥ = apart at place i is in
    let g = range_of v (with_cuts place (own_bounds v) cuts) in
    ap₂ (λ m n. m + n)
    (ap (λ c. range_of v c * ranges_from (suc place) vars (cuts ++ at_most_cut at k ∷ [])) (with_other place (own_bounds v) cuts (at_most_cut at k) other))
    (ap (λ c. range_of v c * ranges_from (suc place) vars (cuts ++ at_least_cut at (k +ℤ pos 1) ∷ [])) (with_other place (own_bounds v) cuts (at_least_cut at (k +ℤ pos 1)) other))
    ∙ factored g (ranges_from (suc place) vars (cuts ++ at_most_cut at k ∷ [])) (ranges_from (suc place) vars (cuts ++ at_least_cut at (k +ℤ pos 1) ∷ [])) (ranges_from (suc place) vars cuts)
    (ranges_split (suc place) i at vars cuts x k (omega (arith, is)) inside low high)
  where
    apart : (a p i : ℕ) → a ≡ p + suc i → a ≡ p → ⊥
    apart a p i e h = omega (arith, e, h)

-- ---- no product is 0

range_some : (v : Var) (b : Bounds) → 0 < range_of v b
range_some v b = cond_both {A = ℕ} (is_integer v.kind) (range_between b.lower b.upper) 1 (λ n. 0 < n) (λ _. between b.lower b.upper) (λ _. omega arith)
  where
    between : (l u : Option Fraction) → 0 < range_between l u
    between None u = omega arith
    between (Some l) None = omega arith
    between (Some l) (Some u) = omega arith

pub ranges_some : (place : ℕ) (vars : List Var) (cuts : List Cut) → 0 < ranges_from place vars cuts
ranges_some place [] cuts = omega arith
ranges_some place (v ∷ vars) cuts = mul-pos (range_some v (with_cuts place (own_bounds v) cuts)) (ranges_some (suc place) vars cuts)

pub one_less : (a b c : ℕ) → 0 < a → 0 < b → a + b ≡ c → (a - 1) + (b - 1) < c - 1
one_less a b c h k e = omega (arith, h, k, e)
