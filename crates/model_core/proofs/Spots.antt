-- Terms that rise by variable, parted at the place of a variable.
use Rattle.std.proofs.Common.{◌≡◌, refl, sym, ◌∙◌, ap, ap₂, subst, arith, ℕ, zero, suc, ◌<◌, ◌≤◌, nat_lt, Bool, true, false, cond, if◌then◌else◌}
use Rattle.std.proofs.Common.{List, [], ◌∷◌, ◌++◌, length, take, drop, filter, get_or, set, append_assoc}
use Rattle.std.specs.List.{AllWithin, insert, remove}
use Rattle.std.specs.List.Sorted.{IsPartitionedBy}
use Rattle.std.proofs.lemmas.Bool.{le-ltb, lt-ltb, ltb-false, ltb-true, eq-eqb, ne_eqb}
use Rattle.std.proofs.lemmas.List.{append-nil, get_or_default, set_split, take-append-drop}
use Rattle.frac128.specs.Fraction.{Fraction, zero_value}
use Rattle.model_data.specs.declared.model.Term.{Term}
use Rattle.model_core.specs.Effect.{is_zero, term_of, with_coefficient}
use Rattle.model_core.specs.Look.{coefficient_in}
use Rattle.model_core.specs.Rising.{IsMissing, IsRising, IsThere}

module _ {X : Type 0} (P : X → Type 0) (x : X) (xs : List X) where
  -- what holds between two places holds of the list without its first item, one place in front
  shifted : (low high : ℕ) → AllWithin P (x ∷ xs) (suc low) (suc high) → AllWithin P xs low high
  shifted low high h k d from below = h (suc k) d (omega (arith, from)) (omega (arith, below))

  shifted-0 : (high : ℕ) → AllWithin P (x ∷ xs) 0 (suc high) → AllWithin P xs 0 high
  shifted-0 high h k d from below = h (suc k) d (omega arith) (omega (arith, below))

  first_of : (high : ℕ) → AllWithin P (x ∷ xs) 0 (suc high) → P x
  first_of high h = h 0 x (omega arith) (omega arith)

keep : {X : Type 0} (b : Bool) (x : X) (ys zs : List X) → b ≡ true → ys ≡ zs → cond b (x ∷ ys) ys ≡ x ∷ zs
keep true x ys zs e h = ap (λ l. x ∷ l) h
keep false x ys zs e h = absurd cc

leave : {X : Type 0} (b : Bool) (x : X) (ys zs : List X) → b ≡ false → ys ≡ zs → cond b (x ∷ ys) ys ≡ zs
leave true x ys zs e h = absurd cc
leave false x ys zs e h = h

module _ {X : Type 0} (p : X → Bool) where
  filter-none : (xs : List X) → AllWithin (λ x. p x ≡ false) xs 0 (length xs) → filter p xs ≡ []
  filter-none [] h = refl
  filter-none (x ∷ xs) h =
      leave (p x) x (filter p xs) [] (first_of (λ y. p y ≡ false) x xs (length xs) h) (filter-none xs (shifted-0 (λ y. p y ≡ false) x xs (length xs) h))

  filter-all : (xs : List X) → AllWithin (λ x. p x ≡ true) xs 0 (length xs) → filter p xs ≡ xs
  filter-all [] h = refl
  filter-all (x ∷ xs) h =
      keep (p x) x (filter p xs) xs (first_of (λ y. p y ≡ true) x xs (length xs) h) (filter-all xs (shifted-0 (λ y. p y ≡ true) x xs (length xs) h))

  -- those in front of a place pass, and the others don't
  pub filter-front : (xs : List X) (i : ℕ) → i ≤ length xs → AllWithin (λ x. p x ≡ true) xs 0 i → AllWithin (λ x. p x ≡ false) xs i (length xs)
      → filter p xs ≡ take i xs
  filter-front [] zero within h k = refl
  filter-front [] (suc i) within h k = refl
  filter-front (x ∷ xs) zero within h k = filter-none (x ∷ xs) k
  filter-front (x ∷ xs) (suc i) within h k =
      keep (p x) x (filter p xs) (take i xs) (first_of (λ y. p y ≡ true) x xs i h)
      (filter-front xs i (omega (arith, within)) (shifted-0 (λ y. p y ≡ true) x xs i h) (shifted (λ y. p y ≡ false) x xs i (length xs) k))

  -- those in front of a place don't pass, and the others do
  pub filter-back : (xs : List X) (i : ℕ) → i ≤ length xs → AllWithin (λ x. p x ≡ false) xs 0 i → AllWithin (λ x. p x ≡ true) xs i (length xs)
      → filter p xs ≡ drop i xs
  filter-back [] zero within h k = refl
  filter-back [] (suc i) within h k = refl
  filter-back (x ∷ xs) zero within h k = filter-all (x ∷ xs) k
  filter-back (x ∷ xs) (suc i) within h k =
      leave (p x) x (filter p xs) (drop i xs) (first_of (λ y. p y ≡ false) x xs i h)
      (filter-back xs i (omega (arith, within)) (shifted-0 (λ y. p y ≡ false) x xs i h) (shifted (λ y. p y ≡ true) x xs i (length xs) k))

parted : (front mid back f b : List Term) → front ≡ f → back ≡ b → (front ++ mid ++ back) ≡ f ++ mid ++ b
parted front mid back f b e h = ap₂ (λ (x y : List Term). x ++ mid ++ y) e h

-- where the variable has a term, the others stand around it
pub with-there : (var : ℕ) (x : Fraction) (terms : List Term) (i : ℕ) → IsThere var terms i
    → with_coefficient var x terms ≡ take i terms ++ term_of var x ++ drop (suc i) terms
with-there var x terms i h =
    parted (filter (λ t. nat_lt t.var var) terms) (term_of var x) (filter (λ t. nat_lt var t.var) terms) (take i terms) (drop (suc i) terms)
    (filter-front (λ t. nat_lt t.var var) terms i (omega (arith, h.within))
    (λ k d low high. lt-ltb _ _ (h.before k d low high)) (λ k d low high. le-ltb _ _ (h.from k d low high)))
    (filter-back (λ t. nat_lt var t.var) terms (suc i) (omega (arith, h.within))
    (λ k d low high. le-ltb _ _ (h.upto k d low high)) (λ k d low high. lt-ltb _ _ (h.behind k d low high)))

pub with-missing : (var : ℕ) (x : Fraction) (terms : List Term) (i : ℕ) → IsMissing var terms i
    → with_coefficient var x terms ≡ take i terms ++ term_of var x ++ drop i terms
with-missing var x terms i h =
    parted (filter (λ t. nat_lt t.var var) terms) (term_of var x) (filter (λ t. nat_lt var t.var) terms) (take i terms) (drop i terms)
    (filter-front (λ t. nat_lt t.var var) terms i h.within
    (λ k d low high. lt-ltb _ _ (h.before k d low high)) (λ k d low high. le-ltb _ _ (let e = h.behind k d low high in omega (arith, e))))
    (filter-back (λ t. nat_lt var t.var) terms i h.within
    (λ k d low high. le-ltb _ _ (let e = h.before k d low high in omega (arith, e))) (λ k d low high. lt-ltb _ _ (h.behind k d low high)))

term-zero : (var : ℕ) (x : Fraction) → is_zero x ≡ true → term_of var x ≡ []
term-zero var x e = ap (λ (b : Bool). if b then [] else record { var = var; coef = x } ∷ []) e

term-other : (var : ℕ) (x : Fraction) → is_zero x ≡ false → term_of var x ≡ record { var = var; coef = x } ∷ []
term-other var x e = ap (λ (b : Bool). if b then [] else record { var = var; coef = x } ∷ []) e

-- the four ways in which a coefficient is set
pub taken_away : (var : ℕ) (x : Fraction) (terms : List Term) (i : ℕ) → IsThere var terms i → is_zero x ≡ true
    → with_coefficient var x terms ≡ remove terms i
taken_away var x terms i h e =
    with-there var x terms i h ∙ ap (λ (mid : List Term). take i terms ++ mid ++ drop (suc i) terms) (term-zero var x e)
    ∙ ap (λ (l : List Term). l ++ drop (suc i) terms) (append-nil (take i terms))

pub replaced : (var : ℕ) (x : Fraction) (terms : List Term) (i : ℕ) → IsThere var terms i → is_zero x ≡ false
    → with_coefficient var x terms ≡ set terms i (record { var = var; coef = x })
replaced var x terms i h e =
    with-there var x terms i h ∙ ap (λ (mid : List Term). take i terms ++ mid ++ drop (suc i) terms) (term-other var x e)
    ∙ append_assoc (take i terms) (record { var = var; coef = x } ∷ []) (drop (suc i) terms)
    ∙ sym (set_split terms i (record { var = var; coef = x }) h.within)

pub left_out : (var : ℕ) (x : Fraction) (terms : List Term) (i : ℕ) → IsMissing var terms i → is_zero x ≡ true
    → with_coefficient var x terms ≡ terms
left_out var x terms i h e =
    with-missing var x terms i h ∙ ap (λ (mid : List Term). take i terms ++ mid ++ drop i terms) (term-zero var x e)
    ∙ ap (λ (l : List Term). l ++ drop i terms) (append-nil (take i terms)) ∙ take-append-drop i terms

pub put_in : (var : ℕ) (x : Fraction) (terms : List Term) (i : ℕ) → IsMissing var terms i → is_zero x ≡ false
    → with_coefficient var x terms ≡ insert terms i (record { var = var; coef = x })
put_in var x terms i h e =
    with-missing var x terms i h ∙ ap (λ (mid : List Term). take i terms ++ mid ++ drop i terms) (term-other var x e)
    ∙ append_assoc (take i terms) (record { var = var; coef = x } ∷ []) (drop i terms)

found_step : (var : ℕ) (t : Term) (terms : List Term) → t.var ≡ var → coefficient_in var (t ∷ terms) ≡ t.coef
found_step var t terms e = ap (λ (b : Bool). if b then t.coef else coefficient_in var terms) (eq-eqb t.var var e)

passed_step : (var : ℕ) (t : Term) (terms : List Term) → (t.var ≡ var → ⊥) → coefficient_in var (t ∷ terms) ≡ coefficient_in var terms
passed_step var t terms h = ap (λ (b : Bool). if b then t.coef else coefficient_in var terms) (ne_eqb t.var var h)

pub coefficient-there : (var : ℕ) (terms : List Term) (i : ℕ) (d : Term) → i < length terms → AllWithin (λ t. t.var < var) terms 0 i → (get_or terms i d).var ≡ var
    → coefficient_in var terms ≡ (get_or terms i d).coef
coefficient-there var [] i d within front e = absurd (omega (arith, within))
coefficient-there var (t ∷ terms) zero d within front e = found_step var t terms e
coefficient-there var (t ∷ terms) (suc i) d within front e =
    let below = first_of (λ t. t.var < var) t terms i front in
    passed_step var t terms (λ same. omega (arith, below, same))
    ∙ coefficient-there var terms i d (omega (arith, within)) (shifted-0 (λ t. t.var < var) t terms i front) e

pub coefficient-missing : (var : ℕ) (terms : List Term) → AllWithin (λ t. t.var ≡ var → ⊥) terms 0 (length terms) → coefficient_in var terms ≡ zero_value
coefficient-missing var [] h = refl
coefficient-missing var (t ∷ terms) h =
    passed_step var t terms (first_of (λ t. t.var ≡ var → ⊥) t terms (length terms) h)
    ∙ coefficient-missing var terms (shifted-0 (λ t. t.var ≡ var → ⊥) t terms (length terms) h)

pub by_order : {P : Type 0} (k i : ℕ) (b : Bool) → nat_lt k i ≡ b → (k < i → P) → (i ≤ k → P) → P
by_order k i true e below above = below (ltb-true k i e)
by_order k i false e below above = above (ltb-false k i e)

module _ (var : ℕ) (terms : List Term) (rising : IsRising terms) where
  pub rising-le : (i j : ℕ) (d : Term) → i ≤ j → j < length terms → (get_or terms i d).var ≤ (get_or terms j d).var
  rising-le i j d le within =
      by_order i j (nat_lt i j) refl
      (λ below. let e = rising i j d below within in omega (arith, e))
      (λ above. let same : i ≡ j = omega (arith, le, above) in
      subst (λ (n : ℕ). (get_or terms i d).var ≤ (get_or terms n d).var) same (omega arith))

  pub rising-parted : IsPartitionedBy (λ t. nat_lt t.var var) terms
  rising-parted i j d le within e =
      let far = ltb-true (get_or terms j d).var var e in
      let near = rising-le i j d le within in
      lt-ltb (get_or terms i d).var var (omega (arith, far, near))

  module _ (i : ℕ) (front : AllWithin (λ t. nat_lt t.var var ≡ true) terms 0 i) (back : AllWithin (λ t. nat_lt t.var var ≡ false) terms i (length terms)) where
    before_it : AllWithin (λ t. t.var < var) terms 0 i
    before_it k d low high = ltb-true _ _ (front k d low high)

    from_it : AllWithin (λ t. var ≤ t.var) terms i (length terms)
    from_it k d low high = ltb-false _ _ (back k d low high)

    pub is-there : i < length terms → (d : Term) → (get_or terms i d).var ≡ var → IsThere var terms i
    is-there within d e = record {
      within = within;
      is = λ k e' low high. at k e' low high;
      before = before_it;
      from = from_it;
      upto = λ k e' low high. let le = rising-le k i e' (omega (arith, high)) within in let same = at i e' (omega arith) (omega arith) in omega (arith, le, same);
      behind = λ k e' low high. let lt = rising i k e' (omega (arith, low)) high in let same = at i e' (omega arith) (omega arith) in omega (arith, lt, same);
    } where
      at : (k : ℕ) (e' : Term) → i ≤ k → k < suc i → (get_or terms k e').var ≡ var
      at k e' low high =
          let same : i ≡ k = omega (arith, low, high) in
          subst (λ (n : ℕ). (get_or terms n e').var ≡ var) same (ap (λ (t : Term). t.var) (get_or_default terms i e' d within) ∙ e)

    pub is-missing : i ≤ length terms → ((d : Term) → i < length terms → (get_or terms i d).var ≡ var → ⊥) → IsMissing var terms i
    is-missing within other = record {
      within = within;
      before = before_it;
      behind = λ k d low high.
          let near = from_it i d (omega arith) (omega (arith, low, high)) in
          let differ = other d (omega (arith, low, high)) in
          let le = rising-le i k d low high in
          above k d near le differ;
    } where
      above : (k : ℕ) (d : Term) → var ≤ (get_or terms i d).var → (get_or terms i d).var ≤ (get_or terms k d).var → ((get_or terms i d).var ≡ var → ⊥)
          → var < (get_or terms k d).var
      above k d near le differ = by_order var (get_or terms k d).var (nat_lt var (get_or terms k d).var) refl (λ h. h)
          (λ h. absurd (differ (omega (arith, near, le, h))))
