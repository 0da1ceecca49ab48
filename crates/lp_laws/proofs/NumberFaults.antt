-- A number that is at fault at once: for its value, or as every number in its place would be.
use Rattle.std.proofs.Common.{◌≡◌, refl, sym, ◌∙◌, ◌⊎◌, inl, inr, Bool, true, false, Option, Some, None, Result, Ok, Err}
use Rattle.std.specs.Prelude.{if◌then◌else◌}
use Rattle.base_names.specs.declared.refusal.FaultWord.TheVariants.{Number as bad_number}
use Rattle.frac128.specs.Checked.{◌>>=◌}
use Rattle.model_data.specs.declared.model.Model.{Model}
use Rattle.model_data.specs.declared.model.Sense.{Sense}
use Rattle.model_data.specs.declared.model.Sense.TheVariants.{Less, Greater, Equal}
use Rattle.lp_defs.specs.declared.fault.ModelFault.{ModelFault}
use Rattle.lp_defs.specs.Draft.{Unfinished, change_var, default_title, with_constant}
use Rattle.lp_defs.specs.Objective.{after_objective_term, settle_objective_title}
use Rattle.lp_defs.specs.Quantity.{Limit, limit_of, may_bound, under_sign, value_of, with_bound}
use Rattle.lp_defs.specs.Reading.{after}
use Rattle.lp_defs.specs.Rows.{after_row_label, after_row_term, open_row, settle_row_title}
use Rattle.lp_defs.specs.Stage.{Stage, objective_start, objective_title, objective_first, objective_sign, objective_number, objective_next, rows_start, rows_next, row_title, row_first, row_sign, row_number, row_next, row_side, row_side_sign, bounds, bound_side, bound_side_sign, bound_sign, bound_number, bound_end}
use Rattle.lp_defs.specs.Symbols.{Quantity, Spot, number, fault_at, or_fault}

-- each number in the place is at fault
abbrev pub NoNumber : Stage → Spot → Bool → Type 0
NoNumber stage s has_sign = (q : Quantity) → (f : ModelFault) × (after stage s (number has_sign q) ≡ Err f)

abbrev pub ForValue : Stage → Spot → Bool → ModelFault → Type 0
ForValue stage s has_sign f = (f ≡ fault_at s bad_number) ⊎ NoNumber stage s has_sign

value_fault : {A : Type 0} (s : Spot) (o : Option A) (g : A → Stage) (f : ModelFault) → (or_fault s bad_number o >>= λ a. Ok (g a)) ≡ Err f → f ≡ fault_at s bad_number
value_fault s (Some a) g f e = absurd cc
value_fault s None g f e = let is : fault_at s bad_number ≡ f = cc in sym is

limit_fault : (s : Spot) (sense : Sense) (o : Option Limit) (g : Limit → Stage) (f : ModelFault) →
    (or_fault s bad_number o >>= λ l. if may_bound sense l then Ok (g l) else Err (fault_at s bad_number)) ≡ Err f → f ≡ fault_at s bad_number
limit_fault s sense (Some l) g f e = by (may_bound sense l) e
  where
    by : (b : Bool) → (if b then Ok (g l) else Err (fault_at s bad_number)) ≡ Err f → f ≡ fault_at s bad_number
    by true e = absurd cc
    by false e = let is : fault_at s bad_number ≡ f = cc in sym is
limit_fault s sense None g f e = let is : fault_at s bad_number ≡ f = cc in sym is

-- what was told before the number is at fault, or the number for its value, or each number is
through : {A : Type 0} (stage : Stage) (s : Spot) (has_sign : Bool) (o : Result A ModelFault) (g : Quantity → A → Result Stage ModelFault) (q : Quantity) (f : ModelFault) →
    ((r : Quantity) → after stage s (number has_sign r) ≡ (o >>= λ a. g r a)) →
    ((a : A) → g q a ≡ Err f → (f ≡ fault_at s bad_number) ⊎ ((r : Quantity) → (h : ModelFault) × (g r a ≡ Err h))) → after stage s (number has_sign q) ≡ Err f → ForValue stage s has_sign f
through stage s has_sign o g q f steps behind e = by o steps (sym (steps q) ∙ e)
  where
    by : (o : Result _ ModelFault) → ((r : Quantity) → after stage s (number has_sign r) ≡ (o >>= λ a. g r a)) → (o >>= λ a. g q a) ≡ Err f → ForValue stage s has_sign f
    by (Ok a) steps e = elim (behind a e) [ inl is ↦ inl is | inr each ↦ inr (λ r. ((each r).0, steps r ∙ (each r).1)) ]
    by (Err h) steps e = inr (λ r. (h, steps r))

objective_more : (s : Spot) (has_sign : Bool) (q : Quantity) (m : Model) (f : ModelFault) → after_objective_term s (number has_sign q) m ≡ Err f →
    (f ≡ fault_at s bad_number) ⊎ ((r : Quantity) → (h : ModelFault) × (after_objective_term s (number has_sign r) m ≡ Err h))
objective_more s true q m f e = inl (value_fault s (value_of (under_sign false q)) (λ x. objective_number s x m) f e)
objective_more s false q m f e = inr (λ r. (_, refl))

row_more : (s : Spot) (has_sign : Bool) (q : Quantity) (u : Unfinished) (f : ModelFault) → after_row_term s (number has_sign q) u ≡ Err f →
    (f ≡ fault_at s bad_number) ⊎ ((r : Quantity) → (h : ModelFault) × (after_row_term s (number has_sign r) u ≡ Err h))
row_more s true q u f e = inl (value_fault s (value_of (under_sign false q)) (λ x. row_number false s x u) f e)
row_more s false q u f e = inr (λ r. (_, refl))

pub number_fault : (stage : Stage) (s : Spot) (has_sign : Bool) (q : Quantity) (f : ModelFault) → after stage s (number has_sign q) ≡ Err f → ForValue stage s has_sign f
number_fault (objective_start m) s has_sign q f e = inl (value_fault s (value_of (under_sign false q)) (λ x. objective_number s x m) f e)
number_fault (objective_title t title m) s has_sign q f e =
    through (objective_title t title m) s has_sign (settle_objective_title t title m) (λ q told. after_objective_term s (number has_sign q) told) q f (λ r. refl)
    (λ told. objective_more s has_sign q told f) e
number_fault (objective_first m) s has_sign q f e = inl (value_fault s (value_of (under_sign false q)) (λ x. objective_number s x m) f e)
number_fault (objective_sign negative m) s has_sign q f e = inl (value_fault s (value_of (under_sign negative q)) (λ x. objective_number s x m) f e)
number_fault (objective_number t x m) s has_sign q f e =
    through (objective_number t x m) s has_sign (or_fault t bad_number (with_constant x m)) (λ q told. after_objective_term s (number has_sign q) told) q f (λ r. refl)
    (λ told. objective_more s has_sign q told f) e
number_fault (objective_next m) s true q f e = inl (value_fault s (value_of (under_sign false q)) (λ x. objective_number s x m) f e)
number_fault (objective_next m) s false q f e = inr (λ r. (_, refl))
number_fault (rows_start m) s has_sign q f e =
    through (rows_start m) s has_sign (open_row s (default_title m) m) (λ q opened. after_row_label s (number has_sign q) opened) q f (λ r. refl)
    (λ u h. inl (value_fault s (value_of (under_sign false q)) (λ x. row_number true s x u) f h)) e
number_fault (rows_next m) s has_sign q f e =
    through (rows_next m) s has_sign (open_row s (default_title m) m) (λ q opened. after_row_label s (number has_sign q) opened) q f (λ r. refl)
    (λ u h. inl (value_fault s (value_of (under_sign false q)) (λ x. row_number true s x u) f h)) e
number_fault (row_title t title m) s has_sign q f e =
    through (row_title t title m) s has_sign (settle_row_title t title m) (λ q told. after_row_term s (number has_sign q) told) q f (λ r. refl) (λ told. row_more s has_sign q told f) e
number_fault (row_first u) s has_sign q f e = inl (value_fault s (value_of (under_sign false q)) (λ x. row_number true s x u) f e)
number_fault (row_sign head negative u) s has_sign q f e = inl (value_fault s (value_of (under_sign negative q)) (λ x. row_number head s x u) f e)
number_fault (row_next u) s true q f e = inl (value_fault s (value_of (under_sign false q)) (λ x. row_number false s x u) f e)
number_fault (row_next u) s false q f e = inr (λ r. (_, refl))
number_fault (row_side sense u) s has_sign q f e = inl (value_fault s (value_of (under_sign false q)) _ f e)
number_fault (row_side_sign negative sense u) s has_sign q f e = inl (value_fault s (value_of (under_sign negative q)) _ f e)
number_fault (bounds m) s has_sign q f e = inl (value_fault s (limit_of (under_sign false q)) (λ l. bound_number s l m) f e)
number_fault (bound_side sense text m) s has_sign q f e = inl (limit_fault s sense (limit_of (under_sign false q)) (λ l. bounds (change_var text (with_bound sense l) m)) f e)
number_fault (bound_side_sign negative sense text m) s has_sign q f e = inl (limit_fault s sense (limit_of (under_sign negative q)) (λ l. bounds (change_var text (with_bound sense l) m)) f e)
number_fault (bound_sign negative m) s has_sign q f e = inl (value_fault s (limit_of (under_sign negative q)) (λ l. bound_number s l m) f e)
number_fault (bound_end Less text m) s has_sign q f e = inl (value_fault s (limit_of (under_sign false q)) (λ l. bound_number s l m) f e)
number_fault (bound_end Greater text m) s has_sign q f e = inl (value_fault s (limit_of (under_sign false q)) (λ l. bound_number s l m) f e)
number_fault (bound_end Equal text m) s has_sign q f e = inl (value_fault s (limit_of (under_sign false q)) (λ l. bound_number s l m) f e)
number_fault stage s has_sign q f e = inr (λ r. (_, refl))
