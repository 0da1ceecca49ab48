-- Another number in a number's place, with which the tokens can be gone on with.
use Rattle.std.proofs.Common.{◌≡◌, refl, sym, ◌∙◌, ap, subst, ℕ, Bool, true, false, List, Option, Some, None, Result, Ok, Err, option_map}
use Rattle.base_names.specs.declared.refusal.FaultWord.{FaultWord}
use Rattle.base_names.specs.declared.refusal.FaultWord.TheVariants.{Number as bad_number}
use Rattle.frac128.specs.Checked.{◌>>=◌}
use Rattle.frac128.specs.Fraction.{Fraction, exact_sum, negation, zero_value}
use Rattle.frac128.proofs.Field.{negation-negation}
use Rattle.frac128.proofs.Kept.{IsKept-one}
use Rattle.model_data.specs.declared.model.Model.{Model}
use Rattle.model_data.specs.declared.model.Sense.{Sense}
use Rattle.model_data.specs.declared.model.Sense.TheVariants.{Less, Greater, Equal}
use Rattle.lp_defs.specs.declared.fault.ModelFault.{ModelFault}
use Rattle.lp_defs.specs.Draft.{Unfinished, change_var, close_row, default_title, with_constant}
use Rattle.lp_defs.specs.Objective.{after_objective_term, lone_name, settle_objective_title}
use Rattle.lp_defs.specs.Quantity.{limited, unlimited, with_bound}
use Rattle.lp_defs.specs.Reading.{after}
use Rattle.lp_defs.specs.Rows.{after_row_term, open_row, row_amount, settle_row_title}
use Rattle.lp_defs.specs.Stage.{Stage, objective_start, objective_title, objective_first, objective_sign, objective_number, objective_next, rows_start, rows_next, row_title, row_first, row_sign, row_number, row_next, row_side, row_side_sign, bounds, bound_side, bound_side_sign, bound_sign, bound_number, bound_end}
use Rattle.lp_defs.specs.Symbols.{Quantity, finite, infinite, Spot, number, or_fault}
use Rattle.lp_laws.proofs.Closing.{Closes, TakesBack, bound_number_closes, bounds_closes, objective_number_closes, row_numbered, rows_next_closes, takes_back, zero_added}
use Rattle.lp_laws.proofs.Lasting.{Gives, Lasts, Within, WithinRow, bind, constant_within, into_objective, into_row, opened}

there_is : {A B : Type 0} (p : Spot) (w : FaultWord) (o : Option A) (g : A → Result B ModelFault) (b : B) → (or_fault p w o >>= g) ≡ Ok b → (a : A) × (o ≡ Some a)
there_is p w (Some a) g b e = (a, refl)
there_is p w None g b e = absurd cc

ok_is : {A B : Type 0} (o : Result A ModelFault) (g : A → Result B ModelFault) (b : B) → (o >>= g) ≡ Ok b → (a : A) × (o ≡ Ok a)
ok_is (Ok a) g b e = (a, refl)
ok_is (Err f) g b e = absurd cc

pub record Replaced (stage : Stage) (s : Spot) (has_sign : Bool) : Type 0 where
  pub other : Quantity
  pub next : Stage
  pub is : after stage s (number has_sign other) ≡ Ok next
  pub closes : Closes next

pub given : {A : Type 0} (P : A → Type 0) (o : Result A ModelFault) (a : A) → o ≡ Ok a → Gives P o → P a
given P (Ok b) a e h = let is : b ≡ a = cc in subst P is h
given P (Err f) a e h = absurd cc

pub zero_closes : (s : Spot) (m : Model) → Within m → Closes (objective_number s zero_value m)
zero_closes s m w = objective_number_closes s zero_value m (record m { constant = exact_sum m.constant zero_value })
    (ap (option_map (λ sum. record m { constant = sum })) (zero_added m.constant w.constant))

-- the number that takes a coefficient back, under a sign
pub unsigned : Bool → Fraction → Fraction
unsigned false x = x
unsigned true x = negation x

pub row_value : (head negative : Bool) (s : Spot) (u : Unfinished) (x : Fraction) → row_amount head negative s (finite (unsigned negative x)) u ≡ Ok (row_number head s x u)
unfolding unsigned
row_value head false s u x = refl
row_value head true s u x = ap (λ x. Ok (row_number head s x u)) (negation-negation x)

pub row_closes : (head : Bool) (s : Spot) (u : Unfinished) (t : TakesBack u) → Closes (row_number head s t.x u)
row_closes head s u t = row_numbered head s t.x u t.text zero_value t.told t.sum_is t.told_is

numbered_objective : (t : Spot) (x : Fraction) (s : Spot) (has_sign : Bool) (q : Quantity) (m : Model) (next : Stage) → Lasts (objective_number t x m) →
    after (objective_number t x m) s (number has_sign q) ≡ Ok next → Replaced (objective_number t x m) s has_sign
numbered_objective t x s true q m next w e =
    let p = there_is t bad_number (with_constant x m) (λ told. after_objective_term s (number true q) told) next e in
    record {
      other = finite zero_value;
      next = objective_number s zero_value p.0;
      is = ap (λ o. or_fault t bad_number o >>= λ told. after_objective_term s (number true (finite zero_value)) told) p.1;
      closes = zero_closes s p.0 (constant_within x m p.0 w.1 w.0 p.1);
    }
numbered_objective t x s false q m next w e =
    let p = there_is t bad_number (with_constant x m) (λ told. after_objective_term s (number false q) told) next e in
    let no = sym (ap (λ o. or_fault t bad_number o >>= λ told. after_objective_term s (number false q) told) p.1) ∙ e in
    absurd cc

titled_objective : (t : Spot) (title : List ℕ) (s : Spot) (has_sign : Bool) (q : Quantity) (m : Model) (next : Stage) → Within m →
    after (objective_title t title m) s (number has_sign q) ≡ Ok next → Replaced (objective_title t title m) s has_sign
titled_objective t title s true q m next w e =
    let p = ok_is (settle_objective_title t title m) (λ told. after_objective_term s (number true q) told) next e in
    record {
      other = finite zero_value;
      next = objective_number s zero_value p.0;
      is = ap (λ o. o >>= λ told. after_objective_term s (number true (finite zero_value)) told) p.1;
      closes = zero_closes s p.0 (given Within (settle_objective_title t title m) p.0 p.1 (into_objective (lone_name false t title) m w));
    }
titled_objective t title s false q m next w e =
    let p = ok_is (settle_objective_title t title m) (λ told. after_objective_term s (number false q) told) next e in
    let no = sym (ap (λ o. o >>= λ told. after_objective_term s (number false q) told) p.1) ∙ e in
    absurd cc

signed_objective : (negative : Bool) (s : Spot) (has_sign : Bool) (m : Model) → Within m → Replaced (objective_sign negative m) s has_sign
signed_objective false s has_sign m w = record { other = finite zero_value; next = objective_number s zero_value m; is = refl; closes = zero_closes s m w }
signed_objective true s has_sign m w = record { other = finite zero_value; next = objective_number s zero_value m; is = refl; closes = zero_closes s m w }

objective_more : (s : Spot) (has_sign : Bool) (q : Quantity) (m : Model) (next : Stage) → Within m → after (objective_next m) s (number has_sign q) ≡ Ok next → Replaced (objective_next m) s has_sign
objective_more s true q m next w e = record { other = finite zero_value; next = objective_number s zero_value m; is = refl; closes = zero_closes s m w }
objective_more s false q m next w e = absurd cc

row_more : (s : Spot) (has_sign : Bool) (q : Quantity) (u : Unfinished) (next : Stage) → WithinRow u → after (row_next u) s (number has_sign q) ≡ Ok next → Replaced (row_next u) s has_sign
row_more s true q u next w e =
    let t = takes_back u w in
    record { other = finite (unsigned false t.x); next = row_number false s t.x u; is = row_value false false s u t.x; closes = row_closes false s u t }
row_more s false q u next w e = absurd cc

unlabelled : (stage : Stage) (s : Spot) (has_sign : Bool) (q : Quantity) (m : Model) (next : Stage) → Within m →
    ((q : Quantity) → after stage s (number has_sign q) ≡ (open_row s (default_title m) m >>= λ u. row_amount true false s q u)) →
    after stage s (number has_sign q) ≡ Ok next → Replaced stage s has_sign
unlabelled stage s has_sign q m next w is e =
    let p = ok_is (open_row s (default_title m) m) (λ u. row_amount true false s q u) next (sym (is q) ∙ e) in
    let t = takes_back p.0 (given WithinRow (open_row s (default_title m) m) p.0 p.1 (opened s (default_title m) m w)) in
    record {
      other = finite (unsigned false t.x);
      next = row_number true s t.x p.0;
      is = is (finite (unsigned false t.x)) ∙ (ap (λ o. o >>= λ u. row_amount true false s (finite (unsigned false t.x)) u) p.1 ∙ row_value true false s p.0 t.x);
      closes = row_closes true s p.0 t;
    }

titled_row : (t : Spot) (title : List ℕ) (s : Spot) (has_sign : Bool) (q : Quantity) (m : Model) (next : Stage) → Within m →
    after (row_title t title m) s (number has_sign q) ≡ Ok next → Replaced (row_title t title m) s has_sign
titled_row t title s true q m next w e =
    let p = ok_is (settle_row_title t title m) (λ told. after_row_term s (number true q) told) next e in
    let within = bind WithinRow WithinRow (open_row t (default_title m) m) _ (opened t (default_title m) m w) (λ u l. into_row (lone_name false t title) u IsKept-one l) in
    let back = takes_back p.0 (given WithinRow (settle_row_title t title m) p.0 p.1 within) in
    record {
      other = finite (unsigned false back.x);
      next = row_number false s back.x p.0;
      is = ap (λ o. o >>= λ told. after_row_term s (number true (finite (unsigned false back.x))) told) p.1 ∙ row_value false false s p.0 back.x;
      closes = row_closes false s p.0 back;
    }
titled_row t title s false q m next w e =
    let p = ok_is (settle_row_title t title m) (λ told. after_row_term s (number false q) told) next e in
    let no = sym (ap (λ o. o >>= λ told. after_row_term s (number false q) told) p.1) ∙ e in
    absurd cc

bound_ends : (sense : Sense) (text : List ℕ) (s : Spot) (has_sign : Bool) (m : Model) → Replaced (bound_end sense text m) s has_sign
bound_ends Less text s has_sign m = record { other = infinite true; next = bound_number s (unlimited true) m; is = refl; closes = bound_number_closes s (unlimited true) m }
bound_ends Greater text s has_sign m = record { other = infinite true; next = bound_number s (unlimited true) m; is = refl; closes = bound_number_closes s (unlimited true) m }
bound_ends Equal text s has_sign m = record { other = infinite true; next = bound_number s (unlimited true) m; is = refl; closes = bound_number_closes s (unlimited true) m }

bound_signed : (negative : Bool) (s : Spot) (has_sign : Bool) (m : Model) → Replaced (bound_sign negative m) s has_sign
bound_signed false s has_sign m = record { other = infinite true; next = bound_number s (unlimited true) m; is = refl; closes = bound_number_closes s (unlimited true) m }
bound_signed true s has_sign m = record { other = infinite true; next = bound_number s (unlimited false) m; is = refl; closes = bound_number_closes s (unlimited false) m }

side_signed : (negative : Bool) (sense : Sense) (u : Unfinished) (s : Spot) (has_sign : Bool) → Replaced (row_side_sign negative sense u) s has_sign
side_signed false sense u s has_sign = record { other = finite zero_value; next = rows_next (close_row sense zero_value u); is = refl; closes = rows_next_closes (close_row sense zero_value u) }
side_signed true sense u s has_sign = record { other = finite zero_value; next = rows_next (close_row sense zero_value u); is = refl; closes = rows_next_closes (close_row sense zero_value u) }

bound_sided : (sense : Sense) (text : List ℕ) (m : Model) (s : Spot) (has_sign : Bool) → Replaced (bound_side sense text m) s has_sign
bound_sided Less text m s has_sign = record { other = finite zero_value; next = bounds (change_var text (with_bound Less (limited zero_value)) m); is = refl; closes = bounds_closes _ }
bound_sided Greater text m s has_sign = record { other = finite zero_value; next = bounds (change_var text (with_bound Greater (limited zero_value)) m); is = refl; closes = bounds_closes _ }
bound_sided Equal text m s has_sign = record { other = finite zero_value; next = bounds (change_var text (with_bound Equal (limited zero_value)) m); is = refl; closes = bounds_closes _ }

bound_side_signed : (negative : Bool) (sense : Sense) (text : List ℕ) (m : Model) (s : Spot) (has_sign : Bool) → Replaced (bound_side_sign negative sense text m) s has_sign
bound_side_signed false sense text m s has_sign = record { other = finite zero_value; next = bounds (change_var text (with_bound sense (limited zero_value)) m); is = refl; closes = bounds_closes _ }
bound_side_signed true sense text m s has_sign = record { other = finite zero_value; next = bounds (change_var text (with_bound sense (limited zero_value)) m); is = refl; closes = bounds_closes _ }

-- Where a number is read, another one can be gone on with.
pub replaced : (stage : Stage) (s : Spot) (has_sign : Bool) (q : Quantity) (next : Stage) → Lasts stage → after stage s (number has_sign q) ≡ Ok next → Replaced stage s has_sign
replaced (objective_start m) s has_sign q next w e = record { other = finite zero_value; next = objective_number s zero_value m; is = refl; closes = zero_closes s m w }
replaced (objective_title t title m) s has_sign q next w e = titled_objective t title s has_sign q m next w e
replaced (objective_first m) s has_sign q next w e = record { other = finite zero_value; next = objective_number s zero_value m; is = refl; closes = zero_closes s m w }
replaced (objective_sign negative m) s has_sign q next w e = signed_objective negative s has_sign m w
replaced (objective_number t x m) s has_sign q next w e = numbered_objective t x s has_sign q m next w e
replaced (objective_next m) s has_sign q next w e = objective_more s has_sign q m next w e
replaced (rows_start m) s has_sign q next w e = unlabelled (rows_start m) s has_sign q m next w (λ q. refl) e
replaced (rows_next m) s has_sign q next w e = unlabelled (rows_next m) s has_sign q m next w (λ q. refl) e
replaced (row_title t title m) s has_sign q next w e = titled_row t title s has_sign q m next w e
replaced (row_first u) s has_sign q next w e =
    let t = takes_back u w in
    record { other = finite (unsigned false t.x); next = row_number true s t.x u; is = row_value true false s u t.x; closes = row_closes true s u t }
replaced (row_sign head negative u) s has_sign q next w e =
    let t = takes_back u w in
    record { other = finite (unsigned negative t.x); next = row_number head s t.x u; is = row_value head negative s u t.x; closes = row_closes head s u t }
replaced (row_next u) s has_sign q next w e = row_more s has_sign q u next w e
replaced (row_side sense u) s has_sign q next w e = record { other = finite zero_value; next = rows_next (close_row sense zero_value u); is = refl; closes = rows_next_closes (close_row sense zero_value u) }
replaced (row_side_sign negative sense u) s has_sign q next w e = side_signed negative sense u s has_sign
replaced (bounds m) s has_sign q next w e = record { other = infinite true; next = bound_number s (unlimited true) m; is = refl; closes = bound_number_closes s (unlimited true) m }
replaced (bound_side sense text m) s has_sign q next w e = bound_sided sense text m s has_sign
replaced (bound_side_sign negative sense text m) s has_sign q next w e = bound_side_signed negative sense text m s has_sign
replaced (bound_sign negative m) s has_sign q next w e = bound_signed negative s has_sign m
replaced (bound_end sense text m) s has_sign q next w e = bound_ends sense text s has_sign m
replaced stage s has_sign q next w e = absurd cc
