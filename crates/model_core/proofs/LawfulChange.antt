-- A change keeps a lawful model lawful.
use Rattle.std.proofs.Common.{◌≡◌, ◌≢◌, refl, sym, ◌∙◌, ap, ap₂, subst, arith, ℕ, suc, ◌+◌, ◌<◌, ◌≤◌, nat_lt, Bool, true, false, not, ◌&&◌, ◌||◌, if◌then◌else◌}
use Rattle.std.proofs.Common.{List, [], ◌∷◌, ◌++◌, length, map, filter, filter_map, bytes_eq, Option, Some, None, Result, Ok, Err, OnOk, OnErr, All, pos}
use Rattle.std.specs.List.{cons_option, list_all}
use Rattle.std.specs.Option.{option_map_or}
use Rattle.std.proofs.lemmas.Bool.{ltb-false}
use Rattle.std.proofs.lemmas.List.{append-nil, length-map, length_push, map_push}
use Rattle.std.proofs.lemmas.List.Elements.{filter_map-append}
use Rattle.std.proofs.lemmas.List.Edits.{length-remove}
use Rattle.base_names.specs.declared.refusal.Refusal.{Refusal}
use Rattle.base_names.specs.declared.refusal.Refusal.TheVariants.{SIZE}
use Rattle.frac128.specs.Fraction.{Fraction}
use Rattle.model_data.specs.Lawful.{AreDistinct, IsLawful, IsLawfulRow, IsLawfulVar, term_count}
use Rattle.model_data.specs.Names.{is_name}
use Rattle.model_data.specs.declared.limits.TheConstants.{MAX_ROWS, MAX_TERMS, MAX_VARS}
use Rattle.model_data.specs.declared.model.Model.{Model}
use Rattle.model_data.specs.declared.model.Row.{Row}
use Rattle.model_data.specs.declared.model.Sense.{Sense}
use Rattle.model_data.specs.declared.model.Term.{Term}
use Rattle.model_data.specs.declared.model.Var.{Var}
use Rattle.model_core.specs.Asked.{IsLawfulChange}
use Rattle.model_core.specs.Effect.{changed, in_row, on_row, on_var, terms_from, with_coefficient, without_place}
use Rattle.model_core.specs.Field.{with_tag}
use Rattle.model_core.specs.Named.{is_row, is_var, knows_row, knows_tag, knows_var, var_place}
use Rattle.model_core.specs.One.{answer, has_double, has_duplicate, has_names, is_too_large, one}
use Rattle.model_core.specs.declared.change.Change.{Change}
use Rattle.model_core.specs.declared.change.Change.TheVariants.{AddVar, AddConstr, ChgCoeff, SetLb, SetUb, SetObj, SetRhs, SetSense, SetKind, SetTag, DelVar, DelConstr}
use Rattle.model_core.specs.declared.change.NamedTerm.{NamedTerm}
use Rattle.model_core.proofs.ByName.{first_removed, map-changed, place_inside}
use Rattle.model_core.proofs.InOrder.{in_all, rising_from, within_from}
use Rattle.model_core.proofs.LawfulParts.{all_changed, all_filter, all_mapped, all_push, all_weaker, any_tag, distinct_filter, distinct_push, distinct_retag, distinct_tags_filter}
use Rattle.model_core.proofs.LawfulTerms.{dropped_lawful, not_zero, set_lawful}
use Rattle.model_core.proofs.Mapped.{any-map}
use Rattle.model_core.proofs.Without.{same_names}

ok_same : (x y : Model) (a b : Result Model Refusal) → a ≡ Ok x → b ≡ Ok y → a ≡ b → x ≡ y
ok_same x y a b e f g = cc

told_size : (b : Bool) (next m : Model) (r : Refusal) → (if b then Err r else Ok next) ≡ Ok m → (b ≡ false) × (next ≡ m)
told_size true next m r e = absurd cc
told_size false next m r e = (refl, ok_same next m (Ok next) (Ok m) refl refl e)

-- what holds of a change that is accepted
pub accepted : (n d : Bool) (next m : Model) → answer n d next ≡ Ok m → (n ≡ true) × (d ≡ false) × (is_too_large next ≡ false) × (next ≡ m)
accepted false d next m e = absurd cc
accepted true true next m e = absurd cc
accepted true false next m e = let told = told_size (is_too_large next) next m SIZE e in (refl, refl, told.0, told.1)

or_left : (a b : Bool) → (a || b) ≡ false → a ≡ false
or_left true b e = absurd cc
or_left false b e = refl

or_right : (a b : Bool) → (a || b) ≡ false → b ≡ false
or_right true b e = absurd cc
or_right false b e = e

and_left : (a b : Bool) → (a && b) ≡ true → a ≡ true
and_left true b e = refl
and_left false b e = absurd cc

and_right : (a b : Bool) → (a && b) ≡ true → b ≡ true
and_right true b e = e
and_right false b e = absurd cc

module _ (m : Model) (small : is_too_large m ≡ false) where
  few_vars : length m.vars ≤ MAX_VARS
  few_vars = ltb-false MAX_VARS (length m.vars)
      (or_left (nat_lt MAX_VARS (length m.vars)) (nat_lt MAX_ROWS (length m.rows))
      (or_left (nat_lt MAX_VARS (length m.vars) || nat_lt MAX_ROWS (length m.rows)) (nat_lt MAX_TERMS (term_count m)) small))

  few_rows : length m.rows ≤ MAX_ROWS
  few_rows = ltb-false MAX_ROWS (length m.rows)
      (or_right (nat_lt MAX_VARS (length m.vars)) (nat_lt MAX_ROWS (length m.rows))
      (or_left (nat_lt MAX_VARS (length m.vars) || nat_lt MAX_ROWS (length m.rows)) (nat_lt MAX_TERMS (term_count m)) small))

  few_terms : term_count m ≤ MAX_TERMS
  few_terms = ltb-false MAX_TERMS (term_count m)
      (or_right (nat_lt MAX_VARS (length m.vars) || nat_lt MAX_ROWS (length m.rows)) (nat_lt MAX_TERMS (term_count m)) small)

module _ (m : Model) (h : IsLawful m) where
  -- one variable changed
  var_changed : (name : List ℕ) (change : Var → Var) → is_too_large (on_var name change m) ≡ false
      → ((v : Var) → IsLawfulVar v → IsLawfulVar (change v)) → ((v : Var) → (change v).name ≡ v.name)
      → AreDistinct (filter_map (λ v. v.tag) (map (λ v. if is_var name v then change v else v) m.vars)) → IsLawful (on_var name change m)
  var_changed name change small keeps names tags = record {
    vars = all_changed IsLawfulVar (is_var name) change m.vars h.vars keeps;
    rows = subst (λ (n : ℕ). All (IsLawfulRow n) m.rows) (sym (length-map m.vars (λ (v : Var). if is_var name v then change v else v))) h.rows;
    var_names = subst AreDistinct (sym (map-changed (λ (v : Var). v.name) (is_var name) change m.vars names)) h.var_names;
    row_names = h.row_names;
    tags = tags;
    var_limit = few_vars (on_var name change m) small;
    row_limit = few_rows (on_var name change m) small;
    term_limit = few_terms (on_var name change m) small;
  }

  -- one field of a variable, which isn't its tag
  field_changed : (name : List ℕ) (change : Var → Var) → is_too_large (on_var name change m) ≡ false
      → ((v : Var) → IsLawfulVar v → IsLawfulVar (change v)) → ((v : Var) → (change v).name ≡ v.name) → ((v : Var) → (change v).tag ≡ v.tag)
      → IsLawful (on_var name change m)
  field_changed name change small keeps names tags =
      var_changed name change small keeps names (subst AreDistinct (sym (same_tags m.vars)) h.tags) where
        tag_step : (b : Bool) (v : Var) → (if b then change v else v).tag ≡ v.tag
        tag_step true v = tags v
        tag_step false v = refl

        same_tags : (vars : List Var) → filter_map (λ v. v.tag) (map (λ v. if is_var name v then change v else v) vars) ≡ filter_map (λ v. v.tag) vars
        same_tags [] = refl
        same_tags (v ∷ vars) = ap₂ (λ (o : Option (List ℕ)) (l : List (List ℕ)). cons_option o l) (tag_step (is_var name v) v) (same_tags vars)

  -- one row changed
  row_changed : (name : List ℕ) (change : Row → Row) → is_too_large (on_row name change m) ≡ false
      → ((r : Row) → IsLawfulRow (length m.vars) r → IsLawfulRow (length m.vars) (change r)) → ((r : Row) → (change r).name ≡ r.name)
      → IsLawful (on_row name change m)
  row_changed name change small keeps names = record {
    vars = h.vars;
    rows = all_changed (IsLawfulRow (length m.vars)) (is_row name) change m.rows h.rows keeps;
    var_names = h.var_names;
    row_names = subst AreDistinct (sym (map-changed (λ (r : Row). r.name) (is_row name) change m.rows names)) h.row_names;
    tags = h.tags;
    var_limit = few_vars (on_row name change m) small;
    row_limit = few_rows (on_row name change m) small;
    term_limit = few_terms (on_row name change m) small;
  }

  more_vars : (n : ℕ) (r : Row) → IsLawfulRow n r → IsLawfulRow (n + 1) r
  more_vars n r k = record {
    name = k.name;
    places = all_weaker (λ (t : Term). t.var < n) (λ t. t.var < n + 1) r.terms k.places (λ t lt. omega (arith, lt));
    rising = k.rising;
    not_zero = k.not_zero;
  }

  tags_with : (o : Option (List ℕ)) → option_map_or (λ tag. knows_tag tag m) o false ≡ false → AreDistinct (filter_map (λ (v : Var). v.tag) m.vars ++ cons_option o [])
  tags_with (Some tag) free = distinct_push (filter_map (λ (v : Var). v.tag) m.vars) tag h.tags (sym (any_tag tag m.vars) ∙ free)
  tags_with None free = subst AreDistinct (sym (append-nil (filter_map (λ (v : Var). v.tag) m.vars))) h.tags

  var_added : (v : Var) → is_too_large (changed (AddVar v) m) ≡ false → has_names m (AddVar v) ≡ true → has_duplicate m (AddVar v) ≡ false
      → IsLawfulChange (AddVar v) → IsLawful (changed (AddVar v) m)
  var_added v small named single asked = record {
    vars = all_push IsLawfulVar m.vars v h.vars (record { name = named; tag = asked.2; lower = asked.0; upper = asked.1 });
    rows = subst (λ (n : ℕ). All (IsLawfulRow n) m.rows) (sym (length_push m.vars v)) (all_weaker (IsLawfulRow (length m.vars)) (IsLawfulRow (length m.vars + 1)) m.rows h.rows (more_vars (length m.vars)));
    var_names = subst AreDistinct (sym (map_push (λ (w : Var). w.name) m.vars v))
        (distinct_push (map (λ (w : Var). w.name) m.vars) v.name h.var_names
        (any-map (λ (w : Var). w.name) (bytes_eq v.name) m.vars ∙ or_left (knows_var v.name m) (option_map_or (λ tag. knows_tag tag m) v.tag false) single));
    row_names = h.row_names;
    tags = subst AreDistinct (sym (filter_map-append (λ (w : Var). w.tag) m.vars (v ∷ [])))
        (tags_with v.tag (or_right (knows_var v.name m) (option_map_or (λ tag. knows_tag tag m) v.tag false) single));
    var_limit = few_vars (changed (AddVar v) m) small;
    row_limit = few_rows (changed (AddVar v) m) small;
    term_limit = few_terms (changed (AddVar v) m) small;
  }

  row_added : (name : List ℕ) (sense : Sense) (rhs : Fraction) (terms : List NamedTerm) → is_too_large (changed (AddConstr name sense rhs terms) m) ≡ false
      → has_names m (AddConstr name sense rhs terms) ≡ true → has_duplicate m (AddConstr name sense rhs terms) ≡ false
      → IsLawful (changed (AddConstr name sense rhs terms) m)
  row_added name sense rhs terms small named single =
      let names = map (λ (v : Var). v.name) m.vars in
      let new : Row = record { name = name; sense = sense; rhs = rhs; terms = terms_from 0 names terms } in
      let count = length-map m.vars (λ (v : Var). v.name) in
      record {
        vars = h.vars;
        rows = all_push (IsLawfulRow (length m.vars)) m.rows new h.rows (record {
          name = and_left (is_name name) (list_all (λ t. knows_var t.name m) terms) named;
          places = in_all (λ t. t.var < length m.vars) (terms_from 0 names terms)
              (λ t i. let is = within_from names terms t i in let lt = is.0 in omega (arith, lt, count));
          rising = rising_from 0 names terms;
          not_zero = in_all (λ t. t.coef.num ≢ pos 0) (terms_from 0 names terms) (λ t i. not_zero t.coef ((within_from names terms t i).1));
        });
        var_names = h.var_names;
        row_names = subst AreDistinct (sym (map_push (λ (r : Row). r.name) m.rows new))
            (distinct_push (map (λ (r : Row). r.name) m.rows) name h.row_names
            (any-map (λ (r : Row). r.name) (bytes_eq name) m.rows ∙ or_left (knows_row name m) (has_double (map (λ t. t.name) terms)) single));
        tags = h.tags;
        var_limit = few_vars (changed (AddConstr name sense rhs terms) m) small;
        row_limit = few_rows (changed (AddConstr name sense rhs terms) m) small;
        term_limit = few_terms (changed (AddConstr name sense rhs terms) m) small;
      }

  row_deleted : (name : List ℕ) → is_too_large (changed (DelConstr name) m) ≡ false → IsLawful (changed (DelConstr name) m)
  row_deleted name small = record {
    vars = h.vars;
    rows = all_filter (IsLawfulRow (length m.vars)) (λ r. not (is_row name r)) m.rows h.rows;
    var_names = h.var_names;
    row_names = distinct_filter (λ (r : Row). r.name) (λ r. not (is_row name r)) m.rows h.row_names;
    tags = h.tags;
    var_limit = few_vars (changed (DelConstr name) m) small;
    row_limit = few_rows (changed (DelConstr name) m) small;
    term_limit = few_terms (changed (DelConstr name) m) small;
  }

  -- a variable that is there is one of the list, and without it the list is one shorter
  one_less : (name : List ℕ) → knows_var name m ≡ true
      → (var_place name m < length m.vars) × (length (filter (λ v. not (is_var name v)) m.vars) + 1 ≡ length m.vars)
  one_less name known =
      let inside = place_inside (λ (v : Var). v.name) name m.vars known in
      let removed = first_removed (λ (v : Var). v.name) name m.vars h.var_names known in
      (inside, ap (λ (vars : List Var). length vars + 1) (sym removed) ∙ length-remove m.vars (var_place name m) inside)

  var_deleted : (name : List ℕ) → is_too_large (changed (DelVar name) m) ≡ false → knows_var name m ≡ true → IsLawful (changed (DelVar name) m)
  var_deleted name small known =
      let less = one_less name known in
      let left = length (filter (λ v. not (is_var name v)) m.vars) in
      let count : length m.vars ≡ suc left = let e = less.1 in omega (arith, e) in
      let inside : var_place name m < suc left = subst (λ (n : ℕ). var_place name m < n) count (less.0) in
      record {
        vars = all_filter IsLawfulVar (λ v. not (is_var name v)) m.vars h.vars;
        rows = all_mapped (IsLawfulRow (suc left)) (IsLawfulRow left) (in_row (without_place (var_place name m))) m.rows
            (subst (λ (n : ℕ). All (IsLawfulRow n) m.rows) count h.rows)
            (λ r k. dropped_lawful (var_place name m) left r inside k);
        var_names = distinct_filter (λ (v : Var). v.name) (λ v. not (is_var name v)) m.vars h.var_names;
        row_names = subst AreDistinct (sym (same_names (without_place (var_place name m)) m.rows)) h.row_names;
        tags = distinct_tags_filter (λ v. not (is_var name v)) m.vars h.tags;
        var_limit = few_vars (changed (DelVar name) m) small;
        row_limit = few_rows (changed (DelVar name) m) small;
        term_limit = few_terms (changed (DelVar name) m) small;
      }

  pub lawful_changed : (c : Change) → has_names m c ≡ true → has_duplicate m c ≡ false → is_too_large (changed c m) ≡ false → IsLawfulChange c → IsLawful (changed c m)
  lawful_changed (AddVar v) named single small asked = var_added v small named single asked
  lawful_changed (AddConstr name sense rhs terms) named single small asked = row_added name sense rhs terms small named single
  lawful_changed (ChgCoeff row var x) named single small asked =
      row_changed row (in_row (with_coefficient (var_place var m) x)) small
      (λ r k. set_lawful (var_place var m) x (length m.vars) r
      (place_inside (λ (v : Var). v.name) var m.vars (and_right (knows_row row m) (knows_var var m) named)) k) (λ r. refl)
  lawful_changed (SetLb name bound) named single small asked =
      field_changed name (λ v. record v { lower = bound }) small (λ v k. record { name = k.name; tag = k.tag; lower = asked; upper = k.upper }) (λ v. refl) (λ v. refl)
  lawful_changed (SetUb name bound) named single small asked =
      field_changed name (λ v. record v { upper = bound }) small (λ v k. record { name = k.name; tag = k.tag; lower = k.lower; upper = asked }) (λ v. refl) (λ v. refl)
  lawful_changed (SetObj name x) named single small asked =
      field_changed name (λ v. record v { obj = x }) small (λ v k. record { name = k.name; tag = k.tag; lower = k.lower; upper = k.upper }) (λ v. refl) (λ v. refl)
  lawful_changed (SetKind name kind) named single small asked =
      field_changed name (λ v. record v { kind = kind }) small (λ v k. record { name = k.name; tag = k.tag; lower = k.lower; upper = k.upper }) (λ v. refl) (λ v. refl)
  lawful_changed (SetTag name tag) named single small asked =
      var_changed name (with_tag tag) small (λ v k. record { name = k.name; tag = asked; lower = k.lower; upper = k.upper }) (λ v. refl)
      (distinct_retag name tag m.vars h.tags h.var_names single)
  lawful_changed (SetRhs name x) named single small asked =
      row_changed name (λ r. record r { rhs = x }) small (λ r k. record { name = k.name; places = k.places; rising = k.rising; not_zero = k.not_zero }) (λ r. refl)
  lawful_changed (SetSense name sense) named single small asked =
      row_changed name (λ r. record r { sense = sense }) small (λ r k. record { name = k.name; places = k.places; rising = k.rising; not_zero = k.not_zero }) (λ r. refl)
  lawful_changed (DelVar name) named single small asked = var_deleted name small named
  lawful_changed (DelConstr name) named single small asked = row_deleted name small

pub lawful_one : (m n : Model) (c : Change) → IsLawful m → IsLawfulChange c → one m c ≡ Ok n → IsLawful n
lawful_one m n c h asked e =
    let told = accepted (has_names m c) (has_duplicate m c) (changed c m) n e in
    subst IsLawful (told.3) (lawful_changed m h c (told.0) (told.1) (told.2) asked)

-- the same of a call that makes a change or leaves the model as it was
pub lawful_after : {A : Type 0} (r : Result A Refusal) (m n : Model) (c : Change) → IsLawful m → IsLawfulChange c → OnOk r (one m c ≡ Ok n) → OnErr r (n ≡ m) → IsLawful n
lawful_after (Ok a) m n c h asked ok err = lawful_one m n c h asked ok
lawful_after (Err e) m n c h asked ok err = subst IsLawful (sym err) h
