use Rattle.std.proofs.Common.{◌≡◌, refl, sym, ◌∙◌, ap, ap₂, subst, arith, ℕ, ◌≤◌, List, Bool, true, false, ◌&&◌, Ok, inr, Some, position, bytes_eq, if◌then◌else◌}
use Rattle.std.specs.List.{list_any}
use Rattle.std.proofs.lemmas.List.{length-map}
use Rattle.frac128.specs.Fraction.{Fraction}
use Rattle.model_data.specs.Lawful.{IsLawful, term_count}
use Rattle.model_data.specs.declared.limits.TheConstants.{MAX_ROWS, MAX_TERMS}
use Rattle.model_data.specs.declared.model.Model.{Model}
use Rattle.model_data.specs.declared.model.Row.{Row}
use Rattle.model_data.specs.declared.model.Var.{Var}
use Rattle.model_core.specs.Effect.{in_row, on_row, with_coefficient}
use Rattle.model_core.specs.Field.{at_place}
use Rattle.model_core.specs.Indexed.{IsIndexOf}
use Rattle.model_core.specs.Named.{is_row, knows_row, knows_var, var_place}
use Rattle.model_core.specs.One.{is_too_large}
use Rattle.model_core.specs.declared.tables.Tables.{Tables}
use Rattle.model_core.proofs.AtPlace.{too_many_terms}
use Rattle.model_core.proofs.ByName.{map-changed, place_is_found}
use Rattle.model_core.proofs.Judged.{answer-name, answer-ok, answer-size, within}
use Rattle.model_core.proofs.Known.{known_row, known_var, place_of_var, row_written}
use Rattle.model_core.proofs.coefficients.change_coefficient.Goals as goal

and_right : (a b : Bool) → b ≡ false → (a && b) ≡ false
and_right true b e = e
and_right false b e = refl

abbrev next : Model → (row var : List ℕ) → Fraction → Model
next m row var x = on_row row (in_row (with_coefficient (var_place var m) x)) m

module _ {tables : Tables} {m : Model} (index : IsIndexOf tables m) (lawful : IsLawful m) (row var : List ℕ) (x : Fraction) {row_at var_at : ℕ}
    (row_place : Some row_at ≡ position (bytes_eq row) tables.rows.texts) (row_known : true ≡ list_any (bytes_eq row) tables.rows.texts)
    (var_is_at : Some var_at ≡ position (bytes_eq var) tables.vars.texts) where
  -- the row at its place is the row of the name, and the variable's place is that of its name
  written : record m { rows = at_place row_at (in_row (with_coefficient var_at x)) m.rows } ≡ next m row var x
  written =
      row_written index row lawful row_place row_known (in_row (with_coefficient var_at x))
      ∙ ap (λ (n : ℕ). on_row row (in_row (with_coefficient n x)) m)
      (sym (place_is_found (λ (v : Var). v.name) var m.vars var_at (place_of_var index var ∙ sym var_is_at)))

  few : term_count (next m row var x) ≤ MAX_TERMS → is_too_large (next m row var x) ≡ false
  few terms =
      within (next m row var x) lawful.var_limit
      (subst (λ (n : ℕ). n ≤ MAX_ROWS) (sym (length-map m.rows (λ (r : Row). if is_row row r then in_row (with_coefficient (var_place var m) x) r else r))) lawful.row_limit)
      terms

pub returns-in_default-clause-refused : goal.returns-in_default-clause-refused
returns-in_default-clause-refused c =
    let m = c.args.model.now in
    inr (answer-name (knows_row c.args.row.now m && knows_var c.args.var.now m) false (next m c.args.row.now c.args.var.now c.args.coef)
    (ap (λ b. b && knows_var c.args.var.now m) (known_row c.requires.index c.args.row.now ∙ sym c.in_default.ensures.found)))

pub returns-in_default-place-clause-refused : goal.returns-in_default-place-clause-refused
returns-in_default-place-clause-refused c =
    let m = c.args.model.now in
    inr (answer-name (knows_row c.args.row.now m && knows_var c.args.var.now m) false (next m c.args.row.now c.args.var.now c.args.coef)
    (and_right (knows_row c.args.row.now m) (knows_var c.args.var.now m) (known_var c.requires.index c.args.var.now ∙ sym c.in_default-place.ensures.found)))

pub returns-then-count-gt-MAX_TERMS-clause-refused : goal.returns-then-count-gt-MAX_TERMS-clause-refused
returns-then-count-gt-MAX_TERMS-clause-refused c =
    let m = c.args.model.now in
    let is = written c.requires.index c.requires.lawful c.args.row.now c.args.var.now c.args.coef
    c.in-Some.ensures.place c.in-Some.ensures.found c.in-Some-place.ensures.place in
    let many = c.if-count-gt-MAX_TERMS.true in
    let count = c.count_after-count.ensures ∙ ap term_count is in
    inr (answer-size (knows_row c.args.row.now m && knows_var c.args.var.now m) false (next m c.args.row.now c.args.var.now c.args.coef)
    (ap₂ (λ a b. a && b) (known_row c.requires.index c.args.row.now ∙ sym c.in-Some.ensures.found) (known_var c.requires.index c.args.var.now ∙ sym c.in-Some-place.ensures.found))
    refl (too_many_terms (next m c.args.row.now c.args.var.now c.args.coef) (omega (arith, many, count))))

pub returns-clause-ok : goal.returns-clause-ok
returns-clause-ok c =
    let m = c.args.model.now in
    let is = written c.requires.index c.requires.lawful c.args.row.now c.args.var.now c.args.coef
    c.in-Some.ensures.place c.in-Some.ensures.found c.in-Some-place.ensures.place in
    let most = c.if-count-gt-MAX_TERMS.false in
    let count = c.count_after-count.ensures ∙ ap term_count is in
    answer-ok (knows_row c.args.row.now m && knows_var c.args.var.now m) false (next m c.args.row.now c.args.var.now c.args.coef)
    (ap₂ (λ a b. a && b) (known_row c.requires.index c.args.row.now ∙ sym c.in-Some.ensures.found) (known_var c.requires.index c.args.var.now ∙ sym c.in-Some-place.ensures.found))
    refl
    (few c.requires.index c.requires.lawful c.args.row.now c.args.var.now c.args.coef
    c.in-Some.ensures.place c.in-Some.ensures.found c.in-Some-place.ensures.place (omega (arith, most, count)))
    ∙ ap Ok (sym (c.in_ok-put_coefficient.ensures.ok ∙ is))

pub returns-clause-index : goal.returns-clause-index
returns-clause-index c =
    let m = c.args.model.now in
    let is = written c.requires.index c.requires.lawful c.args.row.now c.args.var.now c.args.coef
    c.in-Some.ensures.place c.in-Some.ensures.found c.in-Some-place.ensures.place in
    rw (c.in_ok-put_coefficient.ensures.ok ∙ is) (record {
      vars = c.requires.index.vars;
      rows = c.requires.index.rows ∙ sym (map-changed (λ (r : Row). r.name) (is_row c.args.row.now)
          (in_row (with_coefficient (var_place c.args.var.now m) c.args.coef)) m.rows (λ r. refl));
      tags = c.requires.index.tags;
      terms = c.count_after-count.ensures ∙ ap term_count is;
    })
