use Rattle.std.proofs.Common.{◌≡◌, sym, ◌∙◌, ap, ap₂, ℕ, List, [], Bool, get_or, Some, None, if◌then◌else◌}
use Rattle.frac128.specs.Fraction.{Fraction, zero_value}
use Rattle.model_data.specs.declared.model.Row.{Row}
use Rattle.model_data.specs.declared.model.Sense.TheVariants.{Less}
use Rattle.model_data.specs.declared.model.Term.{Term}
use Rattle.model_data.specs.declared.model.Var.{Var}
use Rattle.model_core.specs.Look.{coefficient_at, coefficient_in, coefficient_of_row}
use Rattle.model_core.specs.Named.{var_place}
use Rattle.model_core.proofs.ByName.{place_is_found}
use Rattle.model_core.proofs.Found.{row_found, row_missing}
use Rattle.model_core.proofs.Known.{known_var, place_of_var}
use Rattle.model_core.proofs.indexed.IndexedModel.coefficient.Goals as goal

no_row : Row
no_row = record { name = []; sense = Less; rhs = zero_value; terms = [] }

pub returns-in_default : goal.returns-in_default
returns-in_default c =
    let m = c.self.inside.model in
    sym (ap (coefficient_of_row c.args.var.now m) (row_missing c.self.invariant.index c.args.row.now c.in_default.ensures.found))
    ∙ ap (coefficient_at c.args.row.now c.args.var.now) c.self.view_is

pub returns-in_default-place : goal.returns-in_default-place
returns-in_default-place c =
    let m = c.self.inside.model in
    let r = get_or m.rows c.in-Some.row no_row in
    sym (ap (coefficient_of_row c.args.var.now m) (row_found c.self.invariant.index c.args.row.now c.in-Some.ensures.place c.in-Some.ensures.found c.in-Some.ensures.within no_row)
    ∙ ap (λ (b : Bool). if b then Some (coefficient_in (var_place c.args.var.now m) r.terms) else None)
    (known_var c.self.invariant.index c.args.var.now ∙ sym c.in_default-place.ensures.found))
    ∙ ap (coefficient_at c.args.row.now c.args.var.now) c.self.view_is

pub returns : goal.returns
returns c =
    let m = c.self.inside.model in
    let d = c.index-as_slice-row.result in
    let r = get_or m.rows c.in-Some.row d in
    let read : d ≡ r = c.index-as_slice-row.is ∙ ap (λ (rows : List Row). get_or rows c.in-Some.row d) c.as_slice.ensures in
    let terms : c.as_slice-2.result.now ≡ r.terms = c.as_slice-2.ensures ∙ ap (λ (s : Row). s.terms) (sym c.index-as_slice-row.is ∙ read) in
    let place : var_place c.args.var.now m ≡ c.in-Some-place.var =
    place_is_found (λ (v : Var). v.name) c.args.var.now m.vars c.in-Some-place.var
    (place_of_var c.self.invariant.index c.args.var.now ∙ sym c.in-Some-place.ensures.place) in
    ap (λ (x : Fraction). Some x) (c.coefficient.ensures ∙ ap₂ (λ (n : ℕ) (l : List Term). coefficient_in n l) (sym place) terms)
    ∙ sym (ap (coefficient_of_row c.args.var.now m) (row_found c.self.invariant.index c.args.row.now c.in-Some.ensures.place c.in-Some.ensures.found c.in-Some.ensures.within d)
    ∙ ap (λ (b : Bool). if b then Some (coefficient_in (var_place c.args.var.now m) r.terms) else None)
    (known_var c.self.invariant.index c.args.var.now ∙ sym c.in-Some-place.ensures.found))
    ∙ ap (coefficient_at c.args.row.now c.args.var.now) c.self.view_is
