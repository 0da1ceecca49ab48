-- The model that a part of a written text has told, by its parts.
use Rattle.std.proofs.Common.{◌≡◌, refl, ◌∙◌, ap, ap₂, ℕ, ◌<◌, Bool, true, false, ◌||◌, List, [], ◌∷◌, ◌++◌, map, length, Some, None}
use Rattle.std.specs.Prelude.{bytes_eq, if◌then◌else◌, nat_lt}
use Rattle.std.proofs.lemmas.Bool.{lt-ltb, or_left, or_right}
use Rattle.frac128.specs.Fraction.{Fraction, zero_value}
use Rattle.model_data.specs.declared.limits.TheConstants.{MAX_VARS}
use Rattle.model_data.specs.declared.model.Direction.{Direction}
use Rattle.model_data.specs.declared.model.Model.{Model}
use Rattle.model_data.specs.declared.model.Row.{Row}
use Rattle.model_data.specs.declared.model.Var.{Var}
use Rattle.lp_defs.specs.Draft.{mention, new_var, objective_of_vars}
use Rattle.lp_defs.proofs.Named.{has_name}
use Rattle.lp_defs.proofs.Names.{neither_of}

abbrev pub told : Direction → Fraction → List Var → List Row → Model
told direction constant vars rows = record { direction = direction; constant = constant; vars = vars; rows = rows }

-- whether one of the variables has the name
abbrev pub knows : List ℕ → List Var → Bool
knows text vars = has_name (λ v. v.name) text vars

-- a change that keeps the name
abbrev pub KeepsName : (Var → Var) → Type 0
KeepsName change = (v : Var) → (change v).name ≡ v.name

pub knows_map : (change : Var → Var) → KeepsName change → (text : List ℕ) (vars : List Var) → knows text (map change vars) ≡ knows text vars
knows_map change keeps text [] = refl
knows_map change keeps text (v ∷ vars) = ap₂ ◌||◌ (ap (bytes_eq text) (keeps v)) (knows_map change keeps text vars)

pub knows_one : (text : List ℕ) (front : List Var) (v : Var) (rest : List Var) → bytes_eq text v.name ≡ true → knows text (front ++ v ∷ rest) ≡ true
knows_one text [] v rest same = or_left (bytes_eq text v.name) (knows text rest) same
knows_one text (u ∷ front) v rest same = or_right (bytes_eq text u.name) (knows text (front ++ v ∷ rest)) (knows_one text front v rest same)

-- A change by name

-- the variables, where that of the name is changed
abbrev changed_vars : List ℕ → (Var → Var) → List Var → List Var
changed_vars text change vars = map (λ v. if bytes_eq text v.name then change v else v) vars

change_none : (text : List ℕ) (change : Var → Var) (vars : List Var) → knows text vars ≡ false → changed_vars text change vars ≡ vars
change_none text change [] h = refl
change_none text change (v ∷ vars) h =
    let p = neither_of (bytes_eq text v.name) (knows text vars) h in
    ap₂ (λ (v : Var) (vars : List Var). v ∷ vars) (ap (λ b. if b then change v else v) p.0) (change_none text change vars p.1)

pub change_one : (text : List ℕ) (change : Var → Var) (front : List Var) (v : Var) (rest : List Var) →
    knows text front ≡ false → bytes_eq text v.name ≡ true → knows text rest ≡ false →
    changed_vars text change (front ++ v ∷ rest) ≡ front ++ change v ∷ rest
change_one text change [] v rest h same k =
    ap₂ (λ (v : Var) (vars : List Var). v ∷ vars) (ap (λ b. if b then change v else v) same) (change_none text change rest k)
change_one text change (u ∷ front) v rest h same k =
    let p = neither_of (bytes_eq text u.name) (knows text front) h in
    ap₂ (λ (v : Var) (vars : List Var). v ∷ vars) (ap (λ b. if b then change u else u) p.0) (change_one text change front v rest p.1 same k)

-- Mentions

pub mention_known : (text : List ℕ) (m : Model) → knows text m.vars ≡ true → mention text m ≡ Some m
mention_known text m known =
    ap (λ k. if (k || nat_lt (length m.vars) MAX_VARS) then Some (if k then m else record m { vars = m.vars ++ (new_var text ∷ []) }) else None) known

pub mention_new : (text : List ℕ) (m : Model) → knows text m.vars ≡ false → length m.vars < MAX_VARS →
    mention text m ≡ Some (record m { vars = m.vars ++ (new_var text ∷ []) })
mention_new text m unknown room =
    ap₂ (λ (k room : Bool). if (k || room) then Some (if k then m else record m { vars = m.vars ++ (new_var text ∷ []) }) else None)
    unknown (lt-ltb (length m.vars) MAX_VARS room)

pub objective_of_none : (text : List ℕ) (vars : List Var) → knows text vars ≡ false → objective_of_vars text vars ≡ zero_value
objective_of_none text [] h = refl
objective_of_none text (v ∷ vars) h =
    let p = neither_of (bytes_eq text v.name) (knows text vars) h in
    ap (λ b. if b then v.obj else objective_of_vars text vars) p.0 ∙ objective_of_none text vars p.1
