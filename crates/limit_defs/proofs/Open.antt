-- A model without an open variable.
use Rattle.std.proofs.Common.{◌≡◌, refl, sym, Bool, true, false, true≢false, List, [], ◌∷◌}
use Rattle.std.specs.Prelude.{◌↔◌, ◌&&◌, ◌||◌, not, is_some, IsTrue}
use Rattle.std.specs.List.{All, list_any}
use Rattle.std.proofs.lemmas.List.Elements.{All-cons, All-head, All-nil, All-tail}
use Rattle.model_data.specs.Size.{is_integer}
use Rattle.model_data.specs.declared.model.Model.{Model}
use Rattle.model_data.specs.declared.model.Var.{Var}
use Rattle.solve_defs.specs.Bounds.{own_bounds}
use Rattle.search_laws.specs.Counts.{IsClosed}
use Rattle.limit_defs.specs.Limits.{has_open, is_open}

abbrev has_both : Var → Bool
has_both v = is_some (own_bounds v).lower && is_some (own_bounds v).upper

-- It has both bounds where it takes whole numbers alone.
abbrev IsClosedVar : Var → Type 0
IsClosedVar v = is_integer v.kind ≡ true → IsTrue (has_both v)

closed_one : (integer both : Bool) → (integer && not both) ≡ false → integer ≡ true → IsTrue both
closed_one true true h whole = refl
closed_one true false h whole = absurd (true≢false h)
closed_one false both h whole = absurd (true≢false (sym whole))

not_open : (integer both : Bool) → (integer ≡ true → IsTrue both) → (integer && not both) ≡ false
not_open true true h = refl
not_open true false h = absurd (true≢false (sym (h refl)))
not_open false both h = refl

both_false : (a b : Bool) → (a || b) ≡ false → (a ≡ false) × (b ≡ false)
both_false true b h = absurd (true≢false h)
both_false false b h = (refl, h)

closed_all : (vars : List Var) → list_any is_open vars ≡ false → All IsClosedVar vars
closed_all [] h = All-nil IsClosedVar
closed_all (v ∷ vars) h =
    let apart = both_false (is_open v) (list_any is_open vars) h in
    All-cons IsClosedVar v vars (closed_one (is_integer v.kind) (has_both v) apart.0) (closed_all vars apart.1)

none_open : (vars : List Var) → All IsClosedVar vars → list_any is_open vars ≡ false
none_open [] h = refl
none_open (v ∷ vars) h =
    joined (is_open v) (list_any is_open vars) (not_open (is_integer v.kind) (has_both v) (All-head IsClosedVar v vars h)) (none_open vars (All-tail IsClosedVar v vars h))
  where
    joined : (a b : Bool) → a ≡ false → b ≡ false → (a || b) ≡ false
    joined false b e f = f
    joined true b e f = absurd (true≢false e)

pub closed_where_none : (m : Model) → (has_open m ≡ false) ↔ IsClosed m
closed_where_none m = (closed_all m.vars, none_open m.vars)
