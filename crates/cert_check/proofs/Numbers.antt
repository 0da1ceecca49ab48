-- The integer variables by their numbers.
use Rattle.std.proofs.Common.{◌≡◌, refl, ap, ℕ, zero, suc, ◌<◌, ◌≤◌, ◌-◌, false, List, [], ◌∷◌, length, get_or, arith}
use Rattle.model_data.specs.Size.{is_integer}
use Rattle.model_data.specs.declared.model.Var.{Var}
use Rattle.solve_defs.specs.Certificates.{is_integer_number}

integer_at : (vars : List Var) (place : ℕ) (v d : Var) → place < length vars → v ≡ get_or vars place d → is_integer v.kind ≡ is_integer_number vars (suc place)
integer_at [] place v d within is = absurd (omega (arith, within))
integer_at (w ∷ vars) zero v d within is = ap (λ (x : Var). is_integer x.kind) is
integer_at (w ∷ vars) (suc place) v d within is = integer_at vars place v d (omega (arith, within)) is

pub integer_number : (vars : List Var) (number : ℕ) (v d : Var) → (number ≡ 0 → ⊥) → number - 1 < length vars → v ≡ get_or vars (number - 1) d
    → is_integer v.kind ≡ is_integer_number vars number
integer_number vars zero v d some within is = absurd (some refl)
integer_number vars (suc place) v d some within is =
    let same : suc place - 1 ≡ place = omega arith in
    integer_at vars place v d (omega (arith, within)) (rw same at is)

none_behind : (vars : List Var) (place : ℕ) → length vars ≤ place → false ≡ is_integer_number vars (suc place)
none_behind [] place behind = refl
none_behind (w ∷ vars) zero behind = absurd (omega (arith, behind))
none_behind (w ∷ vars) (suc place) behind = none_behind vars place (omega (arith, behind))

pub no_number : (vars : List Var) (number : ℕ) → (number ≡ 0 → ⊥) → length vars ≤ number - 1 → false ≡ is_integer_number vars number
no_number vars zero some behind = absurd (some refl)
no_number vars (suc place) some behind = none_behind vars place (omega (arith, behind))
