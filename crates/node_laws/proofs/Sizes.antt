-- Cuts of integer variables that have both bounds add no column and no row.
use Rattle.std.proofs.Common.{◌≡◌, ◌≢◌, ◌∙◌, refl, sym, ap, ap₂, subst, ℕ, suc, ◌+◌, ◌==◌, Bool, true, false, true≢false, IsTrue, ◌&&◌, List, [], ◌∷◌, length, map, All, Option, is_some, Some, None, Ok, if◌then◌else◌, arith, ne_eqb}
use Rattle.std.specs.Prelude.{sum_by}
use Rattle.std.proofs.lemmas.Bool.{and_parts, cond_both}
use Rattle.std.proofs.lemmas.List.Elements.{All-head, All-tail}
use Rattle.std.proofs.lemmas.List.Sums.{sum_by-cons}
use Rattle.frac128.specs.Fraction.{Fraction}
use Rattle.dictionary.specs.declared.standard.Std.{Std}
use Rattle.model_data.specs.Size.{is_integer, rows_of_sense}
use Rattle.model_data.specs.declared.model.Row.{Row}
use Rattle.model_data.specs.declared.model.Model.{Model}
use Rattle.model_data.specs.declared.model.Var.{Var}
use Rattle.solve_defs.specs.Bounds.{Bounds, both, bounds_from, cut_bounds, greater_bound, lesser_bound, own_bounds, with_cuts}
use Rattle.solve_defs.specs.Certificates.{is_integer_number}
use Rattle.solve_defs.specs.StandardForm.{Shape, shape_between, shapes_of, shifted, spans_of, standard_form, width}
use Rattle.solve_defs.specs.declared.cut.Cut.{Cut}
use Rattle.solve_defs.proofs.FormSizes.{form-columns}
use Rattle.limit_defs.specs.Limits.{has_open, root_columns, root_rows}
use Rattle.limit_defs.proofs.Open.{closed_where_none}
use Rattle.search_laws.specs.Counts.{AreOnIntegers}
use Rattle.node_laws.proofs.Rows.{form_rows}

-- ---- the bounds within cuts

greater_some : (x y : Option Fraction) → IsTrue (is_some x) → IsTrue (is_some (greater_bound x y))
greater_some None y h = absurd (true≢false (sym h))
greater_some (Some a) None h = refl
greater_some (Some a) (Some b) h = refl

lesser_some : (x y : Option Fraction) → IsTrue (is_some x) → IsTrue (is_some (lesser_bound x y))
lesser_some None y h = absurd (true≢false (sym h))
lesser_some (Some a) None h = refl
lesser_some (Some a) (Some b) h = refl

record HasBoth (b : Bounds) : Type 0 where
  lower : IsTrue (is_some b.lower)
  upper : IsTrue (is_some b.upper)

both_stay : (place : ℕ) (b : Bounds) (cuts : List Cut) → HasBoth b → HasBoth (with_cuts place b cuts)
both_stay place b [] h = h
both_stay place b (cut ∷ cuts) h =
    both_stay place (if cut.var == place then both b (cut_bounds cut) else b) cuts
    (cond_both {A = Bounds} (cut.var == place) (both b (cut_bounds cut)) b HasBoth
    (λ _. record { lower = greater_some b.lower (cut_bounds cut).lower h.lower; upper = lesser_some b.upper (cut_bounds cut).upper h.upper }) (λ _. h))

untouched : (place : ℕ) (b : Bounds) (cuts : List Cut) → All (λ cut. cut.var ≢ place) cuts → with_cuts place b cuts ≡ b
untouched place b [] h = refl
untouched place b (cut ∷ cuts) h =
    ap (λ t. with_cuts place (if t then both b (cut_bounds cut) else b) cuts) (ne_eqb cut.var place (All-head (λ (c : Cut). c.var ≢ place) cut cuts h))
    ∙ untouched place b cuts (All-tail (λ (c : Cut). c.var ≢ place) cut cuts h)

-- ---- columns and rows

abbrev shape_of : Bounds → Shape
shape_of b = shape_between b.lower b.upper

-- what is the same for all variables with both bounds
abbrev IsSameOfBoth : (Shape → ℕ) → Type 0
IsSameOfBoth f = (l u k v : Fraction) → f (shifted l (Some u)) ≡ f (shifted k (Some v))

same_of_both : (f : Shape → ℕ) (a b : Bounds) → IsSameOfBoth f → HasBoth a → HasBoth b → f (shape_of a) ≡ f (shape_of b)
same_of_both f a b same p q = by_options a.lower a.upper b.lower b.upper p.lower p.upper q.lower q.upper
  where
    by_options : (l u k v : Option Fraction) → IsTrue (is_some l) → IsTrue (is_some u) → IsTrue (is_some k) → IsTrue (is_some v) → f (shape_between l u) ≡ f (shape_between k v)
    by_options (Some l) (Some u) (Some k) (Some v) c d e g = same l u k v
    by_options None u k v c d e g = absurd (true≢false (sym c))
    by_options (Some l) None k v c d e g = absurd (true≢false (sym d))
    by_options (Some l) (Some u) None v c d e g = absurd (true≢false (sym e))
    by_options (Some l) (Some u) (Some k) None c d e g = absurd (true≢false (sym g))

-- has both bounds where it is integer
abbrev Closed : Var → Type 0
Closed v = is_integer v.kind ≡ true → IsTrue (is_some (own_bounds v).lower && is_some (own_bounds v).upper)

-- each cut of a variable behind this place is of an integer one
abbrev Behind : ℕ → List Var → Cut → Type 0
Behind first vars cut = (k : ℕ) → cut.var ≡ first + k → IsTrue (is_integer_number vars (suc k))

one_same : (f : Shape → ℕ) (first : ℕ) (v : Var) (vars : List Var) (cuts : List Cut) → IsSameOfBoth f → Closed v → All (Behind first (v ∷ vars)) cuts
    → f (shape_of (with_cuts first (own_bounds v) cuts)) ≡ f (shape_of (own_bounds v))
one_same f first v vars cuts same shut on = by_kind (is_integer v.kind) refl
  where
    zero_on : (a b : ℕ) → a ≡ b → a ≡ b + 0
    zero_on a b e = omega (arith, e)

    by_kind : (b : Bool) → is_integer v.kind ≡ b → f (shape_of (with_cuts first (own_bounds v) cuts)) ≡ f (shape_of (own_bounds v))
    by_kind true h =
        let parts = and_parts (is_some (own_bounds v).lower) (is_some (own_bounds v).upper) (shut h) in
        let own : HasBoth (own_bounds v) = record { lower = parts.0; upper = parts.1 } in
        same_of_both f (with_cuts first (own_bounds v) cuts) (own_bounds v) same (both_stay first (own_bounds v) cuts own) own
    by_kind false h = ap (λ b. f (shape_of b)) (untouched first (own_bounds v) cuts (λ i d within is. true≢false (sym (on i d within 0 (zero_on _ _ is)) ∙ h)))

all_same : (f : Shape → ℕ) (first : ℕ) (vars : List Var) (cuts : List Cut) → IsSameOfBoth f → All Closed vars → All (Behind first vars) cuts
    → sum_by f (map shape_of (bounds_from first vars cuts)) ≡ sum_by f (map shape_of (bounds_from first vars []))
all_same f first [] cuts same shut on = refl
all_same f first (v ∷ vars) cuts same shut on =
    sum_by-cons f (shape_of (with_cuts first (own_bounds v) cuts)) (map shape_of (bounds_from (suc first) vars cuts))
    ∙ ap₂ (λ a b. a + b) (one_same f first v vars cuts same (All-head Closed v vars shut) on)
    (all_same f (suc first) vars cuts same (All-tail Closed v vars shut) (λ i d within k is. on i d within (suc k) (one_on _ _ _ is)))
    ∙ sym (sum_by-cons f (shape_of (own_bounds v)) (map shape_of (bounds_from (suc first) vars [])))
  where
    one_on : (a b c : ℕ) → a ≡ suc b + c → a ≡ b + suc c
    one_on a b c e = omega (arith, e)

-- how many columns or rows all variables have
shapes_same : (f : Shape → ℕ) (m : Model) (cuts : List Cut) → IsSameOfBoth f → has_open m ≡ false → AreOnIntegers m cuts → sum_by f (shapes_of m cuts) ≡ sum_by f (shapes_of m [])
shapes_same f m cuts same shut on =
    all_same f 0 m.vars cuts same ((closed_where_none m).0 shut) (λ i d within k is. subst (λ p. IsTrue (is_integer_number m.vars (suc p))) (is ∙ omega arith) (on i d within))

pub same_columns : (m : Model) (cuts : List Cut) (s : Std) → has_open m ≡ false → AreOnIntegers m cuts → standard_form m cuts ≡ Ok s → length s.obj ≡ root_columns m
same_columns m cuts s shut on is = form-columns m cuts s is ∙ shapes_same width m cuts (λ l u k v. refl) shut on

pub same_rows : (m : Model) (cuts : List Cut) (s : Std) → has_open m ≡ false → AreOnIntegers m cuts → standard_form m cuts ≡ Ok s → length s.rows ≡ root_rows m
same_rows m cuts s shut on is = form_rows m cuts s is ∙ ap (λ n. sum_by (λ (r : Row). rows_of_sense r.sense) m.rows + n) (shapes_same spans_of m cuts (λ l u k v. refl) shut on)
