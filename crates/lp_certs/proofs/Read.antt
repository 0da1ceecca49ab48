-- What the passes leave is what is read off an end.
use Rattle.std.proofs.Common.{◌≡◌, ◌∙◌, refl, sym, ap, ap₂, ℕ, zero, suc, ◌+◌, ◌-◌, ◌≤◌, ◌==◌, Bool, true, false, cond, List, [], ◌∷◌, length, map, drop, take, slice_index, Option, Some, None, unwrap_or, arith, eq-eqb, ne_eqb}
use Rattle.std.specs.Option.{is_some}
use Rattle.frac128.specs.Fraction.{Fraction, negation, one_value}
use Rattle.dictionary.specs.Dictionary.{Dictionary, IsInShape, line_count, numbers_from}
use Rattle.dictionary.specs.Rule.{entering_column}
use Rattle.solve_defs.specs.Ends.{basic_row, dual_of, duals, farkas_of, point_of, ray_of, rise_in, rise_of, structural_count, value_in, weight_of}
use Rattle.solve_defs.specs.Path.{is_phase_one}
use Rattle.solve_defs.specs.declared.solving.Duals.{Duals}
use Rattle.solve_defs.specs.declared.solving.StdRay.{StdRay}
use Rattle.lp_certs.specs.ByIndex.{entry_in, line_at, replaced}
use Rattle.lp_certs.proofs.Indexed.{dropped, map_same, taken}

-- ---- the point

constant_in : (d : Dictionary) (o : Option ℕ) → entry_in d 0 o ≡ value_in d o
constant_in d None = refl
constant_in d (Some place) = refl

pub point_is : (d : Dictionary) → map (λ v. entry_in d 0 (basic_row d v)) (numbers_from 1 (structural_count d)) ≡ point_of d
unfolding point_of
point_is d = map_same _ _ (λ v. constant_in d (basic_row d v)) (numbers_from 1 (structural_count d))

-- ---- weights

same_duals : (ys zs reduced costs : List Fraction) → ys ≡ zs → reduced ≡ costs → let own : Duals = record { ys = ys; reduced = reduced } in own ≡ record { ys = zs; reduced = costs }
same_duals ys zs reduced costs p q = cc

pub duals_are : (d : Dictionary) (objective : List Fraction) (all ys reduced : List Fraction) → IsInShape d
    → all ≡ map (weight_of d objective) (numbers_from 1 (structural_count d + length d.basic))
    → ys ≡ drop (structural_count d) all → reduced ≡ take (structural_count d) all
    → let own : Duals = record { ys = ys; reduced = reduced } in own ≡ duals d objective
duals_are d objective all ys reduced shape are slacks columns =
    let n = structural_count d in
    same_duals _ _ _ _
    (slacks ∙ ap (drop n) are ∙ dropped (weight_of d objective) 1 n (length d.basic) ∙ ap (λ m. map (weight_of d objective) (numbers_from (n + 1) m)) (sym shape.rows))
    (columns ∙ ap (take n) are ∙ taken (weight_of d objective) 1 n (length d.basic))

pub duals_split : (d : Dictionary) (objective : List Fraction) (all : List Fraction)
    → all ≡ map (weight_of d objective) (numbers_from 1 (structural_count d + length d.basic)) → structural_count d ≤ length all
duals_split d objective all are =
    let size = ap length are ∙ numbered (weight_of d objective) 1 (structural_count d + length d.basic) in omega (arith, size)
  where
    numbered : (f : ℕ → Fraction) (first count : ℕ) → length (map f (numbers_from first count)) ≡ count
    numbered f first zero = refl
    numbered f first (suc count) = ap suc (numbered f (suc first) count)

line_of_z : (d : Dictionary) (line : ℕ) → line ≡ length d.basic + 1 → line_at d line ≡ d.objective
line_of_z d line is = ap (λ b. cond b (unwrap_or d.auxiliary []) d.objective) (ne_eqb line (length d.basic + 2) (λ e. absurd (omega (arith, is, e))))

line_of_w : (d : Dictionary) (line : ℕ) → line ≡ length d.basic + 2 → line_at d line ≡ unwrap_or d.auxiliary []
line_of_w d line is = ap (λ b. cond b (unwrap_or d.auxiliary []) d.objective) (eq-eqb line (length d.basic + 2) is)

pub by_z : (d : Dictionary) (line : ℕ) → line ≡ length d.basic + 1 → duals d (line_at d line) ≡ dual_of d
unfolding dual_of
by_z d line is = ap (duals d) (line_of_z d line is)

pub by_w : (d : Dictionary) (line : ℕ) → line ≡ length d.basic + 2 → duals d (line_at d line) ≡ farkas_of d
unfolding farkas_of
by_w d line is = ap (duals d) (line_of_w d line is)

pub z_within : (d : Dictionary) (line : ℕ) → line ≡ length d.basic + 1 → line ≤ line_count d
z_within d line is = by_test (is_some d.auxiliary)
  where
    by_test : (b : Bool) → line ≤ cond b (length d.basic + 2) (length d.basic + 1)
    by_test true = omega (arith, is)
    by_test false = omega (arith, is)

pub w_within : (d : Dictionary) (line : ℕ) → is_phase_one d ≡ true → line ≡ length d.basic + 2 → line ≤ line_count d
w_within d line phase is =
    let lines = ap (λ b. cond b (length d.basic + 2) (length d.basic + 1)) phase in omega (arith, is, lines)

-- ---- the direction

opposite_in : (d : Dictionary) (c : ℕ) (o : Option ℕ) → negation (entry_in d c o) ≡ rise_in d c o
opposite_in d c None = refl
opposite_in d c (Some place) = refl

map-map : {A B C : Type 0} (f : B → C) (g : A → B) (xs : List A) → map f (map g xs) ≡ map (λ x. f (g x)) xs
map-map f g [] = refl
map-map f g (x ∷ xs) = ap (λ ys. f (g x) ∷ ys) (map-map f g xs)

pub rises_are : (d : Dictionary) (c u : ℕ) (one : Fraction) (entries opposites rises : List Fraction) → u ≡ slice_index d.nonbasic (c - 1) → one ≡ one_value
    → entries ≡ map (λ v. entry_in d c (basic_row d v)) (numbers_from 1 (structural_count d))
    → opposites ≡ map negation entries
    → ((count : ℕ) (f : ℕ → Fraction) → opposites ≡ map f (numbers_from 1 count) → rises ≡ map (replaced u one f) (numbers_from 1 count))
    → rises ≡ map (rise_of d c) (numbers_from 1 (structural_count d))
rises_are d c u one entries opposites rises is unit are turned put =
    let ns = numbers_from 1 (structural_count d) in
    put (structural_count d) (λ v. negation (entry_in d c (basic_row d v))) (turned ∙ ap (map negation) are ∙ map-map negation (λ v. entry_in d c (basic_row d v)) ns)
    ∙ ap₂ (λ (w : ℕ) (x : Fraction). map (replaced w x (λ v. negation (entry_in d c (basic_row d v)))) ns) is unit
    ∙ map_same _ _ (λ v. ap (cond (slice_index d.nonbasic (c - 1) == v) one_value) (opposite_in d c (basic_row d v))) ns

same_ray : (p q r s : List Fraction) → p ≡ q → r ≡ s → let own : StdRay = record { point = p; ray = r } in own ≡ record { point = q; ray = s }
same_ray p q r s e f = cc

pub ray_is : (d : Dictionary) (c : ℕ) (point rises : List Fraction) → Some c ≡ entering_column d → point ≡ point_of d
    → rises ≡ map (rise_of d c) (numbers_from 1 (structural_count d))
    → let own : StdRay = record { point = point; ray = rises } in own ≡ ray_of d
unfolding ray_of
ray_is d c point rises enters here along =
    same_ray _ _ _ _ here (along ∙ ap (λ o. map (rise_of d (unwrap_or o 0)) (numbers_from 1 (structural_count d))) enters)
