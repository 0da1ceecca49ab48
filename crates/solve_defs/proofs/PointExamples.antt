-- Points of worked models: a best one, models that have none, and one without a bound.
use Rattle.std.proofs.Common.{◌≡◌, refl, ℕ, suc, ◌*◌, ◌<◌, ◌≤◌, List, [], ◌∷◌, ℤ, pos, negsuc, unsigned_abs, All, arith}
use Rattle.std.specs.Int.{◌∣◌}
use Rattle.std.proofs.lemmas.Int.{ints}
use Rattle.std.proofs.lemmas.Nat.Gcd.{le_of_dvd}
use Rattle.std.proofs.lemmas.List.Elements.{All-cons, All-head, All-nil, All-tail}
use Rattle.model_data.specs.declared.model.Row.{Row}
use Rattle.model_data.specs.declared.model.VarKind.TheVariants.{Continuous}
use Rattle.solve_defs.specs.Points.{HasNoPoint, IsBest, IsBetter, IsFeasible, IsUnbounded, KeepsRow, Passes, objective_value, relaxation}
use Rattle.solve_defs.proofs.Domains.{feasible_from, feasible_within}
use Rattle.solve_defs.proofs.Models.{first_row, half_binary, half_row, lack_row, rising, second_row, too_little, two_by_two, two_rows}

row_list : (P : Row → Type 0) → P first_row → P second_row → All P two_rows
row_list P p q = All-cons P first_row (second_row ∷ []) p (All-cons P second_row [] q (All-nil P))

six_eighths : IsFeasible two_by_two (pos 6 ∷ pos 8 ∷ []) 5
six_eighths =
    feasible_from two_by_two (pos 6 ∷ pos 8 ∷ []) 5 (omega arith) (row_list (KeepsRow (pos 6 ∷ pos 8 ∷ []) 5) (omega (arith, ints)) (omega (arith, ints)))
    (record { lower = omega (arith, ints); upper = tt }, (record { lower = omega (arith, ints); upper = tt }, tt))
    ((λ h. absurd (cc)), ((λ h. absurd (cc)), tt))

-- The first row twice and the second once, by 5, bound x + y.
best : IsBest two_by_two (pos 6 ∷ pos 8 ∷ []) 5
best = record { feasible = six_eighths; none_better = none_better }
  where
    none_better : (Y : List ℤ) (e : ℕ) → IsFeasible two_by_two Y e → IsBetter two_by_two.direction (objective_value two_by_two Y e) (objective_value two_by_two (pos 6 ∷ pos 8 ∷ []) 5) → ⊥
    none_better [] e f better = absurd f.vars
    none_better (a ∷ []) e f better = absurd f.vars.1
    none_better (a ∷ b ∷ c ∷ Y) e f better = absurd f.vars.1.1
    none_better (a ∷ b ∷ []) e f better =
        let one : KeepsRow (a ∷ b ∷ []) e first_row = All-head (KeepsRow (a ∷ b ∷ []) e) first_row (second_row ∷ []) f.rows in
        let two : KeepsRow (a ∷ b ∷ []) e second_row = All-head (KeepsRow (a ∷ b ∷ []) e) second_row [] (All-tail (KeepsRow (a ∷ b ∷ []) e) first_row (second_row ∷ []) f.rows) in
        omega (arith, ints)

none : HasNoPoint too_little
none [] e f = absurd f.vars
none (a ∷ []) e f = absurd f.vars.1
none (a ∷ b ∷ c ∷ X) e f = absurd f.vars.1.1
none (a ∷ b ∷ []) e f =
    let lack : KeepsRow (a ∷ b ∷ []) e lack_row = All-head (KeepsRow (a ∷ b ∷ []) e) lack_row [] f.rows in
    let within = feasible_within too_little (a ∷ b ∷ []) e f in
    let first = within.0.lower in
    let second = within.1.0.lower in
    omega (arith, ints, lack, first, second)

rising_point : (n : ℤ) → Passes (rising Continuous) n
rising_point (pos n) = record {
  X = pos (suc n) ∷ [];
  d = 1;
  feasible = feasible_from (rising Continuous) (pos (suc n) ∷ []) 1 (omega arith) (All-nil (KeepsRow (pos (suc n) ∷ []) 1)) (record { lower = omega (arith, ints); upper = tt }, tt) ((λ h. absurd (cc)), tt);
  better = omega (arith, ints);
}
rising_point (negsuc n) = record {
  X = pos 0 ∷ [];
  d = 1;
  feasible = feasible_from (rising Continuous) (pos 0 ∷ []) 1 (omega arith) (All-nil (KeepsRow (pos 0 ∷ []) 1)) (record { lower = omega (arith, ints); upper = tt }, tt) ((λ h. absurd (cc)), tt);
  better = omega (arith, ints);
}

unbounded : IsUnbounded (rising Continuous)
unbounded = rising_point

-- No whole number is a half, though the relaxation has that point.
no_half : HasNoPoint half_binary
no_half [] e f = absurd f.vars
no_half (a ∷ b ∷ X) e f = absurd f.vars.1
no_half (a ∷ []) e f =
    let half : KeepsRow (a ∷ []) e half_row = All-head (KeepsRow (a ∷ []) e) half_row [] f.rows in
    let size : 2 * unsigned_abs a ≡ e = omega (arith, ints) in
    not_below_itself (unsigned_abs a) e (f.vars.0.whole refl) f.above_zero size
  where
    not_below_itself : (n e : ℕ) → e ∣ n → 0 < e → 2 * n ≡ e → ⊥
    not_below_itself n e divides some same = let more : e ≤ n = le_of_dvd (omega arith) divides in omega arith

half : IsFeasible (relaxation half_binary []) (pos 1 ∷ []) 2
half =
    feasible_from (relaxation half_binary []) (pos 1 ∷ []) 2 (omega arith) (All-cons (KeepsRow (pos 1 ∷ []) 2) half_row [] refl (All-nil (KeepsRow (pos 1 ∷ []) 2)))
    (record { lower = omega (arith, ints); upper = omega (arith, ints) }, tt)
    ((λ h. absurd (cc)), tt)
