-- A lawful model's size is small.
use Rattle.std.proofs.Common.{ℕ, ◌+◌, ◌*◌, ◌≤◌, Bool, true, false, ◌&&◌, ◌||◌, List, [], ◌∷◌, length, sum_by, arith, if◌then◌else◌, is_some}
use Rattle.std.specs.List.{All}
use Rattle.std.proofs.lemmas.List.Elements.{All-nil, All-cons}
use Rattle.std.proofs.lemmas.List.Sums.{sum_by-le}
use Rattle.std.proofs.Math.Nat.{mul-le-mul}
use Rattle.model_data.specs.Lawful.{IsLawful}
use Rattle.model_data.specs.Size.{rows_of_sense, rows_of_var, columns_of_var, row_count, column_count, size_of, is_integer}
use Rattle.model_data.specs.declared.model.Model.{Model}
use Rattle.model_data.specs.declared.model.Sense.{Sense}
use Rattle.model_data.specs.declared.model.Sense.TheVariants.{Less, Greater, Equal}

each : {X : Type 0} (P : X → Type 0) (xs : List X) → ((x : X) → P x) → All P xs
each P [] h = All-nil P
each P (x ∷ xs) h = All-cons P x xs (h x) (each P xs h)

sum_by-most : {X : Type 0} (f : X → ℕ) (k : ℕ) (xs : List X) → ((x : X) → f x ≤ k) → sum_by f xs ≤ length xs * k
sum_by-most f k xs h = sum_by-le f k xs (each (λ x. f x ≤ k) xs h)

two_rows : (s : Sense) → rows_of_sense s ≤ 2
two_rows Less = omega arith
two_rows Greater = omega arith
two_rows Equal = omega arith

one_row : (b : Bool) → (if b then 1 else 0) ≤ 1
one_row true = omega arith
one_row false = omega arith

two_columns : (b : Bool) → (if b then 1 else 2) ≤ 2
two_columns true = omega arith
two_columns false = omega arith

rows_most : (m : Model) → IsLawful m → row_count m ≤ 3000
rows_most m h =
    let rows = sum_by-most (λ r. rows_of_sense r.sense) 2 m.rows (λ r. two_rows r.sense) in
    let vars = sum_by-most rows_of_var 1 m.vars (λ v. one_row (is_integer v.kind || (is_some v.lower && is_some v.upper))) in
    omega (arith, rows, vars, h.row_limit, h.var_limit)

columns_most : (m : Model) → IsLawful m → column_count m ≤ 2000
columns_most m h =
    let vars = sum_by-most columns_of_var 2 m.vars (λ v. two_columns (is_some v.lower || is_some v.upper)) in
    omega (arith, vars, h.var_limit)

pub size_of-lawful : (m : Model) → IsLawful m → size_of m ≤ 3002 * 2002
size_of-lawful m h =
    let rows : row_count m + 2 ≤ 3002 = omega (arith, rows_most m h) in
    let columns : column_count m + 2 ≤ 2002 = omega (arith, columns_most m h) in
    mul-le-mul rows columns
