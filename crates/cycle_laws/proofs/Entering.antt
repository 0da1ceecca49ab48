-- The column that enters has the smallest variable of those that rise.
use Rattle.std.proofs.Common.{◌≡◌, ◌∙◌, refl, sym, ap, subst, ℕ, zero, suc, ◌+◌, ◌<◌, ◌≤◌, true, List, [], ◌∷◌, length, drop, filter, slice_index, slice_index_or, nat_lt, All, Some, Contains, arith, ltb-true, ltb-false}
use Rattle.std.proofs.lemmas.List.Elements.{All-contains_itself, All-filter, filter_passes}
use Rattle.frac128.specs.Fraction.{Fraction}
use Rattle.dictionary.specs.Dictionary.{Dictionary, IsInShape, entry}
use Rattle.dictionary.specs.Rule.{Column, columns_from, columns_of, entering_column, is_positive, maximized_row}
use Rattle.dictionary.proofs.Points.Chosen.{GoesBy, chosen, maximized-wide}
use Rattle.dictionary.proofs.Points.Lawful.{wide_entries}
use Rattle.dictionary.proofs.Points.Turned.{entry-behind}
use Rattle.cycle_laws.specs.Choices.{EntersFirst}
use Rattle.cycle_laws.proofs.Passing.{passing}

column_at : ℕ → List ℕ → List Fraction → ℕ → Column
column_at c vs coefs k = record { column = c + k; variable = slice_index vs k; coefficient = entry coefs k }

length-columns : (c : ℕ) (vs : List ℕ) (coefs : List Fraction) → length coefs ≡ length vs → length (columns_from c vs coefs) ≡ length vs
length-columns c [] coefs same = refl
length-columns c (v ∷ vs) [] same = absurd (omega (arith, same))
length-columns c (v ∷ vs) (a ∷ coefs) same = ap suc (length-columns (suc c) vs coefs (omega (arith, same)))

columns-at : (c : ℕ) (vs : List ℕ) (coefs : List Fraction) (k : ℕ) (e : Column) → length coefs ≡ length vs → k < length vs → slice_index_or (columns_from c vs coefs) k e ≡ column_at c vs coefs k
unfolding column_at
columns-at c [] coefs k e same within = absurd (omega (arith, within))
columns-at c (v ∷ vs) [] k e same within = absurd (omega (arith, same))
columns-at c (v ∷ vs) (a ∷ coefs) zero e same within = ap (λ (n : ℕ). let col : Column = record { column = n; variable = v; coefficient = a } in col) (omega arith)
columns-at c (v ∷ vs) (a ∷ coefs) (suc k) e same within =
    columns-at (suc c) vs coefs k e (omega (arith, same)) (omega (arith, within))
    ∙ ap (λ (n : ℕ). let col : Column = record { column = n; variable = slice_index vs k; coefficient = entry coefs k } in col) (omega arith)

by_variable : GoesBy (λ (x y : Column). x.variable ≤ y.variable) (λ x y. nat_lt x.variable y.variable)
by_variable = record {
  itself = λ x. omega arith;
  transitive = λ x y z p q. omega (arith, p, q);
  before = λ x y h. omega (arith, ltb-true x.variable y.variable h);
  behind = λ x y h. ltb-false x.variable y.variable h;
}

pub enters_first : (d : Dictionary) (c : ℕ) → IsInShape d → entering_column d ≡ Some c → EntersFirst d c
unfolding entering_column column_at
enters_first d c shape h =
    let rises = λ (col : Column). is_positive col.coefficient in
    let coefs = drop 1 (maximized_row d) in
    let same : length coefs ≡ length d.nonbasic = wide_entries (length d.nonbasic) (maximized_row d) (maximized-wide d shape) in
    let long = length-columns 1 d.nonbasic coefs same in
    let columns = columns_of d in
    let both : All (λ col. record { known : Contains columns col; rise : rises col ≡ true }) (filter rises columns) =
    λ k e within. record { known = All-filter rises (Contains columns) columns (All-contains_itself columns) k e within; rise = filter_passes rises columns k e within } in
    let found = chosen (λ col. record { known : Contains columns col; rise : rises col ≡ true }) (λ (x y : Column). x.variable ≤ y.variable) (λ x y. nat_lt x.variable y.variable) (λ col. col.column) by_variable (filter rises columns) c both h in
    let best = found.0 in
    let place = found.2.holds.known.0 in
    let within : place < length d.nonbasic = omega (arith, found.2.holds.known.1, long) in
    let is : column_at 1 d.nonbasic coefs place ≡ best = sym (columns-at 1 d.nonbasic coefs place best same within) ∙ found.2.holds.known.2 in
    record {
      place = place;
      is_column = sym found.1 ∙ ap (λ (col : Column). col.column) (sym is) ∙ omega arith;
      within = within;
      rises = ap is_positive (sym (entry-behind place (maximized_row d)) ∙ ap (λ (col : Column). col.coefficient) is) ∙ found.2.holds.rise;
      smallest = λ k below positive.
          let there = columns-at 1 d.nonbasic coefs k best same below in
          subst (λ (col : Column). col.variable ≤ slice_index d.nonbasic k) (sym is)
          (subst (λ (col : Column). best.variable ≤ col.variable) there
          (passing rises (λ col. best.variable ≤ col.variable) columns k best (omega (arith, below, long))
          (ap (λ (col : Column). is_positive col.coefficient) there ∙ ap is_positive (entry-behind k (maximized_row d)) ∙ positive) found.2.first));
    }
