-- The exact pivot turns a dictionary; a pivot that fits is the exact one, and so are ratios and a pivot by the rule.
use Rattle.std.proofs.Common.{◌≡◌, ◌≢◌, ◌∙◌, refl, sym, ap, ap₂, subst, ℕ, zero, suc, ◌-◌, ◌<◌, List, [], ◌∷◌, ◌++◌, length, map, take, drop, slice_index, slice_index_or, slice_set, All, Some, option_map, Ok, pos, arith}
use Rattle.std.proofs.lemmas.List.Elements.{All-cons, All-get_or, All-head, All-tail}
use Rattle.frac128.specs.Fraction.{Fraction, inverse, zero_value}
use Rattle.frac128.specs.Checked.{checked_quotient}
use Rattle.frac128.specs.Lowest.{IsInLowestTerms}
use Rattle.frac128.proofs.Chains.{quotient_is, same_ok, through}
use Rattle.frac128.proofs.Field.{apart_of-product}
use Rattle.frac128.proofs.Sums.{minus_is, ◌⊕◌, ◌⊗◌}
use Rattle.dictionary.specs.Dictionary.{Dictionary, entry, solved_row}
use Rattle.dictionary.specs.Rule.{Ratio, RowAhead, bounding_rows, leaving_row, ratio_of, ratios}
use Rattle.dictionary.specs.Solutions.{IsLawful, Pivots, PivotsByRule}
use Rattle.dictionary.specs.ExactPath.{ExactStep, each_less, exact_eliminated_basic, exact_eliminated_entries, exact_eliminated_objective, exact_pivot, exact_ratio, exact_ratios, exact_solved_row}
use Rattle.dictionary.proofs.Points.ExactPivot as fitting
use Rattle.dictionary.proofs.Points.ExactPivot.{exact_each, exact_solved, less_one, other_entries, other_objective, other_row, solved_entries, turned}
use Rattle.dictionary.proofs.Points.Lawful.{All-solved, IsWide, SolvedRow, Turns, length-solved}
use Rattle.dictionary.proofs.Points.PivotLaw.{row_wide}
use Rattle.dictionary.proofs.Points.Sums.{less_products}
use Rattle.dictionary.proofs.Points.Feasible.{by_rule}
use Rattle.dictionary.proofs.Points.Turned.{told-solved}

-- ---- the parts

each_less_is : (f : Fraction) (xs ys : List Fraction) → each_less f xs ys ≡ less_products f xs ys
each_less_is f [] ys = refl
each_less_is f (x ∷ xs) [] = refl
each_less_is f (x ∷ xs) (y ∷ ys) = ap₂ (λ a rest. a ∷ rest) (ap (λ s. x ⊕ s) (sym (minus_is (f ⊗ y)))) (each_less_is f xs ys)

entries_are : (j : ℕ) (f : Fraction) (solved entries : List Fraction) → exact_eliminated_entries j f solved entries ≡ other_entries j f solved entries
unfolding exact_eliminated_entries
entries_are j f solved entries =
    ap₂ (λ l r. l ++ r) (each_less_is f (take j entries) (take j solved))
    (ap₂ (λ o r. o ∷ r) (sym (minus_is (f ⊗ entry solved j))) (each_less_is f (drop (suc j) entries) (drop (suc j) solved)))

behind : (j : ℕ) (f : Fraction) (solved entries : List Fraction) → exact_eliminated_entries (suc j - 1) f solved entries ≡ other_entries j f solved entries
behind j f solved entries = ap (λ place. exact_eliminated_entries place f solved entries) (less_one j) ∙ entries_are j f solved entries

basic_is : (j : ℕ) (solved row : List Fraction) → exact_eliminated_basic (suc j) solved row ≡ other_row j solved row
unfolding exact_eliminated_basic
basic_is j solved row =
    ap₂ (λ k es. k ∷ es) (ap (λ s. entry row 0 ⊕ s) (sym (minus_is (entry row (suc j) ⊗ entry solved 0))))
    (behind j (entry row (suc j)) (drop 1 solved) (drop 1 row))

objective_is : (j : ℕ) (solved row : List Fraction) → exact_eliminated_objective (suc j) solved row ≡ other_objective j solved row
unfolding exact_eliminated_objective
objective_is j solved row = ap (λ es. (entry row 0 ⊕ entry row (suc j) ⊗ entry solved 0) ∷ es) (behind j (entry row (suc j)) (drop 1 solved) (drop 1 row))

solved_is : (j : ℕ) (k : Fraction) (entries : List Fraction) → exact_solved_row (suc j) (k ∷ entries) ≡ k ⊗ inverse (entry entries j) ∷ solved_entries j (inverse (entry entries j)) entries
unfolding exact_solved_row
solved_is j k entries = refl

-- ---- the pivot

pivot_is : (i j : ℕ) (d : Dictionary) → exact_pivot (suc i) (suc j) d ≡ turned i j (exact_solved_row (suc j) (slice_index_or d.rows i [])) d
unfolding exact_pivot
pivot_is i j d =
    let rows_at : (p q : ℕ) → Dictionary = λ p q. let solved = exact_solved_row (suc j) (slice_index_or d.rows p []) in record {
      basic = slice_set d.basic p (slice_index d.nonbasic q);
      nonbasic = slice_set d.nonbasic q (slice_index d.basic p);
      rows = map (exact_eliminated_basic (suc j) solved) (take p d.rows) ++ solved ∷ map (exact_eliminated_basic (suc j) solved) (drop (suc i) d.rows);
      objective = exact_eliminated_objective (suc j) solved d.objective;
      auxiliary = option_map (exact_eliminated_objective (suc j) solved) d.auxiliary;
    } in
    let solved = exact_solved_row (suc j) (slice_index_or d.rows i []) in
    ap₂ rows_at (less_one i) (less_one j)
    ∙ (λ t. record {
      basic = slice_set d.basic i (slice_index d.nonbasic j);
      nonbasic = slice_set d.nonbasic j (slice_index d.basic i);
      rows = map (λ row. basic_is j solved row t) (take i d.rows) ++ solved ∷ map (λ row. basic_is j solved row t) (drop (suc i) d.rows);
      objective = objective_is j solved d.objective t;
      auxiliary = option_map (λ row. objective_is j solved row t) d.auxiliary;
    })

exact_known : (j n : ℕ) (row : List Fraction) → j < n → IsWide n row → All IsInLowestTerms row → (entry row (suc j)).num ≢ pos 0 → SolvedRow j n row (exact_solved_row (suc j) row)
exact_known j n [] within wide low some = absurd (omega (arith, wide))
exact_known j n (k ∷ entries) within wide low some =
    let same : length entries ≡ n = omega (arith, wide) in
    let q = inverse (entry entries j) in
    subst (SolvedRow j n (k ∷ entries)) (sym (solved_is j k entries)) record {
      wide = ap suc (length-solved j n q entries within same);
      reduced = All-cons IsInLowestTerms (k ⊗ q) (solved_entries j q entries) (apart_of-product k q) (All-solved j q entries);
      constant = refl;
      truth = λ x u vs low_x long. told-solved x j u vs k entries low_x (All-head IsInLowestTerms k entries low) (All-get_or IsInLowestTerms entries j zero_value (omega arith) (All-tail IsInLowestTerms k entries low)) some (omega (arith, within, long)) (same ∙ sym long);
    }

-- A pivot on places from 0 on, whose entry there is not 0, turns a lawful dictionary.
pub exact_turn : (i j : ℕ) (d : Dictionary) → IsLawful d → i < length d.basic → j < length d.nonbasic → (entry (slice_index_or d.rows i []) (suc j)).num ≢ pos 0 → Turns i j d (exact_pivot (suc i) (suc j) d)
exact_turn i j d lawful within column_within some =
    let same = lawful.shape.rows in
    let row = slice_index_or d.rows i [] in
    let low : All IsInLowestTerms row = All-get_or (All IsInLowestTerms) d.rows i [] (omega (arith, same, within)) lawful.reduced.rows in
    record {
      row_within = within;
      column_within = column_within;
      solved = exact_solved_row (suc j) row;
      known = exact_known j (length d.nonbasic) row column_within (row_wide d i lawful within) low some;
      is_made = pivot_is i j d;
    }

-- ---- a pivot that fits

solved_fits : (j n : ℕ) (row solved : List Fraction) → IsWide n row → solved_row (suc j) row ≡ Ok solved → solved ≡ exact_solved_row (suc j) row
solved_fits j n [] solved wide h = absurd (omega (arith, wide))
solved_fits j n (k ∷ entries) solved wide h = exact_solved j k entries solved h ∙ sym (solved_is j k entries)

pub fitting_pivot : (r c : ℕ) (d e : Dictionary) → IsLawful d → Pivots r c d e → e ≡ exact_pivot r c d
fitting_pivot zero c d e lawful h = absurd (omega (arith, h.row_above))
fitting_pivot (suc i) zero d e lawful h = absurd (omega (arith, h.column_above))
fitting_pivot (suc i) (suc j) d e lawful h =
    let within : i < length d.basic = omega (arith, h.row_within) in
    let made = fitting.exact_pivot i j d e lawful.shape.rows within h.is_pivot in
    made.is_made ∙ ap (λ s. turned i j s d) (solved_fits j (length d.nonbasic) (slice_index_or d.rows i []) made.solved (row_wide d i lawful within) made.is_solved) ∙ sym (pivot_is i j d)

-- ratios that fit are the exact ones
pub fitting_ratios : (d : Dictionary) (c : ℕ) (rs : List Ratio) → ratios d c ≡ Ok rs → rs ≡ exact_ratios d c
unfolding ratios exact_ratios
fitting_ratios d c rs h = exact_each ratio_of exact_ratio same (bounding_rows d c) rs h
  where
    same : (row : RowAhead) (ratio : Ratio) → ratio_of row ≡ Ok ratio → ratio ≡ exact_ratio row
    same row ratio e =
        let value = through (checked_quotient row.constant row.entry) _ ratio e in
        sym (same_ok _ _ value.rest)
        ∙ ap (λ v. let made : Ratio = record { row = row.row; variable = row.variable; value = v } in made) (quotient_is row.constant row.entry value.value value.first)

-- and a pivot by the rule is a step of the exact path
pub fitting_step : (r c : ℕ) (d e : Dictionary) → IsLawful d → PivotsByRule r c d e → ExactStep d e
fitting_step r c d e lawful h = record {
  column = c;
  row = r;
  enters = h.enters;
  leaves = subst (λ rs. leaving_row rs ≡ Some r) (fitting_ratios d c h.compared h.are_ratios) h.leaves;
  is_pivot = fitting_pivot r c d e lawful (by_rule r c d e lawful h);
}
