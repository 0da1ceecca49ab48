-- Each entry of a dictionary on the path is the result of an operation that fits, and so a number that can be kept.
use Rattle.std.specs.List.{remove}
use Rattle.std.proofs.Common.{◌≡◌, ◌≢◌, ◌∙◌, ⊎_elim, refl, sym, ap, subst, ℕ, zero, suc, ◌-◌, Bool, true, false, cond, List, [], ◌∷◌, ◌++◌, length, replicate, take, drop, All, IfSome, Option, Some, None, unwrap_or, Result, Ok, pos}
use Rattle.std.proofs.lemmas.Bool.{cases_lt}
use Rattle.std.proofs.lemmas.List.{get_or_past}
use Rattle.std.proofs.lemmas.List.Elements.{All-append, All-cons, All-drop, All-head, All-map, All-nil, All-replicate, All-tail, All-take, All-weaker}
use Rattle.frac128.specs.Checked.{checked_difference, checked_product, checked_quotient, checked_sum, less_product, plus_product, value_or_wide}
use Rattle.frac128.specs.Fits.{difference_fits, product_fits, quotient_fits, sum_fits}
use Rattle.frac128.specs.Fraction.{Fraction, exact_difference, exact_product, exact_quotient, exact_sum, negation, one_value, zero_value}
use Rattle.frac128.specs.Lowest.{IsKept}
use Rattle.frac128.specs.declared.operations.Op.TheVariants.{Add, Div, Mul, Sub}
use Rattle.frac128.proofs.Kept.{IsKept-difference, IsKept-negation, IsKept-one, IsKept-product, IsKept-quotient, IsKept-sum, IsKept-zero}
use Rattle.frac128.proofs.Chains.{same_ok, through}
use Rattle.dictionary.specs.Dictionary.{Dictionary, IsUniform, artificial_column, each, each_option, each_pair, eliminated_basic, eliminated_entries, eliminated_objective, end_phase_one, entry, needs_phase_one, opening, pivot, pivoted_rows, row_at, solved_row, with_artificial, without_artificial}
use Rattle.dictionary.specs.Solutions.{HasFeasibleConstants, HasReducedNumbers}
use Rattle.dictionary.specs.declared.standard.Std.{Std}
use Rattle.dictionary.proofs.Points.FirstPivot.{opening_pivots}
use Rattle.dictionary.proofs.Points.Feasible as feasible
use Rattle.solve_defs.specs.Ends.{column_of, dual_of, duals, farkas_of, weight_in, weight_of}
use Rattle.solve_defs.specs.Path.{awaits_artificial, LeadsTo, Path, artificial, further, here, next, pivoted, settled}
use Rattle.relaxation_laws.specs.Reached.{Phase, Reached, at_opening, in_phase_one, in_phase_two}
use Rattle.relaxation_laws.proofs.ByRule.{awaits_none, comes_artificial, comes_by_rule, made_by_rule}
use Rattle.relaxation_laws.proofs.FirstStep.{awaits_opening, least_opening}
use Rattle.relaxation_laws.proofs.Steps.{leads_kept, opening_reached}
use Rattle.fit_laws.specs.KeptEntries.{HasKeptEntries, HasKeptForm}

-- ---- operations

kept_sum : (x y z : Fraction) → IsKept x → IsKept y → checked_sum x y ≡ Ok z → IsKept z
kept_sum x y z p q h = by_test (sum_fits x y) refl h
  where
    by_test : (b : Bool) → sum_fits x y ≡ b → value_or_wide b (exact_sum x y) Add x y ≡ Ok z → IsKept z
    by_test true fits e = subst IsKept (same_ok _ _ e) (IsKept-sum x y p q fits)
    by_test false fits e = absurd cc

pub kept_difference : (x y z : Fraction) → IsKept x → IsKept y → checked_difference x y ≡ Ok z → IsKept z
kept_difference x y z p q h = by_test (difference_fits x y) refl h
  where
    by_test : (b : Bool) → difference_fits x y ≡ b → value_or_wide b (exact_difference x y) Sub x y ≡ Ok z → IsKept z
    by_test true fits e = subst IsKept (same_ok _ _ e) (IsKept-difference x y p q fits)
    by_test false fits e = absurd cc

kept_product : (x y z : Fraction) → IsKept x → IsKept y → checked_product x y ≡ Ok z → IsKept z
kept_product x y z p q h = by_test (product_fits x y) refl h
  where
    by_test : (b : Bool) → product_fits x y ≡ b → value_or_wide b (exact_product x y) Mul x y ≡ Ok z → IsKept z
    by_test true fits e = subst IsKept (same_ok _ _ e) (IsKept-product x y p q fits)
    by_test false fits e = absurd cc

kept_quotient : (x y z : Fraction) → IsKept x → IsKept y → y.num ≢ pos 0 → checked_quotient x y ≡ Ok z → IsKept z
kept_quotient x y z p q some h = by_test (quotient_fits x y) refl h
  where
    by_test : (b : Bool) → quotient_fits x y ≡ b → value_or_wide b (exact_quotient x y) Div x y ≡ Ok z → IsKept z
    by_test true fits e = subst IsKept (same_ok _ _ e) (IsKept-quotient x y some p q fits)
    by_test false fits e = absurd cc

pub kept_less : (f x y z : Fraction) → IsKept f → IsKept x → IsKept y → less_product f x y ≡ Ok z → IsKept z
kept_less f x y z p q r h = let made = through (checked_product f y) _ z h in kept_difference x made.value z q (kept_product f y made.value p r made.first) made.rest

pub kept_plus : (f x y z : Fraction) → IsKept f → IsKept x → IsKept y → plus_product f x y ≡ Ok z → IsKept z
kept_plus f x y z p q r h = let made = through (checked_product f y) _ z h in kept_sum x made.value z q (kept_product f y made.value p r made.first) made.rest

-- ---- rows

entry_kept : (row : List Fraction) (c : ℕ) → All IsKept row → IsKept (entry row c)
entry_kept row c kept = ⊎_elim (λ within. kept c zero_value within) (λ past. subst IsKept (sym (get_or_past row c zero_value past)) IsKept-zero) (cases_lt c (length row))

row_kept : (rows : List (List Fraction)) (r : ℕ) → All (All IsKept) rows → All IsKept (row_at rows r)
row_kept rows r kept = ⊎_elim (λ within. kept (r - 1) [] within) (λ past. subst (All IsKept) (sym (get_or_past rows (r - 1) [] past)) (All-nil IsKept)) (cases_lt (r - 1) (length rows))

each_kept : {A B E : Type 0} (P : A → Type 0) (Q : B → Type 0) (f : A → Result B E) → ((x : A) (y : B) → P x → f x ≡ Ok y → Q y) → (xs : List A) (ys : List B) → All P xs → each f xs ≡ Ok ys → All Q ys
each_kept P Q f made [] ys all h = subst (All Q) (same_ok _ _ h) (All-nil Q)
each_kept P Q f made (x ∷ xs) ys all h =
    let first = through (f x) _ ys h in
    let others = through (each f xs) _ ys first.rest in
    subst (All Q) (same_ok _ _ others.rest) (All-cons Q first.value others.value (made x first.value (All-head P x xs all) first.first) (each_kept P Q f made xs others.value (All-tail P x xs all) others.first))

pairs_kept : (f : Fraction) → IsKept f → (xs ys zs : List Fraction) → All IsKept xs → All IsKept ys → each_pair (less_product f) xs ys ≡ Ok zs → All IsKept zs
pairs_kept f kept [] ys zs p q h = subst (All IsKept) (same_ok _ _ h) (All-nil IsKept)
pairs_kept f kept (x ∷ xs) [] zs p q h = subst (All IsKept) (same_ok _ _ h) (All-nil IsKept)
pairs_kept f kept (x ∷ xs) (y ∷ ys) zs p q h =
    let first = through (less_product f x y) _ zs h in
    let others = through (each_pair (less_product f) xs ys) _ zs first.rest in
    subst (All IsKept) (same_ok _ _ others.rest)
    (All-cons IsKept first.value others.value (kept_less f x y first.value kept (All-head IsKept x xs p) (All-head IsKept y ys q) first.first) (pairs_kept f kept xs ys others.value (All-tail IsKept x xs p) (All-tail IsKept y ys q) others.first))

solved_kept : (c : ℕ) (row out : List Fraction) → All IsKept row → (entry row c).num ≢ pos 0 → solved_row c row ≡ Ok out → All IsKept out
unfolding solved_row
solved_kept c row out kept some h =
    let p = entry_kept row c kept in
    let by = λ (x y : Fraction) (k : IsKept x) (e : checked_quotient x (entry row c) ≡ Ok y). kept_quotient x (entry row c) y k p some e in
    let left = through (each (λ x. checked_quotient x (entry row c)) (take c row)) _ out h in
    let right = through (each (λ x. checked_quotient x (entry row c)) (drop (suc c) row)) _ out left.rest in
    let own = through (checked_quotient one_value (entry row c)) _ out right.rest in
    subst (All IsKept) (same_ok _ _ own.rest)
    (All-append IsKept left.value (own.value ∷ right.value) (each_kept IsKept IsKept (λ x. checked_quotient x (entry row c)) by (take c row) left.value (All-take IsKept c row kept) left.first)
    (All-cons IsKept own.value right.value (kept_quotient one_value (entry row c) own.value IsKept-one p some own.first) (each_kept IsKept IsKept (λ x. checked_quotient x (entry row c)) by (drop (suc c) row) right.value (All-drop IsKept (suc c) row kept) right.first)))

entries_kept : (place : ℕ) (f : Fraction) (solved entries out : List Fraction) → IsKept f → All IsKept solved → All IsKept entries → eliminated_entries place f solved entries ≡ Ok out → All IsKept out
unfolding eliminated_entries
entries_kept place f solved entries out kept p q h =
    let left = through (each_pair (less_product f) (take place entries) (take place solved)) _ out h in
    let right = through (each_pair (less_product f) (drop (suc place) entries) (drop (suc place) solved)) _ out left.rest in
    let own = through (checked_product f (entry solved place)) _ out right.rest in
    subst (All IsKept) (same_ok _ _ own.rest)
    (All-append IsKept left.value (negation own.value ∷ right.value) (pairs_kept f kept (take place entries) (take place solved) left.value (All-take IsKept place entries q) (All-take IsKept place solved p) left.first)
    (All-cons IsKept (negation own.value) right.value (IsKept-negation own.value (kept_product f (entry solved place) own.value kept (entry_kept solved place p) own.first))
    (pairs_kept f kept (drop (suc place) entries) (drop (suc place) solved) right.value (All-drop IsKept (suc place) entries q) (All-drop IsKept (suc place) solved p) right.first)))

basic_kept : (c : ℕ) (solved row out : List Fraction) → All IsKept solved → All IsKept row → eliminated_basic c solved row ≡ Ok out → All IsKept out
unfolding eliminated_basic
basic_kept c solved row out p q h =
    let f = entry_kept row c q in
    let constant = through (less_product (entry row c) (entry row 0) (entry solved 0)) _ out h in
    let entries = through (eliminated_entries (c - 1) (entry row c) (drop 1 solved) (drop 1 row)) _ out constant.rest in
    subst (All IsKept) (same_ok _ _ entries.rest)
    (All-cons IsKept constant.value entries.value (kept_less (entry row c) (entry row 0) (entry solved 0) constant.value f (entry_kept row 0 q) (entry_kept solved 0 p) constant.first)
    (entries_kept (c - 1) (entry row c) (drop 1 solved) (drop 1 row) entries.value f (All-drop IsKept 1 solved p) (All-drop IsKept 1 row q) entries.first))

objective_kept : (c : ℕ) (solved row out : List Fraction) → All IsKept solved → All IsKept row → eliminated_objective c solved row ≡ Ok out → All IsKept out
unfolding eliminated_objective
objective_kept c solved row out p q h =
    let f = entry_kept row c q in
    let constant = through (plus_product (entry row c) (entry row 0) (entry solved 0)) _ out h in
    let entries = through (eliminated_entries (c - 1) (entry row c) (drop 1 solved) (drop 1 row)) _ out constant.rest in
    subst (All IsKept) (same_ok _ _ entries.rest)
    (All-cons IsKept constant.value entries.value (kept_plus (entry row c) (entry row 0) (entry solved 0) constant.value f (entry_kept row 0 q) (entry_kept solved 0 p) constant.first)
    (entries_kept (c - 1) (entry row c) (drop 1 solved) (drop 1 row) entries.value f (All-drop IsKept 1 solved p) (All-drop IsKept 1 row q) entries.first))

-- ---- a pivot

rows_kept : (r c : ℕ) (rows made : List (List Fraction)) → All (All IsKept) rows → (entry (row_at rows r) c).num ≢ pos 0 → pivoted_rows r c rows ≡ Ok made → All (All IsKept) made
unfolding pivoted_rows
rows_kept r c rows made kept some h =
    let solved = through (solved_row c (row_at rows r)) _ made h in
    let above = through (each (eliminated_basic c solved.value) (take (r - 1) rows)) _ made solved.rest in
    let below = through (each (eliminated_basic c solved.value) (drop r rows)) _ made above.rest in
    let own = solved_kept c (row_at rows r) solved.value (row_kept rows r kept) some solved.first in
    let by = λ (row out : List Fraction) (k : All IsKept row) (e : eliminated_basic c solved.value row ≡ Ok out). basic_kept c solved.value row out own k e in
    subst (All (All IsKept)) (same_ok _ _ below.rest)
    (All-append (All IsKept) above.value (solved.value ∷ below.value) (each_kept (All IsKept) (All IsKept) (eliminated_basic c solved.value) by (take (r - 1) rows) above.value (All-take (All IsKept) (r - 1) rows kept) above.first)
    (All-cons (All IsKept) solved.value below.value own (each_kept (All IsKept) (All IsKept) (eliminated_basic c solved.value) by (drop r rows) below.value (All-drop (All IsKept) r rows kept) below.first)))

option_kept : (c : ℕ) (solved : List Fraction) → All IsKept solved → (o made : Option (List Fraction)) → IfSome o (All IsKept) → each_option (eliminated_objective c solved) o ≡ Ok made → IfSome made (All IsKept)
option_kept c solved p None made q h = subst (λ o. IfSome o (All IsKept)) (same_ok _ _ h) tt
option_kept c solved p (Some row) made q h =
    let first = through (eliminated_objective c solved row) _ made h in
    subst (λ o. IfSome o (All IsKept)) (same_ok _ _ first.rest) (objective_kept c solved row first.value p q first.first)

pivot_kept : (r c : ℕ) (d e : Dictionary) → HasKeptEntries d → (entry (row_at d.rows r) c).num ≢ pos 0 → pivot r c d ≡ Ok e → HasKeptEntries e
unfolding pivot
pivot_kept r c d e kept some h =
    let rows = through (pivoted_rows r c d.rows) _ e h in
    let objective = through (eliminated_objective c (row_at rows.value r) d.objective) _ e rows.rest in
    let auxiliary = through (each_option (eliminated_objective c (row_at rows.value r)) d.auxiliary) _ e objective.rest in
    let made = rows_kept r c d.rows rows.value kept.rows some rows.first in
    let own = row_kept rows.value r made in
    subst HasKeptEntries (same_ok _ _ auxiliary.rest) record {
      rows = made;
      objective = objective_kept c (row_at rows.value r) d.objective objective.value own kept.objective objective.first;
      auxiliary = option_kept c (row_at rows.value r) own d.auxiliary auxiliary.value kept.auxiliary auxiliary.first;
    }

-- ---- the end of phase one

removed_kept : (p : ℕ) (row : List Fraction) → All IsKept row → All IsKept (remove row p)
removed_kept p row kept = All-append IsKept (take p row) (drop (suc p) row) (All-take IsKept p row kept) (All-drop IsKept (suc p) row kept)

ended_kept : (d : Dictionary) → HasKeptEntries d → HasKeptEntries (end_phase_one d)
unfolding end_phase_one
ended_kept d kept = let c = artificial_column d in record {
  rows = All-map (All IsKept) (λ row. remove row c) d.rows (All-weaker (All IsKept) (λ row. All IsKept (remove row c)) (removed_kept c) d.rows kept.rows);
  objective = removed_kept c d.objective kept.objective;
  auxiliary = tt;
}

settled_kept : (d : Dictionary) → HasKeptEntries d → HasKeptEntries (settled d)
unfolding settled
settled_kept d kept = of_test _
  where
    of_test : (b : Bool) → HasKeptEntries (cond b (end_phase_one d) d)
    of_test true = ended_kept d kept
    of_test false = kept

-- ---- the opening and the path

without_kept : (s : Std) → HasKeptForm s → HasKeptEntries (without_artificial s)
unfolding without_artificial
without_kept s kept = record {
  rows = All-map (All IsKept) (λ row. row.rhs ∷ row.coefs) s.rows (λ k e within. All-cons IsKept _ _ (kept.sides k e within) (kept.coefs k e within));
  objective = All-cons IsKept s.constant s.obj kept.constant kept.obj;
  auxiliary = tt;
}

with_kept : (d : Dictionary) → HasKeptEntries d → HasKeptEntries (with_artificial d)
unfolding with_artificial
with_kept d kept =
    let last = λ (row : List Fraction) (a : Fraction) (h : All IsKept row) (k : IsKept a). All-append IsKept row (a ∷ []) h (All-cons IsKept a [] k (All-nil IsKept)) in
    let minus_one = IsKept-negation one_value IsKept-one in
    record {
      rows = All-map (All IsKept) (λ row. row ++ negation one_value ∷ []) d.rows (All-weaker (All IsKept) (λ row. All IsKept (row ++ negation one_value ∷ [])) (λ row h. last row (negation one_value) h minus_one) d.rows kept.rows);
      objective = last d.objective zero_value kept.objective IsKept-zero;
      auxiliary = last (replicate (length d.objective) zero_value) (negation one_value) (All-replicate IsKept (length d.objective) zero_value IsKept-zero) minus_one;
    }

opening_kept : (s : Std) → HasKeptForm s → HasKeptEntries (opening s)
unfolding opening
opening_kept s kept = of_test (needs_phase_one s)
  where
    of_test : (b : Bool) → HasKeptEntries (cond b (with_artificial (without_artificial s)) (without_artificial s))
    of_test true = with_kept (without_artificial s) (without_kept s kept)
    of_test false = without_kept s kept

-- one pivot by the rule
ruled_kept : (s : Std) (d f : Dictionary) → Reached s d → HasFeasibleConstants d → HasKeptEntries d → LeadsTo d f → HasKeptEntries f
ruled_kept s d f reached constants kept leads =
    let lawful = reached.relaxes.lawful in
    let comes = comes_by_rule d leads.entering (awaits_none d constants) leads.comes in
    let by = made_by_rule comes.column d f lawful comes.enters comes.bounded (subst (λ entering. next entering d ≡ Ok f) comes.is_column leads.gives) in
    let p = feasible.by_rule by.row comes.column d by.pivoted lawful by.rule in
    subst HasKeptEntries by.is_settled (settled_kept by.pivoted (pivot_kept by.row comes.column d by.pivoted kept p.not_zero p.is_pivot))

first_kept : (s : Std) (f : Dictionary) → IsUniform s → HasReducedNumbers s → needs_phase_one s ≡ true → HasKeptEntries (opening s) → next artificial (opening s) ≡ Ok f → HasKeptEntries f
unfolding next
first_kept s f uniform low needed kept h =
    let d = opening s in
    let made = through (pivoted artificial d) _ f h in
    let found = least_opening s needed in
    let is_pivot : pivot found.0 (artificial_column d) d ≡ Ok made.value = subst (λ o. pivot (unwrap_or o 0) (artificial_column d) d ≡ Ok made.value) found.1 made.first in
    let p = opening_pivots s found.0 made.value uniform low needed found.1 is_pivot in
    subst HasKeptEntries (same_ok _ _ made.rest) (settled_kept made.value (pivot_kept found.0 (artificial_column d) d made.value kept p.not_zero is_pivot))

leads_fit : (s : Std) (d f : Dictionary) → IsUniform s → HasReducedNumbers s → Reached s d → HasKeptEntries d → LeadsTo d f → HasKeptEntries f
leads_fit s d f uniform low reached kept leads = by_phase reached.phase
  where
    by_phase : Phase s d → HasKeptEntries f
    by_phase (at_opening needed is) =
        let enters = comes_artificial d leads.entering (ap awaits_artificial is ∙ awaits_opening s needed) leads.comes in
        first_kept s f uniform low needed (subst HasKeptEntries is kept) (subst (λ e. next artificial e ≡ Ok f) is (subst (λ entering. next entering d ≡ Ok f) enters leads.gives))
    by_phase (in_phase_one w h) = ruled_kept s d f reached h.constants kept leads
    by_phase (in_phase_two h) = ruled_kept s d f reached h.constants kept leads

record ReachedKept (s : Std) (d : Dictionary) : Type 0 where
  reached : Reached s d
  kept : HasKeptEntries d

both_kept : (s : Std) (d : Dictionary) (n : ℕ) (e : Dictionary) → IsUniform s → HasReducedNumbers s → ReachedKept s d → Path d n e → ReachedKept s e
both_kept s d zero e uniform low h here = h
both_kept s d (suc n) f uniform low h (further {e = e} path leads) =
    let before = both_kept s d n e uniform low h path in
    record { reached = leads_kept s e f uniform low before.reached leads; kept = leads_fit s e f uniform low before.reached before.kept leads }

pub path_fits : (s : Std) (n : ℕ) (d : Dictionary) → IsUniform s → HasReducedNumbers s → HasKeptForm s → Path (opening s) n d → HasKeptEntries d
path_fits s n d uniform low kept path = let h = both_kept s (opening s) n d uniform low record { reached = opening_reached s uniform low; kept = opening_kept s kept } path in h.kept

-- ---- weights

weight_kept : (d : Dictionary) (line : List Fraction) → All IsKept line → (u : ℕ) → IsKept (weight_of d line u)
weight_kept d line kept u = of_option (column_of d u)
  where
    of_option : (o : Option ℕ) → IsKept (weight_in line o)
    of_option None = IsKept-zero
    of_option (Some p) = IsKept-negation (entry line (suc p)) (entry_kept line (suc p) kept)

weights_kept : (d : Dictionary) (line : List Fraction) → All IsKept line → All IsKept (duals d line).ys
weights_kept d line kept = All-map IsKept (weight_of d line) _ (λ k e within. weight_kept d line kept _)

pub dual_fits : (d : Dictionary) → HasKeptEntries d → All IsKept (dual_of d).ys
unfolding dual_of
dual_fits d kept = weights_kept d d.objective kept.objective

pub farkas_fits : (d : Dictionary) (w : List Fraction) → d.auxiliary ≡ Some w → HasKeptEntries d → All IsKept (farkas_of d).ys
unfolding farkas_of
farkas_fits d w is_w kept = subst (λ o. All IsKept (duals d (unwrap_or o [])).ys) (sym is_w) (weights_kept d w (subst (λ o. IfSome o (All IsKept)) is_w kept.auxiliary))

-- What can be kept is in lowest terms.
pub kept_is_lowest : (s : Std) → HasKeptForm s → HasReducedNumbers s
kept_is_lowest s kept = record {
  coefs = λ k e within i d inside. let own = kept.coefs k e within i d inside in own.nothing_in_common;
  sides = λ k e within. let own = kept.sides k e within in own.nothing_in_common;
  obj = λ k e within. let own = kept.obj k e within in own.nothing_in_common;
  constant = let own = kept.constant in own.nothing_in_common;
}
