-- What the steps of a pivot make of rows, where each operation fits: the exact results.
use Rattle.std.proofs.Common.{◌≡◌, ◌∙◌, sym, ap, ap₂, subst, ℕ, suc, ◌-◌, ◌<◌, List, [], ◌∷◌, ◌++◌, length, length-take-le, map, take, drop, slice_index, slice_index_or, slice_set, Option, Some, None, option_map, Result, Ok, arith}
use Rattle.std.proofs.lemmas.List.{get_or_at, length-map}
use Rattle.frac128.specs.Checked.{checked_product, checked_quotient, less_product, plus_product}
use Rattle.frac128.proofs.Chains.{fitting, less_product_is, plus_product_is, same_ok, through}
use Rattle.frac128.specs.Fits.{product_fits, quotient_fits}
use Rattle.frac128.specs.Fraction.{Fraction, exact_quotient, inverse, negation, one_value}
use Rattle.frac128.specs.declared.operations.Op.TheVariants.{Div, Mul}
use Rattle.frac128.specs.declared.operations.Wide.{Wide}
use Rattle.dictionary.specs.Dictionary.{Dictionary, each, each_option, each_pair, eliminated_basic, eliminated_entries, eliminated_objective, entry, pivot, pivoted_rows, row_at, solved_row}
use Rattle.dictionary.proofs.Points.Sums.{less_products}
use Rattle.frac128.proofs.Sums.{minus, minus_is, ◌⊕◌, ◌⊗◌}

-- ---- chains that end well

pub same_some : {A : Type 0} {a b : A} → Some a ≡ Some b → a ≡ b
same_some e = cc

pub exact_each : {A B E : Type 0} (f : A → Result B E) (g : A → B) → ((x : A) (y : B) → f x ≡ Ok y → y ≡ g x) → (xs : List A) (ys : List B) → each f xs ≡ Ok ys → ys ≡ map g xs
exact_each f g exact [] ys h = cc
exact_each f g exact (x ∷ xs) ys h =
    let first = through (f x) _ ys h in
    let others = through (each f xs) _ ys first.rest in
    let here = exact x first.value first.first in
    let rest = exact_each f g exact xs others.value others.first in
    let whole = others.rest in
    cc

exact_less : (f x y z : Fraction) → less_product f x y ≡ Ok z → z ≡ x ⊕ minus (f ⊗ y)
exact_less f x y z h = less_product_is f x y z h ∙ ap (λ p. x ⊕ p) (sym (minus_is (f ⊗ y)))

pub exact_each_pair : (f : Fraction) (xs ys zs : List Fraction) → each_pair (less_product f) xs ys ≡ Ok zs → zs ≡ less_products f xs ys
exact_each_pair f [] ys zs h = cc
exact_each_pair f (x ∷ xs) [] zs h = cc
exact_each_pair f (x ∷ xs) (y ∷ ys) zs h =
    let first = through (less_product f x y) _ zs h in
    let others = through (each_pair (less_product f) xs ys) _ zs first.rest in
    let here = exact_less f x y first.value first.first in
    let rest = exact_each_pair f xs ys others.value others.first in
    let whole = others.rest in
    cc

-- ---- rows

-- the entries from column 1 on where a row is solved at a place, and q is one over the entry there
abbrev pub solved_entries : ℕ → Fraction → List Fraction → List Fraction
solved_entries j q entries = map (λ a. a ⊗ q) (take j entries) ++ one_value ⊗ q ∷ map (λ a. a ⊗ q) (drop (suc j) entries)

-- those of another row, with f at the place
abbrev pub other_entries : ℕ → Fraction → List Fraction → List Fraction → List Fraction
other_entries j f solved entries =
    less_products f (take j entries) (take j solved) ++ minus (f ⊗ entry solved j) ∷ less_products f (drop (suc j) entries) (drop (suc j) solved)

pub exact_solved : (j : ℕ) (k : Fraction) (entries solved : List Fraction) → solved_row (suc j) (k ∷ entries) ≡ Ok solved
    → solved ≡ k ⊗ inverse (entry entries j) ∷ solved_entries j (inverse (entry entries j)) entries
unfolding solved_row
exact_solved j k entries solved h =
    let p = entry entries j in
    let quotient = λ (a b : Fraction) (e : checked_quotient a p ≡ Ok b). fitting (quotient_fits a p) (exact_quotient a p) Div a p b e in
    let left = through (each (λ a. checked_quotient a p) (k ∷ take j entries)) _ solved h in
    let right = through (each (λ a. checked_quotient a p) (drop (suc j) entries)) _ solved left.rest in
    let own = through (checked_quotient one_value p) _ solved right.rest in
    let is_left = exact_each (λ a. checked_quotient a p) (λ a. a ⊗ inverse p) quotient (k ∷ take j entries) left.value left.first in
    let is_right = exact_each (λ a. checked_quotient a p) (λ a. a ⊗ inverse p) quotient (drop (suc j) entries) right.value right.first in
    let is_own = quotient one_value own.value own.first in
    let whole : left.value ++ own.value ∷ right.value ≡ solved = same_ok _ _ own.rest in
    sym whole ∙ ap₂ (λ l r. l ++ r) is_left (ap₂ (λ o r. o ∷ r) is_own is_right)

exact_entries : (j : ℕ) (f : Fraction) (solved entries out : List Fraction) → eliminated_entries j f solved entries ≡ Ok out → out ≡ other_entries j f solved entries
unfolding eliminated_entries
exact_entries j f solved entries out h =
    let left = through (each_pair (less_product f) (take j entries) (take j solved)) _ out h in
    let right = through (each_pair (less_product f) (drop (suc j) entries) (drop (suc j) solved)) _ out left.rest in
    let own = through (checked_product f (entry solved j)) _ out right.rest in
    let is_left = exact_each_pair f (take j entries) (take j solved) left.value left.first in
    let is_right = exact_each_pair f (drop (suc j) entries) (drop (suc j) solved) right.value right.first in
    let is_own = fitting (product_fits f (entry solved j)) (f ⊗ entry solved j) Mul f (entry solved j) own.value own.first in
    let whole : left.value ++ negation own.value ∷ right.value ≡ out = same_ok _ _ own.rest in
    sym whole ∙ ap₂ (λ l r. l ++ r) is_left (ap₂ (λ o r. o ∷ r) (sym (minus_is own.value) ∙ ap minus is_own) is_right)

-- ---- rows without a column

-- a basic variable's row, and an objective, where the other row is solved for the variable at a place
abbrev pub other_row : ℕ → List Fraction → List Fraction → List Fraction
other_row j solved row = (entry row 0 ⊕ minus (entry row (suc j) ⊗ entry solved 0)) ∷ other_entries j (entry row (suc j)) (drop 1 solved) (drop 1 row)

abbrev pub other_objective : ℕ → List Fraction → List Fraction → List Fraction
other_objective j solved row = (entry row 0 ⊕ entry row (suc j) ⊗ entry solved 0) ∷ other_entries j (entry row (suc j)) (drop 1 solved) (drop 1 row)

pub less_one : (j : ℕ) → suc j - 1 ≡ j
less_one j = omega arith

pub exact_basic : (j : ℕ) (solved row out : List Fraction) → eliminated_basic (suc j) solved row ≡ Ok out → out ≡ other_row j solved row
unfolding eliminated_basic
exact_basic j solved row out h =
    let f = entry row (suc j) in
    let constant = through (less_product f (entry row 0) (entry solved 0)) _ out h in
    let entries = through (eliminated_entries (suc j - 1) f (drop 1 solved) (drop 1 row)) _ out constant.rest in
    let is_constant = exact_less f (entry row 0) (entry solved 0) constant.value constant.first in
    let is_entries = exact_entries j f (drop 1 solved) (drop 1 row) entries.value (subst (λ place. eliminated_entries place f (drop 1 solved) (drop 1 row) ≡ Ok entries.value) (less_one j) entries.first) in
    let whole = entries.rest in
    cc

pub exact_objective : (j : ℕ) (solved row out : List Fraction) → eliminated_objective (suc j) solved row ≡ Ok out → out ≡ other_objective j solved row
unfolding eliminated_objective
exact_objective j solved row out h =
    let f = entry row (suc j) in
    let constant = through (plus_product f (entry row 0) (entry solved 0)) _ out h in
    let entries = through (eliminated_entries (suc j - 1) f (drop 1 solved) (drop 1 row)) _ out constant.rest in
    let is_constant = plus_product_is f (entry row 0) (entry solved 0) constant.value constant.first in
    let is_entries = exact_entries j f (drop 1 solved) (drop 1 row) entries.value (subst (λ place. eliminated_entries place f (drop 1 solved) (drop 1 row) ≡ Ok entries.value) (less_one j) entries.first) in
    let whole = entries.rest in
    cc

-- ---- dictionaries

-- d after a pivot on the row and the column of these places, from 0 on, with the row that is solved
abbrev pub turned_rows : ℕ → ℕ → List Fraction → List (List Fraction) → List (List Fraction)
turned_rows i j solved rows = map (other_row j solved) (take i rows) ++ solved ∷ map (other_row j solved) (drop (suc i) rows)

abbrev pub turned : ℕ → ℕ → List Fraction → Dictionary → Dictionary
turned i j solved d = record {
  basic = slice_set d.basic i (slice_index d.nonbasic j);
  nonbasic = slice_set d.nonbasic j (slice_index d.basic i);
  rows = turned_rows i j solved d.rows;
  objective = other_objective j solved d.objective;
  auxiliary = option_map (other_objective j solved) d.auxiliary;
}

pub record Made (i j : ℕ) (d e : Dictionary) : Type 0 where
  pub solved : List Fraction
  pub is_solved : solved_row (suc j) (slice_index_or d.rows i []) ≡ Ok solved
  pub is_made : e ≡ turned i j solved d

exact_option : (f : List Fraction → Result (List Fraction) Wide) (g : List Fraction → List Fraction) → ((x y : List Fraction) → f x ≡ Ok y → y ≡ g x) → (o p : Option (List Fraction)) → each_option f o ≡ Ok p → p ≡ option_map g o
exact_option f g exact None p h = cc
exact_option f g exact (Some x) p h =
    let made = through (f x) _ p h in
    let here = exact x made.value made.first in
    let whole = made.rest in
    cc

-- rows that are made in place of others
pub record MadeRows (i j : ℕ) (rows made : List (List Fraction)) : Type 0 where
  pub solved : List Fraction
  pub is_solved : solved_row (suc j) (slice_index_or rows i []) ≡ Ok solved
  pub is_made : made ≡ turned_rows i j solved rows

exact_rows : (i j : ℕ) (rows made : List (List Fraction)) → pivoted_rows (suc i) (suc j) rows ≡ Ok made → MadeRows i j rows made
unfolding pivoted_rows
exact_rows i j rows made h =
    let solved = through (solved_row (suc j) (row_at rows (suc i))) _ made h in
    let above = through (each (eliminated_basic (suc j) solved.value) (take (suc i - 1) rows)) _ made solved.rest in
    let below = through (each (eliminated_basic (suc j) solved.value) (drop (suc i) rows)) _ made above.rest in
    let is_above = exact_each (eliminated_basic (suc j) solved.value) (other_row j solved.value) (exact_basic j solved.value) (take (suc i - 1) rows) above.value above.first in
    let is_below = exact_each (eliminated_basic (suc j) solved.value) (other_row j solved.value) (exact_basic j solved.value) (drop (suc i) rows) below.value below.first in
    let whole = below.rest in
    record {
      solved = solved.value;
      is_solved = subst (λ place. solved_row (suc j) (slice_index_or rows place []) ≡ Ok solved.value) (less_one i) solved.first;
      is_made = subst (λ place. made ≡ map (other_row j solved.value) (take place rows) ++ solved.value ∷ map (other_row j solved.value) (drop (suc i) rows)) (less_one i) (cc whole);
    }

same_parts : {basic basic' nonbasic nonbasic' : List ℕ} {rows rows' : List (List Fraction)} {objective objective' : List Fraction} {auxiliary auxiliary' : Option (List Fraction)}
    → basic ≡ basic' → nonbasic ≡ nonbasic' → rows ≡ rows' → objective ≡ objective' → auxiliary ≡ auxiliary'
    → ◌≡◌ {A = Dictionary} record { basic = basic; nonbasic = nonbasic; rows = rows; objective = objective; auxiliary = auxiliary } record { basic = basic'; nonbasic = nonbasic'; rows = rows'; objective = objective'; auxiliary = auxiliary' }
same_parts p q r s t = λ i. record { basic = p i; nonbasic = q i; rows = r i; objective = s i; auxiliary = t i }

pub exact_pivot : (i j : ℕ) (d e : Dictionary) → length d.rows ≡ length d.basic → i < length d.basic → pivot (suc i) (suc j) d ≡ Ok e → Made i j d e
unfolding pivot
exact_pivot i j d e same within h =
    let rows = through (pivoted_rows (suc i) (suc j) d.rows) _ e h in
    let made = exact_rows i j d.rows rows.value rows.first in
    let objective = through (eliminated_objective (suc j) (row_at rows.value (suc i)) d.objective) _ e rows.rest in
    let auxiliary = through (each_option (eliminated_objective (suc j) (row_at rows.value (suc i))) d.auxiliary) _ e objective.rest in
    let here : row_at rows.value (suc i) ≡ made.solved =
    ap (λ place. slice_index_or rows.value place []) (less_one i) ∙ ap (λ list. slice_index_or list i []) made.is_made
    ∙ get_or_at (map (other_row j made.solved) (take i d.rows)) made.solved (map (other_row j made.solved) (drop (suc i) d.rows)) [] i (length-map (take i d.rows) (other_row j made.solved) ∙ length-take-le i d.rows (omega arith)) in
    let is_objective = exact_objective j (row_at rows.value (suc i)) d.objective objective.value objective.first in
    let is_auxiliary = exact_option (eliminated_objective (suc j) (row_at rows.value (suc i))) (other_objective j (row_at rows.value (suc i))) (exact_objective j (row_at rows.value (suc i))) d.auxiliary auxiliary.value auxiliary.first in
    let whole = same_ok _ _ auxiliary.rest in
    record {
      solved = made.solved;
      is_solved = made.is_solved;
      is_made = sym whole ∙ same_parts
          (ap₂ (λ p q. slice_set d.basic p (slice_index d.nonbasic q)) (less_one i) (less_one j))
          (ap₂ (λ p q. slice_set d.nonbasic q (slice_index d.basic p)) (less_one i) (less_one j))
          made.is_made
          (is_objective ∙ ap (λ s. other_objective j s d.objective) here)
          (is_auxiliary ∙ ap (λ s. option_map (other_objective j s) d.auxiliary) here);
    }
