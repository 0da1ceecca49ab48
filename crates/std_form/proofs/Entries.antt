-- Coefficients of variables as those of the columns.
use Rattle.std.proofs.Common.{◌≡◌, ◌∙◌, refl, sym, ap, ap₂, ℕ, zero, suc, ◌+◌, ◌-◌, ◌<◌, ◌≤◌, List, [], ◌∷◌, ◌++◌, length, map, take, replicate, get_or, slice_set, append-nil, append_assoc, length-append, length-take-le, arith}
use Rattle.std.proofs.lemmas.List.{length-map, length-replicate, map-append, map_more, replicate-append-replicate, set-append_right, set_at, take_all}
use Rattle.frac128.specs.Fraction.{Fraction, negation, zero_value}
use Rattle.model_data.specs.declared.model.Direction.{Direction}
use Rattle.model_data.specs.declared.model.Direction.TheVariants.{Maximize, Minimize}
use Rattle.model_data.specs.declared.model.Var.{Var}
use Rattle.solve_defs.specs.StandardForm as defs
use Rattle.solve_defs.specs.Values.{turned}
use Rattle.std_form.specs.Shapes.{with_entries}
use Rattle.solve_defs.proofs.FormSizes.{column_count-cons}

length-entries_of : (shape : defs.Shape) (x : Fraction) → length (defs.entries_of shape x) ≡ defs.width shape
length-entries_of (defs.shifted lower upper) x = refl
length-entries_of (defs.mirrored upper) x = refl
length-entries_of defs.free x = refl

-- ---- where all are 0

entries_of-zero : (shape : defs.Shape) → defs.entries_of shape zero_value ≡ replicate (defs.width shape) zero_value
entries_of-zero (defs.shifted lower upper) = refl
entries_of-zero (defs.mirrored upper) = refl
entries_of-zero defs.free = refl

pub entries-zeros : (shapes : List defs.Shape) → defs.entries shapes (replicate (length shapes) zero_value) ≡ replicate (defs.column_count shapes) zero_value
entries-zeros [] = refl
entries-zeros (shape ∷ shapes) =
    ap₂ (λ (xs : List Fraction) (ys : List Fraction). xs ++ ys) (entries_of-zero shape) (entries-zeros shapes)
    ∙ replicate-append-replicate (defs.width shape) (defs.column_count shapes) zero_value
    ∙ ap (λ n. replicate n zero_value) (sym (column_count-cons shape shapes))

-- ---- one of them

set_behind : (front coefs : List Fraction) (n i : ℕ) (x : Fraction) → length front ≡ n → slice_set (front ++ coefs) (n + i) x ≡ front ++ slice_set coefs i x
set_behind front coefs n i x size =
    set-append_right front coefs n (n + i) x size (omega arith) ∙ ap (λ k. front ++ slice_set coefs k x) (omega arith)

set_behind-suc : (front coefs : List Fraction) (n i : ℕ) (x : Fraction) → length front ≡ n
    → slice_set (front ++ coefs) (suc (n + i)) x ≡ front ++ slice_set coefs (suc i) x
set_behind-suc front coefs n i x size =
    set-append_right front coefs n (suc (n + i)) x size (omega arith) ∙ ap (λ k. front ++ slice_set coefs k x) (omega arith)

with_entries-behind : (shape : defs.Shape) (front coefs : List Fraction) (n column : ℕ) (x : Fraction) → length front ≡ n
    → with_entries (n + column) shape x (front ++ coefs) ≡ front ++ with_entries column shape x coefs
with_entries-behind (defs.shifted lower upper) front coefs n column x size = set_behind front coefs n column x size
with_entries-behind (defs.mirrored upper) front coefs n column x size = set_behind front coefs n column (negation x) size
with_entries-behind defs.free front coefs n column x size =
    ap (λ (ys : List Fraction). slice_set ys (suc (n + column)) (negation x)) (set_behind front coefs n column x size)
    ∙ set_behind-suc front (slice_set coefs column x) n column (negation x) size

with_entries-first : (shape : defs.Shape) (x y : Fraction) (coefs : List Fraction)
    → defs.entries_of shape x ++ coefs ≡ with_entries 0 shape x (defs.entries_of shape y ++ coefs)
with_entries-first (defs.shifted lower upper) x y coefs = refl
with_entries-first (defs.mirrored upper) x y coefs = refl
with_entries-first defs.free x y coefs = refl

pub entries-set : (shapes : List defs.Shape) (xs : List Fraction) (place : ℕ) (x : Fraction) (d : defs.Shape) → length xs ≡ length shapes
    → place < length shapes
    → defs.entries shapes (slice_set xs place x) ≡ with_entries (defs.column_count (take place shapes)) (get_or shapes place d) x (defs.entries shapes xs)
entries-set [] xs place x d sizes within = absurd (omega (arith, within))
entries-set (shape ∷ shapes) [] place x d sizes within = absurd (omega (arith, sizes))
entries-set (shape ∷ shapes) (y ∷ xs) zero x d sizes within = with_entries-first shape x y (defs.entries shapes xs)
entries-set (shape ∷ shapes) (y ∷ xs) (suc place) x d sizes within =
    let column = defs.column_count (take place shapes) in
    ap (λ (ys : List Fraction). defs.entries_of shape y ++ ys) (entries-set shapes xs place x d (omega (arith, sizes)) (omega (arith, within)))
    ∙ sym (with_entries-behind (get_or shapes place d) (defs.entries_of shape y) (defs.entries shapes xs) (defs.width shape) column x (length-entries_of shape y))
    ∙ ap (λ n. with_entries n (get_or shapes place d) x (defs.entries_of shape y ++ defs.entries shapes xs)) (sym (column_count-cons shape (take place shapes)))

-- ---- the objective's

turned_negation : (direction : Direction) (x : Fraction) → turned direction (negation x) ≡ negation (turned direction x)
turned_negation Minimize x = refl
turned_negation Maximize x = refl

turned-entries_of : (direction : Direction) (shape : defs.Shape) (x : Fraction)
    → map (turned direction) (defs.entries_of shape x) ≡ defs.entries_of shape (turned direction x)
turned-entries_of direction (defs.shifted lower upper) x = refl
turned-entries_of direction (defs.mirrored upper) x = ap (λ y. y ∷ []) (turned_negation direction x)
turned-entries_of direction defs.free x = ap (λ y. turned direction x ∷ y ∷ []) (turned_negation direction x)

turned-entries : (direction : Direction) (shapes : List defs.Shape) (xs : List Fraction)
    → map (turned direction) (defs.entries shapes xs) ≡ defs.entries shapes (map (turned direction) xs)
turned-entries direction [] xs = refl
turned-entries direction (shape ∷ shapes) [] = refl
turned-entries direction (shape ∷ shapes) (x ∷ xs) =
    map-append (turned direction) (defs.entries_of shape x) (defs.entries shapes xs)
    ∙ ap₂ (λ (ys : List Fraction) (zs : List Fraction). ys ++ zs) (turned-entries_of direction shape x) (turned-entries direction shapes xs)

map-both : {A B C : Type 0} (f : B → C) (g : A → B) (xs : List A) → map f (map g xs) ≡ map (λ x. f (g x)) xs
map-both f g [] = refl
map-both f g (x ∷ xs) = ap (λ ys. f (g x) ∷ ys) (map-both f g xs)

-- the coefficients of so many variables, and 0 for the others
abbrev pub filled : Direction → List Var → ℕ → ℕ → List Fraction
filled direction vars place count = map (λ v. turned direction v.obj) (take place vars) ++ replicate (count - place) zero_value

pub length-filled : (direction : Direction) (vars : List Var) (place count : ℕ) → length vars ≡ count → place ≤ length vars
    → length (filled direction vars place count) ≡ count
length-filled direction vars place count sizes within =
    let both = length-append (map (λ (v : Var). turned direction v.obj) (take place vars)) (replicate (count - place) zero_value) in
    let front : length (map (λ (v : Var). turned direction v.obj) (take place vars)) ≡ place =
    length-map (take place vars) (λ (v : Var). turned direction v.obj) ∙ length-take-le place vars within in
    let rest = length-replicate (count - place) zero_value in
    omega (arith, both, front, rest, sizes, within)

pub filled-step : (direction : Direction) (vars : List Var) (place count : ℕ) (d : Var) → length vars ≡ count → place < length vars
    → slice_set (filled direction vars place count) place (turned direction (get_or vars place d).obj) ≡ filled direction vars (place + 1) count
filled-step direction vars place count d sizes within =
    let front = map (λ (v : Var). turned direction v.obj) (take place vars) in
    let size : length front ≡ place = length-map (take place vars) (λ (v : Var). turned direction v.obj) ∙ length-take-le place vars (omega (arith, within)) in
    let left : count - place ≡ suc (count - (place + 1)) = omega (arith, sizes, within) in
    ap (λ n. slice_set (front ++ replicate n zero_value) place (turned direction (get_or vars place d).obj)) left
    ∙ set_at front zero_value (replicate (count - (place + 1)) zero_value) (turned direction (get_or vars place d).obj) place size
    ∙ sym (append_assoc front (turned direction (get_or vars place d).obj ∷ []) (replicate (count - (place + 1)) zero_value))
    ∙ ap (λ (xs : List Fraction). xs ++ replicate (count - (place + 1)) zero_value) (sym (map_more (λ (v : Var). turned direction v.obj) vars place d within))

pub filled-end : (direction : Direction) (shapes : List defs.Shape) (vars : List Var) (place count : ℕ) → length vars ≡ count → length vars ≤ place
    → place ≤ length vars
    → defs.entries shapes (filled direction vars place count) ≡ map (turned direction) (defs.entries shapes (map (λ v. v.obj) vars))
filled-end direction shapes vars place count sizes end within =
    let none : count - place ≡ 0 = omega (arith, sizes, end, within) in
    ap₂ (λ (vs : List Var) (n : ℕ). defs.entries shapes (map (λ (v : Var). turned direction v.obj) vs ++ replicate n zero_value)) (take_all place vars end) none
    ∙ ap (defs.entries shapes) (append-nil (map (λ (v : Var). turned direction v.obj) vars) ∙ sym (map-both (turned direction) (λ (v : Var). v.obj) vars))
    ∙ sym (turned-entries direction shapes (map (λ v. v.obj) vars))
