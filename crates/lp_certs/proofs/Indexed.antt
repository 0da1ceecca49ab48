-- A pass that writes values by index, the last place first, ends at what the first place of each index has.
use Rattle.std.proofs.Common.{◌≡◌, ◌≢◌, ◌∙◌, refl, sym, ap, ap₂, ℕ, zero, suc, ◌+◌, ◌-◌, ◌<◌, ◌≤◌, ◌==◌, Bool, true, false, cond, List, [], ◌∷◌, ◌++◌, length, map, drop, take, replicate, position, slice_index, slice_set, Option, Some, None, arith, eq-eqb, ne_eqb}
use Rattle.std.specs.List.{position_from}
use Rattle.std.proofs.lemmas.Iterator.Adapters.{position_from-zero}
use Rattle.std.proofs.lemmas.List.{drop_more}
use Rattle.frac128.specs.Fraction.{Fraction, negation, zero_value}
use Rattle.dictionary.specs.Dictionary.{Dictionary, entry, numbers_from, row_at}
use Rattle.solve_defs.specs.Ends.{basic_row, column_of, weight_in, weight_of}
use Rattle.lp_certs.specs.ByIndex.{entry_in, replaced}

pub map_same : {A B : Type 0} (f g : A → B) → ((x : A) → f x ≡ g x) → (xs : List A) → map f xs ≡ map g xs
map_same f g same [] = refl
map_same f g same (x ∷ xs) = ap₂ (λ y ys. y ∷ ys) (same x) (map_same f g same xs)

-- ---- one value is written

-- where the variable has none of these numbers
unaffected : (f : ℕ → Fraction) (u : ℕ) (x : Fraction) (first count : ℕ) → ((k : ℕ) → k < count → u ≢ first + k)
    → map f (numbers_from first count) ≡ map (replaced u x f) (numbers_from first count)
unaffected f u x first zero others = refl
unaffected f u x first (suc count) others =
    let none : first + 0 ≡ first = omega arith in
    let here : u ≢ first = λ e. others 0 (omega arith) (e ∙ sym none) in
    ap₂ (λ (y : Fraction) (ys : List Fraction). y ∷ ys) (ap (λ b. cond b x (f first)) (sym (ne_eqb u first here)))
    (unaffected f u x (suc first) count (λ k h e. others (suc k) (omega (arith, h)) (omega (arith, e))))

written : (f : ℕ → Fraction) (u : ℕ) (x : Fraction) (first count i : ℕ) → u ≡ first + i → i < count
    → slice_set (map f (numbers_from first count)) i x ≡ map (replaced u x f) (numbers_from first count)
written f u x first zero i is within = absurd (omega (arith, within))
written f u x first (suc count) zero is within =
    let here : u ≡ first = omega (arith, is) in
    ap₂ (λ (y : Fraction) (ys : List Fraction). y ∷ ys) (ap (λ b. cond b x (f first)) (sym (eq-eqb u first here)))
    (unaffected f u x (suc first) count (λ k h e. absurd (omega (arith, e, here))))
written f u x first (suc count) (suc i) is within =
    let other : u ≢ first = λ e. absurd (omega (arith, is, e)) in
    ap₂ (λ (y : Fraction) (ys : List Fraction). y ∷ ys) (ap (λ b. cond b x (f first)) (sym (ne_eqb u first other)))
    (written f u x (suc first) count i (omega (arith, is)) (omega (arith, within)))

length-numbered : (f : ℕ → Fraction) (first count : ℕ) → length (map f (numbers_from first count)) ≡ count
length-numbered f first zero = refl
length-numbered f first (suc count) = ap suc (length-numbered f (suc first) count)

pub put_in : (values : List Fraction) (u : ℕ) (x : Fraction) → u ≢ 0 → u ≤ length values
    → (count : ℕ) (f : ℕ → Fraction) → values ≡ map f (numbers_from 1 count) → slice_set values (u - 1) x ≡ map (replaced u x f) (numbers_from 1 count)
put_in values u x above within count f are =
    let size = ap length are ∙ length-numbered f 1 count in
    ap (λ ys. slice_set ys (u - 1) x) are ∙ written f u x 1 count (u - 1) (omega (arith, above)) (omega (arith, above, within, size))

pub put_at_none : (values : List Fraction) (x : Fraction)
    → (count : ℕ) (f : ℕ → Fraction) → values ≡ map f (numbers_from 1 count) → values ≡ map (replaced 0 x f) (numbers_from 1 count)
put_at_none values x count f are = are ∙ unaffected f 0 x 1 count (λ k h e. absurd (omega (arith, e)))

pub put_past : (values : List Fraction) (u : ℕ) (x : Fraction) → length values < u
    → (count : ℕ) (f : ℕ → Fraction) → values ≡ map f (numbers_from 1 count) → values ≡ map (replaced u x f) (numbers_from 1 count)
put_past values u x past count f are =
    let size = ap length are ∙ length-numbered f 1 count in
    are ∙ unaffected f u x 1 count (λ k h e. absurd (omega (arith, e, h, past, size)))

-- ---- the pass

-- the value of the first place from k on that has the variable v, where there is one
abbrev pub value_by : (ℕ → Fraction) → List ℕ → ℕ → ℕ → Fraction
value_by g [] k v = zero_value
value_by g (u ∷ us) k v = cond (u == v) (g k) (value_by g us (k + 1) v)

abbrev pub value_from : (ℕ → Fraction) → List ℕ → ℕ → ℕ → Fraction
value_from g us k v = value_by g (drop k us) k v

zeros : (first count : ℕ) → replicate count zero_value ≡ map (λ v. zero_value) (numbers_from first count)
zeros first zero = refl
zeros first (suc count) = ap (λ xs. zero_value ∷ xs) (zeros (suc first) count)

drop_all : {A : Type 0} (xs : List A) (n : ℕ) → n ≡ length xs → drop n xs ≡ []
drop_all [] zero is = refl
drop_all [] (suc n) is = refl
drop_all (x ∷ xs) zero is = absurd (omega (arith, is))
drop_all (x ∷ xs) (suc n) is = drop_all xs n (omega (arith, is))

pub pass_begun : (g : ℕ → Fraction) (us : List ℕ) (count : ℕ) → replicate count zero_value ≡ map (value_from g us (length us - 0)) (numbers_from 1 count)
pass_begun g us count =
    let all : length us - 0 ≡ length us = omega arith in
    zeros 1 count ∙ ap (λ ds. map (value_by g ds (length us - 0)) (numbers_from 1 count)) (sym (drop_all us (length us - 0) all))

pub pass_on : (g : ℕ → Fraction) (us : List ℕ) (count place : ℕ) (u : ℕ) (x : Fraction) (old new : List Fraction) → place < length us
    → u ≡ slice_index us (length us - place - 1) → x ≡ g (length us - place - 1)
    → old ≡ map (value_from g us (length us - place)) (numbers_from 1 count)
    → ((count : ℕ) (f : ℕ → Fraction) → old ≡ map f (numbers_from 1 count) → new ≡ map (replaced u x f) (numbers_from 1 count))
    → new ≡ map (value_from g us (length us - (place + 1))) (numbers_from 1 count)
pass_on g us count place u x old new below is value before put =
    let k = length us - place - 1 in
    let next : length us - place ≡ k + 1 = omega (arith, below) in
    let less : length us - (place + 1) ≡ k = omega (arith, below) in
    let within : k < length us = omega (arith, below) in
    put count (value_from g us (k + 1)) (before ∙ ap (λ n. map (value_from g us n) (numbers_from 1 count)) next)
    ∙ ap₂ (λ (w : ℕ) (y : Fraction). map (replaced w y (value_from g us (k + 1))) (numbers_from 1 count)) is value
    ∙ ap (λ ds. map (value_by g ds k) (numbers_from 1 count)) (sym (drop_more us k 0 within))
    ∙ ap (λ n. map (value_from g us n) (numbers_from 1 count)) (sym less)

-- what the first place of a variable has
abbrev pub value_at_place : (ℕ → Fraction) → Option ℕ → Fraction
value_at_place g None = zero_value
value_at_place g (Some place) = g place

by_position_from : (g : ℕ → Fraction) (us : List ℕ) (k v : ℕ) → value_by g us k v ≡ value_at_place g (position_from (λ u. u == v) k us)
by_position_from g [] k v = refl
by_position_from g (u ∷ us) k v = by_test (by_position_from g us (k + 1) v) (u == v)
  where
    by_test : value_by g us (k + 1) v ≡ value_at_place g (position_from (λ w. w == v) (k + 1) us) → (b : Bool) → cond b (g k) (value_by g us (k + 1) v) ≡ value_at_place g (cond b (Some k) (position_from (λ w. w == v) (k + 1) us))
    by_test others true = refl
    by_test others false = others

pub by_position : (g : ℕ → Fraction) (us : List ℕ) (v : ℕ) → value_by g us 0 v ≡ value_at_place g (position (λ u. u == v) us)
by_position g us v = by_position_from g us 0 v ∙ ap (value_at_place g) (sym (position_from-zero (λ u. u == v) us))

pub pass_ended : (g : ℕ → Fraction) (us : List ℕ) (count place : ℕ) (values : List Fraction) → length us ≤ place
    → values ≡ map (value_from g us (length us - place)) (numbers_from 1 count)
    → values ≡ map (λ v. value_at_place g (position (λ u. u == v) us)) (numbers_from 1 count)
pass_ended g us count place values past are =
    let none : length us - place ≡ 0 = omega (arith, past) in
    are ∙ ap (λ n. map (value_from g us n) (numbers_from 1 count)) none ∙ map_same (value_by g us 0) (λ v. value_at_place g (position (λ u. u == v) us)) (by_position g us) (numbers_from 1 count)

-- ---- two stretches of numbers

numbers_joined : (first m n : ℕ) → numbers_from first (m + n) ≡ numbers_from first m ++ numbers_from (first + m) n
numbers_joined first zero n = ap₂ numbers_from (let same : first ≡ first + 0 = omega arith in same) (let same : 0 + n ≡ n = omega arith in same)
numbers_joined first (suc m) n =
    let more : suc m + n ≡ suc (m + n) = omega arith in
    let start : suc first + m ≡ first + suc m = omega arith in
    ap (numbers_from first) more ∙ ap (λ ns. first ∷ ns) (numbers_joined (suc first) m n ∙ ap (λ k. numbers_from (suc first) m ++ numbers_from k n) start)

pub taken : (f : ℕ → Fraction) (first m n : ℕ) → take m (map f (numbers_from first (m + n))) ≡ map f (numbers_from first m)
taken f first zero n = refl
taken f first (suc m) n =
    let more : suc m + n ≡ suc (m + n) = omega arith in
    ap (λ k. take (suc m) (map f (numbers_from first k))) more ∙ ap (λ ys. f first ∷ ys) (taken f (suc first) m n)

pub dropped : (f : ℕ → Fraction) (first m n : ℕ) → drop m (map f (numbers_from first (m + n))) ≡ map f (numbers_from (m + first) n)
dropped f first zero n =
    let none : 0 + n ≡ n = omega arith in
    let same : first ≡ 0 + first = omega arith in ap₂ (λ (a : ℕ) (k : ℕ). map f (numbers_from a k)) same none
dropped f first (suc m) n =
    let more : suc m + n ≡ suc (m + n) = omega arith in
    let start : m + suc first ≡ suc m + first = omega arith in
    ap (λ k. drop (suc m) (map f (numbers_from first k))) more ∙ dropped f (suc first) m n ∙ ap (λ a. map f (numbers_from a n)) start

-- ---- what dictionaries have of their variables

pub row_behind : (us : List ℕ) (k : ℕ) → slice_index us (suc k - 1) ≡ slice_index us k
row_behind us k = let same : suc k - 1 ≡ k = omega arith in ap (slice_index us) same

entry_at_place : (d : Dictionary) (c : ℕ) (o : Option ℕ) → value_at_place (λ k. entry (row_at d.rows (suc k)) c) o ≡ entry_in d c o
entry_at_place d c None = refl
entry_at_place d c (Some place) = refl

pub entries_are : (d : Dictionary) (c : ℕ) (vs : List ℕ)
    → map (λ v. value_at_place (λ k. entry (row_at d.rows (suc k)) c) (position (λ u. u == v) d.basic)) vs ≡ map (λ v. entry_in d c (basic_row d v)) vs
entries_are d c vs = map_same _ _ (λ v. entry_at_place d c (basic_row d v)) vs

weight_at_place : (objective : List Fraction) (o : Option ℕ) → value_at_place (λ k. negation (entry objective (suc k))) o ≡ weight_in objective o
weight_at_place objective None = refl
weight_at_place objective (Some place) = refl

pub weights_are : (d : Dictionary) (objective : List Fraction) (vs : List ℕ)
    → map (λ v. value_at_place (λ k. negation (entry objective (suc k))) (position (λ u. u == v) d.nonbasic)) vs ≡ map (weight_of d objective) vs
weights_are d objective vs = map_same _ _ (λ v. weight_at_place objective (column_of d v)) vs
