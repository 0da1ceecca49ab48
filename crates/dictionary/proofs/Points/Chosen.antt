-- What the rule chooses among columns and rows.
use Rattle.std.proofs.Common.{◌≡◌, ◌↔◌, ◌∙◌, refl, sym, ap, ap₂, subst, ℕ, zero, suc, ◌+◌, ◌<◌, ◌≤◌, Bool, true, false, true≢false, cond, List, [], ◌∷◌, length, drop, filter, slice_index_or, nat_lt, All, IfSome, Option, Some, None, option_map, unwrap_or, Result, Ok, ℤ, pos, negsuc, Ordering, Less, Equal, Greater, arith, ltb-true, ltb-false}
use Rattle.std.specs.Prelude.{◌<ℤ◌, ◌≤ℤ◌, ◌*ℤ◌}
use Rattle.std.specs.List.{best_of}
use Rattle.std.specs.Ordering.{MatchOrdering}
use Rattle.std.proofs.lemmas.Int.{ints}
use Rattle.std.proofs.lemmas.List.Elements.{All-cons, All-filter, All-head, All-nil, All-tail, All-weaker, filter_passes}
use Rattle.frac128.specs.Checked.{checked_quotient}
use Rattle.frac128.specs.Fraction.{Fraction, den, exact_quotient, zero_value}
use Rattle.frac128.specs.Fits.{quotient_fits}
use Rattle.frac128.specs.Order.{IsAtMost, IsBelow, order_of}
use Rattle.frac128.specs.declared.operations.Op.TheVariants.{Div}
use Rattle.frac128.proofs.Ordered.{IsAtMost-from_below, IsAtMost-self, IsAtMost_trans, above_zero, order_of-tells}
use Rattle.dictionary.specs.Dictionary.{Dictionary, IsInShape, each, entry}
use Rattle.dictionary.specs.Rule.{Column, Ratio, RowAhead, best_among, bounding_rows, columns_from, columns_of, entering_column, is_above_zero, is_positive, leaves_before, leaves_before_by, leaving_row, maximized_row, ratio_of, ratios, rows_from}
use Rattle.dictionary.specs.Solutions.{HasNoRise}
use Rattle.dictionary.proofs.Points.Lawful.{IsWide, wide_entries}
use Rattle.frac128.proofs.Chains.{fitting, same_ok, through}
use Rattle.dictionary.proofs.Points.ExactPivot.{same_some}
use Rattle.dictionary.proofs.Points.Turned.{entry-behind}

-- ---- signs

pub above_from_positive : (x : Fraction) → is_positive x ≡ true → IsBelow zero_value x
above_from_positive x h = (above_zero x).1 (by_sign x.num h)
  where
    by_sign : (n : ℤ) → is_above_zero n ≡ true → pos 0 <ℤ n
    by_sign (pos n) e = let more = ltb-true 0 n e in omega (arith, ints, more)
    by_sign (negsuc n) e = absurd (true≢false (sym e))

pub at_most_from_not_positive : (x : Fraction) → is_positive x ≡ false → IsAtMost x zero_value
at_most_from_not_positive x h = record { at_most = by_sign x.num (den x) h }
  where
    by_sign : (n : ℤ) (d : ℕ) → is_above_zero n ≡ false → (n *ℤ pos 1) ≤ℤ (pos 0 *ℤ pos d)
    by_sign (pos n) d e = let none = ltb-false 0 n e in omega (arith, ints, none)
    by_sign (negsuc n) d e = omega (arith, ints)

pub not_positive_from_at_most : (x : Fraction) → IsAtMost x zero_value → is_positive x ≡ false
not_positive_from_at_most x h = by_test (is_positive x) refl
  where
    by_test : (b : Bool) → is_positive x ≡ b → b ≡ false
    by_test false e = refl
    by_test true e = let above = (above_zero x).0 (above_from_positive x e) in let most = h.at_most in absurd (omega (arith, ints, above, most))

-- ---- the best of a list

-- an element of the list, and none is before it
pub record Chosen {X : Type 0} (P : X → Type 0) (R : X → X → Type 0) (xs : List X) (x : X) : Type 0 where
  pub holds : P x
  pub first : All (R x) xs

best_of-all : {X : Type 0} (P : X → Type 0) (beats : X → X → Bool) (a : X) (xs : List X) → P a → All P xs → P (best_of beats a xs)
best_of-all P beats a [] here all = here
best_of-all P beats a (x ∷ xs) here all =
    best_of-all P beats (cond (beats x a) x a) xs (of_cond (beats x a)) (All-tail P x xs all)
  where
    of_cond : (b : Bool) → P (cond b x a)
    of_cond true = All-head P x xs all
    of_cond false = here

-- an order that a test goes by
pub record GoesBy {X : Type 0} (R : X → X → Type 0) (beats : X → X → Bool) : Type 0 where
  pub itself : (x : X) → R x x
  pub transitive : (x y z : X) → R x y → R y z → R x z
  pub before : (x y : X) → beats x y ≡ true → R x y
  pub behind : (x y : X) → beats x y ≡ false → R y x

best_of-first : {X : Type 0} (R : X → X → Type 0) (beats : X → X → Bool) → GoesBy R beats → (a : X) (xs : List X) → All (R (best_of beats a xs)) (a ∷ xs)
best_of-first R beats order a [] = All-cons (R a) a [] (order.itself a) (All-nil (R a))
best_of-first R beats order a (x ∷ xs) =
    let winner = cond (beats x a) x a in
    let best = best_of beats winner xs in
    let others = best_of-first R beats order winner xs in
    let here = All-head (R best) winner xs others in
    All-cons (R best) a (x ∷ xs) (order.transitive best winner a here (over_old (beats x a) refl))
    (All-cons (R best) x xs (order.transitive best winner x here (over_new (beats x a) refl)) (All-tail (R best) winner xs others))
  where
    over_old : (b : Bool) → beats x a ≡ b → R (cond b x a) a
    over_old true e = order.before x a e
    over_old false e = order.itself a

    over_new : (b : Bool) → beats x a ≡ b → R (cond b x a) x
    over_new true e = order.itself x
    over_new false e = order.behind x a e

pub chosen : {X : Type 0} (P : X → Type 0) (R : X → X → Type 0) (beats : X → X → Bool) (g : X → ℕ) → GoesBy R beats → (xs : List X) (r : ℕ) → All P xs → option_map g (best_among beats xs) ≡ Some r → (x : X) × (g x ≡ r) × Chosen P R xs x
chosen P R beats g order [] r all h = absurd cc
chosen P R beats g order (x ∷ xs) r all h =
    let best = best_of beats x xs in
    (best, same_some h, record { holds = best_of-all P beats x xs (All-head P x xs all) (All-tail P x xs all); first = best_of-first R beats order x xs })

-- none is chosen just where there is none
pub none_chosen : {X : Type 0} (beats : X → X → Bool) (g : X → ℕ) (xs : List X) → option_map g (best_among beats xs) ≡ None → xs ≡ []
none_chosen beats g [] h = refl
none_chosen beats g (x ∷ xs) h = absurd cc

-- any order will do for what holds of all
pub any_order : {X : Type 0} (beats : X → X → Bool) → GoesBy (λ x y. Unit {0}) beats
any_order beats = record { itself = λ x. tt; transitive = λ x y z p q. tt; before = λ x y e. tt; behind = λ x y e. tt }

-- ---- columns

abbrev rises : Column → Bool
rises c = is_positive c.coefficient

record KnownColumn (c : ℕ) (vs : List ℕ) (coefs : List Fraction) (col : Column) : Type 0 where
  place : ℕ
  within : place < length vs
  is_column : col.column ≡ c + place
  is_coefficient : col.coefficient ≡ entry coefs place

columns-known : (c : ℕ) (vs : List ℕ) (coefs : List Fraction) → All (KnownColumn c vs coefs) (columns_from c vs coefs)
columns-known c [] coefs = All-nil (KnownColumn c [] coefs)
columns-known c (v ∷ vs) [] = All-nil (KnownColumn c (v ∷ vs) [])
columns-known c (v ∷ vs) (a ∷ coefs) =
    All-cons (KnownColumn c (v ∷ vs) (a ∷ coefs)) record { column = c; variable = v; coefficient = a } (columns_from (suc c) vs coefs)
    record { place = 0; within = omega arith; is_column = omega arith; is_coefficient = refl }
    (All-weaker (KnownColumn (suc c) vs coefs) (KnownColumn c (v ∷ vs) (a ∷ coefs)) one_on (columns_from (suc c) vs coefs) (columns-known (suc c) vs coefs))
  where
    one_on : (col : Column) → KnownColumn (suc c) vs coefs col → KnownColumn c (v ∷ vs) (a ∷ coefs) col
    one_on col known =
        let below = known.within in
        let is = known.is_column in
        record { place = suc known.place; within = omega (arith, below); is_column = omega (arith, is); is_coefficient = known.is_coefficient }

-- no column rises just where no coefficient is above 0
none_rises : (c : ℕ) (vs : List ℕ) (coefs : List Fraction) → length coefs ≡ length vs → filter rises (columns_from c vs coefs) ≡ [] → All (λ a. IsAtMost a zero_value) coefs
none_rises c vs [] same h = All-nil (λ a. IsAtMost a zero_value)
none_rises c [] (a ∷ coefs) same h = absurd (omega (arith, same))
none_rises c (v ∷ vs) (a ∷ coefs) same h = by_test (none_rises (suc c) vs coefs (omega (arith, same))) (is_positive a) refl h
  where
    by_test : (filter rises (columns_from (suc c) vs coefs) ≡ [] → All (λ b. IsAtMost b zero_value) coefs) → (b : Bool) → is_positive a ≡ b
        → cond b (record { column = c; variable = v; coefficient = a } ∷ filter rises (columns_from (suc c) vs coefs)) (filter rises (columns_from (suc c) vs coefs)) ≡ [] → All (λ a. IsAtMost a zero_value) (a ∷ coefs)
    by_test others true is e = absurd cc
    by_test others false is e = All-cons (λ b. IsAtMost b zero_value) a coefs (at_most_from_not_positive a is) (others e)

rises_none : (c : ℕ) (vs : List ℕ) (coefs : List Fraction) → All (λ a. IsAtMost a zero_value) coefs → filter rises (columns_from c vs coefs) ≡ []
rises_none c [] coefs low = refl
rises_none c (v ∷ vs) [] low = refl
rises_none c (v ∷ vs) (a ∷ coefs) low =
    ap (λ b. cond b (record { column = c; variable = v; coefficient = a } ∷ filter rises (columns_from (suc c) vs coefs)) (filter rises (columns_from (suc c) vs coefs))) (not_positive_from_at_most a (All-head (λ b. IsAtMost b zero_value) a coefs low))
    ∙ rises_none (suc c) vs coefs (All-tail (λ b. IsAtMost b zero_value) a coefs low)

-- z, or w in phase one
pub maximized-wide : (d : Dictionary) → IsInShape d → IsWide (length d.nonbasic) (maximized_row d)
maximized-wide d shape = of_option d.auxiliary shape.auxiliary_entries
  where
    of_option : (o : Option (List Fraction)) → IfSome o (IsWide (length d.nonbasic)) → IsWide (length d.nonbasic) (unwrap_or o d.objective)
    of_option None h = shape.objective_entries
    of_option (Some row) h = h

pub entering-none : (d : Dictionary) → IsInShape d → (entering_column d ≡ None) ↔ HasNoRise (maximized_row d)
unfolding entering_column
entering-none d shape = (
  λ h. none_rises 1 d.nonbasic (drop 1 (maximized_row d)) (wide_entries (length d.nonbasic) (maximized_row d) (maximized-wide d shape)) (none_chosen smaller (λ c. c.column) (filter rises (columns_of d)) h),
  λ h. ap (λ xs. option_map (λ c. c.column) (best_among smaller xs)) (rises_none 1 d.nonbasic (drop 1 (maximized_row d)) h),
)
  where
    smaller : Column → Column → Bool
    smaller x y = nat_lt x.variable y.variable

-- a column whose coefficient is above 0
pub record Enters (c : ℕ) (d : Dictionary) : Type 0 where
  pub above : 0 < c
  pub within : c ≤ length d.nonbasic
  pub rise : IsBelow zero_value (entry (maximized_row d) c)

entering_known : (d : Dictionary) (col : Column) → KnownColumn 1 d.nonbasic (drop 1 (maximized_row d)) col → rises col ≡ true → Enters col.column d
entering_known d col known is_rise =
    let below = known.within in
    let is_one_on = known.is_column in
    let is : col.column ≡ suc known.place = omega (arith, is_one_on) in
    let here : col.coefficient ≡ entry (maximized_row d) col.column = known.is_coefficient ∙ entry-behind known.place (maximized_row d) ∙ ap (entry (maximized_row d)) (sym is) in
    record {
      above = omega (arith, is);
      within = omega (arith, is, below);
      rise = subst (IsBelow zero_value) here (above_from_positive col.coefficient is_rise);
    }

pub entering-some : (d : Dictionary) (c : ℕ) → entering_column d ≡ Some c → Enters c d
unfolding entering_column
entering-some d c h =
    let columns = filter rises (columns_of d) in
    let both : All (λ col. Enters col.column d) columns =
    λ k e within. entering_known d (slice_index_or columns k e) (All-filter rises (KnownColumn 1 d.nonbasic (drop 1 (maximized_row d))) (columns_of d) (columns-known 1 d.nonbasic (drop 1 (maximized_row d))) k e within) (filter_passes rises (columns_of d) k e within) in
    let found = chosen (λ col. Enters col.column d) (λ x y. Unit {0}) smaller (λ col. col.column) (any_order smaller) columns c both h in
    subst (λ n. Enters n d) found.1 found.2.holds
  where
    smaller : Column → Column → Bool
    smaller x y = nat_lt x.variable y.variable

-- ---- rows

abbrev bounds : RowAhead → Bool
bounds row = is_positive row.entry

pub record KnownRow (c r : ℕ) (basic : List ℕ) (rows : List (List Fraction)) (row : RowAhead) : Type 0 where
  pub place : ℕ
  pub within : place < length basic
  pub is_row : row.row ≡ r + place
  pub is_constant : row.constant ≡ entry (slice_index_or rows place []) 0
  pub is_entry : row.entry ≡ entry (slice_index_or rows place []) c

pub rows-known : (c r : ℕ) (basic : List ℕ) (rows : List (List Fraction)) → All (KnownRow c r basic rows) (rows_from c r basic rows)
rows-known c r [] rows = All-nil (KnownRow c r [] rows)
rows-known c r (v ∷ vs) [] = All-nil (KnownRow c r (v ∷ vs) [])
rows-known c r (v ∷ vs) (row ∷ rows) =
    All-cons (KnownRow c r (v ∷ vs) (row ∷ rows)) record { row = r; variable = v; constant = entry row 0; entry = entry row c } (rows_from c (suc r) vs rows)
    record { place = 0; within = omega arith; is_row = omega arith; is_constant = refl; is_entry = refl }
    (All-weaker (KnownRow c (suc r) vs rows) (KnownRow c r (v ∷ vs) (row ∷ rows)) one_on (rows_from c (suc r) vs rows) (rows-known c (suc r) vs rows))
  where
    one_on : (ahead : RowAhead) → KnownRow c (suc r) vs rows ahead → KnownRow c r (v ∷ vs) (row ∷ rows) ahead
    one_on ahead known =
        let below = known.within in
        let is = known.is_row in
        record { place = suc known.place; within = omega (arith, below); is_row = omega (arith, is); is_constant = known.is_constant; is_entry = known.is_entry }

-- what is known of each result of what is known of each
all_each : {A B E : Type 0} (f : A → Result B E) (P : A → Type 0) (Q : B → Type 0) → ((x : A) (y : B) → P x → f x ≡ Ok y → Q y) → (xs : List A) (ys : List B) → All P xs → each f xs ≡ Ok ys → All Q ys
all_each f P Q made [] ys all h = subst (All Q) (same_ok _ _ h) (All-nil Q)
all_each f P Q made (x ∷ xs) ys all h =
    let first = through (f x) _ ys h in
    let others = through (each f xs) _ ys first.rest in
    subst (All Q) (same_ok _ _ others.rest) (All-cons Q first.value others.value (made x first.value (All-head P x xs all) first.first) (all_each f P Q made xs others.value (All-tail P x xs all) others.first))

-- no row bounds just where no entry is above 0
none_bounds : (c r : ℕ) (basic : List ℕ) (rows : List (List Fraction)) → length rows ≡ length basic → filter bounds (rows_from c r basic rows) ≡ [] → All (λ row. IsAtMost (entry row c) zero_value) rows
none_bounds c r basic [] same h = All-nil (λ row. IsAtMost (entry row c) zero_value)
none_bounds c r [] (row ∷ rows) same h = absurd (omega (arith, same))
none_bounds c r (v ∷ vs) (row ∷ rows) same h = by_test (none_bounds c (suc r) vs rows (omega (arith, same))) (is_positive (entry row c)) refl h
  where
    by_test : (filter bounds (rows_from c (suc r) vs rows) ≡ [] → All (λ other. IsAtMost (entry other c) zero_value) rows) → (b : Bool) → is_positive (entry row c) ≡ b
        → cond b (record { row = r; variable = v; constant = entry row 0; entry = entry row c } ∷ filter bounds (rows_from c (suc r) vs rows)) (filter bounds (rows_from c (suc r) vs rows)) ≡ [] → All (λ row. IsAtMost (entry row c) zero_value) (row ∷ rows)
    by_test others true is e = absurd cc
    by_test others false is e = All-cons (λ other. IsAtMost (entry other c) zero_value) row rows (at_most_from_not_positive (entry row c) is) (others e)

each-none : {A B E : Type 0} (f : A → Result B E) (xs : List A) → each f xs ≡ Ok [] → xs ≡ []
each-none f [] h = refl
each-none f (x ∷ xs) h =
    let first = through (f x) _ [] h in
    let others = through (each f xs) _ [] first.rest in
    absurd (let e = others.rest in cc)

pub leaving-none : (d : Dictionary) (c : ℕ) (rs : List Ratio) → IsInShape d → ratios d c ≡ Ok rs → leaving_row rs ≡ None → All (λ row. IsAtMost (entry row c) zero_value) d.rows
unfolding ratios leaving_row
leaving-none d c rs shape h none =
    let nothing : rs ≡ [] = none_chosen leaves_before (λ ratio. ratio.row) rs none in
    none_bounds c 1 d.basic d.rows shape.rows (each-none ratio_of (bounding_rows d c) (subst (λ xs. ratios d c ≡ Ok xs) nothing h))

-- ---- the row that leaves

record KnownRatio (c : ℕ) (d : Dictionary) (ratio : Ratio) : Type 0 where
  place : ℕ
  within : place < length d.basic
  is_row : ratio.row ≡ suc place
  positive : is_positive (entry (slice_index_or d.rows place []) c) ≡ true
  is_value : ratio.value ≡ exact_quotient (entry (slice_index_or d.rows place []) 0) (entry (slice_index_or d.rows place []) c)

-- a ratio's parts
pub ratio-made : (row : RowAhead) (ratio : Ratio) → ratio_of row ≡ Ok ratio → (ratio.row ≡ row.row) × (ratio.value ≡ exact_quotient row.constant row.entry)
ratio-made row ratio h =
    let value = through (checked_quotient row.constant row.entry) _ ratio h in
    let whole = same_ok _ _ value.rest in
    (sym (ap (λ r. r.row) whole), sym (ap (λ r. r.value) whole) ∙ fitting (quotient_fits row.constant row.entry) (exact_quotient row.constant row.entry) Div row.constant row.entry value.value value.first)

ratio-known : (c : ℕ) (d : Dictionary) (row : RowAhead) (ratio : Ratio) → KnownRow c 1 d.basic d.rows row → bounds row ≡ true → ratio_of row ≡ Ok ratio → KnownRatio c d ratio
ratio-known c d row ratio known positive h =
    let made = ratio-made row ratio h in
    let is_one_on = known.is_row in
    let is : row.row ≡ suc known.place = omega (arith, is_one_on) in
    record {
      place = known.place;
      within = known.within;
      is_row = made.0 ∙ is;
      positive = subst (λ a. is_positive a ≡ true) known.is_entry positive;
      is_value = made.1 ∙ ap₂ exact_quotient known.is_constant known.is_entry;
    }

-- what is at most each ratio is at most the quotient of each row that bounds
each_bound : (v : Fraction) (c r : ℕ) (basic : List ℕ) (rows : List (List Fraction)) (rs : List Ratio) → length rows ≡ length basic → each ratio_of (filter bounds (rows_from c r basic rows)) ≡ Ok rs → All (λ ratio. IsAtMost v ratio.value) rs
    → (k : ℕ) → k < length rows → is_positive (entry (slice_index_or rows k []) c) ≡ true → IsAtMost v (exact_quotient (entry (slice_index_or rows k []) 0) (entry (slice_index_or rows k []) c))
each_bound v c r basic [] rs same h all k within positive = absurd (omega (arith, within))
each_bound v c r [] (row ∷ rows) rs same h all k within positive = absurd (omega (arith, same))
each_bound v c r (b ∷ bs) (row ∷ rows) rs same h all k within positive =
    by_test (λ rest made most. each_bound v c (suc r) bs rows rest (omega (arith, same)) made most) (is_positive (entry row c)) refl h k within positive
  where
    by_test : ((rest : List Ratio) → each ratio_of (filter bounds (rows_from c (suc r) bs rows)) ≡ Ok rest → All (λ ratio. IsAtMost v ratio.value) rest
        → (k : ℕ) → k < length rows → is_positive (entry (slice_index_or rows k []) c) ≡ true → IsAtMost v (exact_quotient (entry (slice_index_or rows k []) 0) (entry (slice_index_or rows k []) c)))
        → (t : Bool) → is_positive (entry row c) ≡ t
        → each ratio_of (cond t (record { row = r; variable = b; constant = entry row 0; entry = entry row c } ∷ filter bounds (rows_from c (suc r) bs rows)) (filter bounds (rows_from c (suc r) bs rows))) ≡ Ok rs
        → (k : ℕ) → k < suc (length rows) → is_positive (entry (slice_index_or (row ∷ rows) k []) c) ≡ true → IsAtMost v (exact_quotient (entry (slice_index_or (row ∷ rows) k []) 0) (entry (slice_index_or (row ∷ rows) k []) c))
    by_test others true is e zero below is_positive_here =
        let ahead : RowAhead = record { row = r; variable = b; constant = entry row 0; entry = entry row c } in
        let first = through (ratio_of ahead) _ rs e in
        let rest = through (each ratio_of (filter bounds (rows_from c (suc r) bs rows))) _ rs first.rest in
        let most = All-head (λ ratio. IsAtMost v ratio.value) first.value rest.value (subst (All (λ ratio. IsAtMost v ratio.value)) (sym (same_ok _ _ rest.rest)) all) in
        subst (IsAtMost v) (ratio-made ahead first.value first.first).1 most
    by_test others true is e (suc k) below is_positive_there =
        let ahead : RowAhead = record { row = r; variable = b; constant = entry row 0; entry = entry row c } in
        let first = through (ratio_of ahead) _ rs e in
        let rest = through (each ratio_of (filter bounds (rows_from c (suc r) bs rows))) _ rs first.rest in
        let most = All-tail (λ ratio. IsAtMost v ratio.value) first.value rest.value (subst (All (λ ratio. IsAtMost v ratio.value)) (sym (same_ok _ _ rest.rest)) all) in
        others rest.value rest.first most k (omega (arith, below)) is_positive_there
    by_test others false is e zero below is_positive_here = absurd (true≢false (sym is_positive_here ∙ is))
    by_test others false is e (suc k) below is_positive_there = others rs e all k (omega (arith, below)) is_positive_there

pub at_most_from_order : (x y : Fraction) (o : Ordering) → order_of x y ≡ o → (o ≡ Greater → ⊥) → IsAtMost x y
at_most_from_order x y o e other = by_order o other (subst (λ r. MatchOrdering r (IsBelow x y) (x.num *ℤ pos (den y) ≡ y.num *ℤ pos (den x)) (IsBelow y x)) e (order_of-tells x y))
  where
    by_order : (r : Ordering) → (r ≡ Greater → ⊥) → MatchOrdering r (IsBelow x y) (x.num *ℤ pos (den y) ≡ y.num *ℤ pos (den x)) (IsBelow y x) → IsAtMost x y
    by_order Less apart h = IsAtMost-from_below x y h
    by_order Equal apart h = record { at_most = omega (arith, ints, h) }
    by_order Greater apart h = absurd (apart refl)

pub at_least_from_order : (x y : Fraction) (o : Ordering) → order_of x y ≡ o → (o ≡ Less → ⊥) → IsAtMost y x
at_least_from_order x y o e other = by_order o other (subst (λ r. MatchOrdering r (IsBelow x y) (x.num *ℤ pos (den y) ≡ y.num *ℤ pos (den x)) (IsBelow y x)) e (order_of-tells x y))
  where
    by_order : (r : Ordering) → (r ≡ Less → ⊥) → MatchOrdering r (IsBelow x y) (x.num *ℤ pos (den y) ≡ y.num *ℤ pos (den x)) (IsBelow y x) → IsAtMost y x
    by_order Less apart h = absurd (apart refl)
    by_order Equal apart h = record { at_most = omega (arith, ints, h) }
    by_order Greater apart h = IsAtMost-from_below y x h

leaves_by_value : GoesBy (λ (x y : Ratio). IsAtMost x.value y.value) leaves_before
leaves_by_value = record {
  itself = λ x. IsAtMost-self x.value;
  transitive = λ x y z. IsAtMost_trans x.value y.value z.value;
  before = λ x y h. at_most_from_order x.value y.value (order_of x.value y.value) refl (λ e. true≢false (sym h ∙ ap (λ o. leaves_before_by o x y) e));
  behind = λ x y h. at_least_from_order x.value y.value (order_of x.value y.value) refl (λ e. true≢false (sym (ap (λ o. leaves_before_by o x y) e) ∙ h));
}

-- the row that leaves: its entry is above 0, and no row that bounds has a smaller quotient
pub record Leaves (r c : ℕ) (d : Dictionary) : Type 0 where
  pub place : ℕ
  pub is_row : r ≡ suc place
  pub within : place < length d.basic
  pub positive : is_positive (entry (slice_index_or d.rows place []) c) ≡ true
  pub least : (k : ℕ) → k < length d.rows → is_positive (entry (slice_index_or d.rows k []) c) ≡ true
      → IsAtMost (exact_quotient (entry (slice_index_or d.rows place []) 0) (entry (slice_index_or d.rows place []) c)) (exact_quotient (entry (slice_index_or d.rows k []) 0) (entry (slice_index_or d.rows k []) c))

pub leaving-some : (d : Dictionary) (c r : ℕ) (rs : List Ratio) → IsInShape d → ratios d c ≡ Ok rs → leaving_row rs ≡ Some r → Leaves r c d
unfolding ratios leaving_row
leaving-some d c r rs shape h found =
    let rows = rows_from c 1 d.basic d.rows in
    let known : All (KnownRatio c d) rs =
    all_each ratio_of (λ row. record { known : KnownRow c 1 d.basic d.rows row; bounds : bounds row ≡ true }) (KnownRatio c d) (λ row ratio both made. ratio-known c d row ratio both.known both.bounds made) (filter bounds rows) rs
    (λ k e within. record { known = All-filter bounds (KnownRow c 1 d.basic d.rows) rows (rows-known c 1 d.basic d.rows) k e within; bounds = filter_passes bounds rows k e within }) h in
    let best = chosen (KnownRatio c d) (λ x y. IsAtMost x.value y.value) leaves_before (λ ratio. ratio.row) leaves_by_value rs r known found in
    let ratio = best.2.holds in
    record {
      place = ratio.place;
      is_row = sym best.1 ∙ ratio.is_row;
      within = ratio.within;
      positive = ratio.positive;
      least = λ k within positive. subst (λ v. IsAtMost v (exact_quotient (entry (slice_index_or d.rows k []) 0) (entry (slice_index_or d.rows k []) c))) ratio.is_value
          (each_bound best.0.value c 1 d.basic d.rows rs shape.rows h best.2.first k within positive);
    }
