-- The row that leaves bounds the rise most, and has the smallest variable of those that do.
use Rattle.std.proofs.Common.{◌≡◌, ◌∙◌, refl, sym, ap, subst, ℕ, zero, suc, ◌+◌, ◌<◌, ◌≤◌, true, false, true≢false, List, [], ◌∷◌, length, filter, map, slice_index, slice_index_or, All, Some, Ordering, Less, Equal, Greater, Contains, arith, ltb-true, ltb-false}
use Rattle.std.specs.Ordering.{MatchOrdering}
use Rattle.std.specs.Prelude.{◌*ℤ◌, pos}
use Rattle.std.proofs.lemmas.List.{get_or-map, length-map}
use Rattle.std.proofs.lemmas.List.Elements.{All-contains_itself, All-filter, All-map, filter_passes}
use Rattle.frac128.specs.Fraction.{Fraction, den}
use Rattle.frac128.specs.Order.{IsAtMost, IsBelow, order_of}
use Rattle.frac128.proofs.Ordered.{IsAtMost-from_below, IsAtMost-self, IsAtMost_trans, IsBelow-not, order_of-tells}
use Rattle.dictionary.specs.Dictionary.{Dictionary, IsInShape, entry}
use Rattle.dictionary.specs.ExactPath.{exact_ratio, exact_ratios}
use Rattle.dictionary.specs.Rule.{Ratio, RowAhead, is_positive, leaves_before, leaves_before_by, leaving_row, rows_from}
use Rattle.dictionary.proofs.Points.Chosen.{GoesBy, Leaves, at_least_from_order, at_most_from_order, chosen}
use Rattle.cycle_laws.specs.Choices.{LeavesFirst}
use Rattle.cycle_laws.proofs.Passing.{passing}

row_ahead_at : ℕ → ℕ → List ℕ → List (List Fraction) → ℕ → RowAhead
row_ahead_at c r vs rows k = record { row = r + k; variable = slice_index vs k; constant = entry (slice_index_or rows k []) 0; entry = entry (slice_index_or rows k []) c }

length-rows : (c r : ℕ) (vs : List ℕ) (rows : List (List Fraction)) → length rows ≡ length vs → length (rows_from c r vs rows) ≡ length vs
length-rows c r [] rows same = refl
length-rows c r (v ∷ vs) [] same = absurd (omega (arith, same))
length-rows c r (v ∷ vs) (row ∷ rows) same = ap suc (length-rows c (suc r) vs rows (omega (arith, same)))

rows-at : (c r : ℕ) (vs : List ℕ) (rows : List (List Fraction)) (k : ℕ) (e : RowAhead) → length rows ≡ length vs → k < length vs → slice_index_or (rows_from c r vs rows) k e ≡ row_ahead_at c r vs rows k
unfolding row_ahead_at
rows-at c r [] rows k e same within = absurd (omega (arith, within))
rows-at c r (v ∷ vs) [] k e same within = absurd (omega (arith, same))
rows-at c r (v ∷ vs) (row ∷ rows) zero e same within = ap (λ (n : ℕ). let ahead : RowAhead = record { row = n; variable = v; constant = entry row 0; entry = entry row c } in ahead) (omega arith)
rows-at c r (v ∷ vs) (row ∷ rows) (suc k) e same within =
    rows-at c (suc r) vs rows k e (omega (arith, same)) (omega (arith, within))
    ∙ ap (λ (n : ℕ). let ahead : RowAhead = record { row = n; variable = slice_index vs k; constant = entry (slice_index_or rows k []) 0; entry = entry (slice_index_or rows k []) c } in ahead) (omega arith)

-- by value, and by index where the values are equal
record GoesFirst (x y : Ratio) : Type 0 where
  least : IsAtMost x.value y.value
  tie : IsAtMost y.value x.value → x.variable ≤ y.variable

before_by_order : (x y : Ratio) (o : Ordering) → order_of x.value y.value ≡ o → leaves_before_by o x y ≡ true → GoesFirst x y
before_by_order x y Less e h =
    let below : IsBelow x.value y.value = subst (λ r. MatchOrdering r (IsBelow x.value y.value) (x.value.num *ℤ pos (den y.value) ≡ y.value.num *ℤ pos (den x.value)) (IsBelow y.value x.value)) e (order_of-tells x.value y.value) in
    record { least = IsAtMost-from_below x.value y.value below; tie = λ most. absurd (IsBelow-not x.value y.value below most) }
before_by_order x y Equal e h =
    let less = ltb-true x.variable y.variable h in
    record { least = at_most_from_order x.value y.value Equal e (λ other. absurd cc); tie = λ most. omega (arith, less) }
before_by_order x y Greater e h = absurd (true≢false (sym h))

behind_by_order : (x y : Ratio) (o : Ordering) → order_of x.value y.value ≡ o → leaves_before_by o x y ≡ false → GoesFirst y x
behind_by_order x y Less e h = absurd (true≢false h)
behind_by_order x y Equal e h =
    let most = ltb-false x.variable y.variable h in
    record { least = at_least_from_order x.value y.value Equal e (λ other. absurd cc); tie = λ _. most }
behind_by_order x y Greater e h =
    let below : IsBelow y.value x.value = subst (λ r. MatchOrdering r (IsBelow x.value y.value) (x.value.num *ℤ pos (den y.value) ≡ y.value.num *ℤ pos (den x.value)) (IsBelow y.value x.value)) e (order_of-tells x.value y.value) in
    record { least = IsAtMost-from_below y.value x.value below; tie = λ most. absurd (IsBelow-not y.value x.value below most) }

by_ratio : GoesBy GoesFirst leaves_before
by_ratio = record {
  itself = λ x. record { least = IsAtMost-self x.value; tie = λ _. omega arith };
  transitive = λ x y z p q. record {
    least = IsAtMost_trans x.value y.value z.value p.least q.least;
    tie = λ most.
        let one = p.tie (IsAtMost_trans y.value z.value x.value q.least most) in
        let other = q.tie (IsAtMost_trans z.value x.value y.value most p.least) in
        omega (arith, one, other);
  };
  before = λ x y h. before_by_order x y (order_of x.value y.value) refl h;
  behind = λ x y h. behind_by_order x y (order_of x.value y.value) refl h;
}

record IsRatioOf (rows : List RowAhead) (ratio : Ratio) : Type 0 where
  row : RowAhead
  known : Contains rows row
  bounds : is_positive row.entry ≡ true
  is : ratio ≡ exact_ratio row

pub leaves_first : (d : Dictionary) (c r : ℕ) → IsInShape d → leaving_row (exact_ratios d c) ≡ Some r → LeavesFirst d c r
unfolding exact_ratios leaving_row row_ahead_at
leaves_first d c r shape h =
    let bounds = λ (row : RowAhead). is_positive row.entry in
    let rows = rows_from c 1 d.basic d.rows in
    let same = shape.rows in
    let long = length-rows c 1 d.basic d.rows same in
    let known : All (IsRatioOf rows) (map exact_ratio (filter bounds rows)) =
    All-map (IsRatioOf rows) exact_ratio (filter bounds rows)
    (λ k e within. record { row = slice_index_or (filter bounds rows) k e; known = All-filter bounds (Contains rows) rows (All-contains_itself rows) k e within; bounds = filter_passes bounds rows k e within; is = refl }) in
    let found = chosen (IsRatioOf rows) GoesFirst leaves_before (λ ratio. ratio.row) by_ratio (map exact_ratio (filter bounds rows)) r known h in
    let best = found.0 in
    let holds = found.2.holds in
    let place = holds.known.0 in
    let within : place < length d.basic = omega (arith, holds.known.1, long) in
    let is : row_ahead_at c 1 d.basic d.rows place ≡ holds.row = sym (rows-at c 1 d.basic d.rows place holds.row same within) ∙ holds.known.2 in
    let is_best : best ≡ exact_ratio (row_ahead_at c 1 d.basic d.rows place) = holds.is ∙ ap exact_ratio (sym is) in
    let first : (k : ℕ) → k < length d.basic → is_positive (entry (slice_index_or d.rows k []) c) ≡ true → GoesFirst (exact_ratio (row_ahead_at c 1 d.basic d.rows place)) (exact_ratio (row_ahead_at c 1 d.basic d.rows k)) =
    λ k below positive.
    let there = rows-at c 1 d.basic d.rows k holds.row same below in
    subst (λ (ratio : Ratio). GoesFirst ratio (exact_ratio (row_ahead_at c 1 d.basic d.rows k))) is_best
    (subst (λ (row : RowAhead). GoesFirst best (exact_ratio row)) there
    (passing bounds (λ row. GoesFirst best (exact_ratio row)) rows k holds.row (omega (arith, below, long))
    (ap bounds there ∙ positive)
    (of_map best (filter bounds rows) found.2.first))) in
    record {
      place = place;
      is_row = sym found.1 ∙ ap (λ (ratio : Ratio). ratio.row) is_best ∙ omega arith;
      within = within;
      bounds = ap (λ (row : RowAhead). is_positive row.entry) is ∙ holds.bounds;
      least = λ k below positive. (first k below positive).least;
      smallest = λ k below positive most. (first k below positive).tie most;
    }
  where
    of_map : (best : Ratio) (xs : List RowAhead) → All (GoesFirst best) (map exact_ratio xs) → All (λ row. GoesFirst best (exact_ratio row)) xs
    of_map best [] all = λ k e within. absurd (omega (arith, within))
    of_map best (x ∷ xs) all = λ k e within. subst (GoesFirst best) (get_or-map exact_ratio (x ∷ xs) k e (exact_ratio e) within) (all k (exact_ratio e) (omega (arith, within, length-map xs exact_ratio)))

-- as where pivots fit
pub leaves : (d : Dictionary) (r c : ℕ) → IsInShape d → LeavesFirst d c r → Leaves r c d
leaves d r c shape h = record {
  place = h.place;
  is_row = h.is_row;
  within = h.within;
  positive = h.bounds;
  least = λ k below. h.least k (omega (arith, below, shape.rows));
}
