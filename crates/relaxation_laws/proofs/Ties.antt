-- Among equal ratios the artificial variable leaves first, so that it is above 0 wherever it stays basic.
use Rattle.std.specs.Prelude.{◌*ℤ◌}
use Rattle.std.specs.Ordering.{MatchOrdering}
use Rattle.std.proofs.Common.{◌≡◌, ◌∙◌, ⊎_elim, refl, sym, ap, subst, ℕ, zero, suc, ◌+◌, ◌<◌, ◌≤◌, Bool, true, false, true≢false, cond, List, [], ◌∷◌, length, filter, slice_index, slice_index_or, All, Ok, pos, Ordering, Less, Equal, Greater, arith, ltb-true, ltb-false}
use Rattle.std.proofs.lemmas.Bool.{cases_order}
use Rattle.std.proofs.lemmas.List.Elements.{All-cons, All-head, All-nil, All-tail, All-weaker}
use Rattle.frac128.specs.Checked.{checked_quotient}
use Rattle.frac128.specs.Fraction.{Fraction, den, exact_quotient, zero_value}
use Rattle.frac128.specs.Fits.{quotient_fits}
use Rattle.frac128.specs.Order.{IsAtMost, IsBelow, order_of}
use Rattle.frac128.specs.declared.operations.Op.TheVariants.{Div}
use Rattle.frac128.specs.Lowest.{IsInLowestTerms}
use Rattle.frac128.proofs.Field.{exact_product_comm, exact_quotient-product}
use Rattle.frac128.proofs.Ordered.{IsAtMost-self, IsAtMost_trans, IsBelow-not, IsBelow-product, IsBelow-sum, cases_below, order_of-tells}
use Rattle.frac128.proofs.Chains.{fitting, same_ok, through}
use Rattle.frac128.proofs.Sums.{minus, sum-minus, ◌⊕◌, ◌⊗◌}
use Rattle.dictionary.specs.Dictionary.{Dictionary, each, entry}
use Rattle.dictionary.specs.Rule.{Ratio, RowAhead, is_positive, leaves_before, leaves_before_by, leaving_row, ratio_of, ratios, rows_from}
use Rattle.dictionary.specs.Solutions.{IsLawful, PivotsByRule}
use Rattle.dictionary.proofs.Points.Chosen.{GoesBy, above_from_positive, at_least_from_order, at_most_from_order, chosen}
use Rattle.dictionary.proofs.Points.ExactPivot.{other_row}
use Rattle.dictionary.proofs.Points.FreeRise.{not_zero, row_along}
use Rattle.dictionary.proofs.Points.Lawful.{Turns, replaced-other}
use Rattle.dictionary.proofs.Points.OwnPoint.{distinct_left}

-- ---- the ratios and their rows

abbrev bounds : RowAhead → Bool
bounds row = is_positive row.entry

pub record RatioOf (c r : ℕ) (basic : List ℕ) (rows : List (List Fraction)) (ratio : Ratio) : Type 0 where
  pub place : ℕ
  pub within : place < length basic
  pub is_row : ratio.row ≡ r + place
  pub is_variable : ratio.variable ≡ slice_index basic place
  pub is_value : ratio.value ≡ exact_quotient (entry (slice_index_or rows place []) 0) (entry (slice_index_or rows place []) c)

record IsRatio (row : RowAhead) (ratio : Ratio) : Type 0 where
  is_row : ratio.row ≡ row.row
  is_variable : ratio.variable ≡ row.variable
  is_value : ratio.value ≡ exact_quotient row.constant row.entry

ratio_made : (row : RowAhead) (ratio : Ratio) → ratio_of row ≡ Ok ratio → IsRatio row ratio
ratio_made row ratio h =
    let value = through (checked_quotient row.constant row.entry) _ ratio h in
    let whole = same_ok _ _ value.rest in
    record {
      is_row = sym (ap (λ r. r.row) whole);
      is_variable = sym (ap (λ r. r.variable) whole);
      is_value = sym (ap (λ r. r.value) whole) ∙ fitting (quotient_fits row.constant row.entry) (exact_quotient row.constant row.entry) Div row.constant row.entry value.value value.first;
    }

ratios_known : (c r : ℕ) (basic : List ℕ) (rows : List (List Fraction)) (rs : List Ratio) → each ratio_of (filter bounds (rows_from c r basic rows)) ≡ Ok rs → All (RatioOf c r basic rows) rs
ratios_known c r [] rows rs h = subst (All (RatioOf c r [] rows)) (same_ok _ _ h) (All-nil (RatioOf c r [] rows))
ratios_known c r (b ∷ bs) [] rs h = subst (All (RatioOf c r (b ∷ bs) [])) (same_ok _ _ h) (All-nil (RatioOf c r (b ∷ bs) []))
ratios_known c r (b ∷ bs) (row ∷ rows) rs h = by_test (λ rest made. ratios_known c (suc r) bs rows rest made) (is_positive (entry row c)) h
  where
    one_on : (ratio : Ratio) → RatioOf c (suc r) bs rows ratio → RatioOf c r (b ∷ bs) (row ∷ rows) ratio
    one_on ratio known =
        let below = known.within in
        let is = known.is_row in
        record { place = suc known.place; within = omega (arith, below); is_row = omega (arith, is); is_variable = known.is_variable; is_value = known.is_value }

    by_test : ((rest : List Ratio) → each ratio_of (filter bounds (rows_from c (suc r) bs rows)) ≡ Ok rest → All (RatioOf c (suc r) bs rows) rest)
        → (t : Bool) → each ratio_of (cond t (record { row = r; variable = b; constant = entry row 0; entry = entry row c } ∷ filter bounds (rows_from c (suc r) bs rows)) (filter bounds (rows_from c (suc r) bs rows))) ≡ Ok rs
        → All (RatioOf c r (b ∷ bs) (row ∷ rows)) rs
    by_test others true e =
        let ahead : RowAhead = record { row = r; variable = b; constant = entry row 0; entry = entry row c } in
        let first = through (ratio_of ahead) _ rs e in
        let rest = through (each ratio_of (filter bounds (rows_from c (suc r) bs rows))) _ rs first.rest in
        let made = ratio_made ahead first.value first.first in
        let is = made.is_row in
        let here : RatioOf c r (b ∷ bs) (row ∷ rows) first.value = record { place = 0; within = omega arith; is_row = omega (arith, is); is_variable = made.is_variable; is_value = made.is_value } in
        subst (All (RatioOf c r (b ∷ bs) (row ∷ rows))) (same_ok _ _ rest.rest)
        (All-cons (RatioOf c r (b ∷ bs) (row ∷ rows)) first.value rest.value here (All-weaker (RatioOf c (suc r) bs rows) (RatioOf c r (b ∷ bs) (row ∷ rows)) one_on rest.value (others rest.value rest.first)))
    by_test others false e = All-weaker (RatioOf c (suc r) bs rows) (RatioOf c r (b ∷ bs) (row ∷ rows)) one_on rs (others rs e)

-- what is known of each ratio is known of the ratio of each row that bounds
record RatioAt (Q : Ratio → Type 0) (variable : ℕ) (value : Fraction) : Type 0 where
  ratio : Ratio
  is_variable : ratio.variable ≡ variable
  is_value : ratio.value ≡ value
  known : Q ratio

each_ratio : (Q : Ratio → Type 0) (c r : ℕ) (basic : List ℕ) (rows : List (List Fraction)) (rs : List Ratio) → length rows ≡ length basic → each ratio_of (filter bounds (rows_from c r basic rows)) ≡ Ok rs → All Q rs
    → (k : ℕ) → k < length rows → is_positive (entry (slice_index_or rows k []) c) ≡ true → RatioAt Q (slice_index basic k) (exact_quotient (entry (slice_index_or rows k []) 0) (entry (slice_index_or rows k []) c))
each_ratio Q c r basic [] rs same h all k within positive = absurd (omega (arith, within))
each_ratio Q c r [] (row ∷ rows) rs same h all k within positive = absurd (omega (arith, same))
each_ratio Q c r (b ∷ bs) (row ∷ rows) rs same h all k within positive =
    by_test (λ rest made holds. each_ratio Q c (suc r) bs rows rest (omega (arith, same)) made holds) (is_positive (entry row c)) refl h k within positive
  where
    by_test : ((rest : List Ratio) → each ratio_of (filter bounds (rows_from c (suc r) bs rows)) ≡ Ok rest → All Q rest
        → (k : ℕ) → k < length rows → is_positive (entry (slice_index_or rows k []) c) ≡ true → RatioAt Q (slice_index bs k) (exact_quotient (entry (slice_index_or rows k []) 0) (entry (slice_index_or rows k []) c)))
        → (t : Bool) → is_positive (entry row c) ≡ t
        → each ratio_of (cond t (record { row = r; variable = b; constant = entry row 0; entry = entry row c } ∷ filter bounds (rows_from c (suc r) bs rows)) (filter bounds (rows_from c (suc r) bs rows))) ≡ Ok rs
        → (k : ℕ) → k < suc (length rows) → is_positive (entry (slice_index_or (row ∷ rows) k []) c) ≡ true
        → RatioAt Q (slice_index (b ∷ bs) k) (exact_quotient (entry (slice_index_or (row ∷ rows) k []) 0) (entry (slice_index_or (row ∷ rows) k []) c))
    by_test others true is e zero below positive_here =
        let ahead : RowAhead = record { row = r; variable = b; constant = entry row 0; entry = entry row c } in
        let first = through (ratio_of ahead) _ rs e in
        let rest = through (each ratio_of (filter bounds (rows_from c (suc r) bs rows))) _ rs first.rest in
        let made = ratio_made ahead first.value first.first in
        record { ratio = first.value; is_variable = made.is_variable; is_value = made.is_value; known = All-head Q first.value rest.value (subst (All Q) (sym (same_ok _ _ rest.rest)) all) }
    by_test others true is e (suc k) below positive_there =
        let ahead : RowAhead = record { row = r; variable = b; constant = entry row 0; entry = entry row c } in
        let first = through (ratio_of ahead) _ rs e in
        let rest = through (each ratio_of (filter bounds (rows_from c (suc r) bs rows))) _ rs first.rest in
        others rest.value rest.first (All-tail Q first.value rest.value (subst (All Q) (sym (same_ok _ _ rest.rest)) all)) k (omega (arith, below)) positive_there
    by_test others false is e zero below positive_here = absurd (true≢false (sym positive_here ∙ is))
    by_test others false is e (suc k) below positive_there = others rs e all k (omega (arith, below)) positive_there

-- ---- which of two leaves first

-- by value, and by index where the values are equal
pub record GoesFirst (x y : Ratio) : Type 0 where
  pub at_most : IsAtMost x.value y.value
  pub smaller : IsAtMost y.value x.value → x.variable ≤ y.variable

before_by_order : (x y : Ratio) (o : Ordering) → order_of x.value y.value ≡ o → leaves_before_by o x y ≡ true → GoesFirst x y
before_by_order x y Less e h = record {
  at_most = at_most_from_order x.value y.value Less e (λ f. absurd cc);
  smaller = λ back. absurd (IsBelow-not x.value y.value (subst (λ r. MatchOrdering r (IsBelow x.value y.value) (x.value.num *ℤ pos (den y.value) ≡ y.value.num *ℤ pos (den x.value)) (IsBelow y.value x.value)) e (order_of-tells x.value y.value)) back);
}
before_by_order x y Equal e h = record {
  at_most = at_most_from_order x.value y.value Equal e (λ f. absurd cc);
  smaller = λ back. let less = ltb-true x.variable y.variable h in omega (arith, less);
}
before_by_order x y Greater e h = absurd (true≢false (sym h))

behind_by_order : (x y : Ratio) (o : Ordering) → order_of x.value y.value ≡ o → leaves_before_by o x y ≡ false → GoesFirst y x
behind_by_order x y Less e h = absurd (true≢false h)
behind_by_order x y Equal e h = record {
  at_most = at_least_from_order x.value y.value Equal e (λ f. absurd cc);
  smaller = λ back. let more = ltb-false x.variable y.variable h in omega (arith, more);
}
behind_by_order x y Greater e h = record {
  at_most = at_least_from_order x.value y.value Greater e (λ f. absurd cc);
  smaller = λ back. absurd (IsBelow-not y.value x.value (subst (λ r. MatchOrdering r (IsBelow x.value y.value) (x.value.num *ℤ pos (den y.value) ≡ y.value.num *ℤ pos (den x.value)) (IsBelow y.value x.value)) e (order_of-tells x.value y.value)) back);
}

leaves_first : GoesBy GoesFirst leaves_before
leaves_first = record {
  itself = λ x. record { at_most = IsAtMost-self x.value; smaller = λ back. omega arith };
  transitive = λ x y z p q. record {
    at_most = IsAtMost_trans x.value y.value z.value p.at_most q.at_most;
    smaller = λ back.
        let one = p.smaller (IsAtMost_trans y.value z.value x.value q.at_most back) in
        let other = q.smaller (IsAtMost_trans z.value x.value y.value back p.at_most) in
        omega (arith, one, other);
  };
  before = λ x y h. before_by_order x y (order_of x.value y.value) refl h;
  behind = λ x y h. behind_by_order x y (order_of x.value y.value) refl h;
}

-- ---- the artificial variable's row

-- x - a t is above 0 where t is below x / a
pub above_ratio : (a t x : Fraction) → IsInLowestTerms x → IsBelow zero_value a → IsBelow t (exact_quotient x a) → IsBelow zero_value (x ⊕ minus (a ⊗ t))
above_ratio a t x low above less =
    let scaled : IsBelow (a ⊗ t) x =
    subst (λ s. IsBelow s x) (exact_product_comm t a) (subst (IsBelow (t ⊗ a)) (exact_quotient-product x a low (not_zero a above)) (IsBelow-product t (exact_quotient x a) a above less)) in
    subst (λ s. IsBelow s (x ⊕ minus (a ⊗ t))) (sum-minus (a ⊗ t)) (IsBelow-sum (a ⊗ t) x (minus (a ⊗ t)) scaled)

same_place : (d : Dictionary) (p q : ℕ) → IsLawful d → p < length d.basic → q < length d.basic → slice_index d.basic p ≡ slice_index d.basic q → p ≡ q
same_place d p q lawful p_in q_in same =
    ⊎_elim (λ e. e)
    (λ order. ⊎_elim (λ less. absurd (distinct_left d.basic d.nonbasic p q lawful.distinct less q_in same)) (λ more. absurd (distinct_left d.basic d.nonbasic q p lawful.distinct more p_in (sym same))) order)
    (cases_order p q)

-- A row of the artificial variable that bounds and does not leave keeps a constant above 0.
pub stays_above : (i j k : ℕ) (d e : Dictionary) → IsLawful d → (h : Turns i j d e) → (rule : PivotsByRule (suc i) (suc j) d e) → k < length d.basic → slice_index d.basic k ≡ 0 → (k ≡ i → ⊥)
    → is_positive (entry (slice_index_or d.rows k []) (suc j)) ≡ true → IsInLowestTerms (entry (slice_index_or d.rows k []) 0) → IsBelow zero_value (entry (slice_index_or e.rows k []) 0)
unfolding ratios leaving_row
stays_above i j k d e lawful h rule within is_zero other positive low =
    let same = lawful.shape.rows in
    let row = slice_index_or d.rows k [] in
    let known = ratios_known (suc j) 1 d.basic d.rows rule.compared rule.are_ratios in
    let best = chosen (RatioOf (suc j) 1 d.basic d.rows) GoesFirst leaves_before (λ ratio. ratio.row) leaves_first rule.compared (suc i) known rule.leaves in
    let first = best.2.holds in
    let is_row = first.is_row in
    let found = best.1 in
    let place : first.place ≡ i = omega (arith, is_row, found) in
    let own = each_ratio (GoesFirst best.0) (suc j) 1 d.basic d.rows rule.compared same rule.are_ratios best.2.first k (omega (arith, same, within)) positive in
    let value : best.0.value ≡ entry h.solved 0 = first.is_value ∙ ap (λ p. exact_quotient (entry (slice_index_or d.rows p []) 0) (entry (slice_index_or d.rows p []) (suc j))) place ∙ sym h.known.constant in
    let less : IsBelow best.0.value own.ratio.value =
    ⊎_elim (λ below. below)
    (λ back.
    let first_variable = own.known.smaller back in
    let own_variable = own.is_variable in
    let none : best.0.variable ≡ 0 = omega (arith, first_variable, own_variable, is_zero) in
    absurd (other (sym (same_place d first.place k lawful first.within within (sym first.is_variable ∙ none ∙ sym is_zero)) ∙ place)))
    (cases_below best.0.value own.ratio.value) in
    let made : entry (slice_index_or e.rows k []) 0 ≡ row_along j (entry h.solved 0) row =
    ap (λ f. entry (slice_index_or f.rows k []) 0) h.is_made ∙ ap (λ r. entry r 0) (replaced-other (other_row j h.solved) h.solved [] [] i k d.rows (omega (arith, same, within)) other) in
    subst (IsBelow zero_value) (sym made)
    (above_ratio (entry row (suc j)) (entry h.solved 0) (entry row 0) low (above_from_positive (entry row (suc j)) positive) (subst (λ t. IsBelow t (exact_quotient (entry row 0) (entry row (suc j)))) value (subst (IsBelow best.0.value) own.is_value less)))
