-- Where pivots by the rule are made, and where they leave the artificial variable.
use Rattle.std.specs.Prelude.{◌&&◌, not, is_none, is_some}
use Rattle.std.proofs.Common.{[], ◌≡◌, ◌≢◌, ◌∙◌, ◌==◌, ⊎_elim, refl, sym, ap, subst, subst₂, ℕ, zero, suc, ◌+◌, ◌-◌, ◌<◌, ◌≤◌, Bool, true, false, true≢false, cond, length, length-set, get_or-set_other, get_or-set_same, slice_index, slice_index_or, Contains, Option, Some, None, option_map, unwrap_or, Result, Ok, Err, List, pos, arith, eqb-true, eq-eqb, ne_eqb, ltb-true, ltb-false, nat_lt}
use Rattle.std.specs.List.{position_or_len}
use Rattle.std.proofs.lemmas.Bool.{cases_eq}
use Rattle.std.proofs.lemmas.List.Sums.{passes_at_first, position_or_len_is}
use Rattle.frac128.specs.Fraction.{Fraction}
use Rattle.dictionary.specs.Dictionary.{Dictionary, IsInShape, IsUniform, artificial_column, end_phase_one, entry, needs_phase_one, opening, pivot, row_at}
use Rattle.dictionary.specs.Rule.{Ratio, entering_column, is_above_zero, is_positive, least_row, leaving_row, ratios}
use Rattle.dictionary.specs.Solutions.{HasReducedNumbers, IsLawful}
use Rattle.dictionary.specs.declared.standard.Std.{Std}
use Rattle.dictionary.proofs.Points.Chosen.{Enters, entering-some, leaving-none, leaving-some, not_positive_from_at_most}
use Rattle.dictionary.proofs.Points.FirstPivot.{opening_place}
use Rattle.dictionary.proofs.Points.Lawful.{Turns, turn}
use Rattle.solve_defs.specs.Path.{Entering, Path, a_pivot, artificial, awaits_artificial, by_rule, coming, further, here, is_basic, is_bounded, is_phase_one, is_phase_one_over, next, settled}
use Rattle.relaxation_laws.specs.Reached.{Phase, Reached, at_opening, in_phase_one, in_phase_two}
use Rattle.relaxation_laws.proofs.ByRule.{ComesByRule, comes_artificial, comes_by_rule, is_basic-from}
use Rattle.relaxation_laws.proofs.FirstStep.{least_opening}
use Rattle.std.proofs.lemmas.List.Folds.{list_any_none}
use Rattle.relaxation_laws.proofs.Steps.{path_reached}
use Rattle.frac128.specs.Checked.{◌>>=◌}
use Rattle.frac128.specs.declared.operations.Wide.{Wide}
use Rattle.simplex_rule.specs.declared.steps.Place.{Place}
use Rattle.bland_rule.specs.Scans.{leaving}
use Rattle.simplex_rule.specs.OnPath.{IsOnPath, IsPivotPlace, place_of}

-- ---- the end of phase one

pub settled_over : (d : Dictionary) → is_phase_one_over d ≡ true → end_phase_one d ≡ settled d
unfolding settled
settled_over d over = ap (λ b. cond b (end_phase_one d) d) (sym over)

pub settled_not : (d : Dictionary) → is_phase_one_over d ≡ false → d ≡ settled d
unfolding settled
settled_not d over = ap (λ b. cond b (end_phase_one d) d) (sym over)

-- ---- places

pub at_place : {d : Dictionary} {r s c e : ℕ} → IsPivotPlace r c d → s ≡ r → e ≡ c → IsPivotPlace s e d
at_place {d = d} place rows columns = subst₂ (λ m n. IsPivotPlace m n d) (sym rows) (sym columns) place

positive-not_zero : (x : Fraction) → is_positive x ≡ true → x.num ≢ pos 0
positive-not_zero x h e = absurd (true≢false (sym h ∙ ap is_above_zero e))

is_not_rule : (c : ℕ) → by_rule c ≡ artificial → ⊥
is_not_rule c e = cc

waits_not : (d : Dictionary) (c : ℕ) → coming d ≡ a_pivot (by_rule c) → awaits_artificial d ≡ false
waits_not d c comes = by_test (awaits_artificial d) refl
  where
    by_test : (b : Bool) → awaits_artificial d ≡ b → b ≡ false
    by_test false e = refl
    by_test true e = absurd (is_not_rule c (comes_artificial d (by_rule c) e comes))

some_leaves : (d : Dictionary) (c : ℕ) (rs : List Ratio) → IsInShape d → is_bounded d c ≡ true → ratios d c ≡ Ok rs → leaving_row rs ≢ None
some_leaves d c rs shape bounded are_ratios none =
    let low = leaving-none d c rs shape are_ratios none in
    absurd (true≢false (sym bounded ∙ list_any_none (λ row. is_positive (entry row c)) d.rows (λ k e within. not_positive_from_at_most (entry (slice_index_or d.rows k e) c) (low k e within))))

same_rule : (c k : ℕ) → by_rule c ≡ by_rule k → c ≡ k
same_rule c k e = cc

pub rule_place : (d : Dictionary) (c : ℕ) (rs : List Ratio) → IsLawful d → coming d ≡ a_pivot (by_rule c) → ratios d c ≡ Ok rs → IsPivotPlace (unwrap_or (leaving_row rs) 0) c d
rule_place d c rs lawful comes are_ratios = of_row (leaving_row rs) refl
  where
    by : ComesByRule d (by_rule c)
    by = comes_by_rule d (by_rule c) (waits_not d c comes) comes

    is : by.column ≡ c
    is = sym (same_rule c by.column by.is_column)

    enters : Enters c d
    enters = entering-some d c (subst (λ k. entering_column d ≡ Some k) is by.enters)

    of_row : (o : Option ℕ) → leaving_row rs ≡ o → IsPivotPlace (unwrap_or o 0) c d
    of_row None e = absurd (some_leaves d c rs lawful.shape (subst (λ k. is_bounded d k ≡ true) is by.bounded) are_ratios e)
    of_row (Some r) e =
        let leaves = leaving-some d c r rs lawful.shape are_ratios e in
        let is_row = leaves.is_row in
        let below = leaves.within in
        let place : leaves.place ≡ r - 1 = omega (arith, is_row) in
        record {
          row_above = omega (arith, is_row);
          row_within = omega (arith, is_row, below);
          column_above = enters.above;
          column_within = enters.within;
          not_zero = positive-not_zero (entry (row_at d.rows r) c) (subst (λ k. is_positive (entry (slice_index_or d.rows k []) c) ≡ true) place leaves.positive);
        }

pub rule_column : (d : Dictionary) (c : ℕ) → coming d ≡ a_pivot (by_rule c) → c ≤ length d.nonbasic
rule_column d c comes =
    let by = comes_by_rule d (by_rule c) (waits_not d c comes) comes in
    (entering-some d c (subst (λ k. entering_column d ≡ Some k) (sym (same_rule c by.column by.is_column)) by.enters)).within

-- where a variable stands first
pub contains_artificial : (d : Dictionary) → artificial_column d ≤ length d.nonbasic → Contains d.nonbasic 0
contains_artificial d h =
    let j = position_or_len (λ v. v == 0) d.nonbasic in
    let within : j < length d.nonbasic = omega (arith, h) in
    (j, within, eqb-true _ _ (passes_at_first (λ v. v == 0) d.nonbasic 0 within))

-- what each dictionary on the path has
pub reached_of : (d : Dictionary) (h : IsOnPath d) → Reached h.form d
reached_of d h = path_reached h.form h.pivots d h.uniform h.lowest h.path

pub opening_has_place : (d : Dictionary) (h : IsOnPath d) → needs_phase_one h.form ≡ true → d ≡ opening h.form → IsPivotPlace (unwrap_or (least_row d) 0) (artificial_column d) d
opening_has_place d h needed is =
    let s = h.form in
    let found = least_opening s needed in
    let p = opening_place s found.0 h.uniform h.lowest needed found.1 in
    let here : IsPivotPlace found.0 (artificial_column (opening s)) (opening s) =
    record { row_above = p.row_above; row_within = p.row_within; column_above = p.column_above; column_within = p.column_within; not_zero = p.not_zero } in
    let there = subst (λ o. IsPivotPlace (unwrap_or o 0) (artificial_column (opening s)) (opening s)) (sym found.1) here in
    subst (λ e. IsPivotPlace (unwrap_or (least_row e) 0) (artificial_column e) e) (sym is) there

-- ---- the artificial variable behind a pivot

last_of : (p a n b : Bool) → (p && not a && n && not b) ≡ true → b ≡ true → ⊥
last_of true false true true h e = absurd (true≢false (sym h))
last_of true false true false h e = absurd (true≢false (sym e))
last_of true false false b h e = absurd (true≢false (sym h))
last_of true true n b h e = absurd (true≢false (sym h))
last_of false a n b h e = absurd (true≢false (sym h))

first_of_all : (p a n b : Bool) → (p && not a && n && not b) ≡ true → p ≡ true
first_of_all true a n b h = refl
first_of_all false a n b h = absurd (true≢false (sym h))

not_basic : (d : Dictionary) → is_phase_one_over d ≡ true → is_basic 0 d ≡ true → ⊥
not_basic d over basic = last_of (is_phase_one d) (awaits_artificial d) (is_none (entering_column d)) (is_basic 0 d) over basic

in_one : (d : Dictionary) → is_phase_one_over d ≡ true → is_phase_one d ≡ true
in_one d over = first_of_all (is_phase_one d) (awaits_artificial d) (is_none (entering_column d)) (is_basic 0 d) over

-- it was basic
from_basic : (i j k : ℕ) (d e : Dictionary) → Turns i j d e → k < length d.basic → slice_index d.basic k ≡ 0 → is_phase_one_over e ≡ true → Contains e.nonbasic 0
from_basic i j k d e turns within is over =
    let column_within = turns.column_within in
    let basic_size : length e.basic ≡ length d.basic = ap (λ f. length f.basic) turns.is_made ∙ length-set d.basic i (slice_index d.nonbasic j) in
    let nonbasic_size : length e.nonbasic ≡ length d.nonbasic = ap (λ f. length f.nonbasic) turns.is_made ∙ length-set d.nonbasic j (slice_index d.basic i) in
    ⊎_elim
    (λ leaves.
    let here : slice_index e.nonbasic j ≡ 0 = ap (λ f. slice_index f.nonbasic j) turns.is_made ∙ get_or-set_same d.nonbasic j (slice_index d.basic i) 0 column_within ∙ ap (slice_index d.basic) (sym leaves) ∙ is in
    let inside : j < length e.nonbasic = omega (arith, column_within, nonbasic_size) in
    (j, inside, here))
    (λ stays.
    let here : slice_index e.basic k ≡ 0 = ap (λ f. slice_index f.basic k) turns.is_made ∙ get_or-set_other d.basic i k (slice_index d.nonbasic j) 0 stays ∙ is in
    let inside : k < length e.basic = omega (arith, within, basic_size) in
    absurd (not_basic e over (is_basic-from e 0 k inside here)))
    (cases_eq k i)

-- it was nonbasic
from_nonbasic : (i j k : ℕ) (d e : Dictionary) → Turns i j d e → k < length d.nonbasic → slice_index d.nonbasic k ≡ 0 → is_phase_one_over e ≡ true → Contains e.nonbasic 0
from_nonbasic i j k d e turns within is over =
    let row_within = turns.row_within in
    let basic_size : length e.basic ≡ length d.basic = ap (λ f. length f.basic) turns.is_made ∙ length-set d.basic i (slice_index d.nonbasic j) in
    let nonbasic_size : length e.nonbasic ≡ length d.nonbasic = ap (λ f. length f.nonbasic) turns.is_made ∙ length-set d.nonbasic j (slice_index d.basic i) in
    ⊎_elim
    (λ enters.
    let here : slice_index e.basic i ≡ 0 = ap (λ f. slice_index f.basic i) turns.is_made ∙ get_or-set_same d.basic i (slice_index d.nonbasic j) 0 row_within ∙ ap (slice_index d.nonbasic) (sym enters) ∙ is in
    let inside : i < length e.basic = omega (arith, row_within, basic_size) in
    absurd (not_basic e over (is_basic-from e 0 i inside here)))
    (λ stays.
    let here : slice_index e.nonbasic k ≡ 0 = ap (λ f. slice_index f.nonbasic k) turns.is_made ∙ get_or-set_other d.nonbasic j k (slice_index d.basic i) 0 stays ∙ is in
    let inside : k < length e.nonbasic = omega (arith, within, nonbasic_size) in
    (k, inside, here))
    (cases_eq k j)

turned_over : (i j : ℕ) (d e : Dictionary) (h : IsOnPath d) → Turns i j d e → is_phase_one_over e ≡ true → Contains e.nonbasic 0
turned_over i j d e h turns over = by_phase (reached_of d h).phase
  where
    by_phase : Phase h.form d → Contains e.nonbasic 0
    by_phase (at_opening needed is) =
        let place = opening_has_place d h needed is in
        let found = contains_artificial d place.column_within in
        from_nonbasic i j found.0 d e turns found.1 found.2 over
    by_phase (in_phase_one w p) = from_basic i j p.artificial.place d e turns p.artificial.within p.artificial.is_artificial over
    by_phase (in_phase_two p) =
        let none : e.auxiliary ≡ None = ap (λ f. f.auxiliary) turns.is_made ∙ ap (option_map _) p.no_w in
        absurd (true≢false (sym (in_one e over) ∙ ap is_some none))

pub over_contains : (r c : ℕ) (d e : Dictionary) (h : IsOnPath d) → IsPivotPlace r c d → pivot r c d ≡ Ok e → is_phase_one_over e ≡ true → Contains e.nonbasic 0
over_contains zero c d e h place made over = absurd (let above = place.row_above in omega (arith, above))
over_contains (suc i) zero d e h place made over = absurd (let above = place.column_above in omega (arith, above))
over_contains (suc i) (suc j) d e h place made over =
    turned_over i j d e h (turn i j d e (reached_of d h).relaxes.lawful record { row_above = place.row_above; row_within = place.row_within; column_above = place.column_above; column_within = place.column_within; not_zero = place.not_zero; is_pivot = made }) over

-- ---- a pass for the artificial variable

pub none_more : (xs : List ℕ) (n : ℕ) → ((k : ℕ) → k < n → slice_index xs k ≢ 0) → slice_index xs n ≢ 0 → (k : ℕ) → k < n + 1 → slice_index xs k ≢ 0
none_more xs n before at_n k h = by_test (nat_lt k n) refl
  where
    by_test : (b : Bool) → nat_lt k n ≡ b → slice_index xs k ≢ 0
    by_test true e = before k (ltb-true k n e)
    by_test false e = let past = ltb-false k n e in let is : n ≡ k = omega (arith, past, h) in subst (λ m. slice_index xs m ≢ 0) is at_n

pub artificial_found : (d : Dictionary) (k : ℕ) → k < length d.nonbasic → ((i : ℕ) → i < k → slice_index d.nonbasic i ≢ 0) → slice_index d.nonbasic k ≡ 0 → k + 1 ≡ artificial_column d
artificial_found d k within before is =
    let place : position_or_len (λ v. v == 0) d.nonbasic ≡ k = position_or_len_is (λ v. v == 0) d.nonbasic k 0 (omega (arith, within)) (λ i below. ne_eqb (slice_index d.nonbasic i) 0 (before i below)) (λ _. eq-eqb _ _ is) in
    omega (arith, place)

-- ---- one pivot

pub next_by : (entering : Entering) (d : Dictionary) → ◌>>=◌ (place_of entering d) (λ place. ◌>>=◌ (pivot place.row place.column d) (λ e. Ok (settled e))) ≡ next entering d
unfolding next
next_by artificial d = refl
next_by (by_rule c) d = by_ratios (ratios d c)
  where
    by_ratios : (formed : Result (List Ratio) Wide)
        → ◌>>=◌ (◌>>=◌ formed (λ rs. let p : Result Place Wide = Ok record { row = unwrap_or (leaving_row rs) 0; column = c } in p)) (λ place. ◌>>=◌ (pivot place.row place.column d) (λ e. Ok (settled e)))
        ≡ ◌>>=◌ (◌>>=◌ formed (λ rs. pivot (unwrap_or (leaving_row rs) 0) c d)) (λ e. Ok (settled e))
    by_ratios (Ok rs) = refl
    by_ratios (Err e) = refl

pub next_stopped : (entering : Entering) (d : Dictionary) (e : Wide) → place_of entering d ≡ Err e → Err e ≡ next entering d
next_stopped entering d e h = ap (λ r. ◌>>=◌ r (λ place. ◌>>=◌ (pivot place.row place.column d) (λ f. Ok (settled f)))) (sym h) ∙ next_by entering d

pub next_refused : (entering : Entering) (d : Dictionary) (place : Place) (e : Wide) → place_of entering d ≡ Ok place → pivot place.row place.column d ≡ Err e → Err e ≡ next entering d
next_refused entering d place e h made =
    ap (λ r. ◌>>=◌ r (λ f. Ok (settled f))) (sym made) ∙ ap (λ r. ◌>>=◌ r (λ p. ◌>>=◌ (pivot p.row p.column d) (λ f. Ok (settled f)))) (sym h) ∙ next_by entering d

pub next_made : (entering : Entering) (d f : Dictionary) (place : Place) → place_of entering d ≡ Ok place → pivot place.row place.column d ≡ Ok f → Ok (settled f) ≡ next entering d
next_made entering d f place h made =
    ap (λ r. ◌>>=◌ r (λ e. Ok (settled e))) (sym made) ∙ ap (λ r. ◌>>=◌ r (λ p. ◌>>=◌ (pivot p.row p.column d) (λ e. Ok (settled e)))) (sym h) ∙ next_by entering d

pub path_on : (d f : Dictionary) (entering : Entering) → IsOnPath d → coming d ≡ a_pivot entering → Ok f ≡ next entering d → IsOnPath f
path_on d f entering h comes gives =
    record { form = h.form; uniform = h.uniform; lowest = h.lowest; pivots = suc h.pivots; path = further h.path record { entering = entering; comes = comes; gives = sym gives } }

pub leaving_from : (d : Dictionary) (c : ℕ) (o : Option ℕ) → leaving d c ≡ Ok o → (rs : List Ratio) × (ratios d c ≡ Ok rs) × (o ≡ leaving_row rs)
leaving_from d c o h = by_ratios (ratios d c) refl h
  where
    by_ratios : (formed : Result (List Ratio) Wide) → ratios d c ≡ formed → ◌>>=◌ formed (λ rs. Ok (leaving_row rs)) ≡ Ok o → (rs : List Ratio) × (ratios d c ≡ Ok rs) × (o ≡ leaving_row rs)
    by_ratios (Ok rs) e f = let same : leaving_row rs ≡ o = cc in (rs, e, sym same)
    by_ratios (Err w) e f = absurd cc

pub opening_on_path : (s : Std) (d : Dictionary) → IsUniform s → HasReducedNumbers s → d ≡ opening s → IsOnPath d
opening_on_path s d uniform lowest is = record { form = s; uniform = uniform; lowest = lowest; pivots = 0; path = subst (Path (opening s) 0) (sym is) here }
