-- The tests of a model's order, and lawful models.
use Rattle.std.proofs.Common.{◌≡◌, ℕ, zero, suc, ◌+◌, ◌-◌, ◌*◌, ◌<◌, ◌≤◌, ◌==◌, Bool, true, false, not, ◌&&◌, ◌||◌, ◌^◌, List, [], ◌∷◌, ◌++◌, length, map, drop, Option, Some, None, refl, sym, ap, ap₂, ◌∙◌, subst, arith, append_assoc, bytes_eq, position}
use Rattle.std.specs.Prelude.{◌≢◌, ◌↔◌, ℤ, pos, negsuc, unsigned_abs, nat_le, nat_lt, All, AllPairs, IfSome, IsTrue, filter_map, sum_by, slice_index_or, get_or}
use Rattle.std.specs.List.{list_all, list_any}
use Rattle.std.proofs.lemmas.Bool.{and_from, and_parts, false≢true, false_from_ne_true}
use Rattle.std.proofs.lemmas.Bool.Decides.{Decides-eqb, nat_tests}
use Rattle.std.proofs.lemmas.List.{append-nil, drop_all, drop_more}
use Rattle.std.proofs.lemmas.List.Quantifiers.{all_pairs_push}
use Rattle.std.proofs.lemmas.List.Sums.{AllPass-from_list_all, list_all-from_AllPass, sum_by-cons}
use Rattle.std.proofs.lemmas.Slice.Eq.{bytes_eq-Decides}
use Rattle.frac128.specs.Fraction.{Fraction, den}
use Rattle.model_data.specs.Lawful.{AreDistinct, IsBelowBoundSize, IsLawful, IsLawfulRow, IsLawfulVar, term_count}
use Rattle.model_data.specs.Names.{IsName, IsTag}
use Rattle.model_data.specs.declared.limits.TheConstants.{BOUND_SIZE, MAX_ROWS, MAX_TERMS, MAX_VARS}
use Rattle.model_data.specs.declared.model.Model.{Model}
use Rattle.model_data.specs.declared.model.Row.{Row}
use Rattle.model_data.specs.declared.model.Term.{Term}
use Rattle.model_data.specs.declared.model.Var.{Var}
use Rattle.rec_format.specs.Models.{model, row, var}
use Rattle.rec_format.specs.Orderly.{are_new, are_rising, are_terms_within, has_distinct_names, has_near_bounds, has_orderly_parts, is_in_limits, is_near, is_new, is_next, is_orderly, is_zero, with_new}
use Rattle.rec_format.proofs.Composing.{all_first, all_more, all_none, all_rest, all_weaker, cases}

-- ---- tests of numbers

pub le_from : (a b : ℕ) → nat_le a b ≡ true → a ≤ b
le_from a b h = grind (arith, nat_tests)

pub le_to : (a b : ℕ) → a ≤ b → nat_le a b ≡ true
le_to a b h = grind (arith, nat_tests)

lt_from : (a b : ℕ) → nat_lt a b ≡ true → a < b
lt_from a b h = grind (arith, nat_tests)

lt_to : (a b : ℕ) → a < b → nat_lt a b ≡ true
lt_to a b h = grind (arith, nat_tests)

-- ---- bounds

near_from : (o : Option Fraction) → is_near o ≡ true → IfSome o IsBelowBoundSize
near_from None h = tt
near_from (Some x) h = grind (arith, nat_tests)

near_to : (o : Option Fraction) → IfSome o IsBelowBoundSize → is_near o ≡ true
near_to None h = refl
near_to (Some x) h = let below : unsigned_abs x.num < BOUND_SIZE * den x = h in grind (arith, nat_tests)

-- ---- terms

zero_from : (x : Fraction) → is_zero x ≡ true → x.num ≡ pos 0
zero_from x h = size_zero x.num ((Decides-eqb (unsigned_abs x.num) 0).0 h)
  where
    size_zero : (z : ℤ) → unsigned_abs z ≡ 0 → z ≡ pos 0
    size_zero (pos n) e = ap (λ (k : ℕ). pos k) e
    size_zero (negsuc n) e = absurd (omega arith)

zero_to : (x : Fraction) → x.num ≡ pos 0 → is_zero x ≡ true
zero_to x h = ap (λ (z : ℤ). unsigned_abs z == 0) h

not_from : (b : Bool) → not b ≡ true → b ≡ true → ⊥
not_from true h e = absurd (cc)
not_from false h e = absurd (cc)

not_to : (b : Bool) → (b ≡ true → ⊥) → not b ≡ true
not_to true h = absurd (h refl)
not_to false h = refl

pub not_false : (b : Bool) → not b ≡ false → b ≡ true
not_false true h = refl
not_false false h = absurd (cc)

pub not_true : (b : Bool) → not b ≡ true → b ≡ false
not_true true h = absurd (cc)
not_true false h = refl

-- terms that rise from a variable on
record Rising (least vars : ℕ) (ts : List Term) : Type 0 where
  from_least : All (λ t. least ≤ t.var) ts
  places : All (λ t. t.var < vars) ts
  rising : AllPairs (λ s t. s.var < t.var) ts
  not_zero : All (λ t. t.coef.num ≢ pos 0) ts

pairs_more : {A : Type 0} (R : A → A → Type 0) (x : A) (xs : List A) → All (R x) xs → AllPairs R xs → AllPairs R (x ∷ xs)
pairs_more R x xs first rest zero zero d less within = absurd (omega arith)
pairs_more R x xs first rest zero (suc j) d less within = first j d (omega (arith, within))
pairs_more R x xs first rest (suc i) zero d less within = absurd (omega arith)
pairs_more R x xs first rest (suc i) (suc j) d less within = rest i j d (omega (arith, less)) (omega (arith, within))

pairs_first : {A : Type 0} (R : A → A → Type 0) (x : A) (xs : List A) → AllPairs R (x ∷ xs) → All (R x) xs
pairs_first R x xs h k d within = h zero (suc k) d (omega arith) (omega (arith, within))

pairs_rest : {A : Type 0} (R : A → A → Type 0) (x : A) (xs : List A) → AllPairs R (x ∷ xs) → AllPairs R xs
pairs_rest R x xs h i j d less within = h (suc i) (suc j) d (omega (arith, less)) (omega (arith, within))

pairs_none : {A : Type 0} (R : A → A → Type 0) → AllPairs R []
pairs_none R i j d less within = absurd (omega arith)

rising_from : (least vars : ℕ) (ts : List Term) → are_rising least vars ts ≡ true → Rising least vars ts
unfolding are_rising
rising_from least vars [] h = record {
  from_least = all_none (λ (t : Term). least ≤ t.var);
  places = all_none (λ (t : Term). t.var < vars);
  rising = pairs_none (λ (s t : Term). s.var < t.var);
  not_zero = all_none (λ (t : Term). t.coef.num ≢ pos 0);
}
rising_from least vars (t ∷ ts) h =
    let parts : (is_next least vars t ≡ true) × (are_rising (t.var + 1) vars ts ≡ true) = and_parts (is_next least vars t) (are_rising (t.var + 1) vars ts) h in
    let own : ((nat_le least t.var && nat_lt t.var vars) ≡ true) × (not (is_zero t.coef) ≡ true) = and_parts (nat_le least t.var && nat_lt t.var vars) (not (is_zero t.coef)) parts.0 in
    let place : (nat_le least t.var ≡ true) × (nat_lt t.var vars ≡ true) = and_parts (nat_le least t.var) (nat_lt t.var vars) own.0 in
    let low : least ≤ t.var = le_from least t.var place.0 in
    let within : t.var < vars = lt_from t.var vars place.1 in
    let rest = rising_from (t.var + 1) vars ts parts.1 in
    record {
      from_least = all_more (λ (s : Term). least ≤ s.var) t ts low (all_weaker (λ (s : Term). t.var + 1 ≤ s.var) (λ (s : Term). least ≤ s.var) ts (λ s above. omega (arith, low, above)) rest.from_least);
      places = all_more (λ (s : Term). s.var < vars) t ts within rest.places;
      rising = pairs_more (λ (s u : Term). s.var < u.var) t ts (all_weaker (λ (s : Term). t.var + 1 ≤ s.var) (λ (s : Term). t.var < s.var) ts (λ s above. omega (arith, above)) rest.from_least) rest.rising;
      not_zero = all_more (λ (s : Term). s.coef.num ≢ pos 0) t ts (λ e. not_from (is_zero t.coef) own.1 (zero_to t.coef e)) rest.not_zero;
    }

rising_to : (least vars : ℕ) (ts : List Term) → Rising least vars ts → are_rising least vars ts ≡ true
unfolding are_rising
rising_to least vars [] h = refl
rising_to least vars (t ∷ ts) h =
    let low : least ≤ t.var = all_first (λ (s : Term). least ≤ s.var) t ts h.from_least in
    let within : t.var < vars = all_first (λ (s : Term). s.var < vars) t ts h.places in
    let low_test : nat_le least t.var ≡ true = le_to least t.var low in
    let within_test : nat_lt t.var vars ≡ true = lt_to t.var vars within in
    let some : t.coef.num ≢ pos 0 = all_first (λ (s : Term). s.coef.num ≢ pos 0) t ts h.not_zero in
    let above : All (λ (s : Term). t.var < s.var) ts = pairs_first (λ (s u : Term). s.var < u.var) t ts h.rising in
    and_from (is_next least vars t) (are_rising (t.var + 1) vars ts) (and_from (nat_le least t.var && nat_lt t.var vars) (not (is_zero t.coef)) (and_from (nat_le least t.var) (nat_lt t.var vars) low_test within_test) (not_to (is_zero t.coef) (λ e. some (zero_from t.coef e))))
    (rising_to (t.var + 1) vars ts record {
      from_least = all_weaker (λ (s : Term). t.var < s.var) (λ (s : Term). t.var + 1 ≤ s.var) ts (λ s more. omega (arith, more)) above;
      places = all_rest (λ (s : Term). s.var < vars) t ts h.places;
      rising = pairs_rest (λ (s u : Term). s.var < u.var) t ts h.rising;
      not_zero = all_rest (λ (s : Term). s.coef.num ≢ pos 0) t ts h.not_zero;
    })

-- ---- how many terms

pub sum_first : (r : Row) (rows : List Row) → sum_by (λ (s : Row). length s.terms) (r ∷ rows) ≡ length r.terms + sum_by (λ (s : Row). length s.terms) rows
sum_first r rows = sum_by-cons (λ (s : Row). length s.terms) r rows

terms_from : (most : ℕ) (rows : List Row) → are_terms_within most rows ≡ true → sum_by (λ r. length r.terms) rows ≤ most
unfolding are_terms_within
terms_from most [] h = omega arith
terms_from most (r ∷ rows) h =
    let parts = and_parts (nat_le (length r.terms) most) (are_terms_within (most - length r.terms) rows) h in
    let first : length r.terms ≤ most = le_from (length r.terms) most parts.0 in
    let rest = terms_from (most - length r.terms) rows parts.1 in
    omega (arith, first, rest, sum_first r rows)

terms_to : (most : ℕ) (rows : List Row) → sum_by (λ r. length r.terms) rows ≤ most → are_terms_within most rows ≡ true
unfolding are_terms_within
terms_to most [] h = refl
terms_to most (r ∷ rows) h =
    let first : length r.terms ≤ most = omega (arith, h, sum_first r rows) in
    and_from (nat_le (length r.terms) most) (are_terms_within (most - length r.terms) rows) (le_to (length r.terms) most first) (terms_to (most - length r.terms) rows (omega (arith, h, sum_first r rows)))

-- ---- texts

-- no text is one that was seen
abbrev IsApart : List (List ℕ) → List ℕ → Type 0
IsApart seen t = All (λ (s : List ℕ). s ≢ t) seen

apart_from : (seen : List (List ℕ)) (t : List ℕ) → list_any (bytes_eq t) seen ≡ false → IsApart seen t
apart_from [] t h = all_none _
apart_from (s ∷ seen) t h = all_more (λ (u : List ℕ). u ≢ t) s seen
    (λ e. false≢true (sym h ∙ first (bytes_eq t s) ((bytes_eq-Decides t s).1 (sym e))))
    (apart_from seen t (rest (bytes_eq t s) h))
  where
    first : (b : Bool) → b ≡ true → (b || list_any (bytes_eq t) seen) ≡ true
    first true e = refl
    first false e = absurd (cc)

    rest : (b : Bool) → (b || list_any (bytes_eq t) seen) ≡ false → list_any (bytes_eq t) seen ≡ false
    rest true e = absurd (cc)
    rest false e = e

apart_to : (seen : List (List ℕ)) (t : List ℕ) → IsApart seen t → list_any (bytes_eq t) seen ≡ false
apart_to [] t h = refl
apart_to (s ∷ seen) t h =
    let first : bytes_eq t s ≡ false = false_from_ne_true (bytes_eq t s) (λ e. all_first (λ (u : List ℕ). u ≢ t) s seen h (sym ((bytes_eq-Decides t s).0 e))) in
    rw first (apart_to seen t (all_rest (λ (u : List ℕ). u ≢ t) s seen h))

pairs_front : {A : Type 0} (R : A → A → Type 0) (xs ys : List A) → AllPairs R (xs ++ ys) → AllPairs R xs
pairs_front R [] ys h = pairs_none R
pairs_front R (x ∷ xs) ys h = pairs_more R x xs (all_front (R x) xs ys (pairs_first R x (xs ++ ys) h)) (pairs_front R xs ys (pairs_rest R x (xs ++ ys) h))
  where
    all_front : {B : Type 0} (P : B → Type 0) (us vs : List B) → All P (us ++ vs) → All P us
    all_front P [] vs k = all_none P
    all_front P (u ∷ us) vs k = all_more P u us (all_first P u (us ++ vs) k) (all_front P us vs (all_rest P u (us ++ vs) k))

-- of a list with one more, each is apart from the last
last_apart : (seen : List (List ℕ)) (t : List ℕ) (ts : List (List ℕ)) → AreDistinct (seen ++ t ∷ ts) → IsApart seen t
last_apart [] t ts h = all_none _
last_apart (s ∷ seen) t ts h = all_more (λ (u : List ℕ). u ≢ t) s seen
    (at_middle seen (pairs_first (λ (x y : List ℕ). x ≢ y) s (seen ++ t ∷ ts) h))
    (last_apart seen t ts (pairs_rest (λ (x y : List ℕ). x ≢ y) s (seen ++ t ∷ ts) h))
  where
    at_middle : (us : List (List ℕ)) → All (λ (y : List ℕ). s ≢ y) (us ++ t ∷ ts) → s ≢ t
    at_middle [] k = all_first (λ (y : List ℕ). s ≢ y) t ts k
    at_middle (u ∷ us) k = at_middle us (all_rest (λ (y : List ℕ). s ≢ y) u (us ++ t ∷ ts) k)

one_more : (seen : List (List ℕ)) (t : List ℕ) (ts : List (List ℕ)) → (seen ++ t ∷ []) ++ ts ≡ seen ++ t ∷ ts
one_more seen t ts = append_assoc seen (t ∷ []) ts

new_from : (seen ts : List (List ℕ)) → AreDistinct seen → are_new seen ts ≡ true → AreDistinct (seen ++ ts)
unfolding are_new
new_from seen [] distinct h = subst AreDistinct (sym (append-nil seen)) distinct
new_from seen (t ∷ ts) distinct h =
    let parts = and_parts (not (list_any (bytes_eq t) seen)) (are_new (seen ++ t ∷ []) ts) h in
    let apart : IsApart seen t = apart_from seen t (unnot (list_any (bytes_eq t) seen) parts.0) in
    subst AreDistinct (one_more seen t ts) (new_from (seen ++ t ∷ []) ts (all_pairs_push (λ x y. x ≢ y) seen t distinct apart) parts.1)
  where
    unnot : (b : Bool) → not b ≡ true → b ≡ false
    unnot true e = absurd (cc)
    unnot false e = refl

new_to : (seen ts : List (List ℕ)) → AreDistinct (seen ++ ts) → are_new seen ts ≡ true
unfolding are_new
new_to seen [] h = refl
new_to seen (t ∷ ts) h =
    let apart : list_any (bytes_eq t) seen ≡ false = apart_to seen t (last_apart seen t ts h) in
    and_from (not (list_any (bytes_eq t) seen)) (are_new (seen ++ t ∷ []) ts) (ap not apart) (new_to (seen ++ t ∷ []) ts (subst AreDistinct (sym (one_more seen t ts)) h))

-- ---- models

lawful_var : (v : Var) → var.Fits v → has_near_bounds v ≡ true → IsLawfulVar v
lawful_var v fit near =
    let bounds = and_parts (is_near v.lower) (is_near v.upper) near in
    record { name = fit.0.0; tag = tag_of v.tag fit.1.1.1.1.1; lower = near_from v.lower bounds.0; upper = near_from v.upper bounds.1 }
  where
    tag_of : (o : Option (List ℕ)) → IfSome o (λ t. IsTag t × ((length t < 256 ^ 1) × All (λ b. b < 256) t)) → IfSome o IsTag
    tag_of None h = tt
    tag_of (Some t) h = h.0

lawful_row : (vars : ℕ) (r : Row) → row.Fits r → are_rising 0 vars r.terms ≡ true → IsLawfulRow vars r
lawful_row vars r fit rising =
    let terms = rising_from 0 vars r.terms rising in
    record { name = fit.0.0; places = terms.places; rising = terms.rising; not_zero = terms.not_zero }

all_both : {A : Type 0} (P Q R : A → Type 0) (xs : List A) → ((x : A) → P x → Q x → R x) → All P xs → All Q xs → All R xs
all_both P Q R xs f p q k d within = f (slice_index_or xs k d) (p k d within) (q k d within)

pub lawful_from : (m : Model) → model.Fits m → is_orderly m ≡ true → IsLawful m
lawful_from m fit h =
    let parts = and_parts (has_orderly_parts m) (has_distinct_names m) h in
    let orderly = and_parts (is_in_limits m) (list_all has_near_bounds m.vars && list_all (λ r. are_rising 0 (length m.vars) r.terms) m.rows) parts.0 in
    let limits = and_parts (nat_le (length m.vars) MAX_VARS && nat_le (length m.rows) MAX_ROWS) (are_terms_within MAX_TERMS m.rows) orderly.0 in
    let counts = and_parts (nat_le (length m.vars) MAX_VARS) (nat_le (length m.rows) MAX_ROWS) limits.0 in
    let items = and_parts (list_all has_near_bounds m.vars) (list_all (λ r. are_rising 0 (length m.vars) r.terms) m.rows) orderly.1 in
    let names = and_parts (are_new [] (map (λ v. v.name) m.vars)) (are_new [] (map (λ r. r.name) m.rows) && are_new [] (filter_map (λ v. v.tag) m.vars)) parts.1 in
    let others = and_parts (are_new [] (map (λ r. r.name) m.rows)) (are_new [] (filter_map (λ v. v.tag) m.vars)) names.1 in
    let none : AreDistinct [] = pairs_none (λ x y. x ≢ y) in
    record {
      vars = all_both var.Fits (λ v. has_near_bounds v ≡ true) IsLawfulVar m.vars lawful_var fit.1.1.0.1 (AllPass-from_list_all has_near_bounds m.vars items.0);
      rows = all_both row.Fits (λ r. are_rising 0 (length m.vars) r.terms ≡ true) (IsLawfulRow (length m.vars)) m.rows (lawful_row (length m.vars)) fit.1.1.1.1
          (AllPass-from_list_all (λ r. are_rising 0 (length m.vars) r.terms) m.rows items.1);
      var_names = new_from [] (map (λ v. v.name) m.vars) none names.0;
      row_names = new_from [] (map (λ r. r.name) m.rows) none others.0;
      tags = new_from [] (filter_map (λ v. v.tag) m.vars) none others.1;
      var_limit = le_from (length m.vars) MAX_VARS counts.0;
      row_limit = le_from (length m.rows) MAX_ROWS counts.1;
      term_limit = terms_from MAX_TERMS m.rows limits.1;
    }

pub lawful_to : (m : Model) → IsLawful m → is_orderly m ≡ true
lawful_to m h =
    let var_limit : length m.vars ≤ MAX_VARS = h.var_limit in
    let row_limit : length m.rows ≤ MAX_ROWS = h.row_limit in
    let vars_test : nat_le (length m.vars) MAX_VARS ≡ true = grind (arith, nat_tests) in
    let rows_test : nat_le (length m.rows) MAX_ROWS ≡ true = grind (arith, nat_tests) in
    and_from _ _
    (and_from _ _ (and_from _ _ (and_from _ _ vars_test rows_test) (terms_to MAX_TERMS m.rows h.term_limit))
    (and_from _ _ (list_all-from_AllPass has_near_bounds m.vars (all_weaker IsLawfulVar (λ v. has_near_bounds v ≡ true) m.vars (λ v l. and_from _ _ (near_to v.lower l.lower) (near_to v.upper l.upper)) h.vars))
    (list_all-from_AllPass (λ r. are_rising 0 (length m.vars) r.terms) m.rows (all_weaker (IsLawfulRow (length m.vars)) (λ r. are_rising 0 (length m.vars) r.terms ≡ true) m.rows (λ r l. rising_to 0 (length m.vars) r.terms
    record { from_least = λ k d within. omega arith; places = l.places; rising = l.rising; not_zero = l.not_zero }) h.rows))))
    (and_from _ _ (new_to [] (map (λ v. v.name) m.vars) h.var_names) (and_from _ _ (new_to [] (map (λ r. r.name) m.rows) h.row_names) (new_to [] (filter_map (λ v. v.tag) m.vars) h.tags)))

-- ---- where a loop over the items ends early

terms_stop : (most : ℕ) (r : Row) (rows : List Row) → most < length r.terms → are_terms_within most (r ∷ rows) ≡ false
unfolding are_terms_within
terms_stop most r rows more = false_from_ne_true (nat_le (length r.terms) most && are_terms_within (most - length r.terms) rows) (λ h.
    let fits : length r.terms ≤ most = le_from (length r.terms) most (and_parts (nat_le (length r.terms) most) (are_terms_within (most - length r.terms) rows) h).0 in
    omega (arith, fits, more))

pub terms_stop_at : (most i : ℕ) (rows : List Row) (r : Row) → i < length rows → r ≡ get_or rows i r → most < length r.terms → are_terms_within most (drop i rows) ≡ false
terms_stop_at most i rows r less is more =
    ap (are_terms_within most) (drop_more rows i r less) ∙ terms_stop most (get_or rows i r) (drop (i + 1) rows) (subst (λ (s : Row). most < length s.terms) is more)

rising_stop : (least vars : ℕ) (t : Term) (ts : List Term) → is_next least vars t ≡ false → are_rising least vars (t ∷ ts) ≡ false
unfolding are_rising
rising_stop least vars t ts h = rw h refl

pub rising_stop_at : (least vars i : ℕ) (ts : List Term) (t : Term) → i < length ts → t ≡ get_or ts i t → is_next least vars t ≡ false → are_rising least vars (drop i ts) ≡ false
rising_stop_at least vars i ts t less is h =
    ap (are_rising least vars) (drop_more ts i t less) ∙ rising_stop least vars (get_or ts i t) (drop (i + 1) ts) (subst (λ (s : Term). is_next least vars s ≡ false) is h)

new_stop : (seen : List (List ℕ)) (t : List ℕ) (ts : List (List ℕ)) → list_any (bytes_eq t) seen ≡ true → are_new seen (t ∷ ts) ≡ false
unfolding are_new
new_stop seen t ts h = rw h refl

pub new_stop_at : {A : Type 0} (name : A → List ℕ) (seen : List (List ℕ)) (i : ℕ) (xs : List A) (x : A) → i < length xs → x ≡ get_or xs i x → list_any (bytes_eq (name x)) seen ≡ true
    → are_new seen (map name (drop i xs)) ≡ false
new_stop_at name seen i xs x less is h =
    ap (λ l. are_new seen (map name l)) (drop_more xs i x less) ∙ new_stop seen (name (get_or xs i x)) (map name (drop (i + 1) xs)) (subst (λ y. list_any (bytes_eq (name y)) seen ≡ true) is h)

-- ---- where it goes on

rising_more : (least vars : ℕ) (t : Term) (ts : List Term) → is_next least vars t ≡ true → are_rising least vars (t ∷ ts) ≡ are_rising (t.var + 1) vars ts
unfolding are_rising
rising_more least vars t ts h = rw h refl

pub rising_step_at : (least vars i : ℕ) (ts : List Term) (t : Term) → i < length ts → t ≡ get_or ts i t → is_next least vars t ≡ true
    → are_rising least vars (drop i ts) ≡ are_rising (t.var + 1) vars (drop (i + 1) ts)
rising_step_at least vars i ts t less is h =
    ap (are_rising least vars) (drop_more ts i t less ∙ ap (λ (s : Term). s ∷ drop (i + 1) ts) (sym is)) ∙ rising_more least vars t (drop (i + 1) ts) h

pub rising_end : (least vars i : ℕ) (ts : List Term) → length ts ≤ i → are_rising least vars (drop i ts) ≡ true
unfolding are_rising
rising_end least vars i ts past = ap (are_rising least vars) (drop_all i ts past)

new_more : (seen : List (List ℕ)) (t : List ℕ) (ts : List (List ℕ)) → list_any (bytes_eq t) seen ≡ false → are_new seen (t ∷ ts) ≡ are_new (seen ++ t ∷ []) ts
unfolding are_new
new_more seen t ts h = rw h refl

pub new_step_at : {A : Type 0} (name : A → List ℕ) (seen : List (List ℕ)) (i : ℕ) (xs : List A) (x : A) → i < length xs → x ≡ get_or xs i x → list_any (bytes_eq (name x)) seen ≡ false
    → are_new seen (map name (drop i xs)) ≡ are_new (seen ++ name x ∷ []) (map name (drop (i + 1) xs))
new_step_at {A = A} name seen i xs x less is h =
    ap (λ (l : List A). are_new seen (map name l)) (drop_more xs i x less ∙ ap (λ (y : A). y ∷ drop (i + 1) xs) (sym is)) ∙ new_more seen (name x) (map name (drop (i + 1) xs)) h

pub new_end : {A : Type 0} (name : A → List ℕ) (seen : List (List ℕ)) (i : ℕ) (xs : List A) → length xs ≤ i → are_new seen (map name (drop i xs)) ≡ true
unfolding are_new
new_end {A = A} name seen i xs past = ap (λ (l : List A). are_new seen (map name l)) (drop_all i xs past)

-- the same of the texts that some items have
at_item : {A : Type 0} (name : A → Option (List ℕ)) (seen : List (List ℕ)) (i : ℕ) (xs : List A) (x : A) → i < length xs → x ≡ get_or xs i x
    → are_new seen (filter_map name (drop i xs)) ≡ are_new seen (filter_map name (x ∷ drop (i + 1) xs))
at_item {A = A} name seen i xs x less is = ap (λ (l : List A). are_new seen (filter_map name l)) (drop_more xs i x less ∙ ap (λ (y : A). y ∷ drop (i + 1) xs) (sym is))

with_text : {A : Type 0} (name : A → Option (List ℕ)) (x : A) (t : List ℕ) (xs : List A) → name x ≡ Some t → filter_map name (x ∷ xs) ≡ t ∷ filter_map name xs
with_text name x t xs e = rw e refl

without_text : {A : Type 0} (name : A → Option (List ℕ)) (x : A) (xs : List A) → name x ≡ None → filter_map name (x ∷ xs) ≡ filter_map name xs
without_text name x xs e = rw e refl

pub option_stop_at : {A : Type 0} (name : A → Option (List ℕ)) (seen : List (List ℕ)) (i : ℕ) (xs : List A) (x : A) → i < length xs → x ≡ get_or xs i x
    → is_new seen (name x) ≡ false → are_new seen (filter_map name (drop i xs)) ≡ false
option_stop_at {A = A} name seen i xs x less is h = at_item name seen i xs x less is ∙ by (name x) refl h
  where
    by : (o : Option (List ℕ)) → name x ≡ o → is_new seen o ≡ false → are_new seen (filter_map name (x ∷ drop (i + 1) xs)) ≡ false
    by None e k = absurd (cc)
    by (Some t) e k = ap (are_new seen) (with_text name x t (drop (i + 1) xs) e) ∙ new_stop seen t (filter_map name (drop (i + 1) xs)) (not_false (list_any (bytes_eq t) seen) k)

pub option_step_at : {A : Type 0} (name : A → Option (List ℕ)) (seen : List (List ℕ)) (i : ℕ) (xs : List A) (x : A) → i < length xs → x ≡ get_or xs i x
    → is_new seen (name x) ≡ true → are_new seen (filter_map name (drop i xs)) ≡ are_new (with_new seen (name x)) (filter_map name (drop (i + 1) xs))
option_step_at {A = A} name seen i xs x less is h = at_item name seen i xs x less is ∙ (by (name x) refl h)
  where
    by : (o : Option (List ℕ)) → name x ≡ o → is_new seen o ≡ true → are_new seen (filter_map name (x ∷ drop (i + 1) xs)) ≡ are_new (with_new seen o) (filter_map name (drop (i + 1) xs))
    by None e k = ap (are_new seen) (without_text name x (drop (i + 1) xs) e)
    by (Some t) e k = ap (are_new seen) (with_text name x t (drop (i + 1) xs) e) ∙ new_more seen t (filter_map name (drop (i + 1) xs)) (not_true (list_any (bytes_eq t) seen) k)

pub some_end : {A : Type 0} (name : A → Option (List ℕ)) (seen : List (List ℕ)) (i : ℕ) (xs : List A) → length xs ≤ i → are_new seen (filter_map name (drop i xs)) ≡ true
unfolding are_new
some_end {A = A} name seen i xs past = ap (λ (l : List A). are_new seen (filter_map name l)) (drop_all i xs past)

terms_more : (most : ℕ) (r : Row) (rows : List Row) → length r.terms ≤ most → are_terms_within most (r ∷ rows) ≡ are_terms_within (most - length r.terms) rows
unfolding are_terms_within
terms_more most r rows fits = let test : nat_le (length r.terms) most ≡ true = le_to (length r.terms) most fits in rw test refl

pub terms_step_at : (most i : ℕ) (rows : List Row) (r : Row) → i < length rows → r ≡ get_or rows i r → length r.terms ≤ most
    → are_terms_within most (drop i rows) ≡ are_terms_within (most - length r.terms) (drop (i + 1) rows)
terms_step_at most i rows r less is fits =
    ap (are_terms_within most) (drop_more rows i r less ∙ ap (λ (s : Row). s ∷ drop (i + 1) rows) (sym is)) ∙ terms_more most r (drop (i + 1) rows) fits

pub terms_end : (most i : ℕ) (rows : List Row) → length rows ≤ i → are_terms_within most (drop i rows) ≡ true
unfolding are_terms_within
terms_end most i rows past = ap (are_terms_within most) (drop_all i rows past)
