-- What holds of a row that isn't whole: its terms rise, and are of variables that are there.
use Rattle.std.proofs.Common.{◌≡◌, ◌≢◌, refl, ap, subst, ℕ, suc, ◌+◌, ◌<◌, ◌≤◌, Bool, true, false, ◌||◌, IsTrue, IsFalse, List, [], ◌∷◌, ◌++◌, length, nat_lt, nat_le, ◌==◌, Option, Some, None, pos, unsigned_abs, bytes_eq, arith, cond, not, option_and_then, if◌then◌else◌, length-append}
use Rattle.std.specs.List.{list_any, position_or_len}
use Rattle.std.specs.Prelude.{All, AllPairs}
use Rattle.std.proofs.lemmas.Bool.{leb-true}
use Rattle.std.proofs.lemmas.Bool.Decides.{nat_tests}
use Rattle.std.proofs.lemmas.List.Kept.{AllPairs-cons}
use Rattle.std.proofs.lemmas.List.Elements.{All-cons, All-nil, All-push}
use Rattle.std.proofs.lemmas.List.Sums.{sum_by_push}
use Rattle.frac128.specs.Fits.{sum_fits}
use Rattle.frac128.specs.Fraction.{Fraction, exact_sum}
use Rattle.frac128.specs.Lowest.{IsKept}
use Rattle.frac128.proofs.Kept.{IsKept-sum, IsKept-zero}
use Rattle.model_data.specs.Lawful.{term_count}
use Rattle.model_data.specs.Names.{IsName}
use Rattle.model_data.specs.declared.limits.TheConstants.{MAX_ROWS, MAX_TERMS, MAX_VARS}
use Rattle.model_data.specs.declared.model.Model.{Model}
use Rattle.model_data.specs.declared.model.Row.{Row}
use Rattle.model_data.specs.declared.model.Sense.{Sense}
use Rattle.model_data.specs.declared.model.Term.{Term}
use Rattle.model_data.specs.declared.model.Var.{Var}
use Rattle.lp_defs.specs.Draft.{Unfinished, before_terms, close_row, coefficient_in, has_room_for_row, knows_row, knows_var, mention, new_var, var_place, with_coefficient, with_sum, within_terms}
use Rattle.lp_defs.specs.Grammar.{AddsToRow}
use Rattle.lp_defs.specs.Quantity.{added}
use Rattle.lp_defs.proofs.Named.{same_text}
use Rattle.lp_defs.proofs.Sound.{IsSound, mention_sound, still_distinct}
use Rattle.lp_defs.proofs.Told.{knows_one}
use Rattle.lp_defs.proofs.Writable.{IsWritableRow}

-- Sums

pub sum_kept : (so_far x sum : Fraction) → IsKept so_far → IsKept x → added so_far x ≡ Some sum → IsKept sum
sum_kept so_far x sum h k e = by_test (sum_fits so_far x) refl e
  where
    by_test : (b : Bool) → sum_fits so_far x ≡ b → (if b then Some (exact_sum so_far x) else None) ≡ Some sum → IsKept sum
    by_test true fits e = let is : exact_sum so_far x ≡ sum = cc in subst IsKept is (IsKept-sum so_far x h k fits)
    by_test false fits e = absurd cc

-- Terms

pub record IsSoundTerm (vars : ℕ) (t : Term) : Type 0 where
  pub place : t.var < vars
  pub not_zero : t.coef.num ≢ pos 0
  pub kept : IsKept t.coef

-- Sound terms, which rise by variable from a place on
pub data Rises (vars : ℕ) : ℕ → List Term → Type 0 where
  nothing : {from : ℕ} → Rises vars from []
  one_more : {from : ℕ} {t : Term} {terms : List Term} → from ≤ t.var → IsSoundTerm vars t → Rises vars (suc t.var) terms → Rises vars from (t ∷ terms)

pub no_terms : {vars : ℕ} → Rises vars 0 []
no_terms = nothing

from_before : {vars from : ℕ} {terms : List Term} (place : ℕ) → place ≤ from → Rises vars from terms → Rises vars place terms
from_before place less nothing = nothing
from_before place less (one_more low here rest) = one_more (omega (arith, less, low)) here rest

of_more : {vars from : ℕ} {terms : List Term} (all : ℕ) → vars ≤ all → Rises vars from terms → Rises all from terms
of_more all more nothing = nothing
of_more all more (one_more low here rest) =
    one_more low (record { place = omega (arith, more, here.place); not_zero = here.not_zero; kept = here.kept }) (of_more all more rest)

before_rises : {vars from : ℕ} (place : ℕ) (x : Fraction) (terms : List Term) → place < vars → from ≤ place → IsKept x →
    Rises vars (suc place) terms → Rises vars from (before_terms place x terms)
before_rises {vars} {from} place x terms within low kept rises = by_test (unsigned_abs x.num == 0) refl
  where
    by_test : (b : Bool) → (unsigned_abs x.num == 0) ≡ b → Rises vars from (if b then terms else record { var = place; coef = x } ∷ terms)
    by_test true e = from_before from (omega (arith, low)) rises
    by_test false e =
        let not_zero : x.num ≢ pos 0 = λ z. let zero : (unsigned_abs x.num == 0) ≡ true = ap (λ n. unsigned_abs n == 0) z in cc in
        one_more low (record { place = within; not_zero = not_zero; kept = kept }) rises

with_rises : {vars from : ℕ} (place : ℕ) (x : Fraction) (terms : List Term) → place < vars → from ≤ place → IsKept x →
    Rises vars from terms → Rises vars from (with_coefficient place x terms)
with_rises place x [] within low kept nothing = before_rises place x [] within low kept nothing
with_rises {vars} {from} place x (t ∷ terms) within low kept (one_more least here rest) =
    by_place (nat_lt t.var place) (t.var == place) refl refl (λ less. with_rises place x terms within less kept rest)
  where
    by_place : (before same : Bool) → nat_lt t.var place ≡ before → (t.var == place) ≡ same →
        (suc t.var ≤ place → Rises vars (suc t.var) (with_coefficient place x terms)) →
        Rises vars from (if before then t ∷ with_coefficient place x terms
        else (if same then before_terms place x terms else before_terms place x (t ∷ terms)))
    by_place true same b s further = one_more least here (further (grind (arith, nat_tests, b)))
    by_place false true b s further =
        let is : t.var ≡ place = grind (arith, nat_tests, s) in
        before_rises place x terms within low kept (from_before (suc place) (omega (arith, is)) rest)
    by_place false false b s further =
        let less : suc place ≤ t.var = grind (arith, nat_tests, b, s) in
        before_rises place x (t ∷ terms) within low kept (one_more less here rest)

coefficient_kept : {vars from : ℕ} (place : ℕ) (terms : List Term) → Rises vars from terms → IsKept (coefficient_in place terms)
coefficient_kept place [] nothing = IsKept-zero
coefficient_kept place (t ∷ terms) (one_more low here rest) = by_test (t.var == place) (coefficient_kept place terms rest)
  where
    by_test : (b : Bool) → IsKept (coefficient_in place terms) → IsKept (if b then t.coef else coefficient_in place terms)
    by_test true k = here.kept
    by_test false k = k

each_term : {vars from : ℕ} {P : Term → Type 0} → ((t : Term) → IsSoundTerm vars t → P t) → (terms : List Term) → Rises vars from terms → All P terms
each_term {P} of [] nothing = All-nil P
each_term {P} of (t ∷ terms) (one_more low here rest) = All-cons P t terms (of t here) (each_term of terms rest)

all_from : {vars from : ℕ} (place : ℕ) → place ≤ from → (terms : List Term) → Rises vars from terms → All (λ t. place ≤ t.var) terms
all_from place less [] nothing = All-nil (λ t. place ≤ t.var)
all_from place less (t ∷ terms) (one_more low here rest) =
    All-cons (λ t. place ≤ t.var) t terms (omega (arith, less, low)) (all_from place (omega (arith, less, low)) terms rest)

rising : {vars from : ℕ} (terms : List Term) → Rises vars from terms → AllPairs (λ s t. s.var < t.var) terms
rising [] nothing = λ i j d less within. absurd (omega (arith, within))
rising (t ∷ terms) (one_more low here rest) =
    AllPairs-cons (λ s t. s.var < t.var) t terms (all_from (suc t.var) (omega arith) terms rest) (rising terms rest)

-- Rows

pub record IsSoundRow (u : Unfinished) : Type 0 where
  pub model : IsSound u.model
  pub named : IsName u.row.title
  pub is_new : IsFalse (knows_row u.row.title u.model)
  pub has_room : IsTrue (has_room_for_row u.model)
  pub terms : Rises (length u.model.vars) 0 u.row.terms
  pub term_limit : term_count u.model + length u.row.terms ≤ MAX_TERMS

-- a model that knows the name, and of which only the variables may differ
record Mentions (text : List ℕ) (m known : Model) : Type 0 where
  rows : m.rows ≡ known.rows
  vars : length m.vars ≤ length known.vars
  knows : knows_var text known ≡ true

mentioned : (text : List ℕ) (m : Model) {known : Model} → mention text m ≡ Some known → Mentions text m known
mentioned text m {known} e = by_tests (knows_var text m) (nat_lt (length m.vars) MAX_VARS) refl e
  where
    as_mentioned : (k : Model) → k ≡ known → Mentions text m k → Mentions text m known
    as_mentioned k is h = subst (Mentions text m) is h

    by_tests : (old room : Bool) → knows_var text m ≡ old →
        (if (old || room) then Some (if old then m else record m { vars = m.vars ++ (new_var text ∷ []) }) else None) ≡ Some known → Mentions text m known
    by_tests true room k e =
        let is : m ≡ known = cc in
        as_mentioned m is (record { rows = refl; vars = omega arith; knows = k })
    by_tests false false k e = absurd cc
    by_tests false true k e =
        let more : Model = record m { vars = m.vars ++ (new_var text ∷ []) } in
        let count : length more.vars ≡ length m.vars + 1 = length-append m.vars (new_var text ∷ []) in
        let is : more ≡ known = cc in
        as_mentioned more is (record { rows = refl; vars = omega (arith, count); knows = knows_one text m.vars (new_var text) [] (same_text text) })

place_within : (text : List ℕ) (vars : List Var) → list_any (λ v. bytes_eq text v.name) vars ≡ true →
    position_or_len (λ v. bytes_eq text v.name) vars < length vars
place_within text [] h = absurd cc
place_within text (v ∷ vars) h = by_test (bytes_eq text v.name) h (place_within text vars)
  where
    by_test : (b : Bool) → (b || list_any (λ v. bytes_eq text v.name) vars) ≡ true →
        (list_any (λ v. bytes_eq text v.name) vars ≡ true → position_or_len (λ v. bytes_eq text v.name) vars < length vars) →
        cond (not b) (1 + position_or_len (λ v. bytes_eq text v.name) vars) 0 < length (v ∷ vars)
    by_test true h further = omega arith
    by_test false h further = omega (arith, further h)

-- what an option gives, and what comes of it
record Passed {A B : Type 0} (o : Option A) (f : A → Option B) (b : B) : Type 0 where
  value : A
  value_is : o ≡ Some value
  rest : f value ≡ Some b

passed : {A B : Type 0} (o : Option A) (f : A → Option B) (b : B) → option_and_then f o ≡ Some b → Passed o f b
passed (Some a) f b h = record { value = a; value_is = refl; rest = h }
passed None f b h = absurd cc

-- a row that is within the limit of terms
record Limited (u told : Unfinished) : Type 0 where
  is : u ≡ told
  terms : term_count u.model + length u.row.terms ≤ MAX_TERMS

limited : (u told : Unfinished) → within_terms u ≡ Some told → Limited u told
limited u told e = by_test (nat_le (term_count u.model + length u.row.terms) MAX_TERMS) refl e
  where
    by_test : (b : Bool) → nat_le (term_count u.model + length u.row.terms) MAX_TERMS ≡ b → (if b then Some u else None) ≡ Some told → Limited u told
    by_test true h e = record { is = cc; terms = leb-true (term_count u.model + length u.row.terms) MAX_TERMS h }
    by_test false h e = absurd cc

pub term_sound : {text : List ℕ} {x : Fraction} {u told : Unfinished} → AddsToRow text x u told → IsName text → IsKept x → IsSoundRow u → IsSoundRow told
term_sound {text} {x} {u} {told} a named kept s =
    let p = passed (mention text u.model) (λ known. within_terms (with_sum text a.sum u.row known)) told a.told_is in
    let known : Model = p.value in
    let m = mentioned text u.model p.value_is in
    let place = var_place text known in
    let limit = limited (with_sum text a.sum u.row known) told p.rest in
    let sum = sum_kept (coefficient_in (var_place text u.model) u.row.terms) x a.sum (coefficient_kept (var_place text u.model) u.row.terms s.terms) kept a.sum_is in
    subst IsSoundRow limit.is (record {
      model = mention_sound text u.model p.value_is named s.model;
      named = s.named;
      is_new = subst (λ rows. IsFalse (list_any (λ r. bytes_eq u.row.title r.name) rows)) m.rows s.is_new;
      has_room = subst (λ (rows : List Row). IsTrue (nat_lt (length rows) MAX_ROWS)) m.rows s.has_room;
      terms = with_rises place a.sum u.row.terms (place_within text known.vars m.knows) (omega arith) sum (of_more (length known.vars) m.vars s.terms);
      term_limit = limit.terms;
    })

pub close_sound : (sense : Sense) (x : Fraction) (u : Unfinished) → IsKept x → IsSoundRow u → IsSound (close_row sense x u)
close_sound sense x u kept s =
    let vars = length u.model.vars in
    let row : Row = record { name = u.row.title; sense = sense; rhs = x; terms = u.row.terms } in
    let few : length u.model.rows < MAX_ROWS = (let g : nat_lt (length u.model.rows) MAX_ROWS ≡ true = s.has_room in grind (arith, nat_tests, g)) in
    let count : length (u.model.rows ++ (row ∷ [])) ≡ length u.model.rows + 1 = length-append u.model.rows (row ∷ []) in
    let terms = sum_by_push (λ (r : Row). length r.terms) u.model.rows row in
    let writable : IsWritableRow vars row = record {
      lawful = record {
        name = s.named;
        places = each_term (λ t h. h.place) u.row.terms s.terms;
        rising = rising u.row.terms s.terms;
        not_zero = each_term (λ t h. h.not_zero) u.row.terms s.terms;
      };
      kept = record { rhs = kept; terms = each_term (λ t h. h.kept) u.row.terms s.terms };
    } in
    record {
      constant = s.model.constant;
      vars = s.model.vars;
      rows = All-push (IsWritableRow vars) u.model.rows row s.model.rows writable;
      var_names = s.model.var_names;
      row_names = still_distinct (λ r. r.name) u.model.rows row s.model.row_names s.is_new;
      var_limit = s.model.var_limit;
      row_limit = omega (arith, few, count);
      term_limit = omega (arith, terms, s.term_limit);
    }
