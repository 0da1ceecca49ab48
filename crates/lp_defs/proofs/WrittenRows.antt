-- The symbols of written rows spell them.
use Rattle.std.proofs.Common.{◌≡◌, ◌≢◌, refl, sym, ◌∙◌, ap, subst, ℕ, zero, suc, ◌+◌, ◌<◌, ◌≤◌, true, false, cond, not, List, [], ◌∷◌, ◌++◌, map, length, get_or, length-append, arith, ◌==◌, Some, None, ℤ, pos, negsuc, unsigned_abs}
use Rattle.std.specs.List.{position_or_len, slice_index_or}
use Rattle.std.specs.Prelude.{All, AllPairs, bytes_eq, if◌then◌else◌, option_and_then}
use Rattle.std.proofs.lemmas.Bool.{le-leb, lt-ltb, ne_eqb}
use Rattle.std.proofs.lemmas.List.Elements.{All-head, All-tail}
use Rattle.std.proofs.lemmas.List.Folds.{list_any_at}
use Rattle.std.proofs.lemmas.List.Sums.{sum_by-append, sum_by-cons}
use Rattle.std.proofs.Math.Dec.{eqb-suc-zero}
use Rattle.std.proofs.Math.Nat.{ne_of_lt}
use Rattle.frac128.specs.Fraction.{Fraction, zero_value}
use Rattle.frac128.specs.Lowest.{IsKept}
use Rattle.model_data.specs.Lawful.{term_count}
use Rattle.model_data.specs.declared.limits.TheConstants.{MAX_ROWS, MAX_TERMS}
use Rattle.model_data.specs.declared.model.Direction.{Direction}
use Rattle.model_data.specs.declared.model.Model.{Model}
use Rattle.model_data.specs.declared.model.Row.{Row}
use Rattle.model_data.specs.declared.model.Term.{Term}
use Rattle.model_data.specs.declared.model.Var.{Var}
use Rattle.lp_defs.specs.Canonical.{name_at}
use Rattle.lp_defs.specs.Draft.{Unfinished, before_terms, coefficient_in, knows_row, with_coefficient, with_sum, within_terms}
use Rattle.lp_defs.specs.Grammar.{AddsToRow, MoreRows, MoreTerms, RowTerms, Rows, SpellsRow, first, more, none, nothing, one_token}
use Rattle.lp_defs.specs.Quantity.{added}
use Rattle.lp_defs.specs.Symbols.{Seen, Symbol, comparison}
use Rattle.lp_defs.proofs.KeptNumbers.{added_zero}
use Rattle.lp_defs.proofs.Lists.{All-middle, AllPairs-before}
use Rattle.lp_defs.proofs.Named.{alone, place_of_name, same_text}
use Rattle.lp_defs.proofs.Sight.{tokens}
use Rattle.lp_defs.proofs.Takes.{GoesOn, Takes, each_goes_on, flat, flat-append, past}
use Rattle.lp_defs.proofs.Told.{knows, knows_map, mention_known, told}
use Rattle.lp_defs.proofs.Writable.{AreWritableRows, AreWritableVars, IsWritableRow}
use Rattle.lp_defs.proofs.WrittenLines.{number_symbol, row_entry, term_entries, term_symbols}
use Rattle.lp_defs.proofs.WrittenObjective.{finite_number, fresh, named_term}

-- Coefficients

coefficient_none : (place : ℕ) (terms : List Term) → All (λ s. s.var < place) terms → coefficient_in place terms ≡ zero_value
coefficient_none place [] below = refl
coefficient_none place (s ∷ terms) below =
    let less = All-head (λ s. s.var < place) s terms below in
    ap (λ b. if b then s.coef else coefficient_in place terms) (ne_eqb s.var place (ne_of_lt less))
    ∙ coefficient_none place terms (All-tail (λ s. s.var < place) s terms below)

not_zero : (n : ℤ) → n ≢ pos 0 → (unsigned_abs n == 0) ≡ false
not_zero (pos zero) other = absurd (other refl)
not_zero (pos (suc n)) other = eqb-suc-zero n
not_zero (negsuc n) other = eqb-suc-zero n

coefficient_last : (t : Term) (terms : List Term) → All (λ s. s.var < t.var) terms → t.coef.num ≢ pos 0 →
    with_coefficient t.var t.coef terms ≡ terms ++ t ∷ []
coefficient_last t [] below other = ap (λ b. if b then [] else t ∷ []) (not_zero t.coef.num other)
coefficient_last t (s ∷ terms) below other =
    let less = All-head (λ s. s.var < t.var) s terms below in
    let here = if (s.var == t.var) then before_terms t.var t.coef terms else before_terms t.var t.coef (s ∷ terms) in
    ap (λ b. if b then s ∷ with_coefficient t.var t.coef terms else here) (lt-ltb s.var t.var less)
    ∙ ap (λ more. s ∷ more) (coefficient_last t terms (All-tail (λ s. s.var < t.var) s terms below) other)

-- Names of variables

-- the variable of the name stands there first
record IsThere (vars : List Var) (text : List ℕ) (place : ℕ) : Type 0 where
  place_is : position_or_len (λ v. bytes_eq text v.name) vars ≡ place
  is_known : knows text vars ≡ true

name_at-is : (vars : List Var) (place : ℕ) (d : Var) → place < length vars → name_at vars place ≡ (get_or vars place d).name
name_at-is [] place d within = absurd (omega (arith, within))
name_at-is (v ∷ vars) zero d within = refl
name_at-is (v ∷ vars) (suc place) d within = name_at-is vars place d (omega (arith, within))

position-fresh : (text : List ℕ) (vars : List Var) →
    position_or_len (λ v. bytes_eq text v.name) (map fresh vars) ≡ position_or_len (λ v. bytes_eq text v.name) vars
position-fresh text [] = refl
position-fresh text (v ∷ vars) = ap (λ n. cond (not (bytes_eq text v.name)) (1 + n) 0) (position-fresh text vars)

is_there : (vars : List Var) (place : ℕ) → AreWritableVars vars → place < length vars → IsThere (map fresh vars) (name_at vars place) place
is_there [] place good within = absurd (omega (arith, within))
is_there (v ∷ others) place good within =
    let vars : List Var = v ∷ others in
    let own = get_or vars place v in
    subst (λ text. IsThere (map fresh vars) text place) (sym (name_at-is vars place v within)) (record {
      place_is = position-fresh own.name vars ∙ place_of_name (λ v. v.name) vars place v good.distinct within;
      is_known = knows_map fresh (λ u. refl) own.name vars ∙ list_any_at (λ u. bytes_eq own.name u.name) vars place v within (same_text own.name);
    })

-- Terms of a row

abbrev mid_row : Model → List ℕ → List Term → Unfinished
mid_row m title terms = record { model = m; row = record { title = title; terms = terms } }

-- what is asked of the terms of a row of the model, where the rows before it have so many
record AreTerms (m : Model) (names : List Var) (terms : List Term) : Type 0 where
  rising : AllPairs (λ s t. s.var < t.var) terms
  not_zero : All (λ t. t.coef.num ≢ pos 0) terms
  kept : All (λ t. IsKept t.coef) terms
  there : All (λ t. IsThere m.vars (name_at names t.var) t.var) terms
  few : term_count m + length terms ≤ MAX_TERMS

adds_to_row : (m : Model) (title : List ℕ) (front : List Term) (t : Term) (text : List ℕ) → IsThere m.vars text t.var →
    All (λ s. s.var < t.var) front → t.coef.num ≢ pos 0 → IsKept t.coef → term_count m + length (front ++ t ∷ []) ≤ MAX_TERMS →
    AddsToRow text t.coef (mid_row m title front) (mid_row m title (front ++ t ∷ []))
adds_to_row m title front t text there below other kept few = record {
  sum = t.coef;
  sum_is =
      ap (λ place. added (coefficient_in place front) t.coef) there.place_is
      ∙ (ap (λ before. added before t.coef) (coefficient_none t.var front below) ∙ added_zero t.coef kept);
  told_is =
      ap (option_and_then (λ known. within_terms (with_sum text t.coef (record { title = title; terms = front }) known)))
      (mention_known text m there.is_known)
      ∙ (ap (λ terms. within_terms (mid_row m title terms))
      (ap (λ place. with_coefficient place t.coef front) there.place_is ∙ coefficient_last t front below other)
      ∙ ap (λ b. if b then Some (mid_row m title (front ++ t ∷ [])) else None) (le-leb (term_count m + length (front ++ t ∷ [])) MAX_TERMS few));
}

term_goes_on : (m : Model) (names : List Var) (title : List ℕ) (front : List Term) (t : Term) (rest : List Term) →
    AreTerms m names (front ++ t ∷ rest) →
    GoesOn MoreTerms (term_symbols t.coef (name_at names t.var)) (mid_row m title front) (mid_row m title (front ++ t ∷ []))
term_goes_on m names title front t rest good = λ symbols behind whole next spots.
    let text = name_at names t.var in
    let all = good.few in
    let few : term_count m + length (front ++ t ∷ []) ≤ MAX_TERMS = omega (arith, all, length-append front (t ∷ rest), length-append front (t ∷ [])) in
    let adding = adds_to_row m title front t text
    (All-middle (λ t. IsThere m.vars (name_at names t.var) t.var) front t rest good.there)
    (AllPairs-before (λ s t. s.var < t.var) front t rest good.rising)
    (All-middle (λ t. t.coef.num ≢ pos 0) front t rest good.not_zero)
    (All-middle (λ t. IsKept t.coef) front t rest good.kept) few in
    let left = next (past 3 spots) in
    (left.0, more refl (record { coefficient = t.coef; text = text; tokens = named_term spots t.coef text symbols; adds = adding }) left.1)

terms_of_more : {xs ys : List Seen} {u whole : Unfinished} → MoreTerms xs u ys whole → RowTerms xs u ys whole
terms_of_more none = nothing
terms_of_more (more sign term rest) = first term rest

terms_taken : (m : Model) (names : List Var) (title : List ℕ) (terms : List Term) → AreTerms m names terms → (rest : List Symbol) →
    Takes RowTerms (flat (term_entries names terms) ++ rest) (mid_row m title []) rest (mid_row m title terms)
terms_taken m names title terms good rest = λ spots.
    let own = λ (t : Term). term_symbols t.coef (name_at names t.var) in
    let all = each_goes_on MoreTerms own (λ front rest. mid_row m title front) (AreTerms m names) (term_goes_on m names title) terms good in
    let left = all rest rest (mid_row m title terms) (λ spots. (spots, none)) spots in
    (left.0, terms_of_more left.1)

-- Rows

-- what is asked of a row that is told behind the model
record IsRowOf (m : Model) (names : List Var) (r : Row) : Type 0 where
  is_new : knows_row r.name m ≡ false
  has_room : length m.rows < MAX_ROWS
  terms : AreTerms m names r.terms
  side : IsKept r.rhs

row_taken : (m : Model) (names : List Var) (r : Row) → IsRowOf m names r → (rest : List Symbol) →
    Takes SpellsRow (row_entry names r ++ rest) m rest (record m { rows = m.rows ++ r ∷ [] })
row_taken m names r of rest = λ spots.
    let side : List Symbol = number_symbol r.rhs ∷ rest in
    let end : List (List Symbol) = (comparison r.sense ∷ []) ∷ (number_symbol r.rhs ∷ []) ∷ [] in
    let terms = terms_taken m names r.name r.terms of.terms (comparison r.sense ∷ side) (past 1 spots) in (
      past 2 terms.0,
      record {
        title = Some r.name;
        behind_label = tokens (past 1 spots) (flat (term_entries names r.terms ++ end) ++ rest);
        has_label = one_token;
        may_open = record { is_new = of.is_new; has_room = lt-ltb (length m.rows) MAX_ROWS of.has_room };
        whole = mid_row m r.name r.terms;
        spot = terms.0 0;
        sense = r.sense;
        behind_sense = tokens (past 1 terms.0) side;
        terms =
            subst (λ s. RowTerms (tokens (past 1 spots) s) (mid_row m r.name []) (tokens terms.0 (comparison r.sense ∷ side)) (mid_row m r.name r.terms))
            (sym (flat-append (term_entries names r.terms) end rest)) terms.1;
        side = r.rhs;
        has_side = finite_number (past 1 terms.0) r.rhs rest;
        told_is = refl;
      },
    )

row_goes_on : (d : Direction) (c : Fraction) (vars : List Var) → AreWritableVars vars → (front : List Row) (r : Row) (rest : List Row) →
    AreWritableRows (length vars) (front ++ r ∷ rest) →
    GoesOn MoreRows (row_entry vars r) (told d c (map fresh vars) front) (told d c (map fresh vars) (front ++ r ∷ []))
row_goes_on d c vars good front r rest rows = λ symbols behind whole next spots.
    let own = All-middle (IsWritableRow (length vars)) front r rest rows.each in
    let others = alone (λ (r : Row). r.name) front r rest rows.distinct in
    let few = rows.few in
    let few_terms = rows.few_terms in
    let count = sum_by-append (λ (r : Row). length r.terms) front (r ∷ rest) in
    let first_count = sum_by-cons (λ (r : Row). length r.terms) r rest in
    let one = row_taken (told d c (map fresh vars) front) vars r (record {
      is_new = others.before;
      has_room = omega (arith, few, length-append front (r ∷ rest));
      terms = record {
        rising = own.lawful.rising;
        not_zero = own.lawful.not_zero;
        kept = own.kept.terms;
        there = λ k d within. is_there vars (slice_index_or r.terms k d).var good (own.lawful.places k d within);
        few = omega (arith, few_terms, count, first_count);
      };
      side = own.kept.rhs;
    }) symbols spots in
    let left = next one.0 in
    (left.0, more refl one.1 left.1)

rows_of_more : {xs ys : List Seen} {m whole : Model} → MoreRows xs m ys whole → Rows xs m ys whole
rows_of_more none = nothing
rows_of_more (more other row rest) = first row rest

pub rows_taken : (d : Direction) (c : Fraction) (vars : List Var) (rows : List Row) → AreWritableVars vars → AreWritableRows (length vars) rows →
    (rest : List Symbol) →
    Takes Rows (flat (map (row_entry vars) rows) ++ rest) (told d c (map fresh vars) []) rest (told d c (map fresh vars) rows)
rows_taken d c vars rows good_vars good rest = λ spots.
    let state : List Row → List Row → Model = λ front rest. told d c (map fresh vars) front in
    let all = each_goes_on MoreRows (row_entry vars) state (AreWritableRows (length vars)) (row_goes_on d c vars good_vars) rows good in
    let left = all rest rest (told d c (map fresh vars) rows) (λ spots. (spots, none)) spots in
    (left.0, rows_of_more left.1)
