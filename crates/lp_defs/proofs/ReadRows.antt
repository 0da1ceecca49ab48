-- What is read is spelled so: rows.
use Rattle.std.proofs.Common.{◌≡◌, refl, sym, ◌∙◌, ap, subst, ℕ, Bool, true, false, IsTrue, IsFalse, ◌∷◌, [], List, Option, Some, Ok, Err, if◌then◌else◌}
use Rattle.base_names.specs.declared.refusal.FaultWord.TheVariants.{DoubledName, Number as bad_number, Size}
use Rattle.frac128.specs.Checked.{◌>>=◌}
use Rattle.frac128.specs.Fraction.{Fraction}
use Rattle.model_data.specs.declared.model.Model.{Model}
use Rattle.model_data.specs.declared.model.Sense.{Sense}
use Rattle.model_data.specs.declared.model.VarKind.TheVariants.{Integer, Binary as binary_kind}
use Rattle.lp_defs.specs.declared.token.SectionWord.{SectionWord}
use Rattle.lp_defs.specs.declared.token.SectionWord.TheVariants.{Binary, Bounds, End, General}
use Rattle.lp_defs.specs.Draft.{Unfinished, close_row, default_title, has_room_for_row, knows_row, new_row, row_sum, with_term}
use Rattle.lp_defs.specs.Grammar.{OptionalSign, unsigned, signed, FiniteAmount, lone, scaled, begins_with_sign, begins_with_comparison, OptionalLabel, unlabelled, one_token, two_tokens, AddsToRow, none, more, nothing, first, title_or_default, MayOpen, Sections, bounds as bounds_section, general, binary, SpellsRest}
use Rattle.lp_defs.specs.Objective.{Summand, lone_name}
use Rattle.lp_defs.specs.Quantity.{under_sign, unit, value_of}
use Rattle.lp_defs.specs.Reading.{reading_from}
use Rattle.lp_defs.specs.Rows.{add_to_row, after_comparison, after_constraints, after_row, after_row_label, after_row_number, after_row_sign, after_row_term, after_row_title, after_rows, after_side_sign, open_row, right_side, row_amount, row_term, unlabelled_row, labelled_row, settle_row_title}
use Rattle.lp_defs.specs.Stage.{bounds, ended, kinds, row_first, row_next, row_number, row_side, row_side_sign, row_sign, row_title, rows_next}
use Rattle.lp_defs.specs.Symbols.{Quantity, Seen, Spot, Symbol, token, sign, colon, comparison, number, keyword, label, name, fault_at, or_fault}
use Rattle.lp_defs.proofs.Parts.{goes_on, passes, some_of}
use Rattle.lp_defs.proofs.Rest.{FromBounds, FromMoreTerms, FromNames, FromRow, FromRows, FromSections, FromSide, FromTerm, FromTerms, Known}

adds : (s t : Spot) (text : List ℕ) (x : Fraction) (u : Unfinished) {told : Unfinished} →
    add_to_row (record { number_spot = s; coefficient = x; name_spot = t; text = text }) u ≡ Ok told → AddsToRow text x u told
adds s t text x u h =
    let p = passes (or_fault s bad_number (row_sum text x u)) (λ sum. or_fault t Size (with_term text sum u)) _ h in
    record { sum = p.value; sum_is = some_of s bad_number _ p.value_is; told_is = some_of t Size _ p.rest }

record TermAfter (text : List ℕ) (x : Fraction) (u : Unfinished) (xs : List Seen) (r : Model) : Type 0 where
  pub told : Unfinished
  pub adds : AddsToRow text x u told
  pub rest : FromMoreTerms told xs r

-- a step that tells a term
termed : (s t : Spot) (text : List ℕ) (x : Fraction) (u : Unfinished) {xs : List Seen} {end : Spot} {r : Model} → Known xs end r →
    goes_on (row_term (record { number_spot = s; coefficient = x; name_spot = t; text = text }) u) xs end ≡ Ok r → TermAfter text x u xs r
termed s t text x u {xs} {end} {r} k h =
    let S : Summand = record { number_spot = s; coefficient = x; name_spot = t; text = text } in
    let p = passes (row_term S u) (λ next. reading_from next xs end) r h in
    let q = passes (add_to_row S u) (λ told. Ok (row_next told)) p.value p.value_is in
    let same : row_next q.value ≡ p.value = (let g = q.rest in cc) in
    let e : reading_from (row_next q.value) xs end ≡ Ok r = subst (λ stage. reading_from stage xs end ≡ Ok r) (sym same) p.rest in
    record { told = q.value; adds = adds s t text x u q.value_is; rest = k.of (row_next q.value) e }

record NumberAfter (negative : Bool) (written : Quantity) (u : Unfinished) (xs : List Seen) (r : Model) : Type 0 where
  pub x : Fraction
  pub value_is : value_of (under_sign negative written) ≡ Some x
  pub term : (ws : List Seen) → FiniteAmount ws x xs → FromTerm u ws r

numbered : (head : Bool) (s : Spot) (negative : Bool) (written : Quantity) (u : Unfinished) {xs : List Seen} {end : Spot} {r : Model} → Known xs end r →
    goes_on (row_amount head negative s written u) xs end ≡ Ok r → NumberAfter negative written u xs r
numbered head s negative written u {xs} {end} {r} k h =
    let p = passes (row_amount head negative s written u) (λ next. reading_from next xs end) r h in
    let q = passes (or_fault s bad_number (value_of (under_sign negative written))) (λ x. Ok (row_number head s x u)) p.value p.value_is in
    let same : row_number head s q.value u ≡ p.value = (let g = q.rest in cc) in
    let e : reading_from (row_number head s q.value u) xs end ≡ Ok r = subst (λ stage. reading_from stage xs end ≡ Ok r) (sym same) p.rest in
    record { x = q.value; value_is = some_of s bad_number _ q.value_is; term = k.of (row_number head s q.value u) e }

amount : {ws xs : List Seen} {negative : Bool} (s : Spot) (has_sign : Bool) (written : Quantity) {x : Fraction} →
    OptionalSign ws negative (token s (number has_sign written) ∷ xs) → value_of (under_sign negative written) ≡ Some x → FiniteAmount ws x xs
amount {negative} s has_sign written o e = record {
  quantity = under_sign negative written;
  amount = record { negative = negative; spot = s; has_sign = has_sign; written = written; tokens = o; value = refl };
  value = e;
}

name_term : {ws xs : List Seen} {negative : Bool} (s : Spot) (text : List ℕ) {u : Unfinished} {r : Model} → OptionalSign ws negative (token s (name text) ∷ xs) →
    TermAfter text (unit negative) u xs r → FromTerm u ws r
name_term s text o n = record { behind = _; told = n.told; term = record { coefficient = _; text = text; tokens = lone o; adds = n.adds }; rest = n.rest }

pub behind_sign : (head negative : Bool) (s : Spot) (symbol : Symbol) (u : Unfinished) (xs : List Seen) {end : Spot} {r : Model} → Known xs end r →
    goes_on (after_row_sign head negative s symbol u) xs end ≡ Ok r → (t : Spot) → FromTerm u (token t (sign negative) ∷ token s symbol ∷ xs) r
behind_sign head negative s (number has_sign written) u xs k h t = let n = numbered head s negative written u k h in n.term _ (amount s has_sign written signed n.value_is)
behind_sign head negative s (name text) u xs k h t = name_term s text signed (termed s s text (unit negative) u k h)
behind_sign head negative s symbol u xs k h t = absurd cc

pub behind_number : (head : Bool) (number_spot : Spot) (x : Fraction) (s : Spot) (symbol : Symbol) (u : Unfinished) (xs : List Seen) {end : Spot} {r : Model} → Known xs end r →
    goes_on (after_row_number head number_spot x s symbol u) xs end ≡ Ok r → (ws : List Seen) → FiniteAmount ws x (token s symbol ∷ xs) → FromTerm u ws r
behind_number head number_spot x s (name text) u xs k h ws a =
    let n = termed number_spot s text x u k h in
    record { behind = _; told = n.told; term = record { coefficient = x; text = text; tokens = scaled a; adds = n.adds }; rest = n.rest }
behind_number head number_spot x s symbol u xs k h ws a = absurd cc

term_next : {xs : List Seen} {u : Unfinished} {r : Model} → IsTrue (begins_with_sign xs) → FromTerm u xs r → FromMoreTerms u xs r
term_next e t = record { whole = t.rest.whole; spot = t.rest.spot; sense = t.rest.sense; behind = t.rest.behind; terms = more e t.term t.rest.terms; rest = t.rest.rest }

term_first : {xs : List Seen} {u : Unfinished} {r : Model} → FromTerm u xs r → FromTerms u xs r
term_first t = record { whole = t.rest.whole; spot = t.rest.spot; sense = t.rest.sense; behind = t.rest.behind; terms = first t.term t.rest.terms; rest = t.rest.rest }

pub next : (s : Spot) (symbol : Symbol) (u : Unfinished) (xs : List Seen) {end : Spot} {r : Model} → Known xs end r →
    goes_on (after_row_term s symbol u) xs end ≡ Ok r → FromMoreTerms u (token s symbol ∷ xs) r
next s (sign negative) u xs k h = term_next refl (k.of (row_sign false negative u) h s)
next s (number true written) u xs k h = let n = numbered false s false written u k h in term_next refl (n.term _ (amount s true written unsigned n.value_is))
next s (number false written) u xs k h = absurd cc
next s (comparison sense) u xs k h = record { whole = u; spot = s; sense = sense; behind = xs; terms = none; rest = k.of (row_side sense u) h }
next s symbol u xs k h = absurd cc

pub head : (s : Spot) (symbol : Symbol) (u : Unfinished) (xs : List Seen) {end : Spot} {r : Model} → Known xs end r →
    goes_on (after_row_label s symbol u) xs end ≡ Ok r → FromTerms u (token s symbol ∷ xs) r
head s (sign negative) u xs k h = term_first (k.of (row_sign true negative u) h s)
head s (number has_sign written) u xs k h = let n = numbered true s false written u k h in term_first (n.term _ (amount s has_sign written unsigned n.value_is))
head s (name text) u xs k h = term_first (name_term s text unsigned (termed s s text (unit false) u k h))
head s (comparison sense) u xs k h = record { whole = u; spot = s; sense = sense; behind = xs; terms = nothing; rest = k.of (row_side sense u) h }
head s symbol u xs k h = absurd cc

sided : (negative : Bool) (sense : Sense) (s : Spot) (has_sign : Bool) (written : Quantity) (u : Unfinished) {ws xs : List Seen} {end : Spot} {r : Model} → Known xs end r →
    OptionalSign ws negative (token s (number has_sign written) ∷ xs) → goes_on (right_side negative sense s written u) xs end ≡ Ok r → FromSide sense u ws r
sided negative sense s has_sign written u {ws} {xs} {end} {r} k o h =
    let p = passes (right_side negative sense s written u) (λ next. reading_from next xs end) r h in
    let q = passes (or_fault s bad_number (value_of (under_sign negative written))) (λ x. Ok (rows_next (close_row sense x u))) p.value p.value_is in
    let same : rows_next (close_row sense q.value u) ≡ p.value = (let g = q.rest in cc) in
    let e : reading_from (rows_next (close_row sense q.value u)) xs end ≡ Ok r = subst (λ stage. reading_from stage xs end ≡ Ok r) (sym same) p.rest in
    record { side = q.value; behind = xs; has_side = amount s has_sign written o (some_of s bad_number _ q.value_is); rest = k.of (rows_next (close_row sense q.value u)) e }

pub side : (sense : Sense) (s : Spot) (symbol : Symbol) (u : Unfinished) (xs : List Seen) {end : Spot} {r : Model} → Known xs end r →
    goes_on (after_comparison sense s symbol u) xs end ≡ Ok r → FromSide sense u (token s symbol ∷ xs) r
side sense s (sign negative) u xs k h = k.of (row_side_sign negative sense u) h s
side sense s (number has_sign written) u xs k h = sided false sense s has_sign written u k unsigned h
side sense s symbol u xs k h = absurd cc

pub side_sign : (negative : Bool) (sense : Sense) (s : Spot) (symbol : Symbol) (u : Unfinished) (xs : List Seen) {end : Spot} {r : Model} → Known xs end r →
    goes_on (after_side_sign negative sense s symbol u) xs end ≡ Ok r → (t : Spot) → FromSide sense u (token t (sign negative) ∷ token s symbol ∷ xs) r
side_sign negative sense s (number has_sign written) u xs k h t = sided negative sense s has_sign written u k signed h
side_sign negative sense s symbol u xs k h t = absurd cc

-- a step that opens a row
record Opened (text : List ℕ) (m : Model) (u : Unfinished) : Type 0 where
  pub may_open : MayOpen text m
  pub told_is : u ≡ new_row text m

opened_by : (s : Spot) (text : List ℕ) (m : Model) (u : Unfinished) (known room : Bool) → known ≡ knows_row text m → room ≡ has_room_for_row m →
    (if known then Err (fault_at s DoubledName) else (if room then Ok (new_row text m) else Err (fault_at s Size))) ≡ Ok u → Opened text m u
opened_by s text m u true room e f h = absurd cc
opened_by s text m u false false e f h = absurd cc
opened_by s text m u false true e f h = record { may_open = record { is_new = sym e; has_room = sym f }; told_is = cc }

opened : (s : Spot) (text : List ℕ) (m : Model) (u : Unfinished) → open_row s text m ≡ Ok u → Opened text m u
opened s text m u h = opened_by s text m u (knows_row text m) (has_room_for_row m) refl refl h

with_label : {xs ys : List Seen} {title : Option (List ℕ)} {m r : Model} → OptionalLabel xs title ys → MayOpen (title_or_default title m) m →
    FromTerms (new_row (title_or_default title m) m) ys r → FromRow m xs r
with_label o w f = record {
  behind = _;
  told = _;
  row = record {
    title = _;
    behind_label = _;
    has_label = o;
    may_open = w;
    whole = f.whole;
    spot = f.spot;
    sense = f.sense;
    behind_sense = f.behind;
    terms = f.terms;
    side = f.rest.side;
    has_side = f.rest.has_side;
    told_is = refl;
  };
  rest = f.rest.rest;
}

labelled : (s : Spot) (text : List ℕ) (m : Model) {ws xs : List Seen} {end : Spot} {r : Model} → Known xs end r → OptionalLabel ws (Some text) xs →
    goes_on (labelled_row s text m) xs end ≡ Ok r → FromRow m ws r
labelled s text m {ws} {xs} {end} {r} k o h =
    let p = passes (labelled_row s text m) (λ next. reading_from next xs end) r h in
    let q = passes (open_row s text m) (λ opened. Ok (row_first opened)) p.value p.value_is in
    let w = opened s text m q.value q.value_is in
    let same : row_first (new_row text m) ≡ p.value = ap row_first (sym w.told_is) ∙ (let g = q.rest in cc) in
    with_label o w.may_open (k.of (row_first (new_row text m)) (subst (λ stage. reading_from stage xs end ≡ Ok r) (sym same) p.rest))

unlabelled_is : (s : Spot) (symbol : Symbol) (m : Model) (xs : List Seen) {end : Spot} {r : Model} → Known xs end r →
    goes_on (unlabelled_row s symbol m) xs end ≡ Ok r → FromRow m (token s symbol ∷ xs) r
unlabelled_is s symbol m xs {end} {r} k h =
    let p = passes (unlabelled_row s symbol m) (λ next. reading_from next xs end) r h in
    let q = passes (open_row s (default_title m) m) (λ opened. after_row_label s symbol opened) p.value p.value_is in
    let w = opened s (default_title m) m q.value q.value_is in
    let e : goes_on (after_row_label s symbol (new_row (default_title m) m)) xs end ≡ Ok r =
    ap (λ u. goes_on (after_row_label s symbol u) xs end) (sym w.told_is) ∙ ap (λ o. goes_on o xs end) q.rest ∙ p.rest in
    with_label unlabelled w.may_open (head s symbol (new_row (default_title m) m) xs k e)

waited : (title_spot : Spot) (title : List ℕ) (s : Spot) (symbol : Symbol) (m : Model) (xs : List Seen) {end : Spot} {r : Model} → Known xs end r →
    goes_on (settle_row_title title_spot title m >>= λ told. after_row_term s symbol told) xs end ≡ Ok r →
    (t : Spot) → FromRow m (token t (name title) ∷ token s symbol ∷ xs) r
waited title_spot title s symbol m xs {end} {r} k h t =
    let S = lone_name false title_spot title in
    let p = passes (settle_row_title title_spot title m >>= λ told. after_row_term s symbol told) (λ next. reading_from next xs end) r h in
    let q = passes (settle_row_title title_spot title m) (λ told. after_row_term s symbol told) p.value p.value_is in
    let z = passes (open_row title_spot (default_title m) m) (λ opened. add_to_row S opened) q.value q.value_is in
    let w = opened title_spot (default_title m) m z.value z.value_is in
    let a : add_to_row S (new_row (default_title m) m) ≡ Ok q.value = ap (add_to_row S) (sym w.told_is) ∙ z.rest in
    let e : goes_on (after_row_term s symbol q.value) xs end ≡ Ok r = ap (λ o. goes_on o xs end) q.rest ∙ p.rest in
    let n : TermAfter title (unit false) (new_row (default_title m) m) (token s symbol ∷ xs) r =
    record { told = q.value; adds = adds title_spot title_spot title (unit false) (new_row (default_title m) m) a; rest = next s symbol q.value xs k e } in
    with_label unlabelled w.may_open (term_first (name_term t title unsigned n))

pub titled : (title_spot : Spot) (title : List ℕ) (s : Spot) (symbol : Symbol) (m : Model) (xs : List Seen) {end : Spot} {r : Model} → Known xs end r →
    goes_on (after_row_title title_spot title s symbol m) xs end ≡ Ok r → (t : Spot) → FromRow m (token t (name title) ∷ token s symbol ∷ xs) r
titled title_spot title s colon m xs k h t = labelled title_spot title m k two_tokens h
titled title_spot title s (sign negative) m xs k h t = waited title_spot title s (sign negative) m xs k h t
titled title_spot title s (comparison sense) m xs k h t = waited title_spot title s (comparison sense) m xs k h t
titled title_spot title s (number has_sign written) m xs k h t = waited title_spot title s (number has_sign written) m xs k h t
titled title_spot title s (keyword word) m xs k h t = waited title_spot title s (keyword word) m xs k h t
titled title_spot title s (label text) m xs k h t = waited title_spot title s (label text) m xs k h t
titled title_spot title s (name text) m xs k h t = waited title_spot title s (name text) m xs k h t

pub sections_start : (s : Spot) (word : SectionWord) (m : Model) (xs : List Seen) {end : Spot} {r : Model} → Known xs end r →
    goes_on (after_rows s word m) xs end ≡ Ok r → FromSections m (token s (keyword word) ∷ xs) r
sections_start s Bounds m xs {r} k h = let n : FromBounds m xs r = k.of (bounds m) h in record { spot = n.rest.spot; sections = more (bounds_section n.list) n.rest.sections }
sections_start s General m xs {r} k h = let n : FromNames Integer m xs r = k.of (kinds Integer m) h in record { spot = n.rest.spot; sections = more (general n.list) n.rest.sections }
sections_start s Binary m xs {r} k h = let n : FromNames binary_kind m xs r = k.of (kinds binary_kind m) h in record { spot = n.rest.spot; sections = more (binary n.list) n.rest.sections }
sections_start s End m xs {r} k h =
    let n : (xs ≡ []) × (m ≡ r) = k.of (ended m) h in
    record {
      spot = s;
      sections = subst (λ ys. Sections (token s (keyword End) ∷ ys) m (token s (keyword End) ∷ []) r) (sym n.0)
          (subst (λ told. Sections (token s (keyword End) ∷ []) m (token s (keyword End) ∷ []) told) n.1 none);
    }
sections_start s word m xs k h = absurd cc

row_more : {xs : List Seen} {m r : Model} → IsFalse (begins_with_comparison xs) → FromRow m xs r → FromRows m xs r
row_more c w = record { behind = w.rest.behind; told = w.rest.told; rows = more c w.row w.rest.rows; rest = w.rest.rest }

pub rows : (s : Spot) (symbol : Symbol) (m : Model) (xs : List Seen) {end : Spot} {r : Model} → Known xs end r →
    goes_on (after_row s symbol m) xs end ≡ Ok r → FromRows m (token s symbol ∷ xs) r
rows s (label text) m xs k h = row_more refl (labelled s text m k one_token h)
rows s (name text) m xs k h = row_more refl (k.of (row_title s text m) h s)
rows s (sign negative) m xs k h = row_more refl (unlabelled_is s (sign negative) m xs k h)
rows s (number has_sign written) m xs k h = row_more refl (unlabelled_is s (number has_sign written) m xs k h)
rows s (comparison sense) m xs k h = absurd cc
rows s (keyword word) m xs k h = record { behind = _; told = m; rows = none; rest = sections_start s word m xs k h }
rows s colon m xs k h = absurd cc

-- rows behind the constraints word
rows_first : {xs : List Seen} {m r : Model} → FromRow m xs r → SpellsRest xs m r
rows_first w = record { with_rows = w.rest.told; behind_rows = w.rest.behind; rows = first w.row w.rest.rows; spot = w.rest.rest.spot; sections = w.rest.rest.sections }

no_rows : {xs : List Seen} {m r : Model} → FromSections m xs r → SpellsRest xs m r
no_rows {xs} {m} f = record { with_rows = m; behind_rows = xs; rows = nothing; spot = f.spot; sections = f.sections }

pub rows_begin : (s : Spot) (symbol : Symbol) (m : Model) (xs : List Seen) {end : Spot} {r : Model} → Known xs end r →
    goes_on (after_constraints s symbol m) xs end ≡ Ok r → SpellsRest (token s symbol ∷ xs) m r
rows_begin s (label text) m xs k h = rows_first (labelled s text m k one_token h)
rows_begin s (name text) m xs k h = rows_first (k.of (row_title s text m) h s)
rows_begin s (sign negative) m xs k h = rows_first (unlabelled_is s (sign negative) m xs k h)
rows_begin s (number has_sign written) m xs k h = rows_first (unlabelled_is s (number has_sign written) m xs k h)
rows_begin s (comparison sense) m xs k h = rows_first (unlabelled_is s (comparison sense) m xs k h)
rows_begin s (keyword word) m xs k h = no_rows (sections_start s word m xs k h)
rows_begin s colon m xs k h = absurd cc
