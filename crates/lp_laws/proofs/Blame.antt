-- Where a fault is named, the reading has it: at the token at once, or once the next one is seen.
use Rattle.std.proofs.Common.{◌≡◌, refl, sym, ◌∙◌, ap, subst, inl, inr, ℕ, Bool, true, false, List, [], ◌∷◌, ◌++◌, append_assoc, Option, Some, None, IsTrue, Ok, Err}
use Rattle.std.specs.Prelude.{if◌then◌else◌}
use Rattle.base_names.specs.declared.refusal.FaultWord.{FaultWord}
use Rattle.base_names.specs.declared.refusal.FaultWord.TheVariants.{DoubledName, NoSection, Number as bad_number, Size, Unsupported, Word}
use Rattle.frac128.specs.Checked.{◌>>=◌}
use Rattle.frac128.specs.Fraction.{Fraction, zero_value}
use Rattle.model_data.specs.declared.model.Model.{Model}
use Rattle.model_data.specs.declared.model.Row.{Row}
use Rattle.model_data.specs.declared.model.Sense.{Sense}
use Rattle.model_data.specs.declared.model.Sense.TheVariants.{Less, Greater, Equal}
use Rattle.lp_defs.specs.declared.fault.ModelFault.{ModelFault}
use Rattle.lp_defs.specs.declared.token.SectionWord.{SectionWord}
use Rattle.lp_defs.specs.declared.token.SectionWord.TheVariants.{Minimize, Maximize, Subject, Such, Constraints, End}
use Rattle.lp_defs.specs.Draft.{Unfinished, change_var, close_row, default_title, has_room_for_row, knows_row, mention, new_row, row_sum, with_constant, with_kind, with_objective, with_term}
use Rattle.lp_defs.specs.Grammar.{SpellsModel, Amount, FiniteAmount, MayOpen, OptionalSign, OptionalLabel, unsigned, signed, one_token, two_tokens, begins_with_sign}
use Rattle.lp_defs.specs.Objective.{after_objective, after_objective_term, lone_name, objective_amount, objective_term}
use Rattle.lp_defs.specs.Quantity.{Limit, limit_of, may_bound, turned, under_sign, unit, value_of, with_bound}
use Rattle.lp_defs.specs.Reading.{after, reading_from, stage_behind}
use Rattle.lp_defs.specs.Rows.{add_to_row, after_row_label, after_row_term, open_row, row_amount, row_term, settle_row_title}
use Rattle.lp_defs.specs.Sections.{first_limit}
use Rattle.lp_defs.specs.Stage.{Stage, start, objective_start, objective_title, objective_first, objective_sign, objective_number, objective_next, rows_start, row_title, row_first, row_sign, row_number, row_next, bounds, bound_name, bound_side, bound_side_sign, bound_sign, bound_number, bound_middle, bound_end, kinds}
use Rattle.lp_defs.specs.Symbols.{Quantity, finite, Seen, Spot, Symbol, token, no_token, sign, colon, comparison, number, keyword, label, name, fault_at, or_fault}
use Rattle.lp_defs.proofs.Agreement.{agreement, reading_behind}
use Rattle.lp_laws.specs.Faults.{IsNamed, behind_end, no_objective_word, no_constraints_word, second_comparison, number_alone, doubled, row_past_limit, term_past_limit, variable_past_limit, no_value, no_sum, no_constant, no_bound, RowName, by_place, TermAt, BeforeMention, nothing, number_and_sense, begins_with_name, begins_with_term, is_finite, is_objective_word, is_constraints_word}
use Rattle.lp_laws.specs.Faults as faults
use Rattle.lp_laws.specs.Told.{BeginsRow, unlabelled, labelled, Coefficient, lone as bare, scaled as numbered, IsPastLimit, TakesTerm, in_objective, first_in_row, later_in_row, Sum, objective, row, TellsObjective, TellsRows, TellsSections, TellsTerms, begins_with_label, has_rows, has_section, sum_of, put}
use Rattle.lp_laws.proofs.Chain.{Chain, here_of, nothing_between, peel}
use Rattle.lp_laws.proofs.Closing.{nowhere_is}
use Rattle.lp_laws.proofs.Judge.{opened, opens}
use Rattle.lp_laws.proofs.Telling.{ObjectiveStage, begins, titled, labelled as labelled_objective, numbered as numbered_objective, further, objective_stage, RowsStage, at_start, behind_row, SectionStage, at_bounds, at_bound_end, at_kinds, ending_stage, inside, TermsStage, first as first_stage, later as later_stage, titled_row, unlabelled as unlabelled_stage, terms_stage, same_stage}
use Rattle.lp_laws.specs.Places.{IsBeginning}
use Rattle.lp_laws.proofs.Beginnings.{dead_end, one_more}
use Rattle.lp_laws.proofs.Trail.{Trail}
use Rattle.lp_laws.proofs.Waits.{no_sum as no_sum_word, pending, word_of}

pub data Blamed (stage : Stage) (s : Spot) (symbol : Symbol) (more : List Seen) (w : FaultWord) : Type 0 where
  at_once : after stage s symbol ≡ Err (fault_at s w) → Blamed stage s symbol more w
  by_next : (next : Stage) → after stage s symbol ≡ Ok next → pending next more ≡ Some w → Blamed stage s symbol more w

reads_on : (front ys : List Seen) (stage : Stage) (m : Model) → stage_behind start front ≡ Ok stage → SpellsModel (front ++ ys) m → reading_from stage ys nowhere_is ≡ Ok m
reads_on front ys stage m at spelled =
    sym (reading_behind front ys start nowhere_is ∙ ap (λ o. o >>= λ next. reading_from next ys nowhere_is) at) ∙ (agreement (front ++ ys) nowhere_is m).1 spelled

-- The stages behind what is told

behind_objective : {front rest : List Seen} {stage : Stage} {m : Model} → Chain front rest stage → TellsObjective front m → ObjectiveStage m stage
behind_objective {front} {stage} {m} c told =
    objective_stage stage m (reads_on front (put (keyword Constraints) ∷ put (keyword End) ∷ []) stage m (here_of c).at told)

section_inside : (front : List Seen) {stage : Stage} {m : Model} → SectionStage m stage → Trail front stage → has_section front ≡ true
section_inside front at_bounds t = t
section_inside front at_bound_end t = t
section_inside front at_kinds t = t

rows_outside : (front : List Seen) {stage : Stage} {m : Model} → RowsStage m stage → Trail front stage → has_section front ≡ false
rows_outside front at_start t = t.outside
rows_outside front behind_row t = t.0

pub both_ways : {b : Bool} → b ≡ true → b ≡ false → ⊥
both_ways a b = let clash : true ≡ false = sym a ∙ b in cc

pub behind_rows : {front rest : List Seen} {stage : Stage} {m : Model} → Chain front rest stage → TellsRows front m → RowsStage m stage
behind_rows {front} {stage} {m} c told =
    elim (ending_stage stage m (reads_on front (put (keyword End) ∷ []) stage m (here_of c).at told.spelled))
    [ inl r ↦ r | inr t ↦ absurd (both_ways (section_inside front t (here_of c).trail) told.no_section) ]

behind_sections : {front rest : List Seen} {stage : Stage} {m : Model} → Chain front rest stage → TellsSections front m → SectionStage m stage
behind_sections {front} {stage} {m} c told =
    elim (ending_stage stage m (reads_on front (put (keyword End) ∷ []) stage m (here_of c).at told.spelled))
    [ inl r ↦ absurd (both_ways told.section (rows_outside front r (here_of c).trail)) | inr t ↦ t ]

stage_inside : (front : List Seen) (stage : Stage) → Trail front stage → inside stage ≡ true → has_section front ≡ true
stage_inside front (bounds m) t e = t
stage_inside front (bound_end sense text m) t e = t
stage_inside front (kinds kind m) t e = t
stage_inside front (bound_sign negative m) t e = t.inside
stage_inside front (bound_number p l m) t e = t.inside
stage_inside front (bound_middle l sense m) t e = t.number.inside
stage_inside front (bound_name text m) t e = t
stage_inside front (bound_side sense text m) t e = t
stage_inside front (bound_side_sign negative sense text m) t e = t
stage_inside front stage t e = absurd cc

behind_terms : {front rest : List Seen} {stage : Stage} {u : Unfinished} → Chain front rest stage → TellsTerms front u → TermsStage u stage
behind_terms {front} {stage} {u} c told =
    elim (terms_stage stage u (reads_on front (put (comparison Less) ∷ put (number false (finite zero_value)) ∷ put (keyword End) ∷ []) stage (close_row Less zero_value u) (here_of c).at told.spelled))
    [ inl t ↦ t | inr e ↦ absurd (both_ways (stage_inside front stage (here_of c).trail e) told.no_section) ]

-- the label of a row that begins
label_stage : {before rest : List Seen} {stage : Stage} {m : Model} {text : List ℕ} (rows own_label : List Seen) → Chain before rest stage → before ≡ rows ++ own_label → TellsRows rows m →
    OptionalLabel own_label (Some text) [] → MayOpen text m → row_first (new_row text m) ≡ stage
label_stage {rest} {stage} {m} {text} rows _ c e told (one_token {spot}) may_open =
    let p = peel c rows spot (label text) e in
    by_rows p.earlier (behind_rows p.chain told) p.stepped
  where
    by_rows : (earlier : Stage) → RowsStage m earlier → after earlier spot (label text) ≡ Ok stage → row_first (new_row text m) ≡ stage
    by_rows _ at_start stepped = let is = sym (ap (λ o. o >>= λ opened. Ok (row_first opened)) (opens spot text m may_open)) ∙ stepped in cc
    by_rows _ behind_row stepped = let is = sym (ap (λ o. o >>= λ opened. Ok (row_first opened)) (opens spot text m may_open)) ∙ stepped in cc
label_stage {rest} {stage} {m} {text} rows _ c e told (two_tokens {spot} {colon_spot}) may_open =
    let p = peel c (rows ++ token spot (name text) ∷ []) colon_spot colon (e ∙ sym (append_assoc rows (token spot (name text) ∷ []) (token colon_spot colon ∷ []))) in
    let q = peel p.chain rows spot (name text) refl in
    by_rows q.earlier p.earlier (behind_rows q.chain told) q.stepped p.stepped
  where
    by_title : (middle : Stage) → row_title spot text m ≡ middle → after middle colon_spot colon ≡ Ok stage → row_first (new_row text m) ≡ stage
    by_title middle is stepped =
        let whole : after (row_title spot text m) colon_spot colon ≡ Ok stage = subst (λ st. after st colon_spot colon ≡ Ok stage) (sym is) stepped in
        let is = sym (ap (λ o. o >>= λ opened. Ok (row_first opened)) (opens spot text m may_open)) ∙ whole in cc

    by_rows : (first middle : Stage) → RowsStage m first → after first spot (name text) ≡ Ok middle → after middle colon_spot colon ≡ Ok stage → row_first (new_row text m) ≡ stage
    by_rows _ middle at_start a b = by_title middle (let is : Ok (row_title spot text m) ≡ Ok middle = a in cc) b
    by_rows _ middle behind_row a b = by_title middle (let is : Ok (row_title spot text m) ≡ Ok middle = a in cc) b

-- Steps from where a term may stand

-- the stage behind a term's number
data NumberStage (x : Fraction) (s : Spot) : Sum → Stage → Type 0 where
  in_objective_sum : {m : Model} → NumberStage x s (objective m) (objective_number s x m)
  in_row_sum : {head : Bool} {u : Unfinished} → NumberStage x s (row u) (row_number head s x u)

-- the stage behind a term's sign
data SignStage (negative : Bool) : Sum → Stage → Type 0 where
  objective_signed : {m : Model} → SignStage negative (objective m) (objective_sign negative m)
  row_signed : {head : Bool} {u : Unfinished} → SignStage negative (row u) (row_sign head negative u)

-- a step to a stage behind a term's number
record NumberStep (stage : Stage) (s : Spot) (has_sign : Bool) (q : Quantity) (x : Fraction) (sums : Sum) : Type 0 where
  next : Stage
  stepped : after stage s (number has_sign q) ≡ Ok next
  shape : NumberStage x s sums next

amount_in_objective : (negative : Bool) (s : Spot) (q : Quantity) (x : Fraction) (m : Model) → value_of (under_sign negative q) ≡ Some x → objective_amount negative s q m ≡ Ok (objective_number s x m)
amount_in_objective negative s q x m e = ap (λ o. or_fault s bad_number o >>= λ x. Ok (objective_number s x m)) e

amount_in_row : (head negative : Bool) (s : Spot) (q : Quantity) (x : Fraction) (u : Unfinished) → value_of (under_sign negative q) ≡ Some x → row_amount head negative s q u ≡ Ok (row_number head s x u)
amount_in_row head negative s q x u e = ap (λ o. or_fault s bad_number o >>= λ x. Ok (row_number head s x u)) e

-- behind an objective, a token that begins with a sign
objective_step : (stage : Stage) (s : Spot) (symbol : Symbol) (m : Model) → ObjectiveStage m stage → begins_with_sign (token s symbol ∷ []) ≡ true →
    after stage s symbol ≡ after_objective_term s symbol m
objective_step _ s symbol m (titled {t} {title} {n} e) marked = titled_by symbol marked
  where
    titled_by : (symbol : Symbol) → begins_with_sign (token s symbol ∷ []) ≡ true → after (objective_title t title n) s symbol ≡ after_objective_term s symbol m
    titled_by (sign negative) marked = ap (λ o. o >>= λ told. after_objective_term s (sign negative) told) e
    titled_by (number true q) marked = ap (λ o. o >>= λ told. after_objective_term s (number true q) told) e
    titled_by symbol marked = absurd cc
objective_step _ s symbol m (numbered_objective {t} {x} {n} e) marked = numbered_by symbol marked
  where
    numbered_by : (symbol : Symbol) → begins_with_sign (token s symbol ∷ []) ≡ true → after (objective_number t x n) s symbol ≡ after_objective_term s symbol m
    numbered_by (sign negative) marked = ap (λ o. or_fault t bad_number o >>= λ told. after_objective_term s (sign negative) told) e
    numbered_by (number true q) marked = ap (λ o. or_fault t bad_number o >>= λ told. after_objective_term s (number true q) told) e
    numbered_by symbol marked = absurd cc
objective_step _ s symbol m begins marked = plain symbol marked
  where
    plain : (symbol : Symbol) → begins_with_sign (token s symbol ∷ []) ≡ true → after (objective_start m) s symbol ≡ after_objective_term s symbol m
    plain (sign negative) marked = refl
    plain (number true q) marked = refl
    plain symbol marked = absurd cc
objective_step _ s symbol m labelled_objective marked = plain symbol marked
  where
    plain : (symbol : Symbol) → begins_with_sign (token s symbol ∷ []) ≡ true → after (objective_first m) s symbol ≡ after_objective_term s symbol m
    plain (sign negative) marked = refl
    plain (number true q) marked = refl
    plain symbol marked = absurd cc
objective_step _ s symbol m further marked = refl

-- the steps of a row's first term
record HeadSteps (stage : Stage) (u : Unfinished) : Type 0 where
  signs : (s : Spot) (negative : Bool) → after stage s (sign negative) ≡ Ok (row_sign true negative u)
  numbers : (s : Spot) (has_sign : Bool) (q : Quantity) → after stage s (number has_sign q) ≡ row_amount true false s q u

rows_steps : (stage : Stage) (m : Model) → RowsStage m stage → MayOpen (default_title m) m → HeadSteps stage (new_row (default_title m) m)
rows_steps _ m at_start o = record {
  signs = λ s negative. ap (λ o. o >>= λ opened. after_row_label s (sign negative) opened) (opens s (default_title m) m o);
  numbers = λ s has_sign q. ap (λ o. o >>= λ opened. after_row_label s (number has_sign q) opened) (opens s (default_title m) m o);
}
rows_steps _ m behind_row o = record {
  signs = λ s negative. ap (λ o. o >>= λ opened. after_row_label s (sign negative) opened) (opens s (default_title m) m o);
  numbers = λ s has_sign q. ap (λ o. o >>= λ opened. after_row_label s (number has_sign q) opened) (opens s (default_title m) m o);
}

first_steps : (u : Unfinished) → HeadSteps (row_first u) u
first_steps u = record { signs = λ s negative. refl; numbers = λ s has_sign q. refl }

head_steps : {before rest shown : List Seen} {stage : Stage} {u : Unfinished} → Chain before rest stage → BeginsRow before shown u → HeadSteps stage u
head_steps {stage} c (unlabelled {m} told may_open plain) = rows_steps stage m (behind_rows c told) may_open
head_steps {stage} c (labelled rows own_label {m} {text} told has_label may_open is) =
    subst (λ st. HeadSteps st (new_row text m)) (label_stage rows own_label c is told has_label may_open) (first_steps (new_row text m))

-- behind a term of a row, a sign, or a number with one
record LaterSteps (stage : Stage) (u : Unfinished) : Type 0 where
  signs : (s : Spot) (negative : Bool) → (head : Bool) × (after stage s (sign negative) ≡ Ok (row_sign head negative u))
  numbers : (s : Spot) (q : Quantity) → (head : Bool) × (after stage s (number true q) ≡ row_amount head false s q u)

later_steps : (stage : Stage) (u : Unfinished) → TermsStage u stage → LaterSteps stage u
later_steps _ u first_stage = record { signs = λ s negative. (true, refl); numbers = λ s q. (true, refl) }
later_steps _ u later_stage = record { signs = λ s negative. (false, refl); numbers = λ s q. (false, refl) }
later_steps _ u (titled_row e) = record {
  signs = λ s negative. (false, ap (λ o. o >>= λ told. after_row_term s (sign negative) told) e);
  numbers = λ s q. (false, ap (λ o. o >>= λ told. after_row_term s (number true q) told) e);
}
later_steps _ u (unlabelled_stage {m} e) =
    let o = opened nowhere_is (default_title m) m u e in
    subst (λ u. LaterSteps (rows_start m) u) o.is (record {
      signs = λ s negative. (true, ap (λ o. o >>= λ opened. after_row_label s (sign negative) opened) (opens s (default_title m) m o.may_open));
      numbers = λ s q. (true, ap (λ o. o >>= λ opened. after_row_label s (number true q) opened) (opens s (default_title m) m o.may_open));
    })

signed_stage : {before rest shown : List Seen} {earlier stage : Stage} {sums : Sum} (s : Spot) (negative : Bool) → Chain before rest earlier → TakesTerm before shown sums →
    after earlier s (sign negative) ≡ Ok stage → SignStage negative sums stage
signed_stage {earlier} {stage} s negative c (in_objective {m} told marked) stepped =
    let is : Ok (objective_sign negative m) ≡ Ok stage = sym (objective_step earlier s (sign negative) m (behind_objective c told) refl) ∙ stepped in
    subst (λ st. SignStage negative (objective m) st) (let same : objective_sign negative m ≡ stage = cc in same) objective_signed
signed_stage {earlier} {stage} s negative c (first_in_row {u} begins_it) stepped =
    let is : Ok (row_sign true negative u) ≡ Ok stage = sym ((head_steps c begins_it).signs s negative) ∙ stepped in
    subst (λ st. SignStage negative (row u) st) (let same : row_sign true negative u ≡ stage = cc in same) row_signed
signed_stage {earlier} {stage} s negative c (later_in_row {u} told marked) stepped =
    let p = (later_steps earlier u (behind_terms c told)).signs s negative in
    let is : Ok (row_sign p.0 negative u) ≡ Ok stage = sym p.1 ∙ stepped in
    subst (λ st. SignStage negative (row u) st) (let same : row_sign p.0 negative u ≡ stage = cc in same) row_signed

-- a number of a term
number_step : {before front rest : List Seen} {stage : Stage} {negative : Bool} {sums : Sum} {own : List Seen} (more : List Seen) (s : Spot) (has_sign : Bool) (q : Quantity) (x : Fraction) → Chain front rest stage →
    front ≡ before ++ own → OptionalSign own negative [] → TakesTerm before (own ++ token s (number has_sign q) ∷ more) sums → value_of (under_sign negative q) ≡ Some x →
    NumberStep stage s has_sign q x sums
number_step {before} {stage} more s true q x c e unsigned (in_objective {m} told marked) v = record {
  next = objective_number s x m;
  stepped = objective_step stage s (number true q) m (behind_objective (nothing_between c e) told) refl ∙ amount_in_objective false s q x m v;
  shape = in_objective_sum;
}
number_step more s false q x c e unsigned (in_objective {m} told marked) v = absurd cc
number_step {before} {stage} more s has_sign q x c e unsigned (first_in_row {u} begins_it) v = record {
  next = row_number true s x u;
  stepped = (head_steps (nothing_between c e) begins_it).numbers s has_sign q ∙ amount_in_row true false s q x u v;
  shape = in_row_sum;
}
number_step {before} {stage} more s true q x c e unsigned (later_in_row {u} told marked) v =
    let p = (later_steps stage u (behind_terms (nothing_between c e) told)).numbers s q in
    record { next = row_number p.0 s x u; stepped = p.1 ∙ amount_in_row p.0 false s q x u v; shape = in_row_sum }
number_step more s false q x c e unsigned (later_in_row {u} told marked) v = absurd cc
number_step {before} {stage} {negative} {sums} more s has_sign q x c e (signed {spot}) takes v =
    let p = peel c before spot (sign negative) e in
    by_sign sums stage (signed_stage spot negative p.chain takes p.stepped)
  where
    by_sign : (sums : Sum) (stage : Stage) → SignStage negative sums stage → NumberStep stage s has_sign q x sums
    by_sign _ _ (objective_signed {m}) = record { next = objective_number s x m; stepped = amount_in_objective negative s q x m v; shape = in_objective_sum }
    by_sign _ _ (row_signed {head} {u}) = record { next = row_number head s x u; stepped = amount_in_row head negative s q x u v; shape = in_row_sum }

-- What each named fault comes to

-- a name of a term in the objective or in a row, whose number is known or which has none
data NameStep (stage : Stage) (p s : Spot) (text : List ℕ) (x : Fraction) : Sum → Type 0 where
  objective_name : {m : Model} → after stage s (name text) ≡ objective_term (record { number_spot = p; coefficient = x; name_spot = s; text = text }) m → NameStep stage p s text x (objective m)
  row_name : {u : Unfinished} → after stage s (name text) ≡ row_term (record { number_spot = p; coefficient = x; name_spot = s; text = text }) u → NameStep stage p s text x (row u)

name_past : {stage : Stage} {p s : Spot} {text : List ℕ} {x : Fraction} {sums : Sum} (sum : Fraction) → NameStep stage p s text x sums → sum_of text x sums ≡ Some sum → IsPastLimit text sum sums →
    after stage s (name text) ≡ Err (fault_at s Size)
name_past {p} {s} {text} sum (objective_name {m} is) fits past =
    is ∙ (ap (λ o. (or_fault p bad_number o >>= λ sum. or_fault s Size (with_objective text sum m)) >>= λ told. Ok (objective_next told)) fits
    ∙ ap (λ o. or_fault s Size o >>= λ told. Ok (objective_next told)) past)
name_past {p} {s} {text} sum (row_name {u} is) fits past =
    is ∙ (ap (λ o. (or_fault p bad_number o >>= λ sum. or_fault s Size (with_term text sum u)) >>= λ told. Ok (row_next told)) fits
    ∙ ap (λ o. or_fault s Size o >>= λ told. Ok (row_next told)) past)

name_wrong : {stage : Stage} {p s : Spot} {text : List ℕ} {x : Fraction} {sums : Sum} → NameStep stage p s text x sums → sum_of text x sums ≡ None →
    after stage s (name text) ≡ Err (fault_at p bad_number)
name_wrong {p} {s} {text} (objective_name {m} is) wrong =
    is ∙ ap (λ o. (or_fault p bad_number o >>= λ sum. or_fault s Size (with_objective text sum m)) >>= λ told. Ok (objective_next told)) wrong
name_wrong {p} {s} {text} (row_name {u} is) wrong =
    is ∙ ap (λ o. (or_fault p bad_number o >>= λ sum. or_fault s Size (with_term text sum u)) >>= λ told. Ok (row_next told)) wrong

-- behind a number or a sign
numbered_name_step : {x : Fraction} {p : Spot} {sums : Sum} {stage : Stage} (s : Spot) (text : List ℕ) → NumberStage x p sums stage → NameStep stage p s text x sums
numbered_name_step s text in_objective_sum = objective_name refl
numbered_name_step s text in_row_sum = row_name refl

signed_name_step : {negative : Bool} {sums : Sum} {stage : Stage} (s : Spot) (text : List ℕ) → SignStage negative sums stage → NameStep stage s s text (unit negative) sums
signed_name_step s text objective_signed = objective_name refl
signed_name_step s text row_signed = row_name refl

-- behind a row's label
label_name_step : (s : Spot) (text : List ℕ) (u : Unfinished) → NameStep (row_first u) s s text (unit false) (row u)
label_name_step s text u = row_name refl

-- a name that begins a row, which the next token decides
title_pending : (s : Spot) (text : List ℕ) (m : Model) (more : List Seen) (w : FaultWord) → begins_with_label (token s (name text) ∷ more) ≡ false → word_of (settle_row_title s text m) ≡ Some w →
    pending (row_title s text m) more ≡ Some w
title_pending s text m [] w plain e = e
title_pending s text m (no_token own ∷ more) w plain e = e
title_pending s text m (token t colon ∷ more) w plain e = absurd cc
title_pending s text m (token t symbol ∷ more) w plain e = e

rows_title : {m : Model} (stage : Stage) (s : Spot) (text : List ℕ) → RowsStage m stage → after stage s (name text) ≡ Ok (row_title s text m)
rows_title _ s text at_start = refl
rows_title _ s text behind_row = refl

settled_wrong : (s : Spot) (text : List ℕ) (m : Model) → MayOpen (default_title m) m → row_sum text (unit false) (new_row (default_title m) m) ≡ None →
    word_of (settle_row_title s text m) ≡ Some bad_number
settled_wrong s text m o wrong =
    ap (λ o. word_of (o >>= λ opened. add_to_row (lone_name false s text) opened)) (opens s (default_title m) m o)
    ∙ ap (λ o. word_of (or_fault s bad_number o >>= λ sum. or_fault s Size (with_term text sum (new_row (default_title m) m)))) wrong

settled_past : (s : Spot) (text : List ℕ) (m : Model) (sum : Fraction) → MayOpen (default_title m) m → row_sum text (unit false) (new_row (default_title m) m) ≡ Some sum →
    with_term text sum (new_row (default_title m) m) ≡ None → word_of (settle_row_title s text m) ≡ Some Size
settled_past s text m sum o fits past =
    ap (λ o. word_of (o >>= λ opened. add_to_row (lone_name false s text) opened)) (opens s (default_title m) m o)
    ∙ (ap (λ o. word_of (or_fault s bad_number o >>= λ sum. or_fault s Size (with_term text sum (new_row (default_title m) m)))) fits
    ∙ ap (λ o. word_of (or_fault s Size o)) past)

-- a lone name in front of which there is nothing, or a sign
lone_past : {before front rest : List Seen} {stage : Stage} {negative : Bool} {own more : List Seen} {sums : Sum} (s : Spot) (text : List ℕ) (sum : Fraction) → Chain front rest stage → front ≡ before ++ own →
    OptionalSign own negative [] → TakesTerm before (own ++ token s (name text) ∷ more) sums → sum_of text (unit negative) sums ≡ Some sum → IsPastLimit text sum sums →
    Blamed stage s (name text) more Size
lone_past s text sum c e unsigned (in_objective told marked) fits past = absurd cc
lone_past {stage} {more} s text sum c e unsigned (first_in_row (unlabelled {m} told may_open plain)) fits past =
    by_next (row_title s text m) (rows_title stage s text (behind_rows (nothing_between c e) told)) (title_pending s text m more Size plain (settled_past s text m sum may_open fits past))
lone_past {stage} {more} s text sum c e unsigned (first_in_row (labelled rows own_label {m} {text = title} told has_label may_open is)) fits past =
    subst (λ st. Blamed st s (name text) more Size) (label_stage rows own_label (nothing_between c e) is told has_label may_open)
    (at_once (name_past sum (label_name_step s text (new_row title m)) fits past))
lone_past s text sum c e unsigned (later_in_row told marked) fits past = absurd cc
lone_past {before} {negative} s text sum c e (signed {spot}) takes fits past =
    let p = peel c before spot (sign negative) e in
    at_once (name_past sum (signed_name_step s text (signed_stage spot negative p.chain takes p.stepped)) fits past)

lone_wrong : {before front rest : List Seen} {stage : Stage} {negative : Bool} {own more : List Seen} {sums : Sum} (s : Spot) (text : List ℕ) → Chain front rest stage → front ≡ before ++ own →
    OptionalSign own negative [] → TakesTerm before (own ++ token s (name text) ∷ more) sums → sum_of text (unit negative) sums ≡ None → Blamed stage s (name text) more bad_number
lone_wrong s text c e unsigned (in_objective told marked) wrong = absurd cc
lone_wrong {stage} {more} s text c e unsigned (first_in_row (unlabelled {m} told may_open plain)) wrong =
    by_next (row_title s text m) (rows_title stage s text (behind_rows (nothing_between c e) told)) (title_pending s text m more bad_number plain (settled_wrong s text m may_open wrong))
lone_wrong {stage} {more} s text c e unsigned (first_in_row (labelled rows own_label {m} {text = title} told has_label may_open is)) wrong =
    subst (λ st. Blamed st s (name text) more bad_number) (label_stage rows own_label (nothing_between c e) is told has_label may_open)
    (at_once (name_wrong (label_name_step s text (new_row title m)) wrong))
lone_wrong s text c e unsigned (later_in_row told marked) wrong = absurd cc
lone_wrong {before} {negative} s text c e (signed {spot}) takes wrong =
    let p = peel c before spot (sign negative) e in
    at_once (name_wrong (signed_name_step s text (signed_stage spot negative p.chain takes p.stepped)) wrong)

-- a number whose sum with the name behind it doesn't fit
number_pending : {x : Fraction} {s : Spot} {sums : Sum} {next : Stage} (t : Spot) (text : List ℕ) (more : List Seen) → NumberStage x s sums next → sum_of text x sums ≡ None →
    pending next (token t (name text) ∷ more) ≡ Some bad_number
number_pending t text more in_objective_sum wrong = ap no_sum_word wrong
number_pending t text more in_row_sum wrong = ap no_sum_word wrong

pub sum_blamed : {before front : List Seen} {stage : Stage} {negative : Bool} {own more : List Seen} {sums : Sum} {text : List ℕ} {x : Fraction} (s : Spot) (symbol : Symbol) → Chain front (token s symbol ∷ more) stage →
    front ≡ before ++ own → OptionalSign own negative [] → TakesTerm before (own ++ token s symbol ∷ more) sums → TermAt negative (token s symbol ∷ more) text x → sum_of text x sums ≡ None →
    Blamed stage s symbol more bad_number
sum_blamed s _ c e o takes (faults.lone {text}) wrong = lone_wrong s text c e o takes wrong
sum_blamed s _ c e o takes (faults.scaled {name_spot} {has_sign} {quantity} {x} {text} {xs} v) wrong =
    let n = number_step (token name_spot (name text) ∷ xs) s has_sign quantity x c e o takes v in
    by_next n.next n.stepped (number_pending name_spot text xs n.shape wrong)

-- a name behind its number
numbered_past : {before front rest : List Seen} {stage : Stage} {own more : List Seen} {sums : Sum} {x : Fraction} (s : Spot) (text : List ℕ) (sum : Fraction) → Chain front rest stage → front ≡ before ++ own →
    (a : FiniteAmount own x []) → TakesTerm before (own ++ token s (name text) ∷ more) sums → sum_of text x sums ≡ Some sum → IsPastLimit text sum sums → Blamed stage s (name text) more Size
numbered_past {before} {front} {rest} {stage} {own} {more} {sums} {x} s text sum c e a takes fits past =
    by_tokens a.amount.negative a.amount.spot a.amount.has_sign a.amount.written own e a.amount.tokens takes (ap value_of a.amount.value ∙ a.value)
  where
    by_step : (negative : Bool) (spot : Spot) (has_sign : Bool) (q : Quantity) (sign_part : List Seen) → front ≡ before ++ (sign_part ++ token spot (number has_sign q) ∷ []) → OptionalSign sign_part negative [] →
        TakesTerm before (sign_part ++ token spot (number has_sign q) ∷ token s (name text) ∷ more) sums → value_of (under_sign negative q) ≡ Some x → Blamed stage s (name text) more Size
    by_step negative spot has_sign q sign_part e o takes v =
        let p = peel c (before ++ sign_part) spot (number has_sign q) (e ∙ sym (append_assoc before sign_part (token spot (number has_sign q) ∷ []))) in
        let n = number_step (token s (name text) ∷ more) spot has_sign q x p.chain refl o takes v in
        at_once (name_past sum (numbered_name_step s text (subst (NumberStage x spot sums) (same_stage (after p.earlier spot (number has_sign q)) n.stepped p.stepped) n.shape)) fits past)

    by_tokens : (negative : Bool) (spot : Spot) (has_sign : Bool) (q : Quantity) (own : List Seen) → front ≡ before ++ own → OptionalSign own negative (token spot (number has_sign q) ∷ []) →
        TakesTerm before (own ++ token s (name text) ∷ more) sums → value_of (under_sign negative q) ≡ Some x → Blamed stage s (name text) more Size
    by_tokens negative spot has_sign q _ e unsigned takes v = by_step false spot has_sign q [] e unsigned takes v
    by_tokens negative spot has_sign q _ e (signed {spot = sign_spot}) takes v = by_step negative spot has_sign q (token sign_spot (sign negative) ∷ []) e signed takes v

pub past_blamed : {before front rest : List Seen} {stage : Stage} {own more : List Seen} {sums : Sum} {x : Fraction} (s : Spot) (text : List ℕ) (sum : Fraction) → Chain front rest stage → front ≡ before ++ own →
    Coefficient own x → TakesTerm before (own ++ token s (name text) ∷ more) sums → sum_of text x sums ≡ Some sum → IsPastLimit text sum sums → Blamed stage s (name text) more Size
past_blamed s text sum c e (bare o) takes fits past = lone_past s text sum c e o takes fits past
past_blamed s text sum c e (numbered a) takes fits past = numbered_past s text sum c e a takes fits past

-- a number of the objective that no name follows
constant_pending : (s : Spot) (x : Fraction) (m : Model) (more : List Seen) → begins_with_name more ≡ false → with_constant x m ≡ None → pending (objective_number s x m) more ≡ Some bad_number
constant_pending s x m [] plain wrong = ap no_sum_word wrong
constant_pending s x m (no_token own ∷ more) plain wrong = ap no_sum_word wrong
constant_pending s x m (token t (name text) ∷ more) plain wrong = absurd cc
constant_pending s x m (token t symbol ∷ more) plain wrong = ap no_sum_word wrong

pub constant_blamed : {front rest : List Seen} {stage : Stage} {negative : Bool} {own more : List Seen} {m : Model} (before : List Seen) (s : Spot) (has_sign : Bool) (q : Quantity) (x : Fraction) → Chain front rest stage → front ≡ before ++ own →
    TellsObjective before m → IsTrue (begins_with_sign (own ++ token s (number has_sign q) ∷ more)) → OptionalSign own negative [] → value_of (under_sign negative q) ≡ Some x → begins_with_name more ≡ false →
    with_constant x m ≡ None → Blamed stage s (number has_sign q) more bad_number
constant_blamed {stage} {more} {m} before s has_sign q x c e told marked o v plain wrong =
    let n = number_step more s has_sign q x c e o (in_objective told marked) v in
    by_shape (objective m) n.next n.stepped n.shape refl
  where
    by_shape : (sums : Sum) (next : Stage) → after stage s (number has_sign q) ≡ Ok next → NumberStage x s sums next → sums ≡ objective m → Blamed stage s (number has_sign q) more bad_number
    by_shape _ next stepped (in_objective_sum {m = n}) is =
        by_next next stepped (constant_pending s x n more plain (subst (λ m. with_constant x m ≡ None) (let same : m ≡ n = cc in same) wrong))
    by_shape _ next stepped in_row_sum is = absurd cc

-- A row's name

title_blamed : {m : Model} (stage : Stage) (s : Spot) (symbol : Symbol) (more : List Seen) (w : FaultWord) → RowsStage m stage → begins_with_term (token s symbol ∷ more) ≡ true →
    begins_with_label (token s symbol ∷ more) ≡ false → open_row s (default_title m) m ≡ Err (fault_at s w) → Blamed stage s symbol more w
title_blamed {m} stage s (name text) more w r term plain e =
    by_next (row_title s text m) (rows_title stage s text r) (title_pending s text m more w plain (ap (λ o. word_of (o >>= λ opened. add_to_row (lone_name false s text) opened)) e))
title_blamed {m} _ s (sign negative) more w at_start term plain e = at_once (ap (λ o. o >>= λ opened. after_row_label s (sign negative) opened) e)
title_blamed {m} _ s (sign negative) more w behind_row term plain e = at_once (ap (λ o. o >>= λ opened. after_row_label s (sign negative) opened) e)
title_blamed {m} _ s (number has_sign q) more w at_start term plain e = at_once (ap (λ o. o >>= λ opened. after_row_label s (number has_sign q) opened) e)
title_blamed {m} _ s (number has_sign q) more w behind_row term plain e = at_once (ap (λ o. o >>= λ opened. after_row_label s (number has_sign q) opened) e)
title_blamed stage s symbol more w r term plain e = absurd cc

pub row_blamed : {m : Model} {text : List ℕ} (stage : Stage) (s : Spot) (symbol : Symbol) (more : List Seen) (w : FaultWord) → RowsStage m stage → RowName m (token s symbol ∷ more) text →
    open_row s text m ≡ Err (fault_at s w) → Blamed stage s symbol more w
row_blamed _ s _ more w at_start (faults.one_token) e = at_once (ap (λ o. o >>= λ opened. Ok (row_first opened)) e)
row_blamed _ s _ more w behind_row (faults.one_token) e = at_once (ap (λ o. o >>= λ opened. Ok (row_first opened)) e)
row_blamed {m} {text} stage s _ _ w r (faults.two_tokens) e = by_next (row_title s text m) (rows_title stage s text r) (ap word_of e)
row_blamed stage s symbol more w r (by_place term plain) e = title_blamed stage s symbol more w r term plain e

pub known_title : (s : Spot) (text : List ℕ) (m : Model) → knows_row text m ≡ true → open_row s text m ≡ Err (fault_at s DoubledName)
known_title s text m e = ap (λ b. if b then Err (fault_at s DoubledName) else (if has_room_for_row m then Ok (new_row text m) else Err (fault_at s Size))) e

pub no_room : (s : Spot) (text : List ℕ) (m : Model) → knows_row text m ≡ false → has_room_for_row m ≡ false → open_row s text m ≡ Err (fault_at s Size)
no_room s text m unknown e =
    ap (λ b. if b then Err (fault_at s DoubledName) else (if has_room_for_row m then Ok (new_row text m) else Err (fault_at s Size))) unknown
    ∙ ap (λ b. if b then Ok (new_row text m) else Err (fault_at s Size)) e

-- Sections

limit_is : (negative : Bool) (s : Spot) (q : Quantity) (m : Model) (stage : Stage) → first_limit negative s q m ≡ Ok stage → (l : Limit) × (bound_number s l m ≡ stage)
limit_is negative s q m stage e = by (limit_of (under_sign negative q)) e
  where
    by : (o : Option Limit) → (or_fault s bad_number o >>= λ l. Ok (bound_number s l m)) ≡ Ok stage → (l : Limit) × (bound_number s l m ≡ stage)
    by (Some l) e = (l, cc)
    by None e = absurd cc

section_number : {m : Model} (earlier stage : Stage) (s : Spot) (has_sign : Bool) (q : Quantity) → SectionStage m earlier → after earlier s (number has_sign q) ≡ Ok stage → (l : Limit) × (bound_number s l m ≡ stage)
section_number {m} _ stage s has_sign q at_bounds e = limit_is false s q m stage e
section_number {m} _ stage s has_sign q (at_bound_end {sense = Less}) e = limit_is false s q m stage e
section_number {m} _ stage s has_sign q (at_bound_end {sense = Greater}) e = limit_is false s q m stage e
section_number {m} _ stage s has_sign q (at_bound_end {sense = Equal}) e = limit_is false s q m stage e
section_number {m} _ stage s has_sign q at_kinds e = absurd cc

section_sign : {m : Model} (earlier stage : Stage) (s : Spot) (negative : Bool) → SectionStage m earlier → after earlier s (sign negative) ≡ Ok stage → bound_sign negative m ≡ stage
section_sign _ stage s negative at_bounds e = cc
section_sign _ stage s negative (at_bound_end {sense = Less}) e = cc
section_sign _ stage s negative (at_bound_end {sense = Greater}) e = cc
section_sign _ stage s negative (at_bound_end {sense = Equal}) e = cc
section_sign _ stage s negative at_kinds e = absurd cc

section_name : {m : Model} (stage : Stage) (s : Spot) (text : List ℕ) → SectionStage m stage → mention text m ≡ None → after stage s (name text) ≡ Err (fault_at s Size)
section_name _ s text at_bounds e = ap (λ o. or_fault s Size o >>= λ known. Ok (bound_name text known)) e
section_name _ s text (at_bound_end {sense = Less}) e = ap (λ o. or_fault s Size o >>= λ known. Ok (bound_name text known)) e
section_name _ s text (at_bound_end {sense = Greater}) e = ap (λ o. or_fault s Size o >>= λ known. Ok (bound_name text known)) e
section_name _ s text (at_bound_end {sense = Equal}) e = ap (λ o. or_fault s Size o >>= λ known. Ok (bound_name text known)) e
section_name _ s text (at_kinds {kind}) e = ap (λ o. or_fault s Size o >>= λ known. Ok (kinds kind (change_var text (with_kind kind) known))) e

-- the stage behind an amount in a section, a number of which may have a sign in front
section_amount : {before front rest : List Seen} {stage : Stage} {negative : Bool} {sign_part : List Seen} {m : Model} (s : Spot) (has_sign : Bool) (q : Quantity) → Chain front rest stage →
    front ≡ before ++ (sign_part ++ token s (number has_sign q) ∷ []) → OptionalSign sign_part negative [] → TellsSections before m → (l : Limit) × (bound_number s l m ≡ stage)
section_amount {before} {stage} {m} s has_sign q c e unsigned told =
    let p = peel c before s (number has_sign q) e in
    section_number p.earlier stage s has_sign q (behind_sections p.chain told) p.stepped
section_amount {before} {stage} {negative} {m} s has_sign q c e (signed {spot}) told =
    let p = peel c (before ++ token spot (sign negative) ∷ []) s (number has_sign q) (e ∙ sym (append_assoc before (token spot (sign negative) ∷ []) (token s (number has_sign q) ∷ []))) in
    let r = peel p.chain before spot (sign negative) refl in
    let is = section_sign r.earlier p.earlier spot negative (behind_sections r.chain told) r.stepped in
    limit_is negative s q m stage (subst (λ st. after st s (number has_sign q) ≡ Ok stage) (sym is) p.stepped)

middle_is : (t : Spot) (l : Limit) (s : Spot) (sense : Sense) (m : Model) (stage : Stage) → after (bound_number t l m) s (comparison sense) ≡ Ok stage → bound_middle l sense m ≡ stage
middle_is t l s sense m stage e = by (may_bound (turned sense) l) e
  where
    by : (b : Bool) → (if b then Ok (bound_middle l sense m) else Err (fault_at t bad_number)) ≡ Ok stage → bound_middle l sense m ≡ stage
    by true e = cc
    by false e = absurd cc

pub mention_blamed : {before front rest : List Seen} {stage : Stage} {own : List Seen} {m : Model} (s : Spot) (text : List ℕ) (more : List Seen) → Chain front rest stage → front ≡ before ++ own →
    TellsSections before m → BeforeMention own → mention text m ≡ None → Blamed stage s (name text) more Size
mention_blamed {stage} s text more c e told nothing past = at_once (section_name stage s text (behind_sections (nothing_between c e) told) past)
mention_blamed {before} {front} {rest} {stage} {own} {m} s text more c e told (number_and_sense {quantity} {spot} {sense} a) past = by_tokens a.negative a.spot a.has_sign a.written own e a.tokens
  where
    by_sign : (negative : Bool) (number_spot : Spot) (has_sign : Bool) (q : Quantity) (sign_part : List Seen) → front ≡ before ++ (sign_part ++ token number_spot (number has_sign q) ∷ token spot (comparison sense) ∷ []) →
        OptionalSign sign_part negative [] → Blamed stage s (name text) more Size
    by_sign negative number_spot has_sign q sign_part e o =
        let n : Seen = token number_spot (number has_sign q) in
        let p = peel c (before ++ (sign_part ++ n ∷ [])) spot (comparison sense)
        (e ∙ (ap (λ xs. before ++ xs) (sym (append_assoc sign_part (n ∷ []) (token spot (comparison sense) ∷ []))) ∙ sym (append_assoc before (sign_part ++ n ∷ []) (token spot (comparison sense) ∷ [])))) in
        let l = section_amount number_spot has_sign q p.chain refl o told in
        let is = middle_is number_spot l.0 spot sense m stage (subst (λ st. after st spot (comparison sense) ≡ Ok stage) (sym l.1) p.stepped) in
        subst (λ st. Blamed st s (name text) more Size) is
        (at_once (ap (λ o. or_fault s Size o >>= λ known. Ok (bound_end sense text (change_var text (with_bound (turned sense) l.0) known))) past))

    by_tokens : (negative : Bool) (number_spot : Spot) (has_sign : Bool) (q : Quantity) (own : List Seen) → front ≡ before ++ own →
        OptionalSign own negative (token number_spot (number has_sign q) ∷ token spot (comparison sense) ∷ []) → Blamed stage s (name text) more Size
    by_tokens negative number_spot has_sign q _ e unsigned = by_sign false number_spot has_sign q [] e unsigned
    by_tokens negative number_spot has_sign q _ e (signed {spot = sign_spot}) = by_sign negative number_spot has_sign q (token sign_spot (sign negative) ∷ []) e signed

-- a bound's first number that doesn't fit the comparison
limit_blamed : {m : Model} (stage : Stage) (s t : Spot) (has_sign : Bool) (q : Quantity) (sense : Sense) (more : List Seen) (l : Limit) → after stage s (number has_sign q) ≡ Ok (bound_number s l m) →
    may_bound (turned sense) l ≡ false → Blamed stage s (number has_sign q) (token t (comparison sense) ∷ more) bad_number
limit_blamed {m} stage s t has_sign q sense more l stepped unfit = by_next (bound_number s l m) stepped (ap (λ b. if b then None else Some bad_number) unfit)

limit_by : (negative : Bool) (s : Spot) (q : Quantity) (m : Model) (l : Limit) → limit_of (under_sign negative q) ≡ Some l → first_limit negative s q m ≡ Ok (bound_number s l m)
limit_by negative s q m l e = ap (λ o. or_fault s bad_number o >>= λ l. Ok (bound_number s l m)) e

pub never_begins : {front rest : List Seen} {stage : Stage} (s : Spot) (symbol : Symbol) (f : ModelFault) → Chain front rest stage → after stage s symbol ≡ Err f → IsBeginning (front ++ token s symbol ∷ []) → ⊥
never_begins {front} {stage} s symbol f c wrong b =
    dead_end (front ++ token s symbol ∷ []) f (one_more front stage (token s symbol) (Err f) (here_of c).at wrong) b.more b.model b.spelled

pub bound_blamed : {before front rest : List Seen} {stage : Stage} {negative : Bool} {own : List Seen} {m : Model} (s t : Spot) (has_sign : Bool) (q : Quantity) (sense : Sense) (more : List Seen) (l : Limit) → Chain front rest stage →
    front ≡ before ++ own → TellsSections before m → IsBeginning (front ++ token s (number has_sign q) ∷ []) → OptionalSign own negative [] → limit_of (under_sign negative q) ≡ Some l →
    may_bound (turned sense) l ≡ false → Blamed stage s (number has_sign q) (token t (comparison sense) ∷ more) bad_number
bound_blamed {front = front} {rest = rest} {stage} {m} s t has_sign q sense more l c e told may unsigned v unfit = by_stage stage c (behind_sections (nothing_between c e) told)
  where
    by_stage : (stage : Stage) → Chain front rest stage → SectionStage m stage → Blamed stage s (number has_sign q) (token t (comparison sense) ∷ more) bad_number
    by_stage _ c at_bounds = limit_blamed (bounds m) s t has_sign q sense more l (limit_by false s q m l v) unfit
    by_stage _ c (at_bound_end {sense = Less} {text}) = limit_blamed (bound_end Less text m) s t has_sign q sense more l (limit_by false s q m l v) unfit
    by_stage _ c (at_bound_end {sense = Greater} {text}) = limit_blamed (bound_end Greater text m) s t has_sign q sense more l (limit_by false s q m l v) unfit
    by_stage _ c (at_bound_end {sense = Equal} {text}) = limit_blamed (bound_end Equal text m) s t has_sign q sense more l (limit_by false s q m l v) unfit
    by_stage _ c at_kinds = absurd (never_begins s (number has_sign q) (fault_at s Word) c refl may)
bound_blamed {before} {stage} {negative} {m} s t has_sign q sense more l c e told may (signed {spot}) v unfit =
    let p = peel c before spot (sign negative) e in
    let is = section_sign p.earlier stage spot negative (behind_sections p.chain told) p.stepped in
    subst (λ st. Blamed st s (number has_sign q) (token t (comparison sense) ∷ more) bad_number) is
    (limit_blamed (bound_sign negative m) s t has_sign q sense more l (limit_by negative s q m l v) unfit)

-- a row's first number alone
amount_is : (head negative : Bool) (s : Spot) (q : Quantity) (u : Unfinished) (stage : Stage) → row_amount head negative s q u ≡ Ok stage → (x : Fraction) × (row_number head s x u ≡ stage)
amount_is head negative s q u stage e = by (value_of (under_sign negative q)) e
  where
    by : (o : Option Fraction) → (or_fault s bad_number o >>= λ x. Ok (row_number head s x u)) ≡ Ok stage → (x : Fraction) × (row_number head s x u ≡ stage)
    by (Some x) e = (x, cc)
    by None e = absurd cc

pub alone_blamed : {before front rest : List Seen} {stage : Stage} {amount shown : List Seen} {quantity : Quantity} {u : Unfinished} (s : Spot) (sense : Sense) (more : List Seen) → Chain front rest stage →
    front ≡ before ++ amount → BeginsRow before shown u → Amount amount quantity [] → Blamed stage s (comparison sense) more Unsupported
alone_blamed {before} {front} {rest} {stage} {amount} {shown} {quantity} {u} s sense more c e begins_it a = by_tokens a.negative a.spot a.has_sign a.written amount e a.tokens
  where
    behind_number : (t : Spot) → (x : Fraction) × (row_number true t x u ≡ stage) → Blamed stage s (comparison sense) more Unsupported
    behind_number t x = subst (λ st. Blamed st s (comparison sense) more Unsupported) x.1 (at_once refl)

    by_tokens : (negative : Bool) (t : Spot) (has_sign : Bool) (q : Quantity) (amount : List Seen) → front ≡ before ++ amount → OptionalSign amount negative (token t (number has_sign q) ∷ []) →
        Blamed stage s (comparison sense) more Unsupported
    by_tokens negative t has_sign q _ e unsigned =
        let p = peel c before t (number has_sign q) e in
        behind_number t (amount_is true false t q u stage (sym ((head_steps p.chain begins_it).numbers t has_sign q) ∙ p.stepped))
    by_tokens negative t has_sign q _ e (signed {spot}) =
        let p = peel c (before ++ token spot (sign negative) ∷ []) t (number has_sign q) (e ∙ sym (append_assoc before (token spot (sign negative) ∷ []) (token t (number has_sign q) ∷ []))) in
        let r = peel p.chain before spot (sign negative) refl in
        let is : row_sign true negative u ≡ p.earlier = (let both : Ok (row_sign true negative u) ≡ Ok p.earlier = sym ((head_steps r.chain begins_it).signs spot negative) ∙ r.stepped in cc) in
        behind_number t (amount_is true negative t q u stage (subst (λ st. after st t (number has_sign q) ≡ Ok stage) (sym is) p.stepped))

-- Section words

word_wrong : (s : Spot) (word : SectionWord) (m : Model) → is_constraints_word word ≡ false → after_objective s word m ≡ Err (fault_at s NoSection)
word_wrong s Constraints m e = absurd cc
word_wrong s Subject m e = absurd cc
word_wrong s Such m e = absurd cc
word_wrong s word m e = refl

pub word_blamed : {front rest : List Seen} {stage : Stage} {m : Model} (s : Spot) (word : SectionWord) (more : List Seen) → Chain front rest stage → TellsObjective front m → is_constraints_word word ≡ false →
    Blamed stage s (keyword word) more NoSection
word_blamed {stage} {m} s word more c told e = at_once (by_stage stage (behind_objective c told))
  where
    by_stage : (stage : Stage) → ObjectiveStage m stage → after stage s (keyword word) ≡ Err (fault_at s NoSection)
    by_stage _ begins = word_wrong s word m e
    by_stage _ labelled_objective = word_wrong s word m e
    by_stage _ further = word_wrong s word m e
    by_stage _ (titled is) = ap (λ o. o >>= λ told. after_objective_term s (keyword word) told) is ∙ word_wrong s word m e
    by_stage _ (numbered_objective {t} is) = ap (λ o. or_fault t bad_number o >>= λ told. after_objective_term s (keyword word) told) is ∙ word_wrong s word m e

start_wrong : (s : Spot) (symbol : Symbol) → is_objective_word symbol ≡ false → after start s symbol ≡ Err (fault_at s NoSection)
start_wrong s (keyword Minimize) e = absurd cc
start_wrong s (keyword Maximize) e = absurd cc
start_wrong s symbol e = refl

pub objective_word_blamed : {front rest : List Seen} {stage : Stage} (s : Spot) (symbol : Symbol) (more : List Seen) → Chain front rest stage → front ≡ [] → is_objective_word symbol ≡ false →
    Blamed stage s symbol more NoSection
unfolding stage_behind
objective_word_blamed {front} {stage} s symbol more c none e =
    let at : stage_behind start [] ≡ Ok stage = subst (λ xs. stage_behind start xs ≡ Ok stage) none (here_of c).at in
    let is : start ≡ stage = cc in
    subst (λ st. Blamed st s symbol more NoSection) is (at_once (start_wrong s symbol e))

-- a comparison behind a row
pub comparison_blamed : {front rest : List Seen} {stage : Stage} {m : Model} (s : Spot) (sense : Sense) (more : List Seen) → Chain front rest stage → TellsRows front m → has_rows m ≡ true →
    Blamed stage s (comparison sense) more Unsupported
comparison_blamed {front} {stage} {m} s sense more c told rows = by_stage stage (behind_rows c told) (here_of c).trail
  where
    by_stage : (stage : Stage) → RowsStage m stage → Trail front stage → Blamed stage s (comparison sense) more Unsupported
    by_stage _ at_start t = absurd (let clash : true ≡ false = sym rows ∙ ap (λ (rows : List Row). has_rows (record m { rows = rows })) t.no_rows in cc)
    by_stage _ behind_row t = at_once refl
