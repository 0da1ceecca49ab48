-- Each step from each stage, judged.
use Rattle.std.proofs.Common.{◌≡◌, refl, sym, ◌∙◌, ap, subst, ◌⊎◌, inl, inr, ℕ, Bool, true, false, not, List, [], ◌∷◌, ◌++◌, append-nil, Option, Some, None, IsTrue, IsFalse, Result, Ok, Err}
use Rattle.std.specs.Prelude.{if◌then◌else◌}
use Rattle.std.specs.Str.{str_eq_ignore_ascii_case}
use Rattle.base_names.specs.declared.refusal.FaultWord.{FaultWord}
use Rattle.base_names.specs.declared.refusal.FaultWord.TheVariants.{Number as bad_number, Size, Word}
use Rattle.frac128.specs.Checked.{◌>>=◌}
use Rattle.frac128.specs.Fraction.{Fraction, zero_value}
use Rattle.frac128.specs.Lowest.{IsKept}
use Rattle.frac128.proofs.Kept.{IsKept-one}
use Rattle.model_data.specs.declared.model.Direction.{Direction}
use Rattle.model_data.specs.declared.model.Direction.TheVariants.{Minimize as minimizing, Maximize as maximizing}
use Rattle.model_data.specs.declared.model.Model.{Model}
use Rattle.model_data.specs.declared.model.Row.{Row}
use Rattle.model_data.specs.declared.model.Sense.{Sense}
use Rattle.model_data.specs.declared.model.Sense.TheVariants.{Less, Greater, Equal}
use Rattle.model_data.specs.declared.model.VarKind.{VarKind}
use Rattle.lp_defs.specs.declared.fault.ModelFault.{ModelFault}
use Rattle.lp_defs.specs.declared.token.SectionWord.TheVariants.{Minimize, Maximize, Constraints, Free, End}
use Rattle.lp_defs.specs.Draft.{Unfinished, blank, change_var, close_row, default_title, mention, new_row, objective_sum, row_sum, with_constant, with_kind, with_objective}
use Rattle.lp_defs.specs.Grammar.{SpellsModel, Amount, OptionalSign, unsigned, signed, two_tokens, begins_with_sign}
use Rattle.lp_defs.specs.Objective.{Summand, add_to_objective, after_objective_label, after_objective_term, lone_name, numbered_name, objective_amount, objective_term, settle_objective_title}
use Rattle.lp_defs.specs.Quantity.{Limit, limited, limit_of, may_bound, turned, under_sign, unit, value_of, with_bound, unlimited}
use Rattle.lp_defs.specs.Reading.{after, reading_from, stage_behind}
use Rattle.lp_defs.specs.Rows.{after_row_label, after_row_term, open_row, right_side, settle_row_title}
use Rattle.lp_defs.specs.Sections.{after_bound, first_limit, last_limit}
use Rattle.lp_defs.specs.Stage.{Stage, start, objective_start, objective_title, objective_first, objective_sign, objective_number, objective_next, second_word, rows_start, rows_next, row_title, row_first, row_sign, row_number, row_next, row_side, row_side_sign, bounds, bound_name, bound_side, bound_side_sign, bound_sign, bound_number, bound_middle, bound_end, kinds, ended}
use Rattle.lp_defs.specs.Symbols.{Quantity, finite, infinite, Seen, Spot, Symbol, token, no_token, sign, colon, comparison, number, keyword, label, name, fault_at, or_fault}
use Rattle.lp_laws.specs.Faults.{IsNamed, behind_end, no_objective_word, no_constraints_word, second_comparison, number_alone, doubled, row_past_limit, term_past_limit, variable_past_limit, no_value, no_sum, no_constant, no_bound, RowName, by_place, TermAt, BeforeMention, nothing, number_and_sense, begins_with_name, begins_with_term, is_finite, is_objective_word, is_constraints_word}
use Rattle.lp_laws.specs.Faults as faults
use Rattle.lp_laws.specs.Told.{lone as bare, scaled as numbered, BeginsRow, labelled, in_objective, TellsObjective, TellsSections, begins_with_label, has_rows, has_section, put}
use Rattle.lp_laws.proofs.Closing.{bound_number_closes, bounds_closes, nowhere_is, rows_next_closes}
use Rattle.lp_defs.proofs.SoundTokens.{IsSoundSymbol}
use Rattle.lp_laws.proofs.Lasting.{Within, WithinRow, bind, constant_within, into_objective, into_row, opened as open_within}
use Rattle.lp_laws.proofs.Replacing.{given}
use Rattle.lp_laws.proofs.Beginnings.{beginning, one_more}
use Rattle.lp_laws.proofs.Blank.{IsBlank, blank_lone}
use Rattle.lp_laws.proofs.Telling.{spells}
use Rattle.lp_laws.proofs.Trail.{AtHead, BoundNumber, BoundSense, BoundSign, Going, Here, Judged, ObjectiveNumber, ObjectiveSign, RowLess, RowNumber, RowPart, first, RowSign, RowTitle, as_named, as_word, amount_of, longer, still_inside, still_outside, takes_term}
use Rattle.lp_laws.proofs.Waits.{is_number, not_fitting, ok_by, pending, some_by}
use Rattle.lp_laws.proofs.Judge.{branch_or, constant_rowless, go, number_wrong, not_finite, objective_more_judged, objective_name_judged, objective_number_judged, objective_rowless, opened, row_begins_judged, row_head_judged, row_more_judged, row_name_judged, row_number_judged, value_or, word_judged}

-- The objective

-- a step behind what has told a model
through_ok : {A : Type 0} (front : List Seen) (s : Spot) (symbol : Symbol) (more : List Seen) {o : Result A ModelFault} {a : A} (g : A → Result Stage ModelFault) → o ≡ Ok a →
    Judged front s symbol more (g a) → Judged front s symbol more (o >>= g)
through_ok front s symbol more g e h = subst (Judged front s symbol more) (sym (ap (λ o. o >>= g) e)) h

never_wrong : {A : Type 0} (front : List Seen) (s : Spot) (symbol : Symbol) (more : List Seen) (o : Result A ModelFault) (g : A → Result Stage ModelFault) → ((f : ModelFault) → o ≡ Err f → ⊥) →
    ((a : A) → o ≡ Ok a → Judged front s symbol more (g a)) → Judged front s symbol more (o >>= g)
never_wrong front s symbol more (Ok a) g h k = k a refl
never_wrong front s symbol more (Err f) g h k = absurd (h f refl)

added_rowless : (S : Summand) (m told : Model) → add_to_objective S m ≡ Ok told → m.rows ≡ [] → told.rows ≡ []
added_rowless S m told e no_rows = summed (objective_sum S.text S.coefficient m) e
  where
    within : (sum : Fraction) (o : Option Model) → with_objective S.text sum m ≡ o → or_fault S.name_spot Size o ≡ Ok told → told.rows ≡ []
    within sum (Some n) is e = objective_rowless S.text sum m told no_rows (is ∙ (let same_model : n ≡ told = cc in ap Some same_model))
    within sum None is e = absurd cc

    summed : (o : Option Fraction) → (or_fault S.number_spot bad_number o >>= λ sum. or_fault S.name_spot Size (with_objective S.text sum m)) ≡ Ok told → told.rows ≡ []
    summed (Some sum) e = within sum (with_objective S.text sum m) refl e
    summed None e = absurd cc

-- nothing is told yet, so that a name's sum fits and its variable is within the limit
blank_name : (t s : Spot) (text : List ℕ) (x sum : Fraction) (m : Model) (f : ModelFault) → IsBlank m → objective_sum text x m ≡ Some sum →
    add_to_objective (record { number_spot = t; coefficient = x; name_spot = s; text = text }) m ≡ Err f → ⊥
blank_name t s text x sum m f is fits e = no_fault is.direction (sym (ap (λ o. or_fault t bad_number o >>= λ sum. or_fault s Size (with_objective text sum m)) fits) ∙ e)
  where
    no_fault : (d : Direction) → or_fault s Size (with_objective text sum m) ≡ Err f → ⊥
    no_fault d e = let told_is : or_fault s Size (with_objective text sum (blank is.direction)) ≡ Err f = subst (λ m. or_fault s Size (with_objective text sum m) ≡ Err f) is.is e in absurd cc

head_judged : (front : List Seen) (stage : Stage) (s : Spot) (symbol : Symbol) (m : Model) (more : List Seen) → stage_behind start front ≡ Ok stage →
    ((has_sign : Bool) (q : Quantity) → after stage s (number has_sign q) ≡ objective_amount false s q m) → IsSoundSymbol symbol → Within m → AtHead front m → m.rows ≡ [] → TellsObjective front m →
    Judged front s symbol more (after_objective_label s symbol m)
head_judged front stage s (number has_sign q) m more at steps k within head no_rows told =
    objective_number_judged front [] s false has_sign q m more at (steps has_sign) within head.outside no_rows (sym (append-nil front)) told unsigned (inr (head.blank, k))
head_judged front stage s (name text) m more at steps k within head no_rows told =
    never_wrong front s (name text) more (add_to_objective (lone_name false s text) m) (λ told. Ok (objective_next told)) (λ f e. blank_lone s text m f head.blank e)
    (λ next e. go (record { outside = still_outside front (token s (name text)) head.outside refl; no_rows = added_rowless (lone_name false s text) m next e no_rows }) refl tt)
head_judged front stage s symbol m more at steps k within head no_rows told = objective_more_judged front stage s symbol m more at (steps true) within head.outside no_rows told

blank_rowless : (m : Model) → IsBlank m → m.rows ≡ []
blank_rowless m is = ap (λ (m : Model). m.rows) is.is

begun_judged : (front : List Seen) (s : Spot) (symbol : Symbol) (m : Model) (more : List Seen) → stage_behind start front ≡ Ok (objective_start m) → IsSoundSymbol symbol → Within m → AtHead front m →
    Judged front s symbol more (after (objective_start m) s symbol)
unfolding reading_from
begun_judged front s (label text) m more at k within head = go (record { outside = still_outside front (token s (label text)) head.outside refl; blank = head.blank }) refl tt
begun_judged front s (name text) m more at k within head = go (record { outside = still_outside front (token s (name text)) head.outside refl; blank = head.blank }) refl tt
begun_judged front s symbol m more at k within head =
    head_judged front (objective_start m) s symbol m more at (λ has_sign q. refl) k within head (blank_rowless m head.blank)
    (spells front (put (keyword Constraints) ∷ put (keyword End) ∷ []) (objective_start m) m at refl)

titled_judged : (front : List Seen) (t : Spot) (title : List ℕ) (s : Spot) (symbol : Symbol) (m : Model) (more : List Seen) → stage_behind start front ≡ Ok (objective_title t title m) → Within m → AtHead front m →
    Judged front s symbol more (after (objective_title t title m) s symbol)
unfolding reading_from
titled_judged front t title s colon m more at within head = go (record { outside = still_outside front (token s colon) head.outside refl; blank = head.blank }) refl tt
titled_judged front t title s symbol m more at within head =
    never_wrong front s symbol more (settle_objective_title t title m) (λ told. after_objective_term s symbol told) (λ f e. blank_lone t title m f head.blank e)
    (λ told e. objective_more_judged front (objective_title t title m) s symbol told more at (λ q. ap (λ o. o >>= λ told. after_objective_term s (number true q) told) e)
    (given Within (settle_objective_title t title m) told e (into_objective (lone_name false t title) m within)) head.outside
    (added_rowless (lone_name false t title) m told e (blank_rowless m head.blank))
    (spells front (put (keyword Constraints) ∷ put (keyword End) ∷ []) (objective_title t title m) told at
    (ap (λ o. (o >>= λ told. Ok (rows_start told)) >>= λ next. reading_from next (put (keyword End) ∷ []) nowhere_is) e)))

numbered_judged : (front : List Seen) (t : Spot) (x : Fraction) (s : Spot) (symbol : Symbol) (m : Model) (more : List Seen) → stage_behind start front ≡ Ok (objective_number t x m) →
    Within m × IsKept x → ObjectiveNumber front x m → pending (objective_number t x m) (token s symbol ∷ more) ≡ None → Judged front s symbol more (after (objective_number t x m) s symbol)
unfolding reading_from
numbered_judged front t x s (name text) m more at within trail quiet = named trail.marked
  where
    sum : (a : Fraction) × (objective_sum text x m ≡ Some a)
    sum = some_by (objective_sum text x m) quiet

    S : Summand
    S = numbered_name t x s text

    named : ((rest : List Seen) → IsTrue (begins_with_sign (trail.own ++ rest))) ⊎ IsBlank m → Judged front s (name text) more (objective_term S m)
    named (inl marked) =
        objective_name_judged trail.before trail.own t s text x m more trail.outside trail.no_rows (λ e. absurd (let no : None ≡ Some sum.0 = sym e ∙ sum.1 in cc))
        trail.tokens trail.told (marked (token s (name text) ∷ more)) (numbered trail.amount)
    named (inr is) =
        never_wrong front s (name text) more (add_to_objective S m) (λ told. Ok (objective_next told)) (λ f e. blank_name t s text x sum.0 m f is sum.1 e)
        (λ next e. go (record { outside = still_outside front (token s (name text)) trail.outside refl; no_rows = added_rowless S m next e trail.no_rows }) refl tt)
numbered_judged front t x s symbol m more at within trail quiet =
    let p = some_by (with_constant x m) quiet in
    through_ok front s symbol more (λ told. after_objective_term s symbol told) (ap (or_fault t bad_number) p.1)
    (objective_more_judged front (objective_number t x m) s symbol p.0 more at (λ q. ap (λ o. or_fault t bad_number o >>= λ told. after_objective_term s (number true q) told) p.1)
    (constant_within x m p.0 within.1 within.0 p.1) trail.outside (constant_rowless x m p.0 trail.no_rows p.1)
    (spells front (put (keyword Constraints) ∷ put (keyword End) ∷ []) (objective_number t x m) p.0 at
    (ap (λ o. (or_fault t bad_number o >>= λ told. Ok (rows_start told)) >>= λ next. reading_from next (put (keyword End) ∷ []) nowhere_is) p.1)))

signed_judged : (front : List Seen) (negative : Bool) (s : Spot) (symbol : Symbol) (m : Model) (more : List Seen) → stage_behind start front ≡ Ok (objective_sign negative m) → Within m →
    ObjectiveSign front negative m → Judged front s symbol more (after (objective_sign negative m) s symbol)
signed_judged front negative s (number has_sign q) m more at within trail =
    objective_number_judged trail.before (token trail.spot (sign negative) ∷ []) s negative has_sign q m more at (λ q. refl) within trail.outside trail.no_rows trail.tokens trail.told signed (inl (λ rest. refl))
signed_judged front negative s (name text) m more at within trail =
    objective_name_judged trail.before (token trail.spot (sign negative) ∷ []) s s text (unit negative) m more trail.outside trail.no_rows
    (λ e. as_named (no_sum trail.before (token trail.spot (sign negative) ∷ []) trail.tokens (in_objective trail.told refl) signed faults.lone e))
    trail.tokens trail.told refl (bare signed)
signed_judged front negative s symbol m more at within trail = as_word

worded_judged : (front : List Seen) (wanted : List ℕ) (s : Spot) (symbol : Symbol) (m : Model) (more : List Seen) → RowLess front m → Judged front s symbol more (after (second_word wanted m) s symbol)
worded_judged front wanted s (name text) m more trail =
    branch_or (str_eq_ignore_ascii_case wanted text) (Ok (rows_start m)) (fault_at s Word)
    (λ _. go (record { outside = still_outside front (token s (name text)) trail.outside refl; no_rows = trail.no_rows }) refl tt) (λ _. as_word)
worded_judged front wanted s symbol m more trail = as_word

-- Rows

rowless_opens : (s : Spot) (m : Model) → m.rows ≡ [] → open_row s (default_title m) m ≡ Ok (new_row (default_title m) m)
rowless_opens s m no_rows = ap (λ (rows : List Row). open_row s (default_title m) (record m { rows = rows })) no_rows
    ∙ ap (λ (rows : List Row). Ok (new_row (default_title m) (record m { rows = rows }))) (sym no_rows)

rows_start_judged : (front : List Seen) (s : Spot) (symbol : Symbol) (m : Model) (more : List Seen) → stage_behind start front ≡ Ok (rows_start m) → Within m → RowLess front m →
    Judged front s symbol more (after (rows_start m) s symbol)
unfolding reading_from
rows_start_judged front s (comparison sense) m more at within trail =
    through_ok front s (comparison sense) more (λ opened. after_row_label s (comparison sense) opened) (rowless_opens s m trail.no_rows) (go (still_outside front (token s (comparison sense)) trail.outside refl) refl tt)
rows_start_judged front s symbol m more at within trail =
    row_begins_judged front (rows_start m) s symbol m more at (λ has_sign q. refl) within
    (record { no_section = trail.outside; spelled = spells front (put (keyword End) ∷ []) (rows_start m) m at refl }) (λ sense e. absurd cc)

rows_next_judged : (front : List Seen) (s : Spot) (symbol : Symbol) (m : Model) (more : List Seen) → stage_behind start front ≡ Ok (rows_next m) → Within m →
    (has_section front ≡ false) × (has_rows m ≡ true) → Judged front s symbol more (after (rows_next m) s symbol)
unfolding reading_from
rows_next_judged front s symbol m more at within trail =
    row_begins_judged front (rows_next m) s symbol m more at (λ has_sign q. refl) within
    (record { no_section = trail.0; spelled = spells front (put (keyword End) ∷ []) (rows_next m) m at refl }) (λ sense e. trail.1)

row_titled_judged : (front : List Seen) (t : Spot) (title : List ℕ) (s : Spot) (symbol : Symbol) (m : Model) (more : List Seen) → stage_behind start front ≡ Ok (row_title t title m) → Within m →
    RowTitle front t title m → pending (row_title t title m) (token s symbol ∷ more) ≡ None → Judged front s symbol more (after (row_title t title m) s symbol)
unfolding reading_from
row_titled_judged front t title s colon m more at within trail quiet =
    let p = ok_by (open_row t title m) quiet in
    let o = opened t title m p.0 p.1 in
    through_ok front s colon more (λ opened. Ok (row_first opened)) (p.1 ∙ ap Ok (sym o.is))
    (go (
      still_outside front (token s colon) trail.outside refl,
      (λ rest. labelled trail.before (token t (name title) ∷ token s colon ∷ []) trail.told two_tokens o.may_open (longer trail.before (token t (name title) ∷ []) (token s colon) trail.tokens)),
    ) refl tt)
row_titled_judged front t title s symbol m more at within trail quiet =
    let p = ok_by (settle_row_title t title m) quiet in
    let inside_limits = bind WithinRow WithinRow (open_row t (default_title m) m) _ (open_within t (default_title m) m within) (λ u l. into_row (lone_name false t title) u IsKept-one l) in
    through_ok front s symbol more (λ told. after_row_term s symbol told) p.1
    (row_more_judged front (row_title t title m) s symbol p.0 more at (λ q. ap (λ o. o >>= λ told. after_row_term s (number true q) told) p.1)
    (given WithinRow (settle_row_title t title m) p.0 p.1 inside_limits)
    (record {
      no_section = trail.outside;
      spelled = spells front (put (comparison Less) ∷ put (number false (finite zero_value)) ∷ put (keyword End) ∷ []) (row_title t title m) (close_row Less zero_value p.0) at
          (ap (λ o. (o >>= λ told. Ok (row_side Less told)) >>= λ next. reading_from next (put (number false (finite zero_value)) ∷ put (keyword End) ∷ []) nowhere_is) p.1);
    }))

row_signed_judged : (front : List Seen) (head negative : Bool) (s : Spot) (symbol : Symbol) (u : Unfinished) (more : List Seen) → stage_behind start front ≡ Ok (row_sign head negative u) → WithinRow u →
    RowSign front head negative u → Judged front s symbol more (after (row_sign head negative u) s symbol)
row_signed_judged front head negative s (number has_sign q) u more at within trail =
    row_number_judged trail.before (token trail.spot (sign negative) ∷ []) head s negative has_sign q u more at (λ q. refl) within trail.outside trail.tokens trail.part signed (λ _ rest. refl)
row_signed_judged front head negative s (name text) u more at within trail =
    let own : List Seen = token trail.spot (sign negative) ∷ [] in
    let takes = takes_term head (token trail.spot (sign negative) ∷ token s (name text) ∷ more) trail.part (λ _. refl) refl in
    row_name_judged trail.before (token trail.spot (sign negative) ∷ []) s s text (unit negative) u more trail.outside
    (λ e. as_named (no_sum trail.before (token trail.spot (sign negative) ∷ []) trail.tokens takes signed faults.lone e)) trail.tokens takes (bare signed)
row_signed_judged front head negative s symbol u more at within trail = as_word

begins_by : {before : List Seen} {u : Unfinished} (rest : List Seen) → RowPart before true u → IsFalse (begins_with_label rest) → BeginsRow before rest u
begins_by rest (first begins) plain = begins rest plain

row_numbered_judged : (front : List Seen) (head : Bool) (t : Spot) (x : Fraction) (s : Spot) (symbol : Symbol) (u : Unfinished) (more : List Seen) → RowNumber front head x u →
    pending (row_number head t x u) (token s symbol ∷ more) ≡ None → Judged front s symbol more (after (row_number head t x u) s symbol)
row_numbered_judged front head t x s (name text) u more trail quiet =
    let sum = some_by (row_sum text x u) quiet in
    row_name_judged trail.before trail.own t s text x u more trail.outside (λ e. absurd (let no : None ≡ Some sum.0 = sym e ∙ sum.1 in cc)) trail.tokens
    (takes_term head (trail.own ++ token s (name text) ∷ more) trail.part (λ h. trail.marked h (token s (name text) ∷ more)) (trail.plain (token s (name text) ∷ more))) (numbered trail.amount)
row_numbered_judged front true t x s (comparison sense) u more trail quiet =
    as_named (number_alone trail.before trail.own trail.tokens (begins_by (trail.own ++ token s (comparison sense) ∷ more) trail.part (trail.plain (token s (comparison sense) ∷ more))) trail.amount.amount)
row_numbered_judged front false t x s (comparison sense) u more trail quiet = as_word
row_numbered_judged front head t x s symbol u more trail quiet = as_word

side_judged : (front : List Seen) (stage : Stage) (negative has_sign : Bool) (sense : Sense) (s : Spot) (q : Quantity) (u : Unfinished) (more : List Seen) → stage_behind start front ≡ Ok stage →
    ((q : Quantity) → after stage s (number has_sign q) ≡ right_side negative sense s q u) → has_section front ≡ false → Judged front s (number has_sign q) more (right_side negative sense s q u)
side_judged front stage negative has_sign sense s q u more at steps outside =
    value_or s bad_number (value_of (under_sign negative q)) (λ x. Ok (rows_next (close_row sense x u)))
    (λ e. as_named (number_wrong (finite zero_value) (rows_next (close_row sense zero_value u)) (fault_at s bad_number) at (steps (finite zero_value) ∙ zero negative) (rows_next_closes (close_row sense zero_value u))
    (steps q ∙ ap (λ o. or_fault s bad_number o >>= λ x. Ok (rows_next (close_row sense x u))) e) (inl (not_finite negative q e))))
    (λ x _. go (still_outside front (token s (number has_sign q)) outside refl, some_row u.model.rows x) refl tt)
  where
    zero : (negative : Bool) → right_side negative sense s (finite zero_value) u ≡ Ok (rows_next (close_row sense zero_value u))
    zero false = refl
    zero true = refl

    some_row : (rows : List Row) (x : Fraction) → has_rows (record u.model { rows = rows ++ (record { name = u.row.title; sense = sense; rhs = x; terms = u.row.terms } ∷ []) }) ≡ true
    some_row [] x = refl
    some_row (r ∷ rows) x = refl

compared_judged : (front : List Seen) (sense : Sense) (s : Spot) (symbol : Symbol) (u : Unfinished) (more : List Seen) → stage_behind start front ≡ Ok (row_side sense u) → has_section front ≡ false →
    Judged front s symbol more (after (row_side sense u) s symbol)
compared_judged front sense s (sign negative) u more at outside = go (still_outside front (token s (sign negative)) outside refl) refl tt
compared_judged front sense s (number has_sign q) u more at outside = side_judged front (row_side sense u) false has_sign sense s q u more at (λ q. refl) outside
compared_judged front sense s symbol u more at outside = as_word

side_signed_judged : (front : List Seen) (negative : Bool) (sense : Sense) (s : Spot) (symbol : Symbol) (u : Unfinished) (more : List Seen) → stage_behind start front ≡ Ok (row_side_sign negative sense u) →
    has_section front ≡ false → Judged front s symbol more (after (row_side_sign negative sense u) s symbol)
side_signed_judged front negative sense s (number has_sign q) u more at outside = side_judged front (row_side_sign negative sense u) negative has_sign sense s q u more at (λ q. refl) outside
side_signed_judged front negative sense s symbol u more at outside = as_word

-- Sections

mention_judged : {front : List Seen} (before own : List Seen) (s : Spot) (text : List ℕ) (m : Model) (more : List Seen) (g : Model → Stage) → front ≡ before ++ own → TellsSections before m → BeforeMention own →
    ((known : Model) → Going front s (name text) more (g known)) → Judged front s (name text) more (or_fault s Size (mention text m) >>= λ known. Ok (g known))
mention_judged before own s text m more g tokens told shape goes =
    value_or s Size (mention text m) (λ known. Ok (g known)) (λ e. as_named (variable_past_limit before own tokens told shape e)) (λ known _. goes known)

limit_judged : {front : List Seen} (before own : List Seen) (stage : Stage) (s : Spot) (negative has_sign : Bool) (q : Quantity) (m : Model) (more : List Seen) → stage_behind start front ≡ Ok stage →
    ((q : Quantity) → after stage s (number has_sign q) ≡ first_limit negative s q m) → has_section front ≡ true → front ≡ before ++ own → TellsSections before m → OptionalSign own negative [] →
    Judged front s (number has_sign q) more (first_limit negative s q m)
limit_judged {front} before own stage s negative has_sign q m more at steps inside_it tokens told o =
    value_or s bad_number (limit_of (under_sign negative q)) (λ l. Ok (bound_number s l m))
    (λ e. as_named (number_wrong (infinite true) (bound_number s (unlimited (not negative)) m) (fault_at s bad_number) at (steps (infinite true) ∙ far negative) (bound_number_closes s (unlimited (not negative)) m)
    (steps q ∙ ap (λ o. or_fault s bad_number o >>= λ l. Ok (bound_number s l m)) e) (inr inside_it)))
    (λ l e. record {
      trail = record { inside = still_inside front (token s (number has_sign q)) inside_it; before = before; own = own ++ token s (number has_sign q) ∷ []; tokens = longer before own (token s (number has_sign q)) tokens; told = told; quantity = under_sign negative q; amount = amount_of s has_sign q [] o };
      waits = waits l e more;
      last = (refl, is_number);
    })
  where
    far : (negative : Bool) → first_limit negative s (infinite true) m ≡ Ok (bound_number s (unlimited (not negative)) m)
    far false = refl
    far true = refl

    waits : (l : Limit) → limit_of (under_sign negative q) ≡ Some l → (more : List Seen) (w : FaultWord) → pending (bound_number s l m) more ≡ Some w → IsNamed front (token s (number has_sign q) ∷ more) w
    waits l e (token t (comparison sense) ∷ xs) w wrong =
        let p = not_fitting (may_bound (turned sense) l) w wrong in
        subst (IsNamed front (token s (number has_sign q) ∷ token t (comparison sense) ∷ xs)) p.1
        (no_bound before own tokens told (beginning (front ++ token s (number has_sign q) ∷ []) (bound_number s l m)
        (one_more front stage (token s (number has_sign q)) (Ok (bound_number s l m)) at (steps q ∙ ap (λ o. or_fault s bad_number o >>= λ l. Ok (bound_number s l m)) e)) (bound_number_closes s l m)) o e p.0)
    waits l e [] w wrong = absurd cc
    waits l e (no_token own ∷ xs) w wrong = absurd cc
    waits l e (token t symbol ∷ xs) w wrong = absurd cc

bound_judged : (front : List Seen) (stage : Stage) (s : Spot) (symbol : Symbol) (m : Model) (more : List Seen) → stage_behind start front ≡ Ok stage →
    ((has_sign : Bool) (q : Quantity) → after stage s (number has_sign q) ≡ first_limit false s q m) → TellsSections front m → Judged front s symbol more (after_bound s symbol m)
bound_judged front stage s (name text) m more at steps told =
    mention_judged front [] s text m more (λ known. bound_name text known) (sym (append-nil front)) told nothing (λ known. go (still_inside front (token s (name text)) told.section) refl tt)
bound_judged front stage s (sign negative) m more at steps told =
    go (record { inside = still_inside front (token s (sign negative)) told.section; before = front; spot = s; tokens = refl; told = told }) refl tt
bound_judged front stage s (number has_sign q) m more at steps told =
    limit_judged front [] stage s false has_sign q m more at (steps has_sign) told.section (sym (append-nil front)) told unsigned
bound_judged front stage s (keyword word) m more at steps told = word_judged front s word m more
bound_judged front stage s symbol m more at steps told = as_word

last_judged : (front : List Seen) (stage : Stage) (s : Spot) (negative has_sign : Bool) (sense : Sense) (text : List ℕ) (q : Quantity) (m : Model) (more : List Seen) → stage_behind start front ≡ Ok stage →
    ((q : Quantity) → after stage s (number has_sign q) ≡ last_limit negative sense text s q m) → has_section front ≡ true → Judged front s (number has_sign q) more (last_limit negative sense text s q m)
last_judged front stage s negative has_sign sense text q m more at steps inside_it =
    value_or s bad_number (limit_of (under_sign negative q)) (λ l. if may_bound sense l then Ok (bounds (change_var text (with_bound sense l) m)) else Err (fault_at s bad_number))
    (λ e. as_named (wrong (ap (λ o. or_fault s bad_number o >>= λ l. if may_bound sense l then Ok (bounds (change_var text (with_bound sense l) m)) else Err (fault_at s bad_number)) e)))
    (λ l e. branch_or (may_bound sense l) (Ok (bounds (change_var text (with_bound sense l) m))) (fault_at s bad_number)
    (λ _. go (still_inside front (token s (number has_sign q)) inside_it) refl tt)
    (λ h. as_named (wrong (ap (λ o. or_fault s bad_number o >>= λ l. if may_bound sense l then Ok (bounds (change_var text (with_bound sense l) m)) else Err (fault_at s bad_number)) e
    ∙ ap (λ b. if b then Ok (bounds (change_var text (with_bound sense l) m)) else Err (fault_at s bad_number)) h))))
  where
    zero : (negative : Bool) (sense : Sense) → last_limit negative sense text s (finite zero_value) m ≡ Ok (bounds (change_var text (with_bound sense (limited zero_value)) m))
    zero false Less = refl
    zero false Greater = refl
    zero false Equal = refl
    zero true Less = refl
    zero true Greater = refl
    zero true Equal = refl

    wrong : last_limit negative sense text s q m ≡ Err (fault_at s bad_number) → IsNamed front (token s (number has_sign q) ∷ more) bad_number
    wrong e = number_wrong (finite zero_value) (bounds (change_var text (with_bound sense (limited zero_value)) m)) (fault_at s bad_number) at (steps (finite zero_value) ∙ zero negative sense) (bounds_closes _) (steps q ∙ e) (inr inside_it)

named_judged : (front : List Seen) (text : List ℕ) (s : Spot) (symbol : Symbol) (m : Model) (more : List Seen) → has_section front ≡ true → Judged front s symbol more (after (bound_name text m) s symbol)
named_judged front text s (keyword Free) m more inside_it = go (still_inside front (token s (keyword Free)) inside_it) refl tt
named_judged front text s (comparison sense) m more inside_it = go (still_inside front (token s (comparison sense)) inside_it) refl tt
named_judged front text s symbol m more inside_it = as_word

sided_judged : (front : List Seen) (sense : Sense) (text : List ℕ) (s : Spot) (symbol : Symbol) (m : Model) (more : List Seen) → stage_behind start front ≡ Ok (bound_side sense text m) → has_section front ≡ true →
    Judged front s symbol more (after (bound_side sense text m) s symbol)
sided_judged front sense text s (sign negative) m more at inside_it = go (still_inside front (token s (sign negative)) inside_it) refl tt
sided_judged front sense text s (number has_sign q) m more at inside_it = last_judged front (bound_side sense text m) s false has_sign sense text q m more at (λ q. refl) inside_it
sided_judged front sense text s symbol m more at inside_it = as_word

side_sign_judged : (front : List Seen) (negative : Bool) (sense : Sense) (text : List ℕ) (s : Spot) (symbol : Symbol) (m : Model) (more : List Seen) → stage_behind start front ≡ Ok (bound_side_sign negative sense text m) →
    has_section front ≡ true → Judged front s symbol more (after (bound_side_sign negative sense text m) s symbol)
side_sign_judged front negative sense text s (number has_sign q) m more at inside_it = last_judged front (bound_side_sign negative sense text m) s negative has_sign sense text q m more at (λ q. refl) inside_it
side_sign_judged front negative sense text s symbol m more at inside_it = as_word

first_sign_judged : (front : List Seen) (negative : Bool) (s : Spot) (symbol : Symbol) (m : Model) (more : List Seen) → stage_behind start front ≡ Ok (bound_sign negative m) → BoundSign front negative m →
    Judged front s symbol more (after (bound_sign negative m) s symbol)
first_sign_judged front negative s (number has_sign q) m more at trail =
    limit_judged trail.before (token trail.spot (sign negative) ∷ []) (bound_sign negative m) s negative has_sign q m more at (λ q. refl) trail.inside trail.tokens trail.told signed
first_sign_judged front negative s symbol m more at trail = as_word

-- an amount with one more token behind it
behind_amount : {own : List Seen} {quantity : Quantity} (x : Seen) → Amount own quantity [] → Amount (own ++ x ∷ []) quantity (x ∷ [])
behind_amount x a = record { negative = a.negative; spot = a.spot; has_sign = a.has_sign; written = a.written; tokens = behind_sign x a.tokens; value = a.value }
  where
    behind_sign : {own : List Seen} {negative : Bool} {y : Seen} (x : Seen) → OptionalSign own negative (y ∷ []) → OptionalSign (own ++ x ∷ []) negative (y ∷ x ∷ [])
    behind_sign x unsigned = unsigned
    behind_sign x signed = signed

limit_sense_judged : (front : List Seen) (t : Spot) (l : Limit) (s : Spot) (symbol : Symbol) (m : Model) (more : List Seen) → BoundNumber front [] m →
    pending (bound_number t l m) (token s symbol ∷ more) ≡ None → Judged front s symbol more (after (bound_number t l m) s symbol)
limit_sense_judged front t l s (comparison sense) m more trail quiet =
    branch_or (may_bound (turned sense) l) (Ok (bound_middle l sense m)) (fault_at t bad_number)
    (λ _. go (record {
      spot = s;
      number = record {
        inside = still_inside front (token s (comparison sense)) trail.inside;
        before = trail.before;
        own = trail.own ++ token s (comparison sense) ∷ [];
        tokens = longer trail.before trail.own (token s (comparison sense)) trail.tokens;
        told = trail.told;
        quantity = trail.quantity;
        amount = behind_amount (token s (comparison sense)) trail.amount;
      };
    }) refl tt)
    (λ h. absurd (let no : Some bad_number ≡ None = ap (λ b. if b then None else Some bad_number) (sym h) ∙ quiet in cc))
limit_sense_judged front t l s symbol m more trail quiet = as_word

middle_judged : (front : List Seen) (l : Limit) (sense : Sense) (s : Spot) (symbol : Symbol) (m : Model) (more : List Seen) → BoundSense front sense m → Judged front s symbol more (after (bound_middle l sense m) s symbol)
middle_judged front l sense s (name text) m more trail =
    let n = trail.number in
    mention_judged n.before n.own s text m more (λ known. bound_end sense text (change_var text (with_bound (turned sense) l) known)) n.tokens n.told (number_and_sense n.amount)
    (λ known. go (still_inside front (token s (name text)) n.inside) refl tt)
middle_judged front l sense s symbol m more trail = as_word

ends_judged : (front : List Seen) (sense : Sense) (text : List ℕ) (s : Spot) (symbol : Symbol) (m : Model) (more : List Seen) → stage_behind start front ≡ Ok (bound_end sense text m) → has_section front ≡ true →
    Judged front s symbol more (after (bound_end sense text m) s symbol)
unfolding reading_from
ends_judged front Less text s (comparison Less) m more at inside_it = go (still_inside front (token s (comparison Less)) inside_it) refl tt
ends_judged front Greater text s (comparison Greater) m more at inside_it = go (still_inside front (token s (comparison Greater)) inside_it) refl tt
ends_judged front Less text s symbol m more at inside_it =
    bound_judged front (bound_end Less text m) s symbol m more at (λ has_sign q. refl) (record { section = inside_it; spelled = spells front (put (keyword End) ∷ []) (bound_end Less text m) m at refl })
ends_judged front Greater text s symbol m more at inside_it =
    bound_judged front (bound_end Greater text m) s symbol m more at (λ has_sign q. refl) (record { section = inside_it; spelled = spells front (put (keyword End) ∷ []) (bound_end Greater text m) m at refl })
ends_judged front Equal text s symbol m more at inside_it =
    bound_judged front (bound_end Equal text m) s symbol m more at (λ has_sign q. refl) (record { section = inside_it; spelled = spells front (put (keyword End) ∷ []) (bound_end Equal text m) m at refl })

listed_judged : (front : List Seen) (kind : VarKind) (s : Spot) (symbol : Symbol) (m : Model) (more : List Seen) → stage_behind start front ≡ Ok (kinds kind m) → has_section front ≡ true →
    Judged front s symbol more (after (kinds kind m) s symbol)
unfolding reading_from
listed_judged front kind s (name text) m more at inside_it =
    mention_judged front [] s text m more (λ known. kinds kind (change_var text (with_kind kind) known)) (sym (append-nil front))
    (record { section = inside_it; spelled = spells front (put (keyword End) ∷ []) (kinds kind m) m at refl }) nothing (λ known. go (still_inside front (token s (name text)) inside_it) refl tt)
listed_judged front kind s (keyword word) m more at inside_it = word_judged front s word m more
listed_judged front kind s symbol m more at inside_it = as_word

started_judged : (front : List Seen) (s : Spot) (symbol : Symbol) (more : List Seen) → front ≡ [] → Judged front s symbol more (after start s symbol)
started_judged front s (keyword Minimize) more none = go (record { outside = still_outside front (token s (keyword Minimize)) (ap has_section none) refl; blank = record { direction = minimizing; is = refl } }) refl tt
started_judged front s (keyword Maximize) more none = go (record { outside = still_outside front (token s (keyword Maximize)) (ap has_section none) refl; blank = record { direction = maximizing; is = refl } }) refl tt
started_judged front s symbol more none = as_named (no_objective_word none refl)

pub judge : (front : List Seen) (stage : Stage) (s : Spot) (symbol : Symbol) (more : List Seen) → IsSoundSymbol symbol → Here front (token s symbol ∷ more) stage → Judged front s symbol more (after stage s symbol)
unfolding reading_from
judge front start s symbol more k h = started_judged front s symbol more h.trail
judge front (objective_start m) s symbol more k h = begun_judged front s symbol m more h.at k h.lasting h.trail
judge front (objective_title t title m) s symbol more k h = titled_judged front t title s symbol m more h.at h.lasting h.trail
judge front (objective_first m) s symbol more k h =
    head_judged front (objective_first m) s symbol m more h.at (λ has_sign q. refl) k h.lasting h.trail (blank_rowless m h.trail.blank)
    (spells front (put (keyword Constraints) ∷ put (keyword End) ∷ []) (objective_first m) m h.at refl)
judge front (objective_sign negative m) s symbol more k h = signed_judged front negative s symbol m more h.at h.lasting h.trail
judge front (objective_number t x m) s symbol more k h = numbered_judged front t x s symbol m more h.at h.lasting h.trail h.quiet
judge front (objective_next m) s symbol more k h =
    objective_more_judged front (objective_next m) s symbol m more h.at (λ q. refl) h.lasting h.trail.outside h.trail.no_rows
    (spells front (put (keyword Constraints) ∷ put (keyword End) ∷ []) (objective_next m) m h.at refl)
judge front (second_word wanted m) s symbol more k h = worded_judged front wanted s symbol m more h.trail
judge front (rows_start m) s symbol more k h = rows_start_judged front s symbol m more h.at h.lasting h.trail
judge front (rows_next m) s symbol more k h = rows_next_judged front s symbol m more h.at h.lasting h.trail
judge front (row_title t title m) s symbol more k h = row_titled_judged front t title s symbol m more h.at h.lasting h.trail h.quiet
judge front (row_first u) s symbol more k h =
    row_head_judged front (row_first u) s symbol u more h.at (λ has_sign q. refl) h.lasting h.trail.0 (first (λ rest _. h.trail.1 rest)) (h.trail.1 (token s symbol ∷ more))
judge front (row_sign head negative u) s symbol more k h = row_signed_judged front head negative s symbol u more h.at h.lasting h.trail
judge front (row_number head t x u) s symbol more k h = row_numbered_judged front head t x s symbol u more h.trail h.quiet
judge front (row_next u) s symbol more k h =
    row_more_judged front (row_next u) s symbol u more h.at (λ q. refl) h.lasting
    (record { no_section = h.trail; spelled = spells front (put (comparison Less) ∷ put (number false (finite zero_value)) ∷ put (keyword End) ∷ []) (row_next u) (close_row Less zero_value u) h.at refl })
judge front (row_side sense u) s symbol more k h = compared_judged front sense s symbol u more h.at h.trail
judge front (row_side_sign negative sense u) s symbol more k h = side_signed_judged front negative sense s symbol u more h.at h.trail
judge front (bounds m) s symbol more k h =
    bound_judged front (bounds m) s symbol m more h.at (λ has_sign q. refl) (record { section = h.trail; spelled = spells front (put (keyword End) ∷ []) (bounds m) m h.at refl })
judge front (bound_name text m) s symbol more k h = named_judged front text s symbol m more h.trail
judge front (bound_side sense text m) s symbol more k h = sided_judged front sense text s symbol m more h.at h.trail
judge front (bound_side_sign negative sense text m) s symbol more k h = side_sign_judged front negative sense text s symbol m more h.at h.trail
judge front (bound_sign negative m) s symbol more k h = first_sign_judged front negative s symbol m more h.at h.trail
judge front (bound_number t l m) s symbol more k h = limit_sense_judged front t l s symbol m more h.trail h.quiet
judge front (bound_middle l sense m) s symbol more k h = middle_judged front l sense s symbol m more h.trail
judge front (bound_end sense text m) s symbol more k h = ends_judged front sense text s symbol m more h.at h.trail
judge front (kinds kind m) s symbol more k h = listed_judged front kind s symbol m more h.at h.trail
judge front (ended m) s symbol more k h = as_named (behind_end (record { model = m; spelled = subst (λ xs. SpellsModel xs m) (append-nil front) (spells front [] (ended m) m h.at refl) }))
