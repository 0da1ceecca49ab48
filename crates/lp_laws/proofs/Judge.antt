-- Each step from a stage is at fault at its token for a reason that is named, or for none, or goes on.
use Rattle.std.proofs.Common.{◌≡◌, refl, sym, ◌∙◌, ap, subst, ◌⊎◌, inl, inr, ℕ, Bool, true, false, List, [], ◌∷◌, ◌++◌, append_assoc, append-nil, arith, Option, Some, None, option_map, IsTrue, IsFalse, Result, Ok, Err}
use Rattle.std.specs.Prelude.{if◌then◌else◌}
use Rattle.base_names.specs.declared.refusal.FaultWord.{FaultWord}
use Rattle.base_names.specs.declared.refusal.FaultWord.TheVariants.{DoubledName, Number as bad_number, Size}
use Rattle.frac128.specs.Checked.{◌>>=◌}
use Rattle.frac128.specs.Fraction.{Fraction, exact_sum, zero_value}
use Rattle.frac128.specs.Lowest.{IsKept}
use Rattle.frac128.proofs.Kept.{FitsSum-zero_left}
use Rattle.model_data.specs.declared.model.Direction.{Direction}
use Rattle.model_data.specs.declared.model.Model.{Model}
use Rattle.model_data.specs.declared.model.Sense.{Sense}
use Rattle.lp_defs.specs.declared.fault.ModelFault.{ModelFault}
use Rattle.lp_defs.specs.declared.token.SectionWord.{SectionWord}
use Rattle.lp_defs.specs.declared.token.SectionWord.TheVariants.{Subject, Such, Constraints, Bounds, General, Binary, End}
use Rattle.lp_defs.specs.Draft.{Unfinished, blank, default_title, has_room_for_row, knows_row, new_row, objective_sum, row_sum, with_constant, with_objective, with_term}
use Rattle.lp_defs.specs.Grammar.{MayOpen, OptionalSign, unsigned, one_token, begins_with_sign}
use Rattle.lp_defs.specs.Objective.{after_objective, after_objective_term, lone_name, objective_amount, objective_term}
use Rattle.lp_defs.specs.Quantity.{added, under_sign, unit, value_of}
use Rattle.lp_defs.specs.Reading.{after, stage_behind}
use Rattle.lp_defs.specs.Rows.{add_to_row, after_row, after_row_label, after_row_term, after_rows, open_row, row_amount, row_term, settle_row_title, unlabelled_row}
use Rattle.lp_defs.specs.Stage.{Stage, start, objective_number, objective_next, row_title, row_first, row_number, row_next}
use Rattle.lp_defs.specs.Symbols.{Quantity, finite, too_wide, infinite, Seen, Spot, Symbol, token, no_token, sign, colon, comparison, number, keyword, label, name, fault_at, or_fault}
use Rattle.lp_laws.specs.Faults.{IsNamed, behind_end, no_objective_word, no_constraints_word, second_comparison, number_alone, doubled, row_past_limit, term_past_limit, variable_past_limit, no_value, no_sum, no_constant, no_bound, RowName, by_place, TermAt, BeforeMention, nothing, number_and_sense, begins_with_name, begins_with_term, is_finite, is_objective_word, is_constraints_word}
use Rattle.lp_laws.specs.Faults as faults
use Rattle.lp_laws.specs.Told.{lone as bare, BeginsRow, unlabelled, labelled, Coefficient, TakesTerm, in_objective, first_in_row, row, TellsObjective, TellsRows, TellsTerms, begins_with_label, has_rows, has_section}
use Rattle.lp_laws.proofs.Closing.{Closes, takes_back}
use Rattle.lp_defs.proofs.SoundTokens.{IsSoundQuantity}
use Rattle.lp_laws.proofs.Lasting.{Within, WithinRow, mapped, objective_like, value_kept}
use Rattle.lp_laws.proofs.Replacing.{row_closes, row_value, zero_closes}
use Rattle.lp_laws.proofs.Replacing as replacing
use Rattle.lp_laws.proofs.Beginnings.{beginning, dead_end, one_more}
use Rattle.lp_laws.proofs.Blank.{IsBlank}
use Rattle.lp_laws.proofs.Trail.{Going, Judged, ObjectiveNumber, RowNumber, RowPart, first, later, Stop, as_named, as_word, Trail, finite_amount, longer, no_label, now_inside, still_outside, takes_term}
use Rattle.lp_laws.proofs.Waits.{IsFinite, is_finite as finite_is, no_sum as no_sum_word, Waits, none_by, pending, word_of}

-- a stage that waits for nothing
pub go : {front : List Seen} {s : Spot} {symbol : Symbol} {more : List Seen} {next : Stage} → Trail (front ++ token s symbol ∷ []) next → pending next more ≡ None → Waits next s symbol → Going front s symbol more next
go {front} {s} {symbol} {more} {next} trail idle last = record { trail = trail; waits = waits; last = last }
  where
    waits : (w : FaultWord) → pending next more ≡ Some w → IsNamed front (token s symbol ∷ more) w
    waits w e = let no : None ≡ Some w = sym idle ∙ e in absurd cc

pub value_or : {A : Type 0} {front : List Seen} {s : Spot} {symbol : Symbol} {more : List Seen} (p : Spot) (w : FaultWord) (o : Option A) (g : A → Result Stage ModelFault) →
    (o ≡ None → Stop front s symbol more (fault_at p w)) → ((a : A) → o ≡ Some a → Judged front s symbol more (g a)) → Judged front s symbol more (or_fault p w o >>= g)
value_or p w (Some a) g h k = k a refl
value_or p w None g h k = h refl

pub branch_or : {front : List Seen} {s : Spot} {symbol : Symbol} {more : List Seen} (b : Bool) (x : Result Stage ModelFault) (f : ModelFault) →
    (b ≡ true → Judged front s symbol more x) → (b ≡ false → Stop front s symbol more f) → Judged front s symbol more (if b then x else Err f)
branch_or true x f h k = h refl
branch_or false x f h k = k refl

term_or : {A : Type 0} {front : List Seen} {s : Spot} {symbol : Symbol} {more : List Seen} (p q : Spot) (o : Option Fraction) (h : Fraction → Option A) (g : A → Stage) →
    (o ≡ None → Stop front s symbol more (fault_at p bad_number)) → ((sum : Fraction) → o ≡ Some sum → h sum ≡ None → Stop front s symbol more (fault_at q Size)) →
    ((sum : Fraction) (a : A) → o ≡ Some sum → h sum ≡ Some a → Going front s symbol more (g a)) →
    Judged front s symbol more ((or_fault p bad_number o >>= λ sum. or_fault q Size (h sum)) >>= λ a. Ok (g a))
term_or {A} {front} {s} {symbol} {more} p q (Some sum) h g summed past goes = within (h sum) refl
  where
    within : (o : Option A) → h sum ≡ o → Judged front s symbol more (or_fault q Size o >>= λ a. Ok (g a))
    within (Some a) e = goes sum a refl e
    within None e = past sum refl e
term_or p q None h g summed past goes = summed refl

-- a row that may be opened, or is at fault at its first token
row_or : {front : List Seen} {s : Spot} {symbol : Symbol} {more : List Seen} {m : Model} (text : List ℕ) (g : Unfinished → Result Stage ModelFault) → TellsRows front m →
    RowName m (token s symbol ∷ more) text → (MayOpen text m → Judged front s symbol more (g (new_row text m))) → Judged front s symbol more (open_row s text m >>= g)
row_or {front} {s} {symbol} {more} {m} text g told is goes = known (knows_row text m) refl
  where
    room : (b : Bool) → knows_row text m ≡ false → has_room_for_row m ≡ b → Judged front s symbol more ((if b then Ok (new_row text m) else Err (fault_at s Size)) >>= g)
    room true unknown e = goes (record { is_new = unknown; has_room = e })
    room false unknown e = as_named (row_past_limit told is unknown e)

    known : (b : Bool) → knows_row text m ≡ b → Judged front s symbol more ((if b then Err (fault_at s DoubledName) else (if has_room_for_row m then Ok (new_row text m) else Err (fault_at s Size))) >>= g)
    known true e = as_named (doubled told is e)
    known false e = room (has_room_for_row m) e refl

pub not_finite : (negative : Bool) (q : Quantity) → value_of (under_sign negative q) ≡ None → is_finite q ≡ false
not_finite false (finite x) e = absurd cc
not_finite true (finite x) e = absurd cc
not_finite negative (too_wide a b) e = refl
not_finite negative (infinite a) e = refl

finite_by : (negative has_sign : Bool) (q : Quantity) (x : Fraction) → value_of (under_sign negative q) ≡ Some x → IsFinite (number has_sign q)
finite_by negative has_sign (finite y) x e = finite_is
finite_by false has_sign (too_wide a b) x e = absurd cc
finite_by true has_sign (too_wide a b) x e = absurd cc
finite_by false has_sign (infinite a) x e = absurd cc
finite_by true has_sign (infinite a) x e = absurd cc

-- A number that does not serve
pub number_wrong : {front : List Seen} {stage : Stage} {s : Spot} {has_sign : Bool} {q : Quantity} {more : List Seen} (other : Quantity) (next : Stage) (f : ModelFault) →
    stage_behind start front ≡ Ok stage → after stage s (number has_sign other) ≡ Ok next → Closes next → after stage s (number has_sign q) ≡ Err f →
    is_finite q ≡ false ⊎ has_section front ≡ true → IsNamed front (token s (number has_sign q) ∷ more) bad_number
number_wrong {front} {stage} {s} {has_sign} {q} other next f at stepped closes wrong why =
    no_value other (beginning (front ++ token s (number has_sign other) ∷ []) next (one_more front stage (token s (number has_sign other)) (Ok next) at stepped) closes)
    (dead_end (front ++ token s (number has_sign q) ∷ []) f (one_more front stage (token s (number has_sign q)) (Err f) at wrong)) why

-- The objective

-- where nothing is told yet, a number's sums fit
pub blank_quiet : (s : Spot) (x : Fraction) (m : Model) → IsBlank m → IsKept x → (rest : List Seen) → pending (objective_number s x m) rest ≡ None
blank_quiet s x m is kept rest = subst (λ m. pending (objective_number s x m) rest ≡ None) (sym is.is) (quiet is.direction rest)
  where
    fits : added zero_value x ≡ Some (exact_sum zero_value x)
    fits = ap (λ b. if b then Some (exact_sum zero_value x) else None) (FitsSum-zero_left x kept)

    named : (d : Direction) (text : List ℕ) → no_sum_word (objective_sum text x (blank d)) ≡ None
    named d text = ap no_sum_word fits

    alone : (d : Direction) → no_sum_word (with_constant x (blank d)) ≡ None
    alone d = ap (λ o. no_sum_word (option_map (λ sum. record (blank d) { constant = sum }) o)) fits

    quiet : (d : Direction) (rest : List Seen) → pending (objective_number s x (blank d)) rest ≡ None
    quiet d [] = alone d
    quiet d (no_token own ∷ more) = alone d
    quiet d (token t (name text) ∷ more) = named d text
    quiet d (token t symbol ∷ more) = alone d

pub objective_number_judged : {front : List Seen} (before own : List Seen) {stage : Stage} (s : Spot) (negative has_sign : Bool) (q : Quantity) (m : Model) (more : List Seen) →
    stage_behind start front ≡ Ok stage → ((q : Quantity) → after stage s (number has_sign q) ≡ objective_amount negative s q m) → Within m → has_section front ≡ false → m.rows ≡ [] →
    front ≡ before ++ own → TellsObjective before m → OptionalSign own negative [] →
    ((rest : List Seen) → IsTrue (begins_with_sign (own ++ token s (number has_sign q) ∷ rest))) ⊎ (IsBlank m × IsSoundQuantity q) →
    Judged front s (number has_sign q) more (objective_amount negative s q m)
objective_number_judged {front} before own {stage} s negative has_sign q m more at steps within outside no_rows tokens told o marked =
    value_or s bad_number (value_of (under_sign negative q)) (λ x. Ok (objective_number s x m))
    (λ e. as_named (number_wrong (finite zero_value) (objective_number s zero_value m) (fault_at s bad_number) at (steps (finite zero_value) ∙ zero negative) (zero_closes s m within)
    (steps q ∙ ap (λ o. or_fault s bad_number o >>= λ x. Ok (objective_number s x m)) e) (inl (not_finite negative q e))))
    (λ x e. record { trail = trail x e; waits = waits x e marked more; last = (refl, finite_by negative has_sign q x e) })
  where
    zero : (negative : Bool) → objective_amount negative s (finite zero_value) m ≡ Ok (objective_number s zero_value m)
    zero false = refl
    zero true = refl

    trail : (x : Fraction) → value_of (under_sign negative q) ≡ Some x → ObjectiveNumber (front ++ token s (number has_sign q) ∷ []) x m
    trail x e = record {
      outside = still_outside front (token s (number has_sign q)) outside refl;
      no_rows = no_rows;
      before = before;
      own = own ++ token s (number has_sign q) ∷ [];
      tokens = longer before own (token s (number has_sign q)) tokens;
      told = told;
      amount = finite_amount s has_sign q x o e;
      marked = elim marked [ inl h ↦ inl (λ rest. subst (λ xs. IsTrue (begins_with_sign xs)) (sym (append_assoc own (token s (number has_sign q) ∷ []) rest)) (h rest)) | inr b ↦ inr b.0 ];
    }

    waits : (x : Fraction) → value_of (under_sign negative q) ≡ Some x → ((rest : List Seen) → IsTrue (begins_with_sign (own ++ token s (number has_sign q) ∷ rest))) ⊎ (IsBlank m × IsSoundQuantity q) → (more : List Seen) → (w : FaultWord) →
        pending (objective_number s x m) more ≡ Some w → IsNamed front (token s (number has_sign q) ∷ more) w
    waits x e (inr b) more w wrong = let no : None ≡ Some w = sym (blank_quiet s x m b.0 (value_kept negative q x b.1 e) more) ∙ wrong in absurd cc
    waits x e (inl h) (token t (name text) ∷ xs) w wrong =
        let p = none_by (objective_sum text x m) w wrong in
        subst (IsNamed front (token s (number has_sign q) ∷ token t (name text) ∷ xs)) p.1
        (no_sum before own tokens (in_objective told (h (token t (name text) ∷ xs))) o (faults.scaled e) p.0)
    waits x e (inl h) [] w wrong = let p = none_by (with_constant x m) w wrong in
        subst (IsNamed front (token s (number has_sign q) ∷ [])) p.1 (no_constant before own tokens told (h []) o e refl p.0)
    waits x e (inl h) (token t symbol ∷ xs) w wrong = let p = none_by (with_constant x m) w wrong in
        subst (IsNamed front (token s (number has_sign q) ∷ token t symbol ∷ xs)) p.1 (no_constant before own tokens told (h (token t symbol ∷ xs)) o e refl p.0)
    waits x e (inl h) (no_token f ∷ xs) w wrong = let p = none_by (with_constant x m) w wrong in
        subst (IsNamed front (token s (number has_sign q) ∷ no_token f ∷ xs)) p.1 (no_constant before own tokens told (h (no_token f ∷ xs)) o e refl p.0)

pub objective_rowless : (text : List ℕ) (sum : Fraction) (m told : Model) → m.rows ≡ [] → with_objective text sum m ≡ Some told → told.rows ≡ []
objective_rowless text sum m told no_rows e = sym (objective_like text sum m told e).rows ∙ no_rows

pub constant_rowless : (x : Fraction) (m told : Model) → m.rows ≡ [] → with_constant x m ≡ Some told → told.rows ≡ []
constant_rowless x m told no_rows e = ap (λ (m : Model). m.rows) (sym (mapped (λ sum. record m { constant = sum }) _ told e).is) ∙ no_rows

-- a name in the objective, behind a sign, or behind a number whose sum with it fits
pub objective_name_judged : {front : List Seen} (before own : List Seen) (p s : Spot) (text : List ℕ) (x : Fraction) (m : Model) (more : List Seen) → has_section front ≡ false → m.rows ≡ [] →
    (objective_sum text x m ≡ None → Stop front s (name text) more (fault_at p bad_number)) →
    front ≡ before ++ own → TellsObjective before m → IsTrue (begins_with_sign (own ++ token s (name text) ∷ more)) → Coefficient own x →
    Judged front s (name text) more (objective_term (record { number_spot = p; coefficient = x; name_spot = s; text = text }) m)
objective_name_judged {front} before own p s text x m more outside no_rows summed tokens told marked c =
    term_or p s (objective_sum text x m) (λ sum. with_objective text sum m) (λ told. objective_next told) summed
    (λ sum is past. as_named (term_past_limit before own tokens (in_objective told marked) c is past))
    (λ sum next is e. go (record { outside = still_outside front (token s (name text)) outside refl; no_rows = objective_rowless text sum m next no_rows e }) refl tt)

objective_end_judged : (front : List Seen) (s : Spot) (word : SectionWord) (m : Model) (more : List Seen) → has_section front ≡ false → m.rows ≡ [] → TellsObjective front m →
    Judged front s (keyword word) more (after_objective s word m)
objective_end_judged front s Constraints m more outside no_rows told = go (record { outside = still_outside front (token s (keyword Constraints)) outside refl; no_rows = no_rows }) refl tt
objective_end_judged front s Subject m more outside no_rows told = go (record { outside = still_outside front (token s (keyword Subject)) outside refl; no_rows = no_rows }) refl tt
objective_end_judged front s Such m more outside no_rows told = go (record { outside = still_outside front (token s (keyword Such)) outside refl; no_rows = no_rows }) refl tt
objective_end_judged front s word m more outside no_rows told = as_named (no_constraints_word told refl)

-- behind a whole part of the objective
pub objective_more_judged : (front : List Seen) (stage : Stage) (s : Spot) (symbol : Symbol) (m : Model) (more : List Seen) → stage_behind start front ≡ Ok stage →
    ((q : Quantity) → after stage s (number true q) ≡ objective_amount false s q m) → Within m → has_section front ≡ false → m.rows ≡ [] →
    TellsObjective front m → Judged front s symbol more (after_objective_term s symbol m)
objective_more_judged front stage s (sign negative) m more at steps within outside no_rows told =
    go (record { outside = still_outside front (token s (sign negative)) outside refl; no_rows = no_rows; before = front; spot = s; tokens = refl; told = told }) refl tt
objective_more_judged front stage s (number true q) m more at steps within outside no_rows told =
    objective_number_judged front [] s false true q m more at steps within outside no_rows (sym (append-nil front)) told unsigned (inl (λ rest. refl))
objective_more_judged front stage s (keyword word) m more at steps within outside no_rows told = objective_end_judged front s word m more outside no_rows told
objective_more_judged front stage s symbol m more at steps within outside no_rows told = as_word

-- Rows

-- an amount of a term in a row
pub row_number_judged : {front : List Seen} (before own : List Seen) {stage : Stage} (head : Bool) (s : Spot) (negative has_sign : Bool) (q : Quantity) (u : Unfinished) (more : List Seen) →
    stage_behind start front ≡ Ok stage → ((q : Quantity) → after stage s (number has_sign q) ≡ row_amount head negative s q u) → WithinRow u → has_section front ≡ false →
    front ≡ before ++ own → RowPart before head u → OptionalSign own negative [] → (head ≡ false → (rest : List Seen) → IsTrue (begins_with_sign (own ++ token s (number has_sign q) ∷ rest))) →
    Judged front s (number has_sign q) more (row_amount head negative s q u)
row_number_judged {front} before own {stage} head s negative has_sign q u more at steps within outside tokens part o marked =
    let back = takes_back u within in
    value_or s bad_number (value_of (under_sign negative q)) (λ x. Ok (row_number head s x u))
    (λ e. as_named (number_wrong (finite (replacing.unsigned negative back.x)) (row_number head s back.x u) (fault_at s bad_number) at
    (steps (finite (replacing.unsigned negative back.x)) ∙ row_value head negative s u back.x) (row_closes head s u back)
    (steps q ∙ ap (λ o. or_fault s bad_number o >>= λ x. Ok (row_number head s x u)) e) (inl (not_finite negative q e))))
    (λ x e. record { trail = trail x e; waits = waits x e more; last = (refl, finite_by negative has_sign q x e) })
  where
    trail : (x : Fraction) → value_of (under_sign negative q) ≡ Some x → RowNumber (front ++ token s (number has_sign q) ∷ []) head x u
    trail x e = record {
      outside = still_outside front (token s (number has_sign q)) outside refl;
      before = before;
      own = own ++ token s (number has_sign q) ∷ [];
      tokens = longer before own (token s (number has_sign q)) tokens;
      amount = finite_amount s has_sign q x o e;
      part = part;
      marked = λ h rest. subst (λ xs. IsTrue (begins_with_sign xs)) (sym (append_assoc own (token s (number has_sign q) ∷ []) rest)) (marked h rest);
      plain = λ rest. subst (λ xs. IsFalse (begins_with_label xs)) (sym (append_assoc own (token s (number has_sign q) ∷ []) rest)) (no_label s has_sign q rest o);
    }

    waits : (x : Fraction) → value_of (under_sign negative q) ≡ Some x → (more : List Seen) → (w : FaultWord) → pending (row_number head s x u) more ≡ Some w →
        IsNamed front (token s (number has_sign q) ∷ more) w
    waits x e (token t (name text) ∷ xs) w wrong =
        let p = none_by (row_sum text x u) w wrong in
        subst (IsNamed front (token s (number has_sign q) ∷ token t (name text) ∷ xs)) p.1
        (no_sum before own tokens (takes_term head (own ++ token s (number has_sign q) ∷ token t (name text) ∷ xs) part (λ h. marked h (token t (name text) ∷ xs))
        (no_label s has_sign q (token t (name text) ∷ xs) o)) o (faults.scaled e) p.0)
    waits x e [] w wrong = absurd cc
    waits x e (token t symbol ∷ xs) w wrong = absurd cc
    waits x e (no_token f ∷ xs) w wrong = absurd cc

-- a name in a row, behind a number whose sum with it fits, or not
pub row_name_judged : {front : List Seen} (before own : List Seen) (p s : Spot) (text : List ℕ) (x : Fraction) (u : Unfinished) (more : List Seen) → has_section front ≡ false →
    (row_sum text x u ≡ None → Stop front s (name text) more (fault_at p bad_number)) →
    front ≡ before ++ own → TakesTerm before (own ++ token s (name text) ∷ more) (row u) → Coefficient own x →
    Judged front s (name text) more (row_term (record { number_spot = p; coefficient = x; name_spot = s; text = text }) u)
row_name_judged {front} before own p s text x u more outside summed tokens takes c =
    term_or p s (row_sum text x u) (λ sum. with_term text sum u) (λ told. row_next told) summed
    (λ sum is past. as_named (term_past_limit before own tokens takes c is past))
    (λ sum next is e. go (still_outside front (token s (name text)) outside refl) refl tt)

-- behind a term
pub row_more_judged : (front : List Seen) (stage : Stage) (s : Spot) (symbol : Symbol) (u : Unfinished) (more : List Seen) → stage_behind start front ≡ Ok stage →
    ((q : Quantity) → after stage s (number true q) ≡ row_amount false false s q u) → WithinRow u → TellsTerms front u →
    Judged front s symbol more (after_row_term s symbol u)
row_more_judged front stage s (sign negative) u more at steps within told =
    go (record { outside = still_outside front (token s (sign negative)) told.no_section refl; before = front; spot = s; tokens = refl; part = later told }) refl tt
row_more_judged front stage s (number true q) u more at steps within told =
    row_number_judged front [] false s false true q u more at steps within told.no_section (sym (append-nil front)) (later told) unsigned (λ _ rest. refl)
row_more_judged front stage s (comparison sense) u more at steps within told = go (still_outside front (token s (comparison sense)) told.no_section refl) refl tt
row_more_judged front stage s symbol u more at steps within told = as_word

-- where the first term may stand
pub row_head_judged : (front : List Seen) (stage : Stage) (s : Spot) (symbol : Symbol) (u : Unfinished) (more : List Seen) → stage_behind start front ≡ Ok stage →
    ((has_sign : Bool) (q : Quantity) → after stage s (number has_sign q) ≡ row_amount true false s q u) → WithinRow u → has_section front ≡ false → RowPart front true u →
    BeginsRow front (token s symbol ∷ more) u → Judged front s symbol more (after_row_label s symbol u)
row_head_judged front stage s (sign negative) u more at steps within outside part begins =
    go (record { outside = still_outside front (token s (sign negative)) outside refl; before = front; spot = s; tokens = refl; part = part }) refl tt
row_head_judged front stage s (number has_sign q) u more at steps within outside part begins =
    row_number_judged front [] true s false has_sign q u more at (steps has_sign) within outside (sym (append-nil front)) part unsigned (λ h. absurd cc)
row_head_judged front stage s (name text) u more at steps within outside part begins =
    row_name_judged front [] s s text (unit false) u more outside
    (λ e. as_named (no_sum front [] (sym (append-nil front)) (first_in_row begins) unsigned faults.lone e))
    (sym (append-nil front)) (first_in_row begins) (bare unsigned)
row_head_judged front stage s (comparison sense) u more at steps within outside part begins = go (still_outside front (token s (comparison sense)) outside refl) refl tt
row_head_judged front stage s symbol u more at steps within outside part begins = as_word

-- A row begins

pub opens : (s : Spot) (text : List ℕ) (m : Model) → MayOpen text m → open_row s text m ≡ Ok (new_row text m)
opens s text m o =
    ap (λ b. if b then Err (fault_at s DoubledName) else (if has_room_for_row m then Ok (new_row text m) else Err (fault_at s Size))) o.is_new
    ∙ ap (λ b. if b then Ok (new_row text m) else Err (fault_at s Size)) o.has_room

pub record Opened (text : List ℕ) (m : Model) (u : Unfinished) : Type 0 where
  pub may_open : MayOpen text m
  pub is : new_row text m ≡ u

pub opened : (s : Spot) (text : List ℕ) (m : Model) (u : Unfinished) → open_row s text m ≡ Ok u → Opened text m u
opened s text m u e = known (knows_row text m) refl e
  where
    room : (b : Bool) → knows_row text m ≡ false → has_room_for_row m ≡ b → (if b then Ok (new_row text m) else Err (fault_at s Size)) ≡ Ok u → Opened text m u
    room true unknown h e = record { may_open = record { is_new = unknown; has_room = h }; is = cc }
    room false unknown h e = absurd cc

    known : (b : Bool) → knows_row text m ≡ b → (if b then Err (fault_at s DoubledName) else (if has_room_for_row m then Ok (new_row text m) else Err (fault_at s Size))) ≡ Ok u → Opened text m u
    known true h e = absurd cc
    known false h e = room (has_room_for_row m) h refl e

opened_within : (text : List ℕ) (m : Model) → Within m → WithinRow (new_row text m)
opened_within text m w = record { constant = w.constant; kept = tt; terms = omega (arith, w.terms) }

unlabelled_judged : (front : List Seen) (stage : Stage) (s : Spot) (symbol : Symbol) (m : Model) (more : List Seen) → stage_behind start front ≡ Ok stage →
    ((has_sign : Bool) (q : Quantity) → after stage s (number has_sign q) ≡ unlabelled_row s (number has_sign q) m) → Within m → TellsRows front m →
    begins_with_term (token s symbol ∷ more) ≡ true → begins_with_label (token s symbol ∷ more) ≡ false → Judged front s symbol more (unlabelled_row s symbol m)
unlabelled_judged front stage s symbol m more at steps within told term plain =
    row_or (default_title m) (λ opened. after_row_label s symbol opened) told (by_place term plain)
    (λ may_open. row_head_judged front stage s symbol (new_row (default_title m) m) more at
    (λ has_sign q. steps has_sign q ∙ ap (λ o. o >>= λ opened. after_row_label s (number has_sign q) opened) (opens s (default_title m) m may_open))
    (opened_within (default_title m) m within) told.no_section (first (λ rest h. unlabelled told may_open h)) (unlabelled told may_open plain))

-- a row's name that is not its first term's
label_named : (front : List Seen) (s : Spot) (text : List ℕ) (m : Model) (symbol : Symbol) (more : List Seen) (w : FaultWord) → TellsRows front m →
    RowName m (token s symbol ∷ more) text → word_of (open_row s text m) ≡ Some w → IsNamed front (token s symbol ∷ more) w
label_named front s text m symbol more w told is e = known (knows_row text m) refl e
  where
    room : (b : Bool) → knows_row text m ≡ false → has_room_for_row m ≡ b → word_of (if b then Ok (new_row text m) else Err (fault_at s Size)) ≡ Some w → IsNamed front (token s symbol ∷ more) w
    room true unknown h e = absurd cc
    room false unknown h e = let same_word : Size ≡ w = cc in subst (IsNamed front (token s symbol ∷ more)) same_word (row_past_limit told is unknown h)

    known : (b : Bool) → knows_row text m ≡ b →
        word_of (if b then Err (fault_at s DoubledName) else (if has_room_for_row m then Ok (new_row text m) else Err (fault_at s Size))) ≡ Some w → IsNamed front (token s symbol ∷ more) w
    known true h e = let same_word : DoubledName ≡ w = cc in subst (IsNamed front (token s symbol ∷ more)) same_word (doubled told is h)
    known false h e = room (has_room_for_row m) h refl e

-- a name at the head of a row that is its first term's
settled_named : (front : List Seen) (s : Spot) (text : List ℕ) (m : Model) (more : List Seen) (w : FaultWord) → TellsRows front m → begins_with_label (token s (name text) ∷ more) ≡ false →
    word_of (settle_row_title s text m) ≡ Some w → IsNamed front (token s (name text) ∷ more) w
settled_named front s text m more w told plain e = known (knows_row (default_title m) m) refl e
  where
    u : Unfinished
    u = new_row (default_title m) m

    title : RowName m (token s (name text) ∷ more) (default_title m)
    title = by_place refl plain

    limit : (sum : Fraction) (o : Option Unfinished) → MayOpen (default_title m) m → row_sum text (unit false) u ≡ Some sum → with_term text sum u ≡ o →
        word_of (or_fault s Size o) ≡ Some w → IsNamed front (token s (name text) ∷ more) w
    limit sum (Some v) may_open is h e = absurd cc
    limit sum None may_open is h e =
        let same_word : Size ≡ w = cc in
        subst (IsNamed front (token s (name text) ∷ more)) same_word (term_past_limit front [] (sym (append-nil front)) (first_in_row (unlabelled told may_open plain)) (bare unsigned) is h)

    sum : (o : Option Fraction) → MayOpen (default_title m) m → row_sum text (unit false) u ≡ o →
        word_of (or_fault s bad_number o >>= λ sum. or_fault s Size (with_term text sum u)) ≡ Some w → IsNamed front (token s (name text) ∷ more) w
    sum (Some x) may_open is e = limit x (with_term text x u) may_open is refl e
    sum None may_open is e =
        let same_word : bad_number ≡ w = cc in
        subst (IsNamed front (token s (name text) ∷ more)) same_word (no_sum front [] (sym (append-nil front)) (first_in_row (unlabelled told may_open plain)) unsigned faults.lone is)

    room : (b : Bool) → knows_row (default_title m) m ≡ false → has_room_for_row m ≡ b →
        word_of ((if b then Ok u else Err (fault_at s Size)) >>= λ opened. add_to_row (lone_name false s text) opened) ≡ Some w → IsNamed front (token s (name text) ∷ more) w
    room true unknown h e = sum (row_sum text (unit false) u) (record { is_new = unknown; has_room = h }) refl e
    room false unknown h e = let same_word : Size ≡ w = cc in subst (IsNamed front (token s (name text) ∷ more)) same_word (row_past_limit told title unknown h)

    known : (b : Bool) → knows_row (default_title m) m ≡ b →
        word_of ((if b then Err (fault_at s DoubledName) else (if has_room_for_row m then Ok u else Err (fault_at s Size))) >>= λ opened. add_to_row (lone_name false s text) opened) ≡ Some w →
        IsNamed front (token s (name text) ∷ more) w
    known true h e = let same_word : DoubledName ≡ w = cc in subst (IsNamed front (token s (name text) ∷ more)) same_word (doubled told title h)
    known false h e = room (has_room_for_row m) h refl e

title_judged : (front : List Seen) (s : Spot) (text : List ℕ) (m : Model) (more : List Seen) → TellsRows front m → Going front s (name text) more (row_title s text m)
title_judged front s text m more told = record {
  trail = record { outside = still_outside front (token s (name text)) told.no_section refl; before = front; tokens = refl; told = told };
  waits = λ w e. waits more w e;
  last = (refl, refl);
}
  where
    waits : (more : List Seen) (w : FaultWord) → pending (row_title s text m) more ≡ Some w → IsNamed front (token s (name text) ∷ more) w
    waits [] w e = settled_named front s text m [] w told refl e
    waits (no_token own ∷ more) w e = settled_named front s text m (no_token own ∷ more) w told refl e
    waits (token t colon ∷ more) w e = label_named front s text m (name text) (token t colon ∷ more) w told faults.two_tokens e
    waits (token t symbol ∷ more) w e = settled_named front s text m (token t symbol ∷ more) w told refl e

-- a section word behind rows or a section
pub word_judged : (front : List Seen) (s : Spot) (word : SectionWord) (m : Model) (more : List Seen) → Judged front s (keyword word) more (after_rows s word m)
word_judged front s Bounds m more = go (now_inside front (token s (keyword Bounds)) refl) refl tt
word_judged front s General m more = go (now_inside front (token s (keyword General)) refl) refl tt
word_judged front s Binary m more = go (now_inside front (token s (keyword Binary)) refl) refl tt
word_judged front s End m more = go tt refl tt
word_judged front s word m more = as_word

pub row_begins_judged : (front : List Seen) (stage : Stage) (s : Spot) (symbol : Symbol) (m : Model) (more : List Seen) → stage_behind start front ≡ Ok stage →
    ((has_sign : Bool) (q : Quantity) → after stage s (number has_sign q) ≡ unlabelled_row s (number has_sign q) m) → Within m → TellsRows front m →
    ((sense : Sense) → symbol ≡ comparison sense → has_rows m ≡ true) → Judged front s symbol more (after_row s symbol m)
row_begins_judged front stage s (label text) m more at steps within told rows =
    row_or text (λ opened. Ok (row_first opened)) told faults.one_token
    (λ may_open. go (still_outside front (token s (label text)) told.no_section refl, (λ rest. labelled front (token s (label text) ∷ []) told one_token may_open refl)) refl tt)
row_begins_judged front stage s (name text) m more at steps within told rows = title_judged front s text m more told
row_begins_judged front stage s (sign negative) m more at steps within told rows = unlabelled_judged front stage s (sign negative) m more at steps within told refl refl
row_begins_judged front stage s (number has_sign q) m more at steps within told rows = unlabelled_judged front stage s (number has_sign q) m more at steps within told refl refl
row_begins_judged front stage s (comparison sense) m more at steps within told rows = as_named (second_comparison told (rows sense refl))
row_begins_judged front stage s (keyword word) m more at steps within told rows = word_judged front s word m more
row_begins_judged front stage s colon m more at steps within told rows = as_word
