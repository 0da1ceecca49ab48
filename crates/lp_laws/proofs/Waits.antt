-- Stages that wait for the next token: whether what waits is at fault once that token is seen.
use Rattle.std.proofs.Common.{◌≡◌, refl, sym, ◌∙◌, ap, subst, ℕ, Bool, true, false, List, [], ◌∷◌, Option, Some, None, Result, Ok, Err}
use Rattle.std.specs.Prelude.{if◌then◌else◌}
use Rattle.base_names.specs.declared.refusal.FaultWord.{FaultWord}
use Rattle.base_names.specs.declared.refusal.FaultWord.TheVariants.{DoubledName, NoSection, Number as bad_number, Size}
use Rattle.frac128.specs.Checked.{◌>>=◌}
use Rattle.frac128.specs.Fraction.{Fraction, one_value}
use Rattle.model_data.specs.declared.model.Model.{Model}
use Rattle.lp_defs.specs.declared.fault.ModelFault.{ModelFault}
use Rattle.lp_defs.specs.Draft.{Unfinished, default_title, has_room_for_row, knows_row, new_row, objective_sum, row_sum, with_constant, with_objective, with_term}
use Rattle.lp_defs.specs.Objective.{add_to_constant, after_objective_term, lone_name, settle_objective_title}
use Rattle.lp_defs.specs.Quantity.{Limit, may_bound, turned}
use Rattle.lp_defs.specs.Reading.{after, reading_from, stopped}
use Rattle.lp_defs.specs.Rows.{add_to_row, after_row_term, open_row, settle_row_title}
use Rattle.lp_defs.specs.Stage.{Stage, bound_middle, bound_number, objective_next, objective_number, objective_title, row_first, row_next, row_number, row_title}
use Rattle.lp_defs.specs.Symbols.{Quantity, finite, Seen, Spot, Symbol, token, no_token, colon, comparison, name, number, fault_at, or_fault}
use Rattle.lp_laws.specs.Places.{WaitsWith, number_waits, doubled_waits, size_waits}
use Rattle.lp_laws.proofs.Blank.{IsBlank, blank_lone, first_fits, first_sum, summed}

abbrev pub no_sum : {A : Type 0} → Option A → Option FaultWord
no_sum (Some a) = None
no_sum None = Some bad_number

abbrev pub word_of : {A : Type 0} → Result A ModelFault → Option FaultWord
word_of (Ok a) = None
word_of (Err f) = Some f.fault

pub data IsFinite : Symbol → Type 0 where
  is_finite : {has_sign : Bool} {x : Fraction} → IsFinite (number has_sign (finite x))

pub data IsNumber : Symbol → Type 0 where
  is_number : {has_sign : Bool} {quantity : Quantity} → IsNumber (number has_sign quantity)

-- the word of what waits, where it is at fault before the tokens that follow
abbrev pub pending : Stage → List Seen → Option FaultWord
pending (objective_number t x m) (token _ (name text) ∷ _) = no_sum (objective_sum text x m)
pending (objective_number t x m) rest = no_sum (with_constant x m)
pending (row_number head t x u) (token _ (name text) ∷ _) = no_sum (row_sum text x u)
pending (row_title t title m) (token _ colon ∷ _) = word_of (open_row t title m)
pending (row_title t title m) rest = word_of (settle_row_title t title m)
pending (bound_number t l m) (token _ (comparison sense) ∷ _) = if may_bound (turned sense) l then None else Some bad_number
pending stage rest = None

-- A stage that waits stands behind a token at the spot, which is of this kind.
abbrev pub Waits : Stage → Spot → Symbol → Type 0
Waits (objective_number t x m) s symbol = (t ≡ s) × IsFinite symbol
Waits (row_number head t x u) s symbol = (t ≡ s) × IsFinite symbol
Waits (row_title t title m) s symbol = (t ≡ s) × (symbol ≡ name title)
Waits (bound_number t l m) s symbol = (t ≡ s) × IsNumber symbol
Waits stage s symbol = Unit {0}

-- a name that may be the objective's label stands where nothing is told yet
abbrev pub TitleIsFirst : Stage → Type 0
TitleIsFirst (objective_title t title m) = IsBlank m
TitleIsFirst stage = Unit {0}

pub none_by : {A : Type 0} (o : Option A) (w : FaultWord) → no_sum o ≡ Some w → (o ≡ None) × (bad_number ≡ w)
none_by (Some a) w e = absurd cc
none_by None w e = (refl, cc)

pub some_by : {A : Type 0} (o : Option A) → no_sum o ≡ None → (a : A) × (o ≡ Some a)
some_by (Some a) e = (a, refl)
some_by None e = absurd cc

pub ok_by : {A : Type 0} (o : Result A ModelFault) → word_of o ≡ None → (a : A) × (o ≡ Ok a)
ok_by (Ok a) e = (a, refl)
ok_by (Err f) e = absurd cc

-- the fault of what waits

label_fault : (t : Spot) (title text : List ℕ) (m : Model) (w : FaultWord) → word_of (open_row t text m) ≡ Some w → (open_row t text m ≡ Err (fault_at t w)) × WaitsWith (name title) w
label_fault t title text m w e = known (knows_row text m) (has_room_for_row m) e
  where
    known : (b c : Bool) → word_of (if b then Err (fault_at t DoubledName) else (if c then Ok (new_row text m) else Err (fault_at t Size))) ≡ Some w →
        ((if b then Err (fault_at t DoubledName) else (if c then Ok (new_row text m) else Err (fault_at t Size))) ≡ Err (fault_at t w)) × WaitsWith (name title) w
    known true c e = let is : DoubledName ≡ w = cc in (ap (λ w. Err (fault_at t w)) is, subst (WaitsWith (name title)) is doubled_waits)
    known false true e = absurd cc
    known false false e = let is : Size ≡ w = cc in (ap (λ w. Err (fault_at t w)) is, subst (WaitsWith (name title)) is size_waits)

limit_fault : {A : Type 0} (t : Spot) (title : List ℕ) (o : Option A) (w : FaultWord) → word_of (or_fault t Size o) ≡ Some w → (or_fault t Size o ≡ Err (fault_at t w)) × WaitsWith (name title) w
limit_fault t title (Some a) w e = absurd cc
limit_fault t title None w e = let is : Size ≡ w = cc in (ap (λ w. Err (fault_at t w)) is, subst (WaitsWith (name title)) is size_waits)

title_fault : (t : Spot) (title : List ℕ) (m : Model) (w : FaultWord) → word_of (settle_row_title t title m) ≡ Some w → (settle_row_title t title m ≡ Err (fault_at t w)) × WaitsWith (name title) w
title_fault t title m w e = known (knows_row (default_title m) m) (has_room_for_row m) e
  where
    u : Unfinished
    u = new_row (default_title m) m

    known : (b c : Bool) → word_of ((if b then Err (fault_at t DoubledName) else (if c then Ok u else Err (fault_at t Size))) >>= λ u. add_to_row (lone_name false t title) u) ≡ Some w →
        (((if b then Err (fault_at t DoubledName) else (if c then Ok u else Err (fault_at t Size))) >>= λ u. add_to_row (lone_name false t title) u) ≡ Err (fault_at t w)) × WaitsWith (name title) w
    known true c e = let is : DoubledName ≡ w = cc in (ap (λ w. Err (fault_at t w)) is, subst (WaitsWith (name title)) is doubled_waits)
    known false false e = let is : Size ≡ w = cc in (ap (λ w. Err (fault_at t w)) is, subst (WaitsWith (name title)) is size_waits)
    known false true e =
        let told = summed t bad_number (row_sum title one_value u) first_sum (λ sum. or_fault t Size (with_term title sum u)) first_fits in
        let p = limit_fault t title (with_term title first_sum u) w (sym (ap word_of told) ∙ e) in
        (told ∙ p.0, p.1)

pub not_fitting : (b : Bool) (w : FaultWord) → (if b then None else Some bad_number) ≡ Some w → (b ≡ false) × (bad_number ≡ w)
not_fitting true w e = absurd cc
not_fitting false w e = (refl, cc)

number_word : (symbol : Symbol) (w : FaultWord) → IsFinite symbol → bad_number ≡ w → WaitsWith symbol w
number_word _ w is_finite is = subst (WaitsWith _) is number_waits

-- A number of the objective

constant_blamed : (t : Spot) (x : Fraction) (m : Model) {A B : Type 0} (g : Model → Result A ModelFault) (h : A → Result B ModelFault) (w : FaultWord) →
    no_sum (with_constant x m) ≡ Some w → ((add_to_constant t x m >>= g) >>= h) ≡ Err (fault_at t w)
constant_blamed t x m g h w e =
    let p = none_by (with_constant x m) w e in
    ap (λ o. (or_fault t bad_number o >>= g) >>= h) p.0 ∙ ap (λ w. Err (fault_at t w)) p.1

constant_stopped : (t : Spot) (x : Fraction) (m : Model) (f : ModelFault) (w : FaultWord) → no_sum (with_constant x m) ≡ Some w → stopped (objective_number t x m) f ≡ fault_at t w
constant_stopped t x m f w e =
    let p = none_by (with_constant x m) w e in
    ap (λ o. elim (or_fault t bad_number o) [ Ok told ↦ f | Err sooner ↦ sooner ]) p.0 ∙ ap (fault_at t) p.1

constant_told : (t : Spot) (x : Fraction) (s : Spot) (symbol : Symbol) (m : Model) (more : List Seen) (end : Spot) (w : FaultWord) →
    pending (objective_number t x m) (token s symbol ∷ more) ≡ Some w → (after (objective_number t x m) s symbol >>= λ next. reading_from next more end) ≡ Err (fault_at t w)
constant_told t x s (name text) m more end w e =
    let p = none_by (objective_sum text x m) w e in
    ap (λ o. ((or_fault t bad_number o >>= λ sum. or_fault s Size (with_objective text sum m)) >>= λ told. Ok (objective_next told)) >>= λ next. reading_from next more end) p.0
    ∙ ap (λ w. Err (fault_at t w)) p.1
constant_told t x s symbol m more end w e = constant_blamed t x m (λ told. after_objective_term s symbol told) (λ next. reading_from next more end) w e

coefficient_told : (head : Bool) (t : Spot) (x : Fraction) (s : Spot) (symbol : Symbol) (u : Unfinished) (more : List Seen) (end : Spot) (w : FaultWord) →
    pending (row_number head t x u) (token s symbol ∷ more) ≡ Some w → (after (row_number head t x u) s symbol >>= λ next. reading_from next more end) ≡ Err (fault_at t w)
coefficient_told head t x s (name text) u more end w e =
    let p = none_by (row_sum text x u) w e in
    ap (λ o. ((or_fault t bad_number o >>= λ sum. or_fault s Size (with_term text sum u)) >>= λ told. Ok (row_next told)) >>= λ next. reading_from next more end) p.0
    ∙ ap (λ w. Err (fault_at t w)) p.1
coefficient_told head t x s symbol u more end w e = absurd cc

-- A row's name

title_stopped : (t : Spot) (title : List ℕ) (m : Model) (f : ModelFault) (w : FaultWord) → word_of (settle_row_title t title m) ≡ Some w → stopped (row_title t title m) f ≡ fault_at t w
title_stopped t title m f w e = ap (λ o. elim o [ Ok told ↦ f | Err sooner ↦ sooner ]) (title_fault t title m w e).0

title_told_wrong : (t : Spot) (title : List ℕ) (s : Spot) (symbol : Symbol) (m : Model) (more : List Seen) (end : Spot) (w : FaultWord) →
    pending (row_title t title m) (token s symbol ∷ more) ≡ Some w → (after (row_title t title m) s symbol >>= λ next. reading_from next more end) ≡ Err (fault_at t w)
title_told_wrong t title s colon m more end w e = ap (λ o. (o >>= λ u. Ok (row_first u)) >>= λ next. reading_from next more end) (label_fault t title title m w e).0
title_told_wrong t title s symbol m more end w e = ap (λ o. (o >>= λ told. after_row_term s symbol told) >>= λ next. reading_from next more end) (title_fault t title m w e).0

-- A bound's number

limit_told : (t : Spot) (l : Limit) (s : Spot) (symbol : Symbol) (m : Model) (more : List Seen) (end : Spot) (w : FaultWord) →
    pending (bound_number t l m) (token s symbol ∷ more) ≡ Some w → (after (bound_number t l m) s symbol >>= λ next. reading_from next more end) ≡ Err (fault_at t w)
limit_told t l s (comparison sense) m more end w e =
    let p = not_fitting (may_bound (turned sense) l) w e in
    ap (λ b. (if b then Ok (bound_middle l sense m) else Err (fault_at t bad_number)) >>= λ next. reading_from next more end) p.0
    ∙ ap (λ w. Err (fault_at t w)) p.1
limit_told t l s symbol m more end w e = absurd cc

-- Where what waits is at fault, that is the fault of the text.
pub blamed : (stage : Stage) (rest : List Seen) (s : Spot) (symbol : Symbol) (w : FaultWord) (end : Spot) → Waits stage s symbol → pending stage rest ≡ Some w → reading_from stage rest end ≡ Err (fault_at s w)
unfolding reading_from
blamed (objective_number t x m) [] s symbol w end at e = ap Err (constant_stopped t x m (fault_at end NoSection) w e ∙ ap (λ q. fault_at q w) at.0)
blamed (objective_number t x m) (no_token own ∷ more) s symbol w end at e = ap Err (constant_stopped t x m own w e ∙ ap (λ q. fault_at q w) at.0)
blamed (objective_number t x m) (token q next ∷ more) s symbol w end at e = constant_told t x q next m more end w e ∙ ap (λ q. Err (fault_at q w)) at.0
blamed (row_number head t x u) [] s symbol w end at e = absurd cc
blamed (row_number head t x u) (no_token own ∷ more) s symbol w end at e = absurd cc
blamed (row_number head t x u) (token q next ∷ more) s symbol w end at e = coefficient_told head t x q next u more end w e ∙ ap (λ q. Err (fault_at q w)) at.0
blamed (row_title t title m) [] s symbol w end at e = ap Err (title_stopped t title m (fault_at end NoSection) w e ∙ ap (λ q. fault_at q w) at.0)
blamed (row_title t title m) (no_token own ∷ more) s symbol w end at e = ap Err (title_stopped t title m own w e ∙ ap (λ q. fault_at q w) at.0)
blamed (row_title t title m) (token q next ∷ more) s symbol w end at e = title_told_wrong t title q next m more end w e ∙ ap (λ q. Err (fault_at q w)) at.0
blamed (bound_number t l m) [] s symbol w end at e = absurd cc
blamed (bound_number t l m) (no_token own ∷ more) s symbol w end at e = absurd cc
blamed (bound_number t l m) (token q next ∷ more) s symbol w end at e = limit_told t l q next m more end w e ∙ ap (λ q. Err (fault_at q w)) at.0
blamed stage rest s symbol w end at e = absurd cc

-- Where nothing more comes, or a run that is none, what waits is not at fault.

pub quiet_run : (stage : Stage) (own : ModelFault) (more : List Seen) → pending stage (no_token own ∷ more) ≡ pending stage []
quiet_run (objective_number t x m) own more = refl
quiet_run (row_title t title m) own more = refl
quiet_run stage own more = refl

pub quiet_stop : (stage : Stage) (f : ModelFault) → TitleIsFirst stage → pending stage [] ≡ None → stopped stage f ≡ f
quiet_stop (objective_number t x m) f sound quiet =
    let p = some_by (with_constant x m) quiet in
    ap (λ o. elim (or_fault t bad_number o) [ Ok told ↦ f | Err sooner ↦ sooner ]) p.1
quiet_stop (row_title t title m) f sound quiet =
    let p = ok_by (settle_row_title t title m) quiet in
    ap (λ o. elim o [ Ok told ↦ f | Err sooner ↦ sooner ]) p.1
quiet_stop (objective_title t title m) f sound quiet = by (settle_objective_title t title m) (λ g e. blank_lone t title m g sound e)
  where
    by : (o : Result Model ModelFault) → ((g : ModelFault) → o ≡ Err g → ⊥) → elim o [ Ok told ↦ f | Err sooner ↦ sooner ] ≡ f
    by (Ok told) h = refl
    by (Err g) h = absurd (h g refl)
quiet_stop stage f sound quiet = refl

-- What waits is a number or a name that can.
pub waits_with : (stage : Stage) (rest : List Seen) (s : Spot) (symbol : Symbol) (w : FaultWord) → Waits stage s symbol → pending stage rest ≡ Some w → WaitsWith symbol w
waits_with (objective_number t x m) rest s symbol w at e = number_word symbol w at.1 (sum_word rest e)
  where
    sum_word : (rest : List Seen) → pending (objective_number t x m) rest ≡ Some w → bad_number ≡ w
    sum_word [] e = (none_by (with_constant x m) w e).1
    sum_word (no_token own ∷ more) e = (none_by (with_constant x m) w e).1
    sum_word (token q (name text) ∷ more) e = (none_by (objective_sum text x m) w e).1
    sum_word (token q next ∷ more) e = (none_by (with_constant x m) w e).1
waits_with (row_number head t x u) (token q (name text) ∷ more) s symbol w at e = number_word symbol w at.1 (none_by (row_sum text x u) w e).1
waits_with (row_number head t x u) rest s symbol w at e = absurd cc
waits_with (row_title t title m) (token q colon ∷ more) s symbol w at e = subst (λ k. WaitsWith k w) (sym at.1) (label_fault t title title m w e).1
waits_with (row_title t title m) [] s symbol w at e = subst (λ k. WaitsWith k w) (sym at.1) (title_fault t title m w e).1
waits_with (row_title t title m) (no_token own ∷ more) s symbol w at e = subst (λ k. WaitsWith k w) (sym at.1) (title_fault t title m w e).1
waits_with (row_title t title m) (token q next ∷ more) s symbol w at e = subst (λ k. WaitsWith k w) (sym at.1) (title_fault t title m w e).1
waits_with (bound_number t l m) (token q (comparison sense) ∷ more) s symbol w at e = limit_word symbol at.1 (not_fitting (may_bound (turned sense) l) w e).1
  where
    limit_word : (symbol : Symbol) → IsNumber symbol → bad_number ≡ w → WaitsWith symbol w
    limit_word _ is_number is = subst (WaitsWith _) is number_waits
waits_with (bound_number t l m) rest s symbol w at e = absurd cc
waits_with stage rest s symbol w at e = absurd cc

-- The token behind alone decides.
pub next_decides : (stage : Stage) (x : Seen) (xs ys : List Seen) → pending stage (x ∷ xs) ≡ pending stage (x ∷ ys)
next_decides (objective_number t y m) (no_token own) xs ys = refl
next_decides (objective_number t y m) (token q symbol) xs ys = by symbol
  where
    by : (symbol : Symbol) → pending (objective_number t y m) (token q symbol ∷ xs) ≡ pending (objective_number t y m) (token q symbol ∷ ys)
    by (name text) = refl
    by symbol = refl
next_decides (row_number head t y u) (no_token own) xs ys = refl
next_decides (row_number head t y u) (token q symbol) xs ys = by symbol
  where
    by : (symbol : Symbol) → pending (row_number head t y u) (token q symbol ∷ xs) ≡ pending (row_number head t y u) (token q symbol ∷ ys)
    by (name text) = refl
    by symbol = refl
next_decides (row_title t title m) (no_token own) xs ys = refl
next_decides (row_title t title m) (token q symbol) xs ys = by symbol
  where
    by : (symbol : Symbol) → pending (row_title t title m) (token q symbol ∷ xs) ≡ pending (row_title t title m) (token q symbol ∷ ys)
    by colon = refl
    by symbol = refl
next_decides (bound_number t l m) (no_token own) xs ys = refl
next_decides (bound_number t l m) (token q symbol) xs ys = by symbol
  where
    by : (symbol : Symbol) → pending (bound_number t l m) (token q symbol ∷ xs) ≡ pending (bound_number t l m) (token q symbol ∷ ys)
    by (comparison sense) = refl
    by symbol = refl
next_decides stage x xs ys = refl
