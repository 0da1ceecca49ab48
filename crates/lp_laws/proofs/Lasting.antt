-- What lasts while tokens are read: numbers are kept, and terms are within their limit.
use Rattle.std.proofs.Common.{◌≡◌, refl, sym, ◌∙◌, ap, subst, ℕ, ◌+◌, ◌≤◌, Bool, true, false, ◌||◌, List, [], ◌∷◌, ◌++◌, length, arith, Option, Some, None, Result, Ok, Err, unsigned_abs, option_and_then, option_map}
use Rattle.std.specs.Prelude.{if◌then◌else◌, nat_le, nat_lt, ◌==◌}
use Rattle.std.specs.Str.{str_eq_ignore_ascii_case}
use Rattle.std.proofs.lemmas.Bool.{leb-true}
use Rattle.std.proofs.lemmas.List.Sums.{sum_by_push}
use Rattle.base_names.specs.declared.refusal.FaultWord.{FaultWord}
use Rattle.base_names.specs.declared.refusal.FaultWord.TheVariants.{DoubledName, Number as bad_number, Size, Word}
use Rattle.frac128.specs.Checked.{◌>>=◌}
use Rattle.frac128.specs.Fits.{sum_fits}
use Rattle.frac128.specs.Fraction.{Fraction, exact_sum, negation, one_value}
use Rattle.frac128.specs.Lowest.{IsKept}
use Rattle.frac128.proofs.Kept.{IsKept-negation, IsKept-one, IsKept-sum, IsKept-zero}
use Rattle.model_data.specs.Lawful.{term_count}
use Rattle.model_data.specs.declared.limits.TheConstants.{MAX_TERMS, MAX_VARS}
use Rattle.model_data.specs.declared.model.Model.{Model}
use Rattle.model_data.specs.declared.model.Row.{Row}
use Rattle.model_data.specs.declared.model.Sense.{Sense}
use Rattle.model_data.specs.declared.model.Sense.TheVariants.{Less, Greater}
use Rattle.model_data.specs.declared.model.VarKind.{VarKind}
use Rattle.model_data.specs.declared.model.Term.{Term}
use Rattle.lp_defs.specs.declared.fault.ModelFault.{ModelFault}
use Rattle.lp_defs.specs.declared.token.SectionWord.{SectionWord}
use Rattle.lp_defs.specs.declared.token.SectionWord.TheVariants.{Minimize, Maximize, Subject, Such, Constraints, Bounds, General, Binary, Free, End}
use Rattle.lp_defs.specs.Draft.{Unfinished, before_terms, change_var, close_row, coefficient_in, default_title, has_room_for_row, knows_row, knows_var, mention, new_row, new_var, objective_sum, row_sum, var_place, with_coefficient, with_constant, with_kind, with_mention, with_objective, with_sum, with_term, within_terms}
use Rattle.lp_defs.specs.Objective.{Summand, add_to_constant, add_to_objective, after_objective, after_objective_label, after_objective_number, after_objective_sign, after_objective_term, after_objective_title, after_objective_word, after_second_word, after_start, lone_name, numbered_name, objective_amount, objective_term, settle_objective_title}
use Rattle.lp_defs.specs.Quantity.{Limit, added, limit_of, may_bound, turned, under_sign, unit, value_of, with_bound}
use Rattle.lp_defs.specs.Reading.{after}
use Rattle.lp_defs.specs.Rows.{add_to_row, after_comparison, after_constraints, after_row, after_row_number, after_row_sign, after_row_title, after_rows, after_row_label, after_row_term, after_side_sign, labelled_row, open_row, right_side, row_amount, row_term, settle_row_title, unlabelled_row}
use Rattle.lp_defs.specs.Sections.{after_bound, after_bound_end, after_bound_middle, after_bound_name, after_bound_number, after_bound_side, after_bound_side_sign, after_bound_sign, after_kind, last_limit}
use Rattle.lp_defs.specs.Stage.{Stage, start, objective_start, objective_title, objective_first, objective_sign, objective_number, objective_next, second_word, rows_start, rows_next, row_title, row_first, row_sign, row_number, row_next, row_side, row_side_sign, bounds, bound_name, bound_side, bound_side_sign, bound_sign, bound_number, bound_middle, bound_end, kinds, ended}
use Rattle.lp_defs.proofs.SoundTokens.{IsSoundQuantity, IsSoundSymbol}
use Rattle.lp_defs.specs.Symbols.{Quantity, finite, too_wide, infinite, Spot, Symbol, sign, colon, comparison, number, keyword, label, name, fault_at, or_fault}

-- What holds of a value where there is one
abbrev pub Gives : {A : Type 0} → (A → Type 0) → Result A ModelFault → Type 0
Gives P (Ok a) = P a
Gives P (Err f) = Unit {0}

pub bind : {A B : Type 0} (P : A → Type 0) (Q : B → Type 0) (o : Result A ModelFault) (g : A → Result B ModelFault) → Gives P o → ((a : A) → P a → Gives Q (g a)) → Gives Q (o >>= g)
bind P Q (Ok a) g p h = h a p
bind P Q (Err f) g p h = tt

found : {A : Type 0} (P : A → Type 0) (p : Spot) (w : FaultWord) (o : Option A) → ((a : A) → o ≡ Some a → P a) → Gives P (or_fault p w o)
found P p w (Some a) h = h a refl
found P p w None h = tt

either : {A : Type 0} (P : A → Type 0) (b : Bool) (x y : Result A ModelFault) → Gives P x → Gives P y → Gives P (if b then x else y)
either P true x y p q = p
either P false x y p q = q

pub kept_branch : {A : Type 0} (P : A → Type 0) (b : Bool) (x y : A) → P x → P y → P (if b then x else y)
kept_branch P true x y p q = p
kept_branch P false x y p q = q

-- Numbers

sum_kept : (b : Bool) (c x sum : Fraction) → (b ≡ true → IsKept (exact_sum c x)) → (if b then Some (exact_sum c x) else None) ≡ Some sum → IsKept sum
sum_kept true c x sum h e = let is : exact_sum c x ≡ sum = cc in subst IsKept is (h refl)
sum_kept false c x sum h e = absurd cc

pub added_kept : (c x sum : Fraction) → IsKept c → IsKept x → added c x ≡ Some sum → IsKept sum
added_kept c x sum k l e = sum_kept (sum_fits c x) c x sum (λ fits. IsKept-sum c x k l fits) e

pub unit_kept : (negative : Bool) → IsKept (unit negative)
unit_kept false = IsKept-one
unit_kept true = IsKept-negation one_value IsKept-one

pub value_kept : (negative : Bool) (quantity : Quantity) (x : Fraction) → IsSoundQuantity quantity → value_of (under_sign negative quantity) ≡ Some x → IsKept x
value_kept false (finite y) x k e = let is : y ≡ x = cc in subst IsKept is k
value_kept true (finite y) x k e = let is : negation y ≡ x = cc in subst IsKept is (IsKept-negation y k)
value_kept false (too_wide a b) x k e = absurd cc
value_kept true (too_wide a b) x k e = absurd cc
value_kept false (infinite a) x k e = absurd cc
value_kept true (infinite a) x k e = absurd cc

-- Models

pub record Within (m : Model) : Type 0 where
  pub constant : IsKept m.constant
  pub terms : term_count m ≤ MAX_TERMS

abbrev pub KeptTerms : List Term → Type 0
KeptTerms [] = Unit {0}
KeptTerms (t ∷ terms) = IsKept t.coef × KeptTerms terms

pub record WithinRow (u : Unfinished) : Type 0 where
  pub constant : IsKept u.model.constant
  pub kept : KeptTerms u.row.terms
  pub terms : term_count u.model + length u.row.terms ≤ MAX_TERMS

-- a model of which only the variables may differ
pub record IsLike (m told : Model) : Type 0 where
  pub constant : m.constant ≡ told.constant
  pub rows : m.rows ≡ told.rows

like_mention : (text : List ℕ) (m told : Model) (known : Bool) → (if known then m else record m { vars = m.vars ++ (new_var text ∷ []) }) ≡ told → IsLike m told
like_mention text m told true e = record { constant = ap (λ m. m.constant) e; rows = ap (λ m. m.rows) e }
like_mention text m told false e = record { constant = ap (λ m. m.constant) e; rows = ap (λ m. m.rows) e }

mention_by : (text : List ℕ) (m told : Model) (b : Bool) → (if b then Some (with_mention text m) else None) ≡ Some told → IsLike m told
mention_by text m told true e = like_mention text m told (knows_var text m) (let is : with_mention text m ≡ told = cc in is)
mention_by text m told false e = absurd cc

pub mention_like : (text : List ℕ) (m told : Model) → mention text m ≡ Some told → IsLike m told
mention_like text m told e = mention_by text m told (knows_var text m || nat_lt (length m.vars) MAX_VARS) e

pub record Mapped {A B : Type 0} (g : A → B) (o : Option A) (b : B) : Type 0 where
  pub value : A
  pub value_is : o ≡ Some value
  pub is : g value ≡ b

pub mapped : {A B : Type 0} (g : A → B) (o : Option A) (b : B) → option_map g o ≡ Some b → Mapped g o b
mapped g (Some a) b e = record { value = a; value_is = refl; is = cc }
mapped g None b e = absurd cc

record Passed {A B : Type 0} (g : A → Option B) (o : Option A) (b : B) : Type 0 where
  pub value : A
  pub value_is : o ≡ Some value
  pub rest : g value ≡ Some b

passed : {A B : Type 0} (g : A → Option B) (o : Option A) (b : B) → option_and_then g o ≡ Some b → Passed g o b
passed g (Some a) b e = record { value = a; value_is = refl; rest = e }
passed g None b e = absurd cc

pub objective_like : (text : List ℕ) (sum : Fraction) (m told : Model) → with_objective text sum m ≡ Some told → IsLike m told
objective_like text sum m told e =
    let p = mapped (change_var text (λ v. record v { obj = sum })) (mention text m) told e in
    let like = mention_like text m p.value p.value_is in
    record { constant = like.constant ∙ ap (λ (m : Model). m.constant) p.is; rows = like.rows ∙ ap (λ (m : Model). m.rows) p.is }

within_like : (m told : Model) → IsLike m told → Within m → Within told
within_like m told like w = record {
  constant = subst IsKept like.constant w.constant;
  terms = subst (λ n. n ≤ MAX_TERMS) (ap (λ (rows : List Row). term_count (record m { rows = rows })) like.rows) w.terms;
}

pub constant_within : (x : Fraction) (m told : Model) → IsKept x → Within m → with_constant x m ≡ Some told → Within told
constant_within x m told k w e =
    let p = mapped (λ sum. record m { constant = sum }) (added m.constant x) told e in
    subst Within p.is (record { constant = added_kept m.constant x p.value w.constant k p.value_is; terms = w.terms })

-- Rows

pub coefficient_kept : (place : ℕ) (terms : List Term) → KeptTerms terms → IsKept (coefficient_in place terms)
coefficient_kept place [] k = IsKept-zero
coefficient_kept place (t ∷ terms) k = kept_branch IsKept (t.var == place) t.coef (coefficient_in place terms) k.0 (coefficient_kept place terms k.1)

before_kept : (place : ℕ) (x : Fraction) (terms : List Term) → IsKept x → KeptTerms terms → KeptTerms (before_terms place x terms)
before_kept place x terms k h = kept_branch KeptTerms (unsigned_abs x.num == 0) terms (record { var = place; coef = x } ∷ terms) h (k, h)

with_kept : (place : ℕ) (x : Fraction) (terms : List Term) → IsKept x → KeptTerms terms → KeptTerms (with_coefficient place x terms)
with_kept place x [] k h = before_kept place x [] k tt
with_kept place x (t ∷ terms) k h =
    kept_branch KeptTerms (nat_lt t.var place) (t ∷ with_coefficient place x terms)
    (if t.var == place then before_terms place x terms else before_terms place x (t ∷ terms))
    (h.0, with_kept place x terms k h.1)
    (kept_branch KeptTerms (t.var == place) (before_terms place x terms) (before_terms place x (t ∷ terms))
    (before_kept place x terms k h.1) (before_kept place x (t ∷ terms) k h))

record Limited (u told : Unfinished) : Type 0 where
  pub is : u ≡ told
  pub terms : term_count u.model + length u.row.terms ≤ MAX_TERMS

limited_by : (b : Bool) (u told : Unfinished) → (b ≡ true → term_count u.model + length u.row.terms ≤ MAX_TERMS) → (if b then Some u else None) ≡ Some told → Limited u told
limited_by true u told h e = record { is = cc; terms = h refl }
limited_by false u told h e = absurd cc

limited : (u told : Unfinished) → within_terms u ≡ Some told → Limited u told
limited u told e =
    let n = term_count u.model + length u.row.terms in
    limited_by (nat_le n MAX_TERMS) u told (λ h. leb-true n MAX_TERMS h) e

term_within : (text : List ℕ) (sum : Fraction) (u told : Unfinished) → IsKept sum → WithinRow u → with_term text sum u ≡ Some told → WithinRow told
term_within text sum u told k w e =
    let p = passed (λ known. within_terms (with_sum text sum u.row known)) (mention text u.model) told e in
    let l = limited (with_sum text sum u.row p.value) told p.rest in
    let like = mention_like text u.model p.value p.value_is in
    subst WithinRow l.is (record {
      constant = subst IsKept like.constant w.constant;
      kept = with_kept (var_place text p.value) sum u.row.terms k w.kept;
      terms = l.terms;
    })

pub into_row : (s : Summand) (u : Unfinished) → IsKept s.coefficient → WithinRow u → Gives WithinRow (add_to_row s u)
into_row s u k w =
    bind IsKept WithinRow (or_fault s.number_spot bad_number (row_sum s.text s.coefficient u)) _
    (found IsKept s.number_spot bad_number (row_sum s.text s.coefficient u)
    (λ sum e. added_kept (coefficient_in (var_place s.text u.model) u.row.terms) s.coefficient sum (coefficient_kept (var_place s.text u.model) u.row.terms w.kept) k e))
    (λ sum l. found WithinRow s.name_spot Size (with_term s.text sum u) (λ told e. term_within s.text sum u told l w e))

pub into_objective : (s : Summand) (m : Model) → Within m → Gives Within (add_to_objective s m)
into_objective s m w =
    bind {A = Fraction} (λ _. Unit {0}) Within (or_fault s.number_spot bad_number (objective_sum s.text s.coefficient m)) _
    (found (λ _. Unit {0}) s.number_spot bad_number (objective_sum s.text s.coefficient m) (λ _ _. tt))
    (λ sum _. found Within s.name_spot Size (with_objective s.text sum m) (λ told e. within_like m told (objective_like s.text sum m told e) w))

pub opened : (p : Spot) (text : List ℕ) (m : Model) → Within m → Gives WithinRow (open_row p text m)
opened p text m w =
    either WithinRow (knows_row text m) (Err (fault_at p DoubledName)) (if has_room_for_row m then Ok (new_row text m) else Err (fault_at p Size)) tt
    (either WithinRow (has_room_for_row m) (Ok (new_row text m)) (Err (fault_at p Size))
    (record { constant = w.constant; kept = tt; terms = omega (arith, w.terms) }) tt)

closed : (sense : Sense) (x : Fraction) (u : Unfinished) → WithinRow u → Within (close_row sense x u)
closed sense x u w = record {
  constant = w.constant;
  terms = (let count = sum_by_push (λ (r : Row). length r.terms) u.model.rows (record { name = u.row.title; sense = sense; rhs = x; terms = u.row.terms }) in
      subst (λ n. n ≤ MAX_TERMS) (sym count) w.terms);
}

-- Stages

abbrev pub Lasts : Stage → Type 0
Lasts (objective_start m) = Within m
Lasts (objective_title _ _ m) = Within m
Lasts (objective_first m) = Within m
Lasts (objective_sign _ m) = Within m
Lasts (objective_number _ x m) = Within m × IsKept x
Lasts (objective_next m) = Within m
Lasts (second_word wanted m) = Within m × (str_eq_ignore_ascii_case wanted wanted ≡ true)
Lasts (rows_start m) = Within m
Lasts (rows_next m) = Within m
Lasts (row_title _ _ m) = Within m
Lasts (row_first u) = WithinRow u
Lasts (row_sign _ _ u) = WithinRow u
Lasts (row_number _ _ x u) = WithinRow u × IsKept x
Lasts (row_next u) = WithinRow u
Lasts (row_side _ u) = WithinRow u
Lasts (row_side_sign _ _ u) = WithinRow u
Lasts stage = Unit {0}

-- a step to a stage of which nothing lasts
free : {A : Type 0} (o : Result A ModelFault) (g : A → Stage) → ((a : A) → Lasts (g a)) → Gives Lasts (o >>= λ a. Ok (g a))
free (Ok a) g h = h a
free (Err f) g h = tt

objective_value : (negative : Bool) (s : Spot) (quantity : Quantity) (m : Model) → IsSoundQuantity quantity → Within m → Gives Lasts (objective_amount negative s quantity m)
objective_value negative s quantity m k w =
    bind IsKept Lasts (or_fault s bad_number (value_of (under_sign negative quantity))) _
    (found IsKept s bad_number (value_of (under_sign negative quantity)) (λ x e. value_kept negative quantity x k e)) (λ x l. (w, l))

objective_step : (summand : Summand) (m : Model) → Within m → Gives Lasts (objective_term summand m)
objective_step summand m w = bind Within Lasts (add_to_objective summand m) _ (into_objective summand m w) (λ told l. l)

objective_end : (s : Spot) (word : SectionWord) (m : Model) → Within m → Gives Lasts (after_objective s word m)
objective_end s Constraints m w = w
objective_end s Subject m w = (w, refl)
objective_end s Such m w = (w, refl)
objective_end s word m w = tt

objective_more : (s : Spot) (symbol : Symbol) (m : Model) → IsSoundSymbol symbol → Within m → Gives Lasts (after_objective_term s symbol m)
objective_more s (sign negative) m k w = w
objective_more s (number true quantity) m k w = objective_value false s quantity m k w
objective_more s (keyword word) m k w = objective_end s word m w
objective_more s symbol m k w = tt

objective_head : (s : Spot) (symbol : Symbol) (m : Model) → IsSoundSymbol symbol → Within m → Gives Lasts (after_objective_label s symbol m)
objective_head s (number has_sign quantity) m k w = objective_value false s quantity m k w
objective_head s (name text) m k w = objective_step (lone_name false s text) m w
objective_head s symbol m k w = objective_more s symbol m k w

objective_begun : (s : Spot) (symbol : Symbol) (m : Model) → IsSoundSymbol symbol → Within m → Gives Lasts (after_objective_word s symbol m)
objective_begun s (label text) m k w = w
objective_begun s (name text) m k w = w
objective_begun s symbol m k w = objective_head s symbol m k w

objective_titled : (t : Spot) (title : List ℕ) (s : Spot) (symbol : Symbol) (m : Model) → IsSoundSymbol symbol → Within m → Gives Lasts (after_objective_title t title s symbol m)
objective_titled t title s colon m k w = w
objective_titled t title s symbol m k w =
    bind Within Lasts (settle_objective_title t title m) _ (into_objective (lone_name false t title) m w) (λ told l. objective_more s symbol told k l)

objective_signed : (negative : Bool) (s : Spot) (symbol : Symbol) (m : Model) → IsSoundSymbol symbol → Within m → Gives Lasts (after_objective_sign negative s symbol m)
objective_signed negative s (number has_sign quantity) m k w = objective_value negative s quantity m k w
objective_signed negative s (name text) m k w = objective_step (lone_name negative s text) m w
objective_signed negative s symbol m k w = tt

objective_numbered : (t : Spot) (x : Fraction) (s : Spot) (symbol : Symbol) (m : Model) → IsSoundSymbol symbol → Within m × IsKept x → Gives Lasts (after_objective_number t x s symbol m)
objective_numbered t x s (name text) m k w = objective_step (numbered_name t x s text) m w.0
objective_numbered t x s symbol m k w =
    bind Within Lasts (add_to_constant t x m) _ (found Within t bad_number (with_constant x m) (λ told e. constant_within x m told w.1 w.0 e)) (λ told l. objective_more s symbol told k l)

worded : (wanted : List ℕ) (s : Spot) (symbol : Symbol) (m : Model) → Within m → Gives Lasts (after_second_word wanted s symbol m)
worded wanted s (name text) m w = either Lasts (str_eq_ignore_ascii_case wanted text) (Ok (rows_start m)) (Err (fault_at s Word)) w tt
worded wanted s symbol m w = tt

row_value : (head negative : Bool) (s : Spot) (quantity : Quantity) (u : Unfinished) → IsSoundQuantity quantity → WithinRow u → Gives Lasts (row_amount head negative s quantity u)
row_value head negative s quantity u k w =
    bind IsKept Lasts (or_fault s bad_number (value_of (under_sign negative quantity))) _
    (found IsKept s bad_number (value_of (under_sign negative quantity)) (λ x e. value_kept negative quantity x k e)) (λ x l. (w, l))

row_step : (summand : Summand) (u : Unfinished) → IsKept summand.coefficient → WithinRow u → Gives Lasts (row_term summand u)
row_step summand u k w = bind WithinRow Lasts (add_to_row summand u) _ (into_row summand u k w) (λ told l. l)

section : (s : Spot) (word : SectionWord) (m : Model) → Gives Lasts (after_rows s word m)
section s Bounds m = tt
section s General m = tt
section s Binary m = tt
section s End m = tt
section s word m = tt

row_more : (s : Spot) (symbol : Symbol) (u : Unfinished) → IsSoundSymbol symbol → WithinRow u → Gives Lasts (after_row_term s symbol u)
row_more s (sign negative) u k w = w
row_more s (number true quantity) u k w = row_value false false s quantity u k w
row_more s (comparison sense) u k w = w
row_more s symbol u k w = tt

row_head : (s : Spot) (symbol : Symbol) (u : Unfinished) → IsSoundSymbol symbol → WithinRow u → Gives Lasts (after_row_label s symbol u)
row_head s (sign negative) u k w = w
row_head s (number has_sign quantity) u k w = row_value true false s quantity u k w
row_head s (name text) u k w = row_step (lone_name false s text) u IsKept-one w
row_head s (comparison sense) u k w = w
row_head s symbol u k w = tt

labelled : (s : Spot) (text : List ℕ) (m : Model) → Within m → Gives Lasts (labelled_row s text m)
labelled s text m w = bind WithinRow Lasts (open_row s text m) _ (opened s text m w) (λ u l. l)

unlabelled : (s : Spot) (symbol : Symbol) (m : Model) → IsSoundSymbol symbol → Within m → Gives Lasts (unlabelled_row s symbol m)
unlabelled s symbol m k w = bind WithinRow Lasts (open_row s (default_title m) m) _ (opened s (default_title m) m w) (λ u l. row_head s symbol u k l)

row_begins : (s : Spot) (symbol : Symbol) (m : Model) → IsSoundSymbol symbol → Within m → Gives Lasts (after_row s symbol m)
row_begins s (label text) m k w = labelled s text m w
row_begins s (name text) m k w = w
row_begins s (sign negative) m k w = unlabelled s (sign negative) m k w
row_begins s (number has_sign quantity) m k w = unlabelled s (number has_sign quantity) m k w
row_begins s (comparison sense) m k w = tt
row_begins s (keyword word) m k w = section s word m
row_begins s colon m k w = tt

rows_begin : (s : Spot) (symbol : Symbol) (m : Model) → IsSoundSymbol symbol → Within m → Gives Lasts (after_constraints s symbol m)
rows_begin s (comparison sense) m k w = unlabelled s (comparison sense) m k w
rows_begin s symbol m k w = row_begins s symbol m k w

row_titled : (t : Spot) (title : List ℕ) (s : Spot) (symbol : Symbol) (m : Model) → IsSoundSymbol symbol → Within m → Gives Lasts (after_row_title t title s symbol m)
row_titled t title s colon m k w = labelled t title m w
row_titled t title s symbol m k w =
    bind WithinRow Lasts (settle_row_title t title m) _
    (bind WithinRow WithinRow (open_row t (default_title m) m) _ (opened t (default_title m) m w) (λ u l. into_row (lone_name false t title) u IsKept-one l))
    (λ told l. row_more s symbol told k l)

row_signed : (head negative : Bool) (s : Spot) (symbol : Symbol) (u : Unfinished) → IsSoundSymbol symbol → WithinRow u → Gives Lasts (after_row_sign head negative s symbol u)
row_signed head negative s (number has_sign quantity) u k w = row_value head negative s quantity u k w
row_signed head negative s (name text) u k w = row_step (lone_name negative s text) u (unit_kept negative) w
row_signed head negative s symbol u k w = tt

row_numbered : (head : Bool) (t : Spot) (x : Fraction) (s : Spot) (symbol : Symbol) (u : Unfinished) → WithinRow u × IsKept x → Gives Lasts (after_row_number head t x s symbol u)
row_numbered head t x s (name text) u w = row_step (numbered_name t x s text) u w.1 w.0
row_numbered head t x s (comparison sense) u w = tt
row_numbered head t x s symbol u w = tt

right : (negative : Bool) (sense : Sense) (s : Spot) (quantity : Quantity) (u : Unfinished) → WithinRow u → Gives Lasts (right_side negative sense s quantity u)
right negative sense s quantity u w = free (or_fault s bad_number (value_of (under_sign negative quantity))) (λ x. rows_next (close_row sense x u)) (λ x. closed sense x u w)

compared : (sense : Sense) (s : Spot) (symbol : Symbol) (u : Unfinished) → WithinRow u → Gives Lasts (after_comparison sense s symbol u)
compared sense s (sign negative) u w = w
compared sense s (number has_sign quantity) u w = right false sense s quantity u w
compared sense s symbol u w = tt

side_signed : (negative : Bool) (sense : Sense) (s : Spot) (symbol : Symbol) (u : Unfinished) → WithinRow u → Gives Lasts (after_side_sign negative sense s symbol u)
side_signed negative sense s (number has_sign quantity) u w = right negative sense s quantity u w
side_signed negative sense s symbol u w = tt

started : (s : Spot) (symbol : Symbol) → Gives Lasts (after_start s symbol)
started s (keyword Minimize) = record { constant = IsKept-zero; terms = omega arith }
started s (keyword Maximize) = record { constant = IsKept-zero; terms = omega arith }
started s symbol = tt

bound_begins : (s : Spot) (symbol : Symbol) (m : Model) → Gives Lasts (after_bound s symbol m)
bound_begins s (name text) m = free (or_fault s Size (mention text m)) (λ known. bound_name text known) (λ _. tt)
bound_begins s (sign negative) m = tt
bound_begins s (number has_sign quantity) m = free (or_fault s bad_number (limit_of (under_sign false quantity))) (λ l. bound_number s l m) (λ _. tt)
bound_begins s (keyword word) m = section s word m
bound_begins s symbol m = tt

last_value : (negative : Bool) (sense : Sense) (text : List ℕ) (s : Spot) (quantity : Quantity) (m : Model) → Gives Lasts (last_limit negative sense text s quantity m)
last_value negative sense text s quantity m =
    bind {A = Limit} (λ _. Unit {0}) Lasts (or_fault s bad_number (limit_of (under_sign negative quantity))) _
    (found (λ _. Unit {0}) s bad_number (limit_of (under_sign negative quantity)) (λ _ _. tt))
    (λ l _. either Lasts (may_bound sense l) (Ok (bounds (change_var text (with_bound sense l) m))) (Err (fault_at s bad_number)) tt tt)

bound_named : (text : List ℕ) (s : Spot) (symbol : Symbol) (m : Model) → Gives Lasts (after_bound_name text s symbol m)
bound_named text s (keyword Free) m = tt
bound_named text s (comparison sense) m = tt
bound_named text s symbol m = tt

bound_sided : (sense : Sense) (text : List ℕ) (s : Spot) (symbol : Symbol) (m : Model) → Gives Lasts (after_bound_side sense text s symbol m)
bound_sided sense text s (sign negative) m = tt
bound_sided sense text s (number has_sign quantity) m = last_value false sense text s quantity m
bound_sided sense text s symbol m = tt

bound_side_signed : (negative : Bool) (sense : Sense) (text : List ℕ) (s : Spot) (symbol : Symbol) (m : Model) → Gives Lasts (after_bound_side_sign negative sense text s symbol m)
bound_side_signed negative sense text s (number has_sign quantity) m = last_value negative sense text s quantity m
bound_side_signed negative sense text s symbol m = tt

bound_signed : (negative : Bool) (s : Spot) (symbol : Symbol) (m : Model) → Gives Lasts (after_bound_sign negative s symbol m)
bound_signed negative s (number has_sign quantity) m = free (or_fault s bad_number (limit_of (under_sign negative quantity))) (λ l. bound_number s l m) (λ _. tt)
bound_signed negative s symbol m = tt

bound_numbered : (t : Spot) (l : Limit) (s : Spot) (symbol : Symbol) (m : Model) → Gives Lasts (after_bound_number t l s symbol m)
bound_numbered t l s (comparison sense) m = either Lasts (may_bound (turned sense) l) (Ok (bound_middle l sense m)) (Err (fault_at t bad_number)) tt tt
bound_numbered t l s symbol m = tt

bound_in_middle : (l : Limit) (sense : Sense) (s : Spot) (symbol : Symbol) (m : Model) → Gives Lasts (after_bound_middle l sense s symbol m)
bound_in_middle l sense s (name text) m =
    free (or_fault s Size (mention text m)) (λ known. bound_end sense text (change_var text (with_bound (turned sense) l) known)) (λ _. tt)
bound_in_middle l sense s symbol m = tt

bound_ends : (sense : Sense) (text : List ℕ) (s : Spot) (symbol : Symbol) (m : Model) → Gives Lasts (after_bound_end sense text s symbol m)
bound_ends Less text s (comparison Less) m = tt
bound_ends Greater text s (comparison Greater) m = tt
bound_ends sense text s symbol m = bound_begins s symbol m

listed : (kind : VarKind) (s : Spot) (symbol : Symbol) (m : Model) → Gives Lasts (after_kind kind s symbol m)
listed kind s (name text) m = free (or_fault s Size (mention text m)) (λ known. kinds kind (change_var text (with_kind kind) known)) (λ _. tt)
listed kind s (keyword word) m = section s word m
listed kind s symbol m = tt

pub lasts : (stage : Stage) (s : Spot) (symbol : Symbol) → IsSoundSymbol symbol → Lasts stage → Gives Lasts (after stage s symbol)
lasts start s symbol k w = started s symbol
lasts (objective_start m) s symbol k w = objective_begun s symbol m k w
lasts (objective_title t title m) s symbol k w = objective_titled t title s symbol m k w
lasts (objective_first m) s symbol k w = objective_head s symbol m k w
lasts (objective_sign negative m) s symbol k w = objective_signed negative s symbol m k w
lasts (objective_number t x m) s symbol k w = objective_numbered t x s symbol m k w
lasts (objective_next m) s symbol k w = objective_more s symbol m k w
lasts (second_word wanted m) s symbol k w = worded wanted s symbol m w.0
lasts (rows_start m) s symbol k w = rows_begin s symbol m k w
lasts (rows_next m) s symbol k w = row_begins s symbol m k w
lasts (row_title t title m) s symbol k w = row_titled t title s symbol m k w
lasts (row_first u) s symbol k w = row_head s symbol u k w
lasts (row_sign head negative u) s symbol k w = row_signed head negative s symbol u k w
lasts (row_number head t x u) s symbol k w = row_numbered head t x s symbol u w
lasts (row_next u) s symbol k w = row_more s symbol u k w
lasts (row_side sense u) s symbol k w = compared sense s symbol u w
lasts (row_side_sign negative sense u) s symbol k w = side_signed negative sense s symbol u w
lasts (bounds m) s symbol k w = bound_begins s symbol m
lasts (bound_name text m) s symbol k w = bound_named text s symbol m
lasts (bound_side sense text m) s symbol k w = bound_sided sense text s symbol m
lasts (bound_side_sign negative sense text m) s symbol k w = bound_side_signed negative sense text s symbol m
lasts (bound_sign negative m) s symbol k w = bound_signed negative s symbol m
lasts (bound_number t l m) s symbol k w = bound_numbered t l s symbol m
lasts (bound_middle l sense m) s symbol k w = bound_in_middle l sense s symbol m
lasts (bound_end sense text m) s symbol k w = bound_ends sense text s symbol m
lasts (kinds kind m) s symbol k w = listed kind s symbol m
lasts (ended m) s symbol k w = tt
