-- What is read is spelled so: the objective.
use Rattle.std.proofs.Common.{◌≡◌, refl, sym, ◌∙◌, ap, subst, ℕ, Bool, true, false, IsTrue, ◌∷◌, List, Option, Some, Ok, codes}
use Rattle.std.specs.Str.{str_eq_ignore_ascii_case}
use Rattle.base_names.specs.declared.refusal.FaultWord.TheVariants.{Number as bad_number, Size, Word}
use Rattle.frac128.specs.Checked.{◌>>=◌}
use Rattle.frac128.specs.Fraction.{Fraction}
use Rattle.model_data.specs.declared.model.Direction.TheVariants.{Minimize as minimizing, Maximize as maximizing}
use Rattle.model_data.specs.declared.model.Model.{Model}
use Rattle.lp_defs.specs.declared.token.SectionWord.{SectionWord}
use Rattle.lp_defs.specs.declared.token.SectionWord.TheVariants.{Minimize, Maximize, Subject, Such, Constraints}
use Rattle.lp_defs.specs.Draft.{blank, objective_sum, with_objective}
use Rattle.lp_defs.specs.Grammar.{OptionalSign, unsigned, signed, FiniteAmount, lone, scaled, begins_with_sign, OptionalLabel, unlabelled, one_token, two_tokens, AddsToObjective, term, alone, none, more, nothing, first, ConstraintsWord, short, subject_to, such_that, minimize, maximize, SpellsModel}
use Rattle.lp_defs.specs.Objective.{Summand, add_to_objective, add_to_constant, after_start, after_objective, after_objective_label, after_objective_number, after_objective_sign, after_objective_term, after_objective_title, after_objective_word, after_second_word, lone_name, objective_amount, objective_term}
use Rattle.lp_defs.specs.Quantity.{under_sign, unit, value_of}
use Rattle.lp_defs.specs.Stage.{objective_start, objective_title, objective_first, objective_sign, objective_number, objective_next, rows_start, second_word}
use Rattle.lp_defs.specs.Symbols.{Quantity, Seen, Spot, Symbol, token, sign, colon, comparison, number, keyword, label, name, fault_at, or_fault}
use Rattle.lp_defs.proofs.Parts.{chosen, goes_on, passes, some_of}
use Rattle.lp_defs.proofs.Rest.{FromConstraints, FromFirst, FromNext, FromObjective, FromPart, FromSecond, Known}
use Rattle.lp_defs.specs.Reading.{reading_from}

adds : (s t : Spot) (text : List ℕ) (x : Fraction) (m : Model) {told : Model} →
    add_to_objective (record { number_spot = s; coefficient = x; name_spot = t; text = text }) m ≡ Ok told → AddsToObjective text x m told
adds s t text x m h =
    let p = passes (or_fault s bad_number (objective_sum text x m)) (λ sum. or_fault t Size (with_objective text sum m)) _ h in
    record { sum = p.value; sum_is = some_of s bad_number _ p.value_is; told_is = some_of t Size _ p.rest }

pub record NextAfter (text : List ℕ) (x : Fraction) (m : Model) (xs : List Seen) (r : Model) : Type 0 where
  pub told : Model
  pub adds : AddsToObjective text x m told
  pub rest : FromNext told xs r

-- a step that tells a term
termed : (s t : Spot) (text : List ℕ) (x : Fraction) (m : Model) {xs : List Seen} {end : Spot} {r : Model} → Known xs end r →
    goes_on (objective_term (record { number_spot = s; coefficient = x; name_spot = t; text = text }) m) xs end ≡ Ok r → NextAfter text x m xs r
termed s t text x m {xs} {end} {r} k h =
    let S : Summand = record { number_spot = s; coefficient = x; name_spot = t; text = text } in
    let p = passes (objective_term S m) (λ next. reading_from next xs end) r h in
    let q = passes (add_to_objective S m) (λ told. Ok (objective_next told)) p.value p.value_is in
    let same : objective_next q.value ≡ p.value = (let g = q.rest in cc) in
    let e : reading_from (objective_next q.value) xs end ≡ Ok r = subst (λ stage. reading_from stage xs end ≡ Ok r) (sym same) p.rest in
    record { told = q.value; adds = adds s t text x m q.value_is; rest = k.of (objective_next q.value) e }

-- the step of a number, which is part of one part
record NumberAfter (negative : Bool) (written : Quantity) (m : Model) (xs : List Seen) (r : Model) : Type 0 where
  pub x : Fraction
  pub value_is : value_of (under_sign negative written) ≡ Some x
  pub part : (ws : List Seen) → FiniteAmount ws x xs → FromPart m ws r

numbered : (s : Spot) (negative : Bool) (written : Quantity) (m : Model) {xs : List Seen} {end : Spot} {r : Model} → Known xs end r →
    goes_on (objective_amount negative s written m) xs end ≡ Ok r → NumberAfter negative written m xs r
numbered s negative written m {xs} {end} {r} k h =
    let p = passes (objective_amount negative s written m) (λ next. reading_from next xs end) r h in
    let q = passes (or_fault s bad_number (value_of (under_sign negative written))) (λ x. Ok (objective_number s x m)) p.value p.value_is in
    let same : objective_number s q.value m ≡ p.value = (let g = q.rest in cc) in
    let e : reading_from (objective_number s q.value m) xs end ≡ Ok r = subst (λ stage. reading_from stage xs end ≡ Ok r) (sym same) p.rest in
    record { x = q.value; value_is = some_of s bad_number _ q.value_is; part = k.of (objective_number s q.value m) e }

-- a number that is written behind this sign, or behind none
amount : {ws xs : List Seen} {negative : Bool} (s : Spot) (has_sign : Bool) (written : Quantity) {x : Fraction} →
    OptionalSign ws negative (token s (number has_sign written) ∷ xs) → value_of (under_sign negative written) ≡ Some x → FiniteAmount ws x xs
amount {negative} s has_sign written o e = record {
  quantity = under_sign negative written;
  amount = record { negative = negative; spot = s; has_sign = has_sign; written = written; tokens = o; value = refl };
  value = e;
}

name_part : {ws xs : List Seen} {negative : Bool} (s : Spot) (text : List ℕ) {m : Model} {r : Model} → OptionalSign ws negative (token s (name text) ∷ xs) →
    NextAfter text (unit negative) m xs r → FromPart m ws r
name_part s text o n = record { behind = _; told = n.told; part = term _ text (lone o) n.adds; rest = n.rest }

pub behind_sign : (negative : Bool) (s : Spot) (symbol : Symbol) (m : Model) (xs : List Seen) {end : Spot} {r : Model} → Known xs end r →
    goes_on (after_objective_sign negative s symbol m) xs end ≡ Ok r → (t : Spot) → FromPart m (token t (sign negative) ∷ token s symbol ∷ xs) r
behind_sign negative s (number has_sign written) m xs k h t = let n = numbered s negative written m k h in n.part _ (amount s has_sign written signed n.value_is)
behind_sign negative s (name text) m xs k h t = name_part s text signed (termed s s text (unit negative) m k h)
behind_sign negative s symbol m xs k h t = absurd cc

objective_ends : (s : Spot) (word : SectionWord) (m : Model) (xs : List Seen) {end : Spot} {r : Model} → Known xs end r →
    goes_on (after_objective s word m) xs end ≡ Ok r → FromConstraints m (token s (keyword word) ∷ xs) r
objective_ends s Constraints m xs k h = record { behind = xs; word = short; rest = k.of (rows_start m) h }
objective_ends s Subject m xs {r} k h =
    let n : FromSecond (codes "to") m xs r = k.of (second_word (codes "to") m) h in
    record { behind = n.behind; word = subst (λ zs. ConstraintsWord (token s (keyword Subject) ∷ zs) n.behind) (sym n.tokens) (subject_to n.is_wanted); rest = n.rest }
objective_ends s Such m xs {r} k h =
    let n : FromSecond (codes "that") m xs r = k.of (second_word (codes "that") m) h in
    record { behind = n.behind; word = subst (λ zs. ConstraintsWord (token s (keyword Such) ∷ zs) n.behind) (sym n.tokens) (such_that n.is_wanted); rest = n.rest }
objective_ends s word m xs k h = absurd cc

pub second : (wanted : List ℕ) (s : Spot) (symbol : Symbol) (m : Model) (xs : List Seen) {end : Spot} {r : Model} → Known xs end r →
    goes_on (after_second_word wanted s symbol m) xs end ≡ Ok r → FromSecond wanted m (token s symbol ∷ xs) r
second wanted s (name text) m xs {end} {r} k h =
    let p = passes (after_second_word wanted s (name text) m) (λ next. reading_from next xs end) r h in
    let c = chosen (str_eq_ignore_ascii_case wanted text) (rows_start m) p.value (fault_at s Word) p.value_is in
    record {
      spot = s;
      text = text;
      behind = xs;
      tokens = refl;
      is_wanted = c.holds;
      rest = k.of (rows_start m) (subst (λ stage. reading_from stage xs end ≡ Ok r) (sym c.value_is) p.rest);
    }
second wanted s symbol m xs k h = absurd cc

part_next : {xs : List Seen} {m r : Model} → IsTrue (begins_with_sign xs) → FromPart m xs r → FromNext m xs r
part_next e p = record { behind = p.rest.behind; told = p.rest.told; parts = more e p.part p.rest.parts; rest = p.rest.rest }

part_first : {xs : List Seen} {m r : Model} → FromPart m xs r → FromFirst m xs r
part_first p = record { behind = p.rest.behind; told = p.rest.told; parts = first p.part p.rest.parts; rest = p.rest.rest }

pub next : (s : Spot) (symbol : Symbol) (m : Model) (xs : List Seen) {end : Spot} {r : Model} → Known xs end r →
    goes_on (after_objective_term s symbol m) xs end ≡ Ok r → FromNext m (token s symbol ∷ xs) r
next s (sign negative) m xs k h = part_next refl (k.of (objective_sign negative m) h s)
next s (number true written) m xs k h = let n = numbered s false written m k h in part_next refl (n.part _ (amount s true written unsigned n.value_is))
next s (number false written) m xs k h = absurd cc
next s (keyword word) m xs k h = record { behind = _; told = m; parts = none; rest = objective_ends s word m xs k h }
next s symbol m xs k h = absurd cc

pub head : (s : Spot) (symbol : Symbol) (m : Model) (xs : List Seen) {end : Spot} {r : Model} → Known xs end r →
    goes_on (after_objective_label s symbol m) xs end ≡ Ok r → FromFirst m (token s symbol ∷ xs) r
head s (sign negative) m xs k h = part_first (k.of (objective_sign negative m) h s)
head s (number has_sign written) m xs k h = let n = numbered s false written m k h in part_first (n.part _ (amount s has_sign written unsigned n.value_is))
head s (name text) m xs k h = part_first (name_part s text unsigned (termed s s text (unit false) m k h))
head s (keyword word) m xs k h = record { behind = _; told = m; parts = nothing; rest = objective_ends s word m xs k h }
head s symbol m xs k h = absurd cc

with_label : {xs ys : List Seen} {title : Option (List ℕ)} {m r : Model} → OptionalLabel xs title ys → FromFirst m ys r → FromObjective m xs r
with_label o f = record { behind = f.behind; told = f.told; objective = record { title = _; behind_label = _; has_label = o; parts = f.parts }; rest = f.rest }

pub begin : (s : Spot) (symbol : Symbol) (m : Model) (xs : List Seen) {end : Spot} {r : Model} → Known xs end r →
    goes_on (after_objective_word s symbol m) xs end ≡ Ok r → FromObjective m (token s symbol ∷ xs) r
begin s (label text) m xs k h = with_label one_token (k.of (objective_first m) h)
begin s (name text) m xs k h = k.of (objective_title s text m) h s
begin s (sign negative) m xs k h = with_label unlabelled (head s (sign negative) m xs k h)
begin s (number has_sign written) m xs k h = with_label unlabelled (head s (number has_sign written) m xs k h)
begin s (keyword word) m xs k h = with_label unlabelled (head s (keyword word) m xs k h)
begin s (comparison sense) m xs k h = with_label unlabelled (head s (comparison sense) m xs k h)
begin s colon m xs k h = with_label unlabelled (head s colon m xs k h)

-- what waited for a token is told, and then the token is read
waited : (title_spot : Spot) (title : List ℕ) (s : Spot) (symbol : Symbol) (m : Model) (xs : List Seen) {end : Spot} {r : Model} → Known xs end r →
    goes_on (add_to_objective (lone_name false title_spot title) m >>= λ told. after_objective_term s symbol told) xs end ≡ Ok r →
    (t : Spot) → FromObjective m (token t (name title) ∷ token s symbol ∷ xs) r
waited title_spot title s symbol m xs {end} {r} k h t =
    let S = lone_name false title_spot title in
    let p = passes (add_to_objective S m >>= λ told. after_objective_term s symbol told) (λ next. reading_from next xs end) r h in
    let q = passes (add_to_objective S m) (λ told. after_objective_term s symbol told) p.value p.value_is in
    let e : goes_on (after_objective_term s symbol q.value) xs end ≡ Ok r = ap (λ o. goes_on o xs end) q.rest ∙ p.rest in
    let n : NextAfter title (unit false) m (token s symbol ∷ xs) r =
    record { told = q.value; adds = adds title_spot title_spot title (unit false) m q.value_is; rest = next s symbol q.value xs k e } in
    with_label unlabelled (part_first (name_part t title unsigned n))

pub titled : (title_spot : Spot) (title : List ℕ) (s : Spot) (symbol : Symbol) (m : Model) (xs : List Seen) {end : Spot} {r : Model} → Known xs end r →
    goes_on (after_objective_title title_spot title s symbol m) xs end ≡ Ok r → (t : Spot) → FromObjective m (token t (name title) ∷ token s symbol ∷ xs) r
titled title_spot title s colon m xs k h t = with_label two_tokens (k.of (objective_first m) h)
titled title_spot title s (sign negative) m xs k h t = waited title_spot title s (sign negative) m xs k h t
titled title_spot title s (comparison sense) m xs k h t = waited title_spot title s (comparison sense) m xs k h t
titled title_spot title s (number has_sign written) m xs k h t = waited title_spot title s (number has_sign written) m xs k h t
titled title_spot title s (keyword word) m xs k h t = waited title_spot title s (keyword word) m xs k h t
titled title_spot title s (label text) m xs k h t = waited title_spot title s (label text) m xs k h t
titled title_spot title s (name text) m xs k h t = waited title_spot title s (name text) m xs k h t

number_alone : (number_spot : Spot) (x : Fraction) (s : Spot) (symbol : Symbol) (m : Model) (xs : List Seen) {end : Spot} {r : Model} → Known xs end r →
    goes_on (add_to_constant number_spot x m >>= λ told. after_objective_term s symbol told) xs end ≡ Ok r →
    (ws : List Seen) → FiniteAmount ws x (token s symbol ∷ xs) → FromPart m ws r
number_alone number_spot x s symbol m xs {end} {r} k h ws a =
    let p = passes (add_to_constant number_spot x m >>= λ told. after_objective_term s symbol told) (λ next. reading_from next xs end) r h in
    let q = passes (add_to_constant number_spot x m) (λ told. after_objective_term s symbol told) p.value p.value_is in
    let e : goes_on (after_objective_term s symbol q.value) xs end ≡ Ok r = ap (λ o. goes_on o xs end) q.rest ∙ p.rest in
    record { behind = _; told = q.value; part = alone x a (some_of number_spot bad_number _ q.value_is); rest = next s symbol q.value xs k e }

pub behind_number : (number_spot : Spot) (x : Fraction) (s : Spot) (symbol : Symbol) (m : Model) (xs : List Seen) {end : Spot} {r : Model} → Known xs end r →
    goes_on (after_objective_number number_spot x s symbol m) xs end ≡ Ok r → (ws : List Seen) → FiniteAmount ws x (token s symbol ∷ xs) → FromPart m ws r
behind_number number_spot x s (name text) m xs k h ws a =
    let n = termed number_spot s text x m k h in
    record { behind = _; told = n.told; part = term x text (scaled a) n.adds; rest = n.rest }
behind_number number_spot x s (sign negative) m xs k h ws a = number_alone number_spot x s (sign negative) m xs k h ws a
behind_number number_spot x s colon m xs k h ws a = number_alone number_spot x s colon m xs k h ws a
behind_number number_spot x s (comparison sense) m xs k h ws a = number_alone number_spot x s (comparison sense) m xs k h ws a
behind_number number_spot x s (number has_sign written) m xs k h ws a = number_alone number_spot x s (number has_sign written) m xs k h ws a
behind_number number_spot x s (keyword word) m xs k h ws a = number_alone number_spot x s (keyword word) m xs k h ws a
behind_number number_spot x s (label text) m xs k h ws a = number_alone number_spot x s (label text) m xs k h ws a

pub started : (s : Spot) (symbol : Symbol) (xs : List Seen) {end : Spot} {r : Model} → Known xs end r →
    goes_on (after_start s symbol) xs end ≡ Ok r → SpellsModel (token s symbol ∷ xs) r
started s (keyword Minimize) xs {r} k h =
    let n : FromObjective (blank minimizing) xs r = k.of (objective_start (blank minimizing)) h in
    record {
      direction = _;
      behind_word = xs;
      word = minimize;
      with_objective = n.told;
      behind_objective = n.behind;
      objective = n.objective;
      behind_constraints = n.rest.behind;
      constraints = n.rest.word;
      rest = n.rest.rest;
    }
started s (keyword Maximize) xs {r} k h =
    let n : FromObjective (blank maximizing) xs r = k.of (objective_start (blank maximizing)) h in
    record {
      direction = _;
      behind_word = xs;
      word = maximize;
      with_objective = n.told;
      behind_objective = n.behind;
      objective = n.objective;
      behind_constraints = n.rest.behind;
      constraints = n.rest.word;
      rest = n.rest.rest;
    }
started s (keyword word) xs k h = absurd cc
started s symbol xs k h = absurd cc
