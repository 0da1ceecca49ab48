-- A model that the tokens of a text spell is sound: production by production.
use Rattle.std.proofs.Common.{◌≡◌, refl, ap₂, subst, ℕ, ◌<◌, Bool, true, false, ◌&&◌, IsTrue, List, [], ◌∷◌, ◌++◌, length, decimal, codes, nat_le, bytes_eq, Option, Some, None, option_map, arith, if◌then◌else◌}
use Rattle.std.specs.Char.{is_ascii_digit}
use Rattle.std.specs.List.{list_all}
use Rattle.std.specs.Prelude.{All, IfSome}
use Rattle.std.specs.Str.{all_ascii_digits}
use Rattle.std.proofs.lemmas.Bool.{and_from, le-leb}
use Rattle.std.proofs.lemmas.Bool.Decides.{nat_tests}
use Rattle.std.proofs.lemmas.Fmt.{length-decimal-le}
use Rattle.std.proofs.lemmas.List.Elements.{All-head, All-tail}
use Rattle.frac128.specs.Fraction.{Fraction}
use Rattle.frac128.specs.Lowest.{IsKept}
use Rattle.frac128.specs.Numbers.{is_below_zero}
use Rattle.frac128.proofs.Kept.{IsKept-negation, IsKept-one, IsKept-zero}
use Rattle.model_data.specs.Lawful.{IsBelowBoundSize}
use Rattle.model_data.specs.Names.{IsName, is_name, is_name_byte}
use Rattle.model_data.specs.declared.limits.TheConstants.{MAX_NAME_LEN, MAX_ROWS}
use Rattle.model_data.specs.declared.model.Model.{Model}
use Rattle.model_data.specs.declared.model.Sense.{Sense}
use Rattle.model_data.specs.declared.model.Sense.TheVariants.{Less, Greater, Equal}
use Rattle.model_data.specs.declared.model.Var.{Var}
use Rattle.model_data.specs.declared.model.VarKind.{VarKind}
use Rattle.lp_defs.specs.Draft.{Unfinished, blank, change_var, default_title, freed, has_room_for_row, mention, new_row, objective_of_vars, with_constant, with_kind}
use Rattle.lp_defs.specs.Grammar.{OptionalSign, unsigned, signed, Amount, FiniteAmount, LimitAmount, NamedTerm, lone, scaled, OptionalLabel, unlabelled, one_token, two_tokens, AddsToObjective, ObjectivePart, term, alone, MoreObjective, none, more, ObjectiveParts, nothing, first, ConstraintsWord, short, subject_to, such_that, MoreTerms, RowTerms, RowTerm, title_or_default, SpellsRow, MoreRows, Rows, LeftBound, RightBound, Bound, free, right, left, both, BoundList, NameList, SpellsSection, bounds, general, binary, Sections, ObjectiveWord, minimize, maximize}
use Rattle.lp_defs.specs.Quantity.{Limit, limited, unlimited, added, bound_of, is_far, limit_of, turned, under_sign, unit, value_of, with_bound}
use Rattle.lp_defs.specs.Symbols.{Quantity, finite, too_wide, infinite, Seen}
use Rattle.lp_defs.specs.Text.{Spells}
use Rattle.lp_defs.proofs.Digits.{decimal_digits, each_digit}
use Rattle.lp_defs.proofs.Names.{both_of}
use Rattle.lp_defs.proofs.Sound.{IsSound, IsSoundVar, KeepsSound, blank_sound, change_sound, mention_sound}
use Rattle.lp_defs.proofs.SoundRows.{IsSoundRow, close_sound, no_terms, sum_kept, term_sound}
use Rattle.lp_defs.proofs.SoundTokens.{AreSound, IsSoundQuantity, text_sound}

-- Numbers

under_kept : (negative : Bool) (written : Quantity) → IsSoundQuantity written → IsSoundQuantity (under_sign negative written)
under_kept false written h = h
under_kept true (finite x) h = IsKept-negation x h
under_kept true (too_wide negative huge) h = tt
under_kept true (infinite negative) h = tt

unit_kept : (negative : Bool) → IsKept (unit negative)
unit_kept false = IsKept-one
unit_kept true = IsKept-negation _ IsKept-one

value_kept : (quantity : Quantity) (x : Fraction) → value_of quantity ≡ Some x → IsSoundQuantity quantity → IsKept x
value_kept (finite y) x e h = let is : y ≡ x = cc in subst IsKept is h
value_kept (too_wide negative huge) x e h = absurd cc
value_kept (infinite negative) x e h = absurd cc

abbrev IsSoundLimit : Limit → Type 0
IsSoundLimit (limited x) = IsKept x × IsBelowBoundSize x
IsSoundLimit (unlimited negative) = Unit {0}

finite_limit : (x : Fraction) → IsKept x → IsSoundLimit (if is_far x then unlimited (is_below_zero x.num) else limited x)
finite_limit x h = by_test (is_far x) refl
  where
    by_test : (b : Bool) → is_far x ≡ b → IsSoundLimit (if b then unlimited (is_below_zero x.num) else limited x)
    by_test true e = tt
    by_test false e = (h, grind (arith, nat_tests, e))

limit_sound : (quantity : Quantity) (limit : Limit) → limit_of quantity ≡ Some limit → IsSoundQuantity quantity → IsSoundLimit limit
limit_sound (finite x) limit e h =
    let is : (if is_far x then unlimited (is_below_zero x.num) else limited x) ≡ limit = cc in
    subst IsSoundLimit is (finite_limit x h)
limit_sound (infinite negative) limit e h = let is : unlimited negative ≡ limit = cc in subst IsSoundLimit is tt
limit_sound (too_wide negative true) limit e h = let is : unlimited negative ≡ limit = cc in subst IsSoundLimit is tt
limit_sound (too_wide negative false) limit e h = absurd cc

-- Tokens: what one production leaves of sound ones

behind_sign : {xs ys : List Seen} {negative : Bool} → OptionalSign xs negative ys → AreSound xs → AreSound ys
behind_sign unsigned h = h
behind_sign signed h = h.1

behind_amount : {xs ys : List Seen} {quantity : Quantity} → Amount xs quantity ys → AreSound xs → IsSoundQuantity quantity × AreSound ys
behind_amount a h =
    let p = behind_sign a.tokens h in
    (subst IsSoundQuantity a.value (under_kept a.negative a.written p.0), p.1)

behind_number : {xs ys : List Seen} {x : Fraction} → FiniteAmount xs x ys → AreSound xs → IsKept x × AreSound ys
behind_number {x} a h = let p = behind_amount a.amount h in (value_kept a.quantity x a.value p.0, p.1)

behind_limit : {xs ys : List Seen} {limit : Limit} → LimitAmount xs limit ys → AreSound xs → IsSoundLimit limit × AreSound ys
behind_limit {limit} a h = let p = behind_amount a.amount h in (limit_sound a.quantity limit a.value p.0, p.1)

-- a sound number and name, and sound tokens behind them
record Named (x : Fraction) (text : List ℕ) (ys : List Seen) : Type 0 where
  kept : IsKept x
  named : IsName text
  behind : AreSound ys

behind_term : {xs ys : List Seen} {x : Fraction} {text : List ℕ} → NamedTerm xs x text ys → AreSound xs → Named x text ys
behind_term (lone {negative} o) h = let p = behind_sign o h in record { kept = unit_kept negative; named = p.0; behind = p.1 }
behind_term (scaled n) h = let p = behind_number n h in record { kept = p.0; named = p.1.0; behind = p.1.1 }

-- Sound tokens, and the sound model that those before them have told
record Stands (xs : List Seen) (m : Model) : Type 0 where
  tokens : AreSound xs
  model : IsSound m

-- The objective

objective_kept : (text : List ℕ) (vars : List Var) → All IsSoundVar vars → IsKept (objective_of_vars text vars)
objective_kept text [] all = IsKept-zero
objective_kept text (v ∷ vars) all = by_test (bytes_eq text v.name) (objective_kept text vars (All-tail IsSoundVar v vars all))
  where
    by_test : (b : Bool) → IsKept (objective_of_vars text vars) → IsKept (if b then v.obj else objective_of_vars text vars)
    by_test true h = (All-head IsSoundVar v vars all).writable.kept.obj
    by_test false h = h

set_keeps : (x : Fraction) → IsKept x → KeepsSound (λ v. record v { obj = x })
set_keeps x kept = record {
  name = λ v. refl;
  sound = λ v h. record {
    writable = record {
      lawful = record { name = h.writable.lawful.name; tag = h.writable.lawful.tag; lower = h.writable.lawful.lower; upper = h.writable.lawful.upper };
      kept = record { lower = h.writable.kept.lower; upper = h.writable.kept.upper; obj = kept };
    };
    untagged = h.untagged;
  };
}

record Mapped {A B : Type 0} (o : Option A) (f : A → B) (b : B) : Type 0 where
  value : A
  value_is : o ≡ Some value
  is : f value ≡ b

mapped : {A B : Type 0} (o : Option A) (f : A → B) (b : B) → option_map f o ≡ Some b → Mapped o f b
mapped (Some a) f b h = record { value = a; value_is = refl; is = cc }
mapped None f b h = absurd cc

objective_sound : {text : List ℕ} {x : Fraction} {m told : Model} → AddsToObjective text x m told → IsName text → IsKept x → IsSound m → IsSound told
objective_sound {text} {x} {m} {told} a named kept s =
    let sum = sum_kept (objective_of_vars text m.vars) x a.sum (objective_kept text m.vars s.vars) kept a.sum_is in
    let p = mapped (mention text m) (change_var text (λ v. record v { obj = a.sum })) told a.told_is in
    subst IsSound p.is (change_sound text (λ v. record v { obj = a.sum }) p.value (set_keeps a.sum sum) (mention_sound text m p.value_is named s))

constant_sound : (x : Fraction) (m told : Model) → with_constant x m ≡ Some told → IsKept x → IsSound m → IsSound told
constant_sound x m told e kept s =
    let p = mapped (added m.constant x) (λ sum. record m { constant = sum }) told e in
    subst IsSound p.is (record {
      constant = sum_kept m.constant x p.value s.constant kept p.value_is;
      vars = s.vars;
      rows = s.rows;
      var_names = s.var_names;
      row_names = s.row_names;
      var_limit = s.var_limit;
      row_limit = s.row_limit;
      term_limit = s.term_limit;
    })

part_stands : {xs ys : List Seen} {m told : Model} → ObjectivePart xs m ys told → Stands xs m → Stands ys told
part_stands (term x text n a) h =
    let p = behind_term n h.tokens in
    record { tokens = p.behind; model = objective_sound a p.named p.kept h.model }
part_stands {m} {told} (alone x n e) h =
    let p = behind_number n h.tokens in
    record { tokens = p.1; model = constant_sound x m told e p.0 h.model }

more_objective_stands : {xs ys : List Seen} {m told : Model} → MoreObjective xs m ys told → Stands xs m → Stands ys told
more_objective_stands none h = h
more_objective_stands (more _ part rest) h = more_objective_stands rest (part_stands part h)

objective_stands : {xs ys : List Seen} {m told : Model} → ObjectiveParts xs m ys told → Stands xs m → Stands ys told
objective_stands nothing h = h
objective_stands (first part rest) h = more_objective_stands rest (part_stands part h)

-- Rows

name_digits : (ds : List ℕ) → all_ascii_digits ds ≡ true → list_all is_name_byte ds ≡ true
name_digits [] h = refl
name_digits (d ∷ ds) h =
    let p = both_of (is_ascii_digit d) (all_ascii_digits ds) h in
    and_from (is_name_byte d) (list_all is_name_byte ds) (each_digit is_name_byte refl d p.0) (name_digits ds p.1)

-- A row's default name, an R with a number, is a lawful name: no word with a meaning of its own begins with an R.
numbered : (n : ℕ) → n < MAX_ROWS → IsName (codes "R" ++ decimal n)
unfolding is_name
numbered n few =
    let digits = name_digits (decimal n) (decimal_digits n (omega (arith, few))).1 in
    let short : nat_le (length (codes "R" ++ decimal n)) MAX_NAME_LEN ≡ true =
    le-leb (length (codes "R" ++ decimal n)) MAX_NAME_LEN (omega (arith, length-decimal-le 3 n (omega arith) few (omega (arith, few)))) in
    ap₂ (λ (a b : Bool). (a && b) && true) digits short

default_named : (m : Model) → IsTrue (has_room_for_row m) → IsName (default_title m)
default_named m room = numbered (length m.rows) (grind (arith, nat_tests, room))

title_named : {xs ys : List Seen} (title : Option (List ℕ)) (m : Model) → OptionalLabel xs title ys → IsTrue (has_room_for_row m) →
    AreSound xs → IsName (title_or_default title m) × AreSound ys
title_named None m unlabelled room h = (default_named m room, h)
title_named (Some text) m one_token room h = h
title_named (Some text) m two_tokens room h = (h.0, h.1.1)

-- sound tokens, and the row that those before them have told
record StandsInRow (xs : List Seen) (u : Unfinished) : Type 0 where
  tokens : AreSound xs
  row : IsSoundRow u

term_stands : {xs ys : List Seen} {u told : Unfinished} → RowTerm xs u ys told → StandsInRow xs u → StandsInRow ys told
term_stands t h =
    let p = behind_term t.tokens h.tokens in
    record { tokens = p.behind; row = term_sound t.adds p.named p.kept h.row }

more_terms_stand : {xs ys : List Seen} {u told : Unfinished} → MoreTerms xs u ys told → StandsInRow xs u → StandsInRow ys told
more_terms_stand none h = h
more_terms_stand (more _ one rest) h = more_terms_stand rest (term_stands one h)

terms_stand : {xs ys : List Seen} {u told : Unfinished} → RowTerms xs u ys told → StandsInRow xs u → StandsInRow ys told
terms_stand nothing h = h
terms_stand (first one rest) h = more_terms_stand rest (term_stands one h)

row_stands : {xs ys : List Seen} {m told : Model} → SpellsRow xs m ys told → Stands xs m → Stands ys told
row_stands {ys} {m} w h =
    let title = title_named w.title m w.has_label w.may_open.has_room h.tokens in
    let opened : IsSoundRow (new_row (title_or_default w.title m) m) = record {
      model = h.model;
      named = title.0;
      is_new = w.may_open.is_new;
      has_room = w.may_open.has_room;
      terms = no_terms;
      term_limit = omega (arith, h.model.term_limit);
    } in
    let whole = terms_stand w.terms (record { tokens = title.1; row = opened }) in
    let side = behind_number w.has_side whole.tokens.1 in
    record { tokens = side.1; model = subst IsSound w.told_is (close_sound w.sense w.side w.whole side.0 whole.row) }

more_rows_stand : {xs ys : List Seen} {m told : Model} → MoreRows xs m ys told → Stands xs m → Stands ys told
more_rows_stand none h = h
more_rows_stand (more _ row rest) h = more_rows_stand rest (row_stands row h)

rows_stand : {xs ys : List Seen} {m told : Model} → Rows xs m ys told → Stands xs m → Stands ys told
rows_stand nothing h = h
rows_stand (first row rest) h = more_rows_stand rest (row_stands row h)

-- Bounds

bounded : (limit : Limit) → IsSoundLimit limit → IfSome (bound_of limit) IsBelowBoundSize
bounded (limited x) h = h.1
bounded (unlimited negative) h = tt

bound_kept : (limit : Limit) → IsSoundLimit limit → IfSome (bound_of limit) IsKept
bound_kept (limited x) h = h.0
bound_kept (unlimited negative) h = tt

-- other bounds of a variable
between_sound : (v : Var) (lower upper : Option Fraction) → IsSoundVar v → IfSome lower IsBelowBoundSize → IfSome lower IsKept →
    IfSome upper IsBelowBoundSize → IfSome upper IsKept → IsSoundVar (record v { lower = lower; upper = upper })
between_sound v lower upper h below kept above kept_above = record {
  writable = record {
    lawful = record { name = h.writable.lawful.name; tag = h.writable.lawful.tag; lower = below; upper = above };
    kept = record { lower = kept; upper = kept_above; obj = h.writable.kept.obj };
  };
  untagged = h.untagged;
}

bound_keeps : (sense : Sense) (limit : Limit) → IsSoundLimit limit → KeepsSound (with_bound sense limit)
bound_keeps Less limit l = record {
  name = λ v. refl;
  sound = λ v h. between_sound v v.lower (bound_of limit) h h.writable.lawful.lower h.writable.kept.lower (bounded limit l) (bound_kept limit l);
}
bound_keeps Greater limit l = record {
  name = λ v. refl;
  sound = λ v h. between_sound v (bound_of limit) v.upper h (bounded limit l) (bound_kept limit l) h.writable.lawful.upper h.writable.kept.upper;
}
bound_keeps Equal limit l = record {
  name = λ v. refl;
  sound = λ v h. between_sound v (bound_of limit) (bound_of limit) h (bounded limit l) (bound_kept limit l) (bounded limit l) (bound_kept limit l);
}

free_keeps : KeepsSound freed
free_keeps = record { name = λ v. refl; sound = λ v h. between_sound v None None h tt tt tt tt }

left_stands : {xs ys : List Seen} {m told : Model} {sense : Sense} {text : List ℕ} → LeftBound xs m sense text ys told → Stands xs m → Stands ys told
left_stands {m} {sense} {text} w h =
    let p = behind_limit w.has_limit h.tokens in
    let known = mention_sound text m w.known_is p.1.1.0 h.model in
    record {
      tokens = p.1.1.1;
      model = subst IsSound w.told_is (change_sound text (with_bound (turned sense) w.limit) w.known (bound_keeps (turned sense) w.limit p.0) known);
    }

right_stands : {xs ys : List Seen} {m told : Model} {sense : Sense} {text : List ℕ} → RightBound xs m sense text ys told → Stands xs m → Stands ys told
right_stands {m} {sense} {text} w h =
    let p = behind_limit w.has_limit h.tokens in
    record { tokens = p.1; model = subst IsSound w.told_is (change_sound text (with_bound sense w.limit) m (bound_keeps sense w.limit p.0) h.model) }

bound_stands : {xs ys : List Seen} {m told : Model} → Bound xs m ys told → Stands xs m → Stands ys told
bound_stands {m} (free {text} {known} e) h =
    record { tokens = h.tokens.1.1; model = change_sound text freed known free_keeps (mention_sound text m e h.tokens.0 h.model) }
bound_stands {m} (right {text} e w) h = right_stands w (record { tokens = h.tokens.1.1; model = mention_sound text m e h.tokens.0 h.model })
bound_stands (left w) h = left_stands w h
bound_stands (both rising w v) h =
    let p = left_stands w h in
    right_stands v (record { tokens = p.tokens.1; model = p.model })

bound_list_stands : {xs ys : List Seen} {m told : Model} → BoundList xs m ys told → Stands xs m → Stands ys told
bound_list_stands none h = h
bound_list_stands (more one rest) h = bound_list_stands rest (bound_stands one h)

-- Kinds and sections

kind_keeps : (kind : VarKind) → KeepsSound (with_kind kind)
kind_keeps kind = record {
  name = λ v. refl;
  sound = λ v h. record {
    writable = record {
      lawful = record { name = h.writable.lawful.name; tag = h.writable.lawful.tag; lower = h.writable.lawful.lower; upper = h.writable.lawful.upper };
      kept = record { lower = h.writable.kept.lower; upper = h.writable.kept.upper; obj = h.writable.kept.obj };
    };
    untagged = h.untagged;
  };
}

names_stand : {kind : VarKind} {xs ys : List Seen} {m told : Model} → NameList kind xs m ys told → Stands xs m → Stands ys told
names_stand none h = h
names_stand {kind} {m} (more {text} {known} e rest) h =
    names_stand rest (record { tokens = h.tokens.1; model = change_sound text (with_kind kind) known (kind_keeps kind) (mention_sound text m e h.tokens.0 h.model) })

section_stands : {xs ys : List Seen} {m told : Model} → SpellsSection xs m ys told → Stands xs m → Stands ys told
section_stands (bounds list) h = bound_list_stands list (record { tokens = h.tokens.1; model = h.model })
section_stands (general list) h = names_stand list (record { tokens = h.tokens.1; model = h.model })
section_stands (binary list) h = names_stand list (record { tokens = h.tokens.1; model = h.model })

sections_stand : {xs ys : List Seen} {m told : Model} → Sections xs m ys told → Stands xs m → Stands ys told
sections_stand none h = h
sections_stand (more one rest) h = sections_stand rest (section_stands one h)

-- The whole

behind_label : {xs ys : List Seen} {title : Option (List ℕ)} → OptionalLabel xs title ys → AreSound xs → AreSound ys
behind_label unlabelled h = h
behind_label one_token h = h.1
behind_label two_tokens h = h.1.1

behind_constraints : {xs ys : List Seen} → ConstraintsWord xs ys → AreSound xs → AreSound ys
behind_constraints short h = h.1
behind_constraints (subject_to _) h = h.1.1
behind_constraints (such_that _) h = h.1.1

behind_objective_word : {xs ys : List Seen} {direction : _} → ObjectiveWord xs direction ys → AreSound xs → AreSound ys
behind_objective_word minimize h = h.1
behind_objective_word maximize h = h.1

pub spelled_sound : (text : List ℕ) (m : Model) → Spells text m → IsSound m
spelled_sound text m w =
    let begun : Stands w.objective.behind_label (blank w.direction) = record { tokens = behind_label w.objective.has_label (behind_objective_word w.word (text_sound text)); model = blank_sound w.direction } in
    let objective = objective_stands w.objective.parts begun in
    let rest : Stands w.behind_constraints w.with_objective = record { tokens = behind_constraints w.constraints objective.tokens; model = objective.model } in
    (sections_stand w.rest.sections (rows_stand w.rest.rows rest)).model
