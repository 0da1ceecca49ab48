-- The symbols of written sections spell them.
use Rattle.std.proofs.Common.{◌≡◌, refl, sym, ◌∙◌, ap, ap₂, subst, ℕ, ◌*◌, Bool, true, false, List, [], ◌∷◌, ◌++◌, map, append_assoc, append-nil, Option, Some, None, unsigned_abs}
use Rattle.std.specs.List.{flat_map}
use Rattle.std.specs.Prelude.{IfSome, bytes_eq, if◌then◌else◌}
use Rattle.std.proofs.lemmas.Bool.{lt-leb}
use Rattle.std.proofs.lemmas.List.{map-append}
use Rattle.frac128.specs.Fraction.{Fraction, den, zero_value}
use Rattle.frac128.specs.Lowest.{IsKept}
use Rattle.frac128.specs.Numbers.{is_below_zero}
use Rattle.model_data.specs.Lawful.{IsBelowBoundSize}
use Rattle.model_data.specs.declared.limits.TheConstants.{BOUND_SIZE}
use Rattle.model_data.specs.declared.model.Direction.{Direction}
use Rattle.model_data.specs.declared.model.Model.{Model}
use Rattle.model_data.specs.declared.model.Row.{Row}
use Rattle.model_data.specs.declared.model.Sense.TheVariants.{Less, Greater, Equal}
use Rattle.model_data.specs.declared.model.Var.{Var}
use Rattle.model_data.specs.declared.model.VarKind.{VarKind}
use Rattle.lp_defs.specs.Canonical.{is_same, is_same_kind, is_zero}
use Rattle.lp_defs.specs.Draft.{change_var, freed, mention, with_kind}
use Rattle.lp_defs.specs.Grammar.{Bound, BoundList, LimitAmount, NameList, both, free, more, none, right, unsigned, upward}
use Rattle.lp_defs.specs.Quantity.{limit_of, limited, unlimited, with_bound}
use Rattle.lp_defs.specs.Symbols.{Seen, Spot, Symbol, comparison, finite, infinite, name, number}
use Rattle.lp_defs.proofs.KeptNumbers.{same_is, zero_is}
use Rattle.lp_defs.proofs.Lists.{All-middle}
use Rattle.lp_defs.proofs.Named.{alone, same_text}
use Rattle.lp_defs.proofs.Sight.{tokens}
use Rattle.lp_defs.proofs.Takes.{GoesOn, Takes, each_goes_on, flat, flat-flat_map, past}
use Rattle.lp_defs.proofs.Told.{KeepsName, change_one, knows, knows_map, knows_one, mention_known, told}
use Rattle.lp_defs.proofs.Writable.{AreWritableVars, IsWritableVar}
use Rattle.lp_defs.proofs.WrittenLines.{bound_entries, bound_entries_of, kind_entries, number_symbol}
use Rattle.lp_defs.proofs.WrittenObjective.{fresh}

-- Limits

not_far : (x : Fraction) → IsBelowBoundSize x → limit_of (finite x) ≡ Some (limited x)
not_far x h = ap (λ b. Some (if b then unlimited (is_below_zero x.num) else limited x)) (lt-leb (BOUND_SIZE * den x) (unsigned_abs x.num) h)

limit_number : (spots : ℕ → Spot) (x : Fraction) (rest : List Symbol) → IsBelowBoundSize x →
    LimitAmount (tokens spots (number_symbol x ∷ rest)) (limited x) (tokens (past 1 spots) rest)
limit_number spots x rest h = record {
  quantity = finite x;
  amount = record { negative = false; spot = spots 0; has_sign = is_below_zero x.num; written = finite x; tokens = unsigned; value = refl };
  value = not_far x h;
}

limit_infinity : (spots : ℕ → Spot) (rest : List Symbol) →
    LimitAmount (tokens spots (number true (infinite true) ∷ rest)) (unlimited true) (tokens (past 1 spots) rest)
limit_infinity spots rest = record {
  quantity = infinite true;
  amount = record { negative = false; spot = spots 0; has_sign = true; written = infinite true; tokens = unsigned; value = refl };
  value = refl;
}

-- with such bounds
abbrev pub between : Var → Option Fraction → Option Fraction → Var
between v lower upper = record v { lower = lower; upper = upper }

-- One variable's lines

module _ (d : Direction) (c : Fraction) (rows : List Row) (front back : List Var) (v : Var)
    (before : knows v.name front ≡ false) (behind : knows v.name back ≡ false) where
  -- the model with w in the variable's place
  state : Var → Model
  state w = told d c (front ++ w ∷ back) rows

  changed : (change : Var → Var) (w : Var) → v.name ≡ w.name → change_var v.name change (state w) ≡ state (change w)
  unfolding state
  changed change w e =
      ap (λ vars. told d c vars rows) (change_one v.name change front w back before (ap (bytes_eq v.name) (sym e) ∙ same_text v.name) behind)

  known : (w : Var) → v.name ≡ w.name → mention v.name (state w) ≡ Some (state w)
  unfolding state
  known w e = mention_known v.name (state w) (knows_one v.name front w back (ap (bytes_eq v.name) (sym e) ∙ same_text v.name))

  -- what is asked of the bounds of the variable
  record AreBounds (lower upper : Option Fraction) : Type 0 where
    lower_kept : IfSome lower IsKept
    upper_kept : IfSome upper IsKept
    lower_near : IfSome lower IsBelowBoundSize
    upper_near : IfSome upper IsBelowBoundSize

  -- the variable as it was mentioned
  record IsFresh (w : Var) : Type 0 where
    named : v.name ≡ w.name
    lower : w.lower ≡ Some zero_value
    upper : w.upper ≡ None

  bound_goes_on : (w : Var) → IsFresh w → (lower upper : Option Fraction) → AreBounds lower upper →
      GoesOn BoundList (flat (bound_entries_of v.name lower upper)) (state w) (state (between w lower upper))
  unfolding state
  bound_goes_on w is None None bounds = λ symbols _ whole next spots.
      let left = next (past 2 spots) in
      let own = subst (λ m. Bound (tokens spots (flat (bound_entries_of v.name None None) ++ symbols)) (state w) (tokens (past 2 spots) symbols) m)
      (changed freed w is.named) (free (known w is.named)) in
      (left.0, more own left.1)
  bound_goes_on w is None (Some upper) bounds = λ symbols _ whole next spots.
      let left = next (past 5 spots) in
      let middle = with_bound Greater (unlimited true) w in (
        left.0,
        more (both upward
            (record {
              limit = unlimited true;
              sense_spot = spots 1;
              name_spot = spots 2;
              has_limit = limit_infinity spots (comparison Less ∷ name v.name ∷ comparison Less ∷ number_symbol upper ∷ symbols);
              fits = refl;
              known = state w;
              known_is = known w is.named;
              told_is = changed (with_bound Greater (unlimited true)) w is.named;
            })
            (record {
              limit = limited upper;
              has_limit = limit_number (past 4 spots) upper symbols bounds.upper_near;
              fits = refl;
              told_is = changed (with_bound Less (limited upper)) middle is.named;
            })) left.1,
      )
  bound_goes_on w is (Some lower) None bounds = by_test (is_zero lower) refl
    where
      by_test : (t : Bool) → is_zero lower ≡ t →
          GoesOn BoundList (flat (if t then [] else (name v.name ∷ comparison Greater ∷ number_symbol lower ∷ []) ∷ [])) (state w)
          (state (between w (Some lower) None))
      by_test true z = λ symbols behind whole next.
          let own : Some lower ≡ w.lower = ap Some (zero_is lower bounds.lower_kept z) ∙ sym is.lower in
          let same : between w (Some lower) None ≡ w = ap₂ (λ (lower upper : Option Fraction). between w lower upper) own (sym is.upper) in
          subst (λ w. Takes BoundList symbols (state w) behind whole) same next
      by_test false z = λ symbols behind whole next spots.
          let left = next (past 3 spots) in
          let same : between w (Some lower) None ≡ with_bound Greater (limited lower) w = ap (between w (Some lower)) (sym is.upper) in (
            left.0,
            more (right (known w is.named) (record {
              limit = limited lower;
              has_limit = limit_number (past 2 spots) lower symbols bounds.lower_near;
              fits = refl;
              told_is = changed (with_bound Greater (limited lower)) w is.named ∙ ap state (sym same);
            })) left.1,
          )
  bound_goes_on w is (Some lower) (Some upper) bounds = by_test (is_same lower upper) refl
    where
      by_test : (t : Bool) → is_same lower upper ≡ t →
          GoesOn BoundList (flat ((if t then name v.name ∷ comparison Equal ∷ number_symbol lower ∷ []
          else number_symbol lower ∷ comparison Less ∷ name v.name ∷ comparison Less ∷ number_symbol upper ∷ []) ∷ [])) (state w)
          (state (between w (Some lower) (Some upper)))
      by_test true z = λ symbols behind whole next spots.
          let left = next (past 3 spots) in
          let same : with_bound Equal (limited lower) w ≡ between w (Some lower) (Some upper) =
          ap (λ x. between w (Some lower) (Some x)) (same_is lower upper z) in (
            left.0,
            more (right (known w is.named) (record {
              limit = limited lower;
              has_limit = limit_number (past 2 spots) lower symbols bounds.lower_near;
              fits = refl;
              told_is = changed (with_bound Equal (limited lower)) w is.named ∙ ap state same;
            })) left.1,
          )
      by_test false z = λ symbols behind whole next spots.
          let left = next (past 5 spots) in
          let middle = with_bound Greater (limited lower) w in
          let behind_lower : List Symbol = comparison Less ∷ name v.name ∷ comparison Less ∷ number_symbol upper ∷ symbols in (
            left.0,
            more (both upward
                (record {
                  limit = limited lower;
                  sense_spot = spots 1;
                  name_spot = spots 2;
                  has_limit = limit_number spots lower behind_lower bounds.lower_near;
                  fits = refl;
                  known = state w;
                  known_is = known w is.named;
                  told_is = changed (with_bound Greater (limited lower)) w is.named;
                })
                (record {
                  limit = limited upper;
                  has_limit = limit_number (past 4 spots) upper symbols bounds.upper_near;
                  fits = refl;
                  told_is = changed (with_bound Less (limited upper)) middle is.named;
                })) left.1,
          )

  kind_goes_on : (kind : VarKind) (w : Var) → v.name ≡ w.name →
      GoesOn (NameList kind) (flat (kind_entries kind v)) (state w) (state (if is_same_kind v.kind kind then with_kind kind w else w))
  unfolding state
  kind_goes_on kind w e = by_test (is_same_kind v.kind kind)
    where
      by_test : (t : Bool) →
          GoesOn (NameList kind) (flat (if t then (name v.name ∷ []) ∷ [] else [])) (state w) (state (if t then with_kind kind w else w))
      by_test true = λ symbols behind whole next spots.
          let left = next (past 1 spots) in
          let others = subst (λ m. NameList kind (tokens (past 1 spots) symbols) m (tokens left.0 behind) whole) (sym (changed (with_kind kind) w e)) left.1 in
          (left.0, more (known w e) others)
      by_test false = λ symbols behind whole next. next

-- The lines of all variables

-- a change of each variable, by lines of its own
record IsByLines (P : List Seen → Model → List Seen → Model → Type 0) (lines : Var → List (List Symbol)) (f g : Var → Var) : Type 0 where
  from_keeps : KeepsName f
  to_keeps : KeepsName g
  goes_on : (d : Direction) (c : Fraction) (rows : List Row) (front back : List Var) (v : Var) →
      knows v.name front ≡ false → knows v.name back ≡ false → IsWritableVar v →
      GoesOn P (flat (lines v)) (told d c (front ++ f v ∷ back) rows) (told d c (front ++ g v ∷ back) rows)

all_go_on : (P : List Seen → Model → List Seen → Model → Type 0) (lines : Var → List (List Symbol)) (f g : Var → Var) → IsByLines P lines f g →
    (d : Direction) (c : Fraction) (rows : List Row) (vars : List Var) → AreWritableVars vars →
    GoesOn P (flat (flat_map lines vars)) (told d c (map f vars) rows) (told d c (map g vars) rows)
all_go_on P lines f g by d c rows vars good =
    let all = each_goes_on P (λ (v : Var). flat (lines v)) between_changes AreWritableVars one vars good in
    subst (λ s. GoesOn P s (told d c (map f vars) rows) (told d c (map g vars) rows)) (sym (flat-flat_map lines vars))
    (subst (λ vs. GoesOn P (flat (map (λ v. flat (lines v)) vars)) (told d c (map f vars) rows) (told d c vs rows)) (append-nil (map g vars)) all)
  where
    between_changes : List Var → List Var → Model
    between_changes front rest = told d c (map g front ++ map f rest) rows

    one : (front : List Var) (v : Var) (rest : List Var) → AreWritableVars (front ++ v ∷ rest) →
        GoesOn P (flat (lines v)) (between_changes front (v ∷ rest)) (between_changes (front ++ v ∷ []) rest)
    one front v rest good =
        let others = alone (λ (v : Var). v.name) front v rest good.distinct in
        let is = ap (λ vs. vs ++ map f rest) (map-append g front (v ∷ [])) ∙ append_assoc (map g front) (g v ∷ []) (map f rest) in
        subst (λ vs. GoesOn P (flat (lines v)) (told d c (map g front ++ f v ∷ map f rest) rows) (told d c vs rows)) (sym is)
        (by.goes_on d c rows (map g front) (map f rest) v
        (knows_map g by.to_keeps v.name front ∙ others.before) (knows_map f by.from_keeps v.name rest ∙ others.behind)
        (All-middle IsWritableVar front v rest good.each))

-- with its own bounds
abbrev pub bounded : Var → Var
bounded v = between (fresh v) v.lower v.upper

pub bounds_taken : (d : Direction) (c : Fraction) (rows : List Row) (vars : List Var) → AreWritableVars vars → (rest : List Symbol) →
    Takes BoundList (flat (flat_map bound_entries vars) ++ rest) (told d c (map fresh vars) rows) rest (told d c (map bounded vars) rows)
unfolding state
bounds_taken d c rows vars good rest =
    all_go_on BoundList bound_entries fresh bounded by d c rows vars good rest rest (told d c (map bounded vars) rows) (λ spots. (spots, none))
  where
    by : IsByLines BoundList bound_entries fresh bounded
    by = record {
      from_keeps = λ v. refl;
      to_keeps = λ v. refl;
      goes_on = λ d c rows front back v before behind good.
          bound_goes_on d c rows front back v before behind (fresh v) (record { named = refl; lower = refl; upper = refl }) v.lower v.upper (record {
            lower_kept = good.kept.lower;
            upper_kept = good.kept.upper;
            lower_near = good.lawful.lower;
            upper_near = good.lawful.upper;
          });
    }

-- of the kind where the variable is to be
abbrev pub with_kind_of : VarKind → (Var → Var) → Var → Var
with_kind_of kind change v = if is_same_kind v.kind kind then with_kind kind (change v) else change v

pub kind_of_keeps : (kind : VarKind) (change : Var → Var) → KeepsName change → KeepsName (with_kind_of kind change)
kind_of_keeps kind change keeps v = by_test (is_same_kind v.kind kind)
  where
    by_test : (t : Bool) → (if t then with_kind kind (change v) else change v).name ≡ v.name
    by_test true = keeps v
    by_test false = keeps v

pub kinds_taken : (kind : VarKind) (change : Var → Var) → KeepsName change → (d : Direction) (c : Fraction) (rows : List Row) (vars : List Var) →
    AreWritableVars vars → (rest : List Symbol) →
    Takes (NameList kind) (flat (flat_map (kind_entries kind) vars) ++ rest) (told d c (map change vars) rows) rest
    (told d c (map (with_kind_of kind change) vars) rows)
unfolding state
kinds_taken kind change keeps d c rows vars good rest =
    all_go_on (NameList kind) (kind_entries kind) change (with_kind_of kind change) by d c rows vars good rest rest
    (told d c (map (with_kind_of kind change) vars) rows) (λ spots. (spots, none))
  where
    by : IsByLines (NameList kind) (kind_entries kind) change (with_kind_of kind change)
    by = record {
      from_keeps = keeps;
      to_keeps = kind_of_keeps kind change keeps;
      goes_on = λ d c rows front back v before behind good. kind_goes_on d c rows front back v before behind kind (change v) (sym (keeps v));
    }
