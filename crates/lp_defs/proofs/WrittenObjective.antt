-- The symbols of a written objective spell it.
use Rattle.std.proofs.Common.{◌≡◌, refl, sym, ◌∙◌, ap, subst, ℕ, ◌<◌, Bool, true, false, List, [], ◌∷◌, ◌++◌, map, length, length-append, arith, Some}
use Rattle.std.specs.Prelude.{if◌then◌else◌, option_map}
use Rattle.std.proofs.lemmas.List.{length-map, map-append}
use Rattle.frac128.specs.Fraction.{Fraction, zero_value}
use Rattle.frac128.specs.Lowest.{IsKept}
use Rattle.frac128.specs.Numbers.{is_below_zero}
use Rattle.model_data.specs.declared.limits.TheConstants.{MAX_VARS}
use Rattle.model_data.specs.declared.model.Direction.{Direction}
use Rattle.model_data.specs.declared.model.Model.{Model}
use Rattle.model_data.specs.declared.model.Var.{Var}
use Rattle.lp_defs.specs.Canonical.{is_zero}
use Rattle.lp_defs.specs.Draft.{change_var, new_var}
use Rattle.lp_defs.specs.Grammar.{AddsToObjective, FiniteAmount, MoreObjective, more, none, NamedTerm, ObjectiveParts, alone as number_alone, first, nothing, scaled, signed, term, unsigned}
use Rattle.lp_defs.specs.Quantity.{added}
use Rattle.lp_defs.specs.Symbols.{Seen, Spot, Symbol, finite}
use Rattle.lp_defs.proofs.KeptNumbers.{added_zero, zero_is}
use Rattle.lp_defs.proofs.Lists.{All-middle}
use Rattle.lp_defs.proofs.Named.{alone, same_text}
use Rattle.lp_defs.proofs.Sight.{tokens}
use Rattle.lp_defs.proofs.Takes.{GoesOn, Takes, each_goes_on, flat, flat-append, past}
use Rattle.lp_defs.proofs.Told.{change_one, knows, knows_map, mention_new, objective_of_none, told}
use Rattle.lp_defs.proofs.Writable.{AreWritableVars, IsWritableVar}
use Rattle.lp_defs.proofs.WrittenLines.{constant_entries, number_symbol, signed_symbols, term_symbols}
use Rattle.lp_defs.proofs.WrittenNumbers.{signed_back, size_of}

-- a variable of which the objective has told
abbrev pub fresh : Var → Var
fresh v = record (new_var v.name) { obj = v.obj }

-- Amounts

finite_signed : (spots : ℕ → Spot) (x : Fraction) (rest : List Symbol) →
    FiniteAmount (tokens spots (signed_symbols x ++ rest)) x (tokens (past 2 spots) rest)
finite_signed spots x rest = record {
  quantity = finite x;
  amount = record {
    negative = is_below_zero x.num;
    spot = spots 1;
    has_sign = false;
    written = finite (size_of x);
    tokens = signed;
    value = signed_back x;
  };
  value = refl;
}

pub finite_number : (spots : ℕ → Spot) (x : Fraction) (rest : List Symbol) →
    FiniteAmount (tokens spots (number_symbol x ∷ rest)) x (tokens (past 1 spots) rest)
finite_number spots x rest = record {
  quantity = finite x;
  amount = record { negative = false; spot = spots 0; has_sign = is_below_zero x.num; written = finite x; tokens = unsigned; value = refl };
  value = refl;
}

pub named_term : (spots : ℕ → Spot) (x : Fraction) (text : List ℕ) (rest : List Symbol) →
    NamedTerm (tokens spots (term_symbols x text ++ rest)) x text (tokens (past 3 spots) rest)
named_term spots x text rest = scaled (record {
  quantity = finite x;
  amount = record {
    negative = is_below_zero x.num;
    spot = spots 1;
    has_sign = false;
    written = finite (size_of x);
    tokens = signed;
    value = signed_back x;
  };
  value = refl;
})

-- Terms

-- the objective so far
so_far : Direction → List Var → Model
so_far d front = told d zero_value (map fresh front) []

adds : (d : Direction) (vars : List Var) (v : Var) → knows v.name vars ≡ false → length vars < MAX_VARS → IsKept v.obj →
    AddsToObjective v.name v.obj (told d zero_value vars []) (told d zero_value (vars ++ fresh v ∷ []) [])
adds d vars v unknown room kept =
    let change : Var → Var = λ u. record u { obj = v.obj } in
    record {
      sum = v.obj;
      sum_is = ap (λ before. added before v.obj) (objective_of_none v.name vars unknown) ∙ added_zero v.obj kept;
      told_is =
          ap (option_map (change_var v.name change)) (mention_new v.name (told d zero_value vars []) unknown room)
          ∙ ap (λ vars. Some (told d zero_value vars [])) (change_one v.name change vars (new_var v.name) [] unknown (same_text v.name) refl);
    }

term_goes_on : (d : Direction) (front : List Var) (v : Var) (rest : List Var) → AreWritableVars (front ++ v ∷ rest) →
    GoesOn MoreObjective (term_symbols v.obj v.name) (so_far d front) (so_far d (front ++ v ∷ []))
unfolding so_far
term_goes_on d front v rest good = λ symbols behind whole next spots.
    let own = All-middle IsWritableVar front v rest good.each in
    let others = alone (λ (v : Var). v.name) front v rest good.distinct in
    let unknown : knows v.name (map fresh front) ≡ false = knows_map fresh (λ u. refl) v.name front ∙ others.before in
    let few = good.few in
    let room : length (map fresh front) < MAX_VARS = omega (arith, few, length-append front (v ∷ rest), length-map front fresh) in
    let adding = subst (λ vars. AddsToObjective v.name v.obj (told d zero_value (map fresh front) []) (told d zero_value vars []))
    (sym (map-append fresh front (v ∷ []))) (adds d (map fresh front) v unknown room own.kept.obj) in
    let left = next (past 3 spots) in
    (left.0, more refl (term v.obj v.name (named_term spots v.obj v.name symbols) adding) left.1)

-- The whole

constant_taken : (d : Direction) (k : Fraction) (vars : List Var) (rest : List Symbol) → IsKept k →
    Takes MoreObjective (flat (constant_entries k) ++ rest) (told d zero_value vars []) rest (told d k vars [])
constant_taken d k vars rest kept = by_test (is_zero k) refl
  where
    by_test : (b : Bool) → is_zero k ≡ b →
        Takes MoreObjective (flat (if b then [] else signed_symbols k ∷ []) ++ rest) (told d zero_value vars []) rest (told d k vars [])
    by_test true e =
        subst (λ c. Takes MoreObjective rest (told d zero_value vars []) rest (told d c vars [])) (sym (zero_is k kept e)) (λ spots. (spots, none))
    by_test false e = λ spots.
        let adding = ap (option_map (λ sum. told d sum vars [])) (added_zero k kept) in
        (past 2 spots, more refl (number_alone k (finite_signed spots k rest) adding) none)

parts_of_more : {xs ys : List Seen} {m whole : Model} → MoreObjective xs m ys whole → ObjectiveParts xs m ys whole
parts_of_more none = nothing
parts_of_more (more sign part rest) = first part rest

pub objective_taken : (d : Direction) (k : Fraction) (vars : List Var) (rest : List Symbol) → AreWritableVars vars → IsKept k →
    Takes ObjectiveParts (flat (map (λ v. term_symbols v.obj v.name) vars ++ constant_entries k) ++ rest) (told d zero_value [] []) rest
    (told d k (map fresh vars) [])
unfolding so_far
objective_taken d k vars rest good kept =
    let own = λ (v : Var). term_symbols v.obj v.name in
    let whole : Model = told d k (map fresh vars) [] in
    let all = each_goes_on MoreObjective own (λ front rest. so_far d front) AreWritableVars (term_goes_on d) vars good in
    let behind = constant_taken d k (map fresh vars) rest kept in
    subst (λ s. Takes ObjectiveParts s (told d zero_value [] []) rest whole) (sym (flat-append (map own vars) (constant_entries k) rest))
    (λ spots. let left = all (flat (constant_entries k) ++ rest) rest whole behind spots in (left.0, parts_of_more left.1))
