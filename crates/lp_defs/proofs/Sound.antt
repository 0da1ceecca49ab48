-- What holds of a model that a part of a text has told: it is lawful, its numbers are in lowest terms and fit, and it has no tags.
use Rattle.std.proofs.Common.{◌≡◌, refl, sym, ◌∙◌, ap, ap₂, subst, ℕ, zero, suc, ◌+◌, ◌<◌, ◌≤◌, Bool, true, false, ◌||◌, IsFalse, List, [], ◌∷◌, ◌++◌, length, map, get_or, nat_lt, Option, Some, None, bytes_eq, arith, if◌then◌else◌, ◌≢◌, length-append}
use Rattle.std.specs.List.{filter_map, list_any}
use Rattle.std.specs.Prelude.{All}
use Rattle.std.proofs.lemmas.Bool.Decides.{nat_tests}
use Rattle.std.proofs.lemmas.List.Elements.{All-head, All-map, All-push, All-tail, All-weaker}
use Rattle.std.proofs.lemmas.List.Quantifiers.{all_pairs_push}
use Rattle.std.proofs.lemmas.Slice.Eq.{bytes_eq-Decides}
use Rattle.std.proofs.lemmas.List.{length-map, map-append}
use Rattle.frac128.specs.Lowest.{IsKept}
use Rattle.frac128.proofs.Kept.{IsKept-zero}
use Rattle.model_data.specs.Kept.{HasKeptNumbers}
use Rattle.model_data.specs.Lawful.{AreDistinct, IsLawful, term_count}
use Rattle.model_data.specs.Names.{IsName}
use Rattle.model_data.specs.declared.limits.TheConstants.{MAX_ROWS, MAX_TERMS, MAX_VARS}
use Rattle.model_data.specs.declared.model.Direction.{Direction}
use Rattle.model_data.specs.declared.model.Model.{Model}
use Rattle.model_data.specs.declared.model.Row.{Row}
use Rattle.model_data.specs.declared.model.Var.{Var}
use Rattle.lp_defs.specs.Draft.{blank, change_var, knows_var, mention, new_var}
use Rattle.lp_defs.proofs.Told.{KeepsName}
use Rattle.lp_defs.proofs.Writable.{IsWritableRow, IsWritableVar}

-- Names that stay distinct

-- neither of two tests that fail together holds
first_fails : (a b : Bool) → IsFalse (a || b) → a ≡ false
first_fails false b h = refl
first_fails true b h = absurd cc

second_fails : (a b : Bool) → IsFalse (a || b) → IsFalse b
second_fails false b h = h
second_fails true b h = absurd cc

-- no name of the list is the text
apart : {X : Type 0} (text : List ℕ) (name : X → List ℕ) (xs : List X) → IsFalse (list_any (λ x. bytes_eq text (name x)) xs) →
    (k : ℕ) (d : List ℕ) → k < length (map name xs) → get_or (map name xs) k d ≢ text
apart text name [] h k d lt = absurd (omega arith)
apart text name (x ∷ xs) h zero d lt = λ e.
    let same : bytes_eq text (name x) ≡ true = (bytes_eq-Decides text (name x)).1 (sym e) in
    let other = first_fails (bytes_eq text (name x)) (list_any (λ x. bytes_eq text (name x)) xs) h in
    let never : true ≡ false = sym same ∙ other in
    cc
apart text name (x ∷ xs) h (suc k) d lt =
    apart text name xs (second_fails (bytes_eq text (name x)) (list_any (λ x. bytes_eq text (name x)) xs) h) k d (omega arith)

-- the names of a list stay distinct where a new one is put at its end
pub still_distinct : {X : Type 0} (name : X → List ℕ) (xs : List X) (x : X) → AreDistinct (map name xs) →
    IsFalse (list_any (λ y. bytes_eq (name x) (name y)) xs) → AreDistinct (map name (xs ++ (x ∷ [])))
still_distinct name xs x h new =
    subst AreDistinct (sym (map-append name xs (x ∷ []))) (all_pairs_push (λ a b. a ≢ b) (map name xs) (name x) h (apart (name x) name xs new))

-- Models

pub record IsSoundVar (v : Var) : Type 0 where
  pub writable : IsWritableVar v
  pub untagged : v.tag ≡ None

pub record IsSound (m : Model) : Type 0 where
  pub constant : IsKept m.constant
  pub vars : All IsSoundVar m.vars
  pub rows : All (IsWritableRow (length m.vars)) m.rows
  pub var_names : AreDistinct (map (λ v. v.name) m.vars)
  pub row_names : AreDistinct (map (λ r. r.name) m.rows)
  pub var_limit : length m.vars ≤ MAX_VARS
  pub row_limit : length m.rows ≤ MAX_ROWS
  pub term_limit : term_count m ≤ MAX_TERMS

no_tags : (vars : List Var) → All IsSoundVar vars → filter_map (λ (v : Var). v.tag) vars ≡ []
no_tags [] all = refl
no_tags (v ∷ vars) all =
    ap (λ (tag : Option (List ℕ)). filter_map (λ (v : Var). v.tag) (record v { tag = tag } ∷ vars)) (All-head IsSoundVar v vars all).untagged
    ∙ no_tags vars (All-tail IsSoundVar v vars all)

pub lawful : (m : Model) → IsSound m → IsLawful m
lawful m h = record {
  vars = λ k d within. (h.vars k d within).writable.lawful;
  rows = λ k d within. (h.rows k d within).lawful;
  var_names = h.var_names;
  row_names = h.row_names;
  tags = subst AreDistinct (sym (no_tags m.vars h.vars)) (λ i j d less within. absurd (omega (arith, within)));
  var_limit = h.var_limit;
  row_limit = h.row_limit;
  term_limit = h.term_limit;
}

pub kept : (m : Model) → IsSound m → HasKeptNumbers m
kept m h = record {
  constant = h.constant;
  vars = λ k d within. (h.vars k d within).writable.kept;
  rows = λ k d within. (h.rows k d within).kept;
}

pub blank_sound : (direction : Direction) → IsSound (blank direction)
blank_sound direction = record {
  constant = IsKept-zero;
  vars = λ k d within. absurd (omega (arith, within));
  rows = λ k d within. absurd (omega (arith, within));
  var_names = λ i j d h k. absurd (omega arith);
  row_names = λ i j d h k. absurd (omega arith);
  var_limit = omega arith;
  row_limit = omega arith;
  term_limit = omega arith;
}

-- Mentions

new_sound : (text : List ℕ) → IsName text → IsSoundVar (new_var text)
new_sound text named = record {
  writable = record {
    lawful = record { name = named; tag = tt; lower = omega arith; upper = tt };
    kept = record { lower = IsKept-zero; upper = tt; obj = IsKept-zero };
  };
  untagged = refl;
}

-- A row stays lawful where variables come behind those that it speaks of.
row_later : (n k : ℕ) (r : Row) → n ≤ k → IsWritableRow n r → IsWritableRow k r
row_later n k r more h = record {
  lawful = record {
    name = h.lawful.name;
    places = λ i d within. omega (arith, more, h.lawful.places i d within);
    rising = h.lawful.rising;
    not_zero = h.lawful.not_zero;
  };
  kept = h.kept;
}

mention_by : (text : List ℕ) (m k : Model) (known room : Bool) → known ≡ knows_var text m → room ≡ nat_lt (length m.vars) MAX_VARS → IsName text →
    (if (known || room) then Some (if known then m else record m { vars = m.vars ++ (new_var text ∷ []) }) else None) ≡ Some k → IsSound m → IsSound k
mention_by text m k true room e f named h s =
    let same : m ≡ k = (let g : Some m ≡ Some k = h in cc) in
    subst IsSound same s
mention_by text m k false false e f named h s = absurd cc
mention_by text m k false true e f named h s =
    let more : Model = record m { vars = m.vars ++ (new_var text ∷ []) } in
    let few : length m.vars < MAX_VARS = (let g : nat_lt (length m.vars) MAX_VARS ≡ true = sym f in grind (arith, nat_tests, g)) in
    let count : length more.vars ≡ length m.vars + 1 = length-append m.vars (new_var text ∷ []) in
    let same : more ≡ k = (let g : Some more ≡ Some k = h in cc) in
    subst IsSound same (record {
      constant = s.constant;
      vars = All-push IsSoundVar m.vars (new_var text) s.vars (new_sound text named);
      rows = All-weaker (IsWritableRow (length m.vars)) (IsWritableRow (length more.vars))
          (λ r h. row_later (length m.vars) (length more.vars) r (omega (arith, count)) h) m.rows s.rows;
      var_names = still_distinct (λ v. v.name) m.vars (new_var text) s.var_names (sym e);
      row_names = s.row_names;
      var_limit = omega (arith, few, count);
      row_limit = s.row_limit;
      term_limit = s.term_limit;
    })

pub mention_sound : (text : List ℕ) (m : Model) {k : Model} → mention text m ≡ Some k → IsName text → IsSound m → IsSound k
mention_sound text m {k} h named s = mention_by text m k (knows_var text m) (nat_lt (length m.vars) MAX_VARS) refl refl named h s

-- Changes of a variable

-- a change that leaves a variable sound
pub record KeepsSound (change : Var → Var) : Type 0 where
  pub name : KeepsName change
  pub sound : (v : Var) → IsSoundVar v → IsSoundVar (change v)

changed_names : (text : List ℕ) (f : Var → Var) (vars : List Var) → KeepsName f →
    map (λ v. v.name) (map (λ v. if bytes_eq text v.name then f v else v) vars) ≡ map (λ v. v.name) vars
changed_names text f [] keeps = refl
changed_names text f (v ∷ vars) keeps = head (bytes_eq text v.name) (changed_names text f vars keeps) where
  head : (b : Bool) → map (λ v. v.name) (map (λ v. if bytes_eq text v.name then f v else v) vars) ≡ map (λ v. v.name) vars →
      ((if b then f v else v).name ∷ map (λ v. v.name) (map (λ v. if bytes_eq text v.name then f v else v) vars)) ≡ v.name ∷ map (λ v. v.name) vars
  head true same = ap₂ (λ a (rest : List (List ℕ)). a ∷ rest) (keeps v) same
  head false same = ap (λ rest. v.name ∷ rest) same

either_sound : (b : Bool) (f : Var → Var) (v : Var) → KeepsSound f → IsSoundVar v → IsSoundVar (if b then f v else v)
either_sound true f v keeps h = keeps.sound v h
either_sound false f v keeps h = h

pub change_sound : (text : List ℕ) (f : Var → Var) (m : Model) → KeepsSound f → IsSound m → IsSound (change_var text f m)
change_sound text f m keeps s =
    let change : Var → Var = λ v. if bytes_eq text v.name then f v else v in
    let count : length (map change m.vars) ≡ length m.vars = length-map m.vars change in
    record {
      constant = s.constant;
      vars = All-map IsSoundVar change m.vars (All-weaker IsSoundVar (λ v. IsSoundVar (change v)) (λ v. either_sound (bytes_eq text v.name) f v keeps) m.vars s.vars);
      rows = subst (λ n. All (IsWritableRow n) m.rows) (sym count) s.rows;
      var_names = subst AreDistinct (sym (changed_names text f m.vars keeps.name)) s.var_names;
      row_names = s.row_names;
      var_limit = omega (arith, count, s.var_limit);
      row_limit = s.row_limit;
      term_limit = s.term_limit;
    }
