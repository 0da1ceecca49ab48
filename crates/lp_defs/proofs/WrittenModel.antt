-- The text that is written for a model spells it.
use Rattle.std.proofs.Common.{◌≡◌, refl, sym, ◌∙◌, ap, ap₂, subst, ℕ, Bool, true, false, List, [], ◌∷◌, ◌++◌, map, append_assoc, append-nil, codes, Option, Some, None}
use Rattle.std.specs.List.{flat_map}
use Rattle.std.specs.Prelude.{All, IfSome, if◌then◌else◌}
use Rattle.std.proofs.lemmas.List.Elements.{All-head, All-tail}
use Rattle.frac128.specs.Fraction.{Fraction}
use Rattle.frac128.specs.Lowest.{IsKept}
use Rattle.model_data.specs.Lawful.{IsLawful}
use Rattle.model_data.specs.declared.model.Direction.{Direction}
use Rattle.model_data.specs.declared.model.Direction.TheVariants.{Minimize, Maximize}
use Rattle.model_data.specs.declared.model.Model.{Model}
use Rattle.model_data.specs.declared.model.Sense.TheVariants.{Greater}
use Rattle.model_data.specs.declared.model.Var.{Var}
use Rattle.model_data.specs.declared.model.VarKind.{VarKind}
use Rattle.model_data.specs.declared.model.VarKind.TheVariants.{Continuous, Integer, Binary}
use Rattle.lp_defs.specs.declared.token.SectionWord.{SectionWord}
use Rattle.lp_defs.specs.declared.token.SectionWord.TheVariants.{Binary as binary_word, Bounds, End, General, Subject}
use Rattle.lp_defs.specs.Canonical.{canonical_text, is_same_kind, is_zero, untagged, untagged_var}
use Rattle.lp_defs.specs.Draft.{with_kind}
use Rattle.lp_defs.specs.Grammar.{ObjectiveWord, Sections, SpellsModel, SpellsSection, binary, bounds, general, maximize, minimize, more, none, subject_to, unlabelled}
use Rattle.model_data.specs.Kept.{HasKeptNumbers}
use Rattle.lp_defs.specs.Symbols.{Spot, Symbol, keyword, name, comparison}
use Rattle.lp_defs.specs.Text.{Spells}
use Rattle.lp_defs.specs.Tokens.{first_place}
use Rattle.lp_defs.proofs.KeptNumbers.{zero_is}
use Rattle.lp_defs.proofs.Sight.{shown, tokens, Shown}
use Rattle.lp_defs.proofs.Takes.{GoesOn, Takes, flat, flat-append, past}
use Rattle.lp_defs.proofs.Told.{KeepsName, told}
use Rattle.lp_defs.proofs.Writable.{AreWritableVars, IsWritableVar, writable_rows, writable_vars}
use Rattle.lp_defs.proofs.WrittenLines.{bound_entries, bound_entries_of, canonical_entries, direction_word, kind_entries, number_symbol, objective_entries, row_entry, section_entries}
use Rattle.lp_defs.proofs.WrittenObjective.{fresh, objective_taken}
use Rattle.lp_defs.proofs.WrittenRows.{rows_taken}
use Rattle.lp_defs.proofs.WrittenSections.{between, bounded, bounds_taken, kind_of_keeps, kinds_taken, with_kind_of}
use Rattle.lp_defs.proofs.WrittenText.{text_read}

-- Sections that aren't there

no_front : {X : Type 0} (a b : List X) → a ++ b ≡ [] → (a ≡ []) × (b ≡ [])
no_front [] b e = (refl, e)
no_front (x ∷ a) b e = absurd cc

no_bound : (v : Var) (lower upper : Option Fraction) → IfSome lower IsKept → bound_entries_of v.name lower upper ≡ [] →
    fresh v ≡ between (fresh v) lower upper
no_bound v None None kept e = absurd cc
no_bound v None (Some upper) kept e = absurd cc
no_bound v (Some lower) (Some upper) kept e = absurd cc
no_bound v (Some lower) None kept e = by_test (is_zero lower) refl e
  where
    by_test : (b : Bool) → is_zero lower ≡ b → (if b then [] else (name v.name ∷ comparison Greater ∷ number_symbol lower ∷ []) ∷ []) ≡ [] →
        fresh v ≡ between (fresh v) (Some lower) None
    by_test true z e = ap (λ x. between (fresh v) (Some x) None) (sym (zero_is lower kept z))
    by_test false z e = absurd cc

no_bounds : (vars : List Var) → All IsWritableVar vars → flat_map bound_entries vars ≡ [] → map fresh vars ≡ map bounded vars
no_bounds [] all e = refl
no_bounds (v ∷ vars) all e =
    let p = no_front (bound_entries v) (flat_map bound_entries vars) e in
    ap₂ (λ (v : Var) (vars : List Var). v ∷ vars) (no_bound v v.lower v.upper (All-head IsWritableVar v vars all).kept.lower p.0)
    (no_bounds vars (All-tail IsWritableVar v vars all) p.1)

no_kinds : (kind : VarKind) (change : Var → Var) (vars : List Var) → flat_map (kind_entries kind) vars ≡ [] →
    map change vars ≡ map (with_kind_of kind change) vars
no_kinds kind change [] e = refl
no_kinds kind change (v ∷ vars) e =
    let p = no_front (kind_entries kind v) (flat_map (kind_entries kind) vars) e in
    ap₂ (λ (v : Var) (vars : List Var). v ∷ vars) (by_test (is_same_kind v.kind kind) p.0) (no_kinds kind change vars p.1)
  where
    by_test : (b : Bool) → (if b then (name v.name ∷ []) ∷ [] else []) ≡ [] → change v ≡ (if b then with_kind kind (change v) else change v)
    by_test true e = absurd cc
    by_test false e = refl

section_goes_on : (word : SectionWord) (entries : List (List Symbol)) (m n : Model) → (entries ≡ [] → m ≡ n) →
    ((rest : List Symbol) → Takes SpellsSection (keyword word ∷ (flat entries ++ rest)) m rest n) →
    GoesOn Sections (flat (section_entries word entries)) m n
section_goes_on word [] m n same here = λ symbols behind whole next.
    subst (λ m. Takes Sections symbols m behind whole) (sym (same refl)) next
section_goes_on word (entry ∷ entries) m n same here = λ symbols behind whole next spots.
    let one = here symbols spots in
    let left = next one.0 in
    (left.0, more one.1 left.1)

-- The sections

kinded : Var → Var
kinded v = with_kind_of Binary (with_kind_of Integer bounded) v

kinded_is : (v : Var) → kinded v ≡ untagged_var v
unfolding kinded
kinded_is v = by_kind v.kind
  where
    by_kind : (kind : VarKind) →
        (if is_same_kind kind Binary then with_kind Binary (if is_same_kind kind Integer then with_kind Integer (bounded v) else bounded v)
        else (if is_same_kind kind Integer then with_kind Integer (bounded v) else bounded v))
        ≡ record (untagged_var v) { kind = kind }
    by_kind Continuous = refl
    by_kind Integer = refl
    by_kind Binary = refl

all_kinded : (vars : List Var) → map kinded vars ≡ map untagged_var vars
all_kinded [] = refl
all_kinded (v ∷ vars) = ap₂ (λ (v : Var) (vars : List Var). v ∷ vars) (kinded_is v) (all_kinded vars)

-- the symbols of a section
abbrev bounds_symbols : List Var → List Symbol
bounds_symbols vars = flat (section_entries Bounds (flat_map bound_entries vars))

abbrev kind_symbols : SectionWord → VarKind → List Var → List Symbol
kind_symbols word kind vars = flat (section_entries word (flat_map (kind_entries kind) vars))

abbrev end : List Symbol
end = keyword End ∷ []

abbrev sections_symbols : List Var → List Symbol
sections_symbols vars = bounds_symbols vars ++ (kind_symbols General Integer vars ++ (kind_symbols binary_word Binary vars ++ end))

sections_taken : (m : Model) → AreWritableVars m.vars →
    Takes Sections (sections_symbols m.vars) (told m.direction m.constant (map fresh m.vars) m.rows) end (untagged m)
unfolding kinded
sections_taken m good =
    let state : (Var → Var) → Model = λ change. told m.direction m.constant (map change m.vars) m.rows in
    let change : Var → Var = with_kind_of Integer bounded in
    let change_keeps : KeepsName change = kind_of_keeps Integer bounded (λ v. refl) in
    let with_bounds : GoesOn Sections (bounds_symbols m.vars) (state fresh) (state bounded) =
    section_goes_on Bounds (flat_map bound_entries m.vars) (state fresh) (state bounded)
    (λ e. ap (λ vars. told m.direction m.constant vars m.rows) (no_bounds m.vars good.each e))
    (λ rest spots. let all = bounds_taken m.direction m.constant m.rows m.vars good rest (past 1 spots) in (all.0, bounds all.1)) in
    let with_generals : GoesOn Sections (kind_symbols General Integer m.vars) (state bounded) (state change) =
    section_goes_on General (flat_map (kind_entries Integer) m.vars) (state bounded) (state change)
    (λ e. ap (λ vars. told m.direction m.constant vars m.rows) (no_kinds Integer bounded m.vars e))
    (λ rest spots. let all = kinds_taken Integer bounded (λ v. refl) m.direction m.constant m.rows m.vars good rest (past 1 spots) in (all.0, general all.1)) in
    let with_binaries : GoesOn Sections (kind_symbols binary_word Binary m.vars) (state change) (state kinded) =
    section_goes_on binary_word (flat_map (kind_entries Binary) m.vars) (state change) (state kinded)
    (λ e. ap (λ vars. told m.direction m.constant vars m.rows) (no_kinds Binary change m.vars e))
    (λ rest spots. let all = kinds_taken Binary change change_keeps m.direction m.constant m.rows m.vars good rest (past 1 spots) in (all.0, binary all.1)) in
    let is : state kinded ≡ untagged m = ap (λ vars. told m.direction m.constant vars m.rows) (all_kinded m.vars) in
    with_bounds _ end (untagged m) (with_generals _ end (untagged m) (with_binaries _ end (untagged m)
    (λ spots. (spots, subst (λ n. Sections (tokens spots end) n (tokens spots end) (untagged m)) (sym is) none))))

-- The whole

objective_word : (spots : ℕ → Spot) (direction : Direction) (rest : List Symbol) →
    ObjectiveWord (tokens spots (keyword (direction_word direction) ∷ rest)) direction (tokens (past 1 spots) rest)
objective_word spots Minimize rest = minimize
objective_word spots Maximize rest = maximize

abbrev rows_symbols : Model → List Symbol
rows_symbols m = flat (map (row_entry m.vars) m.rows) ++ sections_symbols m.vars

abbrev objective_symbols : Model → List Symbol
objective_symbols m = flat (objective_entries m) ++ (keyword Subject ∷ name (codes "To") ∷ rows_symbols m)

-- the symbols of a model in the order of its text
ordered : (m : Model) → List Symbol
ordered m = keyword (direction_word m.direction) ∷ objective_symbols m

in_order : (m : Model) → flat (canonical_entries m) ≡ ordered m
unfolding ordered
in_order m =
    let a : List (List Symbol) = (keyword (direction_word m.direction) ∷ []) ∷ flat (objective_entries m) ∷ (keyword Subject ∷ name (codes "To") ∷ []) ∷ [] in
    let r = map (row_entry m.vars) m.rows in
    let b = section_entries Bounds (flat_map bound_entries m.vars) in
    let g = section_entries General (flat_map (kind_entries Integer) m.vars) in
    let n = section_entries binary_word (flat_map (kind_entries Binary) m.vars) in
    let e : List (List Symbol) = end ∷ [] in
    sym (append-nil (flat (a ++ r ++ b ++ g ++ n ++ e)))
    ∙ (flat-append (a ++ r ++ b ++ g ++ n) e []
    ∙ (flat-append (a ++ r ++ b ++ g) n end
    ∙ (flat-append (a ++ r ++ b) g (flat n ++ end)
    ∙ (flat-append (a ++ r) b (flat g ++ (flat n ++ end))
    ∙ (flat-append a r (flat b ++ (flat g ++ (flat n ++ end)))
    ∙ ap (λ s. keyword (direction_word m.direction) ∷ s)
    (append_assoc (flat (objective_entries m)) (keyword Subject ∷ name (codes "To") ∷ []) (rows_symbols m)))))))

ordered_spelled : (spots : ℕ → Spot) (m : Model) → IsLawful m → HasKeptNumbers m → SpellsModel (tokens spots (ordered m)) (untagged m)
unfolding ordered
ordered_spelled spots m lawful kept =
    let good = writable_vars m lawful kept in
    let behind : List Symbol = keyword Subject ∷ name (codes "To") ∷ rows_symbols m in
    let objective = objective_taken m.direction m.constant m.vars behind good kept.constant (past 1 spots) in
    let rows = rows_taken m.direction m.constant m.vars m.rows good (writable_rows m lawful kept) (sections_symbols m.vars) (past 2 objective.0) in
    let sections = sections_taken m good rows.0 in
    record {
      direction = m.direction;
      behind_word = tokens (past 1 spots) (objective_symbols m);
      word = objective_word spots m.direction (objective_symbols m);
      with_objective = told m.direction m.constant (map fresh m.vars) [];
      behind_objective = tokens objective.0 behind;
      objective = record { title = None; behind_label = tokens (past 1 spots) (objective_symbols m); has_label = unlabelled; parts = objective.1 };
      behind_constraints = tokens (past 2 objective.0) (rows_symbols m);
      constraints = subject_to refl;
      rest = record {
        with_rows = told m.direction m.constant (map fresh m.vars) m.rows;
        behind_rows = tokens rows.0 (sections_symbols m.vars);
        rows = rows.1;
        spot = sections.0 0;
        sections = sections.1;
      };
    }

pub text_spelled : (m : Model) → IsLawful m → HasKeptNumbers m → Spells (canonical_text m) (untagged m)
unfolding Shown
text_spelled m lawful kept =
    let all = shown (canonical_text m) (flat (canonical_entries m)) (text_read m lawful kept) first_place in
    subst (λ xs. SpellsModel xs (untagged m)) (sym (all.1 ∙ ap (tokens all.0) (in_order m))) (ordered_spelled all.0 m lawful kept)
