-- The symbols of a written model, line by line.
use Rattle.std.proofs.Common.{ℕ, true, false, List, [], ◌∷◌, ◌++◌, map, codes, Option, Some, None}
use Rattle.std.specs.List.{flat_map}
use Rattle.std.specs.Prelude.{if◌then◌else◌}
use Rattle.frac128.specs.Fraction.{Fraction}
use Rattle.frac128.specs.Numbers.{is_below_zero}
use Rattle.model_data.specs.declared.model.Direction.{Direction}
use Rattle.model_data.specs.declared.model.Direction.TheVariants.{Minimize, Maximize}
use Rattle.model_data.specs.declared.model.Model.{Model}
use Rattle.model_data.specs.declared.model.Row.{Row}
use Rattle.model_data.specs.declared.model.Sense.TheVariants.{Less, Greater, Equal}
use Rattle.model_data.specs.declared.model.Term.{Term}
use Rattle.model_data.specs.declared.model.Var.{Var}
use Rattle.model_data.specs.declared.model.VarKind.{VarKind}
use Rattle.model_data.specs.declared.model.VarKind.TheVariants.{Integer, Binary}
use Rattle.lp_defs.specs.declared.token.SectionWord.{SectionWord}
use Rattle.lp_defs.specs.declared.token.SectionWord.TheVariants.{Binary as binary_word, Bounds, End, Free, General, Maximize as maximize_word, Minimize as minimize_word, Subject}
use Rattle.lp_defs.specs.Canonical.{is_same, is_same_kind, is_zero, name_at}
use Rattle.lp_defs.specs.Symbols.{Symbol, sign, comparison, number, keyword, label, name, finite, infinite}
use Rattle.lp_defs.proofs.Takes.{flat}
use Rattle.lp_defs.proofs.WrittenNumbers.{size_of}

abbrev pub signed_symbols : Fraction → List Symbol
signed_symbols x = sign (is_below_zero x.num) ∷ number false (finite (size_of x)) ∷ []

abbrev pub term_symbols : Fraction → List ℕ → List Symbol
term_symbols x text = sign (is_below_zero x.num) ∷ number false (finite (size_of x)) ∷ name text ∷ []

abbrev pub number_symbol : Fraction → Symbol
number_symbol x = number (is_below_zero x.num) (finite x)

abbrev pub constant_entries : Fraction → List (List Symbol)
constant_entries k = if is_zero k then [] else signed_symbols k ∷ []

abbrev pub objective_entries : Model → List (List Symbol)
objective_entries m = map (λ v. term_symbols v.obj v.name) m.vars ++ constant_entries m.constant

abbrev pub term_entries : List Var → List Term → List (List Symbol)
term_entries vars terms = map (λ t. term_symbols t.coef (name_at vars t.var)) terms

abbrev pub row_entry : List Var → Row → List Symbol
row_entry vars r = label r.name ∷ flat (term_entries vars r.terms ++ (comparison r.sense ∷ []) ∷ (number_symbol r.rhs ∷ []) ∷ [])

abbrev pub bound_entries_of : List ℕ → Option Fraction → Option Fraction → List (List Symbol)
bound_entries_of text None None = (name text ∷ keyword Free ∷ []) ∷ []
bound_entries_of text None (Some upper) =
    (number true (infinite true) ∷ comparison Less ∷ name text ∷ comparison Less ∷ number_symbol upper ∷ []) ∷ []
bound_entries_of text (Some lower) None = if is_zero lower then [] else (name text ∷ comparison Greater ∷ number_symbol lower ∷ []) ∷ []
bound_entries_of text (Some lower) (Some upper) =
    (if is_same lower upper then name text ∷ comparison Equal ∷ number_symbol lower ∷ []
    else number_symbol lower ∷ comparison Less ∷ name text ∷ comparison Less ∷ number_symbol upper ∷ []) ∷ []

abbrev pub bound_entries : Var → List (List Symbol)
bound_entries v = bound_entries_of v.name v.lower v.upper

abbrev pub kind_entries : VarKind → Var → List (List Symbol)
kind_entries kind v = if is_same_kind v.kind kind then (name v.name ∷ []) ∷ [] else []

abbrev pub section_entries : SectionWord → List (List Symbol) → List (List Symbol)
section_entries word [] = []
section_entries word (entry ∷ entries) = (keyword word ∷ []) ∷ entry ∷ entries

abbrev pub direction_word : Direction → SectionWord
direction_word Minimize = minimize_word
direction_word Maximize = maximize_word

abbrev pub canonical_entries : Model → List (List Symbol)
canonical_entries m =
    ((keyword (direction_word m.direction) ∷ []) ∷ flat (objective_entries m) ∷ (keyword Subject ∷ name (codes "To") ∷ []) ∷ [])
    ++ map (row_entry m.vars) m.rows
    ++ section_entries Bounds (flat_map bound_entries m.vars)
    ++ section_entries General (flat_map (kind_entries Integer) m.vars)
    ++ section_entries binary_word (flat_map (kind_entries Binary) m.vars)
    ++ (keyword End ∷ []) ∷ []
