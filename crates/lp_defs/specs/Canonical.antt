-- The canonical text of a model, by its lines. Tags are not in it.
use Rattle.std.specs.Prelude.{ℕ, Bool, true, false, ◌&&◌, List, [], ◌∷◌, ◌++◌, map, codes, ◌==◌, pos, Option, Some, None, slice_get, if◌then◌else◌}
use Rattle.std.specs.List.{flat_map}
use Rattle.std.specs.Option.{option_map_or}
use Rattle.std.specs.Ordering.{int_eq}
use Rattle.frac128.specs.Fraction.{Fraction}
use Rattle.frac128.specs.Numbers.{is_below_zero}
use Rattle.frac_text.specs.Writing.{canonical_text as number_text, size_text}
use Rattle.model_data.specs.declared.model.Direction.{Direction}
use Rattle.model_data.specs.declared.model.Direction.TheVariants.{Minimize, Maximize}
use Rattle.model_data.specs.declared.model.Model.{Model}
use Rattle.model_data.specs.declared.model.Row.{Row}
use Rattle.model_data.specs.declared.model.Sense.{Sense}
use Rattle.model_data.specs.declared.model.Sense.TheVariants.{Less, Greater, Equal}
use Rattle.model_data.specs.declared.model.Term.{Term}
use Rattle.model_data.specs.declared.model.Var.{Var}
use Rattle.model_data.specs.declared.model.VarKind.{VarKind}
use Rattle.model_data.specs.declared.model.VarKind.TheVariants.{Continuous, Integer, Binary}

-- Lines and words

abbrev pub space : ℕ
space = 32

abbrev pub line_feed : ℕ
line_feed = 10

-- a line's text with its end
abbrev pub line : List ℕ → List ℕ
line text = text ++ line_feed ∷ []

-- lines one behind the other, each with its end, the last one too
abbrev pub lines : List (List ℕ) → List ℕ
lines texts = flat_map line texts

-- a space before the word
abbrev pub spaced_word : List ℕ → List ℕ
spaced_word word = space ∷ word

-- a space before each of the words
abbrev pub spaced : List (List ℕ) → List ℕ
spaced words = flat_map spaced_word words

-- the words joined by single spaces
abbrev pub joined : List (List ℕ) → List ℕ
joined [] = []
joined (word ∷ words) = word ++ spaced words

-- Numbers

abbrev pub is_zero : Fraction → Bool
is_zero x = int_eq x.num (pos 0)

-- whether two fractions in lowest terms are equal
abbrev pub is_same : Fraction → Fraction → Bool
is_same x y = int_eq x.num y.num && (x.below == y.below)

-- 0 has a plus
abbrev pub sign_text : Fraction → List ℕ
sign_text x = if is_below_zero x.num then codes "-" else codes "+"

-- `+ k` or `- k`, with the size of the number behind its sign
abbrev pub signed_text : Fraction → List ℕ
signed_text x = sign_text x ++ spaced_word (size_text x)

-- The objective

abbrev pub direction_text : Direction → List ℕ
direction_text Minimize = codes "Minimize"
direction_text Maximize = codes "Maximize"

-- `+ c name` or `- c name`; a coefficient 0 is written too
abbrev pub term_text : Fraction → List ℕ → List ℕ
term_text coef name = signed_text coef ++ spaced_word name

-- the constant, where it isn't 0
abbrev pub constant_terms : Fraction → List (List ℕ)
constant_terms k = if is_zero k then [] else signed_text k ∷ []

-- one term for each variable in order, then the constant
abbrev pub objective_terms : Model → List (List ℕ)
objective_terms m = map (λ v. term_text v.obj v.name) m.vars ++ constant_terms m.constant

-- With nothing to say it is one space alone.
abbrev pub objective_line : Model → List ℕ
objective_line m = space ∷ joined (objective_terms m)

-- Rows

abbrev pub sense_text : Sense → List ℕ
sense_text Less = codes "<="
sense_text Greater = codes ">="
sense_text Equal = codes "="

-- the name of the variable at the place; each place in a lawful model has one
abbrev pub name_at : List Var → ℕ → List ℕ
name_at vars place = option_map_or (λ v. v.name) (slice_get vars place) []

abbrev pub row_terms : List Var → List Term → List (List ℕ)
row_terms vars terms = map (λ t. term_text t.coef (name_at vars t.var)) terms

-- `name: terms <= right side`. The right side is a number with its own sign.
abbrev pub row_line : List Var → Row → List ℕ
row_line vars r =
    space ∷ joined ((r.name ++ codes ":") ∷ (row_terms vars r.terms ++ sense_text r.sense ∷ number_text r.rhs ∷ []))

-- Bounds

-- What is written for a variable's own bounds, None being infinite: no line for 0 to infinity, else one line.
abbrev pub bounds_lines : List ℕ → Option Fraction → Option Fraction → List (List ℕ)
bounds_lines name None None = (codes " " ++ name ++ codes " free") ∷ []
bounds_lines name None (Some upper) = (codes " -infinity <= " ++ name ++ codes " <= " ++ number_text upper) ∷ []
bounds_lines name (Some lower) None = if is_zero lower then [] else (codes " " ++ name ++ codes " >= " ++ number_text lower) ∷ []
bounds_lines name (Some lower) (Some upper) =
    (if is_same lower upper then codes " " ++ name ++ codes " = " ++ number_text lower
    else codes " " ++ number_text lower ++ codes " <= " ++ name ++ codes " <= " ++ number_text upper) ∷ []

abbrev pub bounds_of : Var → List (List ℕ)
bounds_of v = bounds_lines v.name v.lower v.upper

-- Kinds

abbrev pub is_same_kind : VarKind → VarKind → Bool
is_same_kind Continuous Continuous = true
is_same_kind Integer Integer = true
is_same_kind Binary Binary = true
is_same_kind _ _ = false

-- a line with the variable's name, where the variable is of the kind
abbrev pub kind_lines : VarKind → Var → List (List ℕ)
kind_lines kind v = if is_same_kind v.kind kind then spaced_word v.name ∷ [] else []

-- The whole text

-- a heading and what stands under it, or nothing where nothing would stand under it
abbrev pub section : List ℕ → List (List ℕ) → List (List ℕ)
section heading [] = []
section heading (entry ∷ entries) = heading ∷ entry ∷ entries

abbrev pub canonical_lines : Model → List (List ℕ)
canonical_lines m =
    (direction_text m.direction ∷ objective_line m ∷ codes "Subject To" ∷ [])
    ++ map (row_line m.vars) m.rows
    ++ section (codes "Bounds") (flat_map bounds_of m.vars)
    ++ section (codes "Generals") (flat_map (kind_lines Integer) m.vars)
    ++ section (codes "Binaries") (flat_map (kind_lines Binary) m.vars)
    ++ codes "End" ∷ []

-- the one text that is written for a model
abbrev pub canonical_text : Model → List ℕ
canonical_text m = lines (canonical_lines m)

-- What the text tells

-- the variable without its tag
abbrev pub untagged_var : Var → Var
untagged_var v = record v { tag = None }

-- the model without its tags: all that its text tells of it
abbrev pub untagged : Model → Model
untagged m = record m { vars = map untagged_var m.vars }
