-- The text of a solution, byte by byte.
use Rattle.std.specs.Prelude.{ℕ, ◌==◌, ◌&&◌, ◌||◌, List, [], ◌∷◌, ◌++◌, map, flat_map, filter_map, zip, codes, decimal, All, IfSome, Option, Some, None, pos, if◌then◌else◌}
use Rattle.std.specs.Ordering.{int_eq}
use Rattle.frac128.specs.Fraction.{Fraction}
use Rattle.frac128.specs.Text.{canonical_text}
use Rattle.model_data.specs.Names.{IsTag}
use Rattle.model_data.specs.declared.model.Model.{Model}
use Rattle.model_data.specs.declared.model.Var.{Var}
use Rattle.model_data.specs.declared.solution.Outcome.{Outcome}
use Rattle.model_data.specs.declared.solution.Point.{Point}

-- each tag of the model is one
abbrev pub HasTags : Model → Type 0
HasTags m = All (λ v. IfSome v.tag IsTag) m.vars

-- ---- texts

-- In quotes a quotation mark and a backslash stand with a backslash in front.
abbrev pub escaped_byte : ℕ → List ℕ
escaped_byte byte = if (byte == 34) || (byte == 92) then 92 ∷ byte ∷ [] else byte ∷ []

abbrev pub in_quotes : List ℕ → List ℕ
in_quotes text = 34 ∷ (flat_map escaped_byte text ++ 34 ∷ [])

-- the parts, with a comma between any two
abbrev pub with_commas : List (List ℕ) → List ℕ
with_commas [] = []
with_commas (part ∷ []) = part
with_commas (part ∷ next ∷ parts) = part ++ 44 ∷ with_commas (next ∷ parts)

-- ---- the variables

-- the tag of a variable, and its value
abbrev pub Listed : Type 0
Listed = List ℕ × Fraction

abbrev pub listed_tag : (detail : ℕ) → Fraction → Option (List ℕ) → Option Listed
listed_tag detail x None = None
listed_tag detail x (Some tag) = if (detail == 0) && int_eq x.num (pos 0) then None else Some (tag, x)

-- A tagged variable is listed where its value isn't 0, and with detail also where it is.
abbrev pub listed_var : (detail : ℕ) → Var × Fraction → Option Listed
listed_var detail p = listed_tag detail p.1 p.0.tag

-- In the order of the variables. One for which the point has no value isn't listed.
abbrev pub listed : (detail : ℕ) → Model → Option Point → List Listed
listed detail m None = []
listed detail m (Some point) = filter_map (listed_var detail) (zip m.vars point.xs)

abbrev pub var_text : Listed → List ℕ
var_text (tag, x) = codes "{\"VTag\":[" ++ (in_quotes tag ++ (codes "],\"X\":\"" ++ (canonical_text x ++ codes "\"}")))

-- ---- the outcome

-- the value of the point that is kept, and how many points are kept
abbrev pub kept_text : Option Point → List ℕ
kept_text None = codes ",\"SolCount\":0"
kept_text (Some point) = codes ",\"ObjVal\":\"" ++ (canonical_text point.value ++ codes "\",\"SolCount\":1")

abbrev pub info_text : Outcome → List ℕ
info_text o = codes "{\"IterCount\":" ++ (decimal o.pivots ++ (codes ",\"NodeCount\":" ++ (decimal o.nodes
    ++ (kept_text o.point ++ (codes ",\"Status\":" ++ (decimal o.status ++ (codes ",\"Work\":" ++ (decimal o.work ++ codes "}"))))))))

abbrev pub solution_text : Model → Outcome → (detail : ℕ) → List ℕ
solution_text m o detail =
    codes "{\"SolutionInfo\":" ++ (info_text o ++ (codes ",\"Vars\":[" ++ (with_commas (map var_text (listed detail m o.point)) ++ codes "]}")))
