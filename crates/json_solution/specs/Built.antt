-- The value that is printed.
use Rattle.std.specs.Prelude.{ℕ, map, Option, Some, None, codes, option_map}
use Rattle.frac128.specs.Fraction.{Fraction}
use Rattle.frac128.specs.Text.{canonical_text}
use Rattle.serde_json.specs.Data.{Data, Members, string, array, object, number, unsigned, member, no_members, item, no_items}
use Rattle.serde_json.specs.View.{items_of}
use Rattle.model_data.specs.declared.model.Model.{Model}
use Rattle.model_data.specs.declared.solution.Outcome.{Outcome}
use Rattle.json_solution.specs.Solution.{Listed, listed}

abbrev pub var_data : Listed → Data
var_data p = object (member (codes "VTag") (array (item (string p.0) no_items)) (member (codes "X") (string (canonical_text p.1)) no_members))

abbrev pub count_data : ℕ → Data
count_data n = number (unsigned n)

-- the members behind the value, where so many points are kept
abbrev pub last_members : Outcome → ℕ → Members
last_members o kept = member (codes "SolCount") (count_data kept) (member (codes "Status") (count_data o.status) (member (codes "Work") (count_data o.work) no_members))

abbrev pub kept_members : Outcome → Option Fraction → Members
kept_members o None = last_members o 0
kept_members o (Some value) = member (codes "ObjVal") (string (canonical_text value)) (last_members o 1)

-- what is told of an outcome that keeps a point of this value, or none
abbrev pub info_with : Outcome → Option Fraction → Data
info_with o value = object (member (codes "IterCount") (count_data o.pivots) (member (codes "NodeCount") (count_data o.nodes) (kept_members o value)))

abbrev pub info_data : Outcome → Data
info_data o = info_with o (option_map (λ p. p.value) o.point)

abbrev pub solution_data : Model → Outcome → (detail : ℕ) → Data
solution_data m o detail = object (member (codes "SolutionInfo") (info_data o) (member (codes "Vars") (array (items_of (map var_data (listed detail m o.point)))) no_members))
