-- The parameters by name: their ranges, and what a setting leaves.
use Rattle.std.specs.Prelude.{ℕ, ◌&&◌, List, bytes_eq, codes, ℤ, pos, neg_ℤ, int_le, unsigned_abs, Option, Some, None, Result, Ok, Err, if◌then◌else◌}
use Rattle.base_names.specs.declared.refusal.Refusal.{Refusal}
use Rattle.base_names.specs.declared.refusal.Refusal.TheVariants.{PARAM, RANGE}
use Rattle.model_data.specs.declared.limits.TheConstants.{MAX_DETAIL, MAX_ITERATIONS, MAX_NODES, MAX_PRIORITY, MAX_WORK}
use Rattle.model_data.specs.declared.params.Params.{Params}
use Rattle.model_core.specs.declared.parameters.Parameter.{Parameter}
use Rattle.model_core.specs.declared.parameters.Parameter.TheVariants.{IterationLimit, NodeLimit, WorkLimit, CSPriority, JSONSolDetail}

-- Names are compared byte by byte.
abbrev pub parameter_of : List ℕ → Option Parameter
parameter_of name =
    if bytes_eq name (codes "IterationLimit") then Some IterationLimit
    else (if bytes_eq name (codes "NodeLimit") then Some NodeLimit
    else (if bytes_eq name (codes "WorkLimit") then Some WorkLimit
    else (if bytes_eq name (codes "CSPriority") then Some CSPriority
    else (if bytes_eq name (codes "JSONSolDetail") then Some JSONSolDetail
    else None))))

abbrev pub least : Parameter → ℤ
least IterationLimit = pos 0
least NodeLimit = pos 0
least WorkLimit = pos 0
least CSPriority = neg_ℤ MAX_PRIORITY
least JSONSolDetail = pos 0

abbrev pub greatest : Parameter → ℤ
greatest IterationLimit = pos MAX_ITERATIONS
greatest NodeLimit = pos MAX_NODES
greatest WorkLimit = pos MAX_WORK
greatest CSPriority = MAX_PRIORITY
greatest JSONSolDetail = pos MAX_DETAIL

abbrev pub value_of : Parameter → Params → ℤ
value_of IterationLimit p = pos p.iterations
value_of NodeLimit p = pos p.nodes
value_of WorkLimit p = pos p.work
value_of CSPriority p = p.priority
value_of JSONSolDetail p = pos p.detail

abbrev pub with_value : Parameter → ℤ → Params → Params
with_value IterationLimit x p = record p { iterations = unsigned_abs x }
with_value NodeLimit x p = record p { nodes = unsigned_abs x }
with_value WorkLimit x p = record p { work = unsigned_abs x }
with_value CSPriority x p = record p { priority = x }
with_value JSONSolDetail x p = record p { detail = unsigned_abs x }

abbrev pub get_of : List ℕ → Params → Result ℤ Refusal
get_of name p = elim (parameter_of name) [ None ↦ Err PARAM | Some parameter ↦ Ok (value_of parameter p) ]

-- An unknown name is refused before a value outside the range.
abbrev pub set_of : List ℕ → ℤ → Params → Result Params Refusal
set_of name x p =
    elim (parameter_of name) [
      | None ↦ Err PARAM
      | Some parameter ↦
          if (int_le (least parameter) x && int_le x (greatest parameter)) then Ok (with_value parameter x p) else Err RANGE
    ]
