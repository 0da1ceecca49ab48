-- The two lines that tell a model's limits.
use Rattle.std.specs.Prelude.{ℕ, List, ◌++◌, codes, decimal, nat_le, if◌then◌else◌}
use Rattle.model_data.specs.declared.limits.TheConstants.{MAX_ITERATIONS, MAX_NODES}
use Rattle.model_data.specs.declared.model.Model.{Model}
use Rattle.limit_defs.specs.Limits.{has_open, iterations_of, nodes_of}

abbrev pub lines_of : (iterations nodes : List ℕ) → List ℕ
lines_of iterations nodes = codes "ITERATIONS " ++ (iterations ++ (codes "\nNODES " ++ (nodes ++ codes "\n")))

-- a limit, or that it is above the greatest one that a solve takes
abbrev pub limit_text : (most limit : ℕ) → List ℕ
limit_text most limit = if nat_le limit most then decimal limit else codes "OVER"

-- A model with an open variable has no limit on nodes, and so none on pivots.
unfoldable pub limits_text : Model → List ℕ
limits_text m =
    if has_open m then lines_of (codes "OPEN") (codes "OPEN")
    else lines_of (limit_text MAX_ITERATIONS (iterations_of m)) (limit_text MAX_NODES (nodes_of m))
