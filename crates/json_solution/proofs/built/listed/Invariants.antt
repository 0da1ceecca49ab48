use Rattle.std.proofs.Common.{◌≡◌, map, take}
use Rattle.std.specs.Prelude.{zip}
use Rattle.std.specs.List.{filter_map}
use Rattle.serde_json.specs.View.{view}
use Rattle.json_solution.specs.Solution.{listed_var}
use Rattle.json_solution.specs.Built.{var_data}
use Rattle.json_solution.proofs.built.listed.Given as goal

abbrev pub invariant-loop-place : goal.invariant-loop-place
invariant-loop-place l = map view l.list.items ≡ map var_data (filter_map (listed_var l.detail) (take l.place (zip l.vars l.xs)))
